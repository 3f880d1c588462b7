-- Which value is read behind a code: one of the kind that the code stands for.
use Rattle.std.proofs.Common.{◌≡◌, ℕ, ◌+◌, ◌/◌, Bool, true, false, cond, eqb, not, is_some, ◌&&◌, List, [], ◌∷◌, length, Option, Some, None, Result, Ok, Err, refl}
use Rattle.amqp_types.specs.declared.code.Constructor.{Constructor}
use Rattle.amqp_types.specs.declared.code.Constructor.TheVariants.{Fixed, Variable, EmptyList, ListIn, MapIn, ArrayIn}
use Rattle.amqp_types.specs.declared.fault.ReadFault.{ReadFault}
use Rattle.amqp_types.specs.declared.fault.ReadFault.TheVariants.{TooDeep}
use Rattle.amqp_types.specs.declared.window.Window.{Window}
use Rattle.amqp_types.specs.Kinds.{is_container}
use Rattle.amqp_types.specs.Codes.{find_code, kind_of}
use Rattle.amqp_types.specs.Spelling.{size_len}
use Rattle.amqp_types.specs.Trees.{Tree, Number, Octets, ListOf, MapOf, ArrayOf, Described, none, IsOfKind}
use Rattle.amqp_types.specs.InHand.{Budget, place}
use Rattle.amqp_types.specs.Reading.{Part, Level, ◌>>=◌, allowed, charge, ended, number_at, sized_at, block_at, count_at, trees_at, pairs_at, head_at, list_at, map_at, array_at}
use Rattle.amqp_types.specs.Reading.{item_by, described_at, value_by}

-- what is read, if anything, is such a value
abbrev pub Yields : (Tree → Type 0) → Part Tree → Type 0
Yields P (Ok x) = P x.0
Yields P (Err e) = Unit {0}

module _ (P : Tree → Type 0) where
  then_yields : {A : Type 0} (read : Result A ReadFault) (f : A → Part Tree) → ((x : A) → Yields P (f x)) → Yields P (read >>= f)
  then_yields (Ok x) f h = h x
  then_yields (Err e) f h = tt

  ended_yields : (w : Window) (bytes : List ℕ) (x : Tree × Budget × List ℕ) → P x.0 → Yields P (ended w bytes x)
  ended_yields w [] x h = h
  ended_yields w (b ∷ bytes) x h = tt

  item_yields : (inner : Option Level) (c : Constructor) (w : Window) (bytes : List ℕ) → ((t : Tree) → IsOfKind (kind_of c) t → P t) → Yields P (item_by inner c w None bytes)
  unfolding item_by list_at map_at array_at
  item_yields inner (Fixed k f) w bytes h = then_yields (number_at w k f bytes) _ (λ x. h (Number k x.0) refl)
  item_yields inner (Variable k s) w bytes h = then_yields (sized_at w k s bytes) _ (λ x. h (Octets k x.0) refl)
  item_yields inner EmptyList w bytes h = h (ListOf none) refl
  item_yields None (ListIn s) w bytes h = tt
  item_yields None (MapIn s) w bytes h = tt
  item_yields None (ArrayIn s) w bytes h = tt
  item_yields (Some level) (ListIn s) w bytes h =
      then_yields (block_at w s (size_len s) bytes) _ (λ block. then_yields (count_at block.within s false block.body) _ (λ count.
      then_yields (trees_at (λ within. level.value within 0) count.0 block.within None count.1) _ (λ items.
      ended_yields block.within items.2 (ListOf items.0, items.1, block.behind) (h (ListOf items.0) refl))))
  item_yields (Some level) (MapIn s) w bytes h =
      then_yields (block_at w s (size_len s) bytes) _ (λ block. then_yields (count_at block.within s true block.body) _ (λ count.
      then_yields (pairs_at level none (count.0 / 2) block.within None count.1) _ (λ entries.
      ended_yields block.within entries.2 (MapOf entries.0, entries.1, block.behind) (h (MapOf entries.0) refl))))
  item_yields (Some level) (ArrayIn s) w bytes h =
      then_yields (block_at w s (size_len s + 1) bytes) _ (λ block. then_yields (count_at block.within s false block.body) _ (λ count.
      then_yields (head_at (length count.1) level block.within None count.1) _ (λ head.
      then_yields (trees_at (level.item head.0.constructor) count.0 block.within None head.2) _ (λ items.
      ended_yields block.within items.2 (ArrayOf head.0.descriptors (kind_of head.0.constructor) items.0, items.1, block.behind) (h
      (ArrayOf head.0.descriptors (kind_of head.0.constructor) items.0) refl)))))

  described_yields : (inner : Option Level) (at : ℕ) (w : Window) (due : ℕ) (bytes : List ℕ) → ((d t : Tree) → P (Described d t)) → Yields P (described_at inner at w due None bytes)
  unfolding described_at
  described_yields None at w due bytes h = tt
  described_yields (Some level) at w due bytes h = then_yields (level.value w 0 None bytes) _ (λ d. then_yields (level.value w 0 None d.2) _ (λ t. h d.0 t.0))

  allowed_yields : (at : ℕ) (holds : Bool) (o : Option Constructor) (f : Constructor → Part Tree) → ((c : Constructor) → o ≡ Some c → Yields P (f c)) → Yields P (allowed at holds o >>= f)
  allowed_yields at holds None f h = tt
  allowed_yields at holds (Some c) f h = tested (is_container (kind_of c) && not holds)
    where
      tested : (b : Bool) → Yields P (cond b (Err (TooDeep at)) (Ok c) >>= f)
      tested true = tt
      tested false = h c refl

  pub value_yields : (inner : Option Level) (w : Window) (due code : ℕ) (rest : List ℕ) → ((d t : Tree) → P (Described d t))
      → ((c : Constructor) → find_code code ≡ Some c → (t : Tree) → IsOfKind (kind_of c) t → P t) → Yields P (value_by inner w due None (code ∷ rest))
  unfolding value_by
  value_yields inner w due code rest described h = tested (eqb code 0)
    where
      tested : (b : Bool) →
          Yields P (cond b (described_at inner (place w (code ∷ rest)) w due None rest) (allowed (place w (code ∷ rest)) (is_some inner) (find_code code) >>= λ c. charge None due
          (place w (code ∷ rest)) >>= λ left. item_by inner c w left rest))
      tested true = described_yields inner (place w (code ∷ rest)) w due rest described
      tested false = allowed_yields (place w (code ∷ rest)) (is_some inner) (find_code code) _ (λ c found. item_yields inner c w rest (h c found))
