-- Skipping goes along with reading, step by step.
use Rattle.std.proofs.Common.{◌≡◌, ℕ, zero, suc, ◌+◌, ◌-◌, ◌*◌, ◌/◌, ◌%◌, ◌<◌, ◌≤◌, Bool, true, false, cond, eqb, ◌&&◌, List, [], ◌∷◌, length, Option, None, Result, Ok, Err, refl, sym, ap, subst, ◌∙◌}
use Rattle.std.proofs.Common.{arith}
use Rattle.std.proofs.lemmas.Bool.{eq-eqb, ne_eqb, eqb-true, eqb-false}
use Rattle.amqp_types.specs.declared.kind.Kind.{Kind}
use Rattle.amqp_types.specs.declared.kind.Kind.TheVariants as kind
use Rattle.amqp_types.specs.declared.code.Form.{Form}
use Rattle.amqp_types.specs.declared.code.Form.TheVariants as form
use Rattle.amqp_types.specs.declared.code.Constructor.{Constructor}
use Rattle.amqp_types.specs.declared.code.Constructor.TheVariants.{Fixed, Variable, EmptyList, ListIn, MapIn, ArrayIn}
use Rattle.amqp_types.specs.declared.fault.ReadFault.{ReadFault}
use Rattle.amqp_types.specs.declared.window.Window.{Window}
use Rattle.amqp_types.specs.Codes.{find_code, kind_of}
use Rattle.amqp_types.specs.Kinds.{width}
use Rattle.amqp_types.specs.Trees.{Tree, Number, MapOf, ArrayOf, Trees, none, more, pair}
use Rattle.amqp_types.specs.Spelling.{form_len}
use Rattle.amqp_types.specs.InHand.{Budget, place}
use Rattle.amqp_types.specs.Reading.{Read, Part, Level, Head, ◌>>=◌, after, allowed, octets_at, number_at, form_at, uncharged, trees_at, pairs_at, head_at, item_by, with_descriptor}
use Rattle.amqp_types.specs.Reading.{Block, block_at, count_at, big_at, ended, map_at, array_at}
use Rattle.amqp_types.specs.declared.code.SizeWidth.{SizeWidth}
use Rattle.amqp_types.specs.Spelling.{size_len}
use Rattle.amqp_types.specs.Skipping.{constructor_after, rest_of, is_still}
use Rattle.amqp_types.proofs.Skips.{rest_of_number, nothing_taken}

-- what a step leaves is what the reading before it does
pub after_step : {A B : Type 0} (read : Part A) (f : A × Budget × List ℕ → B) (g : A × Budget × List ℕ → Budget) → after (read >>= λ x. Ok (f x, g x, x.2)) ≡ after read
after_step (Ok x) f g = refl
after_step (Err e) f g = refl

-- ---- as many values as a count says

module _ (one : Window → Budget → List ℕ → Part Tree) (w : Window) where
  pub first_ok : (read : Part Tree) (n : ℕ) (rest : List ℕ) → after read ≡ Ok rest
      → after (read >>= λ first. trees_at one n w None first.2 >>= λ others. Ok (more first.0 others.0, others.1, others.2)) ≡ after (trees_at one n w None rest)
  first_ok (Ok x) n rest e = after_step (trees_at one n w None x.2) (λ others. more x.0 others.0) (λ others. others.1) ∙ ap (λ (r : List ℕ). after (trees_at one n w None r)) (same x.2 rest e)
    where
      same : (a b : List ℕ) → ◌≡◌ {A = Result (List ℕ) ReadFault} (Ok a) (Ok b) → a ≡ b
      same a b h = cc
  first_ok (Err d) n rest e = absurd cc

  first_err : (read : Part Tree) (n : ℕ) (d : ReadFault) → after read ≡ Err d
      → after (read >>= λ first. trees_at one n w None first.2 >>= λ others. Ok (more first.0 others.0, others.1, others.2)) ≡ Err d
  first_err (Ok x) n d e = absurd cc
  first_err (Err b) n d e = e

  pub goes_on : (count i : ℕ) (bytes rest : List ℕ) (total : Result (List ℕ) ReadFault) → i < count → after (one w None bytes) ≡ Ok rest
      → after (trees_at one (count - i) w None bytes) ≡ total → after (trees_at one (count - (i + 1)) w None rest) ≡ total
  unfolding trees_at
  goes_on count i bytes rest total lt h so_far =
      let k : count - i ≡ suc (count - (i + 1)) = omega arith in
      sym (first_ok (one w None bytes) (count - (i + 1)) rest h) ∙ subst (λ (n : ℕ). after (trees_at one n w None bytes) ≡ total) k so_far

  pub ends : (count i : ℕ) (bytes : List ℕ) (d : ReadFault) (total : Result (List ℕ) ReadFault) → i < count → after (one w None bytes) ≡ Err d
      → after (trees_at one (count - i) w None bytes) ≡ total → total ≡ Err d
  unfolding trees_at
  ends count i bytes d total lt h so_far =
      let k : count - i ≡ suc (count - (i + 1)) = omega arith in
      sym (subst (λ (n : ℕ). after (trees_at one n w None bytes) ≡ total) k so_far) ∙ first_err (one w None bytes) (count - (i + 1)) d h

  pub is_done : (count i : ℕ) (bytes : List ℕ) (total : Result (List ℕ) ReadFault) → count ≤ i
      → after (trees_at one (count - i) w None bytes) ≡ total → total ≡ Ok bytes
  unfolding trees_at
  is_done count i bytes total le so_far =
      let k : count - i ≡ 0 = omega arith in
      sym (subst (λ (n : ℕ). after (trees_at one n w None bytes) ≡ total) k so_far)

  -- what takes no bytes takes none however often it comes
  pub stays : (n : ℕ) (bytes : List ℕ) → after (one w None bytes) ≡ Ok bytes → after (trees_at one n w None bytes) ≡ Ok bytes
  unfolding trees_at
  stays zero bytes h = refl
  stays (suc n) bytes h = first_ok (one w None bytes) n bytes h ∙ stays n bytes h

-- ---- items without data

no_octets : (w : Window) (n : ℕ) (bytes : List ℕ) → n ≡ 0 → rest_of (octets_at w n bytes) ≡ Ok bytes
no_octets w n bytes e = subst (λ (k : ℕ). rest_of (octets_at w k bytes) ≡ Ok bytes) (sym e) (nothing_taken w bytes)

-- the same of one that charges nothing
pub uncharged_rest : {A : Type 0} (read : Read A) (tree : A → Tree) → after (uncharged None read tree) ≡ rest_of read
uncharged_rest (Ok x) tree = refl
uncharged_rest (Err e) tree = refl

-- a number of no width leaves all bytes
pub still_number : (w : Window) (k : Kind) (f : Form) (bytes : List ℕ) → form_len f (width k) ≡ 0 → rest_of (number_at w k f bytes) ≡ Ok bytes
unfolding number_at form_at
still_number w kind.Boolean form.Zero bytes e = refl
still_number w kind.Boolean form.One bytes e = refl
still_number w kind.Boolean form.OneByte bytes e = absurd (omega arith)
still_number w kind.Boolean form.OneSigned bytes e = absurd (omega arith)
still_number w kind.Boolean form.Full bytes e = absurd (omega arith)
still_number w kind.Char form.Zero bytes e = refl
still_number w kind.Char form.One bytes e = refl
still_number w kind.Char form.OneByte bytes e = absurd (omega arith)
still_number w kind.Char form.OneSigned bytes e = absurd (omega arith)
still_number w kind.Char form.Full bytes e = absurd (omega arith)
still_number w k f bytes e = rest_of_number w k f bytes refl ∙ no_octets w (form_len f (width k)) bytes e

-- so does an item without data
pub still_item : (inner : Option Level) (c : Constructor) (w : Window) (bytes : List ℕ) → is_still c ≡ true → after (item_by inner c w None bytes) ≡ Ok bytes
unfolding item_by
still_item inner (Fixed k f) w bytes e = uncharged_rest (number_at w k f bytes) (Number k) ∙ still_number w k f bytes (eqb-true _ _ e)
still_item inner (Variable k s) w bytes e = absurd cc
still_item inner EmptyList w bytes e = refl
still_item inner (ListIn s) w bytes e = absurd cc
still_item inner (MapIn s) w bytes e = absurd cc
still_item inner (ArrayIn s) w bytes e = absurd cc

-- ---- keys and values in turn are as many values

abbrev double : ℕ → ℕ
double zero = zero
double (suc n) = suc (suc (double n))

double-is : (n : ℕ) → double n ≡ 2 * n
double-is zero = refl
double-is (suc n) = let h = double-is n in omega arith

module _ (level : Level) (w : Window) where
  value_then : (seen : Trees) (n : ℕ) (key : Tree × Budget × List ℕ) (read : Part Tree)
      → ((seen : Trees) (bytes : List ℕ) → after (pairs_at level seen n w None bytes) ≡ after (trees_at (λ within. level.value within 0) (double n) w None bytes))
      → after (read >>= λ value. pairs_at level (more key.0 seen) n w None value.2 >>= λ others. Ok (pair key.0 value.0 others.0, others.1, others.2))
      ≡ after (read >>= λ first. trees_at (λ within. level.value within 0) (double n) w None first.2 >>= λ others. Ok (more first.0 others.0, others.1, others.2))
  value_then seen n key (Ok x) rest =
      after_step (pairs_at level (more key.0 seen) n w None x.2) (λ others. pair key.0 x.0 others.0) (λ others. others.1) ∙ rest (more key.0 seen) x.2
      ∙ sym (after_step (trees_at (λ within. level.value within 0) (double n) w None x.2) (λ others. more x.0 others.0) (λ others. others.1))
  value_then seen n key (Err e) rest = refl

  key_then : (seen : Trees) (n : ℕ) (read : Part Tree)
      → ((seen : Trees) (bytes : List ℕ) → after (pairs_at level seen n w None bytes) ≡ after (trees_at (λ within. level.value within 0) (double n) w None bytes))
      → after (read >>= λ key. level.value w 0 None key.2 >>= λ value. pairs_at level (more key.0 seen) n w None value.2 >>= λ others. Ok (pair key.0 value.0 others.0, others.1, others.2))
      ≡ after (read >>= λ first. trees_at (λ within. level.value within 0) (suc (double n)) w None first.2 >>= λ others. Ok (more first.0 others.0, others.1, others.2))
  unfolding trees_at
  key_then seen n (Ok x) rest =
      value_then seen n x (level.value w 0 None x.2) rest
      ∙ sym (after_step (trees_at (λ within. level.value within 0) (suc (double n)) w None x.2) (λ others. more x.0 others.0) (λ others. others.1))
  key_then seen n (Err e) rest = refl

  pairs_as_trees : (n : ℕ) (seen : Trees) (bytes : List ℕ) → after (pairs_at level seen n w None bytes) ≡ after (trees_at (λ within. level.value within 0) (double n) w None bytes)
  unfolding pairs_at trees_at
  pairs_as_trees zero seen bytes = refl
  pairs_as_trees (suc n) seen bytes = key_then seen n (level.value w 0 None bytes) (pairs_as_trees n)

not_odd : (b : Bool) (count : ℕ) → b ≡ eqb (count % 2) 1 → b ≡ false → 2 * (count / 2) ≡ count
not_odd b count is e = let h = eqb-false (count % 2) 1 (sym is ∙ e) in omega arith

-- a map is passed as twice as many values
pub entries_as_values : (level : Level) (w : Window) (count : ℕ) (seen : Trees) (bytes : List ℕ) → 2 * (count / 2) ≡ count
    → after (pairs_at level seen (count / 2) w None bytes) ≡ after (trees_at (λ within. level.value within 0) count w None bytes)
entries_as_values level w count seen bytes even =
    pairs_as_trees level w (count / 2) seen bytes
    ∙ ap (λ (n : ℕ). after (trees_at (λ within. level.value within 0) n w None bytes)) (double-is (count / 2) ∙ even)

-- ---- an array's element constructor

module _ (level : Level) (w : Window) where
  pub head_nil : (fuel : ℕ) → constructor_after (head_at fuel level w None []) ≡ Err w.short
  unfolding head_at
  head_nil zero = refl
  head_nil (suc fuel) = refl

  pub head_out : (fuel : ℕ) (bytes : List ℕ) → fuel ≡ 0 → constructor_after (head_at fuel level w None bytes) ≡ Err w.short
  unfolding head_at
  head_out zero [] e = refl
  head_out zero (code ∷ rest) e = refl
  head_out (suc fuel) bytes e = absurd (omega arith)

  element : (read : Result Constructor ReadFault) (rest : List ℕ)
      → constructor_after (read >>= λ c. Ok (record { descriptors = none; constructor = c }, None, rest)) ≡ (read >>= λ c. Ok (c, rest))
  element (Ok c) rest = refl
  element (Err e) rest = refl

  pub head_code : (count i code : ℕ) (rest : List ℕ) (total : Read Constructor) → i < count → (code ≡ 0 → ⊥)
      → constructor_after (head_at (count - i) level w None (code ∷ rest)) ≡ total
      → total ≡ (allowed (place w (code ∷ rest)) level.holds (find_code code) >>= λ c. Ok (c, rest))
  unfolding head_at
  head_code count i code rest total lt ne so_far =
      let k : count - i ≡ suc (count - (i + 1)) = omega arith in
      let step : constructor_after (head_at (suc (count - (i + 1))) level w None (code ∷ rest)) ≡ (allowed (place w (code ∷ rest)) level.holds (find_code code) >>= λ c. Ok (c, rest)) =
      rw (ne_eqb code 0 ne) (element (allowed (place w (code ∷ rest)) level.holds (find_code code)) rest) in
      sym (subst (λ (n : ℕ). constructor_after (head_at n level w None (code ∷ rest)) ≡ total) k so_far) ∙ step

  joined : (d : Tree) (read : Part Head) → constructor_after (read >>= λ head. Ok (with_descriptor d head.0, head.1, head.2)) ≡ constructor_after read
  joined d (Ok x) = refl
  joined d (Err e) = refl

  one_more : (fuel : ℕ) (read : Part Tree) (rest : List ℕ) → after read ≡ Ok rest
      → constructor_after (read >>= λ d. head_at fuel level w None d.2 >>= λ head. Ok (with_descriptor d.0 head.0, head.1, head.2)) ≡ constructor_after (head_at fuel level w None rest)
  one_more fuel (Ok x) rest e = joined x.0 (head_at fuel level w None x.2) ∙ ap (λ (r : List ℕ). constructor_after (head_at fuel level w None r)) (same x.2 rest e)
    where
      same : (a b : List ℕ) → ◌≡◌ {A = Result (List ℕ) ReadFault} (Ok a) (Ok b) → a ≡ b
      same a b h = cc
  one_more fuel (Err d) rest e = absurd cc

  one_err : (fuel : ℕ) (read : Part Tree) (d : ReadFault) → after read ≡ Err d
      → constructor_after (read >>= λ d. head_at fuel level w None d.2 >>= λ head. Ok (with_descriptor d.0 head.0, head.1, head.2)) ≡ Err d
  one_err fuel (Ok x) d e = absurd cc
  one_err fuel (Err b) d e = failed b d e
    where
      failed : (b d : ReadFault) → ◌≡◌ {A = Result (List ℕ) ReadFault} (Err b) (Err d) → ◌≡◌ {A = Read Constructor} (Err b) (Err d)
      failed b d h = cc

  pub head_more : (count i code : ℕ) (bytes rest : List ℕ) (total : Read Constructor) → i < count → code ≡ 0 → after (level.value w 0 None bytes) ≡ Ok rest
      → constructor_after (head_at (count - i) level w None (code ∷ bytes)) ≡ total
      → constructor_after (head_at (count - (i + 1)) level w None rest) ≡ total
  unfolding head_at
  head_more count i code bytes rest total lt zero_is h so_far =
      let k : count - i ≡ suc (count - (i + 1)) = omega arith in
      let step : constructor_after (head_at (suc (count - (i + 1))) level w None (code ∷ bytes)) ≡ constructor_after (head_at (count - (i + 1)) level w None rest) =
      rw (eq-eqb code 0 zero_is) (one_more (count - (i + 1)) (level.value w 0 None bytes) rest h) in
      sym step ∙ subst (λ (n : ℕ). constructor_after (head_at n level w None (code ∷ bytes)) ≡ total) k so_far

  pub head_err : (count i code : ℕ) (bytes : List ℕ) (d : ReadFault) (total : Read Constructor) → i < count → code ≡ 0 → after (level.value w 0 None bytes) ≡ Err d
      → constructor_after (head_at (count - i) level w None (code ∷ bytes)) ≡ total
      → total ≡ Err d
  unfolding head_at
  head_err count i code bytes d total lt zero_is h so_far =
      let k : count - i ≡ suc (count - (i + 1)) = omega arith in
      let step : constructor_after (head_at (suc (count - (i + 1))) level w None (code ∷ bytes)) ≡ Err d =
      rw (eq-eqb code 0 zero_is) (one_err (count - (i + 1)) (level.value w 0 None bytes) d h) in
      sym (subst (λ (n : ℕ). constructor_after (head_at n level w None (code ∷ bytes)) ≡ total) k so_far) ∙ step

-- ---- maps and arrays

after_ended : (w : Window) (rest behind : List ℕ) (t : Tree) (left : Budget) → after (ended w rest (t, left, behind)) ≡ (ended w rest (tt {0}) >>= λ _. Ok behind)
after_ended w [] behind t left = refl
after_ended w (b ∷ rest) behind t left = refl

-- what ends a container, where what is read in it ends so
abbrev pub closed : Block → Result (List ℕ) ReadFault → Result (List ℕ) ReadFault
closed block read = read >>= λ rest. ended block.within rest (tt {0}) >>= λ _. Ok block.behind

-- a block is left where what is read in it ends
pub closes : {A : Type 0} (block : Block) (read : Part A) (tree : A → Tree) (total : Result (List ℕ) ReadFault) → after read ≡ total
    → after (read >>= λ x. ended block.within x.2 (tree x.0, x.1, block.behind)) ≡ closed block total
closes block (Ok x) tree total e = after_ended block.within x.2 block.behind (tree x.0) x.1 ∙ ap (closed block) e
closes block (Err d) tree total e = ap (closed block) e

even_count : (read : Read ℕ) (w : Window) (bytes : List ℕ) (n : ℕ) (rest : List ℕ) (fault : ReadFault)
    → (read >>= λ count. cond (true && eqb (count.0 % 2) 1) (Err fault) (Ok count)) ≡ Ok (n, rest) → 2 * (n / 2) ≡ n
even_count (Ok x) w bytes n rest fault e = chosen (eqb (x.0 % 2) 1) refl e
  where
    chosen : (b : Bool) → b ≡ eqb (x.0 % 2) 1 → ◌≡◌ {A = Read ℕ} (cond b (Err fault) (Ok x)) (Ok (n, rest)) → 2 * (n / 2) ≡ n
    chosen true is h = absurd cc
    chosen false is h = let same : x.0 ≡ n = number x (n, rest) h in subst (λ (k : ℕ). 2 * (k / 2) ≡ k) same (not_odd false x.0 is refl)
      where
        number : (a b : ℕ × List ℕ) → ◌≡◌ {A = Read ℕ} (Ok a) (Ok b) → a.0 ≡ b.0
        number a b q = cc
even_count (Err d) w bytes n rest fault e = absurd cc

-- so a map is passed
pub map_after : (level : Level) (w : Window) (s : SizeWidth) (bytes : List ℕ) (block : Block) (n : ℕ) (entries : List ℕ) (total : Result (List ℕ) ReadFault)
    → block_at w s (size_len s) bytes ≡ Ok block → count_at block.within s true block.body ≡ Ok (n, entries)
    → after (trees_at (λ within. level.value within 0) n block.within None entries) ≡ total
    → after (map_at level w s None bytes) ≡ closed block total
unfolding map_at count_at
map_after level w s bytes block n entries total e1 e2 e3 =
    let even = even_count (big_at block.within (size_len s) block.body) w bytes n entries _ e2 in
    rw (e1, e2) (closes block (pairs_at level none (n / 2) block.within None entries) MapOf total (entries_as_values level block.within n none entries even ∙ e3))

head_parts : (x : Head × Budget × List ℕ) (c : Constructor) (rest : List ℕ) → ◌≡◌ {A = Read Constructor} (Ok (x.0.constructor, x.2)) (Ok (c, rest)) → (x.0.constructor ≡ c) × (x.2 ≡ rest)
head_parts x c rest e = (ap (λ (p : Constructor × List ℕ). p.0) (both (x.0.constructor, x.2) (c, rest) e), ap (λ (p : Constructor × List ℕ). p.1) (both (x.0.constructor, x.2) (c, rest) e))
  where
    both : (a b : Constructor × List ℕ) → ◌≡◌ {A = Read Constructor} (Ok a) (Ok b) → a ≡ b
    both a b q = cc

head_then : (level : Level) (block : Block) (n : ℕ) (read : Part Head) (c : Constructor) (items : List ℕ) (total : Result (List ℕ) ReadFault)
    → constructor_after read ≡ Ok (c, items) → after (trees_at (level.item c) n block.within None items) ≡ total
    → after (read >>= λ head. trees_at (level.item head.0.constructor) n block.within None head.2 >>= λ ts. ended block.within ts.2
    (ArrayOf head.0.descriptors (kind_of head.0.constructor) ts.0, ts.1, block.behind)) ≡ closed block total
head_then level block n (Ok x) c items total e1 e2 =
    let p = head_parts x c items e1 in
    closes block (trees_at (level.item x.0.constructor) n block.within None x.2) (ArrayOf x.0.descriptors (kind_of x.0.constructor)) total
    (ap (λ (k : Constructor). after (trees_at (level.item k) n block.within None x.2)) p.0 ∙ ap (λ (r : List ℕ). after (trees_at (level.item c) n block.within None r)) p.1 ∙ e2)
head_then level block n (Err d) c items total e1 e2 = absurd cc

-- and an array
pub array_after : (level : Level) (w : Window) (s : SizeWidth) (bytes : List ℕ) (block : Block) (n : ℕ) (head : List ℕ) (c : Constructor) (items : List ℕ) (total : Result (List ℕ) ReadFault)
    → block_at w s (size_len s + 1) bytes ≡ Ok block → count_at block.within s false block.body ≡ Ok (n, head)
    → constructor_after (head_at (length head) level block.within None head) ≡ Ok (c, items)
    → after (trees_at (level.item c) n block.within None items) ≡ total
    → after (array_at level w s None bytes) ≡ closed block total
unfolding array_at
array_after level w s bytes block n head c items total e1 e2 e3 e4 =
    rw (e1, e2) (head_then level block n (head_at (length head) level block.within None head) c items total e3 e4)
