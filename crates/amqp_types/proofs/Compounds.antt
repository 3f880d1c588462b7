-- Containers that are read are spelled so, within the depth and the nodes that are left.
use Rattle.std.proofs.Common.{◌≡◌, ℕ, zero, suc, ◌+◌, ◌*◌, ◌/◌, ◌%◌, ◌^◌, ◌<◌, ◌≤◌, ◌⊎◌, max, Bool, true, false, cond, ltb, eqb, ◌&&◌, not, is_some, List, [], ◌∷◌, ◌++◌, length, Option, Some, None}
use Rattle.std.proofs.Common.{Result, Ok, Err, refl, sym, ap, subst, ◌∙◌, append_assoc, arith, inl, inr}
use Rattle.std.specs.Str.{bytes_eq}
use Rattle.std.proofs.lemmas.Bool.{ltb-false, eqb-true, eqb-false, or_parts}
use Rattle.std.proofs.lemmas.Slice.Eq.{bytes_eq-Decides}
use Rattle.std.proofs.lemmas.List.{append-nil, length-append}
use Rattle.byteorder.specs.Endian.{big_bytes}
use Rattle.byteorder.specs.Numbers.{length-bytes_high_first}
use Rattle.amqp_types.specs.declared.kind.Kind.{Kind}
use Rattle.amqp_types.specs.declared.kind.Kind.TheVariants as kind
use Rattle.amqp_types.specs.declared.code.SizeWidth.{SizeWidth}
use Rattle.amqp_types.specs.declared.code.Constructor.{Constructor}
use Rattle.amqp_types.specs.declared.code.Constructor.TheVariants.{Fixed, Variable, EmptyList, ListIn, MapIn, ArrayIn}
use Rattle.amqp_types.specs.declared.fault.ReadFault.{ReadFault}
use Rattle.amqp_types.specs.declared.fault.ReadFault.TheVariants.{BadSize, BadCount, DuplicateKey, TooDeep}
use Rattle.amqp_types.specs.declared.window.Window.{Window}
use Rattle.amqp_types.specs.Codes.{find_code, kind_of}
use Rattle.amqp_types.specs.Kinds.{is_container}
use Rattle.amqp_types.specs.Trees.{Tree, Number, Octets, ListOf, MapOf, ArrayOf, Described, Trees, none, more, Pairs, no_pair, pair, count_of, pair_count, HasNoKey, IsLawful, AreLawful}
use Rattle.amqp_types.specs.Trees.{ArePairsLawful, depth_of, depth_of_all, depth_of_pairs, nodes_in, nodes_in_all, nodes_in_pairs}
use Rattle.amqp_types.specs.Images.{image, has_key}
use Rattle.amqp_types.specs.Spelling.{size_len, SpellsBlock, Spells, SpellDescriptors, SpellItems, SpellPairs}
use Rattle.amqp_types.specs.InHand.{Budget, place}
use Rattle.amqp_types.specs.Reading.{Read, Part, Level, Head, Block, ◌>>=◌, charge, behind, octets_at, big_at, block_of, block_at, count_at, trees_at, distinct, pairs_at, ended}
use Rattle.amqp_types.specs.Reading.{with_descriptor, allowed, head_at, list_at, map_at, array_at, uncharged, number_at, sized_at, item_by, described_at, value_by, level_by, inside}
use Rattle.amqp_types.proofs.Octets.{IsBytes, IsBytes-rest}
use Rattle.amqp_types.proofs.Sound.{bind_ok, guard_ok, ok_is, Takes, Takes-then, octets_sound, big_sound, number_sound, sized_sound}
use Rattle.amqp_types.specs.Misreading.{IsCounted}
use Rattle.amqp_types.proofs.Joined.{Spent, spent_none, spent_then, spent_same, spent_charge, counted_behind, Joined, joined_none, joined_more, SpellAll-from_joined, SpellsItem}
use Rattle.amqp_types.proofs.Joined.{SpellItems-from_joined, AreOfKind-from_joined}

-- ---- blocks

-- what a block is: its size, and the bytes within
pub record IsBlock (s : SizeWidth) (least : ℕ) (bytes : List ℕ) (block : Block) : Type 0 where
  pub takes : Takes bytes (big_bytes (size_len s) (length block.body) ++ block.body) block.behind
  pub small : length block.body < 256 ^ size_len s
  pub some : least ≤ length block.body
  pub fits : IsBytes block.body

-- a block that is read stands there
pub block_sound : (w : Window) (s : SizeWidth) (least : ℕ) (bytes : List ℕ) (block : Block) → IsBytes bytes → block_at w s least bytes ≡ Ok block → IsBlock s least bytes block
unfolding block_at
block_sound w s least bytes block fits e =
    let a = bind_ok (big_at w (size_len s) bytes) (λ size. cond (ltb size.0 least) (Err (BadSize (place w bytes))) (octets_at w size.0 size.1 >>= λ parts. Ok (block_of w bytes parts))) block e in
    let t0 = big_sound w (size_len s) bytes a.0 fits a.1 in
    let g = tested (ltb a.0.0 least) (BadSize (place w bytes)) (octets_at w a.0.0 a.0.1 >>= λ parts. Ok (block_of w bytes parts)) a.2 in
    let b = bind_ok (octets_at w a.0.0 a.0.1) (λ parts. Ok (block_of w bytes parts)) block g.1 in
    let t1 = octets_sound w a.0.0 a.0.1 b.0 t0.0.rest_fits b.1 in
    let both = Takes-then bytes (big_bytes (size_len s) a.0.0) a.0.1 b.0.0 b.0.1 t0.0 t1.0 in
    let same : block_of w bytes b.0 ≡ block = ok_is (block_of w bytes b.0) block b.2 in
    subst (λ (k : Block). IsBlock s least bytes k) same (record {
      takes = subst (λ (n : ℕ). Takes bytes (big_bytes (size_len s) n ++ b.0.0) b.0.1) (sym t1.1) both;
      small = omega (arith, t0.1, t1.1);
      some = omega (arith, ltb-false a.0.0 least g.0, t1.1);
      fits = t1.2;
    })
  where
    tested : (b : Bool) (fault : ReadFault) (r : Result Block ReadFault) → cond b (Err fault) r ≡ Ok block → (b ≡ false) × (r ≡ Ok block)
    tested true fault r h = absurd cc
    tested false fault r h = (refl, h)

-- so does a count
pub count_sound : (w : Window) (s : SizeWidth) (paired : Bool) (bytes : List ℕ) (x : ℕ × List ℕ) → IsBytes bytes → count_at w s paired bytes ≡ Ok x
    → Takes bytes (big_bytes (size_len s) x.0) x.1 × (x.0 < 256 ^ size_len s) × (paired ≡ true → 2 * (x.0 / 2) ≡ x.0)
unfolding count_at
count_sound w s paired bytes x fits e =
    let a = bind_ok (big_at w (size_len s) bytes) (λ count. cond (paired && eqb (count.0 % 2) 1) (Err (BadCount (place w bytes))) (Ok count)) x e in
    let g = guard_ok (paired && eqb (a.0.0 % 2) 1) (BadCount (place w bytes)) a.0 x a.2 in
    let t = big_sound w (size_len s) bytes a.0 fits a.1 in
    subst (λ (y : ℕ × List ℕ). Takes bytes (big_bytes (size_len s) y.0) y.1 × (y.0 < 256 ^ size_len s) × (paired ≡ true → 2 * (y.0 / 2) ≡ y.0)) g.1
    (t.0, t.1, λ is. even a.0.0 (subst (λ (b : Bool). (b && eqb (a.0.0 % 2) 1) ≡ false) is g.0))
  where
    even : (n : ℕ) → (true && eqb (n % 2) 1) ≡ false → 2 * (n / 2) ≡ n
    even n h = let ne = eqb-false (n % 2) 1 h in omega arith

ended_ok : {A : Type 0} (w : Window) (rest : List ℕ) (x y : A) → ended w rest x ≡ Ok y → (rest ≡ []) × (x ≡ y)
ended_ok w [] x y e = (refl, cc)
ended_ok w (b ∷ rest) x y e = absurd cc

-- a block's text: its size, its count and its parts
pub block_text : (s : SizeWidth) (least n : ℕ) (bytes : List ℕ) (block : Block) (parts rest : List ℕ) → IsBlock s least bytes block → n < 256 ^ size_len s
    → block.body ≡ big_bytes (size_len s) n ++ (parts ++ rest) → rest ≡ []
    → SpellsBlock s n parts (big_bytes (size_len s) (length block.body) ++ block.body)
block_text s least n bytes block parts rest is lt body nil =
    let whole : block.body ≡ big_bytes (size_len s) n ++ parts = body ∙ ap (λ (r : List ℕ). big_bytes (size_len s) n ++ (parts ++ r)) nil
    ∙ ap (λ (p : List ℕ). big_bytes (size_len s) n ++ p) (append-nil parts) in
    let len : length block.body ≡ size_len s + length parts = ap length whole ∙ length-append (big_bytes (size_len s) n) parts ∙ ap (λ (k : ℕ). k + length parts)
    (length-bytes_high_first (size_len s) n) in (
      lt,
      subst (λ (k : ℕ). k < 256 ^ size_len s) len is.small,
      ap (λ (k : ℕ). big_bytes (size_len s) k ++ block.body) len
          ∙ ap (λ (b : List ℕ). big_bytes (size_len s) (size_len s + length parts) ++ b) whole,
    )

-- ---- what a reader of one value promises

-- a tree that was read is spelled in front of the rest, within depth, and its nodes were charged
pub record IsRead (spells : Tree → List ℕ → Type 0) (depth extra : ℕ) (budget : Budget) (bytes : List ℕ) (x : Tree × Budget × List ℕ) : Type 0 where
  pub text : List ℕ
  pub takes : Takes bytes text x.2
  pub spelled : spells x.0 text
  pub deep : depth_of x.0 ≤ depth
  pub spent : Spent budget (extra + nodes_in x.0) x.1
  pub lawful : IsCounted budget → IsLawful x.0

-- a reading that answers only such trees
abbrev pub IsReader : (Window → Budget → List ℕ → Part Tree) → (Tree → List ℕ → Type 0) → ℕ → ℕ → Type 0
IsReader one spells depth extra = (w : Window) (budget : Budget) (bytes : List ℕ) (x : Tree × Budget × List ℕ) → IsBytes bytes → one w budget bytes ≡ Ok x → IsRead spells depth extra budget bytes x

-- the same of so many trees in turn
pub record AreRead (spells : Tree → List ℕ → Type 0) (depth n : ℕ) (budget : Budget) (bytes : List ℕ) (x : Trees × Budget × List ℕ) : Type 0 where
  pub text : List ℕ
  pub takes : Takes bytes text x.2
  pub spelled : Joined spells x.0 text
  pub deep : depth_of_all x.0 ≤ depth
  pub spent : Spent budget (nodes_in_all x.0) x.1
  pub lawful : IsCounted budget → AreLawful x.0
  pub count : count_of x.0 ≡ n

trees_sound : (one : Window → Budget → List ℕ → Part Tree) (spells : Tree → List ℕ → Type 0) (depth : ℕ) → IsReader one spells depth 0
    → (n : ℕ) (w : Window) (budget : Budget) (bytes : List ℕ) (x : Trees × Budget × List ℕ) → IsBytes bytes → trees_at one n w budget bytes ≡ Ok x → AreRead spells depth n budget bytes x
unfolding trees_at
trees_sound one spells depth sound zero w budget bytes x fits e =
    subst (λ (y : Trees × Budget × List ℕ). AreRead spells depth 0 budget bytes y) (ok_is (none, budget, bytes) x e) (record {
      text = [];
      takes = record { parts = refl; rest_fits = fits };
      spelled = joined_none spells;
      deep = omega arith;
      spent = spent_none budget;
      lawful = λ _. tt;
      count = refl;
    })
trees_sound one spells depth sound (suc n) w budget bytes x fits e =
    let a = bind_ok (one w budget bytes) (λ first. trees_at one n w (behind budget first.1) first.2 >>= λ others. Ok (more first.0 others.0, others.1, others.2)) x e in
    let first = sound w budget bytes a.0 fits a.1 in
    let b = bind_ok (trees_at one n w (behind budget a.0.1) a.0.2) (λ others. Ok (more a.0.0 others.0, others.1, others.2)) x a.2 in
    let others = trees_sound one spells depth sound n w (behind budget a.0.1) a.0.2 b.0 first.takes.rest_fits b.1 in
    subst (λ (y : Trees × Budget × List ℕ). AreRead spells depth (suc n) budget bytes y) (ok_is (more a.0.0 b.0.0, b.0.1, b.0.2) x b.2) (record {
      text = first.text ++ others.text;
      takes = Takes-then bytes first.text a.0.2 others.text b.0.2 first.takes others.takes;
      spelled = joined_more spells a.0.0 b.0.0 first.text others.text first.spelled others.spelled;
      deep = omega (arith, first.deep, others.deep);
      spent = spent_then budget a.0.1 b.0.1 (nodes_in a.0.0) (nodes_in_all b.0.0) (spent_same budget a.0.1 _ _ (omega arith) first.spent) others.spent;
      lawful = λ c. (first.lawful c, others.lawful (counted_behind budget a.0.1 _ first.spent c));
      count = omega (arith, others.count);
    })

-- ---- a level

-- a level whose readings answer only what is spelled
pub record IsSoundLevel (depth : ℕ) (level : Level) : Type 0 where
  pub value : (due : ℕ) → IsReader (λ w. level.value w due) Spells depth due
  pub item : (c : Constructor) (code : ℕ) → find_code code ≡ Some c → (is_container (kind_of c) ≡ true → 1 ≤ depth) → IsReader (level.item c) (SpellsItem code (kind_of c)) depth 0
  pub holds : level.holds ≡ true → 1 ≤ depth

-- ---- maps

-- none of these keys is among those seen
abbrev Apart : Trees → Pairs → Type 0
Apart seen no_pair = Unit {0}
Apart seen (pair k v ps) = (has_key k seen ≡ false) × Apart seen ps

-- bytes are equal to themselves
pub same_bytes : (xs : List ℕ) → bytes_eq xs xs ≡ true
same_bytes xs = (bytes_eq-Decides xs xs).1 refl

apart_parts : (key : Tree) (seen : Trees) (ps : Pairs) → Apart (more key seen) ps → HasNoKey key ps × Apart seen ps
unfolding has_key
apart_parts key seen no_pair h = (tt, tt)
apart_parts key seen (pair k v ps) h =
    let p = or_parts (bytes_eq (image key) (image k)) (has_key k seen) h.0 in
    let rest = apart_parts key seen ps h.1 in
    ((λ same. differ (bytes_eq (image key) (image k)) p.0 (ap (λ (t : Tree). bytes_eq (image key) (image t)) same ∙ same_bytes (image key)), rest.0), (p.1, rest.1))
  where
    differ : (b : Bool) → b ≡ false → b ≡ true → ⊥
    differ b f t = let h : true ≡ false = sym t ∙ f in cc

-- a key that passes is new, where keys are compared
pub distinct_ok : {A : Type 0} (budget : Budget) (seen : Trees) (key : Tree) (at : ℕ) (x y : A) → distinct budget seen key at x ≡ Ok y → (x ≡ y) × (IsCounted budget → has_key key seen ≡ false)
distinct_ok None seen key at x y e = (ok_is x y e, λ c. absurd c)
distinct_ok (Some b) seen key at x y e = let g = guard_ok (has_key key seen) (DuplicateKey at) x y e in (g.1, λ c. g.0)

record ArePairsRead (depth n : ℕ) (seen : Trees) (budget : Budget) (bytes : List ℕ) (x : Pairs × Budget × List ℕ) : Type 0 where
  text : List ℕ
  takes : Takes bytes text x.2
  spelled : SpellPairs x.0 text
  deep : depth_of_pairs x.0 ≤ depth
  spent : Spent budget (nodes_in_pairs x.0) x.1
  lawful : IsCounted budget → ArePairsLawful x.0 × Apart seen x.0
  count : pair_count x.0 ≡ 2 * n

pairs_sound : (depth : ℕ) (level : Level) → IsSoundLevel depth level → (n : ℕ) (seen : Trees) (w : Window) (budget : Budget) (bytes : List ℕ) (x : Pairs × Budget × List ℕ)
    → IsBytes bytes → pairs_at level seen n w budget bytes ≡ Ok x → ArePairsRead depth n seen budget bytes x
unfolding pairs_at Spells
pairs_sound depth level sound zero seen w budget bytes x fits e =
    subst (λ (y : Pairs × Budget × List ℕ). ArePairsRead depth 0 seen budget bytes y) (ok_is (no_pair, budget, bytes) x e) (record {
      text = [];
      takes = record { parts = refl; rest_fits = fits };
      spelled = refl;
      deep = omega arith;
      spent = spent_none budget;
      lawful = λ _. (tt, tt);
      count = refl;
    })
pairs_sound depth level sound (suc n) seen w budget bytes x fits e =
    let a = bind_ok (level.value w 0 budget bytes) (λ read. distinct budget seen read.0 (place w bytes) read >>= λ key. level.value w 0 (behind budget key.1) key.2
    >>= λ value. pairs_at level (more key.0 seen) n w (behind budget value.1) value.2 >>= λ others. Ok (pair key.0 value.0 others.0, others.1, others.2)) x e in
    let first = sound.value 0 w budget bytes a.0 fits a.1 in
    let d = bind_ok (distinct budget seen a.0.0 (place w bytes) a.0) (λ key. level.value w 0 (behind budget key.1) key.2
    >>= λ value. pairs_at level (more key.0 seen) n w (behind budget value.1) value.2 >>= λ others. Ok (pair key.0 value.0 others.0, others.1, others.2)) x a.2 in
    let new = distinct_ok budget seen a.0.0 (place w bytes) a.0 d.0 d.1 in
    let key : IsRead Spells depth 0 budget bytes d.0 = subst (λ (y : Tree × Budget × List ℕ). IsRead Spells depth 0 budget bytes y) new.0 first in
    let unseen : IsCounted budget → has_key d.0.0 seen ≡ false = λ c. subst (λ (y : Tree × Budget × List ℕ). has_key y.0 seen ≡ false) new.0 (new.1 c) in
    let b = bind_ok (level.value w 0 (behind budget d.0.1) d.0.2) (λ value. pairs_at level (more d.0.0 seen) n w (behind budget value.1) value.2 >>= λ others. Ok
    (pair d.0.0 value.0 others.0, others.1, others.2)) x d.2 in
    let value = sound.value 0 w (behind budget d.0.1) d.0.2 b.0 key.takes.rest_fits b.1 in
    let g = bind_ok (pairs_at level (more d.0.0 seen) n w (behind budget b.0.1) b.0.2) (λ others. Ok (pair d.0.0 b.0.0 others.0, others.1, others.2)) x b.2 in
    let others = pairs_sound depth level sound n (more d.0.0 seen) w (behind budget b.0.1) b.0.2 g.0 value.takes.rest_fits g.1 in
    let counted_value : IsCounted budget → IsCounted (behind budget d.0.1) = counted_behind budget d.0.1 _ key.spent in
    let two : Spent budget (nodes_in d.0.0 + nodes_in b.0.0) b.0.1 = spent_then budget d.0.1 b.0.1 (nodes_in d.0.0) (nodes_in b.0.0) (spent_same budget d.0.1 _ _ (omega arith) key.spent)
    (spent_same (behind budget d.0.1) b.0.1 _ _ (omega arith) value.spent) in
    let counted_rest : IsCounted budget → IsCounted (behind budget b.0.1) = counted_behind budget b.0.1 _ two in
    subst (λ (y : Pairs × Budget × List ℕ). ArePairsRead depth (suc n) seen budget bytes y) (ok_is (pair d.0.0 b.0.0 g.0.0, g.0.1, g.0.2) x g.2) (record {
      text = key.text ++ (value.text ++ others.text);
      takes = Takes-then bytes key.text d.0.2 (value.text ++ others.text) g.0.2 key.takes (Takes-then d.0.2 value.text b.0.2 others.text g.0.2 value.takes others.takes);
      spelled = (key.text, value.text, others.text, refl, key.spelled, value.spelled, others.spelled);
      deep = omega (arith, key.deep, value.deep, others.deep);
      spent = spent_then budget b.0.1 g.0.1 (nodes_in d.0.0 + nodes_in b.0.0) (nodes_in_pairs g.0.0) two others.spent;
      lawful = λ c. let rest = others.lawful (counted_rest c) in let apart = apart_parts d.0.0 seen g.0.0 rest.1 in
          ((key.lawful c, value.lawful (counted_value c), apart.0, rest.0), (unseen c, apart.1));
      count = omega (arith, others.count);
    })

-- ---- the element constructor of an array

-- the head of an array that was read is spelled in front of the rest
pub record IsHeadRead (depth : ℕ) (level : Level) (budget : Budget) (bytes : List ℕ) (x : Head × Budget × List ℕ) : Type 0 where
  text : List ℕ
  element : ℕ
  takes : Takes bytes (text ++ element ∷ []) x.2
  spelled : SpellDescriptors x.0.descriptors text
  known : find_code element ≡ Some x.0.constructor
  holds : is_container (kind_of x.0.constructor) ≡ true → level.holds ≡ true
  deep : depth_of_all x.0.descriptors ≤ depth
  spent : Spent budget (count_of x.0.descriptors + nodes_in_all x.0.descriptors) x.1
  lawful : IsCounted budget → AreLawful x.0.descriptors

-- a constructor that is allowed has its code, and depth where it wants some
pub allowed_ok : (at : ℕ) (holds : Bool) (o : Option Constructor) (c : Constructor) → allowed at holds o ≡ Ok c → (o ≡ Some c) × (is_container (kind_of c) ≡ true → holds ≡ true)
allowed_ok at holds None c e = absurd cc
allowed_ok at holds (Some k) c e =
    let g = guard_ok (is_container (kind_of k) && not holds) (TooDeep at) k c e in
    (ap (λ (x : Constructor). Some x) g.1, λ is. held (is_container (kind_of k)) holds g.0 (subst (λ (x : Constructor). is_container (kind_of x) ≡ true) (sym g.1) is))
  where
    held : (b h : Bool) → (b && not h) ≡ false → b ≡ true → h ≡ true
    held true true e is = refl
    held true false e is = absurd cc
    held false h e is = absurd cc

-- a choice is one of the two
pub either_way : {A : Type 0} (b : Bool) (x y z : Result A ReadFault) → cond b x y ≡ z → ((b ≡ true) × (x ≡ z)) ⊎ ((b ≡ false) × (y ≡ z))
either_way true x y z e = inl (refl, e)
either_way false x y z e = inr (refl, e)

after_charge : (budget left last : Budget) (m n : ℕ) → Spent budget m left → Spent left n last → Spent budget (m + n) last
after_charge None left last m n p q = tt
after_charge (Some b) left last m n p q = spent_then (Some b) left last m n p q

counted_charge : (budget left : Budget) (n at : ℕ) → charge budget n at ≡ Ok left → IsCounted budget → IsCounted left
counted_charge None left n at e c = absurd c
counted_charge (Some b) left n at e c = subst (λ (l : Budget). IsCounted l) (sym (spent_charge (Some b) n at left e).1) tt

-- the head of an array that is read stands there
pub head_sound : (depth : ℕ) (level : Level) → IsSoundLevel depth level → (fuel : ℕ) (w : Window) (budget : Budget) (bytes : List ℕ) (x : Head × Budget × List ℕ)
    → IsBytes bytes → head_at fuel level w budget bytes ≡ Ok x → IsHeadRead depth level budget bytes x
unfolding head_at Spells
head_sound depth level sound zero w budget [] x fits e = absurd cc
head_sound depth level sound (suc fuel) w budget [] x fits e = absurd cc
head_sound depth level sound zero w budget (code ∷ rest) x fits e = absurd cc
head_sound depth level sound (suc fuel) w budget (code ∷ rest) x fits e =
    elim (either_way (eqb code 0) (charge budget 1 (place w (code ∷ rest)) >>= λ left. level.value w 0 left rest >>= λ descriptor. head_at fuel level w
    (behind budget descriptor.1) descriptor.2 >>= λ head. Ok (with_descriptor descriptor.0 head.0, head.1, head.2))
    (allowed (place w (code ∷ rest)) level.holds (find_code code) >>= λ c. Ok (record { descriptors = none; constructor = c }, budget, rest)) (Ok x) e) [
      | inl d ↦
          let is_zero : code ≡ 0 = eqb-true code 0 d.0 in
          let a = bind_ok (charge budget 1 (place w (code ∷ rest))) (λ left. level.value w 0 left rest >>= λ descriptor. head_at fuel level w (behind budget descriptor.1) descriptor.2 >>= λ head. Ok
          (with_descriptor descriptor.0 head.0, head.1, head.2)) x d.1 in
          let paid = spent_charge budget 1 (place w (code ∷ rest)) a.0 a.1 in
          let b = bind_ok (level.value w 0 a.0 rest) (λ descriptor. head_at fuel level w (behind budget descriptor.1) descriptor.2 >>= λ head. Ok
          (with_descriptor descriptor.0 head.0, head.1, head.2)) x a.2 in
          let first = sound.value 0 w a.0 rest b.0 (IsBytes-rest code rest fits) b.1 in
          let spent_first : Spent budget (1 + nodes_in b.0.0) b.0.1 = after_charge budget a.0 b.0.1 1 (nodes_in b.0.0) paid (spent_same a.0 b.0.1 _ _ (omega arith) first.spent) in
          let g = bind_ok (head_at fuel level w (behind budget b.0.1) b.0.2) (λ head. Ok (with_descriptor b.0.0 head.0, head.1, head.2)) x b.2 in
          let others = head_sound depth level sound fuel w (behind budget b.0.1) b.0.2 g.0 first.takes.rest_fits g.1 in
          subst (λ (y : Head × Budget × List ℕ). IsHeadRead depth level budget (code ∷ rest) y) (ok_is (with_descriptor b.0.0 g.0.0, g.0.1, g.0.2) x g.2) (record {
            text = 0 ∷ (first.text ++ others.text);
            element = others.element;
            takes = record {
              parts = ap (λ (k : ℕ). k ∷ rest) is_zero ∙ ap (λ (r : List ℕ). 0 ∷ r) (first.takes.parts ∙ ap (λ (r : List ℕ). first.text ++ r) others.takes.parts
                  ∙ regroup first.text others.text (others.element ∷ []) g.0.2);
              rest_fits = others.takes.rest_fits;
            };
            spelled = (first.text, others.text, refl, first.spelled, others.spelled);
            known = others.known;
            holds = others.holds;
            deep = omega (arith, first.deep, others.deep);
            spent = spent_same budget g.0.1 _ _ (omega arith) (spent_then budget b.0.1 g.0.1 (1 + nodes_in b.0.0) (count_of g.0.0.descriptors + nodes_in_all g.0.0.descriptors) spent_first
                others.spent);
            lawful = λ c. (first.lawful (counted_charge budget a.0 1 (place w (code ∷ rest)) a.1 c), others.lawful (counted_behind budget b.0.1 _ spent_first c));
          })
      | inr d ↦
          let a = bind_ok (allowed (place w (code ∷ rest)) level.holds (find_code code)) (λ c. Ok (record { descriptors = none; constructor = c }, budget, rest)) x d.1 in
          let ok = allowed_ok (place w (code ∷ rest)) level.holds (find_code code) a.0 a.1 in
          subst (λ (y : Head × Budget × List ℕ). IsHeadRead depth level budget (code ∷ rest) y) (ok_is (record { descriptors = none; constructor = a.0 }, budget, rest) x a.2) (record {
            text = [];
            element = code;
            takes = record { parts = refl; rest_fits = IsBytes-rest code rest fits };
            spelled = refl;
            known = ok.0;
            holds = ok.1;
            deep = omega arith;
            spent = spent_none budget;
            lawful = λ _. tt;
          })
    ]
  where
    regroup : (a b c d : List ℕ) → a ++ ((b ++ c) ++ d) ≡ ((a ++ b) ++ c) ++ d
    regroup a b c d = simp append_assoc

-- ---- lists, maps, arrays, described values

abbrev Holds : Constructor → SizeWidth → Level → Window → Budget → List ℕ → Part Tree
Holds (MapIn _) s level w budget bytes = map_at level w s budget bytes
Holds (ArrayIn _) s level w budget bytes = array_at level w s budget bytes
Holds _ s level w budget bytes = list_at level w s budget bytes

list_sound : (depth : ℕ) (level : Level) → IsSoundLevel depth level → (s : SizeWidth) (code : ℕ) → find_code code ≡ Some (ListIn s)
    → IsReader (λ w. list_at level w s) (SpellsItem code kind.List) (suc depth) 0
unfolding list_at Spells
list_sound depth level sound s code is w budget bytes x fits e =
    let a = bind_ok (block_at w s (size_len s) bytes) (λ block. count_at block.within s false block.body >>= λ count. charge budget count.0 (place block.within block.body) >>= λ left.
    trees_at (λ within. level.value within 0) count.0 block.within left count.1 >>= λ items. ended block.within items.2 (ListOf items.0, items.1, block.behind)) x e in
    let block = block_sound w s (size_len s) bytes a.0 fits a.1 in
    let b = bind_ok (count_at a.0.within s false a.0.body) (λ count. charge budget count.0 (place a.0.within a.0.body) >>= λ left.
    trees_at (λ within. level.value within 0) count.0 a.0.within left count.1 >>= λ items. ended a.0.within items.2 (ListOf items.0, items.1, a.0.behind)) x a.2 in
    let count = count_sound a.0.within s false a.0.body b.0 block.fits b.1 in
    let c = bind_ok (charge budget b.0.0 (place a.0.within a.0.body)) (λ left. trees_at (λ within. level.value within 0) b.0.0 a.0.within left b.0.1 >>= λ items. ended a.0.within items.2
    (ListOf items.0, items.1, a.0.behind)) x b.2 in
    let paid = spent_charge budget b.0.0 (place a.0.within a.0.body) c.0 c.1 in
    let d = bind_ok (trees_at (λ within. level.value within 0) b.0.0 a.0.within c.0 b.0.1) (λ items. ended a.0.within items.2 (ListOf items.0, items.1, a.0.behind)) x c.2 in
    let items = trees_sound (λ within. level.value within 0) Spells depth (sound.value 0) b.0.0 a.0.within c.0 b.0.1 d.0 count.0.rest_fits d.1 in
    let last = ended_ok a.0.within d.0.2 (ListOf d.0.0, d.0.1, a.0.behind) x d.2 in
    let text = block_text s (size_len s) b.0.0 bytes a.0 items.text d.0.2 block count.1 (count.0.parts ∙ ap (λ (r : List ℕ). big_bytes (size_len s) b.0.0 ++ r) items.takes.parts) last.0 in
    let whole = big_bytes (size_len s) (length a.0.body) ++ a.0.body in
    subst (λ (y : Tree × Budget × List ℕ). IsRead (SpellsItem code kind.List) (suc depth) 0 budget bytes y) last.1 (record {
      text = whole;
      takes = block.takes;
      spelled = (inr (code, s, items.text, whole, is, refl, subst (λ (n : ℕ). SpellsBlock s n items.text whole) (sym items.count) text, SpellAll-from_joined d.0.0 items.text items.spelled), refl);
      deep = omega (arith, items.deep);
      spent = spent_same budget d.0.1 _ _ (omega (arith, items.count)) (after_charge budget c.0 d.0.1 b.0.0 (nodes_in_all d.0.0) paid items.spent);
      lawful = λ k. items.lawful (counted_charge budget c.0 b.0.0 (place a.0.within a.0.body) c.1 k);
    })

map_sound : (depth : ℕ) (level : Level) → IsSoundLevel depth level → (s : SizeWidth) (code : ℕ) → find_code code ≡ Some (MapIn s)
    → IsReader (λ w. map_at level w s) (SpellsItem code kind.Map) (suc depth) 0
unfolding map_at Spells
map_sound depth level sound s code is w budget bytes x fits e =
    let a = bind_ok (block_at w s (size_len s) bytes) (λ block. count_at block.within s true block.body >>= λ count. charge budget count.0 (place block.within block.body) >>= λ left.
    pairs_at level none (count.0 / 2) block.within left count.1 >>= λ entries. ended block.within entries.2 (MapOf entries.0, entries.1, block.behind)) x e in
    let block = block_sound w s (size_len s) bytes a.0 fits a.1 in
    let b = bind_ok (count_at a.0.within s true a.0.body) (λ count. charge budget count.0 (place a.0.within a.0.body) >>= λ left.
    pairs_at level none (count.0 / 2) a.0.within left count.1 >>= λ entries. ended a.0.within entries.2 (MapOf entries.0, entries.1, a.0.behind)) x a.2 in
    let count = count_sound a.0.within s true a.0.body b.0 block.fits b.1 in
    let c = bind_ok (charge budget b.0.0 (place a.0.within a.0.body)) (λ left. pairs_at level none (b.0.0 / 2) a.0.within left b.0.1 >>= λ entries. ended a.0.within entries.2
    (MapOf entries.0, entries.1, a.0.behind)) x b.2 in
    let paid = spent_charge budget b.0.0 (place a.0.within a.0.body) c.0 c.1 in
    let d = bind_ok (pairs_at level none (b.0.0 / 2) a.0.within c.0 b.0.1) (λ entries. ended a.0.within entries.2 (MapOf entries.0, entries.1, a.0.behind)) x c.2 in
    let entries = pairs_sound depth level sound (b.0.0 / 2) none a.0.within c.0 b.0.1 d.0 count.0.rest_fits d.1 in
    let same : pair_count d.0.0 ≡ b.0.0 = entries.count ∙ count.2 refl in
    let last = ended_ok a.0.within d.0.2 (MapOf d.0.0, d.0.1, a.0.behind) x d.2 in
    let text = block_text s (size_len s) b.0.0 bytes a.0 entries.text d.0.2 block count.1 (count.0.parts ∙ ap (λ (r : List ℕ). big_bytes (size_len s) b.0.0 ++ r) entries.takes.parts) last.0 in
    let whole = big_bytes (size_len s) (length a.0.body) ++ a.0.body in
    subst (λ (y : Tree × Budget × List ℕ). IsRead (SpellsItem code kind.Map) (suc depth) 0 budget bytes y) last.1 (record {
      text = whole;
      takes = block.takes;
      spelled = ((code, s, entries.text, whole, is, refl, subst (λ (n : ℕ). SpellsBlock s n entries.text whole) (sym same) text, entries.spelled), refl);
      deep = omega (arith, entries.deep);
      spent = spent_same budget d.0.1 _ _ (omega (arith, same)) (after_charge budget c.0 d.0.1 b.0.0 (nodes_in_pairs d.0.0) paid entries.spent);
      lawful = λ k. (entries.lawful (counted_charge budget c.0 b.0.0 (place a.0.within a.0.body) c.1 k)).0;
    })

array_text : (s : SizeWidth) (least n code element : ℕ) (bytes : List ℕ) (block : Block) (ds : Trees) (c : Constructor) (ts : Trees) (head items rest last : List ℕ)
    → IsBlock s least bytes block → n < 256 ^ size_len s → block.body ≡ big_bytes (size_len s) n ++ rest → rest ≡ (head ++ element ∷ items) ++ last → last ≡ []
    → find_code code ≡ Some (ArrayIn s) → SpellDescriptors ds head → find_code element ≡ Some c → SpellItems element ts items → count_of ts ≡ n
    → Spells (ArrayOf ds (kind_of c) ts) (code ∷ (big_bytes (size_len s) (length block.body) ++ block.body))
unfolding Spells
array_text s least n code element bytes block ds c ts head items rest last is lt body parts nil known descriptors constructor spelled count =
    let text = block_text s least n bytes block (head ++ element ∷ items) last is lt (body ∙ ap (λ (r : List ℕ). big_bytes (size_len s) n ++ r) parts) nil in (
      code,
      s,
      element,
      c,
      head,
      items,
      big_bytes (size_len s) (length block.body) ++ block.body,
      known,
      refl,
      subst (λ (k : ℕ). SpellsBlock s k (head ++ element ∷ items) (big_bytes (size_len s) (length block.body) ++ block.body)) (sym count) text,
      descriptors,
      constructor,
      refl,
      spelled,
    )

deep_enough : (b : Bool) (depth m n : ℕ) → (b ≡ true → 1 ≤ depth) → m ≤ depth → n ≤ depth → max m (max (cond b 1 0) n) + 1 ≤ suc depth
deep_enough true depth m n h p q = let one = h refl in omega arith
deep_enough false depth m n h p q = omega arith

element_regroup : (a : List ℕ) (e : ℕ) (b c : List ℕ) → (a ++ e ∷ []) ++ (b ++ c) ≡ (a ++ e ∷ b) ++ c
element_regroup a e b c = simp append_assoc

array_made : (depth : ℕ) (level : Level) (s : SizeWidth) (code n : ℕ) (budget left : Budget) (bytes rest : List ℕ) (block : Block) (h : Head × Budget × List ℕ) (d : Trees × Budget × List ℕ)
    → IsSoundLevel depth level → find_code code ≡ Some (ArrayIn s) → IsBlock s (size_len s + 1) bytes block → Takes block.body (big_bytes (size_len s) n) rest → n < 256 ^ size_len s
    → Spent budget n left → (IsCounted budget → IsCounted left) → (head : IsHeadRead depth level left rest h)
    → AreRead (SpellsItem head.element (kind_of h.0.constructor)) depth n (behind budget h.1) h.2 d → d.2 ≡ []
    → IsRead (SpellsItem code kind.Array) (suc depth) 0 budget bytes (ArrayOf h.0.descriptors (kind_of h.0.constructor) d.0, d.1, block.behind)
array_made depth level s code n budget left bytes rest block h d sound known is count lt paid counted head items nil =
    let k = kind_of h.0.constructor in
    let spent_head : Spent budget (n + (count_of h.0.descriptors + nodes_in_all h.0.descriptors)) h.1 = after_charge budget left h.1 n
    (count_of h.0.descriptors + nodes_in_all h.0.descriptors) paid head.spent in
    record {
      text = big_bytes (size_len s) (length block.body) ++ block.body;
      takes = is.takes;
      spelled = (
        array_text s (size_len s + 1) n code head.element bytes block h.0.descriptors h.0.constructor d.0 head.text items.text rest d.2 is lt count.parts
            (head.takes.parts ∙ ap (λ (r : List ℕ). (head.text ++ head.element ∷ []) ++ r) items.takes.parts ∙ element_regroup head.text head.element items.text d.2) nil
            known head.spelled head.known (SpellItems-from_joined head.element k d.0 items.text items.spelled) items.count,
        refl,
      );
      deep = deep_enough (is_container k) depth (depth_of_all h.0.descriptors) (depth_of_all d.0) (λ c. sound.holds (head.holds c)) head.deep items.deep;
      spent = spent_same budget d.1 _ _ (omega (arith, items.count)) (spent_then budget h.1 d.1 (n + (count_of h.0.descriptors + nodes_in_all h.0.descriptors))
          (nodes_in_all d.0) spent_head items.spent);
      lawful = λ q. (head.lawful (counted q), items.lawful (counted_behind budget h.1 _ spent_head q), AreOfKind-from_joined head.element k d.0 items.text items.spelled);
    }

-- the parts of an array that was read, one after the other
record ArrayParts (level : Level) (w : Window) (s : SizeWidth) (budget : Budget) (bytes : List ℕ) (x : Tree × Budget × List ℕ) : Type 0 where
  block : Block
  block_is : block_at w s (size_len s + 1) bytes ≡ Ok block
  count : ℕ × List ℕ
  count_is : count_at block.within s false block.body ≡ Ok count
  left : Budget
  left_is : charge budget count.0 (place block.within block.body) ≡ Ok left
  head : Head × Budget × List ℕ
  head_is : head_at (length count.1) level block.within left count.1 ≡ Ok head
  items : Trees × Budget × List ℕ
  items_is : trees_at (level.item head.0.constructor) count.0 block.within (behind budget head.1) head.2 ≡ Ok items
  end_is : ended {A = Tree × Budget × List ℕ} block.within items.2 (ArrayOf head.0.descriptors (kind_of head.0.constructor) items.0, items.1, block.behind) ≡ Ok x

array_parts : (level : Level) (w : Window) (s : SizeWidth) (budget : Budget) (bytes : List ℕ) (x : Tree × Budget × List ℕ) → array_at level w s budget bytes ≡ Ok x →
    ArrayParts level w s budget bytes x
unfolding array_at
array_parts level w s budget bytes x e =
    let a = bind_ok (block_at w s (size_len s + 1) bytes) _ x e in
    let b = bind_ok (count_at a.0.within s false a.0.body) _ x a.2 in
    let c = bind_ok (charge budget b.0.0 (place a.0.within a.0.body)) _ x b.2 in
    let h = bind_ok (head_at (length b.0.1) level a.0.within c.0 b.0.1) _ x c.2 in
    let d = bind_ok (trees_at (level.item h.0.0.constructor) b.0.0 a.0.within (behind budget h.0.1) h.0.2) _ x h.2 in
    record { block = a.0; block_is = a.1; count = b.0; count_is = b.1; left = c.0; left_is = c.1; head = h.0; head_is = h.1; items = d.0; items_is = d.1; end_is = d.2 }

array_sound : (depth : ℕ) (level : Level) → IsSoundLevel depth level → (s : SizeWidth) (code : ℕ) → find_code code ≡ Some (ArrayIn s)
    → IsReader (λ w. array_at level w s) (SpellsItem code kind.Array) (suc depth) 0
array_sound depth level sound s code is w budget bytes x fits e =
    let p = array_parts level w s budget bytes x e in
    let block = block_sound w s (size_len s + 1) bytes p.block fits p.block_is in
    let count = count_sound p.block.within s false p.block.body p.count block.fits p.count_is in
    let head = head_sound depth level sound (length p.count.1) p.block.within p.left p.count.1 p.head count.0.rest_fits p.head_is in
    let items = trees_sound (level.item p.head.0.constructor) (SpellsItem head.element (kind_of p.head.0.constructor)) depth (sound.item p.head.0.constructor head.element head.known
    (λ c. sound.holds (head.holds c))) p.count.0 p.block.within (behind budget p.head.1) p.head.2 p.items head.takes.rest_fits p.items_is in
    let last = ended_ok p.block.within p.items.2 (ArrayOf p.head.0.descriptors (kind_of p.head.0.constructor) p.items.0, p.items.1, p.block.behind) x p.end_is in
    subst (λ (y : Tree × Budget × List ℕ). IsRead (SpellsItem code kind.Array) (suc depth) 0 budget bytes y) last.1
    (array_made depth level s code p.count.0 budget p.left bytes p.count.1 p.block p.head p.items sound is block count.0 count.1
    (spent_charge budget p.count.0 (place p.block.within p.block.body) p.left p.left_is) (counted_charge budget p.left p.count.0 (place p.block.within p.block.body) p.left_is) head items last.0)

-- ---- every level

uncharged_ok : {A : Type 0} (budget : Budget) (read : Read A) (tree : A → Tree) (x : Tree × Budget × List ℕ) → uncharged budget read tree ≡ Ok x →
    (y : A × List ℕ) × (read ≡ Ok y) × (◌≡◌ {A = Tree × Budget × List ℕ} (tree y.0, budget, y.1) x)
uncharged_ok budget (Ok y) tree x e = (y, refl, ok_is (tree y.0, budget, y.1) x e)
uncharged_ok budget (Err d) tree x e = absurd cc

scalar_read : (depth code : ℕ) (k : Kind) (budget : Budget) (bytes : List ℕ) (t : Tree) (rest text : List ℕ) → Takes bytes text rest → SpellsItem code k t text → depth_of t ≡ 0 → nodes_in t ≡ 0 →
    IsLawful t
    → IsRead (SpellsItem code k) depth 0 budget bytes (t, budget, rest)
scalar_read depth code k budget bytes t rest text takes spelled d n lawful =
    record { text = text; takes = takes; spelled = spelled; deep = omega arith; spent = spent_same budget budget 0 _ (omega arith) (spent_none budget); lawful = λ _. lawful }

-- the data of a constructor where the level inside is sound
item_sound : (depth : ℕ) (inner : Option Level) → ((level : Level) → inner ≡ Some level → (d : ℕ) × (suc d ≡ depth) × IsSoundLevel d level)
    → (c : Constructor) (code : ℕ) → find_code code ≡ Some c → (is_container (kind_of c) ≡ true → 1 ≤ depth) → IsReader (item_by inner c) (SpellsItem code (kind_of c)) depth 0
unfolding item_by Spells
item_sound depth inner sound (Fixed k f) code is deep w budget bytes x fits e =
    let u = uncharged_ok budget (number_at w k f bytes) (Number k) x e in
    let t = number_sound w k f bytes u.0 fits u.1 in
    subst (λ (y : Tree × Budget × List ℕ). IsRead (SpellsItem code k) depth 0 budget bytes y) u.2
    (scalar_read depth code k budget bytes (Number k u.0.0) u.0.1 t.0 t.1 ((code, f, t.0, is, refl, t.2, t.3), refl) refl refl tt)
item_sound depth inner sound (Variable k s) code is deep w budget bytes x fits e =
    let u = uncharged_ok budget (sized_at w k s bytes) (Octets k) x e in
    let t = sized_sound w k s bytes u.0 fits u.1 in
    subst (λ (y : Tree × Budget × List ℕ). IsRead (SpellsItem code k) depth 0 budget bytes y) u.2
    (scalar_read depth code k budget bytes (Octets k u.0.0) u.0.1 t.0 t.1 ((code, s, t.0, is, refl, t.2, t.3), refl) refl refl tt)
item_sound depth inner sound EmptyList code is deep w budget bytes x fits e =
    let one = deep refl in
    subst (λ (y : Tree × Budget × List ℕ). IsRead (SpellsItem code kind.List) depth 0 budget bytes y) (ok_is (ListOf none, budget, bytes) x e) (record {
      text = [];
      takes = record { parts = refl; rest_fits = fits };
      spelled = (inl (code, is, refl, refl), refl);
      deep = omega arith;
      spent = spent_none budget;
      lawful = λ _. tt;
    })
item_sound depth None sound (ListIn s) code is deep w budget bytes x fits e = absurd cc
item_sound depth None sound (MapIn s) code is deep w budget bytes x fits e = absurd cc
item_sound depth None sound (ArrayIn s) code is deep w budget bytes x fits e = absurd cc
item_sound depth (Some level) sound (ListIn s) code is deep w budget bytes x fits e =
    let l = sound level refl in subst (λ (d : ℕ). IsRead (SpellsItem code kind.List) d 0 budget bytes x) l.1 (list_sound l.0 level l.2 s code is w budget bytes x fits e)
item_sound depth (Some level) sound (MapIn s) code is deep w budget bytes x fits e =
    let l = sound level refl in subst (λ (d : ℕ). IsRead (SpellsItem code kind.Map) d 0 budget bytes x) l.1 (map_sound l.0 level l.2 s code is w budget bytes x fits e)
item_sound depth (Some level) sound (ArrayIn s) code is deep w budget bytes x fits e =
    let l = sound level refl in subst (λ (d : ℕ). IsRead (SpellsItem code kind.Array) d 0 budget bytes x) l.1 (array_sound l.0 level l.2 s code is w budget bytes x fits e)

described_sound : (depth : ℕ) (inner : Option Level) → ((level : Level) → inner ≡ Some level → (d : ℕ) × (suc d ≡ depth) × IsSoundLevel d level)
    → (at : ℕ) (w : Window) (due : ℕ) (budget : Budget) (bytes : List ℕ) (x : Tree × Budget × List ℕ) → IsBytes bytes → described_at inner at w due budget bytes ≡ Ok x
    → IsRead (λ t text. Spells t (0 ∷ text)) depth due budget bytes x
unfolding described_at Spells
described_sound depth None sound at w due budget bytes x fits e = absurd cc
described_sound depth (Some level) sound at w due budget bytes x fits e =
    let l = sound level refl in
    let a = bind_ok (charge budget (due + 2) at) (λ left. level.value w 0 left bytes >>= λ descriptor. level.value w 0 (behind budget descriptor.1) descriptor.2 >>= λ value. Ok
    (Described descriptor.0 value.0, value.1, value.2)) x e in
    let paid = spent_charge budget (due + 2) at a.0 a.1 in
    let b = bind_ok (level.value w 0 a.0 bytes) (λ descriptor. level.value w 0 (behind budget descriptor.1) descriptor.2 >>= λ value. Ok (Described descriptor.0 value.0, value.1, value.2)) x a.2 in
    let first = l.2.value 0 w a.0 bytes b.0 fits b.1 in
    let spent_first : Spent budget (due + 2 + nodes_in b.0.0) b.0.1 = after_charge budget a.0 b.0.1 (due + 2) (nodes_in b.0.0) paid (spent_same a.0 b.0.1 _ _ (omega arith) first.spent) in
    let c = bind_ok (level.value w 0 (behind budget b.0.1) b.0.2) (λ value. Ok (Described b.0.0 value.0, value.1, value.2)) x b.2 in
    let second = l.2.value 0 w (behind budget b.0.1) b.0.2 c.0 first.takes.rest_fits c.1 in
    subst (λ (y : Tree × Budget × List ℕ). IsRead (λ t text. Spells t (0 ∷ text)) depth due budget bytes y) (ok_is (Described b.0.0 c.0.0, c.0.1, c.0.2) x c.2) (record {
      text = first.text ++ second.text;
      takes = Takes-then bytes first.text b.0.2 second.text c.0.2 first.takes second.takes;
      spelled = (first.text, second.text, refl, first.spelled, second.spelled);
      deep = omega (arith, first.deep, second.deep, l.1);
      spent = spent_same budget c.0.1 _ _ (omega arith) (spent_then budget b.0.1 c.0.1 (due + 2 + nodes_in b.0.0) (nodes_in c.0.0) spent_first
          (spent_same (behind budget b.0.1) c.0.1 _ _ (omega arith) second.spent));
      lawful = λ q. (first.lawful (counted_charge budget a.0 (due + 2) at a.1 q), second.lawful (counted_behind budget b.0.1 _ spent_first q));
    })

some_is : (inner : Option Level) → is_some inner ≡ true → (level : Level) × (inner ≡ Some level)
some_is None e = absurd cc
some_is (Some level) e = (level, refl)

value_by_sound : (depth : ℕ) (inner : Option Level) → ((level : Level) → inner ≡ Some level → (d : ℕ) × (suc d ≡ depth) × IsSoundLevel d level)
    → (due : ℕ) → IsReader (λ w. value_by inner w due) Spells depth due
unfolding value_by
value_by_sound depth inner sound due w budget [] x fits e = absurd cc
value_by_sound depth inner sound due w budget (code ∷ rest) x fits e =
    elim (either_way (eqb code 0) (described_at inner (place w (code ∷ rest)) w due budget rest)
    (allowed (place w (code ∷ rest)) (is_some inner) (find_code code) >>= λ c. charge budget due (place w (code ∷ rest)) >>= λ left. item_by inner c w left rest) (Ok x) e) [
      | inl d ↦
          let is_zero : code ≡ 0 = eqb-true code 0 d.0 in
          let r = described_sound depth inner sound (place w (code ∷ rest)) w due budget rest x (IsBytes-rest code rest fits) d.1 in
          record {
            text = 0 ∷ r.text;
            takes = record { parts = ap (λ (k : ℕ). k ∷ rest) is_zero ∙ ap (λ (b : List ℕ). 0 ∷ b) r.takes.parts; rest_fits = r.takes.rest_fits };
            spelled = r.spelled;
            deep = r.deep;
            spent = r.spent;
            lawful = r.lawful;
          }
      | inr d ↦
          let a = bind_ok (allowed (place w (code ∷ rest)) (is_some inner) (find_code code)) (λ c. charge budget due (place w (code ∷ rest)) >>= λ left. item_by inner c w left rest) x d.1 in
          let ok = allowed_ok (place w (code ∷ rest)) (is_some inner) (find_code code) a.0 a.1 in
          let b = bind_ok (charge budget due (place w (code ∷ rest))) (λ left. item_by inner a.0 w left rest) x a.2 in
          let paid = spent_charge budget due (place w (code ∷ rest)) b.0 b.1 in
          let deep : is_container (kind_of a.0) ≡ true → 1 ≤ depth = λ is. let s = some_is inner (ok.1 is) in let l = sound s.0 s.1 in omega (arith, l.1) in
          let r = item_sound depth inner sound a.0 code ok.0 deep w b.0 rest x (IsBytes-rest code rest fits) b.2 in
          record {
            text = code ∷ r.text;
            takes = record { parts = ap (λ (b : List ℕ). code ∷ b) r.takes.parts; rest_fits = r.takes.rest_fits };
            spelled = r.spelled.0;
            deep = r.deep;
            spent = after_charge budget b.0 x.1 due (nodes_in x.0) paid (spent_same b.0 x.1 _ _ (omega arith) r.spent);
            lawful = λ q. r.lawful (counted_charge budget b.0 due (place w (code ∷ rest)) b.1 q);
          }
    ]

-- a level is sound where the one inside it is
pub sound_level : (depth : ℕ) (inner : Option Level) → ((level : Level) → inner ≡ Some level → (d : ℕ) × (suc d ≡ depth) × IsSoundLevel d level) → IsSoundLevel depth (level_by inner)
sound_level depth inner sound = record {
  value = value_by_sound depth inner sound;
  item = item_sound depth inner sound;
  holds = λ is. let s = some_is inner is in let l = sound s.0 s.1 in omega (arith, l.1);
}

some_same : (a b : Level) → Some a ≡ Some b → a ≡ b
some_same a b e = cc

-- so every level is
pub inside_sound : (depth : ℕ) (level : Level) → inside depth ≡ Some level → (d : ℕ) × (suc d ≡ depth) × IsSoundLevel d level
unfolding inside
inside_sound zero level e = absurd cc
inside_sound (suc depth) level e = (depth, refl, subst (λ (l : Level). IsSoundLevel depth l) (some_same (level_by (inside depth)) level e) (sound_level depth (inside depth) (inside_sound depth)))

-- what is read is spelled so, lawful and within the limits
pub value_sound : (depth : ℕ) (w : Window) (due : ℕ) (budget : Budget) (bytes : List ℕ) (x : Tree × Budget × List ℕ) → IsBytes bytes → value_by (inside depth) w due budget bytes ≡ Ok x →
    IsRead Spells depth due budget bytes x
value_sound depth w due budget bytes x fits e = value_by_sound depth (inside depth) (inside_sound depth) due w budget bytes x fits e
