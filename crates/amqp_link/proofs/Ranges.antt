-- A settle of a range of ids, and one id by one.
use Rattle.std.proofs.Common.{arith, ◌≡◌, ℕ, ◌+◌, ◌^◌, ◌<◌, ◌↔◌, inl, inr, Bool, true, false, not, ◌&&◌, ◌||◌, cond, List, [], ◌∷◌, ◌++◌, map, filter, refl, sym, ap, ◌∙◌, Option, Some, None}
use Rattle.std.specs.Prelude.{option_map, option_to_list}
use Rattle.std.specs.List.{AllByRecursion, list_any, count_by}
use Rattle.std.proofs.Math.Bool.{or_assoc, or-false, and-true, and-false}
use Rattle.std.proofs.lemmas.Bool.{cases_Bool, and_parts, and_from, ltb-true, leb-true, lt-ltb, le-leb, or_left, or_right}
use Rattle.amqp_serial.specs.Numbers.{IsInRange}
use Rattle.amqp_link.specs.Links.{Delivery, covers, newly_settled, OpenSet, in_order, open_set, with_open, LinkState, deliveries, link_after, SenderSettled}
use Rattle.amqp_link.specs.Histories.{one_if}
use Rattle.amqp_link.specs.Laws.{open_ids, settle_each, settled_each}
use Rattle.amqp_link.proofs.Settlements.{all_from}
use Rattle.amqp_link.proofs.Counts.{count_cons, count_parts, option_list}

-- Ids. -----------------------------------------------------------------------------------------------------------

-- a range covers the ids that stand in it as serial numbers
pub covers_range : (first last id : ℕ) → (covers first last id ≡ true) ↔ IsInRange first last id
covers_range first last id = (
  λ e. let p = and_parts _ _ e in (ltb-true _ _ p.0, leb-true _ _ p.1),
  λ r. and_from _ _ (lt-ltb _ _ r.0) (le-leb _ _ r.1),
)

-- a range of one id has that id alone
pub covers_itself : (id : ℕ) → id < 2 ^ 32 → covers id id id ≡ true
covers_itself id l = (covers_range id id id).1 (omega (arith, l), omega arith)

covers_one : (id x : ℕ) → id < 2 ^ 32 → x < 2 ^ 32 → covers id id x ≡ true → id ≡ x
covers_one id x l m e = let r = (covers_range id id x).0 e in omega (arith, l, m, r.1)

-- Settling by a test of the id. ------------------------------------------------------------------------------------

-- settled where the test holds
abbrev pub settled_if : (ℕ → Bool) → Delivery → Delivery
settled_if p d = record d { settled = d.settled || p d.delivery_id }

abbrev pub newly_if : (ℕ → Bool) → Delivery → Bool
newly_if p d = not d.settled && p d.delivery_id

abbrev pub left_by : (ℕ → Bool) → List Delivery → List Delivery
left_by p ds = filter (λ d. not (p d.delivery_id)) ds

abbrev pub settled_where : (ℕ → Bool) → OpenSet → OpenSet
settled_where p o = record { awaiting = left_by p o.awaiting; ready = map (settled_if p) o.ready; unfinished = option_map (settled_if p) o.unfinished }

abbrev pub either : (ℕ → Bool) → (ℕ → Bool) → ℕ → Bool
either q p x = q x || p x

set_of : List Delivery → List Delivery → Option Delivery → OpenSet
set_of ds rs p = record { awaiting = ds; ready = rs; unfinished = p }

set_same : (ds es rs ss : List Delivery) (p q : Option Delivery) → ds ≡ es → rs ≡ ss → p ≡ q → set_of ds rs p ≡ set_of es ss q
set_same ds es rs ss p q e f g = rw (e, f, g) refl

-- no test holds
left_all : (ds : List Delivery) → left_by (λ x. false) ds ≡ ds
left_all [] = refl
left_all (d ∷ ds) = ap (λ (es : List Delivery). d ∷ es) (left_all ds)

settled_as_is : (d : Delivery) → settled_if (λ x. false) d ≡ d
settled_as_is d = ap (λ (b : Bool). record d { settled = b }) (or-false d.settled)

map_as_is : (ds : List Delivery) → map (settled_if (λ x. false)) ds ≡ ds
map_as_is [] = refl
map_as_is (d ∷ ds) = rw (settled_as_is d, map_as_is ds) refl

option_as_is : (o : Option Delivery) → option_map (settled_if (λ x. false)) o ≡ o
option_as_is None = refl
option_as_is (Some d) = ap Some (settled_as_is d)

where_none : (o : OpenSet) → settled_where (λ x. false) o ≡ o
unfolding set_of
where_none o = set_same _ _ _ _ _ _ (left_all o.awaiting) (map_as_is o.ready) (option_as_is o.unfinished)

count_none : (ds : List Delivery) → count_by (newly_if (λ x. false)) ds ≡ 0
count_none [] = refl
count_none (d ∷ ds) = count_cons (newly_if (λ x. false)) d ds ∙ ap (λ (b : Bool). one_if b + count_by (newly_if (λ x. false)) ds) (and-false (not d.settled)) ∙ omega (arith, count_none ds)

-- one test after the other
module _ (q p : ℕ → Bool) where
  left_twice : (ds : List Delivery) → left_by p (left_by q ds) ≡ left_by (either q p) ds
  left_twice [] = refl
  left_twice (d ∷ ds) = elim (cases_Bool (q d.delivery_id)) [ inl e ↦ rw (e, left_twice ds) refl | inr e ↦ rw (e, left_twice ds) refl ]

  settled_twice : (d : Delivery) → settled_if p (settled_if q d) ≡ settled_if (either q p) d
  settled_twice d = ap (λ (b : Bool). record d { settled = b }) (or_assoc d.settled (q d.delivery_id) (p d.delivery_id))

  map_twice : (ds : List Delivery) → map (settled_if p) (map (settled_if q) ds) ≡ map (settled_if (either q p)) ds
  map_twice [] = refl
  map_twice (d ∷ ds) = rw (settled_twice d, map_twice ds) refl

  option_twice : (o : Option Delivery) → option_map (settled_if p) (option_map (settled_if q) o) ≡ option_map (settled_if (either q p)) o
  option_twice None = refl
  option_twice (Some d) = ap Some (settled_twice d)

  where_twice : (o : OpenSet) → settled_where p (settled_where q o) ≡ settled_where (either q p) o
  unfolding set_of
  where_twice o = set_same _ _ _ _ _ _ (left_twice o.awaiting) (map_twice o.ready) (option_twice o.unfinished)

  count_left : (ds : List Delivery) → count_by (newly_if (either q p)) ds ≡ count_by (newly_if q) ds + count_by (newly_if p) (left_by q ds)
  count_left [] = refl
  count_left (d ∷ ds) =
      let whole = count_cons (newly_if (either q p)) d ds in
      let first = count_cons (newly_if q) d ds in
      let rest = count_left ds in
      elim (cases_Bool (q d.delivery_id)) [
        | inl e ↦ omega (arith, whole, first, rest, here d.settled (q d.delivery_id) (p d.delivery_id) e, ap (count_by (newly_if p)) (gone e))
        | inr e ↦ omega (
          arith,
          whole,
          first,
          rest,
          later d.settled (q d.delivery_id) (p d.delivery_id) e,
          ap (count_by (newly_if p)) (left e),
          count_cons (newly_if p) d (left_by q ds),
        )
      ]
    where
      here : (s a b : Bool) → a ≡ true → one_if (not s && (a || b)) ≡ one_if (not s && a)
      here s a b e = rw e refl

      later : (s a b : Bool) → a ≡ false → one_if (not s && (a || b)) ≡ one_if (not s && a) + one_if (not s && b)
      later true a b e = refl
      later false a b e = rw e (omega arith)

      gone : q d.delivery_id ≡ true → left_by q (d ∷ ds) ≡ left_by q ds
      gone e = rw e refl

      left : q d.delivery_id ≡ false → left_by q (d ∷ ds) ≡ d ∷ left_by q ds
      left e = rw e refl

  count_settled : (ds : List Delivery) → count_by (newly_if (either q p)) ds ≡ count_by (newly_if q) ds + count_by (newly_if p) (map (settled_if q) ds)
  count_settled [] = refl
  count_settled (d ∷ ds) =
      let whole = count_cons (newly_if (either q p)) d ds in
      let first = count_cons (newly_if q) d ds in
      let second = count_cons (newly_if p) (settled_if q d) (map (settled_if q) ds) in
      omega (arith, whole, first, second, here d.settled (q d.delivery_id) (p d.delivery_id), count_settled ds)
    where
      here : (s a b : Bool) → one_if (not s && (a || b)) ≡ one_if (not s && a) + one_if (not (s || a) && b)
      here true a b = refl
      here false true b = refl
      here false false b = omega arith

  count_twice : (o : OpenSet) → count_by (newly_if (either q p)) (in_order o) ≡ count_by (newly_if q) (in_order o) + count_by (newly_if p) (in_order (settled_where q o))
  count_twice o =
      let last = option_to_list o.unfinished in
      omega (
        arith,
        count_parts (newly_if (either q p)) o.awaiting o.ready last,
        count_parts (newly_if q) o.awaiting o.ready last,
        count_parts (newly_if p) (left_by q o.awaiting) (map (settled_if q) o.ready) (option_to_list (option_map (settled_if q) o.unfinished)),
        ap (count_by (newly_if p)) (option_list (settled_if q) o.unfinished),
        count_left o.awaiting,
        count_settled o.ready,
        count_settled last,
      )

-- two tests that say the same of each delivery
module _ (p q : ℕ → Bool) where
  abbrev Agree : List Delivery → Type 0
  Agree ds = AllByRecursion (λ d. p d.delivery_id ≡ q d.delivery_id) ds

  left_agree : (ds : List Delivery) → Agree ds → left_by p ds ≡ left_by q ds
  left_agree [] all = refl
  left_agree (d ∷ ds) all = rw (all.0, left_agree ds all.1) refl

  settled_agree : (d : Delivery) → p d.delivery_id ≡ q d.delivery_id → settled_if p d ≡ settled_if q d
  settled_agree d e = ap (λ (b : Bool). record d { settled = d.settled || b }) e

  map_agree : (ds : List Delivery) → Agree ds → map (settled_if p) ds ≡ map (settled_if q) ds
  map_agree [] all = refl
  map_agree (d ∷ ds) all = rw (settled_agree d all.0, map_agree ds all.1) refl

  option_agree : (o : Option Delivery) → Agree (option_to_list o) → option_map (settled_if p) o ≡ option_map (settled_if q) o
  option_agree None all = refl
  option_agree (Some d) all = ap Some (settled_agree d all.0)

  agree_front : (ds es : List Delivery) → Agree (ds ++ es) → Agree ds
  agree_front [] es all = tt
  agree_front (d ∷ ds) es all = (all.0, agree_front ds es all.1)

  agree_rest : (ds es : List Delivery) → Agree (ds ++ es) → Agree es
  agree_rest [] es all = all
  agree_rest (d ∷ ds) es all = agree_rest ds es all.1

  where_agree : (o : OpenSet) → Agree (in_order o) → settled_where p o ≡ settled_where q o
  unfolding set_of
  where_agree o all =
      let front = agree_front (o.awaiting ++ o.ready) (option_to_list o.unfinished) all in
      set_same _ _ _ _ _ _
      (left_agree o.awaiting (agree_front o.awaiting o.ready front))
      (map_agree o.ready (agree_rest o.awaiting o.ready front))
      (option_agree o.unfinished (agree_rest (o.awaiting ++ o.ready) (option_to_list o.unfinished) all))

  count_agree : (ds : List Delivery) → Agree ds → count_by (newly_if p) ds ≡ count_by (newly_if q) ds
  count_agree [] all = refl
  count_agree (d ∷ ds) all = omega (arith, count_cons (newly_if p) d ds, count_cons (newly_if q) d ds, ap (λ (b : Bool). one_if (not d.settled && b)) all.0, count_agree ds all.1)

-- One range as two, or as none. ------------------------------------------------------------------------------------

module _ (a b : ℕ) (l : LinkState) where
  -- where the range covers the open deliveries that one of the two covers
  module _ (c d e f : ℕ) (all : AllByRecursion (λ x. covers a b x.delivery_id ≡ either (covers c d) (covers e f) x.delivery_id) (deliveries l)) where
    pub settled_in_two : link_after l (SenderSettled a b) ≡ link_after (link_after l (SenderSettled c d)) (SenderSettled e f)
    settled_in_two =
        ap (with_open l) (where_agree (covers a b) (either (covers c d) (covers e f)) (open_set l) all ∙ sym (where_twice (covers c d) (covers e f) (open_set l)))

    pub counted_in_two : newly_settled a b (open_set l) ≡ newly_settled c d (open_set l) + newly_settled e f (open_set (link_after l (SenderSettled c d)))
    counted_in_two = count_agree (covers a b) (either (covers c d) (covers e f)) (deliveries l) all ∙ count_twice (covers c d) (covers e f) (open_set l)

  -- where it covers none
  module _ (none : AllByRecursion (λ x. covers a b x.delivery_id ≡ false) (deliveries l)) where
    pub settled_nothing : link_after l (SenderSettled a b) ≡ l
    settled_nothing = ap (with_open l) (where_agree (covers a b) (λ x. false) (open_set l) none ∙ where_none (open_set l))

    pub counted_nothing : newly_settled a b (open_set l) ≡ 0
    counted_nothing = count_agree (covers a b) (λ x. false) (deliveries l) none ∙ count_none (deliveries l)

-- One by one. ------------------------------------------------------------------------------------------------------

-- the id is one of these
abbrev is_one_of : List ℕ → ℕ → Bool
is_one_of ids x = list_any (λ id. covers id id x) ids

each_settled : (ids : List ℕ) (s : LinkState) → settle_each ids s ≡ with_open s (settled_where (is_one_of ids) (open_set s))
each_settled [] s = ap (with_open s) (sym (where_none (open_set s)))
each_settled (id ∷ ids) s =
    each_settled ids (link_after s (SenderSettled id id))
    ∙ ap (with_open s) (where_twice (covers id id) (is_one_of ids) (open_set s))

each_counted : (ids : List ℕ) (s : LinkState) → settled_each ids s ≡ count_by (newly_if (is_one_of ids)) (deliveries s)
each_counted [] s = sym (count_none (deliveries s))
each_counted (id ∷ ids) s =
    ap (λ (n : ℕ). newly_settled id id (open_set s) + n) (each_counted ids (link_after s (SenderSettled id id)))
    ∙ sym (count_twice (covers id id) (is_one_of ids) (open_set s))

-- an id is one of those that pass a test where it is one of them, and passes
module _ (test : ℕ → Bool) (x : ℕ) where
  one_here : (a : Bool) (id : ℕ) (ids : List ℕ) → a ≡ test x → covers id id x ≡ true → is_one_of (filter test ids) x ≡ (test x && is_one_of ids x) →
      is_one_of (cond a (id ∷ filter test ids) (filter test ids)) x ≡ (test x && true)
  one_here true id ids same e rest = or_left (covers id id x) (is_one_of (filter test ids) x) e ∙ ap (λ (b : Bool). b && true) same
  one_here false id ids same e rest = rest ∙ ap (λ (b : Bool). b && is_one_of ids x) (sym same) ∙ ap (λ (b : Bool). b && true) same

  none_here : (a : Bool) (id : ℕ) (ids : List ℕ) → covers id id x ≡ false → is_one_of (cond a (id ∷ filter test ids) (filter test ids)) x ≡ is_one_of (filter test ids) x
  none_here true id ids e = rw e refl
  none_here false id ids e = refl

  one_of_passed : x < 2 ^ 32 → (ids : List ℕ) → AllByRecursion (λ id. id < 2 ^ 32) ids → is_one_of (filter test ids) x ≡ (test x && is_one_of ids x)
  one_of_passed l [] all = sym (and-false (test x))
  one_of_passed l (id ∷ ids) all = elim (cases_Bool (covers id id x)) [
    | inl e ↦ rw e (one_here (test id) id ids (ap test (covers_one id x all.0 l e)) e (one_of_passed l ids all.1))
    | inr e ↦ rw e (none_here (test id) id ids e ∙ one_of_passed l ids all.1)
  ]

each_itself : (ds : List Delivery) → AllByRecursion (λ d. d.delivery_id < 2 ^ 32) ds → AllByRecursion (λ d. is_one_of (map (λ d. d.delivery_id) ds) d.delivery_id ≡ true) ds
each_itself [] all = tt
each_itself (d ∷ ds) all = (
  or_left _ _ (covers_itself d.delivery_id all.0),
  all_from _ _ (λ x e. or_right (covers d.delivery_id d.delivery_id x.delivery_id) _ e) ds (each_itself ds all.1),
)

ids_low : (ds : List Delivery) → AllByRecursion (λ d. d.delivery_id < 2 ^ 32) ds → AllByRecursion (λ id. id < 2 ^ 32) (map (λ d. d.delivery_id) ds)
ids_low [] all = tt
ids_low (d ∷ ds) all = (all.0, ids_low ds all.1)

module _ (first last : ℕ) (s : LinkState) (low : AllByRecursion (λ d. d.delivery_id < 2 ^ 32) (deliveries s)) where
  range_agrees : Agree (covers first last) (is_one_of (filter (covers first last) (open_ids s))) (deliveries s)
  range_agrees = both (deliveries s) low (each_itself (deliveries s) low)
    where
      one : (x : ℕ) → x < 2 ^ 32 → is_one_of (open_ids s) x ≡ true → covers first last x ≡ is_one_of (filter (covers first last) (open_ids s)) x
      one x l e = sym (one_of_passed (covers first last) x l (open_ids s) (ids_low (deliveries s) low) ∙ ap (λ (b : Bool). covers first last x && b) e ∙ and-true (covers first last x))

      both : (ds : List Delivery) → AllByRecursion (λ d. d.delivery_id < 2 ^ 32) ds → AllByRecursion (λ d. is_one_of (open_ids s) d.delivery_id ≡ true) ds →
          Agree (covers first last) (is_one_of (filter (covers first last) (open_ids s))) ds
      both [] l e = tt
      both (d ∷ ds) l e = (one d.delivery_id l.0 e.0, both ds l.1 e.1)

  pub settled_one_by_one : link_after s (SenderSettled first last) ≡ settle_each (filter (covers first last) (open_ids s)) s
  settled_one_by_one =
      ap (with_open s) (where_agree (covers first last) (is_one_of (filter (covers first last) (open_ids s))) (open_set s) range_agrees)
      ∙ sym (each_settled (filter (covers first last) (open_ids s)) s)

  pub counted_one_by_one : newly_settled first last (open_set s) ≡ settled_each (filter (covers first last) (open_ids s)) s
  counted_one_by_one =
      count_agree (covers first last) (is_one_of (filter (covers first last) (open_ids s))) (deliveries s) range_agrees
      ∙ sym (each_counted (filter (covers first last) (open_ids s)) s)
