-- How many deliveries of a session pass a test of their id and of themselves.
use Rattle.std.proofs.Common.{arith, ◌≡◌, ℕ, suc, ◌+◌, ◌^◌, ◌<◌, ◌≤◌, Bool, true, false, not, ◌&&◌, ◌||◌, cond, List, [], ◌∷◌, find, refl, sym, ap, ◌∙◌, Option, Some, None}
use Rattle.std.specs.Prelude.{sum_by, is_some, nat_eq, nat_lt, if◌then◌else◌}
use Rattle.std.specs.List.{list_any, count_by}
use Rattle.std.proofs.lemmas.Bool.{eqb-true, eqb-false, eq-eqb, ltb-true, ltb-false, lt-ltb, le-ltb}
use Rattle.std.proofs.lemmas.List.Sums.{sum_by-cons}
use Rattle.amqp_link.specs.declared.settlement.Standing.{Standing}
use Rattle.amqp_link.specs.declared.settlement.Standing.TheVariants.{Absent, Untaken, Told, Awaiting}
use Rattle.amqp_link.specs.Histories.{one_if}
use Rattle.amqp_link.specs.Laws.{id_count}
use Rattle.amqp_link.specs.Links.{Delivery, LinkState, open_set, untaken, has_id, covers, standing_at}
use Rattle.amqp_link.proofs.Hints.{no_true, count_cons as count_both}
use Rattle.amqp_link.proofs.PlaceKeys.{any_found}
use Rattle.amqp_link.proofs.Ranges.{either}
use Rattle.amqp_session.specs.declared.slot.Slot.{Slot}
use Rattle.amqp_session.specs.declared.slot.Slot.TheVariants.{Free, Live, Waits}
use Rattle.amqp_session.specs.Sessions.{LiveLink, SessionState, slot_count, table_count, IsApart}
use Rattle.amqp_session.specs.Calls.{slot_standing, or_later, standing_in}
use Rattle.amqp_session.specs.Slots.{at_place}
use Rattle.amqp_session.specs.Indexes.{is_untaken}
use Rattle.amqp_session.specs.Surveys.{live_number}
use Rattle.amqp_session.proofs.Ids.{table_cons}
use Rattle.amqp_session.proofs.Standings.{AreSmall, first_small, rest_small, parts_count, some_has, absent_none}
use Rattle.amqp_session.proofs.Names.{covers_same}

-- a test of a delivery, of which its id is one part
abbrev pub Test : Type 0
Test = Bool → Delivery → Bool

abbrev pub passes : Test → (ℕ → Bool) → Delivery → Bool
passes Q p d = Q (p d.delivery_id) d

-- how many pass it, of one part of each link
abbrev pub slot_number : Test → (LinkState → List Delivery) → (ℕ → Bool) → Slot LiveLink → ℕ
slot_number Q part p x = live_number (λ l. count_by (passes Q p) (part l)) x

abbrev pub number : Test → (LinkState → List Delivery) → (ℕ → Bool) → List (Slot LiveLink) → ℕ
number Q part p slots = sum_by (slot_number Q part p) slots

-- none passes whose id does not, and the part is one of the open deliveries
pub record IsPart (Q : Test) (part : LinkState → List Delivery) : Type 0 where
  pub none : (d : Delivery) → Q false d ≡ false
  pub within : (n : ℕ) (l : LinkState) → count_by (has_id n) (part l) ≤ id_count n l

pub counts : (t : Delivery → Bool) (d : Delivery) (ds : List Delivery) → count_by t (d ∷ ds) ≡ one_if (t d) + count_by t ds
counts t d ds = count_both t d ds

pub counts_itself : (d : Delivery) (ds : List Delivery) → 1 ≤ count_by (has_id d.delivery_id) (d ∷ ds)
counts_itself d ds = let here : one_if (has_id d.delivery_id d) ≡ 1 = ap one_if (eq-eqb d.delivery_id d.delivery_id refl) in omega (arith, here, counts (has_id d.delivery_id) d ds)

pub later_counts : (n : ℕ) (d : Delivery) (ds : List Delivery) → 1 ≤ count_by (has_id n) ds → 1 ≤ count_by (has_id n) (d ∷ ds)
later_counts n d ds m = omega (arith, m, counts (has_id n) d ds)

-- Deliveries. ----------------------------------------------------------------------------------------------------------------

module _ (Q : Test) (none : (d : Delivery) → Q false d ≡ false) where
  split_one : (a b : Bool) (d : Delivery) → (a ≡ true → b ≡ false) → one_if (Q (a || b) d) ≡ one_if (Q a d) + one_if (Q b d)
  split_one true b d off = let gone : one_if (Q b d) ≡ 0 = ap (λ (c : Bool). one_if (Q c d)) (off refl) ∙ ap one_if (none d) in omega (arith, gone)
  split_one false b d off = let gone : one_if (Q false d) ≡ 0 = ap one_if (none d) in omega (arith, gone)

  split_list : (p a b : ℕ → Bool) → ((n : ℕ) → a n ≡ true → b n ≡ false) → (ds : List Delivery) → ((n : ℕ) → 1 ≤ count_by (has_id n) ds → p n ≡ either a b n) →
      count_by (passes Q p) ds ≡ count_by (passes Q a) ds + count_by (passes Q b) ds
  split_list p a b off [] so = omega arith
  split_list p a b off (d ∷ ds) so =
      let here : one_if (passes Q p d) ≡ one_if (passes Q a d) + one_if (passes Q b d) =
      ap (λ (c : Bool). one_if (Q c d)) (so d.delivery_id (counts_itself d ds)) ∙ split_one (a d.delivery_id) (b d.delivery_id) d (off d.delivery_id) in
      let rest = split_list p a b off ds (λ n m. so n (later_counts n d ds m)) in
      omega (arith, here, rest, counts (passes Q p) d ds, counts (passes Q a) d ds, counts (passes Q b) d ds)

  nothing_list : (p : ℕ → Bool) → (ds : List Delivery) → ((n : ℕ) → 1 ≤ count_by (has_id n) ds → p n ≡ false) → count_by (passes Q p) ds ≡ 0
  nothing_list p [] so = refl
  nothing_list p (d ∷ ds) so =
      let here : one_if (passes Q p d) ≡ 0 = ap (λ (c : Bool). one_if (Q c d)) (so d.delivery_id (counts_itself d ds)) ∙ ap one_if (none d) in
      let rest = nothing_list p ds (λ n m. so n (later_counts n d ds m)) in omega (arith, here, rest, counts (passes Q p) d ds)

-- Sessions. ------------------------------------------------------------------------------------------------------------------

module _ (Q : Test) (part : LinkState → List Delivery) (is : IsPart Q part) where
  split_slot : (p a b : ℕ → Bool) → ((n : ℕ) → a n ≡ true → b n ≡ false) → (x : Slot LiveLink) → ((n : ℕ) → 1 ≤ slot_count n x → p n ≡ either a b n) →
      slot_number Q part p x ≡ slot_number Q part a x + slot_number Q part b x
  split_slot p a b off Free so = omega arith
  split_slot p a b off (Live l) so = split_list Q is.none p a b off (part l.link) (λ n m. so n (let more = is.within n l.link in omega (arith, m, more)))
  split_slot p a b off Waits so = omega arith

  -- those of one range are those of two others
  pub split : (p a b : ℕ → Bool) → ((n : ℕ) → a n ≡ true → b n ≡ false) → (slots : List (Slot LiveLink)) → ((n i : ℕ) → 1 ≤ slot_count n (at_place slots i) → p n ≡ either a b n) →
      number Q part p slots ≡ number Q part a slots + number Q part b slots
  split p a b off [] so = omega arith
  split p a b off (x ∷ slots) so = omega (
    arith,
    sum_by-cons (slot_number Q part p) x slots,
    sum_by-cons (slot_number Q part a) x slots,
    sum_by-cons (slot_number Q part b) x slots,
    split_slot p a b off x (λ n m. so n 0 m),
    split p a b off slots (λ n i m. so n (suc i) m),
  )

  nothing_slot : (p : ℕ → Bool) → (x : Slot LiveLink) → ((n : ℕ) → 1 ≤ slot_count n x → p n ≡ false) → slot_number Q part p x ≡ 0
  nothing_slot p Free so = refl
  nothing_slot p (Live l) so = nothing_list Q is.none p (part l.link) (λ n m. so n (let more = is.within n l.link in omega (arith, m, more)))
  nothing_slot p Waits so = refl

  -- or none are
  pub nothing : (p : ℕ → Bool) → (slots : List (Slot LiveLink)) → ((n i : ℕ) → 1 ≤ slot_count n (at_place slots i) → p n ≡ false) → number Q part p slots ≡ 0
  nothing p [] so = refl
  nothing p (x ∷ slots) so = omega (arith, sum_by-cons (slot_number Q part p) x slots, nothing_slot p x (λ n m. so n 0 m), nothing p slots (λ n i m. so n (suc i) m))

  -- fewer have one id of these than one of more
  pub fewer : (p q : ℕ → Bool) → ((n : ℕ) → p n ≡ true → q n ≡ true) → (slots : List (Slot LiveLink)) → number Q part p slots ≤ number Q part q slots
  fewer p q so slots = let two = split q p (λ n. q n && not (p n)) off slots (λ n i m. both (p n) (q n) (so n)) in omega (arith, two)
    where
      off : (n : ℕ) → p n ≡ true → (q n && not (p n)) ≡ false
      off n e = by (q n) (p n) e
        where
          by : (b a : Bool) → a ≡ true → (b && not a) ≡ false
          by true true e = refl
          by false true e = refl
          by true false e = absurd (no_true e)
          by false false e = absurd (no_true e)

      both : (a b : Bool) → (a ≡ true → b ≡ true) → b ≡ (a || (b && not a))
      both true b so = so refl
      both false true so = refl
      both false false so = refl

-- One id. --------------------------------------------------------------------------------------------------------------------

-- each id at a place has 32 bits
abbrev SlotShort : Slot LiveLink → Type 0
SlotShort x = (n : ℕ) → 2 ^ 32 ≤ n → slot_count n x ≡ 0

abbrev TableShort : List (Slot LiveLink) → Type 0
TableShort slots = (n : ℕ) → 2 ^ 32 ≤ n → table_count n slots ≡ 0

short_id : (n : ℕ) (ds : List Delivery) → AreSmall ds → 1 ≤ count_by (has_id n) ds → n < 2 ^ 32
short_id n ds small m = by (nat_lt n (2 ^ 32)) refl
  where
    by : (b : Bool) → nat_lt n (2 ^ 32) ≡ b → n < 2 ^ 32
    by true e = ltb-true n (2 ^ 32) e
    by false e = let none = small n (ltb-false n (2 ^ 32) e) in absurd (omega (arith, none, m))

-- the number of the one that is found
abbrev found_number : Test → Option Delivery → ℕ
found_number Q None = 0
found_number Q (Some d) = one_if (Q true d)

module _ (Q : Test) (none : (d : Delivery) → Q false d ≡ false) (id : ℕ) (low : id < 2 ^ 32) where
  -- none has it
  other_list : (ds : List Delivery) → AreSmall ds → count_by (has_id id) ds ≡ 0 → count_by (passes Q (covers id id)) ds ≡ 0
  other_list ds small away = nothing_list Q none (covers id id) ds other
    where
      other : (n : ℕ) → 1 ≤ count_by (has_id n) ds → covers id id n ≡ false
      other n m = covers_same id n low (short_id n ds small m) ∙ by (nat_eq n id) refl
        where
          by : (b : Bool) → nat_eq n id ≡ b → b ≡ false
          by true e =
              let same : count_by (has_id n) ds ≡ count_by (has_id id) ds = ap (λ (k : ℕ). count_by (has_id k) ds) (eqb-true n id e) in absurd (omega (arith, m, away, same))
          by false e = refl

  one_list : (ds : List Delivery) → AreSmall ds → count_by (has_id id) ds ≤ 1 → count_by (passes Q (covers id id)) ds ≡ found_number Q (find (has_id id) ds)
  one_list [] small once = refl
  one_list (d ∷ ds) small once = by (has_id id d) refl (one_list ds (rest_small d ds small))
    where
      covered : covers id id d.delivery_id ≡ has_id id d
      covered = covers_same id d.delivery_id low (first_small d ds small)

      by : (b : Bool) → has_id id d ≡ b → (count_by (has_id id) ds ≤ 1 → count_by (passes Q (covers id id)) ds ≡ found_number Q (find (has_id id) ds)) →
          count_by (passes Q (covers id id)) (d ∷ ds) ≡ found_number Q (find (has_id id) (d ∷ ds))
      by true e rest =
          let one : one_if (has_id id d) ≡ 1 = ap one_if e in
          let away = other_list ds (rest_small d ds small) (omega (arith, once, one, counts (has_id id) d ds)) in
          let here : one_if (passes Q (covers id id) d) ≡ one_if (Q true d) = ap (λ (c : Bool). one_if (Q c d)) (covered ∙ e) in
          let is : found_number Q (find (has_id id) (d ∷ ds)) ≡ one_if (Q true d) = ap (λ (c : Bool). found_number Q (cond c (Some d) (find (has_id id) ds))) e in
          omega (arith, away, here, is, counts (passes Q (covers id id)) d ds)
      by false e rest =
          let here : one_if (passes Q (covers id id) d) ≡ 0 = ap (λ (c : Bool). one_if (Q c d)) (covered ∙ e) ∙ ap one_if (none d) in
          let is : found_number Q (find (has_id id) (d ∷ ds)) ≡ found_number Q (find (has_id id) ds) = ap (λ (c : Bool). found_number Q (cond c (Some d) (find (has_id id) ds))) e in
          let later = rest (omega (arith, once, counts (has_id id) d ds)) in
          omega (arith, later, here, is, counts (passes Q (covers id id)) d ds)

module _ (id : ℕ) (low : id < 2 ^ 32) where
  -- of those that were handed up, as the id stands
  slot_awaiting : (Q : Test) → ((d : Delivery) → Q false d ≡ false) → (f : Standing → ℕ) → f Absent ≡ 0 → f Untaken ≡ 0 → ((d : Delivery) → one_if (Q true d) ≡ f (standing_at (Some d))) →
      (x : Slot LiveLink) → SlotShort x → slot_count id x ≤ 1 → slot_number Q (λ l. l.awaiting) (covers id id) x ≡ f (slot_standing id x)
  slot_awaiting Q none f absent up fits Free small once = sym absent
  slot_awaiting Q none f absent up fits (Live l) small once = by (list_any (has_id id) (untaken (open_set l.link))) refl
    where
      few : AreSmall l.link.awaiting
      few = λ n m. let zero = small n m in omega (arith, zero, parts_count n l.link)

      by_found : (o : Option Delivery) → found_number Q o ≡ f (standing_at o)
      by_found None = sym absent
      by_found (Some d) = fits d

      by : (b : Bool) → list_any (has_id id) (untaken (open_set l.link)) ≡ b →
          count_by (passes Q (covers id id)) l.link.awaiting ≡ f (if b then Untaken else standing_at (find (has_id id) l.link.awaiting))
      by true e =
          let one = some_has id (untaken (open_set l.link)) e in other_list Q none id low l.link.awaiting few (omega (arith, one, once, parts_count id l.link)) ∙ sym up
      by false e = one_list Q none id low l.link.awaiting few (omega (arith, once, parts_count id l.link)) ∙ by_found (find (has_id id) l.link.awaiting)
  slot_awaiting Q none f absent up fits Waits small once = sym absent

  -- and of the others
  slot_untaken : (x : Slot LiveLink) → SlotShort x → slot_count id x ≤ 1 → slot_number (λ c d. c) (λ l. untaken (open_set l)) (covers id id) x ≡ one_if (is_untaken (slot_standing id x))
  slot_untaken Free small once = refl
  slot_untaken (Live l) small once =
      one_list (λ c d. c) (λ d. refl) id low (untaken (open_set l.link)) (λ n m. let zero = small n m in omega (arith, zero, parts_count n l.link)) (omega (arith, once, parts_count id l.link))
      ∙ by (find (has_id id) (untaken (open_set l.link))) (list_any (has_id id) (untaken (open_set l.link))) (any_found (has_id id) (untaken (open_set l.link)))
    where
      by_told : (b : Bool) (d : Delivery) → one_if (is_untaken (if b then Told else Awaiting d.rcv_settle_mode)) ≡ 0
      by_told true d = refl
      by_told false d = refl

      taken : (o : Option Delivery) → one_if (is_untaken (standing_at o)) ≡ 0
      taken None = refl
      taken (Some d) = by_told d.told d

      by : (o : Option Delivery) (b : Bool) → b ≡ is_some o → found_number (λ c d. c) o ≡ one_if (is_untaken (if b then Untaken else standing_at (find (has_id id) l.link.awaiting)))
      by None true e = absurd (no_true (sym e))
      by None false e = sym (taken (find (has_id id) l.link.awaiting))
      by (Some d) true e = refl
      by (Some d) false e = absurd (no_true e)
  slot_untaken Waits small once = refl

  -- What is so of each place is so of the table, where at most one open delivery has the id.
  table_one : (M : Slot LiveLink → ℕ) (f : Standing → ℕ) → f Absent ≡ 0 → ((x : Slot LiveLink) → SlotShort x → slot_count id x ≤ 1 → M x ≡ f (slot_standing id x)) → (slots : List (Slot LiveLink)) → TableShort slots →
      table_count id slots ≤ 1 → sum_by M slots ≡ f (standing_in id slots)
  table_one M f absent each [] small once = sym absent
  table_one M f absent each (x ∷ slots) small once =
      by (table_one M f absent each slots (λ n m. let zero = small n m in omega (arith, zero, table_cons n x slots)) (omega (arith, once, table_cons id x slots))) (nat_eq (slot_count id x) 0) refl
    where
      here : M x ≡ f (slot_standing id x)
      here = each x (λ n m. let zero = small n m in omega (arith, zero, table_cons n x slots)) (omega (arith, once, table_cons id x slots))

      gone : (xs : List (Slot LiveLink)) → table_count id xs ≡ 0 → standing_in id xs ≡ Absent
      gone [] e = refl
      gone (y ∷ xs) e =
          ap (λ (a : Standing). or_later a (standing_in id xs)) (absent_none id y (omega (arith, e, table_cons id y xs))) ∙ gone xs (omega (arith, e, table_cons id y xs))

      or_absent : (a : Standing) → or_later a Absent ≡ a
      or_absent Absent = refl
      or_absent Untaken = refl
      or_absent Told = refl
      or_absent (Awaiting mode) = refl

      by : sum_by M slots ≡ f (standing_in id slots) → (b : Bool) → nat_eq (slot_count id x) 0 ≡ b → sum_by M (x ∷ slots) ≡ f (standing_in id (x ∷ slots))
      by rest true e =
          let away = absent_none id x (eqb-true (slot_count id x) 0 e) in
          let zero : M x ≡ 0 = here ∙ ap f away ∙ absent in
          let is : f (standing_in id (x ∷ slots)) ≡ f (standing_in id slots) = ap (λ (a : Standing). f (or_later a (standing_in id slots))) away in
          omega (arith, zero, rest, is, sum_by-cons M x slots)
      by rest false e =
          let more = eqb-false (slot_count id x) 0 e in
          let none = gone slots (omega (arith, once, more, table_cons id x slots)) in
          let zero : sum_by M slots ≡ 0 = rest ∙ ap f none ∙ absent in
          let is : f (standing_in id (x ∷ slots)) ≡ f (slot_standing id x) = ap f (ap (λ (a : Standing). or_later (slot_standing id x) a) none ∙ or_absent (slot_standing id x)) in
          omega (arith, zero, here, is, sum_by-cons M x slots)

-- of a session
module _ (s : SessionState) (id : ℕ) (apart : IsApart s) (low : id < 2 ^ 32) where
  pub short : TableShort s.links
  short = λ n m. let few = apart n in let room : one_if (nat_lt n (2 ^ 32)) ≡ 0 = ap one_if (le-ltb n (2 ^ 32) m) in omega (arith, few, room)

  pub once : table_count id s.links ≤ 1
  once = let few = apart id in let room : one_if (nat_lt id (2 ^ 32)) ≡ 1 = ap one_if (lt-ltb id (2 ^ 32) low) in omega (arith, few, room)

  pub one_awaiting : (Q : Test) → ((d : Delivery) → Q false d ≡ false) → (f : Standing → ℕ) → f Absent ≡ 0 → f Untaken ≡ 0 → ((d : Delivery) → one_if (Q true d) ≡ f (standing_at (Some d))) →
      number Q (λ l. l.awaiting) (covers id id) s.links ≡ f (standing_in id s.links)
  one_awaiting Q none f absent up fits = table_one id low (slot_number Q (λ l. l.awaiting) (covers id id)) f absent (slot_awaiting id low Q none f absent up fits) s.links short once

  pub one_untaken : number (λ c d. c) (λ l. untaken (open_set l)) (covers id id) s.links ≡ one_if (is_untaken (standing_in id s.links))
  one_untaken = table_one id low (slot_number (λ c d. c) (λ l. untaken (open_set l)) (covers id id)) (λ a. one_if (is_untaken a)) refl (slot_untaken id low) s.links short once
