-- A settle of one id names one delivery of the session, where one with it awaits what became of it.
use Rattle.std.proofs.Common.{arith, ◌≡◌, ℕ, ◌^◌, ◌<◌, ◌≤◌, inl, inr, subst, Bool, true, false, cond, List, [], ◌∷◌, find, refl, sym, ap, ◌∙◌, le-leb, Some}
use Rattle.std.specs.Prelude.{sum_by, nat_eq, nat_lt, if◌then◌else◌}
use Rattle.std.specs.List.{list_any, count_by}
use Rattle.std.proofs.lemmas.Bool.{cases_Bool, eqb-true, lt-ltb, le-ltb, and_from, false_from_ne_true, true≢false}
use Rattle.std.proofs.lemmas.List.Sums.{sum_by-cons}
use Rattle.amqp_serial.specs.Numbers.{distance_of}
use Rattle.amqp_perform.specs.declared.modes.ReceiverSettleMode.{ReceiverSettleMode}
use Rattle.amqp_link.specs.declared.settlement.Standing.{Standing}
use Rattle.amqp_link.specs.declared.settlement.Standing.TheVariants.{Absent, Untaken, Told, Awaiting}
use Rattle.amqp_link.specs.Histories as link
use Rattle.amqp_link.specs.Links.{Delivery, open_set, untaken, has_id, covers, is_covered, standing_at}
use Rattle.amqp_session.specs.declared.slot.Slot.{Slot}
use Rattle.amqp_session.specs.declared.slot.Slot.TheVariants.{Free, Live, Waits}
use Rattle.amqp_link.specs.Histories.{one_if}
use Rattle.amqp_session.specs.Sessions.{LiveLink, SessionState, slot_count, table_count, IsApart}
use Rattle.amqp_session.specs.Calls.{slot_standing, or_later, standing_in}
use Rattle.amqp_session.specs.Laws.{slot_named, named_total}
use Rattle.amqp_session.proofs.Ids.{table_cons}
use Rattle.amqp_session.proofs.Standings.{count_cons, parts_count, AreSmall, first_small, rest_small, covered_id}

-- One link. ------------------------------------------------------------------------------------------------------------------

pub covers_same : (id x : ℕ) → id < 2 ^ 32 → x < 2 ^ 32 → covers id id x ≡ nat_eq x id
covers_same id x l m = elim (cases_Bool (nat_eq x id)) [
  | inl e ↦ (
      let same = eqb-true x id e in
      and_from _ _ (lt-ltb (distance_of id id) (2 ^ 31) (omega (arith, l))) (le-leb (distance_of id x) (distance_of id id) (omega (arith, l, m, same))) ∙ sym e
      )
  | inr e ↦ false_from_ne_true (covers id id x) (λ c. true≢false (sym (covered_id id x l m c) ∙ e)) ∙ sym e
]

same_count : (id : ℕ) → id < 2 ^ 32 → (ds : List Delivery) → AreSmall ds → count_by (is_covered id id) ds ≡ count_by (has_id id) ds
same_count id l [] small = refl
same_count id l (d ∷ ds) small =
    let here : link.one_if (is_covered id id d) ≡ link.one_if (has_id id d) = ap link.one_if (covers_same id d.delivery_id l (first_small d ds small)) in
    let rest = same_count id l ds (rest_small d ds small) in
    omega (arith, sum_by-cons (λ (d : Delivery). link.one_if (is_covered id id d)) d ds, count_cons id d ds, here, rest)

-- one that is found counts
found_counts : (id : ℕ) (mode : ReceiverSettleMode) (ds : List Delivery) → standing_at (find (has_id id) ds) ≡ Awaiting mode → 1 ≤ count_by (has_id id) ds
found_counts id mode [] e = absurd (grind (arith, e))
found_counts id mode (d ∷ ds) e = elim (cases_Bool (has_id id d)) [
  | inl here ↦ let first : link.one_if (has_id id d) ≡ 1 = ap link.one_if here in omega (arith, count_cons id d ds, first)
  | inr other ↦ (
      let later : standing_at (find (has_id id) ds) ≡ Awaiting mode = subst (λ (b : Bool). standing_at (cond b (Some d) (find (has_id id) ds)) ≡ Awaiting mode) other e in
      let rest = found_counts id mode ds later in omega (arith, count_cons id d ds, rest)
      )
]

-- The table. -----------------------------------------------------------------------------------------------------------------

-- each id in the table has 32 bits
abbrev TableSmall : List (Slot LiveLink) → Type 0
TableSmall slots = (n : ℕ) → 2 ^ 32 ≤ n → table_count n slots ≡ 0

abbrev SlotSmall : Slot LiveLink → Type 0
SlotSmall s = (n : ℕ) → 2 ^ 32 ≤ n → slot_count n s ≡ 0

named_is : (id : ℕ) → id < 2 ^ 32 → (l : LiveLink) → SlotSmall (Live l) → slot_named id id (Live l) ≡ count_by (has_id id) l.link.awaiting
named_is id l link small = same_count id l link.link.awaiting (λ n m. let none = small n m in omega (arith, none, parts_count n link.link))

slot_most : (id : ℕ) → id < 2 ^ 32 → (s : Slot LiveLink) → SlotSmall s → slot_named id id s ≤ slot_count id s
slot_most id l Free small = omega arith
slot_most id l (Live link) small = omega (arith, named_is id l link small, parts_count id link.link)
slot_most id l Waits small = omega arith

table_most : (id : ℕ) → id < 2 ^ 32 → (slots : List (Slot LiveLink)) → TableSmall slots → sum_by (slot_named id id) slots ≤ table_count id slots
table_most id l [] small = omega arith
table_most id l (s ∷ slots) small =
    let here = slot_most id l s (λ n m. let none = small n m in omega (arith, none, table_cons n s slots)) in
    let rest = table_most id l slots (λ n m. let none = small n m in omega (arith, none, table_cons n s slots)) in
    omega (arith, here, rest, sum_by-cons (slot_named id id) s slots, table_cons id s slots)

slot_least : (id : ℕ) (mode : ReceiverSettleMode) → id < 2 ^ 32 → (s : Slot LiveLink) → SlotSmall s → slot_standing id s ≡ Awaiting mode → 1 ≤ slot_named id id s
slot_least id mode l Free small e = absurd (grind (arith, e))
slot_least id mode l (Live link) small e =
    let some = found_counts id mode link.link.awaiting (later (list_any (has_id id) (untaken (open_set link.link))) e) in omega (arith, some, named_is id l link small)
  where
    later : (b : Bool) → (if b then Untaken else standing_at (find (has_id id) link.link.awaiting)) ≡ Awaiting mode → standing_at (find (has_id id) link.link.awaiting) ≡ Awaiting mode
    later true e = absurd (grind (arith, e))
    later false e = e
slot_least id mode l Waits small e = absurd (grind (arith, e))

table_least : (id : ℕ) (mode : ReceiverSettleMode) → id < 2 ^ 32 → (slots : List (Slot LiveLink)) → TableSmall slots → standing_in id slots ≡ Awaiting mode → 1 ≤ sum_by (slot_named id id) slots
table_least id mode l [] small e = absurd (grind (arith, e))
table_least id mode l (s ∷ slots) small e =
    let sum = sum_by-cons (slot_named id id) s slots in
    by (λ e. let rest = table_least id mode l slots (λ n m. let none = small n m in omega (arith, none, table_cons n s slots)) e in omega (arith, rest, sum)) (slot_standing id s) refl e
  where
    by : (standing_in id slots ≡ Awaiting mode → 1 ≤ sum_by (slot_named id id) (s ∷ slots)) → (x : Standing) → slot_standing id s ≡ x → or_later x (standing_in id slots) ≡ Awaiting mode →
        1 ≤ sum_by (slot_named id id) (s ∷ slots)
    by rest Absent is e = rest e
    by rest Untaken is e = absurd (grind (arith, e))
    by rest Told is e = absurd (grind (arith, e))
    by rest (Awaiting m) is e =
        let here = slot_least id m l s (λ n m. let none = small n m in omega (arith, none, table_cons n s slots)) is in omega (arith, here, sum_by-cons (slot_named id id) s slots)

-- an id that awaits its outcome names one delivery
pub names_one : (s : SessionState) (id : ℕ) (mode : ReceiverSettleMode) → IsApart s → id < 2 ^ 32 → standing_in id s.links ≡ Awaiting mode → named_total id id s ≡ 1
names_one s id mode apart l stands =
    let small : TableSmall s.links = λ n m. none n m in
    let room : one_if (nat_lt id (2 ^ 32)) ≡ 1 = ap one_if (lt-ltb id (2 ^ 32) l) in
    let most = apart id in omega (arith, most, room, table_most id l s.links small, table_least id mode l s.links small stands)
  where
    none : (n : ℕ) → 2 ^ 32 ≤ n → table_count n s.links ≡ 0
    none n m =
        let room : one_if (nat_lt n (2 ^ 32)) ≡ 0 = ap one_if (le-ltb n (2 ^ 32) m) in
        let most = apart n in omega (arith, most, room)
