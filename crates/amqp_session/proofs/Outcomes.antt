-- What a settle of one id leaves: in mode first no open delivery has the id, in mode second the sender was told of the one that has it.
use Rattle.std.proofs.Common.{arith, ◌≡◌, ℕ, suc, ◌+◌, ◌^◌, ◌<◌, ◌≤◌, inl, inr, subst, Bool, true, false, not, cond, List, [], ◌∷◌, map, filter, find, refl, ap, ◌∙◌}
use Rattle.std.proofs.Common.{le-leb, Option, Some}
use Rattle.std.specs.Prelude.{nat_eq, nat_lt, if◌then◌else◌}
use Rattle.std.specs.List.{list_any, count_by}
use Rattle.std.proofs.lemmas.Bool.{cases_Bool, eqb-true, lt-ltb, and_from, and_left, or_right, not_from_false}
use Rattle.amqp_serial.specs.Numbers.{distance_of}
use Rattle.amqp_perform.specs.declared.modes.ReceiverSettleMode.{ReceiverSettleMode}
use Rattle.amqp_perform.specs.declared.modes.ReceiverSettleMode.TheVariants.{First, Second}
use Rattle.amqp_link.specs.declared.settlement.Standing.{Standing}
use Rattle.amqp_link.specs.declared.settlement.Standing.TheVariants.{Absent, Untaken, Told, Awaiting}
use Rattle.amqp_link.specs.Histories as link
use Rattle.amqp_link.specs.Laws.{id_count}
use Rattle.amqp_link.specs.Links.{Delivery, LinkState, ReceiverSettled, link_after, open_set, untaken, has_id, covers, is_covered, is_first, receiver_settles, marked_told, tells, standing_at}
use Rattle.amqp_session.specs.declared.slot.Slot.{Slot}
use Rattle.amqp_session.specs.declared.slot.Slot.TheVariants.{Free, Live, Waits}
use Rattle.amqp_session.specs.Places.{AllGoOn, slot_map, places_from}
use Rattle.amqp_link.specs.Histories.{one_if}
use Rattle.amqp_session.specs.Sessions.{LiveLink, live_begins, live_after, SessionState, Settled, session_after, slot_has, is_open_id, slot_count, table_count, IsApart}
use Rattle.amqp_session.specs.Calls.{slot_standing, or_later, standing_in}
use Rattle.amqp_session.proofs.Ids as ids
use Rattle.amqp_session.proofs.Ids.{table_cons}
use Rattle.amqp_session.proofs.Standings.{count_cons, parts_count, none_has, absent_none, some_stands}

-- the deliveries that were handed up, after a settle of the id
abbrev left : ℕ → List Delivery → List Delivery
left id ds = map (marked_told id id) (filter (λ d. not (receiver_settles id id d)) ds)

-- One delivery. --------------------------------------------------------------------------------------------------------------

covers_itself : (id x : ℕ) → id < 2 ^ 32 → nat_eq x id ≡ true → covers id id x ≡ true
covers_itself id x l e =
    let same = eqb-true x id e in and_from _ _ (lt-ltb (distance_of id id) (2 ^ 31) (omega (arith, l))) (le-leb (distance_of id x) (distance_of id id) (omega (arith, l, same)))

-- it was not told of, and this is its mode
awaiting_mode : (d : Delivery) (mode : ReceiverSettleMode) → standing_at (Some d) ≡ Awaiting mode → d.rcv_settle_mode ≡ mode
awaiting_mode d mode e = by d.told e
  where
    by : (b : Bool) → (if b then Told else Awaiting d.rcv_settle_mode) ≡ Awaiting mode → d.rcv_settle_mode ≡ mode
    by true e = absurd (grind (arith, e))
    by false e = ap (λ (x : Standing). elim x [ Absent ↦ mode | Untaken ↦ mode | Told ↦ mode | Awaiting m ↦ m ]) e

-- Those that were handed up. -------------------------------------------------------------------------------------------------

found_later : (id : ℕ) (d : Delivery) (ds : List Delivery) (x : Standing) → has_id id d ≡ false → standing_at (find (has_id id) (d ∷ ds)) ≡ x → standing_at (find (has_id id) ds) ≡ x
found_later id d ds x other e = subst (λ (b : Bool). standing_at (cond b (Some d) (find (has_id id) ds)) ≡ x) other e

found_here : (id : ℕ) (d : Delivery) (ds : List Delivery) (x : Standing) → has_id id d ≡ true → standing_at (find (has_id id) (d ∷ ds)) ≡ x → standing_at (Some d) ≡ x
found_here id d ds x here e = subst (λ (b : Bool). standing_at (cond b (Some d) (find (has_id id) ds)) ≡ x) here e

-- no more have the id than before
left_count : (id : ℕ) (ds : List Delivery) → count_by (has_id id) (left id ds) ≤ count_by (has_id id) ds
left_count id [] = omega arith
left_count id (d ∷ ds) = elim (cases_Bool (receiver_settles id id d)) [
  | inl e ↦ rw e (omega (arith, count_cons id d ds, left_count id ds))
  | inr e ↦ rw e (omega (arith, count_cons id d ds, count_cons id (marked_told id id d) (left id ds), left_count id ds))
]

-- the one in mode first is gone
left_none : (id : ℕ) → id < 2 ^ 32 → (ds : List Delivery) → count_by (has_id id) ds ≤ 1 → standing_at (find (has_id id) ds) ≡ Awaiting First → count_by (has_id id) (left id ds) ≡ 0
left_none id l [] few e = absurd (grind (arith, e))
left_none id l (d ∷ ds) few e = elim (cases_Bool (has_id id d)) [
  | inl here ↦ (
      let mode : is_first d.rcv_settle_mode ≡ true = ap is_first (awaiting_mode d First (found_here id d ds (Awaiting First) here e)) in
      let settles : receiver_settles id id d ≡ true = and_from (is_first d.rcv_settle_mode) (is_covered id id d) mode (covers_itself id d.delivery_id l here) in
      let first : link.one_if (has_id id d) ≡ 1 = ap link.one_if here in
      rw settles (omega (arith, few, count_cons id d ds, first, left_count id ds))
      )
  | inr other ↦ (
      let rest = left_none id l ds (omega (arith, few, count_cons id d ds)) (found_later id d ds (Awaiting First) other e) in
      let none : link.one_if (has_id id d) ≡ 0 = ap link.one_if other in
      elim (cases_Bool (receiver_settles id id d)) [
        | inl e ↦ rw e rest
        | inr e ↦ rw e (omega (arith, count_cons id (marked_told id id d) (left id ds), none, rest))
      ]
      )
]

told_standing : (d : Delivery) → d.told ≡ true → standing_at (Some d) ≡ Told
told_standing d e = rw e refl

-- of the one in mode second the sender is told
left_told : (id : ℕ) → id < 2 ^ 32 → (ds : List Delivery) → standing_at (find (has_id id) ds) ≡ Awaiting Second → standing_at (find (has_id id) (left id ds)) ≡ Told
left_told id l [] e = absurd (grind (arith, e))
left_told id l (d ∷ ds) e = elim (cases_Bool (has_id id d)) [
  | inl here ↦ (
      let mode : is_first d.rcv_settle_mode ≡ false = ap is_first (awaiting_mode d Second (found_here id d ds (Awaiting Second) here e)) in
      let second = not_from_false (is_first d.rcv_settle_mode) mode in
      let tells_it : tells id id d ≡ true = and_from (not (is_first d.rcv_settle_mode)) (is_covered id id d) second (covers_itself id d.delivery_id l here) in
      let stays : receiver_settles id id d ≡ false = and_left (is_first d.rcv_settle_mode) (is_covered id id d) mode in
      rw (stays, here) (told_standing (marked_told id id d) (or_right d.told (tells id id d) tells_it))
      )
  | inr other ↦ (
      let rest = left_told id l ds (found_later id d ds (Awaiting Second) other e) in
      elim (cases_Bool (receiver_settles id id d)) [ inl e ↦ rw e rest | inr e ↦ rw (e, other) rest ]
      )
]

-- One link. ------------------------------------------------------------------------------------------------------------------

after_count : (id : ℕ) (l : LinkState) → id_count id (link_after l (ReceiverSettled id id)) ≡ count_by (has_id id) (left id l.awaiting) + count_by (has_id id) (untaken (open_set l))
after_count id l = parts_count id (link_after l (ReceiverSettled id id))

standing_parts : (b : Bool) (o : Option Delivery) (mode : ReceiverSettleMode) → (if b then Untaken else standing_at o) ≡ Awaiting mode → (b ≡ false) × (standing_at o ≡ Awaiting mode)
standing_parts true o mode e = absurd (grind (arith, e))
standing_parts false o mode e = (refl, e)

abbrev settled : ℕ → Slot LiveLink → Slot LiveLink
settled id s = slot_map (λ (l : LiveLink). live_after l (ReceiverSettled id id)) s

slot_zero : (id : ℕ) (s : Slot LiveLink) → slot_count id s ≡ 0 → slot_count id (settled id s) ≡ 0
slot_zero id Free e = refl
slot_zero id (Live l) e = omega (arith, e, after_count id l.link, parts_count id l.link, left_count id l.link.awaiting)
slot_zero id Waits e = refl

slot_gone : (id : ℕ) → id < 2 ^ 32 → (s : Slot LiveLink) → slot_count id s ≤ 1 → slot_standing id s ≡ Awaiting First → slot_count id (settled id s) ≡ 0
slot_gone id small Free few e = refl
slot_gone id small (Live l) few e =
    let two = standing_parts (list_any (has_id id) (untaken (open_set l.link))) (find (has_id id) l.link.awaiting) First e in
    let none = ids.none_has id (untaken (open_set l.link)) two.0 in
    let gone = left_none id small l.link.awaiting (omega (arith, few, parts_count id l.link)) two.1 in omega (arith, after_count id l.link, none, gone)
slot_gone id small Waits few e = refl

slot_told : (id : ℕ) → id < 2 ^ 32 → (s : Slot LiveLink) → slot_standing id s ≡ Awaiting Second → slot_standing id (settled id s) ≡ Told
slot_told id small Free e = absurd (grind (arith, e))
slot_told id small (Live l) e =
    let two = standing_parts (list_any (has_id id) (untaken (open_set l.link))) (find (has_id id) l.link.awaiting) Second e in rw two.0 (left_told id small l.link.awaiting two.1)
slot_told id small Waits e = absurd (grind (arith, e))

not_found : (id : ℕ) (ds : List Delivery) → standing_at (find (has_id id) ds) ≡ Absent → count_by (has_id id) ds ≡ 0
not_found id [] e = refl
not_found id (d ∷ ds) e = elim (cases_Bool (has_id id d)) [
  | inl here ↦ absurd (stands d.told (found_here id d ds Absent here e))
  | inr other ↦ let none : link.one_if (has_id id d) ≡ 0 = ap link.one_if other in omega (arith, count_cons id d ds, none, not_found id ds (found_later id d ds Absent other e))
]
  where
    stands : (b : Bool) → (if b then Told else Awaiting d.rcv_settle_mode) ≡ Absent → ⊥
    stands true e = grind (arith, e)
    stands false e = grind (arith, e)

absent_zero : (id : ℕ) (s : Slot LiveLink) → slot_standing id s ≡ Absent → slot_count id s ≡ 0
absent_zero id Free e = refl
absent_zero id (Live l) e =
    let two = parts (list_any (has_id id) (untaken (open_set l.link))) (find (has_id id) l.link.awaiting) e in
    omega (arith, parts_count id l.link, ids.none_has id (untaken (open_set l.link)) two.0, not_found id l.link.awaiting two.1)
  where
    parts : (b : Bool) (o : Option Delivery) → (if b then Untaken else standing_at o) ≡ Absent → (b ≡ false) × (standing_at o ≡ Absent)
    parts true o e = absurd (grind (arith, e))
    parts false o e = (refl, e)
absent_zero id Waits e = refl

-- The table. -----------------------------------------------------------------------------------------------------------------

abbrev all_settled : ℕ → ℕ → List (Slot LiveLink) → List (Slot LiveLink)
all_settled id k slots = places_from live_begins live_after k (AllGoOn (ReceiverSettled id id)) slots

table_zero : (id k : ℕ) (slots : List (Slot LiveLink)) → table_count id slots ≡ 0 → table_count id (all_settled id k slots) ≡ 0
table_zero id k [] e = refl
table_zero id k (s ∷ slots) e =
    let here = slot_zero id s (omega (arith, e, table_cons id s slots)) in
    let rest = table_zero id (suc k) slots (omega (arith, e, table_cons id s slots)) in omega (arith, here, rest, table_cons id (settled id s) (all_settled id (suc k) slots))

table_gone : (id k : ℕ) → id < 2 ^ 32 → (slots : List (Slot LiveLink)) → table_count id slots ≤ 1 → standing_in id slots ≡ Awaiting First → table_count id (all_settled id k slots) ≡ 0
table_gone id k l [] few e = absurd (grind (arith, e))
table_gone id k l (s ∷ slots) few e = by (λ e. table_gone id (suc k) l slots (omega (arith, few, table_cons id s slots)) e) (slot_standing id s) refl e
  where
    by : (standing_in id slots ≡ Awaiting First → table_count id (all_settled id (suc k) slots) ≡ 0) → (x : Standing) → slot_standing id s ≡ x → or_later x (standing_in id slots) ≡ Awaiting First →
        table_count id (all_settled id k (s ∷ slots)) ≡ 0
    by rest Absent is e =
        omega (arith, rest e, slot_zero id s (absent_zero id s is), table_cons id (settled id s) (all_settled id (suc k) slots))
    by rest Untaken is e = absurd (grind (arith, e))
    by rest Told is e = absurd (grind (arith, e))
    by rest (Awaiting m) is e =
        let some = some_stands id s m is in
        let here = slot_gone id l s (omega (arith, few, table_cons id s slots)) (is ∙ e) in
        let none = table_zero id (suc k) slots (omega (arith, few, table_cons id s slots, some)) in omega (arith, here, none, table_cons id (settled id s) (all_settled id (suc k) slots))

table_told : (id k : ℕ) → id < 2 ^ 32 → (slots : List (Slot LiveLink)) → standing_in id slots ≡ Awaiting Second → standing_in id (all_settled id k slots) ≡ Told
table_told id k l [] e = absurd (grind (arith, e))
table_told id k l (s ∷ slots) e = by (λ e. table_told id (suc k) l slots e) (slot_standing id s) refl e
  where
    by : (standing_in id slots ≡ Awaiting Second → standing_in id (all_settled id (suc k) slots) ≡ Told) → (x : Standing) → slot_standing id s ≡ x →
        or_later x (standing_in id slots) ≡ Awaiting Second →
        or_later (slot_standing id (settled id s)) (standing_in id (all_settled id (suc k) slots)) ≡ Told
    by rest Absent is e = rw (absent_none id (settled id s) (slot_zero id s (absent_zero id s is))) (rest e)
    by rest Untaken is e = absurd (grind (arith, e))
    by rest Told is e = absurd (grind (arith, e))
    by rest (Awaiting m) is e = rw (slot_told id l s (is ∙ e)) refl

-- The session. ---------------------------------------------------------------------------------------------------------------

slot_without : (id : ℕ) (s : Slot LiveLink) → slot_count id s ≡ 0 → slot_has id s ≡ false
slot_without id Free e = refl
slot_without id (Live l) e = none_has id _ e
slot_without id Waits e = refl

table_without : (id : ℕ) (slots : List (Slot LiveLink)) → table_count id slots ≡ 0 → list_any (slot_has id) slots ≡ false
table_without id [] e = refl
table_without id (s ∷ slots) e =
    rw (slot_without id s (omega (arith, e, table_cons id s slots)), table_without id slots (omega (arith, e, table_cons id s slots))) refl

-- in mode first a settle ends the delivery
pub settled_is_gone : (s : SessionState) (id : ℕ) → IsApart s → id < 2 ^ 32 → standing_in id s.links ≡ Awaiting First → is_open_id (session_after s (Settled id id)) id ≡ false
settled_is_gone s id apart l stands =
    let room : one_if (nat_lt id (2 ^ 32)) ≡ 1 = ap one_if (lt-ltb id (2 ^ 32) l) in
    let most = apart id in table_without id (all_settled id 0 s.links) (table_gone id 0 l s.links (omega (arith, most, room)) stands)

-- in mode second it stays until its sender settles it
pub told_stays : (s : SessionState) (id : ℕ) → id < 2 ^ 32 → standing_in id s.links ≡ Awaiting Second → standing_in id (session_after s (Settled id id)).links ≡ Told
told_stays s id l stands = table_told id 0 l s.links stands
