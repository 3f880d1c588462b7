-- The one link that has an open delivery with an id: it is found, and a settle of the id leaves the others as they are.
use Rattle.std.proofs.Common.{arith, ◌≡◌, ℕ, zero, suc, ◌^◌, ◌<◌, ◌≤◌, Bool, true, false, not, ◌||◌, List, [], ◌∷◌, length, map, filter, refl, sym, ap, ◌∙◌, Option, Some, drop, get_or}
use Rattle.std.specs.Prelude.{slice_get, slice_set, unwrap_or}
use Rattle.std.specs.List.{list_any, count_by}
use Rattle.std.proofs.lemmas.Bool.{and_right, or_parts, false_from_ne_true, true≢false}
use Rattle.amqp_link.specs.declared.settlement.Standing.{Standing}
use Rattle.amqp_link.specs.declared.settlement.Standing.TheVariants.{Absent, Untaken, Told, Awaiting}
use Rattle.amqp_link.specs.Links.{Delivery, ReceiverSettled, has_id, is_covered, is_first, receiver_settles, tells, marked_told}
use Rattle.amqp_session.specs.declared.slot.Slot.{Slot}
use Rattle.amqp_session.specs.declared.slot.Slot.TheVariants.{Free, Live, Waits}
use Rattle.amqp_session.specs.Calls.{slot_standing, or_later, standing_in}
use Rattle.amqp_session.specs.Sessions.{LiveLink, slot_count, table_count}
use Rattle.amqp_session.specs.Slots.{at_place, slot_called}
use Rattle.amqp_session.proofs.Ids.{table_cons}
use Rattle.amqp_session.proofs.Tables.{there}
use Rattle.amqp_session.proofs.Standings.{parts_count, none_has, AreSmall, first_small, rest_small, covered_id, count_cons, slot_within}

-- The place. -----------------------------------------------------------------------------------------------------------

-- what was found at a handle stands there
pub stands_there : (slots : List (Slot LiveLink)) (k : ℕ) (x : Slot LiveLink) → x ≡ get_or slots k x → k < length slots → at_place slots k ≡ x
stands_there slots k x e l = ap (λ (o : Option (Slot LiveLink)). unwrap_or o Free) (there slots k x e l)

first : (a b : Standing) → (a ≡ Absent → ⊥) → or_later a b ≡ a
first Absent b some = absurd (some refl)
first Untaken b some = refl
first Told b some = refl
first (Awaiting mode) b some = refl

from_there : (id : ℕ) (slots : List (Slot LiveLink)) (k : ℕ) (x : Slot LiveLink) → slice_get slots k ≡ Some x → (slot_standing id x ≡ Absent → ⊥) → standing_in id (drop k slots) ≡ slot_standing id x
from_there id [] k x e some = absurd (grind (arith, e))
from_there id (s ∷ slots) zero x e some =
    let same : s ≡ x = grind (arith, e) in ap (λ (y : Slot LiveLink). or_later (slot_standing id y) (standing_in id slots)) same ∙ first (slot_standing id x) (standing_in id slots) some
from_there id (s ∷ slots) (suc k) x e some = from_there id slots k x e some

-- the places before this one have none
pub found : (id : ℕ) (slots : List (Slot LiveLink)) (k : ℕ) (x : Slot LiveLink) (standing : Standing) → x ≡ get_or slots k x → k < length slots →
    standing_in id slots ≡ standing_in id (drop k slots) → standing ≡ slot_standing id x → (standing ≡ Absent → ⊥) →
    (k < length slots) × (slot_standing id (at_place slots k) ≡ standing) × (standing_in id slots ≡ standing)
found id slots k x standing at low before is some = (
  low,
  ap (slot_standing id) (stands_there slots k x at low) ∙ sym is,
  before ∙ from_there id slots k x (there slots k x at low) (λ e. some (is ∙ e)) ∙ sym is,
)

-- The others. ----------------------------------------------------------------------------------------------------------

or_none : (b : Bool) → b || false ≡ b
or_none true = refl
or_none false = refl

-- none of these has the id
kept : (id : ℕ) (ds : List Delivery) → id < 2 ^ 32 → AreSmall ds → count_by (has_id id) ds ≡ 0 → map (marked_told id id) (filter (λ d. not (receiver_settles id id d)) ds) ≡ ds
kept id [] short small none = refl
kept id (d ∷ ds) short small none =
    let other = or_parts (has_id id d) (list_any (has_id id) ds) (none_has id (d ∷ ds) none) in
    let outside = false_from_ne_true (is_covered id id d) (λ covered. true≢false (sym (covered_id id d.delivery_id short (first_small d ds small) covered) ∙ other.0)) in
    let stays : receiver_settles id id d ≡ false = and_right (is_first d.rcv_settle_mode) (is_covered id id d) outside in
    let untold : tells id id d ≡ false = and_right (not (is_first d.rcv_settle_mode)) (is_covered id id d) outside in
    let same : marked_told id id d ≡ d = ap (λ (b : Bool). record d { told = d.told || b }) untold ∙ ap (λ (b : Bool). record d { told = b }) (or_none d.told) in
    let rest = kept id ds short (rest_small d ds small) (omega (arith, none, count_cons id d ds)) in
    rw stays (ap (λ (e : Delivery). e ∷ map (marked_told id id) (filter (λ d. not (receiver_settles id id d)) ds)) same ∙ ap (λ (es : List Delivery). d ∷ es) rest)

-- a place where no open delivery has the id, and all ids have 32 bits
kept_slot : (id : ℕ) (s : Slot LiveLink) → id < 2 ^ 32 → ((n : ℕ) → 2 ^ 32 ≤ n → slot_count n s ≡ 0) → slot_count id s ≡ 0 → slot_called (ReceiverSettled id id) s ≡ s
kept_slot id Free short small none = refl
kept_slot id (Live l) short small none =
    ap (λ (ds : List Delivery). Live (record l { link = record l.link { awaiting = ds } }))
    (kept id l.link.awaiting short (λ n m. let few = small n m in omega (arith, few, parts_count n l.link)) (omega (arith, none, parts_count id l.link)))
kept_slot id Waits short small none = refl

abbrev AreShort : List (Slot LiveLink) → Type 0
AreShort slots = (n : ℕ) → 2 ^ 32 ≤ n → table_count n slots ≡ 0

first_short : (s : Slot LiveLink) (slots : List (Slot LiveLink)) → AreShort (s ∷ slots) → (n : ℕ) → 2 ^ 32 ≤ n → slot_count n s ≡ 0
first_short s slots all n m = let few = all n m in omega (arith, few, table_cons n s slots)

rest_short : (s : Slot LiveLink) (slots : List (Slot LiveLink)) → AreShort (s ∷ slots) → AreShort slots
rest_short s slots all = λ n m. let few = all n m in omega (arith, few, table_cons n s slots)

kept_table : (id : ℕ) (slots : List (Slot LiveLink)) → id < 2 ^ 32 → AreShort slots → table_count id slots ≡ 0 → map (slot_called (ReceiverSettled id id)) slots ≡ slots
kept_table id [] short all none = refl
kept_table id (s ∷ slots) short all none =
    ap (λ (t : Slot LiveLink). t ∷ map (slot_called (ReceiverSettled id id)) slots) (kept_slot id s short (first_short s slots all) (omega (arith, none, table_cons id s slots)))
    ∙ ap (λ (ts : List (Slot LiveLink)). s ∷ ts) (kept_table id slots short (rest_short s slots all) (omega (arith, none, table_cons id s slots)))

-- settled at the one place where an open delivery has the id, it is settled at all
pub settled_at : (id : ℕ) (slots : List (Slot LiveLink)) (k : ℕ) (x : Slot LiveLink) → id < 2 ^ 32 → AreShort slots → table_count id slots ≤ 1 → slice_get slots k ≡ Some x → 1 ≤ slot_count id x →
    slice_set slots k (slot_called (ReceiverSettled id id) x) ≡ map (slot_called (ReceiverSettled id id)) slots
settled_at id [] k x short all once e some = absurd (grind (arith, e))
settled_at id (s ∷ slots) zero x short all once e some =
    let same : s ≡ x = grind (arith, e) in
    let count : slot_count id s ≡ slot_count id x = ap (slot_count id) same in
    ap (λ (t : Slot LiveLink). slot_called (ReceiverSettled id id) t ∷ slots) (sym same)
    ∙ ap (λ (ts : List (Slot LiveLink)). slot_called (ReceiverSettled id id) s ∷ ts)
    (sym (kept_table id slots short (rest_short s slots all) (omega (arith, once, some, count, table_cons id s slots))))
settled_at id (s ∷ slots) (suc k) x short all once e some =
    ap (λ (ts : List (Slot LiveLink)). s ∷ ts) (settled_at id slots k x short (rest_short s slots all) (omega (arith, once, table_cons id s slots)) e some)
    ∙ ap (λ (t : Slot LiveLink). t ∷ map (slot_called (ReceiverSettled id id)) slots)
    (sym (kept_slot id s short (first_short s slots all) (omega (arith, once, some, slot_within id slots k x e, table_cons id s slots))))
