-- An id that stands open once in the session, where a delivery with it awaits what became of it: every link accepts that it is settled.
use Rattle.std.proofs.Common.{arith, ◌≡◌, ℕ, zero, suc, ◌+◌, ◌^◌, ◌<◌, ◌≤◌, inl, inr, subst, Bool, true, false, not, ◌&&◌, ◌||◌, cond, List, [], ◌∷◌, ◌++◌, find, refl, sym, ap, ◌∙◌, Option, Some}
use Rattle.std.proofs.Common.{None}
use Rattle.std.specs.Prelude.{slice_get, option_to_list, nat_eq, nat_lt, nat_le, if◌then◌else◌}
use Rattle.std.specs.List.{list_any, count_by}
use Rattle.std.proofs.lemmas.Bool.{cases_Bool, eqb-true, eqb-false, eq-eqb, leb-true, lt-ltb, le-ltb, ltb-true, ltb-false, and_parts, and_from, and_left, and_right, or_parts, or_from}
use Rattle.std.proofs.lemmas.Bool.{false_from_ne_true, true≢false}
use Rattle.amqp_serial.specs.Numbers.{distance_of}
use Rattle.std.proofs.lemmas.List.Sums.{sum_by-cons, sum_by-append}
use Rattle.amqp_perform.specs.declared.modes.ReceiverSettleMode.{ReceiverSettleMode}
use Rattle.amqp_link.specs.declared.settlement.Standing.{Standing}
use Rattle.amqp_link.specs.declared.settlement.Standing.TheVariants.{Absent, Untaken, Told, Awaiting}
use Rattle.amqp_link.specs.Histories as link
use Rattle.amqp_link.specs.Laws.{id_count}
use Rattle.amqp_link.specs.Links.{Delivery, LinkState, ReceiverSettled, LinkMay, open_set, untaken, has_id, covers, is_covered, is_first, tells, standing_at, standing_of}
use Rattle.amqp_session.specs.declared.slot.Slot.{Slot}
use Rattle.amqp_session.specs.declared.slot.Slot.TheVariants.{Free, Live, Waits}
use Rattle.amqp_link.specs.Histories.{one_if}
use Rattle.amqp_session.specs.Sessions.{LiveLink, SessionState, slot_count, table_count, IsApart}
use Rattle.amqp_session.specs.Calls.{slot_standing, or_later, standing_in}
use Rattle.amqp_session.proofs.Ids.{table_cons}

-- Counts. --------------------------------------------------------------------------------------------------------------------

-- 1 where a delivery has the id
abbrev pub one : ℕ → Delivery → ℕ
one id d = link.one_if (has_id id d)

-- the count over one more delivery
pub count_cons : (id : ℕ) (d : Delivery) (ds : List Delivery) → count_by (has_id id) (d ∷ ds) ≡ link.one_if (has_id id d) + count_by (has_id id) ds
count_cons id d ds = sum_by-cons (one id) d ds

-- what one place has is no more than the table has
pub slot_within : (id : ℕ) (slots : List (Slot LiveLink)) (k : ℕ) (s : Slot LiveLink) → slice_get slots k ≡ Some s → slot_count id s ≤ table_count id slots
slot_within id [] k s e = absurd (grind (arith, e))
slot_within id (t ∷ slots) zero s e =
    let same : slot_count id t ≡ slot_count id s = ap (λ (o : Option (Slot LiveLink)). elim o [ None ↦ 0 | Some u ↦ slot_count id u ]) e in omega (arith, table_cons id t slots, same)
slot_within id (t ∷ slots) (suc k) s e = let rest = slot_within id slots k s e in omega (arith, table_cons id t slots, rest)

-- the deliveries that were handed up, and the others
pub parts_count : (id : ℕ) (l : LinkState) → id_count id l ≡ count_by (has_id id) l.awaiting + count_by (has_id id) (untaken (open_set l))
parts_count id l =
    let last = option_to_list l.unfinished in
    omega (arith, sum_by-append (one id) (l.awaiting ++ l.ready) last, sum_by-append (one id) l.awaiting l.ready, sum_by-append (one id) l.ready last)

-- none has the id
pub none_has : (id : ℕ) (ds : List Delivery) → count_by (has_id id) ds ≡ 0 → list_any (has_id id) ds ≡ false
none_has id [] e = refl
none_has id (d ∷ ds) e = elim (cases_Bool (has_id id d)) [
  | inl here ↦ absurd (let one : link.one_if (has_id id d) ≡ 1 = ap link.one_if here in omega (arith, e, count_cons id d ds, one))
  | inr other ↦ or_from (has_id id d) (list_any (has_id id) ds) other (none_has id ds (omega (arith, e, count_cons id d ds)))
]

pub some_has : (id : ℕ) (ds : List Delivery) → list_any (has_id id) ds ≡ true → 1 ≤ count_by (has_id id) ds
some_has id [] e = absurd (grind (arith, e))
some_has id (d ∷ ds) e = elim (cases_Bool (has_id id d)) [
  | inl here ↦ let one : link.one_if (has_id id d) ≡ 1 = ap link.one_if here in omega (arith, count_cons id d ds, one)
  | inr other ↦ let rest = some_has id ds (ap (λ (b : Bool). b || list_any (has_id id) ds) (sym other) ∙ e) in omega (arith, count_cons id d ds, rest)
]

-- Ids of 32 bits. ------------------------------------------------------------------------------------------------------------

-- each id has 32 bits
abbrev pub AreSmall : List Delivery → Type 0
AreSmall ds = (n : ℕ) → 2 ^ 32 ≤ n → count_by (has_id n) ds ≡ 0

-- the first of deliveries with ids of 32 bits has one
pub first_small : (d : Delivery) (ds : List Delivery) → AreSmall (d ∷ ds) → d.delivery_id < 2 ^ 32
first_small d ds small = elim (cases_Bool (nat_lt d.delivery_id (2 ^ 32))) [
  | inl e ↦ ltb-true d.delivery_id (2 ^ 32) e
  | inr e ↦ absurd (
      let none = small d.delivery_id (ltb-false d.delivery_id (2 ^ 32) e) in
      let one : link.one_if (has_id d.delivery_id d) ≡ 1 = ap link.one_if (eq-eqb d.delivery_id d.delivery_id refl) in omega (arith, none, count_cons d.delivery_id d ds, one)
      )
]

-- so have the others
pub rest_small : (d : Delivery) (ds : List Delivery) → AreSmall (d ∷ ds) → AreSmall ds
rest_small d ds small = λ n l. let none = small n l in omega (arith, none, count_cons n d ds)

-- a range of one id covers that id alone
pub covered_id : (id x : ℕ) → id < 2 ^ 32 → x < 2 ^ 32 → covers id id x ≡ true → nat_eq x id ≡ true
covered_id id x l m e =
    let within = leb-true (distance_of id x) (distance_of id id) (and_parts (nat_lt (distance_of id id) (2 ^ 31)) (nat_le (distance_of id x) (distance_of id id)) e).1 in
    eq-eqb x id (omega (arith, l, m, within))

none_passes : (p q : Delivery → Bool) → ((d : Delivery) → d.delivery_id < 2 ^ 32 → p d ≡ true → q d ≡ true) → (ds : List Delivery) → AreSmall ds → list_any q ds ≡ false → list_any p ds ≡ false
none_passes p q so [] small e = refl
none_passes p q so (d ∷ ds) small e =
    let two = or_parts (q d) (list_any q ds) e in
    let here = false_from_ne_true (p d) (λ passes. true≢false (sym (so d (first_small d ds small) passes) ∙ two.0)) in
    or_from (p d) (list_any p ds) here (none_passes p q so ds (rest_small d ds small) two.1)

-- One link. ------------------------------------------------------------------------------------------------------------------

-- nothing with the id stands so that it can't be settled
abbrev IsQuiet : Standing → Type 0
IsQuiet Absent = Unit {0}
IsQuiet Untaken = ⊥
IsQuiet Told = ⊥
IsQuiet (Awaiting mode) = Unit {0}

not_told : (d : Delivery) → IsQuiet (standing_at (Some d)) → d.told ≡ false
not_told d quiet = by d.told quiet
  where
    by : (b : Bool) → IsQuiet (if b then Told else Awaiting d.rcv_settle_mode) → b ≡ false
    by true quiet = absurd quiet
    by false quiet = refl

-- of deliveries that were handed up none with the id was told of, where at most one has it
none_told : (id : ℕ) (ds : List Delivery) → count_by (has_id id) ds ≤ 1 → IsQuiet (standing_at (find (has_id id) ds)) → list_any (λ d. has_id id d && d.told) ds ≡ false
none_told id [] few quiet = refl
none_told id (d ∷ ds) few quiet = elim (cases_Bool (has_id id d)) [
  | inl here ↦ (
      let one : link.one_if (has_id id d) ≡ 1 = ap link.one_if here in
      let told = not_told d (subst (λ (b : Bool). IsQuiet (standing_at (cond b (Some d) (find (has_id id) ds)))) here quiet) in
      or_from (has_id id d && d.told) _ (and_right (has_id id d) d.told told) (later (none_has id ds (omega (arith, few, count_cons id d ds, one))))
      )
  | inr other ↦ (
      let rest = none_told id ds (omega (arith, few, count_cons id d ds)) (subst (λ (b : Bool). IsQuiet (standing_at (cond b (Some d) (find (has_id id) ds)))) other quiet) in
      or_from (has_id id d && d.told) _ (and_left (has_id id d) d.told other) rest
      )
]
  where
    later : list_any (has_id id) ds ≡ false → list_any (λ d. has_id id d && d.told) ds ≡ false
    later none = without ds none
      where
        without : (es : List Delivery) → list_any (has_id id) es ≡ false → list_any (λ d. has_id id d && d.told) es ≡ false
        without [] e = refl
        without (d ∷ es) e =
            let two = or_parts (has_id id d) (list_any (has_id id) es) e in or_from (has_id id d && d.told) _ (and_left (has_id id d) d.told two.0) (without es two.1)

quiet_parts : (b : Bool) (o : Option Delivery) → IsQuiet (if b then Untaken else standing_at o) → (b ≡ false) × IsQuiet (standing_at o)
quiet_parts true o quiet = absurd quiet
quiet_parts false o quiet = (refl, quiet)

link_settles : (l : LinkState) (id : ℕ) → id < 2 ^ 32 → ((n : ℕ) → id_count n l ≤ one_if (nat_lt n (2 ^ 32))) → IsQuiet (standing_of id (open_set l)) → LinkMay l (ReceiverSettled id id)
link_settles l id small few quiet =
    let two = quiet_parts (list_any (has_id id) (untaken (open_set l))) (find (has_id id) l.awaiting) quiet in
    let open_few = none_passes (is_covered id id) (has_id id) (λ d m e. covered_id id d.delivery_id small m e) (untaken (open_set l)) (λ n m. omega (arith, none n m, parts_count n l)) two.0 in
    let told_before = none_told id l.awaiting (omega (arith, once, parts_count id l)) two.1 in
    let told_few = none_passes (λ d. tells id id d && d.told) (λ d. has_id id d && d.told) told (l.awaiting) (λ n m. omega (arith, none n m, parts_count n l)) told_before in
    rw (open_few, told_few) refl
  where
    none : (n : ℕ) → 2 ^ 32 ≤ n → id_count n l ≡ 0
    none n m =
        let room : one_if (nat_lt n (2 ^ 32)) ≡ 0 = ap one_if (le-ltb n (2 ^ 32) m) in
        let most = few n in omega (arith, most, room)

    once : id_count id l ≤ 1
    once =
        let room : one_if (nat_lt id (2 ^ 32)) ≡ 1 = ap one_if (lt-ltb id (2 ^ 32) small) in
        let most = few id in omega (arith, most, room)

    told : (d : Delivery) → d.delivery_id < 2 ^ 32 → tells id id d && d.told ≡ true → has_id id d && d.told ≡ true
    told d m e =
        let one = and_parts (tells id id d) d.told e in
        let two = and_parts (not (is_first d.rcv_settle_mode)) (is_covered id id d) one.0 in and_from (has_id id d) d.told (covered_id id d.delivery_id small m two.1) one.1

-- The session. ---------------------------------------------------------------------------------------------------------------

-- of a link without the id it is absent
pub absent_none : (id : ℕ) (s : Slot LiveLink) → slot_count id s ≡ 0 → slot_standing id s ≡ Absent
absent_none id Free e = refl
absent_none id (Live l) e =
    let none = parts_count id l.link in
    rw (none_has id (untaken (open_set l.link)) (omega (arith, e, none)), not_found id l.link.awaiting (omega (arith, e, none))) refl
  where
    not_found : (id : ℕ) (ds : List Delivery) → count_by (has_id id) ds ≡ 0 → find (has_id id) ds ≡ None
    not_found id [] e = refl
    not_found id (d ∷ ds) e =
        let none = or_parts (has_id id d) (list_any (has_id id) ds) (none_has id (d ∷ ds) e) in rw (none.0, not_found id ds (omega (arith, e, count_cons id d ds))) refl
absent_none id Waits e = refl

-- a standing that isn't absent is of an open delivery
pub some_stands : (id : ℕ) (s : Slot LiveLink) (mode : ReceiverSettleMode) → slot_standing id s ≡ Awaiting mode → 1 ≤ slot_count id s
some_stands id s mode e = elim (cases_Bool (nat_eq (slot_count id s) 0)) [
  | inl none ↦ absurd (differ (sym (absent_none id s (eqb-true (slot_count id s) 0 none)) ∙ e))
  | inr some ↦ let more = eqb-false (slot_count id s) 0 some in omega (arith, more)
]
  where
    differ : Absent ≡ Awaiting mode → ⊥
    differ e = grind (arith, e)

quiet_slot : (id : ℕ) (mode : ReceiverSettleMode) (slots : List (Slot LiveLink)) (k : ℕ) (s : Slot LiveLink) → table_count id slots ≤ 1 → standing_in id slots ≡ Awaiting mode →
    slice_get slots k ≡ Some s → IsQuiet (slot_standing id s)
quiet_slot id mode [] k s few stands get = absurd (grind (arith, get))
quiet_slot id mode (t ∷ slots) k s few stands get =
    by (λ stands k get. quiet_slot id mode slots k s (omega (arith, few, table_cons id t slots)) stands get) (slot_standing id t) refl stands k get
  where
    here : (x : Standing) → slot_standing id t ≡ x → IsQuiet x → Some t ≡ Some s → IsQuiet (slot_standing id s)
    here x is quiet same =
        let one : slot_standing id t ≡ slot_standing id s = ap (λ (o : Option (Slot LiveLink)). elim o [ None ↦ Absent | Some u ↦ slot_standing id u ]) same in subst IsQuiet (sym is ∙ one) quiet

    by : (standing_in id slots ≡ Awaiting mode → (k : ℕ) → slice_get slots k ≡ Some s → IsQuiet (slot_standing id s)) → (x : Standing) → slot_standing id t ≡ x →
        or_later x (standing_in id slots) ≡ Awaiting mode → (k : ℕ) → slice_get (t ∷ slots) k ≡ Some s → IsQuiet (slot_standing id s)
    by later Absent is stands zero get = here Absent is tt get
    by later Absent is stands (suc k) get = later stands k get
    by later Untaken is stands k get = absurd (grind (arith, stands))
    by later Told is stands k get = absurd (grind (arith, stands))
    by later (Awaiting m) is stands zero get = here (Awaiting m) is tt get
    by later (Awaiting m) is stands (suc k) get =
        let none : slot_count id s ≡ 0 = omega (arith, few, table_cons id t slots, some_stands id t m is, slot_within id slots k s get) in subst IsQuiet (sym (absent_none id s none)) tt

-- Where a delivery with this id awaits what became of it, every live link accepts that the id is settled.
pub settles_everywhere : (s : SessionState) (id : ℕ) (mode : ReceiverSettleMode) → IsApart s → id < 2 ^ 32 → standing_in id s.links ≡ Awaiting mode → (k : ℕ) (l : LiveLink) →
    slice_get s.links k ≡ Some (Live l) → LinkMay l.link (ReceiverSettled id id)
settles_everywhere s id mode apart small stands k l get =
    let room : one_if (nat_lt id (2 ^ 32)) ≡ 1 = ap one_if (lt-ltb id (2 ^ 32) small) in
    let most = apart id in
    link_settles l.link id small (λ n. let all = apart n in omega (arith, all, slot_within n s.links k (Live l) get)) (quiet_slot id mode s.links k (Live l) (omega (arith, most, room)) stands get)
