-- Why a settle of a range of ids is refused, as the deliveries stand that it names; and of one id.
use Rattle.std.proofs.Common.{arith, ◌≡◌, ℕ, zero, suc, ◌+◌, ◌^◌, ◌<◌, ◌≤◌, Bool, true, false, not, ◌&&◌, ◌||◌, List, [], ◌∷◌, refl, sym, ap, ◌∙◌, Option, Some, None}
use Rattle.std.specs.Prelude.{sum_by, nat_lt, nat_le, if◌then◌else◌}
use Rattle.std.specs.List.{list_any, count_by}
use Rattle.std.proofs.lemmas.Bool.{lt-ltb, ltb-false, leb-true, leb-false, le-leb, false_from_ne_true, and_parts, and_from, or_parts}
use Rattle.std.proofs.lemmas.List.Sums.{sum_by-cons}
use Rattle.amqp_serial.specs.Numbers.{distance_of}
use Rattle.amqp_perform.specs.declared.modes.ReceiverSettleMode.TheVariants.{First, Second}
use Rattle.amqp_link.specs.declared.settlement.Standing.{Standing}
use Rattle.amqp_link.specs.declared.settlement.Standing.TheVariants.{Absent, Untaken, Told, Awaiting}
use Rattle.amqp_link.specs.Histories.{one_if}
use Rattle.amqp_link.specs.Links.{Delivery, LinkState, covers, is_covered, is_first, receiver_settles, tells}
use Rattle.amqp_link.proofs.Hints.{no_true}
use Rattle.amqp_session.specs.declared.fault.CallFault.{CallFault}
use Rattle.amqp_session.specs.declared.fault.CallFault.TheVariants as refused
use Rattle.amqp_session.specs.declared.slot.Slot.{Slot}
use Rattle.amqp_session.specs.declared.slot.Slot.TheVariants.{Free, Live, Waits}
use Rattle.amqp_session.specs.declared.survey.Survey.{Survey}
use Rattle.amqp_session.specs.Sessions.{LiveLink, SessionState, IsApart}
use Rattle.amqp_session.specs.Calls.{live_has, slot_names_untaken, slot_names_told, slot_names_first, slot_names_second, is_absent, is_behind, settles_at_once, standing_in, standing_fault, range_fault}
use Rattle.amqp_session.specs.Indexes.{is_untaken}
use Rattle.amqp_session.specs.Laws.{slot_named, named_total}
use Rattle.amqp_session.specs.Surveys.{live_number, is_told, can_tell, untaken_in, told_in, to_settle_in, to_tell_in, IsSurvey, survey_fault}
use Rattle.amqp_session.proofs.RangeMays.{skip_fault}
use Rattle.amqp_session.proofs.RangeCounts.{Test, passes, counts, number, IsPart, fewer}
use Rattle.amqp_session.proofs.RangeSteps.{covered, told_one, to_settle_one, to_tell_one, not_handed_up, handed_up, untaken_part, told_part, to_tell_part, to_settle_part, untaken_as, told_as, to_settle_as, to_tell_as}

-- Whether there is one, and how many there are. ------------------------------------------------------------------------------

some_more : (m n : ℕ) → nat_lt 0 (m + n) ≡ (nat_lt 0 m || nat_lt 0 n)
some_more zero n = let same : 0 + n ≡ n = omega arith in ap (λ (k : ℕ). nat_lt 0 k) same
some_more (suc m) n = lt-ltb 0 (suc m + n) (omega arith) ∙ sym (ap (λ (b : Bool). b || nat_lt 0 n) (lt-ltb 0 (suc m) (omega arith)))

some_one : (b : Bool) (n : ℕ) → (b || nat_lt 0 n) ≡ nat_lt 0 (one_if b + n)
some_one true n = sym (lt-ltb 0 (1 + n) (omega arith))
some_one false n = let same : 0 + n ≡ n = omega arith in ap (λ (k : ℕ). nat_lt 0 k) (sym same)

any_list : (t : Delivery → Bool) (ds : List Delivery) → list_any t ds ≡ nat_lt 0 (count_by t ds)
any_list t [] = refl
any_list t (d ∷ ds) = ap (λ (b : Bool). t d || b) (any_list t ds) ∙ some_one (t d) (count_by t ds) ∙ ap (λ (n : ℕ). nat_lt 0 n) (sym (counts t d ds))

any_slot : (t : Delivery → Bool) (part : LinkState → List Delivery) (x : Slot LiveLink) → live_has (λ l. list_any t (part l)) x ≡ nat_lt 0 (live_number (λ l. count_by t (part l)) x)
any_slot t part Free = refl
any_slot t part (Live l) = any_list t (part l.link)
any_slot t part Waits = refl

any_number : (t : Delivery → Bool) (part : LinkState → List Delivery) (slots : List (Slot LiveLink)) →
    list_any (live_has (λ l. list_any t (part l))) slots ≡ nat_lt 0 (sum_by (live_number (λ l. count_by t (part l))) slots)
any_number t part [] = refl
any_number t part (x ∷ slots) =
    ap (λ (b : Bool). b || list_any (live_has (λ l. list_any t (part l))) slots) (any_slot t part x)
    ∙ ap (λ (b : Bool). nat_lt 0 (live_number (λ l. count_by t (part l)) x) || b) (any_number t part slots)
    ∙ sym (some_more (live_number (λ l. count_by t (part l)) x) (sum_by (live_number (λ l. count_by t (part l))) slots))
    ∙ ap (λ (n : ℕ). nat_lt 0 n) (sym (sum_by-cons (live_number (λ l. count_by t (part l))) x slots))

-- Where the sender was told of none. -------------------------------------------------------------------------------------------

module _ (Q : Test) (none : (d : Delivery) → Q false d ≡ false) (p : ℕ → Bool) where
  untold_list : (ds : List Delivery) → count_by (passes told_one p) ds ≡ 0 → count_by (λ d. passes Q p d && not d.told) ds ≡ count_by (passes Q p) ds
  untold_list [] e = refl
  untold_list (d ∷ ds) e = omega (
    arith,
    untold_list ds (omega (arith, e, counts (passes told_one p) d ds)),
    here (p d.delivery_id) d.told (omega (arith, e, counts (passes told_one p) d ds)),
    counts (λ d. passes Q p d && not d.told) d ds,
    counts (passes Q p) d ds,
  )
    where
      here : (c t : Bool) → one_if (c && t) ≡ 0 → one_if (Q c d && not t) ≡ one_if (Q c d)
      here true true f = absurd (omega (arith, f))
      here false true f = ap (λ (b : Bool). one_if (b && false)) (none d) ∙ sym (ap one_if (none d))
      here c false f = ap one_if (and_true (Q c d))
        where
          and_true : (b : Bool) → (b && true) ≡ b
          and_true true = refl
          and_true false = refl

  untold_slot : (x : Slot LiveLink) → live_number (λ l. count_by (passes told_one p) l.awaiting) x ≡ 0 →
      live_number (λ l. count_by (λ d. passes Q p d && not d.told) l.awaiting) x ≡ live_number (λ l. count_by (passes Q p) l.awaiting) x
  untold_slot Free e = refl
  untold_slot (Live l) e = untold_list l.link.awaiting e
  untold_slot Waits e = refl

  untold : (slots : List (Slot LiveLink)) → number told_one handed_up p slots ≡ 0 →
      sum_by (live_number (λ l. count_by (λ d. passes Q p d && not d.told) l.awaiting)) slots ≡ sum_by (live_number (λ l. count_by (passes Q p) l.awaiting)) slots
  untold [] e = refl
  untold (x ∷ slots) e =
      let two = sum_by-cons (live_number (λ l. count_by (passes told_one p) l.awaiting)) x slots in
      omega (
        arith,
        untold_slot x (omega (arith, e, two)),
        untold slots (omega (arith, e, two)),
        sum_by-cons (live_number (λ l. count_by (λ d. passes Q p d && not d.told) l.awaiting)) x slots,
        sum_by-cons (live_number (λ l. count_by (passes Q p) l.awaiting)) x slots,
      )

-- those of which it was told, and the others in both modes
named_list : (first last : ℕ) (ds : List Delivery) → count_by (is_covered first last) ds
    ≡ count_by (λ d. is_covered first last d && d.told) ds + count_by (λ d. receiver_settles first last d && not d.told) ds + count_by (λ d. tells first last d && not d.told) ds
named_list first last [] = omega arith
named_list first last (d ∷ ds) = omega (
  arith,
  named_list first last ds,
  by (is_first d.rcv_settle_mode) (is_covered first last d) d.told,
  counts (is_covered first last) d ds,
  counts (λ d. is_covered first last d && d.told) d ds,
  counts (λ d. receiver_settles first last d && not d.told) d ds,
  counts (λ d. tells first last d && not d.told) d ds,
)
  where
    by : (m c t : Bool) → one_if c ≡ one_if (c && t) + one_if ((m && c) && not t) + one_if ((not m && c) && not t)
    by true true true = omega arith
    by true true false = omega arith
    by true false t = omega arith
    by false true true = omega arith
    by false true false = omega arith
    by false false t = omega arith

named_slot : (first last : ℕ) (x : Slot LiveLink) → slot_named first last x
    ≡ live_number (λ l. count_by (λ d. is_covered first last d && d.told) l.awaiting) x + live_number (λ l. count_by (λ d. receiver_settles first last d && not d.told) l.awaiting) x
    + live_number (λ l. count_by (λ d. tells first last d && not d.told) l.awaiting) x
named_slot first last Free = omega arith
named_slot first last (Live l) = named_list first last l.link.awaiting
named_slot first last Waits = omega arith

named_all : (first last : ℕ) (slots : List (Slot LiveLink)) → sum_by (slot_named first last) slots ≡ told_in first last slots + to_settle_in first last slots + to_tell_in first last slots
named_all first last [] = omega arith
named_all first last (x ∷ slots) = omega (
  arith,
  named_slot first last x,
  named_all first last slots,
  sum_by-cons (slot_named first last) x slots,
  sum_by-cons (live_number (λ l. count_by (λ d. is_covered first last d && d.told) l.awaiting)) x slots,
  sum_by-cons (live_number (λ l. count_by (λ d. receiver_settles first last d && not d.told) l.awaiting)) x slots,
  sum_by-cons (live_number (λ l. count_by (λ d. tells first last d && not d.told) l.awaiting)) x slots,
)

-- The first fault. -------------------------------------------------------------------------------------------------------------

-- what is wrong at the ends of the range
abbrev pub ends_fault : ℕ → ℕ → SessionState → Bool
ends_fault first last s = is_absent (standing_in first s.links) || is_absent (standing_in last s.links) || is_behind first last

-- where the ends are right nothing is
pub right : (is wrong : Bool) → is ≡ not wrong → is ≡ true → wrong ≡ false
right is true e f = absurd (no_true (sym e ∙ f))
right is false e f = refl

pub no_fault : (v : Survey) → survey_fault v ≡ None → (v.untaken ≡ 0) × (v.told ≡ 0) × (nat_lt 0 v.to_settle && nat_lt 0 v.to_tell ≡ false)
no_fault v e =
    let one = skip_fault (nat_lt 0 v.untaken) refused.NotTaken
    (if nat_lt 0 v.told then Some refused.AlreadyTold else (if nat_lt 0 v.to_settle && nat_lt 0 v.to_tell then Some refused.MixedModes else None)) e in
    let two = skip_fault (nat_lt 0 v.told) refused.AlreadyTold (if nat_lt 0 v.to_settle && nat_lt 0 v.to_tell then Some refused.MixedModes else None) one.1 in
    let three = skip_fault (nat_lt 0 v.to_settle && nat_lt 0 v.to_tell) refused.MixedModes None two.1 in
    (none v.untaken one.0, none v.told two.0, three.0)
  where
    none : (n : ℕ) → nat_lt 0 n ≡ false → n ≡ 0
    none n f = let most = ltb-false 0 n f in omega (arith, most)

module _ (first last : ℕ) (s : SessionState) (v : Survey) (is : IsSurvey first last s.links v) where
  untaken_is : list_any (slot_names_untaken first last) s.links ≡ nat_lt 0 v.untaken
  untaken_is = any_number (is_covered first last) not_handed_up s.links ∙ ap (λ (n : ℕ). nat_lt 0 n) (sym is.untaken)

  told_is : list_any (slot_names_told first last) s.links ≡ nat_lt 0 v.told
  told_is = any_number (λ d. is_covered first last d && d.told) handed_up s.links ∙ ap (λ (n : ℕ). nat_lt 0 n) (sym is.told)

  first_is : v.told ≡ 0 → list_any (slot_names_first first last) s.links ≡ nat_lt 0 v.to_settle
  first_is none =
      any_number (receiver_settles first last) handed_up s.links
      ∙ ap (λ (n : ℕ). nat_lt 0 n) (sym (untold (λ c d. is_first d.rcv_settle_mode && c) (λ d. never (is_first d.rcv_settle_mode)) (covers first last) s.links (sym is.told ∙ none)) ∙ sym is.to_settle)
    where
      never : (b : Bool) → (b && false) ≡ false
      never true = refl
      never false = refl

  second_is : v.told ≡ 0 → list_any (slot_names_second first last) s.links ≡ nat_lt 0 v.to_tell
  second_is none =
      any_number (tells first last) handed_up s.links
      ∙ ap (λ (n : ℕ). nat_lt 0 n) (sym (untold (λ c d. not (is_first d.rcv_settle_mode) && c) (λ d. never (not (is_first d.rcv_settle_mode))) (covers first last) s.links (sym is.told ∙ none)) ∙ sym is.to_tell)
    where
      never : (b : Bool) → (b && false) ≡ false
      never true = refl
      never false = refl

  -- it is that of the survey, where the ends are right
  pub fault_is : range_fault first last s ≡ (if ends_fault first last s then Some refused.NoDelivery else survey_fault v)
  fault_is =
      ap (λ (b : Bool). if ends_fault first last s then Some refused.NoDelivery else (if b then Some refused.NotTaken else told_or)) untaken_is
      ∙ ap (λ (o : Option CallFault). if ends_fault first last s then Some refused.NoDelivery else (if nat_lt 0 v.untaken then Some refused.NotTaken else o))
      (ap (λ (b : Bool). if b then Some refused.AlreadyTold else mixed_or) told_is ∙ by (nat_lt 0 v.told) refl)
    where
      mixed_or : Option CallFault
      mixed_or = if list_any (slot_names_first first last) s.links && list_any (slot_names_second first last) s.links then Some refused.MixedModes else None

      told_or : Option CallFault
      told_or = if list_any (slot_names_told first last) s.links then Some refused.AlreadyTold else mixed_or

      by : (b : Bool) → nat_lt 0 v.told ≡ b → (if b then Some refused.AlreadyTold else mixed_or)
          ≡ (if b then Some refused.AlreadyTold else (if nat_lt 0 v.to_settle && nat_lt 0 v.to_tell then Some refused.MixedModes else None))
      by true e = refl
      by false e =
          let most = ltb-false 0 v.told e in
          let none : v.told ≡ 0 = omega (arith, most) in
          ap (λ (b : Bool). if b && list_any (slot_names_second first last) s.links then Some refused.MixedModes else None) (first_is none)
          ∙ ap (λ (b : Bool). if nat_lt 0 v.to_settle && b then Some refused.MixedModes else None) (second_is none)

  -- so many are named
  pub named_is : survey_fault v ≡ None → v.to_settle + v.to_tell ≡ named_total first last s
  named_is none = let ready = no_fault v none in omega (arith, ready.1, is.told, is.to_settle, is.to_tell, named_all first last s.links)

  -- and all are in the mode of the first
  module _ (apart : IsApart s) (low : first < 2 ^ 32) (ends : ends_fault first last s ≡ false) (none : survey_fault v ≡ None) where
    ready : (v.untaken ≡ 0) × (v.told ≡ 0) × (nat_lt 0 v.to_settle && nat_lt 0 v.to_tell ≡ false)
    ready = no_fault v none

    or_assoc : (a b c : Bool) → (a || b || c) ≡ false → (a || (b || c)) ≡ false
    or_assoc true b c e = e
    or_assoc false b c e = e

    ends_or : (is_absent (standing_in first s.links) || (is_absent (standing_in last s.links) || is_behind first last)) ≡ false
    ends_or = or_assoc (is_absent (standing_in first s.links)) (is_absent (standing_in last s.links)) (is_behind first last) ends

    two_ends : (is_absent (standing_in first s.links) ≡ false) × ((is_absent (standing_in last s.links) || is_behind first last) ≡ false)
    two_ends = or_parts (is_absent (standing_in first s.links)) (is_absent (standing_in last s.links) || is_behind first last) ends_or

    near : is_behind first last ≡ false
    near = (or_parts (is_absent (standing_in last s.links)) (is_behind first last) two_ends.1).1

    within : (Q : Test) (part : LinkState → List Delivery) → IsPart Q part → number Q part (covers first first) s.links ≤ number Q part (covers first last) s.links
    within Q part here = fewer Q part here (covers first first) (covers first last) inside s.links
      where
        inside : (n : ℕ) → covers first first n ≡ true → covers first last n ≡ true
        inside n e =
            let most = leb-true (distance_of first n) (distance_of first first) (and_parts (nat_lt (distance_of first first) (2 ^ 31)) (nat_le (distance_of first n) (distance_of first first)) e).1 in
            let ahead = leb-false (2 ^ 31) (distance_of first last) near in
            and_from (nat_lt (distance_of first last) (2 ^ 31)) (nat_le (distance_of first n) (distance_of first last)) (lt-ltb (distance_of first last) (2 ^ 31) (omega (arith, ahead)))
            (le-leb (distance_of first n) (distance_of first last) (omega (arith, low, most)))

    -- so many are in each mode as the first stands
    pub modes_are : (nat_lt 0 v.to_settle ≡ settles_at_once (standing_in first s.links)) × (nat_lt 0 v.to_tell ≡ not (settles_at_once (standing_in first s.links)))
    modes_are =
        by (standing_in first s.links) two_ends.0
        (omega (arith, sym (untaken_as s first apart low), within covered not_handed_up untaken_part, is.untaken, ready.0))
        (omega (arith, sym (told_as s first apart low), within told_one handed_up told_part, is.told, ready.1))
        (omega (arith, sym (to_settle_as s first apart low), within to_settle_one handed_up to_settle_part, is.to_settle))
        (omega (arith, sym (to_tell_as s first apart low), within to_tell_one handed_up to_tell_part, is.to_tell))
      where
        second : (b c : Bool) → b ≡ true → (b && c) ≡ false → c ≡ false
        second true c e f = f
        second false c e f = absurd (no_true e)

        first_of : (b c : Bool) → c ≡ true → (b && c) ≡ false → b ≡ false
        first_of true c e f = absurd (no_true (sym f ∙ e))
        first_of false c e f = refl

        by : (x : Standing) → is_absent x ≡ false → one_if (is_untaken x) ≤ 0 → one_if (is_told x) ≤ 0 → one_if (settles_at_once x) ≤ v.to_settle → one_if (can_tell x) ≤ v.to_tell →
            (nat_lt 0 v.to_settle ≡ settles_at_once x) × (nat_lt 0 v.to_tell ≡ not (settles_at_once x))
        by Absent a u t f g = absurd (no_true (sym a))
        by Untaken a u t f g = absurd (omega (arith, u))
        by Told a u t f g = absurd (omega (arith, t))
        by (Awaiting First) a u t f g = let some = lt-ltb 0 v.to_settle (omega (arith, f)) in (some, second (nat_lt 0 v.to_settle) (nat_lt 0 v.to_tell) some ready.2)
        by (Awaiting Second) a u t f g = let some = lt-ltb 0 v.to_tell (omega (arith, g)) in (first_of (nat_lt 0 v.to_settle) (nat_lt 0 v.to_tell) some ready.2, some)

-- One id. ------------------------------------------------------------------------------------------------------------------------

pub settle_is : (s : SessionState) (id : ℕ) → IsApart s → id < 2 ^ 32 → range_fault id id s ≡ standing_fault (standing_in id s.links)
settle_is s id apart low =
    fault_is id id s (of_one (standing_in id s.links)) record {
      untaken = sym (untaken_as s id apart low);
      told = sym (told_as s id apart low);
      to_settle = sym (to_settle_as s id apart low);
      to_tell = sym (to_tell_as s id apart low);
    }
    ∙ ap (λ (b : Bool). if is_absent (standing_in id s.links) || is_absent (standing_in id s.links) || b then Some refused.NoDelivery else survey_fault (of_one (standing_in id s.links))) here
    ∙ by (standing_in id s.links)
  where
    of_one : Standing → Survey
    of_one x = record { untaken = one_if (is_untaken x); told = one_if (is_told x); to_settle = one_if (settles_at_once x); to_tell = one_if (can_tell x) }

    here : is_behind id id ≡ false
    here = false_from_ne_true (is_behind id id) (λ e. let far = leb-true (2 ^ 31) (distance_of id id) e in absurd (omega (arith, low, far)))

    by : (x : Standing) → (if is_absent x || is_absent x || false then Some refused.NoDelivery else survey_fault (of_one x)) ≡ standing_fault x
    by Absent = refl
    by Untaken = refl
    by Told = refl
    by (Awaiting First) = refl
    by (Awaiting Second) = refl

-- One mode. ----------------------------------------------------------------------------------------------------------------------

-- of a range without fault all are in the mode of the first
pub one_mode : (s : SessionState) (first last : ℕ) → IsApart s → first < 2 ^ 32 → range_fault first last s ≡ None →
    (list_any (slot_names_first first last) s.links ≡ settles_at_once (standing_in first s.links)) × (list_any (slot_names_second first last) s.links ≡ not (settles_at_once (standing_in first s.links)))
one_mode s first last apart low none =
    let two = skip_fault (ends_fault first last s) refused.NoDelivery (survey_fault all) (sym (fault_is first last s all counted) ∙ none) in
    let ready = no_fault all two.1 in
    let modes = modes_are first last s all counted apart low two.0 two.1 in
    (first_is first last s all counted ready.1 ∙ modes.0, second_is first last s all counted ready.1 ∙ modes.1)
  where
    all : Survey
    all = record { untaken = untaken_in first last s.links; told = told_in first last s.links; to_settle = to_settle_in first last s.links; to_tell = to_tell_in first last s.links }

    counted : IsSurvey first last s.links all
    counted = record { untaken = refl; told = refl; to_settle = refl; to_tell = refl }
