-- A walk over the index, from one open delivery of a range to the next.
use Rattle.std.proofs.Common.{arith, ◌≡◌, ℕ, ◌+◌, ◌^◌, ◌<◌, ◌≤◌, Bool, true, false, not, ◌&&◌, List, refl, sym, ap, ◌∙◌, Option, Some, None}
use Rattle.std.specs.Prelude.{is_some, nat_lt, nat_le, if◌then◌else◌}
use Rattle.std.proofs.lemmas.Bool.{leb-true, ltb-true, and_parts, false_from_ne_true}
use Rattle.amqp_perform.specs.declared.modes.ReceiverSettleMode.{ReceiverSettleMode}
use Rattle.amqp_perform.specs.declared.modes.ReceiverSettleMode.TheVariants.{First, Second}
use Rattle.amqp_link.specs.declared.settlement.Standing.{Standing}
use Rattle.amqp_link.specs.declared.settlement.Standing.TheVariants.{Absent, Untaken, Told, Awaiting}
use Rattle.amqp_link.specs.Histories.{one_if}
use Rattle.amqp_link.specs.Links.{Delivery, LinkState, covers, open_set, untaken, is_first, IsAwaiting}
use Rattle.amqp_link.proofs.Hints.{no_true}
use Rattle.amqp_serial.specs.Numbers.{distance_of}
use Rattle.amqp_session.specs.declared.index.Kept.{Kept}
use Rattle.amqp_session.specs.declared.slot.Slot.{Slot}
use Rattle.amqp_session.specs.Sessions.{LiveLink, SessionState, slot_at, IsApart}
use Rattle.amqp_session.specs.Calls.{standing_in, slot_standing, is_absent, settles_at_once}
use Rattle.amqp_session.specs.Indexes.{found, answered, is_untaken, IsKnown, IsKnownFrom}
use Rattle.amqp_session.specs.declared.survey.Survey.{Survey}
use Rattle.amqp_session.specs.Surveys.{is_told, can_tell, untaken_in, told_in, to_settle_in, to_tell_in, in_all, IsNoted, AreReady}
use Rattle.amqp_session.proofs.Standings.{parts_count}
use Rattle.amqp_session.proofs.Lookups.{found_none, found_here, here_counted}
use Rattle.amqp_session.proofs.Swept.{none_there}
use Rattle.amqp_session.proofs.Disposed.{behind, both, none_left, wraps_both}
use Rattle.amqp_session.proofs.RangeCounts.{Test, IsPart, number, split, nothing, one_awaiting, one_untaken}
use Rattle.amqp_session.proofs.RangeSettles.{settled_in_two, settled_nothing, untaken_stay, told_stay}

-- The four tests. --------------------------------------------------------------------------------------------------------------

abbrev pub covered : Test
covered c d = c

abbrev pub told_one : Test
told_one c d = c && d.told

abbrev pub to_settle_one : Test
to_settle_one c d = (is_first d.rcv_settle_mode && c) && not d.told

abbrev pub to_tell_one : Test
to_tell_one c d = (not (is_first d.rcv_settle_mode) && c) && not d.told

abbrev pub not_handed_up : LinkState → List Delivery
not_handed_up l = untaken (open_set l)

abbrev pub handed_up : LinkState → List Delivery
handed_up l = l.awaiting

not_settled : (m t : Bool) → ((m && false) && t) ≡ false
not_settled true t = refl
not_settled false t = refl

pub untaken_part : IsPart covered not_handed_up
untaken_part = record { none = λ d. refl; within = λ n l. omega (arith, parts_count n l) }

pub told_part : IsPart told_one handed_up
told_part = record { none = λ d. refl; within = λ n l. omega (arith, parts_count n l) }

pub to_settle_part : IsPart to_settle_one handed_up
to_settle_part = record { none = λ d. not_settled (is_first d.rcv_settle_mode) (not d.told); within = λ n l. omega (arith, parts_count n l) }

pub to_tell_part : IsPart to_tell_one handed_up
to_tell_part = record { none = λ d. not_settled (not (is_first d.rcv_settle_mode)) (not d.told); within = λ n l. omega (arith, parts_count n l) }

-- One id, as it stands. --------------------------------------------------------------------------------------------------------

module _ (s : SessionState) (id : ℕ) (apart : IsApart s) (low : id < 2 ^ 32) where
  pub untaken_as : untaken_in id id s.links ≡ one_if (is_untaken (standing_in id s.links))
  untaken_as = one_untaken s id apart low

  pub told_as : told_in id id s.links ≡ one_if (is_told (standing_in id s.links))
  told_as = one_awaiting s id apart low told_one (λ d. refl) (λ a. one_if (is_told a)) refl refl (λ d. by d.told d.rcv_settle_mode)
    where
      by : (t : Bool) (m : ReceiverSettleMode) → one_if t ≡ one_if (is_told (if t then Told else Awaiting m))
      by true m = refl
      by false m = refl

  pub to_settle_as : to_settle_in id id s.links ≡ one_if (settles_at_once (standing_in id s.links))
  to_settle_as = one_awaiting s id apart low to_settle_one to_settle_part.none (λ a. one_if (settles_at_once a)) refl refl (λ d. by d.told d.rcv_settle_mode)
    where
      by : (t : Bool) (m : ReceiverSettleMode) → one_if ((is_first m && true) && not t) ≡ one_if (settles_at_once (if t then Told else Awaiting m))
      by true First = refl
      by true Second = refl
      by false First = refl
      by false Second = refl

  pub to_tell_as : to_tell_in id id s.links ≡ one_if (can_tell (standing_in id s.links))
  to_tell_as = one_awaiting s id apart low to_tell_one to_tell_part.none (λ a. one_if (can_tell a)) refl refl (λ d. by d.told d.rcv_settle_mode)
    where
      by : (t : Bool) (m : ReceiverSettleMode) → one_if ((not (is_first m) && true) && not t) ≡ one_if (can_tell (if t then Told else Awaiting m))
      by true First = refl
      by true Second = refl
      by false First = refl
      by false Second = refl

-- what is neither absent nor untaken nor told of awaits that
pub can_settle : (x : Standing) → is_absent x ≡ false → one_if (is_untaken x) ≡ 0 → one_if (is_told x) ≡ 0 → IsAwaiting x
can_settle Absent a u t = absurd (no_true (sym a))
can_settle Untaken a u t = absurd (omega (arith, u))
can_settle Told a u t = absurd (omega (arith, t))
can_settle (Awaiting mode) a u t = tt

-- and one more is noted of it
pub noted_one : (v w : Survey) (x : Standing) → IsNoted v x w → in_all w ≤ in_all v + 1
noted_one v w x noted = let one = by x in omega (arith, one, noted.untaken, noted.told, noted.to_settle, noted.to_tell)
  where
    by : (x : Standing) → one_if (is_untaken x) + one_if (is_told x) + one_if (settles_at_once x) + one_if (can_tell x) ≤ 1
    by Absent = omega arith
    by Untaken = omega arith
    by Told = omega arith
    by (Awaiting First) = omega arith
    by (Awaiting Second) = omega arith

-- what the index has is open
pub kept_open : (entries : List (ℕ × Kept)) (s : SessionState) (id : ℕ) (kept : Kept) → IsKnown entries s → id < 2 ^ 32 → Some kept ≡ found entries id → is_absent (standing_in id s.links) ≡ false
kept_open entries s id kept known low here =
    ap is_absent (found_here entries s.links known.indexed id low kept here) ∙ by (is_absent (slot_standing id (slot_at s kept.handle))) refl
  where
    by : (b : Bool) → is_absent (slot_standing id (slot_at s kept.handle)) ≡ b → is_absent (slot_standing id (slot_at s kept.handle)) ≡ false
    by true e = let none = none_there id (slot_at s kept.handle) e in let one = here_counted entries s.links known.indexed id low kept here in absurd (omega (arith, none, one))
    by false e = e

-- an id is in it exactly where it is open
pub open_is : (entries : List (ℕ × Kept)) (s : SessionState) (id : ℕ) → IsKnown entries s → id < 2 ^ 32 → is_some (found entries id) ≡ not (is_absent (standing_in id s.links))
open_is entries s id known low = by (found entries id) refl
  where
    by : (o : Option Kept) → found entries id ≡ o → is_some o ≡ not (is_absent (standing_in id s.links))
    by None e = sym (ap (λ (x : Standing). not (is_absent x)) (found_none entries s.links known.indexed id low (sym e)))
    by (Some kept) e = sym (ap not (kept_open entries s id kept known low (sym e)))

-- Ids as plain numbers. ----------------------------------------------------------------------------------------------------------

pub one_or_rest : (id last n : ℕ) → id ≤ last → last < id + 2 ^ 31 → last < 2 ^ 32 → covers id id n ≡ true → covers (id + 1) last n ≡ false
one_or_rest id last n order few small here = false_from_ne_true (covers (id + 1) last n) (λ c.
    let at = leb-true (distance_of id n) (distance_of id id) (and_parts (nat_lt (distance_of id id) (2 ^ 31)) (nat_le (distance_of id n) (distance_of id id)) here).1 in
    let later = leb-true (distance_of (id + 1) n) (distance_of (id + 1) last) (and_parts (nat_lt (distance_of (id + 1) last) (2 ^ 31)) (nat_le (distance_of (id + 1) n) (distance_of (id + 1) last)) c).1 in
    let near = ltb-true (distance_of (id + 1) last) (2 ^ 31) (and_parts (nat_lt (distance_of (id + 1) last) (2 ^ 31)) (nat_le (distance_of (id + 1) n) (distance_of (id + 1) last)) c).0 in
    absurd (omega (arith, order, few, small, at, later, near)))

pub high_or_low : (first last n : ℕ) → last < first → first < 2 ^ 32 → covers first 4294967295 n ≡ true → covers 0 last n ≡ false
high_or_low first last n wraps small high = false_from_ne_true (covers 0 last n) (λ c.
    let at = leb-true (distance_of first n) (distance_of first 4294967295) (and_parts (nat_lt (distance_of first 4294967295) (2 ^ 31)) (nat_le (distance_of first n) (distance_of first 4294967295)) high).1 in
    let low = leb-true (distance_of 0 n) (distance_of 0 last) (and_parts (nat_lt (distance_of 0 last) (2 ^ 31)) (nat_le (distance_of 0 n) (distance_of 0 last)) c).1 in
    absurd (omega (arith, wraps, small, at, low)))

-- two that can't both be so, the other way round
pub other_way : (p q : ℕ → Bool) → ((n : ℕ) → p n ≡ true → q n ≡ false) → (n : ℕ) → q n ≡ true → p n ≡ false
other_way p q off n e = false_from_ne_true (p n) (λ f. no_true (sym (off n f) ∙ e))

-- A step. ------------------------------------------------------------------------------------------------------------------------

module _ (entries : List (ℕ × Kept)) (s : SessionState) (from last : ℕ) (order : from ≤ last) (few : last < from + 2 ^ 31) (small : last < 2 ^ 32) (known : IsKnownFrom entries from last s) where
  -- nothing is left
  module _ (none : (q : ℕ) → from ≤ q → q ≤ last → found entries q ≡ None) where
    pub left_answered : s ≡ answered from last s
    left_answered = ap (λ (ls : List (Slot LiveLink)). record s { links = ls }) (sym (settled_nothing from last s.links (none_left entries s from last order few small known none)))

    pub left_number : (Q : Test) (part : LinkState → List Delivery) → IsPart Q part → number Q part (covers from last) s.links ≡ 0
    left_number Q part is = nothing Q part is (covers from last) s.links (none_left entries s from last order few small known none)

  -- or one is
  module _ (id : ℕ) (low : from ≤ id) (high : id ≤ last) (none : (q : ℕ) → from ≤ q → q < id → found entries q ≡ None) where
    apart_rest : (n : ℕ) → covers id id n ≡ true → covers (id + 1) last n ≡ false
    apart_rest n e = one_or_rest id last n high (omega (arith, few, low)) small e

    pub step_answered : answered from last s ≡ answered (id + 1) last (answered id id s)
    step_answered = ap (λ (ls : List (Slot LiveLink)). record s { links = ls }) (settled_in_two from last id id (id + 1) last s.links (both entries s from last order few small known id low high none))

    pub step_number : (Q : Test) (part : LinkState → List Delivery) → IsPart Q part →
        number Q part (covers from last) s.links ≡ number Q part (covers id id) s.links + number Q part (covers (id + 1) last) s.links
    step_number Q part is = split Q part is (covers from last) (covers id id) (covers (id + 1) last) apart_rest s.links (both entries s from last order few small known id low high none)

    -- one more is noted
    module _ (apart : IsApart s) (v w : Survey) (x : Standing) (stands : standing_in id s.links ≡ x) (noted : IsNoted v x w) where
      short : id < 2 ^ 32
      short = omega (arith, high, small)

      pub noted_untaken : w.untaken + untaken_in (id + 1) last s.links ≡ v.untaken + untaken_in from last s.links
      noted_untaken =
          let two = step_number covered not_handed_up untaken_part in
          let one = untaken_as s id apart short ∙ ap (λ (y : Standing). one_if (is_untaken y)) stands in omega (arith, two, one, noted.untaken)

      pub noted_told : w.told + told_in (id + 1) last s.links ≡ v.told + told_in from last s.links
      noted_told =
          let two = step_number told_one handed_up told_part in
          let one = told_as s id apart short ∙ ap (λ (y : Standing). one_if (is_told y)) stands in omega (arith, two, one, noted.told)

      pub noted_to_settle : w.to_settle + to_settle_in (id + 1) last s.links ≡ v.to_settle + to_settle_in from last s.links
      noted_to_settle =
          let two = step_number to_settle_one handed_up to_settle_part in
          let one = to_settle_as s id apart short ∙ ap (λ (y : Standing). one_if (settles_at_once y)) stands in omega (arith, two, one, noted.to_settle)

      pub noted_to_tell : w.to_tell + to_tell_in (id + 1) last s.links ≡ v.to_tell + to_tell_in from last s.links
      noted_to_tell =
          let two = step_number to_tell_one handed_up to_tell_part in
          let one = to_tell_as s id apart short ∙ ap (λ (y : Standing). one_if (can_tell y)) stands in omega (arith, two, one, noted.to_tell)

    -- what is left after it can still be settled
    pub step_ready : AreReady from last s.links → AreReady (id + 1) last (answered id id s).links
    step_ready ready = record {
      untaken = let two = step_number covered not_handed_up untaken_part in let same = untaken_stay id id (id + 1) last s.links in omega (arith, ready.untaken, two, same);
      told = (
          let two = step_number told_one handed_up told_part in
          let less = told_stay id id (id + 1) last (other_way (covers id id) (covers (id + 1) last) apart_rest) s.links in omega (arith, ready.told, two, less)
          );
    }

    -- and so can it
    pub step_awaits : (kept : Kept) → IsKnown entries s → Some kept ≡ found entries id → AreReady from last s.links → IsAwaiting (standing_in id s.links)
    step_awaits kept whole here ready =
        let short : id < 2 ^ 32 = omega (arith, high, small) in
        let untaken = step_number covered not_handed_up untaken_part in
        let told = step_number told_one handed_up told_part in
        can_settle (standing_in id s.links) (kept_open entries s id kept whole short here) (omega (arith, untaken, ready.untaken, untaken_as s id whole.apart short))
        (omega (arith, told, ready.told, told_as s id whole.apart short))

    module _ (is_last : id ≡ last) where
      behind_it : (n : ℕ) → covers (id + 1) last n ≡ false
      behind_it n = ap (λ (k : ℕ). covers (k + 1) last n) is_last ∙ behind last n small

      pub last_answered : answered from last s ≡ answered id id s
      last_answered = step_answered ∙ ap (λ (ls : List (Slot LiveLink)). record s { links = ls }) (settled_nothing (id + 1) last (answered id id s).links (λ n i more. behind_it n))

      pub last_nothing : (Q : Test) (part : LinkState → List Delivery) → IsPart Q part → number Q part (covers (id + 1) last) s.links ≡ 0
      last_nothing Q part is = nothing Q part is (covers (id + 1) last) s.links (λ n i more. behind_it n)

-- A range that goes on behind the end of the ids. --------------------------------------------------------------------------------

module _ (first last : ℕ) (wraps : last < first) (small : first < 2 ^ 32) (near : distance_of first last < 2 ^ 31) (s : SessionState) (apart : IsApart s) where
  pub wrap_answered : answered 0 last (answered first 4294967295 s) ≡ answered first last s
  wrap_answered = sym (ap (λ (ls : List (Slot LiveLink)). record s { links = ls }) (settled_in_two first last first 4294967295 0 last s.links (wraps_both first last wraps small near s apart)))

  pub wrap_number : (Q : Test) (part : LinkState → List Delivery) → IsPart Q part →
      number Q part (covers first last) s.links ≡ number Q part (covers first 4294967295) s.links + number Q part (covers 0 last) s.links
  wrap_number Q part is =
      split Q part is (covers first last) (covers first 4294967295) (covers 0 last) (λ n e. high_or_low first last n wraps small e) s.links (wraps_both first last wraps small near s apart)

  pub wrap_ready : AreReady first last s.links → AreReady first 4294967295 s.links × AreReady 0 last (answered first 4294967295 s).links
  wrap_ready ready = (
    record {
      untaken = let two = wrap_number covered not_handed_up untaken_part in omega (arith, two, ready.untaken);
      told = let two = wrap_number told_one handed_up told_part in omega (arith, two, ready.told);
    },
    record {
      untaken = let two = wrap_number covered not_handed_up untaken_part in let same = untaken_stay first 4294967295 0 last s.links in omega (arith, two, same, ready.untaken);
      told = (
          let two = wrap_number told_one handed_up told_part in
          let less = told_stay first 4294967295 0 last (other_way (covers first 4294967295) (covers 0 last) (λ n e. high_or_low first last n wraps small e)) s.links in omega (arith, two, less, ready.told)
          );
    },
  )
