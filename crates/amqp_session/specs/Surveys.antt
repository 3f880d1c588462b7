-- How the open deliveries that a range of ids names stand in a session.
use Rattle.std.specs.Prelude.{◌≡◌, ℕ, ◌+◌, Bool, true, false, not, ◌&&◌, nat_lt, if◌then◌else◌, List, sum_by, Option, Some, None}
use Rattle.std.specs.List.{count_by}
use Rattle.amqp_perform.specs.declared.modes.ReceiverSettleMode.TheVariants.{Second}
use Rattle.amqp_link.specs.declared.settlement.Standing.{Standing}
use Rattle.amqp_link.specs.declared.settlement.Standing.TheVariants.{Absent, Untaken, Told, Awaiting}
use Rattle.amqp_link.specs.Histories.{one_if}
use Rattle.amqp_link.specs.Links.{LinkState, open_set, untaken, is_covered, receiver_settles, tells}
use Rattle.amqp_session.specs.declared.fault.CallFault.{CallFault}
use Rattle.amqp_session.specs.declared.fault.CallFault.TheVariants as refused
use Rattle.amqp_session.specs.declared.slot.Slot.{Slot}
use Rattle.amqp_session.specs.declared.slot.Slot.TheVariants.{Free, Live, Waits}
use Rattle.amqp_session.specs.declared.survey.Survey.{Survey}
use Rattle.amqp_session.specs.Sessions.{LiveLink}
use Rattle.amqp_session.specs.Calls.{settles_at_once}
use Rattle.amqp_session.specs.Indexes.{is_untaken}

-- One delivery. -------------------------------------------------------------------------------------------------------------

-- the sender was told what became of a delivery with this standing
abbrev pub is_told : Standing → Bool
is_told Absent = false
is_told Untaken = false
is_told Told = true
is_told (Awaiting mode) = false

-- the sender can be told what became of a delivery with this standing [2.8.3]
abbrev pub can_tell : Standing → Bool
can_tell (Awaiting Second) = true
can_tell standing = false

-- Those of a range. ---------------------------------------------------------------------------------------------------------

-- a number of the link at a place; 0 if none is live there
abbrev pub live_number : (LinkState → ℕ) → Slot LiveLink → ℕ
live_number count Free = 0
live_number count (Live l) = count l.link
live_number count Waits = 0

-- how many of the range were not handed up
abbrev pub untaken_in : ℕ → ℕ → List (Slot LiveLink) → ℕ
untaken_in first last slots = sum_by (live_number (λ l. count_by (is_covered first last) (untaken (open_set l)))) slots

-- for how many of the range the sender was told what became of them
abbrev pub told_in : ℕ → ℕ → List (Slot LiveLink) → ℕ
told_in first last slots = sum_by (live_number (λ l. count_by (λ d. is_covered first last d && d.told) l.awaiting)) slots

-- the others that were handed up: how many in mode first, and how many in mode second
abbrev pub to_settle_in : ℕ → ℕ → List (Slot LiveLink) → ℕ
to_settle_in first last slots = sum_by (live_number (λ l. count_by (λ d. receiver_settles first last d && not d.told) l.awaiting)) slots

abbrev pub to_tell_in : ℕ → ℕ → List (Slot LiveLink) → ℕ
to_tell_in first last slots = sum_by (live_number (λ l. count_by (λ d. tells first last d && not d.told) l.awaiting)) slots

-- the survey has these counts
pub record IsSurvey (first last : ℕ) (slots : List (Slot LiveLink)) (v : Survey) : Type 0 where
  pub untaken : v.untaken ≡ untaken_in first last slots
  pub told : v.told ≡ told_in first last slots
  pub to_settle : v.to_settle ≡ to_settle_in first last slots
  pub to_tell : v.to_tell ≡ to_tell_in first last slots

-- the counts with one more delivery, which has this standing
pub record IsNoted (old : Survey) (standing : Standing) (new : Survey) : Type 0 where
  pub untaken : new.untaken ≡ old.untaken + one_if (is_untaken standing)
  pub told : new.told ≡ old.told + one_if (is_told standing)
  pub to_settle : new.to_settle ≡ old.to_settle + one_if (settles_at_once standing)
  pub to_tell : new.to_tell ≡ old.to_tell + one_if (can_tell standing)

-- how many deliveries the survey counts in total
abbrev pub in_all : Survey → ℕ
in_all v = v.untaken + v.told + v.to_settle + v.to_tell

-- the first fault of a settle of the deliveries that a survey counts
abbrev pub survey_fault : Survey → Option CallFault
survey_fault v =
    if nat_lt 0 v.untaken then Some refused.NotTaken
    else (if nat_lt 0 v.told then Some refused.AlreadyTold else (if nat_lt 0 v.to_settle && nat_lt 0 v.to_tell then Some refused.MixedModes else None))

-- a settle of the range is possible: all its open deliveries were handed up, and the
-- sender was told of none
pub record AreReady (first last : ℕ) (slots : List (Slot LiveLink)) : Type 0 where
  pub untaken : untaken_in first last slots ≡ 0
  pub told : told_in first last slots ≡ 0
