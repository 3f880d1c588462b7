-- What a session does with a call of its application: why it is refused, or which event it is, and what it says (AMQP 1.0, part 2, sections 2.5.6, 2.6.5, 2.6.6, 2.6.7, 2.6.12 and 2.7.6).
use Rattle.std.specs.Prelude.{ℕ, ◌+◌, ◌^◌, Bool, true, false, not, ◌&&◌, ◌||◌, if◌then◌else◌, nat_le, nat_lt, List, [], ◌∷◌, Option, Some, None, is_none}
use Rattle.std.specs.List.{list_any}
use Rattle.amqp_serial.specs.Numbers.{distance_of}
use Rattle.amqp_perform.specs.declared.outcome.Outcome.{Outcome}
use Rattle.amqp_perform.specs.declared.modes.ReceiverSettleMode.TheVariants.{First}
use Rattle.amqp_link.specs.declared.settlement.Standing.{Standing}
use Rattle.amqp_link.specs.declared.settlement.Standing.TheVariants.{Absent, Untaken, Told, Awaiting}
use Rattle.amqp_link.specs.Links.{Delivery, LinkState, Granted, DrainAsked, HandedUp, first_ready, open_set, open_count, standing_of, is_covered, receiver_settles, tells, names_untaken}
use Rattle.amqp_session.specs.declared.fault.CallFault.{CallFault}
use Rattle.amqp_session.specs.declared.fault.CallFault.TheVariants as refused
use Rattle.amqp_session.specs.declared.slot.Slot.{Slot}
use Rattle.amqp_session.specs.declared.slot.Slot.TheVariants.{Free, Live, Waits}
use Rattle.amqp_perform.specs.Said.{Said}
use Rattle.amqp_perform.specs.Receivers.{state_said}
use Rattle.amqp_reason.specs.Reasons.{Reason, is_valid, error_span, rejected_span}
use Rattle.amqp_session.specs.Frames.{detach_said, disposition_said}
use Rattle.amqp_session.specs.Sessions.{LiveLink, SessionState, slot_at, SessionEvent, session_after}
use Rattle.amqp_session.specs.Sessions as event
use Rattle.amqp_session.specs.Faults.{or_else, where_so, session_flow, link_flow}

pub data Call : Type 0 where
  Widen : ℕ → Call  -- the window gets this many more places
  Grant : ℕ → ℕ → Call  -- the link with this handle gets this much more credit
  Drain : ℕ → Call  -- the sender of the link with this handle is asked to use its credit up
  Take : ℕ → Call  -- the first ready delivery of the link with this handle is handed up
  Settle : ℕ → Outcome → Call  -- what became of the delivery with this id
  SettleRange : ℕ → ℕ → Outcome → Call  -- what became of the open deliveries with the ids from the first to the last
  Detach : ℕ → Call  -- the link with this handle is ended
  Refuse : ℕ → Reason → Call  -- the link with this handle is ended with an error
  SettleWith : ℕ → Reason → Call  -- the delivery with this id is rejected with an error
  SettleRangeWith : ℕ → ℕ → Reason → Call  -- the open deliveries with the ids from the first to the last are rejected with an error

-- Settling. -----------------------------------------------------------------------------------------------------------

-- how the delivery with this id stands at a place
abbrev pub slot_standing : ℕ → Slot LiveLink → Standing
slot_standing id Free = Absent
slot_standing id (Live l) = standing_of id (open_set l.link)
slot_standing id Waits = Absent

abbrev pub or_later : Standing → Standing → Standing
or_later Absent later = later
or_later standing later = standing

-- how the delivery with this id stands in the session: on the first link that has an open one, and no two have
abbrev pub standing_in : ℕ → List (Slot LiveLink) → Standing
standing_in id [] = Absent
standing_in id (s ∷ slots) = or_later (slot_standing id s) (standing_in id slots)

-- this is the standing of no open delivery
abbrev pub is_absent : Standing → Bool
is_absent Absent = true
is_absent Untaken = false
is_absent Told = false
is_absent (Awaiting mode) = false

-- Ranges of ids. ------------------------------------------------------------------------------------------------------------

-- the last id is before the first [2.8.10]
abbrev pub is_behind : ℕ → ℕ → Bool
is_behind first last = nat_le (2 ^ 31) (distance_of first last)

-- a test of the link at a place; false if none is live there
abbrev pub live_has : (LinkState → Bool) → Slot LiveLink → Bool
live_has test Free = false
live_has test (Live l) = test l.link
live_has test Waits = false

-- an open delivery at a place with one of the ids from the first to the last was not handed up
abbrev pub slot_names_untaken : ℕ → ℕ → Slot LiveLink → Bool
slot_names_untaken first last s = live_has (λ l. names_untaken first last (open_set l)) s

-- the sender was told what became of one that was handed up; that is done only in mode second [2.8.3]
abbrev pub slot_names_told : ℕ → ℕ → Slot LiveLink → Bool
slot_names_told first last s = live_has (λ l. list_any (λ d. is_covered first last d && d.told) l.awaiting) s

-- one that was handed up is in mode first
abbrev pub slot_names_first : ℕ → ℕ → Slot LiveLink → Bool
slot_names_first first last s = live_has (λ l. list_any (receiver_settles first last) l.awaiting) s

-- one that was handed up is in mode second
abbrev pub slot_names_second : ℕ → ℕ → Slot LiveLink → Bool
slot_names_second first last s = live_has (λ l. list_any (tells first last) l.awaiting) s

-- Refusals. -----------------------------------------------------------------------------------------------------------------

-- a fault of the link at a handle; NoLink if none is live there
abbrev pub at_link : Slot LiveLink → (LinkState → Option CallFault) → Option CallFault
at_link Free test = Some refused.NoLink
at_link (Live l) test = test l.link
at_link Waits test = Some refused.NoLink

abbrev pub standing_fault : Standing → Option CallFault
standing_fault Absent = Some refused.NoDelivery
standing_fault Untaken = Some refused.NotTaken
standing_fault Told = Some refused.AlreadyTold
standing_fault (Awaiting mode) = None

-- The first fault of a settle of the ids from the first to the last. Both are ids of open deliveries; an id between them may belong to a closed delivery, or to none. All deliveries
-- that it names were handed up, and are in one mode, since one disposition says either of all that they are settled, or of none. [2.6.12, 2.7.6, 2.8.3]
abbrev pub range_fault : ℕ → ℕ → SessionState → Option CallFault
range_fault first last s =
    if is_absent (standing_in first s.links) || is_absent (standing_in last s.links) || is_behind first last then Some refused.NoDelivery
    else (if list_any (slot_names_untaken first last) s.links then Some refused.NotTaken
    else (if list_any (slot_names_told first last) s.links then Some refused.AlreadyTold
    else (if list_any (slot_names_first first last) s.links && list_any (slot_names_second first last) s.links then Some refused.MixedModes else None)))

-- the words of an error are tested last [2.8.14]
abbrev pub reason_fault : Reason → Option CallFault
reason_fault r = where_so (not (is_valid r)) refused.BadError

abbrev pub call_fault : SessionState → Call → Option CallFault
call_fault s (Widen n) = where_so (nat_le (2 ^ 31) (s.window + n)) refused.WindowTooWide
call_fault s (Grant handle n) = at_link (slot_at s handle) (λ l. where_so (nat_lt l.terms.bounds.allowed (l.credit + open_count l + n)) refused.TooMuchCredit)
call_fault s (Drain handle) = at_link (slot_at s handle) (λ l. None)
call_fault s (Take handle) = at_link (slot_at s handle) (λ l. where_so (is_none (first_ready l)) refused.NothingReady)
call_fault s (Settle id outcome) = range_fault id id s
call_fault s (SettleRange first last outcome) = range_fault first last s
call_fault s (Detach handle) = at_link (slot_at s handle) (λ l. None)
call_fault s (Refuse handle r) = or_else (at_link (slot_at s handle) (λ l. None)) (reason_fault r)
call_fault s (SettleWith id r) = or_else (range_fault id id s) (reason_fault r)
call_fault s (SettleRangeWith first last r) = or_else (range_fault first last s) (reason_fault r)

-- What an accepted call is, and says. ------------------------------------------------------------------------------------------

-- the first ready delivery is handed up
abbrev pub first_taken : ℕ → Option Delivery → SessionEvent
first_taken handle None = event.Ignored  -- refused
first_taken handle (Some d) = event.Called handle (HandedUp d)

abbrev pub take_event : ℕ → Slot LiveLink → SessionEvent
take_event handle Free = event.Ignored  -- refused
take_event handle (Live l) = first_taken handle (first_ready l.link)
take_event handle Waits = event.Ignored

abbrev pub call_event : SessionState → Call → SessionEvent
call_event s (Widen n) = event.Widened n
call_event s (Grant handle n) = event.Called handle (Granted n)
call_event s (Drain handle) = event.Called handle DrainAsked
call_event s (Take handle) = take_event handle (slot_at s handle)
call_event s (Settle id outcome) = event.Settled id id
call_event s (SettleRange first last outcome) = event.Settled first last
call_event s (Detach handle) = event.Detached handle
call_event s (Refuse handle r) = event.Detached handle
call_event s (SettleWith id r) = event.Settled id id
call_event s (SettleRangeWith first last r) = event.Settled first last

-- the call settles the delivery, which is so in mode first [2.7.5, 2.8.3]
abbrev pub settles_at_once : Standing → Bool
settles_at_once (Awaiting First) = true
settles_at_once standing = false

-- what is said of these ids: all deliveries that they name are in the mode of the first [2.7.6]
abbrev pub range_said : ℕ → ℕ → Outcome → SessionState → Said
range_said first last outcome s = disposition_said first last (settles_at_once (standing_in first s.links)) outcome

-- the same with an error: they are rejected [3.4.3]
abbrev pub range_rejected : ℕ → ℕ → Reason → SessionState → Said
range_rejected first last r s = state_said first last (settles_at_once (standing_in first s.links)) (rejected_span r)

-- what is said with words that are valid
abbrev pub if_valid : Reason → Said → List Said
if_valid r said = if is_valid r then said ∷ [] else []  -- refused

-- The answer states credit, drain and the window as they are after the call. [2.6.7, 2.7.4]
abbrev pub call_answer : SessionState → Call → List Said
call_answer s (Widen n) = session_flow (session_after s (call_event s (Widen n))) ∷ []
call_answer s (Grant handle n) = link_flow (session_after s (call_event s (Grant handle n))) handle
call_answer s (Drain handle) = link_flow (session_after s (call_event s (Drain handle))) handle
call_answer s (Take handle) = []
call_answer s (Settle id outcome) = range_said id id outcome s ∷ []
call_answer s (SettleRange first last outcome) = range_said first last outcome s ∷ []
call_answer s (Detach handle) = detach_said handle true [] ∷ []
call_answer s (Refuse handle r) = if_valid r (detach_said handle true (error_span r))  -- [2.6.5, 2.7.7]
call_answer s (SettleWith id r) = if_valid r (range_rejected id id r s)
call_answer s (SettleRangeWith first last r) = if_valid r (range_rejected first last r s)
