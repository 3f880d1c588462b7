-- Each answer to a unit, and to a call, fits the room that is kept for it.
use Rattle.std.proofs.Common.{arith, ◌≡◌, ℕ, ◌+◌, ◌≤◌, Bool, true, false, ◌||◌, List, [], ◌∷◌, ◌++◌, length, refl, ltb-false, Option, Some, None}
use Rattle.std.specs.Prelude.{nat_eq, nat_lt, if◌then◌else◌, is_some, bytes_eq, sum_by}
use Rattle.std.proofs.lemmas.List.Sums.{sum_by-cons}
use Rattle.std.proofs.lemmas.List.{length-append}
use Rattle.amqp_types.specs.declared.kind.Kind.{Kind}
use Rattle.amqp_types.specs.declared.kind.Kind.TheVariants as kind
use Rattle.amqp_types.specs.declared.shell.Short.{Short}
use Rattle.amqp_types.specs.declared.shell.Short.TheVariants as short
use Rattle.std.specs.Int.{bytes_high_first}
use Rattle.amqp_types.specs.Canonical.{canonical, number_text, short_form}
use Rattle.amqp_types.specs.Trees.{Number}
use Rattle.amqp_frame.specs.declared.units.TheConstants.{HEADER}
use Rattle.amqp_frame.specs.Units.{StreamUnit, HeaderUnit, FrameUnit, FaultUnit, channel_of, body_of}
use Rattle.amqp_perform.specs.declared.condition.Condition.{Condition}
use Rattle.amqp_perform.specs.declared.condition.Condition.TheVariants as condition
use Rattle.amqp_perform.specs.declared.descriptor.Descriptor.{Descriptor}
use Rattle.amqp_perform.specs.declared.fault.BodyFault.{BodyFault}
use Rattle.amqp_perform.specs.declared.fault.BodyFault.TheVariants as body
use Rattle.amqp_perform.specs.declared.outcome.Outcome.{Outcome}
use Rattle.amqp_perform.specs.declared.outcome.Outcome.TheVariants as outcome
use Rattle.amqp_perform.specs.Cells.{Cell, Absent, Whole, Span}
use Rattle.amqp_perform.specs.Conditions.{condition_span}
use Rattle.amqp_perform.specs.Outcomes.{outcome_span}
use Rattle.amqp_perform.specs.Performatives.{is_receiver, span}
use Rattle.amqp_perform.specs.BodyReading.{body_at, fault_of}
use Rattle.amqp_perform.specs.Said.{Said, said_frame}
use Rattle.amqp_perform.specs.Receivers.{state_said}
use Rattle.amqp_reason.specs.Reasons.{Reason, is_valid, error_span, rejected_span}
use Rattle.amqp_reason.proofs.Spelled.{error_short, rejected_short}
use Rattle.amqp_session.specs.declared.fault.SessionFault.{SessionFault}
use Rattle.amqp_session.specs.declared.fault.SessionFault.TheVariants as fault
use Rattle.amqp_session.specs.declared.report.Report.{Report}
use Rattle.amqp_session.specs.declared.report.Report.TheVariants as report
use Rattle.amqp_session.specs.declared.slot.Slot.{Slot}
use Rattle.amqp_session.specs.declared.slot.Slot.TheVariants.{Free, Live, Waits}
use Rattle.amqp_session.specs.declared.terms.SessionTerms.{SessionTerms}
use Rattle.amqp_session.specs.Calls.{Call, Widen, Grant, Drain, Take, Settle, SettleRange, Detach, call_event, call_answer, range_said, settles_at_once, standing_in, Refuse, SettleWith, SettleRangeWith, range_rejected, if_valid}
use Rattle.amqp_session.specs.Faults as session
use Rattle.amqp_session.specs.Faults.{where_so, refusal, attach_fault, attach_answer, slot_flow, failure_answer, flow_answer, echo_answer, detach_answer}
use Rattle.amqp_session.specs.Frames.{Attaching, Flowing, Frame, Attaches, Flows, Transfers, Disposes, Detaches, is_coordinator, attach_said, count_stated, refusal_said, detach_said, failure_said}
use Rattle.amqp_session.specs.Frames.{flow_said, link_flow_said, disposition_said}
use Rattle.amqp_perform.specs.declared.modes.Role.{Role}
use Rattle.amqp_perform.specs.declared.modes.Role.TheVariants as of_role
use Rattle.amqp_session.specs.Sessions.{SessionState, LiveLink, session_after}
use Rattle.amqp_session.specs.Sessions as of_session
use Rattle.amqp_endpoint.specs.Calls.{slot_spoken, call_spoken}
use Rattle.amqp_endpoint.specs.Configs.{Configured}
use Rattle.amqp_endpoint.specs.Connections.{ConnectionState, slot_at, lesser, channel_limit, is_unopened, is_closing}
use Rattle.amqp_endpoint.specs.Fields.{Read, Opens, Begins, Ends, Closes, ForSession, Other, read_in}
use Rattle.amqp_endpoint.specs.Lengths.{cell_most, said_most}
use Rattle.amqp_endpoint.proofs.Lengths.{number_long}
use Rattle.amqp_endpoint.specs.Lines as line
use Rattle.amqp_endpoint.specs.Lines.{Line, attach_too_high, by_fault, session_line, channel_line, opened_line, unopened_line, unread_line, body_line, frame_line, is_read_close}
use Rattle.amqp_endpoint.specs.Lines.{closing_line, line_of, begun_terms}
use Rattle.amqp_endpoint.specs.Replies.{joined, time_out_said, open_said, begin_said, end_said, close_said, close_spoken, aloud, on_channel, reply_on}
use Rattle.amqp_session.proofs.Firsts.{neither, not_so}
use Rattle.amqp_endpoint.proofs.Accepts.{one_of}

-- the law of how long frames are
abbrev pub SaidLong : Type 0
SaidLong = (channel : ℕ) (s : Said) → length (said_frame channel s []) ≤ said_most s

-- Spans. ----------------------------------------------------------------------------------------------------------------

span_long : (text : List ℕ) → cell_most (span text) ≤ 1 + length text
span_long [] = omega arith
span_long (b ∷ text) = omega arith

-- an error's span is short
pub condition_long : (c : Condition) → length (condition_span c) ≤ 100
unfolding condition_span
condition_long condition.FramingError = omega arith
condition_long condition.Other = omega arith
condition_long _ = omega arith

outcome_long : (o : Outcome) → length (outcome_span o) ≤ 100
unfolding outcome_span
outcome_long outcome.Accepted = omega arith
outcome_long outcome.Rejected = omega arith
outcome_long outcome.Released = omega arith
outcome_long (outcome.Modified true true) = omega arith
outcome_long (outcome.Modified true false) = omega arith
outcome_long (outcome.Modified false true) = omega arith
outcome_long (outcome.Modified false false) = omega arith

-- What is said. ---------------------------------------------------------------------------------------------------------

-- an idle-time-out
pub time_out_most : (o : Option ℕ) → cell_most (time_out_said o) ≤ 17
time_out_most None = omega arith
time_out_most (Some n) = number_long kind.Uint n (short_form kind.Uint n)

pub uint_short : (n : ℕ) → length (canonical (Number kind.Uint n)) ≤ 5
uint_short n = by_form (short_form kind.Uint n)
  where
    by_form : (o : Option Short) → length (number_text kind.Uint n o) ≤ 5
    by_form (Some (short.Code code)) = omega arith
    by_form (Some (short.Byte code byte)) = omega arith
    by_form None = let e : length (bytes_high_first 4 n) ≡ 4 = refl in omega (arith, e)

-- a number is spelled by some bytes
pub span_number : (k : Kind) (n : ℕ) (o : Option Short) → span (number_text k n o) ≡ Span (number_text k n o)
span_number k n (Some (short.Code code)) = refl
span_number k n (Some (short.Byte code byte)) = refl
span_number k n None = refl

-- the most that an open takes
pub open_most : (config : Configured) (channel_max : ℕ) → length config.container_id ≤ 255 → said_most (open_said config channel_max) ≤ 400
open_most config channel_max short = omega (arith, short, time_out_most config.idle_time_out)

-- a begin
pub begin_most : (channel : ℕ) (terms : SessionTerms) → said_most (begin_said channel terms) ≤ 400
begin_most channel terms = omega arith

-- an end
pub end_most : (c : Condition) → said_most (end_said (condition_span c)) ≤ 400
end_most c = omega (arith, span_long (condition_span c), condition_long c)

-- a close
pub close_most : (c : Condition) → said_most (close_said (condition_span c)) ≤ 400
close_most c = omega (arith, span_long (condition_span c), condition_long c)

-- an attach with its name, source and target
pub attach_most : (longest : ℕ) (a : Attaching) → length a.name ≤ 255 → length a.source + length a.target ≤ 1024 → said_most (attach_said longest a) ≤ 1600
attach_most longest a name ends = omega (arith, name, ends, span_long a.source, span_long a.target, number_long kind.Ulong longest (short_form kind.Ulong longest))

-- an attach that refuses
pub refusal_most : (a : Attaching) → length a.name ≤ 255 → said_most (refusal_said a) ≤ 400
refusal_most a name = omega (arith, name, count_most a.role)
  where
    count_most : (r : Role) → cell_most (count_stated r) ≤ 17
    count_most of_role.Sender = omega arith
    count_most of_role.Receiver = omega arith

-- a detach
pub detach_most : (handle : ℕ) (closed : Bool) → said_most (detach_said handle closed []) ≤ 400
detach_most handle closed = omega arith

-- a detach with an error
pub failure_most : (handle : ℕ) (c : Condition) → said_most (failure_said handle c) ≤ 400
failure_most handle c = omega (arith, span_long (condition_span c), condition_long c)

-- a flow of a session
pub flow_most : (next window : ℕ) → said_most (flow_said next window) ≤ 400
flow_most next window = omega arith

-- a flow of a link
pub link_flow_most : (next window handle count credit : ℕ) (drain : Bool) → said_most (link_flow_said next window handle count credit drain) ≤ 400
link_flow_most next window handle count credit drain = omega arith

-- a disposition
pub disposition_most : (first last : ℕ) (settled : Bool) (o : Outcome) → said_most (disposition_said first last settled o) ≤ 400
disposition_most first last settled o = omega (arith, span_long (outcome_span o), outcome_long o, last_most (nat_eq first last))
  where
    last_most : (b : Bool) → cell_most (if b then Absent else Whole last) ≤ 17
    last_most true = omega arith
    last_most false = omega arith

-- a detach with an error of the application
pub refuse_most : (handle : ℕ) (r : Reason) → is_valid r ≡ true → said_most (detach_said handle true (error_span r)) ≤ 400
refuse_most handle r valid = omega (arith, span_long (error_span r), error_short r valid)

-- a close with one
pub close_with_most : (r : Reason) → is_valid r ≡ true → said_most (close_said (error_span r)) ≤ 400
close_with_most r valid = omega (arith, span_long (error_span r), error_short r valid)

-- a disposition with one
pub rejected_most : (first last : ℕ) (settled : Bool) (r : Reason) → is_valid r ≡ true → said_most (state_said first last settled (rejected_span r)) ≤ 500
rejected_most first last settled r valid = omega (arith, span_long (rejected_span r), rejected_short r valid, last_most (nat_eq first last))
  where
    last_most : (b : Bool) → cell_most (if b then Absent else Whole last) ≤ 17
    last_most true = omega arith
    last_most false = omega arith

-- Answers. --------------------------------------------------------------------------------------------------------------

abbrev all_most : List Said → ℕ
all_most xs = sum_by said_most xs

-- frames on a channel take no more than these together
pub channel_long : SaidLong → (channel : ℕ) (xs : List Said) → length (joined (on_channel channel xs)) ≤ all_most xs
channel_long law channel [] = omega arith
channel_long law channel (x ∷ xs) =
    omega (arith, law channel x, channel_long law channel xs, length-append (said_frame channel x []) (joined (on_channel channel xs)), sum_by-cons said_most x xs)

one_most : (x : Said) (n : ℕ) → n ≤ 1600 → said_most x ≤ n → all_most (x ∷ []) ≤ 2560
one_most x n most l = omega (arith, most, l, sum_by-cons said_most x [])

short_name : (t : SessionState) (a : Attaching) → attach_fault t a ≡ None → length a.name ≤ 255
short_name t a e =
    ltb-false 255 (length a.name) (not_so (nat_lt 255 (length a.name)) fault.ResourceLimit (neither (where_so (nat_lt 255 (length a.name)) fault.ResourceLimit) _ e).0)

short_ends : (terms : SessionTerms) (a : Attaching) → refusal terms a ≡ None → length a.source + length a.target ≤ 1024
short_ends terms a e =
    let second = (neither (where_so (is_receiver a.role || is_coordinator a.target) condition.NotImplemented) _ e).1 in
    ltb-false 1024 (length a.source + length a.target)
    (not_so (nat_lt 1024 (length a.source + length a.target)) condition.ResourceLimitExceeded
    (neither (where_so (nat_lt 1024 (length a.source + length a.target)) condition.ResourceLimitExceeded) _ second).0)

slot_flow_long : (t : SessionState) (handle : ℕ) (x : Slot LiveLink) → all_most (slot_flow t handle x) ≤ 2560
slot_flow_long t handle Free = omega arith
slot_flow_long t handle (Live l) =
    one_most (link_flow_said t.next_incoming_id t.window handle l.link.delivery_count l.link.credit l.link.draining) 400 (omega arith)
    (link_flow_most t.next_incoming_id t.window handle l.link.delivery_count l.link.credit l.link.draining)
slot_flow_long t handle Waits = omega arith

failure_long : (n : Report) → all_most (failure_answer n) ≤ 2560
failure_long (report.Failed handle c dropped) = one_most (failure_said handle c) 400 (omega arith) (failure_most handle c)
failure_long _ = omega arith

echo_long : (after : SessionState) (handle : Option ℕ) (b : Bool) → all_most (if b then echo_answer after handle else []) ≤ 2560
echo_long after None true = one_most (flow_said after.next_incoming_id after.window) 400 (omega arith) (flow_most after.next_incoming_id after.window)
echo_long after (Some handle) true = slot_flow_long after handle (of_session.slot_at after handle)
echo_long after handle false = omega arith

flow_long : (after : SessionState) (f : Flowing) (n : Report) → all_most (flow_answer after f n) ≤ 2560
flow_long after f (report.Failed handle c dropped) = failure_long (report.Failed handle c dropped)
flow_long after f _ = echo_long after f.handle f.echo

attach_long : (t : SessionState) (a : Attaching) → attach_fault t a ≡ None → (o : Option Condition) → refusal t.terms a ≡ o → all_most (attach_answer t.terms a o) ≤ 2560
attach_long t a none None e =
    one_most (attach_said a.bounds.max_message_size a) 1600 (omega arith) (attach_most a.bounds.max_message_size a (short_name t a none) (short_ends t.terms a e))
attach_long t a none (Some c) e =
    let one = refusal_most a (short_name t a none) in
    let two = failure_most a.handle c in
    let x = refusal_said a in
    let y = failure_said a.handle c in
    omega (arith, one, two, sum_by-cons said_most x (y ∷ []), sum_by-cons said_most y [])

detach_long : (handle : ℕ) (closed : Bool) (x : Slot LiveLink) → all_most (detach_answer handle closed x) ≤ 2560
detach_long handle closed Free = omega arith
detach_long handle closed (Live l) = one_most (detach_said handle closed []) 400 (omega arith) (detach_most handle closed)
detach_long handle closed Waits = omega arith

-- the answer to a frame fits the room that it is given
pub answer_long : (t : SessionState) (f : Frame) → session.session_fault t f ≡ None → all_most (session.answer_of t f) ≤ 2560
answer_long t (Attaches a) none = attach_long t a none (refusal t.terms a) refl
answer_long t (Flows f) none = flow_long (session_after t (session.event_of t (Flows f))) f (session.report_of t (Flows f))
answer_long t (Transfers handle x) none = failure_long (session.report_of t (Transfers handle x))
answer_long t (Disposes d) none = omega arith
answer_long t (Detaches handle closed) none = detach_long handle closed (of_session.slot_at t handle)

range_long : (first last : ℕ) (o : Outcome) (t : SessionState) → all_most (range_said first last o t ∷ []) ≤ 2560
range_long first last o t =
    let settled = settles_at_once (standing_in first t.links) in one_most (disposition_said first last settled o) 400 (omega arith) (disposition_most first last settled o)

-- what is said with words that are valid
valid_long : (r : Reason) (x : Said) → (is_valid r ≡ true → said_most x ≤ 500) → all_most (if_valid r x) ≤ 2560
valid_long r x most = by (is_valid r) refl
  where
    by : (b : Bool) → is_valid r ≡ b → all_most (if b then x ∷ [] else []) ≤ 2560
    by true valid = one_most x 500 (omega arith) (most valid)
    by false none = omega arith

call_long : (t : SessionState) (c : Call) → all_most (call_answer t c) ≤ 2560
call_long t (Widen n) =
    let after = session_after t (call_event t (Widen n)) in one_most (flow_said after.next_incoming_id after.window) 400 (omega arith) (flow_most after.next_incoming_id after.window)
call_long t (Grant handle n) = let after = session_after t (call_event t (Grant handle n)) in slot_flow_long after handle (of_session.slot_at after handle)
call_long t (Drain handle) = let after = session_after t (call_event t (Drain handle)) in slot_flow_long after handle (of_session.slot_at after handle)
call_long t (Take handle) = omega arith
call_long t (Settle id o) = range_long id id o t
call_long t (SettleRange first last o) = range_long first last o t
call_long t (Detach handle) = one_most (detach_said handle true []) 400 (omega arith) (detach_most handle true)
call_long t (Refuse handle r) = valid_long r (detach_said handle true (error_span r)) (λ valid. omega (arith, refuse_most handle r valid))
call_long t (SettleWith id r) = valid_long r (range_rejected id id r t) (λ valid. rejected_most id id (settles_at_once (standing_in id t.links)) r valid)
call_long t (SettleRangeWith first last r) = valid_long r (range_rejected first last r t) (λ valid. rejected_most first last (settles_at_once (standing_in first t.links)) r valid)

-- Units. ----------------------------------------------------------------------------------------------------------------

abbrev Fits : ConnectionState → Line → Type 0
Fits s l = length (reply_on s l) ≤ 2560

module _ (law : SaidLong) (s : ConnectionState) (short : length s.config.container_id ≤ 255) where
  aloud_long : (x : Said) → said_most x ≤ 400 → length (joined (aloud x ∷ [])) ≤ 2560
  aloud_long x l = omega (arith, law 0 x, l, length-append (said_frame 0 x []) [])

  -- a close with an error, before the peer's open behind the own one
  broken_long : (b : Bool) (c : Condition) → length (joined ((if b then aloud (open_said s.config 0) ∷ [] else []) ++ aloud (close_said (condition_span c)) ∷ [])) ≤ 2560
  broken_long true c =
      let x = open_said s.config 0 in
      let y = close_said (condition_span c) in
      omega (arith, law 0 x, law 0 y, open_most s.config 0 short, close_most c, length-append (said_frame 0 x []) (said_frame 0 y [] ++ []), length-append (said_frame 0 y []) [])
  broken_long false c = aloud_long (close_said (condition_span c)) (close_most c)

  close_long : (c : Condition) → length (joined (close_spoken s c)) ≤ 2560
  close_long c = broken_long (is_unopened s.phase) c

  on_long : (channel : ℕ) (x : Said) → said_most x ≤ 400 → length (joined (on_channel channel (x ∷ []))) ≤ 2560
  on_long channel x l = let m = channel_long law channel (x ∷ []) in omega (arith, m, one_most x 400 (omega arith) l)

  session_fits : (channel : ℕ) (t : SessionState) (f : Frame) → Fits s (session_line channel t f)
  session_fits channel t f =
      one_of (Fits s) (attach_too_high t f) line.HandleTooHigh (by_fault channel t f (session.session_fault t f)) (λ high. close_long condition.FramingError)
      (λ low. by_it (session.session_fault t f) refl)
    where
      by_it : (o : Option SessionFault) → session.session_fault t f ≡ o → Fits s (by_fault channel t f o)
      by_it None none = let m = channel_long law channel (session.answer_of t f) in omega (arith, m, answer_long t f none)
      by_it (Some e) some = on_long channel (end_said (condition_span (session.session_condition e))) (end_most (session.session_condition e))

  channel_fits : (channel : ℕ) (r : Read) (x : Slot SessionState) → Fits s (channel_line channel x r)
  channel_fits channel (Begins b) Free =
      one_of (Fits s) (is_some b.remote_channel) line.BeginMisplaced (line.PeerBegins channel b) (λ so. close_long condition.IllegalState)
      (λ so. on_long channel (begin_said channel (begun_terms s b)) (begin_most channel (begun_terms s b)))
  channel_fits channel (Opens o) Free = close_long condition.IllegalState
  channel_fits channel Ends Free = close_long condition.IllegalState
  channel_fits channel Closes Free = close_long condition.IllegalState
  channel_fits channel (ForSession f) Free = close_long condition.IllegalState
  channel_fits channel Other Free = close_long condition.IllegalState
  channel_fits channel (Opens o) (Live t) = close_long condition.InvalidField
  channel_fits channel (Begins b) (Live t) = close_long condition.IllegalState
  channel_fits channel Ends (Live t) = on_long channel (end_said []) (omega arith)
  channel_fits channel Closes (Live t) = close_long condition.InvalidField
  channel_fits channel (ForSession f) (Live t) = session_fits channel t f
  channel_fits channel Other (Live t) = close_long condition.InvalidField
  channel_fits channel Ends Waits = omega arith
  channel_fits channel (Opens o) Waits = omega arith
  channel_fits channel (Begins b) Waits = omega arith
  channel_fits channel Closes Waits = omega arith
  channel_fits channel (ForSession f) Waits = omega arith
  channel_fits channel Other Waits = omega arith

  opened_fits : (channel : ℕ) (r : Read) → Fits s (opened_line s channel r)
  opened_fits channel (Opens o) = close_long condition.IllegalState
  opened_fits channel (Begins b) = channel_fits channel (Begins b) (slot_at s channel)
  opened_fits channel Ends = channel_fits channel Ends (slot_at s channel)
  opened_fits channel Closes = aloud_long (close_said []) (omega arith)
  opened_fits channel (ForSession f) = channel_fits channel (ForSession f) (slot_at s channel)
  opened_fits channel Other = close_long condition.InvalidField

  unopened_fits : (r : Read) → Fits s (unopened_line r)
  unopened_fits (Opens o) =
      let highest = lesser s.config.channel_max o.channel_max in aloud_long (open_said s.config highest) (open_most s.config highest short)
  unopened_fits r = close_long condition.IllegalState

  body_fits : (channel : ℕ) (bytes : List ℕ) (o : Option (Descriptor × List Cell × List ℕ)) → Fits s (body_line s channel bytes o)
  body_fits channel bytes None = unread (fault_of bytes)
    where
      unread : (f : BodyFault) → Fits s (unread_line f)
      unread (body.Decode e) = close_long condition.DecodeError
      unread body.InvalidField = close_long condition.InvalidField
  body_fits channel bytes (Some x) =
      let r = read_in s.config x.0 x.1 x.2 in
      one_of (Fits s) (is_unopened s.phase) (unopened_line r) (opened_line s channel r) (λ before. unopened_fits r) (λ after. opened_fits channel r)

  frame_fits : (channel : ℕ) (bytes : List ℕ) → Fits s (frame_line s channel bytes)
  frame_fits channel [] = omega arith
  frame_fits channel (b ∷ bytes) =
      one_of (Fits s) (nat_lt (channel_limit s.phase) channel) line.ChannelTooHigh (body_line s channel (b ∷ bytes) (body_at (b ∷ bytes))) (λ high. close_long condition.FramingError)
      (λ low. body_fits channel (b ∷ bytes) (body_at (b ∷ bytes)))

  pub unit_fits : (u : StreamUnit) → Fits s (line_of s u)
  unit_fits (HeaderUnit bytes) = one_of (Fits s) (bytes_eq bytes HEADER) line.HeaderAccepted line.HeaderUnknown (λ so. omega arith) (λ so. omega arith)
  unit_fits (FaultUnit fault bytes) =
      one_of (Fits s) (is_closing s.phase) line.FrameBadInClosing line.FrameBad (λ so. omega arith) (λ so. close_long condition.FramingError)
  unit_fits (FrameUnit bytes) =
      let part = body_of bytes in
      one_of (Fits s) (is_closing s.phase) (closing_line part) (frame_line s (channel_of bytes) part)
      (λ so. one_of (Fits s) (is_read_close (body_at part)) line.CloseAwaited line.DroppedInClosing (λ so. omega arith) (λ so. omega arith)) (λ so. frame_fits (channel_of bytes) part)

-- so does what a call writes
pub call_fits : SaidLong → (s : ConnectionState) (channel : ℕ) (c : Call) → length (joined (call_spoken s channel c)) ≤ 2560
call_fits law s channel c = by_slot (slot_at s channel)
  where
    by_slot : (x : Slot SessionState) → length (joined (slot_spoken channel x c)) ≤ 2560
    by_slot Free = omega arith
    by_slot (Live t) = let m = channel_long law channel (call_answer t c) in omega (arith, m, call_long t c)
    by_slot Waits = omega arith
