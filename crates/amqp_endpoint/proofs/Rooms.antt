-- The buffer and the output of an endpoint stay within their bounds, one call after another.
use Rattle.std.proofs.Common.{arith, ◌≡◌, ℕ, zero, suc, ◌+◌, ◌≤◌, inl, inr, Bool, true, false, List, [], ◌∷◌, ◌++◌, length, take, drop, refl, sym, ap, ◌∙◌, subst, None}
use Rattle.std.specs.Prelude.{if◌then◌else◌, ◌||◌, nat_lt, not}
use Rattle.std.proofs.lemmas.Bool.{cases_lt, ltb-false, not-true, not-false}
use Rattle.std.proofs.lemmas.List.{length-append, length-drop, length-take-le}
use Rattle.amqp_frame.specs.Splits.{SplitterState, Waits, IsUnchanged, IsOver, IsTaken}
use Rattle.amqp_frame.specs.Units.{StreamUnit, HeaderUnit, FrameUnit, FaultUnit, IsUnit, IsRest}
use Rattle.amqp_frame.specs.declared.units.Stage.{Stage}
use Rattle.amqp_frame.specs.declared.units.Stage.TheVariants.{Header, Frames, Refused as Over, Faulty}
use Rattle.amqp_perform.specs.Said.{said_frame}
use Rattle.amqp_reason.specs.Reasons.{Reason, is_valid, error_span}
use Rattle.amqp_session.specs.declared.slot.Slot.{Slot}
use Rattle.amqp_session.specs.declared.slot.Slot.TheVariants.{Free, Live, Waits as Awaits}
use Rattle.amqp_session.specs.Calls as session
use Rattle.amqp_session.specs.Faults.{or_else, where_so}
use Rattle.amqp_session.specs.Sessions.{SessionState}
use Rattle.amqp_endpoint.specs.declared.event.Outcome.{Outcome}
use Rattle.amqp_endpoint.specs.declared.fault.CallFault.TheVariants as refused
use Rattle.amqp_endpoint.specs.declared.phase.Phase.{Phase}
use Rattle.amqp_endpoint.specs.declared.phase.Phase.TheVariants as phase
use Rattle.amqp_endpoint.specs.Calls.{call_fault, call_event, call_spoken, slot_spoken, at_session, writes, dead_fault, unopened_fault, full_fault, open_call_fault, close_with_fault, close_with_spoken}
use Rattle.amqp_endpoint.specs.Calls.{close_call_spoken, heartbeat, has_room}
use Rattle.amqp_endpoint.specs.Configs.{Configured}
use Rattle.amqp_endpoint.specs.Connections as event
use Rattle.amqp_endpoint.specs.Connections.{ConnectionState, is_dead, is_closing, is_unopened, slot_at}
use Rattle.amqp_endpoint.specs.Lines.{line_of}
use Rattle.amqp_endpoint.specs.Replies.{joined, reply_on, close_said}
use Rattle.amqp_endpoint.specs.Runs.{Call, Feed, InSession, Close, Heartbeat, Output, Held, Finish, Answer, Fed, Accepted, Dropped, Named, HandedUp, Refused, MovedOut, Holds, Ended, CloseWith}
use Rattle.amqp_endpoint.specs.Runs.{IsWritten, IsBeat, IsMoved, IsFinished, Does, Run, IsStart}
use Rattle.amqp_endpoint.specs.Steps.{EndpointState, IsKept, IsActed, Acts, Comes, FeedDone, room_for, may_act}
use Rattle.amqp_endpoint.proofs.Endpoints.{rest_few, header_few, free_at, due_no_header}
use Rattle.amqp_endpoint.proofs.ClosesWith.{open_then, valid_then}
use Rattle.amqp_endpoint.proofs.Replies.{SaidLong, close_with_most}
use Rattle.amqp_frame.proofs.Fronts.{waits_or_not}
use Rattle.amqp_session.proofs.Firsts.{neither, not_so}

-- what is owed of answers
abbrev pub UnitsFit : Type 0
UnitsFit = (s : ConnectionState) (u : StreamUnit) → length s.config.container_id ≤ 255 → length (reply_on s (line_of s u)) ≤ 2560

-- the law that what calls write fits
abbrev pub CallsFit : Type 0
CallsFit = (s : ConnectionState) (channel : ℕ) (c : session.Call) → length (joined (call_spoken s channel c)) ≤ 2560

-- while the header is due nothing was written, and no session has begun
pub record IsFirst (unsent : List ℕ) (s : ConnectionState) : Type 0 where
  pub none : unsent ≡ []
  pub before : s.phase ≡ phase.Unopened
  pub free : (channel : ℕ) → slot_at s channel ≡ Free

-- the lengths of an endpoint's parts stay within these
pub record IsRoomy (config : Configured) (s : EndpointState) : Type 0 where
  pub limit : s.input.limit ≡ config.max_frame
  pub named : s.connection.config ≡ config
  pub buffer : length s.input.filled ≤ config.max_frame
  pub output : length s.unsent ≤ 8192
  pub first : s.input.stage ≡ Header → is_dead s.connection.phase ≡ false → IsFirst s.unsent s.connection

-- the buffer stays
stays : (config : Configured) (old new : EndpointState) → IsRoomy config old → IsUnchanged old.input new.input → new.connection.config ≡ old.connection.config → length new.unsent ≤ 8192 →
    (old.input.stage ≡ Header → is_dead new.connection.phase ≡ false → IsFirst new.unsent new.connection) → IsRoomy config new
stays config old new x u same out first = record {
  limit = u.limit ∙ x.limit;
  named = same ∙ x.named;
  buffer = omega (arith, x.buffer, ap length u.filled);
  output = out;
  first = λ e d. first (sym u.stage ∙ e) d;
}

-- the connection stays, and the output is as empty
first_still : (old new : EndpointState) (config : Configured) → IsRoomy config old → new.connection ≡ old.connection → (old.unsent ≡ [] → new.unsent ≡ []) → old.input.stage ≡ Header →
    is_dead new.connection.phase ≡ false → IsFirst new.unsent new.connection
first_still old new config x same less e d =
    let f = x.first e (subst (λ (c : ConnectionState). is_dead c.phase ≡ false) same d) in
    record { none = less f.none; before = ap (λ (c : ConnectionState). c.phase) same ∙ f.before; free = λ channel. ap (λ (c : ConnectionState). slot_at c channel) same ∙ f.free channel }

kept : (config : Configured) (old new : EndpointState) → IsRoomy config old → IsKept old new → IsRoomy config new
kept config old new x k =
    stays config old new x k.input (ap (λ (c : ConnectionState). c.config) k.connection) (omega (arith, x.output, ap length k.unsent)) (first_still old new config x k.connection (λ n. k.unsent ∙ n))

dropped : (n : ℕ) (xs : List ℕ) → xs ≡ [] → drop n xs ≡ []
dropped zero xs e = e
dropped (suc n) [] e = refl
dropped (suc n) (x ∷ xs) e = absurd (grind (arith, e))

moved : (config : Configured) (old new : EndpointState) (room : ℕ) (bytes : List ℕ) → IsRoomy config old → IsMoved old new room bytes → IsRoomy config new
moved config old new room bytes x m =
    stays config old new x m.input (ap (λ (c : ConnectionState). c.config) m.connection) (omega (arith, x.output, ap length m.unsent, length-drop room old.unsent))
    (first_still old new config x m.connection (λ n. m.unsent ∙ dropped room old.unsent n))

-- Refusals. -------------------------------------------------------------------------------------------------------------

room_of : (unsent : List ℕ) → has_room unsent ≡ true → length unsent + 2560 ≤ 8192
room_of unsent e = ltb-false 8192 (length unsent + 2560) (not-true (nat_lt 8192 (length unsent + 2560)) e)

not_full : (unsent : List ℕ) → full_fault unsent ≡ None → length unsent + 2560 ≤ 8192
not_full unsent e = room_of unsent (not-false (has_room unsent) (not_so (not (has_room unsent)) refused.Full e))

not_dead : (p : Phase) → where_so (is_dead p || is_closing p) refused.Dead ≡ None → is_dead p ≡ false
not_dead phase.Unopened e = refl
not_dead (phase.Open m c) e = refl
not_dead phase.Closing e = absurd (grind (arith, e))
not_dead phase.Dead e = absurd (grind (arith, e))

-- while the header is due no call that writes is accepted
no_call : {A : Type 0} (x : Slot SessionState) (c : session.Call) → x ≡ Free → at_session x c ≡ None → A
no_call Free c e f = absurd (grind (arith, f))
no_call (Live s) c e f = absurd (grind (arith, e))
no_call Awaits c e f = absurd (grind (arith, e))

no_open_call : {A : Type 0} (p : Phase) → p ≡ phase.Unopened → where_so (is_unopened p) refused.NotOpen ≡ None → A
no_open_call phase.Unopened e f = absurd (grind (arith, f))
no_open_call (phase.Open m c) e f = absurd (grind (arith, e))
no_open_call phase.Closing e f = absurd (grind (arith, e))
no_open_call phase.Dead e f = absurd (grind (arith, e))

-- Calls. ----------------------------------------------------------------------------------------------------------------

-- a take writes nothing
take_long : (channel handle : ℕ) (x : Slot SessionState) → length (joined (slot_spoken channel x (session.Take handle))) ≡ 0
take_long channel handle Free = refl
take_long channel handle (Live s) = refl
take_long channel handle Awaits = refl

long_after : (old new bytes : List ℕ) → new ≡ old ++ bytes → length new ≡ length old + length bytes
long_after old new bytes e = ap length e ∙ length-append old bytes

written_long : CallsFit → (s : ConnectionState) (old new : List ℕ) (channel : ℕ) (c : session.Call) → full_fault old ≡ None → new ≡ old ++ joined (call_spoken s channel c) → length new ≤ 8192
written_long fit s old new channel c room e = omega (arith, not_full old room, long_after old new (joined (call_spoken s channel c)) e, fit s channel c)

called_long : CallsFit → (s : ConnectionState) (old new : List ℕ) (channel : ℕ) (c : session.Call) → length old ≤ 8192 → (if writes c then full_fault old else None) ≡ None →
    new ≡ old ++ joined (call_spoken s channel c) → length new ≤ 8192
called_long fit s old new channel (session.Take handle) few room e =
    omega (arith, few, long_after old new (joined (call_spoken s channel (session.Take handle))) e, take_long channel handle (slot_at s channel))
called_long fit s old new channel (session.Widen n) few room e = written_long fit s old new channel (session.Widen n) room e
called_long fit s old new channel (session.Grant handle n) few room e = written_long fit s old new channel (session.Grant handle n) room e
called_long fit s old new channel (session.Drain handle) few room e = written_long fit s old new channel (session.Drain handle) room e
called_long fit s old new channel (session.Settle id o) few room e = written_long fit s old new channel (session.Settle id o) room e
called_long fit s old new channel (session.SettleRange first last o) few room e = written_long fit s old new channel (session.SettleRange first last o) room e
called_long fit s old new channel (session.Detach handle) few room e = written_long fit s old new channel (session.Detach handle) room e
called_long fit s old new channel (session.Refuse handle r) few room e = written_long fit s old new channel (session.Refuse handle r) room e
called_long fit s old new channel (session.SettleWith id r) few room e = written_long fit s old new channel (session.SettleWith id r) room e
called_long fit s old new channel (session.SettleRangeWith first last r) few room e = written_long fit s old new channel (session.SettleRangeWith first last r) room e

called : CallsFit → (config : Configured) (old new : EndpointState) (channel : ℕ) (c : session.Call) → IsRoomy config old → call_fault old.connection old.unsent channel c ≡ None →
    IsWritten old new (call_event old.connection channel c) (joined (call_spoken old.connection channel c)) → IsRoomy config new
called fit config old new channel c x none w =
    let slot = slot_at old.connection channel in
    let full = if writes c then full_fault old.unsent else None in
    let alive = neither (dead_fault old.connection) (or_else (at_session slot c) full) none in
    let rest = neither (at_session slot c) full alive.1 in
    stays config old new x w.input (ap (λ (s : ConnectionState). s.config) w.connection) (called_long fit old.connection old.unsent new.unsent channel c x.output rest.1 w.unsent)
    (λ e d. no_call slot c ((x.first e (not_dead old.connection.phase alive.0)).free channel) rest.0)

opened : (config : Configured) (old new : EndpointState) (bytes : List ℕ) → IsRoomy config old → open_call_fault old.connection old.unsent ≡ None → length bytes ≤ 2560 →
    IsUnchanged old.input new.input → new.connection.config ≡ old.connection.config → new.unsent ≡ old.unsent ++ bytes → IsRoomy config new
opened config old new bytes x none short u same w =
    let alive = neither (dead_fault old.connection) (or_else (unopened_fault old.connection) (full_fault old.unsent)) none in
    let rest = neither (unopened_fault old.connection) (full_fault old.unsent) alive.1 in
    stays config old new x u same (omega (arith, not_full old.unsent rest.1, short, long_after old.unsent new.unsent bytes w))
    (λ e d. no_open_call old.connection.phase (x.first e (not_dead old.connection.phase alive.0)).before rest.0)

finished : (config : Configured) (old new : EndpointState) → IsRoomy config old → IsFinished old new → IsRoomy config new
finished config old new x f = record {
  limit = f.limit ∙ x.limit;
  named = ap (λ (s : ConnectionState). s.config) f.connection ∙ x.named;
  buffer = omega (arith, ap length f.filled);
  output = omega (arith, x.output, ap length f.unsent);
  first = λ e d. absurd (grind (arith, subst (λ (s : ConnectionState). is_dead s.phase ≡ false) f.connection d));
}

-- Feeds. ----------------------------------------------------------------------------------------------------------------

-- less than a unit, with a byte more, is at most the longest frame
one_more : (max : ℕ) (stage : Stage) (s : List ℕ) (n : ℕ) → 8 ≤ max → IsRest max stage s → (IsOver stage → ⊥) → n ≡ length s + 1 → n ≤ max
one_more max Header s n m r o e =
    elim (cases_lt (length s) 8) [
      | inl h ↦ omega (arith, h, e, m)
      | inr h ↦ absurd (header_few max s h r)
    ]
one_more max Frames s n m r o e =
    elim (cases_lt (length s) max) [
      | inl h ↦ omega (arith, h, e)
      | inr h ↦ absurd (rest_few max s m h r)
    ]
one_more max Over s n m r o e = absurd (o tt)
one_more max (Faulty f) s n m r o e = absurd (o tt)

-- what is taken fits the buffer
taken_few : (old between : SplitterState) (piece : List ℕ) (used : ℕ) → 8 ≤ old.limit → length old.filled ≤ old.limit → IsTaken old between piece used → length between.filled ≤ old.limit
taken_few old between piece zero m l t = omega (arith, l, ap length t.filled, length-append old.filled (take zero piece))
taken_few old between piece (suc k) m l t =
    let short = length-take-le k piece (omega (arith, t.bound)) in
    let long = length-take-le (suc k) piece t.bound in
    one_more old.limit old.stage (old.filled ++ take k piece) (length between.filled) m (t.early k (omega arith)) (λ o. absurd (omega (arith, t.full (inr o))))
    (omega (arith, short, long, ap length t.filled, length-append old.filled (take (suc k) piece), length-append old.filled (take k piece)))

grows : (config : Configured) (old : EndpointState) (between : SplitterState) (piece : List ℕ) (used : ℕ) → 8 ≤ config.max_frame → IsRoomy config old → IsTaken old.input between piece used →
    IsRoomy config (record old { input = between })
grows config old between piece used least x t = record {
  limit = t.limit ∙ x.limit;
  named = x.named;
  buffer = omega (arith, x.limit, taken_few old.input between piece used (omega (arith, least, x.limit)) (omega (arith, x.buffer, x.limit)) t);
  output = x.output;
  first = λ e d. x.first (sym t.stage ∙ e) d;
}

header_due : (max : ℕ) (stage : Stage) (bytes : List ℕ) → IsUnit max stage (HeaderUnit bytes) → stage ≡ Header
header_due max Header bytes is = refl
header_due max Frames bytes is = absurd is
header_due max Over bytes is = absurd is
header_due max (Faulty f) bytes is = absurd is

-- there is room for the answer to a unit
room_before : (config : Configured) (s : EndpointState) (u : StreamUnit) → IsRoomy config s → is_dead s.connection.phase ≡ false → Waits s.input u → room_for s.unsent u ≡ true →
    length s.unsent + 2560 ≤ 8192
room_before config s (HeaderUnit bytes) x alive w e = omega (arith, ap length (x.first (header_due s.input.limit s.input.stage bytes w.is) alive).none)
room_before config s (FrameUnit bytes) x alive w e = room_of s.unsent e
room_before config s (FaultUnit f bytes) x alive w e = room_of s.unsent e

acted : UnitsFit → (config : Configured) → length config.container_id ≤ 255 → (old new : EndpointState) (u : StreamUnit) (answer : Outcome) → IsRoomy config old →
    is_dead old.connection.phase ≡ false →
    Waits old.input u → room_for old.unsent u ≡ true → IsActed old new u answer → IsRoomy config new
acted fit config short old new u answer x alive w room a =
    let name = subst (λ (c : Configured). length c.container_id ≤ 255) (sym x.named) short in
    record {
      limit = a.input.limit ∙ x.limit;
      named = ap (λ (s : ConnectionState). s.config) a.connection ∙ x.named;
      buffer = omega (arith, ap length a.input.filled);
      output = omega (arith, room_before config old u x alive w room, fit old.connection u name, long_after old.unsent new.unsent (reply_on old.connection (line_of old.connection u)) a.unsent);
      first = λ e d. absurd (due_no_header u (sym a.input.stage ∙ e));
    }

acts : UnitsFit → (config : Configured) → length config.container_id ≤ 255 → (old new : EndpointState) (u : StreamUnit) (may : Bool) (answer : Outcome) → IsRoomy config old →
    is_dead old.connection.phase ≡ false → Waits old.input u → may_act old u ≡ may → Acts old new u may answer → IsRoomy config new
acts fit config short old new u false answer x alive w room a = kept config old new x a.0
acts fit config short old new u true answer x alive w room a =
    elim a [
      | inl does ↦ acted fit config short old new u answer x alive w room does
      | inr waits ↦ kept config old new x waits.0
    ]

comes : UnitsFit → (config : Configured) → length config.container_id ≤ 255 → 8 ≤ config.max_frame → (old new : EndpointState) (answer : Outcome) → IsRoomy config old →
    is_dead old.connection.phase ≡ false → Comes old new answer → IsRoomy config new
comes fit config short least old new answer x alive c =
    elim (waits_or_not old.input (subst (λ (m : ℕ). 8 ≤ m) (sym x.limit) least)) [
      | inl u ↦ acts fit config short old new u.0 (may_act old u.0) answer x alive u.1 refl (c.unit u.0 u.1)
      | inr none ↦ kept config old new x (c.none none).0
    ]

fed : UnitsFit → (config : Configured) → length config.container_id ≤ 255 → 8 ≤ config.max_frame → (dead : Bool) (old new : EndpointState) (piece : List ℕ) (used : ℕ) (answer : Outcome) →
    IsRoomy config old → is_dead old.connection.phase ≡ dead → FeedDone dead old new piece used answer → IsRoomy config new
fed fit config short least true old new piece used answer x dead f = kept config old new x f.0
fed fit config short least false old new piece used answer x alive f =
    comes fit config short least (record old { input = f.between }) new answer (grows config old f.between piece used least x f.taken) alive f.comes

-- One call, and all of them. --------------------------------------------------------------------------------------------

-- a close is short
close_short : SaidLong → length (joined close_call_spoken) ≤ 2560
close_short long = omega (arith, long 0 (close_said []), length-append (said_frame 0 (close_said []) []) [])

close_with_short : SaidLong → (r : Reason) → is_valid r ≡ true → length (joined (close_with_spoken r)) ≤ 2560
close_with_short long r valid = omega (arith, long 0 (close_said (error_span r)), close_with_most r valid, length-append (said_frame 0 (close_said (error_span r)) []) [])

module _ (said : SaidLong) (units : UnitsFit) (calls : CallsFit) (config : Configured) (short : length config.container_id ≤ 255) (least : 8 ≤ config.max_frame) where
  closes : (old new : EndpointState) → IsRoomy config old → open_call_fault old.connection old.unsent ≡ None → IsWritten old new event.CloseAsked (joined close_call_spoken) → IsRoomy config new
  closes old new x none w = opened config old new (joined close_call_spoken) x none (close_short said) w.input (ap (λ (s : ConnectionState). s.config) w.connection) w.unsent

  closes_with : (old new : EndpointState) (r : Reason) → IsRoomy config old → close_with_fault old.connection old.unsent r ≡ None →
      IsWritten old new event.CloseAsked (joined (close_with_spoken r)) → IsRoomy config new
  closes_with old new r x none w =
      opened config old new (joined (close_with_spoken r)) x (open_then old.connection old.unsent r none) (close_with_short said r (valid_then old.connection old.unsent r none))
      w.input (ap (λ (s : ConnectionState). s.config) w.connection) w.unsent

  beats : (old new : EndpointState) → IsRoomy config old → open_call_fault old.connection old.unsent ≡ None → IsBeat old new → IsRoomy config new
  beats old new x none b = opened config old new heartbeat x none (omega arith) b.input (ap (λ (s : ConnectionState). s.config) b.connection) b.unsent

  does : (old new : EndpointState) (call : Call) (a : Answer) → IsRoomy config old → Does old new call a → IsRoomy config new
  does old new (Feed piece) (Fed used o) x d = fed units config short least (is_dead old.connection.phase) old new piece used o x refl d
  does old new (InSession channel c) (Refused f) x d = kept config old new x d.1
  does old new (InSession channel c) (Fed n o) x d = called calls config old new channel c x d.0 d.1
  does old new (InSession channel c) Accepted x d = called calls config old new channel c x d.0 d.1
  does old new (InSession channel c) (Dropped n) x d = called calls config old new channel c x d.0 d.1
  does old new (InSession channel c) (Named n) x d = called calls config old new channel c x d.0 d.1
  does old new (InSession channel c) (HandedUp y) x d = called calls config old new channel c x d.0 d.1
  does old new (InSession channel c) (MovedOut b) x d = called calls config old new channel c x d.0 d.1
  does old new (InSession channel c) (Holds n) x d = called calls config old new channel c x d.0 d.1
  does old new (InSession channel c) (Ended e) x d = called calls config old new channel c x d.0 d.1
  does old new Close (Refused f) x d = kept config old new x d.1
  does old new Close (Fed n o) x d = closes old new x d.0 d.1
  does old new Close Accepted x d = closes old new x d.0 d.1
  does old new Close (Dropped n) x d = closes old new x d.0 d.1
  does old new Close (Named n) x d = closes old new x d.0 d.1
  does old new Close (HandedUp y) x d = closes old new x d.0 d.1
  does old new Close (MovedOut b) x d = closes old new x d.0 d.1
  does old new Close (Holds n) x d = closes old new x d.0 d.1
  does old new Close (Ended e) x d = closes old new x d.0 d.1
  does old new (CloseWith r) (Refused f) x d = kept config old new x d.1
  does old new (CloseWith r) (Fed n o) x d = closes_with old new r x d.0 d.1
  does old new (CloseWith r) Accepted x d = closes_with old new r x d.0 d.1
  does old new (CloseWith r) (Dropped n) x d = closes_with old new r x d.0 d.1
  does old new (CloseWith r) (Named n) x d = closes_with old new r x d.0 d.1
  does old new (CloseWith r) (HandedUp y) x d = closes_with old new r x d.0 d.1
  does old new (CloseWith r) (MovedOut b) x d = closes_with old new r x d.0 d.1
  does old new (CloseWith r) (Holds n) x d = closes_with old new r x d.0 d.1
  does old new (CloseWith r) (Ended e) x d = closes_with old new r x d.0 d.1
  does old new Heartbeat (Refused f) x d = kept config old new x d.1
  does old new Heartbeat (Fed n o) x d = beats old new x d.0 d.1
  does old new Heartbeat Accepted x d = beats old new x d.0 d.1
  does old new Heartbeat (Dropped n) x d = beats old new x d.0 d.1
  does old new Heartbeat (Named n) x d = beats old new x d.0 d.1
  does old new Heartbeat (HandedUp y) x d = beats old new x d.0 d.1
  does old new Heartbeat (MovedOut b) x d = beats old new x d.0 d.1
  does old new Heartbeat (Holds n) x d = beats old new x d.0 d.1
  does old new Heartbeat (Ended e) x d = beats old new x d.0 d.1
  does old new (Output room) (MovedOut bytes) x d = moved config old new room bytes x d
  does old new Held (Holds n) x d = kept config old new x d.0
  does old new Finish (Ended e) x d = finished config old new x d.0
  does old new call a x d = absurd d

  pub all_calls : (s : EndpointState) (asked : List Call) (answers : List Answer) (last : EndpointState) → IsRoomy config s → Run s asked answers last → IsRoomy config last
  all_calls s [] [] last x r = subst (λ (v : EndpointState). IsRoomy config v) (sym r) x
  all_calls s [] (a ∷ answers) last x r = absurd r
  all_calls s (c ∷ asked) [] last x r = absurd r
  all_calls s (c ∷ asked) (a ∷ answers) last x r = all_calls r.0 asked answers last (does s r.0 c a x r.1) r.2

-- a new endpoint holds nothing
pub starts : (config : Configured) (s : EndpointState) → IsStart config s → IsRoomy config s
starts config s start = record {
  limit = start.limit;
  named = ap (λ (c : ConnectionState). c.config) start.connection;
  buffer = omega (arith, ap length start.filled);
  output = omega (arith, ap length start.unsent);
  first = λ e d. record {
    none = start.unsent;
    before = ap (λ (c : ConnectionState). c.phase) start.connection;
    free = λ channel. ap (λ (c : ConnectionState). slot_at c channel) start.connection ∙ free_at 0 (suc config.channel_max) channel;
  };
}
