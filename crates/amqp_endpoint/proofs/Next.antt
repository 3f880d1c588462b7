-- What an application asks behind what it was told is accepted.
use Rattle.std.proofs.Common.{arith, ◌≡◌, ℕ, ◌+◌, ◌^◌, ◌<◌, ◌≤◌, inl, inr, Bool, true, false, List, [], ◌∷◌, ◌++◌, length, refl, sym, ap, ◌∙◌, subst, Option, Some, None}
use Rattle.std.specs.Prelude.{if◌then◌else◌, not, ◌&&◌, ◌||◌, nat_lt, nat_le, nat_eq, is_none, is_some, slice_get, unwrap_or, option_map, bytes_eq}
use Rattle.std.proofs.lemmas.Bool.{le-ltb}
use Rattle.std.proofs.lemmas.Bool.Decides.{nat_tests}
use Rattle.amqp_frame.specs.declared.units.TheConstants.{HEADER}
use Rattle.amqp_frame.specs.Units.{StreamUnit, HeaderUnit, FrameUnit, FaultUnit, channel_of, body_of}
use Rattle.amqp_frame.proofs.Fronts.{waits_or_not}
use Rattle.amqp_link.specs.declared.transfer.LinkFault.{LinkFault}
use Rattle.amqp_link.specs.declared.transfer.Step.{Step}
use Rattle.amqp_link.specs.declared.transfer.Step.TheVariants as step
use Rattle.amqp_link.specs.Links.{is_beyond_credit, is_drained, Sent, Delivery, LinkState, Transferred, first_ready, open_count, step_of, delivery_after, link_after}
use Rattle.amqp_perform.specs.declared.condition.Condition.{Condition}
use Rattle.amqp_perform.specs.declared.condition.Condition.TheVariants as condition
use Rattle.amqp_perform.specs.declared.descriptor.Descriptor.{Descriptor}
use Rattle.amqp_perform.specs.declared.fault.BodyFault.{BodyFault}
use Rattle.amqp_perform.specs.declared.fault.BodyFault.TheVariants as body
use Rattle.amqp_perform.specs.BodyReading.{body_at, fault_of}
use Rattle.amqp_perform.specs.Cells.{Cell}
use Rattle.amqp_session.specs.declared.fault.CallFault.TheVariants as of_session
use Rattle.amqp_session.specs.declared.fault.SessionFault.{SessionFault}
use Rattle.amqp_session.specs.declared.report.Report.{Report}
use Rattle.amqp_session.specs.declared.report.Report.TheVariants as report
use Rattle.amqp_session.specs.declared.slot.Slot.{Slot}
use Rattle.amqp_session.specs.declared.slot.Slot.TheVariants.{Free, Live, Waits as Awaits}
use Rattle.amqp_session.specs.Calls.{Take, Grant, Widen, at_link}
use Rattle.amqp_session.specs.Faults.{or_else, where_so, session_fault, refusal, transfer_fault, transfer_event, transfer_report, came_report, step_report, attach_report, flow_report, named_report, settled_report, settled_count, last_of, is_settling, report_of, event_of}
use Rattle.amqp_session.specs.Frames.{Flowing, Frame, Attaches, Flows, Transfers, Disposes, Detaches}
use Rattle.amqp_session.specs.Places.{GoesOn, places_from, slot_after}
use Rattle.amqp_session.specs.Sessions as one
use Rattle.amqp_session.specs.Sessions.{LiveLink, SessionState, TransferCame, live_begins, live_after, session_begins, session_after}
use Rattle.amqp_session.proofs.Tables.{found, get_after, hit}
use Rattle.amqp_endpoint.specs.declared.event.Event.{Event}
use Rattle.amqp_endpoint.specs.declared.event.Event.TheVariants as told
use Rattle.amqp_endpoint.specs.declared.event.Outcome.TheVariants as outcome
use Rattle.amqp_endpoint.specs.declared.fault.CallFault.{CallFault}
use Rattle.amqp_endpoint.specs.declared.fault.CallFault.TheVariants as refused
use Rattle.amqp_endpoint.specs.declared.phase.Phase.{Phase}
use Rattle.amqp_endpoint.specs.declared.phase.Phase.TheVariants as phase
use Rattle.amqp_endpoint.specs.Calls.{call_fault, at_session, of_option, has_room, full_fault}
use Rattle.amqp_endpoint.specs.Connections as event
use Rattle.amqp_endpoint.specs.Connections.{ConnectionEvent, ConnectionState, connection_after, slot_at, is_open, is_closing, is_dead, is_unopened, channel_limit}
use Rattle.amqp_endpoint.specs.Fields.{Read, Opens, Begins, Ends, Closes, ForSession, Other, read_in}
use Rattle.amqp_endpoint.specs.Lines as line
use Rattle.amqp_endpoint.specs.Lines.{Line, line_of, event_on, told_on, report_told, attach_too_high, by_fault, session_line, on_free, on_live, on_waiting, channel_line, opened_line, unopened_line, read_line, unread_line, body_line, frame_line, frame_at, closing_line, is_read_close}
use Rattle.amqp_endpoint.specs.Steps.{EndpointState, IsFed, FeedDone, Acts, may_act, told_outcome, acted_after}
use Rattle.amqp_endpoint.specs.Takings.{link_in, link_at}

-- Where nothing is refused. ---------------------------------------------------------------------------------------------

-- an open connection refuses nothing by itself
awake : (p : Phase) (rest : Option CallFault) → is_open p ≡ true → or_else (where_so (is_dead p || is_closing p) refused.Dead) rest ≡ rest
awake phase.Unopened rest e = absurd (grind (arith, e))
awake (phase.Open m c) rest e = refl
awake phase.Closing rest e = absurd (grind (arith, e))
awake phase.Dead rest e = absurd (grind (arith, e))

not_lower : (a b : ℕ) → b ≤ a → nat_lt a b ≡ false
not_lower a b l = le-ltb a b l

pub with_room : (unsent : List ℕ) → has_room unsent ≡ true → full_fault unsent ≡ None
with_room unsent room = ap (λ (b : Bool). where_so (not b) refused.Full) room

-- a link may be granted what it is allowed beside its credit and its open deliveries
pub grant_accepted : (s : ConnectionState) (unsent : List ℕ) (channel handle n : ℕ) (l : LiveLink) → is_open s.phase ≡ true → link_at s channel handle ≡ Live l → has_room unsent ≡ true →
    l.link.credit + open_count l.link + n ≤ l.link.terms.bounds.allowed → call_fault s unsent channel (Grant handle n) ≡ None
grant_accepted s unsent channel handle n l wide here room within =
    awake s.phase (or_else (at_session (slot_at s channel) (Grant handle n)) (full_fault unsent)) wide ∙ by (slot_at s channel) here
  where
    by : (x : Slot SessionState) → link_in handle x ≡ Live l → or_else (at_session x (Grant handle n)) (full_fault unsent) ≡ None
    by Free at = absurd (grind (arith, at))
    by (Live t) at =
        ap (λ (y : Slot LiveLink). or_else (of_option (at_link y (λ k. where_so (nat_lt k.terms.bounds.allowed (k.credit + open_count k + n)) of_session.TooMuchCredit))) (full_fault unsent)) at
        ∙ ap (λ (b : Bool). or_else (of_option (where_so b of_session.TooMuchCredit)) (full_fault unsent)) (not_lower l.link.terms.bounds.allowed (l.link.credit + open_count l.link + n) within)
        ∙ with_room unsent room
    by Awaits at = absurd (grind (arith, at))

-- a session's window may be widened below 2^31
pub widen_accepted : (s : ConnectionState) (unsent : List ℕ) (channel n : ℕ) (t : SessionState) → is_open s.phase ≡ true → slot_at s channel ≡ Live t → has_room unsent ≡ true →
    t.window + n < 2 ^ 31 → call_fault s unsent channel (Widen n) ≡ None
widen_accepted s unsent channel n t wide here room within =
    let low : nat_le (2 ^ 31) (t.window + n) ≡ false = grind (arith, nat_tests, within) in
    awake s.phase (or_else (at_session (slot_at s channel) (Widen n)) (full_fault unsent)) wide
    ∙ ap (λ (x : Slot SessionState). or_else (at_session x (Widen n)) (full_fault unsent)) here
    ∙ ap (λ (b : Bool). or_else (of_option (where_so b of_session.WindowTooWide)) (full_fault unsent)) low
    ∙ with_room unsent room

-- The session of a line stands at its channel. --------------------------------------------------------------------------

-- the session that a line's frame is for, and its channel
abbrev session_in : Line → Option SessionState
session_in (line.SessionFrame channel t f) = Some t
session_in l = None

abbrev channel_in : Line → ℕ
channel_in (line.SessionFrame channel t f) = channel
channel_in l = 0

-- it is that session, on that channel
abbrev IsOf : SessionState → ℕ → SessionState → Line → Type 0
IsOf u k t l = (u ≡ t) × (channel_in l ≡ k)

by_fault_is : (k : ℕ) (u : SessionState) (f : Frame) (o : Option SessionFault) (t : SessionState) → session_in (by_fault k u f o) ≡ Some t → IsOf u k t (by_fault k u f o)
by_fault_is k u f None t e = (grind (arith, e), refl)
by_fault_is k u f (Some x) t e = absurd (grind (arith, e))

frame_is : (b : Bool) (k : ℕ) (u : SessionState) (f : Frame) (o : Option SessionFault) (t : SessionState) → session_in (if b then line.HandleTooHigh else by_fault k u f o) ≡ Some t →
    IsOf u k t (if b then line.HandleTooHigh else by_fault k u f o)
frame_is true k u f o t e = absurd (grind (arith, e))
frame_is false k u f o t e = by_fault_is k u f o t e

live_is : (k : ℕ) (u : SessionState) (r : Read) (t : SessionState) → session_in (on_live k u r) ≡ Some t → IsOf u k t (on_live k u r)
live_is k u (ForSession f) t e = frame_is (attach_too_high u f) k u f (session_fault u f) t e
live_is k u r t e = absurd (grind (arith, e))

free_is : (b : Bool) (k : ℕ) (x y : Line) (t : SessionState) → session_in x ≡ None → session_in y ≡ None → session_in (if b then x else y) ≡ Some t → ⊥
free_is true k x y t a b e = grind (arith, a, e)
free_is false k x y t a b e = grind (arith, b, e)

-- the session of a line stands there
abbrev Stands : ConnectionState → Line → SessionState → Type 0
Stands s l t = slot_at s (channel_in l) ≡ Live t

stands_at : (s : ConnectionState) (k : ℕ) (u t : SessionState) (l : Line) → slot_at s k ≡ Live u → IsOf u k t l → Stands s l t
stands_at s k u t l here is = ap (λ (n : ℕ). slot_at s n) is.1 ∙ here ∙ ap (λ (x : SessionState). Live x) is.0

channel_is : (s : ConnectionState) (k : ℕ) (x : Slot SessionState) (r : Read) (t : SessionState) → slot_at s k ≡ x → session_in (channel_line k x r) ≡ Some t → Stands s (channel_line k x r) t
channel_is s k Free (Begins b) t here e = absurd (free_is (is_some b.remote_channel) k line.BeginMisplaced (line.PeerBegins k b) t refl refl e)
channel_is s k Free r t here e = absurd (grind (arith, e))
channel_is s k (Live u) r t here e = stands_at s k u t (on_live k u r) here (live_is k u r t e)
channel_is s k Awaits Ends t here e = absurd (grind (arith, e))
channel_is s k Awaits r t here e = absurd (grind (arith, e))

opened_is : (s : ConnectionState) (k : ℕ) (r : Read) (t : SessionState) → session_in (opened_line s k r) ≡ Some t → Stands s (opened_line s k r) t
opened_is s k (Opens o) t e = absurd (grind (arith, e))
opened_is s k Closes t e = absurd (grind (arith, e))
opened_is s k Other t e = absurd (grind (arith, e))
opened_is s k r t e = channel_is s k (slot_at s k) r t refl e

-- and the connection is open
record StandsOpen (s : ConnectionState) (l : Line) (t : SessionState) : Type 0 where
  pub stands : Stands s l t
  pub opened : is_unopened s.phase ≡ false

read_is : (s : ConnectionState) (k : ℕ) (r : Read) (t : SessionState) (b : Bool) → is_unopened s.phase ≡ b → session_in (if b then unopened_line r else opened_line s k r) ≡ Some t →
    StandsOpen s (if b then unopened_line r else opened_line s k r) t
read_is s k (Opens o) t true is e = absurd (grind (arith, e))
read_is s k r t true is e = absurd (grind (arith, e))
read_is s k r t false is e = record { stands = opened_is s k r t e; opened = is }

unread_is : (fault : BodyFault) (t : SessionState) → session_in (unread_line fault) ≡ Some t → ⊥
unread_is (body.Decode x) t e = grind (arith, e)
unread_is body.InvalidField t e = grind (arith, e)

body_is : (s : ConnectionState) (k : ℕ) (bytes : List ℕ) (o : Option (Descriptor × List Cell × List ℕ)) (t : SessionState) → session_in (body_line s k bytes o) ≡ Some t →
    StandsOpen s (body_line s k bytes o) t
body_is s k bytes None t e = absurd (unread_is (fault_of bytes) t e)
body_is s k bytes (Some x) t e = read_is s k (read_in s.config x.0 x.1 x.2) t (is_unopened s.phase) refl e

above_is : (s : ConnectionState) (k : ℕ) (bytes : List ℕ) (o : Option (Descriptor × List Cell × List ℕ)) (t : SessionState) (b : Bool) →
    session_in (if b then line.ChannelTooHigh else body_line s k bytes o) ≡ Some t → StandsOpen s (if b then line.ChannelTooHigh else body_line s k bytes o) t
above_is s k bytes o t true e = absurd (grind (arith, e))
above_is s k bytes o t false e = body_is s k bytes o t e

body_frame_is : (s : ConnectionState) (k : ℕ) (bytes : List ℕ) (t : SessionState) → session_in (frame_line s k bytes) ≡ Some t → StandsOpen s (frame_line s k bytes) t
body_frame_is s k [] t e = absurd (grind (arith, e))
body_frame_is s k (b ∷ bytes) t e = above_is s k (b ∷ bytes) (body_at (b ∷ bytes)) t (nat_lt (channel_limit s.phase) k) e

closing_is : (s : ConnectionState) (k : ℕ) (bytes : List ℕ) (t : SessionState) (b : Bool) → session_in (if b then closing_line bytes else frame_line s k bytes) ≡ Some t →
    StandsOpen s (if b then closing_line bytes else frame_line s k bytes) t × (b ≡ false)
closing_is s k bytes t true e = absurd (free_is (is_read_close (body_at bytes)) k line.CloseAwaited line.DroppedInClosing t refl refl e)
closing_is s k bytes t false e = (body_frame_is s k bytes t e, refl)

line_is : (s : ConnectionState) (u : StreamUnit) (t : SessionState) → session_in (line_of s u) ≡ Some t → StandsOpen s (line_of s u) t × (is_closing s.phase ≡ false)
line_is s (HeaderUnit bytes) t e = absurd (free_is (bytes_eq bytes HEADER) 0 line.HeaderAccepted line.HeaderUnknown t refl refl e)
line_is s (FaultUnit fault bytes) t e = absurd (free_is (is_closing s.phase) 0 line.FrameBadInClosing line.FrameBad t refl refl e)
line_is s (FrameUnit bytes) t e = closing_is s (channel_of bytes) (body_of bytes) t (is_closing s.phase) e

-- What is told as ready. ------------------------------------------------------------------------------------------------

-- a line of which a ready delivery is told: a frame of the session on that channel, which reports it
record IsReadyLine (l : Line) (channel handle : ℕ) : Type 0 where
  pub session : SessionState
  pub frame : Frame
  pub is : l ≡ line.SessionFrame channel session frame
  pub report : report_of session frame ≡ report.Ready handle

ready_report : (k : ℕ) (r : Report) (channel handle : ℕ) → report_told k r ≡ Some (told.Ready channel handle) → (k ≡ channel) × (r ≡ report.Ready handle)
ready_report k (report.Ready h) channel handle e = (grind (arith, e), grind (arith, e))
ready_report k r channel handle e = absurd (grind (arith, e))

ready_line : (s : ConnectionState) (l : Line) (channel handle : ℕ) → told_on s l ≡ Some (told.Ready channel handle) → IsReadyLine l channel handle
ready_line s (line.SessionFrame k t f) channel handle e =
    let r = ready_report k (report_of t f) channel handle e in record { session = t; frame = f; is = ap (λ (n : ℕ). line.SessionFrame n t f) r.0; report = r.1 }
ready_line s l channel handle e = absurd (grind (arith, e))

-- A frame that reports a ready delivery: the last transfer of one, on a live link, without fault.
record IsLast (t : SessionState) (f : Frame) (handle : ℕ) : Type 0 where
  pub transfer : Sent
  pub link : LiveLink
  pub is : f ≡ Transfers handle transfer
  pub stands : one.slot_at t handle ≡ Live link
  pub faultless : transfer_fault t link.link transfer ≡ None
  pub last : step_of transfer ≡ step.Ready

step_is : (k : ℕ) (x : Step) (handle : ℕ) → step_report k x ≡ report.Ready handle → (k ≡ handle) × (x ≡ step.Ready)
step_is k step.Unfinished handle e = absurd (grind (arith, e))
step_is k step.Ready handle e = (grind (arith, e), refl)
step_is k step.Aborted handle e = absurd (grind (arith, e))

came_is : (k : ℕ) (l : LinkState) (x : Sent) (o : Option LinkFault) (handle : ℕ) → came_report k l x o ≡ report.Ready handle → (o ≡ None) × (k ≡ handle) × (step_of x ≡ step.Ready)
came_is k l x None handle e = let y = step_is k (step_of x) handle e in (refl, y.0, y.1)
came_is k l x (Some fault) handle e = absurd (grind (arith, e))

transfer_is : (t : SessionState) (k : ℕ) (x : Sent) (y : Slot LiveLink) (handle : ℕ) → one.slot_at t k ≡ y → transfer_report t k x y ≡ report.Ready handle → IsLast t (Transfers k x) handle
transfer_is t k x Free handle here e = absurd (grind (arith, e))
transfer_is t k x (Live l) handle here e =
    let c = came_is k l.link x (transfer_fault t l.link x) handle e in
    record {
      transfer = x;
      link = l;
      is = ap (λ (n : ℕ). Transfers n x) c.1;
      stands = ap (λ (n : ℕ). one.slot_at t n) (sym c.1) ∙ here;
      faultless = c.0;
      last = c.2;
    }
transfer_is t k x Awaits handle here e = absurd (grind (arith, e))

either_report : (b : Bool) (x y : Report) (handle : ℕ) → (x ≡ report.Ready handle → ⊥) → (y ≡ report.Ready handle → ⊥) → (if b then x else y) ≡ report.Ready handle → ⊥
either_report true x y handle a b e = a e
either_report false x y handle a b e = b e

attach_is : (k : ℕ) (o : Option Condition) (handle : ℕ) → attach_report k o ≡ report.Ready handle → ⊥
attach_is k None handle e = grind (arith, e)
attach_is k (Some c) handle e = grind (arith, e)

flow_is : (k : ℕ) (f : Flowing) (x : Slot LiveLink) (handle : ℕ) → flow_report k f x ≡ report.Ready handle → ⊥
flow_is k f Free handle e = grind (arith, e)
flow_is k f (Live l) handle e =
    either_report (is_beyond_credit l.link.delivery_count l.link.credit f.delivery_count) (report.Failed k condition.TransferLimitExceeded (length l.link.ready))
    (if is_drained l.link f.delivery_count then report.Drained k else report.Nothing) handle (λ a. grind (arith, a))
    (λ a. either_report (is_drained l.link f.delivery_count) (report.Drained k) report.Nothing handle (λ b. grind (arith, b)) (λ b. grind (arith, b)) a) e
flow_is k f Awaits handle e = grind (arith, e)

named_is : (t : SessionState) (f : Flowing) (o : Option ℕ) (handle : ℕ) → named_report t f o ≡ report.Ready handle → ⊥
named_is t f None handle e = grind (arith, e)
named_is t f (Some k) handle e = flow_is k f (one.slot_at t k) handle e

settled_is : (n handle : ℕ) → settled_report n ≡ report.Ready handle → ⊥
settled_is n handle e = either_report (nat_eq n 0) report.Nothing (report.Settled n) handle (λ a. grind (arith, a)) (λ a. grind (arith, a)) e

last_is : (t : SessionState) (f : Frame) (handle : ℕ) → report_of t f ≡ report.Ready handle → IsLast t f handle
last_is t (Attaches a) handle e = absurd (attach_is a.handle (refusal t.terms a) handle e)
last_is t (Flows f) handle e = absurd (named_is t f f.handle handle e)
last_is t (Transfers k x) handle e = transfer_is t k x (one.slot_at t k) handle refl e
last_is t (Disposes d) handle e =
    absurd (either_report (is_settling d) (settled_report (settled_count t d.first (last_of d))) report.Nothing handle (settled_is (settled_count t d.first (last_of d)) handle) (λ a. grind (arith, a)) e)
last_is t (Detaches k closed) handle e = absurd (grind (arith, e))

-- it is a transfer that comes
event_is : (t : SessionState) (f : Frame) (handle : ℕ) (x : IsLast t f handle) → event_of t f ≡ TransferCame handle x.transfer
event_is t f handle x =
    ap (event_of t) x.is ∙ ap (transfer_event t handle x.transfer) x.stands
    ∙ ap (λ (o : Option LinkFault). if is_none o then TransferCame handle x.transfer else one.TransferEnded handle) x.faultless

-- What stands there then. -----------------------------------------------------------------------------------------------

-- what lives at a place of a table goes on there
pub goes_on_there : {B E T : Type 0} (start : B → T) (next : T → E → T) (slots : List (Slot T)) (i : ℕ) (e : E) (t : T) → unwrap_or (slice_get slots i) Free ≡ Live t →
    unwrap_or (slice_get (places_from start next 0 (GoesOn i e) slots) i) Free ≡ Live (next t e)
goes_on_there {B} {E} {T} start next slots i e t here =
    let same : 0 + i ≡ i = omega arith in
    ap (λ (o : Option (Slot T)). unwrap_or o Free) (get_after start next 0 i (GoesOn i e) slots
    ∙ ap (λ (j : ℕ). option_map (slot_after start next j (GoesOn i e)) (slice_get slots i)) same
    ∙ ap (option_map (slot_after start next i (GoesOn i e))) (found (slice_get slots i) (Live t) here tt))
    ∙ hit start next i (Live (next t e)) (Live t)

completes_is : (aborted more : Bool) → (if aborted then step.Aborted else (if more then step.Unfinished else step.Ready)) ≡ step.Ready → (not more && not aborted) ≡ true
completes_is true more e = absurd (grind (arith, e))
completes_is false true e = absurd (grind (arith, e))
completes_is false false e = refl

some_first : (ds : List Delivery) (d : Delivery) → is_none (slice_get (ds ++ d ∷ []) 0) ≡ false
some_first [] d = refl
some_first (x ∷ ds) d = refl

-- behind the last transfer of a delivery one is ready
ready_after : (l : LinkState) (x : Sent) → step_of x ≡ step.Ready → is_none (first_ready (link_after l (Transferred x))) ≡ false
ready_after l x last =
    let d = delivery_after l.terms l.unfinished x in
    ap (λ (b : Bool). is_none (slice_get (l.ready ++ (if b then d ∷ [] else [])) 0)) (completes_is x.aborted x.more last) ∙ some_first l.ready d

is_wide : (p : Phase) → is_dead p ≡ false → is_closing p ≡ false → is_unopened p ≡ false → is_open p ≡ true
is_wide phase.Unopened a b c = absurd (grind (arith, c))
is_wide (phase.Open m n) a b c = refl
is_wide phase.Closing a b c = absurd (grind (arith, b))
is_wide phase.Dead a b c = absurd (grind (arith, a))

-- Behind the line of which it was told a take is not refused.
module _ (s : ConnectionState) (u : StreamUnit) (channel handle : ℕ) (alive : is_dead s.phase ≡ false) (telling : told_on s (line_of s u) ≡ Some (told.Ready channel handle)) where
  behind : (unsent : List ℕ) → call_fault (connection_after s (event_on s (line_of s u))) unsent channel (Take handle) ≡ None
  behind unsent =
      let r = ready_line s (line_of s u) channel handle telling in
      let at = line_is s u r.session (ap session_in r.is) in
      let here : slot_at s channel ≡ Live r.session = ap (λ (n : ℕ). slot_at s n) (sym (ap channel_in r.is)) ∙ at.0.stands in
      let x = last_is r.session r.frame handle r.report in
      let e = TransferCame handle x.transfer in
      let came : event_on s (line_of s u) ≡ event.InSession channel e = ap (event_on s) r.is ∙ ap (event.InSession channel) (event_is r.session r.frame handle x) in
      let wide = is_wide s.phase alive at.1 at.0.opened in
      let session : slot_at (connection_after s (event.InSession channel e)) channel ≡ Live (session_after r.session e) = goes_on_there session_begins session_after s.sessions channel e r.session here in
      let link : one.slot_at (session_after r.session e) handle ≡ Live (live_after x.link (Transferred x.transfer)) =
      goes_on_there live_begins live_after r.session.links handle (Transferred x.transfer) x.link x.stands in
      ap (λ (v : ConnectionEvent). call_fault (connection_after s v) unsent channel (Take handle)) came
      ∙ awake s.phase (or_else (at_session (slot_at (connection_after s (event.InSession channel e)) channel) (Take handle)) None) wide
      ∙ ap (λ (y : Slot SessionState). or_else (at_session y (Take handle)) None) session
      ∙ ap (λ (y : Slot LiveLink). or_else (of_option (at_link y (λ l. where_so (is_none (first_ready l)) of_session.NothingReady))) None) link
      ∙ ap (λ (b : Bool). or_else (of_option (where_so b of_session.NothingReady)) None) (ready_after x.link.link x.transfer x.last)

no_event_told : {A : Type 0} (dead : Bool) (e : Event) → outcome.Event e ≡ (if dead then outcome.Dead else outcome.More) → A
no_event_told true e is = absurd (grind (arith, is))
no_event_told false e is = absurd (grind (arith, is))

told_is : (s : ConnectionState) (o : Option Event) (e : Event) → outcome.Event e ≡ told_outcome s o → o ≡ Some e
told_is s None e is = no_event_told (is_dead s.phase) e is
told_is s (Some x) e is = grind (arith, is)

-- a take directly behind Ready is accepted
pub take_accepted : (old new : EndpointState) (piece : List ℕ) (used channel handle : ℕ) → 8 ≤ old.input.limit → IsFed old new piece used (outcome.Event (told.Ready channel handle)) →
    (unsent : List ℕ) → call_fault new.connection unsent channel (Take handle) ≡ None
take_accepted old new piece used channel handle least fed unsent = by (is_dead old.connection.phase) refl fed
  where
    acts : (s : EndpointState) (u : StreamUnit) (may : Bool) → is_dead s.connection.phase ≡ false → Acts s new u may (outcome.Event (told.Ready channel handle)) →
        call_fault new.connection unsent channel (Take handle) ≡ None
    acts s u false alive a = absurd (grind (arith, a.1))
    acts s u true alive (inl a) =
        ap (λ (c : ConnectionState). call_fault c unsent channel (Take handle)) a.connection
        ∙ behind s.connection u channel handle alive (told_is (acted_after s.connection u) (told_on s.connection (line_of s.connection u)) (told.Ready channel handle) a.told) unsent
    acts s u true alive (inr a) = absurd (grind (arith, a.1))

    by : (dead : Bool) → is_dead old.connection.phase ≡ dead → FeedDone dead old new piece used (outcome.Event (told.Ready channel handle)) →
        call_fault new.connection unsent channel (Take handle) ≡ None
    by true is f = absurd (grind (arith, f.2))
    by false alive f =
        elim (waits_or_not f.between (subst (λ (m : ℕ). 8 ≤ m) (sym f.taken.limit) least)) [
          | inl u ↦ acts (record old { input = f.between }) u.0 (may_act (record old { input = f.between }) u.0) alive (f.comes.unit u.0 u.1)
          | inr none ↦ no_event_told (is_dead old.connection.phase) (told.Ready channel handle) (f.comes.none none).1
        ]
