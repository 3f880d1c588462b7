-- No message is left ready while serving, but the one that is taken next.
use Rattle.std.proofs.Common.{arith, ◌≡◌, ℕ, ◌≤◌, ◌⊎◌, inl, inr, Bool, true, false, List, [], ◌∷◌, length, refl, sym, ap, subst, ◌∙◌, Option, Some, None}
use Rattle.std.specs.Prelude.{if◌then◌else◌, nat_eq, slice_get, bytes_eq, is_none, ◌||◌, ◌&&◌, not}
use Rattle.std.proofs.lemmas.Bool.{eqb-true, eq-eqb, true≢false}
use Rattle.amqp_frame.specs.declared.units.TheConstants.{HEADER}
use Rattle.amqp_frame.specs.Units.{StreamUnit, HeaderUnit, FrameUnit, FaultUnit, channel_of, body_of}
use Rattle.amqp_frame.proofs.Fronts.{waits_or_not}
use Rattle.amqp_link.specs.declared.transfer.LinkFault.{LinkFault}
use Rattle.amqp_link.specs.declared.transfer.Step.TheVariants as step
use Rattle.amqp_link.specs.Links.{Delivery, Sent, completes, is_beyond_credit, is_drained}
use Rattle.amqp_link.specs.Histories.{one_if}
use Rattle.amqp_perform.specs.BodyReading.{body_at}
use Rattle.amqp_perform.specs.declared.condition.Condition.{Condition}
use Rattle.amqp_perform.specs.declared.condition.Condition.TheVariants as condition
use Rattle.amqp_session.specs.declared.fault.CallFault.TheVariants as of_session
use Rattle.amqp_session.specs.declared.report.Report.{Report}
use Rattle.amqp_session.specs.declared.report.Report.TheVariants as report
use Rattle.amqp_session.specs.declared.slot.Slot.{Slot}
use Rattle.amqp_session.specs.declared.slot.Slot.TheVariants.{Free, Live, Waits as Awaits}
use Rattle.amqp_session.specs.Calls as session
use Rattle.amqp_session.specs.Faults as faults
use Rattle.amqp_session.specs.Faults.{or_else, where_so}
use Rattle.amqp_session.specs.Frames.{Flowing, Frame, Attaches, Flows, Transfers, Disposes, Detaches}
use Rattle.amqp_session.specs.Sessions as one
use Rattle.amqp_session.specs.Sessions.{LiveLink, SessionState, SessionEvent, slot_ready}
use Rattle.amqp_endpoint.specs.declared.event.Event.{Event}
use Rattle.amqp_endpoint.specs.declared.event.Event.TheVariants as told
use Rattle.amqp_endpoint.specs.declared.event.Outcome.{Outcome}
use Rattle.amqp_endpoint.specs.declared.event.Outcome.TheVariants as outcome
use Rattle.amqp_endpoint.specs.declared.fault.CallFault.{CallFault}
use Rattle.amqp_endpoint.specs.declared.fault.CallFault.TheVariants as refused
use Rattle.amqp_endpoint.specs.declared.phase.Phase.{Phase}
use Rattle.amqp_endpoint.specs.Calls.{call_fault, call_event, at_session, of_option}
use Rattle.amqp_endpoint.specs.Configs.{Configured}
use Rattle.amqp_endpoint.specs.Connections as event
use Rattle.amqp_endpoint.specs.Connections.{ConnectionState, ConnectionEvent, connection_after, channels, slot_at, is_closing, is_dead}
use Rattle.amqp_endpoint.specs.Lines as line
use Rattle.amqp_endpoint.specs.Lines.{Line, line_of, event_on, told_on, report_told, frame_line, is_read_close}
use Rattle.amqp_endpoint.specs.Runs.{Answer, Refused, Fed, Accepted, Dropped, Named, HandedUp, MovedOut, Holds, Ended, Call, CallDone, Does, IsStart}
use Rattle.amqp_endpoint.specs.Steps as steps
use Rattle.amqp_endpoint.specs.Steps.{EndpointState, IsFed, Acts, acted_after, room_for, told_outcome}
use Rattle.amqp_endpoint.specs.Takings.{link_in, link_at}
use Rattle.amqp_endpoint.proofs.Endpoints.{free_at}
use Rattle.amqp_serve.specs.declared.rules.Rule.{Rule}
use Rattle.amqp_serve.specs.declared.serving.ServeFault.{ServeFault}
use Rattle.amqp_serve.specs.declared.serving.ServeFault.TheVariants as fault
use Rattle.amqp_serve.specs.Cuts.{supply_channel, call_for}
use Rattle.amqp_serve.specs.Serving.{Stand, reading, ToppingUp, Receiving, Settling, Starved, Over, all_supplies, stand_told, stand_taken, lack, top_up_by, HasAllTaken, IsLeft, BrokeOff}
use Rattle.amqp_serve.specs.declared.supplies.Supply.{Supply}
use Rattle.amqp_serve.specs.Serving.{Step, Serves, Rests, MovesOut, Feeds, Takes, Settles, TopsUp, Passes, Finishes}
use Rattle.amqp_serve.proofs.CutSteps.{top_call}
use Rattle.amqp_serve.proofs.Ready.{both_same, made_in, made, made_none, ready_added, call_makes, ready_took}
use Rattle.amqp_serve.proofs.ServingFeeds.{alive_feeds, room_for_all}
use Rattle.amqp_serve.proofs.ServingTops.{call_keeps}

-- At most one message is ready, on this link, of an open connection.
pub record IsOneReady (channel handle : ℕ) (s : ConnectionState) : Type 0 where
  pub alive : is_dead s.phase ≡ false
  pub wide : is_closing s.phase ≡ false
  pub one : slot_ready (link_at s channel handle) ≤ 1
  pub others : (k h : ℕ) → (k ≡ channel → h ≡ handle → ⊥) → slot_ready (link_at s k h) ≡ 0

-- what is ready where serving stands so
abbrev pub TakenAt : Stand → ConnectionState → Type 0
TakenAt (ToppingUp supplies) s = HasAllTaken s
TakenAt (Receiving channel handle) s = IsOneReady channel handle s
TakenAt (Settling channel id) s = HasAllTaken s
TakenAt Starved s = HasAllTaken s
TakenAt Over s = HasAllTaken s

-- Events. -------------------------------------------------------------------------------------------------------------

-- an event that makes nothing ready
quiet : (s : ConnectionState) (e : ConnectionEvent) → ((channel handle : ℕ) → made channel handle e ≡ 0) → HasAllTaken s → HasAllTaken (connection_after s e)
quiet s e none all channel handle = omega (arith, ready_added s e channel handle, none channel handle, all channel handle)

-- no message is told to be ready
abbrev IsQuiet : Report → Type 0
IsQuiet (report.Ready handle) = ⊥
IsQuiet r = Unit {0}

abbrev IsPlain : Option Event → Type 0
IsPlain None = Unit {0}
IsPlain (Some (told.Ready channel handle)) = ⊥
IsPlain (Some e) = Unit {0}

report_plain : (channel : ℕ) (r : Report) → IsQuiet r → IsPlain (report_told channel r)
report_plain channel (report.Ready handle) q = absurd q
report_plain channel r q = tt

plain_taken : (s : ConnectionState) (after : ConnectionState) (o : Option Event) → IsPlain o → HasAllTaken s → TakenAt (stand_told s.config (told_outcome after o)) s
plain_taken s after None p all = by (is_dead after.phase)
  where
    by : (over : Bool) → TakenAt (stand_told s.config (if over then outcome.Dead else outcome.More)) s
    by true = all
    by false = all
plain_taken s after (Some e) p all = by e p
  where
    by : (e : Event) → IsPlain (Some e) → TakenAt (stand_told s.config (outcome.Event e)) s
    by (told.Ready channel handle) p = absurd p
    by e p = all

-- What an event of a session makes ready, beside what is told of it: the message that is told of, or none.
data Tells : SessionEvent → Report → Type 0 where
  Quiet : {e : SessionEvent} {r : Report} → ((handle : ℕ) → made_in handle e ≡ 0) → IsQuiet r → Tells e r
  Loud : (handle : ℕ) (t : Sent) → Tells (one.TransferCame handle t) (report.Ready handle)

came_tells : (handle : ℕ) (t : Sent) (a m : Bool) → t.aborted ≡ a → t.more ≡ m →
    Tells (one.TransferCame handle t) (faults.step_report handle (if a then step.Aborted else (if m then step.Unfinished else step.Ready)))
came_tells handle t true m aborted more = Quiet (λ h. ap (λ (b : Bool). if nat_eq handle h then one_if b else 0) (none (not t.more)) ∙ both_same (nat_eq handle h) 0) tt
  where
    none : (b : Bool) → (b && not t.aborted) ≡ false
    none true = ap (λ (c : Bool). not c) aborted
    none false = refl
came_tells handle t false true aborted more =
    Quiet (λ h. ap (λ (b : Bool). if nat_eq handle h then one_if (not b && not t.aborted) else 0) more ∙ both_same (nat_eq handle h) 0) tt
came_tells handle t false false aborted more = Loud handle t

flow_tells : (handle : ℕ) (f : Flowing) (y : Slot LiveLink) → Tells (faults.flow_event handle f y) (faults.flow_report handle f y)
flow_tells handle f Free = Quiet (λ h. refl) tt
flow_tells handle f (Live l) = by (is_beyond_credit l.link.delivery_count l.link.credit f.delivery_count) (is_drained l.link f.delivery_count)
  where
    by : (beyond drained : Bool) → Tells (if beyond then one.LinkFlowEnded handle f.next_outgoing_id else one.LinkFlowCame handle f.next_outgoing_id f.delivery_count)
        (if beyond then report.Failed handle condition.TransferLimitExceeded (length l.link.ready) else (if drained then report.Drained handle else report.Nothing))
    by true drained = Quiet (λ h. refl) tt
    by false true = Quiet (λ h. both_same (nat_eq handle h) 0) tt
    by false false = Quiet (λ h. both_same (nat_eq handle h) 0) tt
flow_tells handle f Awaits = Quiet (λ h. refl) tt

transfer_tells : (s : SessionState) (handle : ℕ) (t : Sent) (y : Slot LiveLink) → Tells (faults.transfer_event s handle t y) (faults.transfer_report s handle t y)
transfer_tells s handle t Free = Quiet (λ h. refl) tt
transfer_tells s handle t (Live l) = by (faults.transfer_fault s l.link t)
  where
    by : (o : Option LinkFault) → Tells (if is_none o then one.TransferCame handle t else one.TransferEnded handle) (faults.came_report handle l.link t o)
    by None = came_tells handle t t.aborted t.more refl refl
    by (Some fault) = Quiet (λ h. refl) tt
transfer_tells s handle t Awaits = Quiet (λ h. refl) tt

frame_tells : (s : SessionState) (f : Frame) → Tells (faults.event_of s f) (faults.report_of s f)
frame_tells s (Attaches a) = by (faults.refusal s.terms a)
  where
    by : (o : Option Condition) → Tells (if is_none o then one.LinkAttached a.handle (faults.attached s.terms a) else one.LinkRefused a.handle) (faults.attach_report a.handle o)
    by None = Quiet (λ h. refl) tt
    by (Some c) = Quiet (λ h. refl) tt
frame_tells s (Flows f) = by f.handle
  where
    by : (o : Option ℕ) → Tells (faults.named_event s f o) (faults.named_report s f o)
    by None = Quiet (λ h. refl) tt
    by (Some handle) = flow_tells handle f (one.slot_at s handle)
frame_tells s (Transfers handle t) = transfer_tells s handle t (one.slot_at s handle)
frame_tells s (Disposes d) = by (faults.is_settling d) (nat_eq (faults.settled_count s d.first (faults.last_of d)) 0)
  where
    by : (settles none : Bool) → Tells (if settles then one.PeerSettled d.first (faults.last_of d) else one.Ignored)
        (if settles then (if none then report.Nothing else report.Settled (faults.settled_count s d.first (faults.last_of d))) else report.Nothing)
    by true true = Quiet (λ h. refl) tt
    by true false = Quiet (λ h. refl) tt
    by false none = Quiet (λ h. refl) tt
frame_tells s (Detaches handle closed) = Quiet (λ h. refl) tt

-- a message that comes to be ready is the only one
loud : (s : ConnectionState) (channel handle : ℕ) (t : Sent) → is_dead s.phase ≡ false → is_closing s.phase ≡ false → HasAllTaken s →
    IsOneReady channel handle (connection_after s (event.InSession channel (one.TransferCame handle t)))
loud s channel handle t alive wide all =
    let e = event.InSession channel (one.TransferCame handle t) in record {
      alive = alive;
      wide = wide;
      one = omega (arith, ready_added s e channel handle, all channel handle, most (nat_eq channel channel) (nat_eq handle handle) (completes t));
      others = λ k h away. omega (arith, ready_added s e k h, all k h, apart k h away (nat_eq channel k) (nat_eq handle h) refl refl);
    }
  where
    most : (a b c : Bool) → (if a then (if b then one_if c else 0) else 0) ≤ 1
    most true true true = omega arith
    most true true false = omega arith
    most true false c = omega arith
    most false b c = omega arith

    apart : (k h : ℕ) → (k ≡ channel → h ≡ handle → ⊥) → (a b : Bool) → nat_eq channel k ≡ a → nat_eq handle h ≡ b → (if a then (if b then one_if (completes t) else 0) else 0) ≡ 0
    apart k h away true true x y = absurd (away (sym (eqb-true channel k x)) (sym (eqb-true handle h y)))
    apart k h away true false x y = refl
    apart k h away false b x y = refl

tells_taken : (s : ConnectionState) (channel : ℕ) (e : SessionEvent) (r : Report) → Tells e r → is_dead s.phase ≡ false → is_closing s.phase ≡ false → HasAllTaken s →
    TakenAt (stand_told s.config (told_outcome (connection_after s (event.InSession channel e)) (report_told channel r))) (connection_after s (event.InSession channel e))
tells_taken s channel e r (Quiet none q) alive wide all =
    let after = connection_after s (event.InSession channel e) in
    plain_taken after after (report_told channel r) (report_plain channel r q) (quiet s (event.InSession channel e) (made_none channel e none) all)
tells_taken s channel e r (Loud handle t) alive wide all = loud s channel handle t alive wide all

-- Units. --------------------------------------------------------------------------------------------------------------

-- a session takes a frame only while the connection is open
abbrev IsWhileOpen : Phase → Line → Type 0
IsWhileOpen p (line.SessionFrame channel s f) = is_closing p ≡ false
IsWhileOpen p l = Unit {0}

wide_any : (p : Phase) (l : Line) → is_closing p ≡ false → IsWhileOpen p l
wide_any p (line.SessionFrame channel s f) wide = wide
wide_any p l wide = tt

line_wide : (s : ConnectionState) (u : StreamUnit) → IsWhileOpen s.phase (line_of s u)
line_wide s (HeaderUnit bytes) = by (bytes_eq bytes HEADER)
  where
    by : (b : Bool) → IsWhileOpen s.phase (if b then line.HeaderAccepted else line.HeaderUnknown)
    by true = tt
    by false = tt
line_wide s (FaultUnit fault bytes) = by (is_closing s.phase)
  where
    by : (b : Bool) → IsWhileOpen s.phase (if b then line.FrameBadInClosing else line.FrameBad)
    by true = tt
    by false = tt
line_wide s (FrameUnit bytes) = by (is_closing s.phase) refl
  where
    read : (b : Bool) → IsWhileOpen s.phase (if b then line.CloseAwaited else line.DroppedInClosing)
    read true = tt
    read false = tt

    by : (b : Bool) → is_closing s.phase ≡ b → IsWhileOpen s.phase (if b then line.closing_line (body_of bytes) else frame_line s (channel_of bytes) (body_of bytes))
    by true is = read (is_read_close (body_at (body_of bytes)))
    by false is = wide_any s.phase (frame_line s (channel_of bytes) (body_of bytes)) is

-- what a unit comes to leaves ready no more than what it is told of
line_taken : (s : ConnectionState) (l : Line) → is_dead s.phase ≡ false → IsWhileOpen s.phase l → HasAllTaken s →
    TakenAt (stand_told s.config (told_outcome (connection_after s (event_on s l)) (told_on s l))) (connection_after s (event_on s l))
line_taken s (line.SessionFrame channel live f) alive wide all = tells_taken s channel (faults.event_of live f) (faults.report_of live f) (frame_tells live f) alive wide all
line_taken s l alive wide all =
    let after = connection_after s (event_on s l) in plain_taken after after (told_on s l) tt (quiet s (event_on s l) (λ channel handle. refl) all)

-- a unit that was acted upon does so
acted_taken : (s : ConnectionState) (u : StreamUnit) → is_dead s.phase ≡ false → HasAllTaken s →
    TakenAt (stand_told (acted_after s u).config (steps.acted_outcome s u)) (acted_after s u)
acted_taken s u alive all = line_taken s (line_of s u) alive (line_wide s u) all

-- Feeds. --------------------------------------------------------------------------------------------------------------

-- what holds of an endpoint that is served
pub record IsTakenAt (stand : Stand) (s : EndpointState) : Type 0 where
  pub least : 8 ≤ s.input.limit
  pub taken : TakenAt stand s.connection

module _ (s t : EndpointState) (piece : List ℕ) (used : ℕ) (told : Outcome) (least : 8 ≤ s.input.limit) (all : HasAllTaken s.connection) where
  fed_alive : s.unsent ≡ [] → is_dead s.connection.phase ≡ false → IsFed s t piece used told → IsTakenAt (stand_told t.connection.config told) t
  fed_alive none alive x =
      let y = alive_feeds s t piece used told alive x in
      let between : EndpointState = record s { input = y.between } in
      elim (waits_or_not y.between (subst (λ (n : ℕ). 8 ≤ n) (sym y.taken.limit) least)) [
        | inl w ↦
            let u = w.0 in
            let room : room_for s.unsent u ≡ true = ap (λ (l : List ℕ). room_for l u) none ∙ room_for_all u in
            let acts : Acts between t u true told = subst (λ (b : Bool). Acts between t u b told) room (y.comes.unit u w.1) in
            elim acts [
              | inl acted ↦
                  let after = acted_after s.connection u in
                  record {
                    least = omega (arith, least, acted.input.limit, y.taken.limit);
                    taken = subst (λ (c : ConnectionState). TakenAt (stand_told c.config told) c) (sym acted.connection)
                        (subst (λ (o : Outcome). TakenAt (stand_told after.config o) after) (sym acted.told) (acted_taken s.connection u alive all));
                  }
              | inr kept ↦ record {
                least = omega (arith, least, kept.0.input.limit, y.taken.limit);
                taken = subst (λ (o : Outcome). TakenAt (stand_told t.connection.config o) t.connection) (sym kept.1) (subst (λ (c : ConnectionState). HasAllTaken c) (sym kept.0.connection) all);
              }
            ]
        | inr idle ↦
            let rest = y.comes.none idle in
            record {
              least = omega (arith, least, rest.0.input.limit, y.taken.limit);
              taken = subst (λ (o : Outcome). TakenAt (stand_told t.connection.config o) t.connection) (sym rest.1)
                  (plain_taken t.connection s.connection None tt (subst (λ (c : ConnectionState). HasAllTaken c) (sym rest.0.connection) all));
            }
      ]

  -- whatever a piece brings
  fed_taken : s.unsent ≡ [] → (over : Bool) → is_dead s.connection.phase ≡ over → IsFed s t piece used told → IsTakenAt (stand_told t.connection.config told) t
  fed_taken none false is x = fed_alive none is x
  fed_taken none true is x =
      let y = subst (λ (b : Bool). steps.FeedDone b s t piece used told) is x in
      record {
        least = omega (arith, least, y.0.input.limit);
        taken = subst (λ (o : Outcome). TakenAt (stand_told t.connection.config o) t.connection) (sym y.2) (subst (λ (c : ConnectionState). HasAllTaken c) (sym y.0.connection) all);
      }

-- Calls. --------------------------------------------------------------------------------------------------------------

-- a call was refused and changed nothing, or it was accepted
abbrev Comes : EndpointState → EndpointState → ℕ → session.Call → Type 0
Comes s t channel c =
    ((fault : CallFault) × (call_fault s.connection s.unsent channel c ≡ Some fault) × (t.connection ≡ s.connection)) ⊎ (t.connection ≡ connection_after s.connection (call_event s.connection channel c))

call_comes : (s t : EndpointState) (channel : ℕ) (c : session.Call) (answer : Answer) → CallDone s t channel c answer → Comes s t channel c
call_comes s t channel c (Refused fault) d = inl (fault, d.0, d.1.connection)
call_comes s t channel c (Fed used told) d = inr d.1.connection
call_comes s t channel c Accepted d = inr d.1.connection
call_comes s t channel c (Dropped n) d = inr d.1.connection
call_comes s t channel c (Named n) d = inr d.1.connection
call_comes s t channel c (HandedUp h) d = inr d.1.connection
call_comes s t channel c (MovedOut bytes) d = inr d.1.connection
call_comes s t channel c (Holds n) d = inr d.1.connection
call_comes s t channel c (Ended end) d = inr d.1.connection

call_taken : (s t : EndpointState) (channel : ℕ) (c : session.Call) → Comes s t channel c → HasAllTaken s.connection → HasAllTaken t.connection
call_taken s t channel c (inl same) all = subst (λ (x : ConnectionState). HasAllTaken x) (sym same.2) all
call_taken s t channel c (inr is) all =
    subst (λ (x : ConnectionState). HasAllTaken x) (sym is) (quiet s.connection (call_event s.connection channel c) (call_makes channel (slot_at s.connection channel) c) all)

-- A take is refused on an open connection only where nothing is ready.
no_more : (ds : List Delivery) (fault : CallFault) → or_else (of_option (where_so (is_none (slice_get ds 0)) of_session.NothingReady)) None ≡ Some fault → length ds ≡ 0
no_more [] fault is = refl
no_more (d ∷ ds) fault is = absurd (grind (arith, is))

no_link : (y : Slot LiveLink) (fault : CallFault) → or_else (of_option (session.at_link y (λ l. where_so (is_none (slice_get l.ready 0)) of_session.NothingReady))) None ≡ Some fault → slot_ready y ≡ 0
no_link Free fault is = refl
no_link (Live l) fault is = no_more l.link.ready fault is
no_link Awaits fault is = refl

no_session : (handle : ℕ) (x : Slot SessionState) (fault : CallFault) → or_else (at_session x (session.Take handle)) None ≡ Some fault → slot_ready (link_in handle x) ≡ 0
no_session handle Free fault is = refl
no_session handle (Live u) fault is = no_link (one.slot_at u handle) fault is
no_session handle Awaits fault is = refl

take_none : (s : ConnectionState) (unsent : List ℕ) (channel handle : ℕ) (fault : CallFault) → is_dead s.phase ≡ false → is_closing s.phase ≡ false →
    call_fault s unsent channel (session.Take handle) ≡ Some fault → slot_ready (link_at s channel handle) ≡ 0
take_none s unsent channel handle fault alive wide is = no_session handle (slot_at s channel) fault (by (is_dead s.phase) (is_closing s.phase) alive wide is)
  where
    rest : Option CallFault
    rest = or_else (at_session (slot_at s channel) (session.Take handle)) None

    by : (a b : Bool) → a ≡ false → b ≡ false → or_else (where_so (a || b) refused.Dead) rest ≡ Some fault → rest ≡ Some fault
    by true b x y e = absurd (true≢false x)
    by false true x y e = absurd (true≢false y)
    by false false x y e = e

-- All but one link have nothing ready, and that one neither.
at_last : (channel handle : ℕ) (s : ConnectionState) → slot_ready (link_at s channel handle) ≡ 0 → ((k h : ℕ) → (k ≡ channel → h ≡ handle → ⊥) → slot_ready (link_at s k h) ≡ 0) → HasAllTaken s
at_last channel handle s here others k h = by (nat_eq k channel) (nat_eq h handle) refl refl
  where
    by : (a b : Bool) → nat_eq k channel ≡ a → nat_eq h handle ≡ b → slot_ready (link_at s k h) ≡ 0
    by true true x y = ap (λ (i : ℕ). slot_ready (link_at s i h)) (eqb-true k channel x) ∙ ap (λ (i : ℕ). slot_ready (link_at s channel i)) (eqb-true h handle y) ∙ here
    by true false x y = others k h (λ _ same. true≢false (sym (eq-eqb h handle same) ∙ y))
    by false b x y = others k h (λ same _. true≢false (sym (eq-eqb k channel same) ∙ x))

-- the message that is ready is taken
take_taken : (s t : EndpointState) (channel handle : ℕ) → IsOneReady channel handle s.connection → Comes s t channel (session.Take handle) → HasAllTaken t.connection
take_taken s t channel handle x (inl same) =
    subst (λ (c : ConnectionState). HasAllTaken c) (sym same.2) (at_last channel handle s.connection (take_none s.connection s.unsent channel handle same.0 x.alive x.wide same.1) x.others)
take_taken s t channel handle x (inr is) =
    let e = call_event s.connection channel (session.Take handle) in
    let after = connection_after s.connection e in
    subst (λ (c : ConnectionState). HasAllTaken c) (sym is)
    (at_last channel handle after (omega (arith, ready_took s.connection channel handle, x.one))
    (λ k h away. omega (arith, ready_added s.connection e k h, x.others k h away, call_makes channel (slot_at s.connection channel) (session.Take handle) k h)))

-- Serving. ------------------------------------------------------------------------------------------------------------

handed_stand : (config : Configured) (channel id : ℕ) (settled : Bool) (s : ConnectionState) → HasAllTaken s → TakenAt (if settled then ToppingUp (all_supplies config) else Settling channel id) s
handed_stand config channel id true s all = all
handed_stand config channel id false s all = all

taken_stand : (config : Configured) (channel : ℕ) (answer : Answer) (s : ConnectionState) → HasAllTaken s → TakenAt (stand_taken config channel answer) s
taken_stand config channel (HandedUp d) s all = handed_stand config channel d.delivery_id d.settled s all
taken_stand config channel answer s all = all

supply_comes : (p : Rule) (s t : EndpointState) (supply : Supply) (n : ℕ) (answer : Answer) → Does s t (top_up_by supply n) answer → CallDone s t (supply_channel supply) (call_for supply n) answer
supply_comes p s t supply n answer does = subst (λ (c : Call). Does s t c answer) (top_call supply n) does

-- What is ready at a stand is what was ready before, as far as serving goes.
pub all_taken : {p : Rule} {a b : Stand} {s t : EndpointState} {xs : List Step} → Serves p a s xs b t → IsTakenAt a s → IsTakenAt b t
all_taken Rests x = x
all_taken (MovesOut {p} {a} {b} {s} next room bytes does rest) x =
    all_taken rest (record { least = omega (arith, x.least, does.input.limit); taken = subst (λ (c : ConnectionState). TakenAt a c) (sym does.connection) x.taken })
all_taken (Feeds {p} {b} {s} next piece used told none range does rest) x = all_taken rest (fed_taken s next piece used told x.least x.taken none (is_dead s.connection.phase) refl does)
all_taken (Takes {p} {b} {s} next channel handle answer does rest) x =
    let kept = call_keeps s next channel (session.Take handle) answer does in
    let c = take_taken s next channel handle x.taken (call_comes s next channel (session.Take handle) answer does) in
    all_taken rest (record { least = omega (arith, x.least, kept.limit); taken = taken_stand next.connection.config channel answer next.connection c })
all_taken (Settles {p} {b} {s} next channel id answer none small does rest) x =
    let call = session.Settle id p.outcome in
    let kept = call_keeps s next channel call answer does in
    all_taken rest (record { least = omega (arith, x.least, kept.limit); taken = call_taken s next channel call (call_comes s next channel call answer does) x.taken })
all_taken (TopsUp {p} {b} {s} next supply supplies answer none lacks does rest) x =
    let call = call_for supply (lack p s.connection supply) in
    let done = supply_comes p s next supply (lack p s.connection supply) answer does in
    let kept = call_keeps s next (supply_channel supply) call answer done in
    all_taken rest
    (record { least = omega (arith, x.least, kept.limit); taken = call_taken s next (supply_channel supply) call (call_comes s next (supply_channel supply) call answer done) x.taken })
all_taken (Passes supply supplies lacks rest) x = all_taken rest (record { least = x.least; taken = x.taken })
all_taken (Finishes {p} {b} {s} next end none does rest) x =
    all_taken rest (record {
      least = omega (arith, x.least, does.0.limit);
      taken = subst (λ (c : ConnectionState). HasAllTaken c) (sym does.0.connection) (quiet s.connection event.Finished (λ channel handle. refl) x.taken);
    })

-- a new endpoint has nothing ready
pub start_taken : (config : Configured) (s : EndpointState) → IsStart config s → HasAllTaken s.connection
start_taken config s start channel handle =
    ap (λ (c : ConnectionState). slot_ready (link_at c channel handle)) start.connection ∙ ap (λ (x : Slot SessionState). slot_ready (link_in handle x)) (free_at 0 (channels config) channel)

-- Serving leaves nothing ready but what it takes next.
pub leaves_taken : (p : Rule) (b : Stand) (s t : EndpointState) (steps : List Step) → 8 ≤ s.input.limit → HasAllTaken s.connection → Serves p reading s steps b t →
    ((channel handle : ℕ) → b ≡ Receiving channel handle → ⊥) → HasAllTaken t.connection
leaves_taken p b s t steps least all x other = by b other (all_taken x (record { least = least; taken = all })).taken
  where
    by : (a : Stand) → ((channel handle : ℕ) → a ≡ Receiving channel handle → ⊥) → TakenAt a t.connection → HasAllTaken t.connection
    by (ToppingUp supplies) away x = x
    by (Receiving channel handle) away x = absurd (away channel handle refl)
    by (Settling channel id) away x = x
    by Starved away x = x
    by Over away x = x

-- So does serving that breaks off where memory is refused.
pub broke_taken : (p : Rule) (e : ServeFault) (bytes : List ℕ) (old new : EndpointState) (w w1 k k1 : Option (List ℕ)) → 8 ≤ old.input.limit → HasAllTaken old.connection → e ≡ fault.NoMemory →
    BrokeOff p e reading bytes old new w w1 k k1 → HasAllTaken new.connection
broke_taken p e bytes old new w w1 k k1 least all is x =
    let left = subst (λ (f : ServeFault). IsLeft f x.stand x.steps x.noted x.unnoted) is x.left in
    subst (λ (c : ConnectionState). HasAllTaken c) (sym x.same.connection)
    (leaves_taken p x.stand old x.last x.steps least all x.serves (λ channel handle at. absurd (grind (arith, sym left.0 ∙ at))))
