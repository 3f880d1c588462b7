-- What the sender's frames come to on a connection.
use Rattle.std.proofs.Common.{◌≡◌, ℕ, ◌^◌, ◌<◌, ◌≤◌, ◌&&◌, Bool, true, false, not, cond, ltb, eqb, List, [], ◌∷◌, length, Option, Some, None, refl, ap, ◌∙◌, arith, ne_eqb}
use Rattle.std.specs.Prelude.{is_none}
use Rattle.amqp_frame.specs.Units.{FrameUnit, body_of}
use Rattle.amqp_link.specs.declared.transfer.LinkFault.{LinkFault}
use Rattle.amqp_link.specs.Links.{fault_of, step_of, is_drained}
use Rattle.amqp_link.specs.declared.transfer.LinkFault.TheVariants as link_fault
use Rattle.amqp_link.specs.declared.transfer.Step.{Step}
use Rattle.amqp_link.specs.declared.transfer.Step.TheVariants as step
use Rattle.amqp_perform.specs.declared.condition.Condition.TheVariants as condition
use Rattle.amqp_perform.specs.declared.descriptor.Descriptor.{Descriptor}
use Rattle.amqp_perform.specs.BodyReading.{body_at}
use Rattle.amqp_perform.specs.Cells.{Cell}
use Rattle.amqp_perform.specs.Said.{Said, said_frame, MayBeSaid}
use Rattle.amqp_session.specs.declared.fault.SessionFault.{SessionFault}
use Rattle.amqp_session.specs.declared.fault.SessionFault.TheVariants as fault
use Rattle.amqp_session.specs.declared.report.Report.{Report}
use Rattle.amqp_session.specs.declared.report.Report.TheVariants as report
use Rattle.amqp_session.specs.declared.slot.Slot.{Slot}
use Rattle.amqp_session.specs.declared.slot.Slot.TheVariants.{Live}
use Rattle.amqp_session.specs.Faults.{or_else, where_so, is_free, step_report, transfer_fault, transfer_event, transfer_report, came_report, failure_answer, flow_event, flow_report, flow_answer, session_fault}
use Rattle.amqp_session.specs.Frames.{Frame, Attaches, Flows, Transfers}
use Rattle.amqp_session.specs.Sessions as session
use Rattle.amqp_session.specs.Sessions.{SessionState, SessionEvent, LiveLink, is_reused, session_after, TransferCame, TransferEnded, LinkFlowCame, LinkFlowEnded}
use Rattle.amqp_endpoint.specs.declared.event.Event.TheVariants as told
use Rattle.amqp_endpoint.specs.declared.phase.Phase.{Phase}
use Rattle.amqp_endpoint.specs.declared.phase.Phase.TheVariants as phase
use Rattle.amqp_endpoint.specs.Connections.{ConnectionState, slot_at, channel_limit, is_closing, is_unopened, InSession}
use Rattle.amqp_endpoint.specs.Fields.{Read, ForSession, read_in}
use Rattle.amqp_endpoint.specs.Lines.{ChannelTooHigh, HandleTooHigh, SessionFrame, line_of, frame_at, frame_line, body_line, closing_line, read_line, unopened_line, opened_line, channel_line, session_line, by_fault, attach_too_high, report_told}
use Rattle.amqp_endpoint.specs.Replies.{on_channel}
use Rattle.amqp_send.specs.declared.flow_state.FlowState.{FlowState}
use Rattle.amqp_send.specs.Frames.{IsText, IsSmall}
use Rattle.amqp_send.specs.Sendings.{open_said, begin_said, attach_said, flow_said, transfer_said}
use Rattle.amqp_pair.specs.Reading.{LineLaw, OpenLaw, BeginLaw, AttachLaw, FlowLaw, TransferLaw, IsOpened, attaching_of, flowing_of, sent_by, TakenLaw, HeededLaw}
use Rattle.amqp_pair.proofs.Bodies.{IsRead, IsOneFrame, has_body}

none_below : (n : ℕ) → ltb n 0 ≡ false
none_below n = grind arith

not_less : (a b : ℕ) → b ≤ a → ltb a b ≡ false
not_less a b le = grind (arith, le)

-- From the bytes to what they say. ------------------------------------------------------------------------------------

open_line : (s : ConnectionState) (bytes : List ℕ) → is_closing s.phase ≡ false → frame_at s 0 bytes ≡ frame_line s 0 bytes
open_line s bytes e = ap (λ (b : Bool). cond b (closing_line bytes) (frame_line s 0 bytes)) e

low_line : (s : ConnectionState) (front : ℕ) (rest : List ℕ) → frame_line s 0 (front ∷ rest) ≡ body_line s 0 (front ∷ rest) (body_at (front ∷ rest))
low_line s front rest = ap (λ (b : Bool). cond b ChannelTooHigh (body_line s 0 (front ∷ rest) (body_at (front ∷ rest)))) (none_below (channel_limit s.phase))

pub lines : IsRead → IsOneFrame → LineLaw
lines read frame s x payload may few awake =
    let h = has_body read frame 0 x payload may (omega arith) few in
    let b = said_frame 0 x payload in
    ap (λ (c : ℕ). frame_at s c (body_of b)) h.channel_is ∙ ap (λ (w : List ℕ). frame_at s 0 w) h.is ∙ open_line s (h.front ∷ h.rest) awake ∙ low_line s h.front h.rest
    ∙ ap (λ (r : Option (Descriptor × List Cell × List ℕ)). body_line s 0 (h.front ∷ h.rest) r) h.reads

-- By how the connection stands. ---------------------------------------------------------------------------------------

not_closing : (p q : Phase) → p ≡ q → is_closing q ≡ false → is_closing p ≡ false
not_closing p q e c = ap is_closing e ∙ c

unopened : (s : ConnectionState) (r : Read) → s.phase ≡ phase.Unopened → read_line s 0 r ≡ unopened_line r
unopened s r e = ap (λ (p : Phase). cond (is_unopened p) (unopened_line r) (opened_line s 0 r)) e

opened : (s : ConnectionState) (r : Read) → IsOpened s → read_line s 0 r ≡ opened_line s 0 r
opened s r e = ap (λ (p : Phase). cond (is_unopened p) (unopened_line r) (opened_line s 0 r)) e

module _ (line : LineLaw) where
  pub opens : ((container_id : List ℕ) → IsText container_id → MayBeSaid (open_said container_id)) → OpenLaw
  opens may s container_id e text few =
      line s (open_said container_id) [] (may container_id text) few (not_closing s.phase phase.Unopened e refl) ∙ unopened s (read_in s.config (open_said container_id).type (open_said container_id).cells []) e

  pub begins : MayBeSaid begin_said → BeginLaw
  begins may s e free few =
      let r : Read = read_in s.config begin_said.type begin_said.cells [] in
      line s begin_said [] may few (not_closing s.phase (phase.Open 4096 0) e refl) ∙ opened s r e ∙ ap (λ (q : Slot SessionState). channel_line 0 q r) free

  -- a frame of the session that lives there
  in_session : (s : ConnectionState) (t : SessionState) (x : Said) (payload : List ℕ) (f : Frame) → IsOpened s → slot_at s 0 ≡ Live t → MayBeSaid x → length (said_frame 0 x payload) < 2 ^ 32
      → read_in s.config x.type x.cells payload ≡ ForSession f → line_of s (FrameUnit (said_frame 0 x payload)) ≡ session_line 0 t f
  in_session s t x payload f e live may few says =
      line s x payload may few (not_closing s.phase (phase.Open 4096 0) e refl) ∙ ap (λ (r : Read). read_line s 0 r) says ∙ opened s (ForSession f) e
      ∙ ap (λ (q : Slot SessionState). channel_line 0 q (ForSession f)) live

  no_fault : (t : SessionState) (f : Frame) → attach_too_high t f ≡ false → session_fault t f ≡ None → session_line 0 t f ≡ SessionFrame 0 t f
  no_fault t f low none =
      ap (λ (b : Bool). cond b HandleTooHigh (by_fault 0 t f (session_fault t f))) low ∙ ap (λ (z : Option SessionFault). by_fault 0 t f z) none

  is_used : (t : SessionState) (l : LiveLink) → session.slot_at t 0 ≡ Live l → is_free (session.slot_at t 0) ≡ false
  is_used t l live = ap is_free live

  pub attaches : ((name : List ℕ) → IsText name → MayBeSaid (attach_said name)) → AttachLaw
  attaches may s t name e live free text short few =
      let a = attaching_of s.config name in
      let long : ltb 255 (length name) ≡ false = not_less 255 (length name) short in
      let none : session_fault t (Attaches a) ≡ None =
      ap (λ (b : Bool). or_else (where_so b fault.ResourceLimit) (or_else (where_so (not (is_free (session.slot_at t 0))) fault.HandleInUse) None)) long
      ∙ ap (λ (q : Slot LiveLink). or_else (where_so (not (is_free q)) fault.HandleInUse) None) free in
      in_session s t (attach_said name) [] (Attaches a) e live (may name text) few refl ∙ no_fault t (Attaches a) (none_below t.terms.handle_max) none

  pub flows : ((f : FlowState) (drain : Bool) → IsSmall f.peer_next_outgoing_id → f.next_outgoing_id < 2 ^ 32 → f.delivery_count < 2 ^ 32 → MayBeSaid (flow_said f drain)) → FlowLaw
  flows may s t l f drain e live link peer next count few =
      let none : session_fault t (Flows (flowing_of f)) ≡ None = ap (λ (b : Bool). where_so b fault.UnattachedHandle) (is_used t l link) in
      in_session s t (flow_said f drain) [] (Flows (flowing_of f)) e live (may f drain peer next count) few refl ∙ no_fault t (Flows (flowing_of f)) refl none

  transfer_says : (s : ConnectionState) (id : ℕ) (begun more : Bool) (payload : List ℕ) →
      read_in s.config (transfer_said id begun more).type (transfer_said id begun more).cells payload ≡ ForSession (Transfers 0 (sent_by id begun more payload))
  transfer_says s id true true payload = refl
  transfer_says s id true false payload = refl
  transfer_says s id false true payload = refl
  transfer_says s id false false payload = refl

  pub transfers : ((id : ℕ) (begun more : Bool) → id < 2 ^ 32 → MayBeSaid (transfer_said id begun more)) → TransferLaw
  transfers may s t l id begun more payload e live link room lt few =
      let f = Transfers 0 (sent_by id begun more payload) in
      let place : eqb t.window 0 ≡ false = ne_eqb t.window 0 (omega (arith, room)) in
      let none : session_fault t f ≡ None =
      ap (λ (b : Bool). or_else (where_so b fault.WindowViolation) (where_so (is_free (session.slot_at t 0)) fault.UnattachedHandle)) place
      ∙ ap (λ (b : Bool). where_so b fault.UnattachedHandle) (is_used t l link) in
      in_session s t (transfer_said id begun more) payload f e live (may id begun more lt) few (transfer_says s id begun more payload) ∙ no_fault t f refl none

-- Lines that fail nothing. --------------------------------------------------------------------------------------------

step_says_nothing : (s : Step) → failure_answer (step_report 0 s) ≡ []
step_says_nothing step.Unfinished = refl
step_says_nothing step.Ready = refl
step_says_nothing step.Aborted = refl

pub taken : TakenLaw
taken s t l w live new fine =
    let reused : (not w.resume && is_reused t l.link w) ≡ false = and_none (not w.resume) (is_reused t l.link w) new in
    let none : transfer_fault t l.link w ≡ None = ap (λ (b : Bool). cond b (Some link_fault.InvalidField) (fault_of l.link w)) reused ∙ fine in
    let event : transfer_event t 0 w (session.slot_at t 0) ≡ TransferCame 0 w =
    ap (λ (q : Slot LiveLink). transfer_event t 0 w q) live ∙ ap (λ (z : Option LinkFault). cond (is_none z) (TransferCame 0 w) (TransferEnded 0)) none in
    let report : transfer_report t 0 w (session.slot_at t 0) ≡ step_report 0 (step_of w) =
    ap (λ (q : Slot LiveLink). transfer_report t 0 w q) live ∙ ap (λ (z : Option LinkFault). came_report 0 l.link w z) none in
    record {
      event = ap (λ (e : SessionEvent). InSession 0 e) event;
      told = ap (λ (r : Report). report_told 0 r) report;
      reply = ap (λ (z : List Said). on_channel 0 z) (ap (λ (r : Report). failure_answer r) report ∙ step_says_nothing (step_of w));
    }
  where
    and_none : (a b : Bool) → b ≡ false → (a && b) ≡ false
    and_none true b e = e
    and_none false b e = refl

abbrev drained_report : Bool → Report
drained_report b = cond b (report.Drained 0) report.Nothing

drained_told : (b : Bool) → report_told 0 (drained_report b) ≡ cond b (Some (told.Drained 0 0)) None
drained_told true = refl
drained_told false = refl

drained_answer : (t : SessionState) (f : FlowState) (b : Bool) → flow_answer t (flowing_of f) (drained_report b) ≡ []
drained_answer t f true = refl
drained_answer t f false = refl

pub heeded : HeededLaw
heeded s t l f live within =
    let w = flowing_of f in
    let drained = is_drained l.link (Some f.delivery_count) in
    let event : flow_event 0 w (session.slot_at t 0) ≡ LinkFlowCame 0 f.next_outgoing_id (Some f.delivery_count) =
    ap (λ (q : Slot LiveLink). flow_event 0 w q) live
    ∙ ap (λ (b : Bool). cond b (LinkFlowEnded 0 f.next_outgoing_id) (LinkFlowCame 0 f.next_outgoing_id (Some f.delivery_count))) within in
    let report : flow_report 0 w (session.slot_at t 0) ≡ drained_report drained =
    ap (λ (q : Slot LiveLink). flow_report 0 w q) live
    ∙ ap (λ (b : Bool). cond b (report.Failed 0 condition.TransferLimitExceeded (length l.link.ready)) (drained_report drained)) within in
    record {
      event = ap (λ (e : SessionEvent). InSession 0 e) event;
      told = ap (λ (r : Report). report_told 0 r) report ∙ drained_told drained;
      reply = ap (λ (z : List Said). on_channel 0 z)
          (ap (λ (r : Report). flow_answer (session_after t (flow_event 0 w (session.slot_at t 0))) w r) report ∙ drained_answer (session_after t (flow_event 0 w (session.slot_at t 0))) f drained);
    }
