-- A frame of a session, with its answer and what is told of it.
use Rattle.std.proofs.Common.{arith, ◌≡◌, ℕ, zero, suc, ◌+◌, ◌≤◌, subst, Bool, true, false, List, [], ◌∷◌, ◌++◌, length, refl, sym, ap, ◌∙◌, Option, Some, None, Result, Ok, Err}
use Rattle.std.specs.Prelude.{slice_get, slice_set, unwrap_or, if◌then◌else◌}
use Rattle.amqp_perform.specs.declared.performative.Performative.{Performative}
use Rattle.amqp_perform.specs.declared.performative.Transfer.{Transfer}
use Rattle.amqp_perform.specs.declared.performative.Performative.TheVariants as performative
use Rattle.amqp_perform.specs.Conditions.{condition_span}
use Rattle.std.proofs.lemmas.List.{append_assoc, append-nil, length-append}
use Rattle.amqp_perform.specs.Said.{Said, said, said_frame}
use Rattle.amqp_perform.specs.declared.condition.Condition.{Condition}
use Rattle.amqp_link.specs.Links.{Sent, sent_of}
use Rattle.amqp_session.specs.declared.report.Report.{Report}
use Rattle.amqp_session.specs.declared.done.Answer.{Answer}
use Rattle.amqp_session.specs.declared.done.Answer.TheVariants as answer
use Rattle.amqp_session.specs.declared.done.Done.{Done}
use Rattle.amqp_session.specs.declared.fault.SessionFault.{SessionFault}
use Rattle.amqp_session.specs.declared.fault.SessionFault.TheVariants as fault
use Rattle.amqp_session.specs.declared.slot.Slot.{Slot}
use Rattle.amqp_session.specs.declared.slot.Slot.TheVariants.{Free, Live, Waits}
use Rattle.amqp_session.specs.Answers.{answer_said}
use Rattle.amqp_session.specs.Faults.{failure_answer, session_fault, event_of, report_of, answer_of, frame_may_grow, session_condition, IsRefusal}
use Rattle.amqp_perform.specs.declared.performative.Detach.{Detach}
use Rattle.amqp_session.specs.Frames.{Attaching, Frame, Attaches, Flows, Transfers, Disposes, Detaches, attaching, flowing, disposing, refusal_said}
use Rattle.amqp_endpoint.specs.Configs.{Configured, bounds_for}
use Rattle.amqp_endpoint.specs.Fields.{frame_in}
use Rattle.amqp_session.specs.Sessions.{SessionState, session_after}
use Rattle.amqp_endpoint.specs.declared.event.Event.{Event}
use Rattle.amqp_endpoint.specs.declared.event.Event.TheVariants as told
use Rattle.amqp_endpoint.specs.declared.event.Scope.TheVariants as scope
use Rattle.amqp_endpoint.specs.Acting.{attach_answered, IsDone, IsWithout, HasDone, IsLive, IsForSession, FrameDone, IsFramed, IsUnframed, IsRefused, is_above_handle_max, replied, ending}
use Rattle.amqp_endpoint.specs.Connections as event
use Rattle.amqp_endpoint.specs.Connections.{ConnectionState, connection_after, slot_at, channel_ready}
use Rattle.amqp_endpoint.specs.Lines as line
use Rattle.amqp_endpoint.specs.Lines.{Line, attach_too_high, by_fault, session_line, report_told}
use Rattle.amqp_endpoint.specs.Replies.{joined, on_channel, end_said}
use Rattle.amqp_endpoint.proofs.Replies.{SaidLong, channel_long, answer_long}
use Rattle.amqp_endpoint.proofs.Tables.{Table}
use Rattle.std.proofs.lemmas.Option.{same_Some}

-- What is at hand. ------------------------------------------------------------------------------------------------------

-- a live place holds a session
pub live_there : (x : Slot SessionState) → IsLive x → (t : SessionState) × (x ≡ Live t)
live_there Free l = absurd l
live_there (Live t) l = (t, refl)
live_there Waits l = absurd l

-- what is for a session is a frame
pub frame_there : (o : Option Frame) → IsForSession o → (f : Frame) × (o ≡ Some f)
frame_there None l = absurd l
frame_there (Some f) l = (f, refl)

-- by the result
pub framed_as : (s new : ConnectionState) (channel : ℕ) (t : SessionState) (f : Frame) (r : Result Done SessionFault) (d : Done) → r ≡ Ok d → FrameDone s new channel t f r →
    IsFramed s new channel t f d
framed_as s new channel t f r d is done = subst (λ (r : Result Done SessionFault). FrameDone s new channel t f r) is done

-- a frame that its session refused is a fault of that session
pub unframed_as : (s new : ConnectionState) (channel : ℕ) (t : SessionState) (f : Frame) (r : Result Done SessionFault) (e : SessionFault) → r ≡ Err e → FrameDone s new channel t f r →
    IsUnframed s new t f e
unframed_as s new channel t f r e is done = subst (λ (r : Result Done SessionFault). FrameDone s new channel t f r) is done

-- an attach is too high where its frame is
beyond_is : (config : Configured) (p : Performative) (payload : List ℕ) (t : SessionState) (f : Frame) → frame_in config p payload ≡ Some f → is_above_handle_max (Live t) p ≡ attach_too_high t f
beyond_is config (performative.Open p) payload t f e = absurd (grind (arith, e))
beyond_is config (performative.Begin p) payload t f e = absurd (grind (arith, e))
beyond_is config (performative.Attach p) payload t f e = ap (λ (g : Frame). attach_too_high t g) (same_Some (Attaches (attaching p (bounds_for config p.name.now))) f e)
beyond_is config (performative.Flow p) payload t f e = ap (λ (g : Frame). attach_too_high t g) (same_Some (Flows (flowing p)) f e)
beyond_is config (performative.Transfer p) payload t f e = ap (λ (g : Frame). attach_too_high t g) (same_Some (Transfers p.handle (sent_of p payload)) f e)
beyond_is config (performative.Disposition p) payload t f e = ap (λ (g : Frame). attach_too_high t g) (same_Some (Disposes (disposing p)) f e)
beyond_is config (performative.Detach p) payload t f e = ap (λ (g : Frame). attach_too_high t g) (same_Some (Detaches p.handle p.closed) f e)
beyond_is config (performative.End p) payload t f e = absurd (grind (arith, e))
beyond_is config (performative.Close p) payload t f e = absurd (grind (arith, e))

-- what is written for an answer is what it says of the frame
replied_is : (config : Configured) (p : Performative) (payload : List ℕ) (t : SessionState) (f : Frame) (x : Answer) → frame_in config p payload ≡ Some f → replied config p x ≡ answer_said t.terms f x
replied_is config (performative.Open p) payload t f x e = absurd (grind (arith, e))
replied_is config (performative.Begin p) payload t f x e = absurd (grind (arith, e))
replied_is config (performative.Attach p) payload t f x e = by_answer x ∙ ap (λ (g : Frame). answer_said t.terms g x) (same_Some (Attaches (attaching p (bounds_for config p.name.now))) f e)
  where
    by_answer : (x : Answer) → replied config (performative.Attach p) x ≡ answer_said t.terms (Attaches (attaching p (bounds_for config p.name.now))) x
    by_answer answer.Nothing = refl
    by_answer (answer.Flow q) = refl
    by_answer (answer.Detach q) = refl
    by_answer answer.Attach = refl
    by_answer (answer.Refusal q) = refl
replied_is config (performative.Flow p) payload t f x e = ap (λ (g : Frame). answer_said t.terms g x) (same_Some (Flows (flowing p)) f e)
replied_is config (performative.Transfer p) payload t f x e = ap (λ (g : Frame). answer_said t.terms g x) (same_Some (Transfers p.handle (sent_of p payload)) f e)
replied_is config (performative.Disposition p) payload t f x e = ap (λ (g : Frame). answer_said t.terms g x) (same_Some (Disposes (disposing p)) f e)
replied_is config (performative.Detach p) payload t f x e = ap (λ (g : Frame). answer_said t.terms g x) (same_Some (Detaches p.handle p.closed) f e)
replied_is config (performative.End p) payload t f x e = absurd (grind (arith, e))
replied_is config (performative.Close p) payload t f x e = absurd (grind (arith, e))

-- an attach that is refused is answered by two frames
pub refused_by_two : (a : Attaching) (x : Answer) (d : Detach) (reply : Said) → x ≡ answer.Refusal d → reply ≡ refusal_said a → attach_answered a x ≡ reply ∷ said (performative.Detach d) ∷ []
refused_by_two a x d reply refused says = ap (λ (y : Answer). attach_answered a y) refused ∙ ap (λ (y : Said). y ∷ said (performative.Detach d) ∷ []) (sym says)

-- where two frames fit, so does the first
pub first_fits : (channel : ℕ) (xs : List Said) (x y : Said) → length (joined (on_channel channel xs)) ≤ 2560 → xs ≡ x ∷ y ∷ [] → length (said_frame channel x []) ≤ 2560
first_fits channel xs x y short two =
    let all = subst (λ (xs : List Said). length (joined (on_channel channel xs)) ≤ 2560) two short in
    let one = said_frame channel x [] in
    let other = said_frame channel y [] in
    omega (arith, all, length-append one (other ++ []), length-append other [])

-- and the two behind what is there
pub both_put : (before middle after : List ℕ) (channel : ℕ) (xs : List Said) (x y : Said) → xs ≡ x ∷ y ∷ [] → middle ≡ before ++ said_frame channel x [] → after ≡ middle ++ said_frame channel y [] →
    after ≡ before ++ joined (on_channel channel xs)
both_put before middle after channel xs x y two first second =
    let one = said_frame channel x [] in
    let other = said_frame channel y [] in
    second ∙ ap (λ (bytes : List ℕ). bytes ++ other) first ∙ append_assoc before one other ∙ ap (λ (bytes : List ℕ). before ++ (one ++ bytes)) (sym (append-nil other))
    ∙ ap (λ (zs : List Said). before ++ joined (on_channel channel zs)) (sym two)

-- where two frames fit, the second fits behind the first
pub both_fit : (before out : List ℕ) (channel : ℕ) (xs : List Said) (x y : Said) → length before + 2560 ≤ 8192 → length (joined (on_channel channel xs)) ≤ 2560 → xs ≡ x ∷ y ∷ [] →
    out ≡ before ++ said_frame channel x [] → length out + length (said_frame channel y []) ≤ 8192
both_fit before out channel xs x y room short two first =
    let all = subst (λ (xs : List Said). length (joined (on_channel channel xs)) ≤ 2560) two short in
    let one = said_frame channel x [] in
    let other = said_frame channel y [] in
    let long : length out ≡ length (before ++ one) = ap length first in
    omega (arith, room, all, long, length-append before one, length-append one (other ++ []), length-append other [])

-- The session after its frame. ------------------------------------------------------------------------------------------

set_there : (slots : Table) (i : ℕ) (x y : Slot SessionState) → slice_get slots i ≡ Some x → slice_get (slice_set slots i y) i ≡ Some y
set_there [] i x y e = absurd (grind (arith, e))
set_there (s ∷ slots) zero x y e = refl
set_there (s ∷ slots) (suc i) x y e = set_there slots i x y e

present : (o : Option (Slot SessionState)) (t : SessionState) → unwrap_or o Free ≡ Live t → o ≡ Some (Live t)
present None t e = absurd (grind (arith, e))
present (Some x) t e = ap (λ (y : Slot SessionState). Some y) e

-- What becomes of it. ---------------------------------------------------------------------------------------------------

refusal_is : (t : SessionState) (f : Frame) (e : SessionFault) (c : Condition) → ending e ≡ Some c → IsRefusal t f e → session_fault t f ≡ Some e
refusal_is t f fault.WindowViolation c ends r = r
refusal_is t f fault.HandleInUse c ends r = r
refusal_is t f fault.UnattachedHandle c ends r = r
refusal_is t f fault.ResourceLimit c ends r = r
refusal_is t f fault.InvalidField c ends r = r
refusal_is t f fault.NoMemory c ends r = absurd (grind (arith, ends))

condition_is : (e : SessionFault) (c : Condition) → ending e ≡ Some c → c ≡ session_condition e
condition_is fault.WindowViolation c ends = grind (arith, ends)
condition_is fault.HandleInUse c ends = grind (arith, ends)
condition_is fault.UnattachedHandle c ends = grind (arith, ends)
condition_is fault.ResourceLimit c ends = grind (arith, ends)
condition_is fault.InvalidField c ends = grind (arith, ends)
condition_is fault.NoMemory c ends = absurd (grind (arith, ends))

want_is : (t : SessionState) (f : Frame) (e : SessionFault) → ending e ≡ None → IsRefusal t f e → (session_fault t f ≡ None) × (frame_may_grow t f ≡ true)
want_is t f fault.NoMemory ends r = r
want_is t f fault.WindowViolation ends r = absurd (grind (arith, ends))
want_is t f fault.HandleInUse ends r = absurd (grind (arith, ends))
want_is t f fault.UnattachedHandle ends r = absurd (grind (arith, ends))
want_is t f fault.ResourceLimit ends r = absurd (grind (arith, ends))
want_is t f fault.InvalidField ends r = absurd (grind (arith, ends))

-- A frame whose handle is not too high.
module _ (s new : ConnectionState) (channel : ℕ) (t : SessionState) (f : Frame) (low : attach_too_high t f ≡ false) where
  line_is : (o : Option SessionFault) → session_fault t f ≡ o → session_line channel t f ≡ by_fault channel t f o
  line_is o e =
      ap (λ (b : Bool). if b then line.HandleTooHigh else by_fault channel t f (session_fault t f)) low ∙ ap (λ (o : Option SessionFault). by_fault channel t f o) e

  -- it is taken, and answered
  pub taken : session_fault t f ≡ None → new ≡ connection_after s (event.InSession channel (event_of t f)) → (before after : List ℕ) (said : List Said) (tells : Option Event) (report : Report) →
      after ≡ before ++ joined (on_channel channel said) → said ≡ answer_of t f → tells ≡ report_told channel report → report ≡ report_of t f → IsDone s new before after (session_line channel t f) tells
  taken accepted becomes before after said tells report written says told is =
      subst (λ (l : Line). IsDone s new before after l tells) (sym (line_is None accepted)) (record {
        connection = becomes;
        unsent = written ∙ ap (λ (xs : List Said). before ++ joined (on_channel channel xs)) says;
        told = told ∙ ap (λ (n : Report). report_told channel n) is;
      })

  -- it is refused: memory is, or it ends the session
  pub refused : {E : Type 0} (e : SessionFault) → IsUnframed s new t f e → (last : ConnectionState) (before after : List ℕ) (r : Result (Option Event) E) → IsRefused new last before after channel e r →
      HasDone s last before after (session_line channel t f) r
  refused e unframed last before after (Err x) is =
      let wanted = want_is t f e is.0 unframed.refused in
      subst (λ (l : Line). IsWithout s last before after l) (sym (line_is None wanted.0)) (record { connection = is.1 ∙ unframed.same; unsent = is.2; wants = wanted.1 })
  refused e unframed last before after (Ok x) is =
      let c = is.0 in
      let why = condition_is e is.0 is.1 in
      subst (λ (l : Line). IsDone s last before after l x) (sym (line_is (Some e) (refusal_is t f e c is.1 unframed.refused))) (record {
        connection = is.2 ∙ ap (λ (y : ConnectionState). connection_after y (event.SessionFailed channel)) unframed.same;
        unsent = is.3 ∙ ap (λ (c : Condition). before ++ joined (on_channel channel (end_said (condition_span c) ∷ []))) why;
        told = is.4 ∙ ap (λ (e : Event). Some e)
            (ap (λ (y : ConnectionState). told.Failed (scope.Session channel) is.0 (channel_ready (slot_at y channel))) unframed.same
            ∙ ap (λ (c : Condition). told.Failed (scope.Session channel) c (channel_ready (slot_at s channel))) why);
      })

module _ (s new : ConnectionState) (channel : ℕ) (p : Performative) (payload : List ℕ) (t : SessionState) (f : Frame) (live : slot_at s channel ≡ Live t) (is : frame_in s.config p payload ≡ Some f) where
  -- an attach's handle is not too high
  pub low_is : false ≡ is_above_handle_max (slot_at s channel) p → attach_too_high t f ≡ false
  low_is low = sym (beyond_is s.config p payload t f is) ∙ sym (ap (λ (x : Slot SessionState). is_above_handle_max x p) live) ∙ sym low

  pub answer_is : (d : Done) → IsFramed s new channel t f d → replied new.config p d.answer ≡ answer_of t f
  answer_is d framed =
      ap (λ (c : ConnectionState). replied c.config p d.answer) framed.after ∙ replied_is s.config p payload (session_after t (event_of t f)) f d.answer is ∙ sym framed.answer

  pub answer_fits : SaidLong → (d : Done) → IsFramed s new channel t f d → length (joined (on_channel channel (replied new.config p d.answer))) ≤ 2560
  answer_fits law d framed =
      let m = channel_long law channel (answer_of t f) in
      let short : length (joined (on_channel channel (answer_of t f))) ≤ 2560 = omega (arith, m, answer_long t f framed.accepted) in
      subst (λ (xs : List Said). length (joined (on_channel channel xs)) ≤ 2560) (sym (answer_is d framed)) short

-- the detach of a link that a transfer ended fits
pub failure_fits : SaidLong → (channel handle : ℕ) (x : Sent) (t : SessionState) (n : Report) → session_fault t (Transfers handle x) ≡ None → n ≡ report_of t (Transfers handle x) →
    length (joined (on_channel channel (failure_answer n))) ≤ 2560
failure_fits law channel handle x t n accepted is =
    let m = channel_long law channel (answer_of t (Transfers handle x)) in
    let short : length (joined (on_channel channel (answer_of t (Transfers handle x)))) ≤ 2560 = omega (arith, m, answer_long t (Transfers handle x) accepted) in
    subst (λ (m : Report). length (joined (on_channel channel (failure_answer m))) ≤ 2560) (sym is) short
