-- What is done for a frame or a call of a session, by its parts.
use Rattle.std.proofs.Common.{◌≡◌, [], ◌∷◌, length, sym, ap, ◌∙◌, subst, Option, Some, None}
use Rattle.amqp_perform.specs.declared.condition.Condition.{Condition}
use Rattle.amqp_session.specs.declared.done.Answer.{Answer}
use Rattle.amqp_session.specs.declared.terms.SessionTerms.{SessionTerms}
use Rattle.amqp_session.specs.Answers.{answer_said, IsAttachAnswer}
use Rattle.amqp_session.specs.Calls.{Call, call_fault, call_event}
use Rattle.amqp_session.specs.Faults.{session_fault, event_of, attach_answer, attach_report}
use Rattle.amqp_perform.specs.Said.{Said}
use Rattle.amqp_session.specs.Frames.{Frame, Attaching, Attaches, IsInRange, refusal_said}
use Rattle.amqp_session.specs.Sessions.{SessionState, SessionEvent, SessionMay, session_after, session_begins, handles, IsApart}
use Rattle.amqp_session.specs.Laws.{IsCallInRange}
use Rattle.amqp_session.proofs.Accepts.{frame_ok, call_ok}
use Rattle.amqp_session.proofs.Ids.{IdsGrow, stays_apart, begins_apart}

-- a session after an accepted event
pub apart_after : IdsGrow → (s new : SessionState) (e : SessionEvent) → IsApart s → SessionMay s e → new ≡ session_after s e → IsApart new
apart_after grow s new e apart may same = subst (λ (t : SessionState). IsApart t) (sym same) (stays_apart grow s e apart may)

-- after a call that is not refused no two open deliveries have one id, and its event was accepted
pub call_apart : IdsGrow → (s new : SessionState) (c : Call) → IsApart s → IsCallInRange c → call_fault s c ≡ None → new ≡ session_after s (call_event s c) → IsApart new
call_apart grow s new c apart range none same = apart_after grow s new (call_event s c) apart (call_ok s c apart range none) same

pub call_may : (s now : SessionState) (c : Call) → s ≡ now → IsApart s → IsCallInRange c → call_fault s c ≡ None → SessionMay now (call_event now c)
call_may s now c view apart range none = subst (λ (t : SessionState). SessionMay t (call_event t c)) view (call_ok s c apart range none)

-- the same of a frame without fault
pub frame_apart : IdsGrow → (s new : SessionState) (f : Frame) → IsApart s → length s.links ≡ handles s.terms → IsInRange s.terms.handle_max f → session_fault s f ≡ None →
    new ≡ session_after s (event_of s f) → IsApart new
frame_apart grow s new f apart long range none same = apart_after grow s new (event_of s f) apart (frame_ok s f long range none) same

pub frame_may : (s now : SessionState) (f : Frame) → s ≡ now → length s.links ≡ handles s.terms → IsInRange s.terms.handle_max f → session_fault s f ≡ None → SessionMay now (event_of now f)
frame_may s now f view long range none = subst (λ (t : SessionState). SessionMay t (event_of t f)) view (frame_ok s f long range none)

-- the answer to an attach
pub attach_answered : (terms : SessionTerms) (a : Attaching) (x : Answer) (o : Option Condition) → IsAttachAnswer (attach_report a.handle o) x →
    attach_answer terms a o ≡ answer_said terms (Attaches a) x
attach_answered terms a x None is = ap (λ (y : Answer). answer_said terms (Attaches a) y) (sym is)
attach_answered terms a x (Some condition) is =
    ap (λ (y : Said). refusal_said a ∷ y ∷ []) (sym is.2) ∙ ap (λ (y : Answer). answer_said terms (Attaches a) y) (sym is.1)

-- a session at its begin
pub apart_begins : (s : SessionState) (terms : SessionTerms) → s ≡ session_begins terms → IsApart s
apart_begins s terms same = subst (λ (t : SessionState). IsApart t) (sym same) (begins_apart terms)
