-- What is done for a frame, and what is to be written in answer.
use Rattle.std.specs.Prelude.{◌≡◌, ℕ, ◌≤◌, List, [], ◌∷◌, Option, Some, None}
use Rattle.amqp_perform.specs.declared.performative.Detach.{Detach}
use Rattle.amqp_perform.specs.declared.performative.Performative.{Performative}
use Rattle.amqp_perform.specs.declared.performative.Performative.TheVariants as performative
use Rattle.amqp_session.specs.declared.done.Answer.{Answer}
use Rattle.amqp_session.specs.declared.done.Answer.TheVariants as answer
use Rattle.amqp_session.specs.declared.done.Done.{Done}
use Rattle.amqp_session.specs.declared.fault.SessionFault.{SessionFault}
use Rattle.amqp_session.specs.declared.report.Report.{Report}
use Rattle.amqp_session.specs.declared.report.Report.TheVariants as report
use Rattle.amqp_session.specs.declared.terms.SessionTerms.{SessionTerms}
use Rattle.amqp_session.specs.Faults.{session_fault, event_of, report_of, answer_of, IsRefusal}
use Rattle.amqp_perform.specs.Said.{Said, said}
use Rattle.amqp_session.specs.Frames.{Frame, Attaches, attach_said, refusal_said, failure_said}
use Rattle.amqp_session.specs.Sessions.{SessionState, session_after, SessionMay}

-- what is written for an answer that needs nothing of its frame
abbrev pub said_by : Answer → List Said
said_by answer.Nothing = []
said_by (answer.Flow p) = said (performative.Flow p) ∷ []
said_by (answer.Detach p) = said (performative.Detach p) ∷ []
said_by answer.Attach = []
said_by (answer.Refusal p) = said (performative.Detach p) ∷ []

-- what is written for the answer to a frame
abbrev pub answer_said : SessionTerms → Frame → Answer → List Said
answer_said terms (Attaches a) answer.Attach = attach_said a.bounds.max_message_size a ∷ []
answer_said terms (Attaches a) (answer.Refusal p) = refusal_said a ∷ said (performative.Detach p) ∷ []
answer_said terms f x = said_by x

-- the answer is one to an attach
abbrev pub IsOfAttach : Answer → Type 0
IsOfAttach answer.Attach = Unit {0}
IsOfAttach (answer.Refusal p) = Unit {0}
IsOfAttach _ = ⊥

-- the answer is one to another frame
abbrev pub IsPlain : Answer → Type 0
IsPlain answer.Attach = ⊥
IsPlain (answer.Refusal p) = ⊥
IsPlain _ = Unit {0}

-- an attach is answered by an answer to an attach, and no other frame is
abbrev pub IsAnswerTo : Frame → Answer → Type 0
IsAnswerTo (Attaches a) x = IsOfAttach x
IsAnswerTo f x = IsPlain x

-- an attach is answered, or its link is refused
abbrev pub IsAttachAnswer : Report → Answer → Type 0
IsAttachAnswer (report.Failed handle condition dropped) x = (p : Detach) × (x ≡ answer.Refusal p) × (said (performative.Detach p) ≡ failure_said handle condition)
IsAttachAnswer _ x = x ≡ answer.Attach

-- an attach's handle is at most this one
abbrev pub IsWithin : ℕ → Performative → Type 0
IsWithin handle_max (performative.Attach p) = p.handle ≤ handle_max
IsWithin handle_max p = Unit {0}

-- a frame of the session was taken
pub record IsDone (old new : SessionState) (f : Frame) (done : Done) : Type 0 where
  pub accepted : session_fault old f ≡ None
  pub may : SessionMay old (event_of old f)
  pub after : new ≡ session_after old (event_of old f)
  pub report : done.report ≡ report_of old f
  pub answer : answer_of old f ≡ answer_said old.terms f done.answer
  pub kind : IsAnswerTo f done.answer

-- a frame that is not for the session did nothing
pub record IsPassed (old new : SessionState) (done : Done) : Type 0 where
  pub after : new ≡ old
  pub report : done.report ≡ report.Nothing
  pub answer : done.answer ≡ answer.Nothing

abbrev pub HasDone : SessionState → SessionState → Option Frame → Done → Type 0
HasDone old new None done = IsPassed old new done
HasDone old new (Some f) done = IsDone old new f done

-- a frame that is not for the session is not refused
abbrev pub IsFrameRefusal : SessionState → Option Frame → SessionFault → Type 0
IsFrameRefusal s None e = ⊥
IsFrameRefusal s (Some f) e = IsRefusal s f e
