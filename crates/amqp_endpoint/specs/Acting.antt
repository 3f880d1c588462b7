-- What a unit that is acted upon results in, line by line.
use Rattle.std.specs.Prelude.{◌≡◌, ℕ, Bool, true, false, nat_lt, List, [], ◌∷◌, ◌++◌, Option, Some, None, Result, Ok, Err}
use Rattle.amqp_perform.specs.declared.condition.Condition.{Condition}
use Rattle.amqp_perform.specs.declared.performative.Performative.{Performative}
use Rattle.amqp_perform.specs.declared.performative.Performative.TheVariants as performative
use Rattle.amqp_perform.specs.Said.{Said, said}
use Rattle.amqp_session.specs.declared.done.Answer.{Answer}
use Rattle.amqp_session.specs.declared.done.Answer.TheVariants as answer
use Rattle.amqp_session.specs.declared.done.Done.{Done}
use Rattle.amqp_session.specs.declared.fault.SessionFault.{SessionFault}
use Rattle.amqp_session.specs.declared.fault.SessionFault.TheVariants as fault
use Rattle.amqp_session.specs.declared.slot.Slot.{Slot}
use Rattle.amqp_session.specs.declared.slot.Slot.TheVariants.{Free, Live, Waits}
use Rattle.amqp_session.specs.Answers.{said_by, answer_said, IsWithin}
use Rattle.amqp_session.specs.Faults.{session_fault, session_condition, event_of, report_of, answer_of, IsRefusal}
use Rattle.amqp_session.specs.Frames.{Attaching, Frame, attaching, attach_said, refusal_said}
use Rattle.amqp_session.specs.Sessions.{SessionState}
use Rattle.amqp_endpoint.specs.Configs.{Configured, bounds_for}
use Rattle.amqp_endpoint.specs.Connections.{ConnectionState, InSession, SessionFailed, channel_ready, connection_after, slot_at}
use Rattle.amqp_endpoint.specs.declared.event.Event.{Event}
use Rattle.amqp_endpoint.specs.declared.event.Event.TheVariants as event
use Rattle.amqp_endpoint.specs.declared.event.Scope.TheVariants as scope
use Rattle.amqp_perform.specs.Conditions.{condition_span}
use Rattle.amqp_endpoint.specs.Lines.{Line, event_on, told_on, may_grow_on}
use Rattle.amqp_endpoint.specs.Replies.{reply_on, joined, on_channel, end_said}

-- the connection, its output and the event are those of this line
pub record IsDone (old new : ConnectionState) (before after : List ℕ) (line : Line) (event : Option Event) : Type 0 where
  pub connection : new ≡ connection_after old (event_on old line)
  pub unsent : after ≡ before ++ reply_on old line
  pub told : event ≡ told_on old line

-- memory was refused, which this line may need, and nothing has changed
pub record IsWithout (old new : ConnectionState) (before after : List ℕ) (line : Line) : Type 0 where
  pub connection : new ≡ old
  pub unsent : after ≡ before
  pub wants : may_grow_on line ≡ true

abbrev pub HasDone : {E : Type 0} → ConnectionState → ConnectionState → List ℕ → List ℕ → Line → Result (Option Event) E → Type 0
HasDone old new before after line (Ok told) = IsDone old new before after line told
HasDone old new before after line (Err e) = IsWithout old new before after line

-- Frames of sessions. -------------------------------------------------------------------------------------------------

-- a session is live there, and the performative may be passed to it
abbrev pub TakesIn : Slot SessionState → Performative → Type 0
TakesIn Free p = ⊥
TakesIn (Live s) p = IsWithin s.terms.handle_max p
TakesIn Waits p = ⊥

-- a session is live there
abbrev pub IsLive : Slot SessionState → Type 0
IsLive Free = ⊥
IsLive (Live s) = Unit {0}
IsLive Waits = ⊥

-- the performative is for a session
abbrev pub IsForSession : Option Frame → Type 0
IsForSession None = ⊥
IsForSession (Some f) = Unit {0}

-- an attach's handle is above the session's highest
abbrev pub is_above_handle_max : Slot SessionState → Performative → Bool
is_above_handle_max (Live s) (performative.Attach p) = nat_lt s.terms.handle_max p.handle
is_above_handle_max _ p = false

-- What is written for the answer to a performative that its session has taken: for an accepted attach an attach, for a refused one an attach and a detach. [2.6.3]
abbrev pub attach_answered : Attaching → Answer → List Said
attach_answered a answer.Attach = attach_said a.bounds.max_message_size a ∷ []
attach_answered a (answer.Refusal d) = refusal_said a ∷ said (performative.Detach d) ∷ []
attach_answered a x = said_by x

abbrev pub replied : Configured → Performative → Answer → List Said
replied config (performative.Attach p) x = attach_answered (attaching p (bounds_for config p.name.now)) x
replied config p x = said_by x

-- the condition with which a session ends that refuses a frame; None if memory was refused, which ends nothing
abbrev pub ending : SessionFault → Option Condition
ending fault.NoMemory = None
ending e = Some (session_condition e)

-- the session on a channel took a frame
pub record IsFramed (old new : ConnectionState) (channel : ℕ) (s : SessionState) (f : Frame) (done : Done) : Type 0 where
  pub accepted : session_fault s f ≡ None
  pub after : new ≡ connection_after old (InSession channel (event_of s f))
  pub report : done.report ≡ report_of s f
  pub answer : answer_of s f ≡ answer_said s.terms f done.answer

-- the session refused a frame, and nothing has changed
pub record IsUnframed (old new : ConnectionState) (s : SessionState) (f : Frame) (e : SessionFault) : Type 0 where
  pub refused : IsRefusal s f e
  pub same : new ≡ old

abbrev pub FrameDone : ConnectionState → ConnectionState → ℕ → SessionState → Frame → Result Done SessionFault → Type 0
FrameDone old new channel s f (Ok done) = IsFramed old new channel s f done
FrameDone old new channel s f (Err e) = IsUnframed old new s f e

-- a frame that the session refused ended it, or memory was refused and nothing has changed
abbrev pub IsRefused : {E : Type 0} → ConnectionState → ConnectionState → List ℕ → List ℕ → ℕ → SessionFault → Result (Option Event) E → Type 0
IsRefused old new before after channel e (Err x) = (ending e ≡ None) × (new ≡ old) × (after ≡ before)
IsRefused old new before after channel e (Ok told) =
    (c : Condition) × (ending e ≡ Some c) × (new ≡ connection_after old (SessionFailed channel)) × (after ≡ before ++ joined (on_channel channel (end_said (condition_span c) ∷ [])))
    × (told ≡ Some (event.Failed (scope.Session channel) c (channel_ready (slot_at old channel))))
