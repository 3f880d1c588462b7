-- What a host asks of a server for a link between two steps: the call that is made, and how its answer goes out (AMQP 1.0, part 2, sections 2.6.5 and 2.6.7).
use Rattle.std.specs.Prelude.{◌≡◌, ℕ, zero, suc, List, [], ◌++◌, Option, Some, None, Result, Ok, Err, IfOk}
use Rattle.std.specs.Io.KnownBytes.{Appends, Keeps}
use Rattle.amqp_frame.specs.Splits.{IsUnchanged}
use Rattle.amqp_session.specs.Calls as session
use Rattle.amqp_session.specs.Calls.{Grant}
use Rattle.amqp_endpoint.specs.Calls.{call_fault, call_event, call_spoken}
use Rattle.amqp_endpoint.specs.Connections.{connection_after}
use Rattle.amqp_endpoint.specs.Replies.{joined}
use Rattle.amqp_endpoint.specs.Steps.{EndpointState, IsKept}
use Rattle.amqp_serve.specs.declared.links.LinkFault.{LinkFault}
use Rattle.amqp_serve.specs.declared.links.LinkFault.TheVariants as refused
use Rattle.amqp_serve.specs.declared.server.Status.{Status}
use Rattle.amqp_serve.specs.declared.server.Status.TheVariants as status
use Rattle.amqp_serve.specs.declared.serving.ServeFault.{ServeFault}
use Rattle.amqp_serve.specs.Deeds.{Ends, AreOpen, IsOfEnds, IsMarked}

-- It accepted this call, where no answer waited. The bytes that came and are not acted upon stayed as they were.
pub record IsCalled (channel : ℕ) (c : session.Call) (old new : EndpointState) : Type 0 where
  pub accepted : call_fault old.connection [] channel c ≡ None
  pub input : IsUnchanged old.input new.input
  pub connection : new.connection ≡ connection_after old.connection (call_event old.connection channel c)

-- The answer went to the writer, and nothing to the sink. Nothing waits, and neither device failed.
pub record IsSaid (answer : List ℕ) (new : EndpointState) (e f : Ends) : Type 0 where
  pub sent : new.unsent ≡ []
  pub written : Appends e.writer f.writer answer
  pub recorded : Keeps e.sink f.sink
  pub still : AreOpen f

-- A device failed. A beginning of the answer went to the writer, and the rest of it waits.
pub record IsCutOff (x : ServeFault) (answer : List ℕ) (new : EndpointState) (e f : Ends) : Type 0 where
  pub which : IsOfEnds x
  pub begun : List ℕ
  pub whole : answer ≡ begun ++ new.unsent
  pub written : Appends e.writer f.writer begun
  pub recorded : Keeps e.sink f.sink
  pub marked : IsMarked x f

-- what waited was to go out, and nothing else changed
pub record IsStill (old new : EndpointState) : Type 0 where
  pub input : IsUnchanged old.input new.input
  pub connection : new.connection ≡ old.connection

abbrev pub GoesOut : Result (Unit {0}) LinkFault → EndpointState → EndpointState → Ends → Ends → Type 0
GoesOut (Ok x) old new e f = IsStill old new × IsSaid old.unsent new e f
GoesOut (Err refused.Over) old new e f = ⊥
GoesOut (Err (refused.Call x)) old new e f = ⊥
GoesOut (Err (refused.Lost x)) old new e f = IsStill old new × IsCutOff x old.unsent new e f

-- what a call for the session on a channel came to
abbrev pub Says : {X : Type 0} → Result X LinkFault → ℕ → session.Call → EndpointState → EndpointState → Ends → Ends → Type 0
Says (Ok x) channel c old new e f = IsCalled channel c old new × IsSaid (joined (call_spoken old.connection channel c)) new e f
Says (Err refused.Over) channel c old new e f = ⊥
Says (Err (refused.Call x)) channel c old new e f = (call_fault old.connection [] channel c ≡ Some x) × IsKept old new × (f ≡ e)
Says (Err (refused.Lost x)) channel c old new e f = IsCalled channel c old new × IsCutOff x (joined (call_spoken old.connection channel c)) new e f

-- A link that lacks so much credit was granted that, or nothing was done.
abbrev pub TopsUp : ℕ → Result ℕ LinkFault → ℕ → ℕ → EndpointState → EndpointState → Ends → Ends → Type 0
TopsUp zero r channel handle old new e f = (r ≡ Ok 0) × (new ≡ old) × (f ≡ e)
TopsUp (suc n) r channel handle old new e f = Says r channel (Grant handle (suc n)) old new e f × IfOk r (λ k. k ≡ suc n)

-- the status of a server after that: it hears nothing any more if a device failed
abbrev pub status_behind : {X : Type 0} → Status → Result X LinkFault → Status
status_behind before (Ok x) = before
status_behind before (Err refused.Over) = before
status_behind before (Err (refused.Call x)) = before
status_behind before (Err (refused.Lost x)) = status.Lost x
