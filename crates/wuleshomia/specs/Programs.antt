-- What a program does with one handle, from one moment to another: calls of its endpoint.
use Rattle.std.specs.Prelude.{◌≡◌, ℕ, List, [], ◌∷◌, ◌++◌}
use Rattle.amqp_session.specs.Calls.{Take}
use Rattle.amqp_endpoint.specs.Configs.{Configured}
use Rattle.amqp_endpoint.specs.declared.fault.CallFault.{CallFault}
use Rattle.amqp_endpoint.specs.Runs.{Call, InSession, Answer, Refused, Run}
use Rattle.amqp_endpoint.specs.Steps.{EndpointState, IsKept}
use Rattle.amqp_endpoint.specs.Traces.{IsWholeRun}
use Rattle.amqp_serve.specs.declared.rules.Rule.{Rule}
use Rattle.amqp_serve.specs.Serving as by
use Rattle.amqp_serve.specs.Serving.{Stand, Step, calls_of, answers_of, top_up_by}
use Rattle.amqp_serve.specs.Supplying.{GaveAll, GaveSome, lack_by}
use Rattle.amqp_serve.specs.declared.supplies.Supply.{Supply}
use Rattle.wuleshomia.specs.declared.data.TakenReport.{TakenReport}
use Rattle.wuleshomia.specs.declared.held.Held.{Held}
use Rattle.wuleshomia.specs.Exports.{Makes, IsTaken, bytes_in, handed_at}

-- These exports, of which each meets its contract, make these calls with these answers.
pub data Exports : Held → List Call → List Answer → Held → Type 0 where
  Ends : {s : Held} → Exports s [] [] s
  -- a call of the endpoint
  Calls : {s last : Held} {calls : List Call} {answers : List Answer} (next : Held) (call : Call) (answer : Answer)
      → Makes call answer s next → Exports next calls answers last → Exports s (call ∷ calls) (answer ∷ answers) last
  -- a message is taken
  Takes : {s last : Held} {calls : List Call} {answers : List Answer} (next : Held) (channel handle : ℕ) (t : TakenReport)
      → IsTaken channel handle t s next → Exports next calls answers last
      → Exports s (InSession channel (Take handle) ∷ calls) (handed_at t (bytes_in next.message) ∷ answers) last
  -- a session and its links are given what they lack
  TopsUp : {s last : Held} {calls : List Call} {answers : List Answer} (next : Held) (r : Rule) (window : ℕ) (supplies : List Supply)
      → (x : GaveAll r window supplies s.endpoint next.endpoint) → Exports next calls answers last
      → Exports s (calls_of x.steps ++ calls) (answers_of x.steps ++ answers) last
  -- one of them is refused it, after those before it were given it
  TopsUpTo : {s last : Held} {calls : List Call} {answers : List Answer} (next : Held) (r : Rule) (window : ℕ) (supplies : List Supply) (f : CallFault)
      → (x : GaveSome r window supplies f s.endpoint next.endpoint) → Exports next calls answers last
      → Exports s (calls_of x.steps ++ top_up_by x.supply (lack_by r window x.last.connection x.supply) ∷ calls) (answers_of x.steps ++ Refused f ∷ answers) last
  -- the endpoint is looked at alone, or no session is live to be given anything, or bytes that wait for C are read, moved out or given back
  Reads : {s last : Held} {calls : List Call} {answers : List Answer} (next : Held)
      → next.endpoint ≡ s.endpoint → Exports next calls answers last → Exports s calls answers last
  -- a step is served, whatever it results in: these are the calls of its rule, and what they leave is held then, except bytes of the buffer that do not
  -- count
  Serves : {s last : Held} {calls : List Call} {answers : List Answer} (next : Held) (r : Rule) (a b : Stand) (steps : List Step) (left : EndpointState)
      → by.Serves r a s.endpoint steps b left → IsKept left next.endpoint → Exports next calls answers last
      → Exports s (calls_of steps ++ calls) (answers_of steps ++ answers) last

-- These calls with these answers lead an endpoint to this state, except bytes of its buffer that do not count.
pub record IsRunTo (s : EndpointState) (calls : List Call) (answers : List Answer) (t : EndpointState) : Type 0 where
  pub last : EndpointState
  pub run : Run s calls answers last
  pub same : IsKept last t

-- And they have one history, of which the theorem over runs speaks.
pub record IsProgram (config : Configured) (calls : List Call) (answers : List Answer) (t : EndpointState) : Type 0 where
  pub last : EndpointState
  pub whole : IsWholeRun config calls answers last
  pub same : IsKept last t
