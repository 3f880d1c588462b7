-- Serving that goes on after memory was refused.
use Rattle.std.specs.Prelude.{ℕ, List, [], ◌++◌, Option}
use Rattle.amqp_endpoint.specs.Steps.{EndpointState}
use Rattle.amqp_serve.specs.declared.rules.Rule.{Rule}
use Rattle.amqp_serve.specs.declared.serving.ServeFault.TheVariants as fault
use Rattle.amqp_serve.specs.Serving.{reading, Step, BrokeOff}

-- Serving broke off as memory was refused, any number of times, and went on each time from where it was left. These are all its steps, the state of the endpoint now, and
-- what the writer and the sink hold.
pub data Interrupted : Rule → EndpointState → Option (List ℕ) → Option (List ℕ) → List Step → EndpointState → Option (List ℕ) → Option (List ℕ) → Type 0 where
  Never : {p : Rule} {old : EndpointState} {held kept : Option (List ℕ)} → Interrupted p old held kept [] old held kept
  Again : {p : Rule} {old mid : EndpointState} {held now kept keeps : Option (List ℕ)} {steps : List Step} (bytes : List ℕ) (new : EndpointState) (last lasts : Option (List ℕ))
      → Interrupted p old held kept steps mid now keeps → (x : BrokeOff p fault.NoMemory reading bytes mid new now last keeps lasts)
      → Interrupted p old held kept (steps ++ x.steps) new last lasts
