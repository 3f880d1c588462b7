-- What a keeper of records was given, and what it has taken for good.
use Rattle.std.specs.Prelude.{◌≡◌, ◌↔◌, ℕ, Bool, true, List, [], ◌∷◌, ◌++◌, Option, Some, None, option_map, Result, Ok, Err}
use Rattle.amqp_endpoint.specs.Steps.{EndpointState}
use Rattle.amqp_endpoint.specs.declared.event.Event.TheVariants as event
use Rattle.amqp_endpoint.specs.declared.event.Outcome.{Outcome}
use Rattle.amqp_endpoint.specs.declared.event.Outcome.TheVariants as outcome
use Rattle.amqp_serve.specs.declared.serving.ServeFault.{ServeFault}
use Rattle.amqp_serve.specs.declared.steps.Done.{Done}
use Rattle.amqp_serve.specs.declared.steps.Received.{Received}
use Rattle.amqp_serve.specs.declared.steps.Stepped.{Stepped}
use Rattle.amqp_serve.specs.Deeds.{message_in}
use Rattle.amqp_hub.specs.declared.keeper.Origin.{Origin}
use Rattle.amqp_hub.specs.declared.keeper.Progress.{Progress}
use Rattle.amqp_hub.specs.declared.keeper.Progress.TheVariants as progress

-- a record, and where it came from
pub record Entry : Type 0 where
  pub origin : Origin
  pub bytes : List ℕ

abbrev pub one_entry : Origin → List ℕ → List Entry
one_entry origin bytes = record { origin = origin; bytes = bytes } ∷ []

-- Where the record of a step came from: the connection of this number, the link on which the step tells that a message is ready, and the message that its receipt tells of [2.6.14]. A step that tells of
-- no message made no record.
abbrev pub origin_told : ℕ → Option Received → Outcome → Option Origin
origin_told number None told = None
origin_told number (Some m) (outcome.Event (event.Ready channel handle)) = Some (record { number = number; channel = channel; handle = handle; delivery_tag = m.delivery_tag })
origin_told number (Some m) told = None

abbrev pub received_in : Result Done ServeFault → Option Received
received_in (Ok d) = message_in d.receipt
received_in (Err f) = None

abbrev pub origin_of : ℕ → Stepped → Option Origin
origin_of number s = origin_told number (received_in s.done) s.told

-- these after those that were there
abbrev pub with_entries : List Entry → Option (List Entry) → Option (List Entry)
with_entries more all = option_map (λ l. l ++ more) all

-- none of them went, and none came between them
abbrev pub Grows : Option (List Entry) → Option (List Entry) → Type 0
Grows old new = (more : List Entry) × (new ≡ with_entries more old)

-- it has these more, and took none for good
pub record IsMore (more : List Entry) (puts put taken took : Option (List Entry)) : Type 0 where
  pub grown : put ≡ with_entries more puts
  pub still : took ≡ taken

-- It has those that it had, and may have taken some for good. If it came to the end this holds of it; it came to nothing exactly if its device has failed.
pub record HasCome (p : Progress) (puts put taken took : Option (List Entry)) (done broken : Bool) : Type 0 where
  pub same : put ≡ puts
  pub grows : Grows taken took
  pub out : p ≡ progress.Out → done ≡ true
  pub failed : (p ≡ progress.Failed) ↔ (broken ≡ true)

-- What a step recorded is given to it, if it made a record, as one that came to this endpoint.
abbrev pub Given : {K : Type 0} → (K → Origin → EndpointState → List ℕ → K → Type 0) → Option Origin → Option EndpointState → List ℕ → K → K → Type 0
Given accepts None endpoint noted old new = new ≡ old
Given accepts (Some origin) None noted old new = ⊥
Given accepts (Some origin) (Some endpoint) noted old new = accepts old origin endpoint noted new
