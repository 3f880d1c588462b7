-- What is kept true of a server, call by call.
use Rattle.std.specs.Prelude.{◌≡◌, ℕ, ◌≤◌, ◌⊎◌, Bool, true, false, List, [], ◌++◌, length, take, None}
use Rattle.amqp_frame.specs.Units.{due_behind}
use Rattle.amqp_frame.specs.declared.units.Stage.TheVariants.{Header}
use Rattle.amqp_endpoint.specs.declared.event.End.{End}
use Rattle.amqp_endpoint.specs.declared.event.Outcome.{Outcome}
use Rattle.amqp_endpoint.specs.Calls.{open_call_fault}
use Rattle.amqp_endpoint.specs.Configs.{Configured, IsConfigured}
use Rattle.amqp_endpoint.specs.Connections.{is_dead}
use Rattle.amqp_endpoint.specs.Held.{held}
use Rattle.amqp_endpoint.specs.Runs.{IsStart}
use Rattle.amqp_endpoint.specs.Steps.{EndpointState}
use Rattle.amqp_endpoint.specs.Uses.{IsUsed, held_by_any}
use Rattle.amqp_serve.specs.declared.rules.Rule.{Rule}
use Rattle.amqp_serve.specs.declared.server.Status.{Status}
use Rattle.amqp_serve.specs.declared.server.Status.TheVariants as status
use Rattle.amqp_serve.specs.declared.serving.ServeFault.TheVariants as fault
use Rattle.amqp_serve.specs.declared.steps.Done.{Done}
use Rattle.amqp_serve.specs.Deeds.{Ends, HasStepped, HasStopped}
use Rattle.amqp_serve.specs.Lives.{Life, ByPeer, BySelf, new_life, heard_on, starved_on, told_on, ended_on, ended_units, IsToldBut, IsAlone, IsOver, IsOpen, IsNotOpen}
use Rattle.amqp_serve.specs.Rooms.{answers_room, record_room}
use Rattle.amqp_serve.specs.Servers.{ServerState, hears, IsSame, IsFinishedSo, IsClosed, IsSent}
use Rattle.amqp_serve.specs.Serving.{moved, recorded}

-- some calls led a new endpoint of this configuration to this state
pub record IsInUse (config : Configured) (s : EndpointState) : Type 0 where
  pub granted : ℕ
  pub messages : ℕ
  pub is : IsUsed config 0 0 granted messages s

-- All that the steps made was written and recorded. The connection is as they made it, and the buffer holds the rest and what is untried.
pub record IsServing (config : Configured) (l : Life) (s : EndpointState) : Type 0 where
  pub is : IsToldBut config l []
  pub connection : s.connection ≡ is.made.connection
  pub limit : s.input.limit ≡ config.max_frame
  pub stage : s.input.stage ≡ due_behind Header (ended_units is.is.effects)
  pub filled : s.input.filled ≡ is.is.rest ++ l.untried
  pub left : (s.input.filled ≡ []) ⊎ (is_dead s.connection.phase ≡ false)
  pub alive : l.starved ≡ true → is_dead s.connection.phase ≡ false
  pub sent : s.unsent ≡ []

abbrev pub status_of : Bool → Status
status_of false = status.Serving
status_of true = status.Starved

-- this is its life so far, and it goes on
pub record IsGoing (config : Configured) (l : Life) (m : ServerState) : Type 0 where
  pub goes_on : l.ended ≡ None
  pub status : m.status ≡ status_of l.starved
  pub serving : IsServing config l m.endpoint

-- or it has ended
pub record IsOff (config : Configured) (l : Life) (m : ServerState) : Type 0 where
  pub ended : l.ended ≡ None → ⊥
  pub status : m.status ≡ status.Ended
  pub is : IsToldBut config l m.endpoint.unsent

pub record IsLife (config : Configured) (l : Life) (m : ServerState) : Type 0 where
  pub used : IsInUse config m.endpoint
  pub due : length m.endpoint.unsent ≡ l.due
  pub goes : IsGoing config l m ⊎ IsOff config l m

-- That it is so. ------------------------------------------------------------------------------------------------------

-- A life begins, and goes on with what a call does, whatever the rule of each step. The answers to one step are bounded, and its record.
pub record LifeGoesOn (config : Configured) : Type 0 where
  pub starts : (m : ServerState) → IsConfigured config.container_id config.max_frame config.window → IsStart config m.endpoint → m.status ≡ status.Serving → IsLife config new_life m
  pub steps : (l : Life) (a b : ServerState) (r : Rule) (bytes : List ℕ) (told : Outcome) (d : Done) (e f : Ends) → hears a.status ≡ true → (x : HasStepped r told d bytes a.endpoint b.endpoint e f) →
      b.status ≡ status.Serving → IsLife config l a →
      IsLife config (heard_on l r bytes (moved x.served.steps) (recorded x.served.steps)) b × (length (moved x.served.steps) ≤ answers_room config) × (length (recorded x.served.steps) ≤ record_room config)
  pub starves : (l : Life) (a b : ServerState) (r : Rule) (bytes : List ℕ) (e f : Ends) → hears a.status ≡ true → HasStopped r fault.NoMemory bytes a.endpoint b.endpoint e f →
      b.status ≡ status.Starved → IsLife config l a → IsLife config (starved_on l bytes) b
  pub stays : (l : Life) (a b : ServerState) → IsSame a b → IsLife config l a → IsLife config l b
  pub finishes : (l : Life) (a b : ServerState) (how : End) → IsFinishedSo a b how → IsLife config l a → IsLife config (ended_on l (ByPeer how)) b
  pub closes : (l : Life) (a b : ServerState) → IsClosed a b → IsLife config l a → IsLife config (ended_on l BySelf) b
  pub hands : (l : Life) (a b : ServerState) (bytes : List ℕ) → IsSent a b (length bytes) → bytes ≡ take (length bytes) a.endpoint.unsent → IsLife config l a → IsLife config (told_on l bytes) b

-- A life is what its own calls alone give, and these say whether the connection is over, and whether it is open. What the endpoint holds is bounded.
pub record LifeIsAlone (config : Configured) : Type 0 where
  pub alone : (l : Life) (m : ServerState) → IsLife config l m → IsAlone config l
  pub over : (l : Life) (m : ServerState) → IsLife config l m → l.ended ≡ None → is_dead m.endpoint.connection.phase ≡ true → IsOver config l
  pub opened : (l : Life) (m : ServerState) → IsLife config l m → l.ended ≡ None → open_call_fault m.endpoint.connection [] ≡ None → IsOpen config l
  pub unopened : (l : Life) (m : ServerState) → IsLife config l m → l.ended ≡ None → (open_call_fault m.endpoint.connection [] ≡ None → ⊥) → IsNotOpen config l
  pub held : (l : Life) (m : ServerState) → IsLife config l m → held m.endpoint ≤ held_by_any config
