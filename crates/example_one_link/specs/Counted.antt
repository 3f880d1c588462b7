-- What a receiver of one link knows of its endpoint.
use Rattle.std.specs.Prelude.{◌≡◌, ℕ, ◌≤◌}
use Rattle.amqp_endpoint.specs.Steps.{EndpointState}
use Rattle.amqp_endpoint.specs.Uses.{IsUsed}

-- a receiver: its endpoint, the credit that it grants, and how many messages it got
pub record ReceiverState : Type 0 where
  pub endpoint : EndpointState
  pub credit : ℕ
  pub got : ℕ

-- Its endpoint was a new one; since then its calls granted this much at handle 0 of the session on channel 0, and took this many messages there. No more was granted than the credit.
pub record IsCounted (endpoint : EndpointState) (credit granted got : ℕ) : Type 0 where
  pub used : IsUsed endpoint.connection.config 0 0 granted got endpoint
  pub most : granted ≤ credit

-- neither its credit nor its configuration has changed
pub record IsStill (old new : ReceiverState) : Type 0 where
  pub credit : new.credit ≡ old.credit
  pub config : new.endpoint.connection.config ≡ old.endpoint.connection.config
