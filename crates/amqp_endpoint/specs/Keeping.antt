-- How a connection is stored: a place for each channel that is offered.
use Rattle.std.specs.Prelude.{◌≡◌, ◌<◌, ◌≤◌, Bool, List, length, Option}
use Rattle.amqp_session.specs.declared.slot.Slot.{Slot}
use Rattle.amqp_session.specs.Sessions.{SessionState}
use Rattle.amqp_endpoint.specs.declared.phase.Phase.{Phase}
use Rattle.amqp_endpoint.specs.declared.introduction.Introduction.{Introduction}
use Rattle.amqp_endpoint.specs.Configs.{Configured}
use Rattle.amqp_endpoint.specs.Connections.{ConnectionState, channels, channel_limit}

abbrev pub connection_of : Configured → Phase → Bool → Bool → Option Introduction → List (Slot SessionState) → ConnectionState
connection_of config phase failed closed peer sessions = record { config = config; phase = phase; failed = failed; closed = closed; peer = peer; sessions = sessions }

-- there is a place for each channel that is offered, and frames are taken on no other
pub record IsPlaced (config : Configured) (phase : Phase) (sessions : List (Slot SessionState)) : Type 0 where
  pub long : length sessions ≡ channels config
  pub limit : channel_limit phase ≤ config.channel_max
  pub few : config.channel_max < 256
