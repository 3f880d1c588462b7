-- What came of a whole connection.
use Rattle.std.specs.Prelude.{◌≡◌, []}
use Rattle.amqp_proxy.specs.declared.replays.Replay.{Replay}
use Rattle.amqp_proxy.specs.Streams.{Done, told, IsOutcome}

-- what came of a connection is what is done with its bytes
pub record HasCome (r : Replay) (d : Done) : Type 0 where
  pub standing : IsOutcome r.outcome d.standing
  pub handed : r.handed.items ≡ d.handed
  -- what the layer shows is what is shown of these bytes
  pub same : (told r.proxy []).standing ≡ d.standing
