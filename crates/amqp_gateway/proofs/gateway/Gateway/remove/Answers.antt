use Rattle.amqp_gateway.specs.HubCalls.{tells}
use Rattle.amqp_gateway.proofs.HubRuns.{as_tells}
use Rattle.amqp_gateway.proofs.HubTurns.{hub_of, went_between}
use Rattle.amqp_gateway.proofs.gateway.Gateway.remove.Goals as goal

pub returns-clause-ran : goal.returns-clause-ran
returns-clause-ran g c = went_between g.K.Keeper tells c.args.self.now.hub c.self.inside.desk.hub c.leave.new.hub c.note_end.new.self.hub (hub_of _ c.args.self.now c.self.view_is) (as_tells g.K.Keeper c.self.inside.desk.hub c.leave.new.hub c.leave.ensures.ran) c.note_end.ensures.hub
