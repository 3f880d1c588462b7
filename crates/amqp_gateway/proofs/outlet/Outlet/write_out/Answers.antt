use Rattle.std.proofs.Common.{◌∙◌}
use Rattle.amqp_gateway.proofs.Outs.{on_and_on}
use Rattle.amqp_gateway.proofs.outlet.Outlet.write_out.Goals as goal

pub returns-in-Some-clause-went : goal.returns-in-Some-clause-went
returns-in-Some-clause-went g c = on_and_on c.args.self.now c.loop.self c.write_once.new.self c.loop.invariant.went c.write_once.ensures.went

pub loop-preserved : goal.loop-preserved
loop-preserved g c = record { goes_on = c.write_once.ensures.goes_on c.in-None.is; went = on_and_on c.args.self.now c.loop.self c.write_once.new.self c.loop.invariant.went c.write_once.ensures.went; blocks = c.write_once.ensures.same c.in-None.is ∙ c.loop.invariant.blocks; syncs = c.write_once.ensures.syncs ∙ c.loop.invariant.syncs }
