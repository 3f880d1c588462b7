use Rattle.std.proofs.Common.{◌≤◌, ◌-◌}
use Rattle.amqp_serve.specs.Supplying.{half_rule}
use Rattle.amqp_serve.proofs.Gifts.{HasCome}
use Rattle.amqp_serve.proofs.supplying.supply_session.Given as goal

abbrev pub invariant-loop-handle : goal.invariant-loop-handle
invariant-loop-handle g l = record { within : l.handle ≤ l.handles; come : HasCome (half_rule l.credit) l.window l.handles l.channel l.fn.endpoint l.handle l.endpoint }

abbrev pub decreases-loop-handle : goal.decreases-loop-handle
decreases-loop-handle g l = l.handles - l.handle
