use Rattle.amqp_gateway.proofs.HubRuns.{refuses_link}
use Rattle.amqp_gateway.proofs.peer.Peer.refuse.Goals as goal

pub returns-then-is_ok-clause-ran : goal.returns-then-is_ok-clause-ran
returns-then-is_ok-clause-ran g c =
    let h = c.refuse-refused.ensures in
    refuses_link g.K.Keeper c.args.hub.now c.refuse-refused.new.self h.limit h.keeper c.args.key c.args.channel c.args.handle _ c.refuse-refused.result h.asked h.refused

pub returns-else-is_ok-clause-ran : goal.returns-else-is_ok-clause-ran
returns-else-is_ok-clause-ran g c =
    let h = c.refuse-refused.ensures in
    refuses_link g.K.Keeper c.args.hub.now c.refuse-refused.new.self h.limit h.keeper c.args.key c.args.channel c.args.handle _ c.refuse-refused.result h.asked h.refused
