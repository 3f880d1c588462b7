use Rattle.amqp_gateway.proofs.HubRuns.{tops_up}
use Rattle.amqp_gateway.proofs.peer.top_up.Goals as goal

pub returns-in-Ok-clause-ran : goal.returns-in-Ok-clause-ran
returns-in-Ok-clause-ran g c =
    let h = c.top_up_link.ensures in
    tops_up g.K.Keeper c.args.hub.now c.top_up_link.new.self h.limit h.keeper c.args.key c.args.channel c.args.handle c.args.most _ c.top_up_link.result h.granted h.refused

pub returns-in-Err-clause-ran : goal.returns-in-Err-clause-ran
returns-in-Err-clause-ran g c =
    let h = c.top_up_link.ensures in
    tops_up g.K.Keeper c.args.hub.now c.top_up_link.new.self h.limit h.keeper c.args.key c.args.channel c.args.handle c.args.most _ c.top_up_link.result h.granted h.refused
