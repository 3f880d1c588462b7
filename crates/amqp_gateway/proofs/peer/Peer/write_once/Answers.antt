use Rattle.std.proofs.Common.{refl, arith, ◌≢◌, []}
use Rattle.std.proofs.lemmas.Grind.{common_steps}
use Rattle.slab.specs.Slab.{get}
use Rattle.amqp_gateway.specs.HubCalls.{tells}
use Rattle.amqp_gateway.proofs.HubRuns.{sends, lent, due_of_lent}
use Rattle.amqp_gateway.proofs.peer.Peer.write_once.Goals as goal

pub returns-clause-ran : goal.returns-clause-ran
returns-clause-ran g c =
    let some : c.lend-front.result.now ≢ [] = grind (arith, common_steps, c.is_empty.ensures, c.if-is_empty.false) in
    let settled = lent (g.K.Keeper.settled c.args.hub.now.keeper) (get c.args.hub.now.members c.in-Some.key) c.lend-front.result.now c.lend-front.ensures some in
    let due = due_of_lent (g.K.Keeper.settled c.args.hub.now.keeper) (get c.args.hub.now.members c.in-Some.key) c.lend-front.result.now c.in_ok-count.count c.lend-front.ensures some (omega (arith, c.in_ok-count.ensures.bound)) in
    sends g.K.Keeper tells c.args.hub.now c.sent.new.self c.sent.ensures.limit c.sent.ensures.keeper c.in-Some.key c.in_ok-count.count refl settled due c.sent.ensures.sent
