use Rattle.std.proofs.Common.{drop, ◌∙◌}
use Rattle.std.proofs.lemmas.List.{drop-drop}
use Rattle.wuleshomia.proofs.ReadLemmas.{preserved}
use Rattle.wuleshomia.proofs.messages.read.Goals as goal

pub loop-count-preserved : goal.loop-count-preserved
loop-count-preserved c =
    let inv = c.loop-count.invariant in
    let n = c.loop-count.count in
    let p = c.piece.result.now in
    let front = c.piece.ensures.front in
    preserved (drop c.args.at c.args.message.now) p front.0 c.args.room.now _ _ n c.put-count.result inv.0 inv.1 inv.2 (drop-drop n c.args.at c.args.message.now ∙ front.1) c.put-count.ensures.count c.put-count.ensures.bytes
