use Rattle.std.proofs.Common.{◌++◌, length, drop, replicate, ap, ◌∙◌}
use Rattle.std.proofs.lemmas.List.{drop-replicate}
use Rattle.wuleshomia.proofs.messages.padded.Goals as goal

pub returns : goal.returns
returns c =
    let tag = c.args.tag.now in
    ap (λ l. l ++ drop (length tag) (replicate 32 0)) c.copy_from_slice.ensures.after ∙ ap (λ l. tag ++ l) (drop-replicate (length tag) 32 0)
