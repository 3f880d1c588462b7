use Rattle.std.proofs.Common.{leb, leb-true, rules}
use Rattle.std.proofs.lemmas.Bool.{leb-false}
use Rattle.std.proofs.lemmas.List.Sorted.{IsPartitionPoint-from_clause, IsPartitionedBy-leb}
use Rattle.amqp_link.proofs.Joined.{rising}
use Rattle.amqp_link.proofs.blocks.block_at.Goals as goal

pub returns-clause-before : goal.returns-clause-before
returns-clause-before g c =
    let parted = IsPartitionedBy-leb (λ block. block.end) _ c.args.at (rising 0 _ c.requires) in
    let point = IsPartitionPoint-from_clause (λ block. leb block.end c.args.at) _ _ c.partition_point.ensures.partitioned parted (λ a r q k. search rules) in
    λ k d from h. leb-true _ _ (point.0 k d from h)

pub returns-clause-behind : goal.returns-clause-behind
returns-clause-behind g c =
    let parted = IsPartitionedBy-leb (λ block. block.end) _ c.args.at (rising 0 _ c.requires) in
    let point = IsPartitionPoint-from_clause (λ block. leb block.end c.args.at) _ _ c.partition_point.ensures.partitioned parted (λ a r q k. search rules) in
    λ k d from h. leb-false _ _ (point.1 k d from h)
