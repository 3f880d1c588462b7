use Rattle.std.proofs.Common.{◌∙◌}
use Rattle.amqp_session.specs.Indexes.{found}
use Rattle.amqp_session.proofs.Lookups.{gone_next}
use Rattle.amqp_session.proofs.index.Index.forget_link.Goals as goal

pub loop-id-preserved : goal.loop-id-preserved
loop-id-preserved g c = λ q.
    gone_next c.loop-id.ids c.next.new.self c.in-Some-next.id q (found c.loop-id.self q) (found c.remove.new.self q) c.in-Some-next.ensures.some (c.remove.ensures q) ∙ c.loop-id.invariant q
