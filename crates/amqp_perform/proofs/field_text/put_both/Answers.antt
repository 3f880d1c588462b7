use Rattle.std.proofs.Common.{ℕ, subst}
use Rattle.amqp_perform.specs.Frames.{Writes}
use Rattle.amqp_perform.proofs.Writings.{writes-writes}
use Rattle.amqp_perform.proofs.field_text.put_both.Goals as goal

pub returns-clause-written : goal.returns-clause-written
returns-clause-written c =
    writes-writes c.args.at c.args.first.now c.args.second.now c.args.out.now c.put-end.new.out c.put.new.out c.requires c.put-end.ensures.written
    (subst (λ (n : ℕ). Writes n c.args.second.now c.put-end.new.out c.put.new.out) c.put-end.ensures.behind c.put.ensures.written)
