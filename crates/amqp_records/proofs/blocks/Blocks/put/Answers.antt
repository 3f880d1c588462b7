use Rattle.std.proofs.Common.{ap, sym, ◌∙◌}
use Rattle.amqp_records.specs.Blocks.{BlocksState}
use Rattle.amqp_records.proofs.BlockTexts.{on_both, put_behind}
use Rattle.amqp_records.proofs.blocks.Blocks.put.Goals as goal

pub returns-in-Some-clause-put : goal.returns-in-Some-clause-put
returns-in-Some-clause-put g c = λ blocks are.
    on_both c.put_behind.result c.put_behind.ensures.bytes c.put_behind.ensures.last
    (λ bytes last. put_behind c.args.self.now c.put_behind.new.self c.args.number c.args.records.now c.in-Some.last blocks are
    (sym (ap (λ (s : BlocksState). s.last) c.self.view_is) ∙ c.in-Some.is) (sym c.goes_on.ensures.value ∙ c.if-goes_on.true) bytes last)
