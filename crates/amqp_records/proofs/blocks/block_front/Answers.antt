use Rattle.std.proofs.Common.{sym, ◌∙◌, subst}
use Rattle.std.proofs.lemmas.Bool.{true≢false}
use Rattle.amqp_records.specs.Blocks.{AllRecords}
use Rattle.amqp_records.proofs.BlockFronts.{part_of, front_block, none_headed, none_recorded}
use Rattle.amqp_records.proofs.blocks.block_front.Goals as goal

pub returns-then-are_records-clause-whole : goal.returns-then-are_records-clause-whole
returns-then-are_records-clause-whole c =
    let limit = c.args.max_message in
    let n = c.in-Whole.size in
    front_block limit c.args.bytes.now n (sym c.head_front.ensures.value ∙ c.in-Whole.is)
    (subst (AllRecords limit) (part_of 12 n c.args.bytes.now) (c.are_records.ensures.0 c.if-are_records.true))

pub returns-else-are_records-clause-none : goal.returns-else-are_records-clause-none
returns-else-are_records-clause-none c = λ no.
    let limit = c.args.max_message in
    let n = c.in-Whole.size in
    none_recorded limit c.args.bytes.now n (sym c.head_front.ensures.value ∙ c.in-Whole.is)
    (λ all. true≢false (sym (c.are_records.ensures.1 (subst (AllRecords limit) (sym (part_of 12 n c.args.bytes.now)) all)) ∙ c.if-are_records.false))

pub returns-in-NoBlock-clause-none : goal.returns-in-NoBlock-clause-none
returns-in-NoBlock-clause-none c = λ no. none_headed c.args.max_message c.args.bytes.now (sym c.head_front.ensures.value ∙ c.in-NoBlock.is)
