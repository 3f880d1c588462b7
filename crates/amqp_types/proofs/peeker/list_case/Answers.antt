use Rattle.amqp_types.specs.declared.code.Constructor.TheVariants.{ListIn}
use Rattle.amqp_types.proofs.Peeks.{behind, no_block_err, no_count_err, list_case}
use Rattle.amqp_types.proofs.peeker.list_case.Goals as goal

pub returns-in_err-block : goal.returns-in_err-block
returns-in_err-block c = λ t code data_ rest found_code spelled parts. absurd (no_block_err c.args.w c.args.size c.args.bytes.now _
    (rw c.size_len.ensures at c.in_err-block.ensures.read) t data_ rest (behind (ListIn c.args.size) t code data_ found_code spelled) parts)

pub returns-in_err-count : goal.returns-in_err-count
returns-in_err-count c = λ t code data_ rest found_code spelled parts. absurd (no_count_err c.args.w c.args.size c.args.bytes.now _ _
    (rw c.size_len.ensures at c.in_ok-block.ensures.read) c.in_err-count.ensures.read t data_ rest (behind (ListIn c.args.size) t code data_ found_code spelled) parts)

pub returns : goal.returns
returns c = λ t code data_ rest found_code spelled parts.
    list_case c.args.w c.args.size c.args.bytes.now _ c.in_ok-count.count c.in_ok-count.items.now (rw c.size_len.ensures at c.in_ok-block.ensures.read) c.in_ok-count.ensures.read t code data_ rest
    (behind (ListIn c.args.size) t code data_ found_code spelled) parts
