use Rattle.std.proofs.Common.{◌+◌, length, ap, ◌∙◌, arith}
use borrow.Rule.Slice.PartMut.{drop_put}
use Rattle.amqp_types.proofs.putter.write_at.Goals as goal

pub returns-clause-behind : goal.returns-clause-behind
returns-clause-behind c = drop_put c.args.at (c.args.at + length c.args.bytes.now) c.args.out.now c.copy_from_slice.new.self (omega arith) c.requires
    (ap length c.copy_from_slice.ensures.after ∙ omega arith)
