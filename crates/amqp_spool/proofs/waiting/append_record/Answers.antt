use Rattle.std.proofs.Common.{◌≡◌, ◌++◌, ◌∷◌, [], length, ◌∙◌}
use Rattle.std.specs.Int.{w32, to_be_bytes}
use Rattle.amqp_spool.proofs.Puttings.{record_written}
use Rattle.amqp_spool.proofs.waiting.append_record.Goals as goal

pub returns-clause-appended : goal.returns-clause-appended
returns-clause-appended c =
    let o = c.args.out.now.items in
    let told = c.args.told.now in
    let tag = c.args.tag.now in
    let bytes = c.args.bytes.now in
    let link = c.args.link in
    let filled : c.fill-6.new.out.items ≡ o ++ told ++ 2 ∷ [] ++ to_be_bytes w32 link ++ length tag ∷ [] ++ tag ++ bytes =
    cc (c.reserve.ensures.items, c.fill.ensures.items, c.fill-2.ensures.items, c.to_be_bytes.ensures, c.fill-3.ensures.items, c.fill-4.ensures.items, c.fill-5.ensures.items, c.fill-6.ensures.items) in
    filled ∙ record_written o told tag bytes link
