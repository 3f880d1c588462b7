use Rattle.std.proofs.Common.{◌+◌, drop, arith}
use Rattle.std.proofs.lemmas.List.{length-drop, take_rest}
use Rattle.amqp_types.specs.declared.code.Constructor.TheVariants.{Variable}
use Rattle.amqp_types.specs.Reading.{item_by}
use Rattle.amqp_types.proofs.Walks.{goes_on, is_done}
use Rattle.amqp_types.proofs.Reaches.{octets_item}
use Rattle.amqp_types.proofs.quick_skip.octets_items_len.Goals as goal

pub loop-preserved : goal.loop-preserved
loop-preserved c =
    let one = rw (take_rest c.args.bytes.now c.loop.at) at c.in_ok-at.ensures in
    record {
      within = omega (arith, one.within, length-drop c.loop.at c.args.bytes.now, c.loop.invariant.within);
      same = λ inner w.
          let item = octets_item inner w c.args.kind c.args.size c.args.bytes.now c.loop.at c.in_ok-at.field-0 (one.read w) in
          goes_on (item_by inner (Variable c.args.kind c.args.size)) w c.args.count c.loop.counter (drop c.loop.at c.args.bytes.now)
          (drop (c.loop.at + c.in_ok-at.field-0) c.args.bytes.now) _ c.loop-test.true item (c.loop.invariant.same inner w);
    }

pub returns-clause-read : goal.returns-clause-read
returns-clause-read c = λ inner w. is_done (item_by inner (Variable c.args.kind c.args.size)) w c.args.count c.loop.counter (drop c.loop.at c.args.bytes.now) _ c.loop-test.false
    (c.loop.invariant.same inner w)
