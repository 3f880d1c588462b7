use Rattle.std.proofs.Common.{ap, ◌∙◌}
use Rattle.amqp_link.specs.Links.{delivery_bytes}
use Rattle.amqp_link.specs.Keeping.{counts, delivery_of, turned}
use Rattle.amqp_link.proofs.Keys.{same_value, first_there}
use Rattle.amqp_link.proofs.Settles.{stays_open_at, goes_at, one_or_none, asked_of}
use Rattle.amqp_link.proofs.places.settle_at.Goals as goal

pub index-requires : goal.index-requires
index-requires g c = first_there c.args.slab.now c.args.place.now c.in-Some.key c.requires c.in-Some.is

pub returns-then-not-ends : goal.returns-then-not-ends
returns-then-not-ends g c =
    let same = same_value c.args.slab.now c.in-Some.key c.index_mut.result.now c.index.result.now c.index_mut.ensures.value c.index.ensures in
    stays_open_at c.args.settling c.args.slab.now c.args.place.now c.in-Some.key c.from-count.result c.index.result.now c.settle.new.self c.in-Some.is
    (first_there c.args.slab.now c.args.place.now c.in-Some.key c.requires c.in-Some.is) c.index.ensures
    (c.settle.ensures ∙ ap (λ d. turned c.args.settling (delivery_of d)) same)
    (asked_of c.args.settling c.args.slab.now c.in-Some.key c.index.result.now c.index-2.result.now c.ends.result _ c.index.ensures c.index-2.ensures c.ends.ensures c.if-not-ends.true)
    (one_or_none c.from-count.result c.counts.result (counts c.args.settling (delivery_of c.index.result.now)) c.from-count.ensures c.counts.ensures)

pub returns : goal.returns
returns g c =
    let same = same_value c.args.slab.now c.in-Some.key c.remove.result c.index.result.now c.remove.ensures.value c.index.ensures in
    goes_at c.args.settling c.args.slab.now c.remove.new.self c.args.place.now c.in-Some.key c.from-count.result c.bytes-freed.result c.index.result.now c.in-Some.is c.index.ensures
    c.remove.ensures.updates c.remove.ensures.len
    (asked_of c.args.settling c.args.slab.now c.in-Some.key c.index.result.now c.index-2.result.now c.ends.result _ c.index.ensures c.index-2.ensures c.ends.ensures c.if-not-ends.false)
    (one_or_none c.from-count.result c.counts.result (counts c.args.settling (delivery_of c.index.result.now)) c.from-count.ensures c.counts.ensures)
    (c.bytes-freed.ensures ∙ ap (λ d. delivery_bytes (delivery_of d)) same)
