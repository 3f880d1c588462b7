use Rattle.std.proofs.Common.{arith, refl, ◌+◌}
use Rattle.std.proofs.lemmas.List.{length-take-le}
use Rattle.amqp_link.proofs.Settles.{none_settled, next_keys, further, rest_stays, few, little}
use Rattle.amqp_link.proofs.places.settle.Goals as goal

pub settle_at-one-requires : goal.settle_at-one-requires
settle_at-one-requires g c =
    next_keys c.args.settling c.args.slab.now c.loop-place.slab c.args.places.now c.loop-place.places c.loop-place.place-index _ _ c.loop-place-test.true c.loop-place.auto.places
    c.loop-place.invariant.done c.loop-place.invariant.rest c.requires.keys

pub overflow_add-all : goal.overflow_add-all
overflow_add-all g c =
    let done = further c.args.settling c.args.slab.now c.loop-place.slab c.settle_at-one.new.slab c.args.places.now c.loop-place.places c.loop-place.place-index c.settle_at-one.new.place _ _ _ _
    c.loop-place-test.true c.loop-place.auto.places c.loop-place.invariant.done c.loop-place.invariant.rest c.requires.keys c.settle_at-one.ensures in
    omega (arith, few _ _ _ _ _ _ _ done, length-take-le (c.loop-place.place-index + 1) c.args.places.now (omega arith))

pub overflow_add-all-in-loop-place : goal.overflow_add-all-in-loop-place
overflow_add-all-in-loop-place g c =
    let done = further c.args.settling c.args.slab.now c.loop-place.slab c.settle_at-one.new.slab c.args.places.now c.loop-place.places c.loop-place.place-index c.settle_at-one.new.place _ _ _ _
    c.loop-place-test.true c.loop-place.auto.places c.loop-place.invariant.done c.loop-place.invariant.rest c.requires.keys c.settle_at-one.ensures in
    omega (arith, little _ _ _ c.args.places.now _ _ _ _ done, c.requires.fits)

pub loop-place-init : goal.loop-place-init
loop-place-init g c = record { done = none_settled c.args.settling c.args.slab.now; rest = refl }

pub loop-place-preserved : goal.loop-place-preserved
loop-place-preserved g c = record {
  done = further c.args.settling c.args.slab.now c.loop-place.slab c.settle_at-one.new.slab c.args.places.now c.loop-place.places c.loop-place.place-index c.settle_at-one.new.place _ _ _ _
      c.loop-place-test.true c.loop-place.auto.places c.loop-place.invariant.done c.loop-place.invariant.rest c.requires.keys c.settle_at-one.ensures;
  rest = rest_stays c.args.places.now c.loop-place.places c.loop-place.place-index c.settle_at-one.new.place c.loop-place-test.true c.loop-place.auto.places c.loop-place.invariant.rest;
}
