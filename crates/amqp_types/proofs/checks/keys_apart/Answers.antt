use Rattle.std.proofs.Common.{◌∙◌, ◌||◌, Bool, true, false, drop, ap, arith}
use Rattle.std.specs.Str.{bytes_eq}
use Rattle.amqp_types.specs.Images.{image}
use Rattle.amqp_types.specs.Values.{view, pair_views}
use Rattle.amqp_types.proofs.Equals.{keys_of, key_is_new, not_apart, one_more_behind}
use Rattle.amqp_types.proofs.ImageLaws.{small_in_hand}
use Rattle.amqp_types.proofs.Keeps.{known_key}
use Rattle.amqp_types.proofs.checks.keys_apart.Goals as goal

pub returns-then-not-branch : goal.returns-then-not-branch
returns-then-not-branch c =
    let key = c.index.result.now in
    let old = c.args.entries.now.items in
    let known = known_key (view key.0) c.loop-i.keys (keys_of (pair_views (drop c.loop-i.i old))) true _ c.in_ok-insert.ensures.new c.if-not-branch.true c.loop-i.invariant.seen in
    let small = small_in_hand (view key.0) c.in_ok-insert.ensures.ranged c.in_ok-insert.ensures.short in
    (λ e. absurd cc, λ apart. absurd (not_apart old c.loop-i.i key c.loop-i-test.true (omega (arith, c.loop-i.auto.i, c.len-i.ensures)) c.index.ensures small c.loop-i.invariant.small known apart))

pub loop-i-preserved : goal.loop-i-preserved
loop-i-preserved c =
    let key = c.index.result.now in
    let old = c.args.entries.now.items in
    let behind = one_more_behind old c.loop-i.i key c.loop-i-test.true (omega (arith, c.loop-i.auto.i, c.len-i.ensures)) c.index.ensures in
    let unknown = known_key (view key.0) c.loop-i.keys (keys_of (pair_views (drop c.loop-i.i old))) false _ c.in_ok-insert.ensures.new c.if-not-branch.false c.loop-i.invariant.seen in
    rw behind (record {
      apart = (key_is_new (view key.0) (pair_views (drop c.loop-i.i old)) unknown, c.loop-i.invariant.apart);
      small = (small_in_hand (view key.0) c.in_ok-insert.ensures.ranged c.in_ok-insert.ensures.short, c.loop-i.invariant.small);
      seen = λ octets. c.in_ok-insert.ensures.ok octets ∙ ap (λ (b : Bool). bytes_eq (image (view key.0)) octets || b) (c.loop-i.invariant.seen octets);
    })
