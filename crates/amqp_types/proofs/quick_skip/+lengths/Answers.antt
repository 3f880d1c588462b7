use Rattle.std.proofs.Common.{◌≡◌, ◌∷◌, ◌+◌, ◌%◌, ◌&&◌, false, eqb, refl, Ok, is_some, drop, rules, arith}
use Rattle.std.proofs.lemmas.Bool.{ne_eqb}
use Rattle.std.proofs.lemmas.List.{length-drop, take_rest}
use Rattle.amqp_types.specs.Codes.{find_code}
use Rattle.amqp_types.specs.Reading.{allowed, inside, level_by, value_by, item_by}
use Rattle.amqp_types.proofs.Walks.{goes_on, is_done}
use Rattle.amqp_types.proofs.Reaches.{described_rest, value_described, value_coded, value_on, parts_rest}
use Rattle.amqp_types.proofs.quick_skip.+lengths.Goals as goal
use Rattle.amqp_types.proofs.quick_skip.+lengths.Goals.{parts_len-else-paired-via-then-paired+else-count-eq1, parts_len-else-paired-via-else-paired}

pub described_len-returns-clause-read : goal.described_len-returns-clause-read
described_len-returns-clause-read t c = λ w at.
    let second = rw (take_rest c.args.bytes.now c.in_ok-first.first) at c.in_ok-second.ensures.read in
    described_rest (level_by (inside c.args.depth)) at w c.args.bytes.now (drop c.in_ok-first.first c.args.bytes.now) (drop (c.in_ok-first.first + c.in_ok-second.second) c.args.bytes.now)
    (c.in_ok-first.ensures.read w)
    (value_on (inside c.args.depth) w c.args.bytes.now c.in_ok-first.first c.in_ok-second.second (second w))

pub item_len-returns-in_ok-one_less-in-ListIn-clause-read : goal.item_len-returns-in_ok-one_less-in-ListIn-clause-read
unfolding item_by
item_len-returns-in_ok-one_less-in-ListIn-clause-read t c = rw (c.in-ListIn.is, c.in_ok-one_less-in-ListIn.ensures.inside) c.parts_len.ensures.read

pub item_len-returns-in_ok-one_less-in-MapIn-clause-read : goal.item_len-returns-in_ok-one_less-in-MapIn-clause-read
unfolding item_by
item_len-returns-in_ok-one_less-in-MapIn-clause-read t c = rw (c.in-MapIn.is, c.in_ok-one_less-in-MapIn.ensures.inside) c.parts_len-in-MapIn.ensures.read

pub item_len-returns-in_ok-one_less-in-ArrayIn-clause-read : goal.item_len-returns-in_ok-one_less-in-ArrayIn-clause-read
unfolding item_by
item_len-returns-in_ok-one_less-in-ArrayIn-clause-read t c = rw (c.in-ArrayIn.is, c.in_ok-one_less-in-ArrayIn.ensures.inside) c.array_len.ensures.read

pub other_len-returns-then-code-eq0-clause-read : goal.other_len-returns-then-code-eq0-clause-read
other_len-returns-then-code-eq0-clause-read t c = λ w.
    let parts : c.args.bytes.now ≡ c.in_ok-code.code.now ∷ c.in_ok-code.rest.now = search rules in
    value_described (inside c.args.depth) (level_by (inside c.in_ok-one_less.field-0)) w c.in_ok-code.code.now c.args.bytes.now c.in_ok-code.rest.now c.in_ok-described_len.field-0 parts
    c.if-code-eq0.true c.in_ok-one_less.ensures.inside (λ at. c.in_ok-described_len.ensures.read w at)

pub other_len-returns-clause-read : goal.other_len-returns-clause-read
other_len-returns-clause-read t c = λ w.
    let parts : c.args.bytes.now ≡ c.in_ok-code.code.now ∷ c.in_ok-code.rest.now = search rules in
    let found : allowed 0 (is_some (inside c.args.depth)) (find_code c.in_ok-code.code.now) ≡ Ok c.in_ok-constructor.constructor = search rules in
    value_coded (inside c.args.depth) w c.in_ok-code.code.now c.in_ok-constructor.constructor c.args.bytes.now c.in_ok-code.rest.now c.in_ok-item_len.field-0 parts found
    (c.in_ok-item_len.ensures.read w)

pub parts_len-returns-clause-read : goal.parts_len-returns-clause-read
parts_len-returns-clause-read t c = λ w.
    let even : (c.args.paired && eqb (c.in_ok-count.count % 2) 1) ≡ false = elim c.else-paired.branch [
      | parts_len-else-paired-via-then-paired+else-count-eq1 v ↦ rw v.if-paired.true
          (ne_eqb (c.in_ok-count.count % 2) 1 v.if-count-eq1.false)
      | parts_len-else-paired-via-else-paired v ↦ rw v.if-paired.false refl
    ] in
    rw c.size_len.ensures (parts_rest (level_by (inside c.args.depth)) w c.args.size c.args.bytes.now c.in_ok-count.count c.in_ok-count.parts.now c.in_ok-count.ensures c.args.paired
    c.in_ok-values_len.field-0 c.if-branch-parts.false even c.in_ok-values_len.ensures.read)

pub values_len-loop-preserved : goal.values_len-loop-preserved
values_len-loop-preserved t c =
    let one = rw (take_rest c.args.bytes.now c.loop.at) at c.in_ok-at.ensures in
    record {
      within = omega (arith, one.within, length-drop c.loop.at c.args.bytes.now, c.loop.invariant.within);
      same = λ w.
          let item = value_on (inside c.args.depth) w c.args.bytes.now c.loop.at c.in_ok-at.field-0 (one.read w) in
          goes_on (λ within. value_by (inside c.args.depth) within 0) w c.args.count c.loop.counter (drop c.loop.at c.args.bytes.now)
          (drop (c.loop.at + c.in_ok-at.field-0) c.args.bytes.now) _ c.loop-test.true item (c.loop.invariant.same w);
    }

pub values_len-returns-clause-read : goal.values_len-returns-clause-read
values_len-returns-clause-read t c =
    λ w. is_done (λ within. value_by (inside c.args.depth) within 0) w c.args.count c.loop.counter (drop c.loop.at c.args.bytes.now) _ c.loop-test.false (c.loop.invariant.same w)
