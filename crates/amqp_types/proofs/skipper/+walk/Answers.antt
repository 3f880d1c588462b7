use Rattle.std.proofs.Common.{◌≡◌, ◌∙◌, [], ◌∷◌, ◌-◌, length, refl, sym, ap, rules, arith, Ok, Err}
use Rattle.std.proofs.lemmas.Result.{err_from_is_err_and}
use Rattle.std.proofs.lemmas.List.{nil_from_length}
use Rattle.amqp_types.specs.Reading.{value_by, item_by, level_by, inside}
use Rattle.amqp_types.proofs.Walks.{goes_on, ends, is_done, stays, still_item, head_nil, head_out, head_code, head_more, head_err, map_after, array_after}
use Rattle.amqp_types.proofs.skipper.+walk.Goals as goal

pub skip_array-returns-in_err-ended-clause-read : goal.skip_array-returns-in_err-ended-clause-read
skip_array-returns-in_err-ended-clause-read t c =
    let p = err_from_is_err_and c.from_residual-in_err-ended.result c.from_residual-in_err-ended.ensures.1 in
    rw (
      p.1,
      p.2,
      array_after (level_by (inside c.args.depth)) c.args.w c.args.size c.args.bytes.now _ c.in_ok-count.count c.in_ok-count.head.now c.in_ok-constructor.constructor c.in_ok-constructor.items.now
          (Ok c.in_ok-rest.rest.now)
          (rw c.size_len.ensures at c.in_ok-block.ensures.read) c.in_ok-count.ensures.read c.in_ok-constructor.ensures.read c.in_ok-rest.ensures.read,
    ) (search rules)

pub skip_array-returns-clause-read : goal.skip_array-returns-clause-read
skip_array-returns-clause-read t c =
    rw (array_after (level_by (inside c.args.depth)) c.args.w c.args.size c.args.bytes.now _ c.in_ok-count.count c.in_ok-count.head.now c.in_ok-constructor.constructor c.in_ok-constructor.items.now
    (Ok c.in_ok-rest.rest.now)
    (rw c.size_len.ensures at c.in_ok-block.ensures.read) c.in_ok-count.ensures.read c.in_ok-constructor.ensures.read c.in_ok-rest.ensures.read) (search rules)

pub skip_map-returns-in_err-rest-clause-read : goal.skip_map-returns-in_err-rest-clause-read
skip_map-returns-in_err-rest-clause-read t c =
    let p = err_from_is_err_and c.from_residual-in_err-rest.result c.from_residual-in_err-rest.ensures.1 in
    rw (
      p.1,
      p.2,
      map_after (level_by (inside c.args.depth)) c.args.w c.args.size c.args.bytes.now _ c.in_ok-count.count c.in_ok-count.entries.now (Err c.in_err-rest.field-0.0)
          (rw c.size_len.ensures at c.in_ok-block.ensures.read) c.in_ok-count.ensures.read c.in_err-rest.ensures.read,
    ) refl

pub skip_map-returns-in_err-ended-clause-read : goal.skip_map-returns-in_err-ended-clause-read
skip_map-returns-in_err-ended-clause-read t c =
    let p = err_from_is_err_and c.from_residual-in_err-ended.result c.from_residual-in_err-ended.ensures.1 in
    rw (
      p.1,
      p.2,
      map_after (level_by (inside c.args.depth)) c.args.w c.args.size c.args.bytes.now _ c.in_ok-count.count c.in_ok-count.entries.now (Ok c.in_ok-rest.rest.now)
          (rw c.size_len.ensures at c.in_ok-block.ensures.read) c.in_ok-count.ensures.read c.in_ok-rest.ensures.read,
    ) (search rules)

pub skip_map-returns-clause-read : goal.skip_map-returns-clause-read
skip_map-returns-clause-read t c =
    rw (map_after (level_by (inside c.args.depth)) c.args.w c.args.size c.args.bytes.now _ c.in_ok-count.count c.in_ok-count.entries.now (Ok c.in_ok-rest.rest.now)
    (rw c.size_len.ensures at c.in_ok-block.ensures.read) c.in_ok-count.ensures.read c.in_ok-rest.ensures.read) (search rules)

pub skip_head-returns-in_default-clause-read : goal.skip_head-returns-in_default-clause-read
skip_head-returns-in_default-clause-read t c =
    let nil : c.loop.rest.now ≡ [] = nil_from_length c.loop.rest.now c.in_default.ensures.cases in
    sym c.loop.invariant.same ∙ rw nil (head_nil (level_by (inside c.args.depth)) c.args.w (length c.args.bytes.now - c.loop.counter))

pub skip_head-returns-in_err-allowed-clause-read : goal.skip_head-returns-in_err-allowed-clause-read
skip_head-returns-in_err-allowed-clause-read t c =
    let p = err_from_is_err_and c.from_residual.result c.from_residual.ensures.1 in
    let parts : c.loop.rest.now ≡ c.in-Some.code.now ∷ c.in-Some.after.now = search rules in
    let step = head_code (level_by (inside c.args.depth)) c.args.w (length c.args.bytes.now) c.loop.counter c.in-Some.code.now c.in-Some.after.now _ c.loop-test.true c.if-code-ne0.true
    (rw parts at c.loop.invariant.same) in
    rw (p.1, p.2, step) (search rules)

pub skip_head-returns-then-code-ne0-clause-read : goal.skip_head-returns-then-code-ne0-clause-read
skip_head-returns-then-code-ne0-clause-read t c =
    let parts : c.loop.rest.now ≡ c.in-Some.code.now ∷ c.in-Some.after.now = search rules in
    let step = head_code (level_by (inside c.args.depth)) c.args.w (length c.args.bytes.now) c.loop.counter c.in-Some.code.now c.in-Some.after.now _ c.loop-test.true c.if-code-ne0.true
    (rw parts at c.loop.invariant.same) in
    step ∙ search rules

pub skip_head-returns-in_err-rest-clause-read : goal.skip_head-returns-in_err-rest-clause-read
skip_head-returns-in_err-rest-clause-read t c =
    let p = err_from_is_err_and c.from_residual-in_err-rest.result c.from_residual-in_err-rest.ensures.1 in
    let parts : c.loop.rest.now ≡ c.in-Some.code.now ∷ c.in-Some.after.now = search rules in
    rw (p.1, p.2) (head_err (level_by (inside c.args.depth)) c.args.w (length c.args.bytes.now) c.loop.counter c.in-Some.code.now c.in-Some.after.now _ _ c.loop-test.true c.if-code-ne0.false
    c.in_err-rest.ensures.read (rw parts at c.loop.invariant.same))

pub skip_head-loop-preserved : goal.skip_head-loop-preserved
skip_head-loop-preserved t c =
    let parts : c.loop.rest.now ≡ c.in-Some.code.now ∷ c.in-Some.after.now = search rules in
    record {
      same = head_more (level_by (inside c.args.depth)) c.args.w (length c.args.bytes.now) c.loop.counter c.in-Some.code.now c.in-Some.after.now c.in_ok-rest.rest.now _ c.loop-test.true
          c.if-code-ne0.false c.in_ok-rest.ensures.read (rw parts at c.loop.invariant.same);
      shorter = omega (arith, c.in_ok-rest.ensures.rest, c.loop.invariant.shorter, ap length parts);
      end_is = refl;
    }

pub skip_head-returns-clause-read : goal.skip_head-returns-clause-read
skip_head-returns-clause-read t c =
    sym c.loop.invariant.same ∙ head_out (level_by (inside c.args.depth)) c.args.w (length c.args.bytes.now - c.loop.counter) c.loop.rest.now (omega (arith, c.loop-test.false))

pub skip_items-returns-then-is_still-clause-read : goal.skip_items-returns-then-is_still-clause-read
skip_items-returns-then-is_still-clause-read t c =
    stays (item_by (inside c.args.depth) c.args.constructor) c.args.w c.args.count c.args.bytes.now (still_item (inside c.args.depth) c.args.constructor c.args.w c.args.bytes.now
    (sym c.is_still.ensures ∙ c.if-is_still.true))

pub skip_items-returns-in_err-rest-clause-read : goal.skip_items-returns-in_err-rest-clause-read
skip_items-returns-in_err-rest-clause-read t c =
    let p = err_from_is_err_and c.from_residual.result c.from_residual.ensures.1 in
    rw (p.1, p.2) (ends (item_by (inside c.args.depth) c.args.constructor) c.args.w c.args.count c.loop.counter c.loop.rest.now _ _ c.loop-test.true c.in_err-rest.ensures.read c.loop.invariant.same)

pub skip_items-loop-preserved : goal.skip_items-loop-preserved
skip_items-loop-preserved t c = record {
  same = goes_on (item_by (inside c.args.depth) c.args.constructor) c.args.w c.args.count c.loop.counter c.loop.rest.now c.in_ok-rest.rest.now _ c.loop-test.true c.in_ok-rest.ensures.read
      c.loop.invariant.same;
  shorter = omega (arith, c.in_ok-rest.ensures.rest, c.loop.invariant.shorter);
}

pub skip_items-returns-clause-read : goal.skip_items-returns-clause-read
skip_items-returns-clause-read t c =
    is_done (item_by (inside c.args.depth) c.args.constructor) c.args.w c.args.count c.loop.counter c.loop.rest.now _ c.loop-test.false c.loop.invariant.same

pub skip_values-returns-in_err-rest-clause-read : goal.skip_values-returns-in_err-rest-clause-read
skip_values-returns-in_err-rest-clause-read t c =
    let p = err_from_is_err_and c.from_residual.result c.from_residual.ensures.1 in
    rw (p.1, p.2) (ends (λ within. value_by (inside c.args.depth) within 0) c.args.w c.args.count c.loop.counter c.loop.rest.now _ _ c.loop-test.true c.in_err-rest.ensures.read c.loop.invariant.same)

pub skip_values-loop-preserved : goal.skip_values-loop-preserved
skip_values-loop-preserved t c = record {
  same = goes_on (λ within. value_by (inside c.args.depth) within 0) c.args.w c.args.count c.loop.counter c.loop.rest.now c.in_ok-rest.rest.now _ c.loop-test.true c.in_ok-rest.ensures.read
      c.loop.invariant.same;
  shorter = omega (arith, c.in_ok-rest.ensures.rest, c.loop.invariant.shorter);
}

pub skip_values-returns-clause-read : goal.skip_values-returns-clause-read
skip_values-returns-clause-read t c =
    is_done (λ within. value_by (inside c.args.depth) within 0) c.args.w c.args.count c.loop.counter c.loop.rest.now _ c.loop-test.false c.loop.invariant.same
