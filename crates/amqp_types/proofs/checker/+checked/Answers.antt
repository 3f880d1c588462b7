use Rattle.std.proofs.Common.{◌≡◌, ◌∙◌, inl, inr, ◌∷◌, ◌++◌, subst, drop, length, refl, sym, ap, rules, arith, ◌-◌, Some}
use Rattle.std.proofs.lemmas.Result.{err_from_is_err_and}
use Rattle.std.proofs.lemmas.List.{nil_from_length, take_rest, append-nil}
use Rattle.amqp_types.specs.Decoding.{is_among}
use Rattle.amqp_types.specs.Images.{image}
use Rattle.amqp_types.specs.Keys.{AreImagesOf}
use Rattle.amqp_types.specs.Reading.{Block, value_by, item_by, level_by, inside}
use Rattle.amqp_types.specs.Trees.{more, none}
use Rattle.amqp_types.proofs.Passes.{goes_on, ends, is_done, stays, still_item, known_key, images_of_none, images_with, pairs_go_on, key_ends, key_again, value_ends, pairs_are_done}
use Rattle.amqp_types.proofs.Passes.{head_nil, head_out, head_stands, head_refused, head_unpaid, descriptor_ends, head_goes_on, closed, array_passed, array_ends, coded_unpaid, left_passed}
use Rattle.amqp_types.proofs.checker.+checked.Goals as goal

pub check_value-returns-in-Some-clause-read : goal.check_value-returns-in-Some-clause-read
check_value-returns-in-Some-clause-read t c =
    rw (take_rest c.args.bytes.now c.in-Some.len) (left_passed (value_by (inside c.args.depth) c.args.w 0 (Some c.args.nodes) c.args.bytes.now) c.args.nodes (drop c.in-Some.len c.args.bytes.now)
    (c.in-Some.ensures.kept (inside c.args.depth) c.args.w c.args.nodes))

pub check_coded-returns-in_err-left-clause-read : goal.check_coded-returns-in_err-left-clause-read
check_coded-returns-in_err-left-clause-read t c =
    let p = err_from_is_err_and c.from_residual-in_err-left.result c.from_residual-in_err-left.ensures.1 in
    let parts : c.args.bytes.now ≡ c.in-Some.code.now ∷ c.in-Some.rest.now = search rules in
    let h = rw (c.place-2.ensures, c.may_hold.ensures, parts) at c.in_ok-constructor.ensures.read in
    let u = rw (c.place-3.ensures, parts) at c.in_err-left.ensures in
    rw (p.1, p.2, parts) (inr (coded_unpaid (inside c.args.depth) c.args.w c.args.due c.args.nodes c.in-Some.code.now c.in-Some.rest.now c.in_ok-constructor.constructor _ c.if-code-eq0.false h u))

pub check_array-returns-in_err-left-2-clause-read : goal.check_array-returns-in_err-left-2-clause-read
check_array-returns-in_err-left-2-clause-read t c =
    let p = err_from_is_err_and c.from_residual-in_err-left-2.result c.from_residual-in_err-left-2.ensures.1 in
    rw (p.1, p.2) (array_ends (level_by (inside c.args.depth)) c.args.w c.args.size c.args.nodes c.args.bytes.now
    (record { within = c.in_ok-block.block.within; body = c.in_ok-block.block.body.now; behind = c.in_ok-block.block.behind.now }) c.in_ok-count.count c.in_ok-count.front.now c.in_ok-left.left
    c.in_ok-constructor.constructor c.in_ok-constructor.left c.in_ok-constructor.rest.now (rw c.size_len.ensures at c.in_ok-block.ensures.read) c.in_ok-count.ensures.read
    (rw c.place.ensures at c.in_ok-left.ensures) c.in_ok-constructor.ensures.read _ c.in_err-left-2.ensures.read)

pub check_array-returns-in_err-ended-clause-read : goal.check_array-returns-in_err-ended-clause-read
check_array-returns-in_err-ended-clause-read t c =
    let p = err_from_is_err_and c.from_residual-in_err-ended.result c.from_residual-in_err-ended.ensures.1 in
    let block : Block = record { within = c.in_ok-block.block.within; body = c.in_ok-block.block.body.now; behind = c.in_ok-block.block.behind.now } in
    let e = array_passed (level_by (inside c.args.depth)) c.args.w c.args.size c.args.nodes c.args.bytes.now block c.in_ok-count.count c.in_ok-count.front.now c.in_ok-left.left
    c.in_ok-constructor.constructor c.in_ok-constructor.left c.in_ok-constructor.rest.now (rw c.size_len.ensures at c.in_ok-block.ensures.read) c.in_ok-count.ensures.read
    (rw c.place.ensures at c.in_ok-left.ensures) c.in_ok-constructor.ensures.read in
    rw (p.1, p.2) (inr (e ∙ ap (closed block) c.in_ok-left-2.ensures.read ∙ (rw c.in_err-ended.ensures refl)))

pub check_array-returns-clause-read : goal.check_array-returns-clause-read
check_array-returns-clause-read t c =
    let block : Block = record { within = c.in_ok-block.block.within; body = c.in_ok-block.block.body.now; behind = c.in_ok-block.block.behind.now } in
    let e = array_passed (level_by (inside c.args.depth)) c.args.w c.args.size c.args.nodes c.args.bytes.now block c.in_ok-count.count c.in_ok-count.front.now c.in_ok-left.left
    c.in_ok-constructor.constructor c.in_ok-constructor.left c.in_ok-constructor.rest.now (rw c.size_len.ensures at c.in_ok-block.ensures.read) c.in_ok-count.ensures.read
    (rw c.place.ensures at c.in_ok-left.ensures) c.in_ok-constructor.ensures.read in
    e ∙ ap (closed block) c.in_ok-left-2.ensures.read ∙ (rw c.in_ok-ended.ensures refl)

pub check_head-returns-in_default-clause-read : goal.check_head-returns-in_default-clause-read
check_head-returns-in_default-clause-read t c =
    inr (head_nil (level_by (inside c.args.depth)) c.args.w _ c.loop.left c.loop.rest.now _ (nil_from_length c.loop.rest.now c.in_default.ensures.cases) c.loop.invariant.same)

pub check_head-returns-in_err-constructor-clause-read : goal.check_head-returns-in_err-constructor-clause-read
check_head-returns-in_err-constructor-clause-read t c =
    let p = err_from_is_err_and c.from_residual.result c.from_residual.ensures.1 in
    let parts : c.loop.rest.now ≡ c.in-Some.code.now ∷ c.in-Some.after.now = search rules in
    let h = rw (c.place.ensures, c.may_hold.ensures, parts) at c.in_err-constructor.ensures.read in
    rw (p.1, p.2) (inr (head_refused (level_by (inside c.args.depth)) c.args.w (length c.args.bytes.now) c.loop.counter c.loop.left c.in-Some.code.now c.in-Some.after.now _ _
    c.loop-test.true c.if-code-ne0.true h (rw parts at c.loop.invariant.same)))

pub check_head-returns-then-code-ne0-clause-read : goal.check_head-returns-then-code-ne0-clause-read
check_head-returns-then-code-ne0-clause-read t c =
    let parts : c.loop.rest.now ≡ c.in-Some.code.now ∷ c.in-Some.after.now = search rules in
    let h = rw (c.place.ensures, c.may_hold.ensures, parts) at c.in_ok-constructor.ensures.read in
    head_stands (level_by (inside c.args.depth)) c.args.w (length c.args.bytes.now) c.loop.counter c.loop.left c.in-Some.code.now c.in-Some.after.now _ _ c.loop-test.true c.if-code-ne0.true h
    (rw parts at c.loop.invariant.same)

pub check_head-returns-in_err-paid-clause-read : goal.check_head-returns-in_err-paid-clause-read
check_head-returns-in_err-paid-clause-read t c =
    let p = err_from_is_err_and c.from_residual-in_err-paid.result c.from_residual-in_err-paid.ensures.1 in
    let parts : c.loop.rest.now ≡ c.in-Some.code.now ∷ c.in-Some.after.now = search rules in
    let h = rw (c.place-in-loop.ensures, parts) at c.in_err-paid.ensures in
    rw (p.1, p.2) (inr (head_unpaid (level_by (inside c.args.depth)) c.args.w (length c.args.bytes.now) c.loop.counter c.loop.left c.in-Some.code.now c.in-Some.after.now _ _ c.loop-test.true
    c.if-code-ne0.false h (rw parts at c.loop.invariant.same)))

pub check_head-returns-in_err-less-clause-read : goal.check_head-returns-in_err-less-clause-read
check_head-returns-in_err-less-clause-read t c =
    let p = err_from_is_err_and c.from_residual-in_err-less.result c.from_residual-in_err-less.ensures.1 in
    let parts : c.loop.rest.now ≡ c.in-Some.code.now ∷ c.in-Some.after.now = search rules in
    let h = rw (c.place-in-loop.ensures, parts) at c.in_ok-paid.ensures in
    rw (p.1, p.2) (descriptor_ends (level_by (inside c.args.depth)) c.args.w (length c.args.bytes.now) c.loop.counter c.loop.left c.in_ok-paid.paid c.in-Some.code.now c.in-Some.after.now _ _
    c.loop-test.true c.if-code-ne0.false h c.in_err-less.ensures.read (rw parts at c.loop.invariant.same))

pub check_head-loop-preserved : goal.check_head-loop-preserved
check_head-loop-preserved t c =
    let parts : c.loop.rest.now ≡ c.in-Some.code.now ∷ c.in-Some.after.now = search rules in
    let h = rw (c.place-in-loop.ensures, parts) at c.in_ok-paid.ensures in
    record {
      same = head_goes_on (level_by (inside c.args.depth)) c.args.w (length c.args.bytes.now) c.loop.counter c.loop.left c.in_ok-paid.paid c.in_ok-less.less c.in-Some.code.now c.in-Some.after.now
          c.in_ok-less.behind.now _ c.loop-test.true c.if-code-ne0.false h c.in_ok-less.ensures.read (rw parts at c.loop.invariant.same);
      shorter = omega (arith, c.in_ok-less.ensures.rest, c.loop.invariant.shorter, ap length parts);
      end_is = refl;
    }

pub check_head-returns-clause-read : goal.check_head-returns-clause-read
check_head-returns-clause-read t c =
    inr (head_out (level_by (inside c.args.depth)) c.args.w (length c.args.bytes.now) c.loop.counter c.loop.left c.loop.rest.now _ c.loop-test.false c.loop.invariant.same)

pub check_items-returns-then-is_still-clause-read : goal.check_items-returns-then-is_still-clause-read
check_items-returns-then-is_still-clause-read t c =
    stays (item_by (inside c.args.depth) c.args.constructor) c.args.w c.args.count c.args.nodes c.args.bytes.now
    (still_item (inside c.args.depth) c.args.constructor c.args.w c.args.nodes c.args.bytes.now (sym c.is_still.ensures ∙ c.if-is_still.true))

pub check_items-returns-in_err-less-clause-read : goal.check_items-returns-in_err-less-clause-read
check_items-returns-in_err-less-clause-read t c =
    let p = err_from_is_err_and c.from_residual.result c.from_residual.ensures.1 in
    rw (p.1, p.2) (ends (item_by (inside c.args.depth) c.args.constructor) c.args.w c.args.count c.loop.counter c.loop.left c.loop.rest.now _ _ c.loop-test.true c.in_err-less.ensures.read
    c.loop.invariant.same)

pub check_items-loop-preserved : goal.check_items-loop-preserved
check_items-loop-preserved t c = record {
  same = goes_on (item_by (inside c.args.depth) c.args.constructor) c.args.w c.args.count c.loop.counter c.loop.left c.in_ok-less.less c.loop.rest.now c.in_ok-less.behind.now _ c.loop-test.true
      c.in_ok-less.ensures.read c.loop.invariant.same;
  shorter = omega (arith, c.in_ok-less.ensures.rest, c.loop.invariant.shorter);
}

pub check_items-returns-clause-read : goal.check_items-returns-clause-read
check_items-returns-clause-read t c =
    is_done (item_by (inside c.args.depth) c.args.constructor) c.args.w c.args.count c.loop.counter c.loop.left c.loop.rest.now _ c.loop-test.false c.loop.invariant.same

pub check_values-returns-in_err-less-clause-read : goal.check_values-returns-in_err-less-clause-read
check_values-returns-in_err-less-clause-read t c =
    let p = err_from_is_err_and c.from_residual.result c.from_residual.ensures.1 in
    rw (p.1, p.2) (ends (λ within. value_by (inside c.args.depth) within 0) c.args.w c.args.count c.loop.counter c.loop.left c.loop.rest.now _ _ c.loop-test.true c.in_err-less.ensures.read
    c.loop.invariant.same)

pub check_values-loop-preserved : goal.check_values-loop-preserved
check_values-loop-preserved t c = record {
  same = goes_on (λ within. value_by (inside c.args.depth) within 0) c.args.w c.args.count c.loop.counter c.loop.left c.in_ok-less.less c.loop.rest.now c.in_ok-less.behind.now _ c.loop-test.true
      c.in_ok-less.ensures.read c.loop.invariant.same;
  shorter = omega (arith, c.in_ok-less.ensures.rest, c.loop.invariant.shorter);
}

pub check_values-returns-clause-read : goal.check_values-returns-clause-read
check_values-returns-clause-read t c =
    is_done (λ within. value_by (inside c.args.depth) within 0) c.args.w c.args.count c.loop.counter c.loop.left c.loop.rest.now _ c.loop-test.false c.loop.invariant.same

pub check_pairs-returns-then-count-gt-FEW-clause-read : goal.check_pairs-returns-then-count-gt-FEW-clause-read
check_pairs-returns-then-count-gt-FEW-clause-read t c = c.check_more_pairs.ensures.read none (subst (λ images. AreImagesOf images none) (sym c.new-seen.ensures) images_of_none)

pub check_pairs-loop-i-init : goal.check_pairs-loop-i-init
check_pairs-loop-i-init t c = record {
  seen = (none, subst (λ images. AreImagesOf images none) (sym c.new-seen.ensures) images_of_none, let all : c.args.count - 0 ≡ c.args.count = omega arith in rw all refl);
  shorter = omega arith;
}

pub check_pairs-returns-in_err-value-clause-read : goal.check_pairs-returns-in_err-value-clause-read
check_pairs-returns-in_err-value-clause-read t c =
    let p = err_from_is_err_and c.from_residual.result c.from_residual.ensures.1 in
    let seen = c.loop-i.invariant.seen in
    rw (p.1, p.2) (elim (c.in_err-value.ensures.none (inside c.args.depth) c.loop-i.left) [
      | inl e ↦ inl e
      | inr h ↦ inr (elim h [
        | inl e ↦ key_ends (level_by (inside c.args.depth)) c.args.w seen.0 c.args.count c.loop-i.i c.loop-i.left c.loop-i.rest.now _ _ c.loop-i-test.true e seen.2
        | inr k ↦ rw k.5 (key_again (level_by (inside c.args.depth)) c.args.w seen.0 k.0 c.args.count c.loop-i.i c.loop-i.left k.1 c.loop-i.rest.now k.2 _ c.loop-i-test.true k.3
            (known_key k.0 c.loop-i.seen seen.0 seen.1 ∙ k.4) seen.2)
      ])
    ])

pub check_pairs-returns-in_err-less-clause-read : goal.check_pairs-returns-in_err-less-clause-read
check_pairs-returns-in_err-less-clause-read t c =
    let p = err_from_is_err_and c.from_residual-in_err-less.result c.from_residual-in_err-less.ensures.1 in
    let seen = c.loop-i.invariant.seen in
    let takes = rw c.in-Some.is at c.in_ok-value.ensures.new in
    let key = takes (inside c.args.depth) c.loop-i.left in
    rw (p.1, p.2) (value_ends (level_by (inside c.args.depth)) c.args.w seen.0 key.0 c.args.count c.loop-i.i c.loop-i.left c.loop-i.left c.loop-i.rest.now c.in-Some.value.now _ _
    c.loop-i-test.true key.1 (known_key key.0 c.loop-i.seen seen.0 seen.1 ∙ key.2) c.in_err-less.ensures.read seen.2)

pub check_pairs-loop-i-preserved : goal.check_pairs-loop-i-preserved
check_pairs-loop-i-preserved t c =
    let seen = c.loop-i.invariant.seen in
    let takes = rw c.in-Some.is at c.in_ok-value.ensures.new in
    let key = takes (inside c.args.depth) c.loop-i.left in
    record {
      seen = (
        more key.0 seen.0,
        images_with key.0 c.loop-i.seen _ seen.0 seen.1 key.3,
        pairs_go_on (level_by (inside c.args.depth)) c.args.w seen.0 key.0 c.args.count c.loop-i.i c.loop-i.left c.loop-i.left c.in_ok-less.less c.loop-i.rest.now c.in-Some.value.now
            c.in_ok-less.behind.now _ c.loop-i-test.true key.1 (known_key key.0 c.loop-i.seen seen.0 seen.1 ∙ key.2) c.in_ok-less.ensures.read seen.2,
      );
      shorter = omega (arith, rw c.in-Some.is at c.in_ok-value.ensures.rest, c.in_ok-less.ensures.rest, c.loop-i.invariant.shorter);
    }

pub check_pairs-returns-clause-read : goal.check_pairs-returns-clause-read
check_pairs-returns-clause-read t c =
    let seen = c.loop-i.invariant.seen in
    pairs_are_done (level_by (inside c.args.depth)) c.args.w seen.0 c.args.count c.loop-i.i c.loop-i.left c.loop-i.rest.now _ c.loop-i-test.false seen.2

pub check_more_pairs-loop-init : goal.check_more_pairs-loop-init
check_more_pairs-loop-init t c = record {
  seen = λ given images. (
    given,
    λ key. c.in_ok-put_into.ensures (image key) ∙ ap (is_among (image key)) (ap (λ old. c.args.before.now ++ old) c.new-seen.ensures ∙ append-nil c.args.before.now) ∙ images key,
    let all : c.args.count - 0 ≡ c.args.count = omega arith in rw all refl,
  );
  shorter = omega arith;
}

pub check_more_pairs-returns-in_err-less-clause-read : goal.check_more_pairs-returns-in_err-less-clause-read
check_more_pairs-returns-in_err-less-clause-read t c = λ given images.
    let p = err_from_is_err_and c.from_residual-in_err-less.result c.from_residual-in_err-less.ensures.1 in
    let seen = c.loop.invariant.seen given images in
    rw (p.1, p.2) (elim c.in_err-less.ensures.none [
      | inl e ↦ inl e
      | inr h ↦ inr (elim h [
        | inl e ↦ key_ends (level_by (inside c.args.depth)) c.args.w seen.0 c.args.count c.loop.counter c.loop.left c.loop.rest.now _ _ c.loop-test.true e seen.2
        | inr k ↦ rw k.5 (key_again (level_by (inside c.args.depth)) c.args.w seen.0 k.0 c.args.count c.loop.counter c.loop.left k.1 c.loop.rest.now k.2 _ c.loop-test.true k.3
            (known_key k.0 c.loop.seen seen.0 seen.1 ∙ k.4) seen.2)
      ])
    ])

pub check_more_pairs-returns-in_err-less-2-clause-read : goal.check_more_pairs-returns-in_err-less-2-clause-read
check_more_pairs-returns-in_err-less-2-clause-read t c = λ given images.
    let p = err_from_is_err_and c.from_residual-in_err-less-2.result c.from_residual-in_err-less-2.ensures.1 in
    let seen = c.loop.invariant.seen given images in
    let key = c.in_ok-less.ensures.new in
    rw (p.1, p.2) (value_ends (level_by (inside c.args.depth)) c.args.w seen.0 key.0 c.args.count c.loop.counter c.loop.left c.in_ok-less.less c.loop.rest.now c.in_ok-less.value.now _ _
    c.loop-test.true key.1 (known_key key.0 c.loop.seen seen.0 seen.1 ∙ key.2) c.in_err-less-2.ensures.read seen.2)

pub check_more_pairs-loop-preserved : goal.check_more_pairs-loop-preserved
check_more_pairs-loop-preserved t c =
    let key = c.in_ok-less.ensures.new in
    record {
      seen = λ given images.
          let seen = c.loop.invariant.seen given images in (
            more key.0 seen.0,
            images_with key.0 c.loop.seen _ seen.0 seen.1 key.3,
            pairs_go_on (level_by (inside c.args.depth)) c.args.w seen.0 key.0 c.args.count c.loop.counter c.loop.left c.in_ok-less.less c.in_ok-less-2.less c.loop.rest.now c.in_ok-less.value.now
                c.in_ok-less-2.behind.now _ c.loop-test.true key.1 (known_key key.0 c.loop.seen seen.0 seen.1 ∙ key.2) c.in_ok-less-2.ensures.read seen.2,
          );
      shorter = omega (arith, c.in_ok-less.ensures.rest, c.in_ok-less-2.ensures.rest, c.loop.invariant.shorter);
    }

pub check_more_pairs-returns-clause-read : goal.check_more_pairs-returns-clause-read
check_more_pairs-returns-clause-read t c = λ given images.
    let seen = c.loop.invariant.seen given images in
    pairs_are_done (level_by (inside c.args.depth)) c.args.w seen.0 c.args.count c.loop.counter c.loop.left c.loop.rest.now _ c.loop-test.false seen.2
