use Rattle.std.proofs.Common.{◌≡◌, ◌∙◌, inr, ◌∷◌, length, refl, sym, ap, rules, arith, Some, Bool, true, false, ◌||◌}
use Rattle.std.proofs.lemmas.Result.{err_from_is_err_and}
use Rattle.std.proofs.lemmas.List.{nil_from_length}
use Rattle.amqp_types.specs.Reading.{value_by, item_by, level_by, inside}
use Rattle.std.specs.Str.{bytes_eq}
use Rattle.amqp_types.specs.Images.{image}
use Rattle.amqp_types.specs.Trees.{none}
use Rattle.amqp_types.specs.Values.{view, views, pair_views}
use Rattle.amqp_types.proofs.Keeps.{keeps_on, stops, all_kept, head_ends, head_is_out, head_stands, head_refused, head_unpaid, descriptor_stops, descriptor_kept, array_read, has_ended, goes_further}
use Rattle.amqp_types.proofs.Keeps.{keys_before, has_image-push, known_key, key_stops, key_again, value_stops, pairs_keep_on, all_pairs_kept}
use Rattle.amqp_types.proofs.decoder.+read.Goals as goal

pub read_array-returns-in_err-ended-clause-read : goal.read_array-returns-in_err-ended-clause-read
read_array-returns-in_err-ended-clause-read t c =
    let p = err_from_is_err_and c.from_residual-in_err-ended.result c.from_residual-in_err-ended.ensures.1 in
    let e = array_read (level_by (inside c.args.depth)) c.args.w c.args.size c.args.nodes c.args.bytes.now
    (record { within = c.in_ok-block.block.within; body = c.in_ok-block.block.body.now; behind = c.in_ok-block.block.behind.now }) c.in_ok-count.count c.in_ok-count.front.now c.in_ok-left.left
    (views c.in_ok-head.head.descriptors.items) c.in_ok-head.head.constructor c.in_ok-head.left c.in_ok-head.rest.now (views c.in_ok-items.items.items) c.in_ok-items.left c.in_ok-items.rest.now
    (rw c.size_len.ensures at c.in_ok-block.ensures.read) c.in_ok-count.ensures.read (rw c.place.ensures at c.in_ok-left.ensures) c.in_ok-head.ensures.read c.in_ok-items.ensures.read in
    rw (p.1, p.2) (inr (e ∙ goes_further c.in_ok-block.block.within c.in_ok-items.rest.now _ _ c.in_err-ended.ensures))

pub read_array-returns-clause-read : goal.read_array-returns-clause-read
read_array-returns-clause-read t c =
    let e = array_read (level_by (inside c.args.depth)) c.args.w c.args.size c.args.nodes c.args.bytes.now
    (record { within = c.in_ok-block.block.within; body = c.in_ok-block.block.body.now; behind = c.in_ok-block.block.behind.now }) c.in_ok-count.count c.in_ok-count.front.now c.in_ok-left.left
    (views c.in_ok-head.head.descriptors.items) c.in_ok-head.head.constructor c.in_ok-head.left c.in_ok-head.rest.now (views c.in_ok-items.items.items) c.in_ok-items.left c.in_ok-items.rest.now
    (rw c.size_len.ensures at c.in_ok-block.ensures.read) c.in_ok-count.ensures.read (rw c.place.ensures at c.in_ok-left.ensures) c.in_ok-head.ensures.read c.in_ok-items.ensures.read in
    (e ∙ has_ended c.in_ok-block.block.within c.in_ok-items.rest.now _ c.in_ok-ended.ensures) ∙ rw c.array_value.ensures refl

pub read_head-returns-in_default-clause-read : goal.read_head-returns-in_default-clause-read
read_head-returns-in_default-clause-read t c =
    inr (head_ends (level_by (inside c.args.depth)) c.args.w (views c.loop.descriptors.items) _ c.loop.left c.loop.rest.now _ (nil_from_length c.loop.rest.now c.in_default.ensures.cases)
    c.loop.invariant.same)

pub read_head-returns-in_err-constructor-clause-read : goal.read_head-returns-in_err-constructor-clause-read
read_head-returns-in_err-constructor-clause-read t c =
    let p = err_from_is_err_and c.from_residual.result c.from_residual.ensures.1 in
    let parts : c.loop.rest.now ≡ c.in-Some.code.now ∷ c.in-Some.after.now = search rules in
    let h = rw (c.place.ensures, c.may_hold.ensures, parts) at c.in_err-constructor.ensures.read in
    rw (p.1, p.2) (inr (head_refused (level_by (inside c.args.depth)) c.args.w (views c.loop.descriptors.items) (length c.args.bytes.now) c.loop.counter c.loop.left c.in-Some.code.now
    c.in-Some.after.now _ _ c.loop-test.true c.if-code-ne0.true h (rw parts at c.loop.invariant.same)))

pub read_head-returns-then-code-ne0-clause-read : goal.read_head-returns-then-code-ne0-clause-read
read_head-returns-then-code-ne0-clause-read t c =
    let parts : c.loop.rest.now ≡ c.in-Some.code.now ∷ c.in-Some.after.now = search rules in
    let h = rw (c.place.ensures, c.may_hold.ensures, parts) at c.in_ok-constructor.ensures.read in
    head_stands (level_by (inside c.args.depth)) c.args.w (views c.loop.descriptors.items) (length c.args.bytes.now) c.loop.counter c.loop.left c.in-Some.code.now c.in-Some.after.now _ _
    c.loop-test.true c.if-code-ne0.true h (rw parts at c.loop.invariant.same)

pub read_head-returns-in_err-paid-clause-read : goal.read_head-returns-in_err-paid-clause-read
read_head-returns-in_err-paid-clause-read t c =
    let p = err_from_is_err_and c.from_residual-in_err-paid.result c.from_residual-in_err-paid.ensures.1 in
    let parts : c.loop.rest.now ≡ c.in-Some.code.now ∷ c.in-Some.after.now = search rules in
    let h = rw (c.place-in-loop.ensures, parts) at c.in_err-paid.ensures in
    rw (p.1, p.2) (inr (head_unpaid (level_by (inside c.args.depth)) c.args.w (views c.loop.descriptors.items) (length c.args.bytes.now) c.loop.counter c.loop.left c.in-Some.code.now
    c.in-Some.after.now _ _ c.loop-test.true c.if-code-ne0.false h (rw parts at c.loop.invariant.same)))

pub read_head-returns-in_err-descriptor-clause-read : goal.read_head-returns-in_err-descriptor-clause-read
read_head-returns-in_err-descriptor-clause-read t c =
    let p = err_from_is_err_and c.from_residual-in_err-descriptor.result c.from_residual-in_err-descriptor.ensures.1 in
    let parts : c.loop.rest.now ≡ c.in-Some.code.now ∷ c.in-Some.after.now = search rules in
    let h = rw (c.place-in-loop.ensures, parts) at c.in_ok-paid.ensures in
    rw (p.1, p.2) (descriptor_stops (level_by (inside c.args.depth)) c.args.w (views c.loop.descriptors.items) (length c.args.bytes.now) c.loop.counter c.loop.left c.in_ok-paid.paid
    c.in-Some.code.now c.in-Some.after.now _ _ c.loop-test.true c.if-code-ne0.false h c.in_err-descriptor.ensures.read (rw parts at c.loop.invariant.same))

pub read_head-loop-preserved : goal.read_head-loop-preserved
read_head-loop-preserved t c =
    let parts : c.loop.rest.now ≡ c.in-Some.code.now ∷ c.in-Some.after.now = search rules in
    let h = rw (c.place-in-loop.ensures, parts) at c.in_ok-paid.ensures in
    record {
      same = rw c.in_ok-push.ensures.items (descriptor_kept (level_by (inside c.args.depth)) c.args.w c.loop.descriptors.items c.in_ok-descriptor.descriptor
          (length c.args.bytes.now) c.loop.counter c.loop.left c.in_ok-paid.paid c.in_ok-descriptor.less c.in-Some.code.now c.in-Some.after.now c.in_ok-descriptor.behind.now _ c.loop-test.true
          c.if-code-ne0.false h c.in_ok-descriptor.ensures.read (rw parts at c.loop.invariant.same));
      shorter = omega (arith, c.in_ok-descriptor.ensures.rest, c.loop.invariant.shorter, ap length parts);
      end_is = refl;
    }

pub read_head-returns-clause-read : goal.read_head-returns-clause-read
read_head-returns-clause-read t c =
    inr (head_is_out (level_by (inside c.args.depth)) c.args.w (views c.loop.descriptors.items) (length c.args.bytes.now) c.loop.counter c.loop.left c.loop.rest.now _ c.loop-test.false
    c.loop.invariant.same)

pub read_item-returns-in_err-value-in-Fixed-clause-read : goal.read_item-returns-in_err-value-in-Fixed-clause-read
unfolding item_by
read_item-returns-in_err-value-in-Fixed-clause-read t c =
    let p = err_from_is_err_and c.from_residual.result c.from_residual.ensures.1 in
    rw (p.1, p.2, c.in-Fixed.is) (inr (c.in_err-value-in-Fixed.ensures.read (Some c.args.nodes)))

pub read_item-returns-in_ok-value-in-Fixed-clause-read : goal.read_item-returns-in_ok-value-in-Fixed-clause-read
unfolding item_by
read_item-returns-in_ok-value-in-Fixed-clause-read t c = rw c.in-Fixed.is (c.in_ok-value-in-Fixed.ensures.read (Some c.args.nodes))

pub read_items-returns-in_err-item-clause-read : goal.read_items-returns-in_err-item-clause-read
read_items-returns-in_err-item-clause-read t c =
    let p = err_from_is_err_and c.from_residual-in_err-item.result c.from_residual-in_err-item.ensures.1 in
    rw (p.1, p.2) (stops (item_by (inside c.args.depth) c.args.constructor) c.args.w (views c.loop.items.items) c.args.count c.loop.counter c.loop.left c.loop.rest.now _ _ c.loop-test.true
    c.in_err-item.ensures.read c.loop.invariant.same)

pub read_items-loop-preserved : goal.read_items-loop-preserved
read_items-loop-preserved t c = record {
  same = rw c.in_ok-push.ensures.items (keeps_on (item_by (inside c.args.depth) c.args.constructor) c.args.w c.loop.items.items c.in_ok-item.item c.args.count c.loop.counter c.loop.left
      c.in_ok-item.less c.loop.rest.now c.in_ok-item.behind.now _ c.loop-test.true c.in_ok-item.ensures.read c.loop.invariant.same);
  shorter = omega (arith, c.in_ok-item.ensures.rest, c.loop.invariant.shorter);
}

pub read_items-returns-clause-read : goal.read_items-returns-clause-read
read_items-returns-clause-read t c =
    all_kept (item_by (inside c.args.depth) c.args.constructor) c.args.w (views c.loop.items.items) c.args.count c.loop.counter c.loop.left c.loop.rest.now _ c.loop-test.false c.loop.invariant.same

pub read_pairs-returns-in_err-key-clause-read : goal.read_pairs-returns-in_err-key-clause-read
read_pairs-returns-in_err-key-clause-read t c =
    let p = err_from_is_err_and c.from_residual-in_err-key.result c.from_residual-in_err-key.ensures.1 in
    rw (p.1, p.2) (key_stops (level_by (inside c.args.depth)) c.args.w (pair_views c.loop.entries.items) (keys_before none c.loop.entries.items) c.args.count c.loop.counter c.loop.left
    c.loop.rest.now _ _ c.loop-test.true c.in_err-key.ensures.read c.loop.invariant.same)

pub read_pairs-returns-then-not-branch-clause-read : goal.read_pairs-returns-then-not-branch-clause-read
read_pairs-returns-then-not-branch-clause-read t c =
    let old : c.in_ok-insert.field-0 ≡ false = search rules in
    let there = known_key (view c.in_ok-key.key) c.loop.keys (keys_before none c.loop.entries.items) true _ c.in_ok-insert.ensures.new old c.loop.invariant.seen in
    rw c.place.ensures (inr (key_again (level_by (inside c.args.depth)) c.args.w (pair_views c.loop.entries.items) (keys_before none c.loop.entries.items) c.args.count c.loop.counter c.loop.left
    c.in_ok-key.less c.loop.rest.now c.in_ok-key.behind.now (view c.in_ok-key.key) _ c.loop-test.true c.in_ok-key.ensures.read there c.loop.invariant.same))

pub read_pairs-returns-in_err-value-clause-read : goal.read_pairs-returns-in_err-value-clause-read
read_pairs-returns-in_err-value-clause-read t c =
    let p = err_from_is_err_and c.from_residual-in_err-value.result c.from_residual-in_err-value.ensures.1 in
    let new : c.in_ok-insert.field-0 ≡ true = search rules in
    let unseen = known_key (view c.in_ok-key.key) c.loop.keys (keys_before none c.loop.entries.items) false _ c.in_ok-insert.ensures.new new c.loop.invariant.seen in
    rw (p.1, p.2) (value_stops (level_by (inside c.args.depth)) c.args.w (pair_views c.loop.entries.items) (keys_before none c.loop.entries.items) c.args.count c.loop.counter c.loop.left
    c.in_ok-key.less c.loop.rest.now c.in_ok-key.behind.now (view c.in_ok-key.key) _ _ c.loop-test.true c.in_ok-key.ensures.read unseen c.in_err-value.ensures.read c.loop.invariant.same)

pub read_pairs-loop-preserved : goal.read_pairs-loop-preserved
read_pairs-loop-preserved t c =
    let new : c.in_ok-insert.field-0 ≡ true = search rules in
    let unseen = known_key (view c.in_ok-key.key) c.loop.keys (keys_before none c.loop.entries.items) false _ c.in_ok-insert.ensures.new new c.loop.invariant.seen in
    record {
      same = rw c.in_ok-push.ensures.items (pairs_keep_on (level_by (inside c.args.depth)) c.args.w c.loop.entries.items c.in_ok-key.key c.in_ok-value.value c.args.count c.loop.counter c.loop.left
          c.in_ok-key.less c.in_ok-value.less c.loop.rest.now c.in_ok-key.behind.now c.in_ok-value.behind.now _ c.loop-test.true c.in_ok-key.ensures.read unseen c.in_ok-value.ensures.read
          c.loop.invariant.same);
      shorter = omega (arith, c.in_ok-key.ensures.rest, c.in_ok-value.ensures.rest, c.loop.invariant.shorter);
      seen = λ octets. rw c.in_ok-push.ensures.items (
          c.in_ok-insert.ensures.ok octets
          ∙ ap (λ (b : Bool). bytes_eq (image (view c.in_ok-key.key)) octets || b) (c.loop.invariant.seen octets)
          ∙ sym (has_image-push octets c.loop.entries.items c.in_ok-key.key c.in_ok-value.value));
    }

pub read_pairs-returns-clause-read : goal.read_pairs-returns-clause-read
read_pairs-returns-clause-read t c =
    all_pairs_kept (level_by (inside c.args.depth)) c.args.w (pair_views c.loop.entries.items) (keys_before none c.loop.entries.items) c.args.count c.loop.counter c.loop.left c.loop.rest.now _
    c.loop-test.false c.loop.invariant.same

pub read_values-returns-in_err-value-clause-read : goal.read_values-returns-in_err-value-clause-read
read_values-returns-in_err-value-clause-read t c =
    let p = err_from_is_err_and c.from_residual-in_err-value.result c.from_residual-in_err-value.ensures.1 in
    rw (p.1, p.2) (stops (λ within. value_by (inside c.args.depth) within 0) c.args.w (views c.loop.values.items) c.args.count c.loop.counter c.loop.left c.loop.rest.now _ _ c.loop-test.true
    c.in_err-value.ensures.read c.loop.invariant.same)

pub read_values-loop-preserved : goal.read_values-loop-preserved
read_values-loop-preserved t c = record {
  same = rw c.in_ok-push.ensures.items (keeps_on (λ within. value_by (inside c.args.depth) within 0) c.args.w c.loop.values.items c.in_ok-value.value c.args.count c.loop.counter c.loop.left
      c.in_ok-value.less c.loop.rest.now c.in_ok-value.behind.now _ c.loop-test.true c.in_ok-value.ensures.read c.loop.invariant.same);
  shorter = omega (arith, c.in_ok-value.ensures.rest, c.loop.invariant.shorter);
}

pub read_values-returns-clause-read : goal.read_values-returns-clause-read
read_values-returns-clause-read t c =
    all_kept (λ within. value_by (inside c.args.depth) within 0) c.args.w (views c.loop.values.items) c.args.count c.loop.counter c.loop.left c.loop.rest.now _ c.loop-test.false c.loop.invariant.same
