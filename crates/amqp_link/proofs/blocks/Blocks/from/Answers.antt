use Rattle.std.proofs.Common.{◌≡◌, ◌-◌, ◌+◌, ℕ, List, [], ◌++◌, length, drop, sym, ap, ◌∙◌, append-nil, arith}
use Rattle.std.proofs.lemmas.List.{length-append, length-drop}
use Rattle.std.proofs.Math.Seq.{drop-append-add}
use Rattle.amqp_link.specs.Pieces.{Lying, joined}
use Rattle.amqp_link.proofs.Joined.{found, passed}
use Rattle.amqp_link.proofs.blocks.Blocks.from.Goals as goal

pub overflow_sub-block : goal.overflow_sub-block
overflow_sub-block g c =
    let there = found c.self.inside.whole.items c.deref-2.result.now c.deref.result.now c.self.inside.last.items c.args.at c.block_at.result c.in-Some.block.now c.deref-2.ensures.value c.deref.ensures.value c.self.invariant.2.each c.block_at.ensures.before c.block_at.ensures.behind c.in-Some.ensures.lookup.3.0 (c.in-Some.ensures.lookup.3.1 c.in-Some.block.now) in
    omega (arith, there.own, c.len.ensures ∙ c.in-Some.block.now.bytes.ok.0)

pub overflow_sub-at : goal.overflow_sub-at
overflow_sub-at g c =
    let there = found c.self.inside.whole.items c.deref-2.result.now c.deref.result.now c.self.inside.last.items c.args.at c.block_at.result c.in-Some.block.now c.deref-2.ensures.value c.deref.ensures.value c.self.invariant.2.each c.block_at.ensures.before c.block_at.ensures.behind c.in-Some.ensures.lookup.3.0 (c.in-Some.ensures.lookup.3.1 c.in-Some.block.now) in
    omega (arith, there.from, c.len.ensures ∙ c.in-Some.block.now.bytes.ok.0)

pub returns-in-Some-clause-front : goal.returns-in-Some-clause-front
returns-in-Some-clause-front g c =
    let block = c.in-Some.block.now in
    let at = c.args.at in
    let all = joined c.self.inside.whole.items ++ c.self.inside.last.items in
    let there = found c.self.inside.whole.items c.deref-2.result.now c.deref.result.now c.self.inside.last.items c.args.at c.block_at.result c.in-Some.block.now c.deref-2.ensures.value c.deref.ensures.value c.self.invariant.2.each c.block_at.ensures.before c.block_at.ensures.behind c.in-Some.ensures.lookup.3.0 (c.in-Some.ensures.lookup.3.1 c.in-Some.block.now) in
    let from : at - (block.end - length block.bytes.items) ≡ at - (block.end - c.len.result) = ap (λ (n : ℕ). at - (block.end - n)) (sym (c.len.ensures ∙ block.bytes.ok.0)) in
    let here : at ≡ at - 0 = omega arith in
    let is : drop at all ≡ drop (at - (block.end - c.len.result)) c.deref-in-Some.result.now ++ there.rest =
    ap (λ (n : ℕ). drop n all) here
    ∙ there.is
    ∙ ap (λ (n : ℕ). drop n block.bytes.items ++ there.rest) from
    ∙ ap (λ (l : List ℕ). drop (at - (block.end - c.len.result)) l ++ there.rest) (sym c.deref-in-Some.ensures.value) in
    (there.rest, ap (λ (l : Lying). drop at l.bytes) (sym c.self.view_is) ∙ is ∙ ap (λ (l : List ℕ). l ++ there.rest) (sym c.tail.ensures))

pub returns-in-Some-clause-some : goal.returns-in-Some-clause-some
returns-in-Some-clause-some g c =
    let block = c.in-Some.block.now in
    let from = c.args.at - (block.end - c.len.result) in
    let there = found c.self.inside.whole.items c.deref-2.result.now c.deref.result.now c.self.inside.last.items c.args.at c.block_at.result c.in-Some.block.now c.deref-2.ensures.value c.deref.ensures.value c.self.invariant.2.each c.block_at.ensures.before c.block_at.ensures.behind c.in-Some.ensures.lookup.3.0 (c.in-Some.ensures.lookup.3.1 c.in-Some.block.now) in
    let long = length-drop from c.deref-in-Some.result.now in
    λ lt. omega (arith, long, there.own, there.from, there.before, c.len.ensures ∙ block.bytes.ok.0, ap length c.deref-in-Some.ensures.value, ap length c.tail.ensures)

pub overflow_sub-at-in-None : goal.overflow_sub-at-in-None
overflow_sub-at-in-None g c =
    let behind = passed c.self.inside.whole.items c.deref-2.result.now c.deref.result.now c.args.at c.block_at.result c.deref-2.ensures.value c.deref.ensures.value c.self.invariant.2.each c.block_at.ensures.before (omega (arith, c.in-None.ensures.lookup)) in
    omega (arith, behind, c.self.invariant.0, length-append (joined c.self.inside.whole.items) c.self.inside.last.items, c.len-in-None.ensures ∙ c.self.inside.last.ok.0)

pub returns-in-None-clause-front : goal.returns-in-None-clause-front
returns-in-None-clause-front g c =
    let at = c.args.at in
    let before = joined c.self.inside.whole.items in
    let last = c.self.inside.last.items in
    let behind = passed c.self.inside.whole.items c.deref-2.result.now c.deref.result.now c.args.at c.block_at.result c.deref-2.ensures.value c.deref.ensures.value c.self.invariant.2.each c.block_at.ensures.before (omega (arith, c.in-None.ensures.lookup)) in
    let from = at - (c.self.inside.len - c.len-in-None.result) in
    let place : at ≡ length before + from = omega (arith, behind, c.self.invariant.0, length-append before last, c.len-in-None.ensures ∙ c.self.inside.last.ok.0) in (
      [],
      ap (λ (l : Lying). drop at l.bytes) (sym c.self.view_is)
          ∙ ap (λ (n : ℕ). drop n (before ++ last)) place
          ∙ drop-append-add before last from
          ∙ ap (λ (l : List ℕ). drop from l) (sym c.deref-in-None.ensures.value)
          ∙ sym (c.tail-in-None.ensures)
          ∙ sym (append-nil c.tail-in-None.result.now),
    )
