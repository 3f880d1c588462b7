use Rattle.std.proofs.Common.{◌≡◌, ◌≤◌, ℕ, ◌+◌, ◌-◌, ◌*◌, ◌/◌, ◌<◌, List, arith, ap, drop, inl, inr, length, sym, ◌∙◌}
use Rattle.std.specs.Simd.{first_chunks}
use Rattle.hex.proofs.Pairs.{decode_start}
use Rattle.amqp_script.proofs.HexTexts.{length-first_chunks, pair_step, pairs_left, pairs_read}
use Rattle.amqp_script.proofs.digits.read_pairs.Goals as goal

pub loop-index-init : goal.loop-index-init
loop-index-init c =
    let text : List ℕ = c.args.text.now in
    let all : length text / 2 ≡ length text / 2 - 0 = omega arith in
    rw (c.into_iter-index-iterator.ensures.into_iter_gives, c.zip-index-items.ensures.first) record {
      end = c.requires;
      left = c.zip-index-items.ensures.second.0 ∙ c.as_chunks.ensures.front ∙ ap (λ (k : ℕ). first_chunks 2 k text) all;
      read = λ bytes is. decode_start text c.args.out.now;
    }

pub loop-index-preserved : goal.loop-index-preserved
loop-index-preserved c =
    let text : List ℕ = c.args.text.now in
    let i : ℕ = c.loop-index.index-iterator.a.start in
    let step = c.in-Some.ensures.steps in
    let below : i < length text / 2 = omega (arith, step.0.1.0, c.loop-index.invariant.end) in
    let room : i < length c.loop-index.out = omega (arith, below, c.loop-index.auto.out, c.requires) in
    let fits : 2 * i + 1 < length text = omega (arith, below) in
    let here = pairs_left text _ _ i (length text / 2) below (sym c.loop-index.invariant.left ∙ step.1) in
    record {
      end = step.0.0 ∙ c.loop-index.invariant.end;
      left = rw step.0.1.2 here.1;
      read = λ bytes is.
          rw (step.0.1.2, step.0.1.1)
          (pair_step text c.loop-index.out bytes c.in-Some.pair.now i c.value_of.result c.value_of-in-loop-index.result is
          (λ k. omega (arith, c.type_inv.text k)) fits room here.0 c.value_of.ensures c.value_of-in-loop-index.ensures (c.loop-index.invariant.read bytes is));
    }

pub returns-clause-read : goal.returns-clause-read
returns-clause-read c = λ bytes is.
    let text : List ℕ = c.args.text.now in
    let i : ℕ = c.loop-index.index-iterator.a.start in
    let half : length c.loop-index.out ≡ length text / 2 = c.loop-index.auto.out ∙ c.requires in
    let done : length c.loop-index.out ≤ i = elim c.in-None.ensures.steps [
      | inl first ↦ omega (arith, first.1.1.0, c.loop-index.invariant.end, half)
      | inr second ↦
          let none = sym (length-first_chunks 2 (length text / 2 - i) (drop (2 * i) text)) ∙ ap length (sym c.loop-index.invariant.left) ∙ second.1.0 in
          omega (arith, none, half)
    ] in
    pairs_read text c.loop-index.out bytes i is half done (c.loop-index.invariant.read bytes is)
