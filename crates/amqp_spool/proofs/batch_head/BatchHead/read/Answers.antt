use Rattle.std.proofs.Common.{arith, inl, inr, ap, refl, sym, ◌∙◌, ◌++◌, take, drop, List, ℕ, ◌≡◌}
use Rattle.std.proofs.lemmas.Slice.Eq.{slice_eq-Decides}
use Rattle.std.specs.Cmp.{unsigned_Decides}
use Rattle.amqp_spool.specs.declared.batch_head.BatchHead.{BatchHead}
use Rattle.amqp_spool.specs.Heads.{batch_head}
use Rattle.amqp_spool.proofs.Placing.{batch_parts, batch_is, size_at, in_three}
use Rattle.amqp_spool.proofs.batch_head.BatchHead.read.Goals as goal

pub returns-in_default-clause-none : goal.returns-in_default-clause-none
returns-in_default-clause-none c = λ _ head body x.
    let parts = batch_parts c.args.secret.now c.args.bytes.now head body x in
    elim c.in_default.ensures.lookup.0 [
      | inl y ↦ absurd (omega (arith, y))
      | inr y ↦ absurd (omega (arith, y, parts.2))
    ]

pub returns-in_default-get-clause-none : goal.returns-in_default-get-clause-none
returns-in_default-get-clause-none c = λ _ head body x.
    let parts = batch_parts c.args.secret.now c.args.bytes.now head body x in
    let text = c.in-Some.ensures.lookup.0.2 ∙ parts.0 in
    let size = c.small_at.ensures ∙ size_at c.args.secret.now head body x.is c.in-Some.text.now text in
    elim c.in_default-get.ensures.lookup.0 [
      | inl y ↦ absurd (omega (arith, y))
      | inr y ↦ absurd (omega (arith, y, parts.2, size))
    ]

pub returns-then-eq-clause-some : goal.returns-then-eq-clause-some
returns-then-eq-clause-some c =
    let n = c.small_at.result in
    let bytes = c.args.bytes.now in
    let text = c.in-Some.text.now in
    let body = c.in-Some-get.body.now in
    let got = c.in-Some-get.ensures.lookup.0 in
    let cut : body ≡ take n (drop 32 bytes) = got.2 ∙ ap (λ (k : ℕ). take k (drop 32 bytes)) (omega arith) in
    let same = (slice_eq-Decides unsigned_Decides c.as_slice.result.now text _ (sym c.if-eq.true ∙ c.eq.ensures)).0 refl in
    let head : text ≡ c.to_bytes.result = sym same ∙ c.as_slice.ensures in
    record {
      is = record { size = omega (arith, got.3); small = c.small_at.type_inv; count = c.small_at-2.type_inv; first = c.number_at.type_inv; arrived = c.number_at-2.type_inv };
      rest = drop n (drop 32 bytes);
      whole = in_three bytes text body n c.in-Some.ensures.lookup.0.2 cut ∙ ap (λ (l : List ℕ). (l ++ body) ++ drop n (drop 32 bytes)) (head ∙ c.to_bytes.ensures);
    }

pub returns-else-eq-clause-none : goal.returns-else-eq-clause-none
returns-else-eq-clause-none c = λ _ head body x.
    let secret = c.args.secret.now in
    let parts = batch_parts secret c.args.bytes.now head body x in
    let text = c.in-Some.text.now in
    let whole : text ≡ batch_head secret head body = c.in-Some.ensures.lookup.0.2 ∙ parts.0 in
    let same = batch_is secret head body x.is text whole c.small_at.result c.small_at-2.result c.number_at.result c.number_at-2.result c.small_at.ensures c.small_at-2.ensures c.number_at.ensures c.number_at-2.ensures in
    let size = ap (λ (h : BatchHead). h.size) same in
    let got = c.in-Some-get.ensures.lookup.0.2 in
    let cut : c.in-Some-get.body.now ≡ body =
    got ∙ ap (λ (k : ℕ). take k (drop 32 c.args.bytes.now)) (omega (arith, size)) ∙ parts.1 in
    let written = c.as_slice.ensures ∙ c.to_bytes.ensures ∙ ap (λ (h : BatchHead). batch_head secret h c.in-Some-get.body.now) same ∙ ap (λ (l : List ℕ). batch_head secret head l) cut ∙ sym whole in
    let equal = (slice_eq-Decides unsigned_Decides c.as_slice.result.now text _ (sym c.if-eq.false ∙ c.eq.ensures)).1 written in
    absurd (grind (arith, equal))
