use Rattle.std.proofs.Common.{arith, inl, inr, ap, sym, ◌∙◌, length, List, ℕ, ◌≡◌}
use Rattle.std.proofs.lemmas.List.{length-take}
use Rattle.std.proofs.lemmas.Slice.Eq.{slice_eq-Decides}
use Rattle.std.specs.Cmp.{unsigned_Decides}
use Rattle.amqp_spool.specs.declared.head.Head.{Head}
use Rattle.amqp_spool.specs.Heads.{head_text}
use Rattle.amqp_spool.proofs.Placing.{head_long, head_is}
use Rattle.amqp_spool.proofs.head.Head.read.Goals as goal

pub returns-in_default-clause-none : goal.returns-in_default-clause-none
returns-in_default-clause-none c = λ _ head is e.
    let long = ap (λ (l : List ℕ). length l) e in
    elim c.in_default.ensures.lookup.0 [
      | inl x ↦ absurd (omega (arith, x))
      | inr x ↦ absurd (omega (arith, x, long, head_long head is, length-take 80 c.args.bytes.now))
    ]

pub returns-else-eq-clause-none : goal.returns-else-eq-clause-none
returns-else-eq-clause-none c = λ _ head is e.
    let text = c.in-Some.text.now in
    let whole : text ≡ head_text head = c.in-Some.ensures.lookup.0.2 ∙ e in
    let same = head_is head is text whole c.sixteen_at.result c.sixteen_at-2.result c.number_at.result c.number_at-2.result c.number_at-3.result c.number_at-4.result
    c.sixteen_at.ensures c.sixteen_at-2.ensures c.number_at.ensures c.number_at-2.ensures c.number_at-3.ensures c.number_at-4.ensures in
    let equal = (slice_eq-Decides unsigned_Decides c.as_slice.result.now text _ (sym c.if-eq.false ∙ c.eq.ensures)).1 (c.as_slice.ensures ∙ c.to_bytes.ensures ∙ ap (λ (h : Head). head_text h) same ∙ sym whole) in
    absurd (grind (arith, equal))
