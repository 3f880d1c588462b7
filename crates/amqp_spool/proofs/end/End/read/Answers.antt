use Rattle.std.proofs.Common.{arith, ap, sym, ◌∙◌, List, ℕ, length}
use Rattle.std.proofs.lemmas.Slice.Eq.{slice_eq-Decides}
use Rattle.std.specs.Cmp.{unsigned_Decides}
use Rattle.amqp_spool.specs.declared.end.End.{End}
use Rattle.amqp_spool.specs.Ends.{end_text}
use Rattle.amqp_spool.proofs.EndPlaces.{end_is, end_long}
use Rattle.amqp_spool.proofs.end.End.read.Goals as goal

pub returns-then-bytes-ne-END-clause-none : goal.returns-then-bytes-ne-END-clause-none
returns-then-bytes-ne-END-clause-none c = λ _ e is same. c.if-bytes-ne-END.true (ap (λ (l : List ℕ). length l) same ∙ end_long e is)

pub returns-else-eq-clause-none : goal.returns-else-eq-clause-none
returns-else-eq-clause-none c = λ _ e is whole.
    let text = c.args.bytes.now in
    let same = end_is e is text whole c.sixteen_at.result c.number_at.result c.number_at-2.result c.number_at-3.result c.number_at-4.result
    c.sixteen_at.ensures c.number_at.ensures c.number_at-2.ensures c.number_at-3.ensures c.number_at-4.ensures in
    let equal = (slice_eq-Decides unsigned_Decides c.as_slice.result.now text _ (sym c.if-eq.false ∙ c.eq.ensures)).1 (c.as_slice.ensures ∙ c.to_bytes.ensures ∙ ap (λ (k : End). end_text k) same ∙ sym whole) in
    absurd (grind (arith, equal))
