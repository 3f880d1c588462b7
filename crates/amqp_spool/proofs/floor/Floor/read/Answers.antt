use Rattle.std.proofs.Common.{arith, ap, sym, ◌∙◌, List, ℕ, length}
use Rattle.std.proofs.lemmas.Slice.Eq.{slice_eq-Decides}
use Rattle.std.specs.Cmp.{unsigned_Decides}
use Rattle.amqp_spool.specs.declared.floor.Floor.{Floor}
use Rattle.amqp_spool.specs.Floors.{floor_text}
use Rattle.amqp_spool.proofs.FloorPlaces.{floor_is, floor_long}
use Rattle.amqp_spool.proofs.floor.Floor.read.Goals as goal

pub returns-then-bytes-ne-FLOOR-clause-none : goal.returns-then-bytes-ne-FLOOR-clause-none
returns-then-bytes-ne-FLOOR-clause-none c = λ _ f is same. c.if-bytes-ne-FLOOR.true (ap (λ (l : List ℕ). length l) same ∙ floor_long f is)

pub returns-else-eq-clause-none : goal.returns-else-eq-clause-none
returns-else-eq-clause-none c = λ _ f is whole.
    let text = c.args.bytes.now in
    let same = floor_is f is text whole c.sixteen_at.result c.number_at.result c.number_at-2.result c.sixteen_at.ensures c.number_at.ensures c.number_at-2.ensures in
    let equal = (slice_eq-Decides unsigned_Decides c.as_slice.result.now text _ (sym c.if-eq.false ∙ c.eq.ensures)).1 (c.as_slice.ensures ∙ c.to_bytes.ensures ∙ ap (λ (k : Floor). floor_text k) same ∙ sym whole) in
    absurd (grind (arith, equal))
