use Rattle.std.proofs.Common.{◌≡◌, ℕ, List, arith, length, sym, ap, ◌∙◌}
use Rattle.std.proofs.lemmas.List.{length-take-le}
use Rattle.std.proofs.lemmas.Slice.Eq.{slice_eq-Decides}
use Rattle.std.specs.Cmp.{unsigned_Decides}
use Rattle.amqp_spool.specs.declared.position.Position.{Position}
use Rattle.amqp_spool.specs.Positions.{position_text}
use Rattle.amqp_spool.proofs.PositionPlaces.{position_long, spool_at, number_at}
use Rattle.amqp_spool.proofs.position.Position.read.Goals as goal

abbrev position_with : List ℕ → ℕ → Position
position_with spool number = record { spool = spool; number = number }

pub returns-then-bytes-ne-POSITION-clause-none : goal.returns-then-bytes-ne-POSITION-clause-none
returns-then-bytes-ne-POSITION-clause-none c = λ _ p is same. c.if-bytes-ne-POSITION.true (ap (λ (l : List ℕ). length l) same ∙ position_long p is)

pub slice_bounds-spool_in-end : goal.slice_bounds-spool_in-end
slice_bounds-spool_in-end c = sym (length-take-le 32 c.args.bytes.now (omega arith))

pub returns-in_err-spool-clause-none : goal.returns-in_err-spool-clause-none
returns-in_err-spool-clause-none c = λ _ p is same.
    let some = sym c.in_err-spool.was ∙ c.spool_in.ensures p.spool is.spool is.bytes (spool_at p is c.args.bytes.now same) in
    cc some

pub returns-in_err-number-clause-none : goal.returns-in_err-number-clause-none
returns-in_err-number-clause-none c = λ _ p is same.
    let some = sym c.in_err-number.was ∙ c.number_in.ensures p.number is.number (number_at p is c.args.bytes.now same) in
    cc some

pub returns-else-eq-clause-none : goal.returns-else-eq-clause-none
returns-else-eq-clause-none c = λ _ p is whole.
    let text = c.args.bytes.now in
    let spool = sym c.in_ok-spool.was ∙ c.spool_in.ensures p.spool is.spool is.bytes (spool_at p is text whole) in
    let number = sym c.in_ok-number.was ∙ c.number_in.ensures p.number is.number (number_at p is text whole) in
    let same_spool : c.in_ok-spool.spool ≡ p.spool = cc spool in
    let same_number : c.in_ok-number.number ≡ p.number = cc number in
    let same = ap (λ (x : List ℕ). position_with x c.in_ok-number.number) same_spool ∙ ap (λ (n : ℕ). position_with p.spool n) same_number in
    let equal = (slice_eq-Decides unsigned_Decides c.as_slice.result.now text _ (sym c.if-eq.false ∙ c.eq.ensures)).1 (c.as_slice.ensures ∙ c.to_bytes.ensures ∙ ap (λ (q : Position). position_text q) same ∙ sym whole) in
    absurd (grind (arith, equal))
