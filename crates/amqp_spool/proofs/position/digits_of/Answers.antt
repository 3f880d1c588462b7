use Rattle.std.proofs.Common.{◌-◌, ℕ, ◌++◌, arith, length-set, drop, sym, ap, ◌∙◌}
use Rattle.amqp_spool.specs.Digits.{last_digits}
use Rattle.amqp_spool.proofs.PositionTexts.{one_more, none_left}
use Rattle.amqp_spool.proofs.position.digits_of.Goals as goal

pub digits-preserved : goal.digits-preserved
digits-preserved c =
    let i = c.digits.invariant in
    record {
      within = omega arith;
      long = length-set c.digits.digits (c.digits.place - 1) _ ∙ i.long;
      whole = i.whole ∙ one_more c.digits.digits c.digits.place (c.digits.place - 1) c.digits.front (omega arith) (omega arith);
    }

pub returns : goal.returns
returns c =
    let i = c.digits.invariant in
    sym (i.whole ∙ ap (λ (p : ℕ). last_digits p c.digits.front ++ drop p c.digits.digits) (omega arith) ∙ none_left c.digits.front c.digits.digits)
