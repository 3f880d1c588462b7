-- amqp_addresses/proofs/lines/len_before/Answers.antt
use Rattle.std.proofs.Common.{arith, eq-eqb, length, sym}
use Rattle.std.specs.Prelude.{◌==◌}
use Rattle.std.proofs.lemmas.List.Sums.{position_or_len_is}
use Rattle.amqp_addresses.proofs.lines.len_before.Goals as goal

pub returns-then-byte-end-clause-value : goal.returns-then-byte-end-clause-value
returns-then-byte-end-clause-value c =
    sym (position_or_len_is (λ x. x == c.args.end) c.args.text.now c.loop-at.at 0 (omega arith) c.loop-at.invariant (λ _. eq-eqb _ _ c.if-byte-end.true))

pub returns-clause-value : goal.returns-clause-value
returns-clause-value c =
    sym (position_or_len_is (λ x. x == c.args.end) c.args.text.now (length c.args.text.now) 0 (omega arith)
    (λ k low. c.loop-at.invariant k (omega (arith, low, c.loop-at-test.false))) (λ low. absurd (omega (arith, low))))
