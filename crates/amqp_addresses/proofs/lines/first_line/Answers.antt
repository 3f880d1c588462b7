-- amqp_addresses/proofs/lines/first_line/Answers.antt
use Rattle.std.proofs.Common.{arith}
use Rattle.std.specs.Prelude.{◌==◌}
use Rattle.amqp_addresses.proofs.Parts.{one_part, first_part}
use Rattle.amqp_addresses.proofs.lines.first_line.Goals as goal

pub returns-then-len-text-clause-parts : goal.returns-then-len-text-clause-parts
returns-then-len-text-clause-parts c = first_part (λ b. b == 10) c.args.text.now c.len_before-len.result c.len_before-len.ensures.value c.if-len-text.true

pub returns-else-len-text-clause-parts : goal.returns-else-len-text-clause-parts
returns-else-len-text-clause-parts c = one_part (λ b. b == 10) c.args.text.now (omega (arith, c.len_before-len.ensures.value, c.len_before-len.ensures.within))
