use Rattle.std.proofs.Common.{rules, ◌≡◌, ◌≤◌, ◌%◌, arith, length, sym, ◌∙◌}
use Rattle.std.proofs.lemmas.Grind.{common_steps}
use Rattle.amqp_script.proofs.HexTexts.{decodes, decoded}
use Rattle.amqp_script.proofs.digits.is_hex.Goals as goal

pub returns-then-text-eq0 : goal.returns-then-text-eq0
returns-then-text-eq0 c =
    let some : 1 ≤ length c.args.text.now = first_of (search rules, grind (arith, common_steps)) in
    let even : length c.args.text.now % 2 ≡ 0 = first_of (search rules, grind (arith, common_steps)) in
    (λ all. (some, decodes c.args.text.now even (sym c.are_digits.ensures ∙ all)), λ ok. c.are_digits.ensures ∙ (decoded c.args.text.now ok.1).1)
