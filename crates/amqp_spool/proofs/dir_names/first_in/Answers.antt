use Rattle.std.proofs.Common.{◌≢◌, ℕ, arith, List, length, get_or, sym, ap, ◌∙◌, codes}
use Rattle.std.proofs.lemmas.Str.Pattern.{starts_char}
use Rattle.std.specs.Result.{result_ok}
use Rattle.amqp_spool.specs.Digits.{last_digits}
use Rattle.amqp_spool.proofs.LastDigits.{length-last_digits, parsed}
use Rattle.amqp_spool.proofs.SegmentNames.{stripped, front_is, no_plus, read_is, named}
use Rattle.amqp_spool.proofs.dir_names.first_in.Goals as goal
use Rattle.amqp_spool.proofs.dir_names.first_in.Goals.{then-digits-ne-DIGITS-via-then-digits-ne-DIGITS, then-digits-ne-DIGITS-via-else-digits-ne-DIGITS+then-starts_with}

pub returns-then-digits-ne-DIGITS-clause-found : goal.returns-then-digits-ne-DIGITS-clause-found
returns-then-digits-ne-DIGITS-clause-found c = λ first lt e.
    let digits = c.in_ok-digits.digits.now in
    let same = front_is (codes ".seg") c.args.name.now digits (last_digits 20 first) c.in_ok-digits.ensures.cases e in
    elim c.then-digits-ne-DIGITS.branch [
      | then-digits-ne-DIGITS-via-then-digits-ne-DIGITS w ↦ absurd (w.if-digits-ne-DIGITS.true (ap (λ (l : List ℕ). length l) same ∙ length-last_digits 20 first))
      | then-digits-ne-DIGITS-via-else-digits-ne-DIGITS+then-starts_with w ↦
          let plus = (starts_char 43 digits w.starts_with.result w.starts_with.ensures.cases (omega arith) (omega arith)).0 w.if-starts_with.true in
          absurd (no_plus first (sym (ap (λ (l : List ℕ). get_or l 0 0) same) ∙ plus))
    ]

pub returns-clause-is : goal.returns-clause-is
returns-clause-is c =
    let digits = c.in_ok-digits.digits.now in
    let whole = stripped (codes ".seg") c.args.name.now digits c.in_ok-digits.ensures.cases in
    let plain : get_or digits 0 0 ≢ 43 = λ plus.
    let starts = (starts_char 43 digits c.starts_with.result c.starts_with.ensures.cases (omega arith) (omega arith)).1 plus in
    cc (sym starts ∙ c.if-starts_with.false) in
    named c.args.name.now digits (codes ".seg") c.ok.result c.parse.result whole c.ok.ensures.value (read_is digits c.parse.result (omega (arith, c.if-digits-ne-DIGITS.false)) plain c.parse.ensures.value.0)

pub returns-clause-found : goal.returns-clause-found
returns-clause-found c = λ first lt e.
    let digits = c.in_ok-digits.digits.now in
    let same = front_is (codes ".seg") c.args.name.now digits (last_digits 20 first) c.in_ok-digits.ensures.cases e in
    c.ok.ensures.value ∙ ap (λ r. result_ok r) (parsed digits first c.parse.result lt same c.parse.ensures.value.0)
