use Rattle.std.proofs.Common.{ℕ, ◌≤◌, length, take, Option, sym, subst, arith}
use Rattle.std.specs.List.{concat}
use Rattle.std.specs.Option.{SomeIff}
use Rattle.amqp_perform.specs.Frames.{field_spellings}
use Rattle.amqp_perform.proofs.Trims.{trimmed_width}
use Rattle.amqp_perform.proofs.writer.content_width.Goals as goal

pub returns-in_err-width : goal.returns-in_err-width
returns-in_err-width c =
    let all = trimmed_width c.args.values.now c.args.used c.requires.bound c.requires.nulls in
    let width = length (concat (field_spellings (take c.args.used c.args.values.now))) in
    subst (λ (r : Option ℕ). SomeIff r (width ≤ c.args.room) width) (sym c.from_residual.ensures)
    (λ fits. c.in_err-width.ensures (omega (arith, all, fits, c.requires.bound)))

pub overflow_sub-result : goal.overflow_sub-result
overflow_sub-result c =
    let all = trimmed_width c.args.values.now c.args.used c.requires.bound c.requires.nulls in
    omega (arith, all, c.in_ok-width.ensures.1, c.requires.bound)

pub returns : goal.returns
returns c =
    let all = trimmed_width c.args.values.now c.args.used c.requires.bound c.requires.nulls in
    (omega (arith, all, c.in_ok-width.ensures.0, c.in_ok-width.ensures.1, c.requires.bound), omega (arith, all, c.in_ok-width.ensures.1, c.requires.bound))
