use Rattle.std.proofs.Common.{◌≡◌, ℕ, ◌-◌, List, [], ◌++◌, Some, length, take, drop, sym, ap, subst, ◌∙◌}
use Rattle.amqp_sasl.specs.declared.layer.Outcome.{Outcome}
use Rattle.amqp_sasl.specs.Exchanges.{told, IsApart}
use Rattle.amqp_sasl.proofs.Pieces.{pieced, mapped}
use Rattle.amqp_sasl.proofs.replays.bring.Goals as goal

pub returns-in-More-clause-exact : goal.returns-in-More-clause-exact
returns-in-More-clause-exact c =
    let old = c.args.behind.now.items in
    let piece = c.args.piece.now in
    let new = c.hear-used.new.sasl in
    let answer = Some c.args.admitted in
    let rest = take (length piece - c.hear-used.result) (drop c.hear-used.result piece) in
    let none : old ≡ [] = subst (λ (o : Outcome). IsApart o old) (sym c.outcome.ensures.stage ∙ c.in-More.is) c.requires in
    mapped c.keep.result _ _
    (λ keeps more.
    ap (λ (l : List ℕ). told c.args.sasl.now answer (l ++ (piece ++ more))) none
    ∙ ap (told c.args.sasl.now answer) (pieced c.hear-used.result piece more)
    ∙ c.hear-used.ensures.exact (rest ++ more)
    ∙ ap (λ (l : List ℕ). told new answer (l ++ (rest ++ more))) (sym none)
    ∙ keeps c.args.admitted more)
    c.keep.ensures.exact
