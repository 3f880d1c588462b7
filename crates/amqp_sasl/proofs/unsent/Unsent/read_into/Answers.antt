use Rattle.std.proofs.Common.{ℕ, List, ◌-◌, ◌≤◌, ◌∙◌, drop, take, ap, arith}
use Rattle.amqp_sasl.proofs.Buffers.{shifted}
use Rattle.amqp_sasl.proofs.unsent.Unsent.read_into.Goals as goal

pub returns-clause-left : goal.returns-clause-left
returns-clause-left c =
    let count : c.min-count.result ≤ c.self.inside.len = omega arith in
    ap (λ (l : List ℕ). take (c.self.inside.len - c.min-count.result) l) c.copy_within.ensures.after
    ∙ shifted c.self.inside.bytes c.self.inside.len c.min-count.result count (omega arith)
    ∙ ap (λ (l : List ℕ). drop c.min-count.result l) c.self.view_is
