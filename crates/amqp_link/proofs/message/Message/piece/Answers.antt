use Rattle.std.proofs.Common.{◌∙◌, ◌-◌, ◌%◌, ◌++◌, ℕ, List, drop, ap, sym}
use Rattle.amqp_link.proofs.Joined.{front_of}
use Rattle.amqp_link.proofs.message.Message.piece.Goals as goal

pub returns-clause-front : goal.returns-clause-front
returns-clause-front g c =
    let behind = c.from.ensures.front in
    let at = c.args.at in
    let front = front_of c.args.self.now c.from.result.now behind.0 at (4096 - at % 4096) (ap (λ (l : List ℕ). drop at l) (sym c.self.view_is) ∙ behind.1) in
    (front.0, front.1 ∙ ap (λ (l : List ℕ). l ++ front.0) (sym c.first.ensures))
