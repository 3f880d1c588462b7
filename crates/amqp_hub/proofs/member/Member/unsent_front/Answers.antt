use Rattle.std.proofs.Common.{ℕ, List, ◌++◌, ap, sym, ◌∙◌}
use Rattle.amqp_serve.specs.Servers.{waiting}
use Rattle.amqp_hub.specs.Members.{MemberState, unsent_of}
use Rattle.amqp_hub.proofs.member.Member.unsent_front.Goals as goal

pub returns-else-is_empty-clause-front : goal.returns-else-is_empty-clause-front
returns-else-is_empty-clause-front g c =
    let rest = waiting c.self.inside.server in
    (rest, sym (ap (λ (m : MemberState). unsent_of m) c.self.view_is) ∙ ap (λ (l : List ℕ). l ++ rest) (sym c.deref.ensures.value))
