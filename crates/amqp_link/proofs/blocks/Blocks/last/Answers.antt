use Rattle.std.proofs.Common.{◌∙◌, ap, sym}
use Rattle.std.specs.Prelude.{drop}
use Rattle.amqp_link.specs.Pieces.{Lying, total}
use Rattle.amqp_link.proofs.Joined.{lies_last}
use Rattle.amqp_link.proofs.blocks.Blocks.last.Goals as goal

pub returns-clause-lies : goal.returns-clause-lies
returns-clause-lies g c =
    ap (λ (l : Lying). drop (total l.before) l.bytes) (sym c.self.view_is) ∙ lies_last c.self.inside.whole.items c.self.inside.last.items ∙ sym c.deref.ensures.value
