use Rattle.std.proofs.Common.{ap, ◌∙◌}
use Rattle.amqp_frame.specs.Units.{due_after}
use Rattle.amqp_frame.proofs.Fronts.{one_waits}
use Rattle.amqp_frame.proofs.Histories.{unit_went}
use Rattle.amqp_frame.proofs.split.Splitter.drop_frame.Goals as goal

pub returns-in-Some-clause-history : goal.returns-in-Some-clause-history
returns-in-Some-clause-history g c =
    let next = c.in-Some.ensures in
    let emptied = rw (← c.self.view_is) at c.begin.ensures in
    rw (← c.self.view_is) (λ us taken u went waits.
    let same = one_waits c.self.inside.limit c.self.inside.stage c.self.inside.bytes.filled next.0 u c.self.invariant.least (rw c.as_slice.ensures at next.1) waits in
    unit_went _ _ us taken u (record { limit = emptied.limit; stage = emptied.stage ∙ next.2 ∙ ap due_after same; filled = emptied.filled }) went waits)
