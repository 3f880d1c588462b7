use Rattle.std.proofs.Common.{rules, sym}
use Rattle.amqp_types.proofs.MarkLaws.{not_marked}
use Rattle.amqp_types.proofs.marks.Marks.insert.Goals.{in-Ok, in-Err}
use Rattle.amqp_types.proofs.marks.Marks.insert.Goals as goal

pub returns-clause-new : goal.returns-clause-new
returns-clause-new c = elim c.match-insert.branch [
  | in-Ok w ↦ rw (w.result-is, sym c.self.view_is) (λ is. not_marked c.args.mark c.self.inside.marks.keys (search rules))
  | in-Err w ↦ search rules
]
