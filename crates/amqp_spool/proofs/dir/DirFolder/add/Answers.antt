use Rattle.std.proofs.Common.{arith, ◌≡◌, List, length, refl, ap, ◌∙◌}
use Rattle.amqp_spool.specs.Counting.{put}
use Rattle.amqp_spool.specs.declared.segments.Named.{Named}
use Rattle.amqp_spool.specs.declared.segments.Segments.{Segments}
use Rattle.amqp_spool.proofs.dir.DirFolder.add.Goals as goal

pub returns-in-Ok-clause-few : goal.returns-in-Ok-clause-few
returns-in-Ok-clause-few g c = λ fits.
    let named : Named = record { first = c.args.first; bytes = length c.args.bytes.now } in
    let items : c.name_next.new.self.segments.list.items ≡ put named c.args.self.now.segments.list.items = c.in-Ok.ensures.done ∙ ap (λ (s : Segments). put named s.list.items) c.make.ensures.segments in
    let few = c.if-not-may_add.ensures.few refl fits (length c.args.bytes.now) in
    omega (arith, ap (λ (l : List Named). length l) items, c.name_next.new.self.segments.list.ok.0, few)
