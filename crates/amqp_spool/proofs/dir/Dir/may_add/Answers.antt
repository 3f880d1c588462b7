use Rattle.std.proofs.Common.{arith, List, length, slice_get, ap, ◌∙◌}
use Rattle.amqp_spool.specs.declared.segments.Named.{Named}
use Rattle.amqp_spool.proofs.Additions.{but_less}
use Rattle.amqp_spool.proofs.dir.Dir.may_add.Goals as goal

pub returns-in-Some : goal.returns-in-Some
returns-in-Some g c = record {
  few = λ same fits bytes.
      let items = c.args.self.now.segments.list.items in
      let first = c.in-Some.ensures.value ∙ ap (λ (l : List Named). slice_get l 0) c.deref.ensures.value in
      omega (arith, but_less items c.in-Some.newest.now c.args.first first same, fits, ap (λ (l : List Named). length l) c.deref.ensures.value, c.deref.ensures.len);
}
