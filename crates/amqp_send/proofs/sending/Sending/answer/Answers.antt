use Rattle.std.proofs.Common.{ap, ◌∙◌}
use Rattle.amqp_send.specs.Sendings.{Sending}
use Rattle.amqp_send.proofs.sending.Sending.answer.Goals as goal

pub invariant_of-self : goal.invariant_of-self
invariant_of-self g c =
    let talks = ap (λ (s : Sending). s.talk) c.self.view_is ∙ c.requires.talking in
    record {
      container_id = c.self.invariant.container_id;
      name = c.self.invariant.name;
      frames = rw (c.drained-self-inside.ensures, c.limited-self-inside.ensures) c.self.invariant.frames;
      quiet =
          rw talks tt;
    }

pub invariant_of-self-then-limits-3 : goal.invariant_of-self-then-limits-3
invariant_of-self-then-limits-3 g c =
    let talks = ap (λ (s : Sending). s.talk) c.self.view_is ∙ c.requires.talking in
    record { container_id = c.self.invariant.container_id; name = c.self.invariant.name; frames = rw c.limited-self-inside.ensures c.self.invariant.frames; quiet = rw talks tt }
