use Rattle.std.proofs.Common.{◌≡◌, List, ℕ, Option, ap, sym, ◌∙◌}
use Rattle.amqp_types.specs.declared.kind.Kind.TheVariants as kind
use Rattle.amqp_types.specs.Canonical.{short_form}
use Rattle.amqp_perform.specs.Performatives.{span}
use Rattle.amqp_endpoint.specs.Replies.{time_out_said}
use Rattle.amqp_endpoint.proofs.Replies.{span_number}
use Rattle.amqp_endpoint.proofs.frames.time_out.Goals as goal

pub returns-in-Some : goal.returns-in-Some
returns-in-Some c =
    let n = c.in-Some.milliseconds in
    ap (λ (t : List ℕ). span t) c.uint.ensures ∙ span_number kind.Uint n (short_form kind.Uint n) ∙ ap (λ (o : Option ℕ). time_out_said o) (sym c.in-Some.is)
