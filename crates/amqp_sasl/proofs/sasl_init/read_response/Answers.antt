use Rattle.std.proofs.Common.{ℕ, List, sym, ap, ◌∙◌}
use Rattle.std.specs.Option.{option_and_then}
use Rattle.amqp_sasl.specs.Composites.{items_at}
use Rattle.amqp_sasl.specs.Inits.{field_in, response_at}
use Rattle.amqp_sasl.proofs.sasl_init.read_response.Goals as goal

pub returns-in-Some : goal.returns-in-Some
unfolding response_at
returns-in-Some c =
    let read = c.in-Some.ensures in
    let at = ap (λ (name : List ℕ). items_at 0x43 name c.args.body.now) (sym c.as_slice.ensures) ∙ read.1 in
    c.response_from.ensures read.0 read.2 ∙ sym (ap (option_and_then field_in) at)
