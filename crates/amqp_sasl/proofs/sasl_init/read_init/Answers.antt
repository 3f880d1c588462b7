use Rattle.std.proofs.Common.{ℕ, List, Option, sym, ap, subst, ◌∙◌}
use Rattle.std.specs.Option.{option_and_then}
use Rattle.amqp_sasl.specs.Composites.{items_at}
use Rattle.amqp_sasl.specs.Inits.{Fields, Reads, fields_in, init_at}
use Rattle.amqp_sasl.proofs.sasl_init.read_init.Goals as goal

pub returns-in-Some : goal.returns-in-Some
unfolding init_at
returns-in-Some c =
    let read = c.in-Some.ensures in
    let at = ap (λ (name : List ℕ). items_at 0x41 name c.args.body.now) (sym c.as_slice.ensures) ∙ read.1 in
    subst (λ (x : Option Fields). Reads c.init_from.result x) (sym (ap (option_and_then fields_in) at)) (c.init_from.ensures read.0 read.2)
