use Rattle.std.proofs.Common.{arith, suc, ◌+◌, ◌≡◌, ◌∙◌, ap, false, None, List}
use Rattle.amqp_session.specs.Places.{tabulate}
use Rattle.amqp_session.specs.declared.slot.Slot.{Slot}
use Rattle.amqp_session.specs.declared.slot.Slot.TheVariants.{Free}
use Rattle.amqp_session.specs.Sessions.{SessionState}
use Rattle.amqp_endpoint.specs.declared.phase.Phase.TheVariants as phase
use Rattle.amqp_endpoint.specs.Keeping.{connection_of}
use Rattle.amqp_endpoint.proofs.Tables.{free_placed}
use Rattle.amqp_endpoint.proofs.connection.Connection.new.Goals as goal

pub invariant_of-result : goal.invariant_of-result
invariant_of-result g c =
    let n = c.channel_max.result + 1 in
    let count : n ≡ suc c.args.config.channel_max = omega (arith, c.channel_max.ensures.value) in
    free_placed c.args.config c.in_ok-places.places.items (omega (arith, c.channel_max.ensures.most, c.channel_max.ensures.value)) (c.in_ok-places.ensures ∙ ap (λ n. tabulate 0 n (λ k. Free)) count)

pub returns : goal.returns
returns g c =
    let n = c.channel_max.result + 1 in
    let count : n ≡ suc c.args.config.channel_max = omega (arith, c.channel_max.ensures.value) in
    ap (λ (xs : List (Slot SessionState)). connection_of c.args.config phase.Unopened false false None xs) (c.in_ok-places.ensures ∙ ap (λ n. tabulate 0 n (λ k. Free)) count)
