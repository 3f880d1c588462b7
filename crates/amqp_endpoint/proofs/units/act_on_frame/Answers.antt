use Rattle.std.proofs.Common.{arith, ◌≡◌, ℕ, ◌-◌, List, Ok, length, take, drop, sym, ap, subst, ◌∙◌}
use Rattle.std.proofs.lemmas.List.{length-drop, take_all}
use Rattle.amqp_perform.specs.declared.descriptor.Descriptor.TheVariants as of_type
use Rattle.amqp_perform.specs.declared.performative.Performative.TheVariants as performative
use Rattle.amqp_perform.specs.BodyReading.{IsRead}
use Rattle.amqp_perform.specs.Performatives.{transfer_cells}
use Rattle.amqp_endpoint.specs.Acting.{HasDone}
use Rattle.amqp_endpoint.specs.Fields.{Read, read_of}
use Rattle.amqp_endpoint.specs.Lines.{Line, opened_line}
use Rattle.amqp_endpoint.proofs.Staying.{opened_at}
use Rattle.amqp_endpoint.proofs.units.act_on_frame.Goals as goal

pub returns-in-Some : goal.returns-in-Some
returns-in-Some g c =
    let s = c.args.connection.now in
    let transfer = performative.Transfer c.read_transfer_into.new.transfer in
    let payload = drop c.in-Some.len c.args.body.now in
    let whole = take (length c.args.body.now - c.in-Some.len) payload in
    let all : take (length c.args.body.now - c.in-Some.len) payload ≡ payload = take_all (length c.args.body.now - c.in-Some.len) payload (omega (arith, length-drop c.in-Some.len c.args.body.now)) in
    let read : IsRead c.args.body.now (Ok (transfer, c.in-Some.len)) = c.in-Some.ensures.exact in
    subst (λ (l : Line). HasDone s c.act_on_transfer.new.connection c.args.out.now c.act_on_transfer.new.out l c.act_on_transfer.result)
    (sym (opened_at s c.args.channel c.args.body.now (of_type.Transfer, transfer_cells c.read_transfer_into.new.transfer, payload) (c.is_open.ensures.awake c.if-is_open.true) (c.is_open.ensures.open c.if-is_open.true)
    (omega (arith, c.channel_limit.ensures.value)) read
    ∙ ap (λ (r : Read). opened_line s c.args.channel r) (c.fields_say_the_performative.ensures s.config transfer payload)
    ∙ ap (λ (bytes : List ℕ). opened_line s c.args.channel (read_of s.config transfer bytes)) (sym all)))
    c.act_on_transfer.ensures
