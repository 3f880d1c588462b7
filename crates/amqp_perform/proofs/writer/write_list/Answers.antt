use Rattle.std.proofs.Common.{◌<◌, length, take, refl, arith}
use Rattle.std.proofs.lemmas.List.{length-take-le}
use Rattle.amqp_perform.specs.Frames.{field_spellings}
use Rattle.amqp_perform.proofs.Framed.{values_fit, not_written}
use Rattle.amqp_perform.proofs.writer.write_list.Goals as goal

pub returns-in_err-content : goal.returns-in_err-content
returns-in_err-content c =
    let used = take c.used_count-used.result c.args.values.now in
    let few : length used < 256 = omega (arith, c.requires, c.used_count-used.ensures.bound, length-take-le c.used_count-used.result c.args.values.now c.used_count-used.ensures.bound) in
    not_written _ c.from_residual.result _ _ c.from_residual.ensures refl (λ fits.
    let within = values_fit c.args.head.channel c.args.head.descriptor (field_spellings c.args.values.now) used c.args.payload.now (length c.args.out.now) c.used_count-used.ensures.used few fits in
    c.in_err-content.ensures (omega (arith, within.0, within.1, c.min-room.ensures)))

pub returns : goal.returns
returns c = c.write_many.ensures (field_spellings c.args.values.now) c.used_count-used.ensures.used
