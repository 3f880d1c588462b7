use Rattle.std.proofs.Common.{◌+◌, ◌*◌, ◌/◌, arith}
use Rattle.amqp_endpoint.proofs.Fronts.{front_is}
use Rattle.amqp_endpoint.proofs.output.put_front.Goals as goal

pub returns : goal.returns
returns g c =
    let rounded = (c.args.len + 31) / 32 * 32 in
    front_is c.args.len rounded c.fill_from_slice.result (c.len.result + c.args.len) c.args.pipe.now c.fill_from_slice.new.self c.truncate_back.new.self c.args.scratch.now
    (omega arith) (omega (arith, c.requires.short, c.fits-scratch)) c.requires.room
    c.fill_from_slice.ensures.count c.fill_from_slice.ensures.items (omega (arith, c.len.ensures.len)) c.truncate_back.ensures
