use Rattle.std.proofs.Common.{◌≡◌, ◌+◌, ◌≤◌, true, length, arith, rules, refl}
use Rattle.amqp_frame.specs.Splits.{IsLent, IsTaken}
use Rattle.amqp_endpoint.specs.Calls.{has_room, reply_room, output_size}
use Rattle.amqp_endpoint.specs.Steps.{EndpointState}
use Rattle.amqp_endpoint.proofs.Lents.{room_is, done, without}
use Rattle.amqp_endpoint.proofs.endpoint.Endpoint.act_on_lent.Goals as goal

pub returns-in-Ok : goal.returns-in-Ok
returns-in-Ok g c =
    let a = c.self.inside in
    let s : EndpointState = record { input = a.input; unsent = a.out; connection = a.connection } in
    let least : 8 ≤ a.input.limit = omega (arith, c.self.invariant.least) in
    let lent : IsLent a.input c.args.piece.now c.args.frame c.args.size = rw (← c.self.view_is) at c.requires.lent in
    let room : has_room a.out ≡ true = room_is a.out (rw (← c.self.view_is) at c.requires.room) in
    rw (← c.self.view_is) (done s c.args.piece.now c.args.frame c.args.size least lent room c.act_on_frame.new.out c.act_on_frame.new.connection c.in-Ok.told c.told_outcome.result c.in-Ok.ensures c.told_outcome.ensures)

pub returns-in-Err : goal.returns-in-Err
returns-in-Err g c =
    let a = c.self.inside in
    let s : EndpointState = record { input = a.input; unsent = a.out; connection = a.connection } in
    let least : 8 ≤ a.input.limit = omega (arith, c.self.invariant.least) in
    let lent : IsLent a.input c.args.piece.now c.args.frame c.args.size = rw (← c.self.view_is) at c.requires.lent in
    let room : has_room a.out ≡ true = room_is a.out (rw (← c.self.view_is) at c.requires.room) in
    let p = c.push.ensures in
    rw (← c.self.view_is) (without s c.args.piece.now c.args.frame c.args.size least lent room c.act_on_frame.new.out c.act_on_frame.new.connection c.push.new.self c.push.result c.in-Err.ensures (record {
      bound = p.bound;
      limit = p.limit;
      stage = p.stage;
      filled = p.filled;
      all = λ l. p.all (omega (arith, l));
      full = p.full;
      early = λ k l. p.early k (omega (arith, l));
    }))
