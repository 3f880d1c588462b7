use Rattle.std.proofs.Common.{rules, ◌≡◌, refl, length}
use Rattle.amqp_frame.proofs.Overs.{refilled, in_room, lent}
use Rattle.amqp_frame.proofs.room.Room.spare.Goals as goal

pub returns : goal.returns
returns g c =
    let room = c.self.inside in
    let bytes = c.reach.new.bytes in
    let i = c.self.invariant in
    let n = c.args.n in
    let s = c.args.self.now in
    let fits = in_room room.max room.mark n room.bytes.items i.0 i.1 (rw (← c.self.view_is) at c.requires) in
    let count : n ≡ length c.slice_mut.result.now = search (rules) in (
      (refl, λ w. refilled room.max room.mark n (length c.slice_mut.result.now) bytes.len room.bytes.items bytes.items w s bytes.ok.0 c.reach.ensures.items i.0 i.1 fits c.self.view_is count),
      record { writes_back = tt; value = lent room.max room.mark n room.bytes.items bytes.items c.slice_mut.result.now s c.slice_mut.ensures.value c.reach.ensures.items i.0 i.1 fits c.self.view_is },
    )
