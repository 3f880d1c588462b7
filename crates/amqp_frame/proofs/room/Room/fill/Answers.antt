use Rattle.amqp_frame.proofs.Overs.{in_room, marked, left}
use Rattle.amqp_frame.proofs.room.Room.fill.Goals as goal

pub returns-clause-filled : goal.returns-clause-filled
returns-clause-filled g c =
    let room = c.self.inside in
    let i = c.self.invariant in
    let fits = in_room room.max room.mark c.args.n room.bytes.items i.0 i.1 (rw (← c.self.view_is) at c.requires) in
    marked room.max room.mark c.args.n room.bytes.items c.reach.new.bytes.items c.args.self.now c.reach.ensures.items i.0 i.1 fits c.self.view_is

pub returns-clause-spare : goal.returns-clause-spare
returns-clause-spare g c =
    let room = c.self.inside in
    let i = c.self.invariant in
    let fits = in_room room.max room.mark c.args.n room.bytes.items i.0 i.1 (rw (← c.self.view_is) at c.requires) in
    left room.max room.mark c.args.n room.bytes.items c.reach.new.bytes.items c.args.self.now c.reach.ensures.items i.0 i.1 fits c.self.view_is
