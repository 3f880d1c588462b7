-- What the record of a link, and a place, are once the loan of their link has ended.
use Rattle.std.specs.Prelude.{Option}
use Rattle.std.specs.declared.alloc.Allocator.{Ghosts}
use Rattle.std.specs.Borrow.{Lends, LendsIf, MutBor, Fml, RattleType}
use Rattle.amqp_link.specs.Links.{LinkState}
use Rattle.amqp_link.specs.contracts.link.Link.{the_row as link_row}
use Rattle.amqp_session.specs.declared.slot.Slot.{Slot}
use Rattle.amqp_session.specs.contracts.slot.Slot.{the_row as slot_row}
use Rattle.amqp_session.specs.contracts.state.KeptLink.{the_row as kept_row}
use Rattle.amqp_session.specs.Sessions.{LiveLink}
use Rattle.amqp_session.specs.Links.{relinked, slot_relinked}

-- its name, source and target stay
abbrev pub LendsLink : (A : RattleType) (heap : Ghosts A.Denot) → MutBor LiveLink → MutBor LinkState → Fml
LendsLink A heap s r = Lends (kept_row A heap) (link_row A heap) s r (relinked s.now)

-- the place has the link as it was given back
abbrev pub LendsPlace : (A : RattleType) (heap : Ghosts A.Denot) → MutBor (Slot LiveLink) → Option (MutBor LinkState) → Fml
LendsPlace A heap s r = LendsIf (slot_row (kept_row A heap)) (link_row A heap) s r (slot_relinked s.now) s.now
