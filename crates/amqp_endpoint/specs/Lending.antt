-- What a place and a connection are once the loan of their session has ended.
use Rattle.std.specs.Prelude.{Option}
use Rattle.std.specs.declared.alloc.Allocator.{Ghosts}
use Rattle.std.specs.Borrow.{Lends, LendsIf, MutBor, Fml, RattleType}
use Rattle.amqp_session.specs.declared.slot.Slot.{Slot}
use Rattle.amqp_session.specs.declared.slot.Slot.TheVariants.{Live}
use Rattle.amqp_session.specs.contracts.slot.Slot.{the_row as slot_row}
use Rattle.amqp_session.specs.contracts.session.Session.{the_row as session_row}
use Rattle.amqp_session.specs.Sessions.{SessionState}
use Rattle.amqp_endpoint.specs.contracts.connection.KeptSession.{the_row as kept_row}

-- the box of a session has the session as it was given back
abbrev pub LendsSession : (A : RattleType) (heap : Ghosts A.Denot) → MutBor SessionState → MutBor SessionState → Fml
LendsSession A heap s r = Lends (kept_row A heap) (session_row A heap) s r (λ w. w)

-- the place has the session as it was given back
abbrev pub LendsPlace : (A : RattleType) (heap : Ghosts A.Denot) → MutBor (Slot SessionState) → Option (MutBor SessionState) → Fml
LendsPlace A heap s r = LendsIf (slot_row (kept_row A heap)) (session_row A heap) s r (λ w. Live w) s.now
