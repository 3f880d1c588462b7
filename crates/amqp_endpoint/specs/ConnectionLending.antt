-- What a connection is once the loan of a session has ended.
use Rattle.std.specs.Prelude.{ℕ, Option, slice_set}
use Rattle.std.specs.declared.alloc.Allocator.{Ghosts}
use Rattle.std.specs.Borrow.{LendsIf, MutBor, Fml, RattleType}
use Rattle.amqp_session.specs.declared.slot.Slot.TheVariants.{Live}
use Rattle.amqp_session.specs.contracts.session.Session.{the_row as session_row}
use Rattle.amqp_session.specs.Sessions.{SessionState}
use Rattle.amqp_endpoint.specs.Connections.{ConnectionState}
use Rattle.amqp_endpoint.specs.contracts.connection.Connection.{the_row}

-- the connection with this session on a channel
abbrev pub with_session : ConnectionState → ℕ → SessionState → ConnectionState
with_session s channel t = record s { sessions = slice_set s.sessions channel (Live t) }

abbrev pub LendsChannel : (A : RattleType) (heap : Ghosts A.Denot) → MutBor ConnectionState → ℕ → Option (MutBor SessionState) → Fml
LendsChannel A heap s channel r = LendsIf (the_row A heap) (session_row A heap) s r (with_session s.now channel) s.now
