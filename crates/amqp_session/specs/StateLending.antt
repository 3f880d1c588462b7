-- What a session is once the loan of a link has ended.
use Rattle.std.specs.Prelude.{ℕ, Option}
use Rattle.std.specs.declared.alloc.Allocator.{Ghosts}
use Rattle.std.specs.Borrow.{LendsIf, MutBor, Fml, RattleType}
use Rattle.amqp_link.specs.Links.{LinkState}
use Rattle.amqp_link.specs.contracts.link.Link.{the_row as link_row}
use Rattle.amqp_session.specs.Sessions.{SessionState}
use Rattle.amqp_session.specs.Links.{with_link}
use Rattle.amqp_session.specs.contracts.state.State.{the_row}

abbrev pub LendsHandle : (A : RattleType) (heap : Ghosts A.Denot) → MutBor SessionState → ℕ → Option (MutBor LinkState) → Fml
LendsHandle A heap s handle r = LendsIf (the_row A heap) (link_row A heap) s r (with_link s.now handle) s.now
