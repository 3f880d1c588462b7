-- What a buffer is once what it lent has ended.
use Rattle.std.specs.Prelude.{ℕ, List, length}
use Rattle.std.specs.Borrow.{Lends, MutBor, Fml, Array, u8, RattleType}
use Rattle.std.specs.declared.alloc.Allocator.{Ghosts}
use Rattle.amqp_frame.specs.Rooms.{Filled, with_spare}
use Rattle.amqp_frame.specs.contracts.room.Room.{the_row}

abbrev pub LendsSpare : (A : RattleType) (heap : Ghosts A.Denot) → MutBor Filled → MutBor (List ℕ) → Fml
LendsSpare A heap s r = Lends (the_row A heap) (Array u8 0) s r (with_spare s.now (length r.now))
