-- What a splitter is once what it lent has ended.
use Rattle.std.specs.Prelude.{ℕ, max, List, length, take}
use Rattle.std.specs.Borrow.{Lends, MutBor, Fml, Array, u8, RattleType}
use Rattle.std.specs.declared.alloc.Allocator.{Ghosts}
use Rattle.amqp_frame.specs.Rooms.{over}
use Rattle.amqp_frame.specs.Splits.{SplitterState}
use Rattle.amqp_frame.specs.contracts.split.Splitter.{the_row}

-- the splitter once `ws` was written over the n lent bytes after the filled ones
abbrev pub with_read : SplitterState → ℕ → List ℕ → SplitterState
with_read s n ws = record s { spare = over (take (max s.reach n) ws) s.spare; reach = max s.reach n }

abbrev pub LendsRoom : (A : RattleType) (heap : Ghosts A.Denot) → MutBor SplitterState → MutBor (List ℕ) → Fml
LendsRoom A heap s r = Lends (the_row A heap) (Array u8 0) s r (with_read s.now (length r.now))
