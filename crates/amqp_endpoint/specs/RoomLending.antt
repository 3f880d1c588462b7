-- What an endpoint is once the loan of its room has ended.
use Rattle.std.specs.Prelude.{ℕ, List, length}
use Rattle.std.specs.Borrow.{Lends, MutBor, Fml, Array, u8, RattleType}
use Rattle.std.specs.declared.alloc.Allocator.{Ghosts}
use Rattle.amqp_frame.specs.SplitLends as splitter
use Rattle.amqp_endpoint.specs.Steps.{EndpointState}
use Rattle.amqp_endpoint.specs.contracts.endpoint.Endpoint.{the_row}

-- the endpoint after these bytes were written into n bytes that were lent after those in its buffer, where they mean
-- nothing yet
abbrev pub with_read : EndpointState → ℕ → List ℕ → EndpointState
with_read s n ws = record s { input = splitter.with_read s.input n ws }

abbrev pub LendsRoom : (A : RattleType) (heap : Ghosts A.Denot) → MutBor EndpointState → MutBor (List ℕ) → Fml
LendsRoom A heap s r = Lends (the_row A heap) (Array u8 0) s r (with_read s.now (length r.now))
