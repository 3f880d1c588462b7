-- How much a peer holds at most, and the records that wait.
use Rattle.std.specs.Prelude.{ℕ, ◌+◌}
use Rattle.amqp_endpoint.specs.Configs.{Configured}
use Rattle.amqp_endpoint.specs.Uses.{held_by_any}
use Rattle.amqp_serve.specs.Rooms.{answers_room, record_room}
use Rattle.amqp_gateway.specs.Outlets.{waiting_most}

-- How many bytes are kept besides: a piece of 8,192 that is not heard yet, 8,192 of answers, and 64 for a close or an empty frame.
abbrev pub socket_most : ℕ
socket_most = 8192 + 8192 + 64

-- how many bytes a peer holds at most: its endpoint, the answers to a unit, and what waits before and after it
abbrev pub peer_most : Configured → ℕ
peer_most config = held_by_any config + answers_room config + socket_most

-- how many bytes of records wait for the sink at most: what waits before they are written, and one record more with the head of its block
abbrev pub outlet_most : Configured → ℕ
outlet_most config = waiting_most + 12 + record_room config
