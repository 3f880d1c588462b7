-- How much room the answers to one unit need, and the record of a step.
use Rattle.std.specs.Prelude.{ℕ, ◌+◌, ◌*◌, length}
use Rattle.amqp_endpoint.specs.Calls.{reply_room}
use Rattle.amqp_endpoint.specs.Configs.{Configured}
use Rattle.amqp_endpoint.specs.Uses.{held_by_any}
use Rattle.amqp_serve.specs.Serving.{all_supplies}

-- At most this many bytes: an answer for the unit itself, one for the message that it made ready, one for what became
-- of it, and one for each supply.
abbrev pub answers_room : Configured → ℕ
answers_room config = (3 + length (all_supplies config)) * reply_room

-- At most this many bytes: the head of a record has 18, and its message was held before it was taken.
abbrev pub record_room : Configured → ℕ
record_room config = 18 + held_by_any config
