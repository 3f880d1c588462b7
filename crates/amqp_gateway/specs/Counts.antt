-- What a gateway counts: how connections ended, and what a step recorded.
use Rattle.std.specs.Prelude.{ℕ, ◌+◌, ◌-◌, ◌^◌, min, slice_index, slice_set, Option, Some, None, Result, Ok, Err}
use Rattle.amqp_serve.specs.declared.serving.ServeFault.{ServeFault}
use Rattle.amqp_serve.specs.declared.steps.Done.{Done}
use Rattle.amqp_serve.specs.declared.steps.Receipt.{Receipt}
use Rattle.amqp_serve.specs.declared.steps.Receipt.TheVariants as receipt
use Rattle.amqp_serve.specs.declared.steps.Received.{Received}
use Rattle.amqp_gateway.specs.declared.counts.Counts.{Counts}
use Rattle.amqp_gateway.specs.declared.ending.Ending.{Ending}
use Rattle.amqp_gateway.specs.declared.ending.Ending.TheVariants as ending

-- the message that was recorded, if one was
abbrev pub recorded : Receipt → Option Received
recorded (receipt.Settled m) = Some m
recorded (receipt.Told m) = Some m
recorded (receipt.Untold m fault) = Some m
recorded receipt.Nothing = None
recorded (receipt.Refused fault) = None

abbrev pub recorded_by : Result Done ServeFault → Option Received
recorded_by (Ok done) = recorded done.receipt
recorded_by (Err fault) = None

-- a number that stops at the highest that 64 bits hold
abbrev pub up_to : ℕ → ℕ
up_to n = min n (2 ^ 64 - 1)

-- one message more, and its bytes
abbrev pub counted : Counts → Option Received → Counts
counted c None = c
counted c (Some m) = record c { messages = up_to (c.messages + 1); bytes = up_to (c.bytes + m.len) }

-- where connections are counted that ended so
abbrev pub place_of : Ending → ℕ
place_of ending.Closed = 0
place_of ending.Failed = 1
place_of ending.Between = 2
place_of ending.Inside = 3
place_of ending.Read = 4
place_of ending.Write = 5
place_of ending.Sink = 6
place_of ending.NoMemory = 7
place_of ending.Idle = 8
place_of ending.Slow = 9
place_of ending.Stopped = 10
place_of ending.Poll = 11

-- one connection more that ended so
abbrev pub ended_by : Ending → Counts → Counts
ended_by e c = record c { ended = slice_set c.ended (place_of e) (up_to (slice_index c.ended (place_of e) + 1)) }
