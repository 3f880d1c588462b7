use Rattle.std.proofs.Common.{◌≡◌, ◌^◌, ◌-◌, min, take}
use Rattle.amqp_spool.specs.Counting.{total}
use Rattle.amqp_spool.proofs.start.bytes_of.Given as goal

abbrev pub invariant-loop-named : goal.invariant-loop-named
invariant-loop-named l = record { all : l.sum ≡ min (total (take l.named-index l.fn.names)) (2 ^ 64 - 1) }
