use Rattle.std.proofs.Common.{◌≤◌, ◌+◌, length}
use Rattle.std.specs.Vec.{vec_len}
use Rattle.amqp_spool.proofs.dir.segments_in.Given as goal

abbrev pub invariant-loop-first : goal.invariant-loop-first
invariant-loop-first g l = vec_len l.list + length l.first-iterator.iter.rest.now ≤ 16384
