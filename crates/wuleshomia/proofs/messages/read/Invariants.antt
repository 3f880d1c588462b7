use Rattle.std.proofs.Common.{length, take, drop, ◌-◌, ◌≡◌, ◌++◌, ◌≤◌}
use Rattle.wuleshomia.proofs.messages.read.Given as goal

abbrev pub invariant-loop-count : goal.invariant-loop-count
invariant-loop-count l = (l.count ≤ length l.initial.room) × (l.count ≤ length (drop l.at l.message)) × (l.room ≡ take l.count (drop l.at l.message) ++ drop l.count l.initial.room)

abbrev pub decreases-loop-count : goal.decreases-loop-count
decreases-loop-count l = length l.initial.room - l.count
