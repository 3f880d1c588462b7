use Rattle.std.proofs.Common.{◌≤◌}
use Rattle.test_spool_records.proofs.count_rest.Given as goal

abbrev pub invariant-turns : goal.invariant-turns
invariant-turns l = l.told.next ≤ l.follower
