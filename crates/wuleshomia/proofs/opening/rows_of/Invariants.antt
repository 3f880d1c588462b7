use Rattle.std.proofs.Common.{◌≡◌, map, take}
use Rattle.wuleshomia.specs.Exports.{limit_of}
use Rattle.wuleshomia.proofs.opening.rows_of.Given as goal

abbrev pub invariant-loop-limit : goal.invariant-loop-limit
invariant-loop-limit l = l.rows.items ≡ map limit_of (take l.limit-index l.limits)
