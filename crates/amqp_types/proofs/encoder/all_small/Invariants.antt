use Rattle.std.proofs.Common.{◌≡◌, drop, map}
use Rattle.amqp_types.specs.Canonical.{all_small}
use Rattle.amqp_types.specs.Parts.{seen}
use Rattle.amqp_types.proofs.encoder.all_small.Given as goal

abbrev pub invariant-loop-part : goal.invariant-loop-part
invariant-loop-part l = all_small (map seen (drop l.part-index l.parts)) ≡ all_small (map seen l.parts)
