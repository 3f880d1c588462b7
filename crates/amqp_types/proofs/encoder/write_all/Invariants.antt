use Rattle.std.proofs.Common.{◌≡◌, ◌++◌, drop, map, true}
use Rattle.amqp_types.specs.declared.code.SizeWidth.TheVariants as size
use Rattle.amqp_types.specs.Canonical.{all_small, all_data}
use Rattle.amqp_types.specs.Parts.{seen}
use Rattle.amqp_types.proofs.encoder.write_all.Given as goal

abbrev pub invariant-loop-part : goal.invariant-loop-part
invariant-loop-part l = record {
  joined : l.out.items ++ all_data l.size (map seen (drop l.part-index l.parts)) ≡ l.initial.out.items ++ all_data l.size (map seen l.parts);
  small : l.size ≡ size.One → all_small (map seen (drop l.part-index l.parts)) ≡ true;
}
