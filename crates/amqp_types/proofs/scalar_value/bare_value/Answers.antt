use Rattle.std.proofs.Common.{refl, ap, ◌∙◌, sym, true, false}
use Rattle.amqp_types.specs.Trees.{Tree}
use Rattle.amqp_types.specs.Values.{view, layer}
use Rattle.amqp_types.specs.declared.value.Value.TheFolds.{fold-roll-Value}
use Rattle.amqp_types.specs.declared.value.Value.TheVariants.{rolls-Boolean, rolls-Null, rolls-Uint, rolls-Ulong}
use Rattle.amqp_types.specs.declared.kind.Kind.TheVariants as kind
use Rattle.amqp_types.specs.declared.code.Form.TheVariants as form
use Rattle.amqp_types.proofs.Smalls.{small, null_read, zero_read, true_read}
use Rattle.amqp_types.proofs.scalar_value.bare_value.Goals.{in-64, in-65, in-66, in-67, in-68}
use Rattle.amqp_types.proofs.scalar_value.bare_value.Goals as goal

pub returns : goal.returns
returns c = λ inner w left rest. elim c.match-code.branch [
  | in-64 x ↦ small inner w left c.args.code 64 kind.Null form.Full 0 _ rest rest x.in-64.is refl refl refl
      (ap view (x.value-is ∙ sym rolls-Null) ∙ fold-roll-Value Tree layer _) (null_read w rest)
  | in-65 x ↦ small inner w left c.args.code 65 kind.Boolean form.One 1 _ rest rest x.in-65.is refl refl refl
      (ap view (x.value-is ∙ sym (rolls-Boolean true)) ∙ fold-roll-Value Tree layer _) (true_read w rest)
  | in-66 x ↦ small inner w left c.args.code 66 kind.Boolean form.Zero 0 _ rest rest x.in-66.is refl refl refl
      (ap view (x.value-is ∙ sym (rolls-Boolean false)) ∙ fold-roll-Value Tree layer _) (zero_read w kind.Boolean rest refl)
  | in-67 x ↦ small inner w left c.args.code 67 kind.Uint form.Zero 0 _ rest rest x.in-67.is refl refl refl
      (ap view (x.value-is ∙ sym (rolls-Uint 0)) ∙ fold-roll-Value Tree layer _) (zero_read w kind.Uint rest refl)
  | in-68 x ↦ small inner w left c.args.code 68 kind.Ulong form.Zero 0 _ rest rest x.in-68.is refl refl refl
      (ap view (x.value-is ∙ sym (rolls-Ulong 0)) ∙ fold-roll-Value Tree layer _) (zero_read w kind.Ulong rest refl)
]
