use Rattle.std.proofs.Common.{refl, ap, ◌∙◌, sym}
use Rattle.amqp_types.specs.Trees.{Tree, Number}
use Rattle.amqp_types.specs.Values.{view, layer}
use Rattle.amqp_types.specs.declared.value.Value.TheFolds.{fold-roll-Value}
use Rattle.amqp_types.specs.declared.value.Value.TheVariants.{rolls-Ubyte, rolls-Uint, rolls-Ulong}
use Rattle.amqp_types.specs.declared.kind.Kind.TheVariants as kind
use Rattle.amqp_types.specs.declared.code.Form.TheVariants as form
use Rattle.amqp_types.proofs.Smalls.{small, byte_read, ubyte_read}
use Rattle.amqp_types.proofs.scalar_value.byte_value.Goals.{in-80, in-82, in-83}
use Rattle.amqp_types.proofs.scalar_value.byte_value.Goals as goal

pub returns : goal.returns
returns c = λ inner w left rest.
    elim c.match-code.branch [
      | in-80 x ↦ small inner w left c.args.code 80 kind.Ubyte form.Full c.args.byte _ _ rest x.in-80.is refl refl refl
          (ap view (x.value-is ∙ sym (rolls-Ubyte c.args.byte)) ∙ fold-roll-Value Tree layer _) (ubyte_read w c.args.byte rest)
      | in-82 x ↦ small inner w left c.args.code 82 kind.Uint form.OneByte c.args.byte _ _ rest x.in-82.is refl refl refl
          (ap view (x.value-is ∙ sym (rolls-Uint x.from.result)) ∙ fold-roll-Value Tree layer _ ∙ ap (Number kind.Uint) x.from.ensures) (byte_read w kind.Uint c.args.byte rest refl)
      | in-83 x ↦ small inner w left c.args.code 83 kind.Ulong form.OneByte c.args.byte _ _ rest x.in-83.is refl refl refl
          (ap view (x.value-is ∙ sym (rolls-Ulong x.from-in-83.result)) ∙ fold-roll-Value Tree layer _ ∙ ap (Number kind.Ulong) x.from-in-83.ensures) (byte_read w kind.Ulong c.args.byte rest refl)
    ]
