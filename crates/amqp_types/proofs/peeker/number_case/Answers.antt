use Rattle.amqp_types.specs.declared.code.Constructor.TheVariants.{Fixed}
use Rattle.amqp_types.proofs.Peeks.{behind, no_number_err, number_is, null_case, other_case, boolean_case, unsigned_kind}
use Rattle.amqp_types.proofs.peeker.number_case.Goals as goal

pub returns-in_err-number-in-Boolean : goal.returns-in_err-number-in-Boolean
returns-in_err-number-in-Boolean c = λ t code data_ rest found_code spelled parts. absurd (no_number_err c.args.w c.args.kind c.args.form c.args.bytes.now _ c.in_err-number-in-Boolean.ensures.read t
    data_ rest (behind (Fixed c.args.kind c.args.form) t code data_ found_code spelled) parts)

pub returns-in_err-number-in-Ubyte : goal.returns-in_err-number-in-Ubyte
returns-in_err-number-in-Ubyte c = λ t code data_ rest found_code spelled parts. absurd (no_number_err c.args.w c.args.kind c.args.form c.args.bytes.now _ c.in_err-number-in-Ubyte.ensures.read t
    data_ rest (behind (Fixed c.args.kind c.args.form) t code data_ found_code spelled) parts)

pub returns-in-Null : goal.returns-in-Null
returns-in-Null c = λ t code data_ rest found_code spelled parts. null_case c.args.kind c.args.form t data_ c.in-Null.is c.requires.sound.1
    (behind (Fixed c.args.kind c.args.form) t code data_ found_code spelled)

pub returns-in_ok-number-in-Boolean : goal.returns-in_ok-number-in-Boolean
returns-in_ok-number-in-Boolean c = λ t code data_ rest found_code spelled parts.
    boolean_case c.args.kind t c.in_ok-number-in-Boolean.number c.in-Boolean.is
    (number_is c.args.w c.args.kind c.args.form c.args.bytes.now c.in_ok-number-in-Boolean.number c.in_ok-number-in-Boolean.field-0-1.now c.in_ok-number-in-Boolean.ensures.read t data_ rest
    (behind (Fixed c.args.kind c.args.form) t code data_ found_code spelled) parts)

pub returns-in_ok-number-in-Ubyte : goal.returns-in_ok-number-in-Ubyte
returns-in_ok-number-in-Ubyte c = λ t code data_ rest found_code spelled parts. (
  (number_is c.args.w c.args.kind c.args.form c.args.bytes.now c.in_ok-number-in-Ubyte.number c.in_ok-number-in-Ubyte.field-0-1.now c.in_ok-number-in-Ubyte.ensures.read t data_ rest
      (behind (Fixed c.args.kind c.args.form) t code data_ found_code spelled) parts).0,
  unsigned_kind c.args.kind c.in-Ubyte.is,
  c.in_ok-number-in-Ubyte.ensures.fits,
)

pub returns-in_default : goal.returns-in_default
returns-in_default c = λ t code data_ rest found_code spelled parts.
    other_case c.args.kind c.args.form t data_ c.in_default.not-Null c.in_default.not-Boolean c.in_default.not-Ubyte c.in_default.not-Ushort c.in_default.not-Uint c.in_default.not-Ulong
    (behind (Fixed c.args.kind c.args.form) t code data_ found_code spelled)
