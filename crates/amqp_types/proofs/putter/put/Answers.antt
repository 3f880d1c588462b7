use Rattle.std.proofs.Common.{ℕ, ◌<◌, ◌^◌, List, length, true, false, sym, refl, ap, subst, ◌∙◌, arith}
use Rattle.amqp_types.specs.declared.kind.Kind.TheVariants as kind
use Rattle.amqp_types.specs.declared.peeked.Peek.{Peek}
use Rattle.amqp_types.specs.Peeks.{IsScalarOf}
use Rattle.amqp_types.specs.Trees.{Number, Octets}
use Rattle.amqp_types.proofs.Puts.{null_spelled, boolean_spelled, unsigned_spelled, boolean_scalar, scalar_put, octets_put}
use Rattle.amqp_types.proofs.putter.put.Goals as goal

pub returns-in-Null-clause-some : goal.returns-in-Null-clause-some
returns-in-Null-clause-some c =
    scalar_put c.put_number.result c.args.value.now (Number kind.Null 0) c.args.out.now c.put_number.new.out
    (subst (λ (p : Peek). IsScalarOf (Number kind.Null 0) p) (sym c.in-Null.is) refl) null_spelled c.put_number.ensures.some

pub returns-in-Boolean-true-clause-some : goal.returns-in-Boolean-true-clause-some
returns-in-Boolean-true-clause-some c =
    let truth = sym c.in-Boolean-true.field-0-is ∙ c.in-Boolean-true.field-0-test in
    scalar_put c.put_number-in-Boolean-true.result c.args.value.now (Number kind.Boolean 1) c.args.out.now c.put_number-in-Boolean-true.new.out
    (boolean_scalar c.in-Boolean-true.field-0 true c.args.value.now truth c.in-Boolean-true.is) (boolean_spelled 1 (omega arith)) c.put_number-in-Boolean-true.ensures.some

pub returns-in-Boolean-false-clause-some : goal.returns-in-Boolean-false-clause-some
returns-in-Boolean-false-clause-some c =
    let truth = sym c.in-Boolean-false.field-0-is ∙ c.in-Boolean-false.field-0-test in
    scalar_put c.put_number-in-Boolean-false.result c.args.value.now (Number kind.Boolean 0) c.args.out.now c.put_number-in-Boolean-false.new.out
    (boolean_scalar c.in-Boolean-false.field-0 false c.args.value.now truth c.in-Boolean-false.is) (boolean_spelled 0 (omega arith)) c.put_number-in-Boolean-false.ensures.some

pub returns-in-Unsigned-clause-some : goal.returns-in-Unsigned-clause-some
returns-in-Unsigned-clause-some c =
    let is = c.is_unsigned.ensures.0 c.if-is_unsigned.true in
    scalar_put c.put_number-in-Unsigned.result c.args.value.now (Number c.in-Unsigned.kind c.in-Unsigned.number) c.args.out.now c.put_number-in-Unsigned.new.out
    (subst (λ (p : Peek). IsScalarOf (Number c.in-Unsigned.kind c.in-Unsigned.number) p) (sym c.in-Unsigned.is) (refl, is.0, is.1))
    (unsigned_spelled c.in-Unsigned.kind c.in-Unsigned.number is.0 is.1) c.put_number-in-Unsigned.ensures.some

pub returns-in-String-clause-some : goal.returns-in-String-clause-some
returns-in-String-clause-some c =
    octets_put c.put_octets.result c.args.value.now kind.String c.as_bytes.result.now c.args.out.now c.put_octets.new.out tt c.as_bytes.ensures.utf8 c.put_octets.ensures.bytes
    (λ few. subst (λ (p : Peek). IsScalarOf (Octets kind.String c.as_bytes.result.now) p) (sym c.in-String.is)
    (ap (Octets kind.String) c.as_bytes.ensures.value, subst (λ (o : List ℕ). length o < 2 ^ 32) c.as_bytes.ensures.value few))
    c.put_octets.ensures.counted c.put_octets.ensures.some

pub returns-in-Symbol-clause-some : goal.returns-in-Symbol-clause-some
returns-in-Symbol-clause-some c =
    let ascii = c.if-is_ascii.ensures.cases in
    octets_put c.put_octets-in-Symbol.result c.args.value.now kind.Symbol c.in-Symbol.octets.now c.args.out.now c.put_octets-in-Symbol.new.out tt ascii c.put_octets-in-Symbol.ensures.bytes
    (λ few. subst (λ (p : Peek). IsScalarOf (Octets kind.Symbol c.in-Symbol.octets.now) p) (sym c.in-Symbol.is) (refl, ascii, few))
    c.put_octets-in-Symbol.ensures.counted c.put_octets-in-Symbol.ensures.some

pub returns-in-Binary-clause-some : goal.returns-in-Binary-clause-some
returns-in-Binary-clause-some c =
    octets_put c.put_octets-in-Binary.result c.args.value.now kind.Binary c.in-Binary.octets.now c.args.out.now c.put_octets-in-Binary.new.out tt tt c.put_octets-in-Binary.ensures.bytes
    (λ few. subst (λ (p : Peek). IsScalarOf (Octets kind.Binary c.in-Binary.octets.now) p) (sym c.in-Binary.is) (refl, few))
    c.put_octets-in-Binary.ensures.counted c.put_octets-in-Binary.ensures.some
