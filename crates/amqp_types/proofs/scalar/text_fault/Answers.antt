use Rattle.std.proofs.Common.{◌≡◌, ◌∙◌, ◌+◌, ℕ, false, refl, ap, Some}
use Rattle.std.specs.Str.{is_utf8}
use Rattle.std.proofs.lemmas.Bool.{false_from_ne_true}
use Rattle.std.proofs.lemmas.Str.{is_utf8-from_IsUtf8, IsUtf8-from_is_utf8}
use Rattle.amqp_types.specs.declared.fault.ReadFault.TheVariants.{BadText}
use Rattle.amqp_types.proofs.scalar.text_fault.Goals as goal

pub returns-in-Ok-clause-fault : goal.returns-in-Ok-clause-fault
returns-in-Ok-clause-fault c = rw (is_utf8-from_IsUtf8 c.args.octets.now c.in-Ok.ensures.cases.1) refl

pub returns-in-Err-clause-fault : goal.returns-in-Err-clause-fault
returns-in-Err-clause-fault c =
    let no : is_utf8 c.args.octets.now ≡ false = false_from_ne_true _ (λ e. c.in-Err.ensures.cases.0 (IsUtf8-from_is_utf8 c.args.octets.now e)) in
    rw no (ap (λ (n : ℕ). Some (BadText (c.args.at + n))) (c.valid_up_to.ensures ∙ c.in-Err.ensures.valid_len))
