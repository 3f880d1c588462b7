use Rattle.std.proofs.Common.{length, List, ℕ, refl, ap, sym, ◌∙◌, subst}
use Rattle.std.specs.Str.{IsUtf8}
use Rattle.amqp_spool.specs.Positions.{IsName}
use Rattle.amqp_spool.proofs.NameKept.{keeps}
use Rattle.amqp_spool.proofs.consumer_name.ConsumerName.of.Goals as goal

pub invariant_of-result : goal.invariant_of-result
invariant_of-result c =
    let same = c.copy_from_slice.ensures.after ∙ c.as_bytes.ensures.value in
    let name = c.is_name.ensures.0 c.if-not-is_name.false in
    keeps c.copy_from_slice.new.self _ _ (ap (λ (l : List ℕ). length l) same) refl (subst (λ (l : List ℕ). IsName l) (sym same) name) (subst (λ (l : List ℕ). IsUtf8 l) (sym c.copy_from_slice.ensures.after) c.as_bytes.ensures.utf8)
