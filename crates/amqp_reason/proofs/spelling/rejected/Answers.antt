use Rattle.std.proofs.Common.{arith, length, sym, ap, ◌∙◌, ◌++◌, ◌≤◌, subst, List, ℕ, ◌∷◌}
use Rattle.amqp_perform.specs.Frames.{list_head}
use Rattle.amqp_reason.specs.Reasons.{reason_of}
use Rattle.amqp_reason.proofs.Spelled.{head_short, rejected_is, rejected_short}
use Rattle.amqp_reason.proofs.spelling.rejected.Goals as goal

pub put-requires : goal.put-requires
put-requires c = omega (arith, ap length c.described-spelled.ensures, head_short 1 c.len.result, ap length c.as_slice.ensures.value, c.error-error.ensures.most)

pub returns-clause-value : goal.returns-clause-value
returns-clause-value c =
    c.put.ensures
    ∙ ap (λ (x : List ℕ). x ++ c.as_slice.result.now) c.described-spelled.ensures
    ∙ ap (λ (x : List ℕ). (0 ∷ 0x53 ∷ 0x25 ∷ list_head 1 c.len.result) ++ x) (c.as_slice.ensures.value ∙ c.error-error.ensures.value)
    ∙ rejected_is (reason_of c.args.reason.now) c.len.result (c.len.ensures.value ∙ ap length c.error-error.ensures.value)

pub returns-clause-most : goal.returns-clause-most
returns-clause-most c = subst (λ (x : List ℕ). length x ≤ 347) (sym (returns-clause-value c)) (rejected_short (reason_of c.args.reason.now) c.requires)
