use Rattle.std.proofs.Common.{ℕ, ◌∷◌, ◌++◌, List, refl, sym, ap, subst, ◌∙◌}
use Rattle.amqp_types.specs.Spelling.{Spells}
use Rattle.amqp_types.proofs.Peeks.{no_ok, skip_ends, two_parts}
use Rattle.amqp_types.proofs.peeker.described_case.Goals as goal

pub returns-in_err-skip : goal.returns-in_err-skip
returns-in_err-skip c = λ d t first second rest p q parts.
    absurd (no_ok _ _ (skip_ends c.args.bytes.now _ c.in_err-skip.ensures.only d first (second ++ rest) p parts))

pub returns-in_err-len : goal.returns-in_err-len
returns-in_err-len c = λ d t first second rest p q parts.
    let found = skip_ends c.args.bytes.now _ c.in_ok-skip.ensures.only d first (second ++ rest) p parts in
    let split = two_parts c.in_ok-skip.field-0 c.args.bytes.now first (second ++ rest) c.split_at.result.0.now c.split_at.result.1.now found parts c.split_at.ensures.front c.split_at.ensures.back in
    absurd (no_ok _ _ (skip_ends c.split_at.result.1.now _ c.in_err-len.ensures.only t second rest q split.1))

pub returns : goal.returns
returns c = λ d t first second rest p q parts.
    let found = skip_ends c.args.bytes.now _ c.in_ok-skip.ensures.only d first (second ++ rest) p parts in
    let split = two_parts c.in_ok-skip.field-0 c.args.bytes.now first (second ++ rest) c.split_at.result.0.now c.split_at.result.1.now found parts c.split_at.ensures.front c.split_at.ensures.back in
    let ended = skip_ends c.split_at.result.1.now _ c.in_ok-len.ensures.only t second rest q split.1 in
    let value = (two_parts c.in_ok-len.len c.split_at.result.1.now second rest _ _ ended split.1 refl refl).0 in (
      d,
      t,
      refl,
      ap (λ (x : List ℕ). 0 ∷ (x ++ second)) (sym split.0) ∙ ap (λ (x : List ℕ). 0 ∷ (c.split_at.result.0.now ++ x)) (sym value),
      subst (λ (x : List ℕ). Spells d x) (sym split.0) p,
      subst (λ (x : List ℕ). Spells t x) (sym value) q,
    )
