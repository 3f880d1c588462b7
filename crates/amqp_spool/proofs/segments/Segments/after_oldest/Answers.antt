use Rattle.std.proofs.Common.{◌≡◌, ℕ, ◌-◌, List, [], ◌∷◌, length, slice_index_or, sym, ap, ◌∙◌, arith, length-append}
use Rattle.std.proofs.Math.Seq.{get_or-append_seam}
use Rattle.amqp_spool.specs.declared.segments.Named.{Named}
use Rattle.amqp_spool.proofs.Counted.{last_two}
use Rattle.amqp_spool.proofs.segments.Segments.after_oldest.Goals as goal

pub returns-in-len2-up-clause-some : goal.returns-in-len2-up-clause-some
returns-in-len2-up-clause-some c =
    let list = c.as_slice.result.now in
    let two = last_two list c.in-len2-up.len_at_least in
    let whole = two.3 in
    let none : Named = record { first = 0; bytes = 0 } in
    let at : length list - 2 ≡ length two.0 = omega (arith, ap (λ (l : List Named). length l) whole, length-append two.0 (two.1 ∷ two.2 ∷ [])) in
    let is = ap (λ (k : ℕ). slice_index_or list k none) at ∙ ap (λ (l : List Named). slice_index_or l (length two.0) none) whole ∙ get_or-append_seam two.0 two.1 (two.2 ∷ []) none in
    (two.0, two.1, two.2, sym c.as_slice.ensures.value ∙ whole, ap (λ (n : Named). n.first) (sym is))
