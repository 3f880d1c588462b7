-- A consumer's name in place.
use Rattle.std.proofs.Common.{arith, ◌≡◌, ℕ, ◌≤◌, List, ◌++◌, length, take, drop, replicate, ap, sym, ◌∙◌, subst}
use Rattle.std.specs.Str.{IsUtf8}
use Rattle.std.proofs.lemmas.List.{drop_at, drop-replicate, length-append, length-drop, length-replicate}
use Rattle.std.proofs.Math.Seq.{take-append_seam}
use Rattle.amqp_spool.specs.ConsumerNames.{IsKept}
use Rattle.amqp_spool.specs.Positions.{IsName}

-- a name in front of zeros fills its room
pub keeps : (t z : List ℕ) (n : ℕ) → length t ≡ n → z ≡ replicate 64 0 → IsName t → IsUtf8 t → IsKept (t ++ drop n z) n
keeps t z n e zeros name utf8 =
    let short : n ≤ 64 = omega (arith, e, name.short) in
    let front = ap (λ (k : ℕ). take k (t ++ drop n z)) (sym e) ∙ take-append_seam t (drop n z) in
    record {
      whole = rw zeros (omega (arith, e, short, length-append t (drop n (replicate 64 0)), length-drop {A = ℕ} n (replicate 64 0), length-replicate {A = ℕ} 64 0));
      within = short;
      rest = drop_at t (drop n z) n e ∙ ap (drop n) zeros ∙ drop-replicate n 64 0;
      name = subst (λ (l : List ℕ). IsName l) (sym front) name;
      utf8 = subst (λ (l : List ℕ). IsUtf8 l) (sym front) utf8;
    }
