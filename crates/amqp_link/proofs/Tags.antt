-- A tag in place.
use Rattle.std.proofs.Common.{arith, ◌≡◌, ℕ, ◌≤◌, List, ◌++◌, length, drop, replicate, ap, ◌∙◌}
use Rattle.std.proofs.lemmas.List.{drop_at, drop-replicate, length-append, length-drop, length-replicate}
use Rattle.amqp_link.specs.Tags.{IsPadded}

-- a tag in front of zeros fills its room
pub pads : (t z : List ℕ) (n : ℕ) → length t ≡ n → n ≤ 32 → z ≡ replicate 32 0 → IsPadded (t ++ drop n z) n
pads t z n e l zeros = record {
  whole = rw zeros (omega (arith, e, l, length-append t (drop n (replicate 32 0)), length-drop {A = ℕ} n (replicate 32 0), length-replicate {A = ℕ} 32 0));
  within = l;
  rest = drop_at t (drop n z) n e ∙ ap (drop n) zeros ∙ drop-replicate n 32 0;
}
