-- What is kept, with zeros behind it, and what waits.
use Rattle.std.proofs.Common.{◌≡◌, ℕ, ◌+◌, ◌-◌, ◌≤◌, List, length, take, drop, ap, sym, ◌∙◌, arith}
use Rattle.std.specs.Prelude.{replicate}
use Rattle.std.proofs.Math.ListN.{set}
use Rattle.std.proofs.Math.Seq.{paste}
use Rattle.std.proofs.lemmas.List.{drop-set-lt, drop-drop, drop-replicate, drop-take, length-drop}
use Rattle.std.proofs.lemmas.List.Edits.{take-paste}

-- one more byte is kept, and the zeros behind it are one fewer
pub zeros_behind : (bytes : List ℕ) (len b : ℕ) → drop len bytes ≡ replicate (512 - len) 0 → drop (len + 1) (set bytes len b) ≡ replicate (512 - (len + 1)) 0
zeros_behind bytes len b h =
    let fewer : 512 - len - 1 ≡ 512 - (len + 1) = omega arith in
    drop-set-lt (len + 1) bytes len b (omega arith) ∙ sym (drop-drop 1 len bytes) ∙ ap (drop 1) h ∙ drop-replicate 1 (512 - len) 0 ∙ ap (λ (n : ℕ). replicate n 0) fewer

-- the bytes that are left were moved to the front
pub shifted : (bytes : List ℕ) (len count : ℕ) → count ≤ len → len ≤ length bytes → take (len - count) (paste bytes 0 (drop count bytes) (len - count)) ≡ drop count (take len bytes)
shifted bytes len count a b =
    let whole : count + (len - count) ≡ len = omega arith in
    let none : 0 + (len - count) ≡ len - count = omega arith in
    ap (λ (n : ℕ). take n (paste bytes 0 (drop count bytes) (len - count))) (sym none)
    ∙ take-paste bytes 0 (drop count bytes) (len - count) (omega arith) (omega (arith, length-drop count bytes))
    ∙ sym (drop-take count (len - count) bytes) ∙ ap (λ (n : ℕ). drop count (take n bytes)) whole
