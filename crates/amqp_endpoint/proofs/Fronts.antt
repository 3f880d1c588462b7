-- The first bytes of a slice go into a ring with some behind them, which are dropped again.
use Rattle.std.proofs.Common.{◌≡◌, ℕ, ◌+◌, ◌-◌, List, ◌++◌, length, take, min, ◌≤◌, ap, ◌∙◌, arith}
use Rattle.std.proofs.Math.Seq.{take-append-add}
use Rattle.std.proofs.lemmas.List.{take-take, length-take-le}
use Rattle.circular_buffer.specs.Buffer.{Buffer, buffer}

pub front_is : (len rounded n end : ℕ) (old mid new : Buffer ℕ) (bytes : List ℕ)
    → len ≤ rounded → rounded ≤ length bytes → length old.items + len ≤ old.capacity
    → n ≡ min (length (take rounded bytes)) (old.capacity - length old.items)
    → mid ≡ buffer (old.items ++ take n (take rounded bytes)) old.capacity
    → end ≡ length old.items + len
    → new ≡ buffer (take end mid.items) mid.capacity
    → new ≡ buffer (old.items ++ take len bytes) old.capacity
front_is len rounded n end old mid new bytes within short room count filled ends cut =
    let long : length (take rounded bytes) ≡ rounded = length-take-le rounded bytes short in
    cut
    ∙ ap (λ (k : ℕ). buffer (take k mid.items) mid.capacity) ends
    ∙ ap (λ (b : Buffer ℕ). buffer (take (length old.items + len) b.items) b.capacity) filled
    ∙ ap (λ (x : List ℕ). buffer x old.capacity) (take-append-add old.items (take n (take rounded bytes)) len)
    ∙ ap (λ (x : List ℕ). buffer (old.items ++ x) old.capacity)
    (take-take len n (take rounded bytes) (omega (arith, within, room, count, long)) ∙ take-take len rounded bytes within)
