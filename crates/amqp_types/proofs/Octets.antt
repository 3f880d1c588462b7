-- Lists of bytes, and the numbers that they are.
use Rattle.std.proofs.Common.{◌≡◌, ℕ, zero, suc, ◌+◌, ◌*◌, ◌^◌, ◌<◌, ◌≤◌, List, [], ◌∷◌, length, get_or, take, drop, sym, ap, ◌∙◌, arith, inl, inr}
use Rattle.std.specs.Int.{byte_at, bytes_high_first}
use Rattle.std.proofs.lemmas.Bool.{cases_lt}
use Rattle.std.proofs.lemmas.List.{append-nil, nil_from_length, get_or-take, get_or-drop, get_or_past, length-take}
use Rattle.std.proofs.lemmas.Nat.{same_from_place}
use Rattle.byteorder.specs.Endian.{big_bytes, big_from, big_number}
use Rattle.byteorder.specs.Numbers.{big_from-cons, big_from-take, big_from-lt, big_number-reads_back, length-bytes_high_first}

-- each is a byte
abbrev pub IsBytes : List ℕ → Type 0
IsBytes bytes = (i : ℕ) → get_or bytes i 0 < 256

-- bytes behind a place are bytes
pub IsBytes-drop : (n : ℕ) (bytes : List ℕ) → IsBytes bytes → IsBytes (drop n bytes)
IsBytes-drop n bytes h i = rw get_or-drop (h (n + i))

-- so are those in front of it
pub IsBytes-take : (n : ℕ) (bytes : List ℕ) → IsBytes bytes → IsBytes (take n bytes)
IsBytes-take n bytes h i =
    elim (cases_lt i n) [
      | inl lt ↦ rw (get_or-take n bytes i 0 lt) (h i)
      | inr le ↦ rw (get_or_past (take n bytes) i 0 (omega (arith, length-take n bytes))) (omega arith)
    ]

-- and those behind the first
pub IsBytes-rest : (b : ℕ) (bytes : List ℕ) → IsBytes (b ∷ bytes) → IsBytes bytes
IsBytes-rest b bytes h i = h (suc i)

byte_at_below : (i n : ℕ) → byte_at i n < 256
byte_at_below zero n = omega arith
byte_at_below (suc i) n = omega arith

IsBytes-high : (n x : ℕ) → IsBytes (bytes_high_first n x)
IsBytes-high zero x i = omega arith
IsBytes-high (suc n) x zero = byte_at_below n x
IsBytes-high (suc n) x (suc i) = IsBytes-high n x i

-- as many bytes with one number are the same bytes
big_same : (n : ℕ) (xs ys : List ℕ) → IsBytes xs → IsBytes ys → length xs ≡ n → length ys ≡ n → big_from 0 n xs ≡ big_from 0 n ys → xs ≡ ys
big_same zero xs ys p q lx ly e = nil_from_length xs lx ∙ sym (nil_from_length ys ly)
big_same (suc n) [] ys p q lx ly e = absurd (omega arith)
big_same (suc n) (x ∷ xs) [] p q lx ly e = absurd (omega arith)
big_same (suc n) (x ∷ xs) (y ∷ ys) p q lx ly e =
    let px = IsBytes-rest x xs p in
    let qy = IsBytes-rest y ys q in
    let moved : x * 256 ^ n + big_from 0 n xs ≡ y * 256 ^ n + big_from 0 n ys =
    ap (λ (r : ℕ). x * 256 ^ n + r) (sym (big_from-cons 0 n x xs)) ∙ e ∙ ap (λ (r : ℕ). y * 256 ^ n + r) (big_from-cons 0 n y ys) in
    let parts = same_from_place x (big_from 0 n xs) y (big_from 0 n ys) (256 ^ n) (big_from-lt 0 n xs px) (big_from-lt 0 n ys qy) moved in
    let rest = big_same n xs ys px qy (omega arith) (omega arith) parts.1 in
    ap (λ (h : ℕ). h ∷ xs) parts.0 ∙ ap (λ (t : List ℕ). y ∷ t) rest

-- the bytes of the number that the first n bytes are
pub big_bytes-big_number : (n : ℕ) (bytes : List ℕ) → IsBytes bytes → n ≤ length bytes → big_bytes n (big_number n bytes) ≡ take n bytes
big_bytes-big_number n bytes p le =
    let x = big_from 0 n bytes in
    let back : big_from 0 n (bytes_high_first n x) ≡ x = ap (big_from 0 n) (sym (append-nil (bytes_high_first n x))) ∙ big_number-reads_back n x [] (big_from-lt 0 n bytes p) in
    big_same n (bytes_high_first n x) (take n bytes) (IsBytes-high n x) (IsBytes-take n bytes p) (length-bytes_high_first n x) (omega (arith, length-take n bytes))
    (back ∙ sym (big_from-take 0 n n bytes (omega arith)))
