-- Numbers of bytes that were read.
use Rattle.std.proofs.Common.{◌≡◌, ℕ, ◌<◌, ◌≤◌, arith, List, ◌++◌, length, get_or, take, drop, sym, ap, ◌∙◌, inl, inr}
use Rattle.std.proofs.lemmas.Bool.{cases_lt}
use Rattle.std.proofs.lemmas.List.{get_or-take, get_or_past, length-take, length-take-le, take-append-drop}
use Rattle.std.proofs.lemmas.Nat.{be_bytes_2, be_bytes_4, be_bytes_8}
use Rattle.std.specs.Int.{w16, w32, w64, to_be_bytes, from_be_bytes}

small_parts : (n : ℕ) (bytes : List ℕ) → ((i : ℕ) → get_or bytes i 0 < 256) → (i : ℕ) → get_or (take n bytes) i 0 < 256
small_parts n bytes small i =
    elim (cases_lt i n) [
      | inl lt ↦ rw (get_or-take n bytes i 0 lt) (small i)
      | inr le ↦ rw (get_or_past (take n bytes) i 0 (omega (arith, le, length-take n bytes))) (omega arith)
    ]

cut_in_two : (n : ℕ) (bytes word rest text : List ℕ) → word ≡ take n bytes → rest ≡ drop n bytes → text ≡ word → bytes ≡ text ++ rest
cut_in_two n bytes word rest text p q e =
    sym (take-append-drop n bytes) ∙ ap (λ (l : List ℕ). l ++ drop n bytes) (sym p ∙ sym e) ∙ ap (λ (l : List ℕ). text ++ l) (sym q)

module _ (bytes word rest : List ℕ) (n : ℕ) (small : (i : ℕ) → get_or bytes i 0 < 256) where
  pub read16 : word ≡ take 2 bytes → rest ≡ drop 2 bytes → 2 ≤ length bytes → n ≡ from_be_bytes w16 word → bytes ≡ to_be_bytes w16 n ++ rest
  read16 p q le is =
      cut_in_two 2 bytes word rest (to_be_bytes w16 n) p q (be_bytes_2 (take 2 bytes) n (length-take-le 2 bytes le) (small_parts 2 bytes small) (is ∙ ap (λ (l : List ℕ). from_be_bytes w16 l) p) ∙ sym p)

  pub read32 : word ≡ take 4 bytes → rest ≡ drop 4 bytes → 4 ≤ length bytes → n ≡ from_be_bytes w32 word → bytes ≡ to_be_bytes w32 n ++ rest
  read32 p q le is =
      cut_in_two 4 bytes word rest (to_be_bytes w32 n) p q (be_bytes_4 (take 4 bytes) n (length-take-le 4 bytes le) (small_parts 4 bytes small) (is ∙ ap (λ (l : List ℕ). from_be_bytes w32 l) p) ∙ sym p)

  pub read64 : word ≡ take 8 bytes → rest ≡ drop 8 bytes → 8 ≤ length bytes → n ≡ from_be_bytes w64 word → bytes ≡ to_be_bytes w64 n ++ rest
  read64 p q le is =
      cut_in_two 8 bytes word rest (to_be_bytes w64 n) p q (be_bytes_8 (take 8 bytes) n (length-take-le 8 bytes le) (small_parts 8 bytes small) (is ∙ ap (λ (l : List ℕ). from_be_bytes w64 l) p) ∙ sym p)
