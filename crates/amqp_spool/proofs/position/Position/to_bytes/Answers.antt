use Rattle.std.proofs.Common.{◌≡◌, ℕ, ◌+◌, ◌*◌, arith, rules, List, [], ◌∷◌, ◌++◌, length, take, sym, ap, ◌∙◌, append_assoc, append-nil}
use Rattle.std.proofs.lemmas.List.{take_all}
use Rattle.std.specs.Int.{w64, to_be_bytes}
use Rattle.hex.specs.Hex.{encode_lower}
use Rattle.amqp_spool.specs.Positions.{position_text}
use Rattle.amqp_spool.specs.Sums.{sum_of}
use Rattle.amqp_spool.proofs.position.Position.to_bytes.Goals as goal

in_parts : (a b d e front sum : List ℕ) → length front ≡ 53 → length sum ≡ 8 → length e ≡ 71 → take (0 + length front) a ≡ front → take 54 b ≡ take 53 a ++ 32 ∷ [] → take (54 + 2 * length sum) d ≡ take 54 b ++ encode_lower sum
    → take 71 e ≡ take 70 d ++ 10 ∷ [] → e ≡ front ++ 32 ∷ encode_lower sum ++ 10 ∷ []
in_parts a b d e front sum long eight all p q r s =
    let hex = encode_lower sum in
    let to_front : 53 ≡ 0 + length front = omega arith in
    let to_sum : 70 ≡ 54 + 2 * length sum = omega arith in
    let at_front = ap (λ (n : ℕ). take n a) to_front ∙ p in
    let at_sum = ap (λ (n : ℕ). take n d) to_sum ∙ r in
    sym (take_all 71 e (omega (arith, all))) ∙ s ∙ ap (λ (l : List ℕ). l ++ 10 ∷ []) (at_sum ∙ ap (λ (l : List ℕ). l ++ hex) (q ∙ ap (λ (l : List ℕ). l ++ 32 ∷ []) at_front) ∙ append_assoc front (32 ∷ []) hex)

pub returns : goal.returns
unfolding position_text
returns c =
    let spool = c.args.self.now.spool in
    let front = c.front-front.result in
    let sum = c.to_be_bytes-sum.result in
    let sum_is : sum ≡ to_be_bytes w64 (sum_of spool front) = c.to_be_bytes-sum.ensures ∙ ap (λ (n : ℕ). to_be_bytes w64 n) (c.sum_of.ensures ∙ ap (λ (l : List ℕ). sum_of spool l) (append-nil front)) in
    let long : length front ≡ 53 = search rules in
    let eight : length sum ≡ 8 = ap (λ (l : List ℕ). length l) sum_is in
    let all : length c.put-3.new.out ≡ 71 = omega arith in
    in_parts c.put.new.out c.put-2.new.out c.put_hex.new.out c.put-3.new.out front sum long eight all c.put.ensures.written c.put-2.ensures.written c.put_hex.ensures.written c.put-3.ensures.written
    ∙ ap (λ (l : List ℕ). front ++ 32 ∷ encode_lower l ++ 10 ∷ []) sum_is ∙ ap (λ (l : List ℕ). l ++ 32 ∷ encode_lower (to_be_bytes w64 (sum_of spool l)) ++ 10 ∷ []) c.front-front.ensures
