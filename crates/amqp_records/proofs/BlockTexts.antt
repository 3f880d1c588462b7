-- How the bytes of blocks change where records go on in the last one.
use Rattle.std.proofs.Common.{◌≡◌, ℕ, ◌+◌, ◌==◌, ◌&&◌, Bool, true, List, [], ◌∷◌, ◌++◌, length, take, drop, Option, Some, Result, Ok, Err, sym, ap, subst, ◌∙◌, arith}
use Rattle.std.specs.Prelude.{nat_le, unwrap_or, OnOk}
use Rattle.amqp_records.specs.declared.blocks.Last.{Last}
use Rattle.amqp_records.specs.Blocks.{Block, BlocksState, AreBlocks, blocks_text, block_most, with_records, on_top}
use Rattle.std.proofs.Math.Seq.{take-append-add, drop-append-add}
use Rattle.std.proofs.lemmas.List.{append_assoc, length-append}
use Rattle.byteorder.specs.Endian.{big_bytes}

-- the size changes, and the records stand behind those that were there
pub went_on : (older records more : List ℕ) (number : ℕ)
    → take (length older + 8) ((older ++ (big_bytes 8 number ++ (big_bytes 4 (length records) ++ records))) ++ more)
    ++ (big_bytes 4 (length records + length more) ++ drop (length older + 8 + 4) ((older ++ (big_bytes 8 number ++ (big_bytes 4 (length records) ++ records))) ++ more))
    ≡ older ++ (big_bytes 8 number ++ (big_bytes 4 (length (records ++ more)) ++ (records ++ more)))
went_on older records more number =
    let text : List ℕ = big_bytes 8 number ++ (big_bytes 4 (length records) ++ records) in
    let all : List ℕ = big_bytes 8 number ++ (big_bytes 4 (length records) ++ (records ++ more)) in
    let n : ℕ = length records + length more in
    let twelve : length older + 8 + 4 ≡ length older + 12 = omega arith in
    ap (λ (z : List ℕ). take (length older + 8) z ++ (big_bytes 4 n ++ drop (length older + 8 + 4) z)) (append_assoc older text more)
    ∙ ap (λ (z : List ℕ). z ++ (big_bytes 4 n ++ drop (length older + 8 + 4) (older ++ all))) (take-append-add older all 8)
    ∙ ap (λ (k : ℕ). (older ++ big_bytes 8 number) ++ (big_bytes 4 n ++ drop k (older ++ all))) twelve
    ∙ ap (λ (z : List ℕ). (older ++ big_bytes 8 number) ++ (big_bytes 4 n ++ z)) (drop-append-add older all 12)
    ∙ append_assoc older (big_bytes 8 number) (big_bytes 4 n ++ (records ++ more))
    ∙ ap (λ (k : ℕ). older ++ (big_bytes 8 number ++ (big_bytes 4 k ++ (records ++ more)))) (sym (length-append records more))

-- both hold where the call answered
pub on_both : {T E P Q R : Type 0} (r : Result T E) → OnOk r P → OnOk r Q → (P → Q → R) → OnOk r R
on_both (Ok x) p q f = f p q
on_both (Err e) p q f = tt

-- records that go on in the last block
pub put_behind : (s new : BlocksState) (number : ℕ) (records : List ℕ) (last : Last) (blocks : List Block) → AreBlocks s blocks → s.last ≡ Some last
    → ((last.number == number) && nat_le (last.held + length records) block_most) ≡ true
    → new.bytes ≡ take (last.from + 8) (s.bytes ++ records) ++ (big_bytes 4 (last.held + length records) ++ drop (last.from + 8 + 4) (s.bytes ++ records))
    → new.last ≡ Some (record last { held = last.held + length records }) → AreBlocks new (with_records (record { number = number; records = records }) blocks)
put_behind s new number records last [] are is so bytes lasts = absurd (grind (arith, are.1, is))
put_behind s new number records last (b ∷ older) are is so bytes lasts =
    let found : Last = record { number = b.number; from = length (blocks_text older); held = length b.records } in
    let same : last ≡ found = ap (λ (o : Option Last). unwrap_or o last) (sym is ∙ are.1) in
    let longer : length (b.records ++ records) ≡ length b.records + length records = length-append b.records records in
    subst (λ (l : Last). ((l.number == number) && nat_le (l.held + length records) block_most) ≡ true
    → new.bytes ≡ take (l.from + 8) (s.bytes ++ records) ++ (big_bytes 4 (l.held + length records) ++ drop (l.from + 8 + 4) (s.bytes ++ records))
    → new.last ≡ Some (record l { held = l.held + length records }) → AreBlocks new (with_records (record { number = number; records = records }) (b ∷ older))) (sym same)
    (λ yes text end. subst (λ (t : Bool). AreBlocks new (on_top t (record { number = number; records = records }) b older)) (sym yes) (
      text
          ∙ ap (λ (z : List ℕ). take (length (blocks_text older) + 8) (z ++ records)
          ++ (big_bytes 4 (length b.records + length records) ++ drop (length (blocks_text older) + 8 + 4) (z ++ records))) are.0
          ∙ went_on (blocks_text older) b.records records b.number,
      end ∙ ap (λ (n : ℕ). Some (record found { held = n })) (sym longer),
    ))
    so bytes lasts
