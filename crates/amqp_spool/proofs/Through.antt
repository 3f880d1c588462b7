-- Batches of a segment, one after the other.
use Rattle.std.proofs.Common.{◌≡◌, ℕ, ◌+◌, ◌≤◌, arith, List, [], ◌∷◌, ◌++◌, length, length-append, length-drop, drop, take, ◌-◌, refl, sym, ap, ◌∙◌, subst, append_assoc, append-nil}
use Rattle.std.proofs.Math.Seq.{drop-append_seam}
use Rattle.std.proofs.lemmas.Grind.{common_steps}
use Rattle.std.proofs.lemmas.List.{take_all}
use Rattle.amqp_spool.specs.declared.scanning.Scanned.{Scanned}
use Rattle.amqp_spool.specs.Batches.{Batch, Follows, Follow, texts, records, IsThrough}
use Rattle.amqp_spool.specs.Heads.{BeginsBatch, batch_text, batch_head}
use Rattle.amqp_spool.proofs.Placing.{batch_head_long}

pub texts_more : (secret : List ℕ) (bs : List Batch) (b : Batch) → texts secret (bs ++ b ∷ []) ≡ texts secret bs ++ batch_text secret b.head b.body
texts_more secret [] b = append-nil (batch_text secret b.head b.body)
texts_more secret (a ∷ bs) b =
    let t = batch_text secret a.head a.body in
    ap (λ (l : List ℕ). t ++ l) (texts_more secret bs b) ∙ sym (append_assoc t (texts secret bs) (batch_text secret b.head b.body))

pub records_one : (a : Batch) (bs : List Batch) → records (a ∷ bs) ≡ a.head.count + records bs
records_one a bs = grind (arith, common_steps)

pub records_more : (bs : List Batch) (b : Batch) → records (bs ++ b ∷ []) ≡ records bs + b.head.count
records_more [] b = omega arith
records_more (a ∷ bs) b = omega (arith, records_more bs b, records_one a bs, records_one a (bs ++ b ∷ []))

pub follow_more : (number : ℕ) (bs : List Batch) (b : Batch) → Follow number bs → Follows (number + records bs) b → Follow number (bs ++ b ∷ [])
follow_more number [] b all one = (subst (λ (n : ℕ). Follows n b) (omega arith) one, tt)
follow_more number (a ∷ bs) b all one =
    (all.0, follow_more (number + a.head.count) bs b all.1 (subst (λ (n : ℕ). Follows n b) (omega (arith, records_one a bs)) one))

-- what is behind them
pub rest_is : (secret : List ℕ) (first : ℕ) (bytes : List ℕ) (s : Scanned) (x : IsThrough secret first bytes s) → drop s.end bytes ≡ x.rest
rest_is secret first bytes s x =
    ap (λ (l : List ℕ). drop s.end l) x.whole ∙ ap (λ (n : ℕ). drop n (texts secret x.batches ++ x.rest)) x.end ∙ drop-append_seam (texts secret x.batches) x.rest

pub within : (secret : List ℕ) (first : ℕ) (bytes : List ℕ) (s : Scanned) → IsThrough secret first bytes s → s.end ≤ length bytes
within secret first bytes s x = omega (arith, x.end, ap (λ (l : List ℕ). length l) x.whole, length-append (texts secret x.batches) x.rest)

unfoldable pub begun : (secret : List ℕ) (first : ℕ) (bytes : List ℕ) → IsThrough secret first bytes (record { end = 0; next = first })
begun secret first bytes = record { batches = []; follow = tt; rest = bytes; whole = refl; end = refl; next = omega arith }

-- one more
unfoldable pub one_more : (secret : List ℕ) (first : ℕ) (bytes : List ℕ) (s : Scanned) (b : Batch) → IsThrough secret first bytes s → Follows s.next b → BeginsBatch secret (drop s.end bytes) b.head b.body
    → IsThrough secret first bytes (record { end = s.end + (32 + length b.body); next = s.next + b.head.count })
one_more secret first bytes s b x f y =
    let text = batch_text secret b.head b.body in
    let here = texts secret x.batches in
    let long : length text ≡ 32 + length b.body = omega (arith, length-append (batch_head secret b.head b.body) b.body, batch_head_long secret b.head b.body f.is) in
    record {
      batches = x.batches ++ b ∷ [];
      follow = follow_more first x.batches b x.follow (subst (λ (n : ℕ). Follows n b) x.next f);
      rest = y.rest;
      whole = x.whole ∙ ap (λ (l : List ℕ). here ++ l) (sym (rest_is secret first bytes s x) ∙ y.whole) ∙ sym (append_assoc here text y.rest) ∙ ap (λ (l : List ℕ). l ++ y.rest) (sym (texts_more secret x.batches b));
      end = omega (arith, x.end, long, ap (λ (l : List ℕ). length l) (texts_more secret x.batches b), length-append here text);
      next = omega (arith, x.next, records_more x.batches b);
    }

-- its end is in the bytes
pub fits_in : (secret : List ℕ) (bytes : List ℕ) (n : ℕ) (b : Batch) → n ≤ length bytes → BeginsBatch secret (drop n bytes) b.head b.body → n + (32 + length b.body) ≤ length bytes
fits_in secret bytes n b le y =
    let text = batch_text secret b.head b.body in
    omega (arith, le, length-drop n bytes, ap (λ (l : List ℕ). length l) y.whole, length-append text y.rest, length-append (batch_head secret b.head b.body) b.body, batch_head_long secret b.head b.body y.is)

-- a slice from a place on
pub from_there : (n : ℕ) (bytes : List ℕ) → take (length bytes - n) (drop n bytes) ≡ drop n bytes
from_there n bytes = take_all (length bytes - n) (drop n bytes) (omega (arith, length-drop n bytes))
