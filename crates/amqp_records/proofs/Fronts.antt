-- What a whole record at the front of bytes is.
use Rattle.std.proofs.Common.{◌≡◌, ℕ, ◌+◌, ◌-◌, ◌<◌, ◌≤◌, Bool, true, false, cond, ltb, List, [], ◌∷◌, ◌++◌, length, take, drop, length-drop, refl, sym, ap, ◌∙◌, subst, arith, append_assoc, length-append}
use Rattle.std.proofs.lemmas.Bool.{ltb-true, ltb-false, le-ltb}
use Rattle.std.proofs.lemmas.List.{take-append-drop, drop-take, length-take-le, drop-append-le}
use Rattle.std.proofs.Math.Seq.{take-append_seam, drop-append_seam}
use Rattle.byteorder.specs.Endian.{big_number}
use Rattle.byteorder.specs.Numbers.{big_from-append}
use Rattle.amqp_records.specs.declared.record.Front.{Front}
use Rattle.amqp_records.specs.declared.record.Front.TheVariants.{Whole, Partial, TooLong}
use Rattle.amqp_records.specs.Records.{front_of, said, IsRecord, joined, Holds, BeginsNoRecord}

-- how a front comes of three tests
abbrev chosen : (short long cut : Bool) → ℕ → Front
chosen short long cut n = cond short Partial (cond long TooLong (cond cut Partial (Whole n)))

-- only where none of them holds is there a whole record
none_holds : (short long cut : Bool) (k n : ℕ) → chosen short long cut k ≡ Whole n → (short ≡ false) × (long ≡ false) × (cut ≡ false) × (k ≡ n)
none_holds true long cut k n e = absurd cc
none_holds false true cut k n e = absurd cc
none_holds false false true k n e = absurd cc
none_holds false false false k n e = (refl, refl, refl, cc)

-- the length that a head says stands in its first 18 bytes
pub said_front : (n : ℕ) (bytes : List ℕ) → 18 ≤ n → n ≤ length bytes → said (take n bytes) ≡ said bytes
said_front n bytes least within =
    let m = n - 14 in
    let sum : 14 + m ≡ n = omega arith in
    let cut : drop 14 (take n bytes) ≡ take m (drop 14 bytes) = subst (λ (k : ℕ). drop 14 (take k bytes) ≡ take m (drop 14 bytes)) sum (drop-take 14 m bytes) in
    let long : length (drop 14 bytes) ≡ length bytes - 14 = length-drop 14 bytes in
    let front : length (take m (drop 14 bytes)) ≡ m = length-take-le m (drop 14 bytes) (omega (arith, long)) in
    let first = big_from-append 4 (take m (drop 14 bytes)) (drop m (drop 14 bytes)) (omega (arith, front)) in
    ap (big_number 4) cut ∙ sym first ∙ ap (big_number 4) (take-append-drop m (drop 14 bytes))

-- a whole record at the front has a head, lies within the bytes, and is a record by itself
pub whole_front : (limit : ℕ) (bytes : List ℕ) (n : ℕ) → front_of limit bytes ≡ Whole n → (18 ≤ n) × (n ≤ length bytes) × IsRecord limit (take n bytes)
whole_front limit bytes n e =
    let tests = none_holds (ltb (length bytes) 18) (ltb limit (said bytes)) (ltb (length bytes) (18 + said bytes)) (18 + said bytes) n e in
    let within : 18 + said bytes ≤ length bytes = ltb-false _ _ tests.2 in
    let small : said bytes ≤ limit = ltb-false _ _ tests.1 in
    let least : 18 ≤ n = omega (arith, tests.3) in
    let inside : n ≤ length bytes = omega (arith, tests.3, within) in
    let len : length (take n bytes) ≡ n = length-take-le n bytes inside in
    let says : said (take n bytes) ≡ said bytes = said_front n bytes least inside in (
      least,
      inside,
      rw (le-ltb (length (take n bytes)) 18 (omega (arith, len, least)))
          (rw (le-ltb limit (said (take n bytes)) (omega (arith, says, small)))
          (rw (le-ltb (length (take n bytes)) (18 + said (take n bytes)) (omega (arith, len, says, tests.3)))
          (ap Whole (omega (arith, len, says, tests.3))))),
    )

-- of a whole one the head says the length, which is allowed
pub whole_says : (limit : ℕ) (bytes : List ℕ) (n : ℕ) → front_of limit bytes ≡ Whole n → (n ≡ 18 + said bytes) × (said bytes ≤ limit)
whole_says limit bytes n e =
    let tests = none_holds (ltb (length bytes) 18) (ltb limit (said bytes)) (ltb (length bytes) (18 + said bytes)) (18 + said bytes) n e in
    (sym tests.3, ltb-false _ _ tests.1)

-- what is neither whole nor too long is less than a record
pub is_partial : (f : Front) → ((n : ℕ) → f ≡ Whole n → ⊥) → (f ≡ TooLong → ⊥) → f ≡ Partial
is_partial (Whole n) never long = absurd (never n refl)
is_partial Partial never long = refl
is_partial TooLong never long = absurd (long refl)

-- and has fewer bytes than the longest record
short_at : (short long cut : Bool) (len limit m : ℕ) → ltb len 18 ≡ short → ltb limit m ≡ long → ltb len (18 + m) ≡ cut → (chosen short long cut (18 + m) ≡ Whole (18 + m) → ⊥)
    → (chosen short long cut (18 + m) ≡ TooLong → ⊥) → len < 18 + limit
short_at true long cut len limit m es el ec whole too = omega (arith, ltb-true len 18 es)
short_at false true cut len limit m es el ec whole too = absurd (too refl)
short_at false false true len limit m es el ec whole too = omega (arith, ltb-true len (18 + m) ec, ltb-false limit m el)
short_at false false false len limit m es el ec whole too = absurd (whole refl)

pub short_rest : (limit : ℕ) (rest : List ℕ) → BeginsNoRecord limit rest → (front_of limit rest ≡ TooLong → ⊥) → length rest < 18 + limit
short_rest limit rest none too = short_at _ _ _ (length rest) limit (said rest) refl refl refl (none (18 + said rest)) too

-- a record stays one whatever follows it
pub front_more : (limit : ℕ) (r more : List ℕ) → IsRecord limit r → front_of limit (r ++ more) ≡ Whole (length r)
front_more limit r more e =
    let tests = none_holds (ltb (length r) 18) (ltb limit (said r)) (ltb (length r) (18 + said r)) (18 + said r) (length r) e in
    let least : 18 ≤ length r = ltb-false _ _ tests.0 in
    let small : said r ≤ limit = ltb-false _ _ tests.1 in
    let len : length (r ++ more) ≡ length r + length more = length-append r more in
    let long : length (drop 14 r) ≡ length r - 14 = length-drop 14 r in
    let says : said (r ++ more) ≡ said r =
    ap (big_number 4) (drop-append-le 14 r more (omega (arith, least))) ∙ big_from-append 4 (drop 14 r) more (omega (arith, long, least)) in
    rw (le-ltb (length (r ++ more)) 18 (omega (arith, len, least)))
    (rw (le-ltb limit (said (r ++ more)) (omega (arith, says, small)))
    (rw (le-ltb (length (r ++ more)) (18 + said (r ++ more)) (omega (arith, len, says, tests.3)))
    (ap Whole (omega (arith, says, tests.3)))))

-- two records that begin the same bytes are as long
same_length : (limit : ℕ) (r s more other : List ℕ) → IsRecord limit r → IsRecord limit s → r ++ more ≡ s ++ other → length r ≡ length s
same_length limit r s more other er es same =
    let whole : Whole (length r) ≡ Whole (length s) = sym (front_more limit r more er) ∙ ap (front_of limit) same ∙ front_more limit s other es in
    cc

-- bytes are read in one way
pub one_reading : (limit : ℕ) (bytes rest other : List ℕ) (records others : List (List ℕ)) → Holds limit bytes records rest → BeginsNoRecord limit rest
    → Holds limit bytes others other → BeginsNoRecord limit other → (records ≡ others) × (rest ≡ other)
one_reading limit bytes rest other [] [] h none k never = (refl, sym h.is ∙ k.is)
one_reading limit bytes rest other [] (s ∷ ss) h none k never =
    let same : rest ≡ s ++ (joined ss ++ other) = sym h.is ∙ k.is ∙ append_assoc s (joined ss) other in
    absurd (none (length s) (ap (front_of limit) same ∙ front_more limit s (joined ss ++ other) k.each.0))
one_reading limit bytes rest other (r ∷ rs) [] h none k never =
    let same : other ≡ r ++ (joined rs ++ rest) = sym k.is ∙ h.is ∙ append_assoc r (joined rs) rest in
    absurd (never (length r) (ap (front_of limit) same ∙ front_more limit r (joined rs ++ rest) h.each.0))
one_reading limit bytes rest other (r ∷ rs) (s ∷ ss) h none k never =
    let left : List ℕ = joined rs ++ rest in
    let right : List ℕ = joined ss ++ other in
    let same : r ++ left ≡ s ++ right = sym (append_assoc r (joined rs) rest) ∙ sym h.is ∙ k.is ∙ append_assoc s (joined ss) other in
    let long : length r ≡ length s = same_length limit r s left right h.each.0 k.each.0 same in
    let first : r ≡ s = sym (take-append_seam r left) ∙ ap (λ (n : ℕ). take n (r ++ left)) long ∙ ap (take (length s)) same ∙ take-append_seam s right in
    let behind : left ≡ right = sym (drop-append_seam r left) ∙ ap (λ (n : ℕ). drop n (r ++ left)) long ∙ ap (drop (length s)) same ∙ drop-append_seam s right in
    let others = one_reading limit left rest other rs ss (record { each = h.each.1; is = refl }) none (record { each = k.each.1; is = behind }) never in
    (ap (λ (x : List ℕ). x ∷ rs) first ∙ ap (λ (xs : List (List ℕ)). s ∷ xs) others.0, others.1)
