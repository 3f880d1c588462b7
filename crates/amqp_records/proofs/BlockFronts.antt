-- What a whole block at the front of bytes is, and how far a file is whole.
use Rattle.std.proofs.Common.{◌≡◌, ℕ, ◌+◌, ◌-◌, ◌^◌, ◌<◌, ◌≤◌, ◌&&◌, ◌||◌, ◌⊎◌, inl, inr, Bool, true, false, cond, ltb, leb, eqb, List, [], ◌∷◌, ◌++◌, length, take, drop, length-drop, refl, sym, ap, ◌∙◌, subst, arith, append_assoc, append-nil, length-append, take_all}
use Rattle.std.specs.Prelude.{Option}
use Rattle.std.specs.Io.KnownBytes.{Consumes}
use Rattle.std.proofs.KnownBytes.{Consumes-nil, Consumes-trans}
use Rattle.std.proofs.lemmas.Bool.{true≢false, cases_lt, ltb-false, lt-ltb, le-ltb, leb-true, le-leb, eqb-true, eq-eqb, and_from, or_left, or_right}
use Rattle.std.proofs.lemmas.List.{take-append-drop, drop-drop, length-take-le, drop-append-le}
use Rattle.std.proofs.Math.Seq.{take-append-add, take-append_seam, drop-append_seam}
use Rattle.byteorder.specs.Endian.{big_number, big_bytes}
use Rattle.byteorder.specs.Numbers.{big_from-append, big_number-reads_back}
use Rattle.amqp_records.specs.declared.blocks.BlockFront.{BlockFront}
use Rattle.amqp_records.specs.declared.blocks.BlockFront.TheVariants as front
use Rattle.amqp_records.specs.declared.record.Front.TheVariants.{Whole}
use Rattle.amqp_records.specs.Records.{front_of, said, AreRecords, joined, Holds, BeginsNoRecord}
use Rattle.amqp_records.specs.Blocks.{block_most, block_text, number_of, size_of, may_have, may_begin, head_front, IfWhole, IsTorn, AllRecords, FileBlock, bytes_of, AreFew, IsBlock, AreWholeBlocks, file_of, HoldsBlocks, BeginsNoBlock, BeginsBlock, IsWholeTo}
use Rattle.amqp_records.proofs.Fronts.{front_more, whole_front, whole_says, said_front}

-- Parts of bytes, as the code takes them. -----------------------------------------------------------------------------

-- from a place on
pub from_on : (at : ℕ) (bytes : List ℕ) → take (length bytes - at) (drop at bytes) ≡ drop at bytes
from_on at bytes = take_all (length bytes - at) (drop at bytes) (omega (arith, length-drop at bytes))

-- so many from a place on
pub part_of : (at n : ℕ) (bytes : List ℕ) → take ((at + n) - at) (drop at bytes) ≡ take n (drop at bytes)
part_of at n bytes = let same : (at + n) - at ≡ n = omega arith in ap (λ (k : ℕ). take k (drop at bytes)) same

-- Records that fill the bytes. ----------------------------------------------------------------------------------------

-- they go on behind the first one
pub records_behind : (limit : ℕ) (bytes : List ℕ) (n : ℕ) → front_of limit bytes ≡ Whole n → (records : List (List ℕ)) → Holds limit bytes records [] → AllRecords limit (drop n bytes)
records_behind limit bytes n e [] h =
    let never : front_of limit [] ≡ Whole n = subst (λ (y : List ℕ). front_of limit y ≡ Whole n) h.is e in absurd cc
records_behind limit bytes n e (r ∷ rs) h =
    let same : bytes ≡ r ++ joined rs = h.is ∙ append-nil (r ++ joined rs) in
    let whole : Whole (length r) ≡ Whole n = sym (front_more limit r (joined rs) h.each.0) ∙ ap (front_of limit) (sym same) ∙ e in
    let long : n ≡ length r = cc in
    let behind : drop n bytes ≡ joined rs = ap (drop n) same ∙ ap (λ (k : ℕ). drop k (r ++ joined rs)) long ∙ drop-append_seam r (joined rs) in
    (rs, record { each = h.each.1; is = behind ∙ sym (append-nil (joined rs)) })

-- and one stands in front of others
pub records_before : (limit : ℕ) (bytes : List ℕ) (n : ℕ) → front_of limit bytes ≡ Whole n → AllRecords limit (drop n bytes) → AllRecords limit bytes
records_before limit bytes n e all = (
  take n bytes ∷ all.0,
  record {
    each = ((whole_front limit bytes n e).2, all.1.each);
    is = sym (take-append-drop n bytes) ∙ ap (λ (y : List ℕ). take n bytes ++ y) all.1.is ∙ sym (append_assoc (take n bytes) (joined all.0) []);
  },
)

-- where none begins they are none
pub none_left : (limit : ℕ) (bytes : List ℕ) → BeginsNoRecord limit bytes → (records : List (List ℕ)) → Holds limit bytes records [] → bytes ≡ []
none_left limit bytes none [] h = h.is
none_left limit bytes none (r ∷ rs) h =
    let same : bytes ≡ r ++ joined rs = h.is ∙ append-nil (r ++ joined rs) in
    absurd (none (length r) (ap (front_of limit) same ∙ front_more limit r (joined rs) h.each.0))

pub no_records : (limit : ℕ) → AllRecords limit []
no_records limit = ([], record { each = tt; is = refl })

-- What a head comes to. -----------------------------------------------------------------------------------------------

-- how a front comes of five tests
abbrev chosen : (short have low begin cut : Bool) → ℕ → BlockFront
chosen short have low begin cut n = cond short front.Partial (cond have (cond low front.Partial (cond begin (cond cut front.Partial (front.Whole n)) front.NoBlock)) front.NoBlock)

all_hold : (short have low begin cut : Bool) (k n : ℕ) → chosen short have low begin cut k ≡ front.Whole n
    → (short ≡ false) × (have ≡ true) × (low ≡ false) × (begin ≡ true) × (cut ≡ false) × (k ≡ n)
all_hold true have low begin cut k n e = absurd cc
all_hold false false low begin cut k n e = absurd cc
all_hold false true true begin cut k n e = absurd cc
all_hold false true false false cut k n e = absurd cc
all_hold false true false true true k n e = absurd cc
all_hold false true false true false k n e = (refl, refl, refl, refl, refl, cc)

all_given : (short have low begin cut : Bool) (k : ℕ) → short ≡ false → have ≡ true → low ≡ false → begin ≡ true → cut ≡ false → chosen short have low begin cut k ≡ front.Whole k
all_given true have low begin cut k a b c d e = absurd cc
all_given false false low begin cut k a b c d e = absurd cc
all_given false true true begin cut k a b c d e = absurd cc
all_given false true false false cut k a b c d e = absurd cc
all_given false true false true true k a b c d e = absurd cc
all_given false true false true false k a b c d e = refl

begin_parts : (x y z w : Bool) → (x && (y || (z && w))) ≡ true → (x ≡ true) × ((y ≡ true) ⊎ ((z ≡ true) × (w ≡ true)))
begin_parts false y z w e = absurd cc
begin_parts true true z w e = (refl, inl refl)
begin_parts true false false w e = absurd cc
begin_parts true false true false e = absurd cc
begin_parts true false true true e = (refl, inr (refl, refl))

have_parts : (x y : Bool) → (x && y) ≡ true → x ≡ true
have_parts false y e = absurd cc
have_parts true y e = refl

-- the first record is all of them, or they are few enough
abbrev First : (n m : ℕ) → Type 0
First n m = (n ≡ 18 + m) ⊎ ((18 + m ≤ n) × (n ≤ block_most))

-- what the head of a whole one says
head_whole : (limit : ℕ) (bytes : List ℕ) (n : ℕ) → head_front limit bytes ≡ front.Whole n
    → (12 + n ≤ length bytes) × (size_of bytes ≡ n) × (18 ≤ n) × (said (drop 12 bytes) ≤ limit) × First n (said (drop 12 bytes))
head_whole limit bytes n e =
    let size : ℕ = size_of bytes in
    let m : ℕ = said (drop 12 bytes) in
    let tests = all_hold (ltb (length bytes) 12) (may_have limit size) (ltb (length bytes) 30) (may_begin limit size m) (ltb (length bytes) (12 + size)) size n e in
    let same : size ≡ n = tests.5 in
    let long : 12 + size ≤ length bytes = ltb-false _ _ tests.4 in
    let least : 18 ≤ size = leb-true _ _ (have_parts (leb 18 size) _ tests.1) in
    let parts = begin_parts (leb m limit) (eqb size (18 + m)) (leb (18 + m) size) (leb size block_most) tests.3 in
    let first : First size m = elim parts.1 [
      | inl all ↦ inl (eqb-true _ _ all)
      | inr few ↦ inr (leb-true _ _ few.0, leb-true _ _ few.1)
    ] in
    (omega arith, same, omega arith, leb-true _ _ parts.0, subst (λ (k : ℕ). First k m) same first)

-- such a head is allowed
allowed : (limit n m : ℕ) → 18 ≤ n → m ≤ limit → First n m → (may_have limit n ≡ true) × (may_begin limit n m ≡ true)
allowed limit n m least small first =
    let fits : ((leb n block_most || leb n (18 + limit)) ≡ true) = elim first [
      | inl all ↦ or_right _ _ (le-leb n (18 + limit) (omega (arith, all, small)))
      | inr few ↦ or_left _ _ (le-leb n block_most few.1)
    ] in
    let begins : ((eqb n (18 + m) || (leb (18 + m) n && leb n block_most)) ≡ true) = elim first [
      | inl all ↦ or_left _ _ (eq-eqb n (18 + m) all)
      | inr few ↦ or_right _ _ (and_from _ _ (le-leb (18 + m) n few.0) (le-leb n block_most few.1))
    ] in
    (and_from _ _ (le-leb 18 n least) fits, and_from _ _ (le-leb m limit small) begins)

head_from : (limit : ℕ) (bytes : List ℕ) → 12 + size_of bytes ≤ length bytes → 18 ≤ size_of bytes → said (drop 12 bytes) ≤ limit → First (size_of bytes) (said (drop 12 bytes))
    → head_front limit bytes ≡ front.Whole (size_of bytes)
head_from limit bytes long least small first =
    let size : ℕ = size_of bytes in
    let m : ℕ = said (drop 12 bytes) in
    let may = allowed limit size m least small first in
    all_given (ltb (length bytes) 12) (may_have limit size) (ltb (length bytes) 30) (may_begin limit size m) (ltb (length bytes) (12 + size)) size
    (le-ltb (length bytes) 12 (omega (arith, long))) may.0 (le-ltb (length bytes) 30 (omega (arith, long, least))) may.1 (le-ltb (length bytes) (12 + size) long)

-- the size that a head says stands in its first 12 bytes
size_front : (head more : List ℕ) → length head ≡ 12 → size_of (head ++ more) ≡ size_of head
size_front head more long =
    let left : length (drop 8 head) ≡ length head - 8 = length-drop 8 head in
    ap (big_number 4) (drop-append-le 8 head more (omega (arith, long))) ∙ big_from-append 4 (drop 8 head) more (omega (arith, left, long))

-- A block at the front. -----------------------------------------------------------------------------------------------

-- records behind a head that allows them are few
few_of : (limit : ℕ) (bytes : List ℕ) (n : ℕ) → 18 ≤ n → First n (said bytes) → (records : List (List ℕ)) → AreRecords limit records → joined records ≡ bytes → length bytes ≡ n
    → AreFew records
few_of limit bytes n least first [] each same long = absurd (omega (arith, ap length same, long, least))
few_of limit bytes n least first (r ∷ []) each same long = tt
few_of limit bytes n least first (r ∷ s ∷ records) each same long =
    let all : length (joined (r ∷ s ∷ records)) ≡ n = ap length same ∙ long in
    elim first [
      | inl one ↦
          let says = whole_says limit (r ++ joined (s ∷ records)) (length r) (front_more limit r (joined (s ∷ records)) each.0) in
          let first_long : length r ≡ 18 + said bytes = says.0 ∙ ap (λ (y : List ℕ). 18 + said y) same in
          let other = whole_says limit s (length s) each.1.0 in
          absurd (omega (arith, one, all, first_long, other.0, length-append r (joined (s ∷ records)), length-append s (joined records)))
      | inr few ↦ omega (arith, all, few.1)
    ]

pub front_block : (limit : ℕ) (bytes : List ℕ) (n : ℕ) → head_front limit bytes ≡ front.Whole n → AllRecords limit (take n (drop 12 bytes)) → BeginsBlock limit bytes n
front_block limit bytes n e all =
    let h = head_whole limit bytes n e in
    let records = all.0 in
    let same : take n (drop 12 bytes) ≡ joined records = all.1.is ∙ append-nil (joined records) in
    let left : length (drop 12 bytes) ≡ length bytes - 12 = length-drop 12 bytes in
    let part : length (take n (drop 12 bytes)) ≡ n = length-take-le n (drop 12 bytes) (omega (arith, left, h.0)) in
    let long : length (joined records) ≡ n = ap length (sym same) ∙ part in
    let head : length (take 12 bytes) ≡ 12 = length-take-le 12 bytes (omega (arith, h.0)) in
    let size : size_of (take 12 bytes) ≡ n = sym (size_front (take 12 bytes) (drop 12 bytes) head) ∙ ap size_of (take-append-drop 12 bytes) ∙ h.1 in
    let says : said (take n (drop 12 bytes)) ≡ said (drop 12 bytes) = said_front n (drop 12 bytes) h.2 (omega (arith, left, h.0)) in
    let first : First n (said (take n (drop 12 bytes))) = subst (First n) (sym says) h.4 in
    record {
      block = record { head = take 12 bytes; records = records };
      whole = record { headed = head; sized = size ∙ sym long; each = all.1.each; few = few_of limit (take n (drop 12 bytes)) n h.2 first records all.1.each (sym same) part };
      sized = long;
      is = sym (take-append-drop 12 bytes) ∙ ap (λ (y : List ℕ). take 12 bytes ++ y)
          (sym (take-append-drop n (drop 12 bytes)) ∙ ap (λ (y : List ℕ). y ++ drop n (drop 12 bytes)) same ∙ ap (λ (y : List ℕ). joined records ++ y) (drop-drop n 12 bytes))
          ∙ sym (append_assoc (take 12 bytes) (joined records) (drop (12 + n) bytes));
    }

-- of one record, or of few, the first is all of them, or they are few enough
first_of_few : (limit : ℕ) (records : List (List ℕ)) (more : List ℕ) → AreRecords limit records → AreFew records
    → (18 ≤ length (joined records)) × (said (joined records ++ more) ≤ limit) × First (length (joined records)) (said (joined records ++ more))
first_of_few limit [] more each few = absurd few
first_of_few limit (r ∷ []) more each few =
    let same : joined (r ∷ []) ++ more ≡ r ++ more = ap (λ (y : List ℕ). y ++ more) (append-nil r) in
    let says = whole_says limit (r ++ more) (length r) (front_more limit r more each.0) in
    let m : said (joined (r ∷ []) ++ more) ≡ said (r ++ more) = ap said same in
    let long : length (joined (r ∷ [])) ≡ length r = ap length (append-nil r) in
    (omega (arith, long, says.0), omega (arith, m, says.1), inl (omega (arith, long, says.0, m)))
first_of_few limit (r ∷ s ∷ records) more each few =
    let rest : List ℕ = joined (s ∷ records) in
    let same : joined (r ∷ s ∷ records) ++ more ≡ r ++ (rest ++ more) = append_assoc r rest more in
    let says = whole_says limit (r ++ (rest ++ more)) (length r) (front_more limit r (rest ++ more) each.0) in
    let m : said (joined (r ∷ s ∷ records) ++ more) ≡ said (r ++ (rest ++ more)) = ap said same in
    let long : length (joined (r ∷ s ∷ records)) ≡ length r + length rest = length-append r rest in
    (omega (arith, long, says.0), omega (arith, m, says.1), inr (omega (arith, long, says.0, m), few))

-- a block stays one whatever follows it
pub block_more : (limit : ℕ) (b : FileBlock) (more : List ℕ) → IsBlock limit b → head_front limit (bytes_of b ++ more) ≡ front.Whole (length (joined b.records))
block_more limit b more w =
    let body : List ℕ = joined b.records ++ more in
    let all : List ℕ = b.head ++ body in
    let same : bytes_of b ++ more ≡ all = append_assoc b.head (joined b.records) more in
    let size : size_of all ≡ length (joined b.records) = size_front b.head body w.headed ∙ w.sized in
    let behind : drop 12 all ≡ body = ap (λ (k : ℕ). drop k all) (sym w.headed) ∙ drop-append_seam b.head body in
    let facts = first_of_few limit b.records more w.each w.few in
    let long : length all ≡ 12 + length (joined b.records) + length more =
    length-append b.head body ∙ ap (λ (k : ℕ). k + length body) w.headed ∙ ap (λ (k : ℕ). 12 + k) (length-append (joined b.records) more) ∙ omega arith
    in
    let m : said (drop 12 all) ≡ said body = ap said behind in
    let first : First (size_of all) (said (drop 12 all)) = subst (λ (k : ℕ). First k (said (drop 12 all))) (sym size) (subst (First (length (joined b.records))) (sym m) facts.2) in
    ap (head_front limit) same ∙ head_from limit all (omega (arith, size, long)) (omega (arith, size, facts.0)) (omega (arith, m, facts.1)) first ∙ ap front.Whole size

-- where the head says something else no block stands
pub no_whole : (limit : ℕ) (bytes : List ℕ) → ((n : ℕ) → head_front limit bytes ≡ front.Whole n → ⊥) → BeginsNoBlock limit bytes
no_whole limit bytes never = λ b more w is. never (length (joined b.records)) (ap (head_front limit) is ∙ block_more limit b more w)

pub none_torn : (limit : ℕ) (bytes : List ℕ) → IsTorn limit bytes → BeginsNoBlock limit bytes
none_torn limit bytes torn = no_whole limit bytes (λ n e. let never : front.Partial ≡ front.Whole n = sym torn ∙ e in absurd cc)

pub none_headed : (limit : ℕ) (bytes : List ℕ) → head_front limit bytes ≡ front.NoBlock → BeginsNoBlock limit bytes
none_headed limit bytes is = no_whole limit bytes (λ n e. let never : front.NoBlock ≡ front.Whole n = sym is ∙ e in absurd cc)

pub none_recorded : (limit : ℕ) (bytes : List ℕ) (n : ℕ) → head_front limit bytes ≡ front.Whole n → (AllRecords limit (take n (drop 12 bytes)) → ⊥) → BeginsNoBlock limit bytes
none_recorded limit bytes n e never = λ b more w is.
    let body : List ℕ = joined b.records ++ more in
    let whole : front.Whole n ≡ front.Whole (length (joined b.records)) = sym e ∙ ap (head_front limit) is ∙ block_more limit b more w in
    let long : n ≡ length (joined b.records) = cc in
    let same : bytes ≡ b.head ++ body = is ∙ append_assoc b.head (joined b.records) more in
    let behind : drop 12 bytes ≡ body = ap (drop 12) same ∙ ap (λ (k : ℕ). drop k (b.head ++ body)) (sym w.headed) ∙ drop-append_seam b.head body in
    let part : take n (drop 12 bytes) ≡ joined b.records = ap (take n) behind ∙ ap (λ (k : ℕ). take k body) long ∙ take-append_seam (joined b.records) more in
    never (b.records, record { each = w.each; is = part ∙ sym (append-nil (joined b.records)) })

-- what is not whole
pub not_whole : (f : BlockFront) → ((n : ℕ) → f ≡ front.Whole n → ⊥) → (f ≡ front.Partial) ⊎ (f ≡ front.NoBlock)
not_whole (front.Whole n) never = absurd (never n refl)
not_whole front.Partial never = inl refl
not_whole front.NoBlock never = inr refl

-- How far a file is whole. --------------------------------------------------------------------------------------------

blocks_join : (limit : ℕ) (blocks more : List FileBlock) → AreWholeBlocks limit blocks → AreWholeBlocks limit more → AreWholeBlocks limit (blocks ++ more)
blocks_join limit [] more each others = others
blocks_join limit (b ∷ blocks) more each others = (each.0, blocks_join limit blocks more each.1 others)

pub file_join : (blocks more : List FileBlock) → file_of (blocks ++ more) ≡ file_of blocks ++ file_of more
file_join [] more = refl
file_join (b ∷ blocks) more = ap (λ (y : List ℕ). bytes_of b ++ y) (file_join blocks more) ∙ sym (append_assoc (bytes_of b) (file_of blocks) (file_of more))

-- blocks behind others
pub holds_join : (limit : ℕ) (bytes rest left : List ℕ) (blocks more : List FileBlock) → HoldsBlocks limit bytes blocks rest → HoldsBlocks limit rest more left
    → HoldsBlocks limit bytes (blocks ++ more) left
holds_join limit bytes rest left blocks more h k = record {
  each = blocks_join limit blocks more h.each k.each;
  is = h.is ∙ ap (λ (y : List ℕ). file_of blocks ++ y) k.is ∙ sym (append_assoc (file_of blocks) (file_of more) left) ∙ ap (λ (y : List ℕ). y ++ left) (sym (file_join blocks more));
}

-- one at the front
pub holds_one : (limit : ℕ) (bytes : List ℕ) (n : ℕ) → (h : BeginsBlock limit bytes n) → HoldsBlocks limit bytes (h.block ∷ []) (drop (12 + n) bytes)
holds_one limit bytes n h = record {
  each = (h.whole, tt);
  is = h.is ∙ ap (λ (y : List ℕ). y ++ drop (12 + n) bytes) (sym (append-nil (bytes_of h.block)));
}

-- none
pub holds_none : (limit : ℕ) (bytes : List ℕ) → HoldsBlocks limit bytes [] bytes
holds_none limit bytes = record { each = tt; is = refl }

-- more bytes came
pub holds_piece : (limit : ℕ) (bytes rest piece : List ℕ) (blocks : List FileBlock) → HoldsBlocks limit bytes blocks rest → HoldsBlocks limit (bytes ++ piece) blocks (rest ++ piece)
holds_piece limit bytes rest piece blocks h = record { each = h.each; is = ap (λ (y : List ℕ). y ++ piece) h.is ∙ append_assoc (file_of blocks) rest piece }

-- no front that is blocks is longer than one behind which none begins
pub longest : (limit : ℕ) (bytes rest other : List ℕ) (blocks others : List FileBlock) → HoldsBlocks limit bytes blocks rest → BeginsNoBlock limit rest
    → HoldsBlocks limit bytes others other → length (file_of others) ≤ length (file_of blocks)
longest limit bytes rest other blocks [] h none k = omega arith
longest limit bytes rest other [] (s ∷ ss) h none k =
    absurd (none s (file_of ss ++ other) k.each.0 (sym h.is ∙ k.is ∙ append_assoc (bytes_of s) (file_of ss) other))
longest limit bytes rest other (b ∷ bs) (s ∷ ss) h none k =
    let left : List ℕ = file_of bs ++ rest in
    let right : List ℕ = file_of ss ++ other in
    let same : bytes_of b ++ left ≡ bytes_of s ++ right =
    sym (append_assoc (bytes_of b) (file_of bs) rest) ∙ sym h.is ∙ k.is ∙ append_assoc (bytes_of s) (file_of ss) other
    in
    let whole : front.Whole (length (joined b.records)) ≡ front.Whole (length (joined s.records)) =
    sym (block_more limit b left h.each.0) ∙ ap (head_front limit) same ∙ block_more limit s right k.each.0
    in
    let bodies : length (joined b.records) ≡ length (joined s.records) = cc in
    let long : length (bytes_of b) ≡ length (bytes_of s) =
    length-append b.head (joined b.records) ∙ ap (λ (n : ℕ). n + length (joined b.records)) (h.each.0.headed ∙ sym k.each.0.headed)
    ∙ ap (λ (n : ℕ). length s.head + n) bodies ∙ sym (length-append s.head (joined s.records))
    in
    let behind : left ≡ right = sym (drop-append_seam (bytes_of b) left) ∙ ap (λ (n : ℕ). drop n (bytes_of b ++ left)) long ∙ ap (drop (length (bytes_of s))) same
    ∙ drop-append_seam (bytes_of s) right
    in
    let others = longest limit left rest other bs ss (record { each = h.each.1; is = refl }) none (record { each = k.each.1; is = behind }) in
    omega (arith, others, long, length-append (bytes_of b) (file_of bs), length-append (bytes_of s) (file_of ss))

pub whole_to : (limit : ℕ) (bytes rest : List ℕ) (blocks : List FileBlock) → HoldsBlocks limit bytes blocks rest → BeginsNoBlock limit rest → IsWholeTo limit bytes (length (file_of blocks))
whole_to limit bytes rest blocks h none = record {
  blocks = blocks;
  rest = rest;
  holds = h;
  long = refl;
  longest = λ others other k. longest limit bytes rest other blocks others h none k;
}

-- what of a file was read: blocks of so many bytes, and a rest
pub record HasCome (limit : ℕ) (left now : Option (List ℕ)) (place : ℕ) (rest : List ℕ) : Type 0 where
  pub came : List ℕ
  pub blocks : List FileBlock
  pub took : Consumes left now came
  pub holds : HoldsBlocks limit came blocks rest
  pub placed : place ≡ length (file_of blocks)

-- nothing came yet
pub none_came : (limit : ℕ) (left : Option (List ℕ)) → HasCome limit left left 0 []
none_came limit left = record { came = []; blocks = []; took = Consumes-nil left; holds = holds_none limit []; placed = refl }

-- a piece came, at whose front blocks became whole
pub more_came : (limit : ℕ) (left mid now : Option (List ℕ)) (place n : ℕ) (rest piece : List ℕ) (more : List FileBlock) → HasCome limit left mid place rest → Consumes mid now piece
    → n ≤ length (rest ++ piece) → HoldsBlocks limit (rest ++ piece) more (drop n (rest ++ piece)) → HasCome limit left now (place + n) (drop n (rest ++ piece))
more_came limit left mid now place n rest piece more h took within holds =
    let all : List ℕ = rest ++ piece in
    let behind : length (drop n all) ≡ length all - n = length-drop n all in
    let long : length all ≡ length (file_of more) + length (drop n all) = ap length holds.is ∙ length-append (file_of more) (drop n all) in
    record {
      came = h.came ++ piece;
      blocks = h.blocks ++ more;
      took = Consumes-trans left mid now h.came piece h.took took;
      holds = holds_join limit (h.came ++ piece) all (drop n all) h.blocks more (holds_piece limit h.came rest piece h.blocks h.holds) holds;
      placed = omega (arith, behind, long, within, h.placed, ap length (file_join h.blocks more), length-append (file_of h.blocks) (file_of more));
    }

-- behind the blocks stands the rest
pub rest_left : (limit : ℕ) (bytes rest : List ℕ) (blocks : List FileBlock) (n : ℕ) → HoldsBlocks limit bytes blocks rest → n ≡ length (file_of blocks) → drop n bytes ≡ rest
rest_left limit bytes rest blocks n h long = ap (drop n) h.is ∙ ap (λ (k : ℕ). drop k (file_of blocks ++ rest)) long ∙ drop-append_seam (file_of blocks) rest

pub came_to : (limit : ℕ) (left now : Option (List ℕ)) (place : ℕ) (rest : List ℕ) → (h : HasCome limit left now place rest) → BeginsNoBlock limit rest → IsWholeTo limit h.came place
came_to limit left now place rest h none = subst (IsWholeTo limit h.came) (sym h.placed) (whole_to limit h.came rest h.blocks h.holds none)

-- as the code keeps them
pub came_on : (limit : ℕ) (left mid now : Option (List ℕ)) (place n next : ℕ) (rest piece grown all dropped : List ℕ) → HasCome limit left mid place rest → Consumes mid now piece
    → grown ≡ rest ++ piece → all ≡ grown → n ≤ length all → ((blocks : List FileBlock) × HoldsBlocks limit all blocks (drop n all)) → dropped ≡ drop n grown → next ≡ place + n
    → HasCome limit left now next dropped
came_on limit left mid now place n next rest piece grown all dropped h took grows is within blocks drops goes =
    let same : all ≡ rest ++ piece = is ∙ grows in
    subst (λ (y : List ℕ). HasCome limit left now next y) (sym (drops ∙ ap (drop n) grows))
    (subst (λ (k : ℕ). HasCome limit left now k (drop n (rest ++ piece))) (sym goes)
    (more_came limit left mid now place n rest piece blocks.0 h took (subst (λ (y : List ℕ). n ≤ length y) same within)
    (subst (λ (y : List ℕ). HoldsBlocks limit y blocks.0 (drop n y)) same blocks.1)))

-- where no whole block stands, and something else is not said, less than one does
pub front_torn : (limit : ℕ) (bytes : List ℕ) (f : BlockFront) → BeginsNoBlock limit bytes → IfWhole f (λ n. BeginsBlock limit bytes n) → (f ≡ front.Partial → IsTorn limit bytes)
    → (f ≡ front.NoBlock → ⊥) → IsTorn limit bytes
front_torn limit bytes (front.Whole n) none whole torn never = absurd (none whole.block (drop (12 + n) bytes) whole.whole whole.is)
front_torn limit bytes front.Partial none whole torn never = torn refl
front_torn limit bytes front.NoBlock none whole torn never = absurd (never refl)

-- what all that came is
pub came_whole : (limit : ℕ) (left now : Option (List ℕ)) (place len : ℕ) (rest : List ℕ) → HasCome limit left now place rest → IsTorn limit rest → len ≡ length rest
    → (bytes : List ℕ) × Consumes left now bytes × IsWholeTo limit bytes place × IsTorn limit (drop place bytes) × (length bytes ≡ place + len)
came_whole limit left now place len rest h torn long = (
  h.came,
  h.took,
  came_to limit left now place rest h (none_torn limit rest torn),
  subst (IsTorn limit) (sym (rest_left limit h.came rest h.blocks place h.holds h.placed)) torn,
  omega (arith, ap length h.holds.is, length-append (file_of h.blocks) rest, h.placed, long),
)

pub came_otherwise : (limit : ℕ) (left now : Option (List ℕ)) (place : ℕ) (rest : List ℕ) → HasCome limit left now place rest → BeginsNoBlock limit rest → (IsTorn limit rest → ⊥)
    → (bytes : List ℕ) × Consumes left now bytes × IsWholeTo limit bytes place × (IsTorn limit (drop place bytes) → ⊥)
came_otherwise limit left now place rest h none never = (
  h.came,
  h.took,
  came_to limit left now place rest h none,
  λ torn. never (subst (IsTorn limit) (rest_left limit h.came rest h.blocks place h.holds h.placed) torn),
)

-- What is written is read. --------------------------------------------------------------------------------------------

short_given : (short have low begin cut : Bool) (k : ℕ) → short ≡ true → chosen short have low begin cut k ≡ front.Partial
short_given true have low begin cut k is = refl
short_given false have low begin cut k is = absurd cc

cut_given : (short have low begin cut : Bool) (k : ℕ) → have ≡ true → (low ≡ false → (begin ≡ true) × (cut ≡ true)) → chosen short have low begin cut k ≡ front.Partial
cut_given true have low begin cut k is more = refl
cut_given false false low begin cut k is more = absurd cc
cut_given false true true begin cut k is more = refl
cut_given false true false false cut k is more = absurd (true≢false (sym (more refl).0))
cut_given false true false true false k is more = absurd (true≢false (sym (more refl).1))
cut_given false true false true true k is more = refl

-- a beginning of a block is torn: of fewer bytes than a head has, and of more
short_torn : (limit : ℕ) (bytes : List ℕ) → length bytes < 12 → IsTorn limit bytes
short_torn limit bytes less = short_given (ltb (length bytes) 12) (may_have limit (size_of bytes)) (ltb (length bytes) 30) (may_begin limit (size_of bytes) (said (drop 12 bytes)))
    (ltb (length bytes) (12 + size_of bytes)) (size_of bytes) (lt-ltb (length bytes) 12 less)

headed_torn : (limit j : ℕ) (b : FileBlock) → IsBlock limit b → j < length (joined b.records) → IsTorn limit (b.head ++ take j (joined b.records))
headed_torn limit j b w less =
    let body : List ℕ = joined b.records in
    let part : List ℕ = take j body in
    let bytes : List ℕ = b.head ++ part in
    let size : size_of bytes ≡ length body = size_front b.head part w.headed ∙ w.sized in
    let behind : drop 12 bytes ≡ part = ap (λ (k : ℕ). drop k bytes) (sym w.headed) ∙ drop-append_seam b.head part in
    let of_part : length part ≡ j = length-take-le j body (omega (arith, less)) in
    let long : length bytes ≡ 12 + j = omega (arith, length-append b.head part, w.headed, of_part) in
    let facts = first_of_few limit b.records [] w.each w.few in
    let m : ℕ = said body in
    let same : said (body ++ []) ≡ m = ap said (append-nil body) in
    let first : First (length body) m = subst (First (length body)) same facts.2 in
    let may = allowed limit (length body) m facts.0 (omega (arith, same, facts.1)) first in
    cut_given (ltb (length bytes) 12) (may_have limit (size_of bytes)) (ltb (length bytes) 30) (may_begin limit (size_of bytes) (said (drop 12 bytes)))
    (ltb (length bytes) (12 + size_of bytes)) (size_of bytes) (ap (may_have limit) size ∙ may.0)
    (λ enough.
    let head : 30 ≤ length bytes = ltb-false _ _ enough in
    let says : said (drop 12 bytes) ≡ m = ap said behind ∙ said_front j body (omega (arith, head, long)) (omega (arith, less)) in (
      ap (λ (n : ℕ). may_begin limit n (said (drop 12 bytes))) size ∙ ap (may_begin limit (length body)) says ∙ may.1,
      lt-ltb (length bytes) (12 + size_of bytes) (omega (arith, long, size, less)),
    ))

pub beginning_torn : (limit k : ℕ) (b : FileBlock) → IsBlock limit b → k < length (bytes_of b) → IsTorn limit (take k (bytes_of b))
beginning_torn limit k b w less =
    let body : List ℕ = joined b.records in
    let all : length (bytes_of b) ≡ 12 + length body = length-append b.head body ∙ ap (λ (n : ℕ). n + length body) w.headed in
    let of_part : length (take k (bytes_of b)) ≡ k = length-take-le k (bytes_of b) (omega (arith, less)) in
    elim (cases_lt k 12) [
      | inl few ↦ short_torn limit (take k (bytes_of b)) (omega (arith, few, of_part))
      | inr more ↦
          let j : ℕ = k - 12 in
          let sum : k ≡ length b.head + j = omega (arith, more, w.headed) in
          let same : take k (bytes_of b) ≡ b.head ++ take j body = ap (λ (n : ℕ). take n (bytes_of b)) sum ∙ take-append-add b.head body j in
          subst (IsTorn limit) (sym same) (headed_torn limit j b w (omega (arith, less, all, more)))
    ]

-- what is put is read
pub put_read : (limit number : ℕ) (records : List (List ℕ)) → number < 2 ^ 64 → length (joined records) < 2 ^ 32 → AreRecords limit records → AreFew records
    → (b : FileBlock) × IsBlock limit b × (b.records ≡ records) × (number_of b.head ≡ number)
    × (bytes_of b ≡ block_text (record { number = number; records = joined records }))
put_read limit number records small few each are =
    let size : ℕ = length (joined records) in (
      record { head = big_bytes 8 number ++ big_bytes 4 size; records = records },
      record { headed = refl; sized = big_number-reads_back 4 size [] few; each = each; few = are },
      refl,
      big_number-reads_back 8 number (big_bytes 4 size) small,
      append_assoc (big_bytes 8 number) (big_bytes 4 size) (joined records),
    )
