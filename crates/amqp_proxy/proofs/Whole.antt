-- How far a header has come, with more bytes behind it.
use Rattle.std.specs.Prelude.{nat_lt, min, if◌then◌else◌}
use Rattle.std.proofs.Common.{◌≡◌, ℕ, ◌+◌, ◌/◌, ◌%◌, ◌<◌, ◌≤◌, Bool, true, false, not, eqb, List, [], ◌∷◌, ◌++◌, length, take, drop, inl, inr, refl, sym, ap, ◌∙◌, arith}
use Rattle.std.specs.Str.{bytes_eq}
use Rattle.std.proofs.lemmas.Bool.{cases_lt}
use Rattle.std.proofs.lemmas.Bool.Decides.{nat_tests}
use Rattle.std.proofs.lemmas.List.{length-append, length-drop, get_or_append_left, take-append-le, take-take, drop-append-le}
use Rattle.std.proofs.lemmas.Slice.Eq.{bytes_eq-Decides}
use Rattle.byteorder.specs.Endian.{big_from}
use Rattle.byteorder.specs.Numbers.{big_from-append}
use Rattle.amqp_proxy.specs.declared.faults.ProxyFault.{ProxyFault}
use Rattle.amqp_proxy.specs.declared.faults.ProxyFault.TheVariants as fault
use Rattle.amqp_proxy.specs.declared.progress.Progress.{Progress}
use Rattle.amqp_proxy.specs.declared.progress.Progress.TheVariants.{Short, Bad, Whole}
use Rattle.amqp_proxy.specs.declared.progress.TheConstants.{SIGNATURE}
use Rattle.amqp_proxy.specs.Headers.{is_signed, version_of, command_of, rest_len, progress_of}

-- how far a header has come of which n bytes are there
abbrev pub judged : Bool → ℕ → ℕ → ℕ → ℕ → Progress
judged signed n version command rest =
    if not signed then Bad fault.Signature
    else if nat_lt n 13 then Short
    else if not (eqb version 2) then Bad fault.Version
    else if nat_lt 1 command then Bad fault.Command
    else if nat_lt n 16 then Short
    else if nat_lt 520 rest then Bad fault.TooLong
    else if nat_lt n (16 + rest) then Short
    else Whole

pub judged_is : (bytes : List ℕ) → progress_of bytes ≡ judged (is_signed bytes) (length bytes) (version_of bytes) (command_of bytes) (rest_len bytes)
unfolding progress_of
judged_is bytes = refl

-- The signature. --------------------------------------------------------------------------------------------------------

-- where longer bytes begin as it does, so do shorter ones
signed_less : (bytes more : List ℕ) → is_signed (bytes ++ more) ≡ true → is_signed bytes ≡ true
signed_less bytes more h =
    let n = min (length bytes) 12 in
    let m = min (length (bytes ++ more)) 12 in
    let same : take m (bytes ++ more) ≡ take m SIGNATURE = (bytes_eq-Decides (take m (bytes ++ more)) (take m SIGNATURE)).0 h in
    let le : n ≤ m = omega (arith, length-append bytes more) in
    let within : n ≤ length bytes = omega arith in
    (bytes_eq-Decides (take n bytes) (take n SIGNATURE)).1
    (sym (take-append-le n bytes more within) ∙ sym (take-take n m (bytes ++ more) le) ∙ ap (λ (l : List ℕ). take n l) same ∙ take-take n m SIGNATURE le)

no_more : (b c : Bool) → (c ≡ true → b ≡ true) → b ≡ false → c ≡ false
no_more b true f h = absurd (cc (f refl, h))
no_more b false f h = refl

unsigned_more : (bytes more : List ℕ) → is_signed bytes ≡ false → is_signed (bytes ++ more) ≡ false
unsigned_more bytes more h = no_more (is_signed bytes) (is_signed (bytes ++ more)) (signed_less bytes more) h

signed_same : (bytes more : List ℕ) → 12 ≤ length bytes → is_signed (bytes ++ more) ≡ is_signed bytes
signed_same bytes more h =
    let n : min (length bytes) 12 ≡ 12 = omega arith in
    let m : min (length (bytes ++ more)) 12 ≡ 12 = omega (arith, length-append bytes more) in
    ap (λ (k : ℕ). bytes_eq (take k (bytes ++ more)) (take k SIGNATURE)) m
    ∙ ap (λ (l : List ℕ). bytes_eq l (take 12 SIGNATURE)) (take-append-le 12 bytes more h)
    ∙ sym (ap (λ (k : ℕ). bytes_eq (take k bytes) (take k SIGNATURE)) n)

-- The other fields. -----------------------------------------------------------------------------------------------------

version_same : (bytes more : List ℕ) → 13 ≤ length bytes → version_of (bytes ++ more) ≡ version_of bytes
version_same bytes more h = ap (λ (b : ℕ). b / 16) (get_or_append_left bytes more 0 12 (omega arith))

command_same : (bytes more : List ℕ) → 13 ≤ length bytes → command_of (bytes ++ more) ≡ command_of bytes
command_same bytes more h = ap (λ (b : ℕ). b % 16) (get_or_append_left bytes more 0 12 (omega arith))

pub rest_same : (bytes more : List ℕ) → 16 ≤ length bytes → rest_len (bytes ++ more) ≡ rest_len bytes
unfolding rest_len
rest_same bytes more h =
    ap (big_from 0 2) (drop-append-le 14 bytes more (omega arith)) ∙ big_from-append 2 (drop 14 bytes) more (omega (arith, length-drop 14 bytes))

-- How far it has come. --------------------------------------------------------------------------------------------------

short_is : (s : Bool) (n v c r : ℕ) → judged s n v c r ≡ Short → n < 536
short_is s n v c r h = grind (arith, nat_tests)

short_late : (s : Bool) (n v c r : ℕ) → judged s n v c r ≡ Short → 16 ≤ n → n < 16 + r
short_late s n v c r h late = grind (arith, nat_tests)

whole_is : (s : Bool) (n v c r : ℕ) → judged s n v c r ≡ Whole → 16 + r ≤ n
whole_is s n v c r h = grind (arith, nat_tests)

whole_more : (s : Bool) (n m v c r : ℕ) → judged s n v c r ≡ Whole → n ≤ m → judged s m v c r ≡ Whole
whole_more s n m v c r h le = grind (arith, nat_tests)

bad_early : (s : Bool) (n v c r : ℕ) (f : ProxyFault) → judged s n v c r ≡ Bad f → n < 13 → s ≡ false
bad_early true n v c r f h early = grind (arith, nat_tests)
bad_early false n v c r f h early = refl

bad_unsigned : (s t : Bool) (n m v c r w d q : ℕ) (f : ProxyFault) → judged s n v c r ≡ Bad f → s ≡ false → t ≡ false → judged t m w d q ≡ Bad f
bad_unsigned true t n m v c r w d q f h a b = absurd cc
bad_unsigned false true n m v c r w d q f h a b = absurd cc
bad_unsigned false false n m v c r w d q f h a b = h

bad_middle : (s : Bool) (n m v c r q : ℕ) (f : ProxyFault) → judged s n v c r ≡ Bad f → 13 ≤ n → n < 16 → n ≤ m → judged s m v c q ≡ Bad f
bad_middle s n m v c r q f h a b le = grind (arith, nat_tests)

bad_late : (s : Bool) (n m v c r : ℕ) (f : ProxyFault) → judged s n v c r ≡ Bad f → 16 ≤ n → n ≤ m → judged s m v c r ≡ Bad f
bad_late s n m v c r f h a le = grind (arith, nat_tests)

-- what is not whole is less than the longest header
pub short-below : (bytes : List ℕ) → progress_of bytes ≡ Short → length bytes < 536
short-below bytes h = short_is (is_signed bytes) (length bytes) (version_of bytes) (command_of bytes) (rest_len bytes) (sym (judged_is bytes) ∙ h)

pub whole-long : (bytes : List ℕ) → progress_of bytes ≡ Whole → 16 + rest_len bytes ≤ length bytes
whole-long bytes h = whole_is (is_signed bytes) (length bytes) (version_of bytes) (command_of bytes) (rest_len bytes) (sym (judged_is bytes) ∙ h)

-- the same of bytes with more behind them, by what is the same of both
same_judged : (bytes more : List ℕ) → 16 ≤ length bytes
    → progress_of (bytes ++ more) ≡ judged (is_signed bytes) (length (bytes ++ more)) (version_of bytes) (command_of bytes) (rest_len bytes)
same_judged bytes more h =
    let n = length (bytes ++ more) in
    let all = bytes ++ more in
    judged_is all
    ∙ ap (λ (s : Bool). judged s n (version_of all) (command_of all) (rest_len all)) (signed_same bytes more (omega arith))
    ∙ ap (λ (v : ℕ). judged (is_signed bytes) n v (command_of all) (rest_len all)) (version_same bytes more (omega arith))
    ∙ ap (λ (c : ℕ). judged (is_signed bytes) n (version_of bytes) c (rest_len all)) (command_same bytes more (omega arith))
    ∙ ap (λ (r : ℕ). judged (is_signed bytes) n (version_of bytes) (command_of bytes) r) (rest_same bytes more h)

-- a whole header stays one
pub whole-append : (bytes more : List ℕ) → progress_of bytes ≡ Whole → progress_of (bytes ++ more) ≡ Whole
whole-append bytes more h =
    let long = whole-long bytes h in
    same_judged bytes more (omega arith)
    ∙ whole_more (is_signed bytes) (length bytes) (length (bytes ++ more)) (version_of bytes) (command_of bytes) (rest_len bytes) (sym (judged_is bytes) ∙ h)
    (omega (arith, length-append bytes more))

-- what is none stays none, by the same fault
pub bad-append : (bytes more : List ℕ) (f : ProxyFault) → progress_of bytes ≡ Bad f → progress_of (bytes ++ more) ≡ Bad f
bad-append bytes more f h =
    let is = sym (judged_is bytes) ∙ h in
    let all = bytes ++ more in
    let longer : length bytes ≤ length all = omega (arith, length-append bytes more) in
    elim (cases_lt (length bytes) 13) [
      | inl early ↦ (let no = bad_early (is_signed bytes) (length bytes) (version_of bytes) (command_of bytes) (rest_len bytes) f is early in
          judged_is all ∙ bad_unsigned (is_signed bytes) (is_signed all) (length bytes) (length all) (version_of bytes) (command_of bytes) (rest_len bytes)
          (version_of all) (command_of all) (rest_len all) f is no (unsigned_more bytes more no))
      | inr some ↦ elim (cases_lt (length bytes) 16) [
        | inl middle ↦ judged_is all
            ∙ ap (λ (s : Bool). judged s (length all) (version_of all) (command_of all) (rest_len all)) (signed_same bytes more (omega arith))
            ∙ ap (λ (v : ℕ). judged (is_signed bytes) (length all) v (command_of all) (rest_len all)) (version_same bytes more some)
            ∙ ap (λ (c : ℕ). judged (is_signed bytes) (length all) (version_of bytes) c (rest_len all)) (command_same bytes more some)
            ∙ bad_middle (is_signed bytes) (length bytes) (length all) (version_of bytes) (command_of bytes) (rest_len bytes) (rest_len all) f is some middle longer
        | inr late ↦ same_judged bytes more late
            ∙ bad_late (is_signed bytes) (length bytes) (length all) (version_of bytes) (command_of bytes) (rest_len bytes) f is late longer
      ]
    ]

-- a header is whole once its last byte has come
pub whole_once : (bytes : List ℕ) (b : ℕ) → progress_of bytes ≡ Short → progress_of (bytes ++ b ∷ []) ≡ Whole → length (bytes ++ b ∷ []) ≡ 16 + rest_len (bytes ++ b ∷ [])
whole_once bytes b short whole =
    let longer = length-append bytes (b ∷ []) in
    let long = whole-long (bytes ++ b ∷ []) whole in
    elim (cases_lt (length bytes) 16) [
      | inl early ↦ omega arith
      | inr late ↦ (let same = rest_same bytes (b ∷ []) late in
          let below = short_late (is_signed bytes) (length bytes) (version_of bytes) (command_of bytes) (rest_len bytes) (sym (judged_is bytes) ∙ short) late in
          omega arith)
    ]
