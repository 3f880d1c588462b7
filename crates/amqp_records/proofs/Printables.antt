-- All that stands in a line is printable.
use Rattle.std.proofs.Common.{◌≡◌, ℕ, ◌+◌, ◌/◌, ◌%◌, ◌^◌, ◌<◌, ◌≤◌, ◌&&◌, Bool, true, nat_le, All, map, List, [], ◌∷◌, ◌++◌, length, codes, decimal, slice_index, refl, ap, ◌∙◌, arith, lit≤, lit<, zero, suc, Result, Ok, Err, IfOk}
use Rattle.std.proofs.lemmas.Bool.{and_parts, leb-true, cond_both}
use Rattle.std.proofs.lemmas.Fmt.{decimal_by_steps}
use Rattle.std.proofs.lemmas.List.Elements.{All-nil, All-cons, All-push, All-append, All-get_or}
use Rattle.std.specs.List.{flat_map}
use Rattle.std.specs.Char.Escape.{encode_utf16}
use Rattle.std.specs.Int.{w16, to_be_bytes}
use Rattle.hex.specs.Hex.{encode_with, lower_digits}
use Rattle.amqp_records.specs.Lines.{is_printable, IsPrintable, printable_of, head_text, unit_escape, escapes_of, ascii_of}

-- the test of a byte
tested : (x : ℕ) → is_printable x ≡ true → IsPrintable x
tested x h = let parts = and_parts (nat_le 32 x) (nat_le x 126) h in (leb-true 32 x parts.0, leb-true x 126 parts.1)

-- the test of a text, which computes
abbrev all_printable : List ℕ → Bool
all_printable [] = true
all_printable (x ∷ xs) = is_printable x && all_printable xs

all_tested : (xs : List ℕ) → all_printable xs ≡ true → All IsPrintable xs
all_tested [] h = All-nil IsPrintable
all_tested (x ∷ xs) h = let parts = and_parts (is_printable x) (all_printable xs) h in All-cons IsPrintable x xs (tested x parts.0) (all_tested xs parts.1)

-- a number's digits
a_digit : (n : ℕ) → n < 10 → All IsPrintable ((48 + n) ∷ [])
a_digit n h = All-cons IsPrintable (48 + n) [] (omega arith, omega arith) (All-nil IsPrintable)

a_digit_more : (n : ℕ) (ds : List ℕ) → 10 ≤ n → All IsPrintable ds → All IsPrintable (ds ++ ((48 + n % 10) ∷ []))
a_digit_more n ds least h = All-push IsPrintable ds (48 + n % 10) h (omega arith, omega arith)

decimal_printable : (n : ℕ) → n < 2 ^ 64 → All IsPrintable (decimal n)
decimal_printable n h = decimal_by_steps (λ k ds. All IsPrintable ds) a_digit a_digit_more n h

-- a number behind its name
named : (name : List ℕ) (n : ℕ) (rest : List ℕ) → all_printable name ≡ true → n < 2 ^ 64 → All IsPrintable rest → All IsPrintable (name ++ (decimal n ++ rest))
named name n rest h small others =
    All-append IsPrintable name (decimal n ++ rest) (all_tested name h) (All-append IsPrintable (decimal n) rest (decimal_printable n small) others)

-- the numbers of a record
pub head_printable : (n channel handle id format size : ℕ) → n < 2 ^ 64 → channel < 2 ^ 64 → handle < 2 ^ 64 → id < 2 ^ 64 → format < 2 ^ 64 → size < 2 ^ 64
    → All IsPrintable (head_text n channel handle id format size)
head_printable n channel handle id format size hn hc hh hi hf hs =
    let sizes = codes " size=" ++ decimal size in
    let formats = codes " format=" ++ (decimal format ++ sizes) in
    let ids = codes " id=" ++ (decimal id ++ formats) in
    let handles = codes " handle=" ++ (decimal handle ++ ids) in
    let channels = codes " channel=" ++ (decimal channel ++ handles) in
    All-append IsPrintable (decimal n) channels (decimal_printable n hn)
    (named (codes " channel=") channel handles refl hc (named (codes " handle=") handle ids refl hh (named (codes " id=") id formats refl hi (named (codes " format=") format sizes refl hf
    (All-append IsPrintable (codes " size=") (decimal size) (all_tested (codes " size=") refl) (decimal_printable size hs))))))

-- what stands for the bytes of a text
byte_printable : (x : ℕ) → IsPrintable (printable_of x)
byte_printable x = cond_both (is_printable x) x 63 IsPrintable (tested x) (λ e. (lit≤ tt, lit≤ tt))

pub bytes_printable : (xs : List ℕ) → All IsPrintable (map printable_of xs)
bytes_printable [] = All-nil IsPrintable
bytes_printable (x ∷ xs) = All-cons IsPrintable (printable_of x) (map printable_of xs) (byte_printable x) (bytes_printable xs)

-- the digits of bytes
digit_printable : (k : ℕ) → k < 16 → IsPrintable (slice_index lower_digits k)
digit_printable k h = All-get_or IsPrintable lower_digits k 0 h (all_tested lower_digits refl)

hex_printable : (xs : List ℕ) → ((k : ℕ) → slice_index xs k < 256) → All IsPrintable (encode_with lower_digits xs)
unfolding encode_with
hex_printable [] h = All-nil IsPrintable
hex_printable (b ∷ rest) h =
    let small : b < 256 = h 0 in
    All-cons IsPrintable (slice_index lower_digits (b / 16)) (slice_index lower_digits (b % 16) ∷ encode_with lower_digits rest) (digit_printable (b / 16) (omega arith))
    (All-cons IsPrintable (slice_index lower_digits (b % 16)) (encode_with lower_digits rest) (digit_printable (b % 16) (omega arith)) (hex_printable rest (λ k. h (suc k))))

-- the parts of a list that is put together
parts_printable : (f : ℕ → List ℕ) → ((x : ℕ) → All IsPrintable (f x)) → (xs : List ℕ) → All IsPrintable (flat_map f xs)
parts_printable f each [] = All-nil IsPrintable
parts_printable f each (x ∷ xs) = All-append IsPrintable (f x) (flat_map f xs) (each x) (parts_printable f each xs)

unit_bytes : (unit k : ℕ) → slice_index (to_be_bytes w16 unit) k < 256
unit_bytes unit zero = omega arith
unit_bytes unit (suc zero) = omega arith
unit_bytes unit (suc (suc k)) = lit< tt

unit_printable : (unit : ℕ) → All IsPrintable (unit_escape unit)
unit_printable unit = All-append IsPrintable (codes "\\u") (encode_with lower_digits (to_be_bytes w16 unit)) (all_tested (codes "\\u") refl) (hex_printable (to_be_bytes w16 unit) (unit_bytes unit))

char_printable : (c : ℕ) → All IsPrintable (ascii_of c)
char_printable c =
    cond_both (is_printable c) (c ∷ []) (escapes_of c) (All IsPrintable) (λ e. All-cons IsPrintable c [] (tested c e) (All-nil IsPrintable))
    (λ e. parts_printable unit_escape unit_printable (encode_utf16 c))

pub text_printable : (cs : List ℕ) → All IsPrintable (flat_map ascii_of cs)
text_printable cs = parts_printable ascii_of char_printable cs

-- the same numbers under other names
pub same_head : (n c d h k i j f g : ℕ) (m o : List ℕ) → c ≡ d → h ≡ k → i ≡ j → f ≡ g → m ≡ o → head_text n c h i f (length m) ≡ head_text n d k j g (length o)
same_head n c d h k i j f g m o ec eh ei ef em =
    ap (λ (x : ℕ). head_text n x h i f (length m)) ec ∙ ap (λ (x : ℕ). head_text n d x i f (length m)) eh ∙ ap (λ (x : ℕ). head_text n d k x f (length m)) ei
    ∙ ap (λ (x : ℕ). head_text n d k j x (length m)) ef ∙ ap (λ (x : List ℕ). head_text n d k j g (length x)) em

-- what holds where a call succeeded
pub if_ok : {T E : Type 0} (r : Result T E) (P Q : T → Type 0) → ((x : T) → P x → Q x) → IfOk r P → IfOk r Q
if_ok (Ok x) P Q f p = f x p
if_ok (Err e) P Q f p = tt
