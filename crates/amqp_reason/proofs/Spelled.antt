-- An error and the outcome rejected, as bytes, and how long they are.
use Rattle.std.proofs.Common.{arith, ◌≡◌, ℕ, ◌+◌, ◌<◌, ◌≤◌, nat_lt, ◌&&◌, Bool, true, false, if◌then◌else◌, List, [], ◌∷◌, ◌++◌, length, Option, Some, None, refl, sym, ap, subst, ◌∙◌, append_assoc, length-append}
use Rattle.std.proofs.lemmas.Bool.{lt-ltb, and_parts, leb-true}
use Rattle.std.proofs.lemmas.List.{append-nil}
use Rattle.std.specs.Prelude.{nat_le, nat_eq}
use Rattle.std.specs.List.{list_all}
use Rattle.std.specs.Str.{is_utf8}
use Rattle.byteorder.specs.Endian.{big_bytes}
use Rattle.amqp_types.specs.declared.kind.Kind.TheVariants as kind
use Rattle.amqp_types.specs.declared.shell.Shell.TheVariants as shell
use Rattle.amqp_types.specs.Canonical.{canonical, shortest, narrowest, full_code, full_data}
use Rattle.amqp_types.specs.Trees.{Octets}
use Rattle.amqp_perform.specs.Frames.{list_head}
use Rattle.amqp_reason.specs.Reasons.{Reason, is_printable, is_condition, is_description, is_valid, error_span, rejected_span}

-- Bytes. --------------------------------------------------------------------------------------------------------------

-- a symbol, and a string, with a size of one byte
abbrev pub symbol_text : List ℕ → List ℕ
symbol_text octets = 0xa3 ∷ (big_bytes 1 (length octets) ++ octets)

abbrev pub string_text : List ℕ → List ℕ
string_text octets = 0xa1 ∷ (big_bytes 1 (length octets) ++ octets)

symbol_is : (octets : List ℕ) → length octets < 256 → canonical (Octets kind.Symbol octets) ≡ symbol_text octets
symbol_is octets short =
    ap (λ (b : Bool). full_code (narrowest b) kind.Symbol ∷ full_data (narrowest b) (shell.Octets kind.Symbol) octets) (lt-ltb (length octets) 256 short)

string_is : (octets : List ℕ) → length octets < 256 → canonical (Octets kind.String octets) ≡ string_text octets
string_is octets short =
    ap (λ (b : Bool). full_code (narrowest b) kind.String ∷ full_data (narrowest b) (shell.Octets kind.String) octets) (lt-ltb (length octets) 256 short)

-- a list of one item, and one of two
one_list : (text : List ℕ) → shortest (shell.List 1) text ≡ list_head 1 (length text) ++ text
unfolding list_head
one_list text = by (nat_lt (length text) 255)
  where
    by : (b : Bool) → full_code (narrowest b) kind.List ∷ full_data (narrowest b) (shell.List 1) text
        ≡ (if b then (0xc0 ∷ (big_bytes 1 (1 + length text) ++ big_bytes 1 1)) else (0xd0 ∷ (big_bytes 4 (4 + length text) ++ big_bytes 4 1))) ++ text
    by true = refl
    by false = refl

two_list : (text : List ℕ) → shortest (shell.List 2) text ≡ list_head 2 (length text) ++ text
unfolding list_head
two_list text = by (nat_lt (length text) 255)
  where
    by : (b : Bool) → full_code (narrowest b) kind.List ∷ full_data (narrowest b) (shell.List 2) text
        ≡ (if b then (0xc0 ∷ (big_bytes 1 (1 + length text) ++ big_bytes 1 2)) else (0xd0 ∷ (big_bytes 4 (4 + length text) ++ big_bytes 4 2))) ++ text
    by true = refl
    by false = refl

pub plain_is : (condition : List ℕ) → length condition ≤ 64
    → (0 ∷ 0x53 ∷ 0x1d ∷ list_head 1 (2 + length condition)) ++ symbol_text condition ≡ error_span (record { condition = condition; description = None })
unfolding error_span
plain_is condition short =
    let text = symbol_text condition in
    let same : canonical (Octets kind.Symbol condition) ++ [] ≡ text = append-nil (canonical (Octets kind.Symbol condition)) ∙ symbol_is condition (omega arith) in
    let len : length text ≡ 2 + length condition = omega (arith, length-append (big_bytes 1 (length condition)) condition) in
    sym (
    ap (λ (x : List ℕ). 0 ∷ 0x53 ∷ 0x1d ∷ shortest (shell.List 1) x) same
    ∙ ap (λ (x : List ℕ). 0 ∷ 0x53 ∷ 0x1d ∷ x) (one_list text)
    ∙ ap (λ (n : ℕ). 0 ∷ 0x53 ∷ 0x1d ∷ (list_head 1 n ++ text)) len
    )

pub described_is : (condition description : List ℕ) → length condition ≤ 64 → length description ≤ 255
    → ((0 ∷ 0x53 ∷ 0x1d ∷ list_head 2 (2 + length condition + 2 + length description)) ++ symbol_text condition) ++ string_text description
    ≡ error_span (record { condition = condition; description = Some description })
unfolding error_span
described_is condition description short few =
    let one = symbol_text condition in
    let two = string_text description in
    let first = symbol_is condition (omega arith) in
    let second : canonical (Octets kind.String description) ++ [] ≡ two = append-nil (canonical (Octets kind.String description)) ∙ string_is description (omega arith) in
    let len : length (one ++ two) ≡ 2 + length condition + 2 + length description =
    omega (arith, length-append one two, length-append (big_bytes 1 (length condition)) condition, length-append (big_bytes 1 (length description)) description) in
    append_assoc (0 ∷ 0x53 ∷ 0x1d ∷ list_head 2 (2 + length condition + 2 + length description)) one two
    ∙ sym (
    ap (λ (x : List ℕ). 0 ∷ 0x53 ∷ 0x1d ∷ shortest (shell.List 2) (x ++ (canonical (Octets kind.String description) ++ []))) first
    ∙ ap (λ (x : List ℕ). 0 ∷ 0x53 ∷ 0x1d ∷ shortest (shell.List 2) (one ++ x)) second
    ∙ ap (λ (x : List ℕ). 0 ∷ 0x53 ∷ 0x1d ∷ x) (two_list (one ++ two))
    ∙ ap (λ (n : ℕ). 0 ∷ 0x53 ∷ 0x1d ∷ (list_head 2 n ++ (one ++ two))) len
    )

pub rejected_is : (r : Reason) (n : ℕ) → n ≡ length (error_span r) → (0 ∷ 0x53 ∷ 0x25 ∷ list_head 1 n) ++ error_span r ≡ rejected_span r
unfolding error_span rejected_span
rejected_is r n len =
    ap (λ (m : ℕ). 0 ∷ 0x53 ∷ 0x25 ∷ (list_head 1 m ++ error_span r)) len
    ∙ sym (
    ap (λ (x : List ℕ). 0 ∷ 0x53 ∷ 0x25 ∷ shortest (shell.List 1) x) (append-nil (error_span r)) ∙ ap (λ (x : List ℕ). 0 ∷ 0x53 ∷ 0x25 ∷ x) (one_list (error_span r))
    )

-- Lengths. ------------------------------------------------------------------------------------------------------------

pub head_short : (count content : ℕ) → length (list_head count content) ≤ 9
unfolding list_head
head_short count content = by (nat_eq count 0) (nat_lt content 255)
  where
    by : (a b : Bool) → length (if a then (0x45 ∷ []) else (if b then (0xc0 ∷ (big_bytes 1 (1 + content) ++ big_bytes 1 count)) else (0xd0 ∷ (big_bytes 4 (4 + content) ++ big_bytes 4 count)))) ≤ 9
    by true b = omega arith
    by false true = omega arith
    by false false = omega arith

pub valid_parts : (r : Reason) → is_valid r ≡ true → (is_condition r.condition ≡ true) × (is_description r.description ≡ true)
unfolding is_valid
valid_parts r valid = and_parts (is_condition r.condition) (is_description r.description) valid

pub condition_short : (symbol : List ℕ) → is_condition symbol ≡ true → length symbol ≤ 64
condition_short symbol valid =
    let n = length symbol in
    let front = and_parts (nat_le 1 n && nat_le n 64) (list_all is_printable symbol) valid in leb-true n 64 (and_parts (nat_le 1 n) (nat_le n 64) front.0).1

pub text_short : (text : List ℕ) → is_description (Some text) ≡ true → length text ≤ 255
text_short text valid = leb-true (length text) 255 (and_parts (nat_le (length text) 255) (is_utf8 text) valid).0

pub plain_short : (condition : List ℕ) → length condition ≤ 64 → length (error_span (record { condition = condition; description = None })) ≤ 335
plain_short condition short =
    omega (
      arith,
      ap length (plain_is condition short),
      head_short 1 (2 + length condition),
      length-append (0 ∷ 0x53 ∷ 0x1d ∷ list_head 1 (2 + length condition)) (symbol_text condition),
      length-append (big_bytes 1 (length condition)) condition,
    )

pub described_short : (condition text : List ℕ) → length condition ≤ 64 → length text ≤ 255 → length (error_span (record { condition = condition; description = Some text })) ≤ 335
described_short condition text short few =
    let head = 0 ∷ 0x53 ∷ 0x1d ∷ list_head 2 (2 + length condition + 2 + length text) in
    omega (
      arith,
      ap length (described_is condition text short few),
      head_short 2 (2 + length condition + 2 + length text),
      length-append (head ++ symbol_text condition) (string_text text),
      length-append head (symbol_text condition),
      length-append (big_bytes 1 (length condition)) condition,
      length-append (big_bytes 1 (length text)) text,
    )

-- an error has at most 335 bytes
pub error_short : (r : Reason) → is_valid r ≡ true → length (error_span r) ≤ 335
error_short r valid = by r.description refl
  where
    by : (d : Option (List ℕ)) → r.description ≡ d → length (error_span r) ≤ 335
    by None none = subst (λ (d : Option (List ℕ)). length (error_span (record { condition = r.condition; description = d })) ≤ 335) (sym none) (plain_short r.condition (condition_short r.condition (valid_parts r valid).0))
    by (Some text) some =
        let described : is_description (Some text) ≡ true = subst (λ (d : Option (List ℕ)). is_description d ≡ true) some (valid_parts r valid).1 in
        subst (λ (d : Option (List ℕ)). length (error_span (record { condition = r.condition; description = d })) ≤ 335) (sym some)
        (described_short r.condition text (condition_short r.condition (valid_parts r valid).0) (text_short text described))

-- rejected with an error has at most 347
pub rejected_short : (r : Reason) → is_valid r ≡ true → length (rejected_span r) ≤ 347
rejected_short r valid =
    let n = length (error_span r) in
    omega (arith, error_short r valid, ap length (rejected_is r n refl), head_short 1 n, length-append (0 ∷ 0x53 ∷ 0x25 ∷ list_head 1 n) (error_span r))
