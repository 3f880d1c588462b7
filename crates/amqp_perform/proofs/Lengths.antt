-- How long a canonical frame is.
use Rattle.std.proofs.Common.{◌≡◌, ℕ, ◌+◌, ◌<◌, ◌≤◌, ◌==◌, ◌&&◌, nat_lt, ltb, Bool, true, false, cond, List, [], ◌∷◌, ◌++◌, length, Some, None, refl, ap, ◌∙◌, arith, inl, inr}
use Rattle.std.specs.List.{concat}
use Rattle.std.proofs.lemmas.Bool.{ltb-true, lt-ltb, and_parts}
use Rattle.std.proofs.lemmas.List.{length-append}
use Rattle.byteorder.specs.Endian.{big_bytes}
use Rattle.amqp_types.specs.declared.code.SizeWidth.{SizeWidth}
use Rattle.amqp_types.specs.declared.code.SizeWidth.TheVariants as size
use Rattle.amqp_types.specs.declared.kind.Kind.TheVariants as kind
use Rattle.amqp_types.specs.declared.shell.Shell.TheVariants as shell
use Rattle.amqp_types.specs.declared.shell.Short.TheVariants as short
use Rattle.amqp_types.specs.Spelling.{size_len}
use Rattle.amqp_types.specs.Canonical.{number_text, shortest, block, full_code, is_small, narrowest, sized}
use Rattle.amqp_perform.specs.declared.descriptor.Descriptor.{Descriptor}
use Rattle.amqp_perform.specs.Frames.{null_text, kind_of_field, cell_text, before_nulls, trimmed, list_text, list_frame}
use Rattle.amqp_perform.specs.Said.{Said, said_texts, said_frame}
use Rattle.amqp_perform.specs.Cells.{Whole, Bytes}
use Rattle.amqp_perform.specs.Tables.{FieldType, uint}
use Rattle.amqp_perform.proofs.Framed.{frame_len}
use Rattle.amqp_perform.proofs.Trims.{kept_or_null}
use Rattle.amqp_perform.proofs.WrittenLaws.{some_shortest, list_long}

-- a frame is its head, its list and its payload
pub frame_parts : (channel : ℕ) (s : Said) (payload : List ℕ) → length (said_frame channel s payload) ≡ 11 + length (list_text (trimmed (said_texts s))) + length payload
frame_parts channel s payload = frame_len channel s.type (said_texts s) (trimmed (said_texts s)) payload refl

-- a payload adds its own length
pub frame_payload : (channel : ℕ) (s : Said) (payload : List ℕ) → length (said_frame channel s payload) ≡ length (said_frame channel s []) + length payload
frame_payload channel s payload = omega (arith, frame_parts channel s payload, frame_parts channel s [])

-- The texts without the nulls at the end. -----------------------------------------------------------------------------

trim_one : (text : List ℕ) (texts : List (List ℕ)) → length (concat (before_nulls text texts)) ≤ length text + length (concat texts)
trim_one text texts =
    elim (kept_or_null text texts) [
      | inl kept ↦ rw kept (omega (arith, length-append text (concat texts)))
      | inr gone ↦ rw gone.2 (omega arith)
    ]

trimmed_short : (texts : List (List ℕ)) → length (concat (trimmed texts)) ≤ length (concat texts)
trimmed_short [] = omega arith
trimmed_short (text ∷ texts) = omega (arith, trim_one text (trimmed texts), trimmed_short texts, length-append text (concat texts))

-- The list. -----------------------------------------------------------------------------------------------------------

block_short : (s : SizeWidth) (n : ℕ) (content : List ℕ) → length (block s n content) ≤ 8 + length content
block_short size.One n content = omega (arith, length-append (big_bytes 1 (1 + length content)) (big_bytes 1 n ++ content), length-append (big_bytes 1 n) content)
block_short size.Four n content = omega (arith, length-append (big_bytes 4 (4 + length content)) (big_bytes 4 n ++ content), length-append (big_bytes 4 n) content)

list_short : (n : ℕ) (content : List ℕ) → length (shortest (shell.List n) content) ≤ 9 + length content
list_short n content = by (n == 0)
  where
    by : (b : Bool) → length (cond b (0x45 ∷ []) (sized kind.List (shell.List n) content)) ≤ 9 + length content
    by true = omega arith
    by false = let s = narrowest (is_small (shell.List n) content) in omega (arith, block_short s n content)

-- the most that a frame takes
pub frame_most : (channel : ℕ) (s : Said) (payload : List ℕ) → length (said_frame channel s payload) ≤ 20 + length (concat (said_texts s)) + length payload
frame_most channel s payload =
    let t = trimmed (said_texts s) in
    omega (arith, frame_parts channel s payload, list_short (length t) (concat t), trimmed_short (said_texts s))

-- Fewer items of fewer bytes. -----------------------------------------------------------------------------------------

record IsLess (a b : List (List ℕ)) : Type 0 where
  count : length a ≤ length b
  bytes : length (concat a) ≤ length (concat b)

-- a null, or another text, in front of what is left
in_front : (text : List ℕ) (texts : List (List ℕ)) → 0 < length text → IsLess (before_nulls null_text texts) (before_nulls text texts)
in_front text texts some =
    elim (kept_or_null null_text texts) [
      | inl kept ↦
          elim (kept_or_null text texts) [
            | inl stays ↦ rw (kept, stays) (record { count = omega arith; bytes = omega (arith, length-append text (concat texts)) })
            | inr gone ↦ rw (← gone.0) (record { count = omega arith; bytes = omega arith })
          ]
      | inr gone ↦ rw gone.2 (record { count = omega arith; bytes = omega arith })
    ]

-- what stands before both stays, or a null of it goes with what is gone
behind_it : (text : List ℕ) (a b : List (List ℕ)) → IsLess a b → IsLess (before_nulls text a) (before_nulls text b)
behind_it text a b less =
    elim (kept_or_null text b) [
      | inl kept ↦
          elim (kept_or_null text a) [
            | inl stays ↦ rw (kept, stays) (record { count = omega (arith, less.count); bytes = omega (arith, less.bytes, length-append text (concat a), length-append text (concat b)) })
            | inr gone ↦ rw (kept, gone.2) (record { count = omega arith; bytes = omega arith })
          ]
      | inr gone ↦ none a (omega (arith, less.count, ap length gone.1)) gone.0
    ]
  where
    none : (xs : List (List ℕ)) → length xs ≤ 0 → text ≡ null_text → IsLess (before_nulls text xs) (before_nulls text b)
    none [] few is = rw is (record { count = omega arith; bytes = omega arith })
    none (x ∷ xs) few is = absurd (omega (arith, few))

less : (before behind : List (List ℕ)) (text : List ℕ) → 0 < length text → IsLess (trimmed (before ++ null_text ∷ behind)) (trimmed (before ++ text ∷ behind))
less [] behind text some = in_front text (trimmed behind) some
less (x ∷ xs) behind text some = behind_it x (trimmed (xs ++ null_text ∷ behind)) (trimmed (xs ++ text ∷ behind)) (less xs behind text some)

-- the width of a list grows with its items and their bytes
abbrev width : Bool → ℕ → ℕ
width true content = 3 + content
width false content = 9 + content

list_width : (n : ℕ) (content : List ℕ) → 0 < n → length (shortest (shell.List n) content) ≡ width (nat_lt n 256 && nat_lt (length content) 255) (length content)
list_width n content some = ap length (some_shortest n content some) ∙ by (nat_lt n 256 && nat_lt (length content) 255)
  where
    by : (b : Bool) → length (full_code (narrowest b) kind.List ∷ block (narrowest b) n content) ≡ width b (length content)
    by true = omega (arith, length-append (big_bytes 1 (1 + length content)) (big_bytes 1 n ++ content), length-append (big_bytes 1 n) content)
    by false = omega (arith, length-append (big_bytes 4 (4 + length content)) (big_bytes 4 n ++ content), length-append (big_bytes 4 n) content)

width_grows : (n m c k : ℕ) → n ≤ m → c ≤ k → width (nat_lt n 256 && nat_lt c 255) c ≤ width (nat_lt m 256 && nat_lt k 255) k
width_grows n m c k le short = by (nat_lt m 256 && nat_lt k 255) refl
  where
    wide : (b : Bool) → width b c ≤ 9 + k
    wide true = omega arith
    wide false = omega arith

    by : (b : Bool) → (nat_lt m 256 && nat_lt k 255) ≡ b → width (nat_lt n 256 && nat_lt c 255) c ≤ width b k
    by false e = wide (nat_lt n 256 && nat_lt c 255)
    by true e =
        let is = and_parts (nat_lt m 256) (nat_lt k 255) e in
        let few = ltb-true m 256 is.0 in
        let low = ltb-true k 255 is.1 in
        rw (lt-ltb n 256 (omega arith), lt-ltb c 255 (omega arith)) (omega arith)

list_grows : (a b : List (List ℕ)) → IsLess a b → length (list_text a) ≤ length (list_text b)
list_grows [] b is = omega (arith, list_long b)
list_grows (x ∷ xs) [] is = absurd (omega (arith, is.count))
list_grows (x ∷ xs) (y ∷ ys) is =
    omega (
      arith,
      list_width (length (x ∷ xs)) (concat (x ∷ xs)) (omega arith),
      list_width (length (y ∷ ys)) (concat (y ∷ ys)) (omega arith),
      width_grows (length (x ∷ xs)) (length (y ∷ ys)) (length (concat (x ∷ xs))) (length (concat (y ∷ ys))) is.count is.bytes,
    )

-- a null in place of a field never makes a frame longer
pub null_adds_no_more : (channel : ℕ) (d : Descriptor) (before behind : List (List ℕ)) (text payload : List ℕ) → 0 < length text
    → length (list_frame channel d (before ++ null_text ∷ behind) payload) ≤ length (list_frame channel d (before ++ text ∷ behind) payload)
null_adds_no_more channel d before behind text payload some =
    let null = before ++ null_text ∷ behind in
    let other = before ++ text ∷ behind in
    omega (
      arith,
      frame_len channel d null (trimmed null) payload refl,
      frame_len channel d other (trimmed other) payload refl,
      list_grows (trimmed null) (trimmed other) (less before behind text some),
    )

-- The fields. ---------------------------------------------------------------------------------------------------------

-- a binary, a string or a symbol takes at most five bytes more than it has
pub octets_short : (type : FieldType) (octets : List ℕ) → length (cell_text type (Bytes octets)) ≤ 5 + length octets
octets_short type octets = by (ltb (length octets) 256)
  where
    by : (b : Bool) → length (full_code (narrowest b) (kind_of_field type) ∷ (big_bytes (size_len (narrowest b)) (length octets) ++ octets)) ≤ 5 + length octets
    by true = omega (arith, length-append (big_bytes 1 (length octets)) octets)
    by false = omega (arith, length-append (big_bytes 4 (length octets)) octets)

-- a uint takes at most five bytes
pub uint_short : (n : ℕ) → length (cell_text uint (Whole n)) ≤ 5
uint_short n = by (n == 0) (ltb n 256)
  where
    by : (a b : Bool) → length (number_text kind.Uint n (cond a (Some (short.Code 0x43)) (cond b (Some (short.Byte 0x52 n)) None))) ≤ 5
    by true b = omega arith
    by false true = omega arith
    by false false = omega arith
