-- What stands behind a code, in the words of this crate's cursor.
use Rattle.std.proofs.Common.{◌≡◌, ℕ, ◌+◌, ◌*◌, Bool, true, false, cond, ltb, not, is_some, List, [], ◌∷◌, length, take, drop, Option, Some, None, Result, Ok, Err, refl, ap, ◌∙◌, arith, inl, inr}
use Rattle.std.proofs.Math.Dec.{leb}
use Rattle.std.proofs.lemmas.Bool.{cases_lt, lt-ltb, le-ltb, le-leb, lt-leb}
use Rattle.std.specs.Str.{is_utf8}
use Rattle.std.specs.List.{position}
use Rattle.std.specs.Option.{option_map}
use Rattle.std.specs.Result.{result_ok}
use Rattle.byteorder.specs.Endian.{big_number}
use Rattle.amqp_types.specs.declared.kind.Kind.{Kind}
use Rattle.amqp_types.specs.declared.kind.Kind.TheVariants as kind
use Rattle.amqp_types.specs.declared.code.Form.TheVariants as form
use Rattle.amqp_types.specs.declared.code.SizeWidth.{SizeWidth}
use Rattle.amqp_types.specs.declared.code.SizeWidth.TheVariants as size
use Rattle.amqp_types.specs.declared.fault.ReadFault.{ReadFault}
use Rattle.amqp_types.specs.declared.fault.ReadFault.TheVariants.{BadBoolean, BadSize}
use Rattle.amqp_types.specs.declared.window.Window.{Window}
use Rattle.amqp_types.specs.Kinds.{width, is_partial}
use Rattle.amqp_types.specs.Spelling.{size_len}
use Rattle.amqp_types.specs.InHand.{place}
use Rattle.amqp_types.specs.Reading.{Read, Block, block_of, ◌>>=◌, unless, number_fault, octets_fault, octets_at, big_at, form_at, number_at, sized_at, is_beyond_ascii}
use Rattle.amqp_types.proofs.Skips.{no_fault}
use Rattle.amqp_perform.specs.Cells.{where_so}
use Rattle.amqp_perform.specs.BodyReading.{byte_at, short_at, long_at}
use Rattle.amqp_perform.specs.BodyReading.{octets_at as next_octets}
use Rattle.amqp_perform.proofs.Steps.{behind_size}

-- what is read of n bytes, where so many are there
where_enough : {A : Type 0} (n len : ℕ) (e : ReadFault) (x : A) → result_ok (cond (ltb len n) (Err e) (Ok x)) ≡ where_so (leb n len) x
where_enough n len e x = elim (cases_lt len n) [
  | inl lt ↦ rw (lt-ltb len n lt, lt-leb n len lt) refl
  | inr le ↦ rw (le-ltb len n le, le-leb n len le) refl
]

-- a number read with a fault, without it
pub big_is : (w : Window) (n : ℕ) (bytes : List ℕ) → result_ok (big_at w n bytes) ≡ where_so (leb n (length bytes)) (big_number n bytes, drop n bytes)
big_is w n bytes = where_enough n (length bytes) w.short (big_number n bytes, drop n bytes)

-- so with bytes
pub octets_is : (w : Window) (n : ℕ) (bytes : List ℕ) → result_ok (octets_at w n bytes) ≡ next_octets n bytes
octets_is w n bytes = where_enough n (length bytes) w.short (take n bytes, drop n bytes)

-- and with one byte
pub byte_is : (w : Window) (bytes : List ℕ) → result_ok (big_at w 1 bytes) ≡ byte_at bytes
byte_is w [] = refl
byte_is w (b ∷ bytes) =
    let one : b * 1 + 0 ≡ b = omega arith in
    rw (le-ltb (length (b ∷ bytes)) 1 (omega arith)) (ap (λ (n : ℕ). Some (n, bytes)) one)

-- a number that is found without a fault
module _ (faults : ℕ → Option ReadFault) where
  whole : (read : Read ℕ) → ((n : ℕ) → faults n ≡ None) → result_ok (read >>= λ n. unless (faults n.0) n) ≡ result_ok read
  whole (Ok n) h = rw (h n.0) refl
  whole (Err e) h = refl

-- a number of the short form is one byte
pub number_one : (w : Window) (k : Kind) (bytes : List ℕ) → is_partial k ≡ false → result_ok (number_at w k form.OneByte bytes) ≡ byte_at bytes
unfolding number_at form_at
number_one w k bytes e = whole (number_fault k (place w bytes)) (big_at w 1 bytes) (λ n. no_fault k (place w bytes) n e) ∙ byte_is w bytes

-- one of the full form has the kind's width
pub number_full : (w : Window) (k : Kind) (bytes : List ℕ) → is_partial k ≡ false → result_ok (number_at w k form.Full bytes) ≡ where_so (leb (width k) (length bytes))
    (big_number (width k) bytes, drop (width k) bytes)
unfolding number_at form_at
number_full w k bytes e = whole (number_fault k (place w bytes)) (big_at w (width k) bytes) (λ n. no_fault k (place w bytes) n e) ∙ big_is w (width k) bytes

-- a ubyte is one byte
pub number_byte : (w : Window) (bytes : List ℕ) → result_ok (number_at w kind.Ubyte form.Full bytes) ≡ byte_at bytes
unfolding number_at form_at
number_byte w bytes = whole (number_fault kind.Ubyte (place w bytes)) (big_at w 1 bytes) (λ n. refl) ∙ byte_is w bytes

-- what is taken, where it passes
abbrev pub checked : {A : Type 0} → (A → Bool) → Option A → Option A
checked passes None = None
checked passes (Some x) = where_so (passes x) x

unless_not : {A : Type 0} (b : Bool) (e : ReadFault) (x : A) → result_ok (unless (cond b None (Some e)) x) ≡ where_so b x
unless_not true e x = refl
unless_not false e x = refl

-- a boolean's byte is 0 or 1
pub boolean_byte : (w : Window) (bytes : List ℕ) → result_ok (number_at w kind.Boolean form.Full bytes) ≡ checked (λ n. ltb n.0 2) (byte_at bytes)
unfolding number_at form_at
boolean_byte w bytes = tested (big_at w 1 bytes) ∙ ap (checked (λ (n : ℕ × List ℕ). ltb n.0 2)) (byte_is w bytes)
  where
    tested : (read : Read ℕ) → result_ok (read >>= λ n. unless (number_fault kind.Boolean (place w bytes) n.0) n) ≡ checked (λ n. ltb n.0 2) (result_ok read)
    tested (Ok n) = unless_not (ltb n.0 2) (BadBoolean (place w bytes)) n
    tested (Err e) = refl

-- Octets behind their size. -------------------------------------------------------------------------------------------

-- bytes that a kind of variable width may have
abbrev pub are_of : Kind → List ℕ → Bool
are_of kind.String octets = is_utf8 octets
are_of kind.Symbol octets = not (is_some (position is_beyond_ascii octets))
are_of _ octets = true

-- bytes behind their size
abbrev pub sized : SizeWidth → List ℕ → Option (List ℕ × List ℕ)
sized size.One bytes = short_at bytes
sized size.Four bytes = long_at bytes

ascii_checked : (o : Option ℕ) (f : ℕ → ReadFault) (x : List ℕ × List ℕ) → result_ok (unless (option_map f o) x) ≡ where_so (not (is_some o)) x
ascii_checked None f x = refl
ascii_checked (Some n) f x = refl

octets_checked : (k : Kind) (at : ℕ) (x : List ℕ × List ℕ) → result_ok (unless (octets_fault k at x.0) x) ≡ where_so (are_of k x.0) x
octets_checked kind.String at x = unless_not (is_utf8 x.0) _ x
octets_checked kind.Symbol at x = ascii_checked (position is_beyond_ascii x.0) _ x
octets_checked _ at x = refl

all_checked : (k : Kind) (at : ℕ) (read : Read (List ℕ)) → result_ok (read >>= λ x. unless (octets_fault k at x.0) x) ≡ checked (λ x. are_of k x.0) (result_ok read)
all_checked k at (Ok x) = octets_checked k at x
all_checked k at (Err e) = refl

-- they are read as the grammar reads them
pub sized_is : (w : Window) (k : Kind) (s : SizeWidth) (bytes : List ℕ) → result_ok (sized_at w k s bytes) ≡ checked (λ x. are_of k x.0) (sized s bytes)
unfolding sized_at
sized_is w k s bytes = from_size (big_at w (size_len s) bytes) ∙ widths s
  where
    from_size : (read : Read ℕ) → result_ok (read >>= λ n. octets_at w n.0 n.1 >>= λ octets. unless (octets_fault k (place w n.1) octets.0) octets) ≡ checked (λ x. are_of k x.0)
        (behind_size (result_ok read))
    from_size (Ok n) = all_checked k (place w n.1) (octets_at w n.0 n.1) ∙ ap (checked (λ (x : List ℕ × List ℕ). are_of k x.0)) (octets_is w n.0 n.1)
    from_size (Err e) = refl

    widths : (s : SizeWidth) → checked (λ x. are_of k x.0) (behind_size (result_ok (big_at w (size_len s) bytes))) ≡ checked (λ x. are_of k x.0) (sized s bytes)
    widths size.One = ap (λ (o : Option (ℕ × List ℕ)). checked (λ (x : List ℕ × List ℕ). are_of k x.0) (behind_size o)) (byte_is w bytes)
    widths size.Four = ap (λ (o : Option (ℕ × List ℕ)). checked (λ (x : List ℕ × List ℕ). are_of k x.0) (behind_size o)) (big_is w 4 bytes)

-- Blocks. -------------------------------------------------------------------------------------------------------------

-- the count of a list, as it is read
abbrev pub counts_read : Read ℕ → Read ℕ
counts_read read = read >>= λ count. Ok count

-- its parts
abbrev pub parts_read : Window → List ℕ → Read (List ℕ) → Result Block ReadFault
parts_read w bytes read = read >>= λ parts. Ok (block_of w bytes parts)

-- both, by a size
abbrev pub block_read : Window → SizeWidth → List ℕ → Read ℕ → Result Block ReadFault
block_read w s bytes read = read >>= λ size. cond (ltb size.0 (size_len s)) (Err (BadSize (place w bytes))) (parts_read w bytes (octets_at w size.0 size.1))
