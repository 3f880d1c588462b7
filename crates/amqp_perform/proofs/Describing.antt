-- What describes a list, by its code and what is behind it.
use Rattle.std.proofs.Common.{◌≡◌, ℕ, Bool, true, false, cond, eqb, not, is_some, ◌&&◌, List, [], ◌∷◌, length, drop, Option, Some, None, Ok, Err, refl, sym, ap, subst, ◌∙◌}
use Rattle.std.proofs.Math.Dec.{leb}
use Rattle.std.specs.Result.{result_ok}
use Rattle.std.specs.List.{find, position}
use Rattle.std.specs.Str.{bytes_eq}
use Rattle.std.proofs.lemmas.Bool.{eqb-true, ne_eqb, and_parts}
use Rattle.std.proofs.lemmas.Slice.Eq.{bytes_eq-Decides}
use Rattle.byteorder.specs.Endian.{big_number}
use Rattle.amqp_types.specs.declared.kind.Kind.{Kind}
use Rattle.amqp_types.specs.declared.kind.Kind.TheVariants as kind
use Rattle.amqp_types.specs.declared.code.Form.TheVariants as form
use Rattle.amqp_types.specs.declared.code.SizeWidth.TheVariants as size
use Rattle.amqp_types.specs.Trees.{Tree, Number, Octets, IsOfKind}
use Rattle.amqp_types.specs.InHand.{outermost}
use Rattle.amqp_types.specs.Reading.{Read, Part, uncharged, number_at, form_at, sized_at, item_by, value_by, value_of, is_beyond_ascii}
use Rattle.amqp_perform.specs.declared.descriptor.Descriptor.{Descriptor}
use Rattle.amqp_perform.specs.Cells.{◌>>=◌, where_so}
use Rattle.amqp_perform.specs.Descriptors.{symbol_of, all_descriptors, by_code, by_symbol, described_by}
use Rattle.amqp_perform.specs.BodyReading.{byte_at, short_at, long_at, descriptor_from, descriptor_at}
use Rattle.amqp_perform.proofs.Made.{Yields}
use Rattle.amqp_perform.proofs.Behind.{checked, are_of, number_one, number_full, sized_is}
use Rattle.amqp_perform.proofs.Rows.{RowOf, by_rows, codes_of, IsOther, rows_read, others_yield}

-- a number of eight bytes
abbrev pub eight_at : List ℕ → Option (ℕ × List ℕ)
eight_at bytes = where_so (leb 8 (length bytes)) (big_number 8 bytes, drop 8 bytes)

-- the descriptor of a number
abbrev pub coded : Option (ℕ × List ℕ) → Option (Descriptor × List ℕ)
coded read = read >>= λ n. by_code n.0 >>= λ d. Some (d, n.1)

-- the descriptor of a symbol
abbrev pub named : Option (List ℕ × List ℕ) → Option (Descriptor × List ℕ)
named read = read >>= λ s. by_symbol s.0 >>= λ d. Some (d, s.1)

-- how each constructor of a descriptor is read
abbrev pub descriptor_rows : List (RowOf (Descriptor × List ℕ))
descriptor_rows = (0x53, λ rest. coded (byte_at rest)) ∷ (0x80, λ rest. coded (eight_at rest)) ∷ (0xa3, λ rest. named (short_at rest)) ∷ (0xb3, λ rest. named (long_at rest)) ∷ []

-- No symbol beyond ASCII describes a type. ----------------------------------------------------------------------------

abbrev are_plain : List Descriptor → Bool
are_plain [] = true
are_plain (d ∷ ds) = not (is_some (position is_beyond_ascii (symbol_of d))) && are_plain ds

none_named : (ds : List Descriptor) (symbol : List ℕ) → are_plain ds ≡ true → not (is_some (position is_beyond_ascii symbol)) ≡ false → find (λ d. bytes_eq (symbol_of d) symbol) ds ≡ None
none_named [] symbol plain beyond = refl
none_named (d ∷ ds) symbol plain beyond =
    let both = and_parts (not (is_some (position is_beyond_ascii (symbol_of d)))) (are_plain ds) plain in
    tested (none_named ds symbol both.1 beyond) both.0 (bytes_eq (symbol_of d) symbol) refl
  where
    tested : find (λ d. bytes_eq (symbol_of d) symbol) ds ≡ None → not (is_some (position is_beyond_ascii (symbol_of d))) ≡ true
        → (b : Bool) → bytes_eq (symbol_of d) symbol ≡ b → cond b (Some d) (find (λ d. bytes_eq (symbol_of d) symbol) ds) ≡ None
    tested later here true e =
        let same = (bytes_eq-Decides (symbol_of d) symbol).0 e in
        absurd (apart _ here (subst (λ (s : List ℕ). not (is_some (position is_beyond_ascii s)) ≡ false) (sym same) beyond))
      where
        apart : (b : Bool) → b ≡ true → b ≡ false → ⊥
        apart b p q = let h : true ≡ false = sym p ∙ q in cc
    tested later here false e = later

unnamed : (symbol : List ℕ) → not (is_some (position is_beyond_ascii symbol)) ≡ false → by_symbol symbol ≡ None
unfolding by_symbol
unnamed symbol beyond = none_named all_descriptors symbol refl beyond

named_checked : (read : Option (List ℕ × List ℕ)) → named (checked (λ x. are_of kind.Symbol x.0) read) ≡ named read
named_checked None = refl
named_checked (Some x) = tested (are_of kind.Symbol x.0) refl
  where
    tested : (b : Bool) → are_of kind.Symbol x.0 ≡ b → named (where_so b x) ≡ named (Some x)
    tested true e = refl
    tested false e = rw (unnamed x.0 e) refl

-- The rows. -----------------------------------------------------------------------------------------------------------

abbrev described_behind : ℕ → List ℕ → Option (Descriptor × List ℕ)
described_behind code rest = descriptor_from (value_of 31 None (code ∷ rest))

from_number : (read : Read ℕ) → descriptor_from (uncharged None read (Number kind.Ulong)) ≡ coded (result_ok read)
from_number (Ok x) = refl
from_number (Err e) = refl

from_symbol : (read : Read (List ℕ)) → descriptor_from (uncharged None read (Octets kind.Symbol)) ≡ named (result_ok read)
from_symbol (Ok x) = refl
from_symbol (Err e) = refl

byte_row : (rest : List ℕ) → described_behind 0x53 rest ≡ coded (byte_at rest)
unfolding value_by item_by
byte_row rest = from_number (number_at (outermost (0x53 ∷ rest)) kind.Ulong form.OneByte rest) ∙ ap coded (number_one (outermost (0x53 ∷ rest)) kind.Ulong rest refl)

eight_row : (rest : List ℕ) → described_behind 0x80 rest ≡ coded (eight_at rest)
unfolding value_by item_by
eight_row rest = from_number (number_at (outermost (0x80 ∷ rest)) kind.Ulong form.Full rest) ∙ ap coded (number_full (outermost (0x80 ∷ rest)) kind.Ulong rest refl)

short_row : (rest : List ℕ) → described_behind 0xa3 rest ≡ named (short_at rest)
unfolding value_by item_by
short_row rest = from_symbol (sized_at (outermost (0xa3 ∷ rest)) kind.Symbol size.One rest) ∙ ap named (sized_is (outermost (0xa3 ∷ rest)) kind.Symbol size.One rest) ∙ named_checked (short_at rest)

long_row : (rest : List ℕ) → described_behind 0xb3 rest ≡ named (long_at rest)
unfolding value_by item_by
long_row rest = from_symbol (sized_at (outermost (0xb3 ∷ rest)) kind.Symbol size.Four rest) ∙ ap named (sized_is (outermost (0xb3 ∷ rest)) kind.Symbol size.Four rest) ∙ named_checked (long_at rest)

zero_row : (rest : List ℕ) → described_behind 0x44 rest ≡ None
unfolding value_by item_by number_at form_at by_code
zero_row rest = refl

-- The other codes. ----------------------------------------------------------------------------------------------------

describes : Kind → Bool
describes kind.Ulong = true
describes kind.Symbol = true
describes k = false

leaf_none : (t : Tree) (k : Kind) → IsOfKind k t → describes k ≡ false → described_by t ≡ None
unfolding describes
leaf_none (Number kind.Ulong n) k is e = absurd (let f : describes kind.Ulong ≡ false = subst (λ (j : Kind). describes j ≡ false) (sym is) e in cc)
leaf_none (Octets kind.Symbol octets) k is e = absurd (let f : describes kind.Symbol ≡ false = subst (λ (j : Kind). describes j ≡ false) (sym is) e in cc)
leaf_none t k is e = refl

part_none : (read : Part Tree) → Yields (λ t. described_by t ≡ None) read → descriptor_from read ≡ None
part_none (Ok x) h = rw h refl
part_none (Err e) h = refl

other_none : (code : ℕ) (rest : List ℕ) → IsOther (codes_of descriptor_rows) code → described_behind code rest ≡ None
unfolding describes
other_none code rest other = tested (eqb code 0x44) refl
  where
    tested : (b : Bool) → eqb code 0x44 ≡ b → described_behind code rest ≡ None
    tested true e = subst (λ (k : ℕ). described_behind k rest ≡ None) (sym (eqb-true code 0x44 e)) (zero_row rest)
    tested false e =
        part_none (value_of 31 None (code ∷ rest)) (others_yield (λ t. described_by t ≡ None) describes (0x44 ∷ codes_of descriptor_rows) 31 code rest refl (e, other) (λ d t. refl) leaf_none)

behind_zero : (rest : List ℕ) → descriptor_from (value_of 31 None rest) ≡ (byte_at rest >>= λ x. by_rows descriptor_rows x.0 x.1)
unfolding value_by
behind_zero [] = refl
behind_zero (code ∷ rest) = rows_read described_behind descriptor_rows code rest (byte_row, (eight_row, (short_row, (long_row, tt)))) (other_none code rest)

-- a descriptor is read by these rows
pub descriptor_is : (bytes : List ℕ) → descriptor_at bytes ≡ (byte_at bytes >>= λ zero. cond (eqb zero.0 0) (byte_at zero.1 >>= λ x. by_rows descriptor_rows x.0 x.1) None)
unfolding descriptor_at
descriptor_is [] = refl
descriptor_is (code ∷ rest) = tested (eqb code 0)
  where
    tested : (b : Bool) → cond b (descriptor_from (value_of 31 None rest)) None ≡ cond b (byte_at rest >>= λ x. by_rows descriptor_rows x.0 x.1) None
    tested true = behind_zero rest
    tested false = refl

-- without 00 in front there is none
pub no_descriptor : (bytes rest : List ℕ) (b : ℕ) → byte_at bytes ≡ Some (b, rest) → (b ≡ 0 → ⊥) → descriptor_at bytes ≡ None
no_descriptor bytes rest b e ne = descriptor_is bytes ∙ (rw (e, ne_eqb b 0 ne) refl)
