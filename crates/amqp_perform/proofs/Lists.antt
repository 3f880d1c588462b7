-- A list, by its code and what is behind it.
use Rattle.std.proofs.Common.{◌≡◌, ℕ, ◌<◌, Bool, true, false, List, [], ◌∷◌, length, take, drop, Option, Some, None, Ok, Err, refl, sym, ap, ◌∙◌, arith, inl, inr}
use Rattle.std.proofs.Math.Dec.{leb}
use Rattle.std.specs.Result.{result_ok}
use Rattle.std.proofs.lemmas.Bool.{cases_lt, lt-ltb, le-ltb, lt-leb}
use Rattle.std.proofs.lemmas.List.{length-take}
use Rattle.amqp_types.specs.declared.kind.Kind.{Kind}
use Rattle.amqp_types.specs.declared.kind.Kind.TheVariants as kind
use Rattle.amqp_types.specs.declared.code.SizeWidth.{SizeWidth}
use Rattle.amqp_types.specs.declared.code.SizeWidth.TheVariants as size
use Rattle.amqp_types.specs.declared.code.Constructor.{Constructor}
use Rattle.amqp_types.specs.declared.code.Constructor.TheVariants.{Fixed, Variable, EmptyList, ListIn, MapIn, ArrayIn}
use Rattle.amqp_types.specs.declared.window.Window.{Window}
use Rattle.amqp_types.specs.Codes.{constructors, find_code, kind_of}
use Rattle.amqp_types.specs.Spelling.{size_len}
use Rattle.amqp_types.specs.InHand.{outermost}
use Rattle.amqp_types.specs.Reading.{Read, Block, octets_at, big_at, block_of, block_at, count_at}
use Rattle.amqp_perform.specs.Cells.{◌>>=◌, where_so}
use Rattle.amqp_perform.specs.BodyReading.{ListAt, byte_at, short_at, long_at, list_by, list_at}
use Rattle.amqp_perform.specs.BodyReading.{octets_at as next_octets}
use Rattle.amqp_perform.proofs.Steps.{behind_size, count_in, list_of, list_in}
use Rattle.amqp_perform.proofs.Behind.{big_is, byte_is, octets_is, sized, counts_read, parts_read, block_read}
use Rattle.amqp_perform.proofs.Rows.{RowOf, by_rows, codes_of, IsOther, rows_read, not_accepted}

counted : (w : Window) (s : SizeWidth) (bytes : List ℕ) → result_ok (big_at w (size_len s) bytes) ≡ count_in s bytes
counted w size.One bytes = byte_is w bytes
counted w size.Four bytes = big_is w 4 bytes

-- no count stands in fewer bytes
too_short : (s : SizeWidth) (bytes : List ℕ) → length bytes < size_len s → count_in s bytes ≡ None
too_short size.One [] lt = refl
too_short size.One (b ∷ bytes) lt = absurd (omega arith)
too_short size.Four bytes lt = rw (lt-leb 4 (length bytes) lt) refl

short_block : (s : SizeWidth) (n : ℕ) (bytes : List ℕ) → n < size_len s → list_in s (next_octets n bytes) ≡ None
short_block s n bytes lt = tested (leb n (length bytes))
  where
    tested : (b : Bool) → list_in s (where_so {A = List ℕ × List ℕ} b (take n bytes, drop n bytes)) ≡ None
    tested true = rw (too_short s (take n bytes) (omega (arith, length-take n bytes))) refl
    tested false = refl

counted_block : (w : Window) (s : SizeWidth) (bytes behind : List ℕ)
    → (result_ok (count_at w s false bytes) >>= λ count. Some (record { count = count.0; items = count.1; behind = behind })) ≡ (count_in s bytes >>= list_of behind)
unfolding count_at
counted_block w s bytes behind = kept (big_at w (size_len s) bytes) ∙ ap (λ (o : Option (ℕ × List ℕ)). o >>= list_of behind) (counted w s bytes)
  where
    kept : (read : Read ℕ) → (result_ok (counts_read read) >>= list_of behind) ≡ (result_ok read >>= list_of behind)
    kept (Ok x) = refl
    kept (Err e) = refl

abbrev as_list : SizeWidth → Block → Option ListAt
as_list s block = result_ok (count_at block.within s false block.body) >>= λ count. Some (record { count = count.0; items = count.1; behind = block.behind })

block_is : (w : Window) (s : SizeWidth) (bytes : List ℕ) (read : Read ℕ) → (result_ok (block_read w s bytes read) >>= as_list s) ≡ list_in s (behind_size (result_ok read))
block_is w s bytes (Err e) = refl
block_is w s bytes (Ok n) = elim (cases_lt n.0 (size_len s)) [
  | inl lt ↦ rw (lt-ltb n.0 (size_len s) lt) (sym (short_block s n.0 n.1 lt))
  | inr le ↦ rw (le-ltb n.0 (size_len s) le) (parts_are (octets_at w n.0 n.1) ∙ ap (list_in s) (octets_is w n.0 n.1))
]
  where
    parts_are : (read : Read (List ℕ)) → (result_ok (parts_read w bytes read) >>= as_list s) ≡ list_in s (result_ok read)
    parts_are (Ok x) = counted_block (block_of w bytes x).within s x.0 x.1
    parts_are (Err e) = refl

block_sized : (w : Window) (s : SizeWidth) (bytes : List ℕ) → list_in s (behind_size (result_ok (big_at w (size_len s) bytes))) ≡ list_in s (sized s bytes)
block_sized w size.One bytes = ap (λ (o : Option (ℕ × List ℕ)). list_in size.One (behind_size o)) (byte_is w bytes)
block_sized w size.Four bytes = ap (λ (o : Option (ℕ × List ℕ)). list_in size.Four (behind_size o)) (big_is w 4 bytes)

list_block : (s : SizeWidth) (rest : List ℕ) → list_by (Some (ListIn s)) rest ≡ list_in s (sized s rest)
unfolding block_at
list_block s rest = block_is (outermost rest) s rest (big_at (outermost rest) (size_len s) rest) ∙ block_sized (outermost rest) s rest

list_kind : Kind → Bool
list_kind kind.List = true
list_kind k = false

no_list : (c : Constructor) (rest : List ℕ) → list_kind (kind_of c) ≡ false → list_by (Some c) rest ≡ None
unfolding list_kind
no_list (Fixed k f) rest e = refl
no_list (Variable k s) rest e = refl
no_list EmptyList rest e = absurd cc
no_list (ListIn s) rest e = absurd cc
no_list (MapIn s) rest e = refl
no_list (ArrayIn s) rest e = refl

-- a list by its code
abbrev pub list_rows : List (RowOf ListAt)
list_rows =
    (0x45, λ rest. Some (record { count = 0; items = []; behind = rest })) ∷ (0xc0, λ rest. list_in size.One (short_at rest)) ∷ (0xd0, λ rest. list_in size.Four (long_at rest)) ∷ []

abbrev list_behind : ℕ → List ℕ → Option ListAt
list_behind code rest = list_by (find_code code) rest

other_list : (code : ℕ) (rest : List ℕ) → IsOther (codes_of list_rows) code → list_behind code rest ≡ None
unfolding list_kind
other_list code rest other = found (find_code code) refl
  where
    found : (o : Option Constructor) → find_code code ≡ o → list_by o rest ≡ None
    found None e = refl
    found (Some c) e = no_list c rest (not_accepted list_kind (codes_of list_rows) constructors code c refl other e)

-- a list is read by its rows
pub list_is : (bytes : List ℕ) → list_at bytes ≡ (byte_at bytes >>= λ x. by_rows list_rows x.0 x.1)
unfolding list_at
list_is [] = refl
list_is (code ∷ rest) = rows_read list_behind list_rows code rest ((λ rest. refl), ((list_block size.One), ((list_block size.Four), tt))) (other_list code rest)
