-- Values that are known to stand in front, by their codes.
use Rattle.std.proofs.Common.{◌≡◌, ℕ, ◌-◌, ◌<◌, ◌≤◌, Bool, true, false, eqb, not, is_some, List, [], ◌∷◌, ◌++◌, length, Option, Some, None, refl, sym, ap, subst, ◌∙◌, inl, inr, arith}
use Rattle.std.proofs.lemmas.Bool.{eqb-true, ne_eqb, le-leb, lt-leb}
use Rattle.std.specs.Option.{option_map}
use Rattle.std.proofs.lemmas.Option.{same_Some}
use Rattle.amqp_types.specs.declared.code.Constructor.TheVariants.{Fixed, Variable}
use Rattle.amqp_types.specs.declared.code.Form.TheVariants as form
use Rattle.amqp_types.specs.declared.code.SizeWidth.TheVariants as size
use Rattle.amqp_types.specs.declared.kind.Kind.TheVariants as kind
use Rattle.amqp_types.specs.InHand.{outermost}
use Rattle.amqp_types.specs.Reading.{Part, value_of}
use Rattle.amqp_types.specs.Spelling.{Spells}
use Rattle.amqp_types.specs.Trees.{Tree, Octets, depth_of, depth_of_all}
use Rattle.amqp_types.proofs.Again.{value_again}
use Rattle.amqp_types.proofs.Peeks.{behind}
use Rattle.amqp_perform.specs.BodyReading.{typed_at}
use Rattle.amqp_perform.specs.Cells.{Cell, Absent, Whole, ◌>>=◌, where_so, is_null, typed_cell}
use Rattle.amqp_perform.specs.Items.{Item, trees_of, text_of, AreSpelled}
use Rattle.amqp_perform.specs.Performatives.{optional_flag, optional_whole, optional_bytes}
use Rattle.amqp_perform.specs.Rules.{Asked, IsTextCode, is_there, there_at, may_be, may_be_all}
use Rattle.amqp_perform.specs.Tables.{FieldType, uint, uint_from, string, spanned}
use Rattle.amqp_perform.proofs.Leasts.{from_least, frame_size_is}
use Rattle.amqp_perform.proofs.Made.{Yields}
use Rattle.amqp_perform.proofs.Readers.{string_is}
use Rattle.amqp_perform.proofs.RuleLaws.{with_rest, seen, value_read, kept, may_be_is}
use Rattle.amqp_perform.proofs.SizeLaws.{coded}
use Rattle.amqp_perform.proofs.Spans.{no_null}

-- Nulls. --------------------------------------------------------------------------------------------------------------

null_of : (t : Tree) (data_ : List ℕ) → Spells t (0x40 ∷ data_) → is_null t ≡ true
null_of t data_ spelled = let h = behind (Fixed kind.Null form.Full) t 0x40 data_ refl spelled in ap is_null h.1

-- a value is a null exactly where the code of a null stands in front
pub null_is : (t : Tree) (text rest : List ℕ) (code : ℕ) (after : List ℕ) → Spells t text → depth_of t ≤ 30 → code ∷ after ≡ text ++ rest → is_null t ≡ eqb code 0x40
null_is t text rest code after spelled deep parts = by (eqb code 0x40) refl
  where
    by : (b : Bool) → eqb code 0x40 ≡ b → is_null t ≡ b
    by true e =
        let same = eqb-true code 0x40 e in
        let o = coded t text rest (code ∷ after) code after spelled parts refl (λ zero. absurd (omega (arith, same, zero))) in
        null_of t o.0 (subst (λ (c : ℕ). Spells t (c ∷ o.0)) same o.1)
    by false e =
        let bytes = text ++ rest in
        let others : Yields (λ u. is_null u ≡ false) (value_of 30 None bytes) = subst (λ (b : List ℕ). Yields (λ u. is_null u ≡ false) (value_of 30 None b)) parts (no_null code after e) in
        subst (λ (read : Part Tree). Yields (λ u. is_null u ≡ false) read) (value_again t 30 (outermost bytes) 1 None text rest spelled deep tt (λ c. absurd c)) others

-- Values of any type, and texts. --------------------------------------------------------------------------------------

any_there : (t : Tree) (text rest : List ℕ) (b : Bool) → is_null t ≡ b → (typed_cell spanned (record { tree = t; text = text }) >>= with_rest rest) ≡ Some (not b, rest)
any_there t text rest true e = rw e refl
any_there t text rest false e = rw e refl

-- a value of any type is there where it is no null
pub any_read : (x : Item) (rest bytes : List ℕ) (code : ℕ) (after : List ℕ) → Spells x.tree x.text → depth_of x.tree ≤ 30 → bytes ≡ x.text ++ rest → bytes ≡ code ∷ after
    → there_at spanned bytes ≡ Some (not (eqb code 0x40), rest)
any_read x rest bytes code after spelled deep parts is =
    ap (there_at spanned) parts ∙ value_read spanned x rest spelled deep ∙ any_there x.tree x.text rest (eqb code 0x40) (null_is x.tree x.text rest code after spelled deep (sym is ∙ parts))

octets_there : (t : Tree) (octets text rest : List ℕ) → t ≡ Octets kind.String octets
    → (typed_cell string (record { tree = t; text = text }) >>= with_rest rest) ≡ (typed_cell spanned (record { tree = t; text = text }) >>= with_rest rest)
octets_there t octets text rest e = rw e refl

null_there : (t : Tree) (text rest : List ℕ) → is_null t ≡ true
    → (typed_cell string (record { tree = t; text = text }) >>= with_rest rest) ≡ (typed_cell spanned (record { tree = t; text = text }) >>= with_rest rest)
null_there t text rest e = rw e refl

not_zero : (code : ℕ) → IsTextCode code → code ≡ 0 → ⊥
not_zero code (inl e) zero = absurd (omega (arith, e, zero))
not_zero code (inr (inl e)) zero = absurd (omega (arith, e, zero))
not_zero code (inr (inr e)) zero = absurd (omega (arith, e, zero))

text_there : (t : Tree) (text rest : List ℕ) (code : ℕ) (data_ : List ℕ) → Spells t (code ∷ data_) → IsTextCode code
    → (typed_cell string (record { tree = t; text = text }) >>= with_rest rest) ≡ (typed_cell spanned (record { tree = t; text = text }) >>= with_rest rest)
text_there t text rest code data_ spelled (inl e) = null_there t text rest (null_of t data_ (subst (λ (c : ℕ). Spells t (c ∷ data_)) e spelled))
text_there t text rest code data_ spelled (inr (inl e)) =
    let h = behind (Variable kind.String size.One) t 0xa1 data_ refl (subst (λ (c : ℕ). Spells t (c ∷ data_)) e spelled) in octets_there t h.0 text rest h.1
text_there t text rest code data_ spelled (inr (inr e)) =
    let h = behind (Variable kind.String size.Four) t 0xb1 data_ refl (subst (λ (c : ℕ). Spells t (c ∷ data_)) e spelled) in octets_there t h.0 text rest h.1

-- behind the code of a string, and of a null, a string is read as any value is
pub text_read : (x : Item) (rest bytes : List ℕ) (code : ℕ) (after : List ℕ) → Spells x.tree x.text → depth_of x.tree ≤ 30 → bytes ≡ x.text ++ rest → bytes ≡ code ∷ after → IsTextCode code
    → there_at string bytes ≡ there_at spanned bytes
text_read x rest bytes code after spelled deep parts is of_text =
    let o = coded x.tree x.text rest bytes code after spelled parts is (not_zero code of_text) in
    ap (there_at string) parts ∙ value_read string x rest spelled deep ∙ text_there x.tree x.text rest code o.0 o.1 of_text
    ∙ sym (ap (there_at spanned) parts ∙ value_read spanned x rest spelled deep)

-- and behind others there is none
pub no_text : (bytes : List ℕ) (code : ℕ) (after : List ℕ) → bytes ≡ code ∷ after → (IsTextCode code → ⊥) → there_at string bytes ≡ None
no_text bytes code after is other =
    rw (is, string_is 1 (code ∷ after), ne_eqb code 0x40 (λ e. other (inl e)), ne_eqb code 0xa1 (λ e. other (inr (inl e))), ne_eqb code 0xb1 (λ e. other (inr (inr e)))) refl

-- Values of the other types. ------------------------------------------------------------------------------------------

-- what is read of the type is there, or is a null
pub read_some : (type : FieldType) (bytes first : List ℕ) (count : ℕ) (c : Cell) (left : ℕ) (rest after : List ℕ) (is : Bool) → count ≡ 1 → first ≡ bytes → typed_at type count first ≡ Some (c, left, rest)
    → is_there c ≡ is → after ≡ rest → there_at type bytes ≡ Some (is, after)
read_some type bytes first count c left rest after is one same e there behind =
    ap (λ (n : ℕ). typed_at type n bytes >>= seen) (sym one)
    ∙ ap (λ (b : List ℕ). typed_at type count b >>= seen) (sym same)
    ∙ ap (λ (o : Option (Cell × ℕ × List ℕ)). o >>= seen) e
    ∙ ap (λ (b : Bool). Some (b, rest)) there ∙ ap (λ (r : List ℕ). Some (is, r)) (sym behind)

-- and where nothing is read there is none
pub read_none : (type : FieldType) (bytes first : List ℕ) (count : ℕ) → count ≡ 1 → first ≡ bytes → typed_at type count first ≡ None → there_at type bytes ≡ None
read_none type bytes first count one same e =
    ap (λ (n : ℕ). typed_at type n bytes >>= seen) (sym one)
    ∙ ap (λ (b : List ℕ). typed_at type count b >>= seen) (sym same)
    ∙ ap (λ (o : Option (Cell × ℕ × List ℕ)). o >>= seen) e

-- a frame's largest size, by the uint that is read
pub frame_size_by : (bytes first : List ℕ) (count : ℕ) (read : Option (Cell × ℕ × List ℕ)) → count ≡ 1 → first ≡ bytes → typed_at uint count first ≡ read
    → there_at (uint_from 512) bytes ≡ (from_least 512 read >>= seen)
frame_size_by bytes first count read one same e =
    ap (λ (o : Option (Cell × ℕ × List ℕ)). o >>= seen)
    (frame_size_is 1 bytes ∙ ap (from_least 512) (ap (λ (n : ℕ). typed_at uint n bytes) (sym one) ∙ ap (typed_at uint count) (sym same) ∙ e))

-- one that is large enough
pub large_frame : (bytes first : List ℕ) (count n left : ℕ) (rest after : List ℕ) → count ≡ 1 → first ≡ bytes → typed_at uint count first ≡ Some (Whole n, left, rest) → 512 ≤ n → after ≡ rest
    → there_at (uint_from 512) bytes ≡ Some (true, after)
large_frame bytes first count n left rest after one same e large behind =
    frame_size_by bytes first count (Some (Whole n, left, rest)) one same e ∙ (rw (le-leb 512 n large, behind) refl)

-- and one that is not
pub small_frame : (bytes first : List ℕ) (count n left : ℕ) (rest : List ℕ) → count ≡ 1 → first ≡ bytes → typed_at uint count first ≡ Some (Whole n, left, rest) → n < 512
    → there_at (uint_from 512) bytes ≡ None
small_frame bytes first count n left rest one same e small = frame_size_by bytes first count (Some (Whole n, left, rest)) one same e ∙ (rw (lt-leb 512 n small) refl)

-- an absent one
pub absent_frame : (bytes first : List ℕ) (count left : ℕ) (rest after : List ℕ) → count ≡ 1 → first ≡ bytes → typed_at uint count first ≡ Some (Absent, left, rest) → after ≡ rest
    → there_at (uint_from 512) bytes ≡ Some (false, after)
absent_frame bytes first count left rest after one same e behind = frame_size_by bytes first count (Some (Absent, left, rest)) one same e ∙ (rw behind refl)

-- and no uint
pub no_frame : (bytes first : List ℕ) (count : ℕ) → count ≡ 1 → first ≡ bytes → typed_at uint count first ≡ None → there_at (uint_from 512) bytes ≡ None
no_frame bytes first count one same e = frame_size_by bytes first count None one same e

-- a boolean
pub flag_there : (b : Option Bool) → is_there (optional_flag b) ≡ is_some b
flag_there None = refl
flag_there (Some b) = refl

-- a number
pub whole_there : (n : Option ℕ) → is_there (optional_whole n) ≡ is_some n
whole_there None = refl
whole_there (Some n) = refl

-- bytes
pub bytes_there : (b : Option (List ℕ)) → is_there (optional_bytes b) ≡ is_some b
bytes_there None = refl
bytes_there (Some b) = refl

-- whatever it is seen as
pub map_there : {A B : Type 0} (f : A → B) (o : Option A) → is_some (option_map f o) ≡ is_some o
map_there f None = refl
map_there f (Some x) = refl

-- Rules. --------------------------------------------------------------------------------------------------------------

-- what follows an item that may stand in a field, by what is read of it
pub item_kept : (asked : Asked) (type : FieldType) (x : Item) (rest bytes : List ℕ) (read : Option (Bool × List ℕ)) → type ≡ asked.0 → Spells x.tree x.text → depth_of x.tree ≤ 30 → bytes ≡ x.text ++ rest
    → there_at type bytes ≡ read → (read >>= kept asked.1) ≡ where_so (may_be asked x) rest
item_kept asked type x rest bytes read of_type spelled deep parts e =
    let same : there_at asked.0 bytes ≡ read = ap (λ (t : FieldType). there_at t bytes) (sym of_type) ∙ e in
    sym (may_be_is asked.0 asked.1 x rest ∙ ap (λ (o : Option (Bool × List ℕ)). o >>= kept asked.1) (sym (value_read asked.0 x rest spelled deep) ∙ sym (ap (there_at asked.0) parts) ∙ same))

-- a value that is there is kept
pub kept_there : (must is : Bool) (rest : List ℕ) → is ≡ true → Some rest ≡ kept must (is, rest)
kept_there must is rest e = rw e refl

-- one that is not is a fault where it has to be
pub kept_not : (must is : Bool) (rest : List ℕ) → is ≡ false → must ≡ true → None ≡ kept must (is, rest)
kept_not must is rest e has = rw (e, has) refl

-- and is kept where it need not be
pub kept_absent : (must is : Bool) (rest : List ℕ) → is ≡ false → must ≡ false → Some rest ≡ kept must (is, rest)
kept_absent must is rest e need = rw (e, need) refl

-- Items by rules. -----------------------------------------------------------------------------------------------------

abbrev BeginsAs : Asked → List ℕ → Option (List ℕ) → Type 0
BeginsAs asked bytes read = (x : Item) (rest : List ℕ) → Spells x.tree x.text → depth_of x.tree ≤ 30 → bytes ≡ x.text ++ rest → read ≡ where_so (may_be asked x) rest

-- no rule is left
pub none_left : (xs : List Item) (count : ℕ) → length xs ≡ count → eqb count 0 ≡ may_be_all [] xs
none_left [] count e = rw (← e) refl
none_left (x ∷ xs) count e = ne_eqb count 0 (λ zero. omega (arith, e, zero))

-- no item is left for a field that has to be there
pub must_be : (asked : Asked) (others : List Asked) (xs : List Item) (count : ℕ) → length xs ≡ count → count ≡ 0 → asked.1 ≡ true → false ≡ may_be_all (asked ∷ others) xs
must_be asked others [] count e zero must = rw must refl
must_be asked others (x ∷ xs) count e zero must = absurd (omega (arith, e, zero))

-- and for one that need not
pub need_not : (asked : Asked) (others : List Asked) (xs : List Item) (count : ℕ) (bytes : List ℕ) (answer : Bool) → length xs ≡ count → text_of xs ≡ bytes → count ≡ 0 → asked.1 ≡ false
    → ((ys : List Item) → AreSpelled ys → depth_of_all (trees_of ys) ≤ 30 → length ys ≡ 0 → text_of ys ≡ bytes → answer ≡ may_be_all others ys) → answer ≡ may_be_all (asked ∷ others) xs
need_not asked others [] count bytes answer e text zero must next = next [] tt (omega arith) refl text ∙ (rw must refl)
need_not asked others (x ∷ xs) count bytes answer e text zero must next = absurd (omega (arith, e, zero))

no_more : (b : Bool) (rest : List ℕ) → None ≡ where_so b rest → b ≡ false
no_more true rest e = absurd cc
no_more false rest e = refl

-- the next item may not stand there
pub refused : (asked : Asked) (others : List Asked) (xs : List Item) (count : ℕ) (bytes : List ℕ) → AreSpelled xs → depth_of_all (trees_of xs) ≤ 30 → length xs ≡ count → text_of xs ≡ bytes
    → (count ≡ 0 → ⊥) → BeginsAs asked bytes None → false ≡ may_be_all (asked ∷ others) xs
refused asked others [] count bytes spelled deep len text some none = absurd (some (sym len))
refused asked others (x ∷ xs) count bytes spelled deep len text some none =
    rw (no_more (may_be asked x) (text_of xs) (none x (text_of xs) spelled.0 (omega (arith, deep)) (sym text))) refl

more_left : (b : Bool) (rest left : List ℕ) → Some left ≡ where_so b rest → (b ≡ true) × (rest ≡ left)
more_left true rest left e = (refl, sym (same_Some left rest e))
more_left false rest left e = absurd cc

-- it may, and the others are asked
pub accepted : (asked : Asked) (others : List Asked) (xs : List Item) (count : ℕ) (bytes left : List ℕ) (answer : Bool) → AreSpelled xs → depth_of_all (trees_of xs) ≤ 30 → length xs ≡ count
    → text_of xs ≡ bytes → (count ≡ 0 → ⊥) → BeginsAs asked bytes (Some left)
    → ((ys : List Item) → AreSpelled ys → depth_of_all (trees_of ys) ≤ 30 → length ys ≡ count - 1 → text_of ys ≡ left → answer ≡ may_be_all others ys)
    → answer ≡ may_be_all (asked ∷ others) xs
accepted asked others [] count bytes left answer spelled deep len text some read next = absurd (some (sym len))
accepted asked others (x ∷ xs) count bytes left answer spelled deep len text some read next =
    let more = more_left (may_be asked x) (text_of xs) left (read x (text_of xs) spelled.0 (omega (arith, deep)) (sym text)) in
    next xs spelled.1 (omega (arith, deep)) (omega (arith, len)) more.1 ∙ (rw more.0 refl)
