-- The canonical spelling spells its value.
use Rattle.std.proofs.Common.{◌≡◌, ℕ, ◌+◌, ◌-◌, ◌^◌, ◌%◌, ◌<◌, ◌≤◌, ◌==◌, ◌&&◌, ◌||◌, ◌⊎◌, ◌≢◌, Bool, true, false, cond, ltb, leb, List, [], ◌∷◌, ◌++◌, length, Some, None, refl, sym, subst, arith}
use Rattle.std.proofs.Common.{inl, inr}
use Rattle.std.proofs.lemmas.Bool.{eqb-true, ltb-true, leb-true, and_parts, lt-ltb, le-ltb}
use Rattle.std.proofs.lemmas.Bool.Decides.{nat_tests}
use Rattle.byteorder.specs.Endian.{big_bytes}
use Rattle.amqp_types.specs.declared.kind.Kind.{Kind}
use Rattle.amqp_types.specs.declared.kind.Kind.TheVariants as kind
use Rattle.amqp_types.specs.declared.code.Form.TheVariants as form
use Rattle.amqp_types.specs.declared.code.SizeWidth.{SizeWidth}
use Rattle.amqp_types.specs.declared.code.SizeWidth.TheVariants as size
use Rattle.amqp_types.specs.declared.code.Constructor.{Constructor}
use Rattle.amqp_types.specs.declared.code.Constructor.TheVariants.{Fixed, Variable, ListIn, MapIn, ArrayIn}
use Rattle.amqp_types.specs.declared.shell.Shell.TheVariants as shell
use Rattle.amqp_types.specs.declared.shell.Short.TheVariants as short
use Rattle.amqp_types.specs.Codes.{find_code, kind_of}
use Rattle.amqp_types.specs.Kinds.{fixed_width, width}
use Rattle.amqp_types.specs.Spelling.{sign_extended, size_len, AreOctetsOf, Spells, SpellAll, SpellDescriptors, SpellItems, SpellPairs}
use Rattle.amqp_types.specs.Trees.{Tree, Number, Octets, ListOf, MapOf, ArrayOf, Described, Trees, none, more, Pairs, no_pair, pair, count_of, pair_count, IsOfKind, AreOfKind, IsLawful, AreLawful}
use Rattle.amqp_types.specs.Trees.{ArePairsLawful}
use Rattle.amqp_types.specs.Canonical.{full_code, full_data, block, boolean_form, unsigned_form, signed_form, short_form, number_text, shell_of, is_small, narrowest, sized, shortest, all_small}
use Rattle.amqp_types.specs.Canonical.{all_data, item_width, content_of, canonicals, canonical_pairs, canonical_heads, parts, canonical, Fits, AllFit, PairsFit, IsOfOctets, IsRanged, AllRanged}
use Rattle.amqp_types.specs.Canonical.{PairsRanged}

-- ---- codes

number_code : (s : SizeWidth) (k : Kind) → fixed_width k ≢ None → find_code (full_code s k) ≡ Some (Fixed k form.Full)
number_code s kind.Null h = refl
number_code s kind.Boolean h = refl
number_code s kind.Ubyte h = refl
number_code s kind.Ushort h = refl
number_code s kind.Uint h = refl
number_code s kind.Ulong h = refl
number_code s kind.Byte h = refl
number_code s kind.Short h = refl
number_code s kind.Int h = refl
number_code s kind.Long h = refl
number_code s kind.Float h = refl
number_code s kind.Double h = refl
number_code s kind.Decimal32 h = refl
number_code s kind.Decimal64 h = refl
number_code s kind.Decimal128 h = refl
number_code s kind.Char h = refl
number_code s kind.Timestamp h = refl
number_code s kind.Uuid h = refl
number_code s kind.Binary h = absurd (h refl)
number_code s kind.String h = absurd (h refl)
number_code s kind.Symbol h = absurd (h refl)
number_code s kind.List h = absurd (h refl)
number_code s kind.Map h = absurd (h refl)
number_code s kind.Array h = absurd (h refl)

octets_code : (s : SizeWidth) (k : Kind) → IsOfOctets k → find_code (full_code s k) ≡ Some (Variable k s)
octets_code size.One kind.Binary h = refl
octets_code size.Four kind.Binary h = refl
octets_code size.One kind.String h = refl
octets_code size.Four kind.String h = refl
octets_code size.One kind.Symbol h = refl
octets_code size.Four kind.Symbol h = refl
octets_code s kind.Null h = absurd h
octets_code s kind.Boolean h = absurd h
octets_code s kind.Ubyte h = absurd h
octets_code s kind.Ushort h = absurd h
octets_code s kind.Uint h = absurd h
octets_code s kind.Ulong h = absurd h
octets_code s kind.Byte h = absurd h
octets_code s kind.Short h = absurd h
octets_code s kind.Int h = absurd h
octets_code s kind.Long h = absurd h
octets_code s kind.Float h = absurd h
octets_code s kind.Double h = absurd h
octets_code s kind.Decimal32 h = absurd h
octets_code s kind.Decimal64 h = absurd h
octets_code s kind.Decimal128 h = absurd h
octets_code s kind.Char h = absurd h
octets_code s kind.Timestamp h = absurd h
octets_code s kind.Uuid h = absurd h
octets_code s kind.List h = absurd h
octets_code s kind.Map h = absurd h
octets_code s kind.Array h = absurd h

list_code : (s : SizeWidth) → find_code (full_code s kind.List) ≡ Some (ListIn s)
list_code size.One = refl
list_code size.Four = refl

map_code : (s : SizeWidth) → find_code (full_code s kind.Map) ≡ Some (MapIn s)
map_code size.One = refl
map_code size.Four = refl

array_code : (s : SizeWidth) → find_code (full_code s kind.Array) ≡ Some (ArrayIn s)
array_code size.One = refl
array_code size.Four = refl

-- each kind has an element constructor
element_code : (s : SizeWidth) (k : Kind) → (c : Constructor) × (find_code (full_code s k) ≡ Some c) × (kind_of c ≡ k)
element_code s kind.Null = (_, refl, refl)
element_code s kind.Boolean = (_, refl, refl)
element_code s kind.Ubyte = (_, refl, refl)
element_code s kind.Ushort = (_, refl, refl)
element_code s kind.Uint = (_, refl, refl)
element_code s kind.Ulong = (_, refl, refl)
element_code s kind.Byte = (_, refl, refl)
element_code s kind.Short = (_, refl, refl)
element_code s kind.Int = (_, refl, refl)
element_code s kind.Long = (_, refl, refl)
element_code s kind.Float = (_, refl, refl)
element_code s kind.Double = (_, refl, refl)
element_code s kind.Decimal32 = (_, refl, refl)
element_code s kind.Decimal64 = (_, refl, refl)
element_code s kind.Decimal128 = (_, refl, refl)
element_code s kind.Char = (_, refl, refl)
element_code s kind.Timestamp = (_, refl, refl)
element_code s kind.Uuid = (_, refl, refl)
element_code s kind.Binary = (Variable kind.Binary s, octets_code s kind.Binary tt, refl)
element_code s kind.String = (Variable kind.String s, octets_code s kind.String tt, refl)
element_code s kind.Symbol = (Variable kind.Symbol s, octets_code s kind.Symbol tt, refl)
element_code s kind.List = (ListIn s, list_code s, refl)
element_code s kind.Map = (MapIn s, map_code s, refl)
element_code s kind.Array = (ArrayIn s, array_code s, refl)

-- ---- numbers

number_full : (s : SizeWidth) (k : Kind) (n : ℕ) → IsRanged (Number k n) → Spells (Number k n) (full_code s k ∷ big_bytes (width k) n)
unfolding Spells
number_full s k n r = (full_code s k, form.Full, big_bytes (width k) n, number_code s k r.0, refl, (r.1, refl), r.2)

boolean_spells : (n : ℕ) → n < 2 → Spells (Number kind.Boolean n) (number_text kind.Boolean n (boolean_form n))
unfolding Spells
boolean_spells n h = at_zero (n == 0) refl
  where
    at_one : (b : Bool) → (n == 0) ≡ false → (n == 1) ≡ b → Spells (Number kind.Boolean n) (number_text kind.Boolean n (cond b (Some (short.Code 0x41)) None))
    at_one true z e = (0x41, form.One, [], refl, refl, (eqb-true n 1 e, refl), h)
    at_one false z e = absurd (grind (arith, nat_tests))

    at_zero : (b : Bool) → (n == 0) ≡ b → Spells (Number kind.Boolean n) (number_text kind.Boolean n (cond b (Some (short.Code 0x42)) (cond (n == 1) (Some (short.Code 0x41)) None)))
    at_zero true e = (0x42, form.Zero, [], refl, refl, (eqb-true n 0 e, refl), h)
    at_zero false e = at_one (n == 1) e refl

unsigned_spells : (k : Kind) (zero_code code n : ℕ) → find_code zero_code ≡ Some (Fixed k form.Zero) → find_code code ≡ Some (Fixed k form.OneByte) → IsRanged (Number k n)
    → Spells (Number k n) (number_text k n (unsigned_form zero_code code n))
unfolding Spells
unsigned_spells k zero_code code n z c r = at_zero (n == 0) refl
  where
    at_byte : (b : Bool) → ltb n 256 ≡ b → Spells (Number k n) (number_text k n (cond b (Some (short.Byte code n)) None))
    at_byte true e = (code, form.OneByte, n ∷ [], c, refl, (ltb-true n 256 e, refl), r.2)
    at_byte false e = number_full size.One k n r

    at_zero : (b : Bool) → (n == 0) ≡ b → Spells (Number k n) (number_text k n (cond b (Some (short.Code zero_code)) (cond (ltb n 256) (Some (short.Byte code n)) None)))
    at_zero true e = (zero_code, form.Zero, [], z, refl, (eqb-true n 0 e, refl), r.2)
    at_zero false e = at_byte (ltb n 256) refl

-- a number that its low byte in two's complement gives
extended_low : (w n : ℕ) → n < 128 → n ≡ sign_extended w (n % 256)
extended_low w n h =
    let same : n % 256 ≡ n = omega arith in
    rw (same, lt-ltb n 128 h) refl

extended_high4 : (n : ℕ) → n < 256 ^ 4 → 256 ^ 4 - 128 ≤ n → n ≡ sign_extended 4 (n % 256)
extended_high4 n h g =
    let byte : n % 256 + 4294967040 ≡ n = omega arith in
    rw (le-ltb (n % 256) 128 (omega arith)) (omega arith)

extended_high8 : (n : ℕ) → n < 256 ^ 8 → 256 ^ 8 - 128 ≤ n → n ≡ sign_extended 8 (n % 256)
extended_high8 n h g =
    let byte : n % 256 + 18446744073709551360 ≡ n = omega arith in
    rw (le-ltb (n % 256) 128 (omega arith)) (omega arith)

or_cases : (x y : Bool) → (x || y) ≡ true → (x ≡ true) ⊎ (y ≡ true)
or_cases true y e = inl refl
or_cases false y e = inr e

signed_spells : (k : Kind) (code least n : ℕ) → find_code code ≡ Some (Fixed k form.OneSigned) → IsRanged (Number k n) → (least ≤ n → n ≡ sign_extended (width k) (n % 256))
    → Spells (Number k n) (number_text k n (signed_form code least n))
unfolding Spells
signed_spells k code least n c r high = at_test (ltb n 128 || leb least n) refl
  where
    at_test : (b : Bool) → (ltb n 128 || leb least n) ≡ b → Spells (Number k n) (number_text k n (cond b (Some (short.Byte code (n % 256))) None))
    at_test true e =
        let same : n ≡ sign_extended (width k) (n % 256) =
        elim (or_cases _ _ e) [ inl low ↦ extended_low (width k) n (ltb-true n 128 low) | inr top ↦ high (leb-true least n top) ] in
        (code, form.OneSigned, (n % 256) ∷ [], c, refl, (n % 256, omega arith, same, refl), r.2)
    at_test false e = number_full size.One k n r

number_shortest : (k : Kind) (n : ℕ) → IsRanged (Number k n) → Spells (Number k n) (number_text k n (short_form k n))
number_shortest kind.Boolean n r = boolean_spells n r.2
number_shortest kind.Uint n r = unsigned_spells kind.Uint 0x43 0x52 n refl refl r
number_shortest kind.Ulong n r = unsigned_spells kind.Ulong 0x44 0x53 n refl refl r
number_shortest kind.Int n r = signed_spells kind.Int 0x54 (256 ^ 4 - 128) n refl r (extended_high4 n r.1)
number_shortest kind.Long n r = signed_spells kind.Long 0x55 (256 ^ 8 - 128) n refl r (extended_high8 n r.1)
number_shortest kind.Null n r = number_full size.One kind.Null n r
number_shortest kind.Ubyte n r = number_full size.One kind.Ubyte n r
number_shortest kind.Ushort n r = number_full size.One kind.Ushort n r
number_shortest kind.Byte n r = number_full size.One kind.Byte n r
number_shortest kind.Short n r = number_full size.One kind.Short n r
number_shortest kind.Float n r = number_full size.One kind.Float n r
number_shortest kind.Double n r = number_full size.One kind.Double n r
number_shortest kind.Decimal32 n r = number_full size.One kind.Decimal32 n r
number_shortest kind.Decimal64 n r = number_full size.One kind.Decimal64 n r
number_shortest kind.Decimal128 n r = number_full size.One kind.Decimal128 n r
number_shortest kind.Char n r = number_full size.One kind.Char n r
number_shortest kind.Timestamp n r = number_full size.One kind.Timestamp n r
number_shortest kind.Uuid n r = number_full size.One kind.Uuid n r
number_shortest kind.Binary n r = number_full size.One kind.Binary n r
number_shortest kind.String n r = number_full size.One kind.String n r
number_shortest kind.Symbol n r = number_full size.One kind.Symbol n r
number_shortest kind.List n r = number_full size.One kind.List n r
number_shortest kind.Map n r = number_full size.One kind.Map n r
number_shortest kind.Array n r = number_full size.One kind.Array n r

-- ---- sizes

narrow_small : (b : Bool) → narrowest b ≡ size.One → b ≡ true
narrow_small true e = refl
narrow_small false e = absurd cc

-- bytes whose length the size holds
octets_hold : (s : SizeWidth) (len : ℕ) → (s ≡ size.One → ltb len 256 ≡ true) → ltb len (2 ^ 32) ≡ true → len < 256 ^ size_len s
octets_hold size.One len small room = ltb-true len 256 (small refl)
octets_hold size.Four len small room = ltb-true len (2 ^ 32) room

-- a count and a length that the size and the count hold
pub record Holds (s : SizeWidth) (n len : ℕ) : Type 0 where
  pub count_fits : n < 256 ^ size_len s
  pub size_fits : size_len s + len < 256 ^ size_len s

block_holds : (s : SizeWidth) (n len : ℕ) → (s ≡ size.One → (ltb n 256 && ltb len 255) ≡ true) → (ltb n (2 ^ 32) && ltb (4 + len) (2 ^ 32)) ≡ true → Holds s n len
block_holds size.One n len small room =
    let p = and_parts _ _ (small refl) in
    let l : len < 255 = ltb-true len 255 p.1 in
    record { count_fits = ltb-true n 256 p.0; size_fits = omega arith }
block_holds size.Four n len small room =
    let p = and_parts _ _ room in
    record { count_fits = ltb-true n (2 ^ 32) p.0; size_fits = ltb-true (4 + len) (2 ^ 32) p.1 }

-- ---- values

octets_full : (s : SizeWidth) (k : Kind) (octets : List ℕ) → IsOfOctets k → AreOctetsOf k octets → length octets < 256 ^ size_len s
    → Spells (Octets k octets) (full_code s k ∷ (big_bytes (size_len s) (length octets) ++ octets))
unfolding Spells
octets_full s k octets h of_kind fits = (full_code s k, s, big_bytes (size_len s) (length octets) ++ octets, octets_code s k h, refl, (fits, refl), of_kind)

list_full : (s : SizeWidth) (ts : Trees) (text : List ℕ) → SpellAll ts text → Holds s (count_of ts) (length text) → Spells (ListOf ts) (full_code s kind.List ∷ block s (count_of ts) text)
unfolding Spells
list_full s ts text all h = inr (full_code s kind.List, s, text, block s (count_of ts) text, list_code s, refl, (h.count_fits, h.size_fits, refl), all)

map_full : (s : SizeWidth) (ps : Pairs) (text : List ℕ) → SpellPairs ps text → Holds s (pair_count ps) (length text) → Spells (MapOf ps) (full_code s kind.Map ∷ block s (pair_count ps) text)
unfolding Spells
map_full s ps text all h = (full_code s kind.Map, s, text, block s (pair_count ps) text, map_code s, refl, (h.count_fits, h.size_fits, refl), all)

array_full : (s w : SizeWidth) (ds : Trees) (k : Kind) (ts : Trees) (head text : List ℕ) → SpellDescriptors ds head → SpellItems (full_code w k) ts text
    → Holds s (count_of ts) (length (head ++ full_code w k ∷ text)) → Spells (ArrayOf ds k ts) (full_code s kind.Array ∷ block s (count_of ts) (head ++ full_code w k ∷ text))
unfolding Spells
array_full s w ds k ts head text heads items h =
    let e = element_code w k in
    (full_code s kind.Array, s, full_code w k, e.0, head, text, block s (count_of ts) (head ++ full_code w k ∷ text), array_code s, refl, (h.count_fits, h.size_fits, refl), heads, e.1, e.2, items)

described_shortest : (d t : Tree) (first second : List ℕ) → Spells d first → Spells t second → Spells (Described d t) (0 ∷ (first ++ second))
unfolding Spells
described_shortest d t first second p q = (first, second, refl, p, q)

-- the empty list, or a list in full form
list_shortest : (ts : Trees) (text : List ℕ) → Spells (ListOf ts) (sized kind.List (shell.List (count_of ts)) text) → Spells (ListOf ts) (shortest (shell.List (count_of ts)) text)
unfolding Spells
list_shortest none text full = inl (0x45, refl, refl, refl)
list_shortest (more t ts) text full =
    let some : (count_of ts + 1 == 0) ≡ false = grind (arith, nat_tests) in
    rw some full

-- what a value's spellings are: the shortest, and the full form of its kind with sizes of a width that it fits
pub record Written (t : Tree) : Type 0 where
  pub spelled : Spells t (canonical t)
  pub in_full : (k : Kind) (s : SizeWidth) → IsOfKind k t → (s ≡ size.One → is_small (shell_of t) (content_of t) ≡ true) → Spells t (full_code s k ∷ full_data s (shell_of t) (content_of t))

-- a full form of the kind, with the kind under another name
of_kind_is : (t : Tree) (j k : Kind) (s : SizeWidth) (text : List ℕ) → j ≡ k → Spells t (full_code s j ∷ text) → Spells t (full_code s k ∷ text)
of_kind_is t j k s text e h = subst (λ (i : Kind). Spells t (full_code s i ∷ text)) e h

mutual
  unfolding Spells

  pub written : (t : Tree) → IsLawful t → IsRanged t → Fits t → Written t
  written (Number k n) l r f = record {
    spelled = number_shortest k n r;
    in_full = λ j s e small. of_kind_is (Number k n) k j s (big_bytes (width k) n) e (number_full s k n r);
  }
  written (Octets k octets) l r f =
      let full : (s : SizeWidth) → (s ≡ size.One → ltb (length octets) 256 ≡ true) → Spells (Octets k octets) (full_code s k ∷ (big_bytes (size_len s) (length octets) ++ octets)) =
      λ s small. octets_full s k octets r.0 r.2 (octets_hold s (length octets) small f) in
      record {
        spelled = full (narrowest (ltb (length octets) 256)) (narrow_small (ltb (length octets) 256));
        in_full = λ j s e small. of_kind_is (Octets k octets) k j s (big_bytes (size_len s) (length octets) ++ octets) e (full s small);
      }
  written (ListOf ts) l r f =
      let all = all_written ts l r f.1 in
      let small_test = ltb (count_of ts) 256 && ltb (length (canonicals ts)) 255 in
      let full : (s : SizeWidth) → (s ≡ size.One → (ltb (count_of ts) 256 && ltb (length (canonicals ts)) 255) ≡ true) → Spells (ListOf ts)
      (full_code s kind.List ∷ block s (count_of ts) (canonicals ts)) =
      λ s small. list_full s ts (canonicals ts) all (block_holds s (count_of ts) (length (canonicals ts)) small f.0) in
      record {
        spelled = list_shortest ts (canonicals ts) (full (narrowest small_test) (narrow_small small_test));
        in_full = λ j s e small. of_kind_is (ListOf ts) kind.List j s (block s (count_of ts) (canonicals ts)) (sym e) (full s small);
      }
  written (MapOf ps) l r f =
      let all = pairs_written ps l r f.1 in
      let small_test = ltb (pair_count ps) 256 && ltb (length (canonical_pairs ps)) 255 in
      let full : (s : SizeWidth) → (s ≡ size.One → (ltb (pair_count ps) 256 && ltb (length (canonical_pairs ps)) 255) ≡ true) → Spells (MapOf ps)
      (full_code s kind.Map ∷ block s (pair_count ps) (canonical_pairs ps)) =
      λ s small. map_full s ps (canonical_pairs ps) all (block_holds s (pair_count ps) (length (canonical_pairs ps)) small f.0) in
      record {
        spelled = full (narrowest small_test) (narrow_small small_test);
        in_full = λ j s e small. of_kind_is (MapOf ps) kind.Map j s (block s (pair_count ps) (canonical_pairs ps)) (sym e) (full s small);
      }
  written (ArrayOf ds k ts) l r f =
      let w = item_width (parts ts) in
      let heads = heads_written ds l.0 r.0 f.1 in
      let items = items_written k w ts l.2 (narrow_small (all_small (parts ts))) l.1 r.1 f.2 in
      let text = content_of (ArrayOf ds k ts) in
      let small_test = ltb (count_of ts) 256 && ltb (length (content_of (ArrayOf ds k ts))) 255 in
      let full : (s : SizeWidth) → (s ≡ size.One → (ltb (count_of ts) 256 && ltb (length (content_of (ArrayOf ds k ts))) 255) ≡ true) →
      Spells (ArrayOf ds k ts) (full_code s kind.Array ∷ block s (count_of ts) (content_of (ArrayOf ds k ts))) =
      λ s small. array_full s w ds k ts (canonical_heads ds) (all_data w (parts ts)) heads items (block_holds s (count_of ts) (length text) small f.0) in
      record {
        spelled = full (narrowest small_test) (narrow_small small_test);
        in_full = λ j s e small. of_kind_is (ArrayOf ds k ts) kind.Array j s (block s (count_of ts) text) (sym e) (full s small);
      }
  written (Described d t) l r f =
      let first = written d l.0 r.0 f.0 in
      let second = written t l.1 r.1 f.1 in
      record {
        spelled = described_shortest d t (canonical d) (canonical t) first.spelled second.spelled;
        in_full = λ j s e small. absurd e;
      }

  all_written : (ts : Trees) → AreLawful ts → AllRanged ts → AllFit ts → SpellAll ts (canonicals ts)
  all_written none l r f = refl
  all_written (more t ts) l r f = (canonical t, canonicals ts, refl, (written t l.0 r.0 f.0).spelled, all_written ts l.1 r.1 f.1)

  heads_written : (ds : Trees) → AreLawful ds → AllRanged ds → AllFit ds → SpellDescriptors ds (canonical_heads ds)
  heads_written none l r f = refl
  heads_written (more d ds) l r f = (canonical d, canonical_heads ds, refl, (written d l.0 r.0 f.0).spelled, heads_written ds l.1 r.1 f.1)

  pairs_written : (ps : Pairs) → ArePairsLawful ps → PairsRanged ps → PairsFit ps → SpellPairs ps (canonical_pairs ps)
  pairs_written no_pair l r f = refl
  pairs_written (pair k v ps) l r f =
      (canonical k, canonical v, canonical_pairs ps, refl, (written k l.0 r.0 f.0).spelled, (written v l.1 r.1 f.1).spelled, pairs_written ps l.3 r.2 f.2)

  items_written : (k : Kind) (s : SizeWidth) (ts : Trees) → AreOfKind k ts → (s ≡ size.One → all_small (parts ts) ≡ true) → AreLawful ts → AllRanged ts → AllFit ts →
      SpellItems (full_code s k) ts (all_data s (parts ts))
  items_written k s none of_kind small l r f = refl
  items_written k s (more t ts) of_kind small l r f =
      let here : s ≡ size.One → is_small (shell_of t) (content_of t) ≡ true = λ e. (and_parts _ _ (small e)).0 in
      let others : s ≡ size.One → all_small (parts ts) ≡ true = λ e. (and_parts _ _ (small e)).1 in
      (full_data s (shell_of t) (content_of t), all_data s (parts ts), refl, (written t l.0 r.0 f.0).in_full k s of_kind.0 here, items_written k s ts of_kind.1 others l.1 r.1 f.1)

-- the canonical spelling spells its value
pub canonical_spells : (t : Tree) → IsLawful t → IsRanged t → Fits t → Spells t (canonical t)
canonical_spells t l r f = (written t l r f).spelled
