-- A fault stands within the bytes that are read, and where nothing is counted it is of the bytes alone.
use Rattle.std.proofs.Common.{◌≡◌, ℕ, zero, suc, ◌+◌, ◌-◌, ◌/◌, ◌%◌, ◌≤◌, Bool, true, false, cond, ltb, eqb, ◌&&◌, not, is_some, List, [], ◌∷◌, length, take, drop, Option, Some, None, Result, Ok, Err}
use Rattle.std.proofs.Common.{refl, sym, ap, subst, arith, inl, inr}
use Rattle.std.specs.Prelude.{IfErr}
use Rattle.std.specs.Str.{is_utf8}
use Rattle.std.specs.Str.Lossy.{utf8_valid_len}
use Rattle.std.specs.List.{position_or_len}
use Rattle.std.specs.Option.{option_map}
use lib.Utf8.{scalar}
use Rattle.std.proofs.lemmas.Bool.{ltb-false, ltb-true}
use Rattle.std.proofs.lemmas.List.{length-take, length-drop}
use Rattle.std.proofs.lemmas.Str.{utf8_valid_len_le}
use Rattle.byteorder.specs.Endian.{big_number}
use Rattle.amqp_types.specs.declared.kind.Kind.{Kind}
use Rattle.amqp_types.specs.declared.kind.Kind.TheVariants as kind
use Rattle.amqp_types.specs.declared.code.Form.{Form}
use Rattle.amqp_types.specs.declared.code.Form.TheVariants as form
use Rattle.amqp_types.specs.declared.code.SizeWidth.{SizeWidth}
use Rattle.amqp_types.specs.declared.code.Constructor.{Constructor}
use Rattle.amqp_types.specs.declared.code.Constructor.TheVariants.{Fixed, Variable, EmptyList, ListIn, MapIn, ArrayIn}
use Rattle.amqp_types.specs.declared.fault.ReadFault.{ReadFault}
use Rattle.amqp_types.specs.declared.fault.ReadFault.TheVariants.{Truncated, UnknownCode, BadSize, BadCount, BadText, BadSymbol, BadChar, BadBoolean, DuplicateKey, TooDeep, TooManyNodes}
use Rattle.amqp_types.specs.declared.window.Window.{Window}
use Rattle.amqp_types.specs.Codes.{find_code, kind_of}
use Rattle.amqp_types.specs.Decoding.{decoded}
use Rattle.amqp_types.specs.Skipping.{rest_of}
use Rattle.amqp_types.specs.Images.{has_key}
use Rattle.amqp_types.specs.Kinds.{width, is_container}
use Rattle.amqp_types.specs.Places.{place_of, IsPlain}
use Rattle.amqp_types.specs.InHand.{Budget, outermost, place}
use Rattle.amqp_types.specs.Reading.{Read, Part, Level, Block, Is, Gives, ◌>>=◌, after, unless, charge, behind, number_fault, is_beyond_ascii, octets_fault, octets_at}
use Rattle.amqp_types.specs.Reading.{big_at, form_at, number_at, sized_at, block_of, block_at, count_at, trees_at, distinct, pairs_at, ended, allowed, head_at, list_at, map_at, array_at, uncharged}
use Rattle.amqp_types.specs.Reading.{item_by, described_at, value_by, inside, value_of}
use Rattle.amqp_types.specs.Spelling.{sign_extended, size_len}
use Rattle.amqp_types.specs.Trees.{Tree, Number, Octets, Trees, none, more}

-- the fault stands at the end at most, and it is plain where the reading is free of limits
record Bounds (free : Type 0) (end : ℕ) (e : ReadFault) : Type 0 where
  within : place_of e ≤ end
  plain : free → IsPlain e

-- what is read is so, or its fault is
abbrev Fares : {A : Type 0} → (A → Type 0) → (ReadFault → Type 0) → Result A ReadFault → Type 0
Fares ok bad (Ok x) = ok x
Fares ok bad (Err e) = bad e

then_fares : {A B : Type 0} (ok : A → Type 0) (next : B → Type 0) (bad : ReadFault → Type 0) (r : Result A ReadFault) (f : A → Result B ReadFault)
    → Fares ok bad r → ((x : A) → ok x → Fares next bad (f x)) → Fares next bad (r >>= f)
then_fares ok next bad (Ok x) f p q = q x p
then_fares ok next bad (Err e) f p q = p

choice_fares : {A : Type 0} (ok : A → Type 0) (bad : ReadFault → Type 0) (b : Bool) (x y : Result A ReadFault) → (b ≡ true → Fares ok bad x) → (b ≡ false → Fares ok bad y) → Fares ok bad (cond b x y)
choice_fares ok bad true x y p q = p refl
choice_fares ok bad false x y p q = q refl

wider : {A : Type 0} (ok : A → Type 0) (free : Type 0) (m n : ℕ) (r : Result A ReadFault) → m ≤ n → Fares ok (Bounds free m) r → Fares ok (Bounds free n) r
wider ok free m n (Ok x) le p = p
wider ok free m n (Err e) le p = record { within = omega (arith, p.within); plain = p.plain }

-- the bytes lie in the window, whose end is no fault of limits
record IsOpen (free : Type 0) (w : Window) (bytes : List ℕ) : Type 0 where
  short : Bounds free w.end w.short
  inside : length bytes ≤ w.end

open_later : (free : Type 0) (w : Window) (bytes rest : List ℕ) → IsOpen free w bytes → length rest ≤ length bytes → IsOpen free w rest
open_later free w bytes rest o le = record { short = o.short; inside = omega (arith, o.inside) }

-- a plain fault at a place in the window
at_place : (free : Type 0) (end : ℕ) (e : ReadFault) → place_of e ≤ end → IsPlain e → Bounds free end e
at_place free end e le plain = record { within = le; plain = λ _. plain }

-- ---- scalars

octets_fare : (free : Type 0) (w : Window) (n : ℕ) (bytes : List ℕ) → IsOpen free w bytes
    → Fares (λ x. (length x.0 ≤ length bytes) × (length x.0 + length x.1 ≡ length bytes)) (Bounds free w.end) (octets_at w n bytes)
octets_fare free w n bytes o =
    choice_fares _ _ (ltb (length bytes) n) (Err w.short) (Ok (take n bytes, drop n bytes)) (λ _. o.short)
    (λ no. let le = ltb-false (length bytes) n no in (omega (arith, length-take n bytes), omega (arith, length-take n bytes, length-drop n bytes)))

big_fares : (free : Type 0) (w : Window) (n : ℕ) (bytes : List ℕ) → IsOpen free w bytes → Fares (λ x. length x.1 ≤ length bytes) (Bounds free w.end) (big_at w n bytes)
big_fares free w n bytes o =
    choice_fares _ _ (ltb (length bytes) n) (Err w.short) (Ok (big_number n bytes, drop n bytes)) (λ _. o.short) (λ _. omega (arith, length-drop n bytes))

form_fares : (free : Type 0) (w : Window) (f : Form) (n : ℕ) (bytes : List ℕ) → IsOpen free w bytes → Fares (λ x. length x.1 ≤ length bytes) (Bounds free w.end) (form_at w f n bytes)
unfolding form_at
form_fares free w form.Zero n bytes o = omega arith
form_fares free w form.One n bytes o = omega arith
form_fares free w form.OneByte n bytes o = big_fares free w 1 bytes o
form_fares free w form.OneSigned n bytes o = then_fares _ _ _ (big_at w 1 bytes) (λ byte. Ok (sign_extended n byte.0, byte.1)) (big_fares free w 1 bytes o) (λ x less. less)
form_fares free w form.Full n bytes o = big_fares free w n bytes o

-- a fault, where there is one, is so
abbrev May : (ReadFault → Type 0) → Option ReadFault → Type 0
May bad None = Unit {0}
May bad (Some e) = bad e

unless_fares : {A : Type 0} (ok : A → Type 0) (bad : ReadFault → Type 0) (fault : Option ReadFault) (x : A) → May bad fault → ok x → Fares ok bad (unless fault x)
unless_fares ok bad None x m p = p
unless_fares ok bad (Some e) x m p = m

may_be : (bad : ReadFault → Type 0) (b : Bool) (e : ReadFault) → bad e → May bad (cond b None (Some e))
may_be bad true e m = tt
may_be bad false e m = m

number_may : (free : Type 0) (k : Kind) (at n end : ℕ) → at ≤ end → May (Bounds free end) (number_fault k at n)
number_may free kind.Boolean at n end le = may_be (Bounds free end) (ltb n 2) (BadBoolean at) (at_place free end (BadBoolean at) le tt)
number_may free kind.Char at n end le = may_be (Bounds free end) (scalar n) (BadChar at) (at_place free end (BadChar at) le tt)
number_may free _ at n end le = tt

number_fares : (free : Type 0) (w : Window) (k : Kind) (f : Form) (bytes : List ℕ) → IsOpen free w bytes → Fares (λ x. length x.1 ≤ length bytes) (Bounds free w.end) (number_at w k f bytes)
unfolding number_at
number_fares free w k f bytes o =
    then_fares _ _ _ (form_at w f (width k) bytes) (λ n. unless (number_fault k (place w bytes) n.0) n) (form_fares free w f (width k) bytes o)
    (λ x less. unless_fares _ _ (number_fault k (place w bytes) x.0) x (number_may free k (place w bytes) x.0 w.end (omega arith)) less)

symbol_may : (free : Type 0) (at p len end : ℕ) (b : Bool) → b ≡ ltb p len → at + len ≤ end → May (Bounds free end) (option_map (λ n. BadSymbol (at + n)) (cond b (Some p) None))
symbol_may free at p len end true is le = let lt = ltb-true p len (sym is) in at_place free end (BadSymbol (at + p)) (omega arith) tt
symbol_may free at p len end false is le = tt

octets_may : (free : Type 0) (k : Kind) (at : ℕ) (octets : List ℕ) (end : ℕ) → at + length octets ≤ end → May (Bounds free end) (octets_fault k at octets)
octets_may free kind.String at octets end le =
    let e = BadText (at + utf8_valid_len octets) in may_be (Bounds free end) (is_utf8 octets) e (at_place free end e (omega (arith, utf8_valid_len_le octets)) tt)
octets_may free kind.Symbol at octets end le = let p = position_or_len is_beyond_ascii octets in symbol_may free at p (length octets) end (ltb p (length octets)) refl le
octets_may free _ at octets end le = tt

sized_fares : (free : Type 0) (w : Window) (k : Kind) (s : SizeWidth) (bytes : List ℕ) → IsOpen free w bytes → Fares (λ x. length x.1 ≤ length bytes) (Bounds free w.end) (sized_at w k s bytes)
unfolding sized_at
sized_fares free w k s bytes o =
    then_fares _ _ _ (big_at w (size_len s) bytes) (λ n. octets_at w n.0 n.1 >>= λ octets. unless (octets_fault k (place w n.1) octets.0) octets) (big_fares free w (size_len s) bytes o)
    (λ n less. then_fares _ _ _ (octets_at w n.0 n.1) (λ octets. unless (octets_fault k (place w n.1) octets.0) octets) (octets_fare free w n.0 n.1 (open_later free w bytes n.1 o less))
    (λ x parts. unless_fares _ _ (octets_fault k (place w n.1) x.0) x (octets_may free k (place w n.1) x.0 w.end (omega (arith, parts.0, o.inside))) (omega (arith, parts.1))))

-- ---- blocks

record IsInside (free : Type 0) (w : Window) (bytes : List ℕ) (block : Block) : Type 0 where
  opened : IsOpen free block.within block.body
  end : block.within.end ≤ w.end
  behind : length block.behind ≤ length bytes

block_inside : (free : Type 0) (w : Window) (bytes rest : List ℕ) (parts : List ℕ × List ℕ) → IsOpen free w bytes → length rest ≤ length bytes → length parts.0 + length parts.1 ≡ length rest
    → IsInside free w bytes (block_of w bytes parts)
block_inside free w bytes rest parts o less sum = record {
  opened = record { short = at_place free (place w parts.1) (BadSize (place w bytes)) (omega arith) tt; inside = omega (arith, o.inside) };
  end = omega arith;
  behind = omega arith;
}

block_fares : (free : Type 0) (w : Window) (s : SizeWidth) (least : ℕ) (bytes : List ℕ) → IsOpen free w bytes → Fares (IsInside free w bytes) (Bounds free w.end) (block_at w s least bytes)
unfolding block_at
block_fares free w s least bytes o =
    then_fares _ _ _ (big_at w (size_len s) bytes) (λ size. cond (ltb size.0 least) (Err (BadSize (place w bytes))) (octets_at w size.0 size.1 >>= λ parts. Ok (block_of w bytes parts)))
    (big_fares free w (size_len s) bytes o)
    (λ size less. choice_fares _ _ (ltb size.0 least) (Err (BadSize (place w bytes))) (octets_at w size.0 size.1 >>= λ parts. Ok (block_of w bytes parts))
    (λ _. at_place free w.end (BadSize (place w bytes)) (omega arith) tt)
    (λ _. then_fares _ _ _ (octets_at w size.0 size.1) (λ parts. Ok (block_of w bytes parts)) (octets_fare free w size.0 size.1 (open_later free w bytes size.1 o less))
    (λ parts sum. block_inside free w bytes size.1 parts o less sum.1)))

count_fares : (free : Type 0) (w : Window) (s : SizeWidth) (paired : Bool) (bytes : List ℕ) → IsOpen free w bytes → Fares (λ x. length x.1 ≤ length bytes) (Bounds free w.end)
    (count_at w s paired bytes)
unfolding count_at
count_fares free w s paired bytes o =
    then_fares _ _ _ (big_at w (size_len s) bytes) (λ count. cond (paired && eqb (count.0 % 2) 1) (Err (BadCount (place w bytes))) (Ok count)) (big_fares free w (size_len s) bytes o)
    (λ count less. choice_fares _ _ (paired && eqb (count.0 % 2) 1) (Err (BadCount (place w bytes))) (Ok count) (λ _. at_place free w.end (BadCount (place w bytes)) (omega arith) tt) (λ _. less))

ended_fares : {A : Type 0} (ok : A → Type 0) (free : Type 0) (w : Window) (rest : List ℕ) (x : A) → Bounds free w.end w.short → ok x → Fares ok (Bounds free w.end) (ended w rest x)
ended_fares ok free w [] x short p = p
ended_fares ok free w (b ∷ rest) x short p = short

-- ---- nodes and keys

not_some : {A : Type 0} (x : A) → Some x ≡ None → ⊥
not_some x e = absurd cc

charge_fares : (free : Type 0) (end : ℕ) (budget : Budget) (n at : ℕ) → (free → budget ≡ None) → at ≤ end → Fares (λ left. free → left ≡ None) (Bounds free end) (charge budget n at)
charge_fares free end None n at unlimited le = λ _. refl
charge_fares free end (Some left) n at unlimited le =
    choice_fares _ _ (ltb left n) (Err (TooManyNodes at)) (Ok (Some (left - n))) (λ _. record { within = le; plain = λ f. absurd (not_some left (unlimited f)) })
    (λ _ f. absurd (not_some left (unlimited f)))

distinct_fares : {A : Type 0} (ok : A → Type 0) (free : Type 0) (end : ℕ) (budget : Budget) (seen : Trees) (key : Tree) (at : ℕ) (x : A) → (free → budget ≡ None) → at ≤ end → ok x
    → Fares ok (Bounds free end) (distinct budget seen key at x)
distinct_fares ok free end None seen key at x unlimited le p = p
distinct_fares ok free end (Some left) seen key at x unlimited le p =
    choice_fares _ _ (has_key key seen) (Err (DuplicateKey at)) (Ok x) (λ _. record { within = le; plain = λ f. absurd (not_some left (unlimited f)) }) (λ _. p)

still_none : (free : Type 0) (budget left : Budget) → (free → budget ≡ None) → free → behind budget left ≡ None
still_none free budget left unlimited f = ap (λ (b : Budget). behind b left) (unlimited f)

-- ---- readers

abbrev FairReader : {A : Type 0} → Type 0 → (Window → Budget → List ℕ → Part A) → Type 0
FairReader free one = (w : Window) (budget : Budget) (bytes : List ℕ) → IsOpen free w bytes → (free → budget ≡ None) → Fares (λ x. length x.2 ≤ length bytes) (Bounds free w.end) (one w budget bytes)

record IsFair (free : Type 0) (level : Level) : Type 0 where
  value : (due : ℕ) → FairReader free (λ w. level.value w due)
  item : (c : Constructor) → FairReader free (level.item c)

trees_fare : (free : Type 0) (one : Window → Budget → List ℕ → Part Tree) → FairReader free one → (n : ℕ) → FairReader free (trees_at one n)
unfolding trees_at
trees_fare free one fair zero w budget bytes o unlimited = omega arith
trees_fare free one fair (suc n) w budget bytes o unlimited =
    then_fares _ _ _ (one w budget bytes) _ (fair w budget bytes o unlimited)
    (λ first less. then_fares _ _ _ (trees_at one n w (behind budget first.1) first.2) _
    (trees_fare free one fair n w (behind budget first.1) first.2 (open_later free w bytes first.2 o less) (still_none free budget first.1 unlimited)) (λ others lesser. omega (arith, less, lesser)))

pairs_fare : (free : Type 0) (level : Level) → IsFair free level → (n : ℕ) (seen : Trees) → FairReader free (pairs_at level seen n)
unfolding pairs_at
pairs_fare free level fair zero seen w budget bytes o unlimited = omega arith
pairs_fare free level fair (suc n) seen w budget bytes o unlimited =
    then_fares _ _ _ (level.value w 0 budget bytes) _ (fair.value 0 w budget bytes o unlimited)
    (λ read first. then_fares (λ x. length x.2 ≤ length bytes) _ _ (distinct budget seen read.0 (place w bytes) read) _ (distinct_fares _ free w.end budget seen read.0 (place w bytes) read unlimited
    (omega arith) first)
    (λ key less. then_fares _ _ _ (level.value w 0 (behind budget key.1) key.2) _ (fair.value 0 w (behind budget key.1) key.2 (open_later free w bytes key.2 o less)
    (still_none free budget key.1 unlimited))
    (λ value second. let le : length value.2 ≤ length bytes = omega (arith, less, second) in
    then_fares _ _ _ (pairs_at level (more key.0 seen) n w (behind budget value.1) value.2) _
    (pairs_fare free level fair n (more key.0 seen) w (behind budget value.1) value.2 (open_later free w bytes value.2 o le) (still_none free budget value.1 unlimited))
    (λ others rest. omega (arith, le, rest)))))

allowed_fares : (free : Type 0) (at end : ℕ) (holds : Bool) (o : Option Constructor) → at ≤ end → Fares (λ _. Unit {0}) (Bounds free end) (allowed at holds o)
allowed_fares free at end holds None le = at_place free end (UnknownCode at) le tt
allowed_fares free at end holds (Some c) le =
    choice_fares _ _ (is_container (kind_of c) && not holds) (Err (TooDeep at)) (Ok c) (λ _. at_place free end (TooDeep at) le tt) (λ _. tt)

open_rest : (free : Type 0) (w : Window) (code : ℕ) (rest : List ℕ) → IsOpen free w (code ∷ rest) → IsOpen free w rest
open_rest free w code rest o = open_later free w (code ∷ rest) rest o (omega arith)

head_fares : (free : Type 0) (level : Level) → IsFair free level → (fuel : ℕ) → FairReader free (head_at fuel level)
unfolding head_at
head_fares free level fair zero w budget [] o unlimited = o.short
head_fares free level fair (suc fuel) w budget [] o unlimited = o.short
head_fares free level fair zero w budget (code ∷ rest) o unlimited = o.short
head_fares free level fair (suc fuel) w budget (code ∷ rest) o unlimited =
    let at = place w (code ∷ rest) in
    let later = open_rest free w code rest o in
    choice_fares _ _ (eqb code 0) _ _
    (λ _. then_fares _ _ _ (charge budget 1 at) _ (charge_fares free w.end budget 1 at unlimited (omega arith))
    (λ left uncounted. then_fares _ _ _ (level.value w 0 left rest) _ (fair.value 0 w left rest later uncounted)
    (λ descriptor less. then_fares _ _ _ (head_at fuel level w (behind budget descriptor.1) descriptor.2) _
    (head_fares free level fair fuel w (behind budget descriptor.1) descriptor.2 (open_later free w rest descriptor.2 later less) (still_none free budget descriptor.1 unlimited))
    (λ head lesser. omega (arith, less, lesser)))))
    (λ _. then_fares _ _ _ (allowed at level.holds (find_code code)) _ (allowed_fares free at w.end level.holds (find_code code) (omega arith)) (λ c _. omega arith))

-- ---- containers

-- what follows the size of a block stays inside it
inside_fares : {A : Type 0} (ok : A → Type 0) (free : Type 0) (w : Window) (bytes : List ℕ) (r : Result Block ReadFault) (f : Block → Result A ReadFault) →
    Fares (IsInside free w bytes) (Bounds free w.end) r
    → ((block : Block) → IsInside free w bytes block → Fares ok (Bounds free block.within.end) (f block)) → Fares ok (Bounds free w.end) (r >>= f)
inside_fares ok free w bytes (Ok block) f p q = wider ok free block.within.end w.end (f block) p.end (q block p)
inside_fares ok free w bytes (Err e) f p q = p

list_fares : (free : Type 0) (level : Level) → IsFair free level → (s : SizeWidth) → FairReader free (λ w. list_at level w s)
unfolding list_at
list_fares free level fair s w budget bytes o unlimited =
    inside_fares _ free w bytes (block_at w s (size_len s) bytes) _ (block_fares free w s (size_len s) bytes o)
    (λ block is. then_fares _ _ _ (count_at block.within s false block.body) _ (count_fares free block.within s false block.body is.opened)
    (λ count less. then_fares _ _ _ (charge budget count.0 (place block.within block.body)) _ (charge_fares free block.within.end budget count.0 (place block.within block.body) unlimited
    (omega arith))
    (λ left uncounted. then_fares _ _ _ (trees_at (λ within. level.value within 0) count.0 block.within left count.1) _
    (trees_fare free (λ within. level.value within 0) (fair.value 0) count.0 block.within left count.1 (open_later free block.within block.body count.1 is.opened less) uncounted)
    (λ items _. ended_fares _ free block.within items.2 _ is.opened.short is.behind))))

map_fares : (free : Type 0) (level : Level) → IsFair free level → (s : SizeWidth) → FairReader free (λ w. map_at level w s)
unfolding map_at
map_fares free level fair s w budget bytes o unlimited =
    inside_fares _ free w bytes (block_at w s (size_len s) bytes) _ (block_fares free w s (size_len s) bytes o)
    (λ block is. then_fares _ _ _ (count_at block.within s true block.body) _ (count_fares free block.within s true block.body is.opened)
    (λ count less. then_fares _ _ _ (charge budget count.0 (place block.within block.body)) _ (charge_fares free block.within.end budget count.0 (place block.within block.body) unlimited
    (omega arith))
    (λ left uncounted. then_fares _ _ _ (pairs_at level none (count.0 / 2) block.within left count.1) _
    (pairs_fare free level fair (count.0 / 2) none block.within left count.1 (open_later free block.within block.body count.1 is.opened less) uncounted)
    (λ entries _. ended_fares _ free block.within entries.2 _ is.opened.short is.behind))))

array_fares : (free : Type 0) (level : Level) → IsFair free level → (s : SizeWidth) → FairReader free (λ w. array_at level w s)
unfolding array_at
array_fares free level fair s w budget bytes o unlimited =
    inside_fares _ free w bytes (block_at w s (size_len s + 1) bytes) _ (block_fares free w s (size_len s + 1) bytes o)
    (λ block is. then_fares _ _ _ (count_at block.within s false block.body) _ (count_fares free block.within s false block.body is.opened)
    (λ count less. then_fares _ _ _ (charge budget count.0 (place block.within block.body)) _ (charge_fares free block.within.end budget count.0 (place block.within block.body) unlimited
    (omega arith))
    (λ left uncounted. let later = open_later free block.within block.body count.1 is.opened less in
    then_fares _ _ _ (head_at (length count.1) level block.within left count.1) _ (head_fares free level fair (length count.1) block.within left count.1 later uncounted)
    (λ head lesser. then_fares _ _ _ (trees_at (level.item head.0.constructor) count.0 block.within (behind budget head.1) head.2) _
    (trees_fare free (level.item head.0.constructor) (fair.item head.0.constructor) count.0 block.within (behind budget head.1) head.2 (open_later free block.within count.1 head.2 later lesser)
    (still_none free budget head.1 unlimited))
    (λ items _. ended_fares _ free block.within items.2 _ is.opened.short is.behind)))))

-- ---- every level

abbrev AreFair : Type 0 → Option Level → Type 0
AreFair free None = Unit {0}
AreFair free (Some level) = IsFair free level

uncharged_fares : {A : Type 0} (free : Type 0) (end : ℕ) (budget : Budget) (read : Read A) (tree : A → Tree) (bytes : List ℕ) → Fares (λ x. length x.1 ≤ length bytes) (Bounds free end) read
    → Fares (λ x. length x.2 ≤ length bytes) (Bounds free end) (uncharged budget read tree)
uncharged_fares free end budget (Ok x) tree bytes p = p
uncharged_fares free end budget (Err e) tree bytes p = p

item_fares : (free : Type 0) (inner : Option Level) → AreFair free inner → (c : Constructor) → FairReader free (item_by inner c)
unfolding item_by
item_fares free inner fair (Fixed k f) w budget bytes o unlimited = uncharged_fares free w.end budget (number_at w k f bytes) (Number k) bytes (number_fares free w k f bytes o)
item_fares free inner fair (Variable k s) w budget bytes o unlimited = uncharged_fares free w.end budget (sized_at w k s bytes) (Octets k) bytes (sized_fares free w k s bytes o)
item_fares free inner fair EmptyList w budget bytes o unlimited = omega arith
item_fares free None fair (ListIn s) w budget bytes o unlimited = o.short
item_fares free None fair (MapIn s) w budget bytes o unlimited = o.short
item_fares free None fair (ArrayIn s) w budget bytes o unlimited = o.short
item_fares free (Some level) fair (ListIn s) w budget bytes o unlimited = list_fares free level fair s w budget bytes o unlimited
item_fares free (Some level) fair (MapIn s) w budget bytes o unlimited = map_fares free level fair s w budget bytes o unlimited
item_fares free (Some level) fair (ArrayIn s) w budget bytes o unlimited = array_fares free level fair s w budget bytes o unlimited

described_fares : (free : Type 0) (inner : Option Level) → AreFair free inner → (at : ℕ) (w : Window) (due : ℕ) (budget : Budget) (bytes : List ℕ) → IsOpen free w bytes → (free → budget ≡ None) →
    at ≤ w.end
    → Fares (λ x. length x.2 ≤ length bytes) (Bounds free w.end) (described_at inner at w due budget bytes)
unfolding described_at
described_fares free None fair at w due budget bytes o unlimited le = at_place free w.end (TooDeep at) le tt
described_fares free (Some level) fair at w due budget bytes o unlimited le =
    then_fares _ _ _ (charge budget (due + 2) at) _ (charge_fares free w.end budget (due + 2) at unlimited le)
    (λ left uncounted. then_fares _ _ _ (level.value w 0 left bytes) _ (fair.value 0 w left bytes o uncounted)
    (λ descriptor less. then_fares _ _ _ (level.value w 0 (behind budget descriptor.1) descriptor.2) _
    (fair.value 0 w (behind budget descriptor.1) descriptor.2 (open_later free w bytes descriptor.2 o less) (still_none free budget descriptor.1 unlimited))
    (λ value lesser. omega (arith, less, lesser))))

one_more : {A : Type 0} (free : Type 0) (end code : ℕ) (rest : List ℕ) (r : Part A) → Fares (λ x. length x.2 ≤ length rest) (Bounds free end) r →
    Fares (λ x. length x.2 ≤ length (code ∷ rest)) (Bounds free end) r
one_more free end code rest (Ok x) p = omega (arith, p)
one_more free end code rest (Err e) p = p

value_fares : (free : Type 0) (inner : Option Level) → AreFair free inner → (due : ℕ) → FairReader free (λ w. value_by inner w due)
unfolding value_by
value_fares free inner fair due w budget [] o unlimited = o.short
value_fares free inner fair due w budget (code ∷ rest) o unlimited =
    let at = place w (code ∷ rest) in
    let later = open_rest free w code rest o in
    choice_fares _ _ (eqb code 0) (described_at inner at w due budget rest) _
    (λ _. one_more free w.end code rest (described_at inner at w due budget rest) (described_fares free inner fair at w due budget rest later unlimited (omega arith)))
    (λ _. then_fares _ _ _ (allowed at (is_some inner) (find_code code)) _ (allowed_fares free at w.end (is_some inner) (find_code code) (omega arith))
    (λ c _. then_fares _ _ _ (charge budget due at) _ (charge_fares free w.end budget due at unlimited (omega arith))
    (λ left uncounted. one_more free w.end code rest (item_by inner c w left rest) (item_fares free inner fair c w left rest later uncounted))))

inside_fair : (free : Type 0) (depth : ℕ) → AreFair free (inside depth)
unfolding inside
inside_fair free zero = tt
inside_fair free (suc depth) = record { value = value_fares free (inside depth) (inside_fair free depth); item = item_fares free (inside depth) (inside_fair free depth) }

outermost_open : (free : Type 0) (bytes : List ℕ) → IsOpen free (outermost bytes) bytes
outermost_open free bytes = record { short = at_place free (length bytes) (Truncated (length bytes)) (omega arith) tt; inside = omega arith }

-- ---- calls

-- a fault stands within the bytes
pub decode_placed : {V : Type 0} (view : V → Tree × List ℕ) (depth nodes : ℕ) (bytes : List ℕ) (r : Result V ReadFault) → Gives view r (decoded depth nodes bytes) →
    IfErr r (λ e. place_of e ≤ length bytes)
decode_placed view depth nodes bytes (Ok x) is = tt
decode_placed view depth nodes bytes (Err e) (inl memory) = subst (λ (d : ReadFault). place_of d ≤ length bytes) (sym memory) (omega arith)
decode_placed view depth nodes bytes (Err e) (inr is) =
    let read = value_fares ⊥ (inside depth) (inside_fair ⊥ depth) 1 (outermost bytes) (Some nodes) bytes (outermost_open ⊥ bytes) (λ f. absurd f) in
    let all : Fares (λ _. Unit {0}) (Bounds ⊥ (length bytes)) (decoded depth nodes bytes) = then_fares _ _ _ (value_of depth (Some nodes) bytes) (λ x. Ok (x.0, x.2)) read (λ x _. tt) in
    let fault : Bounds ⊥ (length bytes) e = subst (λ (d : Read Tree). Fares (λ _. Unit {0}) (Bounds ⊥ (length bytes)) d) is all in
    fault.within

unread : {A : Type 0} (read : Read A) (e : ReadFault) → rest_of read ≡ Err e → read ≡ Err e
unread (Ok x) e is = absurd cc
unread (Err d) e is = ap (λ (f : ReadFault). Err f) (same d e is)
  where
    same : (a b : ReadFault) → ◌≡◌ {A = Result (List ℕ) ReadFault} (Err a) (Err b) → a ≡ b
    same a b h = cc

-- so does one where the value is of no interest
pub check_placed : {V : Type 0} (view : V → List ℕ) (depth nodes : ℕ) (bytes : List ℕ) (r : Result V ReadFault) → Gives view r (rest_of (decoded depth nodes bytes)) →
    IfErr r (λ e. place_of e ≤ length bytes)
check_placed view depth nodes bytes (Ok x) is = tt
check_placed view depth nodes bytes (Err e) (inl memory) = subst (λ (d : ReadFault). place_of d ≤ length bytes) (sym memory) (omega arith)
check_placed view depth nodes bytes (Err e) (inr is) = decode_placed {V = Tree × List ℕ} (λ x. x) depth nodes bytes (Err e) (inr (unread (decoded depth nodes bytes) e is))

abbrev Uncounted : Type 0
Uncounted = Unit {0}

skip_bounds : {V : Type 0} (view : V → List ℕ) (depth : ℕ) (bytes : List ℕ) (r : Result V ReadFault) → Is view r (after (value_of depth None bytes)) → IfErr r (Bounds Uncounted (length bytes))
skip_bounds view depth bytes (Ok x) is = tt
skip_bounds view depth bytes (Err e) is =
    let read = value_fares Uncounted (inside depth) (inside_fair Uncounted depth) 1 (outermost bytes) None bytes (outermost_open Uncounted bytes) (λ _. refl) in
    let all : Fares (λ _. Unit {0}) (Bounds Uncounted (length bytes)) (after (value_of depth None bytes)) = then_fares _ _ _ (value_of depth None bytes) (λ x. Ok x.2) read (λ x _. tt) in
    subst (λ (d : Result (List ℕ) ReadFault). Fares (λ _. Unit {0}) (Bounds Uncounted (length bytes)) d) is all

-- so does one of a skip
pub skip_placed : {V : Type 0} (view : V → List ℕ) (depth : ℕ) (bytes : List ℕ) (r : Result V ReadFault) → Is view r (after (value_of depth None bytes)) → IfErr r (λ e. place_of e ≤ length bytes)
skip_placed view depth bytes (Ok x) is = tt
skip_placed view depth bytes (Err e) is = (skip_bounds view depth bytes (Err e) is).within

-- which has none of keys, nodes or memory
pub skip_plain : {V : Type 0} (view : V → List ℕ) (depth : ℕ) (bytes : List ℕ) (r : Result V ReadFault) → Is view r (after (value_of depth None bytes)) → IfErr r (λ e. IsPlain e)
skip_plain view depth bytes (Ok x) is = tt
skip_plain view depth bytes (Err e) is = (skip_bounds view depth bytes (Err e) is).plain tt
