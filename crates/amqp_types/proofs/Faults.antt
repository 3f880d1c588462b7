-- What is wrong where a chain of steps fails, and with numbers and bytes that are none of their kind.
use Rattle.std.proofs.Common.{◌≡◌, ℕ, zero, suc, ◌+◌, ◌<◌, ◌≤◌, ◌⊎◌, Bool, true, false, cond, ltb, List, length, get_or, take, drop, Option, Some, None, Result, Ok, Err, refl, sym, subst, arith, inl}
use Rattle.std.proofs.Common.{inr}
use Rattle.std.specs.Str.{IsUtf8, IsAscii, is_utf8, IsValidUpTo}
use Rattle.std.specs.Str.Lossy.{utf8_valid_len, valid_len_up_to}
use Rattle.std.proofs.lemmas.Str.{IsUtf8-nil, IsUtf8-from_is_utf8, is_utf8-from_IsUtf8}
use Rattle.std.specs.Option.{option_map}
use Rattle.std.specs.List.{position, position_or_len}
use lib.Utf8.{scalar}
use Rattle.std.proofs.lemmas.Bool.{ltb-false, ltb-true, leb-true, leb-false, cases_lt, both_ways}
use Rattle.std.proofs.lemmas.List.{get_or-take, get_or_past, length-take, take_all}
use Rattle.std.proofs.lemmas.List.Sums.{fails_before_first, passes_at_first}
use Rattle.byteorder.specs.Endian.{big_number}
use Rattle.amqp_types.specs.declared.kind.Kind.{Kind}
use Rattle.amqp_types.specs.declared.kind.Kind.TheVariants as kind
use Rattle.amqp_types.specs.declared.code.Form.{Form}
use Rattle.amqp_types.specs.declared.code.Form.TheVariants as form
use Rattle.amqp_types.specs.declared.fault.ReadFault.{ReadFault}
use Rattle.amqp_types.specs.declared.fault.ReadFault.TheVariants.{BadText, BadSymbol, BadChar, BadBoolean}
use Rattle.amqp_types.specs.declared.window.Window.{Window}
use Rattle.amqp_types.specs.Spelling.{sign_extended, form_len}
use Rattle.amqp_types.specs.Reading.{◌>>=◌, unless, number_fault, octets_fault, octets_at, big_at, form_at, is_beyond_ascii}
use Rattle.amqp_types.specs.Misreading.{NumberFault, OctetsFault}

-- the fault of a chain of two steps is the first's, or the second's
pub bind_err : {A B : Type 0} (r : Result A ReadFault) (f : A → Result B ReadFault) (e : ReadFault) → (r >>= f) ≡ Err e → (r ≡ Err e) ⊎ ((x : A) × (r ≡ Ok x) × (f x ≡ Err e))
bind_err (Ok x) f e h = inr (x, refl, h)
bind_err (Err d) f e h = inl cc

-- a fault of a step is the one of what it begins with
pub then_ok_err : {A B : Type 0} (r : Result A ReadFault) (f : A → B) (e : ReadFault) → (r >>= λ x. Ok (f x)) ≡ Err e → r ≡ Err e
then_ok_err (Ok x) f e h = absurd cc
then_ok_err (Err d) f e h = cc

-- a fault behind a test is that of the test
pub guard_err : {A : Type 0} (b : Bool) (d e : ReadFault) (x : A) → cond b (Err d) (Ok x) ≡ Err e → (b ≡ true) × (d ≡ e)
guard_err true d e x h = (refl, cc)
guard_err false d e x h = absurd cc

-- so is one of a check
pub unless_err : {A : Type 0} (fault : Option ReadFault) (x : A) (e : ReadFault) → unless fault x ≡ Err e → fault ≡ Some e
unless_err None x e h = absurd cc
unless_err (Some d) x e h = cc

-- ---- the parts end too soon

-- a number fails only where bytes are lacking
pub big_short : (w : Window) (n : ℕ) (bytes : List ℕ) (e : ReadFault) → big_at w n bytes ≡ Err e → (length bytes < n) × (w.short ≡ e)
big_short w n bytes e h = let g = guard_err (ltb (length bytes) n) w.short e (big_number n bytes, drop n bytes) h in (ltb-true _ _ g.0, g.1)

-- so do bytes
pub octets_short : (w : Window) (n : ℕ) (bytes : List ℕ) (e : ReadFault) → octets_at w n bytes ≡ Err e → (length bytes < n) × (w.short ≡ e)
octets_short w n bytes e h = let g = guard_err (ltb (length bytes) n) w.short e (take n bytes, drop n bytes) h in (ltb-true _ _ g.0, g.1)

-- and a number in any form
pub form_short : (w : Window) (f : Form) (n : ℕ) (bytes : List ℕ) (e : ReadFault) → form_at w f n bytes ≡ Err e → (length bytes < form_len f n) × (w.short ≡ e)
unfolding form_at
form_short w form.Zero n bytes e h = absurd cc
form_short w form.One n bytes e h = absurd cc
form_short w form.OneByte n bytes e h = big_short w 1 bytes e h
form_short w form.OneSigned n bytes e h = big_short w 1 bytes e (then_ok_err (big_at w 1 bytes) (λ byte. (sign_extended n byte.0, byte.1)) e h)
form_short w form.Full n bytes e h = big_short w n bytes e h

-- ---- numbers and bytes that are none of their kind

boolean_fault : (b : Bool) (n at : ℕ) (e : ReadFault) → b ≡ ltb n 2 → cond b None (Some (BadBoolean at)) ≡ Some e → (2 ≤ n) × (e ≡ BadBoolean at)
boolean_fault true n at e is h = absurd cc
boolean_fault false n at e is h = (ltb-false n 2 (sym is), cc)

char_fault : (b : Bool) (at : ℕ) (e : ReadFault) → cond b None (Some (BadChar at)) ≡ Some e → (b ≡ false) × (e ≡ BadChar at)
char_fault true at e h = absurd cc
char_fault false at e h = (refl, cc)

-- the fault of a number is one that it has
pub fault_of_number : (k : Kind) (at n : ℕ) (e : ReadFault) → number_fault k at n ≡ Some e → NumberFault k at n e
fault_of_number kind.Boolean at n e h = boolean_fault (ltb n 2) n at e refl h
fault_of_number kind.Char at n e h = let c = char_fault (scalar n) at e h in (λ is. both_ways (scalar n) c.0 is, c.1)
fault_of_number _ at n e h = absurd cc

text_fault_err : (b : Bool) (at : ℕ) (e : ReadFault) → cond b None (Some (BadText at)) ≡ Some e → (b ≡ false) × (e ≡ BadText at)
text_fault_err true at e h = absurd cc
text_fault_err false at e h = (refl, cc)

-- the longest valid front, sought from n bytes downward
record Longest (octets : List ℕ) (n k : ℕ) : Type 0 where
  within : k ≤ n
  front : IsUtf8 (take k octets)
  longest : (m : ℕ) → k < m → m ≤ n → IsUtf8 (take m octets) → ⊥

longest_up_to : (octets : List ℕ) (n : ℕ) → Longest octets n (valid_len_up_to octets n)
longest_up_to octets zero = record { within = omega arith; front = IsUtf8-nil; longest = λ m lt le _. absurd (omega arith) }
longest_up_to octets (suc n) =
    let P : Bool → Type 0 = λ b. is_utf8 (take (suc n) octets) ≡ b → Longest octets (suc n) (cond b (suc n) (valid_len_up_to octets n)) in
    elim (is_utf8 (take (suc n) octets)) as P [
      | true ↦ λ is. record { within = omega arith; front = IsUtf8-from_is_utf8 _ is; longest = λ m lt le _. absurd (omega arith) }
      | false ↦ λ isnt. let before = longest_up_to octets n in record {
        within = omega (arith, before.within);
        front = before.front;
        longest = λ m lt le valid. elim (cases_lt m (suc n)) [
          | inl below ↦ before.longest m lt (omega arith) valid
          | inr above ↦ let same : m ≡ suc n = omega arith in
              both_ways _ isnt (is_utf8-from_IsUtf8 (take (suc n) octets) (subst (λ (i : ℕ). IsUtf8 (take i octets)) same valid))
        ];
      }
    ] refl

-- bytes that are no text have a longest front that is
valid_up_to : (octets : List ℕ) → is_utf8 octets ≡ false → IsValidUpTo octets (utf8_valid_len octets)
unfolding utf8_valid_len
valid_up_to octets isnt =
    let found = longest_up_to octets (length octets) in
    let whole : IsUtf8 (take (length octets) octets) → ⊥ = λ valid. both_ways _ isnt (is_utf8-from_IsUtf8 octets (rw (take_all (length octets) octets (omega arith)) at valid)) in
    let k = valid_len_up_to octets (length octets) in
    let short : k < length octets = elim (cases_lt k (length octets)) [
      | inl lt ↦ lt
      | inr le ↦ let same : k ≡ length octets = omega (arith, found.within) in absurd (whole (subst (λ (i : ℕ). IsUtf8 (take i octets)) same found.front))
    ] in
    record {
      short = short;
      front = found.front;
      longest = λ m lt valid. elim (cases_lt m (length octets)) [
        | inl below ↦ found.longest m lt (omega arith) valid
        | inr above ↦ both_ways _ isnt (is_utf8-from_IsUtf8 octets (rw (take_all m octets above) at valid))
      ];
    }

mapped_some : {A B : Type 0} (f : A → B) (o : Option A) (y : B) → option_map f o ≡ Some y → (x : A) × (o ≡ Some x) × (f x ≡ y)
mapped_some f None y e = absurd cc
mapped_some f (Some x) y e = (x, refl, cc)

found_at : (b : Bool) (n m : ℕ) → cond b (Some n) None ≡ Some m → (b ≡ true) × (n ≡ m)
found_at true n m e = (refl, cc)
found_at false n m e = absurd cc

first_beyond : (octets : List ℕ) (n : ℕ) → position is_beyond_ascii octets ≡ Some n → (n < length octets) × IsAscii (take n octets) × (128 ≤ get_or octets n 0)
first_beyond octets n e =
    let p = position_or_len is_beyond_ascii octets in
    let f = found_at (ltb p (length octets)) p n e in
    let lt : p < length octets = ltb-true _ _ f.0 in
    let at : 128 ≤ get_or octets p 0 = leb-true _ _ (passes_at_first is_beyond_ascii octets 0 lt) in
    let before : IsAscii (take p octets) = λ i. elim (cases_lt i p) [
      | inl below ↦ rw (get_or-take p octets i 0 below) (leb-false _ _ (fails_before_first is_beyond_ascii octets i 0 below))
      | inr above ↦ rw (get_or_past (take p octets) i 0 (omega (arith, length-take p octets))) (omega arith)
    ] in
    subst (λ (k : ℕ). (k < length octets) × IsAscii (take k octets) × (128 ≤ get_or octets k 0)) f.1 (lt, before, at)

-- so is that of bytes
pub fault_of_octets : (k : Kind) (at : ℕ) (octets : List ℕ) (e : ReadFault) → octets_fault k at octets ≡ Some e → OctetsFault k at octets e
fault_of_octets kind.String at octets e h =
    let t = text_fault_err (is_utf8 octets) (at + utf8_valid_len octets) e h in
    (utf8_valid_len octets, valid_up_to octets t.0, t.1)
fault_of_octets kind.Symbol at octets e h =
    let m = mapped_some (λ n. BadSymbol (at + n)) (position is_beyond_ascii octets) e h in
    let f = first_beyond octets m.0 m.1 in
    (m.0, f.0, f.1, f.2, sym m.2)
fault_of_octets _ at octets e h = absurd cc
