-- What is read is spelled by the bytes in front of the rest.
use Rattle.std.proofs.Common.{◌≡◌, ℕ, ◌^◌, ◌%◌, ◌<◌, ◌≤◌, Bool, true, false, cond, ltb, List, [], ◌∷◌, ◌++◌, length, take, drop, Option, Some, None, Result, Ok, Err, refl, sym, ap, subst, ◌∙◌}
use Rattle.std.proofs.Common.{append_assoc, arith, inl, inr}
use Rattle.std.specs.Str.{IsAscii}
use Rattle.std.proofs.lemmas.Bool.{ltb-false, ltb-true, leb-false, cases_lt}
use Rattle.std.specs.Option.{option_map}
use Rattle.std.specs.List.{position, position_or_len}
use Rattle.std.proofs.lemmas.List.Sums.{fails_before_first}
use Rattle.std.proofs.lemmas.List.{take-append-drop, length-take, get_or_past}
use Rattle.std.proofs.lemmas.Str.{IsUtf8-from_is_utf8}
use Rattle.byteorder.specs.Endian.{big_bytes, big_number}
use Rattle.byteorder.specs.Numbers.{big_from-lt}
use Rattle.amqp_types.specs.declared.kind.Kind.{Kind}
use Rattle.amqp_types.specs.declared.kind.Kind.TheVariants as kind
use Rattle.amqp_types.specs.declared.code.Form.{Form}
use Rattle.amqp_types.specs.declared.code.Form.TheVariants as form
use Rattle.amqp_types.specs.declared.code.SizeWidth.{SizeWidth}
use Rattle.amqp_types.specs.declared.fault.ReadFault.{ReadFault}
use Rattle.amqp_types.specs.declared.fault.ReadFault.TheVariants.{BadText, BadChar, BadBoolean}
use Rattle.amqp_types.specs.declared.window.Window.{Window}
use Rattle.amqp_types.specs.Kinds.{width}
use Rattle.amqp_types.specs.Spelling.{sign_extended, size_len, SpellsNumber, SpellsOctets, IsNumberOf, AreOctetsOf}
use Rattle.amqp_types.specs.InHand.{place}
use Rattle.amqp_types.specs.Reading.{◌>>=◌, unless, number_fault, octets_fault, octets_at, big_at, form_at, number_at, sized_at, is_beyond_ascii}
use Rattle.amqp_types.proofs.Octets.{IsBytes, IsBytes-drop, IsBytes-take, big_bytes-big_number}

-- the value of a step that did not fail
pub bind_ok : {A B : Type 0} (r : Result A ReadFault) (f : A → Result B ReadFault) (y : B) → (r >>= f) ≡ Ok y → (x : A) × (r ≡ Ok x) × (f x ≡ Ok y)
bind_ok (Ok x) f y e = (x, refl, e)
bind_ok (Err d) f y e = absurd cc

-- a test that did not fail
pub guard_ok : {A : Type 0} (b : Bool) (d : ReadFault) (x y : A) → cond b (Err d) (Ok x) ≡ Ok y → (b ≡ false) × (x ≡ y)
guard_ok true d x y e = absurd cc
guard_ok false d x y e = (refl, cc)

-- a check that passes found no fault
pub unless_ok : {A : Type 0} (fault : Option ReadFault) (x y : A) → unless fault x ≡ Ok y → (fault ≡ None) × (x ≡ y)
unless_ok None x y e = (refl, cc)
unless_ok (Some d) x y e = absurd cc

abbrev done : {A : Type 0} → A → Result A ReadFault
done x = Ok x

-- what two equal answers hold is the same
pub ok_is : {A : Type 0} (x y : A) → done x ≡ done y → x ≡ y
ok_is x y e = cc

-- what a reader took from the front
pub record Takes (bytes text rest : List ℕ) : Type 0 where
  pub parts : bytes ≡ text ++ rest
  pub rest_fits : IsBytes rest

-- bytes that are taken in turn are taken together
pub Takes-then : (a x b y c : List ℕ) → Takes a x b → Takes b y c → Takes a (x ++ y) c
Takes-then a x b y c p q = record { parts = p.parts ∙ ap (λ (t : List ℕ). x ++ t) q.parts ∙ sym (append_assoc x y c); rest_fits = q.rest_fits }

-- bytes that are read stand there
pub octets_sound : (w : Window) (n : ℕ) (bytes : List ℕ) (x : List ℕ × List ℕ) → IsBytes bytes → octets_at w n bytes ≡ Ok x → Takes bytes x.0 x.1 × (length x.0 ≡ n) × IsBytes x.0
octets_sound w n bytes x fits e =
    let g = guard_ok (ltb (length bytes) n) w.short (take n bytes, drop n bytes) x e in
    let long : n ≤ length bytes = ltb-false _ _ g.0 in
    subst (λ (p : List ℕ × List ℕ). Takes bytes p.0 p.1 × (length p.0 ≡ n) × IsBytes p.0) g.1
    (record { parts = sym (take-append-drop n bytes); rest_fits = IsBytes-drop n bytes fits }, omega (arith, length-take n bytes), IsBytes-take n bytes fits)

-- so does a number of so many bytes
pub big_sound : (w : Window) (n : ℕ) (bytes : List ℕ) (x : ℕ × List ℕ) → IsBytes bytes → big_at w n bytes ≡ Ok x → Takes bytes (big_bytes n x.0) x.1 × (x.0 < 256 ^ n)
big_sound w n bytes x fits e =
    let g = guard_ok (ltb (length bytes) n) w.short (big_number n bytes, drop n bytes) x e in
    let long : n ≤ length bytes = ltb-false _ _ g.0 in
    subst (λ (p : ℕ × List ℕ). Takes bytes (big_bytes n p.0) p.1 × (p.0 < 256 ^ n)) g.1
    (record { parts = rw (big_bytes-big_number n bytes fits long) (sym (take-append-drop n bytes)); rest_fits = IsBytes-drop n bytes fits }, big_from-lt 0 n bytes fits)

-- one byte
byte_sound : (w : Window) (bytes : List ℕ) (x : ℕ × List ℕ) → IsBytes bytes → big_at w 1 bytes ≡ Ok x → Takes bytes (x.0 ∷ []) x.1 × (x.0 < 256)
byte_sound w bytes x fits e =
    let t = big_sound w 1 bytes x fits e in
    let one : x.0 % 256 ≡ x.0 = omega (arith, t.1) in
    (subst (λ (b : ℕ). Takes bytes (b ∷ []) x.1) one t.0, t.1)

-- one in any form
pub form_sound : (w : Window) (f : Form) (n : ℕ) (bytes : List ℕ) (x : ℕ × List ℕ) → IsBytes bytes → form_at w f n bytes ≡ Ok x → (text : List ℕ) × Takes bytes text x.1 × SpellsNumber f n x.0 text
unfolding form_at
form_sound w form.Zero n bytes x fits e =
    subst (λ (p : ℕ × List ℕ). (text : List ℕ) × Takes bytes text p.1 × SpellsNumber form.Zero n p.0 text) (ok_is (0, bytes) x e) ([], record { parts = refl; rest_fits = fits }, (refl, refl))
form_sound w form.One n bytes x fits e =
    subst (λ (p : ℕ × List ℕ). (text : List ℕ) × Takes bytes text p.1 × SpellsNumber form.One n p.0 text) (ok_is (1, bytes) x e) ([], record { parts = refl; rest_fits = fits }, (refl, refl))
form_sound w form.OneByte n bytes x fits e = let t = byte_sound w bytes x fits e in (x.0 ∷ [], t.0, (t.1, refl))
form_sound w form.OneSigned n bytes x fits e =
    let b = bind_ok (big_at w 1 bytes) (λ byte. Ok (sign_extended n byte.0, byte.1)) x e in
    let t = byte_sound w bytes b.0 fits b.1 in
    subst (λ (p : ℕ × List ℕ). (text : List ℕ) × Takes bytes text p.1 × SpellsNumber form.OneSigned n p.0 text) (ok_is (sign_extended n b.0.0, b.0.1) x b.2)
    (b.0.0 ∷ [], t.0, (b.0.0, t.1, refl, refl))
form_sound w form.Full n bytes x fits e = let t = big_sound w n bytes x fits e in (big_bytes n x.0, t.0, (t.1, refl))

-- a number in which no fault is found is of its kind
boolean_sound : (b : Bool) (at n : ℕ) → cond b None (Some (BadBoolean at)) ≡ None → b ≡ true
boolean_sound true at n e = refl
boolean_sound false at n e = absurd cc

char_sound : (b : Bool) (at : ℕ) → cond b None (Some (BadChar at)) ≡ None → b ≡ true
char_sound true at e = refl
char_sound false at e = absurd cc

text_sound : (b : Bool) (at : ℕ) → cond b None (Some (BadText at)) ≡ None → b ≡ true
text_sound true at e = refl
text_sound false at e = absurd cc

number_of_kind : (k : Kind) (at n : ℕ) → number_fault k at n ≡ None → IsNumberOf k n
number_of_kind kind.Boolean at n e = ltb-true n 2 (boolean_sound (ltb n 2) at n e)
number_of_kind kind.Char at n e = char_sound _ at e
number_of_kind _ at n e = tt

-- a number of a kind
pub number_sound : (w : Window) (k : Kind) (f : Form) (bytes : List ℕ) (x : ℕ × List ℕ) → IsBytes bytes → number_at w k f bytes ≡ Ok x
    → (text : List ℕ) × Takes bytes text x.1 × SpellsNumber f (width k) x.0 text × IsNumberOf k x.0
unfolding number_at
number_sound w k f bytes x fits e =
    let b = bind_ok (form_at w f (width k) bytes) (λ n. unless (number_fault k (place w bytes) n.0) n) x e in
    let u = unless_ok (number_fault k (place w bytes) b.0.0) b.0 x b.2 in
    let t = form_sound w f (width k) bytes b.0 fits b.1 in
    subst (λ (p : ℕ × List ℕ). (text : List ℕ) × Takes bytes text p.1 × SpellsNumber f (width k) p.0 text × IsNumberOf k p.0) u.1
    (t.0, t.1, t.2, number_of_kind k (place w bytes) b.0.0 u.0)

unmapped : {A B : Type 0} (f : A → B) (o : Option A) → option_map f o ≡ None → o ≡ None
unmapped f None e = refl
unmapped f (Some x) e = absurd cc

not_chosen : (b : Bool) (n : ℕ) → cond b (Some n) None ≡ None → b ≡ false
not_chosen true n e = absurd cc
not_chosen false n e = refl

-- bytes with no byte beyond ASCII
pub IsAscii-from_position : (octets : List ℕ) → position is_beyond_ascii octets ≡ None → IsAscii octets
IsAscii-from_position octets e i =
    let all : length octets ≤ position_or_len is_beyond_ascii octets = ltb-false _ _ (not_chosen _ (position_or_len is_beyond_ascii octets) e) in
    elim (cases_lt i (length octets)) [
      | inl lt ↦ leb-false _ _ (fails_before_first is_beyond_ascii octets i 0 (omega arith))
      | inr le ↦ rw (get_or_past octets i 0 le) (omega arith)
    ]

octets_of_kind : (k : Kind) (at : ℕ) (octets : List ℕ) → octets_fault k at octets ≡ None → AreOctetsOf k octets
octets_of_kind kind.String at octets e = IsUtf8-from_is_utf8 octets (text_sound _ _ e)
octets_of_kind kind.Symbol at octets e = IsAscii-from_position octets (unmapped _ _ e)
octets_of_kind _ at octets e = tt

-- and bytes behind their size
pub sized_sound : (w : Window) (k : Kind) (s : SizeWidth) (bytes : List ℕ) (x : List ℕ × List ℕ) → IsBytes bytes → sized_at w k s bytes ≡ Ok x
    → (text : List ℕ) × Takes bytes text x.1 × SpellsOctets s x.0 text × AreOctetsOf k x.0
unfolding sized_at
sized_sound w k s bytes x fits e =
    let a = bind_ok (big_at w (size_len s) bytes) (λ n. octets_at w n.0 n.1 >>= λ octets. unless (octets_fault k (place w n.1) octets.0) octets) x e in
    let b = bind_ok (octets_at w a.0.0 a.0.1) (λ octets. unless (octets_fault k (place w a.0.1) octets.0) octets) x a.2 in
    let u = unless_ok (octets_fault k (place w a.0.1) b.0.0) b.0 x b.2 in
    let t0 = big_sound w (size_len s) bytes a.0 fits a.1 in
    let t1 = octets_sound w a.0.0 a.0.1 b.0 t0.0.rest_fits b.1 in
    let both = Takes-then bytes (big_bytes (size_len s) a.0.0) a.0.1 b.0.0 b.0.1 t0.0 t1.0 in
    subst (λ (p : List ℕ × List ℕ). (text : List ℕ) × Takes bytes text p.1 × SpellsOctets s p.0 text × AreOctetsOf k p.0) u.1
    (big_bytes (size_len s) a.0.0 ++ b.0.0, both, (omega (arith, t0.1, t1.1), ap (λ (n : ℕ). big_bytes (size_len s) n ++ b.0.0) (sym t1.1)), octets_of_kind k (place w a.0.1) b.0.0 u.0)
