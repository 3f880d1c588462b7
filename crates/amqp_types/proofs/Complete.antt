-- What is spelled is read, whatever follows.
use Rattle.std.proofs.Common.{◌≡◌, ℕ, ◌^◌, ◌%◌, ◌<◌, false, ltb, List, ◌∷◌, ◌++◌, length, None, Ok, refl, ap, subst, ◌∙◌, append_assoc, arith}
use Rattle.std.specs.Str.{IsAscii}
use Rattle.std.specs.List.{position, position_or_len}
use Rattle.std.proofs.lemmas.Bool.{le-ltb, lt-ltb, lt-leb}
use Rattle.std.proofs.lemmas.List.{take_at, drop_at, length-append}
use Rattle.std.proofs.lemmas.List.Sums.{position_or_len_is}
use Rattle.std.proofs.lemmas.Str.{is_utf8-from_IsUtf8}
use Rattle.byteorder.specs.Endian.{big_bytes}
use Rattle.byteorder.specs.Numbers.{big_number-reads_back, length-bytes_high_first}
use Rattle.amqp_types.specs.declared.kind.Kind.{Kind}
use Rattle.amqp_types.specs.declared.kind.Kind.TheVariants as kind
use Rattle.amqp_types.specs.declared.code.Form.{Form}
use Rattle.amqp_types.specs.declared.code.Form.TheVariants as form
use Rattle.amqp_types.specs.declared.code.SizeWidth.{SizeWidth}
use Rattle.amqp_types.specs.declared.window.Window.{Window}
use Rattle.amqp_types.specs.Kinds.{width}
use Rattle.amqp_types.specs.Spelling.{size_len, SpellsNumber, SpellsOctets, IsNumberOf, AreOctetsOf}
use Rattle.amqp_types.specs.InHand.{place}
use Rattle.amqp_types.specs.Reading.{number_fault, octets_fault, octets_at, big_at, form_at, number_at, sized_at, is_beyond_ascii}

-- bytes that are spelled are read so
pub octets_again : (w : Window) (n : ℕ) (octets rest : List ℕ) → length octets ≡ n → octets_at w n (octets ++ rest) ≡ Ok (octets, rest)
octets_again w n octets rest len =
    let long : ltb (length (octets ++ rest)) n ≡ false = le-ltb _ _ (omega (arith, length-append octets rest)) in
    rw (long, take_at octets rest n len, drop_at octets rest n len) refl

-- so is a number of so many bytes
pub big_again : (w : Window) (n x : ℕ) (rest : List ℕ) → x < 256 ^ n → big_at w n (big_bytes n x ++ rest) ≡ Ok (x, rest)
big_again w n x rest lt =
    let len = length-bytes_high_first n x in
    let long : ltb (length (big_bytes n x ++ rest)) n ≡ false = le-ltb _ _ (omega (arith, length-append (big_bytes n x) rest)) in
    rw (long, big_number-reads_back n x rest lt, drop_at (big_bytes n x) rest n len) refl

byte_again : (w : Window) (b : ℕ) (rest : List ℕ) → b < 256 → big_at w 1 (b ∷ rest) ≡ Ok (b, rest)
byte_again w b rest lt =
    let one : b % 256 ≡ b = omega arith in
    subst (λ (x : ℕ). big_at w 1 (x ∷ rest) ≡ Ok (b, rest)) one (big_again w 1 b rest lt)

-- one in any form
pub form_again : (w : Window) (f : Form) (n x : ℕ) (text rest : List ℕ) → SpellsNumber f n x text → form_at w f n (text ++ rest) ≡ Ok (x, rest)
unfolding form_at
form_again w form.Zero n x text rest h = rw (h.1, h.0) refl
form_again w form.One n x text rest h = rw (h.1, h.0) refl
form_again w form.OneByte n x text rest h = rw h.1 (byte_again w x rest h.0)
form_again w form.OneSigned n x text rest h = rw (h.3, byte_again w h.0 rest h.1, h.2) refl
form_again w form.Full n x text rest h = rw h.1 (big_again w n x rest h.0)

no_number_fault : (k : Kind) (at n : ℕ) → IsNumberOf k n → number_fault k at n ≡ None
no_number_fault kind.Boolean at n h = rw (lt-ltb n 2 h) refl
no_number_fault kind.Char at n h = rw h refl
no_number_fault _ at n h = refl

-- a number of a kind
pub number_again : (w : Window) (k : Kind) (f : Form) (n : ℕ) (text rest : List ℕ) → SpellsNumber f (width k) n text → IsNumberOf k n → number_at w k f (text ++ rest) ≡ Ok (n, rest)
unfolding number_at
number_again w k f n text rest h of_kind = rw (form_again w f (width k) n text rest h, no_number_fault k (place w (text ++ rest)) n of_kind) refl

-- no byte of ASCII is beyond it
pub all_ascii : (octets : List ℕ) → IsAscii octets → position is_beyond_ascii octets ≡ None
all_ascii octets h =
    let n : position_or_len is_beyond_ascii octets ≡ length octets = position_or_len_is is_beyond_ascii octets (length octets) 0 (omega arith) (λ k lt. lt-leb _ _ (h k))
    (λ lt. absurd (omega arith)) in
    rw (n, le-ltb (length octets) (length octets) (omega arith)) refl

no_octets_fault : (k : Kind) (at : ℕ) (octets : List ℕ) → AreOctetsOf k octets → octets_fault k at octets ≡ None
no_octets_fault kind.String at octets h = rw (is_utf8-from_IsUtf8 octets h) refl
no_octets_fault kind.Symbol at octets h = rw (all_ascii octets h) refl
no_octets_fault _ at octets h = refl

-- and bytes behind their size
pub sized_again : (w : Window) (k : Kind) (s : SizeWidth) (octets text rest : List ℕ) → SpellsOctets s octets text → AreOctetsOf k octets → sized_at w k s (text ++ rest) ≡ Ok (octets, rest)
unfolding sized_at
sized_again w k s octets text rest h of_kind =
    let regrouped : text ++ rest ≡ big_bytes (size_len s) (length octets) ++ (octets ++ rest) = ap (λ (t : List ℕ). t ++ rest) h.1
    ∙ append_assoc (big_bytes (size_len s) (length octets)) octets rest in
    rw (regrouped, big_again w (size_len s) (length octets) (octets ++ rest) h.0, octets_again w (length octets) octets rest refl, no_octets_fault k (place w (octets ++ rest)) octets of_kind) refl
