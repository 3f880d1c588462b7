-- Values with no data, and unsigned numbers of one byte, are read by their code alone.
use Rattle.std.proofs.Common.{◌≡◌, ℕ, ◌-◌, ◌==◌, false, List, ◌∷◌, length, Option, Some, None, Ok, refl, arith}
use Rattle.std.proofs.lemmas.Bool.{le-ltb}
use Rattle.byteorder.specs.Endian.{big_number}
use Rattle.amqp_types.specs.declared.kind.Kind.{Kind}
use Rattle.amqp_types.specs.declared.kind.Kind.TheVariants as kind
use Rattle.amqp_types.specs.declared.code.Form.{Form}
use Rattle.amqp_types.specs.declared.code.Form.TheVariants as form
use Rattle.amqp_types.specs.declared.code.Constructor.TheVariants.{Fixed}
use Rattle.amqp_types.specs.declared.window.Window.{Window}
use Rattle.amqp_types.specs.Codes.{find_code}
use Rattle.amqp_types.specs.Kinds.{is_container, is_partial}
use Rattle.amqp_types.specs.Trees.{Tree, Number}
use Rattle.amqp_types.specs.InHand.{place}
use Rattle.amqp_types.specs.Reading.{Level, number_fault, big_at, form_at, number_at, item_by, value_by}
use Rattle.amqp_types.proofs.Skips.{no_fault}

-- the value of a fixed-width code, by what its number is read as
pub small : (inner : Option Level) (w : Window) (left code own : ℕ) (k : Kind) (f : Form) (n : ℕ) (t : Tree) (bytes rest : List ℕ)
    → code ≡ own → (own == 0) ≡ false → find_code own ≡ Some (Fixed k f) → is_container k ≡ false → t ≡ Number k n → number_at w k f bytes ≡ Ok (n, rest)
    → value_by inner w 0 (Some left) (code ∷ bytes) ≡ Ok (t, Some left, rest)
unfolding value_by item_by
small inner w left code own k f n t bytes rest is some found holds tree read =
    let all : left - 0 ≡ left = omega arith in
    rw (is, tree, some, found, holds, le-ltb left 0 (omega arith), all, read) refl

-- null has no data
pub null_read : (w : Window) (bytes : List ℕ) → number_at w kind.Null form.Full bytes ≡ Ok (0, bytes)
unfolding number_at form_at
null_read w bytes = rw (le-ltb (length bytes) 0 (omega arith)) refl

-- a form without data is its number
pub zero_read : (w : Window) (k : Kind) (bytes : List ℕ) → number_fault k (place w bytes) 0 ≡ None → number_at w k form.Zero bytes ≡ Ok (0, bytes)
unfolding number_at form_at
zero_read w k bytes good = rw good refl

-- true has no data
pub true_read : (w : Window) (bytes : List ℕ) → number_at w kind.Boolean form.One bytes ≡ Ok (1, bytes)
unfolding number_at form_at
true_read w bytes = refl

big_of_one : (w : Window) (byte : ℕ) (rest : List ℕ) → big_at w 1 (byte ∷ rest) ≡ Ok (byte, rest)
big_of_one w byte rest =
    let same : big_number 1 (byte ∷ rest) ≡ byte = omega arith in
    rw (le-ltb (length (byte ∷ rest)) 1 (omega arith), same) refl

-- a form of one byte is that byte
pub byte_read : (w : Window) (k : Kind) (byte : ℕ) (rest : List ℕ) → is_partial k ≡ false → number_at w k form.OneByte (byte ∷ rest) ≡ Ok (byte, rest)
unfolding number_at form_at
byte_read w k byte rest whole = rw (big_of_one w byte rest, no_fault k _ byte whole) refl

-- a full form of one byte is that byte
pub ubyte_read : (w : Window) (byte : ℕ) (rest : List ℕ) → number_at w kind.Ubyte form.Full (byte ∷ rest) ≡ Ok (byte, rest)
unfolding number_at form_at
ubyte_read w byte rest = rw (big_of_one w byte rest) refl
