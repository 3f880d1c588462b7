-- What a receiver says with each message: how long its fields are, and which are left out.
use Rattle.std.proofs.Common.{◌≡◌, ℕ, ◌*◌, ◌<◌, ◌≤◌, ◌==◌, ltb, Bool, true, false, cond, eqb, List, [], ◌∷◌, ◌++◌, length, Some, None, refl, sym, ap, ◌∙◌, length-append, arith}
use Rattle.std.specs.List.{concat}
use Rattle.std.specs.Str.{bytes_eq}
use Rattle.std.proofs.lemmas.Bool.{eq-eqb, eqb-true, ne_eqb, eqb-false, false_from_ne_true}
use Rattle.std.proofs.lemmas.Slice.Eq.{bytes_eq-Decides}
use Rattle.amqp_types.specs.declared.kind.Kind.TheVariants as kind
use Rattle.amqp_types.specs.declared.shell.Short.TheVariants as short
use Rattle.amqp_types.specs.Canonical.{canonical, number_text}
use Rattle.amqp_types.specs.Trees.{Number}
use Rattle.amqp_perform.specs.declared.field_text.FieldText.TheVariants as value
use Rattle.amqp_perform.specs.Cells.{Cell, Absent, Whole}
use Rattle.amqp_perform.specs.Frames.{null_text, cell_text, written_text, trimmed, last_written, field_spelling, field_spellings, number_values}
use Rattle.amqp_perform.specs.Performatives.{flag, span}
use Rattle.amqp_perform.specs.Receivers.{last_stated, state_said, link_flow_said}
use Rattle.amqp_perform.specs.Said.{said_texts}
use Rattle.amqp_perform.specs.Tables.{boolean, uint, spanned, default}
use Rattle.amqp_perform.proofs.Lengths.{uint_short}
use Rattle.amqp_perform.proofs.Trims.{sixth_trimmed}

-- a number takes at most five bytes
pub number_short : (n : ℕ) → length (canonical (Number kind.Uint n)) ≤ 5
number_short n = uint_short n

-- so do more of them
pub numbers_most : (numbers : List ℕ) → length (concat (field_spellings (number_values numbers))) ≤ 5 * length numbers
numbers_most [] = omega arith
numbers_most (n ∷ numbers) =
    omega (arith, number_short n, numbers_most numbers, length-append (field_spelling (value.Uint n)) (concat (field_spellings (number_values numbers))))

eqb_swap : (a b : ℕ) → eqb a b ≡ eqb b a
eqb_swap a b = by (eqb b a) refl
  where
    by : (x : Bool) → eqb b a ≡ x → eqb a b ≡ x
    by true e = eq-eqb a b (sym (eqb-true b a e))
    by false e = ne_eqb a b (λ same. eqb-false b a e (sym same))

-- the last delivery is left out where it is the first
pub last_is : (first last : ℕ) → last_written first (Some last) ≡ last_stated first last
last_is first last = ap (λ (b : Bool). cond b Absent (Whole last)) (eqb_swap last first)

last_absent : (id : ℕ) → last_stated id id ≡ Absent
last_absent id = ap (λ (b : Bool). cond b Absent (Whole id)) (eq-eqb id id refl)

-- The disposition of one delivery. ------------------------------------------------------------------------------------

-- its fields that are not left out
abbrev pub one_texts : ℕ → Bool → List ℕ → List (List ℕ)
one_texts id settled state = canonical (Number kind.Boolean 1) ∷ cell_text uint (Whole id) ∷ null_text ∷ written_text boolean (default 0) (flag settled) ∷ state ∷ []

state_text : (state : List ℕ) → 0 < length state → cell_text spanned (span state) ≡ state
state_text [] some = absurd (omega arith)
state_text (b ∷ bytes) some = refl

-- a state of four bytes is no null
stated : (state : List ℕ) → length state ≡ 4 → bytes_eq (cell_text spanned (span state)) null_text ≡ false
stated state four =
    ap (λ (text : List ℕ). bytes_eq text null_text) (state_text state (omega arith))
    ∙ false_from_ne_true (bytes_eq state null_text) (λ e. omega (arith, four, ap length ((bytes_eq-Decides state null_text).0 e)))

pub one_trimmed : (id : ℕ) (settled : Bool) (state : List ℕ) → length state ≡ 4 → trimmed (said_texts (state_said id id settled state)) ≡ one_texts id settled state
one_trimmed id settled state four =
    let role = canonical (Number kind.Boolean 1) in
    let number = cell_text uint (Whole id) in
    let told = written_text boolean (default 0) (flag settled) in
    let text = cell_text spanned (span state) in
    ap (λ (c : Cell). trimmed (role ∷ number ∷ cell_text uint c ∷ told ∷ text ∷ null_text ∷ [])) (last_absent id)
    ∙ sixth_trimmed role number null_text told text null_text (stated state four) refl
    ∙ ap (λ (x : List ℕ). role ∷ number ∷ null_text ∷ told ∷ x ∷ []) (state_text state (omega arith))

pub flag_one : (settled : Bool) → length (written_text boolean (default 0) (flag settled)) ≡ 1
flag_one true = refl
flag_one false = refl

pub one_most : (id : ℕ) (settled : Bool) (state : List ℕ) → length state ≡ 4 → length (concat (one_texts id settled state)) ≤ 12
one_most id settled state four =
    let number = cell_text uint (Whole id) in
    let told = written_text boolean (default 0) (flag settled) in
    omega (
      arith,
      number_short id,
      flag_one settled,
      four,
      length-append number (null_text ++ (told ++ (state ++ []))),
      length-append told (state ++ []),
      length-append state [],
    )

-- The flow of a link. -------------------------------------------------------------------------------------------------

not_null : (n : ℕ) → bytes_eq (canonical (Number kind.Uint n)) null_text ≡ false
not_null n = by (n == 0) (ltb n 256)
  where
    by : (a b : Bool) → bytes_eq (number_text kind.Uint n (cond a (Some (short.Code 0x43)) (cond b (Some (short.Byte 0x52 n)) None))) null_text ≡ false
    by true b = refl
    by false true = refl
    by false false = refl

-- what follows the credit is left out
pub flow_trimmed : (next_id window handle count credit : ℕ)
    → trimmed (said_texts (link_flow_said next_id window handle count credit false)) ≡ field_spellings (number_values (next_id ∷ window ∷ 0 ∷ 0 ∷ handle ∷ count ∷ credit ∷ []))
flow_trimmed next_id window handle count credit = rw (not_null credit) refl
