-- What is left behind a value is the bytes without their front.
use Rattle.std.proofs.Common.{◌≡◌, ℕ, ◌-◌, List, [], ◌∷◌, ◌++◌, length, drop, Option, Some, None, Result, Ok, Err, refl, sym, ap, ◌∙◌, length-append, arith}
use Rattle.std.proofs.Math.Seq.{drop-append_seam}
use Rattle.amqp_types.specs.Decoding.{decoded}
use Rattle.amqp_types.specs.InHand.{Budget, outermost}
use Rattle.amqp_types.specs.Reading.{Part, Level, after, inside, described_at, value_by, value_of}
use Rattle.amqp_types.specs.declared.fault.ReadFault.{ReadFault}
use Rattle.amqp_types.specs.declared.window.Window.{Window}
use Rattle.amqp_types.specs.Trees.{Tree}
use Rattle.amqp_types.specs.Skipping.{rest_of, passed}
use Rattle.amqp_types.proofs.Octets.{IsBytes}
use Rattle.amqp_types.proofs.Passes.{leaves}
use Rattle.amqp_types.proofs.Compounds.{value_sound}

-- the rest behind a front
pub without_front : (bytes text rest : List ℕ) → bytes ≡ text ++ rest → drop (length bytes - length rest) bytes ≡ rest
without_front bytes text rest e =
    let n : length bytes - length rest ≡ length text = omega (arith, ap length e, length-append text rest) in
    ap (λ (k : ℕ). drop k bytes) n ∙ ap (drop (length text)) e ∙ drop-append_seam text rest

-- what reading gives by the level of a depth
pub decoded_is : (depth nodes : ℕ) (bytes : List ℕ) (t : Tree) (left : Budget) (rest : List ℕ) → IsBytes bytes
    → value_by (inside depth) (outermost bytes) 1 (Some nodes) bytes ≡ Ok (t, left, rest)
    → decoded depth nodes bytes ≡ Ok (t, drop (length bytes - length rest) bytes)
decoded_is depth nodes bytes t left rest fits e =
    let r = value_sound depth (outermost bytes) 1 (Some nodes) bytes (t, left, rest) fits e in
    rw e (ap (λ (b : List ℕ). Ok (t, b)) (sym (without_front bytes r.text rest r.takes.parts)))

-- ---- where what is read is of no interest

-- without a budget nothing is due
pub due_free : (inner : Option Level) (w : Window) (bytes : List ℕ) → value_by inner w 1 None bytes ≡ value_by inner w 0 None bytes
unfolding value_by described_at
due_free inner w [] = refl
due_free None w (code ∷ rest) = refl
due_free (Some level) w (code ∷ rest) = refl

after_ok : {A : Type 0} (read : Part A) (rest : List ℕ) → after read ≡ Ok rest → (x : A × Budget × List ℕ) × (read ≡ Ok x) × (x.2 ≡ rest)
after_ok (Ok x) rest e = (x, refl, same x.2 rest e)
  where
    same : (a b : List ℕ) → ◌≡◌ {A = Result (List ℕ) ReadFault} (Ok a) (Ok b) → a ≡ b
    same a b h = cc
after_ok (Err d) rest e = absurd cc

-- what is passed by the level of a depth
pub skipped_is : (depth : ℕ) (bytes rest : List ℕ) → IsBytes bytes → after (value_by (inside depth) (outermost bytes) 0 None bytes) ≡ Ok rest
    → after (value_of depth None bytes) ≡ Ok (drop (length bytes - length rest) bytes)
skipped_is depth bytes rest fits e =
    let a = after_ok (value_by (inside depth) (outermost bytes) 0 None bytes) rest e in
    let r = value_sound depth (outermost bytes) 0 None bytes a.0 fits a.1 in
    let parts : bytes ≡ r.text ++ rest = r.takes.parts ∙ ap (λ (b : List ℕ). r.text ++ b) a.2 in
    ap after (due_free (inside depth) (outermost bytes) bytes) ∙ e ∙ ap (λ (b : List ℕ). Ok b) (sym (without_front bytes r.text rest parts))

-- what is passed by the level of a depth, its nodes counted
pub checked_is : (depth nodes left : ℕ) (bytes rest : List ℕ) → IsBytes bytes → passed (value_by (inside depth) (outermost bytes) 1 (Some nodes) bytes) ≡ Ok (Some left, rest)
    → rest_of (decoded depth nodes bytes) ≡ Ok (drop (length bytes - length rest) bytes)
checked_is depth nodes left bytes rest fits e =
    let x = leaves (value_by (inside depth) (outermost bytes) 1 (Some nodes) bytes) left rest e in
    ap rest_of (decoded_is depth nodes bytes x.0 (Some left) rest fits x.1)
