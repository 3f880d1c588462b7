-- What a text spells, byte by byte.
use Rattle.std.proofs.Common.{arith, ◌≡◌, ℕ, zero, suc, ◌+◌, ◌-◌, ◌<◌, ◌≤◌, Bool, true, false, List, [], ◌∷◌, ◌++◌, length, take, drop, get_or, refl, ap, sym, ◌∙◌, subst, append_assoc, one-add, length-drop}
use Rattle.std.specs.Prelude.{Result, Ok, Err, if◌then◌else◌}
use Rattle.std.specs.Str.{IsUtf8, is_utf8}
use Rattle.std.proofs.lemmas.List.{take_all, drop_all, drop-drop, append-nil}
use Rattle.std.proofs.lemmas.Str.{IsUtf8-from_is_utf8, is_utf8-from_IsUtf8}
use Rattle.amqp_addresses.specs.declared.faults.LineFault.{LineFault}
use Rattle.amqp_addresses.specs.declared.faults.LineFault.TheVariants.{NotText}
use Rattle.amqp_addresses.specs.declared.faults.ReadFault.{ReadFault}
use Rattle.amqp_addresses.specs.declared.faults.ReadFault.TheVariants.{Bad}
use Rattle.amqp_addresses.specs.Reads.{Gives}
use Rattle.amqp_addresses.specs.Spelling.{byte_of, more_of, before, spelled_after, spelled, as_text}

-- some bytes before others
abbrev pub behind : List ℕ → Result (List ℕ) LineFault → Result (List ℕ) LineFault
behind front (Err fault) = Err fault
behind front (Ok bytes) = Ok (front ++ bytes)

pub behind_nothing : (r : Result (List ℕ) LineFault) → behind [] r ≡ r
behind_nothing (Err fault) = refl
behind_nothing (Ok bytes) = refl

pub behind_one : (front : List ℕ) (b : ℕ) (r : Result (List ℕ) LineFault) → behind front (before (Ok b) r) ≡ behind (front ++ b ∷ []) r
behind_one front b (Err fault) = refl
behind_one front b (Ok bytes) = rw append_assoc refl

-- characters that belong to an escape before are passed
pub passes : (n : ℕ) (text : List ℕ) → spelled_after n text ≡ spelled (drop n text)
unfolding spelled_after
passes zero [] = refl
passes (suc n) [] = refl
passes zero (c ∷ text) = refl
passes (suc n) (c ∷ text) = passes n text

drop-one : (n c : ℕ) (text : List ℕ) → drop (1 + n) (c ∷ text) ≡ drop n text
drop-one n c text = rw (one-add n) refl

-- one byte, and then the rest
pub spells_more : (text : List ℕ) (b : ℕ) → 1 ≤ length text → byte_of (get_or text 0 0) (drop 1 text) ≡ Ok b →
    spelled text ≡ before (Ok b) (spelled (drop (1 + more_of (get_or text 0 0)) text))
unfolding spelled_after
spells_more [] b some is = absurd (omega (arith, some))
spells_more (c ∷ text) b some is = rw (is, passes (more_of c) text, ← drop-one (more_of c) c text) refl

pub spells_nothing : (text : List ℕ) (f : LineFault) → 1 ≤ length text → byte_of (get_or text 0 0) (drop 1 text) ≡ Err f → spelled text ≡ Err f
unfolding spelled_after
spells_nothing [] f some is = absurd (omega (arith, some))
spells_nothing (c ∷ text) f some is = rw is refl

-- A loop over the bytes. ------------------------------------------------------------------------------------------------

-- the part of a text from a place on
abbrev from : List ℕ → ℕ → List ℕ
from text at = take (length text - at) (drop at text)

from_is : (text : List ℕ) (at : ℕ) → from text at ≡ drop at text
from_is text at = take_all (length text - at) (drop at text) (omega (arith, length-drop at text))

from_some : (text : List ℕ) (at : ℕ) → at < length text → 1 ≤ length (from text at)
from_some text at low = rw (from_is text at) (omega (arith, low, length-drop at text))

pub from_within : (text : List ℕ) (at len : ℕ) → at ≤ length text → len ≤ length (from text at) → at + len ≤ length text
from_within text at len low within =
    let same = ap (λ (x : List ℕ). length x) (from_is text at) in omega (arith, low, within, same, length-drop at text)

-- one byte more
pub goes_on : (text front : List ℕ) (at b len : ℕ) → at < length text → byte_of (get_or (from text at) 0 0) (drop 1 (from text at)) ≡ Ok b →
    len ≡ 1 + more_of (get_or (from text at) 0 0) → behind front (spelled (drop at text)) ≡ behind (front ++ b ∷ []) (spelled (drop (at + len) text))
goes_on text front at b len low is so =
    let more = spells_more (from text at) b (from_some text at low) is in
    let rest : drop (1 + more_of (get_or (from text at) 0 0)) (from text at) ≡ drop (at + len) text =
    ap (λ (x : List ℕ). drop (1 + more_of (get_or (from text at) 0 0)) x) (from_is text at)
    ∙ drop-drop (1 + more_of (get_or (from text at) 0 0)) at text ∙ ap (λ (n : ℕ). drop (at + n) text) (sym so) in
    ap (λ (x : List ℕ). behind front (spelled x)) (sym (from_is text at)) ∙ ap (λ (r : Result (List ℕ) LineFault). behind front r) more
    ∙ behind_one front b (spelled (drop (1 + more_of (get_or (from text at) 0 0)) (from text at)))
    ∙ ap (λ (x : List ℕ). behind (front ++ b ∷ []) (spelled x)) rest

-- a fault
pub breaks_off : (text front : List ℕ) (at : ℕ) (f : LineFault) → at < length text → byte_of (get_or (from text at) 0 0) (drop 1 (from text at)) ≡ Err f →
    behind front (spelled (drop at text)) ≡ Err f
breaks_off text front at f low is =
    ap (λ (x : List ℕ). behind front (spelled x)) (sym (from_is text at))
    ∙ ap (λ (r : Result (List ℕ) LineFault). behind front r) (spells_nothing (from text at) f (from_some text at low) is)

spells_none : spelled [] ≡ Ok []
unfolding spelled_after
spells_none = refl

-- the end
pub ends : (text front : List ℕ) (at : ℕ) → length text ≤ at → behind front (spelled (drop at text)) ≡ Ok front
ends text front at high =
    ap (λ (x : List ℕ). behind front (spelled x)) (drop_all at text high) ∙ ap (λ (r : Result (List ℕ) LineFault). behind front r) spells_none
    ∙ ap (λ (x : List ℕ). Ok x) (append-nil front)

-- What a call gives at an exit.
pub gives_err : {A B : Type 0} (view : A → B) (r : Result A ReadFault) (e : ReadFault) (f : LineFault) (there : Result B LineFault) → r ≡ Err e → e ≡ Bad f →
    there ≡ Err f → Gives view r there
gives_err {A} view r e f there is so h = subst (λ (x : Result A ReadFault). Gives view x there) (sym (is ∙ ap (λ (x : ReadFault). Err x) so)) h

-- Text. -----------------------------------------------------------------------------------------------------------------

pub is_text : (r : Result (List ℕ) LineFault) (bytes : List ℕ) → r ≡ Ok bytes → IsUtf8 bytes → as_text r ≡ Ok bytes
is_text r bytes is utf8 = ap (λ (x : Result (List ℕ) LineFault). as_text x) is ∙ rw (is_utf8-from_IsUtf8 bytes utf8) refl

pub is_no_text : (r : Result (List ℕ) LineFault) (bytes : List ℕ) → r ≡ Ok bytes → (IsUtf8 bytes → ⊥) → as_text r ≡ Err NotText
is_no_text r bytes is none = ap (λ (x : Result (List ℕ) LineFault). as_text x) is ∙ by (is_utf8 bytes) refl
  where
    by : (b : Bool) → is_utf8 bytes ≡ b → (if b then Ok bytes else Err NotText) ≡ Err NotText
    by true so = absurd (none (IsUtf8-from_is_utf8 bytes so))
    by false so = refl
