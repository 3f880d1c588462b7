-- Entries of a body, one after the other.
use Rattle.std.proofs.Common.{◌≡◌, ℕ, ◌<◌, ◌↔◌, arith, Bool, eqb, List, [], ◌∷◌, ◌++◌, length, length-append, refl, sym, ap, ◌∙◌, append_assoc, append-nil}
use Rattle.std.proofs.lemmas.Bool.{eqb-true}
use Rattle.std.proofs.lemmas.List.{nil_from_length}
use Rattle.std.proofs.lemmas.List.Concat.{flat_map-append}
use Rattle.std.specs.List.{flat_map}
use Rattle.std.specs.Prelude.{IsTrue}
use Rattle.amqp_spool.specs.Entries.{Entry, Introduction, Record, IsEntry, entry_text, BeginsEntry, AreEntries}
use Rattle.amqp_spool.specs.EntryReading.{HoldsEntries}
use Rattle.amqp_spool.proofs.EntryTexts.{introduction_parts, record_parts, same_entries}

abbrev texts : List Entry → List ℕ
texts es = flat_map entry_text es

-- entries at the front of a body, and what is behind them
pub record Passed (body rest : List ℕ) : Type 0 where
  pub entries : List Entry
  pub are : AreEntries entries
  pub whole : body ≡ flat_map entry_text entries ++ rest

are_more : (es : List Entry) (e : Entry) → AreEntries es → IsEntry e → AreEntries (es ++ e ∷ [])
are_more [] e are is = (is, tt)
are_more (f ∷ es) e are is = (are.0, are_more es e are.1 is)

texts_more : (es : List Entry) (e : Entry) → texts (es ++ e ∷ []) ≡ texts es ++ entry_text e
texts_more es e = flat_map-append entry_text es (e ∷ []) ∙ ap (λ (l : List ℕ). texts es ++ l) (append-nil (entry_text e))

pub begun : (body : List ℕ) → Passed body body
begun body = record { entries = []; are = tt; whole = refl }

pub one_more : (body rest behind : List ℕ) (e : Entry) → Passed body rest → BeginsEntry rest e behind → Passed body behind
one_more body rest behind e x y = record {
  entries = x.entries ++ e ∷ [];
  are = are_more x.entries e x.are y.is;
  whole = x.whole ∙ ap (λ (l : List ℕ). texts x.entries ++ l) y.whole ∙ sym (append_assoc (texts x.entries) (entry_text e) behind) ∙ ap (λ (l : List ℕ). l ++ behind) (sym (texts_more x.entries e));
}

pub some_bytes : (e : Entry) → 0 < length (entry_text e)
some_bytes (Introduction i) = let x = ap (λ (l : List ℕ). length l) (sym (append-nil (entry_text (Introduction i))) ∙ introduction_parts i []) in omega (arith, x)
some_bytes (Record r) = let x = ap (λ (l : List ℕ). length l) (sym (append-nil (entry_text (Record r))) ∙ record_parts r []) in omega (arith, x)

-- each leaves less
pub shorter : (rest behind : List ℕ) (e : Entry) → BeginsEntry rest e behind → length behind < length rest
shorter rest behind e y = omega (arith, ap (λ (l : List ℕ). length l) y.whole, length-append (entry_text e) behind, some_bytes e)

-- what is behind entries of a body of entries
pub behind_them : (front es : List Entry) (rest : List ℕ) → AreEntries front → AreEntries es → texts front ++ rest ≡ texts es → (fs : List Entry) × AreEntries fs × (rest ≡ texts fs)
behind_them [] es rest some are e = (es, are, e)
behind_them (f ∷ front) [] rest some are e =
    let long = ap (λ (l : List ℕ). length l) e in
    absurd (omega (arith, long, some_bytes f, length-append (texts (f ∷ front)) rest, length-append (entry_text f) (texts front)))
behind_them (f ∷ front) (g ∷ es) rest some are e =
    let x = same_entries f g (texts front ++ rest) (texts es) some.0 are.0 (sym (append_assoc (entry_text f) (texts front) rest) ∙ e) in
    behind_them front es rest some.1 are.1 x.1

none_behind : (rest : List ℕ) (es : List Entry) → AreEntries es → rest ≡ texts es → ((e : Entry) (behind : List ℕ) → BeginsEntry rest e behind → ⊥) → rest ≡ []
none_behind rest [] are e lacks = e
none_behind rest (f ∷ es) are e lacks = absurd (lacks f (texts es) (record { is = are.0; whole = e }))

pub ended : (body rest : List ℕ) → Passed body rest → ((e : Entry) (behind : List ℕ) → BeginsEntry rest e behind → ⊥) → HoldsEntries body → rest ≡ []
ended body rest x lacks h =
    let fs = behind_them x.entries h.0 rest x.are h.1.are (sym x.whole ∙ h.1.whole) in
    none_behind rest fs.0 fs.1 fs.2 lacks

pub all_passed : (body rest : List ℕ) → Passed body rest → rest ≡ [] → HoldsEntries body
all_passed body rest x e = (x.entries, record { are = x.are; whole = x.whole ∙ ap (λ (l : List ℕ). texts x.entries ++ l) e ∙ append-nil (texts x.entries) })

pub answered : (body rest : List ℕ) (b : Bool) → Passed body rest → ((e : Entry) (behind : List ℕ) → BeginsEntry rest e behind → ⊥) → b ≡ eqb (length rest) 0 → IsTrue b ↔ HoldsEntries body
answered body rest b x lacks e = (
  λ t. all_passed body rest x (nil_from_length rest (eqb-true (length rest) 0 (sym e ∙ t))),
  λ h. e ∙ ap (λ (l : List ℕ). eqb (length l) 0) (ended body rest x lacks h),
)
