-- Introductions that a reader took.
use Rattle.std.proofs.Common.{◌≡◌, ℕ, eqb, cond, List, [], ◌∷◌, ◌++◌, map, Option, Some, refl, sym, ap, ◌∙◌, append_assoc, append-nil}
use Rattle.std.proofs.lemmas.List.{map-append}
use Rattle.std.proofs.lemmas.List.Concat.{flat_map-append}
use Rattle.std.specs.List.{flat_map}
use Rattle.amqp_spool.specs.declared.names.Names as reader
use Rattle.amqp_spool.specs.Entries.{Introduced, IsIntroduced, Entry, Introduction, entry_text, introduction, BeginsEntry, AreEntries}
use Rattle.amqp_spool.specs.EntryReading.{HoldsEntries}
use Rattle.amqp_spool.specs.Names.{Names, after, known}
use Rattle.amqp_spool.specs.NamesRead.{names_of, HasTaken}
use Rattle.amqp_spool.proofs.EntryLists.{Passed, ended}

abbrev pub texts : List Introduced → List ℕ
texts front = flat_map entry_text (map Introduction front)

are_more : (front : List Introduced) (i : Introduced) → AreEntries (map Introduction front) → IsIntroduced i → AreEntries (map Introduction (front ++ i ∷ []))
are_more [] i are is = (is, tt)
are_more (j ∷ front) i are is = (are.0, are_more front i are.1 is)

texts_more : (front : List Introduced) (i : Introduced) → texts (front ++ i ∷ []) ≡ texts front ++ introduction i
texts_more front i =
    ap (λ (es : List Entry). flat_map entry_text es) (map-append Introduction front (i ∷ [])) ∙ flat_map-append entry_text (map Introduction front) (Introduction i ∷ [])
    ∙ ap (λ (l : List ℕ). texts front ++ l) (append-nil (introduction i))

after_more : (names : Names) (front : List Introduced) (i : Introduced) (link : ℕ) → after names (map Introduction (front ++ i ∷ [])) link ≡ known i (after names (map Introduction front)) link
after_more names [] i link = refl
after_more names (j ∷ front) i link = after_more (known j names) front i link

-- one introduction more
pub one_taken : (old mid new : reader.Names) (body left rest : List ℕ) (i : Introduced) → HasTaken old mid body left → BeginsEntry left (Introduction i) rest → ((link : ℕ) → names_of new link ≡ known i (names_of mid) link)
    → HasTaken old new body rest
one_taken old mid new body left rest i x y names = record {
  front = x.front ++ i ∷ [];
  are = are_more x.front i x.are y.is;
  whole = x.whole ∙ ap (λ (l : List ℕ). texts x.front ++ l) y.whole ∙ sym (append_assoc (texts x.front) (introduction i) rest) ∙ ap (λ (l : List ℕ). l ++ rest) (sym (texts_more x.front i));
  names = λ link. names link ∙ ap (λ (o : Option Introduced). cond (eqb link i.link) (Some i) o) (x.names link) ∙ sym (after_more (names_of old) x.front i link);
}

abbrev passed : (old new : reader.Names) (body left : List ℕ) → HasTaken old new body left → Passed body left
passed old new body left x = record { entries = map Introduction x.front; are = x.are; whole = x.whole }

-- no entry follows, so it is the end of a body
pub all_taken : (old new : reader.Names) (body left : List ℕ) → HasTaken old new body left → ((e : Entry) (rest : List ℕ) → BeginsEntry left e rest → ⊥) → HoldsEntries body → left ≡ []
all_taken old new body left x lacks h = ended body left (passed old new body left x) lacks h
