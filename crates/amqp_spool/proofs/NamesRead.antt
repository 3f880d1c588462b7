-- What a reader gets of a body.
use Rattle.std.proofs.Common.{◌≡◌, ℕ, arith, eqb, cond, List, [], ◌∷◌, ◌++◌, length, map, Option, Some, refl, sym, ap, ◌∙◌, append_assoc, append-nil}
use Rattle.std.proofs.lemmas.List.Concat.{flat_map-append}
use Rattle.std.specs.List.{flat_map}
use Rattle.amqp_spool.specs.declared.names.Names as reader
use Rattle.amqp_spool.specs.Entries.{Introduced, Recorded, Entry, Introduction, Record, entry_text, BeginsEntry, AreEntries, IsBody}
use Rattle.amqp_spool.specs.Names.{Names, known, after, named}
use Rattle.amqp_spool.specs.NamesRead.{names_of, HasTaken, HasRead, Gives, Ends}
use Rattle.amqp_spool.specs.NamesLaws.{Reads}
use Rattle.amqp_spool.proofs.EntryTexts.{same_entries}
use Rattle.amqp_spool.proofs.EntryLists.{shorter}
use Rattle.amqp_spool.proofs.NamesTaken.{texts}

-- The entries of a body. ----------------------------------------------------------------------------------------------

cut_first : (bytes left : List ℕ) (e : Entry) (es : List Entry) → BeginsEntry bytes e left → IsBody bytes es → (rest : List Entry) × (es ≡ e ∷ rest) × IsBody left rest
cut_first bytes left e [] x body = absurd (omega (arith, shorter bytes left e x, ap (λ (l : List ℕ). length l) body.whole))
cut_first bytes left e (f ∷ es) x body =
    let same = same_entries e f left (flat_map entry_text es) x.is body.are.0 (sym x.whole ∙ body.whole) in
    (es, ap (λ (g : Entry). g ∷ es) (sym same.0), record { are = body.are.1; whole = same.1 })

cut_introductions : (front : List Introduced) (bytes left : List ℕ) (es : List Entry) → AreEntries (map Introduction front) → bytes ≡ texts front ++ left → IsBody bytes es
    → (rest : List Entry) × (es ≡ map Introduction front ++ rest) × IsBody left rest
cut_introductions [] bytes left es are e body = (es, refl, record { are = body.are; whole = sym e ∙ body.whole })
cut_introductions (i ∷ front) bytes left es are e body =
    let first : BeginsEntry bytes (Introduction i) (texts front ++ left) = record { is = are.0; whole = e ∙ append_assoc (entry_text (Introduction i)) (texts front) left } in
    let cut = cut_first bytes (texts front ++ left) (Introduction i) es first body in
    let more = cut_introductions front (texts front ++ left) left cut.0 are.1 refl cut.2 in
    (more.0, cut.1 ∙ ap (λ (l : List Entry). Introduction i ∷ l) more.1, more.2)

none_left : (es : List Entry) → IsBody [] es → es ≡ []
none_left [] body = refl
none_left (e ∷ es) body = let x : BeginsEntry [] e (flat_map entry_text es) = record { is = body.are.0; whole = body.whole } in absurd (omega (arith, shorter [] (flat_map entry_text es) e x))

pub gives : (old new : reader.Names) (body left : List ℕ) (r : Recorded) (es : List Entry) → HasRead old new body left r → IsBody body es → Gives old new left es r
gives old new body left r es x is =
    let cut = cut_introductions x.taken.front body x.from es x.taken.are x.taken.whole is in
    let first = cut_first x.from left (Record r) cut.0 x.begins cut.2 in
    record { front = x.taken.front; rest = first.0; whole = cut.1 ∙ ap (λ (l : List Entry). map Introduction x.taken.front ++ l) first.1; names = x.taken.names; is = first.2 }

pub ends : (old new : reader.Names) (body : List ℕ) (es : List Entry) → HasTaken old new body [] → IsBody body es → Ends old new es
ends old new body es x is =
    let cut = cut_introductions x.front body [] es x.are x.whole is in
    record { front = x.front; whole = cut.1 ∙ ap (λ (l : List Entry). map Introduction x.front ++ l) (none_left cut.0 cut.2) ∙ append-nil (map Introduction x.front); names = x.names }

-- Whose its records are. ----------------------------------------------------------------------------------------------

pub named_after : (names : Names) (front : List Introduced) (es : List Entry) → named names (map Introduction front ++ es) ≡ named (after names (map Introduction front)) es
named_after names [] es = refl
named_after names (i ∷ front) es = named_after (known i names) front es

pub none_named : (names : Names) (front : List Introduced) → named names (map Introduction front) ≡ []
none_named names [] = refl
none_named names (i ∷ front) = none_named (known i names) front

pub same_named : (f g : Names) (es : List Entry) → ((link : ℕ) → f link ≡ g link) → named f es ≡ named g es
same_named f g [] same = refl
same_named f g (Introduction i ∷ es) same = same_named (known i f) (known i g) es (λ link. ap (λ (o : Option Introduced). cond (eqb link i.link) (Some i) o) (same link))
same_named f g (Record r ∷ es) same =
    ap (λ (o : Option Introduced). (o, r) ∷ named f es) (same r.link) ∙ ap (λ (l : List (Option Introduced × Recorded)). (g r.link, r) ∷ l) (same_named f g es same)

pub reads_named : (old : reader.Names) (body : List ℕ) (es : List Entry) (list : List (Option Introduced × Recorded)) → IsBody body es → Reads old body list → list ≡ named (names_of old) es
reads_named old body es [] is reads =
    let x = ends old reads.0 body es reads.1 is in
    sym (none_named (names_of old) x.front) ∙ ap (λ (l : List Entry). named (names_of old) l) (sym x.whole)
reads_named old body es (p ∷ more) is reads =
    let new = reads.0 in
    let r = p.1 in
    let x = gives old new body reads.1 r es reads.2 is in
    let known_then = after (names_of old) (map Introduction x.front) in
    let rest : more ≡ named known_then x.rest = reads_named new reads.1 x.rest more x.is reads.4 ∙ same_named (names_of new) known_then x.rest x.names in
    ap (λ (o : Option Introduced). (o, r) ∷ more) (reads.3 ∙ x.names r.link) ∙ ap (λ (l : List (Option Introduced × Recorded)). (known_then r.link, r) ∷ l) rest
    ∙ sym (named_after (names_of old) x.front (Record r ∷ x.rest)) ∙ ap (λ (l : List Entry). named (names_of old) l) (sym x.whole)

-- and what it reads to the end is a body
pub are_both : (es fs : List Entry) → AreEntries es → AreEntries fs → AreEntries (es ++ fs)
are_both [] fs are others = others
are_both (e ∷ es) fs are others = (are.0, are_both es fs are.1 others)

pub reads_body : (old : reader.Names) (body : List ℕ) (list : List (Option Introduced × Recorded)) → Reads old body list → (es : List Entry) × IsBody body es
reads_body old body [] reads =
    let x = reads.1 in
    (map Introduction x.front, record { are = x.are; whole = x.whole ∙ append-nil (texts x.front) })
reads_body old body (p ∷ more) reads =
    let x = reads.2 in
    let front = map Introduction x.taken.front in
    let rest = reads_body reads.0 reads.1 more reads.4 in
    let es = Record p.1 ∷ rest.0 in (
      front ++ es,
      record {
        are = are_both front es x.taken.are (x.begins.is, rest.1.are);
        whole = x.taken.whole ∙ ap (λ (l : List ℕ). texts x.taken.front ++ l) (x.begins.whole ∙ ap (λ (l : List ℕ). entry_text (Record p.1) ++ l) rest.1.whole) ∙ sym (flat_map-append entry_text front es);
      },
    )
