-- Who is known after entries, and whose the records among them are.
use Rattle.std.proofs.Common.{◌≡◌, ℕ, ◌↔◌, eqb, cond, List, [], ◌∷◌, ◌++◌, Option, Some, None, refl, sym, ap, ◌∙◌, subst, inl, inr}
use Rattle.std.proofs.lemmas.Bool.{cases_eq, eq-eqb, ne_eqb}
use Rattle.std.proofs.lemmas.Option.{none-some, same_Some}
use Rattle.amqp_spool.specs.Entries.{Introduced, Recorded, Entry, Introduction, Record}
use Rattle.amqp_spool.specs.Names.{Names, nobody, known, after, named, IsLast}

-- Entries after entries. ----------------------------------------------------------------------------------------------

pub after-append : (k : Names) (xs ys : List Entry) (l : ℕ) → after k (xs ++ ys) l ≡ after (after k xs) ys l
after-append k [] ys l = refl
after-append k (Introduction i ∷ xs) ys l = after-append (known i k) xs ys l
after-append k (Record r ∷ xs) ys l = after-append k xs ys l

pub named-append : (k : Names) (xs ys : List Entry) → named k (xs ++ ys) ≡ named k xs ++ named (after k xs) ys
named-append k [] ys = refl
named-append k (Introduction i ∷ xs) ys = named-append (known i k) xs ys
named-append k (Record r ∷ xs) ys = ap (λ (ps : List (Option Introduced × Recorded)). (k r.link, r) ∷ ps) (named-append k xs ys)

-- One introduction. ---------------------------------------------------------------------------------------------------

pub known_same : (i : Introduced) (k : Names) (l : ℕ) → l ≡ i.link → known i k l ≡ Some i
known_same i k l e = rw (eq-eqb l i.link e)

pub known_other : (i : Introduced) (k : Names) (l : ℕ) → (l ≡ i.link → ⊥) → known i k l ≡ k l
known_other i k l other = rw (ne_eqb l i.link other)

-- The last introduction of a link. ------------------------------------------------------------------------------------

-- who is known of one link depends on who was known of it
pub after_on : (k m : Names) (es : List Entry) (l : ℕ) → k l ≡ m l → after k es l ≡ after m es l
after_on k m [] l same = same
after_on k m (Introduction i ∷ es) l same = after_on (known i k) (known i m) es l (ap (λ (o : Option Introduced). cond (eqb l i.link) (Some i) o) same)
after_on k m (Record r ∷ es) l same = after_on k m es l same

abbrev Unintroduced : List Entry → ℕ → Type 0
Unintroduced es l = (j : Introduced) (a b : List Entry) → es ≡ a ++ Introduction j ∷ b → j.link ≡ l → ⊥

fewer : (e : Entry) (es : List Entry) (l : ℕ) → Unintroduced (e ∷ es) l → Unintroduced es l
fewer e es l none j a b whole same = none j (e ∷ a) b (ap (λ (xs : List Entry). e ∷ xs) whole) same

-- a link that no entry introduces is known as before
pub after_unintroduced : (k : Names) (es : List Entry) (l : ℕ) → Unintroduced es l → after k es l ≡ k l
after_unintroduced k [] l none = refl
after_unintroduced k (Introduction i ∷ es) l none =
    after_unintroduced (known i k) es l (fewer (Introduction i) es l none) ∙ known_other i k l (λ e. none i [] es refl (sym e))
after_unintroduced k (Record r ∷ es) l none = after_unintroduced k es l (fewer (Record r) es l none)

-- who the last introduction names is known
pub last_known : (k : Names) (es : List Entry) (l : ℕ) (i : Introduced) → IsLast es l i → after k es l ≡ Some i
last_known k es l i x =
    ap (λ (xs : List Entry). after k xs l) x.whole ∙ after-append k x.front (Introduction i ∷ x.rest) l ∙ after_unintroduced (known i (after k x.front)) x.rest l x.last ∙ known_same i (after k x.front) l (sym x.same)

-- and who is known is named by the last introduction, or was known
data Known (k : Names) (es : List Entry) (l : ℕ) : Type 0 where
  Last : (i : Introduced) → IsLast es l i → Known k es l
  Old : Unintroduced es l → Known k es l

nothing_in : (e : Entry) (a b : List Entry) → [] ≡ a ++ e ∷ b → ⊥
nothing_in e [] b p = cc
nothing_in e (f ∷ a) b p = cc

last_more : (e : Entry) (es : List Entry) (l : ℕ) (i : Introduced) → IsLast es l i → IsLast (e ∷ es) l i
last_more e es l i x = record { front = e ∷ x.front; rest = x.rest; whole = ap (λ (xs : List Entry). e ∷ xs) x.whole; same = x.same; last = x.last }

-- a first entry that doesn't introduce the link
not_first : (e : Entry) (es : List Entry) (l : ℕ) → ((j : Introduced) → e ≡ Introduction j → j.link ≡ l → ⊥) → Unintroduced es l → Unintroduced (e ∷ es) l
not_first e es l other none j [] b whole same = other j (cc) same
not_first e es l other none j (f ∷ a) b whole same = none j a b (cc) same

which : (k : Names) (es : List Entry) (l : ℕ) → Known k es l
which k [] l = Old (λ j a b e _. nothing_in (Introduction j) a b e)
which k (Introduction i ∷ es) l =
    elim (which k es l) [
      | Last j x ↦ Last j (last_more (Introduction i) es l j x)
      | Old none ↦ elim (cases_eq i.link l) [
        | inl same ↦ Last i (record { front = []; rest = es; whole = refl; same = same; last = none })
        | inr other ↦ Old (not_first (Introduction i) es l (λ j e same. other (ap (λ (x : Introduced). x.link) (let p : i ≡ j = cc in p) ∙ same)) none)
      ]
    ]
which k (Record r ∷ es) l =
    elim (which k es l) [
      | Last j x ↦ Last j (last_more (Record r) es l j x)
      | Old none ↦ Old (not_first (Record r) es l (λ j e same. cc) none)
    ]

pub known_last : (es : List Entry) (l : ℕ) (i : Introduced) → after nobody es l ≡ Some i → IsLast es l i
known_last es l i e =
    elim (which nobody es l) [
      | Last j x ↦ subst (λ (n : Introduced). IsLast es l n) (same_Some j i (sym (last_known nobody es l j x) ∙ e)) x
      | Old none ↦ absurd (none-some i (sym (after_unintroduced nobody es l none) ∙ e))
    ]

pub the_last : (es : List Entry) (l : ℕ) (i : Introduced) → (after nobody es l ≡ Some i) ↔ IsLast es l i
the_last es l i = (known_last es l i, last_known nobody es l i)

-- an introduction in the midst
pub nobody_introduced : (es front rest : List Entry) (l : ℕ) (i : Introduced) → after nobody es l ≡ None → es ≡ front ++ Introduction i ∷ rest → i.link ≡ l → ⊥
nobody_introduced es front rest l i none whole same =
    elim (which nobody es l) [
      | Last j x ↦ none-some j (sym none ∙ last_known nobody es l j x)
      | Old lacks ↦ lacks i front rest whole same
    ]

-- Whose a record is. --------------------------------------------------------------------------------------------------

pub named_at : (k : Names) (es front rest : List Entry) (r : Recorded) → es ≡ front ++ Record r ∷ rest → named k es ≡ named k front ++ (after k front r.link, r) ∷ named (after k front) rest
named_at k es front rest r whole = ap (λ (xs : List Entry). named k xs) whole ∙ named-append k front (Record r ∷ rest)
