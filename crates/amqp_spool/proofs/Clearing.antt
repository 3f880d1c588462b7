-- A batch that waited is settled, and its records are read alone.
use Rattle.std.proofs.Common.{◌≡◌, ℕ, ◌+◌, ◌<◌, arith, List, [], ◌∷◌, ◌++◌, Option, Some, None, refl, sym, ap, ◌∙◌, subst}
use Rattle.std.proofs.lemmas.Option.{none-some}
use Rattle.amqp_spool.specs.Entries.{Introduced, Recorded, Entry, Introduction, Record, IsBody, introduced, IsAlone}
use Rattle.amqp_spool.specs.Names.{Names, nobody, after, named}
use Rattle.amqp_spool.specs.Waitings.{LinksState, WaitingState, link_at, AreKnown, Waits, IsCleared}
use Rattle.amqp_spool.proofs.Naming.{after-append, named_at, known_last}
use Rattle.amqp_spool.proofs.Tellings.{body_more, body_none}

abbrev Puts : Type 0
Puts = List (Option Introduced × Recorded)

-- Settling. -----------------------------------------------------------------------------------------------------------

no_bytes : (bytes : List ℕ) → bytes ≡ [] → IsBody bytes []
no_bytes bytes e = subst (λ (t : List ℕ). IsBody t []) (sym e) body_none

pub nothing_waits : (first next : ℕ) (es : List Entry) (links : LinksState) (w : WaitingState) → ((number : ℕ) → link_at links number ≡ None) → w.here ≡ [] → w.again ≡ [] → w.count ≡ 0 → Waits first next es [] links w
nothing_waits first next es links w none here again count = record {
  here = [];
  again = [];
  here_is = no_bytes w.here here;
  again_is = no_bytes w.again again;
  named_here = refl;
  named_anew = refl;
  are_known = tt;
  counted = count;
  told = λ n k e. absurd (none-some k (sym (none n) ∙ e));
}

pub settles_here : (first next : ℕ) (es : List Entry) (puts : Puts) (links : LinksState) (was now : WaitingState) (x : Waits first next es puts links was) → 0 < was.count → IsCleared was now
    → Waits first (next + was.count) (es ++ x.here) [] links now
settles_here first next es puts links was now x some cleared = record {
  here = [];
  again = [];
  here_is = no_bytes now.here cleared.here;
  again_is = no_bytes now.again cleared.again;
  named_here = refl;
  named_anew = refl;
  are_known = tt;
  counted = cleared.count;
  told = λ n k e.
      let t = x.told n k e in
      record {
        from = t.from;
        kept = t.kept;
        past = omega (arith, t.past);
        knows = λ le. after-append nobody es x.here n ∙ t.knows le;
        now = λ at. absurd (omega (arith, t.past, some, at));
        before = λ _ _. tt;
      };
}

pub settles_anew : (first next : ℕ) (es : List Entry) (puts : Puts) (links : LinksState) (was now : WaitingState) (x : Waits first next es puts links was) → 0 < was.count → IsCleared was now
    → Waits next (next + was.count) (x.again ++ x.here) [] links now
settles_anew first next es puts links was now x some cleared = record {
  here = [];
  again = [];
  here_is = no_bytes now.here cleared.here;
  again_is = no_bytes now.again cleared.again;
  named_here = refl;
  named_anew = refl;
  are_known = tt;
  counted = cleared.count;
  told = λ n k e.
      let t = x.told n k e in
      record {
        from = t.from;
        kept = t.kept;
        past = omega (arith, t.past);
        knows = λ le. t.now (omega (arith, t.past, le));
        now = λ at. absurd (omega (arith, t.past, some, at));
        before = λ _ _. tt;
      };
}

pub is_body_anew : (first next : ℕ) (es : List Entry) (puts : Puts) (links : LinksState) (w : WaitingState) (x : Waits first next es puts links w) → IsBody (w.again ++ w.here) (x.again ++ x.here)
is_body_anew first next es puts links w x = body_more w.again w.here x.again x.here x.again_is x.here_is

-- Reading alone. ------------------------------------------------------------------------------------------------------

introduced-append : (xs ys : List Entry) → introduced (xs ++ ys) ≡ introduced xs ++ introduced ys
introduced-append [] ys = refl
introduced-append (Introduction i ∷ xs) ys = ap (λ (ls : List ℕ). i.link ∷ ls) (introduced-append xs ys)
introduced-append (Record r ∷ xs) ys = introduced-append xs ys

abbrev HasLink : List Entry → ℕ → Type 0
HasLink es l = (a b : List ℕ) × (introduced es ≡ a ++ l ∷ b)

-- a link of whom somebody is known was introduced
has_link : (es : List Entry) (l : ℕ) (i : Introduced) → after nobody es l ≡ Some i → HasLink es l
has_link es l i e =
    let x = known_last es l i e in (
      introduced x.front,
      introduced x.rest,
      ap (λ (xs : List Entry). introduced xs) x.whole ∙ introduced-append x.front (Introduction i ∷ x.rest) ∙ ap (λ (n : ℕ). introduced x.front ++ n ∷ introduced x.rest) x.same,
    )

-- each of these records has a sender
known_at : (ps qs : Puts) (o : Option Introduced) (r : Recorded) → AreKnown (ps ++ (o, r) ∷ qs) → (i : Introduced) × (o ≡ Some i)
known_at [] qs o r are = are.0
known_at (p ∷ ps) qs o r are = known_at ps qs o r are.1

sender_of : (k : Names) (es front rest : List Entry) (r : Recorded) (puts : Puts) → named k es ≡ puts → AreKnown puts → es ≡ front ++ Record r ∷ rest → (i : Introduced) × (after k front r.link ≡ Some i)
sender_of k es front rest r puts e are whole =
    known_at (named k front) (named (after k front) rest) (after k front r.link) r (subst (λ (ps : Puts). AreKnown ps) (sym e ∙ named_at k es front rest r whole) are)

pub is_alone_anew : (first next : ℕ) (es : List Entry) (puts : Puts) (links : LinksState) (w : WaitingState) (x : Waits first next es puts links w) → IsAlone (x.again ++ x.here)
unfolding IsAlone
is_alone_anew first next es puts links w x = λ front r rest whole.
    let i = sender_of nobody (x.again ++ x.here) front rest r puts x.named_anew x.are_known whole in
    has_link front r.link i.0 i.1

-- a record of entries after others is among the first or among the last
data Side (es here front rest : List Entry) (r : Recorded) : Type 0 where
  Before : (more : List Entry) → es ≡ front ++ Record r ∷ more → Side es here front rest r
  Behind : (more : List Entry) → front ≡ es ++ more → here ≡ more ++ Record r ∷ rest → Side es here front rest r

side : (es here front rest : List Entry) (r : Recorded) → es ++ here ≡ front ++ Record r ∷ rest → Side es here front rest r
side [] here front rest r e = Behind front refl e
side (f ∷ es) here [] rest r e = Before es (cc)
side (f ∷ es) here (g ∷ front) rest r e =
    elim (side es here front rest r (cc)) [
      | Before more p ↦ Before more (cc)
      | Behind more p q ↦ Behind more (cc) q
    ]

pub is_alone_here : (first next : ℕ) (es : List Entry) (puts : Puts) (links : LinksState) (w : WaitingState) (x : Waits first next es puts links w) → IsAlone es → IsAlone (es ++ x.here)
unfolding IsAlone
is_alone_here first next es puts links w x alone = λ front r rest whole.
    elim (side es x.here front rest r whole) [
      | Before more p ↦ alone front r more p
      | Behind more p q ↦
          let i = sender_of (after nobody es) x.here more rest r puts x.named_here x.are_known q in
          has_link front r.link i.0 (ap (λ (xs : List Entry). after nobody xs r.link) p ∙ after-append nobody es more r.link ∙ i.1)
    ]
