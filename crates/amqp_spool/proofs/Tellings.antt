-- A record that is put has its sender, in the segment that is written and in a new one.
use Rattle.std.proofs.Common.{◌≡◌, ◌≢◌, ℕ, ◌+◌, ◌<◌, ◌≤◌, ◌^◌, arith, eqb, cond, List, [], ◌∷◌, ◌++◌, length, length-append, Option, Some, refl, sym, ap, ◌∙◌, subst, inl, inr, append_assoc, append-nil}
use Rattle.std.proofs.lemmas.Bool.{cases_eq, cases_lt, eq-eqb, ne_eqb, lt-ltb, le-ltb}
use Rattle.std.proofs.lemmas.List.Concat.{flat_map-append}
use Rattle.std.proofs.lemmas.Option.{same_Some}
use Rattle.std.specs.List.{flat_map}
use Rattle.amqp_spool.specs.Entries.{Introduced, Recorded, IsRecorded, Entry, Introduction, Record, IsEntry, entry_text, AreEntries, IsBody, introduction, record_entry}
use Rattle.amqp_spool.specs.Names.{Names, nobody, known, after, named}
use Rattle.amqp_spool.specs.Waitings.{LinkState, LinksState, WaitingState, link_at, IsKept, IsMarked, told_here, told_again, link_of, HaveNone, AreKnown, IsTold, Waits, AddsRecord}
use Rattle.amqp_spool.specs.PutFaults.{IsPut}
use Rattle.amqp_spool.proofs.EntryTexts.{same_introductions}
use Rattle.amqp_spool.proofs.Naming.{after-append, named-append, after_on, known_same, known_other}

abbrev Puts : Type 0
Puts = List (Option Introduced × Recorded)

-- Entries of one link. ------------------------------------------------------------------------------------------------

abbrev pub AreOf : List Entry → ℕ → Type 0
AreOf [] l = Unit {0}
AreOf (e ∷ es) l = (link_of e ≡ l) × AreOf es l

after_others : (k : Names) (es : List Entry) (l n : ℕ) → AreOf es l → n ≢ l → after k es n ≡ k n
after_others k [] l n are other = refl
after_others k (Introduction i ∷ es) l n are other = after_others (known i k) es l n are.1 other ∙ known_other i k n (λ e. other (e ∙ are.0))
after_others k (Record r ∷ es) l n are other = after_others k es l n are.1 other

none_others : (es : List Entry) (l n : ℕ) → AreOf es l → n ≢ l → HaveNone es n
none_others [] l n are other = tt
none_others (e ∷ es) l n are other = (λ same. other (sym same ∙ are.0), none_others es l n are.1 other)

none_both : (xs ys : List Entry) (n : ℕ) → HaveNone xs n → HaveNone ys n → HaveNone (xs ++ ys) n
none_both [] ys n p q = q
none_both (e ∷ xs) ys n p q = (p.0, none_both xs ys n p.1 q)

none_front : (xs ys : List Entry) (n : ℕ) → HaveNone (xs ++ ys) n → HaveNone xs n
none_front [] ys n p = tt
none_front (e ∷ xs) ys n p = (p.0, none_front xs ys n p.1)

none_rest : (xs ys : List Entry) (n : ℕ) → HaveNone (xs ++ ys) n → HaveNone ys n
none_rest [] ys n p = p
none_rest (e ∷ xs) ys n p = none_rest xs ys n p.1

after_none : (k : Names) (es : List Entry) (n : ℕ) → HaveNone es n → after k es n ≡ k n
after_none k [] n none = refl
after_none k (Introduction i ∷ es) n none = after_none (known i k) es n none.1 ∙ known_other i k n (λ e. none.0 (sym e))
after_none k (Record r ∷ es) n none = after_none k es n none.1

-- records of other links have the senders that they had
named_none : (k m : Names) (es : List Entry) (l : ℕ) → ((n : ℕ) → n ≢ l → k n ≡ m n) → HaveNone es l → named k es ≡ named m es
named_none k m [] l same none = refl
named_none k m (Introduction i ∷ es) l same none = named_none (known i k) (known i m) es l (λ n other. ap (λ (o : Option Introduced). cond (eqb n i.link) (Some i) o) (same n other)) none.1
named_none k m (Record r ∷ es) l same none =
    ap (λ (o : Option Introduced). (o, r) ∷ named k es) (same r.link none.0) ∙ ap (λ (ps : Puts). (m r.link, r) ∷ ps) (named_none k m es l same none.1)

-- Bodies. -------------------------------------------------------------------------------------------------------------

are_both : (xs ys : List Entry) → AreEntries xs → AreEntries ys → AreEntries (xs ++ ys)
are_both [] ys p q = q
are_both (e ∷ xs) ys p q = (p.0, are_both xs ys p.1 q)

pub body_more : (body text : List ℕ) (es more : List Entry) → IsBody body es → IsBody text more → IsBody (body ++ text) (es ++ more)
body_more body text es more x y = record {
  are = are_both es more x.are y.are;
  whole = ap (λ (l : List ℕ). l ++ text) x.whole ∙ ap (λ (l : List ℕ). flat_map entry_text es ++ l) y.whole ∙ sym (flat_map-append entry_text es more);
}

pub body_none : IsBody [] []
body_none = record { are = tt; whole = refl }

pub body_one : (e : Entry) → IsEntry e → IsBody (entry_text e) (e ∷ [])
body_one e is = record { are = (is, tt); whole = sym (append-nil (entry_text e)) }

known_more : (puts : Puts) (i : Introduced) (r : Recorded) → AreKnown puts → AreKnown (puts ++ (Some i, r) ∷ [])
known_more [] i r are = ((i, refl), tt)
known_more (p ∷ puts) i r are = (are.0, known_more puts i r are.1)

-- One record more. ----------------------------------------------------------------------------------------------------

-- another link's
module _ (first next : ℕ) (es here again told before : List Entry) (l n : ℕ) (k : LinkState) (are : AreOf told l) (were : AreOf before l) (other : n ≢ l) where
  still_now : after nobody ((again ++ before) ++ (here ++ told)) n ≡ after nobody (again ++ here) n
  still_now =
      after-append nobody (again ++ before) (here ++ told) n
      ∙ after-append (after nobody (again ++ before)) here told n
      ∙ after_others (after (after nobody (again ++ before)) here) told l n are other
      ∙ after_on (after nobody (again ++ before)) (after nobody again) here n (after-append nobody again before n ∙ after_others (after nobody again) before l n were other)
      ∙ sym (after-append nobody again here n)

  told_still : IsTold first next es here again n k → IsTold first next es (here ++ told) (again ++ before) n k
  told_still t = record {
    from = t.from;
    kept = t.kept;
    past = t.past;
    knows = λ le. after-append (after nobody es) here told n ∙ after_others (after (after nobody es) here) told l n are other ∙ t.knows le;
    now = λ e. still_now ∙ t.now e;
    before = λ le lt.
        let none = t.before le lt in
        none_both (again ++ before) (here ++ told) n (none_both again before n (none_front again here n none) (none_others before l n were other)) (none_both here told n (none_rest again here n none) (none_others told l n are other));
  }

-- its link's
told_here_now : (first next : ℕ) (es here again : List Entry) (l : ℕ) (k : LinkState) (i : Introduced) → IsKept l k.text i → after (after nobody es) here l ≡ Some i → after nobody (again ++ here) l ≡ Some i
    → IsTold first next es here again l (record k { last = next })
told_here_now first next es here again l k i kept knows now = record { from = i; kept = kept; past = omega arith; knows = λ _. knows; now = λ _. now; before = λ _ lt. absurd (omega (arith, lt)) }

module _ (first next : ℕ) (es : List Entry) (puts : Puts) (old new : LinksState) (was now : WaitingState) (x : Waits first next es puts old was) (l : ℕ) (k : LinkState) (i : Introduced) (r : Recorded) where
  more : (told before : List Entry) → IsKept l k.text i → link_at old l ≡ Some k → IsMarked old new l next → AreOf told l → AreOf before l → IsBody now.here (x.here ++ told) → IsBody now.again (x.again ++ before)
      → named (after nobody es) (x.here ++ told) ≡ puts ++ (Some i, r) ∷ [] → named nobody ((x.again ++ before) ++ (x.here ++ told)) ≡ puts ++ (Some i, r) ∷ []
      → after (after nobody es) (x.here ++ told) l ≡ Some i → after nobody ((x.again ++ before) ++ (x.here ++ told)) l ≡ Some i → now.count ≡ was.count + 1 → Waits first next es (puts ++ (Some i, r) ∷ []) new now
  more told before kept is_open marked are were here_is again_is named_here named_anew knows knows_anew count = record {
    here = x.here ++ told;
    again = x.again ++ before;
    here_is = here_is;
    again_is = again_is;
    named_here = named_here;
    named_anew = named_anew;
    are_known = known_more puts i r x.are_known;
    counted = let long : length (puts ++ (Some i, r) ∷ []) ≡ length puts + 1 = length-append puts ((Some i, r) ∷ []) in omega (arith, long, count, x.counted);
    told = λ n link e. elim (cases_eq n l) [
      | inl same ↦ subst (λ (m : ℕ). IsTold first next es (x.here ++ told) (x.again ++ before) m link) (sym same) (
          subst (λ (q : LinkState). IsTold first next es (x.here ++ told) (x.again ++ before) l q) (
          same_Some (record k { last = next }) link (sym (marked.marked k is_open) ∙ ap (λ (m : ℕ). link_at new m) (sym same) ∙ e)
          ) (told_here_now first next es (x.here ++ told) (x.again ++ before) l k i kept knows knows_anew)
          )
      | inr other ↦ told_still first next es x.here x.again told before l n link are were other (x.told n link (sym (marked.others n other) ∙ e))
    ];
  }

-- The three cases of a put. -------------------------------------------------------------------------------------------

-- who is known of this link after entries before which it was introduced again
known_after : (k : Names) (i : Introduced) (es : List Entry) (l : ℕ) → i.link ≡ l → HaveNone es l → after (known i k) es l ≡ Some i
known_after k i es l same none = after_none (known i k) es l none ∙ known_same i k l (sym same)

module _ (first next : ℕ) (es : List Entry) (puts : Puts) (old new : LinksState) (was now : WaitingState) (x : Waits first next es puts old was) (l : ℕ) (k : LinkState) (i : Introduced) (r : Recorded) (of_link : r.link ≡ l) (recorded : IsRecorded r)
    (kept : IsKept l k.text i) (is_open : link_at old l ≡ Some k) (marked : IsMarked old new l next) (count : now.count ≡ was.count + 1) where
  -- a record with this sender
  of_sender : (n : Names) → n l ≡ Some i → named n (Record r ∷ []) ≡ (Some i, r) ∷ []
  of_sender n e = ap (λ (o : Option Introduced). (o, r) ∷ []) (ap (λ (m : ℕ). n m) of_link ∙ e)

  -- the segment doesn't know the link
  put_unknown : now.here ≡ was.here ++ k.text ++ record_entry r → now.again ≡ was.again → Waits first next es (puts ++ (Some i, r) ∷ []) new now
  put_unknown here_is again_is =
      let told : List Entry = Introduction i ∷ Record r ∷ [] in
      let body : IsBody (k.text ++ record_entry r) told =
      record { are = (kept.is, (recorded, tt)); whole = ap (λ (t : List ℕ). t ++ record_entry r) kept.whole ∙ ap (λ (t : List ℕ). introduction i ++ t) (sym (append-nil (record_entry r))) } in
      let sender = λ (n : Names). known_same i n l (sym kept.same) in
      let last = λ (n : Names). of_sender (known i n) (sender n) in
      let anew : (x.again ++ []) ++ (x.here ++ told) ≡ (x.again ++ x.here) ++ told = ap (λ (xs : List Entry). xs ++ (x.here ++ told)) (append-nil x.again) ∙ sym (append_assoc x.again x.here told) in
      more first next es puts old new was now x l k i r told [] kept is_open marked (kept.same, (of_link, tt)) tt
      (subst (λ (t : List ℕ). IsBody t (x.here ++ told)) (sym (here_is ∙ append_assoc was.here k.text (record_entry r))) (body_more was.here (k.text ++ record_entry r) x.here told x.here_is body))
      (subst (λ (t : List ℕ). IsBody t (x.again ++ [])) (sym again_is) (subst (λ (xs : List Entry). IsBody was.again xs) (sym (append-nil x.again)) x.again_is))
      (named-append (after nobody es) x.here told ∙ ap (λ (ps : Puts). ps ++ named (after (after nobody es) x.here) told) x.named_here ∙ ap (λ (ps : Puts). puts ++ ps) (last (after (after nobody es) x.here)))
      (ap (λ (xs : List Entry). named nobody xs) anew ∙ named-append nobody (x.again ++ x.here) told ∙ ap (λ (ps : Puts). ps ++ named (after nobody (x.again ++ x.here)) told) x.named_anew
      ∙ ap (λ (ps : Puts). puts ++ ps) (last (after nobody (x.again ++ x.here))))
      (after-append (after nobody es) x.here told l ∙ sender (after (after nobody es) x.here))
      (ap (λ (xs : List Entry). after nobody xs l) anew ∙ after-append nobody (x.again ++ x.here) told l ∙ sender (after nobody (x.again ++ x.here)))
      count

  record_body : now.here ≡ was.here ++ record_entry r → IsBody now.here (x.here ++ Record r ∷ [])
  record_body here_is = subst (λ (t : List ℕ). IsBody t (x.here ++ Record r ∷ [])) (sym here_is) (body_more was.here (record_entry r) x.here (Record r ∷ []) x.here_is (body_one (Record r) recorded))

  -- the segment knows it, and so does the record
  record_named : after (after nobody es) x.here l ≡ Some i → named (after nobody es) (x.here ++ Record r ∷ []) ≡ puts ++ (Some i, r) ∷ []
  record_named knows =
      named-append (after nobody es) x.here (Record r ∷ []) ∙ ap (λ (ps : Puts). ps ++ named (after (after nobody es) x.here) (Record r ∷ [])) x.named_here
      ∙ ap (λ (ps : Puts). puts ++ ps) (of_sender (after (after nobody es) x.here) knows)

  -- it has a record in the batch
  put_told : now.here ≡ was.here ++ record_entry r → now.again ≡ was.again → after (after nobody es) x.here l ≡ Some i → after nobody (x.again ++ x.here) l ≡ Some i → Waits first next es (puts ++ (Some i, r) ∷ []) new now
  put_told here_is again_is knows knows_anew =
      let told : List Entry = Record r ∷ [] in
      let anew : (x.again ++ []) ++ (x.here ++ told) ≡ (x.again ++ x.here) ++ told = ap (λ (xs : List Entry). xs ++ (x.here ++ told)) (append-nil x.again) ∙ sym (append_assoc x.again x.here told) in
      more first next es puts old new was now x l k i r told [] kept is_open marked (of_link, tt) tt (record_body here_is)
      (subst (λ (t : List ℕ). IsBody t (x.again ++ [])) (sym again_is) (subst (λ (xs : List Entry). IsBody was.again xs) (sym (append-nil x.again)) x.again_is))
      (record_named knows)
      (ap (λ (xs : List Entry). named nobody xs) anew ∙ named-append nobody (x.again ++ x.here) told ∙ ap (λ (ps : Puts). ps ++ named (after nobody (x.again ++ x.here)) told) x.named_anew
      ∙ ap (λ (ps : Puts). puts ++ ps) (of_sender (after nobody (x.again ++ x.here)) knows_anew))
      (after-append (after nobody es) x.here told l ∙ knows)
      (ap (λ (xs : List Entry). after nobody xs l) anew ∙ after-append nobody (x.again ++ x.here) told l ∙ knows_anew)
      count

  -- it has none
  put_again : now.here ≡ was.here ++ record_entry r → now.again ≡ was.again ++ k.text → after (after nobody es) x.here l ≡ Some i → HaveNone (x.again ++ x.here) l → Waits first next es (puts ++ (Some i, r) ∷ []) new now
  put_again here_is again_is knows none =
      let told : List Entry = Record r ∷ [] in
      let before : List Entry = Introduction i ∷ [] in
      let none_here = none_rest x.again x.here l none in
      let start = after nobody x.again in
      let began = λ (n : ℕ). after-append nobody x.again before n in
      let sender : after (known i start) x.here l ≡ Some i = known_after start i x.here l kept.same none_here in
      let same_named : named nobody (x.again ++ before) ≡ named nobody x.again = named-append nobody x.again before ∙ append-nil (named nobody x.again) in
      let here_named : named (after nobody (x.again ++ before)) (x.here ++ told) ≡ named start x.here ++ (Some i, r) ∷ [] =
      named-append (after nobody (x.again ++ before)) x.here told
      ∙ ap (λ (ps : Puts). ps ++ named (after (after nobody (x.again ++ before)) x.here) told) (named_none (after nobody (x.again ++ before)) start x.here l (λ n other. began n ∙ known_other i start n (λ e. other (e ∙ kept.same))) none_here)
      ∙ ap (λ (ps : Puts). named start x.here ++ ps) (of_sender (after (after nobody (x.again ++ before)) x.here) (after_on (after nobody (x.again ++ before)) (known i start) x.here l (began l) ∙ sender)) in
      more first next es puts old new was now x l k i r told before kept is_open marked (of_link, tt) (kept.same, tt) (record_body here_is)
      (subst (λ (t : List ℕ). IsBody t (x.again ++ before)) (sym (again_is ∙ ap (λ (t : List ℕ). was.again ++ t) kept.whole)) (body_more was.again (introduction i) x.again before x.again_is (body_one (Introduction i) kept.is)))
      (record_named knows)
      (named-append nobody (x.again ++ before) (x.here ++ told) ∙ ap (λ (ps : Puts). ps ++ named (after nobody (x.again ++ before)) (x.here ++ told)) same_named ∙ ap (λ (ps : Puts). named nobody x.again ++ ps) here_named
      ∙ sym (append_assoc (named nobody x.again) (named start x.here) ((Some i, r) ∷ [])) ∙ ap (λ (ps : Puts). ps ++ (Some i, r) ∷ []) (sym (named-append nobody x.again x.here) ∙ x.named_anew))
      (after-append (after nobody es) x.here told l ∙ knows)
      (after-append nobody (x.again ++ before) (x.here ++ told) l ∙ after-append (after nobody (x.again ++ before)) x.here told l ∙ after_on (after nobody (x.again ++ before)) (known i start) x.here l (began l) ∙ sender)
      count

-- What is told. -------------------------------------------------------------------------------------------------------

module _ (first next : ℕ) (k : LinkState) where
  here_unknown : k.last < first → told_here first k ≡ k.text
  here_unknown lt = rw (lt-ltb k.last first lt)

  again_unknown : k.last < first → told_again first next k ≡ []
  again_unknown lt = rw (lt-ltb k.last first lt)

  here_known : first ≤ k.last → told_here first k ≡ []
  here_known le = rw (le-ltb k.last first le)

  again_told : first ≤ k.last → k.last ≡ next → told_again first next k ≡ []
  again_told le e = rw (le-ltb k.last first le, eq-eqb k.last next e)

  again_untold : first ≤ k.last → (k.last ≡ next → ⊥) → told_again first next k ≡ k.text
  again_untold le ne = rw (le-ltb k.last first le, ne_eqb k.last next ne)

pub adds : (first next : ℕ) (old new : LinksState) (r : Recorded) (was now : WaitingState) → r.link < 2 ^ 32 → IsPut first next old was now r → IsMarked old new r.link next → AddsRecord first next old new r was now
adds first next old new r was now small put marked es puts i from x =
    let l = r.link in
    let k = put.link in
    let t = x.told l k put.is_open in
    let kept : IsKept l k.text i = subst (λ (q : LinkState). IsKept l q.text i) (same_Some from.link k (sym from.is_open ∙ put.is_open)) from.kept in
    let sender : t.from ≡ i = (same_introductions t.from i [] [] t.kept.is kept.is (ap (λ (s : List ℕ). s ++ []) (sym t.kept.whole ∙ kept.whole))).0 in
    let recorded : IsRecorded r = record { link = small; tag = put.short; message = put.whole.message; small = put.whole.small; front = put.whole.front; long = put.whole.long; whole = put.whole.whole } in
    let here : now.here ≡ was.here ++ told_here first k ++ record_entry r = ap (λ (w : WaitingState). w.here) put.put in
    let again : now.again ≡ was.again ++ told_again first next k = ap (λ (w : WaitingState). w.again) put.put in
    let count : now.count ≡ was.count + 1 = ap (λ (w : WaitingState). w.count) put.put in
    let known_here = λ (le : first ≤ k.last). here ∙ ap (λ (s : List ℕ). was.here ++ s ++ record_entry r) (here_known first next k le) ∙ ap (λ (s : List ℕ). s ++ record_entry r) (append-nil was.here) in
    elim (cases_lt k.last first) [
      | inl lt ↦ put_unknown first next es puts old new was now x l k i r refl recorded kept put.is_open marked count (here ∙ ap (λ (s : List ℕ). was.here ++ s ++ record_entry r) (here_unknown first next k lt))
          (again ∙ ap (λ (s : List ℕ). was.again ++ s) (again_unknown first next k lt) ∙ append-nil was.again)
      | inr le ↦
          let knows = t.knows le ∙ ap (λ (j : Introduced). Some j) sender in
          elim (cases_eq k.last next) [
            | inl e ↦ put_told first next es puts old new was now x l k i r refl recorded kept put.is_open marked count (known_here le) (again ∙ ap (λ (s : List ℕ). was.again ++ s) (again_told first next k le e) ∙ append-nil was.again) knows
                (t.now e ∙ ap (λ (j : Introduced). Some j) sender)
            | inr ne ↦ put_again first next es puts old new was now x l k i r refl recorded kept put.is_open marked count (known_here le) (again ∙ ap (λ (s : List ℕ). was.again ++ s) (again_untold first next k le ne)) knows
                (t.before le (omega (arith, t.past, ne)))
          ]
    ]
