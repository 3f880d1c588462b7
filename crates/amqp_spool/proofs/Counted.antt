-- How segments are counted.
use Rattle.std.proofs.Common.{◌≡◌, ℕ, ◌+◌, ◌≤◌, arith, eqb, cond, Bool, true, false, List, [], ◌∷◌, ◌++◌, length, length-append, length-take, ◌-◌, take, refl, sym, ap, ◌∙◌, subst, Result, Ok, Err, ⊎_elim}
use Rattle.std.proofs.lemmas.Bool.{false≢true}
use Rattle.std.proofs.lemmas.Grind.{common_steps}
use Rattle.amqp_spool.specs.declared.folder.FolderFault.{FolderFault}
use Rattle.amqp_spool.specs.declared.folder.FolderFault.TheVariants as fault
use Rattle.amqp_spool.specs.declared.segments.Named.{Named}
use Rattle.amqp_spool.specs.Counting.{total, grown, but, put, freed, AreCounted, HasCounts, IsExactly}
use Rattle.amqp_spool.specs.Folders.{MayWrite, Segment, State, content, lengths, with_newest, making, whole_segment, but_named, IsAppended, IsSynced, IsAdded, IsRaised, IsRemoved}
use Rattle.amqp_spool.specs.Journals.{HasMost, IsWell}

pub last_two : {A : Type 0} (list : List A) → 2 ≤ length list → (front : List A) × (a : A) × (b : A) × (list ≡ front ++ a ∷ b ∷ [])
last_two [] long = absurd (omega (arith, long))
last_two (x ∷ []) long = absurd (omega (arith, long))
last_two (x ∷ y ∷ []) long = ([], x, y, refl)
last_two {A} (x ∷ y ∷ z ∷ rest) long = let more = last_two (y ∷ z ∷ rest) (omega arith) in (x ∷ more.0, more.1, more.2, ap (λ (l : List A). x ∷ l) more.3)

pub total_one : (n : Named) (ns : List Named) → total (n ∷ ns) ≡ n.bytes + total ns
total_one n ns = grind (arith, common_steps)

-- What is counted is all that there may be.
pub lengths_most : (ns : List Named) (ss : List Segment) → AreCounted ns ss → lengths ss ≤ total ns
lengths_most [] [] are = omega arith
lengths_most (n ∷ ns) (s ∷ ss) are = omega (arith, are.1, lengths_most ns ss are.2, total_one n ns)
lengths_most [] (s ∷ ss) are = absurd are
lengths_most (n ∷ ns) [] are = absurd are

pub counts_most : (ns : List Named) (used most : ℕ) (t : State) → HasCounts ns used most t → HasMost used most t
counts_most ns used most t has = (omega (arith, lengths_most ns t.segments has.are, has.all), has.spare)

-- Exactly. -------------------------------------------------------------------------------------------------------------

pub exactly_grown : (bytes used : ℕ) (ns now : List Named) → now ≡ grown bytes ns → IsExactly used ns → IsExactly (used + bytes) now
exactly_grown bytes used [] now is e = absurd (omega (arith, e.some))
exactly_grown bytes used (n ∷ ns) now is e = record {
  is = omega (arith, e.is, ap total is, total_one n ns, total_one (record n { bytes = n.bytes + bytes }) ns);
  some = omega (arith, ap (λ (l : List Named). length l) is);
}

pub exactly_put : (n : Named) (used : ℕ) (ns now : List Named) → now ≡ put n ns → used ≡ n.bytes + total (but n.first ns) → IsExactly used now
exactly_put n used ns now is e = record { is = omega (arith, e, ap total is, total_one n (but n.first ns)); some = omega (arith, ap (λ (l : List Named). length l) is) }

-- They are counted through each call. ---------------------------------------------------------------------------------

pub total_but : (first : ℕ) (ns : List Named) → total ns ≡ freed first ns + total (but first ns)
total_but first [] = omega arith
total_but first (n ∷ ns) = by (eqb n.first first)
  where
    by : (b : Bool) → total (n ∷ ns) ≡ cond b n.bytes 0 + total (cond b ns (n ∷ ns))
    by true = total_one n ns
    by false = omega arith

-- where the newest has got more
are_grown : (ns : List Named) (newest other : Segment) (rest : List Segment) (len : ℕ) → AreCounted ns (newest ∷ rest) → other.first ≡ newest.first → length (content other) ≤ length (content newest) + len → AreCounted (grown len ns) (other ∷ rest)
are_grown [] newest other rest len are same small = absurd are
are_grown (n ∷ ns) newest other rest len are same small = (are.0 ∙ sym same, omega (arith, are.1, small), are.2)

total_grown : (ns : List Named) (newest : Segment) (rest : List Segment) (len : ℕ) → AreCounted ns (newest ∷ rest) → total (grown len ns) ≡ total ns + len
total_grown [] newest rest len are = absurd are
total_grown (n ∷ ns) newest rest len are = omega (arith, total_one n ns, total_one (record n { bytes = n.bytes + len }) ns)

well_grown : (ns : List Named) (used whole floor len : ℕ) (s t : State) (newest other : Segment) (rest : List Segment) → IsWell ns used whole floor s → s.segments ≡ newest ∷ rest → other.first ≡ newest.first
    → length (content other) ≤ length (content newest) + len → t ≡ with_newest other rest s → IsWell (grown len ns) (used + len) whole floor t
well_grown ns used whole floor len s t newest other rest well is same small done =
    let are : AreCounted ns (newest ∷ rest) = subst (λ (l : List Segment). AreCounted ns l) is well.counts.are in
    subst (λ (k : State). IsWell (grown len ns) (used + len) whole floor k) (sym done) (record {
      counts = record {
        are = are_grown ns newest other rest len are same small;
        all = omega (arith, well.counts.all, total_grown ns newest rest len are);
        spare = well.counts.spare;
      };
      added = well.added;
      floor_is = well.floor_is;
    })

pub well_appended : (bytes : List ℕ) (r : Result (Unit {0}) FolderFault) (ns : List Named) (used whole floor : ℕ) (s t : State) → IsWell ns used whole floor s → MayWrite s → IsAppended bytes r s t
    → IsWell (grown (length bytes) ns) (used + length bytes) whole floor t
well_appended bytes (Ok x) ns used whole floor s t well w done =
    let seg = w.newest in
    well_grown ns used whole floor (length bytes) s t seg (record seg { tail = seg.tail ++ bytes }) w.rest well w.is refl
    (omega (arith, length-append seg.kept (seg.tail ++ bytes), length-append seg.tail bytes, length-append seg.kept seg.tail)) (done seg w.rest w.is)
well_appended bytes (Err f) ns used whole floor s t well w done =
    let seg = w.newest in
    let d = done seg w.rest w.is in
    well_grown ns used whole floor (length bytes) s t seg (record seg { tail = seg.tail ++ take d.0 bytes; spent = true }) w.rest well w.is refl
    (omega (arith, length-append seg.kept (seg.tail ++ take d.0 bytes), length-append seg.tail (take d.0 bytes), length-append seg.kept seg.tail, length-take d.0 bytes)) d.2

grown_none : (ns : List Named) → grown 0 ns ≡ ns
grown_none [] = refl
grown_none (n ∷ ns) = ap (λ (k : ℕ). record n { bytes = k } ∷ ns) (omega arith)

none_more : (ns : List Named) (used whole floor : ℕ) (t : State) → IsWell (grown 0 ns) (used + 0) whole floor t → IsWell ns used whole floor t
none_more ns used whole floor t well = subst (λ (l : List Named). IsWell l used whole floor t) (grown_none ns) (subst (λ (k : ℕ). IsWell (grown 0 ns) k whole floor t) (omega arith) well)

pub well_synced : (r : Result (Unit {0}) FolderFault) (ns : List Named) (used whole floor : ℕ) (s t : State) → IsWell ns used whole floor s → MayWrite s → IsSynced r s t → IsWell ns used whole floor t
well_synced (Ok x) ns used whole floor s t well w done =
    let seg = w.newest in
    none_more ns used whole floor t (well_grown ns used whole floor 0 s t seg (record seg { kept = content seg; tail = [] }) w.rest well w.is refl (omega (arith, length-append (content seg) [])) (done seg w.rest w.is))
well_synced (Err f) ns used whole floor s t well w done =
    let seg = w.newest in
    none_more ns used whole floor t (well_grown ns used whole floor 0 s t seg (record seg { spent = true }) w.rest well w.is refl (omega arith) (done seg w.rest w.is))

well_made : (n : ℕ) (ns : List Named) (used whole floor : ℕ) (s : State) → IsWell ns used whole floor s → n ≤ whole → IsWell ns used whole floor (making n s)
well_made n ns used whole floor s well le = record { counts = record { are = well.counts.are; all = well.counts.all; spare = le }; added = well.added; floor_is = well.floor_is }

pub well_full : (first : ℕ) (bytes : List ℕ) (ns : List Named) (used whole floor : ℕ) (s t : State) → IsWell ns used whole floor s → length bytes ≤ whole → IsAdded first bytes (Err fault.Full) s t → IsWell ns used whole floor t
well_full first bytes ns used whole floor s t well le done =
    ⊎_elim (λ is. subst (λ (k : State). IsWell ns used whole floor k) (sym is) well) (λ is. subst (λ (k : State). IsWell ns used whole floor k) (sym is) (well_made (length bytes) ns used whole floor s well le)) done

pub are_put : (first len : ℕ) (bytes : List ℕ) (ns : List Named) (ss : List Segment) → length bytes ≤ len → AreCounted ns ss → AreCounted (put (record { first = first; bytes = len }) ns) (whole_segment first bytes ∷ but_named first ss)
are_put first len bytes [] [] le are = (refl, omega (arith, le, length-append bytes []), tt)
are_put first len bytes (n ∷ ns) (s ∷ ss) le are = (refl, omega (arith, le, length-append bytes []), by (eqb n.first first) (eqb s.first first) (ap (λ (k : ℕ). eqb k first) are.0))
  where
    by : (b c : Bool) → b ≡ c → AreCounted (cond b ns (n ∷ ns)) (cond c ss (s ∷ ss))
    by true true is = are.2
    by false false is = are
    by true false is = absurd (false≢true (sym is))
    by false true is = absurd (false≢true is)
are_put first len bytes [] (s ∷ ss) le are = absurd are
are_put first len bytes (n ∷ ns) [] le are = absurd are

pub well_added : (first len : ℕ) (bytes : List ℕ) (x : Unit {0}) (ns : List Named) (used now whole floor : ℕ) (s t : State) → IsWell ns used whole floor s → length bytes ≤ len → now + freed first ns ≡ used + len → IsAdded first bytes (Ok x) s t
    → IsWell (put (record { first = first; bytes = len }) ns) now whole floor t
well_added first len bytes x ns used now whole floor s t well le counts done =
    subst (λ (k : State). IsWell (put (record { first = first; bytes = len }) ns) now whole floor k) (sym done) (record {
      counts = record {
        are = are_put first len bytes ns s.segments le well.counts.are;
        all = omega (arith, well.counts.all, counts, total_but first ns, total_one (record { first = first; bytes = len }) (but first ns));
        spare = omega arith;
      };
      added = well.added;
      floor_is = well.floor_is;
    })

pub well_raised : (n : ℕ) (x : Unit {0}) (ns : List Named) (used whole floor : ℕ) (s t : State) → IsWell ns used whole floor s → floor ≤ n → IsRaised n (Ok x) s t → IsWell ns used whole n t
well_raised n x ns used whole floor s t well le done =
    subst (λ (k : State). IsWell ns used whole n k) (sym done) (record { counts = record { are = well.counts.are; all = well.counts.all; spare = well.counts.spare }; added = well.added; floor_is = omega (arith, well.floor_is, le) })

pub well_unraised : (n : ℕ) (f : FolderFault) (ns : List Named) (used whole floor : ℕ) (s t : State) → IsWell ns used whole floor s → IsRaised n (Err f) s t → IsWell ns used whole floor t
well_unraised n f ns used whole floor s t well done =
    subst (λ (k : State). IsWell ns used whole floor k) (sym done) (record { counts = record { are = well.counts.are; all = well.counts.all; spare = well.counts.spare }; added = well.added; floor_is = well.floor_is })

-- The oldest is taken from both.
pub last_of : (front : List Named) (n : Named) (ss : List Segment) → AreCounted (front ++ n ∷ []) ss → (others : List Segment) × (s : Segment) × (ss ≡ others ++ s ∷ []) × AreCounted front others × (length (content s) ≤ n.bytes)
last_of [] n [] are = absurd are
last_of [] n (s ∷ []) are = ([], s, refl, tt, are.1)
last_of [] n (s ∷ t ∷ ss) are = absurd are.2
last_of (m ∷ front) n [] are = absurd are
last_of (m ∷ front) n (s ∷ ss) are =
    let r = last_of front n ss are.2 in
    (s ∷ r.0, r.1, ap (λ (l : List Segment). s ∷ l) r.2, (are.0, are.1, r.3), r.4)

pub total_last : (front : List Named) (n : Named) → total (front ++ n ∷ []) ≡ total front + n.bytes
total_last [] n = omega (arith, total_one n [])
total_last (m ∷ front) n = omega (arith, total_last front n, total_one m front, total_one m (front ++ n ∷ []))

pub well_removed : (x : Unit {0}) (front : List Named) (n : Named) (used whole floor : ℕ) (s t : State) → IsWell (front ++ n ∷ []) used whole floor s → IsRemoved (Ok x) s t → IsWell front (used - n.bytes) whole floor t
well_removed x front n used whole floor s t well done =
    let r = last_of front n s.segments well.counts.are in
    subst (λ (k : State). IsWell front (used - n.bytes) whole floor k) (sym (done r.0 r.1 r.2)) (record {
      counts = record { are = r.3; all = omega (arith, well.counts.all, total_last front n); spare = well.counts.spare };
      added = well.added;
      floor_is = well.floor_is;
    })

-- A removal that failed leaves all as it may be.
lengths_last : (ss : List Segment) (s : Segment) → lengths (ss ++ s ∷ []) ≡ lengths ss + length (content s)
lengths_last [] s = omega arith
lengths_last (o ∷ ss) s = omega (arith, lengths_last ss s)

pub unremoved_has : (f : FolderFault) (front : List Named) (n : Named) (used whole floor : ℕ) (s t : State) → IsWell (front ++ n ∷ []) used whole floor s → IsRemoved (Err f) s t → HasMost used whole t
unremoved_has f front n used whole floor s t well done =
    let r = last_of front n s.segments well.counts.are in
    let before = counts_most (front ++ n ∷ []) used whole s well.counts in
    subst (λ (k : State). HasMost used whole k) (sym (done r.0 r.1 r.2)) (omega (arith, before.0, ap lengths r.2, lengths_last r.0 r.1), before.1)

pub well_most : (ns : List Named) (used whole floor : ℕ) (t : State) → IsWell ns used whole floor t → HasMost used whole t
well_most ns used whole floor t well = counts_most ns used whole t well.counts

-- what is counted in any case
pub grown_most : (len : ℕ) (ns : List Named) → total (grown len ns) ≤ total ns + len
grown_most len [] = omega arith
grown_most len (n ∷ ns) = omega (arith, total_one n ns, total_one (record n { bytes = n.bytes + len }) ns)

pub put_is : (n : Named) (ns : List Named) → total (put n ns) + freed n.first ns ≡ n.bytes + total ns
put_is n ns = omega (arith, total_but n.first ns, total_one n (but n.first ns))

pub freed_most : (first : ℕ) (ns : List Named) → freed first ns ≤ total ns
freed_most first ns = omega (arith, total_but first ns)
