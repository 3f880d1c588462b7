-- How many bytes a folder has at most.
use Rattle.std.proofs.Common.{◌≡◌, ℕ, ◌+◌, ◌≤◌, arith, List, [], ◌∷◌, ◌++◌, length, length-append, length-take, take, refl, sym, ap, subst, Option, Some, None, Result, Ok, Err, Bool, true, false, cond, eqb, ⊎_elim}
use Rattle.std.specs.Prelude.{sum_by}
use Rattle.std.proofs.lemmas.Grind.{common_steps}
use Rattle.amqp_spool.specs.declared.folder.FolderFault.{FolderFault}
use Rattle.amqp_spool.specs.declared.folder.FolderFault.TheVariants as fault
use Rattle.amqp_spool.specs.Folders.{Segment, State, File, Left, content, lengths, added_length, stored, most, size, making, whole_segment, MayWrite, IsAppended, IsSynced, IsAdded, AreTornTo, AreSomeOf, with_added, but_named, spare_left, IsLeft}
use Rattle.amqp_spool.specs.Journals.{HasMost, LeavesMost}

abbrev pub bytes_in : List File → ℕ
bytes_in fs = sum_by (λ f. length f.bytes) fs

bytes_one : (f : File) (fs : List File) → bytes_in (f ∷ fs) ≡ length f.bytes + bytes_in fs
bytes_one f fs = grind (arith, common_steps)

pub bytes_both : (fs gs : List File) → bytes_in (fs ++ gs) ≡ bytes_in fs + bytes_in gs
bytes_both fs gs = grind (arith, common_steps)

pub torn_most : (ss : List Segment) (fs : List File) → AreTornTo ss fs → bytes_in fs ≤ lengths ss
torn_most [] [] torn = omega arith
torn_most (s ∷ ss) (f ∷ fs) torn =
    let x = torn.0 in
    omega (arith, bytes_one f fs, torn_most ss fs torn.1, ap (λ (l : List ℕ). length l) x.whole, length-append s.kept x.torn, length-append s.kept s.tail, x.is.short)
torn_most [] (f ∷ fs) torn = absurd torn
torn_most (s ∷ ss) [] torn = absurd torn

pub some_most : (ss : List Segment) (fs : List File) → AreSomeOf ss fs → bytes_in fs ≤ lengths ss
some_most [] [] AreSomeOf.End = omega arith
some_most [] (f ∷ fs) x = elim x [ ]
some_most (s ∷ ss) fs (AreSomeOf.Gone rest) = omega (arith, some_most ss fs rest)
some_most (s ∷ ss) (f ∷ fs) (AreSomeOf.There _ first long rest) = omega (arith, some_most ss fs rest, bytes_one f fs, long)

but_most : (first : ℕ) (ss : List Segment) → lengths (but_named first ss) ≤ lengths ss
but_most first [] = omega arith
but_most first (s ∷ ss) = with_case (eqb s.first first)
  where
    with_case : (b : Bool) → lengths (cond b ss (s ∷ ss)) ≤ lengths (s ∷ ss)
    with_case true = omega arith
    with_case false = omega arith

with_most : (a : Option Segment) (there : Bool) (ss : List Segment) → lengths (with_added a there ss) ≤ lengths ss + added_length a
with_most (Some a) true ss = omega (arith, but_most a.first ss)
with_most (Some a) false ss = omega arith
with_most None there ss = omega arith

pub spare_most : (a : Option Segment) (there : Bool) (n : ℕ) → spare_left a there n ≤ n
spare_most (Some s) true n = omega arith
spare_most (Some s) false n = omega arith
spare_most None there n = omega arith

-- What a crash leaves has no more bytes.
pub left_most : (s : State) (c : Left) → IsLeft s c → size c ≤ most s
left_most s c x = omega (arith, ap bytes_in x.files, bytes_both x.there x.again, torn_most (with_added s.added x.added s.segments) x.there x.segments, with_most s.added x.added s.segments, some_most s.removed x.again x.removed, x.spare, spare_most s.added x.added s.spare)

pub leaves : (t : State) (used spare bound : ℕ) → HasMost used spare t → used + spare ≤ bound → LeavesMost bound t
leaves t used spare bound has le = λ c left. omega (arith, has.0, has.1, le, left_most t c left)

-- An append takes as many bytes as it writes, at most.
pub appended_has : (bytes : List ℕ) (r : Result (Unit {0}) FolderFault) (s t : State) (used spare : ℕ) → HasMost used spare s → MayWrite s → IsAppended bytes r s t → HasMost (used + length bytes) spare t
appended_has bytes (Ok x) s t used spare has w done =
    let seg = w.newest in
    let d = done seg w.rest w.is in (
      omega (arith, has.0, ap stored d, ap lengths w.is, length-append seg.kept (seg.tail ++ bytes), length-append seg.tail bytes, length-append seg.kept seg.tail),
      omega (arith, has.1, ap (λ (k : State). k.spare) d),
    )
appended_has bytes (Err f) s t used spare has w done =
    let seg = w.newest in
    let d = done seg w.rest w.is in (
      omega (arith, has.0, ap stored d.2, ap lengths w.is, length-append seg.kept (seg.tail ++ take d.0 bytes), length-append seg.tail (take d.0 bytes), length-append seg.kept seg.tail, length-take d.0 bytes, d.1),
      omega (arith, has.1, ap (λ (k : State). k.spare) d.2),
    )

pub appended_writes : (bytes : List ℕ) (x : Unit {0}) (s t : State) → MayWrite s → IsAppended bytes (Ok x) s t → MayWrite t
appended_writes bytes x s t w done =
    record { newest = record w.newest { tail = w.newest.tail ++ bytes }; rest = w.rest; is = ap (λ (k : State). k.segments) (done w.newest w.rest w.is); well = w.well }

pub synced_has : (r : Result (Unit {0}) FolderFault) (s t : State) (used spare : ℕ) → HasMost used spare s → MayWrite s → IsSynced r s t → HasMost used spare t
synced_has (Ok x) s t used spare has w done =
    let seg = w.newest in
    let d = done seg w.rest w.is in
    (omega (arith, has.0, ap stored d, ap lengths w.is, length-append seg.kept seg.tail, length-append (content seg) []), omega (arith, has.1, ap (λ (k : State). k.spare) d))
synced_has (Err f) s t used spare has w done =
    let d = done w.newest w.rest w.is in
    (omega (arith, has.0, ap stored d, ap lengths w.is), omega (arith, has.1, ap (λ (k : State). k.spare) d))

pub synced_writes : (x : Unit {0}) (s t : State) → MayWrite s → IsSynced (Ok x) s t → MayWrite t
synced_writes x s t w done =
    record { newest = record w.newest { kept = content w.newest; tail = [] }; rest = w.rest; is = ap (λ (k : State). k.segments) (done w.newest w.rest w.is); well = w.well }

-- So does a segment.
pub making_has : (n : ℕ) (s : State) (used spare : ℕ) → HasMost used spare s → n ≤ spare → HasMost used spare (making n s)
making_has n s used spare has le = (has.0, le)

pub full_has : (first : ℕ) (bytes : List ℕ) (s t : State) (used spare : ℕ) → HasMost used spare s → length bytes ≤ spare → IsAdded first bytes (Err fault.Full) s t → HasMost used spare t
full_has first bytes s t used spare has le done =
    ⊎_elim (λ is. subst (λ (k : State). HasMost used spare k) (sym is) has) (λ is. subst (λ (k : State). HasMost used spare k) (sym is) (making_has (length bytes) s used spare has le)) done

pub added_has : (first : ℕ) (bytes : List ℕ) (r : Result (Unit {0}) FolderFault) (s t : State) (used spare : ℕ) → HasMost used spare s → length bytes ≤ spare → IsAdded first bytes r s t → HasMost (used + length bytes) spare t
added_has first bytes (Ok x) s t used spare has le done =
    (omega (arith, has.0, ap stored done, but_most first s.segments, length-append bytes []), omega (arith, ap (λ (k : State). k.spare) done))
added_has first bytes (Err fault.Full) s t used spare has le done =
    let x = full_has first bytes s t used spare has le done in (omega (arith, x.0), x.1)
added_has first bytes (Err fault.Failed) s t used spare has le done =
    (omega (arith, has.0, ap stored done, length-append bytes []), omega (arith, le, ap (λ (k : State). k.spare) done))

pub added_writes : (first : ℕ) (bytes : List ℕ) (x : Unit {0}) (s t : State) → IsAdded first bytes (Ok x) s t → MayWrite t
added_writes first bytes x s t done = record { newest = whole_segment first bytes; rest = but_named first s.segments; is = ap (λ (k : State). k.segments) done; well = refl }

pub full_writes : (first : ℕ) (bytes : List ℕ) (s t : State) → MayWrite s → IsAdded first bytes (Err fault.Full) s t → MayWrite t
full_writes first bytes s t w done =
    ⊎_elim (λ is. subst (λ (k : State). MayWrite k) (sym is) w)
    (λ is. subst (λ (k : State). MayWrite k) (sym is) (record { newest = w.newest; rest = w.rest; is = w.is; well = w.well })) done
