-- The floor is raised, and segments are removed.
use Rattle.std.proofs.Common.{◌≡◌, ℕ, ◌+◌, ◌-◌, ◌≤◌, arith, Bool, false, List, [], ◌∷◌, ◌++◌, append_assoc, append-nil, refl, sym, ap, ◌∙◌, subst, Some, None, Result, Ok, Err}
use Rattle.amqp_spool.specs.declared.folder.FolderFault.{FolderFault}
use Rattle.amqp_spool.specs.declared.segments.Named.{Named}
use Rattle.amqp_spool.specs.Batches.{Batch}
use Rattle.amqp_spool.specs.Chapters.{Chapter, Chained, AreIn, Holds, IsAt, Reaches, oldest, StaysOn}
use Rattle.amqp_spool.specs.Folders.{Segment, State, History, Now, Since, Goes, MayWrite, IsRaised, IsRemoved}
use Rattle.amqp_spool.specs.Counting.{AreCounted}
use Rattle.amqp_spool.specs.declared.journal.Journal.{Journal}
use Rattle.amqp_spool.specs.declared.journal.JournalFault.{JournalFault}
use Rattle.amqp_spool.specs.declared.journal.JournalFault.TheVariants as journal
use Rattle.amqp_spool.specs.Journals.{IsTended, IsLeftIn, Stands, StandsAt, HaveLimits, HasMost, LeavesMost, HasFloor, IsWell}
use Rattle.amqp_spool.proofs.Histories.{since_none, since_since, since_and, since_now, goes_now, goes_since, now_both}
use Rattle.amqp_spool.proofs.Kept.{stays_on}
use Rattle.amqp_spool.proofs.Mosts.{leaves}
use Rattle.amqp_spool.proofs.Counted.{well_raised, well_unraised, well_removed, unremoved_has, well_most}
use Rattle.amqp_spool.proofs.Reaching.{reach, chained_front, are_in_front}

-- The floor. ----------------------------------------------------------------------------------------------------------

raised_has : (n : ℕ) (r : Result (Unit {0}) FolderFault) (used spare : ℕ) (s t : State) → HasMost used spare s → IsRaised n r s t → HasMost used spare t
raised_has n (Ok x) used spare s t has done = subst (λ (k : State). HasMost used spare k) (sym done) (has.0, has.1)
raised_has n (Err f) used spare s t has done = subst (λ (k : State). HasMost used spare k) (sym done) (has.0, has.1)

raised_writes : (n : ℕ) (r : Result (Unit {0}) FolderFault) (s t : State) → MayWrite s → IsRaised n r s t → MayWrite t
raised_writes n (Ok x) s t w done = record { newest = w.newest; rest = w.rest; is = ap (λ (k : State). k.segments) done ∙ w.is; well = w.well }
raised_writes n (Err f) s t w done = record { newest = w.newest; rest = w.rest; is = ap (λ (k : State). k.segments) done ∙ w.is; well = w.well }

raised_holds : (n : ℕ) (r : Result (Unit {0}) FolderFault) (ch : Chapter) (chs : List Chapter) (s t : State) → Holds ch chs s → IsRaised n r s t → Holds ch chs t
raised_holds n (Ok x) ch chs s t is done = record {
  chained = is.chained;
  newest = is.newest;
  older = is.older;
  segments = ap (λ (k : State). k.segments) done ∙ is.segments;
  first = is.first;
  kept = is.kept;
  are = is.are;
  added = ap (λ (k : State). k.added) done ∙ is.added;
  low = omega (arith, is.low, ap (λ (k : State). k.floor) done);
}
raised_holds n (Err f) ch chs s t is done = record {
  chained = is.chained;
  newest = is.newest;
  older = is.older;
  segments = ap (λ (k : State). k.segments) done ∙ is.segments;
  first = is.first;
  kept = is.kept;
  are = is.are;
  added = ap (λ (k : State). k.added) done ∙ is.added;
  low = omega (arith, is.low, ap (λ (k : State). k.floor) done);
}

raised_at : (n : ℕ) (r : Result (Unit {0}) FolderFault) (ch : Chapter) (chs : List Chapter) (s t : State) → IsAt ch chs s → IsRaised n r s t → IsAt ch chs t
unfolding raised_holds
raised_at n (Ok x) ch chs s t is done = record { holds = raised_holds n (Ok x) ch chs s t is.holds done; all = is.all; well = is.well }
raised_at n (Err f) ch chs s t is done = record { holds = raised_holds n (Err f) ch chs s t is.holds done; all = is.all; well = is.well }

raised_floor : (n m : ℕ) (r : Result (Unit {0}) FolderFault) (s t : State) → n ≤ m → HasFloor m s → IsRaised n r s t → HasFloor m t
raised_floor n m (Ok x) s t le has done = omega (arith, le, has, ap (λ (k : State). k.raised) done)
raised_floor n m (Err f) s t le has done = omega (arith, le, has, ap (λ (k : State). k.raised) done)

module _ (n : ℕ) (r : Result (Unit {0}) FolderFault) (h k : History) (goes : Goes (IsRaised n r) h k) where
  pub most_raised : (used spare : ℕ) → Now (HasMost used spare) h → Now (HasMost used spare) k
  most_raised used spare now = goes_now (IsRaised n r) (HasMost used spare) (HasMost used spare) h k goes now (λ s t p q. raised_has n r used spare s t p q)

  pub bound_raised : (used spare bound : ℕ) → Now (HasMost used spare) h → used + spare ≤ bound → Since (LeavesMost bound) h k
  bound_raised used spare bound now le = goes_since (IsRaised n r) (HasMost used spare) (LeavesMost bound) h k goes now (λ s t p q. leaves t used spare bound (raised_has n r used spare s t p q) le)

  pub still_writes : Now MayWrite h → Now MayWrite k
  still_writes now = goes_now (IsRaised n r) MayWrite MayWrite h k goes now (λ s t p q. raised_writes n r s t p q)

  pub still_holds : (ch : Chapter) (chs : List Chapter) → Now (Holds ch chs) h → Now (Holds ch chs) k
  still_holds ch chs now = goes_now (IsRaised n r) (Holds ch chs) (Holds ch chs) h k goes now (λ s t p q. raised_holds n r ch chs s t p q)

  pub still_at : (ch : Chapter) (chs : List Chapter) → Now (IsAt ch chs) h → Now (IsAt ch chs) k
  still_at ch chs now = goes_now (IsRaised n r) (IsAt ch chs) (IsAt ch chs) h k goes now (λ s t p q. raised_at n r ch chs s t p q)

  pub still_keeps : (ch : Chapter) (chs : List Chapter) → Now (Holds ch chs) h → Since (StaysOn ch chs) h k
  still_keeps ch chs now = goes_since (IsRaised n r) (Holds ch chs) (StaysOn ch chs) h k goes now (λ s t p q. stays_on ch chs t (raised_holds n r ch chs s t p q))

  pub floor_since : (m : ℕ) → n ≤ m → Now (HasFloor m) h → Since (HasFloor m) h k
  floor_since m le now = goes_since (IsRaised n r) (HasFloor m) (HasFloor m) h k goes now (λ s t p q. raised_floor n m r s t le p q)

pub now_raised : (n : ℕ) (x : Unit {0}) (h k : History) → Goes (IsRaised n (Ok x)) h k → (ns : List Named) (used whole floor : ℕ) → Now (IsWell ns used whole floor) h → floor ≤ n → Now (IsWell ns used whole n) k
now_raised n x h k goes ns used whole floor now le = goes_now (IsRaised n (Ok x)) (IsWell ns used whole floor) (IsWell ns used whole n) h k goes now (λ s t p q. well_raised n x ns used whole floor s t p le q)

pub now_unraised : (n : ℕ) (f : FolderFault) (h k : History) → Goes (IsRaised n (Err f)) h k → (ns : List Named) (used whole floor : ℕ) → Now (IsWell ns used whole floor) h → Now (IsWell ns used whole floor) k
now_unraised n f h k goes ns used whole floor now = goes_now (IsRaised n (Err f)) (IsWell ns used whole floor) (IsWell ns used whole floor) h k goes now (λ s t p q. well_unraised n f ns used whole floor s t p q)

-- Removal. ------------------------------------------------------------------------------------------------------------

abbrev no_segment : Segment
no_segment = record { first = 0; kept = []; tail = []; spent = false }

abbrev first_segment : List Segment → Segment
first_segment [] = no_segment
first_segment (s ∷ ss) = s

abbrev other_segments : List Segment → List Segment
other_segments [] = []
other_segments (s ∷ ss) = ss

removed_segments : (r : Result (Unit {0}) FolderFault) (s t : State) (front : List Segment) (o : Segment) → s.segments ≡ front ++ o ∷ [] → IsRemoved r s t → (t.segments ≡ front) × (t.added ≡ s.added) × (t.floor ≡ s.floor)
removed_segments (Ok x) s t front o is done = let d = done front o is in (ap (λ (k : State). k.segments) d, ap (λ (k : State). k.added) d, ap (λ (k : State). k.floor) d)
removed_segments (Err f) s t front o is done = let d = done front o is in (ap (λ (k : State). k.segments) d, ap (λ (k : State). k.added) d, ap (λ (k : State). k.floor) d)

pub reaches_low : (floor : ℕ) (ch : Chapter) (chs : List Chapter) → Reaches floor (ch ∷ chs) → (oldest ch chs).head.first ≤ floor + 1
reaches_low floor ch [] is = is
reaches_low floor ch (a ∷ chs) is = reaches_low floor a chs is.1

-- What is after the chapters may go: the segment before the oldest begins at most where the floor says.
are_left : (floor : ℕ) (ch : Chapter) (xs : List Chapter) (newest : Segment) (older front : List Segment) (b o : Segment) → Reaches floor (ch ∷ xs) → newest.first ≡ ch.head.first → AreIn xs older → newest ∷ older ≡ front ++ b ∷ o ∷ []
    → b.first ≤ floor + 1 → (others : List Segment) × (older ≡ others ++ o ∷ []) × AreIn xs others
are_left floor ch [] newest older [] b o reaches first are is low = ([], ap other_segments is, tt)
are_left floor ch [] newest older (f ∷ front) b o reaches first are is low = (front ++ b ∷ [], ap other_segments is ∙ sym (append_assoc front (b ∷ []) (o ∷ [])), tt)
are_left floor ch (x ∷ xs) newest [] front b o reaches first are is low = absurd are
are_left floor ch (x ∷ xs) newest (n ∷ older) [] b o reaches first are is low = absurd (omega (arith, reaches.0, first, low, ap (λ (s : Segment). s.first) (ap first_segment is)))
are_left floor ch (x ∷ xs) newest (n ∷ older) (f ∷ front) b o reaches first are is low =
    let r = are_left floor x xs n older front b o reaches.1 are.0.first are.1 (ap other_segments is) low in
    (n ∷ r.0, ap (λ (l : List Segment). n ∷ l) r.1, (are.0, r.2))

-- and nothing that is told goes with it
pub removed_holds : (r : Result (Unit {0}) FolderFault) (ch : Chapter) (chs : List Chapter) (front : List Segment) (b o : Segment) (s t : State) (is : Holds ch chs s) → s.segments ≡ front ++ b ∷ o ∷ [] → b.first ≤ s.floor + 1 → IsRemoved r s t
    → (xs : List Chapter) × (ys : List Chapter) × (chs ≡ xs ++ ys) × ((here : Holds ch xs t) × (here.newest ≡ is.newest))
removed_holds r ch chs front b o s t is two low done =
    let back = reach s.floor ch chs is.low in
    let chained : Chained (ch ∷ (back.0 ++ back.1)) = subst (λ (l : List Chapter). Chained (ch ∷ l)) back.2 is.chained in
    let are : AreIn (back.0 ++ back.1) is.older = subst (λ (l : List Chapter). AreIn l is.older) back.2 is.are in
    let left = are_left s.floor ch back.0 is.newest is.older front b o back.3 is.first (are_in_front back.0 back.1 is.older are) (sym is.segments ∙ two) low in
    let whole : s.segments ≡ (is.newest ∷ left.0) ++ o ∷ [] = is.segments ∙ ap (λ (l : List Segment). is.newest ∷ l) left.1 in
    let segments = removed_segments r s t (is.newest ∷ left.0) o whole done in (
      back.0,
      back.1,
      back.2,
      (
        record {
          chained = chained_front ch back.0 back.1 chained;
          newest = is.newest;
          older = left.0;
          segments = segments.0;
          first = is.first;
          kept = is.kept;
          are = left.2;
          added = segments.1 ∙ is.added;
          low = omega (arith, segments.2, reaches_low s.floor ch back.0 back.3);
        },
        refl,
      ),
    )

-- with older ones that are gone
stays_in : (ch : Chapter) (chs xs ys : List Chapter) (t : State) → chs ≡ xs ++ ys → StaysOn ch xs t → StaysOn ch chs t
stays_in ch chs xs ys t whole is = λ c left.
    let s = is c left in (
      s.0,
      λ dh ds r.
          let m = s.1 dh ds r in
          record { more = m.more; newest = m.newest; rest = m.rest ++ ys; older = whole ∙ ap (λ (l : List Chapter). l ++ ys) m.older ∙ append_assoc ds m.rest ys },
    )

at_newest : (ch : Chapter) (chs xs : List Chapter) (s t : State) (is : Holds ch chs s) (here : Holds ch xs t) → here.newest ≡ is.newest → IsAt ch chs s → IsAt ch xs t
at_newest ch chs xs s t is here same at =
    let one : here.newest ≡ at.holds.newest = same ∙ ap first_segment (sym is.segments ∙ at.holds.segments) in
    record { holds = here; all = ap (λ (x : Segment). x.tail) one ∙ at.all; well = ap (λ (x : Segment). x.spent) one ∙ at.well }

-- The two oldest, as they are counted.
last_two_of : (front : List Named) (a b : Named) (ss : List Segment) → AreCounted (front ++ a ∷ b ∷ []) ss → (others : List Segment) × (s : Segment) × (o : Segment) × (ss ≡ others ++ s ∷ o ∷ []) × (a.first ≡ s.first)
last_two_of [] a b [] are = absurd are
last_two_of [] a b (s ∷ []) are = absurd are.2
last_two_of [] a b (s ∷ o ∷ []) are = ([], s, o, refl, are.0)
last_two_of [] a b (s ∷ o ∷ p ∷ ss) are = absurd are.2.2
last_two_of (n ∷ front) a b [] are = absurd are
last_two_of (n ∷ front) a b (s ∷ ss) are = let r = last_two_of front a b ss are.2 in (s ∷ r.0, r.1, r.2, ap (λ (l : List Segment). s ∷ l) r.3, r.4)

still_first : (front : List Segment) (b o : Segment) (s t : State) → s.segments ≡ front ++ b ∷ o ∷ [] → t.segments ≡ front ++ b ∷ [] → MayWrite s → MayWrite t
still_first [] b o s t before after w = record { newest = b; rest = []; is = after; well = ap (λ (l : List Segment). (first_segment l).spent) (sym before ∙ w.is) ∙ w.well }
still_first (f ∷ front) b o s t before after w = record { newest = f; rest = front ++ b ∷ []; is = after; well = ap (λ (l : List Segment). (first_segment l).spent) (sym before ∙ w.is) ∙ w.well }

module _ (front : List Named) (a b : Named) (used whole floor : ℕ) (h k : History) (well : Now (IsWell (front ++ a ∷ b ∷ []) used whole floor) h) where
  abbrev Known : State → Type 0
  Known = IsWell (front ++ a ∷ b ∷ []) used whole floor

  as_two : front ++ a ∷ b ∷ [] ≡ (front ++ a ∷ []) ++ b ∷ []
  as_two = sym (append_assoc front (a ∷ []) (b ∷ []))

  known : (s : State) → Known s → IsWell ((front ++ a ∷ []) ++ b ∷ []) used whole floor s
  known s w = subst (λ (l : List Named). IsWell l used whole floor s) as_two w

  pub removed_well : (x : Unit {0}) → Goes (IsRemoved (Ok x)) h k → Now (IsWell (front ++ a ∷ []) (used - b.bytes) whole floor) k
  removed_well x goes = goes_now (IsRemoved (Ok x)) Known (IsWell (front ++ a ∷ []) (used - b.bytes) whole floor) h k goes well (λ s t p q. well_removed x (front ++ a ∷ []) b used whole floor s t (known s p) q)

  has_removed : (r : Result (Unit {0}) FolderFault) (s t : State) → Known s → IsRemoved r s t → HasMost used whole t
  has_removed (Ok x) s t p q = let w = well_most (front ++ a ∷ []) (used - b.bytes) whole floor t (well_removed x (front ++ a ∷ []) b used whole floor s t (known s p) q) in (omega (arith, w.0), w.1)
  has_removed (Err f) s t p q = unremoved_has f (front ++ a ∷ []) b used whole floor s t (known s p) q

  pub removed_most : (r : Result (Unit {0}) FolderFault) → Goes (IsRemoved r) h k → Now (HasMost used whole) k
  removed_most r goes = goes_now (IsRemoved r) Known (HasMost used whole) h k goes well (λ s t p q. has_removed r s t p q)

  pub removed_since : (r : Result (Unit {0}) FolderFault) (bound : ℕ) → used + whole ≤ bound → Goes (IsRemoved r) h k → Since (LeavesMost bound) h k
  removed_since r bound le goes = goes_since (IsRemoved r) Known (LeavesMost bound) h k goes well (λ s t p q. leaves t used whole bound (has_removed r s t p q) le)

  writes : (x : Unit {0}) (s t : State) → Known s → MayWrite s → IsRemoved (Ok x) s t → MayWrite t
  writes x s t p w q =
      let two = last_two_of front a b s.segments p.counts.are in
      let whole_one : s.segments ≡ (two.0 ++ two.1 ∷ []) ++ two.2 ∷ [] = two.3 ∙ sym (append_assoc two.0 (two.1 ∷ []) (two.2 ∷ [])) in
      still_first two.0 two.1 two.2 s t two.3 (removed_segments (Ok x) s t (two.0 ++ two.1 ∷ []) two.2 whole_one q).0 w

  pub removed_writes : (x : Unit {0}) → Goes (IsRemoved (Ok x)) h k → Now MayWrite h → Now MayWrite k
  removed_writes x goes now = goes_now (IsRemoved (Ok x)) (λ s. Known s × MayWrite s) MayWrite h k goes (now_both Known MayWrite h well now) (λ s t p q. writes x s t p.0 p.1 q)

  module _ (low : a.first ≤ floor + 1) (ch : Chapter) (chs : List Chapter) where
    low_of : (s : State) → Known s → (b : Segment) → a.first ≡ b.first → b.first ≤ s.floor + 1
    low_of s p b is = omega (arith, low, is, p.floor_is)

    keeps_removed : (r : Result (Unit {0}) FolderFault) (s t : State) → Known s → Holds ch chs s → IsRemoved r s t → StaysOn ch chs t
    keeps_removed r s t p is q =
        let two = last_two_of front a b s.segments p.counts.are in
        let m = removed_holds r ch chs two.0 two.1 two.2 s t is two.3 (low_of s p two.1 two.4) q in
        stays_in ch chs m.0 m.1 t m.2 (stays_on ch m.0 t m.3.0)

    pub removed_keeps : (r : Result (Unit {0}) FolderFault) → Goes (IsRemoved r) h k → Now (Holds ch chs) h → Since (StaysOn ch chs) h k
    removed_keeps r goes now = goes_since (IsRemoved r) (λ s. Known s × Holds ch chs s) (StaysOn ch chs) h k goes (now_both Known (Holds ch chs) h well now) (λ s t p q. keeps_removed r s t p.0 p.1 q)

-- where it goes on
pub record IsLeftWith (ch : Chapter) (chs : List Chapter) (spent : Bool) (k : History) : Type 0 where
  pub older : List Chapter
  pub others : List Chapter
  pub all : chs ≡ older ++ others
  pub holds : Now (Holds ch older) k
  pub at : spent ≡ false → Now (IsAt ch older) k

pub goes_on : (front : List Named) (a b : Named) (used whole floor : ℕ) (h k : History) → Now (IsWell (front ++ a ∷ b ∷ []) used whole floor) h → a.first ≤ floor + 1 → (r : Result (Unit {0}) FolderFault) → Goes (IsRemoved r) h k
    → (ch : Chapter) (chs : List Chapter) (spent : Bool) → Now (Holds ch chs) h → (spent ≡ false → Now (IsAt ch chs) h) → IsLeftWith ch chs spent k
goes_on front a b used whole floor (Some (s ∷ past)) k well low r goes ch chs spent holds at =
    let t = goes.0 in
    let two = last_two_of front a b s.segments well.counts.are in
    let below : two.1.first ≤ s.floor + 1 = omega (arith, low, two.4, well.floor_is) in
    let m = removed_holds r ch chs two.0 two.1 two.2 s t holds two.3 below goes.2 in
    record {
      older = m.0;
      others = m.1;
      all = m.2;
      holds = subst (λ (x : History). Now (Holds ch m.0) x) (sym goes.1) m.3.0;
      at = λ w. subst (λ (x : History). Now (IsAt ch m.0) x) (sym goes.1) (at_newest ch chs m.0 s t holds m.3.0 m.3.1 (at w));
    }
goes_on front a b used whole floor (Some []) k well low r goes ch chs spent holds at = absurd holds
goes_on front a b used whole floor None k well low r goes ch chs spent holds at = record {
  older = chs;
  others = [];
  all = sym (append-nil chs);
  holds = subst (λ (x : History). Now (Holds ch chs) x) (sym goes) tt;
  at = λ _. subst (λ (x : History). Now (IsAt ch chs) x) (sym goes) tt;
}

removed_raised : (r : Result (Unit {0}) FolderFault) (s t : State) (front : List Segment) (o : Segment) → s.segments ≡ front ++ o ∷ [] → IsRemoved r s t → t.raised ≡ s.raised
removed_raised (Ok x) s t front o is done = ap (λ (k : State). k.raised) (done front o is)
removed_raised (Err f) s t front o is done = ap (λ (k : State). k.raised) (done front o is)

pub removed_floor : (r : Result (Unit {0}) FolderFault) (n : ℕ) (front : List Named) (a b : Named) (used whole floor : ℕ) (h k : History) → Now (IsWell (front ++ a ∷ b ∷ []) used whole floor) h → Goes (IsRemoved r) h k → Now (HasFloor n) h → Since (HasFloor n) h k
removed_floor r n front a b used whole floor h k well goes now =
    goes_since (IsRemoved r) (λ s. IsWell (front ++ a ∷ b ∷ []) used whole floor s × HasFloor n s) (HasFloor n) h k goes (now_both (IsWell (front ++ a ∷ b ∷ []) used whole floor) (HasFloor n) h well now) (λ s t p q. by s t p.0 p.1 r q)
  where
    by : (s t : State) → IsWell (front ++ a ∷ b ∷ []) used whole floor s → HasFloor n s → (r : Result (Unit {0}) FolderFault) → IsRemoved r s t → HasFloor n t
    by s t w has r q =
        let two = last_two_of front a b s.segments w.counts.are in
        let one : s.segments ≡ (two.0 ++ two.1 ∷ []) ++ two.2 ∷ [] = two.3 ∙ sym (append_assoc two.0 (two.1 ∷ []) (two.2 ∷ [])) in
        omega (arith, has, removed_raised r s t (two.0 ++ two.1 ∷ []) two.2 one q)

-- One after the other.
pub left_still : {F : Type 0} (history : F → History) (all : List Batch) (j : Journal F) (it : Stands history all j) → IsLeftIn history all it j
left_still history all j it = record { now = it; chapter = refl; gone = []; older = sym (append-nil it.older) }

pub left_same : {F : Type 0} (history : F → History) (all : List Batch) (old new : Journal F) (it : Stands history all old) (at : StandsAt history it.chapter it.older new) → IsLeftIn history all it new
left_same history all old new it at = record { now = record { chapter = it.chapter; older = it.older; told = it.told; at = at }; chapter = refl; gone = []; older = sym (append-nil it.older) }

pub tended_still : {F : Type 0} {A : Type 0} (history : F → History) (all : List Batch) (r : Result A JournalFault) (j : Journal F) (it : Stands history all j) → IsTended history all r j j it
tended_still history all r j it = record { stands = λ _. left_still history all j it; kept = since_none (StaysOn it.chapter it.older) (history j.folder) }

left_then : {F : Type 0} (history : F → History) (all : List Batch) (a b c : Journal F) (it : Stands history all a) (first : IsLeftIn history all it b) → IsLeftIn history all first.now c → IsLeftIn history all it c
left_then history all a b c it first then = record {
  now = then.now;
  chapter = then.chapter ∙ first.chapter;
  gone = then.gone ++ first.gone;
  older = first.older ∙ ap (λ (l : List Chapter). l ++ first.gone) then.older ∙ append_assoc then.now.older then.gone first.gone;
}

left_stays : {F : Type 0} (history : F → History) (all : List Batch) (a b : Journal F) (it : Stands history all a) (l : IsLeftIn history all it b) (h k : History) → Since (StaysOn l.now.chapter l.now.older) h k → Since (StaysOn it.chapter it.older) h k
left_stays history all a b it l h k since =
    since_and (StaysOn l.now.chapter l.now.older) (StaysOn it.chapter it.older) h k since
    (λ t s. subst (λ (ch : Chapter). StaysOn ch it.older t) l.chapter (stays_in l.now.chapter it.older l.now.older l.gone t l.older s))

pub bound_then : {F : Type 0} (history : F → History) (a b c : Journal F) → HaveLimits a b → Since (LeavesMost (a.limit + a.segment)) (history a.folder) (history b.folder) → Since (LeavesMost (b.limit + b.segment)) (history b.folder) (history c.folder)
    → Since (LeavesMost (a.limit + a.segment)) (history a.folder) (history c.folder)
bound_then history a b c same first then =
    since_since (LeavesMost (a.limit + a.segment)) (history a.folder) (history b.folder) (history c.folder) first
    (subst (λ (n : ℕ). Since (LeavesMost n) (history b.folder) (history c.folder)) (omega (arith, same.limit, same.segment)) then)

pub floor_then : (n : ℕ) (h k l : History) → Now (HasFloor n) h → Since (HasFloor n) h k → (Now (HasFloor n) k → Since (HasFloor n) k l) → Since (HasFloor n) h l
floor_then n h k l now first then = since_since (HasFloor n) h k l first (then (since_now (HasFloor n) h k now first))

pub limits_then : {F : Type 0} (a b c : Journal F) → HaveLimits a b → HaveLimits b c → HaveLimits a c
limits_then a b c first then = record { limit = then.limit ∙ first.limit; segment = then.segment ∙ first.segment; life = then.life ∙ first.life }

pub unit_is : {x : Unit {0}} → Ok x ≡ Err journal.Failed → ⊥
unit_is is = grind (arith, is)

pub bool_is : {x : Bool} → Ok x ≡ Err journal.Failed → ⊥
bool_is is = grind (arith, is)

module _ {F : Type 0} (history : F → History) (all : List Batch) (a b c : Journal F) (it : Stands history all a) (first : IsTended history all (Ok (tt {0})) a b it) where
  pub more_tended : {B : Type 0} (q : Result B JournalFault) → ((at : Stands history all b) → IsTended history all q b c at) → IsTended history all q a c it
  more_tended q then =
      let l = first.stands unit_is in
      let t = then l.now in
      record { stands = λ not. left_then history all a b c it l (t.stands not); kept = since_since (StaysOn it.chapter it.older) (history a.folder) (history b.folder) (history c.folder) first.kept (left_stays history all a b it l (history b.folder) (history c.folder) t.kept) }
