-- A start.
use Rattle.std.proofs.Common.{◌≡◌, ℕ, ◌+◌, ◌-◌, ◌≤◌, ◌<◌, arith, cond, Bool, true, false, List, [], ◌∷◌, ◌++◌, length, length-append, take, drop, append_assoc, append-nil, inl, inr, ⊎_elim, refl, sym, ap, ◌∙◌, subst, Option, Some, None, Result, Ok, Err}
use Rattle.std.proofs.lemmas.List.{take-append-le, take_all, take-append-drop}
use Rattle.std.proofs.lemmas.List.Concat.{flat_map-append}
use Rattle.std.specs.List.{slice_range, slice_get}
use Rattle.std.proofs.Common.{length-drop}
use Rattle.amqp_spool.specs.declared.head.Head.{Head}
use Rattle.amqp_spool.specs.declared.segments.Named.{Named}
use Rattle.amqp_spool.specs.declared.folder.FolderFault.{FolderFault}
use Rattle.amqp_spool.specs.declared.folder.FolderFault.TheVariants as folder
use Rattle.amqp_spool.specs.declared.scanning.Scanned.{Scanned}
use Rattle.amqp_spool.specs.Alone.{EndsAlone, IsScannedAlone}
use Rattle.amqp_spool.specs.Batches.{Batch, Follow, texts, EndsAt, IsThrough, IsScanned}
use Rattle.amqp_spool.specs.Names.{nobody, after, named}
use Rattle.amqp_spool.specs.Sayings.{Puts, Says}
use Rattle.amqp_spool.specs.Waitings.{AreKnown}
use Rattle.amqp_spool.specs.Counting.{total, but, put, freed, AreCounted}
use Rattle.amqp_spool.specs.Folders.{Segment, State, File, Left, History, Now, Since, GoesBy, making, whole_segment, but_named, with_added, spare_left, content, lengths, added_length, size, secret_in, IsTorn, AreTornTo, AreSomeOf, IsLeft, IsAdded}
use Rattle.amqp_spool.specs.Chapters.{Chapter, chapter_text, next_of, IsChapter, Chained, AreIn, AreRead, AreThere, Reads, Reaches, GoesAfter, IsMoreOf, GoesOnFrom, IsReadable, KeepsOn, Holds, oldest}
use Rattle.amqp_spool.specs.Heads.{IsHead, head_text, batch_text}
use Rattle.amqp_spool.specs.Reads.{HasHead, IsRead, BeginsWith, NewestHas, IsNewest, AreNamed, HasNames, IsFound, IsShownIn, IsSeen, seen_files, seen}
use Rattle.std.specs.Prelude.{OnOk}
use Rattle.amqp_spool.specs.declared.journal.Journal.{Journal}
use Rattle.amqp_spool.specs.declared.journal.JournalFault.{JournalFault}
use Rattle.amqp_spool.specs.declared.journal.JournalFault.TheVariants as journal
use Rattle.amqp_spool.specs.Journals.{as_told, LeavesMost, IsWell, IsRenewed, IsStarted, IsEmpty, Stands}
use Rattle.amqp_spool.proofs.Histories.{now_and, now_both, goes_by_now, goes_by_since}
use Rattle.amqp_spool.proofs.Counted.{well_added, well_full, well_most, are_put, lengths_most, total_but}
use Rattle.amqp_spool.proofs.Placing.{head_long}
use Rattle.amqp_spool.proofs.Reading.{one_head, first_is, older_read}
use Rattle.std.proofs.lemmas.Bool.{eq-eqb, false≢true}
use Rattle.amqp_spool.proofs.Bodies.{alone_read}
use Rattle.amqp_spool.proofs.Kept.{first_file, other_files, stays_on}
use Rattle.amqp_spool.proofs.Tending.{reaches_low}
use Rattle.amqp_spool.proofs.Settling.{batch_length}
use Rattle.amqp_spool.proofs.Mosts.{bytes_in, bytes_both, torn_most, some_most, leaves, making_has}

abbrev told_err : FolderFault → Result (Unit {0}) JournalFault
told_err f = Err (as_told f)

-- What was read. ------------------------------------------------------------------------------------------------------

pub begins_with : (index : ℕ) (bytes : List ℕ) (head : Head) (h : History) → length bytes ≡ 80 → take 80 bytes ≡ head_text head → Now (IsRead index 0 bytes) h → Now (BeginsWith index head) h
begins_with index bytes head h long text now = now_and (IsRead index 0 bytes) (BeginsWith index head) h now
    (λ t is front s rest whole at. let r = is front s rest whole at in sym (sym text ∙ take_all 80 bytes (omega (arith, long)) ∙ r.1 ∙ ap (λ (n : ℕ). take n (drop 0 (content s))) long))

pub not_damaged : (f : FolderFault) → told_err f ≡ Err journal.Damaged → ⊥
not_damaged folder.Full is = grind (arith, is)
not_damaged folder.Failed is = grind (arith, is)

pub head_there : (index : ℕ) (bytes : List ℕ) (h : History) (t : State) (past : List State) → length bytes ≡ 80 → h ≡ Some (t ∷ past) → Now (IsRead index 0 bytes) h → (has : HasHead index t) → take 80 bytes ≡ head_text has.head
head_there index bytes h t past long is now has =
    let read : IsRead index 0 bytes t = subst (λ (x : History). Now (IsRead index 0 bytes) x) is now in
    let r = read has.front has.segment has.rest has.whole has.at in
    take_all 80 bytes (omega (arith, long)) ∙ r.1 ∙ ap (λ (n : ℕ). take n (drop 0 (content has.segment))) long ∙ has.text

pub newest_has : (len : ℕ) (bytes : List ℕ) (h : History) → length bytes ≡ len → Now (IsRead 0 0 bytes) h → Now (NewestHas len bytes) h
newest_has len bytes h long now = now_and (IsRead 0 0 bytes) (NewestHas len bytes) h now
    (λ t is s rest whole same. let r = is [] s rest whole refl in sym (r.1 ∙ take_all (length bytes) (content s) (omega (arith, same, long))))

pub rest_of : (now bytes rest : List ℕ) → now ≡ bytes → rest ≡ slice_range now 80 (length now) → rest ≡ drop 80 bytes
rest_of now bytes rest same is = is ∙ take_all (length now - 80) (drop 80 now) (omega (arith, length-drop 80 now)) ∙ ap (λ (l : List ℕ). drop 80 l) same

pub is_newest : (len : ℕ) (head : Head) (bytes batches part out : List ℕ) (scanned alone : Scanned) (h : History) → Now (BeginsWith 0 head) h → Now (NewestHas len bytes) h → batches ≡ drop 80 bytes → IsScanned head.secret head.first batches scanned
    → part ≡ take scanned.end batches → IsScannedAlone head.secret head.first part alone → out ≡ take (80 + alone.end) bytes → Now (IsNewest len head out alone.next) h
is_newest len head bytes batches part out scanned alone h begins has rest is parted also front =
    now_and (λ t. BeginsWith 0 head t × NewestHas len bytes t) (IsNewest len head out alone.next) h (now_both (BeginsWith 0 head) (NewestHas len bytes) h begins has)
    (λ t p s older whole long.
    let same = p.1 s older whole long in
    let there : batches ≡ drop 80 (content s) = rest ∙ ap (λ (l : List ℕ). drop 80 l) (sym same) in (
      p.0 [] s older whole refl,
      (
        scanned,
        alone,
        subst (λ (l : List ℕ). IsScanned head.secret head.first l scanned) there is,
        subst (λ (l : List ℕ). IsScannedAlone head.secret head.first l alone) (parted ∙ ap (λ (l : List ℕ). take scanned.end l) there) also,
        front ∙ ap (λ (l : List ℕ). take (80 + alone.end) l) (sym same),
        refl,
      ),
    ))

-- What is counted. ----------------------------------------------------------------------------------------------------

are_counted : (ns : List Named) (ss : List Segment) → AreNamed ns ss → AreCounted ns ss
are_counted [] [] are = tt
are_counted (n ∷ ns) (s ∷ ss) are = (are.0, omega (arith, are.1), are_counted ns ss are.2)
are_counted [] (s ∷ ss) are = absurd are
are_counted (n ∷ ns) [] are = absurd are

well_found : (ns : List Named) (used whole floor : ℕ) (t : State) → HasNames ns t → IsFound t → used ≡ total ns → t.floor ≡ floor → IsWell ns used whole floor t
well_found ns used whole floor t names found sum low = record {
  counts = record {
    are = are_counted ns t.segments names;
    all = omega (arith, sum, ap added_length found.added, ap lengths found.removed);
    spare = omega (arith, found.spare);
  };
  added = found.added;
  floor_is = low;
}

module _ (first : ℕ) (bytes : List ℕ) (ns : List Named) (used limit segment : ℕ) (sum : used ≡ total ns) (fit : used ≤ limit) (within : used + length bytes ≤ limit + freed first ns) (small : length bytes ≤ segment) where
  -- where it is not known whether it is there
  lost_size : (t : State) → HasNames ns t → IsFound t → (c : Left) (there : Bool) (files again : List File) → AreTornTo (with_added (Some (whole_segment first bytes)) there t.segments) files → AreSomeOf t.removed again → c.files ≡ files ++ again
      → c.spare ≤ spare_left (Some (whole_segment first bytes)) there (length bytes) → size c ≤ limit + segment
  lost_size t names found c true files again segments removed all spare =
      let are = are_put first (length bytes) bytes ns t.segments (omega arith) (are_counted ns t.segments names) in
      omega (
        arith,
        ap bytes_in all,
        bytes_both files again,
        torn_most (whole_segment first bytes ∷ but_named first t.segments) files segments,
        some_most t.removed again removed,
        ap lengths found.removed,
        spare,
        within,
        total_but first ns,
        sum,
        lengths_most (but first ns) (but_named first t.segments) are.2,
        length-append bytes [],
      )
  lost_size t names found c false files again segments removed all spare =
      omega (arith, ap bytes_in all, bytes_both files again, torn_most t.segments files segments, some_most t.removed again removed, ap lengths found.removed, spare, fit, small, sum, lengths_most ns t.segments (are_counted ns t.segments names))

  leaves_renewed : (r : Result (Unit {0}) FolderFault) (t k : State) → HasNames ns t → IsFound t → IsAdded first bytes r t k → LeavesMost (limit + segment) k
  leaves_renewed (Ok x) t k names found done =
      let well = well_found ns used segment t.floor t names found sum refl in
      let now = well_added first (length bytes) bytes x ns used (used + length bytes - freed first ns) segment t.floor t k well (omega arith) (omega (arith, total_but first ns, sum)) done in
      leaves k (used + length bytes - freed first ns) segment (limit + segment) (well_most (put (record { first = first; bytes = length bytes }) ns) (used + length bytes - freed first ns) segment t.floor k now) (omega (arith, within))
  leaves_renewed (Err folder.Full) t k names found done =
      let well = well_found ns used segment t.floor t names found sum refl in
      leaves k used segment (limit + segment) (well_most ns used segment t.floor k (well_full first bytes ns used segment t.floor t k well small done)) (omega (arith, fit))
  leaves_renewed (Err folder.Failed) t k names found done =
      subst (λ (s : State). LeavesMost (limit + segment) s) (sym done) (λ c left. lost_size t names found c left.added left.there left.again left.segments left.removed left.files left.spare)

  abbrev Found : State → Type 0
  Found t = HasNames ns t × IsFound t

  pub renewed_since : (r : Result (Unit {0}) FolderFault) (h k : History) → Now (HasNames ns) h → Now IsFound h → GoesBy (making (length bytes)) (IsAdded first bytes r) h k → Since (LeavesMost (limit + segment)) h k
  renewed_since r h k names found goes = goes_by_since (making (length bytes)) (IsAdded first bytes r) Found (LeavesMost (limit + segment)) h k goes (now_both (HasNames ns) IsFound h names found)
      (λ t p. leaves (making (length bytes) t) used segment (limit + segment) (making_has (length bytes) t used segment (well_most ns used segment t.floor t (well_found ns used segment t.floor t p.0 p.1 sum refl)) small) (omega (arith, fit)))
      (λ t l p q. leaves_renewed r t l p.0 p.1 q)

  -- and what it counts where it is
  pub renewed_well : (x : Unit {0}) (now floor : ℕ) (h k : History) → now + freed first ns ≡ used + length bytes → Now (HasNames ns) h → Now IsFound h → Now (λ t. t.floor ≡ floor) k → GoesBy (making (length bytes)) (IsAdded first bytes (Ok x)) h k
      → Now (IsWell (put (record { first = first; bytes = length bytes }) ns) now segment floor) k
  renewed_well x now floor h k counts names found low goes =
      now_floor floor k low (goes_by_now (making (length bytes)) (IsAdded first bytes (Ok x)) Found (λ t. IsWell (put (record { first = first; bytes = length bytes }) ns) now segment t.floor t) h k goes (now_both (HasNames ns) IsFound h names found)
      (λ t l p q. subst (λ (f : ℕ). IsWell (put (record { first = first; bytes = length bytes }) ns) now segment f l) (sym (ap (λ (s : State). s.floor) q))
      (well_added first (length bytes) bytes x ns used now segment t.floor t l (well_found ns used segment t.floor t p.0 p.1 sum refl) (omega arith) counts q)))
    where
      now_floor : (floor : ℕ) (k : History) → Now (λ t. t.floor ≡ floor) k → Now (λ t. IsWell (put (record { first = first; bytes = length bytes }) ns) now segment t.floor t) k → Now (IsWell (put (record { first = first; bytes = length bytes }) ns) now segment floor) k
      now_floor floor (Some (t ∷ past)) low is = subst (λ (f : ℕ). IsWell (put (record { first = first; bytes = length bytes }) ns) now segment f t) low is
      now_floor floor (Some []) low is = absurd low
      now_floor floor None low is = tt

-- What is found. ------------------------------------------------------------------------------------------------------

-- as it is seen, and what is sure of it
abbrev sure_files : List Segment → List File
sure_files [] = []
sure_files (s ∷ ss) = record { first = s.first; bytes = s.kept } ∷ sure_files ss

abbrev left_of : List File → State → Left
left_of fs t = record { files = fs; floor = t.floor; spare = 0 }

seen_torn : (ss : List Segment) → AreTornTo ss (seen_files ss)
seen_torn [] = tt
seen_torn (s ∷ ss) = (record { first = refl; torn = s.tail; is = record { short = omega arith; honest = λ b is. is }; whole = refl }, seen_torn ss)

nothing_torn : (secret tail : List ℕ) → IsTorn secret tail []
nothing_torn secret tail = record { short = omega arith; honest = λ b is. absurd (omega (arith, ap (λ (l : List ℕ). length l) is.whole, length-append (batch_text secret b.head b.body) is.rest, batch_length secret b)) }

sure_torn : (ss : List Segment) → AreTornTo ss (sure_files ss)
sure_torn [] = tt
sure_torn (s ∷ ss) = (record { first = refl; torn = []; is = nothing_torn (secret_in s.kept) s.tail; whole = sym (append-nil s.kept) }, sure_torn ss)

is_left : (t : State) (fs : List File) → IsFound t → AreTornTo t.segments fs → IsLeft t (left_of fs t)
is_left t fs found torn = record {
  added = false;
  there = fs;
  again = [];
  segments = subst (λ (ss : List Segment). AreTornTo ss fs) (sym (ap (λ (a : Option Segment). with_added a false t.segments) found.added)) torn;
  removed = subst (λ (ss : List Segment). AreSomeOf ss []) (sym found.removed) AreSomeOf.End;
  files = sym (append-nil fs);
  floor = (omega arith, found.raised);
  spare = omega arith;
}

-- chapters that are sure are seen
sure_seen : (chs : List Chapter) (ss : List Segment) → AreRead chs (sure_files ss) → AreRead chs (seen_files ss)
sure_seen [] ss are = tt
sure_seen (ch ∷ chs) [] are = absurd are
sure_seen (ch ∷ chs) (s ∷ ss) are =
    (record { first = are.0.first; rest = are.0.rest ++ s.tail; whole = ap (λ (l : List ℕ). l ++ s.tail) are.0.whole ∙ append_assoc (chapter_text ch) are.0.rest s.tail }, sure_seen chs ss are.1)

are_sure : (chs : List Chapter) (ss : List Segment) → AreRead chs (sure_files ss) → AreIn chs ss
are_sure [] ss are = tt
are_sure (ch ∷ chs) [] are = absurd are
are_sure (ch ∷ chs) (s ∷ ss) are = (are.0, are_sure chs ss are.1)

-- of what was found, the chapters that count, with all that is whole of the newest and reads alone
pub record IsOn (ch : Chapter) (chs : List Chapter) (head : Head) (bytes : List ℕ) (next : ℕ) (t : State) : Type 0 where
  pub chapter : Chapter
  pub older : List Chapter
  pub puts : Puts
  pub from : GoesOnFrom ch chs chapter older
  pub says : Says chapter puts
  pub chained : Chained (chapter ∷ older)
  pub headed : head ≡ chapter.head
  pub text : bytes ≡ chapter_text chapter
  pub numbered : next ≡ next_of chapter
  pub newest : Segment
  pub others : List Segment
  pub segments : t.segments ≡ newest ∷ others
  pub first : newest.first ≡ head.first
  pub are : AreIn older others
  pub low : (oldest chapter older).head.first ≤ t.floor + 1

-- where another chapter has the same head
reaches_same : (floor : ℕ) (ch dh : Chapter) (chs : List Chapter) → ch.head ≡ dh.head → Reaches floor (ch ∷ chs) → Reaches floor (dh ∷ chs)
reaches_same floor ch dh [] is reaches = subst (λ (h : Head). h.first ≤ floor + 1) is reaches
reaches_same floor ch dh (a ∷ chs) is reaches = (subst (λ (h : Head). floor + 1 < h.first) is reaches.0, reaches.1)

chained_same : (ch dh : Chapter) (chs : List Chapter) → ch.head ≡ dh.head → IsChapter dh → Chained (ch ∷ chs) → Chained (dh ∷ chs)
chained_same ch dh [] is chapter chained = chapter
chained_same ch dh (a ∷ chs) is chapter chained = (
  chapter,
  record {
    spool = ap (λ (h : Head). h.spool) (sym is) ∙ chained.1.spool;
    before = ap (λ (h : Head). h.before) (sym is) ∙ chained.1.before;
    counted = ap (λ (h : Head). h.counted) (sym is) ∙ chained.1.counted;
    first = ap (λ (h : Head). h.first) (sym is) ∙ chained.1.first;
  },
  chained.2,
)

no_more : {A : Type 0} (xs ys rest others : List A) → xs ≡ ys ++ rest → ys ≡ xs ++ others → xs ≡ ys
no_more {A} xs ys [] others a b = a ∙ append-nil ys
no_more {A} xs ys (r ∷ rest) others a b = absurd (omega (arith, ap (λ (l : List A). length l) a, ap (λ (l : List A). length l) b, length-append ys (r ∷ rest), length-append xs others))

-- the head that bytes begin with
pub head_of_both : (head other : Head) (content rest : List ℕ) → IsHead head → IsHead other → take 80 content ≡ head_text head → content ≡ head_text other ++ rest → head ≡ other
head_of_both head other content rest ih io text whole = one_head head other (drop 80 content) rest ih io (ap (λ (l : List ℕ). l ++ drop 80 content) (sym text) ∙ take-append-drop 80 content ∙ whole)

-- the first of batches that follow
follow_front : (n : ℕ) (xs ys : List Batch) → Follow n (xs ++ ys) → Follow n xs
follow_front n [] ys is = tt
follow_front n (b ∷ xs) ys is = (is.0, follow_front (n + b.head.count) xs ys is.1)

-- What goes on from chapters does so with more.
more_from : (ch : Chapter) (chs : List Chapter) (dh : Chapter) (ds : List Chapter) (eh : Chapter) (es : List Chapter) → GoesOnFrom ch chs dh ds → IsMoreOf dh ds eh es → GoesOnFrom ch chs eh es
more_from ch chs dh ds eh es from m = record {
  next = from.next;
  behind = from.behind;
  from = from.from;
  is = record {
    more = from.is.more ++ m.more;
    newest = m.newest ∙ ap (λ (k : Chapter). record k { batches = k.batches ++ m.more }) from.is.newest ∙ ap (λ (bs : List Batch). record from.next { batches = bs }) (append_assoc from.next.batches from.is.more m.more);
    rest = m.rest ++ from.is.rest;
    older = from.is.older ∙ ap (λ (l : List Chapter). l ++ from.is.rest) m.older ∙ append_assoc es m.rest from.is.rest;
  };
}

module _ (first : Chapter) (others : List Chapter) (puts : Puts) (told : Says first puts) (t : State) (kept : KeepsOn first others t) (found : IsFound t) (head : Head) (ih : IsHead head) (bytes : List ℕ) (next : ℕ) (s : Segment) (rest : List Segment) (is : t.segments ≡ s ∷ rest) (called : s.first ≡ head.first)
    (scanned alone : Scanned) (text : take 80 (content s) ≡ head_text head) (scan : IsScanned head.secret head.first (drop 80 (content s)) scanned) (also_scan : IsScannedAlone head.secret head.first (take scanned.end (drop 80 (content s))) alone)
    (front : bytes ≡ take (80 + alone.end) (content s)) (numbered : next ≡ alone.next) where
  abbrev through : IsThrough head.secret head.first (drop 80 (content s)) scanned
  through = scan.through

  abbrev chapter : Chapter
  chapter = record { head = head; batches = through.batches }

  is_chapter : IsChapter chapter
  is_chapter = record { head = ih; follow = through.follow }

  whole : content s ≡ chapter_text chapter ++ through.rest
  whole = sym (take-append-drop 80 (content s)) ∙ ap (λ (l : List ℕ). l ++ drop 80 (content s)) text ∙ ap (λ (l : List ℕ). head_text head ++ l) through.whole ∙ sym (append_assoc (head_text head) (texts head.secret through.batches) through.rest)

  -- those that read alone
  abbrev also_through : IsThrough head.secret head.first (take scanned.end (drop 80 (content s))) alone
  also_through = also_scan.through

  abbrev counted : Chapter
  counted = record { head = head; batches = also_through.batches }

  is_counted : IsChapter counted
  is_counted = record { head = ih; follow = also_through.follow }

  batches_are : texts head.secret through.batches ≡ texts head.secret also_through.batches ++ also_through.rest
  batches_are =
      sym (take_all scanned.end (texts head.secret through.batches) (omega (arith, through.end))) ∙ sym (take-append-le scanned.end (texts head.secret through.batches) through.rest (omega (arith, through.end)))
      ∙ ap (λ (l : List ℕ). take scanned.end l) (sym through.whole) ∙ also_through.whole

  all_counted : content s ≡ chapter_text counted ++ (also_through.rest ++ through.rest)
  all_counted =
      whole ∙ append_assoc (head_text head) (texts head.secret through.batches) through.rest ∙ ap (λ (l : List ℕ). head_text head ++ (l ++ through.rest)) batches_are
      ∙ ap (λ (l : List ℕ). head_text head ++ l) (append_assoc (texts head.secret also_through.batches) also_through.rest through.rest) ∙ sym (append_assoc (head_text head) (texts head.secret also_through.batches) (also_through.rest ++ through.rest))

  long : length (chapter_text counted) ≡ 80 + alone.end
  long = omega (arith, length-append (head_text head) (texts head.secret also_through.batches), head_long head ih, also_through.end)

  text_is : bytes ≡ chapter_text counted
  text_is =
      front ∙ ap (λ (l : List ℕ). take (80 + alone.end) l) all_counted ∙ take-append-le (80 + alone.end) (chapter_text counted) (also_through.rest ++ through.rest) (omega (arith, long)) ∙ take_all (80 + alone.end) (chapter_text counted) (omega (arith, long))

  says_counted : Says counted (named nobody also_scan.entries)
  says_counted = record { entries = also_scan.entries; bodies = also_scan.bodies; same = refl; known = also_scan.known }

  -- What goes on from the chapters that are read goes on where they read alone.
  counted_from : (chs : List Chapter) → GoesOnFrom first others chapter chs → GoesOnFrom first others counted chs
  counted_from chs from = ⊎_elim (λ (p : (from.next ≡ first) × (from.behind ≡ others)). same_from p) (λ (begun : GoesAfter from.next first others from.behind). after_from begun) from.from
    where
      same_from : (from.next ≡ first) × (from.behind ≡ others) → GoesOnFrom first others counted chs
      same_from p =
          let newest : chapter ≡ record first { batches = first.batches ++ from.is.more } = from.is.newest ∙ ap (λ (k : Chapter). record k { batches = k.batches ++ from.is.more }) p.0 in
          let headed : head ≡ first.head = ap (λ (k : Chapter). k.head) newest in
          let batches : through.batches ≡ first.batches ++ from.is.more = ap (λ (k : Chapter). k.batches) newest in
          let follow = follow_front head.first first.batches from.is.more (subst (λ (bs : List Batch). Follow head.first bs) batches through.follow) in
          let same : texts head.secret first.batches ++ texts head.secret from.is.more ≡ texts head.secret also_through.batches ++ also_through.rest =
          sym (flat_map-append (λ (b : Batch). batch_text head.secret b.head b.body) first.batches from.is.more) ∙ ap (λ (bs : List Batch). texts head.secret bs) (sym batches) ∙ batches_are in
          let known : AreKnown (named nobody told.entries) = subst (λ (ps : Puts). AreKnown ps) (sym told.same) told.known in
          let r = alone_read nobody head.secret head.first first.batches also_through.batches (texts head.secret from.is.more) also_through.rest told.entries also_scan.entries same follow also_through.follow told.bodies known also_scan.bodies
          (subst (λ (n : ℕ). EndsAlone (after nobody also_scan.entries) head.secret n also_through.rest) also_through.next also_scan.ends) in
          record {
            next = first;
            behind = others;
            from = inl (refl, refl);
            is = record {
              more = r.0;
              newest = ap (λ (h : Head). record { head = h; batches = also_through.batches }) headed ∙ ap (λ (bs : List Batch). record { head = first.head; batches = bs }) r.1;
              rest = from.is.rest;
              older = sym p.1 ∙ from.is.older;
            };
          }

      after_from : GoesAfter from.next first others from.behind → GoesOnFrom first others counted chs
      after_from begun =
          let none : Chapter = record from.next { batches = [] } in
          let headed : head ≡ from.next.head = ap (λ (k : Chapter). k.head) from.is.newest in
          record {
            next = none;
            behind = from.behind;
            from = inr (record { chained = chained_same from.next none from.behind refl (record { head = subst (λ (h : Head). IsHead h) headed ih; follow = tt }) begun.chained; place = begun.place });
            is = record { more = also_through.batches; newest = ap (λ (h : Head). record { head = h; batches = also_through.batches }) headed; rest = from.is.rest; older = from.is.older };
          }

  seen_left : IsLeft t (seen t)
  seen_left = is_left t (seen_files t.segments) found (seen_torn t.segments)

  abbrev sure : Left
  sure = left_of (sure_files t.segments) t

  sure_left : IsLeft t sure
  sure_left = is_left t (sure_files t.segments) found (sure_torn t.segments)

  module _ (ch : Chapter) (chs : List Chapter) (there : AreThere (seen t) ch chs) (dh : Chapter) (ds : List Chapter) (also : AreThere sure dh ds) where
    files : record { first = s.first; bytes = content s } ∷ seen_files rest ≡ there.newest ∷ there.older
    files = ap seen_files (sym is) ∙ there.files

    newest : there.newest ≡ record { first = s.first; bytes = content s }
    newest = ap first_file (sym files)

    older : there.older ≡ seen_files rest
    older = ap other_files (sym files)

    headed : head ≡ ch.head
    headed = head_of_both head ch.head (content s) (texts ch.head.secret ch.batches ++ there.is.rest) ih (first_is ch chs there.chained).head text
        (ap (λ (f : File). f.bytes) (sym newest) ∙ there.is.whole ∙ append_assoc (head_text ch.head) (texts ch.head.secret ch.batches) there.is.rest)

    chained : Chained (chapter ∷ chs)
    chained = chained_same ch chapter chs (sym headed) is_chapter there.chained

    reaches : Reaches t.floor (chapter ∷ chs)
    reaches = reaches_same t.floor ch chapter chs (sym headed) there.reaches

    reads : Reads (seen t) chapter chs
    reads = record {
      there = record {
        chained = chained;
        reaches = reaches;
        newest = there.newest;
        older = there.older;
        files = there.files;
        is = record { first = there.is.first ∙ ap (λ (h : Head). h.first) (sym headed); rest = through.rest; whole = ap (λ (f : File). f.bytes) newest ∙ whole };
        are = there.are;
      };
      ends = subst (λ (n : ℕ). EndsAt head.secret n through.rest) through.next scan.ends;
    }

    also_files : record { first = s.first; bytes = s.kept } ∷ sure_files rest ≡ also.newest ∷ also.older
    also_files = ap sure_files (sym is) ∙ also.files

    also_headed : head ≡ dh.head
    also_headed = head_of_both head dh.head (content s) ((texts dh.head.secret dh.batches ++ also.is.rest) ++ s.tail) ih (first_is dh ds also.chained).head text
        (ap (λ (l : List ℕ). l ++ s.tail) (ap (λ (f : File). f.bytes) (ap first_file also_files) ∙ also.is.whole ∙ append_assoc (head_text dh.head) (texts dh.head.secret dh.batches) also.is.rest)
        ∙ append_assoc (head_text dh.head) (texts dh.head.secret dh.batches ++ also.is.rest) s.tail)

    also_sure : AreRead ds (sure_files rest)
    also_sure = subst (λ (l : List File). AreRead ds l) (ap other_files (sym also_files)) also.are

    are_seen : AreRead chs (seen_files rest)
    are_seen = subst (λ (l : List File). AreRead chs l) older there.are

    same : chs ≡ ds
    same =
        let a = older_read t.floor t.floor chapter dh chs ds (seen_files rest) also_headed chained also.chained (reaches_low t.floor chapter chs reaches) (omega arith) also.reaches are_seen (sure_seen ds rest also_sure) in
        let b = older_read t.floor t.floor dh chapter ds chs (seen_files rest) (sym also_headed) also.chained chained (reaches_low t.floor dh ds also.reaches) (omega arith) reaches (sure_seen ds rest also_sure) are_seen in
        no_more chs ds a.0 b.0 a.1 b.1

    is_on_there : GoesOnFrom first others chapter chs → IsOn first others head bytes next t
    is_on_there from = record {
      chapter = counted;
      older = chs;
      puts = named nobody also_scan.entries;
      from = counted_from chs from;
      says = says_counted;
      chained = chained_same chapter counted chs refl is_counted chained;
      headed = refl;
      text = text_is;
      numbered = numbered ∙ also_through.next;
      newest = s;
      others = rest;
      segments = is;
      first = called;
      are = subst (λ (l : List Chapter). AreIn l rest) (sym same) (are_sure ds rest also_sure);
      low = reaches_low t.floor counted chs (reaches_same t.floor chapter counted chs refl reaches);
    }

  pub is_on : IsOn first others head bytes next t
  is_on =
      let k = kept (seen t) seen_left in
      let q = kept sure sure_left in
      let c = k.0 in
      let d = q.0 in
      is_on_there c.0 c.1 c.2 d.0 d.1 d.2 (k.1 chapter c.1 (reads c.0 c.1 c.2 d.0 d.1 d.2))

-- What is kept while it is written once more. -------------------------------------------------------------------------

module _ (first : Chapter) (others : List Chapter) (t : State) (kept : KeepsOn first others t) (found : IsFound t) where
  before : (c : Left) (files again : List File) → AreTornTo t.segments files → AreSomeOf t.removed again → c.files ≡ files ++ again → (t.floor ≤ c.floor) × (c.floor ≤ t.raised)
      → ((ch : Chapter) × (chs : List Chapter) × AreThere c ch chs) × ((ch : Chapter) (chs : List Chapter) → Reads c ch chs → GoesOnFrom first others ch chs)
  before c files again torn some whole floor =
      let k = kept (record c { spare = 0 }) (record {
        added = false;
        there = files;
        again = again;
        segments = subst (λ (ss : List Segment). AreTornTo ss files) (sym (ap (λ (a : Option Segment). with_added a false t.segments) found.added)) torn;
        removed = some;
        files = whole;
        floor = floor;
        spare = omega arith;
      }) in
      let there = k.0.2 in (
        (k.0.0, k.0.1, record { chained = there.chained; reaches = there.reaches; newest = there.newest; older = there.older; files = there.files; is = there.is; are = there.are }),
        λ ch chs r. k.1 ch chs (record {
          there = record { chained = r.there.chained; reaches = r.there.reaches; newest = r.there.newest; older = r.there.older; files = r.there.files; is = r.there.is; are = r.there.are };
          ends = r.ends;
        }),
      )

  none_there : (there : Bool) (files : List File) → AreTornTo (with_added t.added there t.segments) files → AreTornTo t.segments files
  none_there there files torn = subst (λ (ss : List Segment). AreTornTo ss files) (ap (λ (a : Option Segment). with_added a there t.segments) found.added ∙ nothing_added there) torn
    where
      nothing_added : (there : Bool) → with_added None there t.segments ≡ t.segments
      nothing_added true = refl
      nothing_added false = refl

  pub keeps_made : (n : ℕ) → KeepsOn first others (making n t)
  keeps_made n = λ c left. before c left.there left.again (none_there left.added left.there left.segments) left.removed left.files left.floor

  module _ (head : Head) (bytes : List ℕ) (next : ℕ) (on : IsOn first others head bytes next t) where
    renewed_holds : (u : State) → u.segments ≡ whole_segment head.first bytes ∷ but_named head.first t.segments → u.added ≡ None → u.floor ≡ t.floor → Holds on.chapter on.older u
    renewed_holds u segments added floor = record {
      chained = on.chained;
      newest = whole_segment head.first bytes;
      older = on.others;
      segments = segments ∙ ap (λ (l : List Segment). whole_segment head.first bytes ∷ l)
          (ap (λ (l : List Segment). but_named head.first l) on.segments ∙ ap (λ (b : Bool). cond b on.others (on.newest ∷ on.others)) (eq-eqb on.newest.first head.first on.first));
      first = ap (λ (h : Head). h.first) on.headed;
      kept = on.text;
      are = on.are;
      added = added;
      low = omega (arith, on.low, floor);
    }

    keeps_renewed : (u : State) → u.segments ≡ whole_segment head.first bytes ∷ but_named head.first t.segments → u.added ≡ None → u.floor ≡ t.floor → KeepsOn first others u
    keeps_renewed u segments added floor = λ c left. let s = stays_on on.chapter on.older u (renewed_holds u segments added floor) c left in (s.0, λ dh ds r. more_from first others on.chapter on.older dh ds on.from (s.1 dh ds r))

    lost_keeps : (there : Bool) (c : Left) (files again : List File) → AreTornTo (with_added (Some (whole_segment head.first bytes)) there t.segments) files → AreSomeOf t.removed again → c.files ≡ files ++ again
        → (t.floor ≤ c.floor) × (c.floor ≤ t.raised) → c.spare ≤ spare_left (Some (whole_segment head.first bytes)) there (length bytes)
        → ((ch : Chapter) × (chs : List Chapter) × AreThere c ch chs) × ((ch : Chapter) (chs : List Chapter) → Reads c ch chs → GoesOnFrom first others ch chs)
    lost_keeps true c files again torn some whole floor spare =
        keeps_renewed (record t { segments = whole_segment head.first bytes ∷ but_named head.first t.segments; added = None; spare = 0 }) refl refl refl c
        (record { added = false; there = files; again = again; segments = torn; removed = some; files = whole; floor = floor; spare = spare })
    lost_keeps false c files again torn some whole floor spare = before c files again torn some whole floor

    keeps_after : (r : Result (Unit {0}) FolderFault) (u : State) → IsAdded head.first bytes r t u → KeepsOn first others u
    keeps_after (Ok x) u done = keeps_renewed u (ap (λ (k : State). k.segments) done) (ap (λ (k : State). k.added) done ∙ found.added) (ap (λ (k : State). k.floor) done)
    keeps_after (Err folder.Full) u done = ⊎_elim (λ is. subst (λ (k : State). KeepsOn first others k) (sym is) kept) (λ is. subst (λ (k : State). KeepsOn first others k) (sym is) (keeps_made (length bytes))) done
    keeps_after (Err folder.Failed) u done =
        subst (λ (k : State). KeepsOn first others k) (sym done) (λ c left. lost_keeps left.added c left.there left.again left.segments left.removed left.files left.floor left.spare)

    keeps_told : (r : Result (Unit {0}) JournalFault) (u : State) → IsRenewed head.first bytes r t u → KeepsOn first others u
    keeps_told (Ok x) u done = keeps_after (Ok x) u done
    keeps_told (Err journal.Full) u done = keeps_after (Err folder.Full) u done
    keeps_told (Err journal.NoMemory) u done = keeps_after (Err folder.Failed) u done
    keeps_told (Err journal.Failed) u done = keeps_after (Err folder.Failed) u done
    keeps_told (Err journal.Bound) u done = keeps_after (Err folder.Failed) u done
    keeps_told (Err journal.Damaged) u done = keeps_after (Err folder.Failed) u done

    module _ {F : Type 0} (history : F → History) (old new : Journal F) (past : List State) (is : history old.folder ≡ Some (t ∷ past)) where
      pub started_at : (r : Result (Unit {0}) JournalFault) → GoesBy (making (length bytes)) (IsRenewed head.first bytes r) (history old.folder) (history new.folder)
          → OnOk r ((new.head ≡ head) × (new.place ≡ length bytes) × (new.next ≡ next) × (new.spent ≡ true)) → OnOk r (new.failed ≡ false) → IsStarted history first others r old new
      started_at r went = by r (subst (λ (x : History). GoesBy (making (length bytes)) (IsRenewed head.first bytes r) x (history new.folder)) is went)
        where
          kept_since : (r : Result (Unit {0}) JournalFault) → GoesBy (making (length bytes)) (IsRenewed head.first bytes r) (Some (t ∷ past)) (history new.folder) → Since (KeepsOn first others) (history old.folder) (history new.folder)
          kept_since r goes = subst (λ (x : History). Since (KeepsOn first others) x (history new.folder)) (sym is) (goes.0 ∷ making (length bytes) t ∷ [], goes.1, (keeps_told r goes.0 goes.2, (keeps_made (length bytes), tt)))

          by : (r : Result (Unit {0}) JournalFault) → GoesBy (making (length bytes)) (IsRenewed head.first bytes r) (Some (t ∷ past)) (history new.folder)
              → OnOk r ((new.head ≡ head) × (new.place ≡ length bytes) × (new.next ≡ next) × (new.spent ≡ true)) → OnOk r (new.failed ≡ false) → IsStarted history first others r old new
          by (Ok x) goes fields alive = record {
            done = (
                record {
                  chapter = on.chapter;
                  older = on.older;
                  puts = on.puts;
                  from = on.from;
                  says = on.says;
                  at = record {
                    chained = on.chained;
                    head = fields.0 ∙ on.headed;
                    place = fields.1 ∙ ap (λ (l : List ℕ). length l) on.text;
                    next = fields.2 ∙ on.numbered;
                    holds = subst (λ (x : History). Now (Holds on.chapter on.older) x) (sym goes.1)
                        (renewed_holds goes.0 (ap (λ (k : State). k.segments) goes.2) (ap (λ (k : State). k.added) goes.2 ∙ found.added) (ap (λ (k : State). k.floor) goes.2));
                    well = λ w. absurd (false≢true (sym w ∙ fields.3));
                    alive = alive;
                  };
                }
                );
            kept = kept_since (Ok x) goes;
          }
          by (Err x) goes fields alive = record { done = tt; kept = kept_since (Err x) goes }

-- The first name is that of the newest.
abbrev no_name : Named
no_name = record { first = 0; bytes = 0 }

abbrev name_in : Option Named → Named
name_in None = no_name
name_in (Some n) = n

pub first_of : (items : List Named) (named : Named) → Some named ≡ slice_get items 0 → (ns : List Named) × (items ≡ named ∷ ns)
first_of [] named is = absurd (grind (arith, is))
first_of (n ∷ ns) named is = (ns, ap (λ (k : Named). k ∷ ns) (sym (ap name_in is)))

pub on_it : (first : Chapter) (others : List Chapter) (puts : Puts) → Says first puts → (t : State) → KeepsOn first others t → IsFound t → (items : List Named) (named : Named) → Some named ≡ slice_get items 0 → HasNames items t → (head : Head) → IsHead head → head.first ≡ named.first → (bytes : List ℕ) (next : ℕ)
    → IsNewest named.bytes head bytes next t → IsOn first others head bytes next t
on_it first others puts told t kept found items named at names head ih numbered bytes next newest =
    let f = first_of items named at in
    by t.segments refl (subst (λ (l : List Named). AreNamed l t.segments) f.1 names)
  where
    by : (ss : List Segment) → t.segments ≡ ss → AreNamed (named ∷ (first_of items named at).0) t.segments → IsOn first others head bytes next t
    by [] is are = absurd (subst (λ (l : List Segment). AreNamed (named ∷ (first_of items named at).0) l) is are)
    by (s ∷ rest) is are =
        let here = subst (λ (l : List Segment). AreNamed (named ∷ (first_of items named at).0) l) is are in
        let r = newest s rest is (sym here.1) in
        is_on first others puts told t kept found head ih bytes next s rest is (sym here.0 ∙ sym numbered) r.1.0 r.1.1 r.0 r.1.2 r.1.3 r.1.4 r.1.5

-- What was shown has lower numbers than the next record, if it is there.
pub shown_after : (n : ℕ) (t : State) → IsShownIn n t → (named : Named) (ns : List Named) → HasNames (named ∷ ns) t → (head : Head) → IsHead head → head.first ≡ named.first → (bytes : List ℕ) (next : ℕ) → IsNewest named.bytes head bytes next t → n < next
shown_after n t shown named ns names head ih numbered bytes next newest = by t.segments refl names
  where
    by : (ss : List Segment) → t.segments ≡ ss → AreNamed (named ∷ ns) ss → n < next
    by [] is are = absurd are
    by (s ∷ rest) is are = shown.newest s rest head bytes next is ih (numbered ∙ are.0) (subst (λ (len : ℕ). IsNewest len head bytes next t) are.1 newest)

pub on_ok : {A B : Type 0} (r : Result (Unit {0}) JournalFault) → (A → B) → OnOk r A → OnOk r B
on_ok (Ok x) then is = then is
on_ok (Err e) then is = tt

-- In a folder that has no segments. -----------------------------------------------------------------------------------

no_segments : (ss : List Segment) → AreNamed [] ss → ss ≡ []
no_segments [] are = refl
no_segments (s ∷ ss) are = absurd are

pub none_kept : (t : State) → IsReadable t → IsFound t → HasNames [] t → ⊥
none_kept t kept found names =
    let k = kept (left_of (seen_files t.segments) t) (is_left t (seen_files t.segments) found (seen_torn t.segments)) in
    let there = k.2 in
    absurd (omega (arith, ap (λ (l : List File). length l) (ap seen_files (sym (no_segments t.segments names)) ∙ there.files)))

module _ {F : Type 0} (history : F → History) (old new : Journal F) (t : State) (past : List State) (is : history old.folder ≡ Some (t ∷ past)) (found : IsFound t) (empty : IsEmpty t) (head : Head) (ih : IsHead head) (first : head.first ≡ 1) (bytes : List ℕ)
    (text : bytes ≡ head_text head) where
  abbrev first_chapter : Chapter
  first_chapter = record { head = head; batches = [] }

  first_text : bytes ≡ chapter_text first_chapter
  first_text = text ∙ sym (append-nil (head_text head))

  begun_holds : (u : State) → IsAdded head.first bytes (Ok tt) t u → Holds first_chapter [] u
  begun_holds u done = record {
    chained = record { head = ih; follow = tt };
    newest = whole_segment head.first bytes;
    older = [];
    segments = ap (λ (k : State). k.segments) done ∙ ap (λ (l : List Segment). whole_segment head.first bytes ∷ but_named head.first l) empty.none;
    first = refl;
    kept = first_text;
    are = tt;
    added = ap (λ (k : State). k.added) done ∙ found.added;
    low = omega (arith, first);
  }

  pub begun_at : (r : Result (Unit {0}) JournalFault) → GoesBy (making (length bytes)) (IsRenewed head.first bytes r) (history old.folder) (history new.folder)
      → OnOk r ((new.head ≡ head) × (new.place ≡ length bytes) × (new.next ≡ 1) × (new.spent ≡ true)) → OnOk r (new.failed ≡ false) → OnOk r (Stands history [] new)
  begun_at r went = by r (subst (λ (x : History). GoesBy (making (length bytes)) (IsRenewed head.first bytes r) x (history new.folder)) is went)
    where
      by : (r : Result (Unit {0}) JournalFault) → GoesBy (making (length bytes)) (IsRenewed head.first bytes r) (Some (t ∷ past)) (history new.folder)
          → OnOk r ((new.head ≡ head) × (new.place ≡ length bytes) × (new.next ≡ 1) × (new.spent ≡ true)) → OnOk r (new.failed ≡ false) → OnOk r (Stands history [] new)
      by (Ok x) goes fields alive = record {
        chapter = first_chapter;
        older = [];
        told = record { gone = []; same = refl; before = omega (arith, first) };
        at = record {
          chained = record { head = ih; follow = tt };
          head = fields.0;
          place = fields.1 ∙ ap (λ (l : List ℕ). length l) first_text;
          next = omega (arith, fields.2, first);
          holds = subst (λ (x : History). Now (Holds first_chapter []) x) (sym goes.1) (begun_holds goes.0 goes.2);
          well = λ w. absurd (false≢true (sym w ∙ fields.3));
          alive = alive;
        };
      }
      by (Err x) goes fields alive = tt

pub no_names : (items : List Named) (t : State) → t.segments ≡ [] → HasNames items t → length items ≡ 0
no_names [] t none names = refl
no_names (n ∷ items) t none names = absurd (subst (λ (l : List Segment). AreNamed (n ∷ items) l) none names)

pub seen_of : (t : State) → IsReadable t → IsFound t → IsSeen t
seen_of t kept found = kept (seen t) (is_left t (seen_files t.segments) found (seen_torn t.segments))

pub none_first : (items : List Named) → slice_get items 0 ≡ None → items ≡ []
none_first [] is = refl
none_first (n ∷ items) is = absurd (grind (arith, is))
