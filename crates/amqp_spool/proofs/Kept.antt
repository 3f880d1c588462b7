-- What is on the disk stays.
use Rattle.std.proofs.Common.{◌≡◌, ℕ, ◌≤◌, ◌<◌, arith, List, [], ◌∷◌, ◌++◌, length, length-append, take, refl, sym, ap, ◌∙◌, subst, append_assoc, append-nil, Option, Some, None, Result, Ok, Err, Bool, true, false, cond, ◌⊎◌, inl, inr, ⊎_elim}
use Rattle.std.proofs.lemmas.Bool.{ne_eqb, eq-eqb, false≢true}
use Rattle.amqp_spool.specs.declared.folder.FolderFault.{FolderFault}
use Rattle.amqp_spool.specs.declared.folder.FolderFault.TheVariants as fault
use Rattle.amqp_spool.specs.Batches.{Batch, Follows, texts}
use Rattle.amqp_spool.specs.Chapters.{Chapter, chapter_text, next_of, IsChapter, Chained, AreIn, Holds, IsAt, AreRead, AreThere, Reads, AreTold, oldest, with_batch, told, GoesOnFrom, StaysOn, KeepsOn, IsPut, IsBegun, GoesAfter}
use Rattle.amqp_spool.specs.Folders.{Segment, State, File, Left, History, Now, Since, Goes, GoesBy, making, maybe_segment, whole_segment, but_named, IsAdded, content, IsAppended, IsSynced, IsLeft, IsTornTo, AreTornTo, AreSomeOf, with_added, spare_left}
use Rattle.amqp_spool.specs.Heads.{batch_text, head_text}
use Rattle.amqp_spool.proofs.Histories.{goes_now, goes_since, goes_by_now, goes_by_since, now_and, since_none, since_since}
use Rattle.amqp_spool.proofs.Through.{texts_more, follow_more}
use Rattle.amqp_spool.proofs.Reading.{first_is, older_read, newest_read}
use Rattle.amqp_spool.proofs.Reaching.{reach, chained_front, are_in_front, same_oldest}

-- The chapter of a batch more is the chapter, and the batch.
pub text_more : (b : Batch) (ch : Chapter) → chapter_text (with_batch b ch) ≡ chapter_text ch ++ batch_text ch.head.secret b.head b.body
text_more b ch =
    ap (λ (l : List ℕ). head_text ch.head ++ l) (texts_more ch.head.secret ch.batches b) ∙ sym (append_assoc (head_text ch.head) (texts ch.head.secret ch.batches) (batch_text ch.head.secret b.head b.body))

chapter_more : (b : Batch) (ch : Chapter) → Follows (next_of ch) b → IsChapter ch → IsChapter (with_batch b ch)
chapter_more b ch f is = record { head = is.head; follow = follow_more ch.head.first ch.batches b is.follow f }

pub chained_more : (b : Batch) (ch : Chapter) (chs : List Chapter) → Follows (next_of ch) b → Chained (ch ∷ chs) → Chained (with_batch b ch ∷ chs)
chained_more b ch [] f is = chapter_more b ch f is
chained_more b ch (a ∷ chs) f is = (chapter_more b ch f is.0, record { spool = is.1.spool; before = is.1.before; counted = is.1.counted; first = is.1.first }, is.2)

-- An append changes nothing of what is held; once it is synced, the batch is.
pub still_held : (ch : Chapter) (chs : List Chapter) (bytes : List ℕ) (r : Result (Unit {0}) FolderFault) (s t : State) → Holds ch chs s → IsAppended bytes r s t → Holds ch chs t
still_held ch chs bytes (Ok x) s t is done =
    let d = done is.newest is.older is.segments in
    record {
      chained = is.chained;
      newest = record is.newest { tail = is.newest.tail ++ bytes };
      older = is.older;
      segments = ap (λ (k : State). k.segments) d;
      first = is.first;
      kept = is.kept;
      are = is.are;
      added = ap (λ (k : State). k.added) d ∙ is.added;
      low = omega (arith, is.low, ap (λ (k : State). k.floor) d);
    }
still_held ch chs bytes (Err f) s t is done =
    let d = done is.newest is.older is.segments in
    record {
      chained = is.chained;
      newest = record is.newest { tail = is.newest.tail ++ take d.0 bytes; spent = true };
      older = is.older;
      segments = ap (λ (k : State). k.segments) d.2;
      first = is.first;
      kept = is.kept;
      are = is.are;
      added = ap (λ (k : State). k.added) d.2 ∙ is.added;
      low = omega (arith, is.low, ap (λ (k : State). k.floor) d.2);
    }

-- what was written of a batch, once it is synced
pub held_more : (ch : Chapter) (chs : List Chapter) (b : Batch) (x : Unit {0}) (s t : State) (is : Holds ch chs s) → is.newest.tail ≡ batch_text ch.head.secret b.head b.body → Follows (next_of ch) b → IsSynced (Ok x) s t → Holds (with_batch b ch) chs t
held_more ch chs b x s t is tail f done =
    let d = done is.newest is.older is.segments in
    record {
      chained = chained_more b ch chs f is.chained;
      newest = record is.newest { kept = content is.newest; tail = [] };
      older = is.older;
      segments = ap (λ (k : State). k.segments) d;
      first = is.first;
      kept = ap (λ (l : List ℕ). l ++ is.newest.tail) is.kept ∙ ap (λ (l : List ℕ). chapter_text ch ++ l) tail ∙ sym (text_more b ch);
      are = is.are;
      added = ap (λ (k : State). k.added) d ∙ is.added;
      low = omega (arith, is.low, ap (λ (k : State). k.floor) d, same_oldest ch (with_batch b ch) chs refl);
    }

-- a sync that failed changes nothing of it
pub held_unsynced : (ch : Chapter) (chs : List Chapter) (f : FolderFault) (s t : State) → Holds ch chs s → IsSynced (Err f) s t → Holds ch chs t
held_unsynced ch chs f s t is done =
    let d = done is.newest is.older is.segments in
    record {
      chained = is.chained;
      newest = record is.newest { spent = true };
      older = is.older;
      segments = ap (λ (k : State). k.segments) d;
      first = is.first;
      kept = is.kept;
      are = is.are;
      added = ap (λ (k : State). k.added) d ∙ is.added;
      low = omega (arith, is.low, ap (λ (k : State). k.floor) d);
    }

-- What a crash leaves of older segments is read as it was.
torn_read : (chs : List Chapter) (ss : List Segment) (fs again : List File) → AreIn chs ss → AreTornTo ss fs → AreRead chs (fs ++ again)
torn_read [] ss fs again is torn = tt
torn_read (ch ∷ chs) (s ∷ ss) (f ∷ fs) again is torn =
    let x = is.0 in
    let y = torn.0 in
    (record { first = y.first ∙ x.first; rest = x.rest ++ y.torn; whole = y.whole ∙ ap (λ (l : List ℕ). l ++ y.torn) x.whole ∙ append_assoc (chapter_text ch) x.rest y.torn }, torn_read chs ss fs again is.1 torn.1)
torn_read (ch ∷ chs) [] fs again is torn = absurd is
torn_read (ch ∷ chs) (s ∷ ss) [] again is torn = absurd torn

-- The kept law. -------------------------------------------------------------------------------------------------------

-- Each reading of what a crash leaves has all that is held, as far back as it goes, and at most batches more after it, which were written and not synced.
pub record HasKept (ch : Chapter) (chs : List Chapter) (tail : List ℕ) (dh : Chapter) (ds : List Chapter) : Type 0 where
  pub more : List Batch
  pub newest : dh ≡ record ch { batches = ch.batches ++ more }
  pub rest : List Chapter
  pub older : chs ≡ ds ++ rest
  pub short : length (texts ch.head.secret more) ≤ length tail

abbrev no_file : File
no_file = record { first = 0; bytes = [] }

abbrev pub first_file : List File → File
first_file [] = no_file
first_file (f ∷ fs) = f

abbrev pub other_files : List File → List File
other_files [] = []
other_files (f ∷ fs) = fs

torn_front : (s : Segment) (ss : List Segment) (fs : List File) → AreTornTo (s ∷ ss) fs → (f : File) × (gs : List File) × (fs ≡ f ∷ gs) × IsTornTo s f × AreTornTo ss gs
torn_front s ss [] torn = absurd torn
torn_front s ss (f ∷ fs) torn = (f, fs, refl, torn.0, torn.1)

none_added : (b : Bool) (ss : List Segment) → with_added None b ss ≡ ss
none_added true ss = refl
none_added false ss = refl

-- The newest file, and those after it.
pub record IsFront (newest : Segment) (older : List Segment) (c : Left) : Type 0 where
  pub file : File
  pub files : List File
  pub again : List File
  pub all : c.files ≡ file ∷ (files ++ again)
  pub torn : IsTornTo newest file
  pub others : AreTornTo older files

pub front_of : (newest : Segment) (older : List Segment) (t : State) (c : Left) → t.segments ≡ newest ∷ older → t.added ≡ None → IsLeft t c → IsFront newest older c
front_of newest older t c is added left =
    let there : AreTornTo (newest ∷ older) left.there = subst (λ (ss : List Segment). AreTornTo ss left.there)
    (ap (λ (a : Option Segment). with_added a left.added t.segments) added ∙ none_added left.added t.segments ∙ is) left.segments in
    let front = torn_front newest older left.there there in
    record { file = front.0; files = front.1; again = left.again; all = left.files ∙ ap (λ (l : List File). l ++ left.again) front.2; torn = front.3; others = front.4 }

pub kept_in : (ch : Chapter) (chs : List Chapter) (t : State) (c : Left) (is : Holds ch chs t) → IsLeft t c → (dh : Chapter) (ds : List Chapter) → Reads c dh ds → HasKept ch chs is.newest.tail dh ds
kept_in ch chs t c is left dh ds r =
    let front = front_of is.newest is.older t c is.segments is.added left in
    let files : r.there.newest ∷ r.there.older ≡ front.file ∷ (front.files ++ front.again) = sym r.there.files ∙ front.all in
    let newest : r.there.newest ≡ front.file = ap first_file files in
    let older : r.there.older ≡ front.files ++ front.again = ap other_files files in
    let torn = front.torn in
    let text : chapter_text ch ++ torn.torn ≡ chapter_text dh ++ r.there.is.rest =
    ap (λ (l : List ℕ). l ++ torn.torn) (sym is.kept) ∙ sym torn.whole ∙ ap (λ (f : File). f.bytes) (sym newest) ∙ r.there.is.whole in
    let n = newest_read ch dh chs ds torn.torn r.there.is.rest (first_is ch chs is.chained) (first_is dh ds r.there.chained) text r.ends in
    let olds = older_read t.floor c.floor ch dh chs ds (front.files ++ front.again) (sym (ap (λ (k : Chapter). k.head) n.1)) is.chained r.there.chained is.low left.floor.0 r.there.reaches
    (torn_read chs is.older front.files front.again is.are front.others) (subst (λ (l : List File). AreRead ds l) older r.there.are) in
    record { more = n.0; newest = n.1; rest = olds.0; older = olds.1; short = omega (arith, torn.is.short, ap (λ (l : List ℕ). length l) n.2, length-append (texts ch.head.secret n.0) r.there.is.rest) }

-- and it can be read
pub is_there : (ch : Chapter) (chs : List Chapter) (t : State) (c : Left) → Holds ch chs t → IsLeft t c → (dh : Chapter) × (ds : List Chapter) × AreThere c dh ds
is_there ch chs t c is left =
    let front = front_of is.newest is.older t c is.segments is.added left in
    let back = reach c.floor ch chs (omega (arith, is.low, left.floor.0)) in
    let all : Chained (ch ∷ (back.0 ++ back.1)) = subst (λ (l : List Chapter). Chained (ch ∷ l)) back.2 is.chained in
    let are : AreIn (back.0 ++ back.1) is.older = subst (λ (l : List Chapter). AreIn l is.older) back.2 is.are in (
      ch,
      back.0,
      record {
        chained = chained_front ch back.0 back.1 all;
        reaches = back.3;
        newest = front.file;
        older = front.files ++ front.again;
        files = front.all;
        is = record { first = front.torn.first ∙ is.first; rest = front.torn.torn; whole = front.torn.whole ∙ ap (λ (l : List ℕ). l ++ front.torn.torn) is.kept };
        are = torn_read back.0 is.older front.files front.again (are_in_front back.0 back.1 is.older are) front.others;
      },
    )

-- A batch that is put. ------------------------------------------------------------------------------------------------

pub stays_on : (ch : Chapter) (chs : List Chapter) (t : State) → Holds ch chs t → StaysOn ch chs t
stays_on ch chs t is = λ c left. (
  is_there ch chs t c is left,
  λ dh ds r. let k = kept_in ch chs t c is left dh ds r in record { more = k.more; newest = k.newest; rest = k.rest; older = k.older },
)

-- What stays on goes on.
pub goes_on_from : (ch : Chapter) (chs : List Chapter) (t : State) → StaysOn ch chs t → KeepsOn ch chs t
goes_on_from ch chs t is = λ c left. let s = is c left in (s.0, λ dh ds r. record { next = ch; behind = chs; from = inl (refl, refl); is = s.1 dh ds r })

-- What is read goes on from these chapters: they are held, or what was begun after them is.
keeps_from : (ch : Chapter) (chs : List Chapter) (next : Chapter) (behind : List Chapter) (t : State) → ((next ≡ ch) × (behind ≡ chs)) ⊎ GoesAfter next ch chs behind → Holds next behind t → KeepsOn ch chs t
keeps_from ch chs next behind t from is = λ c left. let s = stays_on next behind t is c left in (s.0, λ dh ds r. record { next = next; behind = behind; from = from; is = s.1 dh ds r })

pub keeps_on : (ch : Chapter) (chs : List Chapter) (t : State) → Holds ch chs t → KeepsOn ch chs t
keeps_on ch chs t is = keeps_from ch chs ch chs t (inl (refl, refl)) is

pub told_more : (all : List Batch) (ch : Chapter) (chs : List Chapter) (b : Batch) → AreTold all ch chs → AreTold (all ++ b ∷ []) (with_batch b ch) chs
told_more all ch chs b whole = record {
  gone = whole.gone;
  same = ap (λ (l : List Batch). l ++ b ∷ []) whole.same ∙ append_assoc whole.gone (told (ch ∷ chs)) (b ∷ []) ∙ ap (λ (l : List Batch). whole.gone ++ l) (append_assoc (told chs) ch.batches (b ∷ []));
  before = whole.before ∙ same_oldest ch (with_batch b ch) chs refl;
}

keeps_more : (ch : Chapter) (chs : List Chapter) (b : Batch) (t : State) → Holds (with_batch b ch) chs t → KeepsOn ch chs t
keeps_more ch chs b t is = λ c left.
    let s = stays_on (with_batch b ch) chs t is c left in (
      s.0,
      λ dh ds r.
          let m = s.1 dh ds r in
          record {
            next = ch;
            behind = chs;
            from = inl (refl, refl);
            is = record {
              more = b ∷ m.more;
              newest = m.newest ∙ ap (λ (l : List Batch). record ch { batches = l }) (append_assoc ch.batches (b ∷ []) m.more);
              rest = m.rest;
              older = m.older;
            };
          },
    )

-- written, and not synced
record IsWritten (ch : Chapter) (chs : List Chapter) (b : Batch) (t : State) : Type 0 where
  pub holds : Holds ch chs t
  pub tail : holds.newest.tail ≡ batch_text ch.head.secret b.head b.body
  pub well : holds.newest.spent ≡ false

written : (ch : Chapter) (chs : List Chapter) (b : Batch) (bytes : List ℕ) (x : Unit {0}) (s t : State) → bytes ≡ batch_text ch.head.secret b.head b.body → IsAt ch chs s → IsAppended bytes (Ok x) s t → IsWritten ch chs b t
unfolding still_held
written ch chs b bytes x s t text is done =
    record { holds = still_held ch chs bytes (Ok x) s t is.holds done; tail = ap (λ (l : List ℕ). l ++ bytes) is.all ∙ text; well = is.well }

synced_at : (ch : Chapter) (chs : List Chapter) (b : Batch) (x : Unit {0}) (s t : State) → Follows (next_of ch) b → IsWritten ch chs b s → IsSynced (Ok x) s t → IsAt (with_batch b ch) chs t
unfolding held_more
synced_at ch chs b x s t f is done = record { holds = held_more ch chs b x s t is.holds is.tail f done; all = refl; well = is.well }

module _ (ch : Chapter) (chs : List Chapter) (b : Batch) (bytes : List ℕ) (text : bytes ≡ batch_text ch.head.secret b.head b.body) (f : Follows (next_of ch) b) where
  pub put_unwritten : (h k : History) (r : Result (Unit {0}) FolderFault) (e : FolderFault) → r ≡ Err e → Now (IsAt ch chs) h → Goes (IsAppended bytes r) h k → IsPut ch chs b (Err e) h k
  put_unwritten h k r e is now goes = record {
    done = tt;
    failed = goes_now (IsAppended bytes r) (IsAt ch chs) (Holds ch chs) h k goes now (λ s t p q. still_held ch chs bytes r s t p.holds q);
    kept = goes_since (IsAppended bytes r) (IsAt ch chs) (KeepsOn ch chs) h k goes now (λ s t p q. keeps_on ch chs t (still_held ch chs bytes r s t p.holds q));
  }

  module _ (h k l : History) (r q : Result (Unit {0}) FolderFault) (x : Unit {0}) (was : r ≡ Ok x) (now : Now (IsAt ch chs) h) (goes : Goes (IsAppended bytes r) h k) (next : Goes (IsSynced q) k l) where
    so : Goes (IsAppended bytes (Ok x)) h k
    so = subst (λ (y : Result (Unit {0}) FolderFault). Goes (IsAppended bytes y) h k) was goes

    mid : Now (IsWritten ch chs b) k
    mid = goes_now (IsAppended bytes (Ok x)) (IsAt ch chs) (IsWritten ch chs b) h k so now (λ s t p y. written ch chs b bytes x s t text p y)

    first_since : Since (KeepsOn ch chs) h k
    first_since = goes_since (IsAppended bytes (Ok x)) (IsAt ch chs) (KeepsOn ch chs) h k so now (λ s t p y. keeps_on ch chs t (still_held ch chs bytes (Ok x) s t p.holds y))

    pub put_unsynced : (e : FolderFault) → q ≡ Err e → IsPut ch chs b (Err e) h l
    put_unsynced e is =
        let then = subst (λ (y : Result (Unit {0}) FolderFault). Goes (IsSynced y) k l) is next in
        record {
          done = tt;
          failed = goes_now (IsSynced (Err e)) (IsWritten ch chs b) (Holds ch chs) k l then mid (λ s t p y. held_unsynced ch chs e s t p.holds y);
          kept = since_since (KeepsOn ch chs) h k l first_since (goes_since (IsSynced (Err e)) (IsWritten ch chs b) (KeepsOn ch chs) k l then mid (λ s t p y. keeps_on ch chs t (held_unsynced ch chs e s t p.holds y)));
        }

    pub put_synced : (z : Unit {0}) → q ≡ Ok z → IsPut ch chs b (Ok tt) h l
    put_synced z is =
        let then = subst (λ (y : Result (Unit {0}) FolderFault). Goes (IsSynced y) k l) is next in
        record {
          done = goes_now (IsSynced (Ok z)) (IsWritten ch chs b) (IsAt (with_batch b ch) chs) k l then mid (λ s t p y. synced_at ch chs b z s t f p y);
          failed = tt;
          kept = since_since (KeepsOn ch chs) h k l first_since (goes_since (IsSynced (Ok z)) (IsWritten ch chs b) (KeepsOn ch chs) k l then mid (λ s t p y. keeps_more ch chs b t ((synced_at ch chs b z s t f p y).holds)));
        }

pub put_nothing : (ch : Chapter) (chs : List Chapter) (b : Batch) (h : History) (e : FolderFault) → Now (IsAt ch chs) h → IsPut ch chs b (Err e) h h
put_nothing ch chs b h e now = record { done = tt; failed = now_and (IsAt ch chs) (Holds ch chs) h now (λ s p. p.holds); kept = since_none (KeepsOn ch chs) h }

ok≢err : {x : Unit {0}} {e : FolderFault} → Ok x ≡ Err e → ⊥
ok≢err is = grind (arith, is)

abbrev failed_or_full : Result (Unit {0}) FolderFault → Bool
failed_or_full (Err fault.Failed) = true
failed_or_full x = false

-- A segment that is begun. --------------------------------------------------------------------------------------------

-- what is behind the new one
behind_in : (next ch : Chapter) (chs behind : List Chapter) → GoesAfter next ch chs behind → (s : State) → Holds ch chs s → AreIn behind (but_named next.head.first s.segments)
behind_in next ch chs behind after s is = ⊎_elim
    (λ (p : (behind ≡ ch ∷ chs) × (ch.head.first < next.head.first)).
    let named = ap (λ (l : List Segment). but_named next.head.first l) is.segments ∙ ap (λ (x : Bool). cond x is.older (is.newest ∷ is.older)) (ne_eqb is.newest.first next.head.first (λ same. omega (arith, p.1, same, is.first))) in
    subst (λ (l : List Segment). AreIn behind l) (sym named)
    (subst (λ (l : List Chapter). AreIn l (is.newest ∷ is.older)) (sym p.0) (record { first = is.first; rest = []; whole = is.kept ∙ sym (append-nil (chapter_text ch)) }, is.are)))
    (λ (p : (behind ≡ chs) × (ch.batches ≡ []) × (ch.head.first ≡ next.head.first)).
    let named = ap (λ (l : List Segment). but_named next.head.first l) is.segments ∙ ap (λ (x : Bool). cond x is.older (is.newest ∷ is.older)) (eq-eqb is.newest.first next.head.first (is.first ∙ p.2)) in
    subst (λ (l : List Segment). AreIn behind l) (sym named) (subst (λ (l : List Chapter). AreIn l is.older) (sym p.0) is.are))
    after.place

firsts : (next ch : Chapter) (chs : List Chapter) → ch.head.first ≡ next.head.first → (oldest next chs).head.first ≡ (oldest ch chs).head.first
firsts next ch [] is = sym is
firsts next ch (a ∷ chs) is = refl

pub oldest_after : (next ch : Chapter) (chs behind : List Chapter) → GoesAfter next ch chs behind → (oldest next behind).head.first ≡ (oldest ch chs).head.first
oldest_after next ch chs behind after = ⊎_elim
    (λ (p : (behind ≡ ch ∷ chs) × (ch.head.first < next.head.first)). ap (λ (l : List Chapter). (oldest next l).head.first) p.0)
    (λ (p : (behind ≡ chs) × (ch.batches ≡ []) × (ch.head.first ≡ next.head.first)). ap (λ (l : List Chapter). (oldest next l).head.first) p.0 ∙ firsts next ch chs p.2)
    after.place

pub same_told : (next ch : Chapter) (chs behind : List Chapter) → GoesAfter next ch chs behind → told behind ≡ told (ch ∷ chs)
same_told next ch chs behind after = ⊎_elim
    (λ (p : (behind ≡ ch ∷ chs) × (ch.head.first < next.head.first)). ap told p.0)
    (λ (p : (behind ≡ chs) × (ch.batches ≡ []) × (ch.head.first ≡ next.head.first)). ap told p.0 ∙ sym (ap (λ (l : List Batch). told chs ++ l) p.1 ∙ append-nil (told chs)))
    after.place

pub told_next : (all : List Batch) (next ch : Chapter) (chs behind : List Chapter) → AreTold all ch chs → GoesAfter next ch chs behind → AreTold (all ++ next.batches) next behind
told_next all next ch chs behind whole after = record {
  gone = whole.gone;
  same = ap (λ (l : List Batch). l ++ next.batches) whole.same ∙ append_assoc whole.gone (told (ch ∷ chs)) next.batches ∙ ap (λ (l : List Batch). whole.gone ++ (l ++ next.batches)) (sym (same_told next ch chs behind after));
  before = whole.before ∙ sym (oldest_after next ch chs behind after);
}

module _ (next ch : Chapter) (chs behind : List Chapter) (bytes : List ℕ) (text : bytes ≡ chapter_text next) (after : GoesAfter next ch chs behind) where
  abbrev it : Segment
  it = whole_segment next.head.first bytes

  new_holds : (s t : State) (is : Holds ch chs s) → t.segments ≡ it ∷ but_named next.head.first s.segments → t.added ≡ None → t.floor ≡ s.floor → Holds next behind t
  new_holds s t is segments added floor = record {
    chained = after.chained;
    newest = it;
    older = but_named next.head.first s.segments;
    segments = segments;
    first = refl;
    kept = text;
    are = behind_in next ch chs behind after s is;
    added = added;
    low = omega (arith, is.low, floor, oldest_after next ch chs behind after);
  }

  begun : (x : Unit {0}) (s t : State) → Holds ch chs s → IsAdded next.head.first bytes (Ok x) s t → IsAt next behind t
  unfolding new_holds
  begun x s t is done =
      record { holds = new_holds s t is (ap (λ (k : State). k.segments) done) (ap (λ (k : State). k.added) done ∙ is.added) (ap (λ (k : State). k.floor) done); all = refl; well = refl }

  made : (n : ℕ) (s : State) → Holds ch chs s → Holds ch chs (making n s)
  made n s is = record { chained = is.chained; newest = is.newest; older = is.older; segments = is.segments; first = is.first; kept = is.kept; are = is.are; added = is.added; low = is.low }

  full : (s t : State) → Holds ch chs s → IsAdded next.head.first bytes (Err fault.Full) s t → Holds ch chs t
  full s t is done = ⊎_elim (λ same. subst (λ (k : State). Holds ch chs k) (sym same) is) (λ same. subst (λ (k : State). Holds ch chs k) (sym same) (made (length bytes) s is)) done

  full_at : (s t : State) → IsAt ch chs s → IsAdded next.head.first bytes (Err fault.Full) s t → IsAt ch chs t
  unfolding made
  full_at s t is done =
      ⊎_elim (λ same. subst (λ (k : State). IsAt ch chs k) (sym same) is)
      (λ same. subst (λ (k : State). IsAt ch chs k) (sym same) (record { holds = made (length bytes) s is.holds; all = is.all; well = is.well })) done

  keeps_new : (s t : State) (is : Holds ch chs s) → t.segments ≡ it ∷ but_named next.head.first s.segments → t.added ≡ None → t.floor ≡ s.floor → KeepsOn ch chs t
  keeps_new s t is segments added floor = keeps_from ch chs next behind t (inr after) (new_holds s t is segments added floor)

  keeps_begun : (x : Unit {0}) (s t : State) → Holds ch chs s → IsAdded next.head.first bytes (Ok x) s t → KeepsOn ch chs t
  keeps_begun x s t is done = keeps_new s t is (ap (λ (k : State). k.segments) done) (ap (λ (k : State). k.added) done ∙ is.added) (ap (λ (k : State). k.floor) done)

  -- It is there or not.
  by_there : (s : State) → Holds ch chs s → (there : Bool) (c : Left) (files again : List File) → AreTornTo (with_added (Some it) there s.segments) files → AreSomeOf s.removed again → c.files ≡ files ++ again
      → (s.floor ≤ c.floor) × (c.floor ≤ s.raised) → c.spare ≤ spare_left (Some it) there (length bytes) → ((dh : Chapter) × (ds : List Chapter) × AreThere c dh ds) × ((dh : Chapter) (ds : List Chapter) → Reads c dh ds → GoesOnFrom ch chs dh ds)
  by_there s is true c files again segments removed every floor spare =
      keeps_new s (record s { segments = it ∷ but_named next.head.first s.segments; added = None; spare = 0 }) is refl refl refl c
      (record { added = false; there = files; again = again; segments = segments; removed = removed; files = every; floor = floor; spare = spare })
  by_there s is false c files again segments removed every floor spare =
      keeps_on ch chs (record s { added = None; spare = length bytes })
      (record { chained = is.chained; newest = is.newest; older = is.older; segments = is.segments; first = is.first; kept = is.kept; are = is.are; added = refl; low = is.low }) c
      (record { added = false; there = files; again = again; segments = segments; removed = removed; files = every; floor = floor; spare = spare })

  keeps_either : (s : State) → Holds ch chs s → KeepsOn ch chs (maybe_segment next.head.first bytes (making (length bytes) s))
  keeps_either s is = λ c left. by_there s is left.added c left.there left.again left.segments left.removed left.files left.floor left.spare

  keeps_added : (r : Result (Unit {0}) FolderFault) (s t : State) → Holds ch chs s → IsAdded next.head.first bytes r s t → KeepsOn ch chs t
  keeps_added (Ok x) s t is done = keeps_begun x s t is done
  keeps_added (Err fault.Full) s t is done = keeps_on ch chs t (full s t is done)
  keeps_added (Err fault.Failed) s t is done = subst (λ (k : State). KeepsOn ch chs k) (sym done) (keeps_either s is)

  abbrev Adds : Result (Unit {0}) FolderFault → History → History → Type 0
  Adds r h k = GoesBy (making (length bytes)) (IsAdded next.head.first bytes r) h k

  kept_since : (r : Result (Unit {0}) FolderFault) (h k : History) → Now (Holds ch chs) h → Adds r h k → Since (KeepsOn ch chs) h k
  kept_since r h k now goes = goes_by_since (making (length bytes)) (IsAdded next.head.first bytes r) (Holds ch chs) (KeepsOn ch chs) h k goes now
      (λ s is. keeps_on ch chs (making (length bytes) s) (made (length bytes) s is)) (λ s t is done. keeps_added r s t is done)

  pub segment_begun : (x : Unit {0}) (h k : History) → Now (Holds ch chs) h → Adds (Ok x) h k → IsBegun next ch chs behind (Ok tt) h k
  segment_begun x h k now goes = record {
    done = goes_by_now (making (length bytes)) (IsAdded next.head.first bytes (Ok x)) (Holds ch chs) (IsAt next behind) h k goes now (λ s t is done. begun x s t is done);
    full = λ is. absurd (ok≢err is);
    still = λ is. absurd (ok≢err is);
    kept = kept_since (Ok x) h k now goes;
  }

  pub segment_full : (h k : History) → Now (Holds ch chs) h → Adds (Err fault.Full) h k → IsBegun next ch chs behind (Err fault.Full) h k
  segment_full h k now goes = record {
    done = tt;
    full = λ _. goes_by_now (making (length bytes)) (IsAdded next.head.first bytes (Err fault.Full)) (Holds ch chs) (Holds ch chs) h k goes now (λ s t is done. full s t is done);
    still = λ _ at. goes_by_now (making (length bytes)) (IsAdded next.head.first bytes (Err fault.Full)) (IsAt ch chs) (IsAt ch chs) h k goes at (λ s t is done. full_at s t is done);
    kept = kept_since (Err fault.Full) h k now goes;
  }

  pub segment_lost : (h k : History) → Now (Holds ch chs) h → Adds (Err fault.Failed) h k → IsBegun next ch chs behind (Err fault.Failed) h k
  segment_lost h k now goes = record { done = tt; full = λ is. absurd (false≢true (sym (ap failed_or_full is))); still = λ is. absurd (false≢true (sym (ap failed_or_full is))); kept = kept_since (Err fault.Failed) h k now goes }

  pub segment_none : (h : History) → Now (Holds ch chs) h → IsBegun next ch chs behind (Err fault.Full) h h
  segment_none h now = record { done = tt; full = λ _. now; still = λ _ at. at; kept = since_none (KeepsOn ch chs) h }
