-- A start goes back over the heads.
use Rattle.std.proofs.Common.{◌≡◌, ℕ, ◌+◌, ◌≤◌, ◌<◌, arith, List, [], ◌∷◌, ◌++◌, length, length-append, take, append_assoc, refl, sym, ap, ◌∙◌, subst, Some, Result, Ok, Err, Bool, true, false, not}
use Rattle.std.proofs.Common.{get_or}
use Rattle.std.specs.Str.{bytes_eq}
use Rattle.std.proofs.lemmas.Bool.{false≢true, not-false}
use Rattle.std.proofs.lemmas.Slice.Eq.{bytes_eq-Decides}
use Rattle.std.proofs.lemmas.List.{take-append-le, take_all}
use Rattle.amqp_spool.specs.declared.head.Head.{Head}
use Rattle.amqp_spool.specs.declared.journal.JournalFault.{JournalFault}
use Rattle.amqp_spool.specs.declared.journal.JournalFault.TheVariants as journal
use Rattle.amqp_spool.specs.declared.segments.Named.{Named}
use Rattle.amqp_spool.specs.Chapters.{Chapter, chapter_text, Chained, IsIn, AreRead, AreThere, Reaches}
use Rattle.amqp_spool.specs.Batches.{texts}
use Rattle.amqp_spool.specs.Folders.{Segment, State, File, History, Now, content}
use Rattle.amqp_spool.specs.Heads.{IsHead, head_text}
use Rattle.amqp_spool.specs.Reads.{AreNamed, HasNames, HasHead, BeginsWith, IsThere, IsSeen, IsNewest, IsBack, seen, seen_files}
use Rattle.amqp_spool.proofs.Kept.{first_file, other_files}
use Rattle.amqp_spool.proofs.Placing.{head_long}
use Rattle.amqp_spool.proofs.Reading.{first_is, one_head}
use Rattle.amqp_spool.proofs.Starting.{head_of_both}

-- at the newest
pub back_first : (head : Head) (t : State) → IsThere head t → IsBack head 0 t
back_first head t is = by t.segments refl
  where
    by : (ss : List Segment) → t.segments ≡ ss → IsBack head 0 t
    by [] none = absurd (omega (arith, ap (λ (l : List File). length l) (ap seen_files (sym none) ∙ is.there.files)))
    by (s ∷ rest) whole =
        let files : record { first = s.first; bytes = content s } ∷ seen_files rest ≡ is.there.newest ∷ is.there.older = ap seen_files (sym whole) ∙ is.there.files in
        record {
          front = [];
          segment = s;
          rest = rest;
          whole = whole;
          at = refl;
          chapter = is.chapter;
          older = is.older;
          same = is.same;
          chained = is.there.chained;
          reaches = is.there.reaches;
          are = subst (λ (l : List File). AreRead is.older l) (ap other_files (sym files)) is.there.are;
        }

-- One more is there, if this one doesn't begin at most where the floor says.
pub record IsBefore (head : Head) (index : ℕ) (t : State) : Type 0 where
  pub segment : Segment
  pub rest : List Segment
  pub front : List Segment
  pub whole : t.segments ≡ front ++ segment ∷ rest
  pub at : length front ≡ index
  pub chapter : Chapter
  pub older : List Chapter
  pub chained : Chained (chapter ∷ older)
  pub reaches : Reaches t.floor (chapter ∷ older)
  pub is : IsIn chapter segment.first (content segment)
  pub are : AreRead older (seen_files rest)
  pub before : head.before ≡ chapter.head.first
  pub spool : head.spool ≡ chapter.head.spool
  pub counted : head.counted ≡ length (chapter_text chapter)

pub goes_before : (head : Head) (index : ℕ) (t : State) → IsBack head index t → t.floor + 1 < head.first → IsBefore head (index + 1) t
goes_before head index t back later = by back.older refl back.rest refl
  where
    by : (chs : List Chapter) → back.older ≡ chs → (ss : List Segment) → back.rest ≡ ss → IsBefore head (index + 1) t
    by [] none ss rest = absurd (omega (arith, later, ap (λ (h : Head). h.first) back.same, subst (λ (l : List Chapter). Reaches t.floor (back.chapter ∷ l)) none back.reaches))
    by (a ∷ chs) is [] rest = absurd (subst (λ (l : List Segment). AreRead (a ∷ chs) (seen_files l)) rest (subst (λ (l : List Chapter). AreRead l (seen_files back.rest)) is back.are))
    by (a ∷ chs) is (s ∷ ss) rest =
        let chained : Chained (back.chapter ∷ a ∷ chs) = subst (λ (l : List Chapter). Chained (back.chapter ∷ l)) is back.chained in
        let reaches : Reaches t.floor (back.chapter ∷ a ∷ chs) = subst (λ (l : List Chapter). Reaches t.floor (back.chapter ∷ l)) is back.reaches in
        let are : AreRead (a ∷ chs) (seen_files (s ∷ ss)) = subst (λ (l : List Segment). AreRead (a ∷ chs) (seen_files l)) rest (subst (λ (l : List Chapter). AreRead l (seen_files back.rest)) is back.are) in
        record {
          segment = s;
          rest = ss;
          front = back.front ++ back.segment ∷ [];
          whole = back.whole ∙ ap (λ (l : List Segment). back.front ++ back.segment ∷ l) rest ∙ sym (append_assoc back.front (back.segment ∷ []) (s ∷ ss));
          at = length-append back.front (back.segment ∷ []) ∙ omega (arith, back.at);
          chapter = a;
          older = chs;
          chained = chained.2;
          reaches = reaches.1;
          is = are.0;
          are = are.1;
          before = ap (λ (h : Head). h.before) back.same ∙ chained.1.before;
          spool = ap (λ (h : Head). h.spool) back.same ∙ chained.1.spool;
          counted = ap (λ (h : Head). h.counted) back.same ∙ chained.1.counted;
        }

-- its name
pub name_at : (ns : List Named) (front : List Segment) (s : Segment) (rest : List Segment) → AreNamed ns (front ++ s ∷ rest) → (n : Named) × (length front < length ns) × ((d : Named) → get_or ns (length front) d ≡ n) × (n.first ≡ s.first) × (n.bytes ≡ length (content s))
name_at [] [] s rest are = absurd are
name_at (n ∷ ns) [] s rest are = (n, omega arith, λ d. refl, are.0, are.1)
name_at [] (f ∷ front) s rest are = absurd are
name_at (n ∷ ns) (f ∷ front) s rest are = let r = name_at ns front s rest are.2 in (r.0, omega (arith, r.1), r.2, r.3, r.4)

-- Of the one before, all is as its head says.
pub record IsNamed (head : Head) (index : ℕ) (ns : List Named) (t : State) : Type 0 where
  pub before : IsBefore head index t
  pub name : Named
  pub within : index < length ns
  pub is : (d : Named) → get_or ns index d ≡ name
  pub first : name.first ≡ head.before
  pub long : head.counted ≤ name.bytes

pub named_before : (head : Head) (index : ℕ) (ns : List Named) (t : State) → HasNames ns t → IsBack head index t → t.floor + 1 < head.first → IsNamed head (index + 1) ns t
named_before head index ns t names back later =
    let b = goes_before head index t back later in
    let n = name_at ns b.front b.segment b.rest (subst (λ (l : List Segment). AreNamed ns l) b.whole names) in
    record {
      before = b;
      name = n.0;
      within = omega (arith, n.1, b.at);
      is = λ d. ap (λ (k : ℕ). get_or ns k d) (sym b.at) ∙ n.2 d;
      first = n.3 ∙ b.is.first ∙ sym b.before;
      long = omega (arith, n.4, b.counted, ap (λ (l : List ℕ). length l) b.is.whole, length-append (chapter_text b.chapter) b.is.rest);
    }

-- The floor that was read is that of the state.
pub floor_at : (floor : ℕ) (h : History) (t : State) (past : List State) → h ≡ Some (t ∷ past) → Now (λ t. t.floor ≡ floor) h → t.floor ≡ floor
floor_at floor h t past is now = subst (λ (x : History). Now (λ t. t.floor ≡ floor) x) is now

-- It has a head, and that is the one that is read.
pub before_head : (head : Head) (index : ℕ) (t : State) → IsBefore head index t → HasHead index t
before_head head index t b =
    let h = (first_is b.chapter b.older b.chained).head in
    record {
      front = b.front;
      segment = b.segment;
      rest = b.rest;
      whole = b.whole;
      at = b.at;
      head = b.chapter.head;
      is = h;
      text = ap (λ (l : List ℕ). take 80 l) (b.is.whole ∙ append_assoc (head_text b.chapter.head) (texts b.chapter.head.secret b.chapter.batches) b.is.rest)
          ∙ take-append-le 80 (head_text b.chapter.head) (texts b.chapter.head.secret b.chapter.batches ++ b.is.rest) (omega (arith, head_long b.chapter.head h)) ∙ take_all 80 (head_text b.chapter.head) (omega (arith, head_long b.chapter.head h));
    }

pub same_head : (head older : Head) (index : ℕ) (t : State) → (b : IsBefore head index t) → IsHead older → BeginsWith index older t → older ≡ b.chapter.head
same_head head older index t b ih begins =
    head_of_both older b.chapter.head (content b.segment) (texts b.chapter.head.secret b.chapter.batches ++ b.is.rest) ih (first_is b.chapter b.older b.chained).head (begins b.front b.segment b.rest b.whole b.at)
    (b.is.whole ∙ append_assoc (head_text b.chapter.head) (texts b.chapter.head.secret b.chapter.batches) b.is.rest)

pub goes_back : (head older : Head) (index : ℕ) (t : State) → (b : IsBefore head index t) → older ≡ b.chapter.head → IsBack older index t
goes_back head older index t b same = record { front = b.front; segment = b.segment; rest = b.rest; whole = b.whole; at = b.at; chapter = b.chapter; older = b.older; same = same; chained = b.chained; reaches = b.reaches; are = b.are }

-- a fault, of another call
abbrev pub as_fault : {A B : Type 0} → Result A JournalFault → Result B JournalFault
as_fault (Ok x) = Err journal.Full
as_fault (Err e) = Err e

-- Bytes are not other bytes than themselves.
pub not_other : (xs ys : List ℕ) → xs ≡ ys → true ≡ not (bytes_eq xs ys) → ⊥
not_other xs ys same is = false≢true (sym (is ∙ ap (λ (b : Bool). not b) ((bytes_eq-Decides xs ys).1 same)))

--- Bytes that are not other ones are the same.
pub not_different : (xs ys : List ℕ) → false ≡ not (bytes_eq xs ys) → xs ≡ ys
not_different xs ys is = (bytes_eq-Decides xs ys).0 (not-false (bytes_eq xs ys) (sym is))

-- The newest is there, and begins with a head.
pub record IsFirst (named : Named) (t : State) : Type 0 where
  pub segment : Segment
  pub rest : List Segment
  pub whole : t.segments ≡ segment ∷ rest
  pub head : Head
  pub is : IsHead head
  pub text : take 80 (content segment) ≡ head_text head
  pub first : named.first ≡ head.first
  pub long : 80 ≤ named.bytes

pub newest_seen : (named : Named) (ns : List Named) (t : State) → HasNames (named ∷ ns) t → IsSeen t → IsFirst named t
newest_seen named ns t names is = by t.segments refl
  where
    there : AreThere (seen t) is.0 is.1
    there = is.2

    by : (ss : List Segment) → t.segments ≡ ss → IsFirst named t
    by [] none = absurd (subst (λ (l : List Segment). AreNamed (named ∷ ns) l) none names)
    by (s ∷ rest) whole =
        let files : record { first = s.first; bytes = content s } ∷ seen_files rest ≡ there.newest ∷ there.older = ap seen_files (sym whole) ∙ there.files in
        let newest = ap first_file files in
        let ch = is.0 in
        let h = (first_is ch is.1 there.chained).head in
        let here = subst (λ (l : List Segment). AreNamed (named ∷ ns) l) whole names in
        let text : content s ≡ head_text ch.head ++ (texts ch.head.secret ch.batches ++ there.is.rest) = ap (λ (f : File). f.bytes) newest ∙ there.is.whole ∙ append_assoc (head_text ch.head) (texts ch.head.secret ch.batches) there.is.rest in
        record {
          segment = s;
          rest = rest;
          whole = whole;
          head = ch.head;
          is = h;
          text = ap (λ (l : List ℕ). take 80 l) text ∙ take-append-le 80 (head_text ch.head) (texts ch.head.secret ch.batches ++ there.is.rest) (omega (arith, head_long ch.head h)) ∙ take_all 80 (head_text ch.head) (omega (arith, head_long ch.head h));
          first = here.0 ∙ ap (λ (f : File). f.first) newest ∙ there.is.first;
          long = omega (arith, here.1, ap (λ (l : List ℕ). length l) text, length-append (head_text ch.head) (texts ch.head.secret ch.batches ++ there.is.rest), head_long ch.head h);
        }

pub first_head : (named : Named) (t : State) → IsFirst named t → HasHead 0 t
first_head named t f = record { front = []; segment = f.segment; rest = f.rest; whole = f.whole; at = refl; head = f.head; is = f.is; text = f.text }

pub first_same : (named : Named) (t : State) (f : IsFirst named t) (head : Head) → IsHead head → BeginsWith 0 head t → head.first ≡ named.first
first_same named t f head ih begins =
    ap (λ (h : Head). h.first) (one_head head f.head [] [] ih f.is (ap (λ (l : List ℕ). l ++ []) (sym (begins [] f.segment f.rest f.whole refl) ∙ f.text))) ∙ sym f.first

-- The head that was read is that of the newest chapter.
pub there_of : (named : Named) (ns : List Named) (t : State) → HasNames (named ∷ ns) t → IsSeen t → (head : Head) → IsHead head → (bytes : List ℕ) (next : ℕ) → IsNewest named.bytes head bytes next t → IsThere head t
there_of named ns t names is head ih bytes next newest = by t.segments refl
  where
    there : AreThere (seen t) is.0 is.1
    there = is.2

    by : (ss : List Segment) → t.segments ≡ ss → IsThere head t
    by [] none = absurd (subst (λ (l : List Segment). AreNamed (named ∷ ns) l) none names)
    by (s ∷ rest) whole =
        let files : record { first = s.first; bytes = content s } ∷ seen_files rest ≡ there.newest ∷ there.older = ap seen_files (sym whole) ∙ there.files in
        let ch = is.0 in
        let here = subst (λ (l : List Segment). AreNamed (named ∷ ns) l) whole names in
        record {
          chapter = ch;
          older = is.1;
          there = there;
          same = head_of_both head ch.head (content s) (texts ch.head.secret ch.batches ++ there.is.rest) ih (first_is ch is.1 there.chained).head (newest s rest whole (sym here.1)).0
              (ap (λ (f : File). f.bytes) (ap first_file files) ∙ there.is.whole ∙ append_assoc (head_text ch.head) (texts ch.head.secret ch.batches) there.is.rest);
        }
