-- A batch that is settled at the end of the newest segment.
use Rattle.std.proofs.Common.{◌≡◌, ℕ, ◌+◌, ◌<◌, ◌^◌, arith, eqb, Bool, true, false, inl, inr, ◌⊎◌, ⊎_elim, List, [], ◌∷◌, ◌++◌, length, length-append, append-nil, refl, sym, ap, ◌∙◌, subst, Result, Ok, Err}
use Rattle.std.proofs.lemmas.Bool.{eq-eqb, eqb-true, false≢true}
use Rattle.amqp_spool.specs.declared.folder.FolderFault.{FolderFault}
use Rattle.amqp_spool.specs.declared.folder.FolderFault.TheVariants as folder
use Rattle.amqp_spool.specs.declared.head.Head.{Head}
use Rattle.amqp_spool.specs.declared.segments.Segments.{Segments}
use Rattle.amqp_spool.specs.declared.journal.Journal.{Journal}
use Rattle.amqp_spool.specs.declared.journal.JournalFault.{JournalFault}
use Rattle.amqp_spool.specs.Batches.{Batch, Follows, Follow, records}
use Rattle.amqp_spool.specs.Chapters.{Chapter, chapter_text, next_of, IsChapter, Chained, GoesAfter, Holds, IsAt, AreTold, IsPut, IsBegun, with_batch, KeepsOn}
use Rattle.amqp_spool.specs.Folders.{History, Now, Since}
use Rattle.amqp_spool.specs.Heads.{IsBatch, batch_head, batch_text, head_text}
use Rattle.amqp_spool.specs.Journals.{GoesAnew, AreSame, StandsAt, Stands, IsSettled, head_by, head_after, as_told}
use Rattle.amqp_spool.proofs.Histories.{since_none, since_since, now_and}
use Rattle.amqp_spool.proofs.Kept.{text_more, chained_more, told_more, told_next}
use Rattle.amqp_spool.proofs.Placing.{batch_head_length}
use Rattle.amqp_spool.proofs.Reading.{first_is}
use Rattle.amqp_spool.proofs.Through.{records_one, records_more}

pub batch_length : (secret : List ℕ) (b : Batch) → length (batch_text secret b.head b.body) ≡ 32 + length b.body
batch_length secret b = length-append (batch_head secret b.head b.body) b.body ∙ ap (λ (n : ℕ). n + length b.body) (batch_head_length secret b.head b.body)

-- The chapter with the batch has so many bytes, and this number is next.
text_grows : (b : Batch) (ch : Chapter) → length (chapter_text (with_batch b ch)) ≡ length (chapter_text ch) + (32 + length b.body)
text_grows b ch =
    let whole = ap (λ (l : List ℕ). length l) (text_more b ch) ∙ length-append (chapter_text ch) (batch_text ch.head.secret b.head b.body) in
    whole ∙ ap (λ (n : ℕ). length (chapter_text ch) + n) (batch_length ch.head.secret b)

next_grows : (b : Batch) (ch : Chapter) → next_of (with_batch b ch) ≡ next_of ch + b.head.count
next_grows b ch = omega (arith, records_more ch.batches b)

-- a batch of the next records
pub follows_next : (number next : ℕ) (b : Batch) → next ≡ number → b.head.first ≡ next → IsBatch b.head b.body → 0 < b.head.count → next + b.head.count < 2 ^ 64 → Follows number b
follows_next number next b is first batch some within = record { is = batch; first = first ∙ is; some = some; within = omega (arith, is, within) }

module _ {F : Type 0} (history : F → History) (all : List Batch) (ch : Chapter) (chs : List Chapter) (whole : AreTold all ch chs) where
  -- it stands where nothing was tried
  pub stands_untried : (old new : Journal F) → StandsAt history ch chs old → new ≡ old → StandsAt history ch chs new
  stands_untried old new is same = subst (λ (s : Journal F). StandsAt history ch chs s) (sym same) is

  abbrev stands : (s : Journal F) → StandsAt history ch chs s → Stands history all s
  stands s at = record { chapter = ch; older = chs; told = whole; at = at }

  -- it stands after an append that failed
  pub stands_after : (old new : Journal F) (b : Batch) (e : FolderFault) → StandsAt history ch chs old → AreSame old new → new.failed ≡ false → (new.spent ≡ false → new ≡ old) → IsPut ch chs b (Err e) (history old.folder) (history new.folder)
      → StandsAt history ch chs new
  stands_after old new b e is same alive untried put = record {
    chained = is.chained;
    head = same.head ∙ is.head;
    place = same.place ∙ is.place;
    next = same.next ∙ is.next;
    holds = put.failed;
    well = λ w. let s = untried w in subst (λ (k : Journal F). Now (IsAt ch chs) (history k.folder)) (sym s) (is.well (ap (λ (k : Journal F). k.spent) (sym s) ∙ w));
    alive = alive;
  }

  pub settles_unput : (is : Batch → Chapter → List Chapter → Type 0) (x : JournalFault) (old new : Journal F) (b : Batch) (e : FolderFault) → StandsAt history ch chs old → AreSame old new → new.failed ≡ false → (new.spent ≡ false → new ≡ old)
      → IsPut ch chs b (Err e) (history old.folder) (history new.folder) → IsSettled history ch chs is all (Err x) old new
  settles_unput is x old new b e at same alive untried put = record { done = tt; refused = λ _. (stands new (stands_after old new b e at same alive untried put), refl, refl); kept = put.kept }

  -- and after the batch that was put
  pub settles_put : (is : Batch → Chapter → List Chapter → Type 0) (old mid : Journal F) (b : Batch) (place next : ℕ) → is b (with_batch b ch) chs → Follows (next_of ch) b → StandsAt history ch chs old → AreSame old mid → mid.failed ≡ false → place ≡ old.place + (32 + length b.body) → next ≡ old.next + b.head.count
      → IsPut ch chs b (Ok tt) (history old.folder) (history mid.folder) → IsSettled history ch chs is all (Ok tt) old (record mid { place = place; next = next })
  settles_put is old mid b place next body follows at same alive placed numbered put = record {
    done = (
      b,
      record {
        chapter = with_batch b ch;
        older = chs;
        told = told_more all ch chs b whole;
        at = record {
          chained = chained_more b ch chs follows at.chained;
          head = same.head ∙ at.head;
          place = placed ∙ ap (λ (n : ℕ). n + (32 + length b.body)) at.place ∙ sym (text_grows b ch);
          next = numbered ∙ ap (λ (n : ℕ). n + b.head.count) at.next ∙ sym (next_grows b ch);
          holds = now_and (IsAt (with_batch b ch) chs) (Holds (with_batch b ch) chs) (history mid.folder) put.done (λ s p. p.holds);
          well = λ _. put.done;
          alive = alive;
        };
      },
      body,
    );
    refused = tt;
    kept = put.kept;
  }

-- It is settled, or not, whatever it stood at.
pub settles_not : {F : Type 0} (history : F → History) (all : List Batch) (is : Batch → Chapter → List Chapter → Type 0) (e : JournalFault) (old new : Journal F) (at : Stands history all old) → new ≡ old → IsSettled history at.chapter at.older is all (Err e) old new
settles_not history all is e old new at same = record {
  done = tt;
  refused = λ _. subst (λ (s : Journal _). (now : Stands history all s) × (now.chapter ≡ at.chapter) × (now.older ≡ at.older)) (sym same) (at, refl, refl);
  kept = subst (λ (s : Journal _). Since (KeepsOn at.chapter at.older) (history old.folder) (history s.folder)) (sym same) (since_none (KeepsOn at.chapter at.older) (history old.folder));
}

-- or with more room for segments
pub same_after : {F : Type 0} (s mid : Journal F) (x : Segments) → AreSame (record s { segments = x }) mid → AreSame s mid
same_after s mid x same = record { limits = record { limit = same.limits.limit; segment = same.limits.segment; life = same.limits.life }; head = same.head; place = same.place; next = same.next; floor = same.floor }

pub stands_still : {F : Type 0} (history : F → History) (all : List Batch) (s : Journal F) (x : Segments) → Stands history all s → Stands history all (record s { segments = x })
stands_still history all s x it = record {
  chapter = it.chapter;
  older = it.older;
  told = it.told;
  at = record {
    chained = it.at.chained;
    head = it.at.head;
    place = it.at.place;
    next = it.at.next;
    holds = it.at.holds;
    well = it.at.well;
    alive = it.at.alive;
  };
}

pub settles_still : {F : Type 0} (history : F → History) (all : List Batch) (is : Batch → Chapter → List Chapter → Type 0) (e : JournalFault) (s : Journal F) (x : Segments) (it : Stands history all s) → IsSettled history it.chapter it.older is all (Err e) s (record s { segments = x })
unfolding stands_still
settles_still history all is e s x it = record { done = tt; refused = λ _. (stands_still history all s x it, refl, refl); kept = since_none (KeepsOn it.chapter it.older) (history s.folder) }

pub ok_is : {x : Unit {0}} → Ok x ≡ Err folder.Failed → ⊥
ok_is is = grind (arith, is)

abbrev full : Result (Unit {0}) FolderFault
full = Err folder.Full

pub full_is : full ≡ Err folder.Failed → ⊥
full_is is = grind (arith, is)

-- A batch that is settled in a new segment. ---------------------------------------------------------------------------

none_yet : (first : ℕ) (bs : List Batch) → Follow first bs → records bs ≡ 0 → bs ≡ []
none_yet first [] all none = refl
none_yet first (b ∷ bs) all none = absurd (omega (arith, all.0.some, records_one b bs, none))

pub segment_text : (head : Head) (b : Batch) → head_text head ++ batch_text head.secret b.head b.body ≡ chapter_text (record { head = head; batches = b ∷ [] })
segment_text head b = ap (λ (l : List ℕ). head_text head ++ l) (sym (append-nil (batch_text head.secret b.head b.body)))

module _ {F : Type 0} (history : F → History) (all : List Batch) (ch : Chapter) (chs : List Chapter) (whole : AreTold all ch chs) (s : Journal F) (stands : StandsAt history ch chs s) (secret : List ℕ) (long : length secret ≡ 16) (place : s.place < 2 ^ 64) (lived : s.life < 2 ^ 64)
    (b : Batch) (batch : IsBatch b.head b.body) (first : b.head.first ≡ s.next) (some : 0 < b.head.count) (within : s.next + b.head.count < 2 ^ 64) where
  is_chapter : IsChapter ch
  is_chapter = first_is ch chs stands.chained

  numbered : s.next ≡ ch.head.first + records ch.batches
  numbered = stands.next

  named : s.head.first ≡ ch.head.first
  named = ap (λ (h : Head). h.first) stands.head

  abbrev next_by : Bool → Chapter
  next_by e = record { head = head_by e s secret; batches = b ∷ [] }

  chapter_by : (e : Bool) → eqb s.next s.head.first ≡ e → IsChapter (next_by e)
  chapter_by true is = record {
    head = record {
      spool = ap (λ (h : Head). length h.spool) stands.head ∙ is_chapter.head.spool;
      secret = long;
      first = omega (arith, named, is_chapter.head.first);
      before = omega (arith, ap (λ (h : Head). h.before) stands.head, is_chapter.head.before);
      counted = omega (arith, ap (λ (h : Head). h.counted) stands.head, is_chapter.head.counted);
      life = lived;
    };
    follow = (follows_next s.head.first s.next b (eqb-true s.next s.head.first is) first batch some within, tt);
  }
  chapter_by false is = record {
    head = record {
      spool = ap (λ (h : Head). length h.spool) stands.head ∙ is_chapter.head.spool;
      secret = long;
      first = omega (arith, within);
      before = omega (arith, named, is_chapter.head.first);
      counted = place;
      life = lived;
    };
    follow = (follows_next s.next s.next b refl first batch some within, tt);
  }

  in_place : (older : List Chapter) → Chained (ch ∷ older) → eqb s.next s.head.first ≡ true → Chained (next_by true ∷ older)
  in_place [] chained is = chapter_by true is
  in_place (a ∷ older) chained is = (
    chapter_by true is,
    record {
      spool = ap (λ (h : Head). h.spool) stands.head ∙ chained.1.spool;
      before = ap (λ (h : Head). h.before) stands.head ∙ chained.1.before;
      counted = ap (λ (h : Head). h.counted) stands.head ∙ chained.1.counted;
      first = named ∙ chained.1.first;
    },
    chained.2,
  )

  abbrev behind_by : Bool → List Chapter
  behind_by true = chs
  behind_by false = ch ∷ chs

  goes_by : (e : Bool) → eqb s.next s.head.first ≡ e → GoesAfter (next_by e) ch chs (behind_by e)
  goes_by true is = record {
    chained = in_place chs stands.chained is;
    place = inr (refl, none_yet ch.head.first ch.batches is_chapter.follow (omega (arith, eqb-true s.next s.head.first is, named, numbered)), sym named);
  }
  goes_by false is = record {
    chained = (chapter_by false is, record { spool = ap (λ (h : Head). h.spool) stands.head; before = named; counted = stands.place; first = stands.next }, stands.chained);
    place = inl (refl, omega (arith, named, numbered, (λ (same : s.next ≡ s.head.first). false≢true (sym is ∙ eq-eqb s.next s.head.first same))));
  }

  abbrev pub next_chapter : Chapter
  next_chapter = record { head = head_after s secret; batches = b ∷ [] }

  abbrev pub next_behind : List Chapter
  next_behind = behind_by (eqb s.next s.head.first)

  pub goes_next : GoesAfter next_chapter ch chs next_behind
  goes_next = goes_by (eqb s.next s.head.first) refl

  next_first : (e : Bool) → eqb s.next s.head.first ≡ e → (head_by e s secret).first ≡ s.next
  next_first true is = sym (eqb-true s.next s.head.first is)
  next_first false is = refl

  pub next_is : next_chapter.head.first ≡ next_of ch
  next_is = next_first (eqb s.next s.head.first) refl ∙ numbered

  pub behind_is : (next_behind ≡ ch ∷ chs) ⊎ ((next_behind ≡ chs) × (ch.batches ≡ []))
  behind_is = ⊎_elim (λ p. inl p.0) (λ p. inr (p.0, p.1)) goes_next.place

  pub settles_anew : (is : Batch → Chapter → List Chapter → Type 0) (mid : Journal F) (head : Head) (place next : ℕ) → is b next_chapter next_behind → AreSame s mid → mid.failed ≡ false → head ≡ head_after s secret → place ≡ length (chapter_text next_chapter) → next ≡ s.next + b.head.count
      → IsBegun next_chapter ch chs next_behind (Ok tt) (history s.folder) (history mid.folder) → IsSettled history ch chs is all (Ok tt) s (record mid { head = head; place = place; next = next })
  settles_anew is mid head place next body same alive headed placed numbered begun = record {
    done = (
      b,
      record {
        chapter = next_chapter;
        older = next_behind;
        told = told_next all next_chapter ch chs next_behind whole goes_next;
        at = record {
          chained = goes_next.chained;
          head = headed;
          place = placed;
          next = omega (arith, numbered, next_first (eqb s.next s.head.first) refl, records_one b []);
          holds = now_and (IsAt next_chapter next_behind) (Holds next_chapter next_behind) (history mid.folder) begun.done (λ t p. p.holds);
          well = λ _. begun.done;
          alive = alive;
        };
      },
      body,
    );
    refused = tt;
    kept = begun.kept;
  }

  pub settles_unadded : (is : Batch → Chapter → List Chapter → Type 0) (x : JournalFault) (mid : Journal F) (e : FolderFault) → x ≡ as_told e → AreSame s mid → (e ≡ folder.Full → mid.failed ≡ false) → (e ≡ folder.Full → mid.spent ≡ s.spent)
      → IsBegun next_chapter ch chs next_behind (Err e) (history s.folder) (history mid.folder) → IsSettled history ch chs is all (Err x) s mid
  settles_unadded is x mid folder.Full told same alive spent begun = record {
    done = tt;
    refused = λ _. (
      record {
        chapter = ch;
        older = chs;
        told = whole;
        at = record {
          chained = stands.chained;
          head = same.head ∙ stands.head;
          place = same.place ∙ stands.place;
          next = same.next ∙ stands.next;
          holds = begun.full refl;
          well = λ w. begun.still refl (stands.well (sym (spent refl) ∙ w));
          alive = alive refl;
        };
      },
      refl,
      refl,
    );
    kept = begun.kept;
  }
  settles_unadded is x mid folder.Failed told same alive spent begun = record {
    done = tt;
    refused = λ not. absurd (not (ap (λ (f : JournalFault). Err f) told));
    kept = begun.kept;
  }

-- At the end of the newest segment, or else in a new one.
module _ {F : Type 0} (history : F → History) (all : List Batch) where
  pub settles_either : {ch : Chapter} {chs : List Chapter} (is also : Batch → Chapter → List Chapter → Type 0) (r : Result (Unit {0}) JournalFault) (old new : Journal F) → ((b : Batch) (dh : Chapter) (ds : List Chapter) → is b dh ds → also b dh ds) → IsSettled history ch chs is all r old new → IsSettled history ch chs also all r old new
  settles_either {ch} {chs} is also (Ok x) old new more settled = record { done = let d = settled.done in (d.0, d.1, more d.0 d.1.chapter d.1.older d.2); refused = tt; kept = settled.kept }
  settles_either {ch} {chs} is also (Err e) old new more settled = record { done = tt; refused = settled.refused; kept = settled.kept }

  pub settles_after : {ch : Chapter} {chs : List Chapter} (is : Batch → Chapter → List Chapter → Type 0) (r : Result (Unit {0}) JournalFault) (old mid new : Journal F) → Since (KeepsOn ch chs) (history old.folder) (history mid.folder) → IsSettled history ch chs is all r mid new → IsSettled history ch chs is all r old new
  settles_after {ch} {chs} is r old mid new first settled = record { done = settled.done; refused = settled.refused; kept = since_since (KeepsOn ch chs) (history old.folder) (history mid.folder) (history new.folder) first settled.kept }

  pub same_chapters : (arrived count : ℕ) (body : List ℕ) (r : Result (Unit {0}) JournalFault) (old new : Journal F) {ch dh : Chapter} {chs ds : List Chapter} → ch ≡ dh → chs ≡ ds → IsSettled history ch chs (GoesAnew arrived ch chs count body) all r old new
      → IsSettled history dh ds (GoesAnew arrived dh ds count body) all r old new
  same_chapters arrived count body r old new {ch} {dh} {chs} {ds} p q settled =
      subst (λ (k : Chapter). IsSettled history k ds (GoesAnew arrived k ds count body) all r old new) p (subst (λ (l : List Chapter). IsSettled history ch l (GoesAnew arrived ch l count body) all r old new) q settled)
