-- One life after the other.
use Rattle.std.proofs.Common.{◌≡◌, ℕ, ◌+◌, ◌≤◌, ◌<◌, arith, List, [], ◌∷◌, ◌++◌, length, length-append, append_assoc, append-nil, ⊎_elim, refl, sym, ap, ◌∙◌, subst, None, Bool, true, false, Result, Ok, Err}
use Rattle.amqp_spool.specs.declared.journal.Journal.{Journal}
use Rattle.amqp_spool.specs.declared.journal.JournalFault.{JournalFault}
use Rattle.amqp_spool.specs.declared.spool.Spool.{Spool}
use Rattle.amqp_spool.specs.Batches.{Batch, records}
use Rattle.amqp_spool.specs.Chapters.{Chapter, Chained, GoesAfter, GoesOnFrom, KeepsOn, next_of, told, told as told_of}
use Rattle.amqp_spool.specs.Entries.{Entry}
use Rattle.amqp_spool.specs.Folders.{Segment, File, State, Left, History, IsLeft, AreTornTo, AreSomeOf, with_added, spare_left}
use Rattle.amqp_spool.specs.Journals.{GoesOn, IsStarted}
use Rattle.amqp_spool.specs.Names.{nobody, after, named}
use Rattle.amqp_spool.specs.Reads.{AreNamed, IsFound, IsNewest, IsShownIn}
use Rattle.amqp_spool.specs.Sayings.{Puts, AreBodies, Says, AllSay}
use Rattle.amqp_spool.specs.SpoolLaws.{AreRead, IsFoundAfter, found_files, found_as}
use Rattle.amqp_spool.specs.Spools.{IsNew, Has, Tells, KeepsTold, IsStartedWith, ReadsTold}
use Rattle.amqp_spool.specs.Waitings.{LinksState, link_at}
use Rattle.amqp_spool.proofs.Bodies.{bodies_parts, same_bodies}
use Rattle.amqp_spool.proofs.Clearing.{nothing_waits}
use Rattle.amqp_spool.proofs.Histories.{since_and}
use Rattle.amqp_spool.proofs.Kept.{oldest_after}
use Rattle.amqp_spool.proofs.Naming.{named-append}
use Rattle.amqp_spool.proofs.Reaching.{records_all, chained_front, numbers, numbers_front, same_oldest}
use Rattle.amqp_spool.proofs.Starting.{is_on, none_kept}
use Rattle.amqp_spool.proofs.Spooling.{says_nothing, says_long, all_say_long, all_say_split, no_puts}

-- What chapters tell. -------------------------------------------------------------------------------------------------

-- The oldest of them may be gone.
tells_front : (told : Puts) (ch : Chapter) (xs ys : List Chapter) → Tells told ch (xs ++ ys) → Tells told ch xs
tells_front told ch xs ys is =
    let split = all_say_split xs ys is.before is.older_say in
    record {
      chained = chained_front ch xs ys is.chained;
      gone = is.gone ++ split.older;
      before = split.newer;
      here = is.here;
      are = is.are ∙ ap (λ (l : Puts). l ++ is.here) (ap (λ (l : Puts). is.gone ++ l) split.are ∙ sym (append_assoc is.gone split.older split.newer));
      passed = omega (arith, is.passed, length-append is.gone split.older, all_say_long ys split.older split.older_say, numbers_front ch xs ys is.chained);
      older_say = split.newer_say;
      says = is.says;
    }

-- A new one goes after them, which has none yet.
tells_after : (told : Puts) (ch : Chapter) (chs : List Chapter) (next : Chapter) (behind : List Chapter) → next.batches ≡ [] → Tells told ch chs → GoesAfter next ch chs behind → Tells told next behind
tells_after told ch chs next behind none is after = record {
  chained = after.chained;
  gone = is.gone;
  before = is.before ++ is.here;
  here = [];
  are = is.are ∙ append_assoc is.gone is.before is.here ∙ ap (λ (l : Puts). is.gone ++ l) (sym (append-nil (is.before ++ is.here))) ∙ sym (append_assoc is.gone (is.before ++ is.here) []);
  passed = is.passed ∙ sym (oldest_after next ch chs behind after);
  older_say = ⊎_elim
      (λ (p : (behind ≡ ch ∷ chs) × (ch.head.first < next.head.first)). subst (λ (l : List Chapter). AllSay l (is.before ++ is.here)) (sym p.0) (is.before, is.here, refl, is.older_say, is.says))
      (λ (p : (behind ≡ chs) × (ch.batches ≡ []) × (ch.head.first ≡ next.head.first)).
      let nothing : is.here ≡ [] = no_puts is.here (omega (arith, says_long ch is.here is.says, ap records p.1)) in
      subst (λ (l : List Chapter). AllSay l (is.before ++ is.here)) (sym p.0) (subst (λ (l : Puts). AllSay chs l) (sym (ap (λ (l : Puts). is.before ++ l) nothing ∙ append-nil is.before)) is.older_say))
      after.place;
  says = says_nothing next none;
}

-- with other batches in the newest
abbrev with_batches : List Batch → Chapter → Chapter
with_batches bs ch = record ch { batches = bs }

-- What goes on from chapters that tell records has chapters that tell them, and batches more.
record GoesOnTelling (told : Puts) (dh : Chapter) (ds : List Chapter) : Type 0 where
  pub base : Chapter
  pub tells : Tells told base ds
  pub more : List Batch
  pub newest : dh ≡ record base { batches = base.batches ++ more }

chained_as : (ch dh : Chapter) (chs : List Chapter) → ch ≡ dh → Chained (ch ∷ chs) → Chained (dh ∷ chs)
chained_as ch dh chs same is = subst (λ (k : Chapter). Chained (k ∷ chs)) same is

goes_on_telling : (told : Puts) (ch : Chapter) (chs : List Chapter) (dh : Chapter) (ds : List Chapter) → Tells told ch chs → GoesOnFrom ch chs dh ds → GoesOnTelling told dh ds
goes_on_telling told ch chs dh ds is from = ⊎_elim
    (λ (p : (from.next ≡ ch) × (from.behind ≡ chs)). record {
      base = ch;
      tells = tells_front told ch ds from.is.rest (subst (λ (l : List Chapter). Tells told ch l) (sym p.1 ∙ from.is.older) is);
      more = from.is.more;
      newest = subst (λ (k : Chapter). dh ≡ record k { batches = k.batches ++ from.is.more }) p.0 from.is.newest;
    })
    (λ (begun : GoesAfter from.next ch chs from.behind).
    let none : Chapter = with_batches [] from.next in
    let empty : GoesAfter none ch chs from.behind = record { chained = emptied from.next from.behind begun.chained; place = begun.place } in
    record {
      base = none;
      tells = tells_front told none ds from.is.rest (subst (λ (l : List Chapter). Tells told none l) from.is.older (tells_after told ch chs none from.behind refl is empty));
      more = from.next.batches ++ from.is.more;
      newest = from.is.newest;
    })
    from.from
  where
    emptied : (next : Chapter) (behind : List Chapter) → Chained (next ∷ behind) → Chained (with_batches [] next ∷ behind)
    emptied next [] is = record { head = is.head; follow = tt }
    emptied next (a ∷ behind) is = (record { head = is.0.head; follow = tt }, record { spool = is.1.spool; before = is.1.before; counted = is.1.counted; first = is.1.first }, is.2)

-- If the newest reads alone, it tells them, and maybe more.
tells_more : (told : Puts) (dh : Chapter) (ds : List Chapter) (puts : Puts) → Chained (dh ∷ ds) → GoesOnTelling told dh ds → Says dh puts → (more : Puts) × Tells (told ++ more) dh ds
tells_more told dh ds puts chained on says =
    let is = on.tells in
    let batches : dh.batches ≡ on.base.batches ++ on.more = ap (λ (k : Chapter). k.batches) on.newest in
    let parts = bodies_parts on.base.batches on.more says.entries (subst (λ (bs : List Batch). AreBodies bs says.entries) batches says.bodies) in
    let first : parts.0 ≡ is.says.entries = same_bodies on.base.batches parts.0 is.says.entries parts.3 is.says.bodies in
    let more : Puts = named (after nobody parts.0) parts.1 in
    let all : puts ≡ is.here ++ more = sym says.same ∙ ap (λ (l : List Entry). named nobody l) parts.2 ∙ named-append nobody parts.0 parts.1 ∙ ap (λ (l : Puts). l ++ more) (ap (λ (l : List Entry). named nobody l) first ∙ is.says.same) in (
      more,
      record {
        chained = chained;
        gone = is.gone;
        before = is.before;
        here = puts;
        are = ap (λ (l : Puts). l ++ more) is.are ∙ append_assoc (is.gone ++ is.before) is.here more ∙ ap (λ (l : Puts). (is.gone ++ is.before) ++ l) (sym all);
        passed = is.passed ∙ same_oldest on.base dh ds (sym (ap (λ (k : Chapter). k.head) on.newest));
        older_say = is.older_say;
        says = says;
      },
    )

-- The next number after chapters that tell records.
tells_next : (told : Puts) (ch : Chapter) (chs : List Chapter) → Tells told ch chs → next_of ch ≡ 1 + length told
tells_next told ch chs is = omega (
  arith,
  numbers ch chs is.chained,
  records_all (told_of chs) ch.batches,
  all_say_long chs is.before is.older_say,
  says_long ch is.here is.says,
  is.passed,
  ap (λ (l : Puts). length l) is.are,
  length-append (is.gone ++ is.before) is.here,
  length-append is.gone is.before,
)

-- What goes on from what was told, and reads alone, has it all.
pub shown_in_told : (told : Puts) (t : State) → KeepsTold told t → IsFound t → (n : ℕ) → n ≤ length told → IsShownIn n t
shown_in_told told t keeps found n most = record {
  none = λ none. absurd (none_kept t (λ c left. (keeps.3 c left).0) found (subst (λ (ss : List Segment). AreNamed [] ss) (sym none) tt));
  newest = λ s rest head bytes next is ih first newest.
      let r = newest s rest is refl in
      let on = is_on keeps.0 keeps.1 keeps.2.here keeps.2.says t keeps.3 found head ih bytes next s rest is (sym first) r.1.0 r.1.1 r.0 r.1.2 r.1.3 r.1.4 r.1.5 in
      let more = tells_more told on.chapter on.older on.puts on.chained (goes_on_telling told keeps.0 keeps.1 on.chapter on.older keeps.2 on.from) on.says in
      omega (arith, most, on.numbered, tells_next (told ++ more.0) on.chapter on.older more.1, length-append told more.0);
}

-- What is read. -------------------------------------------------------------------------------------------------------

reads_told : (told : Puts) (dh : Chapter) (ds : List Chapter) → GoesOnTelling told dh ds → ReadsTold told dh ds
reads_told told dh ds on =
    let is = on.tells in
    let headed : dh.head ≡ on.base.head = ap (λ (k : Chapter). k.head) on.newest in
    record {
      gone = is.gone;
      said = is.before ++ is.here;
      are = is.are ∙ append_assoc is.gone is.before is.here;
      batches = on.base.batches;
      more = on.more;
      newest = ap (λ (k : Chapter). k.batches) on.newest;
      say = (is.before, is.here, refl, is.older_say, record { entries = is.says.entries; bodies = is.says.bodies; same = is.says.same; known = is.says.known });
      before = is.passed ∙ same_oldest on.base dh ds (sym headed);
    }

pub told_are_read : (told : Puts) (t : State) → KeepsTold told t → AreRead told t
told_are_read told t is = λ c left dh ds reads. reads_told told dh ds (goes_on_telling told is.0 is.1 dh ds is.2 ((is.3 c left).1 dh ds reads))

-- A start. ------------------------------------------------------------------------------------------------------------

-- batches that are gone, so many records
abbrev gone_batches : ℕ → List Batch
gone_batches n = record { head = record { size = 0; count = n; first = 0; arrived = 0 }; body = [] } ∷ []

pub started_has : {F : Type 0} (history : F → History) (ps : Puts) (ch : Chapter) (chs : List Chapter) (s : Spool F) (j : Journal F) → IsNew s → Tells ps ch chs → GoesOn history ch chs j → (more : Puts) × Has history (ps ++ more) [] (record s { journal = j })
started_has history ps ch chs s j new is goes =
    let on = goes_on_telling ps ch chs goes.chapter goes.older is goes.from in
    let r = tells_more ps goes.chapter goes.older goes.puts goes.at.chained on goes.says in
    let tells = r.1 in
    let gone = gone_batches (length tells.gone) in (
      r.0,
      record {
        all = gone ++ told (goes.chapter ∷ goes.older);
        journal = record { chapter = goes.chapter; older = goes.older; told = record { gone = gone; same = refl; before = omega (arith, tells.passed, count_is (length tells.gone)) }; at = goes.at };
        chapter = goes.chapter;
        older = goes.older;
        chapter_is = refl;
        older_is = refl;
        gone = tells.gone;
        before = tells.before;
        here = tells.here;
        are = tells.are;
        passed = sym (count_is (length tells.gone));
        older_say = tells.older_say;
        says = tells.says;
        waits = nothing_waits j.head.first j.next tells.says.entries s.links s.waiting (λ n. ap (λ (l : LinksState). link_at l n) new.links) new.here new.again new.count;
      },
    )
  where
    count_is : (n : ℕ) → records (gone_batches n) ≡ n
    count_is n = omega arith

pub started_with : {F : Type 0} (history : F → History) (told : Puts) (t : State) (s : Spool F) (j : Journal F) (new : IsNew s) (keeps : KeepsTold told t) (r : Result (Unit {0}) JournalFault) → IsStarted history keeps.0 keeps.1 r s.journal j → IsStartedWith history told r s (record s { journal = j })
started_with history told t s j new keeps (Ok x) is = record {
  done = started_has history told keeps.0 keeps.1 s j new keeps.2 is.done;
  kept = since_and (KeepsOn keeps.0 keeps.1) (KeepsTold told) (history s.journal.folder) (history j.folder) is.kept (λ u on. (keeps.0, keeps.1, keeps.2, on));
}
started_with history told t s j new keeps (Err e) is = record {
  done = tt;
  kept = since_and (KeepsOn keeps.0 keeps.1) (KeepsTold told) (history s.journal.folder) (history j.folder) is.kept (λ u on. (keeps.0, keeps.1, keeps.2, on));
}

-- The next life. ------------------------------------------------------------------------------------------------------

pub finds_the_told : (told : Puts) (s t : State) → KeepsTold told s → IsFoundAfter s t → KeepsTold told t
finds_the_told told s t is after = (is.0, is.1, is.2, λ c left. is.3 c (after.fewer c left))

-- Nothing more may be missing of files that are on the disk.
same_files : (fs there : List File) → AreTornTo (found_files fs) there → there ≡ fs
same_files [] [] torn = refl
same_files [] (g ∷ there) torn = absurd torn
same_files (f ∷ fs) [] torn = absurd torn
same_files (f ∷ fs) (g ∷ there) torn =
    let t = torn.0 in
    let nothing : t.torn ≡ [] = none t.torn (omega (arith, t.is.short)) in
    let bytes : g.bytes ≡ f.bytes = t.whole ∙ ap (λ (l : List ℕ). f.bytes ++ l) nothing ∙ append-nil f.bytes in
    ap (λ (l : List File). g ∷ l) (same_files fs there torn.1) ∙ ap (λ (h : File). h ∷ fs) (ap (λ (n : ℕ). record { first = n; bytes = g.bytes }) t.first ∙ ap (λ (l : List ℕ). record { first = f.first; bytes = l }) bytes)
  where
    none : (l : List ℕ) → length l ≤ 0 → l ≡ []
    none [] is = refl
    none (x ∷ l) is = absurd (omega (arith, is))

none_again : (fs : List File) → AreSomeOf [] fs → fs ≡ []
none_again fs AreSomeOf.End = refl

none_added : (b : Bool) (ss : List Segment) → with_added None b ss ≡ ss
none_added true ss = refl
none_added false ss = refl

pub loss_is_found : (s : State) (c : Left) → IsLeft s c → IsFoundAfter s (found_as c)
loss_is_found s c left = record {
  found = record { added = refl; removed = refl; spare = refl; raised = omega arith };
  fewer = λ d then.
      let there = same_files c.files then.there (subst (λ (ss : List Segment). AreTornTo ss then.there) (none_added then.added (found_files c.files)) then.segments) in
      let files : d.files ≡ c.files = then.files ∙ ap (λ (l : List File). l ++ then.again) there ∙ ap (λ (l : List File). c.files ++ l) (none_again then.again then.removed) ∙ append-nil c.files in
      record {
        added = left.added;
        there = left.there;
        again = left.again;
        segments = left.segments;
        removed = left.removed;
        files = files ∙ left.files;
        floor = (omega (arith, left.floor.0, then.floor.0), omega (arith, left.floor.1, then.floor.1));
        spare = omega (arith, left.spare, then.spare, no_spare then.added);
      };
}
  where
    no_spare : (b : Bool) → spare_left None b 0 ≡ 0
    no_spare true = refl
    no_spare false = refl
