-- Whose the records of a spool are, through its calls.
use Rattle.std.proofs.Common.{◌≡◌, ⊎_elim, ℕ, ◌≤◌, ◌<◌, arith, List, [], ◌∷◌, ◌++◌, length, length-append, append_assoc, append-nil, Some, refl, sym, ap, ◌∙◌, subst, Result, Ok, Err}
use Rattle.std.specs.Prelude.{OnOk, OnErr, IfOk}
use Rattle.amqp_spool.specs.declared.head.Head.{Head}
use Rattle.amqp_spool.specs.declared.journal.Journal.{Journal}
use Rattle.amqp_spool.specs.declared.journal.JournalFault.{JournalFault}
use Rattle.amqp_spool.specs.declared.links.OpenFault.{OpenFault}
use Rattle.amqp_spool.specs.declared.spool.Spool.{Spool}
use Rattle.amqp_spool.specs.declared.waiting.PutFault.{PutFault}
use Rattle.amqp_spool.specs.Batches.{Batch, records}
use Rattle.amqp_spool.specs.Chapters.{Holds, Chapter, Chained, KeepsOn, StaysOn, oldest, told, with_batch, next_of}
use Rattle.amqp_spool.specs.Entries.{Introduced, Recorded, Entry, IsBody}
use Rattle.amqp_spool.specs.Folders.{History, Now, Since}
use Rattle.amqp_spool.specs.Journals.{Stands, IsLeftIn, IsSettled, GoesHere, GoesAnew, GoesEither}
use Rattle.amqp_spool.specs.Names.{nobody, after, named}
use Rattle.amqp_spool.specs.Sayings.{Puts, AreBodies, Says, AllSay}
use Rattle.amqp_spool.specs.Spools.{IsNew, Has, IsDone, Tells, KeepsTold}
use Rattle.amqp_spool.specs.Waitings.{link_at, LinksState, WaitingState, Waits, IsFrom, IsCleared, KeepsWaiting, AddsRecord}
use Rattle.amqp_spool.proofs.Bodies.{named_count, known_both, bodies_counted, bodies_more}
use Rattle.amqp_spool.proofs.Clearing.{nothing_waits, settles_here, settles_anew, is_body_anew}
use Rattle.amqp_spool.proofs.Histories.{now_and, since_and}
use Rattle.amqp_spool.proofs.Kept.{keeps_on, goes_on_from}
use Rattle.amqp_spool.proofs.Naming.{named-append}
use Rattle.amqp_spool.proofs.Reaching.{numbers, numbers_front, records_all, same_oldest}
use Rattle.amqp_spool.proofs.Through.{records_one, records_more}

-- Numbers begin at 1. -------------------------------------------------------------------------------------------------

older_first : (ch : Chapter) (chs : List Chapter) → Chained (ch ∷ chs) → (oldest ch chs).head.first ≤ ch.head.first
older_first ch chs is = omega (arith, numbers ch chs is, records_all (told chs) ch.batches)

module _ {F : Type 0} (history : F → History) (all : List Batch) (j : Journal F) (at : Stands history all j) where
  first_some : 1 ≤ j.head.first
  first_some = omega (arith, at.told.before, older_first at.chapter at.older at.at.chained, ap (λ (h : Head). h.first) at.at.head)

  next_some : 1 ≤ j.next
  next_some = omega (arith, at.told.before, older_first at.chapter at.older at.at.chained, at.at.next)

module _ {F : Type 0} (history : F → History) (told waiting : Puts) (s : Spool F) (has : Has history told waiting s) where
  -- Links are opened and closed.
  pub has_links : (links : LinksState) → KeepsWaiting s.links links → Has history told waiting (record s { links = links })
  has_links links keeps = record {
    all = has.all;
    journal = has.journal;
    chapter = has.chapter;
    older = has.older;
    chapter_is = has.chapter_is;
    older_is = has.older_is;
    gone = has.gone;
    before = has.before;
    here = has.here;
    are = has.are;
    passed = has.passed;
    older_say = has.older_say;
    says = has.says;
    waits = keeps s.journal.head.first s.journal.next has.says.entries waiting s.waiting (first_some history has.all s.journal has.journal) (next_some history has.all s.journal has.journal) has.waits;
  }

  -- A record is put.
  pub has_put : (r : Recorded) (i : Introduced) (links : LinksState) (w : WaitingState) → IsFrom s.links r.link i → AddsRecord s.journal.head.first s.journal.next s.links links r s.waiting w
      → Has history told (waiting ++ (Some i, r) ∷ []) (record s { links = links; waiting = w })
  has_put r i links w from adds = record {
    all = has.all;
    journal = has.journal;
    chapter = has.chapter;
    older = has.older;
    chapter_is = has.chapter_is;
    older_is = has.older_is;
    gone = has.gone;
    before = has.before;
    here = has.here;
    are = has.are;
    passed = has.passed;
    older_say = has.older_say;
    says = has.says;
    waits = adds has.says.entries waiting i from has.waits;
  }

  pub put_of : (r : Recorded) (i : Introduced) (links : LinksState) (w : WaitingState) → IsFrom s.links r.link i → (q : Result (Unit {0}) PutFault) → OnOk q (AddsRecord s.journal.head.first s.journal.next s.links links r s.waiting w)
      → OnOk q (Has history told (waiting ++ (Some i, r) ∷ []) (record s { links = links; waiting = w }))
  put_of r i links w from (Ok x) adds = has_put r i links w from adds
  put_of r i links w from (Err e) adds = tt

pub keeps_of : (r : Result ℕ OpenFault) (old new : LinksState) → IfOk r (λ n. KeepsWaiting old new) → OnErr r (new ≡ old) → KeepsWaiting old new
keeps_of (Ok n) old new is same = is
keeps_of (Err e) old new is same = λ first next es puts w a b x. subst (λ (l : LinksState). Waits first next es puts l w) (sym same) x

pub no_puts : (ps : Puts) → length ps ≡ 0 → ps ≡ []
no_puts [] is = refl
no_puts (p ∷ ps) is = absurd (omega (arith, is))

-- Chapters as the records that they tell.
pub says_long : (ch : Chapter) (ps : Puts) → Says ch ps → length ps ≡ records ch.batches
says_long ch ps is = ap (λ (l : Puts). length l) (sym is.same) ∙ named_count nobody is.entries ∙ sym (bodies_counted ch.batches is.entries is.bodies)

-- What waits is settled. ----------------------------------------------------------------------------------------------

says_more : (ch : Chapter) (here waiting : Puts) (b : Batch) (links : LinksState) (w : WaitingState) (first next : ℕ) (says : Says ch here) (x : Waits first next says.entries waiting links w) → b.head.count ≡ w.count → b.body ≡ w.here
    → Says (with_batch b ch) (here ++ waiting)
says_more ch here waiting b links w first next says x count body = record {
  entries = says.entries ++ x.here;
  bodies = bodies_more ch.batches b says.entries x.here says.bodies (subst (λ (l : List ℕ). IsBody l x.here) (sym body) x.here_is) (count ∙ x.counted ∙ ap (λ (l : Puts). length l) (sym x.named_here) ∙ named_count (after nobody says.entries) x.here);
  same = named-append nobody says.entries x.here ∙ ap (λ (l : Puts). l ++ named (after nobody says.entries) x.here) says.same ∙ ap (λ (l : Puts). here ++ l) x.named_here;
  known = known_both here waiting says.known x.are_known;
}

says_anew : (dh : Chapter) (waiting : Puts) (b : Batch) (links : LinksState) (w : WaitingState) (first next : ℕ) (es : List Entry) (x : Waits first next es waiting links w) → dh.batches ≡ b ∷ [] → b.head.count ≡ w.count → b.body ≡ w.again ++ w.here
    → Says dh waiting
says_anew dh waiting b links w first next es x batches count body = record {
  entries = x.again ++ x.here;
  bodies = subst (λ (bs : List Batch). AreBodies bs (x.again ++ x.here)) (sym batches) (
    x.again ++ x.here,
    [],
    sym (append-nil (x.again ++ x.here)),
    subst (λ (l : List ℕ). IsBody l (x.again ++ x.here)) (sym body) (is_body_anew first next es waiting links w x),
    count ∙ x.counted ∙ ap (λ (l : Puts). length l) (sym x.named_anew) ∙ named_count nobody (x.again ++ x.here),
    refl,
  );
  same = x.named_anew;
  known = x.are_known;
}

module _ {F : Type 0} (history : F → History) (told waiting : Puts) (s : Spool F) (has : Has history told waiting s) (j : Journal F) (w : WaitingState) (cleared : IsCleared s.waiting w) (some : 0 < s.waiting.count) (b : Batch)
    (now : Stands history (has.all ++ b ∷ []) j) where
  abbrev new : Spool F
  new = record s { journal = j; waiting = w }

  gone_is : (oldest now.chapter now.older).head.first ≡ (oldest has.chapter has.older).head.first → length has.gone ≡ records now.told.gone
  gone_is same = omega (arith, has.passed, now.told.before, has.journal.told.before, same, ap (λ (c : Chapter). (oldest c has.journal.older).head.first) has.chapter_is, ap (λ (l : List Chapter). (oldest has.chapter l).head.first) has.older_is)

  number_is : s.journal.next ≡ next_of has.chapter
  number_is = has.journal.at.next ∙ ap next_of has.chapter_is

  went_here : (arrived : ℕ) → GoesHere arrived has.chapter has.older s.waiting.count s.waiting.here b now.chapter now.older → Has history (told ++ waiting) [] new
  unfolding says_more
  went_here arrived went = record {
    all = has.all ++ b ∷ [];
    journal = now;
    chapter = with_batch b has.chapter;
    older = has.older;
    chapter_is = went.1;
    older_is = went.2;
    gone = has.gone;
    before = has.before;
    here = has.here ++ waiting;
    are = ap (λ (l : Puts). l ++ waiting) has.are ∙ append_assoc (has.gone ++ has.before) has.here waiting;
    passed = gone_is (ap (λ (c : Chapter). (oldest c now.older).head.first) went.1 ∙ ap (λ (l : List Chapter). (oldest (with_batch b has.chapter) l).head.first) went.2 ∙ sym (same_oldest has.chapter (with_batch b has.chapter) has.older refl));
    older_say = has.older_say;
    says = says_more has.chapter has.here waiting b s.links s.waiting s.journal.head.first s.journal.next has.says has.waits went.0.0 went.0.1;
    waits = subst (λ (n : ℕ). Waits n j.next (has.says.entries ++ has.waits.here) [] s.links w)
        (ap (λ (h : Head). h.first) (has.journal.at.head ∙ ap (λ (c : Chapter). c.head) has.chapter_is ∙ ap (λ (c : Chapter). c.head) (sym went.1) ∙ sym now.at.head))
        (subst (λ (n : ℕ). Waits s.journal.head.first n (has.says.entries ++ has.waits.here) [] s.links w)
        (omega (arith, number_is, now.at.next, ap next_of went.1, records_more has.chapter.batches b, went.0.0))
        (settles_here s.journal.head.first s.journal.next has.says.entries waiting s.links s.waiting w has.waits some cleared));
  }

  anew_waits : now.chapter.head.first ≡ next_of has.chapter → now.chapter.batches ≡ b ∷ [] → b.head.count ≡ s.waiting.count → Waits j.head.first j.next (has.waits.again ++ has.waits.here) [] s.links w
  anew_waits first batches count =
      subst (λ (n : ℕ). Waits n j.next (has.waits.again ++ has.waits.here) [] s.links w) (number_is ∙ sym first ∙ ap (λ (h : Head). h.first) (sym now.at.head))
      (subst (λ (n : ℕ). Waits s.journal.next n (has.waits.again ++ has.waits.here) [] s.links w)
      (omega (arith, number_is, first, now.at.next, ap records batches, records_one b [], count))
      (settles_anew s.journal.head.first s.journal.next has.says.entries waiting s.links s.waiting w has.waits some cleared))

  went_anew : (arrived : ℕ) → GoesAnew arrived has.chapter has.older s.waiting.count (s.waiting.again ++ s.waiting.here) b now.chapter now.older → Has history (told ++ waiting) [] new
  unfolding says_anew
  went_anew arrived went = ⊎_elim
      (λ (behind : now.older ≡ has.chapter ∷ has.older). record {
        all = has.all ++ b ∷ [];
        journal = now;
        chapter = now.chapter;
        older = has.chapter ∷ has.older;
        chapter_is = refl;
        older_is = behind;
        gone = has.gone;
        before = has.before ++ has.here;
        here = waiting;
        are = ap (λ (l : Puts). l ++ waiting) (has.are ∙ append_assoc has.gone has.before has.here);
        passed = gone_is (ap (λ (l : List Chapter). (oldest now.chapter l).head.first) behind);
        older_say = (has.before, has.here, refl, has.older_say, has.says);
        says = says_anew now.chapter waiting b s.links s.waiting s.journal.head.first s.journal.next has.says.entries has.waits went.1 went.0.0 went.0.1;
        waits = anew_waits went.2 went.1 went.0.0;
      })
      (λ (behind : (now.older ≡ has.older) × (has.chapter.batches ≡ [])).
      let none : has.here ≡ [] = no_puts has.here (omega (arith, says_long has.chapter has.here has.says, ap records behind.1)) in
      record {
        all = has.all ++ b ∷ [];
        journal = now;
        chapter = now.chapter;
        older = has.older;
        chapter_is = refl;
        older_is = behind.0;
        gone = has.gone;
        before = has.before;
        here = waiting;
        are = ap (λ (l : Puts). l ++ waiting) (has.are ∙ ap (λ (l : Puts). (has.gone ++ has.before) ++ l) none ∙ append-nil (has.gone ++ has.before));
        passed = gone_is (ap (λ (l : List Chapter). (oldest now.chapter l).head.first) behind.0 ∙ in_place has.older (omega (arith, went.2, ap records behind.1)));
        older_say = has.older_say;
        says = says_anew now.chapter waiting b s.links s.waiting s.journal.head.first s.journal.next has.says.entries has.waits went.1 went.0.0 went.0.1;
        waits = anew_waits went.2 went.1 went.0.0;
      })
      went.3
    where
      in_place : (chs : List Chapter) → now.chapter.head.first ≡ has.chapter.head.first → (oldest now.chapter chs).head.first ≡ (oldest has.chapter chs).head.first
      in_place [] is = is
      in_place (a ∷ chs) is = refl

-- The same, whatever came of it.
module _ {F : Type 0} (history : F → History) (told waiting : Puts) (s : Spool F) (has : Has history told waiting s) (j : Journal F) (arrived : ℕ) where
  chapters_are : (b : Batch) (now : Chapter) (older : List Chapter) → GoesEither arrived has.journal.chapter has.journal.older s.waiting.count s.waiting.here (s.waiting.again ++ s.waiting.here) b now older
      → GoesEither arrived has.chapter has.older s.waiting.count s.waiting.here (s.waiting.again ++ s.waiting.here) b now older
  chapters_are b now older went =
      subst (λ (c : Chapter). GoesEither arrived c has.older s.waiting.count s.waiting.here (s.waiting.again ++ s.waiting.here) b now older) has.chapter_is
      (subst (λ (l : List Chapter). GoesEither arrived has.journal.chapter l s.waiting.count s.waiting.here (s.waiting.again ++ s.waiting.here) b now older) has.older_is went)

  pub has_settled : (w : WaitingState) → IsCleared s.waiting w → 0 < s.waiting.count
      → ((b : Batch) × (now : Stands history (has.all ++ b ∷ []) j) × GoesEither arrived has.journal.chapter has.journal.older s.waiting.count s.waiting.here (s.waiting.again ++ s.waiting.here) b now.chapter now.older)
      → Has history (told ++ waiting) [] (record s { journal = j; waiting = w })
  has_settled w cleared some done =
      ⊎_elim (λ went. went_here history told waiting s has j w cleared some done.0 done.1 arrived went) (λ went. went_anew history told waiting s has j w cleared some done.0 done.1 arrived went)
      (chapters_are done.0 done.1.chapter done.1.older done.2)

  -- It waits as it did.
  has_refused : (now : Stands history has.all j) → now.chapter ≡ has.journal.chapter → now.older ≡ has.journal.older → Has history told waiting (record s { journal = j })
  has_refused now chapter older =
      let head : j.head ≡ s.journal.head = now.at.head ∙ ap (λ (c : Chapter). c.head) chapter ∙ sym has.journal.at.head in
      let next : j.next ≡ s.journal.next = now.at.next ∙ ap next_of chapter ∙ sym has.journal.at.next in
      record {
        all = has.all;
        journal = now;
        chapter = has.chapter;
        older = has.older;
        chapter_is = chapter ∙ has.chapter_is;
        older_is = older ∙ has.older_is;
        gone = has.gone;
        before = has.before;
        here = has.here;
        are = has.are;
        passed = omega (arith, has.passed, now.told.before, has.journal.told.before, ap (λ (c : Chapter). (oldest c now.older).head.first) chapter, ap (λ (l : List Chapter). (oldest has.journal.chapter l).head.first) older);
        older_say = has.older_say;
        says = has.says;
        waits = subst (λ (n : ℕ). Waits n j.next has.says.entries waiting s.links s.waiting) (ap (λ (h : Head). h.first) (sym head))
            (subst (λ (n : ℕ). Waits s.journal.head.first n has.says.entries waiting s.links s.waiting) (sym next) has.waits);
      }

  pub done_not : (x : JournalFault) → IsSettled history has.journal.chapter has.journal.older (GoesEither arrived has.journal.chapter has.journal.older s.waiting.count s.waiting.here (s.waiting.again ++ s.waiting.here)) has.all (Err x) s.journal j
      → IsDone history told waiting (Err x) (record s { journal = j })
  done_not x settled = record { done = tt; refused = λ not. let r = settled.refused (λ is. not is) in has_refused r.0 r.1 r.2 }

  pub done_it : (w : WaitingState) → IsCleared s.waiting w → 0 < s.waiting.count
      → IsSettled history has.journal.chapter has.journal.older (GoesEither arrived has.journal.chapter has.journal.older s.waiting.count s.waiting.here (s.waiting.again ++ s.waiting.here)) has.all (Ok tt) s.journal j
      → IsDone history told waiting (Ok tt) (record s { journal = j; waiting = w })
  done_it w cleared some settled = record { done = has_settled w cleared some settled.done; refused = tt }

  pub as_waiting : (r : Result (Unit {0}) JournalFault) (count : ℕ) (here anew : List ℕ) → count ≡ s.waiting.count → here ≡ s.waiting.here → anew ≡ s.waiting.again ++ s.waiting.here
      → IsSettled history has.journal.chapter has.journal.older (GoesEither arrived has.journal.chapter has.journal.older count here anew) has.all r s.journal j
      → IsSettled history has.journal.chapter has.journal.older (GoesEither arrived has.journal.chapter has.journal.older s.waiting.count s.waiting.here (s.waiting.again ++ s.waiting.here)) has.all r s.journal j
  as_waiting r count here anew a b c settled =
      subst (λ (n : ℕ). IsSettled history has.journal.chapter has.journal.older (GoesEither arrived has.journal.chapter has.journal.older n s.waiting.here (s.waiting.again ++ s.waiting.here)) has.all r s.journal j) a
      (subst (λ (l : List ℕ). IsSettled history has.journal.chapter has.journal.older (GoesEither arrived has.journal.chapter has.journal.older count l (s.waiting.again ++ s.waiting.here)) has.all r s.journal j) b
      (subst (λ (l : List ℕ). IsSettled history has.journal.chapter has.journal.older (GoesEither arrived has.journal.chapter has.journal.older count here l) has.all r s.journal j) c settled))

-- A spool that was begun has nothing. ---------------------------------------------------------------------------------

first_none : {A : Type 0} (xs ys : List A) → [] ≡ xs ++ ys → xs ≡ []
first_none [] ys is = refl
first_none {A} (x ∷ xs) ys is = absurd (omega (arith, ap (λ (l : List A). length l) is, length-append xs ys))

last_none : {A : Type 0} (xs ys : List A) → [] ≡ xs ++ ys → ys ≡ []
last_none xs [] is = refl
last_none {A} xs (y ∷ ys) is = absurd (omega (arith, ap (λ (l : List A). length l) is, length-append xs (y ∷ ys)))

pub says_nothing : (ch : Chapter) → ch.batches ≡ [] → Says ch []
says_nothing ch none = record {
  entries = [];
  bodies = subst (λ (bs : List Batch). AreBodies bs []) (sym none) refl;
  same = refl;
  known = tt;
}

all_say_nothing : (chs : List Chapter) → [] ≡ told chs → AllSay chs []
all_say_nothing [] is = refl
all_say_nothing (ch ∷ chs) is = ([], [], refl, all_say_nothing chs (sym (first_none (told chs) ch.batches is)), says_nothing ch (last_none (told chs) ch.batches is))

module _ {F : Type 0} (history : F → History) (s : Spool F) (j : Journal F) (new : IsNew s) (at : Stands history [] j) where
  nothing : [] ≡ told (at.chapter ∷ at.older)
  nothing = sym (last_none at.told.gone (told (at.chapter ∷ at.older)) at.told.same)

  has_begun : Has history [] [] (record s { journal = j })
  unfolding says_nothing
  has_begun = record {
    all = [];
    journal = at;
    chapter = at.chapter;
    older = at.older;
    chapter_is = refl;
    older_is = refl;
    gone = [];
    before = [];
    here = [];
    are = refl;
    passed = sym (ap records (first_none at.told.gone (told (at.chapter ∷ at.older)) at.told.same));
    older_say = all_say_nothing at.older (sym (first_none (told at.older) at.chapter.batches nothing));
    says = says_nothing at.chapter (last_none (told at.older) at.chapter.batches nothing);
    waits = nothing_waits j.head.first j.next [] s.links s.waiting (λ n. ap (λ (l : LinksState). link_at l n) new.links) new.here new.again new.count;
  }

pub has_begun_of : {F : Type 0} (history : F → History) (s : Spool F) (j : Journal F) (new : IsNew s) (r : Result (Unit {0}) JournalFault) → OnOk r (Stands history [] j) → OnOk r (Has history [] [] (record s { journal = j }))
has_begun_of history s j fresh (Ok x) at = has_begun history s j fresh at
has_begun_of history s j fresh (Err e) at = tt

pub new_still : {F : Type 0} (s : Spool F) (j : Journal F) (new : IsNew s) → j.limit ≡ s.journal.limit → j.segment ≡ s.journal.segment → (r : Result (Unit {0}) JournalFault) → OnErr r (j.failed ≡ s.journal.failed) → OnErr r (IsNew (record s { journal = j }))
new_still s j new limit segment (Ok x) failed = tt
new_still s j new limit segment (Err e) failed = record {
  failed = failed ∙ new.failed;
  fits = (omega (arith, limit, new.fits.0), omega (arith, segment, new.fits.1));
  links = new.links;
  here = new.here;
  again = new.again;
  count = new.count;
  short = new.short;
  small = omega (arith, segment, new.small);
}

-- Segments go. --------------------------------------------------------------------------------------------------------

pub all_say_long : (chs : List Chapter) (ps : Puts) → AllSay chs ps → length ps ≡ records (told chs)
all_say_long [] ps is = ap (λ (l : Puts). length l) is
all_say_long (ch ∷ chs) ps is = omega (arith, ap (λ (l : Puts). length l) is.2, length-append is.0 is.1, all_say_long chs is.0 is.3, says_long ch is.1 is.4, records_all (told chs) ch.batches)

pub record Split (xs ys : List Chapter) (ps : Puts) : Type 0 where
  pub older : Puts
  pub newer : Puts
  pub are : ps ≡ older ++ newer
  pub older_say : AllSay ys older
  pub newer_say : AllSay xs newer

pub all_say_split : (xs ys : List Chapter) (ps : Puts) → AllSay (xs ++ ys) ps → Split xs ys ps
all_say_split [] ys ps is = record { older = ps; newer = []; are = sym (append-nil ps); older_say = is; newer_say = refl }
all_say_split (x ∷ xs) ys ps is =
    let r = all_say_split xs ys is.0 is.3 in
    record {
      older = r.older;
      newer = r.newer ++ is.1;
      are = is.2 ∙ ap (λ (l : Puts). l ++ is.1) r.are ∙ append_assoc r.older r.newer is.1;
      older_say = r.older_say;
      newer_say = (r.newer, is.1, refl, r.newer_say, is.4);
    }

module _ {F : Type 0} (history : F → History) (told waiting : Puts) (s : Spool F) (has : Has history told waiting s) (j : Journal F) where
  pub has_tended : IsLeftIn history has.all has.journal j → Has history told waiting (record s { journal = j })
  has_tended left =
      let now = left.now in
      let older : has.older ≡ now.older ++ left.gone = sym has.older_is ∙ left.older in
      let split = all_say_split now.older left.gone has.before (subst (λ (l : List Chapter). AllSay l has.before) older has.older_say) in
      let chained : Chained (has.journal.chapter ∷ (now.older ++ left.gone)) = subst (λ (l : List Chapter). Chained (has.journal.chapter ∷ l)) left.older has.journal.at.chained in
      let head : j.head ≡ s.journal.head = now.at.head ∙ ap (λ (c : Chapter). c.head) left.chapter ∙ sym has.journal.at.head in
      let next : j.next ≡ s.journal.next = now.at.next ∙ ap next_of left.chapter ∙ sym has.journal.at.next in
      record {
        all = has.all;
        journal = now;
        chapter = has.chapter;
        older = now.older;
        chapter_is = left.chapter ∙ has.chapter_is;
        older_is = refl;
        gone = has.gone ++ split.older;
        before = split.newer;
        here = has.here;
        are = has.are ∙ ap (λ (l : Puts). l ++ has.here) (ap (λ (l : Puts). has.gone ++ l) split.are ∙ sym (append_assoc has.gone split.older split.newer));
        passed = omega (
          arith,
          has.passed,
          length-append has.gone split.older,
          all_say_long left.gone split.older split.older_say,
          now.told.before,
          has.journal.told.before,
          numbers_front has.journal.chapter now.older left.gone chained,
          ap (λ (l : List Chapter). (oldest has.journal.chapter l).head.first) left.older,
          ap (λ (c : Chapter). (oldest c now.older).head.first) left.chapter,
        );
        older_say = split.newer_say;
        says = has.says;
        waits = subst (λ (n : ℕ). Waits n j.next has.says.entries waiting s.links s.waiting) (ap (λ (h : Head). h.first) (sym head))
            (subst (λ (n : ℕ). Waits s.journal.head.first n has.says.entries waiting s.links s.waiting) (sym next) has.waits);
      }

-- What is told. ------------------------------------------------------------------------------------------------------

module _ {F : Type 0} (history : F → History) (told waiting : Puts) (s : Spool F) (has : Has history told waiting s) where
  pub has_tells : Tells told has.chapter has.older
  has_tells = record {
    chained = subst (λ (ch : Chapter). Chained (ch ∷ has.older)) has.chapter_is (subst (λ (l : List Chapter). Chained (has.journal.chapter ∷ l)) has.older_is has.journal.at.chained);
    gone = has.gone;
    before = has.before;
    here = has.here;
    are = has.are;
    passed = omega (
      arith,
      has.passed,
      has.journal.told.before,
      ap (λ (ch : Chapter). (oldest ch has.journal.older).head.first) has.chapter_is,
      ap (λ (l : List Chapter). (oldest has.chapter l).head.first) has.older_is,
    );
    older_say = has.older_say;
    says = has.says;
  }

  -- What keeps its chapters keeps what was told.
  pub told_since : (h k : History) → Since (KeepsOn has.journal.chapter has.journal.older) h k → Since (KeepsTold told) h k
  told_since h k since =
      since_and (KeepsOn has.journal.chapter has.journal.older) (KeepsTold told) h k since (λ t keeps. (
        has.chapter,
        has.older,
        has_tells,
        subst (λ (ch : Chapter). KeepsOn ch has.older t) has.chapter_is (subst (λ (l : List Chapter). KeepsOn has.journal.chapter l t) has.older_is keeps),
      ))

  pub told_stays : (h k : History) → Since (StaysOn has.journal.chapter has.journal.older) h k → Since (KeepsTold told) h k
  told_stays h k since = told_since h k (since_and (StaysOn has.journal.chapter has.journal.older) (KeepsOn has.journal.chapter has.journal.older) h k since (λ t stays. goes_on_from has.journal.chapter has.journal.older t stays))

  pub told_now : Now (KeepsTold told) (history s.journal.folder)
  told_now = now_and (Holds has.journal.chapter has.journal.older) (KeepsTold told) (history s.journal.folder) has.journal.at.holds (λ t holds. (
    has.chapter,
    has.older,
    has_tells,
    subst (λ (ch : Chapter). KeepsOn ch has.older t) has.chapter_is (subst (λ (l : List Chapter). KeepsOn has.journal.chapter l t) has.older_is (keeps_on has.journal.chapter has.journal.older t holds)),
  ))

-- What was settled is what waited.
pub as_waited : {F : Type 0} (history : F → History) (all : List Batch) (old new : Journal F) (it : Stands history all old) (w : WaitingState) (arrived : ℕ) (r : Result (Unit {0}) JournalFault) (count : ℕ) (here anew : List ℕ) → count ≡ w.count → here ≡ w.here → anew ≡ w.again ++ w.here
    → IsSettled history it.chapter it.older (GoesEither arrived it.chapter it.older count here anew) all r old new → IsSettled history it.chapter it.older (GoesEither arrived it.chapter it.older w.count w.here (w.again ++ w.here)) all r old new
as_waited history all old new it w arrived r count here anew a b c settled =
    subst (λ (n : ℕ). IsSettled history it.chapter it.older (GoesEither arrived it.chapter it.older n w.here (w.again ++ w.here)) all r old new) a
    (subst (λ (l : List ℕ). IsSettled history it.chapter it.older (GoesEither arrived it.chapter it.older count l (w.again ++ w.here)) all r old new) b
    (subst (λ (l : List ℕ). IsSettled history it.chapter it.older (GoesEither arrived it.chapter it.older count here l) all r old new) c settled))
