-- A journal that was made ready for a write: only its folder has changed, and not the history of that.
use Rattle.std.proofs.Common.{◌≡◌, ◌≢◌, ℕ, arith, Bool, false, List, refl, sym, ap, ◌∙◌, subst, Result, Ok, Err}
use Rattle.amqp_spool.specs.declared.journal.Journal.{Journal}
use Rattle.amqp_spool.specs.declared.journal.JournalFault.{JournalFault}
use Rattle.amqp_spool.specs.declared.journal.JournalFault.TheVariants as fault
use Rattle.amqp_spool.specs.declared.spool.Spool.{Spool}
use Rattle.amqp_spool.specs.Batches.{Batch, records}
use Rattle.amqp_spool.specs.Chapters.{Chapter, Holds, IsAt, KeepsOn}
use Rattle.amqp_spool.specs.Folders.{State, History, Now, Since, MayWrite}
use Rattle.amqp_spool.specs.Journals.{IsCounted, IsWell, HasMost, Stands, IsSettled, GoesEither}
use Rattle.amqp_spool.specs.Sayings.{Puts}
use Rattle.amqp_spool.specs.Spools.{Has, IsDone}
use Rattle.amqp_spool.specs.Waitings.{Waits}
use Rattle.amqp_spool.proofs.Histories.{since_none}

-- Whether it has failed, as the result says.
pub alive_ok : {x : Unit {0}} {new old : Bool} → (◌≢◌ {A = Result (Unit {0}) JournalFault} (Ok x) (Err fault.Failed) → new ≡ old) → old ≡ false → new ≡ false
alive_ok still alive = still (λ is. grind (arith, is)) ∙ alive

pub alive_err : {e : JournalFault} {new old : Bool} → (◌≢◌ {A = Result (Unit {0}) JournalFault} (Err e) (Err fault.Failed) → new ≡ old) → old ≡ false → e ≢ fault.Failed → new ≡ false
alive_err still alive not = still (λ is. not (cc is)) ∙ alive

-- It stands where it stood.
pub record StandsStill {F : Type 0} (history : F → History) (all : List Batch) {old : Journal F} (it : Stands history all old) (new : Journal F) : Type 0 where
  pub now : Stands history all new
  pub chapter : now.chapter ≡ it.chapter
  pub older : now.older ≡ it.older
  pub gone : now.told.gone ≡ it.told.gone

counted_so : {F : Type 0} (history : F → History) (old : Journal F) (f : F) (b : Bool) → history f ≡ history old.folder → old.failed ≡ false → IsCounted history old → IsCounted history (record old { folder = f; failed = b })
counted_so history old f b still alive counted = record {
  fits = counted.fits;
  within = counted.within;
  place = counted.place;
  sum = counted.sum;
  exact = λ _. counted.exact alive;
  most = subst (λ (h : History). Now (HasMost old.used old.segment) h) (sym still) counted.most;
  well = λ _. subst (λ (h : History). Now (IsWell old.segments.list.items old.used old.segment old.floor) h) (sym still) (counted.well alive);
  writes = λ _ spent. subst (λ (h : History). Now MayWrite h) (sym still) (counted.writes alive spent);
}

stands_so : {F : Type 0} (history : F → History) (all : List Batch) (old : Journal F) (f : F) (b : Bool) → history f ≡ history old.folder → b ≡ false → (it : Stands history all old) → StandsStill history all it (record old { folder = f; failed = b })
stands_so history all old f b still alive it = record {
  now = record {
    chapter = it.chapter;
    older = it.older;
    told = it.told;
    at = record {
      chained = it.at.chained;
      head = it.at.head;
      place = it.at.place;
      next = it.at.next;
      holds = subst (λ (h : History). Now (Holds it.chapter it.older) h) (sym still) it.at.holds;
      well = λ spent. subst (λ (h : History). Now (IsAt it.chapter it.older) h) (sym still) (it.at.well spent);
      alive = alive;
    };
  };
  chapter = refl;
  older = refl;
  gone = refl;
}

module _ {F : Type 0} (history : F → History) (old new : Journal F) (same : new ≡ record old { folder = new.folder; failed = new.failed }) (still : history new.folder ≡ history old.folder) where
  pub counted_ready : old.failed ≡ false → IsCounted history old → IsCounted history new
  counted_ready alive counted = subst (λ (j : Journal F). IsCounted history j) (sym same) (counted_so history old new.folder new.failed still alive counted)

  pub stands_ready : (all : List Batch) → new.failed ≡ false → (it : Stands history all old) → StandsStill history all it new
  stands_ready all alive it = subst (λ (j : Journal F). StandsStill history all it j) (sym same) (stands_so history all old new.folder new.failed still alive it)

  -- What is so of each state since is so of each since before.
  pub since_ready : (P : State → Type 0) (k : History) → Since P (history new.folder) k → Since P (history old.folder) k
  since_ready P k since = subst (λ (h : History). Since P h k) still since

  -- It was settled after that.
  pub settled_ready : (all : List Batch) (arrived count : ℕ) (here anew : List ℕ) (r : Result (Unit {0}) JournalFault) (last : Journal F) → new.failed ≡ false → (it : Stands history all old)
      → ((now : Stands history all new) → IsSettled history now.chapter now.older (GoesEither arrived now.chapter now.older count here anew) all r new last)
      → IsSettled history it.chapter it.older (GoesEither arrived it.chapter it.older count here anew) all r old last
  settled_ready all arrived count here anew r last alive it settles =
      let ready = stands_ready all alive it in
      let older = subst (λ (ch : Chapter). IsSettled history ch ready.now.older (GoesEither arrived ch ready.now.older count here anew) all r new last) ready.chapter (settles ready.now) in
      let settled = subst (λ (chs : List Chapter). IsSettled history it.chapter chs (GoesEither arrived it.chapter chs count here anew) all r new last) ready.older older in
      record { done = settled.done; refused = settled.refused; kept = since_ready (KeepsOn it.chapter it.older) (history last.folder) settled.kept }

  -- It was not settled.
  pub settled_not : (all : List Batch) (is : Batch → Chapter → List Chapter → Type 0) (e : JournalFault) → (e ≢ fault.Failed → new.failed ≡ false) → (it : Stands history all old)
      → IsSettled history it.chapter it.older is all (Err e) old new
  settled_not all is e alive it = record {
    done = tt;
    refused = λ not. let ready = stands_ready all (alive (λ failed. not (ap (λ (x : JournalFault). Err x) failed))) it in (ready.now, ready.chapter, ready.older);
    kept = since_ready (KeepsOn it.chapter it.older) (history new.folder) (since_none (KeepsOn it.chapter it.older) (history new.folder));
  }

module _ {F : Type 0} (history : F → History) (s : Spool F) (j : Journal F) (same : j ≡ record s.journal { folder = j.folder; failed = j.failed }) (still : history j.folder ≡ history s.journal.folder) (told waiting : Puts) where
  pub has_ready : j.failed ≡ false → Has history told waiting s → Has history told waiting (record s { journal = j })
  has_ready alive has =
      let ready = stands_ready history s.journal j same still has.all alive has.journal in
      record {
        all = has.all;
        journal = ready.now;
        chapter = has.chapter;
        older = has.older;
        chapter_is = ready.chapter ∙ has.chapter_is;
        older_is = ready.older ∙ has.older_is;
        gone = has.gone;
        before = has.before;
        here = has.here;
        are = has.are;
        passed = has.passed ∙ ap records (sym ready.gone);
        older_say = has.older_say;
        says = has.says;
        waits = subst (λ (k : Journal F). Waits k.head.first k.next has.says.entries waiting s.links s.waiting) (sym same) has.waits;
      }

  pub not_ready : (e : JournalFault) → (e ≢ fault.Failed → j.failed ≡ false) → Has history told waiting s → IsDone history told waiting (Err e) (record s { journal = j })
  not_ready e alive has = record { done = tt; refused = λ not. has_ready (alive (λ failed. not (ap (λ (x : JournalFault). Err x) failed))) has }

-- What is so of each state between two calls that leave the history.
pub since_between : (P : State → Type 0) (a b c d : History) → b ≡ a → d ≡ c → Since P b c → Since P a d
since_between P a b c d first last since = subst (λ (x : History). Since P x d) first (subst (λ (y : History). Since P b y) (sym last) since)
