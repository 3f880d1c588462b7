-- Calls of a spool, one after the other.
use Rattle.std.proofs.Common.{◌≡◌, Bool, true, false, [], ◌∷◌, ◌++◌, Some, append_assoc, append-nil, refl, sym, ap, ◌∙◌, subst, Result, Ok, Err}
use Rattle.std.specs.Prelude.{OnOk, OnErr}
use Rattle.std.proofs.lemmas.Bool.{false≢true}
use Rattle.amqp_spool.specs.declared.journal.Journal.{Journal}
use Rattle.amqp_spool.specs.declared.journal.JournalFault.{JournalFault}
use Rattle.amqp_spool.specs.declared.journal.JournalFault.TheVariants as fault
use Rattle.amqp_spool.specs.declared.spool.Spool.{Spool}
use Rattle.amqp_spool.specs.declared.waiting.PutFault.{PutFault}
use Rattle.amqp_spool.specs.Entries.{Introduced, Recorded}
use Rattle.amqp_spool.specs.PutFaults.{IsPut}
use Rattle.amqp_spool.specs.Waitings.{IsFrom}
use Rattle.amqp_spool.specs.Folders.{State, History, Since}
use Rattle.amqp_spool.specs.Runs.{KeepsFrom, HasRun}
use Rattle.amqp_spool.specs.Sayings.{Puts}
use Rattle.amqp_spool.specs.Spools.{Has, IsDone, KeepsTold}
use Rattle.amqp_spool.proofs.Histories.{since_none, since_since, since_and}

module _ {F : Type 0} (history : F → History) (told : Puts) where
  keeps_it : (t : State) → KeepsTold told t → KeepsFrom told t
  keeps_it t keeps = ([], subst (λ (ps : Puts). KeepsTold ps t) (sym (append-nil told)) keeps)

  has_it : (waiting : Puts) (s : Spool F) → Has history told waiting s → (more : Puts) × (now : Puts) × Has history (told ++ more) now s
  has_it waiting s has = ([], waiting, subst (λ (ps : Puts). Has history ps waiting s) (sym (append-nil told)) has)

  since_it : (h k : History) → Since (KeepsTold told) h k → Since (KeepsFrom told) h k
  since_it h k since = since_and (KeepsTold told) (KeepsFrom told) h k since keeps_it

  -- The journal has not changed.
  pub ran_nothing : (waiting : Puts) (old new : Spool F) → new.journal ≡ old.journal → Has history told waiting new → HasRun history told old new
  ran_nothing waiting old new same has = record {
    kept = subst (λ (j : Journal F). Since (KeepsFrom told) (history old.journal.folder) (history j.folder)) (sym same) (since_none (KeepsFrom told) (history old.journal.folder));
    has = λ _. has_it waiting new has;
  }

  -- A record was put, or not.
  pub ran_put : (waiting : Puts) (r : Recorded) (q : Result (Unit {0}) PutFault) (old new : Spool F) → Has history told waiting old → new.journal ≡ old.journal → OnErr q (new ≡ old)
      → OnOk q (IsPut old.journal.head.first old.journal.next old.links old.waiting new.waiting r)
      → ((ps now : Puts) (i : Introduced) → IsFrom old.links r.link i → Has history ps now old → OnOk q (Has history ps (now ++ (Some i, r) ∷ []) new)) → HasRun history told old new
  ran_put waiting r (Ok x) old new has same err put then =
      let known = has.waits.told r.link put.link put.is_open in
      ran_nothing (waiting ++ (Some known.from, r) ∷ []) old new same (then told waiting known.from (record { link = put.link; is_open = put.is_open; kept = known.kept }) has)
  ran_put waiting r (Err e) old new has same err put then = ran_nothing waiting old new same (subst (λ (s : Spool F). Has history told waiting s) (sym err) has)

  -- What waits was settled, or not.
  pub ran_settled : (waiting : Puts) (r : Result (Unit {0}) JournalFault) (old new : Spool F) → Since (KeepsTold told) (history old.journal.folder) (history new.journal.folder) → IsDone history told waiting r new
      → (r ≡ Err fault.Failed → new.journal.failed ≡ true) → HasRun history told old new
  ran_settled waiting (Ok x) old new kept done fails = record { kept = since_it (history old.journal.folder) (history new.journal.folder) kept; has = λ _. (waiting, [], done.done) }
  ran_settled waiting (Err e) old new kept done fails = record {
    kept = since_it (history old.journal.folder) (history new.journal.folder) kept;
    has = λ alive. has_it waiting new (done.refused (λ failed. false≢true (sym alive ∙ fails failed)));
  }

  -- It was tended, or not.
  pub ran_tended : {A : Type 0} (waiting : Puts) (r : Result A JournalFault) (old new : Spool F) → Since (KeepsTold told) (history old.journal.folder) (history new.journal.folder) → ((r ≡ Err fault.Failed → ⊥) → Has history told waiting new)
      → (r ≡ Err fault.Failed → new.journal.failed ≡ true) → HasRun history told old new
  ran_tended waiting r old new kept has fails = record {
    kept = since_it (history old.journal.folder) (history new.journal.folder) kept;
    has = λ alive. has_it waiting new (has (λ failed. false≢true (sym alive ∙ fails failed)));
  }

  -- Nothing was called.
  pub not_ran : (waiting : Puts) (s : Spool F) → Has history told waiting s → HasRun history told s s
  not_ran waiting s has = ran_nothing waiting s s refl has

  -- One call more.
  pub ran_more : (a b c : Spool F) → HasRun history told a b → ((ps now : Puts) → Has history ps now b → HasRun history ps b c) → (b.journal.failed ≡ true → c.journal ≡ b.journal) → HasRun history told a c
  ran_more a b c first then failed = by b.journal.failed refl
    where
      by : (x : Bool) → b.journal.failed ≡ x → HasRun history told a c
      by false is =
          let has = first.has is in
          let next = then (told ++ has.0) has.1 has.2 in
          record {
            kept = since_since (KeepsFrom told) (history a.journal.folder) (history b.journal.folder) (history c.journal.folder) first.kept
                (since_and (KeepsFrom (told ++ has.0)) (KeepsFrom told) (history b.journal.folder) (history c.journal.folder) next.kept
                (λ t keeps. (has.0 ++ keeps.0, subst (λ (ps : Puts). KeepsTold ps t) (append_assoc told has.0 keeps.0) keeps.1)));
            has = λ alive. let last = next.has alive in (has.0 ++ last.0, last.1, subst (λ (ps : Puts). Has history ps last.1 c) (append_assoc told has.0 last.0) last.2);
          }
      by true is = record {
        kept = subst (λ (j : Journal F). Since (KeepsFrom told) (history a.journal.folder) (history j.folder)) (sym (failed is)) first.kept;
        has = λ alive. absurd (false≢true (sym alive ∙ ap (λ (j : Journal F). j.failed) (failed is) ∙ is));
      }
