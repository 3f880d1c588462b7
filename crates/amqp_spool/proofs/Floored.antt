-- The floor stays while batches are written.
use Rattle.std.proofs.Common.{◌≡◌, ℕ, arith, List, ⊎_elim, ap, Result, Ok, Err}
use Rattle.amqp_spool.specs.declared.folder.FolderFault.{FolderFault}
use Rattle.amqp_spool.specs.declared.folder.FolderFault.TheVariants as fault
use Rattle.amqp_spool.specs.Folders.{State, History, Now, Since, Goes, GoesBy, making, MayWrite, IsAppended, IsSynced, IsAdded}
use Rattle.amqp_spool.specs.Journals.{HasFloor}
use Rattle.amqp_spool.proofs.Histories.{goes_since, goes_by_since, now_both, since_since, since_now}

appended_raised : (bytes : List ℕ) (r : Result (Unit {0}) FolderFault) (s t : State) → MayWrite s → IsAppended bytes r s t → t.raised ≡ s.raised
appended_raised bytes (Ok x) s t w done = ap (λ (k : State). k.raised) (done w.newest w.rest w.is)
appended_raised bytes (Err f) s t w done = ap (λ (k : State). k.raised) (done w.newest w.rest w.is).2

synced_raised : (r : Result (Unit {0}) FolderFault) (s t : State) → MayWrite s → IsSynced r s t → t.raised ≡ s.raised
synced_raised (Ok x) s t w done = ap (λ (k : State). k.raised) (done w.newest w.rest w.is)
synced_raised (Err f) s t w done = ap (λ (k : State). k.raised) (done w.newest w.rest w.is)

added_raised : (first : ℕ) (bytes : List ℕ) (r : Result (Unit {0}) FolderFault) (s t : State) → IsAdded first bytes r s t → t.raised ≡ s.raised
added_raised first bytes (Ok x) s t done = ap (λ (k : State). k.raised) done
added_raised first bytes (Err fault.Full) s t done = ⊎_elim (λ is. ap (λ (k : State). k.raised) is) (λ is. ap (λ (k : State). k.raised) is) done
added_raised first bytes (Err fault.Failed) s t done = ap (λ (k : State). k.raised) done

module _ (n : ℕ) (h k : History) (has : Now (HasFloor n) h) where
  pub floor_appended : (bytes : List ℕ) (r : Result (Unit {0}) FolderFault) → Now MayWrite h → Goes (IsAppended bytes r) h k → Since (HasFloor n) h k
  floor_appended bytes r writes goes =
      goes_since (IsAppended bytes r) (λ s. MayWrite s × HasFloor n s) (HasFloor n) h k goes (now_both MayWrite (HasFloor n) h writes has) (λ s t p q. omega (arith, p.1, appended_raised bytes r s t p.0 q))

  pub floor_synced : (r : Result (Unit {0}) FolderFault) → Now MayWrite h → Goes (IsSynced r) h k → Since (HasFloor n) h k
  floor_synced r writes goes =
      goes_since (IsSynced r) (λ s. MayWrite s × HasFloor n s) (HasFloor n) h k goes (now_both MayWrite (HasFloor n) h writes has) (λ s t p q. omega (arith, p.1, synced_raised r s t p.0 q))

  pub floor_added : (first m : ℕ) (bytes : List ℕ) (r : Result (Unit {0}) FolderFault) → GoesBy (making m) (IsAdded first bytes r) h k → Since (HasFloor n) h k
  floor_added first m bytes r goes = goes_by_since (making m) (IsAdded first bytes r) (HasFloor n) (HasFloor n) h k goes has (λ s p. p) (λ s t p q. omega (arith, p, added_raised first bytes r s t q))

-- one call after the other
pub floor_both : (n : ℕ) (h k l : History) → Now (HasFloor n) h → Since (HasFloor n) h k → (Now (HasFloor n) k → Since (HasFloor n) k l) → Since (HasFloor n) h l
floor_both n h k l has first then = since_since (HasFloor n) h k l first (then (since_now (HasFloor n) h k has first))
