-- A batch that is appended and synced, and a segment that is added.
use Rattle.std.proofs.Common.{◌≡◌, ℕ, ◌+◌, ◌≤◌, arith, List, length, Result, Ok, Err, subst}
use Rattle.amqp_spool.specs.declared.folder.FolderFault.{FolderFault}
use Rattle.amqp_spool.specs.declared.folder.FolderFault.TheVariants as fault
use Rattle.amqp_spool.specs.Folders.{State, History, Now, Since, Goes, GoesBy, MayWrite, IsAppended, IsSynced, IsAdded, making}
use Rattle.amqp_spool.specs.declared.segments.Named.{Named}
use Rattle.amqp_spool.specs.Counting.{grown, put, freed}
use Rattle.amqp_spool.specs.Journals.{HasMost, LeavesMost, IsWell}
use Rattle.amqp_spool.proofs.Counted.{well_appended, well_synced, well_full, well_added}
use Rattle.amqp_spool.proofs.Histories.{goes_now, goes_since, goes_by_now, goes_by_since, now_both}
use Rattle.amqp_spool.proofs.Mosts.{leaves, appended_has, appended_writes, synced_has, synced_writes, making_has, full_has, added_has, added_writes, full_writes}

module _ (used spare limit : ℕ) (h k : History) where
  abbrev Before : State → Type 0
  Before s = HasMost used spare s × MayWrite s

  module _ (bytes : List ℕ) (r : Result (Unit {0}) FolderFault) (has : Now (HasMost used spare) h) (w : Now MayWrite h) where
    both : Now Before h
    both = now_both (HasMost used spare) MayWrite h has w

    pub appended : Goes (IsAppended bytes r) h k → Now (HasMost (used + length bytes) spare) k
    appended goes = goes_now (IsAppended bytes r) Before (HasMost (used + length bytes) spare) h k goes both (λ s t p q. appended_has bytes r s t used spare p.0 p.1 q)

    pub appended_since : used + length bytes ≤ limit → Goes (IsAppended bytes r) h k → Since (LeavesMost (limit + spare)) h k
    appended_since le goes = goes_since (IsAppended bytes r) Before (LeavesMost (limit + spare)) h k goes both (λ s t p q. leaves t (used + length bytes) spare (limit + spare) (appended_has bytes r s t used spare p.0 p.1 q) (omega (arith, le)))

    pub synced : Goes (IsSynced r) h k → Now (HasMost used spare) k
    synced goes = goes_now (IsSynced r) Before (HasMost used spare) h k goes both (λ s t p q. synced_has r s t used spare p.0 p.1 q)

    pub synced_since : used ≤ limit → Goes (IsSynced r) h k → Since (LeavesMost (limit + spare)) h k
    synced_since le goes = goes_since (IsSynced r) Before (LeavesMost (limit + spare)) h k goes both (λ s t p q. leaves t used spare (limit + spare) (synced_has r s t used spare p.0 p.1 q) (omega (arith, le)))

  module _ (first : ℕ) (bytes : List ℕ) (has : Now (HasMost used spare) h) (small : length bytes ≤ spare) where
    pub added : (r : Result (Unit {0}) FolderFault) → GoesBy (making (length bytes)) (IsAdded first bytes r) h k → Now (HasMost (used + length bytes) spare) k
    added r goes = goes_by_now (making (length bytes)) (IsAdded first bytes r) (HasMost used spare) (HasMost (used + length bytes) spare) h k goes has (λ s t p q. added_has first bytes r s t used spare p small q)

    pub added_since : (r : Result (Unit {0}) FolderFault) → used + length bytes ≤ limit → GoesBy (making (length bytes)) (IsAdded first bytes r) h k → Since (LeavesMost (limit + spare)) h k
    added_since r le goes = goes_by_since (making (length bytes)) (IsAdded first bytes r) (HasMost used spare) (LeavesMost (limit + spare)) h k goes has
        (λ s p. leaves (making (length bytes) s) used spare (limit + spare) (making_has (length bytes) s used spare p small) (omega (arith, le)))
        (λ s t p q. leaves t (used + length bytes) spare (limit + spare) (added_has first bytes r s t used spare p small q) (omega (arith, le)))

    pub full : GoesBy (making (length bytes)) (IsAdded first bytes (Err fault.Full)) h k → Now (HasMost used spare) k
    full goes = goes_by_now (making (length bytes)) (IsAdded first bytes (Err fault.Full)) (HasMost used spare) (HasMost used spare) h k goes has (λ s t p q. full_has first bytes s t used spare p small q)

module _ (h k : History) where
  pub appended_still : (bytes : List ℕ) {r : Result (Unit {0}) FolderFault} {x : Unit {0}} → r ≡ Ok x → Now MayWrite h → Goes (IsAppended bytes r) h k → Now MayWrite k
  appended_still bytes {r} {x} is w goes =
      goes_now (IsAppended bytes (Ok x)) MayWrite MayWrite h k (subst (λ (q : Result (Unit {0}) FolderFault). Goes (IsAppended bytes q) h k) is goes) w (λ s t p q. appended_writes bytes x s t p q)

  pub synced_still : {r : Result (Unit {0}) FolderFault} {x : Unit {0}} → r ≡ Ok x → Now MayWrite h → Goes (IsSynced r) h k → Now MayWrite k
  synced_still {r} {x} is w goes = goes_now (IsSynced (Ok x)) MayWrite MayWrite h k (subst (λ (q : Result (Unit {0}) FolderFault). Goes (IsSynced q) h k) is goes) w (λ s t p q. synced_writes x s t p q)

  abbrev Adds : ℕ → List ℕ → Result (Unit {0}) FolderFault → Type 0
  Adds first bytes r = GoesBy (making (length bytes)) (IsAdded first bytes r) h k

  pub added_new : (first : ℕ) (bytes : List ℕ) (x : Unit {0}) (used spare : ℕ) → Now (HasMost used spare) h → Adds first bytes (Ok x) → Now MayWrite k
  added_new first bytes x used spare has goes = goes_by_now (making (length bytes)) (IsAdded first bytes (Ok x)) (HasMost used spare) MayWrite h k goes has (λ s t p q. added_writes first bytes x s t q)

  pub full_still : (first : ℕ) (bytes : List ℕ) → Now MayWrite h → Adds first bytes (Err fault.Full) → Now MayWrite k
  full_still first bytes w goes = goes_by_now (making (length bytes)) (IsAdded first bytes (Err fault.Full)) MayWrite MayWrite h k goes w (λ s t p q. full_writes first bytes s t p q)

  pub so_added : (first : ℕ) (bytes : List ℕ) {r q : Result (Unit {0}) FolderFault} → r ≡ q → Adds first bytes r → Adds first bytes q
  so_added first bytes is goes = subst (λ (x : Result (Unit {0}) FolderFault). Adds first bytes x) is goes

  pub so_named : (bytes : List ℕ) {r q : Result (Unit {0}) FolderFault} {a b : ℕ} → r ≡ q → a ≡ b → Adds a bytes r → Adds b bytes q
  so_named bytes {r} {q} {a} {b} is same goes = subst (λ (x : ℕ). Adds x bytes q) same (so_added a bytes is goes)

-- What is known of the segments.
module _ (ns : List Named) (used whole floor : ℕ) (h k : History) (well : Now (IsWell ns used whole floor) h) where
  pub appended_well : (bytes : List ℕ) (r : Result (Unit {0}) FolderFault) → Now MayWrite h → Goes (IsAppended bytes r) h k → Now (IsWell (grown (length bytes) ns) (used + length bytes) whole floor) k
  appended_well bytes r w goes =
      goes_now (IsAppended bytes r) (λ s. IsWell ns used whole floor s × MayWrite s) (IsWell (grown (length bytes) ns) (used + length bytes) whole floor) h k goes (now_both (IsWell ns used whole floor) MayWrite h well w)
      (λ s t p q. well_appended bytes r ns used whole floor s t p.0 p.1 q)

  pub synced_well : (r : Result (Unit {0}) FolderFault) → Now MayWrite h → Goes (IsSynced r) h k → Now (IsWell ns used whole floor) k
  synced_well r w goes =
      goes_now (IsSynced r) (λ s. IsWell ns used whole floor s × MayWrite s) (IsWell ns used whole floor) h k goes (now_both (IsWell ns used whole floor) MayWrite h well w) (λ s t p q. well_synced r ns used whole floor s t p.0 p.1 q)

  pub full_well : (first : ℕ) (bytes : List ℕ) → length bytes ≤ whole → GoesBy (making (length bytes)) (IsAdded first bytes (Err fault.Full)) h k → Now (IsWell ns used whole floor) k
  full_well first bytes small goes = goes_by_now (making (length bytes)) (IsAdded first bytes (Err fault.Full)) (IsWell ns used whole floor) (IsWell ns used whole floor) h k goes well (λ s t p q. well_full first bytes ns used whole floor s t p small q)

  pub added_well : (first len : ℕ) (bytes : List ℕ) (x : Unit {0}) (now : ℕ) → length bytes ≤ len → now + freed first ns ≡ used + len → GoesBy (making (length bytes)) (IsAdded first bytes (Ok x)) h k
      → Now (IsWell (put (record { first = first; bytes = len }) ns) now whole floor) k
  added_well first len bytes x now small counts goes =
      goes_by_now (making (length bytes)) (IsAdded first bytes (Ok x)) (IsWell ns used whole floor) (IsWell (put (record { first = first; bytes = len }) ns) now whole floor) h k goes well
      (λ s t p q. well_added first len bytes x ns used now whole floor s t p small counts q)
