-- A spool as a keeper, between two calls.
use Rattle.std.specs.Prelude.{◌≡◌, ◌≢◌, ◌↔◌, ◌⊎◌, ℕ, ◌+◌, ◌==◌, ◌&&◌, nat_le, not, Bool, true, List, [], ◌∷◌, ◌++◌, Option, Some, None}
use Rattle.amqp_endpoint.specs.Steps.{EndpointState}
use Rattle.amqp_hub.specs.declared.keeper.Origin.{Origin}
use Rattle.amqp_hub.specs.declared.keeper.Progress.{Progress}
use Rattle.amqp_hub.specs.declared.keeper.Progress.TheVariants as progress
use Rattle.amqp_spool.specs.declared.journal.Journal.{Journal}
use Rattle.amqp_spool.specs.declared.spool.Spool.{Spool}
use Rattle.amqp_spool.specs.Entries.{Introduced, Recorded}
use Rattle.amqp_spool.specs.Consumers.{PassAtMost}
use Rattle.amqp_spool.specs.Folders.{History, Now, Since}
use Rattle.amqp_spool.specs.Journals.{HaveLimits, LeavesMost, HasFloor}
use Rattle.amqp_spool.specs.Sayings.{Puts}
use Rattle.amqp_spool.specs.Spools.{Has, KeepsTold}
use Rattle.amqp_spool.specs.Waitings.{LinkState, LinksState, WaitingState, link_at, batch_len, numbered}
use Rattle.amqp_spool_keeper.specs.Senders.{sender_of}

-- what is on the disk, what waits, who sends on the link of each number, and how many bytes the longest record takes with its introduction
pub record KeeperState (F : Type 0) : Type 0 where
  pub journal : Journal F
  pub waiting : WaitingState
  pub links : LinksState
  pub room : ℕ

-- links without the numbers after the last that is given
abbrev pub with_link : Option LinkState → LinksState → LinksState
with_link None [] = []
with_link x links = x ∷ links

abbrev pub given : LinksState → LinksState
given [] = []
given (x ∷ links) = with_link x (given links)

abbrev pub state_of : {F : Type 0} → Spool F → ℕ → KeeperState F
state_of s room = record { journal = s.journal; waiting = s.waiting; links = given s.links; room = room }

-- Both have the same on the disk, waiting, and under each number.
pub record AreAlike {F : Type 0} (s t : Spool F) : Type 0 where
  pub journal : t.journal ≡ s.journal
  pub waiting : t.waiting ≡ s.waiting
  pub links : (number : ℕ) → link_at t.links number ≡ link_at s.links number

-- nothing waits, and the folder has not failed
abbrev pub is_settled : {F : Type 0} → KeeperState F → Bool
is_settled k = (k.waiting.count == 0) && not k.journal.failed

-- The longest record fits into the batch that waits, and that batch onto the disk, in a segment of its own.
abbrev pub is_roomy : {F : Type 0} → KeeperState F → Bool
is_roomy k =
    not k.journal.failed && (nat_le (batch_len k.waiting + k.room) k.waiting.most && nat_le (k.journal.used + (batch_len k.waiting + k.room + 112)) k.journal.limit)

-- These records were told, and these wait, each with who sent it.
pub record Holds {F : Type 0} (history : F → History) (told waiting : Puts) (k : KeeperState F) : Type 0 where
  pub spool : Spool F
  pub is : state_of spool k.room ≡ k
  pub has : Has history told waiting spool

-- a record, and who sent it on the link of this number
abbrev pub sent_by : ℕ → Introduced → List ℕ → List ℕ → Option Introduced × Recorded
sent_by number sender tag bytes = (Some (numbered number sender), record { link = number; tag = tag; «record» = bytes })

-- A record of this origin waits after those that wait, as one of who sent it by this endpoint and of the address that its connection comes from. Nothing was asked of the disk.
pub record Accepts {F : Type 0} (history : F → History) (old : KeeperState F) (origin : Origin) (e : EndpointState) (bytes : List ℕ) (new : KeeperState F) : Type 0 where
  pub from : List ℕ
  pub number : ℕ
  pub waits : (told waiting : Puts) → Holds history told waiting old → Holds history told (waiting ++ sent_by number (sender_of origin from e) origin.delivery_tag bytes ∷ []) new
  pub journal : new.journal ≡ old.journal
  pub room : new.room ≡ old.room

-- What a crash leaves at any moment of a call has what was told, and no more bytes than there may be.
pub record IsSafe {F : Type 0} (history : F → History) (old new : KeeperState F) : Type 0 where
  pub kept : (told waiting : Puts) → Holds history told waiting old → Since (KeepsTold told) (history old.journal.folder) (history new.journal.folder)
  pub bound : Since (LeavesMost (old.journal.limit + old.journal.segment)) (history old.journal.folder) (history new.journal.folder)
  pub limits : HaveLimits old.journal new.journal
  pub room : new.room ≡ old.room

-- What waited was told.
abbrev pub IsTold : {F : Type 0} → (F → History) → KeeperState F → KeeperState F → Type 0
IsTold history old new = (told waiting : Puts) → Holds history told waiting old → Holds history (told ++ waiting) [] new

-- What waited waits.
abbrev pub WaitsOn : {F : Type 0} → (F → History) → KeeperState F → KeeperState F → Type 0
WaitsOn history old new = (told waiting : Puts) → Holds history told waiting old → Holds history told waiting new

-- If the consumers' positions are known, nothing may be missing at any moment of a call but what was before, and what all of them had passed.
abbrev pub OnlyPassedGo : {F : Type 0} → (F → History) → (F → Option (List ℕ)) → KeeperState F → KeeperState F → Type 0
OnlyPassedGo history positions old new =
    (n : ℕ) (ps : List ℕ) → positions old.journal.folder ≡ Some ps → PassAtMost n ps → Now (HasFloor n) (history old.journal.folder) → Since (HasFloor n) (history old.journal.folder) (history new.journal.folder)

-- It was asked to take all for good. At the end all that waited was told, and nothing waits. Else it waits on, unless the folder has failed. Segments may have gone that all consumers had passed.
pub record Settles {F : Type 0} (history : F → History) (positions : F → Option (List ℕ)) (old : KeeperState F) (p : Progress) (new : KeeperState F) : Type 0 where
  pub safe : IsSafe history old new
  pub floor : OnlyPassedGo history positions old new
  pub told : p ≡ progress.Out → IsTold history old new
  pub waits : p ≡ progress.Stuck → WaitsOn history old new
  pub out : p ≡ progress.Out → is_settled new ≡ true
  pub failed : (p ≡ progress.Failed) ↔ (new.journal.failed ≡ true)

-- It was asked to make room for a record. What waited waits on or was told, unless the folder has failed.
pub record MakesRoom {F : Type 0} (history : F → History) (old : KeeperState F) (p : Progress) (new : KeeperState F) : Type 0 where
  pub safe : IsSafe history old new
  pub goes_on : p ≢ progress.Failed → WaitsOn history old new ⊎ IsTold history old new
  pub out : p ≡ progress.Out → is_roomy new ≡ true
  pub failed : (p ≡ progress.Failed) ↔ (new.journal.failed ≡ true)
