-- A spool between two calls.
use Rattle.std.specs.Prelude.{◌≡◌, true, ◌≢◌, ◌+◌, ◌≤◌, ◌<◌, ◌^◌, List, [], ◌∷◌, ◌++◌, length, Result, Err, OnOk, OnErr}
use Rattle.amqp_spool.specs.declared.journal.JournalFault.{JournalFault}
use Rattle.amqp_spool.specs.declared.journal.JournalFault.TheVariants as fault
use Rattle.amqp_spool.specs.declared.spool.Spool.{Spool}
use Rattle.amqp_spool.specs.Batches.{Batch, records}
use Rattle.amqp_spool.specs.Chapters.{Chapter, Chained, KeepsOn, oldest}
use Rattle.amqp_spool.specs.Folders.{State, History, Since}
use Rattle.amqp_spool.specs.Journals.{IsCounted, Stands}
use Rattle.amqp_spool.specs.Sayings.{Puts, Says, AllSay}
use Rattle.amqp_spool.specs.Waitings.{Waits}

-- It is not started: nothing waits, and no link is open.
pub record IsNew {F : Type 0} (s : Spool F) : Type 0 where
  pub failed : s.journal.failed ≡ true
  pub fits : (s.journal.limit < 2 ^ 64) × (s.journal.segment < 2 ^ 64)
  pub links : s.links ≡ []
  pub here : s.waiting.here ≡ []
  pub again : s.waiting.again ≡ []
  pub count : s.waiting.count ≡ 0
  pub short : s.waiting.most < 2 ^ 32
  pub small : s.waiting.most + 112 ≤ s.journal.segment

-- A batch fits into a segment.
pub record IsSound {F : Type 0} (history : F → History) (s : Spool F) : Type 0 where
  pub counted : IsCounted history s.journal
  pub short : s.waiting.most < 2 ^ 32
  pub small : s.waiting.most + 112 ≤ s.journal.segment

-- These records were told, and these wait: those that the floor has passed may be gone, the others are in the chapters.
pub record Has {F : Type 0} (history : F → History) (told waiting : Puts) (s : Spool F) : Type 0 where
  pub all : List Batch
  pub journal : Stands history all s.journal
  pub chapter : Chapter
  pub older : List Chapter
  pub chapter_is : journal.chapter ≡ chapter
  pub older_is : journal.older ≡ older
  pub gone : Puts
  pub before : Puts
  pub here : Puts
  pub are : told ≡ gone ++ before ++ here
  pub passed : length gone ≡ records journal.told.gone
  pub older_say : AllSay older before
  pub says : Says chapter here
  pub waits : Waits s.journal.head.first s.journal.next says.entries waiting s.links s.waiting

-- Chapters tell these records: those that the floor has passed may be gone, the others are in the chapters.
pub record Tells (told : Puts) (ch : Chapter) (chs : List Chapter) : Type 0 where
  pub chained : Chained (ch ∷ chs)
  pub gone : Puts
  pub before : Puts
  pub here : Puts
  pub are : told ≡ gone ++ before ++ here
  pub passed : 1 + length gone ≡ (oldest ch chs).head.first
  pub older_say : AllSay chs before
  pub says : Says ch here

-- Whatever a crash leaves can be read, and goes on from chapters that tell these records.
abbrev pub KeepsTold : Puts → State → Type 0
KeepsTold told t = (ch : Chapter) × (chs : List Chapter) × Tells told ch chs × KeepsOn ch chs t

-- It was started: these records were told, and maybe more that were not told. What was told is kept at each moment.
pub record IsStartedWith {F : Type 0} (history : F → History) (told : Puts) (result : Result (Unit {0}) JournalFault) (old new : Spool F) : Type 0 where
  pub done : OnOk result ((more : Puts) × Has history (told ++ more) [] new)
  pub kept : Since (KeepsTold told) (history old.journal.folder) (history new.journal.folder)

-- What waits was told, if that was done. Unless the folder failed all is as it was if it was not.
pub record IsDone {F : Type 0} (history : F → History) (told waiting : Puts) (result : Result (Unit {0}) JournalFault) (new : Spool F) : Type 0 where
  pub done : OnOk result (Has history (told ++ waiting) [] new)
  pub refused : OnErr result (result ≢ Err fault.Failed → Has history told waiting new)

-- Of these chapters the records are read that were told, each with who sent it, but for those before the oldest of them; and maybe batches that were not told.
pub record ReadsTold (told : Puts) (ch : Chapter) (chs : List Chapter) : Type 0 where
  pub gone : Puts
  pub said : Puts
  pub are : told ≡ gone ++ said
  pub batches : List Batch
  pub more : List Batch
  pub newest : ch.batches ≡ batches ++ more
  pub say : AllSay (record ch { batches = batches } ∷ chs) said
  pub before : 1 + length gone ≡ (oldest ch chs).head.first
