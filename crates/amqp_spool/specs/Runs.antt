-- Calls of a spool, one after the other.
use Rattle.std.specs.Prelude.{◌≡◌, false, ◌++◌}
use Rattle.amqp_spool.specs.declared.spool.Spool.{Spool}
use Rattle.amqp_spool.specs.Folders.{State, History, Since}
use Rattle.amqp_spool.specs.Sayings.{Puts}
use Rattle.amqp_spool.specs.Spools.{Has, KeepsTold}

-- A folder keeps what was told before, and what was told since.
abbrev pub KeepsFrom : Puts → State → Type 0
KeepsFrom told t = (more : Puts) × KeepsTold (told ++ more) t

-- At each moment of some calls the folder kept what was told by then. Unless it has failed, all that was told since is kept, and something waits.
pub record HasRun {F : Type 0} (history : F → History) (told : Puts) (old new : Spool F) : Type 0 where
  pub kept : Since (KeepsFrom told) (history old.journal.folder) (history new.journal.folder)
  pub has : new.journal.failed ≡ false → (more : Puts) × (waiting : Puts) × Has history (told ++ more) waiting new
