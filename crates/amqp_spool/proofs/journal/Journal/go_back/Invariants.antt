use Rattle.std.proofs.Common.{◌≡◌, ◌⊎◌, ◌∷◌, ◌-◌, ◌≤◌, ◌<◌, List, length, Some}
use Rattle.amqp_spool.specs.Folders.{State, Now}
use Rattle.amqp_spool.specs.Heads.{IsHead}
use Rattle.amqp_spool.specs.Reads.{HasNames, IsThere, IsBack}
use Rattle.amqp_spool.proofs.BackThere.{GoesBackTo}
use Rattle.amqp_spool.proofs.journal.Journal.go_back.Given as goal

abbrev pub invariant-segments : goal.invariant-segments
invariant-segments g l = record {
  within : l.index ≤ length l.fn.names;
  is : IsHead l.head;
  floor : Now (λ t. t.floor ≡ l.floor) (g.F.Folder.history l.fn.self.folder);
  placed : (l.index ≡ 0) ⊎ (l.index < length l.fn.names);
  chain : (t : State) (past : List State) → g.F.Folder.history l.fn.self.folder ≡ Some (t ∷ past) → HasNames l.fn.names t → GoesBackTo l.fn.newest l.head l.index t;
  back : (t : State) (past : List State) → g.F.Folder.history l.fn.self.folder ≡ Some (t ∷ past) → HasNames l.fn.names t → IsThere l.fn.newest t → IsBack l.head l.index t;
}

abbrev pub decreases-segments : goal.decreases-segments
decreases-segments g l = length l.fn.names - l.index
