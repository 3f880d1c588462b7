-- All that is promised of the call is so of what was removed so far.
use Rattle.std.proofs.Common.{◌≡◌, ◌+◌, ℕ, List, length, false, Ok}
use Rattle.amqp_spool.specs.Batches.{Batch}
use Rattle.amqp_spool.specs.Counting.{AreFrontOf}
use Rattle.amqp_spool.specs.Folders.{Now, Since}
use Rattle.amqp_spool.specs.Journals.{IsCounted, HaveLimits, LeavesMost, HasFloor, Stands, IsTended}
use Rattle.amqp_spool.proofs.journal.Journal.remove_passed.Given as goal

abbrev pub invariant-segments : goal.invariant-segments
invariant-segments g l = record {
  counted : IsCounted g.F.Folder.history l.self;
  alive : l.self.failed ≡ false;
  limits : HaveLimits l.fn.self l.self;
  bound : Since (LeavesMost (l.fn.self.limit + l.fn.self.segment)) (g.F.Folder.history l.fn.self.folder) (g.F.Folder.history l.self.folder);
  tended : (all : List Batch) (it : Stands g.F.Folder.history all l.fn.self) → IsTended g.F.Folder.history all (Ok (tt {0})) l.fn.self l.self it;
  floor : (n : ℕ) → Now (HasFloor n) (g.F.Folder.history l.fn.self.folder) → Since (HasFloor n) (g.F.Folder.history l.fn.self.folder) (g.F.Folder.history l.self.folder);
  same : l.self.floor ≡ l.fn.self.floor;
  front : AreFrontOf l.self.segments.list.items l.fn.self.segments.list.items;
  count : l.left ≡ length l.self.segments.list.items;
}

abbrev pub decreases-segments : goal.decreases-segments
decreases-segments g l = l.left
