use Rattle.amqp_spool.specs.Folders.{IsRaised}
use Rattle.amqp_spool.proofs.Histories.{goes_asks}
use Rattle.std.proofs.Common.{◌+◌, arith, refl}
use Rattle.amqp_spool.proofs.Tending.{left_same, tended_still, bound_raised, still_holds, still_at, still_keeps, floor_since}
use Rattle.amqp_spool.proofs.journal.Journal.raise.Goals as goal

pub returns-in-Ok-clause-bound : goal.returns-in-Ok-clause-bound
returns-in-Ok-clause-bound g c =
    let s = c.args.self.now in
    let h = g.F.Folder.history s.folder in
    let k = g.F.Folder.history c.raise_floor.new.self in
    let n = c.saturating_sub-floor.result in
    let r = c.raise_floor.result in
    bound_raised n r h k c.raise_floor.ensures s.used s.segment (s.limit + s.segment) c.requires.counted.most (omega (arith, c.requires.counted.within))

pub returns-in-Ok-clause-tended : goal.returns-in-Ok-clause-tended
returns-in-Ok-clause-tended g c = λ all it.
    let s = c.args.self.now in
    let h = g.F.Folder.history s.folder in
    let k = g.F.Folder.history c.raise_floor.new.self in
    let n = c.saturating_sub-floor.result in
    let r = c.raise_floor.result in
    record {
      stands = λ _. left_same g.F.Folder.history all s _ it (record {
        chained = it.at.chained;
        head = it.at.head;
        place = it.at.place;
        next = it.at.next;
        holds = still_holds n r h k c.raise_floor.ensures it.chapter it.older it.at.holds;
        well = λ w. still_at n r h k c.raise_floor.ensures it.chapter it.older (it.at.well w);
        alive = it.at.alive;
      });
      kept = still_keeps n r h k c.raise_floor.ensures it.chapter it.older it.at.holds;
    }

pub returns-in-Ok-clause-floor : goal.returns-in-Ok-clause-floor
returns-in-Ok-clause-floor g c = λ m le now.
    let s = c.args.self.now in
    let h = g.F.Folder.history s.folder in
    let k = g.F.Folder.history c.raise_floor.new.self in
    let n = c.saturating_sub-floor.result in
    let r = c.raise_floor.result in
    floor_since n r h k c.raise_floor.ensures m (omega (arith, le, c.saturating_sub-floor.ensures, c.in-Some.ensures.0)) now

pub returns-in-Err-Full-clause-bound : goal.returns-in-Err-Full-clause-bound
returns-in-Err-Full-clause-bound g c =
    let s = c.args.self.now in
    let h = g.F.Folder.history s.folder in
    let k = g.F.Folder.history c.raise_floor.new.self in
    let n = c.saturating_sub-floor.result in
    let r = c.raise_floor.result in
    bound_raised n r h k c.raise_floor.ensures s.used s.segment (s.limit + s.segment) c.requires.counted.most (omega (arith, c.requires.counted.within))

pub returns-in-Err-Full-clause-tended : goal.returns-in-Err-Full-clause-tended
returns-in-Err-Full-clause-tended g c = λ all it.
    let s = c.args.self.now in
    let h = g.F.Folder.history s.folder in
    let k = g.F.Folder.history c.raise_floor.new.self in
    let n = c.saturating_sub-floor.result in
    let r = c.raise_floor.result in
    record {
      stands = λ _. left_same g.F.Folder.history all s _ it (record {
        chained = it.at.chained;
        head = it.at.head;
        place = it.at.place;
        next = it.at.next;
        holds = still_holds n r h k c.raise_floor.ensures it.chapter it.older it.at.holds;
        well = λ w. still_at n r h k c.raise_floor.ensures it.chapter it.older (it.at.well w);
        alive = it.at.alive;
      });
      kept = still_keeps n r h k c.raise_floor.ensures it.chapter it.older it.at.holds;
    }

pub returns-in-Err-Full-clause-floor : goal.returns-in-Err-Full-clause-floor
returns-in-Err-Full-clause-floor g c = λ m le now.
    let s = c.args.self.now in
    let h = g.F.Folder.history s.folder in
    let k = g.F.Folder.history c.raise_floor.new.self in
    let n = c.saturating_sub-floor.result in
    let r = c.raise_floor.result in
    floor_since n r h k c.raise_floor.ensures m (omega (arith, le, c.saturating_sub-floor.ensures, c.in-Some.ensures.0)) now

pub returns-in-Err-Failed-clause-bound : goal.returns-in-Err-Failed-clause-bound
returns-in-Err-Failed-clause-bound g c =
    let s = c.args.self.now in
    let h = g.F.Folder.history s.folder in
    let k = g.F.Folder.history c.raise_floor.new.self in
    let n = c.saturating_sub-floor.result in
    let r = c.raise_floor.result in
    bound_raised n r h k c.raise_floor.ensures s.used s.segment (s.limit + s.segment) c.requires.counted.most (omega (arith, c.requires.counted.within))

pub returns-in-Err-Failed-clause-tended : goal.returns-in-Err-Failed-clause-tended
returns-in-Err-Failed-clause-tended g c = λ all it.
    let s = c.args.self.now in
    let h = g.F.Folder.history s.folder in
    let k = g.F.Folder.history c.raise_floor.new.self in
    let n = c.saturating_sub-floor.result in
    let r = c.raise_floor.result in
    record {
      stands = λ not. absurd (not refl);
      kept = still_keeps n r h k c.raise_floor.ensures it.chapter it.older it.at.holds;
    }

pub returns-in-Err-Failed-clause-floor : goal.returns-in-Err-Failed-clause-floor
returns-in-Err-Failed-clause-floor g c = λ m le now.
    let s = c.args.self.now in
    let h = g.F.Folder.history s.folder in
    let k = g.F.Folder.history c.raise_floor.new.self in
    let n = c.saturating_sub-floor.result in
    let r = c.raise_floor.result in
    floor_since n r h k c.raise_floor.ensures m (omega (arith, le, c.saturating_sub-floor.ensures, c.in-Some.ensures.0)) now

pub returns-in_default-clause-tended : goal.returns-in_default-clause-tended
returns-in_default-clause-tended g c = λ all it. tended_still g.F.Folder.history all _ c.args.self.now it

pub returns-then-floor-self-clause-tended : goal.returns-then-floor-self-clause-tended
returns-then-floor-self-clause-tended g c = λ all it. tended_still g.F.Folder.history all _ c.args.self.now it

pub returns-in-Err-Full-clause-why : goal.returns-in-Err-Full-clause-why
returns-in-Err-Full-clause-why g c =
    let h = g.F.Folder.history in
    goes_asks (IsRaised c.saturating_sub-floor.result c.raise_floor.result) (h c.args.self.now.folder) (h c.raise_floor.new.self) c.raise_floor.ensures

pub returns-in-Err-Failed-clause-why : goal.returns-in-Err-Failed-clause-why
returns-in-Err-Failed-clause-why g c =
    let h = g.F.Folder.history in
    goes_asks (IsRaised c.saturating_sub-floor.result c.raise_floor.result) (h c.args.self.now.folder) (h c.raise_floor.new.self) c.raise_floor.ensures
