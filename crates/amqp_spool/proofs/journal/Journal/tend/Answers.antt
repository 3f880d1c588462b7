use Rattle.std.proofs.Common.{◌≡◌, ◌+◌, true}
use Rattle.amqp_spool.specs.Journals.{LeavesMost}
use Rattle.amqp_spool.proofs.Freeing.{tended_frees, tended_left, tended_all, tended_one, alive_ok}
use Rattle.amqp_spool.proofs.Refusals.{asked_each, fails_or}
use Rattle.amqp_spool.proofs.Tending.{bound_then, floor_then, more_tended}
use Rattle.amqp_spool.proofs.journal.Journal.tend.Goals as goal

pub returns-in-Ok-clause-bound : goal.returns-in-Ok-clause-bound
returns-in-Ok-clause-bound g c =
    let h = g.F.Folder.history in
    let s = c.args.self.now in
    let m = c.raise.new.self in
    let n = c.remove_passed.new.self in
    let first = c.in-Ok.ensures in
    let then = c.remove_passed.ensures in
    bound_then h s m n first.limits first.bound then.bound

pub returns-in-Ok-clause-tended : goal.returns-in-Ok-clause-tended
returns-in-Ok-clause-tended g c = λ all it.
    let h = g.F.Folder.history in
    let s = c.args.self.now in
    let m = c.raise.new.self in
    let n = c.remove_passed.new.self in
    let first = c.in-Ok.ensures in
    let then = c.remove_passed.ensures in
    more_tended h all s m n it (first.tended all it) c.remove_passed.result (then.tended all)

pub returns-in-Ok-clause-floor : goal.returns-in-Ok-clause-floor
returns-in-Ok-clause-floor g c = λ k le now.
    let h = g.F.Folder.history in
    let s = c.args.self.now in
    let m = c.raise.new.self in
    let n = c.remove_passed.new.self in
    let first = c.in-Ok.ensures in
    let then = c.remove_passed.ensures in
    floor_then k (h s.folder) (h m.folder) (h n.folder) now (first.floor k le now) (then.floor k)

pub returns-in-Ok-clause-freed : goal.returns-in-Ok-clause-freed
returns-in-Ok-clause-freed g c = tended_frees c.args.passed c.raise.new.self c.remove_passed.new.self c.remove_passed.result c.in-Ok.ensures.raised c.remove_passed.ensures.same c.remove_passed.ensures.left c.remove_passed.ensures.freed

pub returns-in-Ok-clause-left : goal.returns-in-Ok-clause-left
returns-in-Ok-clause-left g c = tended_left c.args.self.now c.raise.new.self c.remove_passed.new.self c.remove_passed.result c.in-Ok.ensures.segments c.remove_passed.ensures.left

pub returns-in-Ok-clause-all : goal.returns-in-Ok-clause-all
returns-in-Ok-clause-all g c = tended_all c.args.passed c.args.self.now c.remove_passed.new.self c.remove_passed.result
    (tended_left c.args.self.now c.raise.new.self c.remove_passed.new.self c.remove_passed.result c.in-Ok.ensures.segments c.remove_passed.ensures.left)
    (tended_frees c.args.passed c.raise.new.self c.remove_passed.new.self c.remove_passed.result c.in-Ok.ensures.raised c.remove_passed.ensures.same c.remove_passed.ensures.left c.remove_passed.ensures.freed)

pub returns-in-Ok-clause-faults : goal.returns-in-Ok-clause-faults
returns-in-Ok-clause-faults g c = fails_or c.remove_passed.result c.remove_passed.ensures.fault

pub returns-in-Ok-clause-why : goal.returns-in-Ok-clause-why
returns-in-Ok-clause-why g c =
    let h = g.F.Folder.history in
    let s = c.args.self.now in
    let m = c.raise.new.self in
    let n = c.remove_passed.new.self in
    asked_each (LeavesMost (s.limit + s.segment)) (LeavesMost (m.limit + m.segment)) (h s.folder) (h m.folder) (h n.folder) (s.failed ≡ true) c.remove_passed.result c.in-Ok.ensures.bound c.remove_passed.ensures.bound c.remove_passed.ensures.why

pub returns-in-Ok-clause-goes_on : goal.returns-in-Ok-clause-goes_on
returns-in-Ok-clause-goes_on g c = tended_one g.F.Folder.history c.args.passed c.args.self.now c.remove_passed.new.self c.remove_passed.result
    (tended_left c.args.self.now c.raise.new.self c.remove_passed.new.self c.remove_passed.result c.in-Ok.ensures.segments c.remove_passed.ensures.left)
    (tended_frees c.args.passed c.raise.new.self c.remove_passed.new.self c.remove_passed.result c.in-Ok.ensures.raised c.remove_passed.ensures.same c.remove_passed.ensures.left c.remove_passed.ensures.freed)
    c.remove_passed.ensures.counted (alive_ok c.remove_passed.result c.remove_passed.new.self.failed c.remove_passed.ensures.alive)
