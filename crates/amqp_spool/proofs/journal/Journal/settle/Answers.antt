use Rattle.std.proofs.Common.{ℕ, ◌+◌, length, arith, subst, inl, inr, Ok}
use Rattle.amqp_spool.specs.Folders.{Since}
use Rattle.amqp_spool.specs.Journals.{GoesHere, GoesAnew, GoesEither, IsSettled, AreSame, LeavesMost}
use Rattle.amqp_spool.proofs.Histories.{since_since}
use Rattle.amqp_spool.proofs.Refusals.{refused_each}
use Rattle.amqp_spool.proofs.Settling.{settles_either, settles_after, same_chapters}
use Rattle.amqp_spool.proofs.Floored.{floor_both}
use Rattle.amqp_spool.proofs.journal.Journal.settle.Goals as goal

pub settle_anew-requires-clause-within : goal.settle_anew-requires-clause-within
settle_anew-requires-clause-within g c =
    let same : AreSame c.args.self.now c.settle_here.new.self = c.in-Err.ensures.same in
    omega (arith, same.next, c.requires.within)

pub returns-in-Err-clause-bound : goal.returns-in-Err-clause-bound
returns-in-Err-clause-bound g c =
    let s = c.args.self.now in
    let m = c.settle_here.new.self in
    let n = c.settle_anew.new.self in
    let most = LeavesMost (s.limit + s.segment) in
    let same : AreSame s m = c.in-Err.ensures.same in
    let anew : Since (LeavesMost (m.limit + m.segment)) (g.F.Folder.history m.folder) (g.F.Folder.history n.folder) = c.settle_anew.ensures.bound in
    let later = subst (λ (k : ℕ). Since (LeavesMost k) (g.F.Folder.history m.folder) (g.F.Folder.history n.folder)) (omega (arith, same.limits.limit, same.limits.segment)) anew in
    since_since most (g.F.Folder.history s.folder) (g.F.Folder.history m.folder) (g.F.Folder.history n.folder) c.settle_here.ensures.bound later

pub returns-in-Err-clause-settled : goal.returns-in-Err-clause-settled
returns-in-Err-clause-settled g c = λ all it.
    let s = c.args.self.now in
    let m = c.settle_here.new.self in
    let n = c.settle_anew.new.self in
    let h = g.F.Folder.history in
    let here : IsSettled h it.chapter it.older (GoesHere c.args.arrived it.chapter it.older c.args.count c.args.here.now) all c.settle_here.result s m = c.settle_here.ensures.settled all it in
    let mid = c.in-Err.ensures.stays all it in
    settles_after h all (GoesEither c.args.arrived it.chapter it.older c.args.count c.args.here.now c.args.anew.now) c.settle_anew.result s m n here.kept
    (settles_either h all (GoesAnew c.args.arrived it.chapter it.older c.args.count c.args.anew.now) (GoesEither c.args.arrived it.chapter it.older c.args.count c.args.here.now c.args.anew.now) c.settle_anew.result m n (λ b dh ds is. inr is) (same_chapters h all c.args.arrived c.args.count c.args.anew.now c.settle_anew.result m n mid.1 mid.2 (c.settle_anew.ensures.settled all mid.0)))

pub returns-in-Ok-clause-settled : goal.returns-in-Ok-clause-settled
returns-in-Ok-clause-settled g c = λ all it.
    let s = c.args.self.now in
    let m = c.settle_here.new.self in
    let h = g.F.Folder.history in
    settles_either h all (GoesHere c.args.arrived it.chapter it.older c.args.count c.args.here.now) (GoesEither c.args.arrived it.chapter it.older c.args.count c.args.here.now c.args.anew.now) (Ok tt) s m (λ b dh ds is. inl is)
    (subst (λ r. IsSettled h it.chapter it.older (GoesHere c.args.arrived it.chapter it.older c.args.count c.args.here.now) all r s m) c.in-Ok.is (c.settle_here.ensures.settled all it))

pub returns-in-Err-clause-floor : goal.returns-in-Err-clause-floor
returns-in-Err-clause-floor g c = λ n has.
    let h = g.F.Folder.history in
    floor_both n (h c.args.self.now.folder) (h c.settle_here.new.self.folder) (h c.settle_anew.new.self.folder) has (c.settle_here.ensures.floor n has) (λ now. c.settle_anew.ensures.floor n now)

pub returns-in-Err-clause-why : goal.returns-in-Err-clause-why
returns-in-Err-clause-why g c =
    let s = c.args.self.now in
    let m = c.settle_here.new.self in
    let n = c.settle_anew.new.self in
    refused_each (LeavesMost (s.limit + s.segment)) (LeavesMost (m.limit + m.segment)) g.F.Folder.history s m n (112 + length c.args.anew.now) c.settle_anew.result c.settle_here.ensures.bound c.settle_anew.ensures.bound c.in-Err.ensures.unasked c.settle_anew.ensures.why
