use Rattle.std.proofs.Common.{◌+◌, arith, refl, ap, ◌∙◌, Bool, Ok, Err}
use Rattle.amqp_spool.specs.Journals.{LeavesMost, HasFloor}
use Rattle.amqp_spool.proofs.Freeing.{front_same, front_less, one_less}
use Rattle.amqp_spool.proofs.Histories.{since_none}
use Rattle.amqp_spool.proofs.Refusals.{asked_then}
use Rattle.amqp_spool.proofs.Tending.{tended_still, bound_then, floor_then, limits_then, more_tended, bool_is}
use Rattle.amqp_spool.proofs.journal.Journal.remove_passed.Goals as goal

pub segments-preserved : goal.segments-preserved
segments-preserved g c =
    let h = g.F.Folder.history in
    let s = c.args.self.now in
    let m = c.segments.self in
    let n = c.remove_oldest.new.self in
    let i = c.segments.invariant in
    record {
      counted = c.in-Ok-true.ensures.counted;
      alive = c.in-Ok-true.ensures.alive;
      limits = limits_then s m n i.limits c.in-Ok-true.ensures.limits;
      bound = bound_then h s m n i.limits i.bound c.in-Ok-true.ensures.bound;
      tended = λ all it. more_tended h all s m n it (i.tended all it) (Ok tt) (λ at. let x = c.in-Ok-true.ensures.tended all at in record { stands = λ _. x.stands bool_is; kept = x.kept });
      floor = λ k now. floor_then k (h s.folder) (h m.folder) (h n.folder) now (i.floor k now) (c.in-Ok-true.ensures.floor k);
      same = c.in-Ok-true.ensures.same ∙ i.same;
      front = let x = c.in-Ok-true.ensures.removed (ap (λ (b : Bool). Ok b) c.in-Ok-true.field-0-test) in front_less m.floor s.segments.list.items m.segments.list.items n.segments.list.items i.front x;
      count = let x = c.in-Ok-true.ensures.removed (ap (λ (b : Bool). Ok b) c.in-Ok-true.field-0-test) in omega (arith, i.count, one_less m.floor m.segments.list.items n.segments.list.items x);
    }

pub returns-in-Err-clause-bound : goal.returns-in-Err-clause-bound
returns-in-Err-clause-bound g c =
    let h = g.F.Folder.history in
    let s = c.args.self.now in
    let m = c.segments.self in
    let n = c.remove_oldest.new.self in
    let i = c.segments.invariant in
    bound_then h s m n i.limits i.bound c.in-Err.ensures.bound

pub returns-in-Err-clause-tended : goal.returns-in-Err-clause-tended
returns-in-Err-clause-tended g c = λ all it.
    let h = g.F.Folder.history in
    let s = c.args.self.now in
    let m = c.segments.self in
    let n = c.remove_oldest.new.self in
    let i = c.segments.invariant in
    more_tended h all s m n it (i.tended all it) (Err c.in-Err.fault) (λ at. let x = c.in-Err.ensures.tended all at in record { stands = λ not. absurd (not (ap (λ f. Err f) c.in-Err.ensures.fault)); kept = x.kept })

pub returns-in-Err-clause-floor : goal.returns-in-Err-clause-floor
returns-in-Err-clause-floor g c = λ k now.
    let h = g.F.Folder.history in
    let s = c.args.self.now in
    let m = c.segments.self in
    let n = c.remove_oldest.new.self in
    let i = c.segments.invariant in
    floor_then k (h s.folder) (h m.folder) (h n.folder) now (i.floor k now) (c.in-Err.ensures.floor k)

pub returns-in-Ok-false-clause-bound : goal.returns-in-Ok-false-clause-bound
returns-in-Ok-false-clause-bound g c =
    let h = g.F.Folder.history in
    let s = c.args.self.now in
    let m = c.segments.self in
    let n = c.remove_oldest.new.self in
    let i = c.segments.invariant in
    bound_then h s m n i.limits i.bound c.in-Ok-false.ensures.bound

pub returns-in-Ok-false-clause-tended : goal.returns-in-Ok-false-clause-tended
returns-in-Ok-false-clause-tended g c = λ all it.
    let h = g.F.Folder.history in
    let s = c.args.self.now in
    let m = c.segments.self in
    let n = c.remove_oldest.new.self in
    let i = c.segments.invariant in
    more_tended h all s m n it (i.tended all it) (Ok tt) (λ at. let x = c.in-Ok-false.ensures.tended all at in record { stands = λ _. x.stands bool_is; kept = x.kept })

pub returns-in-Ok-false-clause-floor : goal.returns-in-Ok-false-clause-floor
returns-in-Ok-false-clause-floor g c = λ k now.
    let h = g.F.Folder.history in
    let s = c.args.self.now in
    let m = c.segments.self in
    let n = c.remove_oldest.new.self in
    let i = c.segments.invariant in
    floor_then k (h s.folder) (h m.folder) (h n.folder) now (i.floor k now) (c.in-Ok-false.ensures.floor k)

pub segments-init : goal.segments-init
segments-init g c =
    let s = c.args.self.now in
    let h = g.F.Folder.history in
    record {
      counted = c.requires.counted;
      alive = c.requires.alive;
      limits = record { limit = refl; segment = refl; life = refl };
      bound = since_none (LeavesMost (s.limit + s.segment)) (h s.folder);
      tended = λ all it. tended_still h all (Ok (tt {0})) s it;
      floor = λ n now. since_none (HasFloor n) (h s.folder);
      same = refl;
      front = front_same s.segments.list.items;
      count = omega (arith, c.len-left.ensures);
    }

pub returns-in-Err-clause-why : goal.returns-in-Err-clause-why
returns-in-Err-clause-why g c =
    let h = g.F.Folder.history in
    let s = c.args.self.now in
    let m = c.segments.self in
    let n = c.remove_oldest.new.self in
    asked_then (LeavesMost (s.limit + s.segment)) (LeavesMost (m.limit + m.segment)) (h s.folder) (h m.folder) (h n.folder) ⊥ c.segments.invariant.bound c.in-Err.ensures.bound c.in-Err.ensures.why
