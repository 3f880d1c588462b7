use Rattle.std.proofs.Common.{◌≡◌, refl, ◌+◌, ◌-◌, arith, List, length, sym, ap, ◌∙◌, subst, Err}
use Rattle.std.proofs.lemmas.Bool.{false≢true}
use Rattle.amqp_spool.specs.declared.segments.Named.{Named}
use Rattle.amqp_spool.specs.Counting.{total, freed}
use Rattle.amqp_spool.specs.Folders.{Now, IsAdded, making}
use Rattle.amqp_spool.specs.Journals.{LeavesMost, HasMost, IsWell}
use Rattle.amqp_spool.proofs.Counted.{put_is, freed_most, well_most, total_but, exactly_put}
use Rattle.amqp_spool.proofs.Histories.{since_none, now_and, goes_by_asks}
use Rattle.amqp_spool.proofs.Appends.{added, added_since, added_new, added_well, full_well, full, full_still, so_added, so_named}
use Rattle.amqp_spool.proofs.Kept.{segment_begun, segment_full, segment_lost, segment_none}
use Rattle.amqp_spool.specs.Journals.{HasFloor}
use Rattle.amqp_spool.proofs.Floored.{floor_added}
use Rattle.amqp_spool.proofs.journal.Journal.add.Goals as goal

pub returns-then-self-len-clause-bound : goal.returns-then-self-len-clause-bound
returns-then-self-len-clause-bound g c = since_none (LeavesMost (c.args.self.now.limit + c.args.self.now.segment)) (g.F.Folder.history c.args.self.now.folder)

pub returns-in-Ok-clause-counted : goal.returns-in-Ok-clause-counted
returns-in-Ok-clause-counted g c =
    let s = c.args.self.now in
    let h = g.F.Folder.history s.folder in
    let k = g.F.Folder.history c.add.new.self in
    let q = c.requires.counted in
    let ns = s.segments.list.items in
    let len = length c.args.segment.now in
    let now = s.used + len - c.put.result in
    let counts : now + freed c.args.first ns ≡ s.used + len = omega (arith, c.put.ensures.freed, q.sum, put_is (record { first = c.args.first; bytes = len }) ns, freed_most c.args.first ns) in
    let came = so_added h k c.args.first c.args.segment.now c.in-Ok.is c.add.ensures in
    let put_well = added_well ns s.used s.segment s.floor h k (q.well c.requires.alive) c.args.first len c.args.segment.now c.in-Ok.field-0 now (omega arith) counts came in
    let well : Now (IsWell c.put.new.self.list.items now s.segment s.floor) k = subst (λ (l : List Named). Now (IsWell l now s.segment s.floor) k) (sym c.put.ensures.list) put_well in
    record {
      within = omega (arith, q.within, c.if-self-len.false, counts);
      fits = q.fits;
      place = q.place;
      sum = omega (arith, ap total c.put.ensures.list, put_is (record { first = c.args.first; bytes = len }) ns, counts, q.sum);
      exact = λ _. exactly_put (record { first = c.args.first; bytes = len }) now ns c.put.new.self.list.items c.put.ensures.list (omega (arith, counts, (q.exact c.requires.alive).is, total_but c.args.first ns));
      most = now_and (IsWell c.put.new.self.list.items now s.segment s.floor) (HasMost now s.segment) k well (λ t w. well_most c.put.new.self.list.items now s.segment s.floor t w);
      well = λ _. well;
      writes = λ _ _. added_new h k c.args.first c.args.segment.now c.in-Ok.field-0 s.used s.segment q.most came;
    }

pub returns-in-Ok-clause-bound : goal.returns-in-Ok-clause-bound
returns-in-Ok-clause-bound g c =
    let s = c.args.self.now in
    let q = c.requires.counted in
    added_since s.used s.segment s.limit (g.F.Folder.history s.folder) (g.F.Folder.history c.add.new.self) c.args.first c.args.segment.now q.most c.requires.small c.add.result (omega (arith, q.within, c.if-self-len.false)) c.add.ensures

pub returns-in-Err-Full-clause-bound : goal.returns-in-Err-Full-clause-bound
returns-in-Err-Full-clause-bound g c =
    let s = c.args.self.now in
    let q = c.requires.counted in
    added_since s.used s.segment s.limit (g.F.Folder.history s.folder) (g.F.Folder.history c.add.new.self) c.args.first c.args.segment.now q.most c.requires.small c.add.result (omega (arith, q.within, c.if-self-len.false)) c.add.ensures

pub returns-in-Err-Failed-clause-bound : goal.returns-in-Err-Failed-clause-bound
returns-in-Err-Failed-clause-bound g c =
    let s = c.args.self.now in
    let q = c.requires.counted in
    added_since s.used s.segment s.limit (g.F.Folder.history s.folder) (g.F.Folder.history c.add.new.self) c.args.first c.args.segment.now q.most c.requires.small c.add.result (omega (arith, q.within, c.if-self-len.false)) c.add.ensures

pub returns-in-Err-Full-clause-counted : goal.returns-in-Err-Full-clause-counted
returns-in-Err-Full-clause-counted g c =
    let s = c.args.self.now in
    let h = g.F.Folder.history s.folder in
    let k = g.F.Folder.history c.add.new.self in
    let q = c.requires.counted in
    let came = so_added h k c.args.first c.args.segment.now (c.in-Err-Full.is ∙ ap (λ f. Err f) c.in-Err-Full.field-0-is) c.add.ensures in
    record {
      within = omega (arith, q.within);
      fits = q.fits;
      place = q.place;
      sum = q.sum;
      exact = q.exact;
      most = full s.used s.segment s.limit h k c.args.first c.args.segment.now q.most c.requires.small came;
      well = λ alive. full_well s.segments.list.items s.used s.segment s.floor h k (q.well alive) c.args.first c.args.segment.now c.requires.small came;
      writes = λ alive is. full_still h k c.args.first c.args.segment.now (q.writes alive is) came;
    }

pub returns-in-Err-Failed-clause-counted : goal.returns-in-Err-Failed-clause-counted
returns-in-Err-Failed-clause-counted g c =
    let s = c.args.self.now in
    let h = g.F.Folder.history s.folder in
    let k = g.F.Folder.history c.add.new.self in
    let q = c.requires.counted in
    record {
      within = omega (arith, q.within, c.if-self-len.false);
      fits = q.fits;
      place = q.place;
      sum = omega (arith, q.sum);
      exact = λ is. absurd (false≢true (sym is));
      most = added s.used s.segment s.limit h k c.args.first c.args.segment.now q.most c.requires.small c.add.result c.add.ensures;
      well = λ is. absurd (false≢true (sym is));
      writes = λ is _. absurd (false≢true (sym is));
    }

pub returns-then-self-len-clause-begun : goal.returns-then-self-len-clause-begun
returns-then-self-len-clause-begun g c = λ next ch chs behind text first after now.
    segment_none next ch chs behind c.args.segment.now text after (g.F.Folder.history c.args.self.now.folder) now

pub returns-in-Ok-clause-begun : goal.returns-in-Ok-clause-begun
returns-in-Ok-clause-begun g c = λ next ch chs behind text first after now.
    let h = g.F.Folder.history c.args.self.now.folder in
    let k = g.F.Folder.history c.add.new.self in
    segment_begun next ch chs behind c.args.segment.now text after c.in-Ok.field-0 h k now (so_named h k c.args.segment.now c.in-Ok.is (sym first) c.add.ensures)

pub returns-in-Err-Full-clause-begun : goal.returns-in-Err-Full-clause-begun
returns-in-Err-Full-clause-begun g c = λ next ch chs behind text first after now.
    let h = g.F.Folder.history c.args.self.now.folder in
    let k = g.F.Folder.history c.add.new.self in
    segment_full next ch chs behind c.args.segment.now text after h k now
    (so_named h k c.args.segment.now (c.in-Err-Full.is ∙ ap (λ f. Err f) c.in-Err-Full.field-0-is) (sym first) c.add.ensures)

pub returns-in-Err-Failed-clause-begun : goal.returns-in-Err-Failed-clause-begun
returns-in-Err-Failed-clause-begun g c = λ next ch chs behind text first after now.
    let h = g.F.Folder.history c.args.self.now.folder in
    let k = g.F.Folder.history c.add.new.self in
    segment_lost next ch chs behind c.args.segment.now text after h k now
    (so_named h k c.args.segment.now (c.in-Err-Failed.is ∙ ap (λ f. Err f) c.in-Err-Failed.field-0-is) (sym first) c.add.ensures)

pub returns-then-self-len-clause-floor : goal.returns-then-self-len-clause-floor
returns-then-self-len-clause-floor g c = λ n has. since_none (HasFloor n) (g.F.Folder.history c.args.self.now.folder)

pub returns-in-Ok-clause-floor : goal.returns-in-Ok-clause-floor
returns-in-Ok-clause-floor g c = λ n has.
    floor_added n (g.F.Folder.history c.args.self.now.folder) (g.F.Folder.history c.add.new.self) has c.args.first (length c.args.segment.now) c.args.segment.now c.add.result c.add.ensures

pub returns-in-Err-Full-clause-floor : goal.returns-in-Err-Full-clause-floor
returns-in-Err-Full-clause-floor g c = λ n has.
    floor_added n (g.F.Folder.history c.args.self.now.folder) (g.F.Folder.history c.add.new.self) has c.args.first (length c.args.segment.now) c.args.segment.now c.add.result c.add.ensures

pub returns-in-Err-Failed-clause-floor : goal.returns-in-Err-Failed-clause-floor
returns-in-Err-Failed-clause-floor g c = λ n has.
    floor_added n (g.F.Folder.history c.args.self.now.folder) (g.F.Folder.history c.add.new.self) has c.args.first (length c.args.segment.now) c.args.segment.now c.add.result c.add.ensures

pub returns-then-self-len-clause-why : goal.returns-then-self-len-clause-why
returns-then-self-len-clause-why g c = λ _. (refl, omega (arith, c.if-self-len.true, c.requires.counted.within))

pub returns-in-Err-Full-clause-why : goal.returns-in-Err-Full-clause-why
returns-in-Err-Full-clause-why g c = λ un.
    let h = g.F.Folder.history in
    absurd (goes_by_asks (making (length c.args.segment.now)) (IsAdded c.args.first c.args.segment.now c.add.result) (h c.args.self.now.folder) (h c.add.new.self) c.add.ensures un)
