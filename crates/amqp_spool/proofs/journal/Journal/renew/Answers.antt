use Rattle.std.proofs.Common.{◌≡◌, ◌+◌, ◌-◌, arith, List, length, refl, sym, ap, subst, Result}
use Rattle.std.proofs.lemmas.Bool.{false≢true}
use Rattle.amqp_spool.specs.declared.folder.FolderFault.{FolderFault}
use Rattle.amqp_spool.specs.declared.segments.Named.{Named}
use Rattle.amqp_spool.specs.Counting.{total, freed}
use Rattle.amqp_spool.specs.Folders.{Now, GoesBy, IsAdded, making}
use Rattle.amqp_spool.specs.Journals.{HasMost, IsWell}
use Rattle.amqp_spool.proofs.Counted.{put_is, well_most, freed_most, total_but, exactly_put}
use Rattle.amqp_spool.proofs.Histories.{now_and}
use Rattle.amqp_spool.proofs.Starting.{renewed_since, renewed_well}
use Rattle.amqp_spool.proofs.Floored.{floor_added}
use Rattle.amqp_spool.proofs.journal.Journal.renew.Goals as goal

pub returns-in_err-add-clause-bound : goal.returns-in_err-add-clause-bound
returns-in_err-add-clause-bound g c =
    let s = c.args.self.now in
    let h = g.F.Folder.history s.folder in
    let k = g.F.Folder.history c.add.new.self in
    let q = c.requires in
    renewed_since c.args.head.first c.args.bytes.now c.args.segments.list.items c.args.used s.limit s.segment q.sum q.fit q.within q.small c.add.result h k q.names q.found c.add.ensures

pub returns-clause-bound : goal.returns-clause-bound
returns-clause-bound g c =
    let s = c.args.self.now in
    let h = g.F.Folder.history s.folder in
    let k = g.F.Folder.history c.add.new.self in
    let q = c.requires in
    renewed_since c.args.head.first c.args.bytes.now c.args.segments.list.items c.args.used s.limit s.segment q.sum q.fit q.within q.small c.add.result h k q.names q.found c.add.ensures

pub returns-clause-counted : goal.returns-clause-counted
returns-clause-counted g c =
    let s = c.args.self.now in
    let h = g.F.Folder.history s.folder in
    let k = g.F.Folder.history c.add.new.self in
    let q = c.requires in
    let ns = c.args.segments.list.items in
    let first = c.args.head.first in
    let len = length c.args.bytes.now in
    let now = c.args.used - c.put.result + len in
    let counts : now + freed first ns ≡ c.args.used + len = omega (arith, c.put.ensures.freed, freed_most first ns, q.sum) in
    let goes = subst (λ (r : Result _ FolderFault). GoesBy (making len) (IsAdded first c.args.bytes.now r) h k) c.in_ok-add.was c.add.ensures in
    let put_well = renewed_well first c.args.bytes.now ns c.args.used s.limit s.segment q.sum q.fit q.within q.small c.in_ok-add.field-0 now c.floor-self.result h k counts q.names q.found c.floor-self.ensures goes in
    let well : Now (IsWell c.put.new.self.list.items now s.segment c.floor-self.result) k = subst (λ (l : List Named). Now (IsWell l now s.segment c.floor-self.result) k) (sym c.put.ensures.list) put_well in (
      refl,
      record {
        fits = (q.fits.0, q.fits.1, c.ranges.life.fits);
        within = omega (arith, q.within, counts);
        place = omega (arith, q.small, q.fits.1);
        sum = omega (arith, ap total c.put.ensures.list, put_is (record { first = first; bytes = len }) ns, counts, q.sum);
        most = now_and (IsWell c.put.new.self.list.items now s.segment c.floor-self.result) (HasMost now s.segment) k well (λ t w. well_most c.put.new.self.list.items now s.segment c.floor-self.result t w);
        well = λ _. well;
        exact = λ _. exactly_put (record { first = first; bytes = len }) now ns c.put.new.self.list.items c.put.ensures.list (omega (arith, counts, q.sum, total_but first ns));
        writes = λ _ is. absurd (false≢true (sym is));
      },
    )

pub returns-in_err-add-clause-floor : goal.returns-in_err-add-clause-floor
returns-in_err-add-clause-floor g c = λ n has.
    floor_added n (g.F.Folder.history c.args.self.now.folder) (g.F.Folder.history c.add.new.self) has c.args.head.first (length c.args.bytes.now) c.args.bytes.now c.add.result c.add.ensures

pub returns-clause-floor : goal.returns-clause-floor
returns-clause-floor g c = λ n has.
    floor_added n (g.F.Folder.history c.args.self.now.folder) (g.F.Folder.history c.add.new.self) has c.args.head.first (length c.args.bytes.now) c.args.bytes.now c.add.result c.add.ensures
