use Rattle.std.proofs.Common.{inl, inr, refl, ◌+◌, ◌≤◌, arith, List, length, sym, subst, ap, ◌∙◌, Result, Err}
use Rattle.std.proofs.lemmas.Bool.{false≢true}
use Rattle.std.proofs.lemmas.Result.{err_from_is_err_and}
use Rattle.amqp_spool.specs.declared.folder.FolderFault.{FolderFault}
use Rattle.amqp_spool.specs.declared.folder.FolderFault.TheVariants.{Full}
use Rattle.amqp_spool.specs.Chapters.{IsPut}
use Rattle.amqp_spool.specs.Counting.{total}
use Rattle.amqp_spool.specs.declared.segments.Named.{Named}
use Rattle.amqp_spool.specs.Folders.{Now, IsUnasked, IsAppended, IsSynced}
use Rattle.amqp_spool.specs.Journals.{LeavesMost, IsWell}
use Rattle.amqp_spool.proofs.Counted.{grown_most, exactly_grown}
use Rattle.amqp_spool.proofs.Histories.{since_none, since_since, goes_asks_then, no_err, not_err}
use Rattle.amqp_spool.proofs.Appends.{appended, appended_since, appended_still, appended_well, synced, synced_since, synced_still, synced_well}
use Rattle.amqp_spool.proofs.Kept.{put_nothing, put_unwritten, put_unsynced, put_synced}
use Rattle.amqp_spool.specs.Journals.{HasFloor}
use Rattle.amqp_spool.proofs.Floored.{floor_appended, floor_synced, floor_both}
use Rattle.amqp_spool.proofs.journal.Journal.append.Goals as goal
use Rattle.amqp_spool.proofs.journal.Journal.append.Goals.{then-self-via-then-self, then-self-via-else-self+then-self-len}

pub returns-then-self-clause-bound : goal.returns-then-self-clause-bound
returns-then-self-clause-bound g c = since_none (LeavesMost (c.args.self.now.limit + c.args.self.now.segment)) (g.F.Folder.history c.args.self.now.folder)

pub returns-in_err-append-clause-counted : goal.returns-in_err-append-clause-counted
returns-in_err-append-clause-counted g c =
    let s = c.args.self.now in
    record {
      within = omega (arith, c.requires.counted.within, c.if-self-len.false);
      fits = c.requires.counted.fits;
      place = c.requires.counted.place;
      sum = omega (arith, c.requires.counted.sum, grown_most (length c.args.batch.now) s.segments.list.items, ap total c.grow.ensures);
      exact = λ _. exactly_grown (length c.args.batch.now) s.used s.segments.list.items c.grow.new.self.list.items c.grow.ensures (c.requires.counted.exact c.requires.alive);
      most = appended s.used s.segment s.limit (g.F.Folder.history s.folder) (g.F.Folder.history c.append.new.self) c.args.batch.now c.append.result c.requires.counted.most (c.requires.counted.writes c.requires.alive c.if-self.false) c.append.ensures;
      well = λ _. subst (λ (l : List Named). Now (IsWell l (s.used + length c.args.batch.now) s.segment s.floor) (g.F.Folder.history c.append.new.self)) (sym c.grow.ensures)
          (appended_well s.segments.list.items s.used s.segment s.floor (g.F.Folder.history s.folder) (g.F.Folder.history c.append.new.self) (c.requires.counted.well c.requires.alive) c.args.batch.now c.append.result (c.requires.counted.writes c.requires.alive c.if-self.false) c.append.ensures);
      writes = λ _ is. absurd (false≢true (sym is));
    }

pub returns-in_err-append-clause-bound : goal.returns-in_err-append-clause-bound
returns-in_err-append-clause-bound g c =
    let s = c.args.self.now in
    appended_since s.used s.segment s.limit (g.F.Folder.history s.folder) (g.F.Folder.history c.append.new.self) c.args.batch.now c.append.result c.requires.counted.most (c.requires.counted.writes c.requires.alive c.if-self.false)
    (omega (arith, c.requires.counted.within, c.if-self-len.false)) c.append.ensures

pub sync-requires : goal.sync-requires
sync-requires g c = appended_still (g.F.Folder.history c.args.self.now.folder) (g.F.Folder.history c.append.new.self) c.args.batch.now c.in_ok-append.was (c.requires.counted.writes c.requires.alive c.if-self.false) c.append.ensures

pub returns-in_err-sync-clause-counted : goal.returns-in_err-sync-clause-counted
returns-in_err-sync-clause-counted g c =
    let s = c.args.self.now in
    let h = g.F.Folder.history s.folder in
    let k = g.F.Folder.history c.append.new.self in
    let well = c.requires.counted.writes c.requires.alive c.if-self.false in
    record {
      within = omega (arith, c.requires.counted.within, c.if-self-len.false);
      fits = c.requires.counted.fits;
      place = c.requires.counted.place;
      sum = omega (arith, c.requires.counted.sum, grown_most (length c.args.batch.now) s.segments.list.items, ap total c.grow.ensures);
      exact = λ _. exactly_grown (length c.args.batch.now) s.used s.segments.list.items c.grow.new.self.list.items c.grow.ensures (c.requires.counted.exact c.requires.alive);
      most = synced (s.used + length c.args.batch.now) s.segment s.limit k (g.F.Folder.history c.sync.new.self) c.args.batch.now c.sync.result (appended s.used s.segment s.limit h k c.args.batch.now c.append.result c.requires.counted.most well c.append.ensures)
          (appended_still h k c.args.batch.now c.in_ok-append.was well c.append.ensures) c.sync.ensures;
      well = λ _. synced_well c.grow.new.self.list.items (s.used + length c.args.batch.now) s.segment s.floor k (g.F.Folder.history c.sync.new.self) (subst (λ (l : List Named). Now (IsWell l (s.used + length c.args.batch.now) s.segment s.floor) (g.F.Folder.history c.append.new.self)) (sym c.grow.ensures)
          (appended_well s.segments.list.items s.used s.segment s.floor (g.F.Folder.history s.folder) (g.F.Folder.history c.append.new.self) (c.requires.counted.well c.requires.alive) c.args.batch.now c.append.result (c.requires.counted.writes c.requires.alive c.if-self.false) c.append.ensures)) c.sync.result (appended_still h k c.args.batch.now c.in_ok-append.was well c.append.ensures) c.sync.ensures;
      writes = λ _ is. absurd (false≢true (sym is));
    }

pub returns-in_err-sync-clause-bound : goal.returns-in_err-sync-clause-bound
returns-in_err-sync-clause-bound g c =
    let s = c.args.self.now in
    let h = g.F.Folder.history s.folder in
    let k = g.F.Folder.history c.append.new.self in
    let l = g.F.Folder.history c.sync.new.self in
    let well = c.requires.counted.writes c.requires.alive c.if-self.false in
    let fits : s.used + length c.args.batch.now ≤ s.limit = omega (arith, c.requires.counted.within, c.if-self-len.false) in
    since_since (LeavesMost (s.limit + s.segment)) h k l (appended_since s.used s.segment s.limit h k c.args.batch.now c.append.result c.requires.counted.most well fits c.append.ensures)
    (synced_since (s.used + length c.args.batch.now) s.segment s.limit k l c.args.batch.now c.sync.result (appended s.used s.segment s.limit h k c.args.batch.now c.append.result c.requires.counted.most well c.append.ensures)
    (appended_still h k c.args.batch.now c.in_ok-append.was well c.append.ensures) fits c.sync.ensures)

pub returns-clause-counted : goal.returns-clause-counted
returns-clause-counted g c =
    let s = c.args.self.now in
    let h = g.F.Folder.history s.folder in
    let k = g.F.Folder.history c.append.new.self in
    let l = g.F.Folder.history c.sync.new.self in
    let well = c.requires.counted.writes c.requires.alive c.if-self.false in
    let still = appended_still h k c.args.batch.now c.in_ok-append.was well c.append.ensures in
    record {
      within = omega (arith, c.requires.counted.within, c.if-self-len.false);
      fits = c.requires.counted.fits;
      place = c.requires.counted.place;
      sum = omega (arith, c.requires.counted.sum, grown_most (length c.args.batch.now) s.segments.list.items, ap total c.grow.ensures);
      exact = λ _. exactly_grown (length c.args.batch.now) s.used s.segments.list.items c.grow.new.self.list.items c.grow.ensures (c.requires.counted.exact c.requires.alive);
      most = synced (s.used + length c.args.batch.now) s.segment s.limit k l c.args.batch.now c.sync.result (appended s.used s.segment s.limit h k c.args.batch.now c.append.result c.requires.counted.most well c.append.ensures) still c.sync.ensures;
      well = λ _. synced_well c.grow.new.self.list.items (s.used + length c.args.batch.now) s.segment s.floor k (g.F.Folder.history c.sync.new.self) (subst (λ (l : List Named). Now (IsWell l (s.used + length c.args.batch.now) s.segment s.floor) (g.F.Folder.history c.append.new.self)) (sym c.grow.ensures)
          (appended_well s.segments.list.items s.used s.segment s.floor (g.F.Folder.history s.folder) (g.F.Folder.history c.append.new.self) (c.requires.counted.well c.requires.alive) c.args.batch.now c.append.result (c.requires.counted.writes c.requires.alive c.if-self.false) c.append.ensures)) c.sync.result (appended_still h k c.args.batch.now c.in_ok-append.was well c.append.ensures) c.sync.ensures;
      writes = λ _ _. synced_still k l c.in_ok-sync.was still c.sync.ensures;
    }

pub returns-clause-bound : goal.returns-clause-bound
returns-clause-bound g c =
    let s = c.args.self.now in
    let h = g.F.Folder.history s.folder in
    let k = g.F.Folder.history c.append.new.self in
    let l = g.F.Folder.history c.sync.new.self in
    let well = c.requires.counted.writes c.requires.alive c.if-self.false in
    let fits : s.used + length c.args.batch.now ≤ s.limit = omega (arith, c.requires.counted.within, c.if-self-len.false) in
    since_since (LeavesMost (s.limit + s.segment)) h k l (appended_since s.used s.segment s.limit h k c.args.batch.now c.append.result c.requires.counted.most well fits c.append.ensures)
    (synced_since (s.used + length c.args.batch.now) s.segment s.limit k l c.args.batch.now c.sync.result (appended s.used s.segment s.limit h k c.args.batch.now c.append.result c.requires.counted.most well c.append.ensures)
    (appended_still h k c.args.batch.now c.in_ok-append.was well c.append.ensures) fits c.sync.ensures)

pub returns-then-self-clause-put : goal.returns-then-self-clause-put
returns-then-self-clause-put g c = λ ch chs b text f now. put_nothing ch chs b (g.F.Folder.history c.args.self.now.folder) Full now

pub returns-in_err-append-clause-put : goal.returns-in_err-append-clause-put
returns-in_err-append-clause-put g c = λ ch chs b text f now.
    let q = err_from_is_err_and c.from_residual.result c.from_residual.ensures.1 in
    subst (λ (r : Result (Unit {0}) FolderFault). IsPut ch chs b r (g.F.Folder.history c.args.self.now.folder) (g.F.Folder.history c.append.new.self)) (sym q.1)
    (put_unwritten ch chs b c.args.batch.now text f (g.F.Folder.history c.args.self.now.folder) (g.F.Folder.history c.append.new.self) c.append.result q.0 (c.in_err-append.was ∙ ap (λ e. Err e) (sym q.2)) now c.append.ensures)

pub returns-in_err-sync-clause-put : goal.returns-in_err-sync-clause-put
returns-in_err-sync-clause-put g c = λ ch chs b text f now.
    let q = err_from_is_err_and c.from_residual-in_err-sync.result c.from_residual-in_err-sync.ensures.1 in
    subst (λ (r : Result (Unit {0}) FolderFault). IsPut ch chs b r (g.F.Folder.history c.args.self.now.folder) (g.F.Folder.history c.sync.new.self)) (sym q.1)
    (put_unsynced ch chs b c.args.batch.now text f (g.F.Folder.history c.args.self.now.folder) (g.F.Folder.history c.append.new.self) (g.F.Folder.history c.sync.new.self) c.append.result c.sync.result c.in_ok-append.field-0 c.in_ok-append.was
    now c.append.ensures c.sync.ensures q.0 (c.in_err-sync.was ∙ ap (λ e. Err e) (sym q.2)))

pub returns-clause-put : goal.returns-clause-put
returns-clause-put g c = λ ch chs b text f now.
    put_synced ch chs b c.args.batch.now text f (g.F.Folder.history c.args.self.now.folder) (g.F.Folder.history c.append.new.self) (g.F.Folder.history c.sync.new.self) c.append.result c.sync.result c.in_ok-append.field-0 c.in_ok-append.was
    now c.append.ensures c.sync.ensures c.in_ok-sync.field-0 c.in_ok-sync.was

pub returns-then-self-clause-floor : goal.returns-then-self-clause-floor
returns-then-self-clause-floor g c = λ n has. since_none (HasFloor n) (g.F.Folder.history c.args.self.now.folder)

pub returns-in_err-append-clause-floor : goal.returns-in_err-append-clause-floor
returns-in_err-append-clause-floor g c = λ n has.
    floor_appended n (g.F.Folder.history c.args.self.now.folder) (g.F.Folder.history c.append.new.self) has c.args.batch.now c.append.result (c.requires.counted.writes c.requires.alive c.if-self.false) c.append.ensures

pub returns-in_err-sync-clause-floor : goal.returns-in_err-sync-clause-floor
returns-in_err-sync-clause-floor g c = λ n has.
    let h = g.F.Folder.history c.args.self.now.folder in
    let k = g.F.Folder.history c.append.new.self in
    let l = g.F.Folder.history c.sync.new.self in
    let well = c.requires.counted.writes c.requires.alive c.if-self.false in
    floor_both n h k l has (floor_appended n h k has c.args.batch.now c.append.result well c.append.ensures)
    (λ now. floor_synced n k l now c.sync.result (appended_still h k c.args.batch.now c.in_ok-append.was well c.append.ensures) c.sync.ensures)

pub returns-clause-floor : goal.returns-clause-floor
returns-clause-floor g c = λ n has.
    let h = g.F.Folder.history c.args.self.now.folder in
    let k = g.F.Folder.history c.append.new.self in
    let l = g.F.Folder.history c.sync.new.self in
    let well = c.requires.counted.writes c.requires.alive c.if-self.false in
    floor_both n h k l has (floor_appended n h k has c.args.batch.now c.append.result well c.append.ensures)
    (λ now. floor_synced n k l now c.sync.result (appended_still h k c.args.batch.now c.in_ok-append.was well c.append.ensures) c.sync.ensures)

pub returns-then-self-clause-why : goal.returns-then-self-clause-why
returns-then-self-clause-why g c = λ _. (
  refl,
  elim c.then-self.branch [
    | then-self-via-then-self w ↦ inl w.if-self.true
    | then-self-via-else-self+then-self-len w ↦ inr (omega (arith, w.if-self-len, c.requires.counted.within))
  ],
)

pub returns-in_err-sync-clause-unasked : goal.returns-in_err-sync-clause-unasked
returns-in_err-sync-clause-unasked g c =
    let h = g.F.Folder.history in
    not_err c.from_residual-in_err-sync.result (IsUnasked (h c.args.self.now.folder) (h c.sync.new.self)) _
    (goes_asks_then (IsAppended c.args.batch.now c.append.result) (IsSynced c.sync.result) (h c.args.self.now.folder) (h c.append.new.self) (h c.sync.new.self) c.append.ensures c.sync.ensures)

pub returns-in_err-sync-clause-why : goal.returns-in_err-sync-clause-why
returns-in_err-sync-clause-why g c =
    let h = g.F.Folder.history in
    no_err c.from_residual-in_err-sync.result (IsUnasked (h c.args.self.now.folder) (h c.sync.new.self)) _
    (goes_asks_then (IsAppended c.args.batch.now c.append.result) (IsSynced c.sync.result) (h c.args.self.now.folder) (h c.append.new.self) (h c.sync.new.self) c.append.ensures c.sync.ensures)
