use Rattle.std.proofs.Common.{◌≡◌, arith, true, false, ap, sym, ◌∙◌, refl}
use Rattle.amqp_spool_keeper.specs.Keeping.{KeeperState}
use Rattle.amqp_spool_keeper.proofs.Holding.{safe_after, safe_safe, only_passed, passed_after}
use Rattle.amqp_spool_keeper.proofs.keeper.SpoolKeeperKeeper.settle.Goals as goal

pub returns-then-has_failed : goal.returns-then-has_failed
returns-then-has_failed g c =
    let h = g.F.Folder.history in
    let a = c.args.self.now in
    let b = c.close_left.new.self in
    let e = c.close_left.ensures in
    let f = c.free.ensures in
    let is : c.free.new.self.journal.failed ≡ true = ap (λ (k : KeeperState _). k.journal.failed) (sym c.self.view_is) ∙ (sym c.has_failed.ensures ∙ c.if-has_failed.true) in
    record {
      safe = safe_after h a b c.free.new.self e.journal e.room e.waits f.safe;
      floor = passed_after h g.F.Folder.positions a b c.free.new.self e.journal f.floor;
      told = λ out. absurd (grind (arith, out));
      waits = λ stuck. absurd (grind (arith, stuck));
      out = λ out. absurd (grind (arith, out));
      failed = (λ _. is, λ _. refl);
    }

pub returns : goal.returns
returns g c =
    let h = g.F.Folder.history in
    let a = c.args.self.now in
    let b = c.close_left.new.self in
    let m = c.free.new.self in
    let d = c.write_out.new.self in
    let e = c.close_left.ensures in
    let f = c.free.ensures in
    let w = c.write_out.ensures in
    let alive : m.journal.failed ≡ false = ap (λ (k : KeeperState _). k.journal.failed) (sym c.self.view_is) ∙ (sym c.has_failed.ensures ∙ c.if-has_failed.false) in
    record {
      safe = safe_after h a b d e.journal e.room e.waits (safe_safe h b m d f.safe (f.waits alive) w.safe);
      floor = passed_after h g.F.Folder.positions a b d e.journal (only_passed h b m d g.F.Folder.positions f.floor w.floor);
      told = λ out told waiting held. w.told out told waiting (f.waits alive told waiting (e.waits told waiting held));
      waits = λ stuck told waiting held. w.waits stuck told waiting (f.waits alive told waiting (e.waits told waiting held));
      out = w.out;
      failed = w.failed;
    }
