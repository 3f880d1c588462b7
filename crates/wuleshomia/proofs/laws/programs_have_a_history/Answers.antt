use Rattle.wuleshomia.specs.Exports.{configured}
use Rattle.wuleshomia.proofs.laws.programs_have_a_history.Goals as goal

pub returns : goal.returns
returns c = λ settings name rows s t calls answers new x ranges.
    let y = c.exports_are_a_run.ensures s t calls answers x in
    record {
      last = y.last;
      whole = c.runs_have_a_history.ensures (configured settings name rows) calls answers s.endpoint y.last new.settings.ranges.configured ranges new.start y.run;
      same = y.same;
    }
