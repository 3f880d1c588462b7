use Rattle.std.proofs.Common.{IsTrue}
use Rattle.amqp_frame.specs.Devices.{has_failed}
use Rattle.test_endpoint.proofs.starving.serve_on.Given as goal

abbrev pub invariant-loop-refused : goal.invariant-loop-refused
invariant-loop-refused g l = record {
  reader : ¬ (IsTrue (has_failed l.reader));
  writer : ¬ (IsTrue (has_failed l.writer));
  sink : ¬ (IsTrue (has_failed l.sink));
}
