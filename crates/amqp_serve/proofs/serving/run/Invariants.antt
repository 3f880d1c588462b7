use Rattle.std.proofs.Common.{◌≡◌, false, [], IsTrue}
use Rattle.amqp_frame.specs.Devices.{device_inner, has_failed, reads_ahead}
use Rattle.amqp_endpoint.specs.Connections.{is_dead}
use Rattle.amqp_serve.specs.Deeds.{ends, AreOpen}
use Rattle.amqp_serve.specs.Serving.{IsIdle, HasRead}
use Rattle.amqp_serve.specs.Supplied.{IsRight}
use Rattle.amqp_serve.proofs.serving.run.Given as goal

abbrev pub invariant-reads : goal.invariant-reads
invariant-reads g l = record {
  reader : ¬ (IsTrue (has_failed l.reader));
  open_ends : AreOpen (ends g.W.Write.contents g.S.Write.contents l.writer l.sink);
  sent : l.endpoint.unsent ≡ [];
  idle : is_dead l.endpoint.connection.phase ≡ false → IsIdle l.endpoint;
  begun : is_dead l.fn.endpoint.connection.phase ≡ false → IsIdle l.endpoint;
  rule : l.course.rule ≡ l.fn.rule;
  course : IsRight l.course l.endpoint.connection;
  read : HasRead l.fn.rule l.fn.endpoint l.endpoint (g.R.Read.remaining (device_inner l.fn.reader)) (g.R.Read.remaining (device_inner l.reader))
      (g.W.Write.contents (device_inner l.fn.writer)) (g.W.Write.contents (device_inner l.writer)) (g.S.Write.contents (device_inner l.fn.sink)) (g.S.Write.contents (device_inner l.sink));
}

abbrev pub decreases-reads : goal.decreases-reads
decreases-reads g l = reads_ahead l.reader
