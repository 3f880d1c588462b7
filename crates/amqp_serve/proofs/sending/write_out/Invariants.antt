use Rattle.std.proofs.Common.{◌≡◌, length}
use Rattle.amqp_serve.specs.declared.rules.Rule.{Rule}
use Rattle.amqp_serve.specs.Deeds.{no_deeds, WentOn, ends, AreOpen}
use Rattle.amqp_serve.specs.Serving.{Stand}
use Rattle.amqp_serve.proofs.sending.write_out.Given as goal

abbrev pub invariant-pieces : goal.invariant-pieces
invariant-pieces g l = record {
  open_ends : AreOpen (ends g.W.Write.contents g.S.Write.contents l.writer l.sink);
  connection : l.endpoint.connection ≡ l.fn.endpoint.connection;
  went : (p : Rule) (a : Stand) → WentOn p no_deeds a a l.fn.endpoint l.endpoint (ends g.W.Write.contents g.S.Write.contents l.fn.writer l.fn.sink) (ends g.W.Write.contents g.S.Write.contents l.writer l.sink);
}

-- each piece that is written leaves less
abbrev pub decreases-pieces : goal.decreases-pieces
decreases-pieces g l = length l.endpoint.unsent
