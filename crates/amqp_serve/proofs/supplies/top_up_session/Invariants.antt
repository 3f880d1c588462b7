use Rattle.std.proofs.Common.{◌≡◌, ◌≤◌, ◌↔◌, ◌-◌, ◌++◌, List}
use Rattle.amqp_session.specs.Places.{tabulate}
use Rattle.amqp_serve.specs.declared.supplies.Look.TheVariants as look
use Rattle.amqp_serve.specs.declared.supplies.Supply.{Supply}
use Rattle.amqp_serve.specs.declared.supplies.Supply.TheVariants.{CreditOf}
use Rattle.amqp_serve.specs.Deeds.{topped_deeds, WentOn, ends, AreOpen}
use Rattle.amqp_serve.specs.Serving.{session_supplies, ToppingUp}
use Rattle.amqp_serve.specs.Supplied.{IsOnlyAt, IsSuppliedAt}
use Rattle.amqp_serve.proofs.supplies.top_up_session.Given as goal

abbrev pub invariant-loop-handle : goal.invariant-loop-handle
invariant-loop-handle g l = record {
  open_ends : AreOpen (ends g.W.Write.contents g.S.Write.contents l.writer l.sink);
  only : IsOnlyAt l.rule (look.Session l.channel) l.fn.endpoint.connection l.endpoint.connection;
  within : l.handle ≤ l.handles;
  supplied : (l.topped.refused ≡ 0) ↔ IsSuppliedAt l.rule l.handle l.channel l.endpoint.connection;
  went : (rest : List Supply) → WentOn l.rule (topped_deeds l.topped) (ToppingUp (session_supplies l.handles l.channel ++ rest))
      (ToppingUp (tabulate l.handle (l.handles - l.handle) (λ handle. CreditOf l.channel handle) ++ rest)) l.fn.endpoint l.endpoint
      (ends g.W.Write.contents g.S.Write.contents l.fn.writer l.fn.sink) (ends g.W.Write.contents g.S.Write.contents l.writer l.sink);
}

abbrev pub decreases-loop-handle : goal.decreases-loop-handle
decreases-loop-handle g l = l.handles - l.handle
