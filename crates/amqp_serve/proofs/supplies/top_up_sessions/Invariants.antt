use Rattle.std.proofs.Common.{◌≡◌, ◌↔◌, ◌≤◌, ◌<◌, ◌-◌, ◌+◌}
use Rattle.amqp_serve.specs.declared.supplies.Supply.{Supply}
use Rattle.amqp_serve.specs.Cuts.{supply_channel}
use Rattle.amqp_serve.specs.Deeds.{topped_deeds, WentOn, ends, AreOpen}
use Rattle.amqp_serve.specs.Serving.{lack, all_supplies, all_supplies_from, ToppingUp}
use Rattle.amqp_serve.specs.Supplied.{IsListed}
use Rattle.amqp_serve.proofs.supplies.top_up_sessions.Given as goal

abbrev pub invariant-loop-channel : goal.invariant-loop-channel
invariant-loop-channel g l = record {
  open_ends : AreOpen (ends g.W.Write.contents g.S.Write.contents l.writer l.sink);
  config : l.endpoint.connection.config ≡ l.fn.endpoint.connection.config;
  within : l.channel ≤ l.fn.endpoint.connection.config.channel_max + 1;
  behind : (x : Supply) → IsListed l.endpoint.connection.config x → l.end ≤ supply_channel x → lack l.rule l.endpoint.connection x ≡ 0;
  supplied : (l.all.refused ≡ 0) ↔ ((x : Supply) → IsListed l.endpoint.connection.config x → supply_channel x < l.channel → lack l.rule l.endpoint.connection x ≡ 0);
  went : WentOn l.rule (topped_deeds l.all) (ToppingUp (all_supplies l.fn.endpoint.connection.config))
      (ToppingUp (all_supplies_from l.handles l.channel (l.fn.endpoint.connection.config.channel_max + 1 - l.channel))) l.fn.endpoint l.endpoint
      (ends g.W.Write.contents g.S.Write.contents l.fn.writer l.fn.sink) (ends g.W.Write.contents g.S.Write.contents l.writer l.sink);
}
