use Rattle.std.proofs.Common.{ap, sym, ◌∙◌, arith}
use mathlib.Core.Logic.{inr}
use Rattle.amqp_session.specs.Places.{live_in}
use Rattle.amqp_endpoint.proofs.Tables.{slot_is, kept_again}
use Rattle.amqp_endpoint.proofs.connection.Connection.session_mut.Goals as goal

-- src/connection.rt:294:5
pub returns-in-None : goal.returns-in-None
returns-in-None g c = (
  ap inr (kept_again c.self.inside.config c.self.inside.phase c.self.inside.failed c.self.inside.closed c.self.inside.peer c.self.inside.places.items c.args.self.now c.self.view_is c.args.channel
      c.index_mut.result.now c.index_mut.ensures.value),
  record {
    writes_back = tt;
    value = c.in-None.ensures.value ∙ ap live_in (sym (slot_is c.self.inside.config c.self.inside.phase c.self.inside.failed c.self.inside.closed c.self.inside.peer c.self.inside.places.items c.args.self.now c.self.view_is
        c.args.channel c.index_mut.result.now c.index_mut.ensures.value (omega arith)));
  },
)
