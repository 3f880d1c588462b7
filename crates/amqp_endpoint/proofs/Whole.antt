-- Whole runs: their history, and what holds of it.
use Rattle.std.proofs.Common.{arith, ◌≡◌, ◌^◌, ◌<◌, List, take, ap, ◌∙◌, subst}
use Rattle.std.specs.List.{flat_map}
use Rattle.amqp_session.specs.declared.slot.Slot.TheVariants.{Live}
use Rattle.amqp_endpoint.specs.Configs.{Configured, IsConfigured}
use Rattle.amqp_endpoint.specs.Connections.{ConnectionState, slot_at}
use Rattle.amqp_endpoint.specs.Runs.{Call, Answer, Run, IsStart, Happened, events}
use Rattle.amqp_endpoint.specs.Steps.{EndpointState}
use Rattle.amqp_endpoint.specs.Takings.{link_at}
use Rattle.amqp_endpoint.specs.Traces.{AreInRange, moved_by, all_taken, Told, heard, message_in, IsTraced, HasHistory, IsWholeRun}
use Rattle.amqp_endpoint.proofs.Bounds.{IsHeldCount, IsHeldBound, within}
use Rattle.amqp_endpoint.proofs.EachLife.{first_of_each}
use Rattle.amqp_endpoint.proofs.Messages.{OpenSelected, messages_told, taken_in_order}
use Rattle.amqp_endpoint.proofs.Replies.{SaidLong}
use Rattle.amqp_endpoint.proofs.Rooms as room
use Rattle.amqp_endpoint.proofs.Rooms.{UnitsFit, CallsFit, IsRoomy}
use Rattle.amqp_endpoint.proofs.Steps.{ConnectionBegins, ConnectionGoesOn}
use Rattle.amqp_endpoint.proofs.Traces.{UnitsAccepted, CallsAccepted, traces}
use Rattle.amqp_endpoint.proofs.Windows.{has_its_window}

-- what is owed of connections, of answers and bytes, and of links
pub record Owed : Type 0 where
  pub begins : ConnectionBegins
  pub goes_on : ConnectionGoesOn
  pub units : UnitsAccepted
  pub calls : CallsAccepted
  pub said : SaidLong
  pub units_fit : UnitsFit
  pub calls_fit : CallsFit
  pub count : IsHeldCount
  pub bound : IsHeldBound
  pub opens : OpenSelected

-- what holds of an endpoint with a history
history_of : Owed → (config : Configured) (calls : List Call) (answers : List Answer) (last : EndpointState) (h : List Happened) → config.window < 2 ^ 31 →
    IsTraced config (all_taken calls answers) (flat_map moved_by answers) (heard calls answers) h last → IsRoomy config last → HasHistory config calls answers last
history_of law config calls answers last h narrow x roomy =
    let past = events config h in
    record {
      history = h;
      within = within law.count law.bound config past last x.state x.sound roomy.buffer roomy.output;
      messages = ap (λ (v : List Told). flat_map message_in v) x.telling ∙ messages_told config h;
      windows = λ channel t here. has_its_window config past channel t x.sound (subst (λ (c : ConnectionState). slot_at c channel ≡ Live t) x.state here);
      links = λ channel handle l here.
          taken_in_order law.opens config past channel handle l x.sound (subst (λ (c : ConnectionState). link_at c channel handle ≡ Live l) x.state here);
      each_life = first_of_each law.begins law.goes_on config narrow past x.accepted;
      traced = x;
    }

-- a new endpoint's run has a history, and the one after each call grows into it
pub runs : Owed → (config : Configured) (calls : List Call) (answers : List Answer) (start last : EndpointState) →
    IsConfigured config.container_id config.max_frame config.window → AreInRange calls → IsStart config start → Run start calls answers last → IsWholeRun config calls answers last
unfolding history_of
runs law config calls answers start last within_range range new run =
    let all = traces law.begins law.goes_on law.units law.calls config calls answers start last within_range range new run in
    let roomy : (asked : List Call) (given : List Answer) (now : EndpointState) → Run start asked given now → IsRoomy config now = λ asked given now so_far.
    room.all_calls law.said law.units_fit law.calls_fit config within_range.most_name (omega (arith, within_range.some_frame)) start asked given now (room.starts config start new) so_far in
    record {
      start = start;
      new = new;
      run = run;
      past = history_of law config calls answers last all.history within_range.most_window all.traced (roomy calls answers last run);
      each = λ n l.
          let m = all.each n in
          record {
            now = m.now;
            so_far = m.so_far;
            goes_on = m.goes_on;
            past = history_of law config (take n calls) (take n answers) m.now (all.pasts n) within_range.most_window m.traced (roomy (take n calls) (take n answers) m.now m.so_far);
            later = m.later;
            grown = m.grown;
          };
      grows = λ n before after. all.grows n;
      empty = λ none. all.first;
      whole = λ every. all.end;
    }
