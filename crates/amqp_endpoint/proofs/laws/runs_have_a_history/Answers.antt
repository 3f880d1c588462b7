use Rattle.amqp_endpoint.proofs.Whole.{runs}
use Rattle.amqp_endpoint.proofs.laws.runs_have_a_history.Goals as goal

pub returns : goal.returns
returns c = runs (record {
  begins = c.connection_begins.ensures;
  goes_on = c.connection_goes_on.ensures;
  units = c.units_are_accepted.ensures;
  calls = c.calls_are_accepted.ensures;
  said = c.frames_are_as_long.ensures;
  units_fit = c.answers_fit_their_room.ensures.units;
  calls_fit = c.answers_fit_their_room.ensures.calls;
  count = c.held_is_counted.ensures;
  bound = c.held_is_bounded.ensures;
  opens = c.open_deliveries_are_selected.ensures.count;
})
