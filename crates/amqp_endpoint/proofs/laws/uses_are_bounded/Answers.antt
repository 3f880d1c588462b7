use Rattle.amqp_endpoint.proofs.Uses.{use_config, use_held, use_within}
use Rattle.amqp_endpoint.proofs.laws.uses_are_bounded.Goals as goal

pub returns : goal.returns
returns c = record {
  config = use_config c.runs_have_a_history.ensures;
  held = use_held c.runs_have_a_history.ensures;
  messages = λ config channel handle granted taken s u. use_within c.runs_have_a_history.ensures config channel handle granted taken s u c.connection_begins.ensures c.connection_goes_on.ensures;
}
