use Rattle.std.proofs.Common.{arith}
use Rattle.amqp_endpoint.proofs.OneHistory.{one_history}
use Rattle.amqp_endpoint.proofs.laws.runs_have_one_history.Goals as goal

pub returns : goal.returns
returns c = λ config calls answers last other within. one_history c.connection_begins.ensures c.connection_goes_on.ensures config within.most_window (omega (arith, within.some_frame)) calls answers last other
