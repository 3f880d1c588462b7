use Rattle.amqp_link.proofs.Selections.{deliveries_selected, count_selected, bytes_selected}
use Rattle.amqp_link.proofs.laws.open_deliveries_are_selected.Goals as goal

pub returns : goal.returns
returns c = record { deliveries = deliveries_selected; count = count_selected; bytes = bytes_selected }
