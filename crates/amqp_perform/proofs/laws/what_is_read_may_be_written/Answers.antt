use Rattle.amqp_perform.proofs.Writable.{read_of_fields, read_may_be_written}
use Rattle.amqp_perform.proofs.laws.what_is_read_may_be_written.Goals as goal

pub returns-clause-cells : goal.returns-clause-cells
returns-clause-cells c = read_of_fields

pub returns-clause-performatives : goal.returns-clause-performatives
returns-clause-performatives c = read_may_be_written
