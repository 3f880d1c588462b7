use Rattle.amqp_types.specs.Values.{view}
use Rattle.amqp_types.proofs.Agreeing.{lawful_on_ok, memory_alone}
use Rattle.amqp_types.proofs.encoder.encode.Goals as goal

pub returns-clause-lawful : goal.returns-clause-lawful
returns-clause-lawful c = lawful_on_ok (view c.args.value.now) c.encode_checked.result c.encode_checked.ensures.agree c.encode_checked.ensures.differ

pub returns-clause-memory : goal.returns-clause-memory
returns-clause-memory c = memory_alone (view c.args.value.now) c.encode_checked.result c.encode_checked.ensures.fault
