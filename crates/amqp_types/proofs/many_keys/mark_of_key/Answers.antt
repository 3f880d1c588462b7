use Rattle.std.proofs.Common.{◌∙◌}
use Rattle.amqp_types.proofs.MarkLaws.{octets_mark}
use Rattle.amqp_types.proofs.many_keys.mark_of_key.Goals as goal

pub returns-in-Number : goal.returns-in-Number
returns-in-Number c = rw c.in-Number.is (c.number_mark.ensures c.in-Number.field-0)

pub returns-in-Octets : goal.returns-in-Octets
returns-in-Octets c = rw c.in-Octets.is (c.mark_of.ensures ∙ octets_mark c.in-Octets.field-0 c.in-Octets.octets.now)
