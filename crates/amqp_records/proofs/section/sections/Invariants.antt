use Rattle.std.proofs.Common.{length}
use Rattle.amqp_records.proofs.section.sections.Given as goal

abbrev pub decreases-loop-rest : goal.decreases-loop-rest
decreases-loop-rest l = length l.rest
