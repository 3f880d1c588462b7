use Rattle.std.proofs.Common.{length}
use Rattle.amqp_perform.proofs.telling.+may_be_all.Given as goal

-- each call has one rule less
abbrev pub decreases-may_be_all : goal.decreases-may_be_all
decreases-may_be_all l = length l.rules.now
