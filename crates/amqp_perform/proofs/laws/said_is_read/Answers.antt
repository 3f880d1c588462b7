use Rattle.amqp_perform.proofs.BodyLaws.{body_only}
use Rattle.amqp_perform.proofs.WrittenLaws.{said_says}
use Rattle.amqp_perform.specs.Said.{said_text}
use Rattle.std.proofs.Common.{◌++◌}
use Rattle.amqp_perform.proofs.laws.said_is_read.Goals as goal

pub returns-clause-body : goal.returns-clause-body
returns-clause-body c = said_says

pub returns-clause-read : goal.returns-clause-read
returns-clause-read c = λ s payload may lt. body_only (said_text s ++ payload) s.type s.cells payload (said_says s payload may lt)
