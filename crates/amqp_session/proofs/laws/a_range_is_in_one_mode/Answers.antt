use Rattle.amqp_session.proofs.RangeFaults.{one_mode}
use Rattle.amqp_session.proofs.laws.a_range_is_in_one_mode.Goals as goal

pub returns-clause-first : goal.returns-clause-first
returns-clause-first c = λ s first last apart low none. (one_mode s first last apart low none).0

pub returns-clause-second : goal.returns-clause-second
returns-clause-second c = λ s first last apart low none. (one_mode s first last apart low none).1
