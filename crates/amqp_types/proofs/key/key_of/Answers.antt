use Rattle.std.proofs.Common.{refl}
use Rattle.amqp_types.specs.Reading.{item_by}
use Rattle.amqp_types.proofs.key.key_of.Goals as goal

pub returns-in_ok-octets-in-Variable-clause-read : goal.returns-in_ok-octets-in-Variable-clause-read
unfolding item_by
returns-in_ok-octets-in-Variable-clause-read c = λ inner nodes. rw (c.in-Variable.is, c.in_ok-octets-in-Variable.ensures.read c.args.w) refl
