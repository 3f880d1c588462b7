use Rattle.std.proofs.Common.{◌≡◌, ◌≤◌, ◌++◌, length, drop}
use Rattle.amqp_spool.specs.Digits.{last_digits}
use Rattle.amqp_spool.proofs.position.digits_of.Given as goal

-- the last digits are there
abbrev pub invariant-digits : goal.invariant-digits
invariant-digits l = record { within : l.place ≤ 20; long : length l.digits ≡ 20; whole : last_digits 20 l.fn.number ≡ last_digits l.place l.front ++ drop l.place l.digits }

abbrev pub decreases-digits : goal.decreases-digits
decreases-digits l = l.place
