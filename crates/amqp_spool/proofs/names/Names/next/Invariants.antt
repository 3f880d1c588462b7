use Rattle.std.proofs.Common.{length}
use Rattle.amqp_spool.specs.NamesRead.{HasTaken}
use Rattle.amqp_spool.proofs.names.Names.next.Given as goal

abbrev pub invariant-introductions : goal.invariant-introductions
invariant-introductions l = record { taken : HasTaken l.fn.self l.self l.fn.entries.rest.now l.entries.rest.now }

-- each entry leaves less
abbrev pub decreases-introductions : goal.decreases-introductions
decreases-introductions l = length l.entries.rest.now
