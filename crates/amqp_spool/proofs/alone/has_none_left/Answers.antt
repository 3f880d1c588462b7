use Rattle.std.proofs.Common.{ap, Ok}
use Rattle.amqp_spool.proofs.KnownReading.{taken_known, gives_one, gives_some, flags, none_is, some_is}
use Rattle.amqp_spool.proofs.alone.has_none_left.Goals as goal

pub returns-clause-yes : goal.returns-clause-yes
returns-clause-yes c = λ is.
    let none = none_is c.in-Ok.next c.is_none.result c.is_none.ensures (flags _ _ is) in
    taken_known c.args.names.now c.next.new.self c.args.entries.now.rest.now _ (c.in-Ok.ensures.none (ap (λ o. Ok o) none))

pub returns-clause-no : goal.returns-clause-no
returns-clause-no c = λ is es body.
    let some = some_is c.in-Ok.next c.is_none.result c.is_none.ensures (flags _ _ is) in
    gives_one c.args.names.now c.next.new.self c.next.new.entries.rest.now es _ (gives_some c.args.names.now c.next.new.self c.args.entries.now.rest.now c.next.new.entries.rest.now c.in-Ok.next some.0 some.1 c.in-Ok.ensures.gives es body)
