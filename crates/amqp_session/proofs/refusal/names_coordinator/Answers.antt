use Rattle.std.proofs.Common.{sym, take, drop, None}
use Rattle.std.proofs.lemmas.List.{take-append-drop}
use Rattle.amqp_types.specs.Reading.{value_of}
use Rattle.amqp_session.proofs.Coordinators.{misread}
use Rattle.amqp_session.proofs.refusal.names_coordinator.Goals as goal

pub is_coordinator_type-requires : goal.is_coordinator_type-requires
is_coordinator_type-requires c =
    let found = c.in-Ok.ensures.found in
    (found.0, take c.in-Ok.field-0 c.args.described.now, drop c.in-Ok.field-0 c.args.described.now, found.1, found.2, sym (take-append-drop c.in-Ok.field-0 c.args.described.now))

pub returns-in-Err : goal.returns-in-Err
returns-in-Err c = misread (value_of 31 None c.args.described.now) c.in-Err.field-0 c.in-Err.ensures.exact
