use Rattle.amqp_reason.specs.Reasons.{reason_of}
use Rattle.amqp_reason.proofs.Spelled.{valid_parts, condition_short, text_short, plain_short, described_short}
use Rattle.amqp_reason.proofs.spelling.error.Goals as goal

pub described_error-requires-clause-condition : goal.described_error-requires-clause-condition
described_error-requires-clause-condition c = condition_short c.args.reason.now.condition.now (valid_parts (reason_of c.args.reason.now) c.requires).0

pub described_error-requires-clause-text : goal.described_error-requires-clause-text
described_error-requires-clause-text c = text_short c.in-Some.text.now (rw c.in-Some.is at (valid_parts (reason_of c.args.reason.now) c.requires).1)

pub plain_error-requires : goal.plain_error-requires
plain_error-requires c = condition_short c.args.reason.now.condition.now (valid_parts (reason_of c.args.reason.now) c.requires).0

pub returns-in-Some-clause-most : goal.returns-in-Some-clause-most
returns-in-Some-clause-most c =
    let parts = valid_parts (reason_of c.args.reason.now) c.requires in
    rw c.described_error.ensures
    (described_short c.args.reason.now.condition.now c.in-Some.text.now (condition_short c.args.reason.now.condition.now parts.0) (text_short c.in-Some.text.now (rw c.in-Some.is at parts.1)))

pub returns-in-None-clause-most : goal.returns-in-None-clause-most
returns-in-None-clause-most c =
    rw c.plain_error.ensures
    (plain_short c.args.reason.now.condition.now (condition_short c.args.reason.now.condition.now (valid_parts (reason_of c.args.reason.now) c.requires).0))
