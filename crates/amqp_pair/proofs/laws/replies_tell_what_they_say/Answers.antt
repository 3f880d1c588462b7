use Rattle.amqp_pair.proofs.Replying.{opens, begins, attaches, flows, link_flows, dispositions}
use Rattle.amqp_pair.proofs.laws.replies_tell_what_they_say.Goals as goal

pub returns-clause-open : goal.returns-clause-open
returns-clause-open c = opens c.frames_tell_what_they_say.ensures c.canonical_spells.ensures

pub returns-clause-begin : goal.returns-clause-begin
returns-clause-begin c = begins c.frames_tell_what_they_say.ensures

pub returns-clause-attach : goal.returns-clause-attach
returns-clause-attach c = attaches c.frames_tell_what_they_say.ensures c.canonical_spells.ensures

pub returns-clause-flow : goal.returns-clause-flow
returns-clause-flow c = flows c.frames_tell_what_they_say.ensures

pub returns-clause-link_flow : goal.returns-clause-link_flow
returns-clause-link_flow c = link_flows c.frames_tell_what_they_say.ensures

pub returns-clause-disposition : goal.returns-clause-disposition
returns-clause-disposition c = dispositions c.frames_tell_what_they_say.ensures c.canonical_spells.ensures c.outcomes_are_found.ensures.spelled
