use Rattle.std.proofs.Common.{sym, ◌∙◌}
use Rattle.amqp_link.specs.Links.{sent_of}
use Rattle.amqp_link.proofs.Verdicts.{not_known}
use Rattle.amqp_link.proofs.link.Link.judge.Goals as goal

pub returns-in-Fails : goal.returns-in-Fails
returns-in-Fails g c = sym c.in-Fails.ensures ∙ not_known c.args.self.now (sent_of c.args.transfer.now c.args.payload.now)

pub returns-in-Begins : goal.returns-in-Begins
returns-in-Begins g c = sym c.in-Begins.ensures.0 ∙ not_known c.args.self.now (sent_of c.args.transfer.now c.args.payload.now)

pub returns-in-GoesOn : goal.returns-in-GoesOn
returns-in-GoesOn g c = sym c.in-GoesOn.ensures.0 ∙ not_known c.args.self.now (sent_of c.args.transfer.now c.args.payload.now)

pub returns-in-Passes : goal.returns-in-Passes
returns-in-Passes g c = sym c.in-Passes.ensures.0 ∙ not_known c.args.self.now (sent_of c.args.transfer.now c.args.payload.now)

pub returns-in-GivesUp : goal.returns-in-GivesUp
returns-in-GivesUp g c = sym c.in-GivesUp.ensures.0 ∙ not_known c.args.self.now (sent_of c.args.transfer.now c.args.payload.now)
