use Rattle.std.proofs.Common.{Bool, ap, sym, ◌∙◌, Some}
use Rattle.std.specs.Prelude.{if◌then◌else◌}
use Rattle.amqp_session.specs.declared.fault.CallFault.TheVariants as refused
use Rattle.amqp_session.specs.Surveys.{survey_fault}
use Rattle.amqp_session.proofs.RangeFaults.{ends_fault, fault_is, named_is, modes_are, right}
use Rattle.amqp_session.proofs.ranges.judge.Goals as goal

pub returns-in-Some-clause-refused : goal.returns-in-Some-clause-refused
returns-in-Some-clause-refused g c =
    fault_is c.args.first c.args.last c.args.state.now c.survey_ids-survey.result c.survey_ids-survey.ensures.survey
    ∙ ap (λ (b : Bool). if b then Some refused.NoDelivery else survey_fault c.survey_ids-survey.result) (right c.has_ends.result (ends_fault c.args.first c.args.last c.args.state.now) c.has_ends.ensures c.if-not-has_ends.false) ∙ sym c.in-Some.ensures

pub returns-in-None-clause-accepted : goal.returns-in-None-clause-accepted
returns-in-None-clause-accepted g c =
    fault_is c.args.first c.args.last c.args.state.now c.survey_ids-survey.result c.survey_ids-survey.ensures.survey
    ∙ ap (λ (b : Bool). if b then Some refused.NoDelivery else survey_fault c.survey_ids-survey.result) (right c.has_ends.result (ends_fault c.args.first c.args.last c.args.state.now) c.has_ends.ensures c.if-not-has_ends.false) ∙ sym c.in-None.ensures

pub returns-in-None-clause-settled : goal.returns-in-None-clause-settled
returns-in-None-clause-settled g c =
    (modes_are c.args.first c.args.last c.args.state.now c.survey_ids-survey.result c.survey_ids-survey.ensures.survey c.requires.apart c.ranges.first.fits (right c.has_ends.result (ends_fault c.args.first c.args.last c.args.state.now) c.has_ends.ensures c.if-not-has_ends.false) (sym c.in-None.ensures)).0

pub returns-in-None-clause-count : goal.returns-in-None-clause-count
returns-in-None-clause-count g c = named_is c.args.first c.args.last c.args.state.now c.survey_ids-survey.result c.survey_ids-survey.ensures.survey (sym c.in-None.ensures)
