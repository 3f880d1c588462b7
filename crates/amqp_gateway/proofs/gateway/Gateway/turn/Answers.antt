use Rattle.std.proofs.Common.{◌≡◌, ◌∙◌, Err}
use Rattle.std.proofs.lemmas.Result.{err_from_is_err_and}
use Rattle.amqp_gateway.specs.HubCalls.{takes}
use Rattle.amqp_gateway.specs.declared.gateway.GatewayFault.TheVariants.{NoMemory}
use Rattle.amqp_gateway.proofs.HubRuns.{went_none}
use Rattle.amqp_gateway.proofs.HubTurns.{hub_of, went_from, turned, answered_on, whole, broken_off}
use Rattle.amqp_gateway.proofs.gateway.Gateway.turn.Goals as goal

pub returns-in_err-note_events-clause-ran : goal.returns-in_err-note_events-clause-ran
returns-in_err-note_events-clause-ran g c =
    let old = c.args.self.now.hub in
    let noted = c.note_events.new.self.hub in
    let same = c.note_events.ensures.same ∙ c.take_time.ensures in
    let q = err_from_is_err_and c.from_residual.result c.from_residual.ensures.1 in
    let is : c.from_residual.result ≡ Err NoMemory = cc (c.in_err-note_events.ensures.fault) in
    broken_off g.K.Keeper c.from_residual.result old noted is (went_from g.K.Keeper takes old noted noted (hub_of c.note_events.new.self c.args.self.now same) (went_none g.K.Keeper takes noted))

pub returns-in_err-take_all-clause-ran : goal.returns-in_err-take_all-clause-ran
returns-in_err-take_all-clause-ran g c =
    let old = c.args.self.now.hub in
    let noted = c.note_events.new.self.hub in
    let same = c.note_events.ensures.same ∙ c.take_time.ensures in
    let taken = c.take_all.new.self.hub in
    let r = c.from_residual-in_err-take_all in
    let q = err_from_is_err_and r.result r.ensures.1 in
    let is : r.result ≡ Err NoMemory = cc (c.in_err-take_all.ensures.fault) in
    broken_off g.K.Keeper r.result old taken is (went_from g.K.Keeper takes old noted taken (hub_of c.note_events.new.self c.args.self.now same) c.take_all.ensures.ran)

pub returns-in_err-answer_all-clause-ran : goal.returns-in_err-answer_all-clause-ran
returns-in_err-answer_all-clause-ran g c =
    let old = c.args.self.now.hub in
    let noted = c.note_events.new.self.hub in
    let same = c.note_events.ensures.same ∙ c.take_time.ensures in
    let taken = c.take_all.new.self.hub in
    let new = c.answer_all.new.self.hub in
    whole g.K.Keeper c.from_residual-in_err-answer_all.result old new
    (turned g.K.Keeper old taken new (went_from g.K.Keeper takes old noted taken (hub_of c.note_events.new.self c.args.self.now same) c.take_all.ensures.ran) c.answer_all.ensures.ran)

pub returns-clause-ran : goal.returns-clause-ran
returns-clause-ran g c =
    let old = c.args.self.now.hub in
    let noted = c.note_events.new.self.hub in
    let same = c.note_events.ensures.same ∙ c.take_time.ensures in
    let taken = c.take_all.new.self.hub in
    let new = c.look_at_times.new.self.hub in
    whole g.K.Keeper c.look_at_times.result old new
    (turned g.K.Keeper old taken new (went_from g.K.Keeper takes old noted taken (hub_of c.note_events.new.self c.args.self.now same) c.take_all.ensures.ran)
    (answered_on g.K.Keeper taken c.answer_all.new.self.hub new c.answer_all.ensures.ran c.look_at_times.ensures.ran))
