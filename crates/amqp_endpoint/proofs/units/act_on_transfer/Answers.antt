use Rattle.std.proofs.Common.{◌≡◌, Some, refl, sym, ap, subst, ◌∙◌}
use Rattle.std.proofs.lemmas.List.{append-nil}
use Rattle.amqp_link.specs.Links.{sent_of}
use Rattle.amqp_session.specs.declared.slot.Slot.{Slot}
use Rattle.amqp_session.specs.declared.report.Report.TheVariants as report
use Rattle.amqp_session.specs.Faults.{event_of, report_of, failure_answer}
use Rattle.amqp_session.specs.Frames.{Transfers}
use Rattle.amqp_session.specs.Sessions.{SessionState}
use Rattle.amqp_endpoint.specs.declared.event.Event.TheVariants as told
use Rattle.amqp_endpoint.specs.Acting.{IsDone}
use Rattle.amqp_endpoint.specs.ConnectionLending.{with_session}
use Rattle.amqp_endpoint.specs.Connections.{slot_at}
use Rattle.amqp_endpoint.specs.Fields.{ForSession}
use Rattle.amqp_endpoint.specs.Lines.{channel_line}
use Rattle.amqp_endpoint.proofs.Lent.{lives, went_on}
use Rattle.amqp_endpoint.proofs.SessionFrames.{failure_fits, taken}
use Rattle.amqp_endpoint.proofs.units.act_on_transfer.Goals as goal

pub answer_transfer-requires : goal.answer_transfer-requires
answer_transfer-requires g c = record {
  room = c.requires.room;
  short =
      failure_fits c.frames_are_as_long.ensures c.args.channel c.args.transfer.now.handle (sent_of c.args.transfer.now c.args.payload.now) c.in-Some.session.now c.in-Ok.report
      c.in-Ok.ensures.accepted c.in-Ok.ensures.report;
}

pub returns-in-Ok-Ready : goal.returns-in-Ok-Ready
returns-in-Ok-Ready g c =
    let s = c.args.connection.now in
    let i = c.args.channel in
    let t = c.in-Some.session.now in
    let f = Transfers c.args.transfer.now.handle (sent_of c.args.transfer.now c.args.payload.now) in
    let live = lives (slot_at s i) t c.in-Some.ensures.value in
    let becomes = ap (λ (u : SessionState). with_session c.args.connection.now c.args.channel u) c.in-Ok-Ready.ensures.new ∙ went_on s i t (event_of t f) live in
    let is : report.Ready c.in-Ok-Ready.handle ≡ report_of c.in-Some.session.now (Transfers c.args.transfer.now.handle (sent_of c.args.transfer.now c.args.payload.now)) = sym c.in-Ok-Ready.field-0-is ∙ c.in-Ok-Ready.ensures.report in
    subst (λ (x : Slot SessionState). IsDone c.args.connection.now (with_session c.args.connection.now c.args.channel c.transfer.new.self) c.args.out.now c.args.out.now
    (channel_line c.args.channel x (ForSession (Transfers c.args.transfer.now.handle (sent_of c.args.transfer.now c.args.payload.now)))) (Some (told.Ready c.args.channel c.in-Ok-Ready.handle))) (sym live)
    (taken s (with_session s i c.transfer.new.self) i t f refl c.in-Ok-Ready.ensures.accepted becomes c.args.out.now c.args.out.now (failure_answer (report.Ready c.in-Ok-Ready.handle))
    (Some (told.Ready i c.in-Ok-Ready.handle)) (report.Ready c.in-Ok-Ready.handle) (sym (append-nil c.args.out.now)) (ap failure_answer is) refl is)

pub returns-in-Ok : goal.returns-in-Ok
returns-in-Ok g c =
    let s = c.args.connection.now in
    let i = c.args.channel in
    let t = c.in-Some.session.now in
    let f = Transfers c.args.transfer.now.handle (sent_of c.args.transfer.now c.args.payload.now) in
    let live = lives (slot_at s i) t c.in-Some.ensures.value in
    let becomes = ap (λ (u : SessionState). with_session c.args.connection.now c.args.channel u) c.in-Ok.ensures.new ∙ went_on s i t (event_of t f) live in
    subst (λ (x : Slot SessionState). IsDone c.args.connection.now (with_session c.args.connection.now c.args.channel c.transfer.new.self) c.args.out.now c.answer_transfer.new.out
    (channel_line c.args.channel x (ForSession (Transfers c.args.transfer.now.handle (sent_of c.args.transfer.now c.args.payload.now)))) c.answer_transfer.result) (sym live)
    (taken s (with_session s i c.transfer.new.self) i t f refl c.in-Ok.ensures.accepted becomes c.args.out.now c.answer_transfer.new.out (failure_answer c.in-Ok.report)
    c.answer_transfer.result c.in-Ok.report c.answer_transfer.ensures.answered (ap failure_answer c.in-Ok.ensures.report) c.answer_transfer.ensures.told c.in-Ok.ensures.report)
