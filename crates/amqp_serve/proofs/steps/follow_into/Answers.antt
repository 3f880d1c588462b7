use Rattle.std.proofs.Common.{◌≢◌, refl, sym, subst, arith, rules}
use Rattle.std.proofs.lemmas.Grind.{common_steps}
use Rattle.amqp_endpoint.specs.declared.event.Outcome.TheVariants.{NoMemory}
use Rattle.std.proofs.lemmas.Bool.{eqb-true}
use Rattle.std.proofs.lemmas.Result.{err_from_is_err_and}
use Rattle.amqp_endpoint.specs.Connections.{ConnectionState}
use Rattle.amqp_serve.specs.Deeds.{ends}
use Rattle.amqp_serve.specs.Noting.{done_of}
use Rattle.amqp_serve.specs.Serving.{reading}
use Rattle.amqp_serve.specs.Supplied.{IsSupplied, IsSuppliedBut, is_nil}
use Rattle.amqp_serve.specs.declared.supplies.Look.{Look}
use Rattle.amqp_serve.proofs.Noting.{noted}
use Rattle.amqp_serve.proofs.Stepping.{follow_lost, follow_starved, followed, top_lost, write_lost, looked}
use Rattle.amqp_serve.proofs.steps.follow_into.Goals as goal

pub returns-in-NoMemory-clause-follows : goal.returns-in-NoMemory-clause-follows
returns-in-NoMemory-clause-follows g c = (
  done_of c.args.note.now,
  (λ _. refl),
  follow_starved c.args.course.now.rule c.args.told.now c.args.endpoint.now (ends g.W.Write.contents g.S.Write.contents c.args.writer.now c.args.sink.now) c.in-NoMemory.is c.requires.ends,
)

pub returns-in_err-look-clause-follows : goal.returns-in_err-look-clause-follows
returns-in_err-look-clause-follows g c =
    let q = err_from_is_err_and c.from_residual.result c.from_residual.ensures.1 in
    (done_of c.receive.new.note, (λ _. refl), follow_lost c.args.course.now.rule c.args.told.now c.from_residual.result _ q.0 _ c.args.endpoint.now c.receive.new.endpoint _ _ q.1 q.2 c.in_err-look.ensures.went.2)

pub top_up-requires-clause-but : goal.top_up-requires-clause-but
top_up-requires-clause-but g c =
    subst (λ (l : Look). IsSuppliedBut l c.args.course.now.rule c.receive.new.endpoint.connection) (sym c.in_ok-look.ensures.look)
    (looked c.args.course.now.rule c.args.course.now.supplied c.args.told.now (is_nil c.args.endpoint.now.input.filled) c.args.endpoint.now.connection c.receive.new.endpoint.connection c.requires.supplied
    c.in_ok-look.ensures.only)

pub returns-in_err-top_up-clause-follows : goal.returns-in_err-top_up-clause-follows
returns-in_err-top_up-clause-follows g c =
    let p = c.args.course.now.rule in
    let s = c.args.endpoint.now in
    let t = c.receive.new.endpoint in
    let q = err_from_is_err_and c.from_residual-in_err-top_up.result c.from_residual-in_err-top_up.ensures.1 in (
      done_of c.receive.new.note,
      (λ _. refl),
      follow_lost p c.args.told.now c.from_residual-in_err-top_up.result _ q.0 _ s c.top_up.new.endpoint _ _ q.1 q.2
          (top_lost p _ c.args.told.now _ s t c.top_up.new.endpoint _ _ _ c.in_ok-look.ensures.went.2 c.in_ok-look.ensures.only.config c.in_err-top_up.ensures.went),
    )

pub returns-in_err-write_out-clause-follows : goal.returns-in_err-write_out-clause-follows
returns-in_err-write_out-clause-follows g c =
    let p = c.args.course.now.rule in
    let s = c.args.endpoint.now in
    let q = err_from_is_err_and c.from_residual-in_err-write_out.result c.from_residual-in_err-write_out.ensures.1 in
    let receipt = c.in_ok-look.ensures.went in (
      done_of c.receive.new.note,
      (λ _. refl),
      follow_lost p c.args.told.now c.from_residual-in_err-write_out.result _ q.0 _ s c.write_out.new.endpoint _ _ q.1 q.2
          (write_lost p c.args.told.now (record { receipt = receipt.0; topped = c.top_up.new.topped }) _ s c.receive.new.endpoint c.top_up.new.endpoint c.write_out.new.endpoint _ _ _ _
          receipt.2 c.in_ok-top_up.ensures.went c.in_ok-look.ensures.only.config (c.in_err-write_out.ensures.went p reading)),
    )

pub returns-clause-follows : goal.returns-clause-follows
returns-clause-follows g c =
    let p = c.args.course.now.rule in
    let fed : c.args.told.now ≢ NoMemory = first_of (search rules, grind (arith, common_steps)) in
    let receipt = c.in_ok-look.ensures.went in (
      record { receipt = receipt.0; topped = c.top_up.new.topped },
      noted c.receive.new.note receipt.1,
      followed p c.args.told.now (record { receipt = receipt.0; topped = c.top_up.new.topped }) c.args.endpoint.now c.receive.new.endpoint c.top_up.new.endpoint c.write_out.new.endpoint _ _ _ _
          fed receipt.2 c.in_ok-top_up.ensures.went c.in_ok-look.ensures.only.config (c.in_ok-write_out.ensures.went p reading) c.in_ok-write_out.ensures.empty,
    )

pub returns-clause-course : goal.returns-clause-course
returns-clause-course g c = λ is.
    subst (λ (k : ConnectionState). IsSupplied c.args.course.now.rule k) (sym c.in_ok-write_out.ensures.connection) (c.in_ok-top_up.ensures.supplied.0 (eqb-true c.top_up.new.topped.refused 0 is))
