use Rattle.std.proofs.Common.{◌≡◌, ◌∷◌, ◌<◌, refl, ap, sym, ◌∙◌, subst, arith}
use Rattle.std.proofs.lemmas.Result.{err_from_is_err_and}
use Rattle.amqp_endpoint.specs.Connections.{ConnectionState}
use Rattle.amqp_serve.specs.declared.supplies.Topped.{Topped}
use Rattle.amqp_serve.specs.Deeds.{topped_deeds, WentOn, ends}
use Rattle.amqp_serve.specs.Serving.{lack, ToppingUp, Passes, Rests}
use Rattle.amqp_serve.specs.Supplied.{IsOnlyOf}
use Rattle.amqp_serve.proofs.Deeds.{went_silent, went_lost, quiet_then}
use Rattle.amqp_serve.proofs.ServingTops.{supply_topped}
use Rattle.amqp_serve.proofs.Supplied.{given_only, given_supplied}
use Rattle.amqp_serve.proofs.supplies.top_up_one.Goals as goal

pub returns-then-more-eq0-clause-went : goal.returns-then-more-eq0-clause-went
returns-then-more-eq0-clause-went g c = λ rest.
    went_silent c.args.rule.now _ _ c.args.endpoint.now (ends g.W.Write.contents g.S.Write.contents c.args.writer.now c.args.sink.now)
    (Passes c.args.supply rest (omega (arith, c.lack-more.ensures, c.if-more-eq0.true)) Rests) c.requires.ends

pub returns-then-more-eq0-clause-supplied : goal.returns-then-more-eq0-clause-supplied
returns-then-more-eq0-clause-supplied g c = (λ _. omega (arith, c.lack-more.ensures, c.if-more-eq0.true), λ _. refl)

pub returns-in_err-write_out-clause-went : goal.returns-in_err-write_out-clause-went
returns-in_err-write_out-clause-went g c = λ rest.
    let p = err_from_is_err_and c.from_residual.result c.from_residual.ensures.1 in
    went_lost _ c.from_residual.result _ p.0 _ p.1 p.2 (c.in_err-write_out.ensures.went c.args.rule.now (ToppingUp (c.args.supply ∷ rest)))

pub returns-clause-went : goal.returns-clause-went
returns-clause-went g c = λ rest.
    let s = c.write_out.new.endpoint in
    let fit = (c.in_ok-write_out.ensures.went c.args.rule.now (ToppingUp rest)).still in
    let lacks : c.lack-more.result ≡ lack c.args.rule.now s.connection c.args.supply = c.lack-more.ensures ∙ ap (λ (k : ConnectionState). lack c.args.rule.now k c.args.supply) (sym c.in_ok-write_out.ensures.connection) in
    let some : 0 < c.lack-more.result = omega (arith, c.if-more-eq0.false) in
    quiet_then (c.in_ok-write_out.ensures.went c.args.rule.now (ToppingUp (c.args.supply ∷ rest)))
    (subst (λ (t : Topped). WentOn c.args.rule.now (topped_deeds t) (ToppingUp (c.args.supply ∷ rest)) (ToppingUp rest) s c.give-given.new.endpoint
    (ends g.W.Write.contents g.S.Write.contents c.write_out.new.writer c.write_out.new.sink) (ends g.W.Write.contents g.S.Write.contents c.write_out.new.writer c.write_out.new.sink)) (sym c.topped_by.ensures)
    (supply_topped c.args.rule.now rest s c.give-given.new.endpoint c.args.supply c.lack-more.result c.give-given.result _ c.in_ok-write_out.ensures.empty some (omega arith) lacks c.give-given.ensures fit))

pub returns-clause-supplied : goal.returns-clause-supplied
returns-clause-supplied g c =
    let s = c.write_out.new.endpoint in
    let lacks : c.lack-more.result ≡ lack c.args.rule.now s.connection c.args.supply = c.lack-more.ensures ∙ ap (λ (k : ConnectionState). lack c.args.rule.now k c.args.supply) (sym c.in_ok-write_out.ensures.connection) in
    let some : 0 < c.lack-more.result = omega (arith, c.if-more-eq0.false) in
    let given = given_supplied c.args.rule.now s c.give-given.new.endpoint c.args.supply c.lack-more.result c.give-given.result some lacks c.give-given.ensures in
    rw c.topped_by.ensures given

pub returns-clause-only : goal.returns-clause-only
returns-clause-only g c =
    subst (λ (k : ConnectionState). IsOnlyOf c.args.rule.now c.args.supply k c.give-given.new.endpoint.connection) c.in_ok-write_out.ensures.connection
    (given_only c.args.rule.now c.write_out.new.endpoint c.give-given.new.endpoint c.args.supply c.lack-more.result c.give-given.result c.give-given.ensures)
