use Rattle.std.proofs.Common.{◌≡◌, sym, subst, arith, rules}
use Rattle.std.proofs.lemmas.Grind.{common_steps}
use Rattle.amqp_serve.specs.declared.steps.Receipt.TheVariants as receipt
use Rattle.amqp_serve.specs.Deeds.{receipt_deeds, WentOn, ends}
use Rattle.amqp_serve.specs.Serving.{Stand, ToppingUp, all_supplies, stand_told}
use Rattle.amqp_serve.proofs.Deeds.{went_none}
use Rattle.amqp_serve.proofs.Noting.{nothing_noted}
use Rattle.amqp_serve.proofs.steps.receive.Goals.{in_default-via-in-Event+in_default, in_default-via-in_default}
use Rattle.amqp_serve.proofs.steps.receive.Goals as goal

pub returns-in_default-clause-went : goal.returns-in_default-clause-went
returns-in_default-clause-went g c =
    let s = c.args.endpoint.now in
    let e = ends g.W.Write.contents g.S.Write.contents c.args.writer.now c.args.sink.now in
    let all = ToppingUp (all_supplies s.connection.config) in
    let same : stand_told s.connection.config c.args.told ≡ all = elim c.in_default.branch [
      | in_default-via-in-Event+in_default w ↦ first_of (search rules, grind (arith, common_steps))
      | in_default-via-in_default w ↦ first_of (search rules, grind (arith, common_steps))
    ] in (
      receipt.Nothing,
      (λ _. nothing_noted c.args.note.now.message),
      subst (λ (a : Stand). WentOn c.args.rule.now (receipt_deeds receipt.Nothing) a all s s e e) (sym same) (went_none c.args.rule.now all s e c.requires.ends),
    )
