use Rattle.std.proofs.Common.{◌≤◌, ◌+◌, ◌≡◌, ◌++◌, ◌∙◌, [], List, ℕ, length, sym, ap, subst}
use Rattle.amqp_perform.specs.Said.{Said, said_frame}
use Rattle.amqp_endpoint.proofs.reasons.Refused.say.Goals as goal

pub put-requires-clause-short : goal.put-requires-clause-short
put-requires-clause-short g c = subst (λ (s : Said). length (said_frame c.args.channel s []) ≤ 2560) (sym c.performative.ensures) c.requires.short

pub put-requires-clause-room : goal.put-requires-clause-room
put-requires-clause-room g c = subst (λ (s : Said). length c.args.out.now + length (said_frame c.args.channel s []) ≤ 8192) (sym c.performative.ensures) c.requires.room

pub returns : goal.returns
returns g c = c.put.ensures ∙ ap (λ (s : Said). c.args.out.now ++ said_frame c.args.channel s []) c.performative.ensures
