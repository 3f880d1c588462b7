use Rattle.std.proofs.Common.{ap, map, ◌∙◌, ◌-◌, ◌+◌, ◌∷◌, ◌≡◌, ◌<◌, length, drop, arith}
use Rattle.std.proofs.lemmas.List.{drop-set}
use Rattle.amqp_types.specs.Keys.{key_image}
use Rattle.amqp_types.proofs.few_keys.FewKeys.push.Goals as goal

pub returns-clause-new : goal.returns-clause-new
returns-clause-new c = λ _.
    let some : c.self.inside.free - 1 < length c.self.inside.keys = omega (arith, c.if-self-eq0.false, c.self.invariant.0, c.self.invariant.1) in
    let next : c.self.inside.free - 1 + 1 ≡ c.self.inside.free = omega (arith, c.if-self-eq0.false) in
    ap (map key_image) (drop-set c.self.inside.keys (c.self.inside.free - 1) c.args.key some) ∙ ap (λ n. key_image c.args.key ∷ map key_image (drop n c.self.inside.keys)) next
    ∙ ap (λ keys. key_image c.args.key ∷ keys) c.self.view_is
