use Rattle.std.proofs.Common.{ap, map, ◌∙◌, ◌-◌, drop, arith}
use Rattle.std.proofs.lemmas.List.{take_all, length-drop}
use Rattle.amqp_types.specs.Keys.{key_image}
use Rattle.amqp_types.proofs.few_keys.FewKeys.lent.Goals as goal

pub returns : goal.returns
returns c =
    ap (map key_image) (take_all (32 - c.self.inside.free) (drop c.self.inside.free c.self.inside.keys) (omega (arith, length-drop c.self.inside.free c.self.inside.keys, c.self.invariant.1)))
    ∙ c.self.view_is
