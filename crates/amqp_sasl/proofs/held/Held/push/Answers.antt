use Rattle.std.proofs.Common.{ℕ, List, ◌<◌, length, ap, arith}
use Rattle.std.proofs.lemmas.List.{length-take-le}
use Rattle.amqp_sasl.proofs.Buffers.{zeros_behind}
use Rattle.amqp_sasl.proofs.held.Held.push.Goals as goal

pub invariant_of-self : goal.invariant_of-self
invariant_of-self c =
    let same = ap (λ (l : List ℕ). length l) c.self.view_is in
    let below : c.self.inside.len < 512 = omega (arith, length-take-le c.self.inside.len c.self.inside.bytes) in
    (omega arith, zeros_behind c.self.inside.bytes c.self.inside.len c.args.byte c.self.invariant.1)
