use Rattle.std.proofs.Common.{arith, ◌+◌, List, ℕ, length, subst, sym, ap, ◌≡◌}
use Rattle.amqp_frame.specs.declared.units.Progress.TheVariants.{Wants}
use Rattle.amqp_frame.specs.Splits.{IsSound}
use Rattle.amqp_frame.proofs.Fronts.{sound_none}
use Rattle.amqp_frame.proofs.split.Splitter.begin.Goals as goal

pub invariant_of-self : goal.invariant_of-self
invariant_of-self g c =
    let same = c.clear.ensures.whole in
    let room = c.self.invariant.room in
    let none : length c.clear.new.self.filled ≡ 0 = ap length c.clear.ensures.filled in
    let spare = length c.clear.new.self.spare in
    subst (λ (l : List ℕ). IsSound c.self.inside.limit c.args.stage l (length l + spare) (Wants 4)) (sym c.clear.ensures.filled)
    (sound_none c.self.inside.limit c.args.stage (0 + spare) c.self.invariant.least (omega (arith, same, room, none)))
