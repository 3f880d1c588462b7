use Rattle.std.proofs.Common.{◌≡◌, ℕ, ◌-◌, ◌≤◌, Bool, Option, List, ◌++◌, length, take}
use Rattle.amqp_sasl.specs.declared.layer.Outcome.TheVariants.{More}
use Rattle.amqp_sasl.specs.Exchanges.{outcome_of, told}
use Rattle.amqp_sasl.proofs.layer.Sasl.feed.Given as goal

abbrev pub invariant-loop-used : goal.invariant-loop-used
invariant-loop-used l = record {
  within : l.used ≤ length l.piece;
  exact : (answer : Option Bool) (more : List ℕ) → told l.initial.self answer (take l.used l.piece ++ more) ≡ told l.self answer more;
  none : (outcome_of l.initial.self.stage ≡ More → ⊥) → (l.used ≡ 0) × (l.self ≡ l.initial.self);
  offer : l.self.offer ≡ l.initial.self.offer;
}

abbrev pub decreases-loop-used : goal.decreases-loop-used
decreases-loop-used l = length l.piece - l.used
