use Rattle.std.proofs.Common.{◌≡◌, ℕ, ◌-◌, ◌≤◌, List, ◌++◌, length, take}
use Rattle.amqp_proxy.specs.declared.proxy.Outcome.TheVariants.{More}
use Rattle.amqp_proxy.specs.Streams.{told}
use Rattle.amqp_proxy.proofs.proxy.Proxy.feed.Given as goal

abbrev pub invariant-loop-used : goal.invariant-loop-used
invariant-loop-used l = record {
  within : l.used ≤ length l.piece;
  exact : (more : List ℕ) → told l.initial.self (take l.used l.piece ++ more) ≡ told l.self more;
  none : (l.initial.self.outcome ≡ More → ⊥) → (l.used ≡ 0) × (l.self ≡ l.initial.self);
}

abbrev pub decreases-loop-used : goal.decreases-loop-used
decreases-loop-used l = length l.piece - l.used
