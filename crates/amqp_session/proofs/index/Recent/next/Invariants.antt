use Rattle.std.proofs.Common.{◌≡◌, ℕ, ◌≤◌, length, Some, None, ◌-◌, ◌<◌}
use Rattle.std.specs.Prelude.{slice_get}
use Rattle.amqp_session.specs.declared.index.Begun.{Begun}
use Rattle.amqp_session.specs.Recents.{AreFrom}
use Rattle.amqp_session.proofs.index.Recent.next.Given as goal

-- from here on the ids are not less than the first, and none of those before it that is not less is open
abbrev pub invariant-loop-begun : goal.invariant-loop-begun
invariant-loop-begun g l = AreFrom l.from l.place l.self × ((i : ℕ) (b : Begun) → i < l.place → slice_get l.self i ≡ Some b → l.from ≤ b.id → b.kept ≡ None)

abbrev pub decreases-loop-begun : goal.decreases-loop-begun
decreases-loop-begun g l = length l.self - l.place
