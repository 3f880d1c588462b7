use Rattle.std.proofs.Common.{◌≡◌, ◌<◌, ◌≤◌, ℕ, false}
use Rattle.amqp_session.specs.Lacking.{wants_credit}
use Rattle.amqp_session.specs.Slots.{at_place}
use Rattle.amqp_session.proofs.state.first_lacking.Given as goal

-- none of those before does
abbrev pub invariant-loop-place : goal.invariant-loop-place
invariant-loop-place g l = (h : ℕ) → l.from ≤ h → h < l.place → wants_credit l.credit (at_place l.table h) ≡ false
