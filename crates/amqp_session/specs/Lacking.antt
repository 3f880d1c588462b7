-- Which links lack credit (AMQP 1.0, part 2, section 2.6.7).
use Rattle.std.specs.Prelude.{◌≡◌, ℕ, ◌+◌, ◌<◌, ◌≤◌, Bool, true, false, ◌&&◌, Option, Some, None, nat_lt}
use Rattle.amqp_link.specs.Links.{open_count}
use Rattle.amqp_session.specs.declared.slot.Slot.{Slot}
use Rattle.amqp_session.specs.declared.slot.Slot.TheVariants.{Free, Live, Waits}
use Rattle.amqp_session.specs.Sessions.{LiveLink}

-- The link has less credit than `credit`, and can be granted more beside its credit and its open deliveries.
abbrev pub wants_credit : ℕ → Slot LiveLink → Bool
wants_credit credit Free = false
wants_credit credit (Live l) = nat_lt l.link.credit credit && nat_lt (l.link.credit + open_count l.link) l.link.terms.bounds.allowed
wants_credit credit Waits = false

-- The first handle, from `from` on, whose link lacks credit; None if there is none.
abbrev pub IsFirstLacking : ℕ → ℕ → (ℕ → Slot LiveLink) → Option ℕ → Type 0
IsFirstLacking credit from links None = (h : ℕ) → from ≤ h → wants_credit credit (links h) ≡ false
IsFirstLacking credit from links (Some handle) =
    (from ≤ handle) × (wants_credit credit (links handle) ≡ true) × ((h : ℕ) → from ≤ h → h < handle → wants_credit credit (links h) ≡ false)
