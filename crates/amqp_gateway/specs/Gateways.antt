-- What a gateway is between two turns, and what a turn leaves.
use Rattle.std.specs.Prelude.{◌≡◌, ℕ, ◌+◌, ◌≤◌, ◌<◌, ◌==◌, ◌&&◌, ◌||◌, nat_lt, nat_le, Bool, true, false, Option, Some, None, IsSome, Result, Ok, Err}
use Rattle.amqp_hub.specs.declared.keeper.Keeper.{Ghosts}
use Rattle.amqp_hub.specs.Turns.{HubState}
use Rattle.amqp_endpoint.specs.declared.event.End.{End}
use Rattle.amqp_endpoint.specs.declared.event.End.TheVariants as end
use Rattle.amqp_gateway.specs.declared.counts.Counts.{Counts}
use Rattle.amqp_gateway.specs.declared.ending.Ending.{Ending}
use Rattle.amqp_gateway.specs.declared.ending.Ending.TheVariants as ending
use Rattle.amqp_gateway.specs.declared.settings.Settings.{Settings}
use Rattle.amqp_gateway.specs.declared.gateway.GatewayFault.{GatewayFault}
use Rattle.amqp_gateway.specs.declared.gateway.GatewayFault.TheVariants as fault

-- how a connection ended whose endpoint stood so at the end of its input
abbrev pub ending_of : End → Ending
ending_of end.Closed = ending.Closed
ending_of end.Failed = ending.Failed
ending_of end.Between = ending.Between
ending_of (end.Inside n) = ending.Inside

-- its settings, what it counted, its hub, whose keeper has the records that wait, how many peers there are, and since when it is to end, if it is to
pub record GatewayState (K : Type 0) : Type 0 where
  pub settings : Settings
  pub counts : Counts
  pub hub : HubState K
  pub peers : ℕ
  pub stopped : Option ℕ

abbrev pub is_some : Option ℕ → Bool
is_some None = false
is_some (Some n) = true

-- no more peers are accepted: it is to end, or has accepted as many as it was to
abbrev pub is_last : {K : Type 0} → GatewayState K → Bool
is_last s = is_some s.stopped || (nat_lt 0 s.settings.connections && nat_le s.settings.connections s.counts.accepted)

-- no more peers are accepted, and none is left
abbrev pub is_done : {K : Type 0} → GatewayState K → Bool
is_done s = is_last s && (s.peers == 0)

-- one peer more may be accepted
pub record MayOpen {K : Type 0} (s : GatewayState K) : Type 0 where
  pub goes_on : is_last s ≡ false
  pub room : s.peers < s.settings.peers

-- a new gateway: of these settings and this keeper, without peers
pub record IsNewGateway {K : Type 0} (asked : Settings) (given : K) (s : GatewayState K) : Type 0 where
  pub settings : s.settings ≡ asked
  pub none : s.peers ≡ 0
  pub stopped : s.stopped ≡ None
  pub accepted : s.counts.accepted ≡ 0
  pub keeper : s.hub.keeper ≡ given

-- it is to end, from now on if it was not before, and nothing else changed
pub record IsStopping {K : Type 0} (old new : GatewayState K) : Type 0 where
  pub settings : new.settings ≡ old.settings
  pub counts : new.counts ≡ old.counts
  pub hub : new.hub ≡ old.hub
  pub peers : new.peers ≡ old.peers
  pub stopped : IsSome new.stopped
  pub once : IsSome old.stopped → new.stopped ≡ old.stopped

-- no peer was accepted
pub record IsGoneOn {K : Type 0} (old new : GatewayState K) : Type 0 where
  pub settings : new.settings ≡ old.settings
  pub stopped : new.stopped ≡ old.stopped
  pub accepted : new.counts.accepted ≡ old.counts.accepted
  pub fewer : new.peers ≤ old.peers

-- If it is to end, or has accepted as many as it was to, no peer was accepted. There are never more peers than there may be.
pub record IsTurned {K : Type 0} (old new : GatewayState K) : Type 0 where
  pub settings : new.settings ≡ old.settings
  pub stopped : new.stopped ≡ old.stopped
  pub last : is_last old ≡ true → IsGoneOn old new
  pub bound : old.peers ≤ old.settings.peers → new.peers ≤ old.settings.peers

-- At most one peer more is there.
pub record IsPlaced {K : Type 0} (old new : GatewayState K) : Type 0 where
  pub settings : new.settings ≡ old.settings
  pub stopped : new.stopped ≡ old.stopped
  pub counts : new.counts ≡ old.counts
  pub bound : new.peers ≤ old.peers + 1

-- Once a sink has failed no peer is left.
abbrev pub LeavesNone : {K : Type 0} → Result (Unit {0}) GatewayFault → GatewayState K → Type 0
LeavesNone (Err fault.Sink) s = s.peers ≡ 0
LeavesNone (Err fault.Poll) s = Unit {0}
LeavesNone (Err fault.NoMemory) s = Unit {0}
LeavesNone (Ok u) s = Unit {0}
