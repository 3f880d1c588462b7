-- Which calls a gateway makes of its hub, what each does to it, and in which order they come in a turn.
use Rattle.std.specs.Prelude.{◌≡◌, ◌<◌, ◌⊎◌, ℕ, Bool, true, false, List, [], ◌∷◌, Result, Ok, Err}
use Rattle.std.specs.List.{AllPass}
use Rattle.slab.specs.Slab.{get, slab_len}
use Rattle.amqp_endpoint.specs.Configs.{Configured}
use Rattle.amqp_endpoint.specs.declared.event.End.{End}
use Rattle.amqp_serve.specs.declared.rules.Rule.{Rule}
use Rattle.amqp_serve.specs.declared.steps.Stepped.{Stepped}
use Rattle.amqp_serve.specs.Servers.{status_after}
use Rattle.amqp_hub.specs.declared.keeper.Progress.{Progress}
use Rattle.amqp_hub.specs.Links.{IsAskedAt, IsSilencedAt, IsToppedUpAt}
use Rattle.amqp_reason.specs.Reasons.{Reason}
use Rattle.amqp_session.specs.Calls as session
use Rattle.amqp_session.specs.Calls.{Refuse}
use Rattle.amqp_hub.specs.declared.keeper.Keeper.{Ghosts}
use Rattle.amqp_hub.specs.Turns.{HubState, IsOpened, HearsTo, IsRuledAt, IsDueAt, SendsAt, IsBeatAt, IsEndedAt, IsClosedAt, IsGone, AreAlike}
use Rattle.amqp_gateway.specs.declared.gateway.GatewayFault.{GatewayFault}
use Rattle.amqp_gateway.specs.declared.gateway.GatewayFault.TheVariants as fault

pub data HubCall : Type 0 where
  Opened : ℕ → ℕ → HubCall  -- a connection was opened under this key, and has this number
  Heard : ℕ → List ℕ → HubCall  -- the connection under this key made a step with the first bytes of these
  Ruled : ℕ → HubCall  -- the connection under this key is served by another rule from its next step on
  MadeRoom : HubCall  -- the keeper was asked to make room for records
  Settled : HubCall  -- the keeper was asked to take all records for good
  Sent : ℕ → ℕ → HubCall  -- so many of the bytes that waited for the peer under this key were sent
  Beaten : ℕ → HubCall  -- an empty frame was requested for the peer under this key
  Ended : ℕ → HubCall  -- the input of the connection under this key ended
  Closed : ℕ → HubCall  -- the connection under this key was closed by this side
  Removed : ℕ → HubCall  -- the connection under this key was removed
  Refused : HubCall  -- a call was refused
  LinkRefused : ℕ → ℕ → ℕ → HubCall  -- the link at a channel and handle of the connection under this key was refused
  ToppedUp : ℕ → ℕ → ℕ → HubCall  -- it got what it lacked of some credit
  Silenced : ℕ → HubCall  -- memory was refused for the answer to such a call, and the connection under this key hears nothing any more

-- as many connections may be open, and the records are as they were
pub record IsStill {K : Type 0} (old new : HubState K) : Type 0 where
  pub limit : new.limit ≡ old.limit
  pub keeper : new.keeper ≡ old.keeper

-- what a call does to a hub with such a keeper
abbrev pub Does : {K : Type 0} → Ghosts K → HubCall → HubState K → HubState K → Type 0
Does k (Opened key number) old new = IsStill old new × ((r : Rule) × (config : Configured) × IsOpened r config number old.members new.members key) × (slab_len old.members < old.limit)
Does k (Heard key piece) old new =
    (new.limit ≡ old.limit) × (k.roomy old.keeper ≡ true) × ((s : Stepped) × (noted : List ℕ) × HearsTo k.accepts (status_after s.done) old.members new.members key piece s noted old.keeper new.keeper)
Does k (Ruled key) old new = IsStill old new × ((r : Rule) × IsRuledAt old.members new.members key r)
Does k MadeRoom old new = (new.limit ≡ old.limit) × (new.members ≡ old.members) × ((p : Progress) × k.makes_room old.keeper p new.keeper)
Does k Settled old new = (new.limit ≡ old.limit) × (new.members ≡ old.members) × ((p : Progress) × k.settles old.keeper p new.keeper)
Does k (Sent key n) old new = IsStill old new × (k.settled old.keeper ≡ true) × IsDueAt (get old.members key) n × SendsAt (get old.members key) old.members new.members key n
Does k (Beaten key) old new = IsStill old new × IsBeatAt old.members new.members key
Does k (Ended key) old new = IsStill old new × ((how : End) × IsEndedAt old.members new.members key how)
Does k (Closed key) old new = IsStill old new × IsClosedAt old.members new.members key
Does k (Removed key) old new = IsStill old new × IsGone old.members new.members key
Does k Refused old new = IsStill old new × AreAlike old.members new.members
Does k (LinkRefused key channel handle) old new = IsStill old new × ((r : Reason) × IsAskedAt old.members new.members key channel (Refuse handle r))
Does k (ToppedUp key channel handle) old new = IsStill old new × ((most n : ℕ) × IsToppedUpAt old.members new.members key channel handle most n)
Does k (Silenced key) old new = IsStill old new × ((channel : ℕ) × (c : session.Call) × IsSilencedAt old.members new.members key channel c)

-- these calls were made, one after the other, and no other
abbrev pub Ran : {K : Type 0} → Ghosts K → List HubCall → HubState K → HubState K → Type 0
Ran k [] old new = new ≡ old
Ran {K} k (x ∷ calls) old new = (next : HubState K) × Does k x old next × Ran k calls next new

-- each call that was made is one of those that may be
pub record Went {K : Type 0} (k : Ghosts K) (may : HubCall → Bool) (old new : HubState K) : Type 0 where
  pub calls : List HubCall
  pub ran : Ran k calls old new
  pub each : AllPass may calls

-- what may come at any time: a removal, and a call that was refused
abbrev pub parts : HubCall → Bool
parts (Removed key) = true
parts Refused = true
parts x = false

-- what comes before the settling of a turn: connections are opened, pieces heard, rules changed, room made, inputs ended
abbrev pub takes : HubCall → Bool
takes (Opened key number) = true
takes (Heard key piece) = true
takes (Ruled key) = true
takes MadeRoom = true
takes (Ended key) = true
takes (Removed key) = true
takes Refused = true
takes (LinkRefused key channel handle) = true
takes (ToppedUp key channel handle) = true
takes (Silenced key) = true
takes x = false

-- what comes after it: bytes are sent, empty frames requested, connections closed
abbrev pub tells : HubCall → Bool
tells (Sent key n) = true
tells (Beaten key) = true
tells (Closed key) = true
tells (Removed key) = true
tells Refused = true
tells x = false

-- all records were to be taken for good, and only then peers were told
pub record HasAnswered {K : Type 0} (k : Ghosts K) (old new : HubState K) : Type 0 where
  pub settled : HubState K
  pub settles : Does k Settled old settled
  pub told : Went k tells settled new

-- what came was taken, then all records were to be taken for good, and only then peers were told
pub record HasTurned {K : Type 0} (k : Ghosts K) (old new : HubState K) : Type 0 where
  pub taken : HubState K
  pub took : Went k takes old taken
  pub answered : HasAnswered k taken new

-- Which calls a turn made. It broke off before the settling only if the gateway itself could not go on.
abbrev pub IsTurnOf : {K : Type 0} → Ghosts K → Result (Unit {0}) GatewayFault → HubState K → HubState K → Type 0
IsTurnOf k (Ok u) old new = HasTurned k old new
IsTurnOf k (Err fault.Sink) old new = HasTurned k old new
IsTurnOf k (Err fault.Poll) old new = Went k takes old new ⊎ HasTurned k old new
IsTurnOf k (Err fault.NoMemory) old new = Went k takes old new ⊎ HasTurned k old new
