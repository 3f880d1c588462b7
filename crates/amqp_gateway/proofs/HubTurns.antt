-- Calls of a hub that a gateway has, and those of a turn.
use Rattle.std.proofs.Common.{ap, sym, subst, inl, inr, arith, ◌∙◌, ◌≡◌, ◌≤◌, Bool, true, Result, Ok, Err}
use Rattle.amqp_hub.specs.declared.keeper.Keeper.{Ghosts}
use Rattle.amqp_hub.specs.declared.keeper.Progress.{Progress}
use Rattle.amqp_hub.specs.Turns.{HubState}
use Rattle.amqp_gateway.specs.Gateways.{GatewayState, IsGoneOn, IsTurned, is_last}
use Rattle.amqp_gateway.specs.HubCalls.{HubCall, Went, HasAnswered, HasTurned, IsTurnOf, takes, tells}
use Rattle.amqp_gateway.specs.declared.settings.Settings.{Settings}
use Rattle.amqp_gateway.specs.declared.gateway.GatewayFault.{GatewayFault}
use Rattle.amqp_gateway.specs.declared.gateway.GatewayFault.TheVariants as fault
use Rattle.amqp_gateway.proofs.HubRuns.{went_on}

pub hub_of : {K : Type 0} (s t : GatewayState K) → s ≡ t → s.hub ≡ t.hub
hub_of {K} s t e = ap (λ (x : GatewayState K). x.hub) e

module _ {K : Type 0} (k : Ghosts K) where
  -- from a hub that is the same
  pub went_from : (may : HubCall → Bool) (a q c : HubState K) → q ≡ a → Went k may q c → Went k may a c
  went_from may a q c e y = subst (λ (h : HubState K). Went k may h c) e y

  pub went_then : (may : HubCall → Bool) (a b q c : HubState K) → Went k may a b → q ≡ b → Went k may q c → Went k may a c
  went_then may a b q c x e y = went_on k may a b c x (went_from may b q c e y)

  -- between hubs that are the same
  pub went_between : (may : HubCall → Bool) (a q p b : HubState K) → q ≡ a → Went k may q p → b ≡ p → Went k may a b
  went_between may a q p b e x f = subst (λ (h : HubState K). Went k may a h) (sym f) (went_from may a q p e x)

  pub answered : (p : Progress) (a s b : HubState K) → s.limit ≡ a.limit → s.members ≡ a.members → k.settles a.keeper p s.keeper → Went k tells s b → HasAnswered k a b
  answered p a s b limit members settles told = record { settled = s; settles = (limit, members, (p, settles)); told = told }

  pub answered_on : (a b c : HubState K) → HasAnswered k a b → Went k tells b c → HasAnswered k a c
  answered_on a b c x y = record { settled = x.settled; settles = x.settles; told = went_on k tells x.settled b c x.told y }

  pub turned : (a b c : HubState K) → Went k takes a b → HasAnswered k b c → HasTurned k a c
  turned a b c x y = record { taken = b; took = x; answered = y }

  pub whole : (r : Result (Unit {0}) GatewayFault) (a b : HubState K) → HasTurned k a b → IsTurnOf k r a b
  whole (Ok u) a b x = x
  whole (Err fault.Poll) a b x = inr x
  whole (Err fault.Sink) a b x = x
  whole (Err fault.NoMemory) a b x = inr x

  pub broken_off : (r : Result (Unit {0}) GatewayFault) (a b : HubState K) → r ≡ Err fault.NoMemory → Went k takes a b → IsTurnOf k r a b
  broken_off r a b e x = subst (λ (q : Result (Unit {0}) GatewayFault). IsTurnOf k q a b) (sym e) (inl x)

-- What a loop leaves, step by step.

pub gone_then : {K : Type 0} (a b c : GatewayState K) → IsGoneOn a b → IsGoneOn b c → IsGoneOn a c
gone_then a b c x y = record { settings = y.settings ∙ x.settings; stopped = y.stopped ∙ x.stopped; accepted = y.accepted ∙ x.accepted; fewer = omega (arith, x.fewer, y.fewer) }

last_on : {K : Type 0} (a b : GatewayState K) → IsGoneOn a b → is_last a ≡ true → is_last b ≡ true
last_on a b x e = rw (x.stopped, x.settings, x.accepted) e

pub turned_then : {K : Type 0} (a b c : GatewayState K) → IsTurned a b → IsTurned b c → IsTurned a c
turned_then a b c x y = record {
  settings = y.settings ∙ x.settings;
  stopped = y.stopped ∙ x.stopped;
  last = λ e. gone_then a b c (x.last e) (y.last (last_on a b (x.last e) e));
  bound = λ few. subst (λ (s : Settings). c.peers ≤ s.peers) x.settings (y.bound (subst (λ (s : Settings). b.peers ≤ s.peers) (sym x.settings) (x.bound few)));
}
