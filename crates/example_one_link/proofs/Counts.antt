-- One call more of a receiver's endpoint.
use Rattle.std.proofs.Common.{◌≡◌, ℕ, ◌+◌, ◌≤◌, Result, Ok, Err, refl, sym, subst}
use Rattle.amqp_endpoint.specs.declared.event.Outcome as fed
use Rattle.amqp_endpoint.specs.declared.event.Outcome.TheVariants as told
use Rattle.amqp_endpoint.specs.declared.fault.CallFault.{CallFault}
use Rattle.amqp_endpoint.specs.Endpoints.{accepted_by}
use Rattle.amqp_perform.specs.declared.outcome.Outcome.{Outcome}
use Rattle.amqp_session.specs.Calls.{Settle}
use Rattle.amqp_endpoint.specs.Configs.{Configured}
use Rattle.amqp_endpoint.specs.Runs.{Call, InSession, Answer, Does}
use Rattle.amqp_endpoint.specs.Steps.{EndpointState}
use Rattle.amqp_endpoint.specs.Traces.{IsInRange, told_by, event_in}
use Rattle.amqp_endpoint.specs.Uses.{granted_over, messages_over, IsUsed}
use Rattle.example_one_link.specs.Counted.{IsCounted}

-- what the endpoint offers: each call adds what it granted and took (law uses_are_counted), and leaves the configuration (law uses_are_bounded)
abbrev pub UsesGoOn : Type 0
UsesGoOn = (config : Configured) (channel handle granted got : ℕ) (old new : EndpointState) (c : Call) (a : Answer) → IsUsed config channel handle granted got old → IsInRange c →
    Does old new c a → IsUsed config channel handle (granted + granted_over channel handle (told_by c a)) (got + messages_over channel handle (told_by c a)) new

abbrev pub UsesKeep : Type 0
UsesKeep = (config : Configured) (channel handle granted got : ℕ) (s : EndpointState) → IsUsed config channel handle granted got s → s.connection.config ≡ config

-- a receiver whose endpoint made one call more
pub record GoesOn (old new : EndpointState) (credit granted got : ℕ) : Type 0 where
  pub counted : IsCounted new credit granted got
  pub config : new.connection.config ≡ old.connection.config

-- its numbers are right, if it adds as much to them as the call granted and took
pub counted_on : UsesGoOn → UsesKeep → (old new : EndpointState) (credit granted got more after : ℕ) (c : Call) (a : Answer) → IsCounted old credit granted got → IsInRange c → Does old new c a →
    granted + granted_over 0 0 (told_by c a) ≡ more → got + messages_over 0 0 (told_by c a) ≡ after → more ≤ credit → GoesOn old new credit more after
counted_on law keep old new credit granted got more after c a x range does grants takes most =
    let config = old.connection.config in
    let used = subst (λ (n : ℕ). IsUsed config 0 0 n after new) grants
    (subst (λ (n : ℕ). IsUsed config 0 0 (granted + granted_over 0 0 (told_by c a)) n new) takes (law config 0 0 granted got old new c a x.used range does)) in
    let same = keep config 0 0 more after new used in
    record { counted = record { used = subst (λ (k : Configured). IsUsed k 0 0 more after new) (sym same) used; most = most }; config = same }

-- a feed grants nothing and takes nothing
pub fed_adds : (o : fed.Outcome) → (granted_over 0 0 (event_in o) ≡ 0) × (messages_over 0 0 (event_in o) ≡ 0)
fed_adds (told.Event e) = (refl, refl)
fed_adds o = (refl, refl)

-- nor does a settle
pub settle_adds : (id : ℕ) (outcome : Outcome) (r : Result (Unit {0}) CallFault) → (granted_over 0 0 (told_by (InSession 0 (Settle id outcome)) (accepted_by r)) ≡ 0)
    × (messages_over 0 0 (told_by (InSession 0 (Settle id outcome)) (accepted_by r)) ≡ 0)
settle_adds id outcome (Ok x) = (refl, refl)
settle_adds id outcome (Err fault) = (refl, refl)
