-- What was granted in each life of a link.
use Rattle.std.proofs.Common.{arith, ◌≡◌, ℕ, ◌+◌, ◌⊎◌, inl, inr, Bool, true, false, List, [], ◌∷◌, refl, ap, ◌∙◌, Option, Some, None}
use Rattle.std.specs.Prelude.{if◌then◌else◌, nat_eq}
use Rattle.std.proofs.lemmas.List.Sums.{sum_by-cons}
use Rattle.amqp_link.specs.Links.{LinkEvent}
use Rattle.amqp_link.specs.Histories.{granted_by, grants}
use Rattle.amqp_session.specs.declared.slot.Slot.TheVariants.{Live}
use Rattle.amqp_session.specs.Laws.{granted_in}
use Rattle.amqp_session.specs.Places.{Happens, GoesOn}
use Rattle.amqp_session.specs.Sessions as of_session
use Rattle.amqp_session.specs.Sessions.{Attached}
use Rattle.amqp_endpoint.specs.Connections as event
use Rattle.amqp_endpoint.specs.Connections.{ConnectionEvent}
use Rattle.amqp_endpoint.specs.Credits.{granted_on, granted_since}
use Rattle.amqp_endpoint.specs.Histories.{part}
use Rattle.amqp_endpoint.specs.Takings.{attaches_on, link_part}
use Rattle.amqp_endpoint.proofs.LinkLives.{more, goes_there, event_at, went_on}

-- what the event of a link grants, if there is one
abbrev granted_of : Option LinkEvent → ℕ
granted_of None = 0
granted_of (Some x) = granted_by x

more_granted : (o : Option LinkEvent) (h : List LinkEvent) → grants (more o h) ≡ grants h + granted_of o
more_granted None h = omega arith
more_granted (Some x) h = omega (arith, sum_by-cons granted_by x h)

either_granted : (b : Bool) (o : Option LinkEvent) → (if b then granted_of o else 0) ≡ granted_of (if b then o else None)
either_granted true o = refl
either_granted false o = refl

granted_there : (k : ℕ) (x : Happens Attached LinkEvent) → granted_in k x ≡ granted_of (goes_there k x)
granted_there k (GoesOn place e) = either_granted (nat_eq place k) (Some e)
granted_there k x = refl

granted_is : (channel handle : ℕ) (e : ConnectionEvent) → granted_on channel handle e ≡ granted_of (event_at channel handle e)
granted_is channel handle (event.InSession place e) =
    ap (λ (n : ℕ). if nat_eq place channel then n else 0) (granted_there handle (of_session.happens e)) ∙ either_granted (nat_eq place channel) (goes_there handle (of_session.happens e))
granted_is channel handle e = refl

since : (b : Bool) (n m : ℕ) (g : ℕ) → ((b ≡ true) × (g ≡ 0)) ⊎ ((b ≡ false) × (g ≡ m + n)) → g ≡ (if b then 0 else m + n)
since true n m g (inl x) = x.1
since true n m g (inr x) = absurd (grind (arith, x.0))
since false n m g (inl x) = absurd (grind (arith, x.0))
since false n m g (inr x) = x.1

-- what was granted in the life of a link is the sum over the events since its attach
pub grants_of_life : (channel handle : ℕ) (h : List ConnectionEvent) (a : Attached) (past : List LinkEvent) → link_part channel handle h ≡ Live (a, past) → grants past ≡ granted_since channel handle h
grants_of_life channel handle [] a past is = absurd (grind (arith, is))
grants_of_life channel handle (e ∷ h) a past is =
    since (attaches_on channel handle e) (granted_on channel handle e) (granted_since channel handle h) (grants past)
    (elim (went_on channel handle e (part channel h) a past is) [
      | inl x ↦ inl (x.0, ap (λ (l : List LinkEvent). grants l) x.1)
      | inr x ↦ inr (
        x.0,
        omega (
          arith,
          ap (λ (l : List LinkEvent). grants l) x.3,
          more_granted (event_at channel handle e) x.1,
          granted_is channel handle e,
          grants_of_life channel handle h a x.1 x.2,
        ),
      )
    ])
