-- What a session and its links lack is given to them by calls of the endpoint, for a host that makes all other calls itself (AMQP 1.0, part 2, sections 2.5.6 and 2.6.7).
use Rattle.std.specs.Prelude.{◌≡◌, ℕ, ◌<◌, ◌/◌, List, [], ◌∷◌, Result, Ok, Err}
use Rattle.amqp_perform.specs.declared.outcome.Outcome.TheVariants.{Accepted as accepted}
use Rattle.amqp_session.specs.declared.slot.Slot.{Slot}
use Rattle.amqp_session.specs.declared.slot.Slot.TheVariants.{Free, Live, Waits as Awaits}
use Rattle.amqp_session.specs.Sessions.{SessionState}
use Rattle.amqp_endpoint.specs.declared.fault.CallFault.{CallFault}
use Rattle.amqp_endpoint.specs.declared.fault.CallFault.TheVariants.{NoSession}
use Rattle.amqp_endpoint.specs.Connections.{ConnectionState, slot_at}
use Rattle.amqp_endpoint.specs.Runs.{Accepted, Refused, Does}
use Rattle.amqp_endpoint.specs.Steps.{EndpointState}
use Rattle.amqp_endpoint.specs.Takings.{link_in}
use Rattle.amqp_serve.specs.declared.rules.Rule.{Rule}
use Rattle.amqp_serve.specs.declared.supplies.Supply.{Supply}
use Rattle.amqp_serve.specs.declared.supplies.Supply.TheVariants.{WindowOf, CreditOf}
use Rattle.amqp_serve.specs.Serving.{Step, window_lack, credit_lack, top_up_by}

-- the rule that tops up a link once at most half of this credit is left
abbrev pub half_rule : ℕ → Rule
half_rule credit = record { credit = credit; mark = credit / 2; outcome = accepted }

-- what a supply lacks, if windows are kept at this many places
abbrev pub lack_by : Rule → ℕ → ConnectionState → Supply → ℕ
lack_by p window s (WindowOf channel) = window_lack window (slot_at s channel)
lack_by p window s (CreditOf channel handle) = credit_lack p (link_in handle (slot_at s channel))

-- Supplies are gone through in their order, from the first list to the second, which are left. Each that lacks something is given it, by one call.
pub data Supplies : Rule → ℕ → List Supply → EndpointState → List Step → List Supply → EndpointState → Type 0 where
  Rests : {p : Rule} {window : ℕ} {supplies : List Supply} {s : EndpointState} → Supplies p window supplies s [] supplies s
  Passes : {p : Rule} {window : ℕ} {left : List Supply} {s last : EndpointState} {steps : List Step} (supply : Supply) (supplies : List Supply)
      → lack_by p window s.connection supply ≡ 0 → Supplies p window supplies s steps left last
      → Supplies p window (supply ∷ supplies) s steps left last
  Gives : {p : Rule} {window : ℕ} {left : List Supply} {s last : EndpointState} {steps : List Step} (next : EndpointState) (supply : Supply) (supplies : List Supply)
      → 0 < lack_by p window s.connection supply → Does s next (top_up_by supply (lack_by p window s.connection supply)) Accepted → Supplies p window supplies next steps left last
      → Supplies p window (supply ∷ supplies) s (record { call = top_up_by supply (lack_by p window s.connection supply); answer = Accepted } ∷ steps) left last

-- all were given what they lacked
pub record GaveAll (p : Rule) (window : ℕ) (supplies : List Supply) (old new : EndpointState) : Type 0 where
  pub steps : List Step
  pub given : Supplies p window supplies old steps [] new

-- Those before one were given what they lacked, and it was refused that.
pub record GaveSome (p : Rule) (window : ℕ) (supplies : List Supply) (f : CallFault) (old new : EndpointState) : Type 0 where
  pub steps : List Step
  pub supply : Supply
  pub left : List Supply
  pub last : EndpointState
  pub given : Supplies p window supplies old steps (supply ∷ left) last
  pub lacks : 0 < lack_by p window last.connection supply
  pub refused : Does last new (top_up_by supply (lack_by p window last.connection supply)) (Refused f)

abbrev pub Gave : Result (Unit {0}) CallFault → Rule → ℕ → List Supply → EndpointState → EndpointState → Type 0
Gave (Ok x) p window supplies old new = GaveAll p window supplies old new
Gave (Err f) p window supplies old new = GaveSome p window supplies f old new

-- the same in a session that is live; if none is, nothing has changed
abbrev pub GaveIn : Slot SessionState → Result (Unit {0}) CallFault → Rule → ℕ → List Supply → EndpointState → EndpointState → Type 0
GaveIn Free r p window supplies old new = (r ≡ Err NoSession) × (new ≡ old)
GaveIn (Live s) r p window supplies old new = Gave r p window supplies old new
GaveIn Awaits r p window supplies old new = (r ≡ Err NoSession) × (new ≡ old)

-- the session on this channel and its links at handles below this number lack nothing
pub record LacksNothing (p : Rule) (window handles channel : ℕ) (s : ConnectionState) : Type 0 where
  pub places : lack_by p window s (WindowOf channel) ≡ 0
  pub credit : (handle : ℕ) → handle < handles → lack_by p window s (CreditOf channel handle) ≡ 0
