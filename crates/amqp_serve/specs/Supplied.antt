-- Which supplies lack nothing while serving, so that they are passed (AMQP 1.0, part 2, sections 2.5.6 and 2.6.7).
use Rattle.std.specs.Prelude.{◌≡◌, ℕ, suc, ◌<◌, ◌≤◌, Bool, true, false, if◌then◌else◌, List, [], ◌∷◌}
use Rattle.amqp_endpoint.specs.declared.event.Event.TheVariants as event
use Rattle.amqp_endpoint.specs.declared.event.Outcome.{Outcome}
use Rattle.amqp_endpoint.specs.declared.event.Outcome.TheVariants as outcome
use Rattle.amqp_endpoint.specs.Configs.{Configured}
use Rattle.amqp_endpoint.specs.Connections.{ConnectionState, channels}
use Rattle.amqp_serve.specs.declared.rules.Rule.{Rule}
use Rattle.amqp_serve.specs.declared.steps.Course.{Course}
use Rattle.amqp_serve.specs.declared.supplies.Look.{Look}
use Rattle.amqp_serve.specs.declared.supplies.Look.TheVariants as look
use Rattle.amqp_serve.specs.declared.supplies.Supply.{Supply}
use Rattle.amqp_serve.specs.declared.supplies.Supply.TheVariants.{WindowOf, CreditOf}
use Rattle.amqp_serve.specs.Cuts.{supply_channel}
use Rattle.amqp_serve.specs.Serving.{lack}

-- the supply is one of those that are topped up
abbrev pub IsListed : Configured → Supply → Type 0
IsListed config (WindowOf channel) = channel < channels config
IsListed config (CreditOf channel handle) = (channel < channels config) × (handle < suc config.handle_max)

-- no supply lacks anything
abbrev pub IsSupplied : Rule → ConnectionState → Type 0
IsSupplied p s = (x : Supply) → IsListed s.config x → lack p s x ≡ 0

-- if the course says that nothing lacks anything, that is so
abbrev pub IsRight : Course → ConnectionState → Type 0
IsRight course s = course.supplied ≡ true → IsSupplied course.rule s

-- the session on this channel and its links at handles below this number lack nothing
pub record IsSuppliedAt (p : Rule) (handles channel : ℕ) (s : ConnectionState) : Type 0 where
  pub window : lack p s (WindowOf channel) ≡ 0
  pub credit : (handle : ℕ) → handle < handles → lack p s (CreditOf channel handle) ≡ 0

-- only sessions on channels from the first to before the end, and their links, may lack something
abbrev pub IsSuppliedOutside : ℕ → ℕ → Rule → ConnectionState → Type 0
IsSuppliedOutside first end p s = (x : Supply) → IsListed s.config x → (first ≤ supply_channel x → supply_channel x < end → ⊥) → lack p s x ≡ 0

-- the supply is not looked at
abbrev pub IsBeside : Look → Supply → Type 0
IsBeside look.Nothing x = Unit {0}
IsBeside (look.Link channel handle) x = (x ≡ WindowOf channel → ⊥) × (x ≡ CreditOf channel handle → ⊥)
IsBeside (look.Session channel) x = supply_channel x ≡ channel → ⊥
IsBeside look.All x = ⊥

-- what is not looked at lacks nothing
abbrev pub IsSuppliedBut : Look → Rule → ConnectionState → Type 0
IsSuppliedBut look p s = (x : Supply) → IsListed s.config x → IsBeside look x → lack p s x ≡ 0

-- What taking and settling the message that is ready, if there is one, may have changed: its link.
abbrev pub received_look : Outcome → Look
received_look (outcome.Event (event.Ready channel handle)) = look.Link channel handle
received_look told = look.Nothing

abbrev pub is_nil : List ℕ → Bool
is_nil [] = true
is_nil (b ∷ bytes) = false

-- What may lack something after a feed that reported this, and after the message that was ready then, if nothing lacked anything before. That is the link that was named
-- and the window of its session, or all of a session whose deliveries were settled. It is nothing if bytes of a unit wait and no unit came to an end. Otherwise it is
-- all.
abbrev pub told_look : Outcome → Bool → Look
told_look outcome.More false = look.Nothing
told_look (outcome.Event (event.Attached channel handle)) between = look.Link channel handle
told_look (outcome.Event (event.Unfinished channel handle)) between = look.Link channel handle
told_look (outcome.Event (event.Ready channel handle)) between = look.Link channel handle
told_look (outcome.Event (event.Aborted channel handle)) between = look.Link channel handle
told_look (outcome.Event (event.Drained channel handle)) between = look.Link channel handle
told_look (outcome.Event (event.Detached channel handle dropped)) between = look.Link channel handle
told_look (outcome.Event (event.Settled channel count)) between = look.Session channel
told_look told between = look.All

-- all, unless it is known that nothing lacked anything
abbrev pub look_behind : Bool → Outcome → Bool → Look
look_behind supplied told between = if supplied then told_look told between else look.All

-- The configuration is unchanged, and so is what each supply lacks, except those that are looked at.
pub record IsOnlyAt (p : Rule) (look : Look) (old new : ConnectionState) : Type 0 where
  pub config : new.config ≡ old.config
  pub others : (x : Supply) → IsBeside look x → lack p new x ≡ lack p old x

-- the configuration is unchanged, and so is what each supply lacks, except this one
pub record IsOnlyOf (p : Rule) (supply : Supply) (old new : ConnectionState) : Type 0 where
  pub config : new.config ≡ old.config
  pub others : (x : Supply) → (x ≡ supply → ⊥) → lack p new x ≡ lack p old x
