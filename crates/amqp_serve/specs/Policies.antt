-- Serving by a policy: by the rule that tops up a link that has any less than the policy's credit (AMQP 1.0, part 2, section 2.6.7).
use Rattle.std.specs.Prelude.{ℕ, ◌-◌, Bool, List, Option}
use Rattle.amqp_perform.specs.declared.outcome.Outcome.{Outcome}
use Rattle.amqp_endpoint.specs.declared.event.End.{End}
use Rattle.amqp_endpoint.specs.Configs.{Configured}
use Rattle.amqp_endpoint.specs.Steps.{EndpointState}
use Rattle.amqp_serve.specs.declared.rules.Rule.{Rule}
use Rattle.amqp_serve.specs.declared.serving.Policy.{Policy}
use Rattle.amqp_serve.specs.declared.serving.ServeFault.{ServeFault}
use Rattle.amqp_serve.specs.Cuts as cut
use Rattle.amqp_serve.specs.Cuts.{Made}
use Rattle.amqp_serve.specs.Interrupted as refused
use Rattle.amqp_serve.specs.Serving as by
use Rattle.amqp_serve.specs.Serving.{Stand, Step}

abbrev pub rule_of : Policy → Rule
rule_of p = record { credit = p.credit; mark = p.credit - 1; outcome = p.outcome }

-- the rule by which no link gets credit
abbrev pub without_credit : Outcome → Rule
without_credit outcome = record { credit = 0; mark = 0; outcome = outcome }

abbrev pub Serves : Policy → Stand → EndpointState → List Step → Stand → EndpointState → Type 0
Serves p a s steps b t = by.Serves (rule_of p) a s steps b t

abbrev pub BrokeOff : Policy → ServeFault → Stand → List ℕ → EndpointState → EndpointState → Option (List ℕ) → Option (List ℕ) → Option (List ℕ) → Option (List ℕ) → Type 0
BrokeOff p e a bytes old new held now kept keeps = by.BrokeOff (rule_of p) e a bytes old new held now kept keeps

abbrev pub IsServed : Policy → End → List ℕ → Bool → EndpointState → EndpointState → Option (List ℕ) → Option (List ℕ) → Option (List ℕ) → Option (List ℕ) → Type 0
IsServed p end bytes ended old new held now kept keeps = by.IsServed (rule_of p) end bytes ended old new held now kept keeps

abbrev pub IsMade : Policy → Configured → List ℕ → Made → End → Type 0
IsMade p config bytes made end = cut.IsMade (rule_of p) config bytes made end

abbrev pub Interrupted : Policy → EndpointState → Option (List ℕ) → Option (List ℕ) → List Step → EndpointState → Option (List ℕ) → Option (List ℕ) → Type 0
Interrupted p old held kept steps new now keeps = refused.Interrupted (rule_of p) old held kept steps new now keeps
