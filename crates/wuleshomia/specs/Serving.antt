-- What a step of serving does to the endpoint that C holds, and to the records and the answers that wait for C.
use Rattle.std.specs.Prelude.{◌≡◌, ℕ, ◌≤◌, ◌++◌, Bool, false, true, nat_lt, if◌then◌else◌, List, [], length, take, drop, Option, None, Some, Result, Err}
use Rattle.amqp_serve.specs.declared.rules.Rule.{Rule}
use Rattle.amqp_serve.specs.declared.serving.ServeFault.{ServeFault}
use Rattle.amqp_serve.specs.declared.serving.ServeFault.TheVariants as fault
use Rattle.amqp_serve.specs.declared.steps.Done.{Done}
use Rattle.amqp_serve.specs.declared.steps.Stepped.{Stepped}
use Rattle.amqp_serve.specs.Deeds.{IsStepped, Reaches}
use Rattle.amqp_serve.specs.Servers.{lost_by}
use Rattle.amqp_perform.specs.declared.outcome.Outcome.{Outcome as Settlement}
use Rattle.wuleshomia.specs.declared.data.ServeRule.{ServeRule}
use Rattle.wuleshomia.specs.declared.data.StepReport.{StepReport}
use Rattle.wuleshomia.specs.declared.held.Held.{Held}
use Rattle.wuleshomia.specs.Codes.{outcome_at, IsDoneAs, IsStepTold, lost_code}
use Rattle.wuleshomia.specs.Exports.{next_of}

-- the rule, with the outcome of messages
abbrev pub rule_of : ServeRule → Settlement → Rule
rule_of r outcome = record { credit = r.credit; mark = r.mark; outcome = outcome }

-- the records that wait
abbrev pub records_in : Option Held → List ℕ
records_in None = []
records_in (Some held) = held.records

-- the first of them were moved out
abbrev pub without_records : ℕ → Held → Held
without_records n held = record held { records = drop n held.records }

-- Why a step is refused: an answer or a record is lost, else bytes for the peer or records wait to be moved out.
abbrev pub unsent_refusal : List ℕ → Option ℕ
unsent_refusal bytes = if nat_lt 0 (length bytes) then Some 28 else None

abbrev pub lost_refusal : Option ServeFault → Option ℕ → Option ℕ
lost_refusal None otherwise = otherwise
lost_refusal (Some x) otherwise = Some (lost_code x)

abbrev pub serve_refusal : Held → Option ℕ
serve_refusal held = lost_refusal held.lost (unsent_refusal (next_of held.answers held.endpoint.unsent ++ held.records))

-- an answer was lost, or a record
abbrev pub loses_an_answer : Result Done ServeFault → Bool
loses_an_answer (Err fault.Write) = true
loses_an_answer _ = false

abbrev pub loses_a_record : Result Done ServeFault → Bool
loses_a_record (Err fault.Sink) = true
loses_a_record _ = false

-- A step was made with the first bytes of a piece, up to the end of the unit that is due or of the piece. What it wrote are the answers that wait then, what it recorded the records.
pub record HasServed (r : Rule) (piece : List ℕ) (s : Stepped) (before after : Held) : Type 0 where
  pub rest : after.message ≡ before.message
  pub lost : after.lost ≡ lost_by s.done
  pub bound : s.used ≤ length piece
  pub reaches : Reaches before.endpoint piece s.used
  pub stepped : IsStepped r (take s.used piece) s.told s.done before.endpoint after.endpoint
      (record { writer = Some []; sink = Some []; writer_failed = false; sink_failed = false })
      (record { writer = Some after.answers; sink = Some after.records; writer_failed = loses_an_answer s.done; sink_failed = loses_a_record s.done })

-- A step was made with the first bytes of a piece, and is reported so.
pub record IsServed (r : Rule) (piece : List ℕ) (code : ℕ) (report : StepReport) (before after : Held) : Type 0 where
  pub done : Result Done ServeFault
  pub told : IsDoneAs done code report
  pub all : IsStepTold report
  pub served : HasServed r piece (record { used = report.fed.used; told = outcome_at report.fed; done = done }) before after

abbrev pub ServesAs : Option ℕ → Rule → List ℕ → ℕ → StepReport → StepReport → Held → Held → Type 0
ServesAs None r piece code old report before after = IsServed r piece code report before after
ServesAs (Some refusal) r piece code old report before after = (code ≡ refusal) × (report ≡ old) × (after ≡ before)

abbrev pub Serves : Rule → List ℕ → ℕ → StepReport → StepReport → Held → Held → Type 0
Serves r piece code old report before after = ServesAs (serve_refusal before) r piece code old report before after
