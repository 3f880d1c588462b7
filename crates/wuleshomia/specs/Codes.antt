-- What the numbers that C and the library exchange stand for.
use Rattle.std.specs.Prelude.{◌≡◌, ℕ, true, false, nat_eq, if◌then◌else◌, List, [], Option, None, Some, Result, Ok, Err}
use Rattle.amqp_perform.specs.declared.condition.Condition.{Condition}
use Rattle.amqp_perform.specs.declared.condition.Condition.TheVariants as condition
use Rattle.amqp_perform.specs.declared.outcome.Outcome.{Outcome as Settlement}
use Rattle.amqp_perform.specs.declared.outcome.Outcome.TheVariants as settlement
use Rattle.amqp_perform.specs.Addresses.{Node, Named, Made, Nameless, NoNode, OtherNode}
use Rattle.amqp_endpoint.specs.declared.event.End.{End}
use Rattle.amqp_endpoint.specs.declared.event.End.TheVariants as end
use Rattle.amqp_endpoint.specs.declared.event.Event.{Event}
use Rattle.amqp_endpoint.specs.declared.event.Event.TheVariants as event
use Rattle.amqp_endpoint.specs.declared.event.Outcome.{Outcome}
use Rattle.amqp_endpoint.specs.declared.event.Outcome.TheVariants as outcome
use Rattle.amqp_endpoint.specs.declared.event.Scope.{Scope}
use Rattle.amqp_endpoint.specs.declared.event.Scope.TheVariants as scope
use Rattle.amqp_endpoint.specs.declared.fault.CallFault.{CallFault}
use Rattle.amqp_endpoint.specs.declared.fault.CallFault.TheVariants as fault
use Rattle.amqp_endpoint.specs.declared.limits.LimitFault.TheVariants as limit
use Rattle.amqp_endpoint.specs.Runs.{Answer, Accepted, Dropped, Named, Refused}
use Rattle.amqp_serve.specs.declared.serving.ServeFault.{ServeFault}
use Rattle.amqp_serve.specs.declared.serving.ServeFault.TheVariants as lost
use Rattle.amqp_serve.specs.declared.steps.Received.{Received}
use Rattle.amqp_serve.specs.declared.steps.Receipt.{Receipt}
use Rattle.amqp_serve.specs.declared.steps.Receipt.TheVariants as receipt
use Rattle.amqp_serve.specs.declared.steps.Done.{Done}
use Rattle.amqp_serve.specs.declared.supplies.Topped.{Topped}
use Rattle.wuleshomia.specs.declared.codes.OpenFault.{OpenFault}
use Rattle.wuleshomia.specs.declared.codes.OpenFault.TheVariants as refused
use Rattle.wuleshomia.specs.declared.data.FedReport.{FedReport}
use Rattle.wuleshomia.specs.declared.data.StepReport.{StepReport}

-- The address of a target. --------------------------------------------------------------------------------------------

-- the address that a node has
abbrev pub name_of : Node → List ℕ
name_of (Named name) = name
name_of _ = []

-- what a number stands for, with this address [3.5.4]
abbrev pub address_at : ℕ → List ℕ → Node
address_at n name =
    if nat_eq n 0 then Named name
    else if nat_eq n 1 then Made
    else if nat_eq n 2 then Nameless
    else if nat_eq n 3 then NoNode
    else OtherNode

-- Calls. --------------------------------------------------------------------------------------------------------------

-- The fault that a code stands for. Numbers that are no code never come: see `answer_code`.
abbrev pub fault_at : ℕ → CallFault
fault_at n =
    if nat_eq n 1 then fault.Dead
    else if nat_eq n 2 then fault.NotOpen
    else if nat_eq n 3 then fault.NoSession
    else if nat_eq n 4 then fault.NoLink
    else if nat_eq n 5 then fault.NoDelivery
    else if nat_eq n 6 then fault.NotTaken
    else if nat_eq n 7 then fault.AlreadyTold
    else if nat_eq n 8 then fault.MixedModes
    else if nat_eq n 9 then fault.NothingReady
    else if nat_eq n 10 then fault.TooMuchCredit
    else if nat_eq n 11 then fault.WindowTooWide
    else if nat_eq n 12 then fault.Full
    else fault.BadError

-- the code of a fault
abbrev pub fault_code : CallFault → ℕ
fault_code fault.Dead = 1
fault_code fault.NotOpen = 2
fault_code fault.NoSession = 3
fault_code fault.NoLink = 4
fault_code fault.NoDelivery = 5
fault_code fault.NotTaken = 6
fault_code fault.AlreadyTold = 7
fault_code fault.MixedModes = 8
fault_code fault.NothingReady = 9
fault_code fault.TooMuchCredit = 10
fault_code fault.WindowTooWide = 11
fault_code fault.Full = 12
fault_code fault.BadError = 13

-- the code of a call's answer: 0, or that of the fault for which it was refused
abbrev pub answer_code : Answer → ℕ
answer_code (Refused f) = fault_code f
answer_code answer = 0

-- the answer that the code of a call that gives nothing stands for
abbrev pub accepted_at : ℕ → Answer
accepted_at code = if nat_eq code 0 then Accepted else Refused (fault_at code)

-- the same as a result
abbrev pub given_at : ℕ → Result (Unit {0}) CallFault
given_at code = if nat_eq code 0 then Ok tt else Err (fault_at code)

-- the answer that the code of a call that gives a count stands for
abbrev pub dropped_at : ℕ → ℕ → Answer
dropped_at code count = if nat_eq code 0 then Dropped count else Refused (fault_at code)

abbrev pub named_at : ℕ → ℕ → Answer
named_at code count = if nat_eq code 0 then Named count else Refused (fault_at code)

-- a look-up: what was found is stored; if nothing was, the code is this one, and the place for it is unchanged
abbrev pub Found : Option ℕ → ℕ → ℕ → ℕ → ℕ → Type 0
Found (Some n) none code old new = (code ≡ 0) × (new ≡ n)
Found None none code old new = (code ≡ none) × (new ≡ old)

-- the result of a look-up as one value
abbrev pub found_at : ℕ → ℕ → Option ℕ
found_at code number = if nat_eq code 0 then Some number else None

-- why no endpoint was set up, and which row of the limits is at fault
abbrev pub open_fault_at : ℕ → ℕ → OpenFault
open_fault_at code row =
    if nat_eq code 21 then refused.NoMemory
    else if nat_eq code 22 then refused.InUse
    else if nat_eq code 23 then refused.Settings
    else if nat_eq code 24 then refused.Limits limit.TooMany
    else if nat_eq code 25 then refused.Limits (limit.BadRow row)
    else refused.Limits (limit.SamePrefix row)

-- the outcome that a number stands for
abbrev pub settlement_at : ℕ → Option Settlement
settlement_at n =
    if nat_eq n 0 then Some settlement.Accepted
    else if nat_eq n 1 then Some settlement.Rejected
    else if nat_eq n 2 then Some settlement.Released
    else if nat_eq n 3 then Some (settlement.Modified false false)
    else if nat_eq n 4 then Some (settlement.Modified true false)
    else if nat_eq n 5 then Some (settlement.Modified false true)
    else if nat_eq n 6 then Some (settlement.Modified true true)
    else None

-- how a connection ended
abbrev pub end_at : ℕ → ℕ → End
end_at code inside =
    if nat_eq code 1 then end.Failed
    else if nat_eq code 2 then end.Closed
    else if nat_eq code 3 then end.Inside inside
    else end.Between

-- What bytes resulted in. ----------------------------------------------------------------------------------------------

abbrev pub condition_at : ℕ → Condition
condition_at n =
    if nat_eq n 1 then condition.FramingError
    else if nat_eq n 2 then condition.DecodeError
    else if nat_eq n 3 then condition.InvalidField
    else if nat_eq n 4 then condition.IllegalState
    else if nat_eq n 5 then condition.NotImplemented
    else if nat_eq n 6 then condition.ResourceLimitExceeded
    else if nat_eq n 7 then condition.FrameSizeTooSmall
    else if nat_eq n 8 then condition.WindowViolation
    else if nat_eq n 9 then condition.HandleInUse
    else if nat_eq n 10 then condition.UnattachedHandle
    else if nat_eq n 11 then condition.TransferLimitExceeded
    else if nat_eq n 12 then condition.MessageSizeExceeded
    else condition.Other

abbrev pub scope_at : FedReport → Scope
scope_at f =
    if nat_eq f.scope 1 then scope.Connection
    else if nat_eq f.scope 2 then scope.Session f.channel
    else scope.Link f.channel f.handle

abbrev pub event_at : FedReport → Event
event_at f =
    if nat_eq f.event 1 then event.Opened
    else if nat_eq f.event 2 then event.Begun f.channel
    else if nat_eq f.event 3 then event.Attached f.channel f.handle
    else if nat_eq f.event 4 then event.Unfinished f.channel f.handle
    else if nat_eq f.event 5 then event.Ready f.channel f.handle
    else if nat_eq f.event 6 then event.Aborted f.channel f.handle
    else if nat_eq f.event 7 then event.Drained f.channel f.handle
    else if nat_eq f.event 8 then event.Settled f.channel f.count
    else if nat_eq f.event 9 then event.Detached f.channel f.handle f.count
    else if nat_eq f.event 10 then event.Ended f.channel f.count
    else if nat_eq f.event 11 then event.Closed f.count
    else event.Failed (scope_at f) (condition_at f.condition) f.count

abbrev pub outcome_at : FedReport → Outcome
outcome_at f =
    if nat_eq f.outcome 1 then outcome.More
    else if nat_eq f.outcome 2 then outcome.Event (event_at f)
    else if nat_eq f.outcome 3 then outcome.Blocked
    else if nat_eq f.outcome 4 then outcome.NoMemory
    else outcome.Dead

abbrev pub condition_code : Condition → ℕ
condition_code condition.Other = 0
condition_code condition.FramingError = 1
condition_code condition.DecodeError = 2
condition_code condition.InvalidField = 3
condition_code condition.IllegalState = 4
condition_code condition.NotImplemented = 5
condition_code condition.ResourceLimitExceeded = 6
condition_code condition.FrameSizeTooSmall = 7
condition_code condition.WindowViolation = 8
condition_code condition.HandleInUse = 9
condition_code condition.UnattachedHandle = 10
condition_code condition.TransferLimitExceeded = 11
condition_code condition.MessageSizeExceeded = 12

-- the report of an outcome that is no event, of an event, and of an end with an error
abbrev pub plain_report : ℕ → FedReport
plain_report outcome = record { used = 0; outcome = outcome; event = 0; channel = 0; handle = 0; count = 0; scope = 0; condition = 0; reserved = 0 }

abbrev pub event_report : ℕ → ℕ → ℕ → ℕ → FedReport
event_report event channel handle count = record (plain_report 2) { event = event; channel = channel; handle = handle; count = count }

abbrev pub failure_report : Scope → ℕ → ℕ → FedReport
failure_report scope.Connection condition count = record (event_report 12 0 0 count) { scope = 1; condition = condition }
failure_report (scope.Session channel) condition count = record (event_report 12 channel 0 count) { scope = 2; condition = condition }
failure_report (scope.Link channel handle) condition count = record (event_report 12 channel handle count) { scope = 3; condition = condition }

abbrev pub report_of_event : Event → FedReport
report_of_event event.Opened = event_report 1 0 0 0
report_of_event (event.Begun channel) = event_report 2 channel 0 0
report_of_event (event.Attached channel handle) = event_report 3 channel handle 0
report_of_event (event.Unfinished channel handle) = event_report 4 channel handle 0
report_of_event (event.Ready channel handle) = event_report 5 channel handle 0
report_of_event (event.Aborted channel handle) = event_report 6 channel handle 0
report_of_event (event.Drained channel handle) = event_report 7 channel handle 0
report_of_event (event.Settled channel count) = event_report 8 channel 0 count
report_of_event (event.Detached channel handle dropped) = event_report 9 channel handle dropped
report_of_event (event.Ended channel dropped) = event_report 10 channel 0 dropped
report_of_event (event.Closed dropped) = event_report 11 0 0 dropped
report_of_event (event.Failed scope condition dropped) = failure_report scope (condition_code condition) dropped

abbrev pub report_of : Outcome → FedReport
report_of outcome.More = plain_report 1
report_of (outcome.Event e) = report_of_event e
report_of outcome.Blocked = plain_report 3
report_of outcome.NoMemory = plain_report 4
report_of outcome.Dead = plain_report 5

-- it is the report of what it says: the fields that do not belong to that are 0
pub record IsAllTold (f : FedReport) : Type 0 where
  pub same : f ≡ record (report_of (outcome_at f)) { used = f.used }

-- What a step resulted in. ---------------------------------------------------------------------------------------------

-- a report has no tags
abbrev pub untagged : Received → Received
untagged m = record m { delivery_tag = [] }

abbrev pub untagged_receipt : Receipt → Receipt
untagged_receipt receipt.Nothing = receipt.Nothing
untagged_receipt (receipt.Refused f) = receipt.Refused f
untagged_receipt (receipt.Settled m) = receipt.Settled (untagged m)
untagged_receipt (receipt.Told m) = receipt.Told (untagged m)
untagged_receipt (receipt.Untold m f) = receipt.Untold (untagged m) f

abbrev pub untagged_done : Done → Done
untagged_done d = record { receipt = untagged_receipt d.receipt; topped = d.topped }

abbrev pub received_at : StepReport → Received
received_at r = record { delivery_id = r.id; delivery_tag = []; len = r.len }

abbrev pub receipt_at : StepReport → Receipt
receipt_at r =
    if nat_eq r.receipt 0 then receipt.Nothing
    else if nat_eq r.receipt 1 then receipt.Refused (fault_at r.refusal)
    else if nat_eq r.receipt 2 then receipt.Settled (received_at r)
    else if nat_eq r.receipt 3 then receipt.Told (received_at r)
    else receipt.Untold (received_at r) (fault_at r.refusal)

abbrev pub done_at : StepReport → Done
done_at r = record { receipt = receipt_at r; topped = record { widened = r.widened; granted = r.granted; refused = r.refused } }

-- the code of a step that broke off
abbrev pub lost_code : ServeFault → ℕ
lost_code lost.Read = 30
lost_code lost.Write = 29
lost_code lost.Sink = 30
lost_code lost.NoMemory = 21

-- the report of these numbers, and of what was done
abbrev pub receipt_report : FedReport → Topped → ℕ → Received → ℕ → StepReport
receipt_report fed topped number message refusal = record {
  fed = fed;
  receipt = number;
  id = message.delivery_id;
  len = message.len;
  refusal = refusal;
  widened = topped.widened;
  granted = topped.granted;
  refused = topped.refused;
  reserved = 0;
}

abbrev pub no_message : Received
no_message = record { delivery_id = 0; delivery_tag = []; len = 0 }

abbrev pub report_of_receipt : FedReport → Topped → Receipt → StepReport
report_of_receipt fed topped receipt.Nothing = receipt_report fed topped 0 no_message 0
report_of_receipt fed topped (receipt.Refused f) = receipt_report fed topped 1 no_message (fault_code f)
report_of_receipt fed topped (receipt.Settled m) = receipt_report fed topped 2 m 0
report_of_receipt fed topped (receipt.Told m) = receipt_report fed topped 3 m 0
report_of_receipt fed topped (receipt.Untold m f) = receipt_report fed topped 4 m (fault_code f)

-- it is the report of what it says: the fields that do not belong to that are 0
pub record IsStepTold (r : StepReport) : Type 0 where
  pub fed : IsAllTold r.fed
  pub same : r ≡ report_of_receipt r.fed (done_at r).topped (done_at r).receipt

-- what a step that broke off has done
abbrev pub nothing_done : Done
nothing_done = record { receipt = receipt.Nothing; topped = record { widened = 0; granted = 0; refused = 0 } }

-- a step with this result has this code and this report
abbrev pub IsDoneAs : Result Done ServeFault → ℕ → StepReport → Type 0
IsDoneAs (Ok d) code r = (code ≡ 0) × (done_at r ≡ untagged_done d)
IsDoneAs (Err x) code r = (code ≡ lost_code x) × (done_at r ≡ nothing_done)
