-- Events, outcomes and ends as scripts print them.
use Rattle.std.specs.Prelude.{ℕ, List, ◌++◌, codes}
use Rattle.std.specs.Fmt.{decimal}
use Rattle.amqp_perform.specs.Conditions.{name_of}
use Rattle.amqp_endpoint.specs.declared.event.End.{End}
use Rattle.amqp_endpoint.specs.declared.event.End.TheVariants as end
use Rattle.amqp_endpoint.specs.declared.event.Event.{Event}
use Rattle.amqp_endpoint.specs.declared.event.Event.TheVariants as event
use Rattle.amqp_endpoint.specs.declared.event.Outcome.{Outcome}
use Rattle.amqp_endpoint.specs.declared.event.Outcome.TheVariants as outcome
use Rattle.amqp_endpoint.specs.declared.event.Scope.{Scope}
use Rattle.amqp_endpoint.specs.declared.event.Scope.TheVariants as scope

-- a word, and a number
abbrev pub counted : List ℕ → ℕ → List ℕ
counted word n = word ++ decimal n

-- a word, a channel and another number
abbrev pub placed : List ℕ → ℕ → ℕ → List ℕ
placed word channel n = word ++ decimal channel ++ codes " " ++ decimal n

abbrev pub scope_text : Scope → List ℕ
scope_text scope.Connection = codes "connection"
scope_text (scope.Session channel) = counted (codes "session ") channel
scope_text (scope.Link channel handle) = placed (codes "link ") channel handle

abbrev pub event_text : Event → List ℕ
event_text event.Opened = codes "Opened"
event_text (event.Begun channel) = counted (codes "Begun ") channel
event_text (event.Attached channel handle) = placed (codes "Attached ") channel handle
event_text (event.Unfinished channel handle) = placed (codes "Part ") channel handle
event_text (event.Ready channel handle) = placed (codes "Ready ") channel handle
event_text (event.Aborted channel handle) = placed (codes "Aborted ") channel handle
event_text (event.Drained channel handle) = placed (codes "Drained ") channel handle
event_text (event.Settled channel count) = placed (codes "Settled ") channel count
event_text (event.Detached channel handle dropped) = placed (codes "Detached ") channel handle ++ counted (codes " dropped=") dropped
event_text (event.Ended channel dropped) = counted (codes "Ended ") channel ++ counted (codes " dropped=") dropped
event_text (event.Closed dropped) = counted (codes "Closed dropped=") dropped
event_text (event.Failed s condition dropped) = codes "Failed " ++ scope_text s ++ codes " " ++ name_of condition ++ counted (codes " dropped=") dropped

abbrev pub outcome_text : Outcome → List ℕ
outcome_text outcome.More = codes "More"
outcome_text (outcome.Event e) = event_text e
outcome_text outcome.Blocked = codes "Blocked"
outcome_text outcome.NoMemory = codes "NoMemory"
outcome_text outcome.Dead = codes "Dead"

abbrev pub end_text : End → List ℕ
end_text end.Failed = codes "Failed"
end_text end.Closed = codes "Closed"
end_text end.Between = codes "Between"
end_text (end.Inside count) = counted (codes "Inside ") count
