-- What became of both ends under a list of turns: each has its run and its history, and the pipes lost and invented nothing. [2.2 to 2.7]
use Rattle.std.specs.Prelude.{◌≡◌, ℕ, List, [], ◌∷◌, ◌++◌}
use Rattle.std.specs.List.{flat_map}
use Rattle.amqp_endpoint.specs.Configs.{Configured}
use Rattle.amqp_endpoint.specs.Runs as of_endpoint
use Rattle.amqp_endpoint.specs.Runs.{Handed, HandedUp}
use Rattle.amqp_endpoint.specs.Traces as trace
use Rattle.amqp_endpoint.specs.Traces.{AreInRange, IsWholeRun, all_taken}
use Rattle.amqp_send.specs.Runs as of_sender
use Rattle.amqp_send.specs.Sendings.{SendTerms}
use Rattle.amqp_session.specs.Laws.{IsCallInRange}
use Rattle.amqp_pair.specs.Turns.{Turn, Offer, ToEndpoint, ToSender, Ask, Ends}

-- the ids that calls name have 32 bits
abbrev pub IsInRange : Turn → Type 0
IsInRange (Offer message) = Unit {0}
IsInRange (ToEndpoint n) = Unit {0}
IsInRange (ToSender n) = Unit {0}
IsInRange (Ask call) = IsCallInRange call

abbrev pub AllInRange : List Turn → Type 0
AllInRange [] = Unit {0}
AllInRange (turn ∷ turns) = IsInRange turn × AllInRange turns

-- what an answer of the endpoint hands up
abbrev pub handed_by : of_endpoint.Answer → List Handed
handed_by (HandedUp d) = d ∷ []
handed_by a = []

-- The calls that turns make of either end, and their answers, from these ends to those.
pub record Parts (s last : Ends) : Type 0 where
  pub asked : List of_endpoint.Call
  pub told : List of_endpoint.Answer
  pub in_range : AreInRange asked
  pub endpoint : of_endpoint.Run s.endpoint asked told last.endpoint
  pub sent : List of_sender.Call
  pub heard : List of_sender.Answer
  pub sender : of_sender.Run s.sender sent heard last.sender
  -- what lay in a pipe and what was moved into it was taken out of it, in order, or lies in it
  pub to_endpoint : s.to_endpoint ++ flat_map of_sender.moved_by heard ≡ all_taken asked told ++ last.to_endpoint
  pub to_sender : s.to_sender ++ flat_map trace.moved_by told ≡ of_sender.fed sent heard ++ last.to_sender
  -- the messages that were taken are those that the endpoint handed up
  pub taken : last.taken ≡ s.taken ++ flat_map handed_by told

-- Each of two new ends has a history, at its end and after each of its calls.
pub record HasHistories (config : Configured) (terms : SendTerms) (last : Ends) : Type 0 where
  pub start : Ends
  pub parts : Parts start last
  pub endpoint : IsWholeRun config parts.asked parts.told last.endpoint
  pub sender : of_sender.HasHistory terms parts.sent parts.heard last.sender
  -- the sender also has one after each of its calls, and no frame that may be written is then left unwritten; the endpoint's history has its own moments
  pub sender_moments : (n : ℕ) → of_sender.HasMoment terms start.sender parts.sent parts.heard last.sender n
  -- what the sender moved out is what the endpoint took and what lies in the pipe; and the other way round
  pub to_endpoint : flat_map of_sender.moved_by parts.heard ≡ all_taken parts.asked parts.told ++ last.to_endpoint
  pub to_sender : flat_map trace.moved_by parts.told ≡ of_sender.fed parts.sent parts.heard ++ last.to_sender
  pub taken : last.taken ≡ flat_map handed_by parts.told
