-- The theorem of the pair: what it assumes, and what it says of the answers. [2.5.6, 2.6.7, 2.6.14]
use Rattle.std.specs.Prelude.{◌≡◌, ℕ, ◌^◌, ◌<◌, ◌≤◌, List, [], ◌∷◌, ◌++◌, length, map}
use Rattle.amqp_endpoint.specs.declared.event.Event.TheVariants as event
use Rattle.amqp_endpoint.specs.declared.event.Outcome.{Outcome}
use Rattle.amqp_endpoint.specs.declared.event.Outcome.TheVariants as outcome
use Rattle.amqp_endpoint.specs.Configs.{Configured, IsConfigured, bounds_for}
use Rattle.amqp_link.specs.Bounds.{IsBounded}
use Rattle.amqp_send.specs.declared.news.OfferFault.TheVariants as fault
use Rattle.amqp_send.specs.Frames.{IsText}
use Rattle.amqp_send.specs.Sendings.{SendTerms}
use Rattle.amqp_session.specs.Calls as session
use Rattle.amqp_session.specs.Calls.{Widen, Grant, Drain, Take, Settle}
use Rattle.amqp_pair.specs.declared.turn.TurnAnswer.{TurnAnswer}
use Rattle.amqp_pair.specs.declared.turn.TurnAnswer.TheVariants as answer
use Rattle.amqp_pair.specs.Turns.{Turn, Offer, ToEndpoint, ToSender, Ask, Ends, IsJoined, offered_in}

-- What it assumes. ------------------------------------------------------------------------------------------------------

-- what types and `Config::checked` give of both ends
pub record AreTerms (config : Configured) (terms : SendTerms) : Type 0 where
  pub configured : IsConfigured config.container_id config.max_frame config.window
  pub own_name : IsText config.container_id
  pub channels : config.channel_max < 2 ^ 16
  pub handles : config.handle_max < 2 ^ 32
  pub bounds : IsBounded (bounds_for config terms.name).allowed (bounds_for config terms.name).max_message_size
  pub container_id : IsText terms.container_id
  pub short_id : length terms.container_id ≤ 255
  pub name : IsText terms.name
  pub short_name : length terms.name ≤ 255

-- the calls are for the one link, which is neither detached nor refused, and ids have 32 bits; no call has a reason
abbrev pub IsOfLink : session.Call → Type 0
IsOfLink (Widen n) = Unit {0}
IsOfLink (Grant handle n) = handle ≡ 0
IsOfLink (Drain handle) = handle ≡ 0
IsOfLink (Take handle) = handle ≡ 0
IsOfLink (Settle id outcome) = id < 2 ^ 32
IsOfLink c = ⊥

-- a message is at most as long as the link allows [2.7.3]
abbrev pub IsFair : Configured → SendTerms → Turn → Type 0
IsFair config terms (Offer message) = length message ≤ (bounds_for config terms.name).max_message_size
IsFair config terms (ToEndpoint n) = Unit {0}
IsFair config terms (ToSender n) = Unit {0}
IsFair config terms (Ask call) = IsOfLink call

abbrev pub AreFair : Configured → SendTerms → List Turn → Type 0
AreFair config terms [] = Unit {0}
AreFair config terms (turn ∷ turns) = IsFair config terms turn × AreFair config terms turns

-- Turns in memory have to meet this alone: each message that is offered is short. Their calls are for the one link, and their ids have 32 bits.
abbrev pub IsShort : Configured → SendTerms → Turn → Type 0
IsShort config terms (Offer message) = length message ≤ (bounds_for config terms.name).max_message_size
IsShort config terms (ToEndpoint n) = Unit {0}
IsShort config terms (ToSender n) = Unit {0}
IsShort config terms (Ask call) = Unit {0}

abbrev pub AreShort : Configured → SendTerms → List Turn → Type 0
AreShort config terms [] = Unit {0}
AreShort config terms (turn ∷ turns) = IsShort config terms turn × AreShort config terms turns

-- What it says. ---------------------------------------------------------------------------------------------------------

-- the endpoint reports no failure
abbrev pub IsNoFailure : Outcome → Type 0
IsNoFailure (outcome.Event (event.Failed scope condition dropped)) = ⊥
IsNoFailure o = Unit {0}

-- the endpoint reports no failure, and no offer is refused with Ended
abbrev pub IsWell : TurnAnswer → Type 0
IsWell (answer.EndpointFed fed) = IsNoFailure fed.outcome
IsWell (answer.NotTakenOver (fault.Ended condition)) = ⊥
IsWell a = Unit {0}

abbrev pub AreWell : List TurnAnswer → Type 0
AreWell [] = Unit {0}
AreWell (a ∷ answers) = IsWell a × AreWell answers

-- what was taken is a beginning of what was offered and taken over
pub record IsServed (turns : List Turn) (answers : List TurnAnswer) (last : Ends) : Type 0 where
  pub well : AreWell answers
  pub rest : List (List ℕ)
  pub in_order : map (λ d. d.message) last.taken ++ rest ≡ offered_in turns answers

-- There are at most 2^32 messages, so no id is used twice.
abbrev pub PairLaw : Type 0
PairLaw = (config : Configured) (terms : SendTerms) (turns : List Turn) (answers : List TurnAnswer) (last : Ends) → AreTerms config terms → AreFair config terms turns → length (offered_in turns answers) ≤ 2 ^ 32
    → IsJoined config terms turns answers last → IsServed turns answers last
