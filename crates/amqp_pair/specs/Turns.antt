-- A sender and an endpoint, two pipes between them, and what a turn does to them. [2.2 to 2.7]
use Rattle.std.specs.Prelude.{◌≡◌, ℕ, ◌-◌, ◌<◌, min, List, [], ◌∷◌, ◌++◌, length, drop, slice_index, Option}
use Rattle.amqp_endpoint.specs.declared.event.Fed.{Fed}
use Rattle.amqp_endpoint.specs.Configs.{Configured}
use Rattle.amqp_endpoint.specs.Runs as of_endpoint
use Rattle.amqp_endpoint.specs.Runs.{Handed}
use Rattle.amqp_endpoint.specs.Steps.{EndpointState}
use Rattle.amqp_send.specs.declared.news.News.{News}
use Rattle.amqp_send.specs.Calls.{SenderState}
use Rattle.amqp_send.specs.Runs as of_sender
use Rattle.amqp_send.specs.Sendings.{SendTerms}
use Rattle.amqp_session.specs.Calls as session
use Rattle.amqp_session.specs.Calls.{Widen, Grant, Drain, Take, Settle}
use Rattle.amqp_pair.specs.declared.turn.Turn as asked
use Rattle.amqp_pair.specs.declared.turn.Turn.TheVariants as turn
use Rattle.amqp_pair.specs.declared.turn.TurnAnswer.{TurnAnswer}
use Rattle.amqp_pair.specs.declared.turn.TurnAnswer.TheVariants as answer

-- Turns. --------------------------------------------------------------------------------------------------------------

pub data Turn : Type 0 where
  Offer : List ℕ → Turn  -- the sender is offered this message
  ToEndpoint : ℕ → Turn  -- at most this many bytes go from the sender into its pipe, and the whole pipe is fed to the endpoint, once
  ToSender : ℕ → Turn  -- at most this many bytes go from the endpoint into its pipe, and the whole pipe is fed to the sender, once
  Ask : session.Call → Turn  -- a call of the endpoint for the session on channel 0

-- a turn in memory: the calls of the endpoint are for handle 0 [2.6.2]
abbrev pub turn_of : asked.Turn → Turn
turn_of (turn.Offer message) = Offer message.now
turn_of (turn.ToEndpoint n) = ToEndpoint n
turn_of (turn.ToSender n) = ToSender n
turn_of (turn.Grant n) = Ask (Grant 0 n)
turn_of (turn.Widen n) = Ask (Widen n)
turn_of turn.Drain = Ask (Drain 0)
turn_of turn.Take = Ask (Take 0)
turn_of (turn.Settle id outcome) = Ask (Settle id outcome)

-- The two ends, the bytes on their way to each, and what was taken.
pub record Ends : Type 0 where
  pub sender : SenderState
  pub endpoint : EndpointState
  pub to_endpoint : List ℕ
  pub to_sender : List ℕ
  pub taken : List Handed

-- What a turn does. ---------------------------------------------------------------------------------------------------

-- how many bytes a pipe holds
abbrev pub pipe_size : ℕ
pipe_size = 8192

-- at most n bytes, as many as fit the pipe
abbrev pub room_for : ℕ → List ℕ → ℕ
room_for n pipe = min n (pipe_size - length pipe)

-- nothing but the sender has changed
pub record IsSenderAlone (old new : Ends) : Type 0 where
  pub endpoint : new.endpoint ≡ old.endpoint
  pub to_endpoint : new.to_endpoint ≡ old.to_endpoint
  pub to_sender : new.to_sender ≡ old.to_sender
  pub taken : new.taken ≡ old.taken

pub record IsOffered (old new : Ends) (message : List ℕ) (answer : of_sender.Answer) : Type 0 where
  pub does : of_sender.Does old.sender new.sender (of_sender.Offer message) answer
  pub rest : IsSenderAlone old new

-- The first unsent bytes of the sender go into its pipe; then the whole pipe is fed to the endpoint, and what that took leaves it.
pub record IsToEndpoint (old new : Ends) (n : ℕ) (came : Fed) : Type 0 where
  pub moved : List ℕ
  pub out : of_sender.Does old.sender new.sender (of_sender.Output (room_for n old.to_endpoint)) (of_sender.MovedOut moved)
  pub fed : of_endpoint.Does old.endpoint new.endpoint (of_endpoint.Feed (old.to_endpoint ++ moved)) (of_endpoint.Fed came.used came.outcome)
  pub bytes : (i : ℕ) → slice_index (old.to_endpoint ++ moved) i < 256
  pub pipe : new.to_endpoint ≡ drop came.used (old.to_endpoint ++ moved)
  pub other : new.to_sender ≡ old.to_sender
  pub taken : new.taken ≡ old.taken

-- The first half of that: the sender's bytes went into the pipe.
pub record IsFilled (old new : Ends) (n : ℕ) : Type 0 where
  pub moved : List ℕ
  pub out : of_sender.Does old.sender new.sender (of_sender.Output (room_for n old.to_endpoint)) (of_sender.MovedOut moved)
  pub pipe : new.to_endpoint ≡ old.to_endpoint ++ moved
  pub endpoint : new.endpoint ≡ old.endpoint
  pub other : new.to_sender ≡ old.to_sender
  pub taken : new.taken ≡ old.taken

-- The second half: the whole pipe was fed.
pub record IsFedWhole (old new : Ends) (came : Fed) : Type 0 where
  pub fed : of_endpoint.Does old.endpoint new.endpoint (of_endpoint.Feed old.to_endpoint) (of_endpoint.Fed came.used came.outcome)
  pub bytes : (i : ℕ) → slice_index old.to_endpoint i < 256
  pub pipe : new.to_endpoint ≡ drop came.used old.to_endpoint
  pub sender : new.sender ≡ old.sender
  pub other : new.to_sender ≡ old.to_sender
  pub taken : new.taken ≡ old.taken

pub record IsToSender (old new : Ends) (n used : ℕ) (news : Option News) : Type 0 where
  pub moved : List ℕ
  pub out : of_endpoint.Does old.endpoint new.endpoint (of_endpoint.Output (room_for n old.to_sender)) (of_endpoint.MovedOut moved)
  pub fed : of_sender.Does old.sender new.sender (of_sender.Feed (old.to_sender ++ moved)) (of_sender.Fed used news)
  pub pipe : new.to_sender ≡ drop used (old.to_sender ++ moved)
  pub other : new.to_endpoint ≡ old.to_endpoint
  pub taken : new.taken ≡ old.taken

-- The first half of that: the endpoint's bytes went into the pipe.
pub record IsAnswered (old new : Ends) (n : ℕ) : Type 0 where
  pub moved : List ℕ
  pub out : of_endpoint.Does old.endpoint new.endpoint (of_endpoint.Output (room_for n old.to_sender)) (of_endpoint.MovedOut moved)
  pub pipe : new.to_sender ≡ old.to_sender ++ moved
  pub sender : new.sender ≡ old.sender
  pub other : new.to_endpoint ≡ old.to_endpoint
  pub taken : new.taken ≡ old.taken

-- The second half: the whole pipe was fed.
pub record IsHeardWhole (old new : Ends) (used : ℕ) (news : Option News) : Type 0 where
  pub fed : of_sender.Does old.sender new.sender (of_sender.Feed old.to_sender) (of_sender.Fed used news)
  pub pipe : new.to_sender ≡ drop used old.to_sender
  pub endpoint : new.endpoint ≡ old.endpoint
  pub other : new.to_endpoint ≡ old.to_endpoint
  pub taken : new.taken ≡ old.taken

-- nothing but the endpoint has changed, and this was handed up
pub record IsEndpointAlone (old new : Ends) (handed : List Handed) : Type 0 where
  pub sender : new.sender ≡ old.sender
  pub to_endpoint : new.to_endpoint ≡ old.to_endpoint
  pub to_sender : new.to_sender ≡ old.to_sender
  pub taken : new.taken ≡ old.taken ++ handed

pub record IsAsked (old new : Ends) (call : session.Call) (answer : of_endpoint.Answer) (handed : List Handed) : Type 0 where
  pub does : of_endpoint.Does old.endpoint new.endpoint (of_endpoint.InSession 0 call) answer
  pub rest : IsEndpointAlone old new handed

-- One turn with its answer.
abbrev pub TurnDone : Ends → Ends → Turn → TurnAnswer → Type 0
TurnDone old new (Offer message) answer.TakenOver = IsOffered old new message of_sender.TakenOver
TurnDone old new (Offer message) (answer.NotTakenOver fault) = IsOffered old new message (of_sender.Refused fault)
TurnDone old new (ToEndpoint n) (answer.EndpointFed fed) = IsToEndpoint old new n fed
TurnDone old new (ToSender n) (answer.SenderFed used news) = IsToSender old new n used news
TurnDone old new (Ask call) answer.Accepted = IsAsked old new call of_endpoint.Accepted []
TurnDone old new (Ask call) answer.HandedUp = (d : Handed) × IsAsked old new call (of_endpoint.HandedUp d) (d ∷ [])
TurnDone old new (Ask call) (answer.Refused fault) = IsAsked old new call (of_endpoint.Refused fault) []
TurnDone old new turn answer = ⊥

-- Turns and answers, one by one.
abbrev pub Pair : Ends → List Turn → List TurnAnswer → Ends → Type 0
Pair s [] [] last = last ≡ s
Pair s [] (answer ∷ answers) last = ⊥
Pair s (turn ∷ turns) [] last = ⊥
Pair s (turn ∷ turns) (answer ∷ answers) last = (next : Ends) × TurnDone s next turn answer × Pair next turns answers last

-- both ends are new, both pipes empty, and nothing was taken
pub record AreStart (config : Configured) (terms : SendTerms) (s : Ends) : Type 0 where
  pub endpoint : of_endpoint.IsStart config s.endpoint
  pub sender : of_sender.IsStart terms s.sender
  pub to_endpoint : s.to_endpoint ≡ []
  pub to_sender : s.to_sender ≡ []
  pub taken : s.taken ≡ []

-- These turns lead new ends to these, with these answers.
pub record IsJoined (config : Configured) (terms : SendTerms) (turns : List Turn) (answers : List TurnAnswer) (last : Ends) : Type 0 where
  pub start : Ends
  pub new : AreStart config terms start
  pub run : Pair start turns answers last

-- the messages that were taken over, in order
abbrev pub offered_in : List Turn → List TurnAnswer → List (List ℕ)
offered_in (Offer message ∷ turns) (answer.TakenOver ∷ answers) = message ∷ offered_in turns answers
offered_in (turn ∷ turns) (answer ∷ answers) = offered_in turns answers
offered_in turns answers = []
