-- How two ends that are joined by two pipes are related to one another and to the message level, and how a turn keeps that. [2.2 to 2.7]
use Rattle.std.specs.Prelude.{◌≡◌, ℕ, ◌+◌, ◌^◌, ◌≤◌, false, List, [], ◌∷◌, ◌++◌, length, map}
use Rattle.std.specs.List.{flat_map}
use Rattle.amqp_frame.specs.Splits.{SplitterState}
use Rattle.amqp_frame.specs.Units.{bytes_of}
use Rattle.amqp_link.specs.declared.terms.Terms.{Terms}
use Rattle.amqp_link.specs.Links.{link_begins}
use Rattle.amqp_session.specs.declared.slot.Slot.{Slot}
use Rattle.amqp_session.specs.declared.slot.Slot.TheVariants.{Free}
use Rattle.amqp_session.specs.Sessions.{SessionState}
use Rattle.amqp_endpoint.specs.declared.phase.Phase.TheVariants as phase
use Rattle.amqp_endpoint.specs.Configs.{Configured}
use Rattle.amqp_endpoint.specs.Connections.{ConnectionState}
use Rattle.amqp_endpoint.specs.Runs.{Handed}
use Rattle.amqp_endpoint.specs.Steps.{EndpointState}
use Rattle.amqp_send.specs.declared.flow_state.FlowState.{FlowState}
use Rattle.amqp_send.specs.declared.talk.Talk.{Talk}
use Rattle.amqp_send.specs.declared.talk.Talk.TheVariants as talk
use Rattle.amqp_send.specs.Sendings.{SendTerms, Sending}
use Rattle.amqp_pair.specs.declared.turn.TurnAnswer.{TurnAnswer}
use Rattle.amqp_pair.specs.declared.turn.TurnAnswer.TheVariants as answer
use Rattle.amqp_pair.specs.Attached.{HasBegun}
use Rattle.amqp_pair.specs.Items.{Far, AwaitsHeader, AwaitsOpen, AwaitsBegin, AwaitsAttach, Goes, due_at, Item, item_unit, words_in, Leads, written_at, Reply, reply_unit, flows_in, LeadsBack, answered_at, AreSaid}
use Rattle.amqp_pair.specs.Reading.{IsOpened, attaching_of}
use Rattle.amqp_pair.specs.Served.{AreTerms, IsFair, IsWell}
use Rattle.amqp_pair.specs.Stands.{Stands}
use Rattle.amqp_pair.specs.Turns.{Turn, Offer, Ends, TurnDone}
use Rattle.amqp_pair.specs.Words.{AreRight, IsNumbered, frame_in, sender_of}
use Rattle.amqp_pair.specs.World.{World, Plain, Inv, IsWithin}

-- The endpoint. ---------------------------------------------------------------------------------------------------------

-- what the endpoint's link begins with [2.7.3]
abbrev pub link_terms : Configured → SendTerms → Terms
link_terms config terms = record {
  initial_delivery_count = 0;
  rcv_settle_mode = (attaching_of config terms.name).rcv_settle_mode;
  bounds = (attaching_of config terms.name).bounds;
}

-- No session has begun [2.5.1]. On the message level the window of the begin is there, and the link is new.
pub record IsUnbegun (config : Configured) (terms : SendTerms) (s : ConnectionState) (w : World) : Type 0 where
  pub others : List (Slot SessionState)
  pub sessions : s.sessions ≡ Free ∷ others
  pub places : w.places ≡ config.window
  pub next : w.next ≡ 0
  pub link : w.link ≡ link_begins (link_terms config terms)

-- a session has begun, and has no link [2.6.3]
pub record IsUnattached (config : Configured) (terms : SendTerms) (s : ConnectionState) (w : World) : Type 0 where
  pub begun : HasBegun s w
  pub link : w.link ≡ link_begins (link_terms config terms)

-- the state of a connection that is this far
abbrev pub IsFar : Configured → SendTerms → ConnectionState → World → Far → Type 0
IsFar config terms s w AwaitsHeader = (s.phase ≡ phase.Unopened) × IsUnbegun config terms s w
IsFar config terms s w AwaitsOpen = (s.phase ≡ phase.Unopened) × IsUnbegun config terms s w
IsFar config terms s w AwaitsBegin = IsOpened s × IsUnbegun config terms s w
IsFar config terms s w AwaitsAttach = IsUnattached config terms s w
IsFar config terms s w Goes = Stands s w

-- The sender. -----------------------------------------------------------------------------------------------------------

-- the sender awaits the header, or talks
abbrev pub talk_at : Far → Talk
talk_at AwaitsHeader = talk.Silent
talk_at AwaitsOpen = talk.Talking
talk_at AwaitsBegin = talk.Talking
talk_at AwaitsAttach = talk.Talking
talk_at Goes = talk.Talking

-- no flow comes before the begin
abbrev pub IsUnflowed : Far → FlowState → Type 0
IsUnflowed AwaitsHeader f = f.flowed ≡ false
IsUnflowed AwaitsOpen f = f.flowed ≡ false
IsUnflowed AwaitsBegin f = f.flowed ≡ false
IsUnflowed AwaitsAttach f = Unit {0}
IsUnflowed Goes f = Unit {0}

-- the state of a sender that is this far; its frames are no longer than the endpoint accepts [2.7.1]
pub record HasHeard (config : Configured) (terms : SendTerms) (s : Sending) (r : Far) : Type 0 where
  pub terms_are : s.terms ≡ terms
  pub talks : s.talk ≡ talk_at r
  pub numbered : IsNumbered s.flow
  pub size : s.flow.max_frame_size ≤ config.max_frame
  pub unflowed : IsUnflowed r s.flow

-- The ways. -------------------------------------------------------------------------------------------------------------

-- What the endpoint's splitter holds, what lies in the pipe to it and what its sender has not moved out are these items, joined. They
-- lead the endpoint from here to there.
pub record IsOutward (config : Configured) (terms : SendTerms) (input : SplitterState) (pipe unsent : List ℕ) (e : Far) (items : List Item) (f : Far) : Type 0 where
  pub joined : input.filled ++ (pipe ++ unsent) ≡ flat_map bytes_of (map (item_unit terms) items)
  pub limit : input.limit ≡ config.max_frame
  pub stage : input.stage ≡ due_at e
  pub leads : Leads e items f
  pub right : AreRight config.max_frame (words_in items)

-- What the sender's splitter holds, what lies in the pipe to it and what its endpoint has not moved out are these replies, joined.
pub record IsInward (config : Configured) (terms : SendTerms) (input : SplitterState) (pipe unsent : List ℕ) (r : Far) (replies : List Reply) (g : Far) : Type 0 where
  pub joined : input.filled ++ (pipe ++ unsent) ≡ flat_map bytes_of (map (reply_unit config terms) replies)
  pub limit : input.limit ≡ 4096
  pub stage : input.stage ≡ due_at r
  pub leads : LeadsBack r replies g
  pub said : AreSaid replies

-- The relation. ---------------------------------------------------------------------------------------------------------

-- The endpoint, what its sender has made of its own side, and the way between them are those of the message level.
pub record IsHalf (config : Configured) (terms : SendTerms) (end : EndpointState) (pipe : List ℕ) (s : Sending) (taken : List Handed) (w : World) (x : Plain) (e : Far) (items : List Item) (f : Far) : Type 0 where
  pub config_is : end.connection.config ≡ config
  pub far : IsFar config terms end.connection w e
  pub out : IsOutward config terms end.input pipe s.unsent e items f
  pub sender : w.sender ≡ sender_of s
  pub to_end : w.to_end ≡ map frame_in (words_in items)
  pub given : map (λ (d : Handed). d.message) taken ≡ w.given
  pub terms_are : w.link.terms ≡ link_terms config terms
  pub sound : Inv w x

-- Some items and replies are on their way, and some state of the message level is that of both ends.
pub record Paired (config : Configured) (terms : SendTerms) (s : Ends) (w : World) (x : Plain) : Type 0 where
  -- how far the endpoint is, and the sender
  pub e : Far
  pub r : Far
  pub items : List Item
  pub replies : List Reply
  pub half : IsHalf config terms s.endpoint s.to_endpoint s.sender.sending s.taken w x e items (written_at r)
  pub heard : HasHeard config terms s.sender.sending r
  pub back : IsInward config terms s.sender.input s.to_sender s.endpoint.unsent r replies (answered_at e)
  pub to_sender : w.to_sender ≡ flows_in config replies

-- Turns. ----------------------------------------------------------------------------------------------------------------

-- the message that a turn hands over
abbrev pub offered_by : Turn → TurnAnswer → List (List ℕ)
offered_by (Offer message) answer.TakenOver = message ∷ []
offered_by turn a = []

-- A turn is answered well, and keeps the relation of the ends. Credit and window of the sender are within those of the endpoint.
pub record IsTurnKept (config : Configured) (terms : SendTerms) (next : Ends) (w : World) (turn : Turn) (a : TurnAnswer) : Type 0 where
  pub well : IsWell a
  pub world : World
  pub plain : Plain
  pub paired : Paired config terms next world plain
  pub within : IsWithin world plain
  pub offered : world.offered ≡ w.offered ++ offered_by turn a

abbrev pub TurnLaw : Type 0
TurnLaw = (config : Configured) (terms : SendTerms) (s next : Ends) (w : World) (x : Plain) (turn : Turn) (a : TurnAnswer) → AreTerms config terms → IsFair config terms turn
    → length w.offered + length (offered_by turn a) ≤ 2 ^ 32 → Paired config terms s w x → TurnDone s next turn a → IsTurnKept config terms next w turn a
