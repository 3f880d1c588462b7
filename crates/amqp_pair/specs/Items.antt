-- What is on its way between the two ends, unit by unit, from the first byte on. [2.2 to 2.7]
use Rattle.std.specs.Prelude.{◌≡◌, ℕ, ◌^◌, ◌<◌, Bool, false, List, [], ◌∷◌}
use Rattle.amqp_frame.specs.Units.{StreamUnit, HeaderUnit}
use Rattle.amqp_frame.specs.declared.units.Stage.{Stage}
use Rattle.amqp_frame.specs.declared.units.Stage.TheVariants.{Header, Frames}
use Rattle.amqp_frame.specs.declared.units.TheConstants.{HEADER}
use Rattle.amqp_perform.specs.declared.outcome.Outcome.{Outcome}
use Rattle.amqp_session.specs.declared.terms.SessionTerms.{SessionTerms}
use Rattle.amqp_session.specs.Frames as of_session
use Rattle.amqp_endpoint.specs.Configs.{Configured, bounds_for}
use Rattle.amqp_endpoint.specs.Connections.{lesser}
use Rattle.amqp_endpoint.specs.Replies as of_endpoint
use Rattle.amqp_send.specs.Sendings.{SendTerms}
use Rattle.amqp_send.specs.Sendings as of_sender
use Rattle.amqp_pair.specs.Called.{flow_speaks}
use Rattle.amqp_pair.specs.Heard.{begin_flow}
use Rattle.amqp_pair.specs.Reading.{attaching_of}
use Rattle.amqp_pair.specs.Spoken.{frame_unit}
use Rattle.amqp_pair.specs.Words.{Word, unit_in}
use Rattle.amqp_pair.specs.World.{Flow}

-- How far an end is: which part of the other's opening it awaits, or that it awaits none of it.
pub data Far : Type 0 where
  AwaitsHeader : Far
  AwaitsOpen : Far
  AwaitsBegin : Far
  AwaitsAttach : Far
  Goes : Far

-- what is due in the bytes of the other end
abbrev pub due_at : Far → Stage
due_at AwaitsHeader = Header
due_at AwaitsOpen = Frames
due_at AwaitsBegin = Frames
due_at AwaitsAttach = Frames
due_at Goes = Frames

-- Towards the endpoint. -------------------------------------------------------------------------------------------------

-- the sender's header [2.2], the three frames of its opening [2.4.1, 2.5.1, 2.6.3], and its words
pub data Item : Type 0 where
  OwnHeader : Item
  OwnOpen : Item
  OwnBegin : Item
  OwnAttach : Item
  Speaks : Word → Item

-- the unit of the stream that an item is [2.3.1]
abbrev pub item_unit : SendTerms → Item → StreamUnit
item_unit terms OwnHeader = HeaderUnit HEADER
item_unit terms OwnOpen = frame_unit (of_sender.open_said terms.container_id) []
item_unit terms OwnBegin = frame_unit of_sender.begin_said []
item_unit terms OwnAttach = frame_unit (of_sender.attach_said terms.name) []
item_unit terms (Speaks word) = unit_in word

-- the words among them
abbrev pub words_in : List Item → List Word
words_in [] = []
words_in (Speaks word ∷ items) = word ∷ words_in items
words_in (OwnHeader ∷ items) = words_in items
words_in (OwnOpen ∷ items) = words_in items
words_in (OwnBegin ∷ items) = words_in items
words_in (OwnAttach ∷ items) = words_in items

-- Once an endpoint that is as far as the first has acted upon these items, it is as far as the second. They come in their
-- order, and words after the opening.
abbrev pub Leads : Far → List Item → Far → Type 0
Leads e [] f = e ≡ f
Leads e (OwnHeader ∷ items) f = (e ≡ AwaitsHeader) × Leads AwaitsOpen items f
Leads e (OwnOpen ∷ items) f = (e ≡ AwaitsOpen) × Leads AwaitsBegin items f
Leads e (OwnBegin ∷ items) f = (e ≡ AwaitsBegin) × Leads AwaitsAttach items f
Leads e (OwnAttach ∷ items) f = (e ≡ AwaitsAttach) × Leads Goes items f
Leads e (Speaks word ∷ items) f = (e ≡ Goes) × Leads Goes items f

-- how far the endpoint comes by all that a sender has written that is this far
abbrev pub written_at : Far → Far
written_at AwaitsHeader = AwaitsOpen
written_at AwaitsOpen = Goes
written_at AwaitsBegin = Goes
written_at AwaitsAttach = Goes
written_at Goes = Goes

-- Towards the sender. ---------------------------------------------------------------------------------------------------

-- the endpoint's header, its open, its begin and its attach, its flows and its dispositions [2.2, 2.7]
pub data Reply : Type 0 where
  ItsHeader : Reply
  ItsOpen : Reply
  ItsBegin : Reply
  ItsAttach : Reply
  States : Flow → Reply
  Disposes : ℕ → Bool → Outcome → Reply

-- what the endpoint's session begins with, if the other side is the sender [2.7.2]
abbrev pub begun_with : Configured → SessionTerms
begun_with config = record { incoming_window = config.window; next_outgoing_id = 0; handle_max = lesser config.handle_max 0; max_frame_size = 4096 }

-- the unit that a reply is
abbrev pub reply_unit : Configured → SendTerms → Reply → StreamUnit
reply_unit config terms ItsHeader = HeaderUnit HEADER
reply_unit config terms ItsOpen = frame_unit (of_endpoint.open_said config (lesser config.channel_max 0)) []
reply_unit config terms ItsBegin = frame_unit (of_endpoint.begin_said 0 (begun_with config)) []
reply_unit config terms ItsAttach = frame_unit (of_session.attach_said (bounds_for config terms.name).max_message_size (attaching_of config terms.name)) []
reply_unit config terms (States f) = frame_unit (flow_speaks f) []
reply_unit config terms (Disposes id settled outcome) = frame_unit (of_session.disposition_said id id settled outcome) []

-- on the message level the begin is a flow of the session
abbrev pub flows_in : Configured → List Reply → List Flow
flows_in config [] = []
flows_in config (ItsBegin ∷ replies) = begin_flow config.window ∷ flows_in config replies
flows_in config (States f ∷ replies) = f ∷ flows_in config replies
flows_in config (ItsHeader ∷ replies) = flows_in config replies
flows_in config (ItsOpen ∷ replies) = flows_in config replies
flows_in config (ItsAttach ∷ replies) = flows_in config replies
flows_in config (Disposes id settled outcome ∷ replies) = flows_in config replies

-- Once a sender that is as far as the first has acted upon these replies, it is as far as the second.
abbrev pub LeadsBack : Far → List Reply → Far → Type 0
LeadsBack r [] g = r ≡ g
LeadsBack r (ItsHeader ∷ replies) g = (r ≡ AwaitsHeader) × LeadsBack AwaitsOpen replies g
LeadsBack r (ItsOpen ∷ replies) g = (r ≡ AwaitsOpen) × LeadsBack AwaitsBegin replies g
LeadsBack r (ItsBegin ∷ replies) g = (r ≡ AwaitsBegin) × LeadsBack Goes replies g
LeadsBack r (ItsAttach ∷ replies) g = (r ≡ Goes) × LeadsBack Goes replies g
LeadsBack r (States f ∷ replies) g = (r ≡ Goes) × LeadsBack Goes replies g
LeadsBack r (Disposes id settled outcome ∷ replies) g = (r ≡ Goes) × LeadsBack Goes replies g

-- how far the sender comes by all that an endpoint has written that is this far; the attach tells it nothing
abbrev pub answered_at : Far → Far
answered_at AwaitsHeader = AwaitsHeader
answered_at AwaitsOpen = AwaitsOpen
answered_at AwaitsBegin = AwaitsBegin
answered_at AwaitsAttach = Goes
answered_at Goes = Goes

-- A flow's numbers have 32 bits, and it asks for no flow [2.7.4].
pub record IsStated (f : Flow) : Type 0 where
  pub next : f.next < 2 ^ 32
  pub window : f.window < 2 ^ 32
  pub count : f.count < 2 ^ 32
  pub credit : f.credit < 2 ^ 32
  pub quiet : f.echo ≡ false

-- what each reply states can be written
abbrev pub IsSaid : Reply → Type 0
IsSaid ItsHeader = Unit {0}
IsSaid ItsOpen = Unit {0}
IsSaid ItsBegin = Unit {0}
IsSaid ItsAttach = Unit {0}
IsSaid (States f) = IsStated f
IsSaid (Disposes id settled outcome) = id < 2 ^ 32

abbrev pub AreSaid : List Reply → Type 0
AreSaid [] = Unit {0}
AreSaid (reply ∷ replies) = IsSaid reply × AreSaid replies
