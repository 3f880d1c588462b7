-- What a sender writes after its opening, word by word, and how its steps are turns of the message level. [2.6.7, 2.6.14, 2.7]
use Rattle.std.specs.Prelude.{◌≡◌, ℕ, ◌^◌, ◌<◌, ◌≤◌, Bool, false, if◌then◌else◌, List, [], ◌∷◌, ◌++◌, length, map, Option, Some, None, option_map}
use Rattle.std.specs.List.{flat_map}
use Rattle.amqp_frame.specs.Units.{StreamUnit, FrameUnit}
use Rattle.amqp_perform.specs.Said.{said_frame}
use Rattle.amqp_send.specs.declared.flow_state.FlowState.{FlowState}
use Rattle.amqp_send.specs.Frames.{IsSmall}
use Rattle.amqp_send.specs.Sendings.{Message, Sending, flow_said, transfer_said}
use Rattle.amqp_pair.specs.World.{World, Sender, Frame, First, Later, Told, Turn, run, AreFair}

-- a transfer with its id, whether it goes on, whether more follow, and its payload; or the answer to a flow
pub data Word : Type 0 where
  Sends : (id : ℕ) → (begun more : Bool) → (payload : List ℕ) → Word
  Answers : FlowState → Bool → Word

-- a word on the message level
abbrev pub frame_in : Word → Frame
frame_in (Sends id begun more payload) = if begun then Later payload more else First id payload more
frame_in (Answers f drain) = Told f.delivery_count f.next_outgoing_id

-- the bytes of a word
abbrev pub text_in : Word → List ℕ
text_in (Sends id begun more payload) = said_frame 0 (transfer_said id begun more) payload
text_in (Answers f drain) = said_frame 0 (flow_said f drain) []

abbrev pub unit_in : Word → StreamUnit
unit_in word = FrameUnit (text_in word)

-- a sender on the message level
abbrev pub begun_in : Option Message → Bool
begun_in None = false
begun_in (Some m) = m.begun

abbrev pub sender_of : Sending → Sender
sender_of s = record {
  waiting = option_map (λ m. m.rest) s.message;
  begun = begun_in s.message;
  id = s.flow.delivery_id;
  count = s.flow.delivery_count;
  next = s.flow.next_outgoing_id;
  credit_limit = s.flow.credit_end;
  window_limit = s.flow.window_end;
}

abbrev pub with_sender : World → Sending → World
with_sender w s = record w { sender = sender_of s }

-- more frames are on their way
abbrev pub adds : World → List Word → World
adds w words = record w { to_end = w.to_end ++ map frame_in words }

-- the word's numbers have 32 bits, and it is no longer than this
abbrev pub IsRight : ℕ → Word → Type 0
IsRight most (Sends id begun more payload) = (id < 2 ^ 32) × (length (text_in (Sends id begun more payload)) ≤ most)
IsRight most (Answers f drain) = IsSmall f.peer_next_outgoing_id × (f.next_outgoing_id < 2 ^ 32) × (f.delivery_count < 2 ^ 32) × (length (text_in (Answers f drain)) ≤ most)

abbrev pub AreRight : ℕ → List Word → Type 0
AreRight most [] = Unit {0}
AreRight most (word ∷ words) = IsRight most word × AreRight most words

-- the numbers of a sender have 32 bits, and its frames have room for its opening
pub record IsNumbered (f : FlowState) : Type 0 where
  pub least : 512 ≤ f.max_frame_size
  pub most : f.max_frame_size < 2 ^ 32
  pub id : f.delivery_id < 2 ^ 32
  pub next : f.next_outgoing_id < 2 ^ 32
  pub count : f.delivery_count < 2 ^ 32
  pub peer : IsSmall f.peer_next_outgoing_id

-- A step that only writes leaves these as they are.
pub record IsKept (s t : Sending) : Type 0 where
  pub terms : t.terms ≡ s.terms
  pub talk : t.talk ≡ s.talk
  pub size : t.flow.max_frame_size ≡ s.flow.max_frame_size
  pub peer : t.flow.peer_next_outgoing_id ≡ s.flow.peer_next_outgoing_id
  pub flowed : t.flow.flowed ≡ s.flow.flowed

-- The frames that are written from one state to the other are turns of the message level.
pub record Writes (s t : Sending) (w : World) : Type 0 where
  pub turns : List Turn
  pub words : List Word
  pub fair : AreFair turns (with_sender w s)
  pub world : run turns (with_sender w s) ≡ adds (with_sender w t) words
  pub bytes : t.unsent ≡ s.unsent ++ flat_map text_in words
  pub right : IsNumbered s.flow → AreRight s.flow.max_frame_size words
  pub numbered : IsNumbered s.flow → IsNumbered t.flow
  pub kept : IsKept s t

-- An event of the sender, and what it then writes, are turns of the message level from one world to the other.
pub record Steps (s t : Sending) (w v : World) : Type 0 where
  pub turns : List Turn
  pub words : List Word
  pub fair : AreFair turns (with_sender w s)
  pub world : run turns (with_sender w s) ≡ adds (with_sender v t) words
  pub bytes : t.unsent ≡ s.unsent ++ flat_map text_in words
  pub right : IsNumbered s.flow → AreRight s.flow.max_frame_size words
  pub numbered : IsNumbered s.flow → IsNumbered t.flow
  pub terms : t.terms ≡ s.terms
  pub talk : t.talk ≡ s.talk
  pub size : t.flow.max_frame_size ≡ s.flow.max_frame_size
