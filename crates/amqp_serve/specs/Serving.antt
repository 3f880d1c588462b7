-- How an endpoint is served over a reader, a writer and a sink: which call follows which, and what is written and recorded (AMQP 1.0, part 2, sections 2.5.6, 2.6.7, 2.6.12 and 2.6.14).
use Rattle.std.specs.Prelude.{◌≡◌, ℕ, suc, ◌-◌, ◌*◌, ◌^◌, ◌<◌, ◌⊎◌, Bool, true, false, min, nat_le, if◌then◌else◌, List, [], ◌∷◌, ◌++◌, length, map, Option, IsTrue}
use Rattle.std.specs.Int.{w16, w32, to_be_bytes}
use Rattle.std.specs.Io.KnownBytes.{Appends, Consumes}
use Rattle.std.specs.List.{flat_map}
use Rattle.amqp_frame.specs.Splits.{Waits, IsUnchanged}
use Rattle.amqp_frame.specs.Units.{StreamUnit}
use Rattle.amqp_link.specs.Links.{open_count}
use Rattle.amqp_session.specs.declared.slot.Slot.{Slot}
use Rattle.amqp_session.specs.declared.slot.Slot.TheVariants.{Free, Live, Waits as Awaits}
use Rattle.amqp_session.specs.Calls.{Widen, Grant, Take, Settle}
use Rattle.amqp_session.specs.Places.{tabulate}
use Rattle.amqp_session.specs.Sessions.{LiveLink, SessionState, slot_ready}
use Rattle.amqp_endpoint.specs.declared.event.End.{End}
use Rattle.amqp_endpoint.specs.declared.event.Event.TheVariants as event
use Rattle.amqp_endpoint.specs.declared.event.Outcome.{Outcome}
use Rattle.amqp_endpoint.specs.declared.event.Outcome.TheVariants as outcome
use Rattle.amqp_serve.specs.declared.rules.Rule.{Rule}
use Rattle.amqp_serve.specs.declared.serving.ServeFault.{ServeFault}
use Rattle.amqp_serve.specs.declared.supplies.Supply.{Supply}
use Rattle.amqp_serve.specs.declared.supplies.Supply.TheVariants.{WindowOf, CreditOf}
use Rattle.amqp_serve.specs.declared.serving.ServeFault.TheVariants as fault
use Rattle.amqp_endpoint.specs.Configs.{Configured}
use Rattle.amqp_endpoint.specs.Connections.{ConnectionState, channels, slot_at, is_dead}
use Rattle.amqp_endpoint.specs.Lines.{line_of, may_grow_on}
use Rattle.amqp_endpoint.specs.Runs.{Call, Feed, InSession, Output, Finish, Answer, Fed, Handed, HandedUp, MovedOut, Ended, Does, Run}
use Rattle.amqp_endpoint.specs.Steps.{EndpointState, IsKept}
use Rattle.amqp_endpoint.specs.Takings.{link_in, link_at}
use Rattle.amqp_endpoint.specs.Traces.{IsInRange, AreInRange, taken_by, moved_by}

-- What is lacking. ----------------------------------------------------------------------------------------------------

-- If at most half of the places that a session began with are left, it lacks the others.
abbrev pub window_lack : ℕ → Slot SessionState → ℕ
window_lack window Free = 0
window_lack window (Live s) = if nat_le (2 * s.window) window then window - s.window else 0
window_lack window Awaits = 0

-- A link whose credit is at most the mark lacks what it is short of the rule's credit, within what it is allowed less its credit and its open deliveries.
abbrev pub credit_lack : Rule → Slot LiveLink → ℕ
credit_lack p Free = 0
credit_lack p (Live l) = if nat_le l.link.credit p.mark then min (p.credit - l.link.credit) (l.link.terms.bounds.allowed - l.link.credit - open_count l.link) else 0
credit_lack p Awaits = 0

abbrev pub lack : Rule → ConnectionState → Supply → ℕ
lack p s (WindowOf channel) = window_lack s.config.window (slot_at s channel)
lack p s (CreditOf channel handle) = credit_lack p (link_in handle (slot_at s channel))

-- the call that gives a supply this much
abbrev pub top_up_by : Supply → ℕ → Call
top_up_by (WindowOf channel) n = InSession channel (Widen n)
top_up_by (CreditOf channel handle) n = InSession channel (Grant handle n)

-- the supplies of a session: its window, and the credit of its links by rising handle
abbrev pub session_supplies : ℕ → ℕ → List Supply
session_supplies handles channel = WindowOf channel ∷ tabulate 0 handles (λ handle. CreditOf channel handle)

-- the supplies of this many channels from this one on, by rising channel
unfoldable pub all_supplies_from : ℕ → ℕ → ℕ → List Supply
all_supplies_from handles channel count = flat_map (λ k. session_supplies handles k) (tabulate channel count (λ k. k))

unfoldable pub all_supplies : Configured → List Supply
all_supplies config = all_supplies_from (suc config.handle_max) 0 (channels config)

-- Where the server stands. --------------------------------------------------------------------------------------------

pub data Stand : Type 0 where
  ToppingUp : List Supply → Stand  -- these supplies are yet to be topped up; if there is none, the next piece is fed
  Receiving : ℕ → ℕ → Stand  -- a message is ready on this channel, on the link with this handle
  Settling : ℕ → ℕ → Stand  -- the delivery on this channel with this id was handed up, and its sender has not settled it
  Starved : Stand  -- memory was refused
  Over : Stand  -- the input has ended

abbrev pub reading : Stand
reading = ToppingUp []

-- where the server stands after a feed that reported this
abbrev pub stand_told : Configured → Outcome → Stand
stand_told config (outcome.Event (event.Ready channel handle)) = Receiving channel handle
stand_told config outcome.NoMemory = Starved
stand_told config _ = ToppingUp (all_supplies config)

abbrev pub stand_handed : Configured → ℕ → Handed → Stand
stand_handed config channel d = if d.settled then ToppingUp (all_supplies config) else Settling channel d.delivery_id

-- where it stands after a take with this answer
abbrev pub stand_taken : Configured → ℕ → Answer → Stand
stand_taken config channel (HandedUp d) = stand_handed config channel d
stand_taken config channel _ = ToppingUp (all_supplies config)  -- refused

-- Which call follows which. -------------------------------------------------------------------------------------------

-- one call with its answer
pub record Step : Type 0 where
  pub call : Call
  pub answer : Answer

-- These calls with their answers lead the server from the first stand to the second, and the endpoint from the first state to the second.
pub data Serves : Rule → Stand → EndpointState → List Step → Stand → EndpointState → Type 0 where
  Rests : {p : Rule} {a : Stand} {s : EndpointState} → Serves p a s [] a s
  -- at any time some of what waits to be sent is moved out
  MovesOut : {p : Rule} {a b : Stand} {s last : EndpointState} {steps : List Step} (next : EndpointState) (room : ℕ) (bytes : List ℕ)
      → Does s next (Output room) (MovedOut bytes) → Serves p a next steps b last
      → Serves p a s (record { call = Output room; answer = MovedOut bytes } ∷ steps) b last
  -- nothing waits, and a piece of bytes is fed
  Feeds : {p : Rule} {b : Stand} {s last : EndpointState} {steps : List Step} (next : EndpointState) (piece : List ℕ) (used : ℕ) (told : Outcome)
      → s.unsent ≡ [] → IsInRange (Feed piece) → Does s next (Feed piece) (Fed used told) → Serves p (stand_told next.connection.config told) next steps b last
      → Serves p reading s (record { call = Feed piece; answer = Fed used told } ∷ steps) b last
  -- the message that is ready is taken
  Takes : {p : Rule} {b : Stand} {s last : EndpointState} {steps : List Step} (next : EndpointState) (channel handle : ℕ) (answer : Answer)
      → Does s next (InSession channel (Take handle)) answer → Serves p (stand_taken next.connection.config channel answer) next steps b last
      → Serves p (Receiving channel handle) s (record { call = InSession channel (Take handle); answer = answer } ∷ steps) b last
  -- nothing waits, and the message is settled
  Settles : {p : Rule} {b : Stand} {s last : EndpointState} {steps : List Step} (next : EndpointState) (channel id : ℕ) (answer : Answer)
      → s.unsent ≡ [] → id < 2 ^ 32 → Does s next (InSession channel (Settle id p.outcome)) answer → Serves p (ToppingUp (all_supplies next.connection.config)) next steps b last
      → Serves p (Settling channel id) s (record { call = InSession channel (Settle id p.outcome); answer = answer } ∷ steps) b last
  -- the first supply lacks something, nothing waits, and the supply is given what it lacks
  TopsUp : {p : Rule} {b : Stand} {s last : EndpointState} {steps : List Step} (next : EndpointState) (supply : Supply) (supplies : List Supply) (answer : Answer)
      → s.unsent ≡ [] → 0 < lack p s.connection supply → Does s next (top_up_by supply (lack p s.connection supply)) answer → Serves p (ToppingUp supplies) next steps b last
      → Serves p (ToppingUp (supply ∷ supplies)) s (record { call = top_up_by supply (lack p s.connection supply); answer = answer } ∷ steps) b last
  -- the first supply lacks nothing
  Passes : {p : Rule} {b : Stand} {s last : EndpointState} {steps : List Step} (supply : Supply) (supplies : List Supply)
      → lack p s.connection supply ≡ 0 → Serves p (ToppingUp supplies) s steps b last
      → Serves p (ToppingUp (supply ∷ supplies)) s steps b last
  -- nothing waits, and the input ends
  Finishes : {p : Rule} {b : Stand} {s last : EndpointState} {steps : List Step} (next : EndpointState) (end : End)
      → s.unsent ≡ [] → Does s next Finish (Ended end) → Serves p Over next steps b last
      → Serves p reading s (record { call = Finish; answer = Ended end } ∷ steps) b last

-- What is read, written and recorded. ---------------------------------------------------------------------------------

-- The head of a record: the channel in 2 bytes, then the handle, delivery-id, message-format and length in 4 bytes each, the highest byte first. For a length that 4
-- bytes do not hold it has the largest that they do.
unfoldable pub record_head : ℕ → ℕ → Handed → List ℕ
record_head channel handle d =
    to_be_bytes w16 channel ++ to_be_bytes w32 handle ++ to_be_bytes w32 d.delivery_id ++ to_be_bytes w32 d.message_format ++ to_be_bytes w32 (min (length d.message) (2 ^ 32 - 1))

abbrev pub record_of : ℕ → ℕ → Handed → List ℕ
record_of channel handle d = record_head channel handle d ++ d.message

abbrev pub recorded_by : Call → Answer → List ℕ
recorded_by (InSession channel (Take handle)) (HandedUp d) = record_of channel handle d
recorded_by _ _ = []

abbrev pub fed : List Step → List ℕ
fed steps = flat_map (λ x. taken_by x.call x.answer) steps

abbrev pub moved : List Step → List ℕ
moved steps = flat_map (λ x. moved_by x.answer) steps

abbrev pub recorded : List Step → List ℕ
recorded steps = flat_map (λ x. recorded_by x.call x.answer) steps

-- From one stand to another these bytes were fed. What was moved out follows what the writer held, and the records follow what the sink held.
pub record Served (p : Rule) (a b : Stand) (bytes : List ℕ) (old new : EndpointState) (held now kept keeps : Option (List ℕ)) : Type 0 where
  pub steps : List Step
  pub serves : Serves p a old steps b new
  pub fed : fed steps ≡ bytes
  pub written : Appends held now (moved steps)
  pub recorded : Appends kept keeps (recorded steps)

-- All that was taken is recorded, except the message of the last call, a take, whose record is begun.
pub record IsLastRecordBegun (steps : List Step) (noted : List ℕ) : Type 0 where
  pub before : List Step
  pub channel : ℕ
  pub handle : ℕ
  pub handed : Handed
  pub split : steps ≡ before ++ record { call = InSession channel (Take handle); answer = HandedUp handed } ∷ []
  pub part : List ℕ
  pub all : noted ≡ recorded before ++ part

-- Where serving breaks off: at Read when the next piece is due, at NoMemory when memory was refused. All that was taken is recorded, except perhaps, at Sink, the message
-- of the last call.
abbrev pub IsLeft : ServeFault → Stand → List Step → List ℕ → List ℕ → Type 0
IsLeft fault.Read stand steps noted unnoted = (stand ≡ reading) × (unnoted ≡ [])
IsLeft fault.Write stand steps noted unnoted = unnoted ≡ []
IsLeft fault.Sink stand steps noted unnoted = (unnoted ≡ []) ⊎ IsLastRecordBegun steps noted
IsLeft fault.NoMemory stand steps noted unnoted = (stand ≡ Starved) × (unnoted ≡ [])

-- Serving broke off with this fault. These bytes were fed, all that was moved out was written, and a beginning of the records was recorded. A reader that failed may have
-- put something into the room of the endpoint's buffer, where it does not count.
pub record BrokeOff (p : Rule) (e : ServeFault) (a : Stand) (bytes : List ℕ) (old new : EndpointState) (held now kept keeps : Option (List ℕ)) : Type 0 where
  pub stand : Stand
  pub steps : List Step
  pub last : EndpointState
  pub serves : Serves p a old steps stand last
  pub same : IsKept last new
  pub fed : bytes ≡ fed steps
  pub written : Appends held now (moved steps)
  pub noted : List ℕ
  pub unnoted : List ℕ
  pub records : recorded steps ≡ noted ++ unnoted
  pub sink : Appends kept keeps noted
  pub left : IsLeft e stand steps noted unnoted

-- These bytes were read and fed.
pub record HasRead (p : Rule) (old new : EndpointState) (input left held now kept keeps : Option (List ℕ)) : Type 0 where
  pub bytes : List ℕ
  pub read : Consumes input left bytes
  pub served : Served p reading reading bytes old new held now kept keeps

-- Some bytes were read, and serving broke off with this fault.
abbrev pub HasBroken : Rule → ServeFault → EndpointState → EndpointState → Option (List ℕ) → Option (List ℕ) → Option (List ℕ) → Option (List ℕ) → Option (List ℕ) → Option (List ℕ) → Type 0
HasBroken p e old new input left held now kept keeps = (bytes : List ℕ) × Consumes input left bytes × BrokeOff p e reading bytes old new held now kept keeps

-- no unit waits
abbrev pub IsIdle : EndpointState → Type 0
IsIdle s = (u : StreamUnit) → Waits s.input u → ⊥

-- Memory was refused for the unit that waits. Nothing waits to be sent, and the connection is not over, so that a feed of no bytes tries it again.
pub record IsStarved (s : EndpointState) : Type 0 where
  pub unit : StreamUnit
  pub waits : Waits s.input unit
  pub wants : may_grow_on (line_of s.connection unit) ≡ true
  pub sent : s.unsent ≡ []
  pub alive : is_dead s.connection.phase ≡ false

-- no message is ready to be taken on any link
abbrev pub HasAllTaken : ConnectionState → Type 0
HasAllTaken s = (channel handle : ℕ) → slot_ready (link_at s channel handle) ≡ 0

-- serving went on with no piece fed
pub record Works (p : Rule) (a b : Stand) (old new : EndpointState) (held now kept keeps : Option (List ℕ)) : Type 0 where
  pub served : Served p a b [] old new held now kept keeps
  pub input : IsUnchanged old.input new.input

abbrev pub finish_of : End → Step
finish_of end = record { call = Finish; answer = Ended end }

abbrev pub calls_of : List Step → List Call
calls_of steps = map (λ x. x.call) steps

abbrev pub answers_of : List Step → List Answer
answers_of steps = map (λ x. x.answer) steps

-- The whole run over the bytes that were read. Its last call is the finish, which came once the connection was over, or the reader had ended.
pub record IsServed (p : Rule) (end : End) (bytes : List ℕ) (ended : Bool) (old new : EndpointState) (held now kept keeps : Option (List ℕ)) : Type 0 where
  pub steps : List Step
  pub before : EndpointState
  pub serves : Serves p reading old steps reading before
  pub ends : Serves p reading before (finish_of end ∷ []) Over new
  pub run : Run old (calls_of (steps ++ finish_of end ∷ [])) (answers_of (steps ++ finish_of end ∷ [])) new
  pub range : AreInRange (calls_of (steps ++ finish_of end ∷ []))
  pub fed : bytes ≡ fed steps
  pub over : (is_dead before.connection.phase ≡ true) ⊎ IsTrue ended
  -- no unit waited then, unless the connection was over at first
  pub idle : is_dead old.connection.phase ≡ false → IsIdle before
  pub written : Appends held now (moved steps)
  pub recorded : Appends kept keeps (recorded steps)
