-- What holds after every list of calls of a new endpoint: its state, the bytes that it took and gave, and what it reported follow from one history of units and accepted calls.
use Rattle.std.specs.Prelude.{◌≡◌, ℕ, suc, ◌<◌, ◌≤◌, Bool, true, false, if◌then◌else◌, List, [], ◌∷◌, ◌++◌, length, take, drop, map, slice_index, Option, Some, None}
use Rattle.std.specs.List.{flat_map}
use Rattle.amqp_frame.specs.Splits.{IsHeld}
use Rattle.amqp_frame.specs.Units.{bytes_of, AreUnits, due_behind}
use Rattle.amqp_frame.specs.declared.units.Stage.TheVariants as due
use Rattle.amqp_session.specs.Calls as session
use Rattle.amqp_session.specs.Calls.{Take}
use Rattle.amqp_session.specs.declared.slot.Slot.TheVariants.{Live}
use Rattle.amqp_session.specs.Laws.{IsCallInRange}
use Rattle.amqp_session.specs.Sessions.{LiveLink, SessionState}
use Rattle.amqp_perform.specs.declared.condition.Condition.{Condition}
use Rattle.amqp_endpoint.specs.declared.event.Event.{Event}
use Rattle.amqp_endpoint.specs.declared.event.Event.TheVariants as told
use Rattle.amqp_endpoint.specs.declared.event.Scope.{Scope}
use Rattle.amqp_endpoint.specs.declared.event.Outcome.{Outcome}
use Rattle.amqp_endpoint.specs.declared.event.Outcome.TheVariants as outcome
use Rattle.amqp_endpoint.specs.Configs.{Configured}
use Rattle.amqp_endpoint.specs.Credits.{granted_since}
use Rattle.amqp_endpoint.specs.Connections.{ConnectionState, slot_at, connection_ready}
use Rattle.amqp_endpoint.specs.Held.{HoldsWithin}
use Rattle.amqp_endpoint.specs.Histories as of_connection
use Rattle.amqp_endpoint.specs.Histories.{part, state_of, Sound}
use Rattle.amqp_endpoint.specs.Lines.{line_of, told_on}
use Rattle.amqp_endpoint.specs.Runs.{Call, Feed, InSession, Close, CloseWith, Heartbeat, Finish, Handed, Answer, Fed, Accepted, Dropped, HandedUp, Refused, MovedOut, accepted_answer}
use Rattle.amqp_endpoint.specs.Runs.{Happened, Acted, Called, Closed, ClosedWith, Beat, Over, events, written, units_of, Run, IsStart}
use Rattle.amqp_endpoint.specs.Steps.{EndpointState}
use Rattle.amqp_endpoint.specs.Takings.{Taking, lives, takings, taken_in, link_part, last_part, link_at, AreFirst, HasItsPart}
use Rattle.amqp_endpoint.specs.Windows.{HasItsWindow}

-- What calls have to be. --------------------------------------------------------------------------------------------

-- a piece consists of bytes, and a delivery-id has 32 bits
abbrev pub IsInRange : Call → Type 0
IsInRange (Feed piece) = (i : ℕ) → slice_index piece i < 256
IsInRange (InSession channel c) = IsCallInRange c
IsInRange c = Unit {0}

abbrev pub AreInRange : List Call → Type 0
AreInRange [] = Unit {0}
AreInRange (c ∷ calls) = IsInRange c × AreInRange calls

-- What calls and answers say. ---------------------------------------------------------------------------------------

-- the bytes that a feed took: the first ones of its piece
abbrev pub taken_by : Call → Answer → List ℕ
taken_by (Feed piece) (Fed used outcome) = take used piece
taken_by c a = []

-- the bytes that an output moved out
abbrev pub moved_by : Answer → List ℕ
moved_by (MovedOut bytes) = bytes
moved_by a = []

-- What an answer reports: an event, that a call was accepted and with which answer, or that the input ended.
pub data Told : Type 0 where
  Tells : Event → Told
  Done : Call → Answer → Told
  Ends : Told

abbrev pub event_in : Outcome → List Told
event_in (outcome.Event e) = Tells e ∷ []
event_in o = []

-- a refused call reports nothing, nor do a feed without an event, an output, and a question for the bytes held
abbrev pub told_by : Call → Answer → List Told
told_by (Feed piece) (Fed used outcome) = event_in outcome
told_by (InSession channel c) (Refused fault) = []
told_by (InSession channel c) a = Done (InSession channel c) a ∷ []
told_by Close (Refused fault) = []
told_by Close a = Done Close a ∷ []
told_by (CloseWith r) (Refused fault) = []
told_by (CloseWith r) a = Done (CloseWith r) a ∷ []
told_by Heartbeat (Refused fault) = []
told_by Heartbeat a = Done Heartbeat a ∷ []
told_by Finish a = Ends ∷ []
told_by c a = []

-- all bytes that were taken, in order
abbrev pub all_taken : List Call → List Answer → List ℕ
all_taken (c ∷ calls) (a ∷ answers) = taken_by c a ++ all_taken calls answers
all_taken calls answers = []

-- all that was reported, in order
abbrev pub heard : List Call → List Answer → List Told
heard (c ∷ calls) (a ∷ answers) = told_by c a ++ heard calls answers
heard calls answers = []

-- What a history says. ----------------------------------------------------------------------------------------------

-- the input ended, that is, finish was called; after a unit that ends the connection this is still false
abbrev pub has_finished : List Happened → Bool
has_finished [] = false
has_finished (Over ∷ h) = true
has_finished (x ∷ h) = has_finished h

-- What is reported of a unit is its event, which is a failure exactly if its line names a fault. An accepted call is answered by what the history before it results in: a take by the first message
-- that is ready.
abbrev pub event_told : Option Event → List Told
event_told None = []
event_told (Some e) = Tells e ∷ []

abbrev pub told_of : ConnectionState → Happened → List Told
told_of s (Acted u) = event_told (told_on s (line_of s u))
told_of s (Called channel c) = Done (InSession channel c) (accepted_answer (slot_at s channel) c) ∷ []
told_of s Closed = Done Close (Dropped (connection_ready s)) ∷ []
told_of s (ClosedWith r) = Done (CloseWith r) (Dropped (connection_ready s)) ∷ []
told_of s Beat = Done Heartbeat Accepted ∷ []
told_of s Over = Ends ∷ []

abbrev pub tellings : Configured → List Happened → List Told
tellings config [] = []
tellings config (x ∷ h) = tellings config h ++ told_of (state_of config (events config h)) x

-- what ends with an error by an event, and with which error
abbrev pub failure_in : Option Event → Option (Scope × Condition)
failure_in (Some (told.Failed scope condition dropped)) = Some (scope, condition)
failure_in e = None

-- a message that an answer hands up, with the channel and the handle of its link
abbrev pub handed_to : ℕ → session.Call → Handed → List (ℕ × ℕ × Handed)
handed_to channel (Take handle) d = (channel, handle, d) ∷ []
handed_to channel c d = []  -- no other call hands anything up

abbrev pub message_in : Told → List (ℕ × ℕ × Handed)
message_in (Done (InSession channel c) (HandedUp d)) = handed_to channel c d
message_in t = []

abbrev pub placed : Taking → ℕ × ℕ × Handed
placed t = (t.channel, t.handle, t.handed)

-- The theorem. ------------------------------------------------------------------------------------------------------

-- An endpoint after some calls, with its history, newest first. It took these bytes, moved these out, and reported this.
pub record IsTraced (config : Configured) (took moved : List ℕ) (told : List Told) (h : List Happened) (s : EndpointState) : Type 0 where
  -- each event of the history was one that could come
  pub accepted : of_connection.Accepted config (events config h)
  -- every field of the connection is what selections over the whole history result in
  pub state : s.connection ≡ state_of config (events config h)
  pub sound : Sound config (events config h)
  -- The bytes that were taken are the units of the history, each where it may come, and then a rest: less than a unit, or one that waits.
  pub rest : List ℕ
  pub units : took ≡ flat_map bytes_of (units_of h) ++ rest
  pub each : AreUnits config.max_frame due.Header (units_of h)
  pub held : IsHeld config.max_frame (due_behind due.Header (units_of h)) rest
  -- the rest is in the buffer, until the input ends: then the buffer is empty
  pub buffer : s.input.filled ≡ (if has_finished h then [] else rest)
  pub limit : s.input.limit ≡ config.max_frame
  pub stage : has_finished h ≡ false → s.input.stage ≡ due_behind due.Header (units_of h)
  -- all bytes that were written were moved out, or are in the output
  pub output : written config h ≡ moved ++ s.unsent
  -- What was reported are the events of the units and the accepted calls of the history with their answers, and nothing else.
  pub telling : told ≡ tellings config h

-- These calls and answers lead a new endpoint to this state, with a history.
pub record HasHistory (config : Configured) (calls : List Call) (answers : List Answer) (last : EndpointState) : Type 0 where
  pub history : List Happened
  -- its state, the bytes that it took and gave, and what it reported are those of the history
  pub traced : IsTraced config (all_taken calls answers) (flat_map moved_by answers) (heard calls answers) history last
  -- the bytes held are counted and bounded
  pub within : HoldsWithin config (events config history) last
  -- the messages that were handed up are those that the history hands up, in order
  pub messages : flat_map message_in (heard calls answers) ≡ map placed (takings (events config history))
  -- each live session has the window that its part of the history results in
  pub windows : (channel : ℕ) (s : SessionState) → slot_at last.connection channel ≡ Live s → HasItsWindow config (part channel (events config history)) s
  -- each live link, with the messages that were taken in its life, is what its part of the history results in
  pub links : (channel handle : ℕ) (l : LiveLink) → link_at last.connection channel handle ≡ Live l →
      HasItsPart config (link_part channel handle (events config history)) (granted_since channel handle (events config history))
      (taken_in channel handle (lives channel handle (events config history)) (events config history)) l
  -- for each life of a link, ended or not, the messages that were taken are the first of its whole deliveries, in order, each once, none skipped
  pub each_life : (channel handle life : ℕ) → AreFirst (last_part channel handle life (events config history)) (taken_in channel handle life (events config history))

-- After the first n calls: the run goes on to its end from the state of the endpoint, which has a history. The whole history is that one, with what happened later.
pub record HasMoment (config : Configured) (start : EndpointState) (calls : List Call) (answers : List Answer) (last : EndpointState) (whole : List Happened) (n : ℕ) : Type 0 where
  pub now : EndpointState
  pub so_far : Run start (take n calls) (take n answers) now
  pub goes_on : Run now (drop n calls) (drop n answers) last
  pub past : HasHistory config (take n calls) (take n answers) now
  pub later : List Happened
  pub grown : whole ≡ later ++ past.history

-- A whole run of a new endpoint has a history at its end. The history after each of its calls is an earlier stage of that one, and each call adds at most one thing to it. By the law
-- `runs_have_one_history` it has no other.
pub record IsWholeRun (config : Configured) (calls : List Call) (answers : List Answer) (last : EndpointState) : Type 0 where
  pub start : EndpointState
  pub new : IsStart config start
  pub run : Run start calls answers last
  pub past : HasHistory config calls answers last
  pub each : (n : ℕ) → n ≤ length calls → HasMoment config start calls answers last past.history n
  pub grows : (n : ℕ) (before : n ≤ length calls) (after : suc n ≤ length calls) →
      (added : List Happened) × (length added ≤ 1) × ((each (suc n) after).past.history ≡ added ++ (each n before).past.history)
  -- before the first call nothing has happened, and after the last call all of it
  pub empty : (none : 0 ≤ length calls) → (each 0 none).past.history ≡ []
  pub whole : (all : length calls ≤ length calls) → (each (length calls) all).past.history ≡ past.history
