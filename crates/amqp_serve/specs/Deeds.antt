-- What a serving call did, and how it ended.
use Rattle.std.specs.Prelude.{◌≡◌, ◌≢◌, ◌↔◌, ℕ, ◌+◌, ◌-◌, ◌^◌, min, sum_by, length, Bool, true, false, List, [], ◌∷◌, ◌++◌, Option, Some, None, Result, Ok, Err, IsTrue}
use Rattle.std.specs.List.{flat_map}
use Rattle.amqp_frame.specs.Devices.{device_inner, has_failed}
use Rattle.amqp_frame.specs.declared.device.Device.{Device}
use Rattle.amqp_frame.specs.Splits.{SplitterState, IsTaken}
use Rattle.amqp_session.specs.Calls.{Widen, Grant, Take, Settle}
use Rattle.amqp_endpoint.specs.declared.event.Event.TheVariants as event
use Rattle.amqp_endpoint.specs.declared.event.Outcome.{Outcome}
use Rattle.amqp_endpoint.specs.declared.event.Outcome.TheVariants as outcome
use Rattle.amqp_endpoint.specs.declared.fault.CallFault.{CallFault}
use Rattle.amqp_endpoint.specs.Connections.{is_dead}
use Rattle.amqp_endpoint.specs.Runs.{Call, InSession, Answer, Fed, Accepted, Refused, Handed, HandedUp}
use Rattle.amqp_endpoint.specs.Steps.{EndpointState}
use Rattle.amqp_serve.specs.declared.rules.Rule.{Rule}
use Rattle.amqp_serve.specs.declared.serving.ServeFault.{ServeFault}
use Rattle.amqp_serve.specs.declared.serving.ServeFault.TheVariants as fault
use Rattle.amqp_serve.specs.declared.steps.Received.{Received}
use Rattle.amqp_serve.specs.declared.steps.Receipt.{Receipt}
use Rattle.amqp_serve.specs.declared.steps.Receipt.TheVariants as receipt
use Rattle.amqp_serve.specs.declared.steps.Done.{Done}
use Rattle.amqp_serve.specs.declared.supplies.Supply.{Supply}
use Rattle.amqp_serve.specs.declared.supplies.Supply.TheVariants.{WindowOf, CreditOf}
use Rattle.amqp_serve.specs.declared.supplies.Topped.{Topped}
use Rattle.amqp_serve.specs.Serving.{Stand, Step, stand_told, reading, Served, Works, BrokeOff, HasRead, HasBroken, IsIdle, IsStarved, record_of}

-- What was done. ------------------------------------------------------------------------------------------------------

-- a number, or the highest that 32 bits hold if it is larger
abbrev pub most : ℕ → ℕ
most n = min n (2 ^ 32 - 1)

-- what a feed reported
abbrev pub outcomes_by : Answer → List Outcome
outcomes_by (Fed used told) = told ∷ []
outcomes_by _ = []

abbrev pub received_as : Handed → Received
received_as d = record { delivery_id = d.delivery_id; delivery_tag = d.delivery_tag; len = most (length d.message) }

-- the result of a take: the message, and whether its sender had settled it
abbrev pub takes_by : Call → Answer → List (Result (Received × Bool) CallFault)
takes_by (InSession channel (Take handle)) (HandedUp d) = Ok (received_as d, d.settled) ∷ []
takes_by (InSession channel (Take handle)) (Refused f) = Err f ∷ []
takes_by _ _ = []

-- the result of a settle
abbrev pub settles_by : Call → Answer → List (Result (Unit {0}) CallFault)
settles_by (InSession channel (Settle id outcome)) Accepted = Ok tt ∷ []
settles_by (InSession channel (Settle id outcome)) (Refused f) = Err f ∷ []
settles_by _ _ = []

-- by how many places a window was widened
abbrev pub widened_by : Call → Answer → ℕ
widened_by (InSession channel (Widen n)) Accepted = n
widened_by _ _ = 0

-- credit that was granted
abbrev pub granted_by : Call → Answer → ℕ
granted_by (InSession channel (Grant handle n)) Accepted = n
granted_by _ _ = 0

-- 1 for a supply that was refused what it lacked
abbrev pub refused_by : Call → Answer → ℕ
refused_by (InSession channel (Widen n)) (Refused f) = 1
refused_by (InSession channel (Grant handle n)) (Refused f) = 1
refused_by _ _ = 0

pub record Deeds : Type 0 where
  pub told : List Outcome
  pub takes : List (Result (Received × Bool) CallFault)
  pub settles : List (Result (Unit {0}) CallFault)
  pub topped : Topped

-- This is what these steps reported, took, settled and topped up.
pub record AreDeeds (d : Deeds) (steps : List Step) : Type 0 where
  pub told : d.told ≡ flat_map (λ x. outcomes_by x.answer) steps
  pub takes : d.takes ≡ flat_map (λ x. takes_by x.call x.answer) steps
  pub settles : d.settles ≡ flat_map (λ x. settles_by x.call x.answer) steps
  pub widened : d.topped.widened ≡ most (sum_by (λ x. widened_by x.call x.answer) steps)
  pub granted : d.topped.granted ≡ most (sum_by (λ x. granted_by x.call x.answer) steps)
  pub refused : d.topped.refused ≡ most (sum_by (λ x. refused_by x.call x.answer) steps)

abbrev pub with_both : Topped → Topped → Topped
with_both a b = record { widened = most (a.widened + b.widened); granted = most (a.granted + b.granted); refused = most (a.refused + b.refused) }

-- what topping up a supply by `n` did, by the answer to the call
abbrev pub topped_as : Supply → ℕ → Result (Unit {0}) CallFault → Topped
topped_as (WindowOf channel) n (Ok x) = record { widened = n; granted = 0; refused = 0 }
topped_as (CreditOf channel handle) n (Ok x) = record { widened = 0; granted = n; refused = 0 }
topped_as supply n (Err f) = record { widened = 0; granted = 0; refused = 1 }

abbrev pub topped_deeds : Topped → Deeds
topped_deeds t = record { told = []; takes = []; settles = []; topped = t }

abbrev pub nothing_topped : Topped
nothing_topped = record { widened = 0; granted = 0; refused = 0 }

abbrev pub no_deeds : Deeds
no_deeds = topped_deeds nothing_topped

abbrev pub fed_deeds : Outcome → Deeds
fed_deeds told = record { told = told ∷ []; takes = []; settles = []; topped = nothing_topped }

-- the results of the take and of the settle that a receipt stands for
abbrev pub takes_of : Receipt → List (Result (Received × Bool) CallFault)
takes_of receipt.Nothing = []
takes_of (receipt.Refused f) = Err f ∷ []
takes_of (receipt.Settled m) = Ok (m, true) ∷ []
takes_of (receipt.Told m) = Ok (m, false) ∷ []
takes_of (receipt.Untold m f) = Ok (m, false) ∷ []

abbrev pub settles_of : Receipt → List (Result (Unit {0}) CallFault)
settles_of receipt.Nothing = []
settles_of (receipt.Refused f) = []
settles_of (receipt.Settled m) = []
settles_of (receipt.Told m) = Ok tt ∷ []
settles_of (receipt.Untold m f) = Err f ∷ []

-- the receipt of a message, by the answer to its settle
abbrev pub receipt_by : Received → Result (Unit {0}) CallFault → Receipt
receipt_by m (Ok x) = receipt.Told m
receipt_by m (Err f) = receipt.Untold m f

abbrev pub receipt_deeds : Receipt → Deeds
receipt_deeds r = record { told = []; takes = takes_of r; settles = settles_of r; topped = nothing_topped }

-- all but what the feed reported
abbrev pub rest_deeds : Done → Deeds
rest_deeds d = record { told = []; takes = takes_of d.receipt; settles = settles_of d.receipt; topped = d.topped }

abbrev pub done_deeds : Outcome → Done → Deeds
done_deeds told d = record { told = told ∷ []; takes = takes_of d.receipt; settles = settles_of d.receipt; topped = d.topped }

-- the message that a receipt tells of
abbrev pub message_in : Receipt → Option Received
message_in receipt.Nothing = None
message_in (receipt.Refused f) = None
message_in (receipt.Settled m) = Some m
message_in (receipt.Told m) = Some m
message_in (receipt.Untold m f) = Some m

-- this was recorded: the record of this message of the link at a handle of a channel, or nothing
abbrev pub IsNoted : Option Received → ℕ → ℕ → List ℕ → Type 0
IsNoted None channel handle noted = noted ≡ []
IsNoted (Some m) channel handle noted = (d : Handed) × (m ≡ received_as d) × (noted ≡ record_of channel handle d)

-- A step recorded what it tells of: the message of its receipt, from the link on which its event says that one is ready.
abbrev pub IsNotedAs : Outcome → Receipt → List ℕ → Type 0
IsNotedAs (outcome.Event (event.Ready channel handle)) r noted = IsNoted (message_in r) channel handle noted
IsNotedAs told r noted = (message_in r ≡ None) × (noted ≡ [])

-- How it came out. ----------------------------------------------------------------------------------------------------

-- What a writer and a sink hold, if that is known, and which of them failed.
pub record Ends : Type 0 where
  pub writer : Option (List ℕ)
  pub sink : Option (List ℕ)
  pub writer_failed : Bool
  pub sink_failed : Bool

abbrev pub ends : {W S : Type 0} → (W → Option (List ℕ)) → (S → Option (List ℕ)) → Device W → Device S → Ends
ends written recorded writer sink = record { writer = written (device_inner writer); sink = recorded (device_inner sink); writer_failed = has_failed writer; sink_failed = has_failed sink }

-- neither failed
pub record AreOpen (e : Ends) : Type 0 where
  pub writer : ¬ (IsTrue e.writer_failed)
  pub sink : ¬ (IsTrue e.sink_failed)

-- the fault names the one that failed, if one did
pub record IsMarked (x : ServeFault) (e : Ends) : Type 0 where
  pub writer : (x ≡ fault.Write) ↔ IsTrue e.writer_failed
  pub sink : (x ≡ fault.Sink) ↔ IsTrue e.sink_failed

abbrev pub IsOfEnds : ServeFault → Type 0
IsOfEnds fault.Read = ⊥
IsOfEnds fault.Write = Unit {0}
IsOfEnds fault.Sink = Unit {0}
IsOfEnds fault.NoMemory = ⊥

-- Serving went from one stand to another with no piece fed, and did this. Neither device failed.
pub record WentOn (p : Rule) (d : Deeds) (a b : Stand) (old new : EndpointState) (e f : Ends) : Type 0 where
  pub works : Works p a b old new e.writer f.writer e.sink f.sink
  pub deeds : AreDeeds d works.served.steps
  pub still : AreOpen f

-- Serving broke off, since the writer or the sink failed.
pub record WentOff (p : Rule) (x : ServeFault) (a : Stand) (old new : EndpointState) (e f : Ends) : Type 0 where
  pub which : IsOfEnds x
  pub broke : BrokeOff p x a [] old new e.writer f.writer e.sink f.sink
  pub marked : IsMarked x f

abbrev pub Went : {X : Type 0} → Rule → (X → Deeds) → Stand → Stand → Result X ServeFault → EndpointState → EndpointState → Ends → Ends → Type 0
Went p tells a b (Ok x) old new e f = WentOn p (tells x) a b old new e f
Went p tells a b (Err x) old new e f = WentOff p x a old new e f

-- What follows from a feed that reported this was done, and no answer waits.
pub record HasFollowed (p : Rule) (told : Outcome) (d : Done) (old new : EndpointState) (e f : Ends) : Type 0 where
  pub fed : told ≢ outcome.NoMemory
  pub works : Works p (stand_told old.connection.config told) reading old new e.writer f.writer e.sink f.sink
  pub deeds : AreDeeds (rest_deeds d) works.served.steps
  pub sent : new.unsent ≡ []
  pub still : AreOpen f

-- It broke off instead. If memory was refused, nothing was done.
pub record HasFailed (p : Rule) (told : Outcome) (x : ServeFault) (old new : EndpointState) (e f : Ends) : Type 0 where
  pub which : x ≢ fault.Read
  pub broke : BrokeOff p x (stand_told old.connection.config told) [] old new e.writer f.writer e.sink f.sink
  pub starved : x ≡ fault.NoMemory → (told ≡ outcome.NoMemory) × (new ≡ old) × (f ≡ e)
  pub marked : IsMarked x f

abbrev pub Follows : Rule → Outcome → Result Done ServeFault → EndpointState → EndpointState → Ends → Ends → Type 0
Follows p told (Ok d) old new e f = HasFollowed p told d old new e f
Follows p told (Err x) old new e f = HasFailed p told x old new e f

-- an answer whose value was stored
abbrev pub filled : Result (Unit {0}) ServeFault → Done → Result Done ServeFault
filled (Ok x) d = Ok d
filled (Err x) d = Err x

-- These bytes were fed, and what follows was done and reported. No answer waits, and no unit unless the connection was over
-- before.
pub record HasStepped (p : Rule) (told : Outcome) (d : Done) (bytes : List ℕ) (old new : EndpointState) (e f : Ends) : Type 0 where
  pub served : Served p reading reading bytes old new e.writer f.writer e.sink f.sink
  pub deeds : AreDeeds (done_deeds told d) served.steps
  pub sent : new.unsent ≡ []
  pub idle : is_dead old.connection.phase ≡ false → IsIdle new
  pub still : AreOpen f

-- only these bytes came into the buffer
pub record IsAdded (old new : SplitterState) (bytes : List ℕ) : Type 0 where
  pub limit : new.limit ≡ old.limit
  pub stage : new.stage ≡ old.stage
  pub filled : new.filled ≡ old.filled ++ bytes

-- The step broke off instead. If memory was refused, the bytes are in the buffer and the unit waits, nothing was written or
-- recorded, and the connection did not change.
pub record HasStopped (p : Rule) (x : ServeFault) (bytes : List ℕ) (old new : EndpointState) (e f : Ends) : Type 0 where
  pub which : x ≢ fault.Read
  pub broke : BrokeOff p x reading bytes old new e.writer f.writer e.sink f.sink
  pub starved : x ≡ fault.NoMemory → IsStarved new
  pub still : x ≡ fault.NoMemory → (new.connection ≡ old.connection) × (f ≡ e)
  pub added : x ≡ fault.NoMemory → IsAdded old.input new.input bytes
  pub marked : IsMarked x f

abbrev pub IsStepped : Rule → List ℕ → Outcome → Result Done ServeFault → EndpointState → EndpointState → Ends → Ends → Type 0
IsStepped p bytes told (Ok d) old new e f = HasStepped p told d bytes old new e f
IsStepped p bytes told (Err x) old new e f = HasStopped p x bytes old new e f

-- How far a step reaches into a piece: up to the end of the unit that is due, or of the piece. It uses no byte while a unit waits, and none once the connection is over.
abbrev pub ReachesBy : Bool → EndpointState → List ℕ → ℕ → Type 0
ReachesBy true s piece used = used ≡ 0
ReachesBy false s piece used = (between : SplitterState) × IsTaken s.input between piece used

abbrev pub Reaches : EndpointState → List ℕ → ℕ → Type 0
Reaches s piece used = ReachesBy (is_dead s.connection.phase) s piece used

-- Bytes of a reader were served by steps, and serving broke off.
pub record IsLost (p : Rule) (x : ServeFault) (old new : EndpointState) (input left : Option (List ℕ)) (reader_failed : Bool) (e f : Ends) : Type 0 where
  pub broken : HasBroken p x old new input left e.writer f.writer e.sink f.sink
  pub read : (x ≡ fault.Read) ↔ IsTrue reader_failed
  pub marked : IsMarked x f
  -- nothing waits to be written while it reads, and it reads only until the connection is over
  pub waited : x ≡ fault.Read → (new.unsent ≡ []) × (is_dead new.connection.phase ≡ false)
  pub starved : x ≡ fault.NoMemory → IsStarved new

-- A step was made, with what the reader had at hand or gave.
pub record HasGone (p : Rule) (old new : EndpointState) (input left : Option (List ℕ)) (reader_failed : Bool) (e f : Ends) : Type 0 where
  pub read : HasRead p old new input left e.writer f.writer e.sink f.sink
  pub idle : IsIdle new
  pub sent : new.unsent ≡ []
  pub still : AreOpen f
  pub reader : ¬ (IsTrue reader_failed)

abbrev pub Goes : Rule → Result (Unit {0}) ServeFault → EndpointState → EndpointState → Option (List ℕ) → Option (List ℕ) → Bool → Ends → Ends → Type 0
Goes p (Ok x) old new input left reader_failed e f = HasGone p old new input left reader_failed e f
Goes p (Err x) old new input left reader_failed e f = IsLost p x old new input left reader_failed e f
