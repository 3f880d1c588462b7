-- Turns of a hub, what each does to its connections and to its keeper, and what a list of them with their answers says of each.
use Rattle.std.specs.Prelude.{◌≡◌, ◌⊎◌, ℕ, ◌+◌, ◌-◌, ◌*◌, ◌^◌, ◌<◌, ◌≤◌, min, nat_eq, Bool, true, false, if◌then◌else◌, List, [], ◌∷◌, ◌++◌, length, take, Option, Some, None, option_map, IsSomeAnd, Result, Ok, Err, IsOk, sum_by}
use Rattle.slab.specs.Slab.{Slab, get, slab_len, entries, Updates, SameValues}
use Rattle.amqp_endpoint.specs.declared.event.End as of_end
use Rattle.amqp_endpoint.specs.declared.event.Outcome.{Outcome}
use Rattle.amqp_endpoint.specs.Calls.{heartbeat}
use Rattle.amqp_endpoint.specs.Configs.{Configured}
use Rattle.amqp_endpoint.specs.Steps.{EndpointState}
use Rattle.amqp_endpoint.specs.Uses.{held_by_any}
use Rattle.amqp_serve.specs.declared.rules.Rule.{Rule}
use Rattle.amqp_serve.specs.declared.serving.ServeFault.{ServeFault}
use Rattle.amqp_serve.specs.declared.serving.ServeFault.TheVariants as lost
use Rattle.amqp_serve.specs.declared.steps.Done.{Done}
use Rattle.amqp_serve.specs.declared.steps.Stepped.{Stepped}
use Rattle.amqp_serve.specs.Deeds.{IsNotedAs}
use Rattle.amqp_serve.specs.Rooms.{answers_room, record_room}
use Rattle.amqp_hub.specs.declared.fault.HubFault.{HubFault}
use Rattle.amqp_hub.specs.declared.fault.HubFault.TheVariants as fault
use Rattle.amqp_serve.specs.declared.server.Status.{Status}
use Rattle.amqp_serve.specs.declared.server.Status.TheVariants as status
use Rattle.amqp_serve.specs.Servers.{status_after, waiting}
use Rattle.amqp_hub.specs.declared.turn.Turn as asked
use Rattle.amqp_hub.specs.declared.turn.Turn.TheVariants as turn
use Rattle.amqp_hub.specs.declared.turn.TurnAnswer as given
use Rattle.amqp_hub.specs.declared.turn.TurnAnswer.TheVariants as answer
use Rattle.amqp_hub.specs.declared.keeper.Progress.{Progress}
use Rattle.amqp_hub.specs.declared.keeper.Origin.{Origin}
use Rattle.amqp_hub.specs.Keepers.{Given, origin_of}
use Rattle.amqp_hub.specs.Ledgers.{LedgerState, with_noted, waiting_bytes, is_settled, is_roomy, settled_after, progress_of}
use Rattle.amqp_serve.specs.Lives as lived
use Rattle.amqp_serve.specs.Lives.{Life, ByPeer, BySelf, IsOver, IsOpen, IsNotOpen, new_life, starved_on, told_on, ended_on}
use Rattle.amqp_hub.specs.Members.{MemberState, unsent_of, answers_most, member_held, hear_fault, beat_fault, end_fault, close_fault, IsNew, IsHeard, IsSame, IsSent, IsFinishedSo, IsClosed}

pub data Turn : Type 0 where
  Open : Turn  -- a connection is opened
  Hear : ℕ → List ℕ → Turn  -- these bytes came from the peer of the connection under this key
  Hand : ℕ → ℕ → Turn  -- at most this many of the bytes that wait for the peer under this key are handed out
  Heartbeat : ℕ → Turn  -- an empty frame for its peer is requested [2.4.5]
  Finish : ℕ → Turn  -- its input has ended
  Close : ℕ → Turn  -- this side closes the connection [2.4.3]
  Remove : ℕ → Turn  -- it is removed, and its key freed
  Ruled : ℕ → Rule → Turn  -- it is served by this rule from its next step on
  Settle : Option ℕ → Turn  -- the ledger takes at most so many records for good; at `None` it fails
  Held : Turn  -- how many bytes all hold
  Count : Turn  -- how many are open

pub data Answer : Type 0 where
  Opened : ℕ → Answer  -- under this key
  Heard : Stepped → ℕ → List ℕ → Answer  -- this step was made, this many bytes wait then for the peer, and this was put
  Handed : List ℕ → Answer
  Beat : List ℕ → Answer
  Ended : of_end.End → Answer  -- it stood so
  Closed : Answer
  Removed : Answer
  Changed : Answer  -- it goes by the other rule
  Settled : Progress → Answer  -- the ledger has come so far
  Holds : ℕ → Answer
  Counts : ℕ → Answer
  Refused : HubFault → Answer

abbrev pub turn_of : asked.Turn → Turn
turn_of turn.Open = Open
turn_of (turn.Hear key piece) = Hear key piece.now
turn_of (turn.Hand key room) = Hand key room
turn_of (turn.Heartbeat key) = Heartbeat key
turn_of (turn.Finish key) = Finish key
turn_of (turn.Close key) = Close key
turn_of (turn.Remove key) = Remove key
turn_of (turn.Rule key rule) = Ruled key rule
turn_of (turn.Settle most) = Settle most
turn_of turn.Held = Held
turn_of turn.Count = Count

abbrev pub answer_of : {A : Type 0} → given.TurnAnswer A → Answer
answer_of (answer.Opened key) = Opened key
answer_of (answer.Heard stepped due noted) = Heard stepped due noted.items
answer_of (answer.Handed bytes) = Handed bytes.items
answer_of (answer.Beat frame) = Beat frame
answer_of (answer.Ended end) = Ended end
answer_of answer.Closed = Closed
answer_of answer.Removed = Removed
answer_of answer.Changed = Changed
answer_of (answer.Settled p) = Settled p
answer_of (answer.Holds n) = Holds n
answer_of (answer.Counts n) = Counts n
answer_of (answer.Refused f) = Refused f

-- What turns say of a connection. --------------------------------------------------------------------------------------

-- A connection since it was opened: its server's life, in which `told` is what was handed out for its peer and `due` how many bytes wait; the rule of its next step; and its number.
pub record Seat : Type 0 where
  pub life : Life
  pub rule : Rule
  pub number : ℕ

-- the turn at this place opened it
abbrev pub new_seat : Rule → ℕ → Seat
new_seat r place = record { life = new_life; rule = r; number = place }

abbrev pub went_on : (Life → Life) → Seat → Seat
went_on f x = record x { life = f x.life }

-- another rule from its next step on
abbrev pub ruled_by : Rule → Seat → Seat
ruled_by rule x = record x { rule = rule }

-- the connection, if there is one
abbrev pub if_seated : (Seat → Seat) → Option Seat → Option Seat
if_seated f None = None
if_seated f (Some x) = Some (f x)

-- a step by its rule took these bytes, this many wait then for its peer, and this was recorded
abbrev pub heard_on : Seat → List ℕ → ℕ → List ℕ → Seat
heard_on x bytes due noted = went_on (λ l. record (lived.heard_on l x.rule bytes [] noted) { due = due }) x

abbrev pub stepped_on : Result Done ServeFault → List ℕ → ℕ → List ℕ → Option Seat → Option Seat
stepped_on (Ok d) bytes due noted seat = if_seated (λ x. heard_on x bytes due noted) seat
stepped_on (Err lost.NoMemory) bytes due noted seat = if_seated (went_on (λ l. starved_on l bytes)) seat
stepped_on (Err lost.Read) bytes due noted seat = None
stepped_on (Err lost.Write) bytes due noted seat = None
stepped_on (Err lost.Sink) bytes due noted seat = None

-- the connection under a key after the turn at this place, where one that is opened gets this rule
abbrev pub seated : Rule → ℕ → ℕ → Turn → Answer → Option Seat → Option Seat
seated r place key Open (Opened k) seat = if nat_eq k key then Some (new_seat r place) else seat
seated r place key (Hear k piece) (Heard s due noted) seat = if nat_eq k key then stepped_on s.done (take s.used piece) due noted seat else seat
seated r place key (Hand k room) (Handed bytes) seat = if nat_eq k key then if_seated (went_on (λ l. told_on l bytes)) seat else seat
seated r place key (Finish k) (Ended how) seat = if nat_eq k key then if_seated (went_on (λ l. ended_on l (ByPeer how))) seat else seat
seated r place key (Close k) Closed seat = if nat_eq k key then if_seated (went_on (λ l. ended_on l BySelf)) seat else seat
seated r place key (Remove k) Removed seat = if nat_eq k key then None else seat
seated r place key (Ruled k rule) Changed seat = if nat_eq k key then if_seated (ruled_by rule) seat else seat
seated r place key t a seat = seat

-- and after these turns, the first of which stands at this place
abbrev pub seat_after : Rule → ℕ → ℕ → List Turn → List Answer → Option Seat → Option Seat
seat_after r place key (t ∷ turns) (a ∷ answers) seat = seat_after r (place + 1) key turns answers (seated r place key t a seat)
seat_after r place key turns answers seat = seat

-- What turns say of the ledger. ---------------------------------------------------------------------------------------

-- what a step recorded of a connection is put under its number
abbrev pub put_by : Option ℕ → Stepped → List ℕ → LedgerState → LedgerState
put_by (Some number) s noted l = with_noted (origin_of number s) noted l
put_by None s noted l = l

-- after one turn, before which these were the connections
abbrev pub ledger_behind : (ℕ → Option Seat) → Turn → Answer → LedgerState → LedgerState
ledger_behind seats (Hear k piece) (Heard s due noted) l = put_by (option_map (λ x. x.number) (seats k)) s noted l
ledger_behind seats (Settle most) (Settled p) l = settled_after most l
ledger_behind seats t a l = l

-- and after these turns
abbrev pub ledger_after : Rule → LedgerState → (ℕ → Option Seat) → ℕ → List Turn → List Answer → LedgerState
ledger_after r l seats place (t ∷ turns) (a ∷ answers) = ledger_after r (ledger_behind seats t a l) (λ key. seated r place key t a (seats key)) (place + 1) turns answers
ledger_after r l seats place turns answers = l

-- How many are open. --------------------------------------------------------------------------------------------------

abbrev pub open_stepped : Result Done ServeFault → ℕ → ℕ
open_stepped (Ok d) n = n
open_stepped (Err lost.NoMemory) n = n
open_stepped (Err lost.Read) n = n - 1
open_stepped (Err lost.Write) n = n - 1
open_stepped (Err lost.Sink) n = n - 1

-- after one turn
abbrev pub open_behind : Answer → ℕ → ℕ
open_behind (Opened key) n = n + 1
open_behind (Heard s due noted) n = open_stepped s.done n
open_behind Removed n = n - 1
open_behind a n = n

-- Which answer fits. --------------------------------------------------------------------------------------------------

-- what any connection holds at most: its endpoint, answers that may wait while it hears, and the answers to one unit
abbrev pub most_of : Configured → ℕ
most_of config = held_by_any config + answers_most + answers_room config

-- A step that was done recorded the message that it tells of, at most so many bytes. One that was refused memory leaves nothing more for the peer, and nothing recorded.
abbrev pub SpeaksOf : Configured → Outcome → Result Done ServeFault → Life → ℕ → List ℕ → Type 0
SpeaksOf config told (Ok d) l due noted = IsNotedAs told d.receipt noted × (length noted ≤ record_room config)
SpeaksOf config told (Err f) l due noted = f ≡ lost.NoMemory → (due ≡ l.due) × (noted ≡ [])

-- It hears: it has not ended, and not too much waits for its peer.
pub record IsHearing (l : Life) : Type 0 where
  pub goes_on : l.ended ≡ None
  pub few : l.due < answers_most

-- It is open by its own calls, and has not ended.
pub record MayClose (config : Configured) (l : Life) : Type 0 where
  pub goes_on : l.ended ≡ None
  pub is : IsOpen config l

-- Bytes are handed out only once the ledger has taken all for good: at most `room`, and some if some wait and there is room.
abbrev pub HandsBy : Bool → ℕ → List ℕ → Life → Type 0
HandsBy true room bytes l = (length bytes ≤ room) × (0 < room → 0 < l.due → 0 < length bytes)
HandsBy false room bytes l = bytes ≡ []

-- Why a turn is refused, by what the turns before it say of the life under its key.

abbrev pub HearRefused : Configured → HubFault → Option Life → Type 0
HearRefused config fault.NoKey life = life ≡ None
HearRefused config fault.Over life = IsSomeAnd life (λ l. l.ended ≡ None → IsOver config l)
HearRefused config fault.Unsent life = IsSomeAnd life (λ l. answers_most ≤ l.due)
HearRefused config f life = ⊥

-- nothing is heard without room for a record
abbrev pub HearRefusedIf : Bool → Configured → HubFault → Option Life → Type 0
HearRefusedIf true config f life = HearRefused config f life
HearRefusedIf false config f life = f ≡ fault.NoRoom

-- a hand may be refused for want of memory at any time
abbrev pub HandRefused : HubFault → Option Life → Type 0
HandRefused fault.NoKey life = life ≡ None
HandRefused fault.NoMemory life = Unit {0}
HandRefused f life = ⊥

abbrev pub BeatRefused : Configured → HubFault → Option Life → Type 0
BeatRefused config fault.NoKey life = life ≡ None
BeatRefused config fault.Unsent life = IsSomeAnd life (λ l. 0 < l.due)
BeatRefused config fault.NotOpen life = IsSomeAnd life (λ l. l.ended ≡ None → IsNotOpen config l)
BeatRefused config f life = ⊥

abbrev pub FinishRefused : HubFault → Option Life → Type 0
FinishRefused fault.NoKey life = life ≡ None
FinishRefused fault.Over life = IsSomeAnd life (λ l. l.ended ≡ None → ⊥)
FinishRefused fault.Starved life = IsSomeAnd life (λ l. l.starved ≡ true)
FinishRefused f life = ⊥

abbrev pub CloseRefused : Configured → HubFault → Option Life → Type 0
CloseRefused config fault.NoKey life = life ≡ None
CloseRefused config fault.NotOpen life = IsSomeAnd life (λ l. l.ended ≡ None → IsNotOpen config l)
CloseRefused config f life = ⊥

-- a removal, and a change of the rule
abbrev pub RemoveRefused : HubFault → Option Life → Type 0
RemoveRefused fault.NoKey life = life ≡ None
RemoveRefused f life = ⊥

-- An open is refused if as many connections are open as may be, and for want of memory at any time.
abbrev pub OpenRefused : ℕ → ℕ → HubFault → Type 0
OpenRefused limit n fault.Full = limit ≤ n
OpenRefused limit n fault.NoMemory = Unit {0}
OpenRefused limit n f = ⊥

-- An answer to a turn fits what the turns before it say of the ledger, of the lives under all keys, and of how many are open.
abbrev pub Fits : Configured → ℕ → ℕ → LedgerState → (ℕ → Option Life) → Turn → Answer → Type 0
Fits config limit n ledger life Open (Opened k) = (n < limit) × (life k ≡ None)
Fits config limit n ledger life Open (Refused f) = OpenRefused limit n f
Fits config limit n ledger life (Hear k piece) (Heard s due noted) = IsSomeAnd (life k) (λ l. IsHearing l × SpeaksOf config s.told s.done l due noted) × (s.used ≤ length piece)
Fits config limit n ledger life (Hear k piece) (Refused f) = HearRefusedIf (is_roomy ledger) config f (life k)
Fits config limit n ledger life (Hand k room) (Handed bytes) = IsSomeAnd (life k) (HandsBy (is_settled ledger) room bytes)
Fits config limit n ledger life (Hand k room) (Refused f) = HandRefused f (life k)
Fits config limit n ledger life (Heartbeat k) (Beat bytes) = IsSomeAnd (life k) (λ l. MayClose config l × (l.due ≡ 0)) × (bytes ≡ heartbeat)
Fits config limit n ledger life (Heartbeat k) (Refused f) = BeatRefused config f (life k)
Fits config limit n ledger life (Finish k) (Ended how) = IsSomeAnd (life k) (λ l. (l.ended ≡ None) × (l.starved ≡ false))
Fits config limit n ledger life (Finish k) (Refused f) = FinishRefused f (life k)
Fits config limit n ledger life (Close k) Closed = IsSomeAnd (life k) (MayClose config)
Fits config limit n ledger life (Close k) (Refused f) = CloseRefused config f (life k)
Fits config limit n ledger life (Remove k) Removed = IsSomeAnd (life k) (λ l. Unit {0})
Fits config limit n ledger life (Remove k) (Refused f) = RemoveRefused f (life k)
Fits config limit n ledger life (Ruled k rule) Changed = IsSomeAnd (life k) (λ l. Unit {0})
Fits config limit n ledger life (Ruled k rule) (Refused f) = RemoveRefused f (life k)
Fits config limit n ledger life (Settle most) (Settled p) = Unit {0}
Fits config limit n ledger life Held (Holds held) = held ≤ n * most_of config + waiting_bytes ledger
Fits config limit n ledger life Count (Counts count) = count ≡ n
Fits config limit n ledger life t a = ⊥

-- and what they say of the ledger
abbrev pub Suits : LedgerState → Turn → Answer → Type 0
Suits ledger (Hear k piece) (Heard s due noted) = is_roomy ledger ≡ true
Suits ledger (Settle most) (Settled p) = p ≡ progress_of (settled_after most ledger)
Suits ledger t a = Unit {0}

abbrev pub life_of : Option Seat → Option Life
life_of seat = option_map (λ x. x.life) seat

-- there is an answer that fits for each turn, from this ledger and these connections on
abbrev pub AllFit : Rule → Configured → ℕ → ℕ → LedgerState → (ℕ → Option Seat) → ℕ → List Turn → List Answer → Type 0
AllFit r config limit n ledger seats place [] [] = Unit {0}
AllFit r config limit n ledger seats place (t ∷ turns) (a ∷ answers) =
    Fits config limit n ledger (λ key. life_of (seats key)) t a × Suits ledger t a
    × AllFit r config limit (open_behind a n) (ledger_behind seats t a ledger) (λ key. seated r place key t a (seats key)) (place + 1) turns answers
AllFit r config limit n ledger seats place turns answers = ⊥

-- a step with this result broke off
abbrev pub is_lost : Result Done ServeFault → Bool
is_lost (Ok d) = false
is_lost (Err lost.NoMemory) = false
is_lost (Err lost.Read) = true
is_lost (Err lost.Write) = true
is_lost (Err lost.Sink) = true

-- What a turn does. ---------------------------------------------------------------------------------------------------

-- connections under keys, and how many there may be
pub record ServersState : Type 0 where
  pub members : Slab MemberState
  pub limit : ℕ

-- and their keeper
pub record HubState (K : Type 0) : Type 0 where
  pub members : Slab MemberState
  pub limit : ℕ
  pub keeper : K

-- one connection more, under a key that was free
pub record IsOpened (r : Rule) (config : Configured) (number : ℕ) (old new : Slab MemberState) (key : ℕ) : Type 0 where
  pub free : get old key ≡ None
  pub member : MemberState
  pub is : IsNew config r number member
  pub updates : Updates old new key (Some member)
  pub count : slab_len new ≡ slab_len old + 1

-- the connection under a key went from this to that, and no other changed
pub record IsChanged (old new : Slab MemberState) (key : ℕ) (before after : MemberState) : Type 0 where
  pub was : get old key ≡ Some before
  pub updates : Updates old new key (Some after)
  pub count : slab_len new ≡ slab_len old

-- all are as they were
pub record AreSame (old new : Slab MemberState) : Type 0 where
  pub values : SameValues old new
  pub count : slab_len new ≡ slab_len old

-- it is gone, and no other changed
pub record IsGone (old new : Slab MemberState) (key : ℕ) : Type 0 where
  pub before : MemberState
  pub was : get old key ≡ Some before
  pub updates : Updates old new key None
  pub count : slab_len new + 1 ≡ slab_len old

-- it made a step
pub record IsHeardAt (old new : Slab MemberState) (key : ℕ) (piece : List ℕ) (s : Stepped) (kept keeps : Option (List ℕ)) : Type 0 where
  pub before : MemberState
  pub after : MemberState
  pub changed : IsChanged old new key before after
  pub hears : hear_fault before ≡ None
  pub heard : IsHeard before after piece s kept keeps

-- it is gone after a step at which serving broke off
pub record IsLostAt (old new : Slab MemberState) (key : ℕ) (piece : List ℕ) (s : Stepped) : Type 0 where
  pub gone : IsGone old new key
  pub hears : hear_fault gone.before ≡ None
  pub bound : s.used ≤ length piece

abbrev pub HearsBy : Status → Slab MemberState → Slab MemberState → ℕ → List ℕ → Stepped → Option (List ℕ) → Option (List ℕ) → Type 0
HearsBy status.Serving old new key piece s kept keeps = IsHeardAt old new key piece s kept keeps
HearsBy status.Starved old new key piece s kept keeps = IsHeardAt old new key piece s kept keeps
HearsBy status.Ended old new key piece s kept keeps = ⊥
HearsBy (status.Lost f) old new key piece s kept keeps = IsLostAt old new key piece s

-- the endpoint of the connection under a key
abbrev pub endpoint_at : Slab MemberState → ℕ → Option EndpointState
endpoint_at members key = option_map (λ m. m.server.endpoint) (get members key)

-- It made a step, and what that recorded was put under its number, as one that came to its endpoint. If serving broke off, or the record could not be put, it is gone, and nothing was put.
abbrev pub HearsTo : {K : Type 0} → (K → Origin → EndpointState → List ℕ → K → Type 0) → Status → Slab MemberState → Slab MemberState → ℕ → List ℕ → Stepped → List ℕ → K → K → Type 0
HearsTo accepts status.Serving old new key piece s noted kept keeps = (x : IsHeardAt old new key piece s (Some []) (Some noted)) × Given accepts (origin_of x.before.number s) (endpoint_at new key) noted kept keeps
HearsTo accepts status.Starved old new key piece s noted kept keeps = IsHeardAt old new key piece s (Some []) (Some noted) × (keeps ≡ kept)
HearsTo accepts status.Ended old new key piece s noted kept keeps = ⊥
HearsTo accepts (status.Lost f) old new key piece s noted kept keeps = IsLostAt old new key piece s × (keeps ≡ kept)

-- What a step recorded was put, and the step is as it was. Or memory for that was refused: then nothing was put, the connection is gone, and the step resulted in `Sink`.
abbrev pub IsKeptSo : {K : Type 0} → (K → Origin → EndpointState → List ℕ → K → Type 0) → ℕ → List ℕ → Slab MemberState → Slab MemberState → ℕ → Stepped → Stepped → K → K → Type 0
IsKeptSo accepts number noted old new key s r kept keeps =
    ((r ≡ s) × (new ≡ old) × Given accepts (origin_of number s) (endpoint_at old key) noted kept keeps) ⊎ ((r ≡ record s { done = Err lost.Sink }) × IsOk s.done × IsGone old new key × (keeps ≡ kept))

-- nothing is heard without room for a record
abbrev pub HearRefusedBy : Bool → Option HubFault → HubFault → Type 0
HearRefusedBy true why f = why ≡ Some f
HearRefusedBy false why f = f ≡ fault.NoRoom

-- it goes by another rule
pub record IsRuledAt (old new : Slab MemberState) (key : ℕ) (rule : Rule) : Type 0 where
  pub before : MemberState
  pub changed : IsChanged old new key before (record before { rule = rule })

-- how many bytes wait for its peer
abbrev pub due_of : Option MemberState → ℕ
due_of None = 0
due_of (Some m) = length (unsent_of m)

-- the answers that wait for its peer
abbrev pub answers_of : Option MemberState → List ℕ
answers_of None = []
answers_of (Some m) = m.waiting

-- at least this many bytes wait for its peer
abbrev pub IsDueAt : Option MemberState → ℕ → Type 0
IsDueAt None n = n ≡ 0
IsDueAt (Some m) n = n ≤ length (unsent_of m)

-- the first bytes that wait for its peer, all of them as long as it hears
abbrev pub IsFrontAt : Option MemberState → List ℕ → Type 0
IsFrontAt None front = front ≡ []
IsFrontAt (Some m) front = (behind : List ℕ) × (unsent_of m ≡ front ++ behind) × (0 < length (unsent_of m) → 0 < length front) × (waiting m.server ≡ [] → front ≡ m.waiting)

-- and none unless all records were taken for good
abbrev pub IsLentBy : Bool → Option MemberState → List ℕ → Type 0
IsLentBy true m front = IsFrontAt m front
IsLentBy false m front = front ≡ []

-- the first bytes that waited were sent
pub record IsSentAt (old new : Slab MemberState) (key n : ℕ) : Type 0 where
  pub before : MemberState
  pub after : MemberState
  pub changed : IsChanged old new key before after
  pub sent : IsSent before after n

abbrev pub SendsAt : Option MemberState → Slab MemberState → Slab MemberState → ℕ → ℕ → Type 0
SendsAt None old new key n = AreSame old new
SendsAt (Some m) old new key n = IsSentAt old new key n

-- The first bytes that waited were handed out. If all records were taken for good, they are at most `room`, and some if some waited and there was room; else there are none.
pub record IsHandedAt (settled : Bool) (old new : Slab MemberState) (key room : ℕ) (bytes : List ℕ) : Type 0 where
  pub count : ℕ
  pub sent : IsSentAt old new key count
  pub long : length bytes ≡ count
  pub is : bytes ≡ take count (unsent_of sent.before)
  pub bound : length bytes ≤ room
  pub some : settled ≡ true → 0 < room → 0 < length (unsent_of sent.before) → 0 < length bytes
  pub none : settled ≡ false → bytes ≡ []

-- its peer may be sent an empty frame, and the connection is as it was
pub record IsBeatAt (old new : Slab MemberState) (key : ℕ) : Type 0 where
  pub before : MemberState
  pub after : MemberState
  pub changed : IsChanged old new key before after
  pub may : beat_fault before ≡ None
  pub same : IsSame before after

pub record IsEndedAt (old new : Slab MemberState) (key : ℕ) (how : of_end.End) : Type 0 where
  pub before : MemberState
  pub after : MemberState
  pub changed : IsChanged old new key before after
  pub ended : IsFinishedSo before after how

pub record IsClosedAt (old new : Slab MemberState) (key : ℕ) : Type 0 where
  pub before : MemberState
  pub after : MemberState
  pub changed : IsChanged old new key before after
  pub closed : IsClosed before after

abbrev pub SameSlot : Option MemberState → Option MemberState → Type 0
SameSlot None None = Unit {0}
SameSlot (Some a) (Some b) = IsSame a b
SameSlot a b = ⊥

-- all are as they were, except bytes of buffers that do not count
pub record AreAlike (old new : Slab MemberState) : Type 0 where
  pub values : (key : ℕ) → SameSlot (get old key) (get new key)
  pub count : slab_len new ≡ slab_len old

-- why a call for the connection under a key is refused
abbrev pub refusal_at : Option MemberState → (MemberState → Option HubFault) → Option HubFault
refusal_at None f = Some fault.NoKey
refusal_at (Some m) f = f m

-- a hand is refused if there is no connection, or for want of memory
abbrev pub HandRefusedAt : HubFault → Option MemberState → Type 0
HandRefusedAt fault.NoKey slot = slot ≡ None
HandRefusedAt fault.NoMemory slot = Unit {0}
HandRefusedAt f slot = ⊥

-- how many bytes all connections hold
abbrev pub all_held : Slab MemberState → ℕ
all_held s = sum_by (λ e. member_held e.1) (entries s)

-- The connection made a step, recorded this, and this many bytes wait for its peer then. If serving broke off, it is
-- gone.
abbrev pub HeardSo : Status → Slab MemberState → Slab MemberState → ℕ → List ℕ → Stepped → ℕ → List ℕ → Type 0
HeardSo status.Serving old new key piece s due noted = (x : IsHeardAt old new key piece s (Some []) (Some noted)) × (due ≡ length (unsent_of x.after))
HeardSo status.Starved old new key piece s due noted = (x : IsHeardAt old new key piece s (Some []) (Some noted)) × (due ≡ length (unsent_of x.after))
HeardSo status.Ended old new key piece s due noted = ⊥
HeardSo (status.Lost f) old new key piece s due noted = IsLostAt old new key piece s

-- One turn with its answer, where the ledger was this one. A connection that it opens has this number.
abbrev pub TurnDone : Rule → Configured → ℕ → ℕ → LedgerState → Slab MemberState → Slab MemberState → Turn → Answer → Type 0
TurnDone r config limit number ledger old new Open (Opened key) = IsOpened r config number old new key × (slab_len old < limit)
TurnDone r config limit number ledger old new Open (Refused f) = AreSame old new × OpenRefused limit (slab_len old) f
TurnDone r config limit number ledger old new (Hear key piece) (Heard s due noted) = HeardSo (status_after s.done) old new key piece s due noted
TurnDone r config limit number ledger old new (Hear key piece) (Refused f) = AreSame old new × HearRefusedBy (is_roomy ledger) (refusal_at (get old key) hear_fault) f
TurnDone r config limit number ledger old new (Hand key room) (Handed bytes) = IsHandedAt (is_settled ledger) old new key room bytes
TurnDone r config limit number ledger old new (Hand key room) (Refused f) = AreSame old new × HandRefusedAt f (get old key)
TurnDone r config limit number ledger old new (Heartbeat key) (Beat bytes) = IsBeatAt old new key × (bytes ≡ heartbeat)
TurnDone r config limit number ledger old new (Heartbeat key) (Refused f) = AreAlike old new × (refusal_at (get old key) beat_fault ≡ Some f)
TurnDone r config limit number ledger old new (Finish key) (Ended how) = IsEndedAt old new key how
TurnDone r config limit number ledger old new (Finish key) (Refused f) = AreSame old new × (refusal_at (get old key) end_fault ≡ Some f)
TurnDone r config limit number ledger old new (Close key) Closed = IsClosedAt old new key
TurnDone r config limit number ledger old new (Close key) (Refused f) = AreAlike old new × (refusal_at (get old key) close_fault ≡ Some f)
TurnDone r config limit number ledger old new (Remove key) Removed = IsGone old new key
TurnDone r config limit number ledger old new (Remove key) (Refused f) = AreSame old new × (get old key ≡ None) × (f ≡ fault.NoKey)
TurnDone r config limit number ledger old new (Ruled key rule) Changed = IsRuledAt old new key rule
TurnDone r config limit number ledger old new (Ruled key rule) (Refused f) = AreSame old new × (get old key ≡ None) × (f ≡ fault.NoKey)
TurnDone r config limit number ledger old new (Settle most) (Settled p) = AreSame old new
TurnDone r config limit number ledger old new Held (Holds n) = AreSame old new × (n ≡ min (all_held old + waiting_bytes ledger) (2 ^ 64 - 1))
TurnDone r config limit number ledger old new Count (Counts n) = AreSame old new × (n ≡ slab_len old)
TurnDone r config limit number ledger old new t a = ⊥

-- and what it does to the ledger
abbrev pub LedgerDone : (ℕ → Option MemberState) → Turn → Answer → LedgerState → LedgerState → Type 0
LedgerDone there (Hear key piece) (Heard s due noted) old new = (is_roomy old ≡ true) × (new ≡ put_by (option_map (λ m. m.number) (there key)) s noted old)
LedgerDone there (Settle most) (Settled p) old new = (new ≡ settled_after most old) × (p ≡ progress_of new)
LedgerDone there t a old new = new ≡ old
