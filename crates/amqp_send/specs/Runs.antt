-- A whole run of a sender: its calls, its answers, and the events behind them. [2.2 to 2.7]
use Rattle.std.specs.Prelude.{◌≡◌, ℕ, ◌<◌, ◌≤◌, Bool, true, false, min, List, [], ◌∷◌, ◌++◌, length, take, drop, Option, Some, None}
use Rattle.std.specs.List.{flat_map}
use Rattle.amqp_frame.specs.Splits.{Waits, TakesNothing, IsHeld, IsUnchanged, IsEmptied, WentBy}
use Rattle.amqp_frame.specs.Units.{StreamUnit, IsRest, due_after}
use Rattle.amqp_frame.specs.declared.units.Stage.TheVariants as due
use Rattle.amqp_send.specs.declared.news.News.{News}
use Rattle.amqp_send.specs.declared.news.OfferFault.{OfferFault}
use Rattle.amqp_send.specs.Calls.{SenderState, taken}
use Rattle.amqp_send.specs.Histories.{IsHistory, AllMayGo, Accepted, after_all, history, offers, moved, written}
use Rattle.amqp_send.specs.Sendings.{SendTerms, Sending, sending_begins, SendEvent, Acted, Offered, CloseWritten, Moved, send_after, sent_news, offer_fault, has_room, may_close, can_write}
use Rattle.amqp_send.specs.Tellings.{told_of, IsLawful}

-- Calls and answers. --------------------------------------------------------------------------------------------------

pub data Call : Type 0 where
  Offer : List ℕ → Call  -- a message
  Feed : List ℕ → Call  -- a piece of the receiver's bytes
  Output : ℕ → Call  -- so many bytes at most are moved out
  Close : Call

pub data Answer : Type 0 where
  TakenOver : Answer
  Refused : OfferFault → Answer
  Fed : ℕ → Option News → Answer  -- so many bytes were taken, and this came of it
  MovedOut : List ℕ → Answer
  Closed : Bool → Answer

-- What a call does. ---------------------------------------------------------------------------------------------------

-- the event happens to what is sent
abbrev pub does_send : SenderState → SendEvent → SenderState
does_send s e = record s { sending = send_after s.sending e }

-- What is taken of a piece: nothing if a unit waits or no more is taken; else all, or up to the end of the unit that is due. A unit that then waits is acted upon if there is
-- room.
pub record IsFed (old new : SenderState) (piece : List ℕ) (used : ℕ) (news : Option News) : Type 0 where
  pub bound : used ≤ length piece
  pub all : used < length piece → TakesNothing (taken old.input (take used piece))
  pub full : TakesNothing old.input → used ≡ 0
  pub early : (k : ℕ) → k < used → IsRest old.input.limit old.input.stage (old.input.filled ++ take k piece)
  -- what is held then is less than a unit, or one
  pub held : IsHeld old.input.limit old.input.stage (old.input.filled ++ take used piece)
  pub acted : (u : StreamUnit) → Waits (taken old.input (take used piece)) u → has_room old.sending ≡ true
      → IsEmptied (taken old.input (take used piece)) new.input (due_after u) × (new.sending ≡ send_after old.sending (Acted u)) × (news ≡ sent_news old.sending u)
  pub waits : has_room old.sending ≡ false → IsUnchanged (taken old.input (take used piece)) new.input × (new.sending ≡ old.sending) × (news ≡ None)
  pub none : ((u : StreamUnit) → Waits (taken old.input (take used piece)) u → ⊥)
      → IsUnchanged (taken old.input (take used piece)) new.input × (new.sending ≡ old.sending) × (news ≡ None)
  -- what is told is lawful
  pub lawful : (u : StreamUnit) → Waits (taken old.input (take used piece)) u → has_room old.sending ≡ true → IsLawful (told_of u)

-- how many bytes are moved out
abbrev pub moved_count : SenderState → ℕ → ℕ
moved_count s room = min room (length s.sending.unsent)

-- the close is written, or nothing changes
pub record IsClosed (old new : SenderState) (closed : Bool) : Type 0 where
  pub may : closed ≡ may_close old.sending
  pub written_so : closed ≡ true → new ≡ does_send old CloseWritten
  pub kept : closed ≡ false → new ≡ old

-- One call with its answer.
abbrev pub Does : SenderState → SenderState → Call → Answer → Type 0
Does old new (Offer m) TakenOver = (offer_fault old.sending ≡ None) × (new ≡ does_send old (Offered m))
Does old new (Offer m) (Refused fault) = (offer_fault old.sending ≡ Some fault) × (new ≡ old)
Does old new (Feed piece) (Fed used news) = IsFed old new piece used news
Does old new (Output room) (MovedOut bytes) = (bytes ≡ take (moved_count old room) old.sending.unsent) × (new ≡ does_send old (Moved (moved_count old room)))
Does old new Close (Closed closed) = IsClosed old new closed
Does old new call answer = ⊥

-- Calls and answers, one by one.
abbrev pub Run : SenderState → List Call → List Answer → SenderState → Type 0
Run s [] [] last = last ≡ s
Run s [] (answer ∷ answers) last = ⊥
Run s (call ∷ calls) [] last = ⊥
Run s (call ∷ calls) (answer ∷ answers) last = (next : SenderState) × Does s next call answer × Run next calls answers last

-- a sender at its start
pub record IsStart (terms : SendTerms) (s : SenderState) : Type 0 where
  pub limit : s.input.limit ≡ 4096
  pub stage : s.input.stage ≡ due.Header
  pub filled : s.input.filled ≡ []
  pub sending : s.sending ≡ sending_begins terms

-- What calls and answers say. -----------------------------------------------------------------------------------------

-- the bytes that a feed took: the first ones of its piece
abbrev pub taken_by : Call → Answer → List ℕ
taken_by (Feed piece) (Fed used news) = take used piece
taken_by c a = []

-- the bytes that an output moved out
abbrev pub moved_by : Answer → List ℕ
moved_by (MovedOut bytes) = bytes
moved_by a = []

-- the message of an offer that was taken over
abbrev pub offered_by : Call → Answer → List (List ℕ)
offered_by (Offer m) TakenOver = m ∷ []
offered_by c a = []

-- What the caller learns of an event.
pub data Notice : Type 0 where
  Tells : News → Notice
  Takes : List ℕ → Notice  -- this message was taken over
  Moves : List ℕ → Notice  -- these bytes were moved out
  Closes : Notice

abbrev pub news_told : Option News → List Notice
news_told None = []
news_told (Some n) = Tells n ∷ []

-- nothing is reported of a refused call, nor of a feed without news
abbrev pub told_by : Call → Answer → List Notice
told_by (Offer m) TakenOver = Takes m ∷ []
told_by (Feed piece) (Fed used news) = news_told news
told_by (Output room) (MovedOut bytes) = Moves bytes ∷ []
told_by Close (Closed true) = Closes ∷ []
told_by c a = []

-- all bytes that were taken, in order
abbrev pub fed : List Call → List Answer → List ℕ
fed (c ∷ calls) (a ∷ answers) = taken_by c a ++ fed calls answers
fed calls answers = []

-- all messages that were taken over, in order
abbrev pub offered : List Call → List Answer → List (List ℕ)
offered (c ∷ calls) (a ∷ answers) = offered_by c a ++ offered calls answers
offered calls answers = []

-- all that was reported, in order
abbrev pub heard : List Call → List Answer → List Notice
heard (c ∷ calls) (a ∷ answers) = told_by c a ++ heard calls answers
heard calls answers = []

-- What events say, newest first. --------------------------------------------------------------------------------------

-- the units that were acted upon, oldest first
abbrev pub units_of : List SendEvent → List StreamUnit
units_of [] = []
units_of (Acted u ∷ es) = units_of es ++ u ∷ []
units_of (Offered m ∷ es) = units_of es
units_of (CloseWritten ∷ es) = units_of es
units_of (Moved n ∷ es) = units_of es

-- what is reported of an event, from the sender that it came to
abbrev pub notices : Sending → SendEvent → List Notice
notices s (Acted u) = news_told (sent_news s u)
notices s (Offered m) = Takes m ∷ []
notices s CloseWritten = Closes ∷ []
notices s (Moved n) = Moves (take n s.unsent) ∷ []

abbrev pub tellings : SendTerms → List SendEvent → List Notice
tellings terms [] = []
tellings terms (e ∷ es) = tellings terms es ++ notices (after_all terms es) e

-- The theorem. --------------------------------------------------------------------------------------------------------

-- A sender after some calls, with its events, newest first. These bytes were taken, these were moved out, these messages were taken over, and this was reported.
pub record IsTraced (terms : SendTerms) (took gave : List ℕ) (messages : List (List ℕ)) (told : List Notice) (es : List SendEvent) (s : SenderState) : Type 0 where
  -- each event came when it may, and the sender is what they make of a new one
  pub accepted : Accepted terms es
  pub sending_is : s.sending ≡ after_all terms es
  pub limit : s.input.limit ≡ 4096
  -- The bytes that were taken are the units that were acted upon, each where it may come, and then a rest, which the input holds.
  pub units : WentBy s.input (units_of es) took
  -- the rest is less than a unit, or one that is not acted upon yet; after a refused header or a fault there is none
  pub rest : IsHeld s.input.limit s.input.stage s.input.filled
  -- the messages that were taken over are those of the history, in order
  pub messages_are : messages ≡ offers (history terms es)
  pub gave_is : gave ≡ moved (history terms es)
  -- the news are those of the units, each reported where its unit was acted upon, between the messages, the bytes moved out and the close; nothing else was reported
  pub told_is : told ≡ tellings terms es

-- These calls and answers lead a new sender to this one, and there is a history of it.
pub record HasHistory (terms : SendTerms) (calls : List Call) (answers : List Answer) (last : SenderState) : Type 0 where
  pub events : List SendEvent
  pub traced : IsTraced terms (fed calls answers) (flat_map moved_by answers) (offered calls answers) (heard calls answers) events last
  -- its state is what the counts and selections over the whole history give
  pub is : IsHistory terms (history terms events) last.sending
  -- each transfer went only if the window had a place and, if it begins a delivery, credit was there
  pub may : AllMayGo (history terms events)
  -- no frame that may be written is left unwritten
  pub complete : can_write last.sending ≡ false
  -- all that was written was moved out, or waits
  pub output : flat_map moved_by answers ++ last.sending.unsent ≡ written terms (history terms events)

-- After the first n calls: from the sender's state then, the run goes on to its end, and there is a history.
pub record HasMoment (terms : SendTerms) (start : SenderState) (calls : List Call) (answers : List Answer) (last : SenderState) (n : ℕ) : Type 0 where
  pub now : SenderState
  pub so_far : Run start (take n calls) (take n answers) now
  pub goes_on : Run now (drop n calls) (drop n answers) last
  pub past : HasHistory terms (take n calls) (take n answers) now
