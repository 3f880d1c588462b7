-- What is read of entries.
use Rattle.std.specs.Prelude.{◌≡◌, ℕ, ◌<◌, ◌^◌, List, ◌∷◌, ◌++◌, length}
use Rattle.std.specs.Int.{w32, to_be_bytes}
use Rattle.amqp_spool.specs.declared.entry.Introduction as introduction
use Rattle.amqp_spool.specs.declared.entry.Record as recorded
use Rattle.amqp_spool.specs.declared.entry.Entry as entry
use Rattle.amqp_spool.specs.declared.entry.Entry.TheVariants as read
use Rattle.amqp_spool.specs.Entries.{Introduced, Recorded, Entry, Introduction, Record, BeginsEntry, IsBody}

-- the entries that were read
abbrev pub introduced_in : introduction.Introduction → Introduced
introduced_in i =
    record { link = i.link; connection = i.connection; peer = i.peer.now; container = i.container.now; name = i.name.now; user = i.user.now; kind = i.kind; target = i.target.now }

abbrev pub recorded_in : recorded.Record → Recorded
recorded_in r = record { link = r.link; tag = r.tag.now; «record» = r.record.now }

abbrev pub entry_in : entry.Entry → Entry
entry_in (read.Introduction i) = Introduction (introduced_in i)
entry_in (read.Record r) = Record (recorded_in r)

-- A record that is whole: 18 bytes, the last 4 of which are the length of the message, and the message.
pub record IsWhole (bytes : List ℕ) : Type 0 where
  pub message : List ℕ
  pub small : length message < 2 ^ 32
  pub front : List ℕ
  pub long : length front ≡ 14
  pub whole : bytes ≡ front ++ to_be_bytes w32 (length message) ++ message

-- after their first byte, these bytes go on as an introduction, or as a record
abbrev pub GoesOnIntroducing : List ℕ → Introduced → List ℕ → Type 0
GoesOnIntroducing bytes i rest = BeginsEntry (1 ∷ bytes) (Introduction i) rest

abbrev pub GoesOnRecording : List ℕ → Recorded → List ℕ → Type 0
GoesOnRecording bytes r rest = BeginsEntry (2 ∷ bytes) (Record r) rest

-- a body of entries
abbrev pub HoldsEntries : List ℕ → Type 0
HoldsEntries body = (es : List Entry) × IsBody body es
