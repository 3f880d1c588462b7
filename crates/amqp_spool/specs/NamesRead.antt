-- Whose a record is, for a reader.
use Rattle.std.specs.Prelude.{◌≡◌, ◌≢◌, ℕ, List, [], ◌∷◌, ◌++◌, map, option_map}
use Rattle.std.specs.BTreeMap.{get}
use Rattle.std.specs.List.{flat_map}
use Rattle.std.specs.Ordering.{nat_cmp}
use Rattle.amqp_spool.specs.declared.names.Sender.{Sender}
use Rattle.amqp_spool.specs.declared.names.Names as reader
use Rattle.amqp_spool.specs.Entries.{Introduced, Recorded, Entry, Introduction, Record, entry_text, BeginsEntry, AreEntries, IsBody}
use Rattle.amqp_spool.specs.Names.{Names, after}

-- who sends on the link of this number
abbrev pub sender_on : ℕ → Sender → Introduced
sender_on link s =
    record { link = link; connection = s.connection; peer = s.peer.items; container = s.container.items; name = s.name.items; user = s.user.items; kind = s.kind; target = s.target.items }

-- who sends on each link, as far as a reader knows
abbrev pub names_of : reader.Names → Names
names_of names link = option_map (sender_on link) (get nat_cmp names.senders link)

-- A reader has taken introductions, and these bytes of a body are left.
pub record HasTaken (old new : reader.Names) (body left : List ℕ) : Type 0 where
  pub front : List Introduced
  pub are : AreEntries (map Introduction front)
  pub whole : body ≡ flat_map entry_text (map Introduction front) ++ left
  pub names : (link : ℕ) → names_of new link ≡ after (names_of old) (map Introduction front) link

-- It has taken introductions and then a record.
pub record HasRead (old new : reader.Names) (body left : List ℕ) (r : Recorded) : Type 0 where
  pub from : List ℕ
  pub taken : HasTaken old new body from
  pub begins : BeginsEntry from (Record r) left

-- The same of the entries of a body: it has taken introductions and then this record, and the bytes that are left are the entries after it.
pub record Gives (old new : reader.Names) (left : List ℕ) (es : List Entry) (r : Recorded) : Type 0 where
  pub front : List Introduced
  pub rest : List Entry
  pub whole : es ≡ map Introduction front ++ Record r ∷ rest
  pub names : (link : ℕ) → names_of new link ≡ after (names_of old) (map Introduction front) link
  pub is : IsBody left rest

-- They were introductions alone, and it has taken all.
pub record Ends (old new : reader.Names) (es : List Entry) : Type 0 where
  pub front : List Introduced
  pub whole : es ≡ map Introduction front
  pub names : (link : ℕ) → names_of new link ≡ after (names_of old) (map Introduction front) link

-- These bytes are not empty, and begin with no entry.
pub record IsBroken (left : List ℕ) : Type 0 where
  pub some : left ≢ []
  pub none : (e : Entry) (rest : List ℕ) → BeginsEntry left e rest → ⊥

-- These bytes begin with an introduction.
pub record IsIntroducing (left : List ℕ) : Type 0 where
  pub introduced : Introduced
  pub rest : List ℕ
  pub begins : BeginsEntry left (Introduction introduced) rest
