-- Batches that read alone: each is entries, and each of its records has who sends on its link introduced before it in its segment.
use Rattle.std.specs.Prelude.{◌≡◌, ℕ, List, ◌++◌}
use Rattle.std.specs.List.{flat_map}
use Rattle.amqp_spool.specs.declared.names.Names as reader
use Rattle.amqp_spool.specs.declared.scanning.Scanned.{Scanned}
use Rattle.amqp_spool.specs.Batches.{Batch, Follows, IsThrough}
use Rattle.amqp_spool.specs.Entries.{Entry, entry_text, AreEntries, IsBody, count_of}
use Rattle.amqp_spool.specs.Heads.{BeginsBatch}
use Rattle.amqp_spool.specs.Names.{Names, nobody, after, named}
use Rattle.amqp_spool.specs.NamesRead.{names_of}
use Rattle.amqp_spool.specs.Sayings.{AreBodies}
use Rattle.amqp_spool.specs.Waitings.{AreKnown}

-- A body is these entries, with so many records, each with a sender that is known after these names.
pub record ReadsAlone (names : Names) (body : List ℕ) (count : ℕ) (entries : List Entry) : Type 0 where
  pub is : IsBody body entries
  pub counted : count ≡ count_of entries
  pub known : AreKnown (named names entries)

-- No batch follows that reads alone.
abbrev pub EndsAlone : Names → List ℕ → ℕ → List ℕ → Type 0
EndsAlone names secret number bytes = (b : Batch) (es : List Entry) → Follows number b → BeginsBatch secret bytes b.head b.body → ReadsAlone names b.body b.head.count es → ⊥

-- So many bytes of a segment after its head are batches that read alone, one after the other, and no other follows. The record after theirs has this number.
pub record IsScannedAlone (secret : List ℕ) (first : ℕ) (bytes : List ℕ) (s : Scanned) : Type 0 where
  pub through : IsThrough secret first bytes s
  pub entries : List Entry
  pub bodies : AreBodies through.batches entries
  pub known : AreKnown (named nobody entries)
  pub ends : EndsAlone (after nobody entries) secret s.next through.rest

-- For a reader. ---------------------------------------------------------------------------------------------------------

-- A reader has taken entries of a body, with so many records, each with a sender that was known by then; these bytes are left.
pub record HasKnown (old new : reader.Names) (body left : List ℕ) (count : ℕ) : Type 0 where
  pub entries : List Entry
  pub are : AreEntries entries
  pub whole : body ≡ flat_map entry_text entries ++ left
  pub counted : count_of entries ≡ count
  pub known : AreKnown (named (names_of old) entries)
  pub names : (link : ℕ) → names_of new link ≡ after (names_of old) entries link

-- It has read a batch that reads alone.
pub record HasReadAlone (old new : reader.Names) (body : List ℕ) (count : ℕ) : Type 0 where
  pub entries : List Entry
  pub alone : ReadsAlone (names_of old) body count entries
  pub names : (link : ℕ) → names_of new link ≡ after (names_of old) entries link
