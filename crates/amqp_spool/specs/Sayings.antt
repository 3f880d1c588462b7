-- Whose the records of a spool are.
use Rattle.std.specs.Prelude.{◌≡◌, List, [], ◌∷◌, ◌++◌, Option}
use Rattle.amqp_spool.specs.Batches.{Batch}
use Rattle.amqp_spool.specs.Chapters.{Chapter}
use Rattle.amqp_spool.specs.Entries.{Introduced, Recorded, Entry, IsBody, count_of}
use Rattle.amqp_spool.specs.Names.{nobody, named}
use Rattle.amqp_spool.specs.Waitings.{AreKnown}

-- records, each with who sends on its link
abbrev pub Puts : Type 0
Puts = List (Option Introduced × Recorded)

-- Each batch is entries of its own, and has as many records as it says.
abbrev pub AreBodies : List Batch → List Entry → Type 0
AreBodies [] es = es ≡ []
AreBodies (b ∷ bs) es = (here : List Entry) × (more : List Entry) × (es ≡ here ++ more) × IsBody b.body here × (b.head.count ≡ count_of here) × AreBodies bs more

-- A chapter has these records, each with who sends on its link, introduced before it in the chapter.
pub record Says (ch : Chapter) (puts : Puts) : Type 0 where
  pub entries : List Entry
  pub bodies : AreBodies ch.batches entries
  pub same : named nobody entries ≡ puts
  pub known : AreKnown puts

-- chapters, the newest first
abbrev pub AllSay : List Chapter → Puts → Type 0
AllSay [] puts = puts ≡ []
AllSay (ch ∷ chs) puts = (before : Puts) × (here : Puts) × (puts ≡ before ++ here) × AllSay chs before × Says ch here
