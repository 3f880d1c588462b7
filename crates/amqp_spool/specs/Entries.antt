-- The body of a batch: who sends on a link, and the records of its messages.
use Rattle.std.specs.Prelude.{◌≡◌, ℕ, suc, ◌^◌, ◌<◌, ◌≤◌, List, [], ◌∷◌, ◌++◌, length}
use Rattle.std.specs.List.{flat_map}
use Rattle.std.specs.Int.{w16, w32, w64, to_be_bytes}

-- Who sends on a link: the number that the link has for the life of the gateway, its connection, the address of the peer, the container-id, the name of the link, the user ("" if none is known),
-- and the target: what it is, and its address, or the target itself, encoded, if it is no string.
pub record Introduced : Type 0 where
  pub link : ℕ
  pub connection : ℕ
  pub peer : List ℕ
  pub container : List ℕ
  pub name : List ℕ
  pub user : List ℕ
  pub kind : ℕ
  pub target : List ℕ

pub record IsIntroduced (i : Introduced) : Type 0 where
  pub link : i.link < 2 ^ 32
  pub connection : i.connection < 2 ^ 64
  pub peer : length i.peer ≤ 58
  pub container : length i.container ≤ 255
  pub name : length i.name ≤ 255
  pub user : length i.user ≤ 255
  pub kind : i.kind < 4
  pub target : length i.target ≤ 1024

-- A message: the number of its link, its delivery-tag, and its record.
pub record Recorded : Type 0 where
  pub link : ℕ
  pub tag : List ℕ
  pub «record» : List ℕ

-- Its record has 18 bytes before the message, the last 4 of which are the length of the message.
pub record IsRecorded (r : Recorded) : Type 0 where
  pub link : r.link < 2 ^ 32
  pub tag : length r.tag ≤ 32
  pub message : List ℕ
  pub small : length message < 2 ^ 32
  pub front : List ℕ
  pub long : length front ≡ 14
  pub whole : r.record ≡ front ++ to_be_bytes w32 (length message) ++ message

-- bytes after their number, in 1 byte and in 2
abbrev pub short : List ℕ → List ℕ
short bytes = length bytes ∷ bytes

abbrev pub long : List ℕ → List ℕ
long bytes = to_be_bytes w16 (length bytes) ++ bytes

unfoldable pub introduction : Introduced → List ℕ
introduction i = 1 ∷ to_be_bytes w32 i.link ++ to_be_bytes w64 i.connection ++ short i.peer ++ short i.container ++ short i.name ++ short i.user ++ i.kind ∷ long i.target

unfoldable pub record_entry : Recorded → List ℕ
record_entry r = 2 ∷ to_be_bytes w32 r.link ++ short r.tag ++ r.record

pub data Entry : Type 0 where
  Introduction : Introduced → Entry
  Record : Recorded → Entry

abbrev pub IsEntry : Entry → Type 0
IsEntry (Introduction i) = IsIntroduced i
IsEntry (Record r) = IsRecorded r

abbrev pub entry_text : Entry → List ℕ
entry_text (Introduction i) = introduction i
entry_text (Record r) = record_entry r

-- These bytes begin with an entry.
pub record BeginsEntry (bytes : List ℕ) (e : Entry) (rest : List ℕ) : Type 0 where
  pub is : IsEntry e
  pub whole : bytes ≡ entry_text e ++ rest

abbrev pub AreEntries : List Entry → Type 0
AreEntries [] = Unit {0}
AreEntries (e ∷ es) = IsEntry e × AreEntries es

-- a body, as its entries
pub record IsBody (body : List ℕ) (es : List Entry) : Type 0 where
  pub are : AreEntries es
  pub whole : body ≡ flat_map entry_text es

-- the numbers of the links that entries introduce
abbrev pub introduced : List Entry → List ℕ
introduced [] = []
introduced (Introduction i ∷ es) = i.link ∷ introduced es
introduced (Record r ∷ es) = introduced es

-- how many records entries have
abbrev pub count_of : List Entry → ℕ
count_of [] = 0
count_of (Introduction i ∷ es) = count_of es
count_of (Record r ∷ es) = suc (count_of es)

-- Each record has its link introduced before it.
unfoldable pub IsAlone : List Entry → Type 0
IsAlone es = (front : List Entry) (r : Recorded) (rest : List Entry) → es ≡ front ++ Record r ∷ rest → (a b : List ℕ) × (introduced front ≡ a ++ r.link ∷ b)
