-- What the exports say of the bytes of a spool's files.
use Rattle.std.specs.Prelude.{◌≡◌, ◌≢◌, ℕ, ◌+◌, ◌-◌, ◌≤◌, nat_eq, Bool, true, false, if◌then◌else◌, List, length, take, drop}
use Rattle.amqp_spool.specs.declared.end.End.{End}
use Rattle.amqp_spool.specs.declared.floor.Floor.{Floor}
use Rattle.amqp_spool.specs.declared.head.Head.{Head}
use Rattle.amqp_spool.specs.declared.position.Position.{Position}
use Rattle.amqp_spool.specs.Batches.{Batch, Follows, EndsAt}
use Rattle.amqp_spool.specs.Ends.{IsEnd, end_text}
use Rattle.amqp_spool.specs.Entries.{Introduced, Recorded, Entry, Introduction, Record, BeginsEntry}
use Rattle.amqp_spool.specs.Floors.{IsFloor, floor_text}
use Rattle.amqp_spool.specs.Heads.{IsHead, head_front, head_text, BeginsBatch}
use Rattle.amqp_spool.specs.Positions.{IsPosition, position_text}
use Rattle.amqp_spool.specs.Sums.{sum_of}
use Rattle.wuleshomia.specs.declared.data.Part.{Part}
use Rattle.wuleshomia.specs.declared.data.SpoolBatch.{SpoolBatch}
use Rattle.wuleshomia.specs.declared.data.SpoolEnd.{SpoolEnd}
use Rattle.wuleshomia.specs.declared.data.SpoolEntry.{SpoolEntry}
use Rattle.wuleshomia.specs.declared.data.SpoolFloor.{SpoolFloor}
use Rattle.wuleshomia.specs.declared.data.SpoolHead.{SpoolHead}
use Rattle.wuleshomia.specs.declared.data.SpoolPosition.{SpoolPosition}

-- What is read of bytes is there, and a report says it; or it is not there, the code says so, and the report is as it was.
abbrev pub ToldIf : {R : Type 0} → Bool → ℕ → (R → Type 0) → Type 0 → R → R → Type 0
ToldIf true code Says IsNone old new = Says new
ToldIf false code Says IsNone old new = (code ≡ 32) × (new ≡ old) × IsNone

abbrev pub Told : {R : Type 0} → ℕ → (R → Type 0) → Type 0 → R → R → Type 0
Told code Says IsNone old new = ToldIf (nat_eq code 0) code Says IsNone old new

-- The head of a segment. ----------------------------------------------------------------------------------------------

abbrev pub head_in : SpoolHead → Head
head_in r = record { spool = r.spool; secret = r.secret; first = r.first; before = r.before; counted = r.counted; life = r.life }

-- the bytes begin with this head
pub record HasHead (bytes : List ℕ) (r : SpoolHead) : Type 0 where
  pub is : IsHead (head_in r)
  pub text : take 80 bytes ≡ head_text (head_in r)
  pub sum : r.sum ≡ sum_of r.secret (head_front (head_in r))

abbrev pub HasNoHead : List ℕ → Type 0
HasNoHead bytes = (h : Head) → IsHead h → take 80 bytes ≢ head_text h

-- A batch. ------------------------------------------------------------------------------------------------------------

abbrev pub batch_in : List ℕ → SpoolBatch → Batch
batch_in bytes r = record { head = record { size = r.len - 32; count = r.count; first = r.first; arrived = r.arrived }; body = take (r.len - 32) (drop 32 bytes) }

-- The bytes begin with this batch, and its records have the numbers from this one on.
pub record HasBatch (secret : List ℕ) (number : ℕ) (bytes : List ℕ) (r : SpoolBatch) : Type 0 where
  pub follows : Follows number (batch_in bytes r)
  pub begins : BeginsBatch secret bytes (batch_in bytes r).head (batch_in bytes r).body
  pub some : 32 ≤ r.len
  pub within : r.len ≤ length bytes
  pub rest : r.reserved ≡ 0

abbrev pub HasNoBatch : List ℕ → ℕ → List ℕ → Type 0
HasNoBatch secret number bytes = EndsAt secret number bytes

-- An entry. -----------------------------------------------------------------------------------------------------------

-- the bytes of a part, which has to be within them
abbrev pub bytes_of : List ℕ → Part → List ℕ
bytes_of bytes p = take p.len (drop p.at bytes)

abbrev pub IsWithin : List ℕ → Part → Type 0
IsWithin bytes p = p.at + p.len ≤ length bytes

abbrev pub introduced_at : List ℕ → SpoolEntry → Introduced
introduced_at bytes r = record {
  link = r.link;
  connection = r.connection;
  peer = bytes_of bytes r.peer;
  container = bytes_of bytes r.container;
  name = bytes_of bytes r.name;
  user = bytes_of bytes r.user;
  kind = r.target_kind;
  target = bytes_of bytes r.target;
}

abbrev pub recorded_at : List ℕ → SpoolEntry → Recorded
recorded_at bytes r = record { link = r.link; tag = bytes_of bytes r.tag; «record» = bytes_of bytes r.«record» }

abbrev pub entry_at : List ℕ → SpoolEntry → Entry
entry_at bytes r =
    if nat_eq r.kind 1 then Introduction (introduced_at bytes r)
    else Record (recorded_at bytes r)

-- what is reported of an introduction, and of a record
abbrev pub no_part : Part
no_part = record { at = 0; len = 0 }

abbrev pub part_of : ℕ → List ℕ → Part
part_of at bytes = record { at = at; len = length bytes }

abbrev pub introduction_report : Introduced → SpoolEntry
introduction_report i =
    let container = 14 + length i.peer + 1 in
    let name = container + length i.container + 1 in
    let user = name + length i.name + 1 in
    let target = user + length i.user + 3 in
    record {
      len = target + length i.target;
      kind = 1;
      link = i.link;
      connection = i.connection;
      peer = part_of 14 i.peer;
      container = part_of container i.container;
      name = part_of name i.name;
      user = part_of user i.user;
      target_kind = i.kind;
      reserved = 0;
      target = part_of target i.target;
      tag = no_part;
      «record» = no_part;
    }

abbrev pub record_report : Recorded → SpoolEntry
record_report r = record {
  len = 6 + length r.tag + length r.«record»;
  kind = 2;
  link = r.link;
  connection = 0;
  peer = no_part;
  container = no_part;
  name = no_part;
  user = no_part;
  target_kind = 0;
  reserved = 0;
  target = no_part;
  tag = part_of 6 r.tag;
  «record» = part_of (6 + length r.tag) r.«record»;
}

abbrev pub report_of : Entry → SpoolEntry
report_of (Introduction i) = introduction_report i
report_of (Record r) = record_report r

-- The bytes begin with this entry. Its parts are within them, and the report says no more.
pub record HasEntry (bytes : List ℕ) (r : SpoolEntry) : Type 0 where
  pub begins : BeginsEntry bytes (entry_at bytes r) (drop r.len bytes)
  pub same : r ≡ report_of (entry_at bytes r)
  pub within : r.len ≤ length bytes
  pub parts : IsWithin bytes r.peer × IsWithin bytes r.container × IsWithin bytes r.name × IsWithin bytes r.user × IsWithin bytes r.target × IsWithin bytes r.tag × IsWithin bytes r.«record»

abbrev pub HasNoEntry : List ℕ → Type 0
HasNoEntry bytes = (e : Entry) (rest : List ℕ) → BeginsEntry bytes e rest → ⊥

-- The end, the floor, and a position. ---------------------------------------------------------------------------------

abbrev pub end_in : SpoolEnd → End
end_in r = record { spool = r.spool; first = r.first; mark = r.mark; place = r.place; next = r.next }

abbrev pub HasEnd : List ℕ → SpoolEnd → Type 0
HasEnd bytes r = bytes ≡ end_text (end_in r)

abbrev pub HasNoEnd : List ℕ → Type 0
HasNoEnd bytes = (e : End) → IsEnd e → bytes ≢ end_text e

abbrev pub floor_in : SpoolFloor → Floor
floor_in r = record { spool = r.spool; number = r.number; dropped = r.dropped }

abbrev pub HasFloor : List ℕ → SpoolFloor → Type 0
HasFloor bytes r = bytes ≡ floor_text (floor_in r)

abbrev pub HasNoFloor : List ℕ → Type 0
HasNoFloor bytes = (f : Floor) → IsFloor f → bytes ≢ floor_text f

abbrev pub position_in : SpoolPosition → Position
position_in r = record { spool = r.spool; number = r.number }

abbrev pub HasPosition : List ℕ → SpoolPosition → Type 0
HasPosition bytes r = bytes ≡ position_text (position_in r)

abbrev pub HasNoPosition : List ℕ → Type 0
HasNoPosition bytes = (p : Position) → IsPosition p → bytes ≢ position_text p
