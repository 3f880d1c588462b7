-- Why a link is not opened, and why a record is not put.
use Rattle.std.specs.Prelude.{◌≡◌, ℕ, ◌+◌, ◌^◌, ◌<◌, ◌≤◌, List, ◌++◌, length, Some, None}
use Rattle.amqp_spool.specs.declared.links.OpenFault.{OpenFault}
use Rattle.amqp_spool.specs.declared.links.OpenFault.TheVariants as opening
use Rattle.amqp_spool.specs.declared.waiting.PutFault.{PutFault}
use Rattle.amqp_spool.specs.declared.waiting.PutFault.TheVariants as fault
use Rattle.amqp_spool.specs.Entries.{Introduced, IsIntroduced, Recorded, record_entry}
use Rattle.amqp_spool.specs.EntryReading.{IsWhole}
use Rattle.amqp_spool.specs.Waitings.{LinkState, LinksState, WaitingState, link_at, numbered, put_in, batch_len}

-- The reason of an error holds: a name is too long, whatever number the link has. `NoMemory` may come at any time.
abbrev pub RefusesToOpen : Introduced → OpenFault → Type 0
RefusesToOpen from opening.TooLong = (number : ℕ) → IsIntroduced (numbered number from) → ⊥
RefusesToOpen from opening.NoMemory = Unit {0}

-- The reason of an error holds. `NoMemory` may come at any time.
abbrev pub Refuses : ℕ → ℕ → LinksState → WaitingState → Recorded → PutFault → Type 0
Refuses first next links w r fault.NotOpen = link_at links r.link ≡ None
Refuses first next links w r fault.LongTag = 32 < length r.tag
Refuses first next links w r fault.NoRecord = IsWhole r.record → ⊥
Refuses first next links w r fault.Full = (link : LinkState) × (link_at links r.link ≡ Some link) × (w.most < batch_len (put_in first next link r w))
Refuses first next links w r fault.TooMany = 2 ^ 32 ≤ w.count + 1
Refuses first next links w r fault.NoMemory = Unit {0}

-- Parts of a put. -----------------------------------------------------------------------------------------------------

-- the batch with this told and this record more
abbrev pub appended : List ℕ → List ℕ → Recorded → WaitingState → WaitingState
appended here again r w = record w { here = w.here ++ here ++ record_entry r; again = w.again ++ again; count = w.count + 1 }

-- The reason of an error of an append holds.
abbrev pub RefusesToAppend : List ℕ → List ℕ → Recorded → WaitingState → PutFault → Type 0
RefusesToAppend here again r w fault.NotOpen = ⊥
RefusesToAppend here again r w fault.LongTag = ⊥
RefusesToAppend here again r w fault.NoRecord = ⊥
RefusesToAppend here again r w fault.Full = w.most < batch_len (appended here again r w)
RefusesToAppend here again r w fault.TooMany = 2 ^ 32 ≤ w.count + 1
RefusesToAppend here again r w fault.NoMemory = Unit {0}

-- No reason of an error of an append holds, and it is done.
pub record IsAppended (here again : List ℕ) (r : Recorded) (was now : WaitingState) : Type 0 where
  pub fits : batch_len now ≤ was.most
  pub counts : now.count < 2 ^ 32
  pub appends : now ≡ appended here again r was

-- Puts. ---------------------------------------------------------------------------------------------------------------

-- No reason of an error holds, and the record is put.
pub record IsPut (first next : ℕ) (links : LinksState) (was now : WaitingState) (r : Recorded) : Type 0 where
  pub link : LinkState
  pub is_open : link_at links r.link ≡ Some link
  pub short : length r.tag ≤ 32
  pub whole : IsWhole r.record
  pub fits : batch_len now ≤ was.most
  pub counts : now.count < 2 ^ 32
  pub put : now ≡ put_in first next link r was
