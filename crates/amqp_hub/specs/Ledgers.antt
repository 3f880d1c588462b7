-- A keeper in memory.
use Rattle.std.specs.Prelude.{ℕ, ◌-◌, ◌^◌, ◌==◌, ◌&&◌, nat_eq, nat_lt, not, Bool, true, false, if◌then◌else◌, List, [], ◌∷◌, ◌++◌, length, take, drop, filter, sum_by, Option, Some, None}
use Rattle.std.specs.List.{flat_map}
use Rattle.amqp_hub.specs.Keepers.{Entry, one_entry}
use Rattle.amqp_hub.specs.declared.keeper.Origin.{Origin}
use Rattle.amqp_hub.specs.declared.ledger.Record.{Record}
use Rattle.amqp_hub.specs.declared.keeper.Progress.{Progress}
use Rattle.amqp_hub.specs.declared.keeper.Progress.TheVariants as progress

abbrev pub record_entry : {A : Type 0} → Record A → Entry
record_entry r = record { origin = r.origin; bytes = r.bytes.items }

-- The records that it has taken for good, and those that wait, each oldest first; how many may wait; how many it takes for good at the next settling (at `None` it fails then);
-- and whether it has failed.
pub record LedgerState : Type 0 where
  pub taken : List Entry
  pub waiting : List Entry
  pub room : ℕ
  pub takes : Option ℕ
  pub has_failed : Bool

-- one without records, which takes all for good when it is asked to
abbrev pub new_ledger : ℕ → LedgerState
new_ledger room = record { taken = []; waiting = []; room = room; takes = Some (2 ^ 64 - 1); has_failed = false }

-- all that it was given
abbrev pub records_of : LedgerState → List Entry
records_of l = l.taken ++ l.waiting

-- a record was put under this number
abbrev pub is_of : ℕ → Entry → Bool
is_of number e = nat_eq e.origin.number number

-- the bytes of all records that were put under a number
abbrev pub records_under : ℕ → LedgerState → List ℕ
records_under number l = flat_map (λ e. e.bytes) (filter (is_of number) (records_of l))

-- the bytes of the first record of these, none if there is none
abbrev pub first_bytes : List Entry → List ℕ
first_bytes [] = []
first_bytes (e ∷ entries) = e.bytes

-- it has taken all for good
abbrev pub is_settled : LedgerState → Bool
is_settled l = not l.has_failed && (length l.waiting == 0)

-- it takes a record
abbrev pub is_roomy : LedgerState → Bool
is_roomy l = not l.has_failed && nat_lt (length l.waiting) l.room

abbrev pub will_take : Option ℕ → LedgerState → LedgerState
will_take most l = record l { takes = most }

-- one record more
abbrev pub with_record : Origin → List ℕ → LedgerState → LedgerState
with_record origin bytes l = record l { waiting = l.waiting ++ one_entry origin bytes }

-- what a step recorded, if it made a record
abbrev pub with_noted : Option Origin → List ℕ → LedgerState → LedgerState
with_noted None noted l = l
with_noted (Some origin) noted l = with_record origin noted l

-- how many bytes of records it has not taken for good
abbrev pub waiting_bytes : LedgerState → ℕ
waiting_bytes l = sum_by (λ e. length e.bytes) l.waiting

-- after a settling that may take so many
abbrev pub settled_by : Option ℕ → LedgerState → LedgerState
settled_by None l = record l { has_failed = true }
settled_by (Some most) l = if l.has_failed then l else record l { taken = l.taken ++ take most l.waiting; waiting = drop most l.waiting }

abbrev pub settled_on : LedgerState → LedgerState
settled_on l = settled_by l.takes l

abbrev pub settled_after : Option ℕ → LedgerState → LedgerState
settled_after most l = settled_on (will_take most l)

-- how far it has come then
abbrev pub progress_of : LedgerState → Progress
progress_of l = if l.has_failed then progress.Failed else (if length l.waiting == 0 then progress.Out else progress.Stuck)

-- whether there is room for a record
abbrev pub room_in : LedgerState → Progress
room_in l = if l.has_failed then progress.Failed else (if nat_lt (length l.waiting) l.room then progress.Out else progress.Stuck)
