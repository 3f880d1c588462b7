-- What links may hold, by the bytes with which their names begin.
use Rattle.std.specs.Prelude.{◌≡◌, ℕ, ◌<◌, ◌≤◌, Bool, true, false, nat_lt, bytes_eq, if◌then◌else◌, List, [], ◌∷◌, length, take, Option, Some, None, slice_get}
use Rattle.amqp_link.specs.Bounds.{Bounds, IsBounded}
use Rattle.amqp_endpoint.specs.declared.limits.LimitFault.{LimitFault}
use Rattle.amqp_endpoint.specs.declared.limits.LimitFault.TheVariants as fault

-- what each link whose name begins with these bytes may hold
pub record Limit : Type 0 where
  pub prefix : List ℕ
  pub bounds : Bounds

-- Which limit is that of a name. -----------------------------------------------------------------------------------------

abbrev pub begins_with : List ℕ → List ℕ → Bool
begins_with prefix name = bytes_eq prefix (take (length prefix) name)

-- of two limits the one with the longer prefix, or the first if both are equally long
abbrev pub longer : Option Limit → Option Limit → Option Limit
longer None o = o
longer (Some r) None = Some r
longer (Some r) (Some q) = if nat_lt (length r.prefix) (length q.prefix) then Some q else Some r

-- the limit, if the name begins with its prefix
abbrev pub matching : List ℕ → Limit → Option Limit
matching name r = if begins_with r.prefix name then Some r else None

-- The limit with the longest prefix with which the name begins. `IsLongest` says so of the whole table.
abbrev pub longest : List ℕ → List Limit → Option Limit
longest name [] = None
longest name (r ∷ rows) = longer (matching name r) (longest name rows)

-- the bounds of a limit, or else these
abbrev pub bounds_in : Bounds → Option Limit → Bounds
bounds_in otherwise None = otherwise
bounds_in otherwise (Some r) = r.bounds

-- the limit is in the table, the name begins with its prefix, and no limit of the table has a longer prefix with which the name
-- begins
pub record IsLongest (name : List ℕ) (rows : List Limit) (r : Limit) : Type 0 where
  pub begins : begins_with r.prefix name ≡ true
  pub stands : (i : ℕ) × (slice_get rows i ≡ Some r)
  pub most : (i : ℕ) (q : Limit) → slice_get rows i ≡ Some q → begins_with q.prefix name ≡ true → length q.prefix ≤ length r.prefix

-- which limit is found: the longest, or none if the name begins with no prefix of the table
abbrev pub IsLimitOf : List ℕ → List Limit → Option Limit → Type 0
IsLimitOf name rows None = (i : ℕ) (q : Limit) → slice_get rows i ≡ Some q → begins_with q.prefix name ≡ false
IsLimitOf name rows (Some r) = IsLongest name rows r

-- Which tables may be asked for. -----------------------------------------------------------------------------------------

-- its prefix has 1 to 255 bytes, and its bounds are within their ranges
pub record IsGood (r : Limit) : Type 0 where
  pub some : 1 ≤ length r.prefix
  pub most : length r.prefix ≤ 255
  pub bounds : IsBounded r.bounds.allowed r.bounds.max_message_size

-- a limit before the i-th has the same prefix
abbrev pub IsRepeated : List Limit → ℕ → Limit → Type 0
IsRepeated rows i r = (j : ℕ) × (j < i) × ((q : Limit) × (slice_get rows j ≡ Some q) × (q.prefix ≡ r.prefix))

-- the first n are good, and no two of them have the same prefix
abbrev pub AreFine : List Limit → ℕ → Type 0
AreFine rows n = (i : ℕ) (r : Limit) → i < n → slice_get rows i ≡ Some r → IsGood r × (IsRepeated rows i r → ⊥)

-- The first fault of a table: more than 16 limits; or else, by rising limit, one outside its ranges, or with the prefix of an
-- earlier one.
abbrev pub IsFault : List Limit → LimitFault → Type 0
IsFault rows fault.TooMany = 16 < length rows
IsFault rows (fault.BadRow i) = (length rows ≤ 16) × AreFine rows i × ((r : Limit) × (slice_get rows i ≡ Some r) × (IsGood r → ⊥))
IsFault rows (fault.SamePrefix i) = (length rows ≤ 16) × AreFine rows i × ((r : Limit) × (slice_get rows i ≡ Some r) × IsGood r × IsRepeated rows i r)

-- a table without fault
pub record IsTable (rows : List Limit) : Type 0 where
  pub few : length rows ≤ 16
  pub fine : AreFine rows (length rows)
