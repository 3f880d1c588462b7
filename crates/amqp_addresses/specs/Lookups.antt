-- Which line of a file is that of an address.
use Rattle.std.specs.Prelude.{◌≡◌, ℕ, ◌≤◌, nat_lt, nat_eq, bytes_eq, Bool, true, false, if◌then◌else◌, List, [], ◌∷◌, length, Option, Some, None, slice_get}
use Rattle.std.specs.List.{starts_with}
use Rattle.amqp_addresses.specs.Lines.{Said}

-- a line of this address alone
abbrev pub is_exact : List ℕ → Said → Bool
is_exact address s = if s.is_prefix then false else bytes_eq s.address address

-- a line of all addresses that begin as this one does
abbrev pub is_begun : List ℕ → Said → Bool
is_begun address s = if s.is_prefix then starts_with nat_eq address s.address else false

-- a line admits an address
abbrev pub admits : List ℕ → Said → Bool
admits address s = if s.is_prefix then starts_with nat_eq address s.address else bytes_eq s.address address

-- The line of an address: one that admits it. It is that of this address alone, if there is one; else none that admits it has a longer
-- prefix.
pub record IsLine (address : List ℕ) (said : List Said) (s : Said) : Type 0 where
  pub stands : (i : ℕ) × (slice_get said i ≡ Some s)
  pub admits : admits address s ≡ true
  pub exact : (i : ℕ) (q : Said) → slice_get said i ≡ Some q → is_exact address q ≡ true → s.is_prefix ≡ false
  pub longest : (i : ℕ) (q : Said) → slice_get said i ≡ Some q → is_begun address q ≡ true → s.is_prefix ≡ true → length q.address ≤ length s.address

-- no line admits it
abbrev pub IsUnknown : List ℕ → List Said → Type 0
IsUnknown address said = (i : ℕ) (s : Said) → slice_get said i ≡ Some s → admits address s ≡ false

-- the credit of an address: that of its line
abbrev pub HasCredit : List ℕ → List Said → ℕ → Type 0
HasCredit address said credit = (s : Said) × IsLine address said s × (credit ≡ s.credit)

-- How it is found. ------------------------------------------------------------------------------------------------------

-- of two lines the second, if it is that of this address alone, or a longer prefix than the first
abbrev pub is_nearer : Said → Said → Bool
is_nearer s q = if s.is_prefix then (if q.is_prefix then nat_lt (length s.address) (length q.address) else true) else false

abbrev pub nearer : Option Said → Option Said → Option Said
nearer None o = o
nearer (Some s) None = Some s
nearer (Some s) (Some q) = if is_nearer s q then Some q else Some s

abbrev pub admitting : List ℕ → Said → Option Said
admitting address s = if admits address s then Some s else None

-- The line of an address, which `IsLine` says too.
abbrev pub line_of : List ℕ → List Said → Option Said
line_of address [] = None
line_of address (s ∷ said) = nearer (admitting address s) (line_of address said)
