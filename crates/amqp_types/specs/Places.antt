-- The places of faults, and which faults reading without memory may have.
use Rattle.std.specs.Prelude.{ℕ}
use Rattle.amqp_types.specs.declared.fault.ReadFault.{ReadFault}
use Rattle.amqp_types.specs.declared.fault.ReadFault.TheVariants.{Truncated, UnknownCode, BadSize, BadCount, BadText, BadSymbol, BadChar, BadBoolean, DuplicateKey, TooDeep, TooManyNodes, NoMemory}

-- the place of a fault in what was read
abbrev pub place_of : ReadFault → ℕ
place_of (Truncated place) = place
place_of (UnknownCode place) = place
place_of (BadSize place) = place
place_of (BadCount place) = place
place_of (BadText place) = place
place_of (BadSymbol place) = place
place_of (BadChar place) = place
place_of (BadBoolean place) = place
place_of (DuplicateKey place) = place
place_of (TooDeep place) = place
place_of (TooManyNodes place) = place
place_of NoMemory = 0

-- a fault that is not of equal keys, of too many nodes, or of memory
abbrev pub IsPlain : ReadFault → Type 0
IsPlain (DuplicateKey place) = ⊥
IsPlain (TooManyNodes place) = ⊥
IsPlain NoMemory = ⊥
IsPlain _ = Unit {0}
