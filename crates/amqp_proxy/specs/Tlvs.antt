-- The TLVs of a header: a type of one byte, a length of two, and a value. [2.2]
use Rattle.std.specs.Prelude.{◌≡◌, ◌≤◌, ℕ, zero, suc, ◌+◌, ◌==◌, nat_lt, if◌then◌else◌, List, [], ◌∷◌, length, take, drop, Option, Some, None, Result, Ok, Err}
use Rattle.std.specs.Borrow.{Bor}
use Rattle.std.specs.List.{filter}
use Rattle.std.specs.Option.{option_copied}
use Rattle.byteorder.specs.Endian.{big_number}
use Rattle.amqp_proxy.specs.declared.faults.ProxyFault.{ProxyFault}
use Rattle.amqp_proxy.specs.declared.faults.ProxyFault.TheVariants.{Malformed}

pub record Tlv : Type 0 where
  pub kind : ℕ
  pub value : List ℕ

abbrev pub tlv : ℕ → List ℕ → Tlv
tlv kind value = record { kind = kind; value = value }

-- one TLV before others
abbrev pub before : Tlv → Option (List Tlv) → Option (List Tlv)
before t None = None
before t (Some ts) = Some (t ∷ ts)

-- what follows the type of a TLV: how long its value is, and the value
abbrev pub size_of : List ℕ → ℕ
size_of bytes = big_number 2 bytes

abbrev pub value_of : List ℕ → List ℕ
value_of bytes = take (size_of bytes) (drop 2 bytes)

-- The TLVs that bytes are, whose first ones, so many, belong to a TLV before them. There are none if a TLV goes beyond the end.
unfoldable pub tlvs_after : ℕ → List ℕ → Option (List Tlv)
tlvs_after skipped [] = Some []
tlvs_after (suc skipped) (b ∷ bytes) = tlvs_after skipped bytes
tlvs_after zero (kind ∷ bytes) =
    if nat_lt (length bytes) 2 then None
    else if nat_lt (length bytes) (2 + size_of bytes) then None
    else before (tlv kind (value_of bytes)) (tlvs_after (2 + size_of bytes) bytes)

-- the TLVs that bytes are
abbrev pub tlvs_of : List ℕ → Option (List Tlv)
tlvs_of bytes = tlvs_after 0 bytes

-- the values of this type
abbrev pub values : ℕ → List Tlv → List Tlv
values kind ts = filter (λ t. t.kind == kind) ts

-- At most one may be of a type: which of two counts is nobody's to say.
abbrev pub single : List Tlv → Result (Option (List ℕ)) ProxyFault
single [] = Ok None
single (t ∷ []) = Ok (Some t.value)
single (t ∷ u ∷ ts) = Err Malformed

abbrev pub only_in : ℕ → Option (List Tlv) → Result (Option (List ℕ)) ProxyFault
only_in kind None = Err Malformed
only_in kind (Some ts) = single (values kind ts)

-- the value of the only TLV of this type, if there is one
unfoldable pub only : ℕ → List ℕ → Result (Option (List ℕ)) ProxyFault
only kind bytes = only_in kind (tlvs_of bytes)

-- what a call returns is what bytes give
abbrev pub Gives : Result (Option (Bor (List ℕ))) ProxyFault → Result (Option (List ℕ)) ProxyFault → Type 0
Gives (Ok found) there = there ≡ Ok (option_copied found)
Gives (Err f) there = there ≡ Err f

-- the first TLV of bytes, and the others behind it
pub record IsFirst (bytes : List ℕ) (kind : ℕ) (value : List ℕ) : Type 0 where
  pub within : 3 + length value ≤ length bytes
  pub whole : tlvs_of bytes ≡ before (tlv kind value) (tlvs_of (drop (3 + length value) bytes))
