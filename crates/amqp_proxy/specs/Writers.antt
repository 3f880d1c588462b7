-- How a proxy writes a header.
use Rattle.std.specs.Prelude.{◌≡◌, ◌<◌, ◌≤◌, ℕ, ◌+◌, ◌^◌, ◌==◌, Bool, true, not, ◌&&◌, bit_and, if◌then◌else◌, List, [], ◌∷◌, ◌++◌, length, Option, Some, None}
use Rattle.std.specs.Str.{is_utf8}
use Rattle.byteorder.specs.Endian.{big_bytes}
use Rattle.amqp_proxy.specs.declared.progress.TheConstants.{SIGNATURE}
use Rattle.amqp_proxy.specs.Tlvs.{Tlv, tlv, values}

abbrev pub tlv_bytes : Tlv → List ℕ
tlv_bytes t = t.kind ∷ (big_bytes 2 (length t.value) ++ t.value)

unfoldable pub tlvs_bytes : List Tlv → List ℕ
tlvs_bytes [] = []
tlvs_bytes (t ∷ ts) = tlv_bytes t ++ tlvs_bytes ts

-- a header with this command, this family and transport, and what follows
abbrev pub header_bytes : (command family : ℕ) → List ℕ → List ℕ
header_bytes command family body = SIGNATURE ++ ((32 + command) ∷ family ∷ (big_bytes 2 (length body) ++ body))

-- a connection: the octets and the ports at both ends
pub record Ends : Type 0 where
  pub source : List ℕ
  pub destination : List ℕ
  pub port : ℕ
  pub to : ℕ

-- addresses of so many octets
pub record AreEnds (len : ℕ) (e : Ends) : Type 0 where
  pub source : length e.source ≡ len
  pub destination : length e.destination ≡ len
  pub port : e.port < 2 ^ 16

abbrev pub ends_bytes : Ends → List ℕ
ends_bytes e = e.source ++ (e.destination ++ (big_bytes 2 e.port ++ big_bytes 2 e.to))

-- the header of a connection over TCP, with these TLVs
abbrev pub connection_bytes : (family : ℕ) → Ends → List Tlv → List ℕ
connection_bytes family e ts = header_bytes 1 family (ends_bytes e ++ tlvs_bytes ts)

-- the value of an SSL TLV
abbrev pub ssl_bytes : (client verify : ℕ) → List Tlv → List ℕ
ssl_bytes client verify subs = client ∷ (big_bytes 4 verify ++ tlvs_bytes subs)

-- one of the TLVs is an SSL TLV, with these flags of the client and this `verify`, and it has this name among TLVs of its own
pub record AreNamed (ts : List Tlv) (client verify : ℕ) (name : List ℕ) : Type 0 where
  pub subs : List Tlv
  pub ssl : values 0x20 ts ≡ tlv 0x20 (ssl_bytes client verify subs) ∷ []
  pub cn : values 0x22 subs ≡ tlv 0x22 name ∷ []
  pub short : length (tlvs_bytes subs) ≤ 515
  pub fits : verify < 2 ^ 32
  pub some : 1 ≤ length name
  pub most : length name ≤ 255
  pub text : is_utf8 name ≡ true

-- the client sent a certificate, on this connection (2) or in this session (4)
abbrev pub has_certificate : ℕ → Bool
has_certificate client = not (bit_and client 6 == 0)

-- the name is taken exactly if the client sent a certificate, and it was verified
abbrev pub certified : (client verify : ℕ) → List ℕ → Option (List ℕ)
certified client verify name = if has_certificate client && verify == 0 then Some name else None
