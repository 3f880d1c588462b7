-- What a header says. [2.2]
use Rattle.std.specs.Prelude.{◌≡◌, ℕ, ◌+◌, ◌/◌, ◌%◌, ◌==◌, nat_lt, Bool, true, false, not, ◌&&◌, bit_and, if◌then◌else◌, List, length, min, take, drop, slice_index, Option, Some, None, Result, Ok, Err}
use Rattle.std.specs.Str.{bytes_eq, is_utf8}
use Rattle.std.specs.Net.Addr.{ipv4_octets, ipv6_segments, segments_of, IsV4And, IsV6And}
use Rattle.std.specs.Net.Socket.{socket_ip, socket_port}
use Rattle.std.specs.declared.net.socket_addr.SocketAddr.{SocketAddr}
use Rattle.byteorder.specs.Endian.{big_number}
use Rattle.amqp_proxy.specs.declared.faults.ProxyFault.{ProxyFault}
use Rattle.amqp_proxy.specs.declared.faults.ProxyFault.TheVariants as fault
use Rattle.amqp_proxy.specs.declared.progress.Progress.{Progress}
use Rattle.amqp_proxy.specs.declared.progress.Progress.TheVariants.{Short, Bad, Whole}
use Rattle.amqp_proxy.specs.declared.progress.TheConstants.{SIGNATURE}
use Rattle.amqp_proxy.specs.Tlvs.{only}

-- where a connection comes from: the octets of its address and its port, over IPv4 or IPv6
pub data Source : Type 0 where
  Four : List ℕ → ℕ → Source
  Six : List ℕ → ℕ → Source

-- what a header says: where the connection comes from, and the name in the client's certificate
pub record Saying : Type 0 where
  pub source : Option Source
  pub name : Option (List ℕ)

abbrev pub saying : Option Source → Option (List ℕ) → Saying
saying source name = record { source = source; name = name }

-- The fixed part. -------------------------------------------------------------------------------------------------------

-- the bytes, up to the twelfth, are those of the signature
abbrev pub is_signed : List ℕ → Bool
is_signed bytes = bytes_eq (take (min (length bytes) 12) bytes) (take (min (length bytes) 12) SIGNATURE)

-- the byte behind it: version 2, and the command LOCAL or PROXY
abbrev pub version_of : List ℕ → ℕ
version_of bytes = slice_index bytes 12 / 16

abbrev pub command_of : List ℕ → ℕ
command_of bytes = slice_index bytes 12 % 16

-- the next one: the family of the addresses and the transport
abbrev pub family_of : List ℕ → ℕ
family_of bytes = slice_index bytes 13

-- how many bytes follow the sixteen of the fixed part
unfoldable pub rest_len : List ℕ → ℕ
rest_len bytes = big_number 2 (drop 14 bytes)

-- How far a header has come. A wrong byte shows as it comes, and a length above 520 as soon as it is there.
unfoldable pub progress_of : List ℕ → Progress
progress_of bytes =
    if not (is_signed bytes) then Bad fault.Signature
    else if nat_lt (length bytes) 13 then Short
    else if not (version_of bytes == 2) then Bad fault.Version
    else if nat_lt 1 (command_of bytes) then Bad fault.Command
    else if nat_lt (length bytes) 16 then Short
    else if nat_lt 520 (rest_len bytes) then Bad fault.TooLong
    else if nat_lt (length bytes) (16 + rest_len bytes) then Short
    else Whole

-- how many bytes a whole header has
abbrev pub size_of : List ℕ → ℕ
size_of bytes = 16 + rest_len bytes

-- The addresses. --------------------------------------------------------------------------------------------------------

-- how many bytes they are of a family: IPv4, IPv6, UNIX; of any other, none
abbrev pub addresses_len : ℕ → ℕ
addresses_len family =
    if family / 16 == 1 then 12
    else if family / 16 == 2 then 36
    else if family / 16 == 3 then 216
    else 0

-- The source among the addresses, if they are there: TCP over IPv4, or TCP over IPv6. Behind the source's address is that of the
-- destination, and then come both ports.
abbrev pub source_in : ℕ → List ℕ → Option Source
source_in family addresses =
    if nat_lt (length addresses) (addresses_len family) then None
    else if family == 0x11 then Some (Four (take 4 addresses) (big_number 2 (drop 8 addresses)))
    else if family == 0x21 then Some (Six (take 16 addresses) (big_number 2 (drop 32 addresses)))
    else None

-- the command is LOCAL: the proxy speaks for itself
abbrev pub is_local : List ℕ → Bool
is_local header = command_of header == 0

-- where a whole header says that the connection comes from
unfoldable pub source_of : List ℕ → Option Source
source_of header = if is_local header then None else source_in (family_of header) (drop 16 header)

-- The name. -------------------------------------------------------------------------------------------------------------

-- a name that is taken
abbrev pub judged : List ℕ → Result (Option (List ℕ)) ProxyFault
judged name =
    if length name == 0 then Err fault.NameEmpty
    else if nat_lt 255 (length name) then Err fault.NameTooLong
    else if is_utf8 name then Ok (Some name)
    else Err fault.NameNotText

-- The client sent a certificate, on this connection (2) or in this session (4), and it was verified. An SSL TLV begins with a byte of
-- such flags, and with four that are zero if the certificate was verified.
abbrev pub is_vouched : List ℕ → Bool
is_vouched value = not (bit_and (slice_index value 0) 6 == 0) && (big_number 4 (drop 1 value) == 0)

-- a name, if it is vouched for; else it is skipped
abbrev pub vouched : Bool → Result (Option (List ℕ)) ProxyFault → Result (Option (List ℕ)) ProxyFault
vouched v (Err f) = Err f
vouched v (Ok None) = Ok None
vouched false (Ok (Some name)) = Ok None
vouched true (Ok (Some name)) = judged name

-- the name in an SSL TLV
unfoldable pub name_in_ssl : List ℕ → Result (Option (List ℕ)) ProxyFault
name_in_ssl value = if nat_lt (length value) 5 then Err fault.Malformed else vouched (is_vouched value) (only 0x22 (drop 5 value))

abbrev pub name_by : Result (Option (List ℕ)) ProxyFault → Result (Option (List ℕ)) ProxyFault
name_by (Err f) = Err f
name_by (Ok None) = Ok None
name_by (Ok (Some value)) = name_in_ssl value

-- the name in what follows the fixed part: behind the addresses are TLVs
abbrev pub name_behind : ℕ → List ℕ → Result (Option (List ℕ)) ProxyFault
name_behind family body =
    if nat_lt (length body) (addresses_len family) then Err fault.Malformed
    else name_by (only 0x20 (drop (addresses_len family) body))

-- the name in a whole header, or what is wrong with the header
unfoldable pub name_of : List ℕ → Result (Option (List ℕ)) ProxyFault
name_of header = if is_local header then Ok None else name_behind (family_of header) (drop 16 header)

-- In memory. ------------------------------------------------------------------------------------------------------------

-- an address of a socket is this one
abbrev pub IsAt : SocketAddr → Source → Type 0
IsAt a (Four octets port) = IsV4And (socket_ip a) (λ ip. ipv4_octets ip ≡ octets) × (socket_port a ≡ port)
IsAt a (Six octets port) = IsV6And (socket_ip a) (λ ip. ipv6_segments ip ≡ segments_of octets) × (socket_port a ≡ port)

abbrev pub IsSource : Option SocketAddr → Option Source → Type 0
IsSource None None = Unit {0}
IsSource (Some a) (Some s) = IsAt a s
IsSource _ _ = ⊥
