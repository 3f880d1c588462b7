-- Headers as a proxy writes them.
use Rattle.std.specs.Prelude.{nat_lt, min, if◌then◌else◌}
use Rattle.std.proofs.Common.{◌≡◌, ℕ, ◌+◌, ◌/◌, ◌%◌, ◌≤◌, Bool, true, false, eqb, ◌&&◌, Option, Some, None, Result, Ok, Err, List, [], ◌∷◌, ◌++◌, length, take, drop, refl, ap, sym, ◌∙◌, arith}
use Rattle.std.specs.Str.{bytes_eq}
use Rattle.std.proofs.lemmas.Bool.{le-ltb}
use Rattle.std.proofs.lemmas.Bool.Decides.{nat_tests}
use Rattle.std.proofs.lemmas.List.{append_assoc, length-append, take_at, drop_at}
use Rattle.byteorder.specs.Endian.{big_bytes, big_number}
use Rattle.byteorder.specs.Numbers.{big_number-reads_back}
use Rattle.amqp_proxy.specs.declared.faults.ProxyFault.{ProxyFault}
use Rattle.amqp_proxy.specs.declared.faults.ProxyFault.TheVariants as fault
use Rattle.amqp_proxy.specs.declared.progress.Progress.TheVariants.{Whole}
use Rattle.amqp_proxy.specs.declared.progress.TheConstants.{SIGNATURE}
use Rattle.amqp_proxy.specs.Headers.{Source, Four, Six, saying, is_signed, version_of, command_of, rest_len, progress_of, size_of, addresses_len, source_in, source_of, is_vouched, vouched, name_in_ssl, name_by, name_behind, name_of}
use Rattle.amqp_proxy.specs.Streams.{Passed, did, by_name, by_progress, passage}
use Rattle.amqp_proxy.specs.Tlvs.{Tlv, tlv, before, tlvs_after, tlvs_of, values, single, only_in, only}
use Rattle.amqp_proxy.specs.Headers as headers
use Rattle.amqp_proxy.specs.Tlvs as tlvs
use Rattle.amqp_proxy.specs.Writers.{tlv_bytes, tlvs_bytes, header_bytes, Ends, AreEnds, ends_bytes, connection_bytes, ssl_bytes, AreNamed, has_certificate, certified}
use Rattle.amqp_proxy.proofs.Names.{as_text}
use Rattle.amqp_proxy.proofs.Values.{one_cons}
use Rattle.amqp_proxy.proofs.Whole.{judged, judged_is}

-- A whole header. -------------------------------------------------------------------------------------------------------

whole_from : (n c r : ℕ) → c ≤ 1 → r ≤ 520 → 16 + r ≤ n → judged true n 2 c r ≡ Whole
whole_from n c r a b d = grind (arith, nat_tests)

written_len : (command family : ℕ) (body : List ℕ) → length (header_bytes command family body) ≡ 16 + length body
written_len command family body = omega arith

written_rest : (command family : ℕ) (body behind : List ℕ) → length body ≤ 520 → rest_len (header_bytes command family body ++ behind) ≡ length body
unfolding rest_len
written_rest command family body behind h = big_number-reads_back 2 (length body) (body ++ behind) (omega arith)

written_signed : (command family : ℕ) (body behind : List ℕ) → is_signed (header_bytes command family body ++ behind) ≡ true
written_signed command family body behind =
    let bytes = header_bytes command family body ++ behind in
    let twelve : min (length bytes) 12 ≡ 12 = omega (arith, length-append (header_bytes command family body) behind, written_len command family body) in
    ap (λ (n : ℕ). bytes_eq (take n bytes) (take n SIGNATURE)) twelve

written_whole : (command family : ℕ) (body behind : List ℕ) → (32 + command) / 16 ≡ 2 → (32 + command) % 16 ≤ 1 → length body ≤ 520
    → progress_of (header_bytes command family body ++ behind) ≡ Whole
written_whole command family body behind v c h =
    let bytes = header_bytes command family body ++ behind in
    let n = length bytes in
    judged_is bytes
    ∙ ap (λ (s : Bool). judged s n ((32 + command) / 16) ((32 + command) % 16) (rest_len bytes)) (written_signed command family body behind)
    ∙ ap (λ (w : ℕ). judged true n w ((32 + command) % 16) (rest_len bytes)) v
    ∙ ap (λ (r : ℕ). judged true n 2 ((32 + command) % 16) r) (written_rest command family body behind h)
    ∙ whole_from n ((32 + command) % 16) (length body) c h (omega (arith, length-append (header_bytes command family body) behind, written_len command family body))

written : (command family : ℕ) (body behind : List ℕ) → (32 + command) / 16 ≡ 2 → (32 + command) % 16 ≤ 1 → length body ≤ 520
    → passage (header_bytes command family body ++ behind) ≡ by_name (header_bytes command family body) (name_of (header_bytes command family body)) behind
written command family body behind v c h =
    let header = header_bytes command family body in
    let bytes = header ++ behind in
    let len : length header ≡ size_of bytes = written_len command family body ∙ ap (λ (n : ℕ). 16 + n) (sym (written_rest command family body behind h)) in
    ap (by_progress bytes) (written_whole command family body behind v c h)
    ∙ ap (λ (l : List ℕ). by_name l (name_of l) (drop (size_of bytes) bytes)) (take_at header behind (size_of bytes) len)
    ∙ ap (by_name header (name_of header)) (drop_at header behind (size_of bytes) len)

-- LOCAL. ----------------------------------------------------------------------------------------------------------------

local_name : (family : ℕ) (body : List ℕ) → name_of (header_bytes 0 family body) ≡ Ok None
unfolding name_of
local_name family body = refl

local_source : (family : ℕ) (body : List ℕ) → source_of (header_bytes 0 family body) ≡ None
unfolding source_of
local_source family body = refl

pub local : (family : ℕ) (body behind : List ℕ) → length body ≤ 520 → passage (header_bytes 0 family body ++ behind) ≡ did (Passed (saying None None)) behind
local family body behind h =
    let header = header_bytes 0 family body in
    written 0 family body behind refl (omega arith) h
    ∙ ap (λ (r : Result (Option (List ℕ)) ProxyFault). by_name header r behind) (local_name family body)
    ∙ ap (λ (s : Option Source). did (Passed (saying s None)) behind) (local_source family body)

-- The TLVs. -------------------------------------------------------------------------------------------------------------

-- one is read as it is written, and so are those behind it
one_back : (t : Tlv) (rest : List ℕ) → length t.value ≤ 520 → tlvs_of (tlv_bytes t ++ rest) ≡ before t (tlvs_of rest)
one_back t rest h =
    let front = big_bytes 2 (length t.value) ++ t.value in
    let size : tlvs.size_of (front ++ rest) ≡ length t.value = big_number-reads_back 2 (length t.value) (t.value ++ rest) (omega arith) in
    let long : 2 + length t.value ≤ length (front ++ rest) = omega (arith, length-append front rest) in
    let value : tlvs.value_of (front ++ rest) ≡ t.value = take_at t.value rest (tlvs.size_of (front ++ rest)) (sym size) in
    let all : length front ≡ 2 + tlvs.size_of (front ++ rest) = omega (arith, size) in
    one_cons t.kind (front ++ rest) (omega (arith, size, long))
    ∙ ap (λ (v : List ℕ). before (tlv t.kind v) (tlvs_of (drop (2 + tlvs.size_of (front ++ rest)) (front ++ rest)))) value
    ∙ ap (λ (l : List ℕ). before t (tlvs_of l)) (drop_at front rest (2 + tlvs.size_of (front ++ rest)) all)

nothing_back : tlvs_of (tlvs_bytes []) ≡ Some []
unfolding tlvs_bytes tlvs_after
nothing_back = refl

more_bytes : (t : Tlv) (ts : List Tlv) → tlvs_bytes (t ∷ ts) ≡ tlv_bytes t ++ tlvs_bytes ts
unfolding tlvs_bytes
more_bytes t ts = refl

all_back : (ts : List Tlv) → length (tlvs_bytes ts) ≤ 520 → tlvs_of (tlvs_bytes ts) ≡ Some ts
all_back [] h = nothing_back
all_back (t ∷ ts) h =
    let joined = more_bytes t ts in
    let len : length (tlvs_bytes (t ∷ ts)) ≡ 3 + length t.value + length (tlvs_bytes ts) =
    ap (λ (l : List ℕ). length l) joined ∙ omega (arith, length-append (tlv_bytes t) (tlvs_bytes ts)) in
    ap tlvs_of joined ∙ one_back t (tlvs_bytes ts) (omega (arith, h, len)) ∙ ap (before t) (all_back ts (omega (arith, h, len)))

only_back : (kind : ℕ) (ts us : List Tlv) → length (tlvs_bytes ts) ≤ 520 → values kind ts ≡ us → only kind (tlvs_bytes ts) ≡ single us
unfolding only
only_back kind ts us h is = ap (only_in kind) (all_back ts h) ∙ ap single is

-- The name. -------------------------------------------------------------------------------------------------------------

taken : (b : Bool) (name : List ℕ) → headers.judged name ≡ Ok (Some name) → vouched b (Ok (Some name)) ≡ Ok (if b then Some name else None)
taken true name h = h
taken false name h = refl

in_ssl_is : (value : List ℕ) → 5 ≤ length value → name_in_ssl value ≡ vouched (is_vouched value) (only 0x22 (drop 5 value))
unfolding name_in_ssl
in_ssl_is value h =
    ap (λ (b : Bool). if b then Err fault.Malformed else vouched (is_vouched value) (only 0x22 (drop 5 value))) (le-ltb (length value) 5 h)

in_ssl : (ts : List Tlv) (client verify : ℕ) (name : List ℕ) (n : AreNamed ts client verify name) → name_in_ssl (ssl_bytes client verify n.subs) ≡ Ok (certified client verify name)
in_ssl ts client verify name n =
    let value = ssl_bytes client verify n.subs in
    let cn : only 0x22 (tlvs_bytes n.subs) ≡ Ok (Some name) = only_back 0x22 n.subs (tlv 0x22 name ∷ []) (omega (arith, n.short)) n.cn in
    let verified : big_number 4 (drop 1 value) ≡ verify = big_number-reads_back 4 verify (tlvs_bytes n.subs) n.fits in
    in_ssl_is value (omega arith)
    ∙ ap (λ (r : Result (Option (List ℕ)) ProxyFault). vouched (is_vouched value) r) cn
    ∙ ap (λ (v : ℕ). vouched (has_certificate client && eqb v 0) (Ok (Some name))) verified
    ∙ taken (has_certificate client && eqb verify 0) name (as_text name n.some n.most n.text)

-- the name by the TLVs of a header
abbrev pub by_tlvs : List Tlv → Result (Option (List ℕ)) ProxyFault
by_tlvs ts = name_by (only 0x20 (tlvs_bytes ts))

pub named : (ts : List Tlv) (client verify : ℕ) (name : List ℕ) → length (tlvs_bytes ts) ≤ 520 → AreNamed ts client verify name → by_tlvs ts ≡ Ok (certified client verify name)
named ts client verify name h n =
    ap name_by (only_back 0x20 ts (tlv 0x20 (ssl_bytes client verify n.subs) ∷ []) h n.ssl) ∙ in_ssl ts client verify name n

pub unnamed : (ts : List Tlv) → length (tlvs_bytes ts) ≤ 520 → values 0x20 ts ≡ [] → by_tlvs ts ≡ Ok None
unnamed ts h n = ap name_by (only_back 0x20 ts [] h n)

-- The addresses. --------------------------------------------------------------------------------------------------------

ends_len : (n : ℕ) (e : Ends) → AreEnds n e → length (ends_bytes e) ≡ n + n + 4
ends_len n e a =
    let ports = big_bytes 2 e.port ++ big_bytes 2 e.to in
    omega (arith, a.source, a.destination, length-append e.source (e.destination ++ ports), length-append e.destination ports)

source_at : (n : ℕ) (e : Ends) (more : List ℕ) → AreEnds n e → take n (ends_bytes e ++ more) ≡ e.source
source_at n e more a =
    let rest = e.destination ++ (big_bytes 2 e.port ++ big_bytes 2 e.to) in
    ap (λ (l : List ℕ). take n l) (append_assoc e.source rest more) ∙ take_at e.source (rest ++ more) n a.source

port_at : (n : ℕ) (e : Ends) (more : List ℕ) → AreEnds n e → big_number 2 (drop (n + n) (ends_bytes e ++ more)) ≡ e.port
port_at n e more a =
    let ports = big_bytes 2 e.port ++ big_bytes 2 e.to in
    let both : length (e.source ++ e.destination) ≡ n + n = omega (arith, a.source, a.destination, length-append e.source e.destination) in
    let parts : ends_bytes e ++ more ≡ (e.source ++ e.destination) ++ (ports ++ more) =
    ap (λ (l : List ℕ). l ++ more) (sym (append_assoc e.source e.destination ports)) ∙ append_assoc (e.source ++ e.destination) ports more in
    ap (λ (l : List ℕ). big_number 2 (drop (n + n) l)) parts
    ∙ ap (big_number 2) (drop_at (e.source ++ e.destination) (ports ++ more) (n + n) both)
    ∙ big_number-reads_back 2 e.port (big_bytes 2 e.to ++ more) (omega (arith, a.port))

-- what a header says of which the addresses are those of its family
behind_is : (family len : ℕ) (addresses more : List ℕ) → addresses_len family ≡ len → length addresses ≡ len → name_behind family (addresses ++ more) ≡ name_by (only 0x20 more)
behind_is family len addresses more is long =
    ap (λ (n : ℕ). if nat_lt (length (addresses ++ more)) n then Err fault.Malformed else name_by (only 0x20 (drop n (addresses ++ more)))) is
    ∙ ap (λ (b : Bool). if b then Err fault.Malformed else name_by (only 0x20 (drop len (addresses ++ more)))) (le-ltb (length (addresses ++ more)) len (omega (arith, long, length-append addresses more)))
    ∙ ap (λ (l : List ℕ). name_by (only 0x20 l)) (drop_at addresses more len long)

name_is : (family : ℕ) (body : List ℕ) → name_of (header_bytes 1 family body) ≡ name_behind family body
unfolding name_of
name_is family body = refl

source_is : (family : ℕ) (body : List ℕ) → source_of (header_bytes 1 family body) ≡ source_in family body
unfolding source_of
source_is family body = refl

four_in : (body : List ℕ) → 12 ≤ length body → source_in 0x11 body ≡ Some (Four (take 4 body) (big_number 2 (drop 8 body)))
four_in body h = ap (λ (b : Bool). if b then None else Some (Four (take 4 body) (big_number 2 (drop 8 body)))) (le-ltb (length body) 12 h)

six_in : (body : List ℕ) → 36 ≤ length body → source_in 0x21 body ≡ Some (Six (take 16 body) (big_number 2 (drop 32 body)))
six_in body h = ap (λ (b : Bool). if b then None else Some (Six (take 16 body) (big_number 2 (drop 32 body)))) (le-ltb (length body) 36 h)

pub four : (e : Ends) (ts : List Tlv) (name : Option (List ℕ)) (behind : List ℕ) → AreEnds 4 e → length (tlvs_bytes ts) ≤ 508 → by_tlvs ts ≡ Ok name
    → passage (connection_bytes 0x11 e ts ++ behind) ≡ did (Passed (saying (Some (Four e.source e.port)) name)) behind
four e ts name behind a h is =
    let body = ends_bytes e ++ tlvs_bytes ts in
    let header = connection_bytes 0x11 e ts in
    let len = ends_len 4 e a in
    let all = length-append (ends_bytes e) (tlvs_bytes ts) in
    let source : source_of header ≡ Some (Four e.source e.port) = source_is 0x11 body ∙ four_in body (omega (arith, len, all))
    ∙ ap (λ (l : List ℕ). Some (Four l (big_number 2 (drop 8 body)))) (source_at 4 e (tlvs_bytes ts) a)
    ∙ ap (λ (p : ℕ). Some (Four e.source p)) (port_at 4 e (tlvs_bytes ts) a) in
    written 1 0x11 body behind refl (omega arith) (omega (arith, len, all, h))
    ∙ ap (λ (r : Result (Option (List ℕ)) ProxyFault). by_name header r behind) (name_is 0x11 body ∙ behind_is 0x11 12 (ends_bytes e) (tlvs_bytes ts) refl len ∙ is)
    ∙ ap (λ (s : Option Source). did (Passed (saying s name)) behind) source

pub six : (e : Ends) (ts : List Tlv) (name : Option (List ℕ)) (behind : List ℕ) → AreEnds 16 e → length (tlvs_bytes ts) ≤ 484 → by_tlvs ts ≡ Ok name
    → passage (connection_bytes 0x21 e ts ++ behind) ≡ did (Passed (saying (Some (Six e.source e.port)) name)) behind
six e ts name behind a h is =
    let body = ends_bytes e ++ tlvs_bytes ts in
    let header = connection_bytes 0x21 e ts in
    let len = ends_len 16 e a in
    let all = length-append (ends_bytes e) (tlvs_bytes ts) in
    let source : source_of header ≡ Some (Six e.source e.port) = source_is 0x21 body ∙ six_in body (omega (arith, len, all))
    ∙ ap (λ (l : List ℕ). Some (Six l (big_number 2 (drop 32 body)))) (source_at 16 e (tlvs_bytes ts) a)
    ∙ ap (λ (p : ℕ). Some (Six e.source p)) (port_at 16 e (tlvs_bytes ts) a) in
    written 1 0x21 body behind refl (omega arith) (omega (arith, len, all, h))
    ∙ ap (λ (r : Result (Option (List ℕ)) ProxyFault). by_name header r behind) (name_is 0x21 body ∙ behind_is 0x21 36 (ends_bytes e) (tlvs_bytes ts) refl len ∙ is)
    ∙ ap (λ (s : Option Source). did (Passed (saying s name)) behind) source
