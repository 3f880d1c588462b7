-- What the bytes of a peer begin with: a header, and a frame of the SASL layer. [2.2, 5.3, 5.3.1]
use Rattle.std.specs.Prelude.{ℕ, ◌*◌, ◌+◌, ◌==◌, ◌&&◌, ◌||◌, not, nat_lt, if◌then◌else◌, List, ◌∷◌, ◌++◌, length, take}
use Rattle.std.specs.Str.{bytes_eq}
use Rattle.byteorder.specs.Endian.{big_bytes}
use Rattle.amqp_frame.specs.Units.{size_of, offset_of, type_of}
use Rattle.amqp_sasl.specs.declared.frame.Progress.{Progress}
use Rattle.amqp_sasl.specs.declared.frame.Progress.TheVariants as progress
use Rattle.amqp_sasl.specs.declared.header.Opening.{Opening}
use Rattle.amqp_sasl.specs.declared.header.Opening.TheVariants as opening
use Rattle.amqp_sasl.specs.declared.header.TheConstants.{SASL_HEADER, BARE_START}
use Rattle.amqp_sasl.specs.declared.offer.Offer.{Offer}

-- what the first bytes of a peer are: eight bytes are a header [2.2]
unfoldable pub opening_of : Offer → List ℕ → Opening
opening_of offer bytes =
    if nat_lt (length bytes) 8 then opening.Short
    else if bytes_eq (take 8 bytes) SASL_HEADER then opening.Secured
    else if offer.optional && bytes_eq (take 5 bytes) BARE_START then opening.Bare
    else opening.Other

-- How far the frame has come that the bytes begin with, and for which there is this room. A wrong SIZE shows at its fourth byte, a wrong
-- DOFF or TYPE at its eighth.
unfoldable pub progress_of : ℕ → List ℕ → Progress
progress_of room bytes =
    if nat_lt (length bytes) 4 then progress.Short
    else if nat_lt (size_of bytes) 8 || nat_lt room (size_of bytes) then progress.Bad
    else if nat_lt (length bytes) 8 then progress.Short
    else if nat_lt (offset_of bytes) 2 || nat_lt (size_of bytes) (4 * offset_of bytes) || not (type_of bytes == 1) then progress.Bad
    else if nat_lt (length bytes) (size_of bytes) then progress.Short
    else progress.Whole

-- a frame with this body: SIZE, a DOFF of 2, TYPE 1, and two bytes that are ignored [5.3.1]
abbrev pub framed : List ℕ → List ℕ
framed body = big_bytes 4 (8 + length body) ++ (2 ∷ 1 ∷ 0 ∷ 0 ∷ body)

-- what is kept of a peer: the frame of its `sasl-init` once it is whole, and the other bytes
pub record KeptState : Type 0 where
  pub init : List ℕ
  pub rest : List ℕ
