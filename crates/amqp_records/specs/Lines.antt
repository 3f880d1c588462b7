-- What a line says of its record.
use Rattle.std.specs.Prelude.{◌≡◌, ℕ, ◌^◌, ◌≤◌, nat_lt, nat_le, ◌&&◌, if◌then◌else◌, Bool, All, List, [], ◌∷◌, ◌++◌, length, codes, decimal, Some}
use Rattle.std.specs.List.{flat_map}
use Rattle.std.specs.Str.{chars}
use Rattle.std.specs.Char.Escape.{encode_utf16}
use Rattle.std.specs.Int.{w16, to_be_bytes}
use Rattle.hex.specs.Hex.{encode_lower}
use Rattle.serde_json.specs.Data.{Data, number, unsigned, string, depth}
use Rattle.serde_json.specs.Find.{get}
use Rattle.serde_json.specs.Read.{read, max_depth}
use Rattle.serde_json.specs.Written.{IsInOrder}
use Rattle.amqp_records.specs.Records.{channel_of, handle_of, id_of, format_of, message_of}

-- a character of ASCII that is no control
abbrev pub is_printable : ℕ → Bool
is_printable byte = nat_le 32 byte && nat_le byte 126

abbrev pub IsPrintable : ℕ → Type 0
IsPrintable byte = (32 ≤ byte) × (byte ≤ 126)

-- a byte, and a question mark for one that is not printable
abbrev pub printable_of : ℕ → ℕ
printable_of byte = if is_printable byte then byte else 63

-- `N channel=C handle=H id=I format=F size=S`
abbrev pub head_text : (n channel handle id format size : ℕ) → List ℕ
head_text n channel handle id format size =
    decimal n ++ (codes " channel=" ++ (decimal channel ++ (codes " handle=" ++ (decimal handle
    ++ (codes " id=" ++ (decimal id ++ (codes " format=" ++ (decimal format ++ (codes " size=" ++ decimal size)))))))))

-- a record's number, and the numbers that it has
abbrev pub head_of : ℕ → List ℕ → List ℕ
head_of n record_ = head_text n (channel_of record_) (handle_of record_) (id_of record_) (format_of record_) (length (message_of record_))

-- the line for people: the numbers, what is shown of the message, and one newline; all before that is printable
pub record IsTextLine (n : ℕ) (record_ line : List ℕ) : Type 0 where
  pub shown : List ℕ
  pub printable : All IsPrintable (head_of n record_ ++ shown)
  pub whole : line ≡ (head_of n record_ ++ shown) ++ 10 ∷ []

-- a number in JSON, a string if it is above 2^53
abbrev pub whole_json : ℕ → Data
whole_json n = if nat_lt (2 ^ 53) n then string (decimal n) else number (unsigned n)

-- an object has the numbers of a record
pub record HasNumbers (n channel handle id format size : ℕ) (object : Data) : Type 0 where
  pub number_is : get (codes "number") object ≡ Some (whole_json n)
  pub channel_is : get (codes "channel") object ≡ Some (number (unsigned channel))
  pub handle_is : get (codes "handle") object ≡ Some (number (unsigned handle))
  pub id_is : get (codes "id") object ≡ Some (number (unsigned id))
  pub format_is : get (codes "format") object ≡ Some (number (unsigned format))
  pub size_is : get (codes "size") object ≡ Some (number (unsigned size))

-- the escape of a unit of UTF-16, `\u` and four hex digits, and those of a character
abbrev pub unit_escape : ℕ → List ℕ
unit_escape unit = codes "\\u" ++ encode_lower (to_be_bytes w16 unit)

abbrev pub escapes_of : ℕ → List ℕ
escapes_of c = flat_map unit_escape (encode_utf16 c)

-- a character of JSON: itself if it is printable, else its escapes
abbrev pub ascii_of : ℕ → List ℕ
ascii_of c = if is_printable c then c ∷ [] else escapes_of c

-- The line for tools: the text of a JSON object, in ASCII, and one newline. It has each member once and the numbers of the record. It is
-- read back as that object, if this is at most `max_depth` deep. All before the newline is printable.
pub record IsJsonLine (n : ℕ) (record_ line : List ℕ) : Type 0 where
  pub object : Data
  pub text : List ℕ
  pub numbers : HasNumbers n (channel_of record_) (handle_of record_) (id_of record_) (format_of record_) (length (message_of record_)) object
  pub in_order : IsInOrder text object
  pub reads_back : depth object ≤ max_depth → read text ≡ Some object
  pub printable : All IsPrintable (flat_map ascii_of (chars text))
  pub whole : line ≡ flat_map ascii_of (chars text) ++ 10 ∷ []
