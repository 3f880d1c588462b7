-- Marks: numbers computed from bytes, by which keys of a map are told apart while it is checked.
use Rattle.std.specs.Prelude.{◌≡◌, ℕ, ◌+◌, ◌*◌, ◌%◌, ◌^◌, Bool, true, nat_eq, List, [], ◌∷◌, drop}
use Rattle.std.specs.List.{list_any}
use Rattle.amqp_types.specs.Decoding.{is_among}

-- the mark is a polynomial in this large odd number, modulo 2^64
abbrev pub factor : ℕ
factor = 0x9e3779b97f4a7c15

unfoldable pub marked : ℕ → List ℕ → ℕ
marked mark [] = mark
marked mark (byte ∷ bytes) = marked ((mark * factor % 2 ^ 64 + byte) % 2 ^ 64) bytes

abbrev pub mark_of : List ℕ → ℕ
mark_of bytes = marked 0 bytes * factor % 2 ^ 64

-- the mark of an image: of the bytes after its kind and length, or of the last eight bytes of a number
abbrev pub image_mark : List ℕ → ℕ
image_mark image = mark_of (drop 10 image)

-- whether the mark is among these
abbrev pub is_marked : ℕ → List ℕ → Bool
is_marked mark marks = list_any (λ other. nat_eq other mark) marks

-- the marks of these images are among the marks
abbrev pub AreMarkedBy : List ℕ → List (List ℕ) → Type 0
AreMarkedBy marks images = (octets : List ℕ) → is_among octets images ≡ true → is_marked (image_mark octets) marks ≡ true
