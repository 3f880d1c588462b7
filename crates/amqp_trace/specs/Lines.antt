-- The lines of a trace.
use Rattle.std.specs.Prelude.{◌≡◌, ℕ, ◌≤◌, Bool, true, false, List, [], ◌∷◌, ◌++◌, length, Option, All}
use Rattle.std.specs.Io.KnownBytes.{Appends}

-- from a space to a tilde
abbrev pub IsPrintable : ℕ → Type 0
IsPrintable byte = (32 ≤ byte) × (byte ≤ 126)

-- what was put into a line, and whether some of it found no room
pub record Line : Type 0 where
  pub text : List ℕ
  pub is_cut : Bool

-- what follows the text: a newline, after two dots if the line was cut
abbrev pub end_of : Bool → List ℕ
end_of true = 46 ∷ 46 ∷ 10 ∷ []
end_of false = 10 ∷ []

-- a line as it is written
pub record IsLine (bytes : List ℕ) : Type 0 where
  pub line : Line
  pub whole : bytes ≡ line.text ++ end_of line.is_cut
  pub printable : All IsPrintable line.text
  pub within : length line.text ≤ 4096

-- a line was written
abbrev pub PutsLine : Option (List ℕ) → Option (List ℕ) → Type 0
PutsLine old now = (bytes : List ℕ) × IsLine bytes × Appends old now bytes
