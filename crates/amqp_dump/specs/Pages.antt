-- The lines that wait in a buffer, and the beginning of the next one after them.
use Rattle.std.specs.Prelude.{◌≡◌, ℕ, Bool, List, [], ◌∷◌, ◌++◌}
use Rattle.amqp_dump.specs.Entries.{Entry}

-- whole lines, what was put after them, and whether memory was refused for some of that
pub record Page : Type 0 where
  pub whole : List ℕ
  pub begun : List ℕ
  pub lacks : Bool

-- a line for an entry: text, and then a newline
pub record IsLineOf (entry : Entry) (line : List ℕ) : Type 0 where
  pub text : List ℕ
  pub whole : line ≡ text ++ 10 ∷ []

-- the line of an entry was put after those that wait, and no other is begun
pub record PutsLine (entry : Entry) (old now : Page) : Type 0 where
  pub line : List ℕ
  pub is : IsLineOf entry line
  pub joined : now.whole ≡ old.whole ++ line
  pub ended : now.begun ≡ []
