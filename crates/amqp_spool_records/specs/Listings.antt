-- What a list tells.
use Rattle.std.specs.Prelude.{ℕ, List, codes, decimal, Option, Some, None}

-- a number; `none` if it is not known
abbrev pub number_text : Option ℕ → List ℕ
number_text (Some number) = decimal number
number_text None = codes "none"
