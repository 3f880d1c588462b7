-- What stands in a field, seen from a performative in hand and from its cells.
use Rattle.std.proofs.Common.{◌≡◌, ℕ, Bool, true, false, List, [], ◌∷◌, Option, Some, None, refl, is_some, unwrap_or}
use Rattle.amqp_perform.specs.Performatives.{flag, span, optional_whole}
use Rattle.amqp_perform.specs.Cells.{number_in, whole_in, flag_in, span_in}
use Rattle.amqp_send.specs.Tellings.{is_there}

-- an absent number counts as 0
pub number_is : (n : Option ℕ) → whole_in (optional_whole n) ≡ unwrap_or n 0
number_is None = refl
number_is (Some n) = refl

-- a number is there where it was written
pub there_is : (n : Option ℕ) → is_there (optional_whole n) ≡ is_some n
there_is None = refl
there_is (Some n) = refl

-- and is the one that was
pub maybe_is : (n : Option ℕ) → number_in (optional_whole n) ≡ n
maybe_is None = refl
maybe_is (Some n) = refl

-- a flag is set where it was
pub set_is : (b : Bool) → flag_in (flag b) ≡ b
set_is true = refl
set_is false = refl

-- a span is read as it was written
pub span_is : (text : List ℕ) → span_in (span text) ≡ text
span_is [] = refl
span_is (b ∷ text) = refl

pub ruleset fields_are = (number_is, there_is, maybe_is, set_is, span_is)
