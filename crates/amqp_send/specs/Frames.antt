-- The frames of a sender hold what their fields may hold, so they are read as they were written. [2.7]
use Rattle.std.specs.Prelude.{ℕ, ◌^◌, ◌<◌, ◌≤◌, List, length, Option, Some, None}
use Rattle.amqp_types.specs.declared.kind.Kind.TheVariants as kind
use Rattle.amqp_types.specs.Canonical.{IsRanged}
use Rattle.amqp_types.specs.Trees.{Octets}
use Rattle.amqp_send.specs.Sendings.{SendTerms, frame, open_said, begin_said, attach_said}

abbrev pub IsSmall : Option ℕ → Type 0
IsSmall None = Unit {0}
IsSmall (Some n) = n < 2 ^ 32

-- the bytes of a text [1.6.20]
abbrev pub IsText : List ℕ → Type 0
IsText bytes = IsRanged (Octets kind.String bytes)

-- the frames of the opening fit each receiver, whatever it accepts [2.7.1]
pub record IsOpening (terms : SendTerms) : Type 0 where
  pub first : length (frame (open_said terms.container_id)) ≤ 512
  pub second : length (frame begin_said) ≤ 512
  pub third : length (frame (attach_said terms.name)) ≤ 512
