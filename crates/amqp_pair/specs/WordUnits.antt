-- The words of a sender are units of the stream to its receiver. [2.3.1]
use Rattle.std.specs.Prelude.{◌≡◌, ℕ, ◌^◌, ◌<◌, ◌≤◌, List, ◌++◌, map}
use Rattle.amqp_frame.specs.Units.{StreamUnit, AreUnits, due_behind}
use Rattle.amqp_frame.specs.declared.units.Stage.{Stage}
use Rattle.amqp_frame.specs.declared.units.Stage.TheVariants.{Frames}
use Rattle.amqp_pair.specs.Words.{Word, AreRight, unit_in}

-- words that are no longer than a receiver accepts, after units that frames may follow
abbrev pub WordUnitsLaw : Type 0
WordUnitsLaw = (limit most : ℕ) (stage : Stage) (us : List StreamUnit) (words : List Word) → most ≤ limit → most < 2 ^ 32 → AreRight most words → AreUnits limit stage us → due_behind stage us ≡ Frames
    → AreUnits limit stage (us ++ map unit_in words)
