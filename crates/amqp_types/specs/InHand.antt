-- The state of a reading: the window of the bytes, and the nodes that may still be charged. The places of faults come from them.
use Rattle.std.specs.Prelude.{ℕ, ◌-◌, List, length, Option}
use Rattle.amqp_types.specs.declared.fault.ReadFault.TheVariants.{Truncated}
use Rattle.amqp_types.specs.declared.window.Window.{Window}

-- the window of the outermost bytes: what ends too soon is truncated at their end
abbrev pub outermost : List ℕ → Window
outermost bytes = record { short = Truncated (length bytes); end = length bytes }

-- where the bytes that are left begin
abbrev pub place : Window → List ℕ → ℕ
place w bytes = w.end - length bytes

-- the nodes that may still be charged; None if nodes are not counted and keys are not compared
abbrev pub Budget : Type 0
Budget = Option ℕ
