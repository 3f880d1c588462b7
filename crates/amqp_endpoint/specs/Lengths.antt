-- How long what is said may be.
use Rattle.std.specs.Prelude.{ℕ, ◌+◌, length, sum_by}
use Rattle.amqp_perform.specs.Cells.{Cell, Absent, Whole, Bytes, Span}
use Rattle.amqp_perform.specs.Said.{Said}

-- the most bytes that a field has
abbrev pub cell_most : Cell → ℕ
cell_most Absent = 1
cell_most (Whole n) = 17
cell_most (Bytes octets) = 5 + length octets
cell_most (Span text) = length text

-- the most bytes that a frame of these fields without payload has
abbrev pub said_most : Said → ℕ
said_most s = 20 + sum_by cell_most s.cells
