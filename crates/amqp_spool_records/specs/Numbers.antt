-- Numbers that are missing.
use Rattle.std.specs.Prelude.{ℕ, List, ◌++◌, codes, decimal}
use Rattle.amqp_spool_records.specs.declared.numbers.Missing.{Missing}

-- `gap A to B`, a line
abbrev pub gap_text : Missing → List ℕ
gap_text missing = codes "gap " ++ (decimal missing.from ++ (codes " to " ++ (decimal missing.to ++ codes "\n")))
