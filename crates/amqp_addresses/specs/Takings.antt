-- How a file is read, line by line.
use Rattle.std.specs.Prelude.{ℕ, List, [], ◌∷◌, ◌++◌, Option, Some, None, Result, Ok, Err}
use Rattle.amqp_addresses.specs.declared.faults.LineFault.{LineFault}
use Rattle.amqp_addresses.specs.Lines.{Said, line_says}
use Rattle.amqp_addresses.specs.Files.{fault_behind}

-- one more behind these, or its fault
abbrev pub put_by : List Said → Said → Option LineFault → Result (List Said) LineFault
put_by said more None = Ok (said ++ more ∷ [])
put_by said more (Some fault) = Err fault

abbrev pub put : List Said → Said → Result (List Said) LineFault
put said more = put_by said more (fault_behind said more)

abbrev pub taken_by : List Said → Result (Option Said) LineFault → Result (List Said) LineFault
taken_by said (Err fault) = Err fault
taken_by said (Ok None) = Ok said
taken_by said (Ok (Some more)) = put said more

-- one line more behind these
abbrev pub taken : ℕ → List Said → List ℕ → Result (List Said) LineFault
taken otherwise said line = taken_by said (line_says otherwise line)
