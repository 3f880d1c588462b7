-- What a call reads that may be refused memory.
use Rattle.std.specs.Prelude.{◌≡◌, ℕ, Result, Ok, Err, ⊤}
use Rattle.amqp_addresses.specs.declared.faults.LineFault.{LineFault}
use Rattle.amqp_addresses.specs.declared.faults.ReadFault.{ReadFault}
use Rattle.amqp_addresses.specs.declared.faults.ReadFault.TheVariants as read
use Rattle.amqp_addresses.specs.declared.faults.AddressesFault.{AddressesFault}
use Rattle.amqp_addresses.specs.declared.faults.AddressesFault.TheVariants as fault

-- it gives what there is, seen so, or its fault, unless memory was refused
abbrev pub Gives : {A B : Type 0} → (A → B) → Result A ReadFault → Result B LineFault → Type 0
Gives view (Ok x) there = there ≡ Ok (view x)
Gives view (Err read.NoMemory) there = ⊤
Gives view (Err (read.Bad f)) there = there ≡ Err f

-- the fault of the line with this number
abbrev pub at_line : ℕ → ReadFault → AddressesFault
at_line n read.NoMemory = fault.NoMemory
at_line n (read.Bad f) = fault.Line n f
