-- Parts of a spelling in memory, and why a value is not written.
use Rattle.std.specs.Prelude.{◌≡◌, ◌⊎◌, ℕ, List}
use Rattle.amqp_types.specs.declared.shell.Shell.{Shell}
use Rattle.amqp_types.specs.declared.part.Part.{Part}
use Rattle.amqp_types.specs.Canonical.{Fits}
use Rattle.amqp_types.specs.Lawful.{ItemsAgree, KeysDiffer}
use Rattle.amqp_types.specs.Trees.{Tree}
use Rattle.amqp_types.specs.declared.write_fault.WriteFault.{WriteFault}
use Rattle.amqp_types.specs.declared.write_fault.WriteFault.TheVariants.{TooLong, WrongElement, DuplicateKey, NoMemory}

abbrev pub seen : Part → Shell × List ℕ
seen p = (p.shell, p.content.items)

-- what has to fit does not fit, or memory was refused
abbrev pub IsUnfit : WriteFault → Type 0 → Type 0
IsUnfit fault fits = (fault ≡ NoMemory) ⊎ ((fault ≡ TooLong) × (fits → ⊥))

-- why a value is not written: memory was refused, or the value breaks the law that the fault names
abbrev pub IsRefusedFor : WriteFault → Tree → Type 0
IsRefusedFor fault t = (fault ≡ NoMemory) ⊎ (((fault ≡ TooLong) × (Fits t → ⊥)) ⊎ (((fault ≡ WrongElement) × (ItemsAgree t → ⊥)) ⊎ ((fault ≡ DuplicateKey) × (KeysDiffer t → ⊥))))
