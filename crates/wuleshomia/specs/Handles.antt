-- What C's sixteen bytes own.
--     handle_owns at live held     if there is an endpoint, `live` is 1 and its box is at `at`; if there is none, `live` is 0
use Prim.Native.Nat.{ℕ}
use base.Fml.{Fml, feq, fsep}
use base.Stored.{Coded}
use denote.RawPtr.{Ptr}
use Rattle.std.specs.Coded.{coded_option}
use Rattle.std.specs.declared.option.Option.{Option}
use Rattle.std.specs.declared.option.Option.TheVariants.{None, Some}
use Rattle.std.specs.Box.Ownership.{box_owns}
use Rattle.libc.specs.Heap.{chunk}
use Rattle.wuleshomia.specs.contracts.held.Held.{the_row}

abbrev pub handle_owns : Ptr → ℕ → Option the_row.Denot → Fml
handle_owns at live None = feq ℕ live 0
handle_owns at live (Some held) = fsep (feq ℕ live 1) (box_owns chunk the_row at held)

abbrev pub held_coded : Coded (Option the_row.Denot)
held_coded = coded_option the_row.coded
