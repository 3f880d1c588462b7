-- Bytes that wait in memory.
use Rattle.std.specs.Prelude.{ℕ, ◌<◌, ◌+◌, List, length, vec_capacity}
use Rattle.wuleshomia.specs.declared.waiting.Gathered.{Gathered}

-- what a writer to memory holds
abbrev pub gathered : Gathered → List ℕ
gathered w = w.bytes.items

-- it has no memory for these bytes, so that they need more
abbrev pub NeedsMemory : Gathered → List ℕ → Type 0
NeedsMemory w bytes = vec_capacity w.bytes < length w.bytes.items + length bytes
