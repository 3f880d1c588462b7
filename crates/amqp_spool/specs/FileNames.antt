-- The names of the files in the directory of a spool.
use Rattle.std.specs.Prelude.{ℕ, List, ◌++◌, codes}
use Rattle.amqp_spool.specs.declared.dir_names.FileName.{FileName}
use Rattle.amqp_spool.specs.declared.dir_names.FileName.TheVariants as name
use Rattle.amqp_spool.specs.Digits.{last_digits}

-- a segment: the number of its first record in 20 digits
abbrev pub segment_name : ℕ → List ℕ
segment_name first = last_digits 20 first ++ codes ".seg"

-- the position of a consumer
abbrev pub position_name : List ℕ → List ℕ
position_name consumer = consumer ++ codes ".at"

abbrev pub file_name : FileName → List ℕ
file_name name.Dir = codes "."
file_name name.Parent = codes ".."
file_name name.Lock = codes "lock"
file_name name.NextTmp = codes "next.tmp"
file_name (name.Segment first) = segment_name first
file_name name.FloorTmp = codes "floor.tmp"
file_name name.Floor = codes "floor"
file_name name.End = codes "end"
file_name name.Reserve = codes "reserve"
file_name name.Consumers = codes "consumers.lock"
file_name name.Position = codes "*.at"
file_name name.PositionTmp = codes "*.at.tmp"
file_name name.PositionLock = codes "*.at.lock"
