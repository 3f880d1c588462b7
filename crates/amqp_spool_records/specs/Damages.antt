-- What is told of a segment that is damaged.
use Rattle.std.specs.Prelude.{ℕ, ◌-◌, List, ◌++◌, codes, decimal, nat_lt, if◌then◌else◌, Option, Some, None}
use Rattle.amqp_spool.specs.FileNames.{segment_name}
use Rattle.amqp_spool_records.specs.declared.damage.Damage.{Damage}

-- which numbers are missing
abbrev pub missing_text : (from : ℕ) → Option ℕ → List ℕ
missing_text from None = decimal from ++ codes " and all after it are missing"
missing_text from (Some next) =
    if nat_lt from next then decimal from ++ (codes " to " ++ (decimal (next - 1) ++ codes " are missing")) else codes "none is missing"

-- `fault: SEGMENT PLACE Damaged, A to B are missing`, a line
abbrev pub damage_text : Damage → List ℕ
damage_text damage =
    codes "fault: " ++ (segment_name damage.first ++ (codes " " ++ (decimal damage.place
    ++ (codes " Damaged, " ++ (missing_text damage.from damage.next ++ codes "\n")))))
