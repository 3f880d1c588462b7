-- Where the reading of a segment stops.
use Rattle.std.specs.Prelude.{ℕ, nat_lt, if◌then◌else◌, Bool, true, Option, Some, None}
use Rattle.amqp_spool_records.specs.declared.batches.Stop.{Stop}
use Rattle.amqp_spool_records.specs.declared.batches.Stop.TheVariants as stop
use Rattle.amqp_spool_records.specs.declared.extents.Extent.{Extent}

-- The record of this number may be there: the bytes are counted, or it comes before the next one.
abbrev pub may_be : (bytes next : Option ℕ) → ℕ → Bool
may_be (Some bytes) next number = true
may_be None None number = true
may_be None (Some next) number = nat_lt number next

-- No whole batch begins at this place: it breaks off, if the bytes are counted.
abbrev pub stop_of : (bytes : Option ℕ) → (place number : ℕ) → Stop
stop_of (Some bytes) place number = stop.Broken place number
stop_of None place number = stop.End

-- All was read: it breaks off too, if the record before the next one has not come.
abbrev pub end_of : (bytes next : Option ℕ) → (place number : ℕ) → Stop
end_of bytes None place number = stop.End
end_of bytes (Some next) place number = if nat_lt number next then stop_of bytes place number else stop.End

-- of a segment that counts so far
abbrev pub may_have : Extent → ℕ → Bool
may_have extent number = may_be extent.bytes extent.next number

abbrev pub stop_at : Extent → (place number : ℕ) → Stop
stop_at extent place number = stop_of extent.bytes place number

abbrev pub end_at : Extent → (place number : ℕ) → Stop
end_at extent place number = end_of extent.bytes extent.next place number
