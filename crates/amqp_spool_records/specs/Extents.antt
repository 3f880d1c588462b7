-- How far a segment counts.
use Rattle.std.specs.Prelude.{ℕ, ◌==◌, ◌&&◌, nat_lt, if◌then◌else◌, Bool, true, Option, Some, None}
use Rattle.amqp_spool.specs.declared.head.Head.{Head}
use Rattle.amqp_spool.specs.declared.end.End.{End}
use Rattle.amqp_spool_records.specs.declared.extents.Extent.{Extent}

-- So many bytes count, up to the record before this one; the whole batches do, up to it; all of them do.
abbrev pub counted : (bytes next : ℕ) → Extent
counted bytes next = record { bytes = Some bytes; next = Some next }

abbrev pub whole_to : ℕ → Extent
whole_to next = record { bytes = None; next = Some next }

abbrev pub all_whole : Extent
all_whole = record { bytes = None; next = None }

-- of a segment, by the one after it
abbrev pub extent_before : (first newer : ℕ) → Option Head → Extent
extent_before first newer None = whole_to newer
extent_before first newer (Some head) = if head.before == first then counted head.counted newer else whole_to newer

-- of the newest one, by the published end
abbrev pub extent_by : (first mark : ℕ) → Option End → Extent
extent_by first mark None = all_whole
extent_by first mark (Some end) =
    if (end.first == first) && (end.mark == mark) then counted end.place end.next
    else (if nat_lt first end.first then whole_to end.first else counted 80 first)

-- of the newest one, whose head can't be read: up to the record that the published end says of it
abbrev pub extent_unread : (first : ℕ) → Option End → Extent
extent_unread first None = all_whole
extent_unread first (Some end) = if end.first == first then whole_to end.next else all_whole

-- A head that can be read has this sum.
abbrev pub may_have_mark : Option ℕ → ℕ → Bool
may_have_mark None mark = true
may_have_mark (Some own) mark = own == mark

-- of the newest one, for a reader that follows: what is published of this file, and nothing without an end that speaks of it
abbrev pub extent_followed : (first : ℕ) → (mark : Option ℕ) → Option End → Option Extent
extent_followed first mark None = None
extent_followed first mark (Some end) =
    if (end.first == first) && may_have_mark mark end.mark then Some (counted end.place end.next) else None
