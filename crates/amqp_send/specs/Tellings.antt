-- What the units of the receiver's bytes tell a sender. [2.2, 2.7]
use Rattle.std.specs.Prelude.{ℕ, ◌≤◌, ◌==◌, Bool, true, false, if◌then◌else◌, List, [], ◌∷◌, Option, Some, None, unwrap_or}
use Rattle.amqp_frame.specs.Units.{StreamUnit, HeaderUnit, FrameUnit, FaultUnit, body_of, due_after}
use Rattle.amqp_frame.specs.declared.units.Stage.{Stage}
use Rattle.amqp_frame.specs.declared.units.Stage.TheVariants.{Header, Frames, Refused, Faulty}
use Rattle.amqp_perform.specs.declared.descriptor.Descriptor.{Descriptor}
use Rattle.amqp_perform.specs.declared.descriptor.Descriptor.TheVariants as of_type
use Rattle.amqp_perform.specs.declared.outcome.Outcome.{Outcome}
use Rattle.amqp_perform.specs.Cells.{Cell, Absent, number_in, whole_in, flag_in, span_in}
use Rattle.amqp_perform.specs.Conditions.{condition_of}
use Rattle.amqp_perform.specs.Outcomes.{outcome_of}
use Rattle.amqp_perform.specs.BodyReading.{body_at}
use Rattle.amqp_send.specs.declared.telling.Telling.{Telling}
use Rattle.amqp_send.specs.declared.telling.Telling.TheVariants.{Nothing, Opened, Begun, Flowed, Disposed, Left, Closed, Unread}

-- a field is there
abbrev pub is_there : Cell → Bool
is_there Absent = false
is_there _ = true

-- What a performative tells. ------------------------------------------------------------------------------------------

-- [2.7.1]
abbrev pub open_told : List Cell → Telling
open_told (container ∷ hostname ∷ max_frame_size ∷ rest) = Opened (whole_in max_frame_size)
open_told _ = Nothing

-- [2.7.2]
abbrev pub begin_told : List Cell → Telling
begin_told (remote_channel ∷ next_outgoing_id ∷ incoming_window ∷ rest) = Begun (whole_in next_outgoing_id) (whole_in incoming_window)
begin_told _ = Nothing

-- a flow with a handle is of the link [2.7.4]
abbrev pub flow_told : List Cell → Telling
flow_told (next ∷ window ∷ outgoing ∷ outgoing_window ∷ handle ∷ count ∷ credit ∷ available ∷ drain ∷ echo ∷ rest) =
    Flowed (record {
      next_incoming_id = whole_in next;
      incoming_window = whole_in window;
      of_link = is_there handle;
      delivery_count = whole_in count;
      link_credit = whole_in credit;
      drain = flag_in drain;
      echo = flag_in echo;
    })
flow_told _ = Nothing

-- a disposition of the receiver that has an outcome or settles [2.7.6]
abbrev pub disposed : ℕ → ℕ → Bool → Option Outcome → Telling
disposed first last settled (Some outcome) = Disposed first last (Some outcome)
disposed first last settled None = if settled then Disposed first last None else Nothing

abbrev pub disposition_told : List Cell → Telling
disposition_told (role ∷ first ∷ last ∷ settled ∷ state ∷ rest) =
    if flag_in role then disposed (whole_in first) (unwrap_or (number_in last) (whole_in first)) (flag_in settled) (outcome_of (span_in state)) else Nothing
disposition_told _ = Nothing

-- [2.7.7]
abbrev pub detach_told : List Cell → Telling
detach_told (handle ∷ closed ∷ error ∷ rest) = Left (condition_of (span_in error))
detach_told _ = Nothing

-- [2.7.8]
abbrev pub end_told : List Cell → Telling
end_told (error ∷ rest) = Left (condition_of (span_in error))
end_told _ = Nothing

-- [2.7.9]
abbrev pub close_told : List Cell → Telling
close_told (error ∷ rest) = Closed (condition_of (span_in error))
close_told _ = Nothing

abbrev pub performative_told : Descriptor → List Cell → Telling
performative_told of_type.Open cells = open_told cells
performative_told of_type.Begin cells = begin_told cells
performative_told of_type.Flow cells = flow_told cells
performative_told of_type.Disposition cells = disposition_told cells
performative_told of_type.Detach cells = detach_told cells
performative_told of_type.End cells = end_told cells
performative_told of_type.Close cells = close_told cells
performative_told _ cells = Nothing

-- What a unit tells. --------------------------------------------------------------------------------------------------

abbrev pub told_read : Option (Descriptor × List Cell × List ℕ) → Telling
told_read None = Unread
told_read (Some x) = performative_told x.0 x.1

-- a frame without a body tells nothing [2.4.5]
abbrev pub told_in : List ℕ → Telling
told_in [] = Nothing
told_in (b ∷ bytes) = told_read (body_at (b ∷ bytes))

abbrev pub told_at : Stage → Telling
told_at Frames = Nothing
told_at Header = Unread
told_at Refused = Unread
told_at (Faulty fault) = Unread

-- the acceptable header tells nothing [2.2]
abbrev pub told_of : StreamUnit → Telling
told_of (HeaderUnit bytes) = told_at (due_after (HeaderUnit bytes))
told_of (FrameUnit bytes) = told_in (body_of bytes)
told_of (FaultUnit fault bytes) = Unread

-- a max-frame-size that is told is at least 512 [2.7.1]
abbrev pub IsLawful : Telling → Type 0
IsLawful (Opened n) = 512 ≤ n
IsLawful Nothing = Unit {0}
IsLawful (Begun next incoming_window) = Unit {0}
IsLawful (Flowed l) = Unit {0}
IsLawful (Disposed first last outcome) = Unit {0}
IsLawful (Left c) = Unit {0}
IsLawful (Closed c) = Unit {0}
IsLawful Unread = Unit {0}
