-- What this side writes: its header, and the canonical frames that answer a unit or state a call (AMQP 1.0, part 2, sections 2.2 and
-- 2.7).
use Rattle.std.specs.Prelude.{ℕ, if◌then◌else◌, List, [], ◌∷◌, ◌++◌, map, Option, Some, None}
use Rattle.std.specs.List.{flat_map}
use Rattle.amqp_frame.specs.declared.units.TheConstants.{HEADER}
use Rattle.amqp_types.specs.declared.kind.Kind.TheVariants as kind
use Rattle.amqp_types.specs.Canonical.{canonical}
use Rattle.amqp_types.specs.Trees.{Number}
use Rattle.amqp_perform.specs.declared.condition.Condition.{Condition}
use Rattle.amqp_perform.specs.declared.descriptor.Descriptor.TheVariants as of_type
use Rattle.amqp_perform.specs.Cells.{Cell, Absent, Whole, Bytes, Span}
use Rattle.amqp_perform.specs.Conditions.{condition_span}
use Rattle.amqp_perform.specs.Performatives.{span}
use Rattle.amqp_perform.specs.Said.{Said, said_frame}
use Rattle.amqp_session.specs.declared.terms.SessionTerms.{SessionTerms}
use Rattle.amqp_session.specs.Faults as session
use Rattle.amqp_endpoint.specs.declared.event.Scope.{Scope}
use Rattle.amqp_endpoint.specs.Configs.{Configured}
use Rattle.amqp_endpoint.specs.Connections.{ConnectionState, lesser, is_unopened}
use Rattle.amqp_endpoint.specs.Lines.{Line, HeaderAccepted, HeaderUnknown, PeerOpens, PeerCloses, PeerBegins, PeerEnds, SessionBroken, SessionFrame, fault_on, begun_terms}

-- The frames. ---------------------------------------------------------------------------------------------------------

-- an idle-time-out in its shortest encoding, if one is announced [1.6.7, 2.4.5]
abbrev pub time_out_said : Option ℕ → Cell
time_out_said None = Absent
time_out_said (Some milliseconds) = Span (canonical (Number kind.Uint milliseconds))

-- the open of this side, with the highest channel [2.7.1]
abbrev pub open_said : Configured → ℕ → Said
open_said config channel_max = record {
  type = of_type.Open;
  cells = Bytes config.container_id ∷ Absent ∷ Whole config.max_frame ∷ Whole channel_max ∷ time_out_said config.idle_time_out ∷ Absent ∷ Absent ∷ Absent ∷ Absent ∷ Absent ∷ [];
}

-- the open of a side that announces no idle-time-out
abbrev pub plain_open_said : Configured → ℕ → Said
plain_open_said config channel_max = record {
  type = of_type.Open;
  cells = Bytes config.container_id ∷ Absent ∷ Whole config.max_frame ∷ Whole channel_max ∷ Absent ∷ Absent ∷ Absent ∷ Absent ∷ Absent ∷ Absent ∷ [];
}

-- the begin that answers one of the peer: this side sends nothing [2.5.1, 2.7.2]
abbrev pub begin_said : ℕ → SessionTerms → Said
begin_said channel terms = record {
  type = of_type.Begin;
  cells = Whole channel ∷ Whole 0 ∷ Whole terms.incoming_window ∷ Whole 0 ∷ Whole terms.handle_max ∷ Absent ∷ Absent ∷ Absent ∷ [];
}

-- an end, and a close, with this error or none [2.7.8, 2.7.9]
abbrev pub end_said : List ℕ → Said
end_said error = record { type = of_type.End; cells = span error ∷ [] }

abbrev pub close_said : List ℕ → Said
close_said error = record { type = of_type.Close; cells = span error ∷ [] }

-- What is written. ----------------------------------------------------------------------------------------------------

-- a frame, and the channel that it is for
pub record Spoken : Type 0 where
  pub channel : ℕ
  pub said : Said

-- a frame on channel 0 [2.4.1]
abbrev pub aloud : Said → Spoken
aloud s = record { channel = 0; said = s }

abbrev pub on_channel : ℕ → List Said → List Spoken
on_channel channel said = map (λ s. record { channel = channel; said = s }) said

-- the canonical bytes of a frame
abbrev pub spoken_text : Spoken → List ℕ
spoken_text s = said_frame s.channel s.said []

-- a close with an error; before the peer's open came, the open of this side goes first, with channel 0 as its highest [2.4.3]
abbrev pub close_spoken : ConnectionState → Condition → List Spoken
close_spoken s c = (if is_unopened s.phase then aloud (open_said s.config 0) ∷ [] else []) ++ aloud (close_said (condition_span c)) ∷ []

abbrev pub failure_spoken : ConnectionState → Option (Scope × Condition) → List Spoken
failure_spoken s None = []
failure_spoken s (Some x) = close_spoken s x.1

-- the frames that answer what a unit results in
abbrev pub spoken_on : ConnectionState → Line → List Spoken
spoken_on s (PeerOpens o) = aloud (open_said s.config (lesser s.config.channel_max o.channel_max)) ∷ []
spoken_on s PeerCloses = aloud (close_said []) ∷ []
spoken_on s (PeerBegins channel b) = on_channel channel (begin_said channel (begun_terms s b) ∷ [])
spoken_on s (PeerEnds channel) = on_channel channel (end_said [] ∷ [])
spoken_on s (SessionBroken channel fault) = on_channel channel (end_said (condition_span (session.session_condition fault)) ∷ [])
spoken_on s (SessionFrame channel live f) = on_channel channel (session.answer_of live f)
spoken_on s line = failure_spoken s (fault_on line)

abbrev pub joined : List Spoken → List ℕ
joined said = flat_map spoken_text said

-- all bytes that answer a unit; the answer to any header is the header of this side [2.2]
abbrev pub reply_on : ConnectionState → Line → List ℕ
reply_on s HeaderAccepted = HEADER
reply_on s HeaderUnknown = HEADER
reply_on s line = joined (spoken_on s line)
