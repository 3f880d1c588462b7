-- What a sender wrote, as units of a stream, and how the units of one end are those of the other. [2.2, 2.3, 2.7]
use Rattle.std.specs.Prelude.{◌≡◌, ℕ, ◌%◌, ◌^◌, ◌≤◌, Bool, true, false, List, [], ◌∷◌, ◌++◌, map}
use Rattle.std.specs.List.{flat_map}
use Rattle.amqp_frame.specs.Splits.{SplitterState}
use Rattle.amqp_frame.specs.Units.{StreamUnit, HeaderUnit, FrameUnit, bytes_of, AreUnits}
use Rattle.amqp_frame.specs.declared.units.Stage.{Stage}
use Rattle.amqp_frame.specs.declared.units.TheConstants.{HEADER}
use Rattle.amqp_perform.specs.Said.{Said, said_frame}
use Rattle.amqp_send.specs.declared.flow_state.FlowState.{FlowState}
use Rattle.amqp_send.specs.declared.telling.Telling.{Telling}
use Rattle.amqp_send.specs.declared.telling.Telling.TheVariants.{Flowed}
use Rattle.amqp_send.specs.Histories.{Deed, Greeted, Heard, Took, Wrote, Ceased, Gave, pieces, heads, goes_on, flow_of, drains}
use Rattle.amqp_send.specs.Sendings.{SendTerms, opening, flow_said, transfer_said, close_said}

-- The sender's units. -------------------------------------------------------------------------------------------------

-- a frame on channel 0
abbrev pub frame_unit : Said → List ℕ → StreamUnit
frame_unit s payload = FrameUnit (said_frame 0 s payload)

-- what answers a flow
abbrev pub answer_units : Bool → Bool → FlowState → List StreamUnit
answer_units true echo f = frame_unit (flow_said f true) [] ∷ []
answer_units false true f = frame_unit (flow_said f false) [] ∷ []
answer_units false false f = []

abbrev pub heard_units : Telling → List Deed → List StreamUnit
heard_units (Flowed l) h = answer_units (drains l h) l.echo (flow_of (Heard (Flowed l) ∷ h))
heard_units t h = []

-- all that a sender with this history wrote, unit by unit
abbrev pub spoken : SendTerms → List Deed → List StreamUnit
spoken terms [] = HeaderUnit HEADER ∷ []
spoken terms (Greeted ∷ h) = spoken terms h ++ map (λ s. frame_unit s []) (opening terms)
spoken terms (Heard t ∷ h) = spoken terms h ++ heard_units t h
spoken terms (Took m ∷ h) = spoken terms h
spoken terms (Wrote p ∷ h) = spoken terms h ++ frame_unit (transfer_said (heads (pieces h) % 2 ^ 32) (goes_on (pieces h)) p.more) p.payload ∷ []
spoken terms (Ceased ∷ h) = spoken terms h ++ frame_unit close_said [] ∷ []
spoken terms (Gave bytes ∷ h) = spoken terms h

-- On their way. -------------------------------------------------------------------------------------------------------

-- The units that one end wrote begin with those that the other end acted upon. The remaining units are what the other end holds and has not acted upon, and what
-- lies before it.
abbrev pub FrontLaw : Type 0
FrontLaw = (max : ℕ) (stage : Stage) (us vs : List StreamUnit) (on_way : List ℕ) → 8 ≤ max → AreUnits max stage us → AreUnits max stage vs
    → flat_map bytes_of us ++ on_way ≡ flat_map bytes_of vs → (later : List StreamUnit) × (vs ≡ us ++ later) × (on_way ≡ flat_map bytes_of later)

-- What a splitter holds, what lies in the pipe to it and what the other end has not moved out are these units, joined.
pub record IsOnWay (s : SplitterState) (pipe unsent : List ℕ) (way : List StreamUnit) : Type 0 where
  pub joined : s.filled ++ (pipe ++ unsent) ≡ flat_map bytes_of way
  pub each : AreUnits s.limit s.stage way
