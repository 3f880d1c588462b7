-- The laws that the theorem of the pair rests on, in one place.
use Rattle.std.proofs.Common.{◌≡◌, ℕ, ◌≤◌, List, [], ◌++◌, length}
use Rattle.amqp_frame.specs.Units.{StreamUnit, IsUnit, bytes_of}
use Rattle.amqp_frame.specs.declared.units.Stage.{Stage}
use Rattle.amqp_perform.specs.Said.{Said, said_frame}
use Rattle.amqp_endpoint.specs.Lengths.{said_most}
use Rattle.amqp_send.specs.Frames.{IsOpening}
use Rattle.amqp_send.specs.Sendings.{SendTerms, Sending, all_written}
use Rattle.amqp_pair.specs.Acted.{ActedLaw}
use Rattle.amqp_pair.specs.Attached.{AttachedLaw}
use Rattle.amqp_pair.specs.Called.{GrantLaw, WidenLaw, DrainLaw, TakeLaw, SettleLaw}
use Rattle.amqp_pair.specs.Heard.{FlowHeardLaw, BeginHeardLaw}
use Rattle.amqp_pair.specs.Reading.{OpenLaw, BeginLaw, AttachLaw}
use Rattle.amqp_pair.specs.Replying.{OpenTells, BeginTells, AttachTells, FlowTells, LinkFlowTells, DispositionTells}
use Rattle.amqp_pair.specs.WordUnits.{WordUnitsLaw}
use Rattle.amqp_pair.specs.Words.{Writes}
use Rattle.amqp_pair.specs.World.{World, StepLaw}
use Rattle.amqp_pair.proofs.Bodies.{IsOneFrame}

pub record Below : Type 0 where
  -- no unit begins another, and each has bytes
  pub apart : (max : ℕ) (stage : Stage) (u v : StreamUnit) (a b : List ℕ) → 8 ≤ max → IsUnit max stage u → IsUnit max stage v → bytes_of u ++ a ≡ bytes_of v ++ b → (u ≡ v) × (a ≡ b)
  pub some : (max : ℕ) (stage : Stage) (u : StreamUnit) → IsUnit max stage u → 4 ≤ length (bytes_of u)
  -- frames, and how long they are
  pub frame : IsOneFrame
  pub opening : (terms : SendTerms) → length terms.container_id ≤ 255 → length terms.name ≤ 255 → IsOpening terms
  pub long : (channel : ℕ) (s : Said) → length (said_frame channel s []) ≤ said_most s
  pub words : WordUnitsLaw
  -- the sender
  pub written : (s : Sending) (w : World) → Writes s (all_written s) w
  pub flow_heard : FlowHeardLaw
  pub begin_heard : BeginHeardLaw
  pub open_tells : OpenTells
  pub begin_tells : BeginTells
  pub attach_tells : AttachTells
  pub flow_tells : FlowTells
  pub link_flow_tells : LinkFlowTells
  pub disposition_tells : DispositionTells
  -- the endpoint
  pub opens : OpenLaw
  pub begins : BeginLaw
  pub attaches : AttachLaw
  pub attached : AttachedLaw
  pub acted : ActedLaw
  pub grants : GrantLaw
  pub widens : WidenLaw
  pub drains : DrainLaw
  pub takes : TakeLaw
  pub settles : SettleLaw
  -- the message level
  pub step : StepLaw
