-- The state of a connection whose session has begun and has no link yet, and what the sender's attach makes of it. [2.6.2, 2.6.3, 2.7.3]
use Rattle.std.specs.Prelude.{◌≡◌, ℕ, ◌^◌, ◌<◌, ◌≤◌, List, [], ◌∷◌, length, None}
use Rattle.amqp_frame.specs.Units.{FrameUnit}
use Rattle.amqp_perform.specs.Said.{said_frame}
use Rattle.amqp_link.specs.Links.{link_begins}
use Rattle.amqp_session.specs.declared.slot.Slot.{Slot}
use Rattle.amqp_session.specs.declared.slot.Slot.TheVariants.{Free, Live}
use Rattle.amqp_session.specs.Faults.{attached}
use Rattle.amqp_session.specs.Frames.{Attaches, attach_said}
use Rattle.amqp_session.specs.Sessions.{LiveLink, SessionState, LinkAttached}
use Rattle.amqp_endpoint.specs.Connections.{ConnectionState, InSession, connection_after}
use Rattle.amqp_endpoint.specs.Lines.{SessionFrame, event_on, told_on}
use Rattle.amqp_endpoint.specs.Replies.{on_channel, spoken_on}
use Rattle.amqp_endpoint.specs.Traces.{failure_in}
use Rattle.amqp_pair.specs.Reading.{IsOpened, attaching_of}
use Rattle.amqp_pair.specs.Stands.{AreFree, Stands}
use Rattle.amqp_pair.specs.World.{World}

-- A session lives on channel 0, and it has one handle, which is free.
pub record HasBegun (s : ConnectionState) (w : World) : Type 0 where
  pub opened : IsOpened s
  pub session : SessionState
  pub others : List (Slot SessionState)
  pub sessions : s.sessions ≡ Live session ∷ others
  pub frees : List (Slot LiveLink)
  pub links : session.links ≡ Free ∷ frees
  pub free : AreFree frees
  pub size : session.terms.max_frame_size ≡ 4096
  pub places : session.window ≡ w.places
  pub next : session.next_incoming_id ≡ w.next

-- the link of the message level is new
abbrev pub IsNew : ConnectionState → World → List ℕ → Type 0
IsNew s w name = w.link ≡ link_begins (record { initial_delivery_count = 0; rcv_settle_mode = (attaching_of s.config name).rcv_settle_mode; bounds = (attaching_of s.config name).bounds })

-- The sender's attach comes: it is answered, and its link lives.
pub record IsAttachedBy (s : ConnectionState) (t : SessionState) (w : World) (name : List ℕ) : Type 0 where
  pub event : event_on s (SessionFrame 0 t (Attaches (attaching_of s.config name))) ≡ InSession 0 (LinkAttached 0 (attached t.terms (attaching_of s.config name)))
  pub told : failure_in (told_on s (SessionFrame 0 t (Attaches (attaching_of s.config name)))) ≡ None
  pub reply : spoken_on s (SessionFrame 0 t (Attaches (attaching_of s.config name))) ≡ on_channel 0 (attach_said (attaching_of s.config name).bounds.max_message_size (attaching_of s.config name) ∷ [])
  pub stands : Stands (connection_after s (InSession 0 (LinkAttached 0 (attached t.terms (attaching_of s.config name))))) w

-- The answer is no longer than the sender's frames.
abbrev pub AttachedLaw : Type 0
AttachedLaw = (s : ConnectionState) (w : World) (name : List ℕ) → (b : HasBegun s w) → IsNew s w name → w.next < 2 ^ 32
    → length (said_frame 0 (attach_said (attaching_of s.config name).bounds.max_message_size (attaching_of s.config name)) []) ≤ 4096 → IsAttachedBy s b.session w name
