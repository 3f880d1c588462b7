-- What the words of a sender do to a connection with one link, on the message level. [2.5.6, 2.6.7, 2.6.14]
use Rattle.std.specs.Prelude.{◌≡◌, ℕ, ◌^◌, ◌<◌, List, [], ◌∷◌, None}
use Rattle.amqp_session.specs.Sessions.{SessionEvent}
use Rattle.amqp_endpoint.specs.Connections.{ConnectionState, InSession, connection_after}
use Rattle.amqp_endpoint.specs.Lines.{Line, line_of, event_on, told_on}
use Rattle.amqp_endpoint.specs.Replies.{reply_on}
use Rattle.amqp_endpoint.specs.Traces.{failure_in}
use Rattle.amqp_pair.specs.Stands.{Stands}
use Rattle.amqp_pair.specs.Words.{Word, frame_in, unit_in, IsRight}
use Rattle.amqp_pair.specs.World.{World, Frame, To_end, happens, Plain, Inv}

-- A line that goes on with the session on channel 0, and leaves the connection as the message level says; it reports no failure and is not
-- answered.
pub record GoesOnAs (s : ConnectionState) (line : Line) (w : World) : Type 0 where
  pub event : SessionEvent
  pub is : event_on s line ≡ InSession 0 event
  pub stands : Stands (connection_after s (InSession 0 event)) w
  pub told : failure_in (told_on s line) ≡ None
  pub reply : reply_on s line ≡ []

-- The first word on its way is acted upon as the message level acts upon its frame.
abbrev pub ActedLaw : Type 0
ActedLaw = (s : ConnectionState) (w : World) (x : Plain) (most : ℕ) (word : Word) (q : List Frame) → most < 2 ^ 32 → Stands s w → Inv w x → w.to_end ≡ frame_in word ∷ q → IsRight most word → GoesOnAs s (line_of s (unit_in word)) (happens w To_end)
