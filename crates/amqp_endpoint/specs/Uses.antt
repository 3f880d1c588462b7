-- What an application knows of its endpoint by its calls, without a list of them: its configuration, how much credit it granted a link, and how many messages it took. (AMQP 1.0, part 2, sections
-- 2.6.7 and 2.6.14)
use Rattle.std.specs.Prelude.{◌≡◌, ℕ, suc, ◌*◌, Bool, true, ◌&&◌, nat_eq, if◌then◌else◌, List, None, length, filter, sum_by}
use Rattle.std.specs.List.{flat_map}
use Rattle.amqp_session.specs.Calls as session
use Rattle.amqp_endpoint.specs.Calls.{call_fault, has_room, writes}
use Rattle.amqp_endpoint.specs.Configs.{Configured, IsConfigured}
use Rattle.amqp_endpoint.specs.Connections.{channels}
use Rattle.amqp_endpoint.specs.Credits.{granted_by}
use Rattle.amqp_endpoint.specs.Endpoints.{IsReplay}
use Rattle.amqp_endpoint.specs.Held.{counted_most}
use Rattle.amqp_endpoint.specs.Runs.{Call, InSession, Answer, Handed}
use Rattle.amqp_endpoint.specs.Steps.{EndpointState}
use Rattle.amqp_endpoint.specs.Traces.{AreInRange, Told, Done, heard, message_in}

-- the credit that an accepted call gives the link at a handle of the session on a channel
abbrev pub granted_told : ℕ → ℕ → Told → ℕ
granted_told channel handle (Done (InSession place c) answer) = if nat_eq place channel then granted_by handle c else 0
granted_told channel handle t = 0

-- a message, with its channel and handle, is of this link
abbrev pub is_from : ℕ → ℕ → ℕ × ℕ × Handed → Bool
is_from channel handle x = nat_eq x.0 channel && nat_eq x.1 handle

-- the credit that was granted there by what was reported, over all links that followed one another at that handle
abbrev pub granted_over : ℕ → ℕ → List Told → ℕ
granted_over channel handle told = sum_by (granted_told channel handle) told

-- how many messages were taken there
abbrev pub messages_over : ℕ → ℕ → List Told → ℕ
messages_over channel handle told = length (filter (is_from channel handle) (flat_map message_in told))

-- the most that any endpoint of a configuration holds: a session on each channel, and a link at each handle of it
abbrev pub held_by_any : Configured → ℕ
held_by_any config = counted_most config (channels config) (channels config * suc config.handle_max)

-- An endpoint that some calls made of a new one with this configuration. They granted this much credit to the links that followed one another at a handle of the sessions on a channel, and took this
-- many messages from them.
pub record IsUsed (config : Configured) (channel handle granted messages : ℕ) (s : EndpointState) : Type 0 where
  pub within : IsConfigured config.container_id config.max_frame config.window
  pub calls : List Call
  pub answers : List Answer
  pub range : AreInRange calls
  pub replay : IsReplay config calls answers s
  pub credit : granted ≡ granted_over channel handle (heard calls answers)
  pub taken : messages ≡ messages_over channel handle (heard calls answers)

-- a call for the session on a channel is accepted, whatever waits to be sent, if there is room in case it writes
abbrev pub IsAccepted : EndpointState → ℕ → session.Call → Type 0
IsAccepted s channel c = (unsent : List ℕ) → (writes c ≡ true → has_room unsent ≡ true) → call_fault s.connection unsent channel c ≡ None
