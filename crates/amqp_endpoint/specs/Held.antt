-- The bytes held by an endpoint, counted over its history, and the most that these can be.
use Rattle.std.specs.Prelude.{◌≡◌, ℕ, suc, ◌+◌, ◌*◌, ◌≤◌, nat_le, if◌then◌else◌, List, [], ◌∷◌, length, map, sum_by}
use Rattle.amqp_session.specs.declared.slot.Slot.{Slot}
use Rattle.amqp_session.specs.declared.slot.Slot.TheVariants.{Free, Live, Waits}
use Rattle.amqp_session.specs.declared.terms.SessionTerms.{SessionTerms}
use Rattle.amqp_session.specs.Laws as session
use Rattle.amqp_session.specs.Places.{Life, tabulate}
use Rattle.amqp_session.specs.Sessions.{SessionState, SessionEvent}
use Rattle.amqp_endpoint.specs.Calls.{output_size}
use Rattle.amqp_endpoint.specs.Configs.{Configured}
use Rattle.amqp_endpoint.specs.Connections.{ConnectionState, ConnectionEvent, channels, connection_bytes}
use Rattle.amqp_endpoint.specs.Histories.{part}
use Rattle.amqp_endpoint.specs.Steps.{EndpointState}

-- the bytes in the frame buffer, the output that was not moved out, and what the connection holds
abbrev pub held : EndpointState → ℕ
held s = length s.input.filled + length s.unsent + connection_bytes s.connection

-- 1 for a session that is live or waits for the peer's end
abbrev pub channel_used : Slot SessionState → ℕ
channel_used Free = 0
channel_used (Live s) = 1
channel_used Waits = 1

abbrev pub session_count : ConnectionState → ℕ
session_count s = sum_by channel_used s.sessions

-- how many links are live or wait for the peer's detach
abbrev pub channel_links : Slot SessionState → ℕ
channel_links Free = 0
channel_links (Live s) = session.used_count s
channel_links Waits = 0

abbrev pub link_count : ConnectionState → ℕ
link_count s = sum_by channel_links s.sessions

-- the most bytes held for the links of a session: for each live one what its bounds allow, and 128 for one that waits
abbrev pub channel_links_most : Slot SessionState → ℕ
channel_links_most Free = 0
channel_links_most (Live s) = sum_by session.slot_most s.links
channel_links_most Waits = 0

-- The most bytes held by an endpoint with these sessions and links: a frame, the output, 64 for each session, and for each link what its bounds
-- allow.
abbrev pub held_most : ConnectionState → ℕ
held_most s = s.config.max_frame + output_size + 64 * session_count s + sum_by channel_links_most s.sessions

-- the greatest of some numbers
abbrev pub greatest : ℕ → List ℕ → ℕ
greatest n [] = n
greatest n (m ∷ rest) = if nat_le m (greatest n rest) then greatest n rest else m

-- The most bytes held for a link of any name. Without limits it is what the configuration allows.
abbrev pub any_link_most : Configured → ℕ
any_link_most config = greatest (session.link_most config.bounds) (map (λ r. session.link_most r.bounds) config.limits)

-- the most bytes held by any endpoint with this many sessions and links
abbrev pub counted_most : Configured → ℕ → ℕ → ℕ
counted_most config sessions links = config.max_frame + output_size + 64 * sessions + links * any_link_most config

-- the parts of all channels
abbrev pub session_parts : Configured → List ConnectionEvent → List (Slot (Life SessionTerms SessionEvent))
session_parts config h = tabulate 0 (channels config) (λ channel. part channel h)

-- the bytes held for a part
abbrev pub session_part_bytes : Slot (Life SessionTerms SessionEvent) → ℕ
session_part_bytes Free = 0
session_part_bytes (Live l) = 64 + sum_by session.part_bytes (session.parts l.0 l.1)
session_part_bytes Waits = 64

-- The bytes held by an endpoint with this history of its connection are counted, and bounded by its configuration.
pub record HoldsWithin (config : Configured) (h : List ConnectionEvent) (s : EndpointState) : Type 0 where
  -- held are the bytes in the buffer, those in the output, and those of the parts of the history
  pub counted : held s ≡ length s.input.filled + length s.unsent + sum_by session_part_bytes (session_parts config h)
  -- the buffer holds at most the longest frame
  pub buffer : length s.input.filled ≤ config.max_frame
  -- the output holds at most 8192 bytes
  pub output : length s.unsent ≤ output_size
  -- all that is held is at most what these sessions and links may hold
  pub most : held s ≤ held_most s.connection
  -- that is at most what as many sessions and links of any names may hold
  pub by_count : held_most s.connection ≤ counted_most config (session_count s.connection) (link_count s.connection)
  -- there is at most a session for each channel that is offered
  pub sessions : session_count s.connection ≤ channels config
  -- there is at most a link for each handle that is offered in each session
  pub links : link_count s.connection ≤ session_count s.connection * suc config.handle_max
