-- What an endpoint is set up with, and the ranges of that.
use Rattle.std.specs.Prelude.{ℕ, ◌^◌, ◌<◌, ◌≤◌, ◌==◌, if◌then◌else◌, List, length, Option, Some, None}
use Rattle.amqp_link.specs.Bounds.{Bounds, IsBounded}
use Rattle.amqp_endpoint.specs.Limits.{Limit, longest, bounds_in}

pub record Configured : Type 0 where
  pub container_id : List ℕ  -- the container-id of this side, in UTF-8 [2.7.1]
  pub max_frame : ℕ  -- the longest frame that is accepted, in bytes
  pub channel_max : ℕ  -- the highest channel that is offered
  pub handle_max : ℕ  -- the highest handle that is offered [2.7.2]
  pub bounds : Bounds  -- what each link whose name begins with no prefix of the limits may hold
  pub limits : List Limit  -- what other links may hold
  pub window : ℕ  -- the places of a session's incoming window at its begin [2.5.6]
  pub idle_time_out : Option ℕ  -- the idle-time-out that the open announces, in milliseconds [2.4.5]

-- the ranges that the types do not give
pub record IsConfigured (container_id : List ℕ) (max_frame window : ℕ) : Type 0 where
  pub some_name : 1 ≤ length container_id
  pub most_name : length container_id ≤ 255
  pub some_frame : 512 ≤ max_frame
  pub most_frame : max_frame ≤ 1048576
  pub most_window : window < 2 ^ 31

-- an idle-time-out of 0 is none [2.7.1]
abbrev pub time_out : ℕ → Option ℕ
time_out milliseconds = if milliseconds == 0 then None else Some milliseconds

-- what a link of this name may hold
abbrev pub bounds_for : Configured → List ℕ → Bounds
bounds_for config name = bounds_in config.bounds (longest name config.limits)

-- what can be requested
pub record MayBeConfigured (container_id : List ℕ) (max_frame channel_max handle_max allowed max_message window : ℕ) : Type 0 where
  pub configured : IsConfigured container_id max_frame window
  pub channels : channel_max ≤ 255
  pub handles : handle_max ≤ 255
  pub bounds : IsBounded allowed max_message
