-- What a link may hold, whatever its sender does.
use Rattle.std.specs.Prelude.{ℕ, ◌^◌, ◌≤◌}

-- how many deliveries are allowed, credit and open ones together, and how many
-- bytes a message may have
pub record Bounds : Type 0 where
  pub allowed : ℕ
  pub max_message_size : ℕ

-- the bounds that can be requested
pub record IsBounded (allowed max_message_size : ℕ) : Type 0 where
  pub some_allowed : 1 ≤ allowed
  pub most_allowed : allowed ≤ 1024
  pub some_bytes : 1 ≤ max_message_size
  pub most_bytes : max_message_size ≤ 2 ^ 30
