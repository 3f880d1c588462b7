-- Credit over the history of an endpoint (AMQP 1.0, part 2, section 2.6.7).
use Rattle.std.specs.Prelude.{ℕ, ◌+◌, nat_eq, if◌then◌else◌, List, [], ◌∷◌}
use Rattle.amqp_session.specs.Calls as session
use Rattle.amqp_session.specs.Calls.{Grant}
use Rattle.amqp_session.specs.Laws.{credit_in, granted_at}
use Rattle.amqp_endpoint.specs.Connections.{ConnectionState, ConnectionEvent, InSession}
use Rattle.amqp_endpoint.specs.Runs.{Happened, Called}
use Rattle.amqp_endpoint.specs.Takings.{attaches_on, link_at}

-- the credit of the link at a handle of the session on a channel; 0 if no link is live there
abbrev pub credit_on : ConnectionState → ℕ → ℕ → ℕ
credit_on s channel handle = credit_in (link_at s channel handle)

-- what a call grants at a handle of its session
abbrev pub granted_by : ℕ → session.Call → ℕ
granted_by handle (Grant place n) = if nat_eq place handle then n else 0
granted_by handle c = 0

-- what an entry of the history grants there: only an accepted grant grants credit
abbrev pub granted_to : ℕ → ℕ → Happened → ℕ
granted_to channel handle (Called place c) = if nat_eq place channel then granted_by handle c else 0
granted_to channel handle x = 0

-- what an event of the connection grants there
abbrev pub granted_on : ℕ → ℕ → ConnectionEvent → ℕ
granted_on channel handle (InSession place e) = if nat_eq place channel then granted_at handle e else 0
granted_on channel handle e = 0

-- all that was granted there since a link attached there last
abbrev pub granted_since : ℕ → ℕ → List ConnectionEvent → ℕ
granted_since channel handle [] = 0
granted_since channel handle (e ∷ h) = if attaches_on channel handle e then 0 else granted_since channel handle h + granted_on channel handle e
