-- A server among others, and what a call does with it (AMQP 1.0, part 2, section 2.4).
use Rattle.std.specs.Prelude.{◌≡◌, ℕ, ◌+◌, ◌-◌, ◌≤◌, ◌==◌, nat_lt, if◌then◌else◌, List, [], ◌++◌, length, take, drop, Option, Some, None, option_map}
use Rattle.amqp_endpoint.specs.declared.event.End.{End}
use Rattle.amqp_endpoint.specs.Configs.{Configured, IsConfigured}
use Rattle.amqp_endpoint.specs.Held.{held}
use Rattle.amqp_endpoint.specs.Runs.{IsStart}
use Rattle.amqp_serve.specs.declared.rules.Rule.{Rule}
use Rattle.amqp_serve.specs.declared.server.ServerFault.{ServerFault}
use Rattle.amqp_serve.specs.declared.server.ServerFault.TheVariants as refused
use Rattle.amqp_serve.specs.declared.server.Status.TheVariants as status
use Rattle.amqp_serve.specs.declared.steps.Stepped.{Stepped}
use Rattle.amqp_serve.specs.Deeds.{Ends, IsStepped, Reaches}
use Rattle.amqp_serve.specs.Servers as server
use Rattle.amqp_serve.specs.Servers.{ServerState, hears, is_over, status_after, open_fault, finish_fault}
use Rattle.amqp_hub.specs.declared.answers.Answers.{Answers}
use Rattle.amqp_hub.specs.declared.fault.HubFault.{HubFault}
use Rattle.amqp_hub.specs.declared.fault.HubFault.TheVariants as fault

-- what a writer to memory holds
abbrev pub answered : {A : Type 0} → Answers A → List ℕ
answered w = w.bytes.items

-- the server, the answers that wait for its peer, the rule by which it is served, and its number
pub record MemberState : Type 0 where
  pub server : ServerState
  pub waiting : List ℕ
  pub rule : Rule
  pub number : ℕ

-- all that waits for its peer: a server that ended has the last of it
abbrev pub unsent_of : MemberState → List ℕ
unsent_of m = m.waiting ++ server.waiting m.server

-- how many bytes it holds
abbrev pub member_held : MemberState → ℕ
member_held m = held m.server.endpoint + length m.waiting

-- Refusals, in their order. -------------------------------------------------------------------------------------------

-- the refusal of a server, as the hub tells it
abbrev pub fault_of : ServerFault → HubFault
fault_of refused.NotOpen = fault.NotOpen
fault_of refused.Over = fault.Over
fault_of refused.Starved = fault.Starved

-- how many bytes of answers may wait before no more of a peer's bytes are heard
abbrev pub answers_most : ℕ
answers_most = 8192

-- why it refuses to hear
abbrev pub hear_fault : MemberState → Option HubFault
hear_fault m = if is_over m.server then Some fault.Over else (if nat_lt (length m.waiting) answers_most then None else Some fault.Unsent)

-- why it refuses a heartbeat
abbrev pub beat_fault : MemberState → Option HubFault
beat_fault m = if hears m.server.status then (if length m.waiting == 0 then option_map fault_of (open_fault m.server) else Some fault.Unsent) else Some fault.NotOpen

-- why it refuses to end its input
abbrev pub end_fault : MemberState → Option HubFault
end_fault m = option_map fault_of (finish_fault m.server.status)

-- why it refuses to be closed
abbrev pub close_fault : MemberState → Option HubFault
close_fault m = option_map fault_of (open_fault m.server)

-- What a call does. ---------------------------------------------------------------------------------------------------

-- it was just opened
pub record IsNew (config : Configured) (r : Rule) (n : ℕ) (m : MemberState) : Type 0 where
  pub within : IsConfigured config.container_id config.max_frame config.window
  pub begins : IsStart config m.server.endpoint
  pub status : m.server.status ≡ status.Serving
  pub waiting : m.waiting ≡ []
  pub rule : m.rule ≡ r
  pub number : m.number ≡ n

-- it took the first bytes of a piece, up to the end of one unit, and made a step with them; its answers wait after those that did
pub record IsHeard (old new : MemberState) (piece : List ℕ) (s : Stepped) (kept keeps : Option (List ℕ)) : Type 0 where
  pub rule : new.rule ≡ old.rule
  pub number : new.number ≡ old.number
  pub status : new.server.status ≡ status_after s.done
  pub bound : s.used ≤ length piece
  pub reaches : Reaches old.server.endpoint piece s.used
  pub before : Ends
  pub after : Ends
  pub writer : before.writer ≡ Some old.waiting
  pub wrote : after.writer ≡ Some new.waiting
  pub sink : before.sink ≡ kept
  pub noted : after.sink ≡ keeps
  pub stepped : IsStepped old.rule (take s.used piece) s.told s.done old.server.endpoint new.server.endpoint before after

-- it is the same, except bytes of its buffer that do not count
pub record IsSame (old new : MemberState) : Type 0 where
  pub server : server.IsSame old.server new.server
  pub waiting : new.waiting ≡ old.waiting
  pub rule : new.rule ≡ old.rule
  pub number : new.number ≡ old.number

-- the first `n` bytes that waited were sent
pub record IsSent (old new : MemberState) (n : ℕ) : Type 0 where
  pub bound : n ≤ length (unsent_of old)
  pub waiting : new.waiting ≡ drop n old.waiting
  pub server : server.IsSent old.server new.server (n - length old.waiting)
  pub rule : new.rule ≡ old.rule
  pub number : new.number ≡ old.number

-- its input ended so
pub record IsFinishedSo (old new : MemberState) (how : End) : Type 0 where
  pub server : server.IsFinishedSo old.server new.server how
  pub waiting : new.waiting ≡ old.waiting
  pub rule : new.rule ≡ old.rule
  pub number : new.number ≡ old.number

-- this side closed it, and its close waits last
pub record IsClosed (old new : MemberState) : Type 0 where
  pub server : server.IsClosed old.server new.server
  pub waiting : new.waiting ≡ old.waiting
  pub rule : new.rule ≡ old.rule
  pub number : new.number ≡ old.number
