-- What is kept true of each connection of a hub, turn by turn.
use Rattle.std.specs.Prelude.{◌≡◌, ℕ, ◌+◌, ◌-◌, ◌≤◌, true, List, [], ◌++◌, length, take, Option, Some, None, Ok, Err}
use Rattle.amqp_endpoint.specs.declared.event.End.{End}
use Rattle.amqp_endpoint.specs.Calls.{open_call_fault}
use Rattle.amqp_endpoint.specs.Configs.{Configured}
use Rattle.amqp_endpoint.specs.Held.{held}
use Rattle.amqp_endpoint.specs.Uses.{held_by_any}
use Rattle.amqp_serve.specs.declared.rules.Rule.{Rule}
use Rattle.amqp_serve.specs.declared.serving.ServeFault.TheVariants as lost
use Rattle.amqp_serve.specs.declared.steps.Done.{Done}
use Rattle.amqp_serve.specs.declared.steps.Stepped.{Stepped}
use Rattle.amqp_serve.specs.Kept as kept
use Rattle.amqp_serve.specs.Lives.{Life, ByPeer, BySelf, starved_on, told_on, ended_on, IsAlone, IsOver, IsOpen, IsNotOpen}
use Rattle.amqp_serve.specs.Deeds.{IsNotedAs}
use Rattle.amqp_serve.specs.Rooms.{answers_room, record_room}
use Rattle.amqp_serve.specs.Servers.{is_over}
use Rattle.slab.specs.Slab.{Slab, get}
use Rattle.amqp_hub.specs.Members.{MemberState, unsent_of, answers_most, hear_fault, IsNew, IsHeard, IsSame, IsSent, IsFinishedSo, IsClosed}
use Rattle.amqp_hub.specs.Turns.{Seat, new_seat, went_on, heard_on}

-- the life of its server, if this waits of what that wrote
abbrev pub written_life : Life → List ℕ → Life
written_life l waiting =
    record { heard = l.heard; untried = l.untried; starved = l.starved; told = l.told ++ waiting; noted = l.noted; due = l.due - length waiting; ended = l.ended }

-- the connection is this one
pub record IsSeat (config : Configured) (x : Seat) (m : MemberState) : Type 0 where
  pub rule : m.rule ≡ x.rule
  pub number : m.number ≡ x.number
  pub room : length m.waiting ≤ answers_most + answers_room config
  pub due : length m.waiting ≤ x.life.due
  pub lives : kept.IsLife config (written_life x.life m.waiting) m.server

-- the connection under a key is this one, or there is neither
abbrev pub IsSeated : Configured → Option MemberState → Option Seat → Type 0
IsSeated config None None = Unit {0}
IsSeated config (Some m) (Some x) = IsSeat config x m
IsSeated config None (Some x) = ⊥
IsSeated config (Some m) None = ⊥

-- each connection is what the turns say
abbrev pub AreSeated : Configured → Slab MemberState → (ℕ → Option Seat) → Type 0
AreSeated config s seats = (key : ℕ) → IsSeated config (get s key) (seats key)

-- That it is so. ------------------------------------------------------------------------------------------------------

-- A connection begins, and goes on with what a call does.
pub record SeatGoesOn (config : Configured) : Type 0 where
  pub starts : (r : Rule) (number : ℕ) (m : MemberState) → IsNew config r number m → IsSeat config (new_seat r number) m
  pub hears : (x : Seat) (a b : MemberState) (piece : List ℕ) (s : Stepped) (d : Done) (noted : List ℕ) → hear_fault a ≡ None → IsHeard a b piece s (Some []) (Some noted) → s.done ≡ Ok d → IsSeat config x a →
      IsSeat config (heard_on x (take s.used piece) (length (unsent_of b)) noted) b × IsNotedAs s.told d.receipt noted × (length noted ≤ record_room config)
  pub starves : (x : Seat) (a b : MemberState) (piece : List ℕ) (s : Stepped) (noted : List ℕ) → hear_fault a ≡ None → IsHeard a b piece s (Some []) (Some noted) → s.done ≡ Err lost.NoMemory → IsSeat config x a →
      IsSeat config (went_on (λ l. starved_on l (take s.used piece)) x) b × (length (unsent_of b) ≡ x.life.due) × (noted ≡ [])
  pub hands : (x : Seat) (a b : MemberState) (bytes : List ℕ) → IsSent a b (length bytes) → bytes ≡ take (length bytes) (unsent_of a) → IsSeat config x a → IsSeat config (went_on (λ l. told_on l bytes) x) b
  pub stays : (x : Seat) (a b : MemberState) → IsSame a b → IsSeat config x a → IsSeat config x b
  pub finishes : (x : Seat) (a b : MemberState) (how : End) → IsFinishedSo a b how → IsSeat config x a → IsSeat config (went_on (λ l. ended_on l (ByPeer how)) x) b
  pub closes : (x : Seat) (a b : MemberState) → IsClosed a b → IsSeat config x a → IsSeat config (went_on (λ l. ended_on l BySelf) x) b

-- What was handed out and recorded of it is what its own calls alone give, and these say whether it is over and whether it is open. What its endpoint holds is bounded.
pub record SeatIsAlone (config : Configured) : Type 0 where
  pub due : (x : Seat) (m : MemberState) → IsSeat config x m → length (unsent_of m) ≡ x.life.due
  pub alone : (x : Seat) (m : MemberState) → IsSeat config x m → IsAlone config x.life
  pub over : (x : Seat) (m : MemberState) → IsSeat config x m → x.life.ended ≡ None → is_over m.server ≡ true → IsOver config x.life
  pub opened : (x : Seat) (m : MemberState) → IsSeat config x m → x.life.ended ≡ None → open_call_fault m.server.endpoint.connection [] ≡ None → IsOpen config x.life
  pub unopened : (x : Seat) (m : MemberState) → IsSeat config x m → x.life.ended ≡ None → (open_call_fault m.server.endpoint.connection [] ≡ None → ⊥) → IsNotOpen config x.life
  pub held : (x : Seat) (m : MemberState) → IsSeat config x m → held m.server.endpoint ≤ held_by_any config
