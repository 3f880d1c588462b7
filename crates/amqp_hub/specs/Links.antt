-- What a host asks of a hub for a link of a connection: the call that is made, and how its answer waits (AMQP 1.0, part 2, sections 2.6.5 and 2.6.7).
use Rattle.std.specs.Prelude.{◌≡◌, ℕ, zero, suc, true, false, List, [], ◌++◌, Option, Some, None, Result, Ok, Err}
use Rattle.slab.specs.Slab.{Slab, get}
use Rattle.amqp_session.specs.Calls as session
use Rattle.amqp_session.specs.Calls.{Grant}
use Rattle.amqp_endpoint.specs.Calls.{call_fault, call_spoken}
use Rattle.amqp_endpoint.specs.declared.fault.CallFault.{CallFault}
use Rattle.amqp_endpoint.specs.Connections.{slot_at}
use Rattle.amqp_endpoint.specs.Replies.{joined}
use Rattle.amqp_endpoint.specs.Takings.{link_in}
use Rattle.amqp_serve.specs.declared.links.LinkFault.{LinkFault}
use Rattle.amqp_serve.specs.declared.links.LinkFault.TheVariants as refused
use Rattle.amqp_serve.specs.Links.{IsCalled}
use Rattle.amqp_serve.specs.Servers.{hears}
use Rattle.amqp_serve.specs.Serving.{credit_lack}
use Rattle.amqp_serve.specs.Supplying.{half_rule}
use Rattle.amqp_hub.specs.declared.fault.AskFault.{AskFault}
use Rattle.amqp_hub.specs.declared.fault.AskFault.TheVariants as fault
use Rattle.amqp_hub.specs.Members.{MemberState, IsSame}
use Rattle.amqp_hub.specs.Turns.{IsChanged, AreAlike}

-- the refusal of a server, as the hub tells it: what fails while an answer goes to memory is the memory
abbrev pub ask_fault_of : LinkFault → AskFault
ask_fault_of refused.Over = fault.Over
ask_fault_of (refused.Call x) = fault.Call x
ask_fault_of (refused.Lost x) = fault.NoMemory

-- Of one server. ------------------------------------------------------------------------------------------------------

-- what it says to its peer for a call for the session on a channel
abbrev pub answer_of : MemberState → ℕ → session.Call → List ℕ
answer_of m channel c = joined (call_spoken m.server.endpoint.connection channel c)

-- it accepted this call, and the answer waits after those that did
pub record IsAsked (channel : ℕ) (c : session.Call) (old new : MemberState) : Type 0 where
  pub hearing : hears old.server.status ≡ true
  pub called : IsCalled channel c old.server.endpoint new.server.endpoint
  pub sent : new.server.endpoint.unsent ≡ []
  pub waiting : new.waiting ≡ old.waiting ++ answer_of old channel c
  pub status : new.server.status ≡ old.server.status
  pub rule : new.rule ≡ old.rule
  pub number : new.number ≡ old.number

-- It accepted this call, and memory was refused for the answer: only a beginning of that waits. It hears nothing any more.
pub record IsSilenced (channel : ℕ) (c : session.Call) (old new : MemberState) : Type 0 where
  pub hearing : hears old.server.status ≡ true
  pub called : IsCalled channel c old.server.endpoint new.server.endpoint
  pub begun : List ℕ
  pub left : List ℕ
  pub whole : answer_of old channel c ≡ begun ++ left
  pub waiting : new.waiting ≡ old.waiting ++ begun
  pub over : hears new.server.status ≡ false
  pub rule : new.rule ≡ old.rule
  pub number : new.number ≡ old.number

-- what such a call came to
abbrev pub Asks : {X : Type 0} → Result X AskFault → ℕ → session.Call → MemberState → MemberState → Type 0
Asks (Ok x) channel c old new = IsAsked channel c old new
Asks (Err fault.NoKey) channel c old new = ⊥
Asks (Err fault.Over) channel c old new = (hears old.server.status ≡ false) × IsSame old new
Asks (Err (fault.Call x)) channel c old new = (hears old.server.status ≡ true) × (call_fault old.server.endpoint.connection [] channel c ≡ Some x) × IsSame old new
Asks (Err fault.NoMemory) channel c old new = IsSilenced channel c old new

-- how much of `most` credit a link of it lacks
abbrev pub lacking : ℕ → ℕ → ℕ → MemberState → ℕ
lacking most channel handle m = credit_lack (half_rule most) (link_in handle (slot_at m.server.endpoint.connection channel))

-- a link was granted so much, or nothing has changed
abbrev pub IsGranted : ℕ → ℕ → ℕ → MemberState → MemberState → Type 0
IsGranted zero channel handle old new = IsSame old new
IsGranted (suc n) channel handle old new = IsAsked channel (Grant handle (suc n)) old new

-- It was granted what it lacks, or the call for that came to something else.
abbrev pub TopsUp : Result ℕ AskFault → ℕ → ℕ → ℕ → MemberState → MemberState → Type 0
TopsUp (Ok n) channel handle most old new = (hears old.server.status ≡ true) × (n ≡ lacking most channel handle old) × IsGranted n channel handle old new
TopsUp (Err x) channel handle most old new = Asks {X = ℕ} (Err x) channel (Grant handle (lacking most channel handle old)) old new

-- Among others. -------------------------------------------------------------------------------------------------------

pub record IsAskedAt (old new : Slab MemberState) (key channel : ℕ) (c : session.Call) : Type 0 where
  pub before : MemberState
  pub after : MemberState
  pub changed : IsChanged old new key before after
  pub asked : IsAsked channel c before after

pub record IsSilencedAt (old new : Slab MemberState) (key channel : ℕ) (c : session.Call) : Type 0 where
  pub before : MemberState
  pub after : MemberState
  pub changed : IsChanged old new key before after
  pub silenced : IsSilenced channel c before after

pub record IsToppedUpAt (old new : Slab MemberState) (key channel handle most n : ℕ) : Type 0 where
  pub before : MemberState
  pub after : MemberState
  pub changed : IsChanged old new key before after
  pub hearing : hears before.server.status ≡ true
  pub lacked : n ≡ lacking most channel handle before
  pub granted : IsGranted n channel handle before after

-- the connection under a key is there and hears nothing any more
abbrev pub IsDeaf : Option MemberState → Type 0
IsDeaf None = ⊥
IsDeaf (Some m) = hears m.server.status ≡ false

-- it hears, and its endpoint refuses this call so
abbrev pub Declines : Option MemberState → ℕ → session.Call → Option CallFault → Type 0
Declines None channel c x = ⊥
Declines (Some m) channel c x = (hears m.server.status ≡ true) × (call_fault m.server.endpoint.connection [] channel c ≡ x)

-- Why such a call is refused. Nothing that counts has changed, unless memory was refused for the answer.
abbrev pub AskRefused : AskFault → Slab MemberState → Slab MemberState → ℕ → ℕ → session.Call → Type 0
AskRefused fault.NoKey old new key channel c = AreAlike old new × (get old key ≡ None)
AskRefused fault.Over old new key channel c = AreAlike old new × IsDeaf (get old key)
AskRefused (fault.Call x) old new key channel c = AreAlike old new × Declines (get old key) channel c (Some x)
AskRefused fault.NoMemory old new key channel c = IsSilencedAt old new key channel c

-- how much of `most` credit a link of the connection under a key lacks
abbrev pub lacking_at : ℕ → ℕ → ℕ → Option MemberState → ℕ
lacking_at most channel handle None = 0
lacking_at most channel handle (Some m) = lacking most channel handle m
