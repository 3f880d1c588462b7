-- What a call for a session results in, seen from the session, from its place, and from the connection with its output.
use Rattle.std.specs.Prelude.{◌≡◌, ℕ, Bool, true, List, [], ◌∷◌, ◌++◌, Some, None, Result, Ok, Err}
use Rattle.amqp_link.specs.declared.link.Taken.{Taken}
use Rattle.amqp_perform.specs.Receivers.{state_said}
use Rattle.amqp_perform.specs.Said.{Said}
use Rattle.amqp_reason.specs.Reasons.{Reason}
use Rattle.amqp_session.specs.Frames.{detach_said}
use Rattle.amqp_session.specs.declared.fault.CallFault as session_fault
use Rattle.amqp_session.specs.declared.slot.Slot.{Slot}
use Rattle.amqp_session.specs.declared.slot.Slot.TheVariants.{Free, Live, Waits}
use Rattle.amqp_session.specs.Calls as session
use Rattle.amqp_session.specs.Sessions as of_session
use Rattle.amqp_session.specs.Sessions.{SessionState, session_after}
use Rattle.amqp_session.specs.Slots.{HandsUp}
use Rattle.amqp_endpoint.specs.declared.fault.CallFault.{CallFault}
use Rattle.amqp_endpoint.specs.declared.requests.Request.{Request}
use Rattle.amqp_endpoint.specs.declared.requests.Request.TheVariants as request
use Rattle.amqp_endpoint.specs.declared.requests.Asked.{Asked}
use Rattle.amqp_endpoint.specs.declared.reasons.Refused.{Refused}
use Rattle.amqp_endpoint.specs.declared.reasons.Refusal.{Refusal}
use Rattle.amqp_endpoint.specs.declared.reasons.Refusal.TheVariants as refusal
use Rattle.amqp_endpoint.specs.Calls.{call_fault, call_event, call_spoken}
use Rattle.amqp_endpoint.specs.Connections.{ConnectionState, connection_after}
use Rattle.amqp_endpoint.specs.Replies.{joined}
use Rattle.amqp_endpoint.specs.Runs.{Answer, Dropped, Named, session_answer}
use Rattle.amqp_endpoint.specs.Sayings.{said_of}

-- the call that a request is
abbrev pub asked_of : Request → session.Call
asked_of (request.Widen n) = session.Widen n
asked_of (request.Grant handle n) = session.Grant handle n
asked_of (request.Drain handle) = session.Drain handle
asked_of (request.Settle first last outcome) = session.SettleRange first last outcome
asked_of (request.Detach handle) = session.Detach handle

-- the call that a refusal is, with its reason
abbrev pub refused_of : Refusal → Reason → session.Call
refused_of (refusal.Link handle) r = session.Refuse handle r
refused_of (refusal.Deliveries first last) r = session.SettleRangeWith first last r

-- the number that an answer has, if it has one
abbrev pub IsCounted : Answer → ℕ → Type 0
IsCounted (Dropped n) count = count ≡ n
IsCounted (Named n) count = count ≡ n
IsCounted answer count = Unit {0}

-- The answer of a session to a call, with what is written for it.
abbrev pub SessionAsked : SessionState → SessionState → session.Call → Result Asked session_fault.CallFault → Type 0
SessionAsked old new c (Ok x) =
    (session.call_fault old c ≡ None) × (new ≡ session_after old (session.call_event old c)) × (session.call_answer old c ≡ said_of x.saying ∷ []) × IsCounted (session_answer old c) x.count
SessionAsked old new c (Err e) = (session.call_fault old c ≡ Some e) × (new ≡ old)

-- what is said for a refusal that was accepted
abbrev pub said_at : Refusal → Bool → List ℕ → Said
said_at (refusal.Link handle) settled words = detach_said handle true words
said_at (refusal.Deliveries first last) settled words = state_said first last settled words

abbrev pub refusal_said : Refused → Said
refusal_said x = said_at x.refusal x.settled x.words.items

-- The answer of a session to a refusal, in the same way.
abbrev pub SessionRefused : SessionState → SessionState → session.Call → Result Refused session_fault.CallFault → Type 0
SessionRefused old new c (Ok x) =
    (session.call_fault old c ≡ None) × (new ≡ session_after old (session.call_event old c)) × (session.call_answer old c ≡ refusal_said x ∷ []) × IsCounted (session_answer old c) x.count
SessionRefused old new c (Err e) = (session.call_fault old c ≡ Some e) × (new ≡ old)

-- The answer to a call for the session on a channel, with the bytes that waited before and after it. A refused call
-- changes nothing.
abbrev pub CallAnswered : {X : Type 0} → ConnectionState → ConnectionState → List ℕ → List ℕ → ℕ → session.Call → Result X CallFault → Type 0
CallAnswered old new before after channel c (Ok x) =
    (call_fault old before channel c ≡ None) × (new ≡ connection_after old (call_event old channel c)) × (after ≡ before ++ joined (call_spoken old channel c))
CallAnswered old new before after channel c (Err e) = (call_fault old before channel c ≡ Some e) × (new ≡ old) × (after ≡ before)

-- what a take of the link with this handle hands up: its first ready delivery
abbrev pub SlotHandsUp : {A : Type 0} → Slot SessionState → ℕ → Taken A → Type 0
SlotHandsUp Free handle taken = ⊥
SlotHandsUp (Live s) handle taken = HandsUp (of_session.slot_at s handle) taken
SlotHandsUp Waits handle taken = ⊥
