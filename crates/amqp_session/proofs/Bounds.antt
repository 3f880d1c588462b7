-- What a session keeps, counted over its history, and how much that is at most.
use Rattle.std.proofs.Common.{arith, ◌≡◌, ℕ, ◌+◌, ◌*◌, ◌<◌, ◌≤◌, List, length, filter, refl}
use Rattle.std.specs.Prelude.{sum_by}
use Rattle.amqp_link.specs.declared.terms.Terms.{Terms}
use Rattle.amqp_link.specs.Links.{LinkEvent, link_bytes, open_set, newly_settled, named_count}
use Rattle.amqp_link.specs.Laws.{is_named_by}
use Rattle.amqp_link.specs.Histories as link
use Rattle.amqp_session.specs.declared.slot.Slot.{Slot}
use Rattle.amqp_session.specs.declared.slot.Slot.TheVariants.{Free, Live, Waits}
use Rattle.amqp_session.specs.declared.terms.SessionTerms.{SessionTerms}
use Rattle.amqp_session.specs.Places.{Life, IfLive, life_state}
use Rattle.amqp_session.specs.Sessions.{Attached, LiveLink, SessionEvent, handles, slot_bytes, session_bytes}
use Rattle.amqp_session.specs.Histories.{part, live_state, state_of, IsSoundPart, Sound}
use Rattle.amqp_session.specs.Faults.{slot_settled, settled_count}
use Rattle.amqp_session.specs.Laws.{parts, slot_most, part_bytes, part_settled, slot_named, named_total, part_named}
use Rattle.amqp_session.proofs.Places.{sums_same, sums_within}

-- what the links owe
abbrev pub LinkBound : Type 0
LinkBound = (terms : Terms) (h : List LinkEvent) → link.Sound terms h → link_bytes (link.state_of terms h) ≤ terms.bounds.allowed * (terms.bounds.max_message_size + 96)

-- the law of a link's bytes, which stands in its crate
abbrev pub LinkBytes : Type 0
LinkBytes = (terms : Terms) (h : List LinkEvent) → link_bytes (link.state_of terms h) ≡ sum_by (link.kept_bytes h) (filter (link.is_open terms h) (link.groups h))

-- that of what a disposition settles of a link
abbrev pub LinkSettles : Type 0
LinkSettles = (terms : Terms) (h : List LinkEvent) (first last : ℕ) →
    newly_settled first last (open_set (link.state_of terms h)) ≡ length (filter (link.is_settled_by terms h first last) (link.groups h))

-- that of what a range names of a link
abbrev pub LinkNames : Type 0
LinkNames = (terms : Terms) (h : List LinkEvent) (first last : ℕ) →
    named_count first last (open_set (link.state_of terms h)) ≡ length (filter (is_named_by terms h first last) (link.groups h))

-- The session. --------------------------------------------------------------------------------------------------------------

part_within : LinkBound → (terms : SessionTerms) (p : Slot (Life Attached LinkEvent)) → IfLive (λ l. IsSoundPart terms l.0 l.1) p →
    slot_bytes (life_state live_state p) ≤ slot_most (life_state live_state p) * 1
part_within bound terms Free sound = omega arith
part_within bound terms (Live l) sound =
    let kept = bound l.0.terms l.1 sound.link in omega (arith, kept, sound.attached.name, sound.attached.ends)
part_within bound terms Waits sound = omega arith

-- bytes held stay within the bounds of the links
pub held_within : LinkBound → (terms : SessionTerms) (h : List SessionEvent) → Sound terms h →
    session_bytes (state_of terms h) ≤ 64 + sum_by slot_most (state_of terms h).links
held_within bound terms h sound =
    let each = λ (j : ℕ) (l : j < handles terms). part_within bound terms (part j h) (sound.links j l) in
    let all = sums_within slot_bytes slot_most 1 (λ handle. life_state live_state (part handle h)) 0 (handles terms) (λ j l. each j (omega (arith, l))) in omega (arith, all)

-- what the links show together is what their parts do, where it is so for each
of_parts : (p : Slot LiveLink → ℕ) (q : Slot (Life Attached LinkEvent) → ℕ) (terms : SessionTerms) (h : List SessionEvent) →
    ((x : Slot (Life Attached LinkEvent)) → p (life_state live_state x) ≡ q x) → sum_by p (state_of terms h).links ≡ sum_by q (parts terms h)
of_parts p q terms h same = sums_same p q (λ handle. life_state live_state (part handle h)) (λ handle. part handle h) (λ k. same (part k h)) 0 (handles terms)

bytes_same : LinkBytes → (p : Slot (Life Attached LinkEvent)) → slot_bytes (life_state live_state p) ≡ part_bytes p
bytes_same law Free = refl
bytes_same law (Live l) = omega (arith, law l.0.terms l.1)
bytes_same law Waits = refl

-- they are counted over the parts of the history
pub bytes_counted : LinkBytes → (terms : SessionTerms) (h : List SessionEvent) → session_bytes (state_of terms h) ≡ 64 + sum_by part_bytes (parts terms h)
bytes_counted law terms h =
    let all = of_parts slot_bytes part_bytes terms h (bytes_same law) in omega (arith, all)

settled_same : LinkSettles → (first last : ℕ) (p : Slot (Life Attached LinkEvent)) → slot_settled first last (life_state live_state p) ≡ part_settled first last p
settled_same law first last Free = refl
settled_same law first last (Live l) = law l.0.terms l.1 first last
settled_same law first last Waits = refl

-- so is what a disposition settles
pub settled_counted : LinkSettles → (terms : SessionTerms) (h : List SessionEvent) (first last : ℕ) →
    settled_count (state_of terms h) first last ≡ sum_by (part_settled first last) (parts terms h)
settled_counted law terms h first last =
    of_parts (slot_settled first last) (part_settled first last) terms h (settled_same law first last)

named_same : LinkNames → (first last : ℕ) (p : Slot (Life Attached LinkEvent)) → slot_named first last (life_state live_state p) ≡ part_named first last p
named_same law first last Free = refl
named_same law first last (Live l) = law l.0.terms l.1 first last
named_same law first last Waits = refl

-- and what a range names
pub named_counted : LinkNames → (terms : SessionTerms) (h : List SessionEvent) (first last : ℕ) → named_total first last (state_of terms h) ≡ sum_by (part_named first last) (parts terms h)
named_counted law terms h first last =
    of_parts (slot_named first last) (part_named first last) terms h (named_same law first last)
