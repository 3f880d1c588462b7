-- The window and the next-incoming-id of a session, counted over its history.
use Rattle.std.proofs.Common.{arith, ◌≡◌, ℕ, ◌+◌, ◌%◌, ◌^◌, true, false, List, [], ◌∷◌, ◌++◌, refl, ap, ◌∙◌, Option, Some}
use Rattle.amqp_session.specs.declared.terms.SessionTerms.{SessionTerms}
use Rattle.amqp_link.specs.Histories.{one_if}
use Rattle.amqp_session.specs.Sessions.{SessionState, SessionEvent, SessionMay, session_after, is_transfer, widened_by, stated_by}
use Rattle.amqp_session.specs.Sessions as event
use Rattle.amqp_session.specs.Histories.{widenings, transfers, counted_from, restarted, last_stated, since_stated, next_id, state_of, Sound}
use Rattle.amqp_session.specs.Laws.{NoneStates, IsStatedBefore}

-- a flow is no transfer, and no widening
no_transfer : (e : SessionEvent) (n : ℕ) → stated_by e ≡ Some n → (is_transfer e ≡ false) × (widened_by e ≡ 0)
no_transfer (event.FlowCame next_id) n e = (refl, refl)
no_transfer (event.LinkFlowCame handle next_id count) n e = (refl, refl)
no_transfer (event.LinkFlowEnded handle next_id) n e = (refl, refl)
no_transfer x n e = absurd (grind (arith, e))

-- The window. ---------------------------------------------------------------------------------------------------------------

-- the window and the places used are the opening places and the widenings
pub places_counted : (terms : SessionTerms) (h : List SessionEvent) → Sound terms h → (state_of terms h).window + transfers h ≡ terms.incoming_window + widenings h
places_counted terms h sound = omega (arith, sound.spent)

-- a transfer uses one place
pub place_used : (s : SessionState) (e : SessionEvent) → SessionMay s e → is_transfer e ≡ true → (session_after s e).window + 1 ≡ s.window
place_used s (event.TransferCame handle t) may e = omega (arith, may.0)
place_used s (event.TransferEnded handle) may e = omega (arith, may.0)
place_used s (event.TransferDropped handle) may e = omega (arith, may.0)
place_used s x may e = absurd (grind (arith, e))

-- an event that states an id uses none
pub place_kept : (s : SessionState) (e : SessionEvent) (n : ℕ) → stated_by e ≡ Some n → (session_after s e).window ≡ s.window
place_kept s e n stated =
    let none = no_transfer e n stated in
    let no : one_if (is_transfer e) ≡ 0 = ap one_if none.0 in omega (arith, no, none.1)

-- The next-incoming-id. ------------------------------------------------------------------------------------------------------

-- where none states one it is counted on
stated_on : (terms : SessionTerms) (later h : List SessionEvent) → NoneStates later →
    (last_stated terms (later ++ h) ≡ last_stated terms h) × (since_stated (later ++ h) ≡ since_stated h + transfers later)
stated_on terms [] h none = (refl, omega arith)
stated_on terms (e ∷ later) h none =
    let rest = stated_on terms later h none.1 in
    let last : last_stated terms (e ∷ later ++ h) ≡ last_stated terms (later ++ h) = ap (λ (o : Option ℕ). counted_from o (last_stated terms (later ++ h))) none.0 in
    let since : restarted (stated_by e) (since_stated (later ++ h)) ≡ since_stated (later ++ h) = ap (λ (o : Option ℕ). restarted o (since_stated (later ++ h))) none.0 in
    (last ∙ rest.0, omega (arith, since, rest.1))

-- the next-incoming-id is the one that was stated last and the transfers since
pub counted_since : (terms : SessionTerms) (next : ℕ) (later h : List SessionEvent) → IsStatedBefore next later h → next_id terms h ≡ (next + transfers later) % 2 ^ 32
counted_since terms next later h stated =
    let all = stated_on terms later (stated.event ∷ stated.before) stated.since in
    let none = no_transfer stated.event next stated.states in
    let no : one_if (is_transfer stated.event) ≡ 0 = ap one_if none.0 in
    let last : last_stated terms (stated.event ∷ stated.before) ≡ next = ap (λ (o : Option ℕ). counted_from o (last_stated terms stated.before)) stated.states in
    let since : restarted (stated_by stated.event) (since_stated stated.before) ≡ 0 = ap (λ (o : Option ℕ). restarted o (since_stated stated.before)) stated.states in
    ap (next_id terms) stated.split ∙ ap (λ (n : ℕ). n % 2 ^ 32) (omega (arith, all.0, all.1, last, since, no))

from_begin : (terms : SessionTerms) (h : List SessionEvent) → NoneStates h → (last_stated terms h ≡ terms.next_outgoing_id) × (since_stated h ≡ transfers h)
from_begin terms [] none = (refl, refl)
from_begin terms (e ∷ h) none =
    let rest = from_begin terms h none.1 in
    let last : last_stated terms (e ∷ h) ≡ last_stated terms h = ap (λ (o : Option ℕ). counted_from o (last_stated terms h)) none.0 in
    let since : restarted (stated_by e) (since_stated h) ≡ since_stated h = ap (λ (o : Option ℕ). restarted o (since_stated h)) none.0 in (last ∙ rest.0, omega (arith, since, rest.1))

-- before any was stated it is the begin's and the transfers
pub counted_from_begin : (terms : SessionTerms) (h : List SessionEvent) → NoneStates h → next_id terms h ≡ (terms.next_outgoing_id + transfers h) % 2 ^ 32
counted_from_begin terms h none =
    let both = from_begin terms h none in ap (λ (n : ℕ). n % 2 ^ 32) (omega (arith, both.0, both.1))
