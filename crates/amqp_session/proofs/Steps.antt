-- One event more: what the session shows stays what its history gives.
use Rattle.std.proofs.Common.{arith, ◌≡◌, ℕ, ◌+◌, ◌-◌, ◌%◌, ◌^◌, ◌<◌, ◌≤◌, subst, List, [], ◌∷◌, refl, ap, ◌∙◌, Option, Some, None}
use Rattle.std.specs.Prelude.{unwrap_or}
use Rattle.amqp_link.specs.declared.terms.Terms.{Terms}
use Rattle.amqp_link.specs.Links.{LinkState, LinkEvent, LinkMay, link_begins, link_after}
use Rattle.amqp_link.specs.Histories as link
use Rattle.amqp_session.specs.declared.slot.Slot.{Slot}
use Rattle.amqp_session.specs.declared.terms.SessionTerms.{SessionTerms}
use Rattle.amqp_link.specs.Histories.{one_if}
use Rattle.amqp_session.specs.Sessions.{Attached, LiveLink, live_begins, live_after, live_may, SessionState, SessionEvent, happens, is_transfer, widened_by, stated_by, session_begins}
use Rattle.amqp_session.specs.Sessions.{session_after, SessionMay, HasRoom, IsAttached, IsApart, handles}
use Rattle.amqp_session.specs.Histories.{widenings, transfers, counted_from, last_stated, restarted, since_stated, part, live_state, state_of, IsSoundPart, Sound, after_all, Accepted}
use Rattle.amqp_session.specs.Sessions as event
use Rattle.amqp_session.proofs.Ids.{IdsGrow, begins_apart, stays_apart}
use Rattle.amqp_session.proofs.Places.{places_step}

-- what a link owes to its session
abbrev pub LinkBegins : Type 0
LinkBegins = (terms : Terms) → terms.initial_delivery_count < 2 ^ 32 → (link_begins terms ≡ link.state_of terms []) × link.Sound terms []

-- the law that a link goes on by its history, which stands in its crate
abbrev pub LinkGoesOn : Type 0
LinkGoesOn = (terms : Terms) (h : List LinkEvent) (e : LinkEvent) → link.Sound terms h → LinkMay (link.state_of terms h) e →
    (link_after (link.state_of terms h) e ≡ link.state_of terms (e ∷ h)) × link.Sound terms (e ∷ h)

-- what a session owes
abbrev pub SessionBegins : Type 0
SessionBegins = (terms : SessionTerms) → terms.incoming_window < 2 ^ 31 → terms.next_outgoing_id < 2 ^ 32 → (session_begins terms ≡ state_of terms []) × Sound terms []

-- the same law of a session
abbrev pub SessionGoesOn : Type 0
SessionGoesOn = (terms : SessionTerms) (h : List SessionEvent) (e : SessionEvent) → Sound terms h → SessionMay (state_of terms h) e →
    (session_after (state_of terms h) e ≡ state_of terms (e ∷ h)) × Sound terms (e ∷ h)

named : Attached → LinkState → LiveLink
named a l = record { name = a.name; source = a.source; target = a.target; link = l }

part_begins : LinkBegins → (terms : SessionTerms) (a : Attached) → IsAttached a → (live_begins a ≡ live_state a []) × IsSoundPart terms a []
unfolding named
part_begins law terms a attached =
    let one = law a.terms attached.count in (ap (λ (l : LinkState). named a l) one.0, record { attached = attached; link = one.1 })

part_goes_on : LinkGoesOn → (terms : SessionTerms) (a : Attached) (h : List LinkEvent) (e : LinkEvent) → IsSoundPart terms a h → live_may (live_state a h) e →
    (live_after (live_state a h) e ≡ live_state a (e ∷ h)) × IsSoundPart terms a (e ∷ h)
unfolding named
part_goes_on law terms a h e sound may =
    let one = law a.terms h e sound.link may in (ap (λ (l : LinkState). named a l) one.0, record { attached = sound.attached; link = one.1 })

made : SessionTerms → ℕ → ℕ → List (Slot LiveLink) → SessionState
made terms w n slots = record { terms = terms; window = w; next_incoming_id = n; links = slots }

made_same : (terms : SessionTerms) (w v n m : ℕ) (ls ms : List (Slot LiveLink)) → w ≡ v → n ≡ m → ls ≡ ms → made terms w n ls ≡ made terms v m ms
made_same terms w v n m ls ms a b c = ap (λ (w : ℕ). made terms w n ls) a ∙ ap (λ (n : ℕ). made terms v n ls) b ∙ ap (λ (ls : List (Slot LiveLink)). made terms v m ls) c

-- the next-incoming-id goes on so
counted : (stated : Option ℕ) (known since more : ℕ) → (unwrap_or stated ((known + since) % 2 ^ 32) + more) % 2 ^ 32 ≡ (counted_from stated known + (restarted stated since + more)) % 2 ^ 32
counted None known since more = omega arith
counted (Some stated) known since more = omega arith

-- the window goes on so
widened : (opening wide used more less : ℕ) → used ≤ opening + wide → opening + wide - used + more - less ≡ opening + (wide + more) - (used + less)
widened opening wide used more less spent = omega (arith, spent)

-- no more transfers than places, and less than 2 ^ 31 places
spent_on : (terms : SessionTerms) (h : List SessionEvent) (e : SessionEvent) → Sound terms h → HasRoom (state_of terms h) e →
    transfers h + one_if (is_transfer e) ≤ terms.incoming_window + (widenings h + widened_by e)
spent_on terms h (event.Widened n) sound room = omega (arith, sound.spent)
spent_on terms h (event.TransferCame handle t) sound room = omega (arith, sound.spent, room)
spent_on terms h (event.TransferEnded handle) sound room = omega (arith, sound.spent, room)
spent_on terms h (event.TransferDropped handle) sound room = omega (arith, sound.spent, room)
spent_on terms h e sound room = omega (arith, sound.spent)

narrow_on : (terms : SessionTerms) (h : List SessionEvent) (e : SessionEvent) → Sound terms h → HasRoom (state_of terms h) e →
    terms.incoming_window + (widenings h + widened_by e) - (transfers h + one_if (is_transfer e)) < 2 ^ 31
narrow_on terms h (event.Widened n) sound room = omega (arith, sound.spent, room)
narrow_on terms h e sound room = omega (arith, sound.narrow)

-- a new session has the state of the empty history
pub begins_sound : SessionBegins
unfolding made
begins_sound terms narrow first = (
  made_same terms _ _ _ _ _ _ (omega arith) (omega (arith, first)) refl,
  record { spent = omega arith; narrow = omega (arith, narrow); links = λ k l. tt; apart = begins_apart terms },
)

-- one more event leaves the state of the longer history
pub goes_on_sound : LinkBegins → LinkGoesOn → IdsGrow → SessionGoesOn
unfolding made
goes_on_sound begins step grow terms h e sound may =
    let life = places_step live_begins live_after live_state IsAttached live_may (IsSoundPart terms) (handles terms) (λ handle. part handle h) in
    let links = life (happens e) (part_begins begins terms) (part_goes_on step terms) sound.links may.2 in
    let wide = widened terms.incoming_window (widenings h) (transfers h) (widened_by e) (one_if (is_transfer e)) sound.spent in
    let count = counted (stated_by e) (last_stated terms h) (since_stated h) (one_if (is_transfer e)) in
    let same : session_after (state_of terms h) e ≡ state_of terms (e ∷ h) = made_same terms _ _ _ _ _ _ wide count links.0 in (
      same,
      record {
        spent = spent_on terms h e sound may.0;
        narrow = narrow_on terms h e sound may.0;
        links = links.1;
        apart = subst (λ (s : SessionState). IsApart s) same (stays_apart grow (state_of terms h) e sound.apart may);
      },
    )

-- after any accepted events a session has the state of the history
pub all_sound : SessionBegins → SessionGoesOn → (terms : SessionTerms) (h : List SessionEvent) → terms.incoming_window < 2 ^ 31 → terms.next_outgoing_id < 2 ^ 32 → Accepted terms h →
    (after_all terms h ≡ state_of terms h) × Sound terms h
all_sound begins step terms [] narrow first all = begins terms narrow first
all_sound begins step terms (e ∷ h) narrow first all =
    let before = all_sound begins step terms h narrow first all.0 in
    let one = step terms h e before.1 (subst (λ (s : SessionState). SessionMay s e) before.0 all.1) in
    (ap (λ (s : SessionState). session_after s e) before.0 ∙ one.0, one.1)
