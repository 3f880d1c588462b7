-- The messages that are told are those that the history hands up, and of each link they are the first of its whole deliveries.
use Rattle.std.proofs.Common.{arith, ◌≡◌, ℕ, ◌+◌, ◌<◌, ◌≤◌, not, List, [], ◌∷◌, ◌++◌, length, map, take, drop, refl, sym, ap, ◌∙◌, subst, Option, Some, None}
use Rattle.std.specs.Prelude.{filter, option_map, unwrap_or, slice_get}
use Rattle.std.specs.List.{flat_map}
use Rattle.std.proofs.lemmas.List.{append-nil, map-append, length-map}
use Rattle.std.proofs.lemmas.Grind.{flat_map-append}
use Rattle.amqp_link.specs.declared.terms.Terms.{Terms}
use Rattle.amqp_link.specs.Bounds.{Bounds}
use Rattle.amqp_link.specs.Links.{LinkEvent, Delivery, first_ready, open_count}
use Rattle.amqp_link.specs.Histories as link
use Rattle.amqp_link.specs.Histories.{followed_by, handed_up, wholes, content, shown}
use Rattle.amqp_session.specs.declared.slot.Slot.{Slot}
use Rattle.amqp_session.specs.declared.slot.Slot.TheVariants.{Free, Live, Waits}
use Rattle.amqp_session.specs.declared.terms.SessionTerms.{SessionTerms}
use Rattle.amqp_session.specs.Calls as asks
use Rattle.amqp_session.specs.Calls.{call_event, take_event, first_taken}
use Rattle.amqp_session.specs.Histories as lived
use Rattle.amqp_session.specs.Places.{Life, IfLive, life_state, states}
use Rattle.amqp_session.specs.Sessions as of_session
use Rattle.amqp_session.specs.Sessions.{Attached, LiveLink, SessionState, SessionEvent}
use Rattle.amqp_session.proofs.Places.{got}
use Rattle.amqp_session.proofs.FrameEvents.{IsOfFrames, of_frame}
use Rattle.amqp_session.proofs.Tables.{same_live}
use Rattle.amqp_endpoint.specs.declared.event.Event.{Event}
use Rattle.amqp_endpoint.specs.Configs.{Configured, bounds_for}
use Rattle.amqp_endpoint.specs.Connections as event
use Rattle.amqp_endpoint.specs.Connections.{ConnectionState, ConnectionEvent, HasBounds, channels, slot_at, connection_ready}
use Rattle.amqp_endpoint.specs.Calls as calls
use Rattle.amqp_endpoint.specs.Histories.{part, state_of, IsSoundPart, Sound}
use Rattle.amqp_endpoint.specs.Lines.{Line, line_of, event_on, told_on}
use Rattle.amqp_endpoint.specs.Lines as line
use Rattle.amqp_endpoint.specs.Runs.{InSession, Close, CloseWith, Heartbeat, Accepted, Dropped, Handed, handed_of, handed, link_handed, session_answer, accepted_answer, Happened}
use Rattle.amqp_endpoint.specs.Runs.{Acted, Called, Closed, ClosedWith, Beat, Over, events}
use Rattle.amqp_endpoint.specs.Credits.{granted_since}
use Rattle.amqp_endpoint.proofs.Grants.{grants_of_life}
use Rattle.amqp_endpoint.specs.Takings.{Taking, lives, handed_up_in, taking_on, taking_by, takings, taken_in, part_in, link_part, link_in, link_at, content_of, HasItsPart}
use Rattle.amqp_endpoint.specs.Traces.{Told, Tells, Done, Ends, event_told, tellings, message_in, placed}
use Rattle.amqp_endpoint.proofs.Takings.{taken_by_part}

-- Frames hand nothing up. -----------------------------------------------------------------------------------------------

frames_quiet : IsOfFrames handed_up_in None
frames_quiet = record {
  flows = record { ignored = refl; of_session = λ n. refl; of_link = λ handle n count. refl; ended = λ handle n. refl };
  attached = λ handle a. refl;
  refused = λ handle. refl;
  came = λ handle t. refl;
  ended = λ handle. refl;
  dropped = λ handle. refl;
  settled = λ first last. refl;
  detached = λ handle. refl;
}

unit_quiet : (s : ConnectionState) (h : List ConnectionEvent) (l : Line) → taking_by h (event_on s l) ≡ None
unit_quiet s h (line.SessionFrame channel live f) = ap (λ (o : Option (ℕ × Delivery)). option_map (taking_on channel h) o) (of_frame handed_up_in None frames_quiet live f)
unit_quiet s h _ = refl

-- What is told. ---------------------------------------------------------------------------------------------------------

event_silent : (ts : List Told) (o : Option Event) → flat_map message_in (ts ++ event_told o) ≡ flat_map message_in ts
event_silent ts None = ap (λ (x : List Told). flat_map message_in x) (append-nil ts)
event_silent ts (Some e) = flat_map-append message_in ts (Tells e ∷ []) ∙ append-nil (flat_map message_in ts)

-- what a take hands up is what its event does
taken_told : (channel handle : ℕ) (h : List ConnectionEvent) (o : Option Delivery) →
    message_in (Done (InSession channel (asks.Take handle)) (handed o)) ≡ map placed (followed_by [] (taking_by h (event.InSession channel (first_taken handle o))))
taken_told channel handle h None = refl
taken_told channel handle h (Some d) = refl

link_told : (channel handle : ℕ) (h : List ConnectionEvent) (x : Slot LiveLink) →
    message_in (Done (InSession channel (asks.Take handle)) (link_handed x)) ≡ map placed (followed_by [] (taking_by h (event.InSession channel (take_event handle x))))
link_told channel handle h Free = refl
link_told channel handle h (Live l) = taken_told channel handle h (first_ready l.link)
link_told channel handle h Waits = refl

session_told : (channel : ℕ) (h : List ConnectionEvent) (s : SessionState) (c : asks.Call) →
    message_in (Done (InSession channel c) (session_answer s c)) ≡ map placed (followed_by [] (taking_by h (event.InSession channel (call_event s c))))
session_told channel h s (asks.Take handle) = link_told channel handle h (of_session.slot_at s handle)
session_told channel h s (asks.Widen n) = refl
session_told channel h s (asks.Grant handle n) = refl
session_told channel h s (asks.Drain handle) = refl
session_told channel h s (asks.Settle id o) = refl
session_told channel h s (asks.SettleRange first last o) = refl
session_told channel h s (asks.Detach handle) = refl
session_told channel h s (asks.Refuse handle r) = refl
session_told channel h s (asks.SettleWith id r) = refl
session_told channel h s (asks.SettleRangeWith first last r) = refl

call_told : (channel : ℕ) (h : List ConnectionEvent) (x : Slot SessionState) (c : asks.Call) →
    message_in (Done (InSession channel c) (accepted_answer x c)) ≡ map placed (followed_by [] (taking_by h (calls.slot_event channel x c)))
call_told channel h Free c = refl
call_told channel h (Live s) c = session_told channel h s c
call_told channel h Waits c = refl

placed_more : (ts : List Taking) (o : Option Taking) → map placed ts ++ map placed (followed_by [] o) ≡ map placed (followed_by ts o)
placed_more ts None = append-nil (map placed ts)
placed_more ts (Some t) = sym (map-append placed ts (t ∷ []))

-- it hands nothing up
silent : (ts : List Told) (t : Told) → message_in t ≡ [] → flat_map message_in (ts ++ t ∷ []) ≡ flat_map message_in ts
silent ts t e =
    flat_map-append message_in ts (t ∷ []) ∙ ap (λ (x : List (ℕ × ℕ × Handed)). flat_map message_in ts ++ (x ++ [])) e ∙ append-nil (flat_map message_in ts)

-- the messages that are told are those that the history hands up
pub messages_told : (config : Configured) (h : List Happened) → flat_map message_in (tellings config h) ≡ map placed (takings (events config h))
messages_told config [] = refl
messages_told config (Acted u ∷ h) =
    let past = events config h in
    let s = state_of config past in
    event_silent (tellings config h) (told_on s (line_of s u)) ∙ messages_told config h ∙ ap (λ (o : Option Taking). map placed (followed_by (takings past) o)) (sym (unit_quiet s past (line_of s u)))
messages_told config (Called channel c ∷ h) =
    let past = events config h in
    let s = state_of config past in
    let t = Done (InSession channel c) (accepted_answer (slot_at s channel) c) in
    flat_map-append message_in (tellings config h) (t ∷ []) ∙ ap (λ (x : List (ℕ × ℕ × Handed)). x ++ flat_map message_in (t ∷ [])) (messages_told config h)
    ∙ ap (λ (x : List (ℕ × ℕ × Handed)). map placed (takings past) ++ x) (append-nil (message_in t) ∙ call_told channel past (slot_at s channel) c)
    ∙ placed_more (takings past) (taking_by past (calls.call_event s channel c))
messages_told config (Closed ∷ h) = silent (tellings config h) (Done Close (Dropped (connection_ready (state_of config (events config h))))) refl ∙ messages_told config h
messages_told config (ClosedWith r ∷ h) = silent (tellings config h) (Done (CloseWith r) (Dropped (connection_ready (state_of config (events config h))))) refl ∙ messages_told config h
messages_told config (Beat ∷ h) = silent (tellings config h) (Done Heartbeat Accepted) refl ∙ messages_told config h
messages_told config (Over ∷ h) = silent (tellings config h) Ends refl ∙ messages_told config h

-- What is taken of a link that lives. -----------------------------------------------------------------------------------

-- what lives at a place has a life
pub record HasLife {B E T : Type 0} (state : B → List E → T) (n : ℕ) (lives_at : ℕ → Slot (Life B E)) (k : ℕ) (t : T) : Type 0 where
  pub begin : B
  pub past : List E
  pub below : k < n
  pub stands : lives_at k ≡ Live (begin, past)
  pub is : t ≡ state begin past

module _ {B E T : Type 0} (state : B → List E → T) (n : ℕ) (lives_at : ℕ → Slot (Life B E)) (k : ℕ) where
  life_here : (x : Slot (Life B E)) (t : T) → k < n → lives_at k ≡ x → life_state state x ≡ Live t → HasLife state n lives_at k t
  life_here Free t l here e = absurd (grind (arith, e))
  life_here (Live y) t l here e = record { begin = y.0; past = y.1; below = l; stands = here; is = sym (same_live (state y.0 y.1) t e) }
  life_here Waits t l here e = absurd (grind (arith, e))

  standing : (o : Option (Slot T)) (t : T) → slice_get (states state n lives_at) k ≡ o → unwrap_or o Free ≡ Live t → HasLife state n lives_at k t
  standing None t here e = absurd (grind (arith, e))
  standing (Some x) t here e =
      let at = got n (λ j. life_state state (lives_at j)) k (Live t) (here ∙ ap (λ (y : Slot T). Some y) e) in
      life_here (lives_at k) t at.0 refl at.1

  pub has_life : (t : T) → unwrap_or (slice_get (states state n lives_at) k) Free ≡ Live t → HasLife state n lives_at k t
  has_life t e = standing (slice_get (states state n lives_at) k) t refl e

-- what a link hands up, as it is handed to the application
same_content : (ds : List Delivery) → map content_of (map handed_of ds) ≡ map link.content_of ds
same_content [] = refl
same_content (d ∷ ds) = ap (λ (cs : List link.Content). link.content_of d ∷ cs) (same_content ds)

-- what a link owes of its open deliveries
abbrev pub OpenSelected : Type 0
OpenSelected = (terms : Terms) (h : List LinkEvent) → open_count (link.state_of terms h) ≡ length (filter (link.is_open terms h) (link.groups h))

allowed_in : (a b : Bounds) → a ≡ b → a.allowed ≡ b.allowed
allowed_in a b e = ap (λ (x : Bounds). x.allowed) e

-- what a link hands up are the first of its whole deliveries
pub first_of : (a : Attached) (past : List LinkEvent) (taken : List Handed) → link.Sound a.terms past → taken ≡ map handed_of (handed_up past) →
    map content_of taken ≡ map content (take (length taken) (wholes past))
first_of a past taken sound all =
    let long : length taken ≡ length (handed_up past) = ap (λ (x : List Handed). length x) all ∙ length-map (handed_up past) handed_of in
    ap (λ (x : List Handed). map content_of x) all ∙ same_content (handed_up past) ∙ sound.front ∙ ap (λ (n : ℕ). map content (take n (wholes past))) (sym long)

has_part : OpenSelected → (config : Configured) (part : Slot (Life Attached LinkEvent)) (a : Attached) (past : List LinkEvent) (granted : ℕ) (taken : List Handed) (l : LiveLink) →
    part ≡ Live (a, past)
    → l ≡ lived.live_state a past → link.Sound a.terms past → link.grants past ≡ granted →
    HasBounds config a →
    taken ≡ map handed_of (handed_up past) → HasItsPart config part granted taken l
has_part select config part a past granted taken l stands is sound grants bounds all =
    let long : length taken ≡ length (handed_up past) = ap (λ (x : List Handed). length x) all ∙ length-map (handed_up past) handed_of in
    let allowed = allowed_in a.terms.bounds (bounds_for config a.name) bounds in
    let s = link.state_of a.terms past in
    let spent : s.credit + link.heads past + link.advances a.terms past ≡ link.grants past = omega (arith, sound.spent) in
    let within : s.credit + open_count s ≤ (bounds_for config a.name).allowed = omega (arith, sound.within, allowed) in
    record {
      attached = a;
      past = past;
      stands = stands;
      is = is;
      first = first_of a past taken sound all;
      stood = all ∙ ap (λ (x : List Delivery). map handed_of x) sound.stood;
      ready = ap (λ (x : LiveLink). x.link.ready) is ∙ ap (λ (n : ℕ). map (shown a.terms past) (drop n (wholes past))) (sym long);
      credit = ap (λ (x : LiveLink). x.link.credit + link.heads past + link.advances a.terms past) is ∙ spent ∙ grants;
      count = ap (λ (x : LiveLink). x.link.delivery_count) is;
      draining = ap (λ (x : LiveLink). x.link.draining) is;
      awaiting = ap (λ (x : LiveLink). x.link.awaiting) is
          ∙ ap (λ (n : ℕ). map (link.shown_awaiting a.terms past) (filter (λ g. not (link.is_settled a.terms past g)) (take n (wholes past)))) (sym long);
      opened = ap (λ (x : LiveLink). open_count x.link) is ∙ select a.terms past;
      within = subst (λ (x : LiveLink). x.link.credit + open_count x.link ≤ (bounds_for config x.name).allowed) (sym is) within;
    }

-- of a link that lives, the messages taken and the rest are what its part of the history gives
pub taken_in_order : OpenSelected → (config : Configured) (h : List ConnectionEvent) (channel handle : ℕ) (l : LiveLink) → Sound config h → link_at (state_of config h) channel handle ≡ Live l →
    HasItsPart config (link_part channel handle h) (granted_since channel handle h) (taken_in channel handle (lives channel handle h) h) l
taken_in_order select config h channel handle l sound here = by (slot_at (state_of config h) channel) refl here
  where
    of_link : (terms : SessionTerms) (past : List SessionEvent) → part channel h ≡ Live (terms, past) → IsSoundPart config terms past →
        HasLife lived.live_state (of_session.handles terms) (λ k. lived.part k past) handle l → HasItsPart config (link_part channel handle h) (granted_since channel handle h)
        (taken_in channel handle (lives channel handle h) h) l
    of_link terms past there well x =
        let part_is : link_part channel handle h ≡ Live (x.begin, x.past) = ap (λ (p : Slot (Life SessionTerms SessionEvent)). part_in handle p) there ∙ x.stands in
        let fine = subst (λ (p : Slot (Life Attached LinkEvent)). IfLive (λ life. lived.IsSoundPart terms life.0 life.1) p) x.stands (well.session.links handle x.below) in
        let bounds = subst (λ (p : Slot (Life Attached LinkEvent)). IfLive (λ (life : Life Attached LinkEvent). HasBounds config life.0) p) x.stands (well.limited handle) in
        let all = taken_by_part channel handle h x.begin x.past part_is in
        has_part select config (link_part channel handle h) x.begin x.past (granted_since channel handle h) (taken_in channel handle (lives channel handle h) h) l part_is x.is fine.link
        (grants_of_life channel handle h x.begin x.past part_is) bounds all

    of_session_at : (s : SessionState) → HasLife lived.state_of (channels config) (λ k. part k h) channel s → of_session.slot_at s handle ≡ Live l →
        HasItsPart config (link_part channel handle h) (granted_since channel handle h) (taken_in channel handle (lives channel handle h) h) l
    of_session_at s x at =
        let well = subst (λ (p : Slot (Life SessionTerms SessionEvent)). IfLive (λ life. IsSoundPart config life.0 life.1) p) x.stands (sound.sessions channel x.below) in
        let link_here = subst (λ (t : SessionState). of_session.slot_at t handle ≡ Live l) x.is at in
        of_link x.begin x.past x.stands well (has_life lived.live_state (of_session.handles x.begin) (λ k. lived.part k x.past) handle l link_here)

    by : (x : Slot SessionState) → slot_at (state_of config h) channel ≡ x → link_in handle x ≡ Live l → HasItsPart config (link_part channel handle h) (granted_since channel handle h)
        (taken_in channel handle (lives channel handle h) h) l
    by Free e is = absurd (grind (arith, is))
    by (Live s) e is = of_session_at s (has_life lived.state_of (channels config) (λ k. part k h) channel s e) is
    by Waits e is = absurd (grind (arith, is))
