-- What was handed up of each link, life by life: what its own history says.
use Rattle.std.proofs.Common.{arith, ◌≡◌, ℕ, suc, ◌<◌, inl, inr, Bool, true, false, List, [], ◌∷◌, ◌++◌, map, refl, sym, ap, ◌∙◌, subst, Option, Some, None}
use Rattle.std.specs.Prelude.{if◌then◌else◌, ◌&&◌, nat_eq, filter, option_map, slice_get, unwrap_or}
use Rattle.std.proofs.lemmas.Bool.{eqb-true, eq-eqb}
use Rattle.std.proofs.lemmas.Bool.Decides.{eqb_tells}
use Rattle.std.proofs.lemmas.List.{append-nil, map-append}
use Rattle.std.proofs.lemmas.List.Elements.{filter-append}
use Rattle.amqp_link.specs.Links.{LinkEvent, Transferred, FlowStated, Delivery}
use Rattle.amqp_link.specs.Histories.{followed_by, handed_up_by, handed_up}
use Rattle.amqp_session.specs.declared.slot.Slot.{Slot}
use Rattle.amqp_session.specs.declared.slot.Slot.TheVariants.{Free, Live, Waits}
use Rattle.amqp_session.specs.declared.terms.SessionTerms.{SessionTerms}
use Rattle.amqp_session.specs.Histories as lived
use Rattle.amqp_session.specs.Places.{GoesOn, Life, slot_map, lived_on, life_after, life_state, states}
use Rattle.amqp_session.proofs.Places.{got}
use Rattle.amqp_session.proofs.Tables.{same_live}
use Rattle.amqp_session.specs.Sessions as of_session
use Rattle.amqp_session.specs.Sessions.{Attached, LiveLink, SessionState, SessionEvent, SessionMay}
use Rattle.amqp_endpoint.specs.Configs.{Configured}
use Rattle.amqp_endpoint.specs.Connections as event
use Rattle.amqp_endpoint.specs.Connections.{ConnectionState, ConnectionEvent, ConnectionMay, slot_at, happens}
use Rattle.amqp_endpoint.specs.Histories.{part, state_of}
use Rattle.amqp_endpoint.specs.Runs.{Handed, handed_of}
use Rattle.amqp_endpoint.specs.Takings.{Taking, attaches_at, attaches_on, lives, handed_up_in, taking_on, takings, is_of, taken_in, part_in, link_part, link_in, link_at}
use Rattle.amqp_endpoint.proofs.LinkLives.{more, Went, goes_there, event_at, went_on}

-- What one event hands up. ----------------------------------------------------------------------------------------------

nothing_either : (b : Bool) (o : Option Delivery) → o ≡ None → (if b then o else None) ≡ None
nothing_either true o e = e
nothing_either false o e = refl

-- what is handed up at this handle
abbrev pub at_handle : ℕ → Option (ℕ × Delivery) → Option Delivery
at_handle handle None = None
at_handle handle (Some x) = if nat_eq x.0 handle then Some x.1 else None

at_place : (handle place : ℕ) (o : Option Delivery) → (if nat_eq place handle then o else None) ≡ at_handle handle (option_map (λ d. (place, d)) o)
at_place handle place None = nothing_either (nat_eq place handle) None refl
at_place handle place (Some d) = refl

-- what the event of a link hands up, if there is one
abbrev given_by : Option LinkEvent → Option Delivery
given_by None = None
given_by (Some x) = handed_up_by x

either_given : (b : Bool) (o : Option LinkEvent) → (if b then given_by o else None) ≡ given_by (if b then o else None)
either_given true o = refl
either_given false o = refl

quiet_given : (b : Bool) (x : LinkEvent) → handed_up_by x ≡ None → None ≡ given_by (if b then Some x else None)
quiet_given true x none = sym none
quiet_given false x none = refl

given_there : (handle : ℕ) (e : SessionEvent) → at_handle handle (handed_up_in e) ≡ given_by (goes_there handle (of_session.happens e))
given_there handle (of_session.Called place x) = sym (at_place handle place (handed_up_by x)) ∙ either_given (nat_eq place handle) (Some x)
given_there handle (of_session.TransferCame place t) = quiet_given (nat_eq place handle) (Transferred t) refl
given_there handle (of_session.LinkFlowCame place next_id count) = quiet_given (nat_eq place handle) (FlowStated count) refl
given_there handle e = refl

-- what it hands up at a handle of the session on a channel
abbrev pub given_at : ℕ → ℕ → ConnectionEvent → Option Delivery
given_at channel handle (event.InSession place e) = if nat_eq place channel then at_handle handle (handed_up_in e) else None
given_at channel handle e = None

given_is : (channel handle : ℕ) (e : ConnectionEvent) → given_at channel handle e ≡ given_by (event_at channel handle e)
given_is channel handle (event.InSession place e) =
    ap (λ (o : Option Delivery). if nat_eq place channel then o else None) (given_there handle e) ∙ either_given (nat_eq place channel) (goes_there handle (of_session.happens e))
given_is channel handle e = refl

more_handed : (o : Option LinkEvent) (h : List LinkEvent) → handed_up (more o h) ≡ followed_by (handed_up h) (given_by o)
more_handed None h = refl
more_handed (Some x) h = refl

-- What is taken. --------------------------------------------------------------------------------------------------------

-- the message of a delivery that was handed up
abbrev pub messages : Option Delivery → List Handed
messages None = []
messages (Some d) = handed_of d ∷ []

none_picked : (b : Bool) (l : List Handed) → l ≡ [] → (if b then l else []) ≡ []
none_picked true l e = e
none_picked false l e = refl

no_message : (a b : Bool) → (if a then messages (if b then None else None) else []) ≡ []
no_message a true = none_picked a [] refl
no_message a false = none_picked a [] refl

picked : (b : Bool) (t : Taking) → map (λ t. t.handed) (if b then t ∷ [] else []) ≡ (if b then t.handed ∷ [] else [])
picked true t = refl
picked false t = refl

tested : (at_channel at_place of_life now : Bool) (d : Delivery) → (at_channel ≡ true → at_place ≡ true → of_life ≡ now) →
    (if at_channel && at_place && of_life then handed_of d ∷ [] else []) ≡ (if now then messages (if at_channel then (if at_place then Some d else None) else None) else [])
tested true true of_life now d same = ap (λ (b : Bool). if b then handed_of d ∷ [] else []) (same refl refl)
tested true false of_life now d same = sym (none_picked now [] refl)
tested false at_place of_life now d same = sym (none_picked now [] refl)

module _ (channel handle n : ℕ) where
  -- those of one life
  unfoldable pub of_these : List Taking → List Handed
  of_these ts = map (λ t. t.handed) (filter (is_of channel handle n) ts)

  these_more : (ts us : List Taking) → of_these (ts ++ us) ≡ of_these ts ++ of_these us
  unfolding of_these
  these_more ts us = ap (λ (x : List Taking). map (λ t. t.handed) x) (filter-append (is_of channel handle n) ts us)
      ∙ map-append (λ t. t.handed) (filter (is_of channel handle n) ts) (filter (is_of channel handle n) us)

  by_handed : (place : ℕ) (h : List ConnectionEvent) (ts : List Taking) (o : Option (ℕ × Delivery)) → of_these (followed_by ts (option_map (taking_on place h) o)) ≡
      of_these ts ++ (if nat_eq (lives channel handle h) n then messages (if nat_eq place channel then at_handle handle o else None) else [])
  unfolding of_these
  by_handed place h ts None = sym (ap (λ (x : List Handed). of_these ts ++ x) (no_message (nat_eq (lives channel handle h) n) (nat_eq place channel)) ∙ append-nil (of_these ts))
  by_handed place h ts (Some x) =
      let t = taking_on place h x in
      let life = λ (a b : ℕ). lives a b h in
      these_more ts (t ∷ []) ∙ ap (λ (y : List Handed). of_these ts ++ y) (picked (is_of channel handle n t) t
      ∙ tested (nat_eq place channel) (nat_eq x.0 handle) (nat_eq (lives place x.0 h) n) (nat_eq (lives channel handle h) n) x.1
      (λ a b. ap (λ (c : ℕ). nat_eq (life c x.0) n) (eqb-true place channel a) ∙ ap (λ (c : ℕ). nat_eq (life channel c) n) (eqb-true x.0 handle b)))

  not_handed : (b : Bool) (ts : List Taking) → of_these ts ≡ of_these ts ++ (if b then [] else [])
  not_handed b ts = sym (ap (λ (x : List Handed). of_these ts ++ x) (none_picked b [] refl) ∙ append-nil (of_these ts))

  -- one event more
  pub taken_more : (e : ConnectionEvent) (h : List ConnectionEvent) →
      of_these (takings (e ∷ h)) ≡ of_these (takings h) ++ (if nat_eq (lives channel handle h) n then messages (given_at channel handle e) else [])
  taken_more (event.InSession place e) h = by_handed place h (takings h) (handed_up_in e)
  taken_more event.HeaderCame h = not_handed (nat_eq (lives channel handle h) n) (takings h)
  taken_more event.HeaderRefused h = not_handed (nat_eq (lives channel handle h) n) (takings h)
  taken_more (event.Opened m c said) h = not_handed (nat_eq (lives channel handle h) n) (takings h)
  taken_more event.Broken h = not_handed (nat_eq (lives channel handle h) n) (takings h)
  taken_more event.Failed h = not_handed (nat_eq (lives channel handle h) n) (takings h)
  taken_more event.CloseAsked h = not_handed (nat_eq (lives channel handle h) n) (takings h)
  taken_more event.PeerClosed h = not_handed (nat_eq (lives channel handle h) n) (takings h)
  taken_more event.Lost h = not_handed (nat_eq (lives channel handle h) n) (takings h)
  taken_more (event.Begun place terms) h = not_handed (nat_eq (lives channel handle h) n) (takings h)
  taken_more (event.SessionFailed place) h = not_handed (nat_eq (lives channel handle h) n) (takings h)
  taken_more (event.SessionEnded place) h = not_handed (nat_eq (lives channel handle h) n) (takings h)
  taken_more event.Ignored h = not_handed (nat_eq (lives channel handle h) n) (takings h)
  taken_more event.Finished h = not_handed (nat_eq (lives channel handle h) n) (takings h)

  -- it is of no other life
  other_life : (e : ConnectionEvent) (h : List ConnectionEvent) → nat_eq (lives channel handle h) n ≡ false → of_these (takings h) ≡ [] → of_these (takings (e ∷ h)) ≡ []
  other_life e h other none = taken_more e h ∙ ap (λ (b : Bool). of_these (takings h) ++ (if b then messages (given_at channel handle e) else [])) other ∙ append-nil (of_these (takings h)) ∙ none

-- What is kept true. ----------------------------------------------------------------------------------------------------

-- a lower number is another
pub below_not : (a b : ℕ) → a < b → nat_eq a b ≡ false
below_not a b l =
    elim (eqb_tells a b) [
      | inl same ↦ absurd (omega (arith, same.1, l))
      | inr other ↦ other.0
    ]

handed_more : (ds : List Delivery) (o : Option Delivery) → map handed_of ds ++ messages o ≡ map handed_of (followed_by ds o)
handed_more ds None = append-nil (map handed_of ds)
handed_more ds (Some d) = sym (map-append handed_of ds (d ∷ []))

module _ (channel handle : ℕ) where
  record IsCounted (h : List ConnectionEvent) : Type 0 where
    -- nothing was taken in a life that is to come
    pub later : (n : ℕ) → lives channel handle h < n → of_these channel handle n (takings h) ≡ []
    pub now : (a : Attached) (past : List LinkEvent) → link_part channel handle h ≡ Live (a, past) → of_these channel handle (lives channel handle h) (takings h) ≡ map handed_of (handed_up past)

  -- a life that is to come was to come before
  pub life_more : (starts : Bool) (n m : ℕ) → (if starts then suc m else m) < n → m < n
  life_more true n m l = omega (arith, l)
  life_more false n m l = l

  now_more : (e : ConnectionEvent) (h : List ConnectionEvent) (a : Attached) (past : List LinkEvent) → IsCounted h →
      Went (attaches_on channel handle e) (event_at channel handle e) (link_part channel handle h) a past →
      of_these channel handle (lives channel handle (e ∷ h)) (takings (e ∷ h)) ≡ map handed_of (handed_up past)
  now_more e h a past c (inl x) =
      let n = lives channel handle h in
      let none = other_life channel handle (suc n) e h (below_not n (suc n) (omega arith)) (c.later (suc n) (omega arith)) in
      ap (λ (b : Bool). of_these channel handle (if b then suc n else n) (takings (e ∷ h))) x.0 ∙ none ∙ ap (λ (l : List LinkEvent). map handed_of (handed_up l)) (sym x.1)
  now_more e h a past c (inr x) =
      let n = lives channel handle h in
      let given = given_at channel handle e in
      let up : handed_up past ≡ followed_by (handed_up x.1) given = ap (λ (l : List LinkEvent). handed_up l) x.3 ∙ more_handed (event_at channel handle e) x.1
      ∙ ap (λ (o : Option Delivery). followed_by (handed_up x.1) o) (sym (given_is channel handle e)) in
      ap (λ (b : Bool). of_these channel handle (if b then suc n else n) (takings (e ∷ h))) x.0
      ∙ taken_more channel handle n e h
      ∙ ap (λ (b : Bool). of_these channel handle n (takings h) ++ (if b then messages given else [])) (eq-eqb n n refl)
      ∙ ap (λ (l : List Handed). l ++ messages given) (c.now a x.1 x.2)
      ∙ handed_more (handed_up x.1) given
      ∙ ap (λ (l : List Delivery). map handed_of l) (sym up)

  counted : (h : List ConnectionEvent) → IsCounted h
  unfolding of_these
  counted [] = record { later = λ n l. refl; now = λ a past e. absurd (grind (arith, e)) }
  counted (e ∷ h) = record {
    later = λ n l. let less = life_more (attaches_on channel handle e) n (lives channel handle h) l in other_life channel handle n e h (below_not (lives channel handle h) n less)
        ((counted h).later n less);
    now = λ a past is. now_more e h a past (counted h) (went_on channel handle e (part channel h) a past is);
  }

  -- of the link that lives at a place, what was taken in its life is what its part hands up
  pub taken_by_part : (h : List ConnectionEvent) (a : Attached) (past : List LinkEvent) → link_part channel handle h ≡ Live (a, past) →
      taken_in channel handle (lives channel handle h) h ≡ map handed_of (handed_up past)
  unfolding of_these
  taken_by_part h a past e = (counted h).now a past e

-- Where no link lives nothing is taken. ---------------------------------------------------------------------------------

where_none : {T : Type 0} (b : Bool) (o : Option T) → (b ≡ true → o ≡ None) → (if b then o else None) ≡ None
where_none true o h = h refl
where_none false o h = refl

none_at : (t : SessionState) (handle : ℕ) (e : SessionEvent) → SessionMay t e → ((l : LiveLink) → of_session.slot_at t handle ≡ Live l → ⊥) → at_handle handle (handed_up_in e) ≡ None
none_at t handle (of_session.Called place x) may none =
    sym (at_place handle place (handed_up_by x)) ∙ where_none (nat_eq place handle) (handed_up_by x)
    (λ same. absurd (none may.2.0 (ap (λ (k : ℕ). unwrap_or (slice_get t.links k) Free) (sym (eqb-true place handle same)) ∙ ap (λ (o : Option (Slot LiveLink)). unwrap_or o Free) may.2.1)))
none_at t handle (of_session.LinkAttached place a) may none = refl
none_at t handle (of_session.LinkRefused place) may none = refl
none_at t handle (of_session.TransferCame place x) may none = refl
none_at t handle (of_session.TransferEnded place) may none = refl
none_at t handle (of_session.LinkFlowCame place next_id count) may none = refl
none_at t handle (of_session.LinkFlowEnded place next_id) may none = refl
none_at t handle (of_session.PeerSettled first last) may none = refl
none_at t handle (of_session.Settled first last) may none = refl
none_at t handle (of_session.PeerDetached place) may none = refl
none_at t handle (of_session.Detached place) may none = refl
none_at t handle (of_session.Widened n) may none = refl
none_at t handle (of_session.TransferDropped place) may none = refl
none_at t handle (of_session.FlowCame next_id) may none = refl
none_at t handle of_session.Ignored may none = refl

none_given : (s : ConnectionState) (channel handle : ℕ) (e : ConnectionEvent) → ConnectionMay s e → ((l : LiveLink) → link_at s channel handle ≡ Live l → ⊥) → given_at channel handle e ≡ None
none_given s channel handle (event.InSession place e) may none =
    where_none (nat_eq place channel) (at_handle handle (handed_up_in e)) (λ same.
    let here : slot_at s channel ≡ Live may.2.0 = ap (λ (k : ℕ). unwrap_or (slice_get s.sessions k) Free) (sym (eqb-true place channel same))
    ∙ ap (λ (o : Option (Slot SessionState)). unwrap_or o Free) may.2.1 in
    none_at may.2.0 handle e may.2.2.0 (λ l at. none l (ap (λ (x : Slot SessionState). link_in handle x) here ∙ at)))
none_given s channel handle event.HeaderCame may none = refl
none_given s channel handle event.HeaderRefused may none = refl
none_given s channel handle (event.Opened m c said) may none = refl
none_given s channel handle event.Broken may none = refl
none_given s channel handle event.Failed may none = refl
none_given s channel handle event.CloseAsked may none = refl
none_given s channel handle event.PeerClosed may none = refl
none_given s channel handle event.Lost may none = refl
none_given s channel handle (event.Begun place terms) may none = refl
none_given s channel handle (event.SessionFailed place) may none = refl
none_given s channel handle (event.SessionEnded place) may none = refl
none_given s channel handle event.Ignored may none = refl
none_given s channel handle event.Finished may none = refl

no_messages : (b : Bool) (o : Option Delivery) → (b ≡ true → o ≡ None) → (if b then messages o else []) ≡ []
no_messages true o h = ap (λ (x : Option Delivery). messages x) (h refl)
no_messages false o h = refl

-- in a life that has ended, or is to come, nothing more is taken
pub still_taken : (s : ConnectionState) (h : List ConnectionEvent) (e : ConnectionEvent) (channel handle life : ℕ) → ConnectionMay s e →
    ((l : LiveLink) → link_at s channel handle ≡ Live l → lives channel handle h ≡ life → ⊥) → taken_in channel handle life (e ∷ h) ≡ taken_in channel handle life h
unfolding of_these
still_taken s h e channel handle life may none =
    taken_more channel handle life e h
    ∙ ap (λ (l : List Handed). of_these channel handle life (takings h) ++ l)
    (no_messages (nat_eq (lives channel handle h) life) (given_at channel handle e)
    (λ same. none_given s channel handle e may (λ l at. none l at (eqb-true (lives channel handle h) life same))))
    ∙ append-nil (of_these channel handle life (takings h))

-- Where a link hands something up it lives on. ------------------------------------------------------------------------------

chosen : {T : Type 0} (b : Bool) (o : Option T) (t : T) → (if b then o else None) ≡ Some t → (b ≡ true) × (o ≡ Some t)
chosen true o t e = (refl, e)
chosen false o t e = absurd (grind (arith, e))

life_of : {B E T : Type 0} (state : B → List E → T) (x : Slot (Life B E)) (t : T) → life_state state x ≡ Live t → (y : Life B E) × (x ≡ Live y) × (t ≡ state y.0 y.1)
life_of state Free t e = absurd (grind (arith, e))
life_of state (Live y) t e = (y, refl, sym (same_live (state y.0 y.1) t e))
life_of state Waits t e = absurd (grind (arith, e))

-- what lives in a table has a life
life_at : {B E T : Type 0} (state : B → List E → T) (n : ℕ) (lives_at : ℕ → Slot (Life B E)) (k : ℕ) (t : T) → slice_get (states state n lives_at) k ≡ Some (Live t) →
    (y : Life B E) × (lives_at k ≡ Live y) × (t ≡ state y.0 y.1)
life_at state n lives_at k t e = life_of state (lives_at k) t (got n (λ j. life_state state (lives_at j)) k (Live t) e).1

goes_here : {B E : Type 0} (k place : ℕ) (e : E) (s : Slot (Life B E)) (y : Life B E) → nat_eq place k ≡ true → s ≡ Live y → life_after k (GoesOn place e) s ≡ Live (lived_on y e)
goes_here {B} {E} k place e s y same is =
    ap (λ (b : Bool). if b then slot_map (λ l. lived_on l e) s else s) same ∙ ap (λ (x : Slot (Life B E)). slot_map (λ l. lived_on l e) x) is

-- the event of a session that hands a delivery up is its link's, which lives on
gives_in : (terms : SessionTerms) (h : List SessionEvent) (handle : ℕ) (e : SessionEvent) (d : Delivery) → SessionMay (lived.state_of terms h) e → at_handle handle (handed_up_in e) ≡ Some d →
    ((y : Life Attached LinkEvent) × (lived.part handle (e ∷ h) ≡ Live y)) × (attaches_at handle e ≡ false)
gives_in terms h handle (of_session.Called place x) d may given =
    let here = (chosen (nat_eq place handle) (handed_up_by x) d (at_place handle place (handed_up_by x) ∙ given)).0 in
    let l = life_at lived.live_state (of_session.handles terms) (λ k. lived.part k h) place may.2.0 may.2.1 in
    let at : lived.part handle h ≡ Live l.0 = ap (λ (k : ℕ). lived.part k h) (sym (eqb-true place handle here)) ∙ l.1 in
    ((lived_on l.0 x, goes_here handle place x (lived.part handle h) l.0 here at), refl)
gives_in terms h handle e d may given = absurd (grind (arith, given))

and_false : (b : Bool) (c : Bool) → c ≡ false → (b && c) ≡ false
and_false true c e = e
and_false false c e = refl

-- the same of a connection
pub gives_there : (config : Configured) (h : List ConnectionEvent) (channel handle : ℕ) (e : ConnectionEvent) (d : Delivery) → ConnectionMay (state_of config h) e → given_at channel handle e ≡ Some d →
    ((y : Life Attached LinkEvent) × (link_part channel handle (e ∷ h) ≡ Live y)) × (attaches_on channel handle e ≡ false)
gives_there config h channel handle (event.InSession place e) d may given =
    let c = chosen (nat_eq place channel) (at_handle handle (handed_up_in e)) d given in
    let s = life_at lived.state_of (event.channels config) (λ k. part k h) place may.2.0 may.2.1 in
    let at : part channel h ≡ Live s.0 = ap (λ (k : ℕ). part k h) (sym (eqb-true place channel c.0)) ∙ s.1 in
    let may_there = subst (λ (t : SessionState). SessionMay t e) s.2 may.2.2.0 in
    let l = gives_in s.0.0 s.0.1 handle e d may_there c.1 in
    let after : part channel (event.InSession place e ∷ h) ≡ Live (lived_on s.0 e) = goes_here channel place e (part channel h) s.0 c.0 at in
    ((l.0.0, ap (λ (x : Slot (Life SessionTerms SessionEvent)). part_in handle x) after ∙ l.0.1), and_false (nat_eq place channel) (attaches_at handle e) l.1)
gives_there config h channel handle e d may given = absurd (grind (arith, given))

-- an event behind which the link of a life does not live hands nothing up in it
pub ended_taken : (config : Configured) (h : List ConnectionEvent) (e : ConnectionEvent) (channel handle life : ℕ) → ConnectionMay (state_of config h) e →
    ((y : Life Attached LinkEvent) → link_part channel handle (e ∷ h) ≡ Live y → lives channel handle (e ∷ h) ≡ life → ⊥) → taken_in channel handle life (e ∷ h) ≡ taken_in channel handle life h
unfolding of_these
ended_taken config h e channel handle life may none =
    taken_more channel handle life e h
    ∙ ap (λ (l : List Handed). of_these channel handle life (takings h) ++ l)
    (no_messages (nat_eq (lives channel handle h) life) (given_at channel handle e) (λ same. nothing (given_at channel handle e) refl (eqb-true (lives channel handle h) life same)))
    ∙ append-nil (of_these channel handle life (takings h))
  where
    nothing : (o : Option Delivery) → given_at channel handle e ≡ o → lives channel handle h ≡ life → o ≡ None
    nothing None is same = refl
    nothing (Some d) is same =
        let g = gives_there config h channel handle e d may is in
        absurd (none g.0.0 g.0.1 (ap (λ (b : Bool). if b then suc (lives channel handle h) else lives channel handle h) g.1 ∙ same))
