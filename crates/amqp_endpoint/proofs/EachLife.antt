-- Of each life of a link, ended or not, the messages that were taken are the first of its whole deliveries.
use Rattle.std.proofs.Common.{arith, ◌≡◌, ℕ, ◌^◌, ◌<◌, inl, inr, Bool, true, false, List, [], ◌∷◌, map, refl, sym, ap, ◌∙◌, subst, Option, Some, None}
use Rattle.std.specs.Prelude.{if◌then◌else◌, nat_eq, slice_get}
use Rattle.std.proofs.lemmas.Bool.{eqb-true, eq-eqb}
use Rattle.amqp_link.specs.Histories as link
use Rattle.amqp_link.specs.Histories.{handed_up}
use Rattle.amqp_link.specs.Links.{LinkEvent}
use Rattle.amqp_session.specs.declared.slot.Slot.{Slot}
use Rattle.amqp_session.specs.declared.slot.Slot.TheVariants.{Free, Live, Waits}
use Rattle.amqp_session.specs.declared.terms.SessionTerms.{SessionTerms}
use Rattle.amqp_session.specs.Histories as lived
use Rattle.amqp_session.specs.Places.{Happens, Begins, GoesOn, AllGoOn, Life, IfLive, life_state, states, places_may}
use Rattle.amqp_session.specs.Sessions as of_session
use Rattle.amqp_session.specs.Sessions.{Attached, SessionEvent, SessionMay, IsAttached, live_may}
use Rattle.amqp_session.proofs.Places.{got, get_at}
use Rattle.amqp_session.proofs.Tables.{same_live}
use Rattle.amqp_endpoint.specs.Configs.{Configured}
use Rattle.amqp_endpoint.specs.Connections.{ConnectionState, ConnectionEvent, ConnectionMay, MayBeginWith, MayIn, channels, happens}
use Rattle.amqp_endpoint.specs.Histories.{part, state_of, IsSoundPart, Accepted}
use Rattle.amqp_endpoint.specs.Runs.{Handed, handed_of}
use Rattle.amqp_endpoint.specs.Takings.{lives, taken_in, part_in, link_part, last_part, lived_or, AreFirst}
use Rattle.amqp_endpoint.proofs.LinkLives.{more, begins_there, goes_there, went}
use Rattle.amqp_endpoint.proofs.Messages.{first_of}
use Rattle.amqp_endpoint.proofs.Steps.{ConnectionBegins, ConnectionGoesOn, all_sound}
use Rattle.amqp_endpoint.proofs.Takings.{taken_by_part, ended_taken}

-- What lives stands in the table. ---------------------------------------------------------------------------------------

module _ {B E T : Type 0} (Begin : B → Type 0) (May : T → E → Type 0) (state : B → List E → T) (n : ℕ) (lives_at : ℕ → Slot (Life B E)) (k : ℕ) where
  -- a life begins within it
  begun_within : (x : Happens B E) → begins_there k x ≡ true → places_may Begin May (states state n lives_at) x → k < n
  begun_within (Begins place b) is may =
      let at = got n (λ j. life_state state (lives_at j)) place Free may.0 in subst (λ (j : ℕ). j < n) (eqb-true place k is) at.0
  begun_within x is may = absurd (grind (arith, is))

  -- the event by which a life goes on is one that may come to it
  may_here : (place : ℕ) (b : Bool) (e other : E) (begin : B) (past : List E) → nat_eq place k ≡ b → (if b then Some other else None) ≡ Some e → lives_at k ≡ Live (begin, past) →
      (t : T) × (slice_get (states state n lives_at) place ≡ Some (Live t)) × May t other → May (state begin past) e
  may_here place false e other begin past same is here may = absurd (grind (arith, is))
  may_here place true e other begin past same is here may =
      let at = got n (λ j. life_state state (lives_at j)) place (Live may.0) may.1 in
      let stands : Live (state begin past) ≡ Live may.0 = sym (ap (λ (j : ℕ). life_state state (lives_at j)) (eqb-true place k same) ∙ ap (λ (y : Slot (Life B E)). life_state state y) here) ∙ at.1 in
      let it : other ≡ e = grind (arith, is) in
      subst (λ (x : E). May (state begin past) x) it (subst (λ (t : T). May t other) (sym (same_live (state begin past) may.0 stands)) may.2)

  may_come : (x : Happens B E) (e : E) (begin : B) (past : List E) → k < n → lives_at k ≡ Live (begin, past) → goes_there k x ≡ Some e → places_may Begin May (states state n lives_at) x →
      May (state begin past) e
  may_come (GoesOn place other) e begin past below here is may = may_here place (nat_eq place k) e other begin past refl is here may
  may_come (AllGoOn other) e begin past below here is may =
      let it : other ≡ e = grind (arith, is) in
      subst (λ (x : E). May (state begin past) x) it
      (may k (state begin past) (get_at n (λ j. life_state state (lives_at j)) k below ∙ ap (λ (y : Slot (Life B E)). Some (life_state state y)) here))
  may_come x e begin past below here is may = absurd (grind (arith, is))

no_life : {T : Type 0} (s : Slot T) (x : T) → s ≡ Free → s ≡ Live x → ⊥
no_life s x none here = grind (arith, none, here)

module _ (begins : ConnectionBegins) (goes_on : ConnectionGoesOn) (config : Configured) (narrow : config.window < 2 ^ 31) where
  may_there : (e : ConnectionEvent) (h : List ConnectionEvent) → Accepted config (e ∷ h) → ConnectionMay (state_of config h) e
  may_there e h all = subst (λ (s : ConnectionState). ConnectionMay s e) (all_sound begins goes_on config h narrow all.0).0 all.1

  session_within : (h : List ConnectionEvent) (channel : ℕ) (terms : SessionTerms) (past : List SessionEvent) → Accepted config h → part channel h ≡ Live (terms, past) → channel < channels config
  session_within [] channel terms past all is = absurd (grind (arith, is))
  session_within (e ∷ h) channel terms past all is =
      elim (went channel (happens e) terms (part channel h) past is) [
        | inl x ↦ begun_within (MayBeginWith config) (MayIn config) lived.state_of (channels config) (λ k. part k h) channel (happens e) x.0 (may_there e h all).2
        | inr x ↦ session_within h channel terms x.1 all.0 x.2
      ]

  -- the event by which a session goes on is one that may come to it
  session_may : (e : ConnectionEvent) (h : List ConnectionEvent) (channel : ℕ) (x : SessionEvent) (terms : SessionTerms) (past : List SessionEvent) → Accepted config (e ∷ h) →
      part channel h ≡ Live (terms, past) → goes_there channel (happens e) ≡ Some x → SessionMay (lived.state_of terms past) x
  session_may e h channel x terms past all here is =
      (may_come (MayBeginWith config) (MayIn config) lived.state_of (channels config) (λ k. part k h) channel (happens e) x terms past (session_within h channel terms past all.0 here) here is (may_there e h all).2).0

  -- a link that lives by an event of its session stood within the handles before it, or begins within them
  link_went : (terms : SessionTerms) (past : List SessionEvent) (x : SessionEvent) (handle : ℕ) (a : Attached) (l : List LinkEvent) → SessionMay (lived.state_of terms past) x →
      lived.part handle (x ∷ past) ≡ Live (a, l) → ((m : List LinkEvent) → lived.part handle past ≡ Live (a, m) → handle < of_session.handles terms) → handle < of_session.handles terms
  link_went terms past x handle a l may here before =
      elim (went handle (of_session.happens x) a (lived.part handle past) l here) [
        | inl y ↦ begun_within IsAttached live_may lived.live_state (of_session.handles terms) (λ k. lived.part k past) handle (of_session.happens x) y.0 may.2
        | inr y ↦ before y.1 y.2
      ]

  link_within : (h : List ConnectionEvent) (channel : ℕ) (terms : SessionTerms) (past : List SessionEvent) (handle : ℕ) (a : Attached) (l : List LinkEvent) → Accepted config h →
      part channel h ≡ Live (terms, past) → lived.part handle past ≡ Live (a, l) → handle < of_session.handles terms
  link_within [] channel terms past handle a l all is here = absurd (grind (arith, is))
  link_within (e ∷ h) channel terms past handle a l all is here =
      elim (went channel (happens e) terms (part channel h) past is) [
        | inl x ↦ absurd (no_life (lived.part handle past) (a, l) (ap (λ (p : List SessionEvent). lived.part handle p) x.1) here)
        | inr x ↦ by (λ before m stood there. link_within h channel terms before handle a m all.0 stood there) x.1 (goes_there channel (happens e)) refl x.2 x.3
      ]
    where
      by : ((before : List SessionEvent) (m : List LinkEvent) → part channel h ≡ Live (terms, before) → lived.part handle before ≡ Live (a, m) → handle < of_session.handles terms) →
          (before : List SessionEvent) (o : Option SessionEvent) → goes_there channel (happens e) ≡ o → part channel h ≡ Live (terms, before) → past ≡ more o before → handle < of_session.handles terms
      by so_far before None event stood same = so_far before l stood (sym (ap (λ (p : List SessionEvent). lived.part handle p) same) ∙ here)
      by so_far before (Some x) event stood same =
          link_went terms before x handle a l (session_may e h channel x terms before all stood event) (sym (ap (λ (p : List SessionEvent). lived.part handle p) same) ∙ here)
          (λ m there. so_far before m stood there)

  -- the part of a link that lives is sound
  sound_part : (h : List ConnectionEvent) (channel handle : ℕ) (y : Life Attached LinkEvent) → Accepted config h → link_part channel handle h ≡ Live y → link.Sound y.0.terms y.1
  sound_part h channel handle y all is = by (part channel h) refl is
    where
      by : (x : Slot (Life SessionTerms SessionEvent)) → part channel h ≡ x → part_in handle x ≡ Live y → link.Sound y.0.terms y.1
      by Free e at = absurd (grind (arith, at))
      by (Live s) e at =
          let sound = (all_sound begins goes_on config h narrow all).1 in
          let well = subst (λ (p : Slot (Life SessionTerms SessionEvent)). IfLive (λ life. IsSoundPart config life.0 life.1) p) e
          (sound.sessions channel (session_within h channel s.0 s.1 all e)) in
          let fine = subst (λ (p : Slot (Life Attached LinkEvent)). IfLive (λ life. lived.IsSoundPart s.0 life.0 life.1) p) at
          (well.session.links handle (link_within h channel s.0 s.1 handle y.0 y.1 all e at)) in
          fine.link
      by Waits e at = absurd (grind (arith, at))

  -- what holds of a link's part and of what it hands up, and of none, holds of each life, ended or not, and of what was taken in it
  pub of_each_life : (P : Slot (Life Attached LinkEvent) → List Handed → Type 0) → P Free [] →
      ((y : Life Attached LinkEvent) → link.Sound y.0.terms y.1 → P (Live y) (map handed_of (handed_up y.1))) → (h : List ConnectionEvent) → Accepted config h → (channel handle life : ℕ) →
      P (last_part channel handle life h) (taken_in channel handle life h)
  of_each_life P none one [] all channel handle life = none
  of_each_life P none one (e ∷ h) all channel handle life =
      by (of_each_life P none one h all.0 channel handle life) (nat_eq (lives channel handle (e ∷ h)) life) (link_part channel handle (e ∷ h)) refl refl
    where
      ended : P (last_part channel handle life h) (taken_in channel handle life h) → ((y : Life Attached LinkEvent) → link_part channel handle (e ∷ h) ≡ Live y → lives channel handle (e ∷ h) ≡ life → ⊥) → P (last_part channel handle life h)
          (taken_in channel handle life (e ∷ h))
      ended before over = subst (λ (ts : List Handed). P (last_part channel handle life h) ts) (sym (ended_taken config h e channel handle life (may_there e h all) over)) before

      by : P (last_part channel handle life h) (taken_in channel handle life h) → (b : Bool) (x : Slot (Life Attached LinkEvent)) → nat_eq (lives channel handle (e ∷ h)) life ≡ b → link_part channel handle (e ∷ h) ≡ x →
          P (lived_or b x (last_part channel handle life h)) (taken_in channel handle life (e ∷ h))
      by before true (Live y) same is =
          let whole = subst (λ (n : ℕ). taken_in channel handle n (e ∷ h) ≡ map handed_of (handed_up y.1)) (eqb-true (lives channel handle (e ∷ h)) life same)
          (taken_by_part channel handle (e ∷ h) y.0 y.1 is) in
          subst (λ (ts : List Handed). P (Live y) ts) (sym whole) (one y (sound_part (e ∷ h) channel handle y all is))
      by before true Free same is = ended before (λ y at s. absurd (grind (arith, sym is ∙ at)))
      by before true Waits same is = ended before (λ y at s. absurd (grind (arith, sym is ∙ at)))
      by before false x same is = ended before (λ y at s. absurd (grind (arith, sym same ∙ eq-eqb (lives channel handle (e ∷ h)) life s)))

  -- of each life the messages that were taken are the first of its whole deliveries
  pub first_of_each : (h : List ConnectionEvent) → Accepted config h → (channel handle life : ℕ) → AreFirst (last_part channel handle life h) (taken_in channel handle life h)
  first_of_each = of_each_life AreFirst refl (λ y sound. first_of y.0 y.1 (map handed_of (handed_up y.1)) sound refl)
