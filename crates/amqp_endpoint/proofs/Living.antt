-- A session that lives in a connection, and a link of it: what the history gives them.
use Rattle.std.proofs.Common.{arith, ◌≡◌, ℕ, inl, inr, true, List, sym, subst}
use Rattle.std.proofs.lemmas.Bool.{cases_Bool}
use Rattle.amqp_session.specs.declared.slot.Slot.{Slot}
use Rattle.amqp_session.specs.declared.slot.Slot.TheVariants.{Free, Live, Waits}
use Rattle.amqp_session.specs.declared.terms.SessionTerms.{SessionTerms}
use Rattle.amqp_session.specs.Histories as lived
use Rattle.amqp_session.specs.Places.{Life, IfLive}
use Rattle.amqp_session.specs.Sessions as one
use Rattle.amqp_session.specs.Sessions.{Attached, LiveLink, SessionState, SessionEvent, IsApart}
use Rattle.amqp_link.specs.Links.{LinkEvent}
use Rattle.amqp_endpoint.specs.Configs.{Configured, bounds_for}
use Rattle.amqp_endpoint.specs.Connections.{ConnectionEvent, HasBounds, channels, slot_at, is_open}
use Rattle.amqp_endpoint.specs.Histories.{part, phase_of, state_of, IsSoundPart, Sound}
use Rattle.amqp_endpoint.proofs.Messages.{HasLife, has_life}

not_both : {T : Type 0} {A : Type 0} (x : Slot T) (t : T) → x ≡ Free → x ≡ Live t → A
not_both Free t a b = absurd (grind (arith, b))
not_both (Live u) t a b = absurd (grind (arith, a))
not_both Waits t a b = absurd (grind (arith, a))

module _ (config : Configured) (h : List ConnectionEvent) (sound : Sound config h) (channel : ℕ) (s : SessionState) (here : slot_at (state_of config h) channel ≡ Live s) where
  life : HasLife lived.state_of (channels config) (λ k. part k h) channel s
  life = has_life lived.state_of (channels config) (λ k. part k h) channel s here

  well : IsSoundPart config life.begin life.past
  well = subst (λ (p : Slot (Life SessionTerms SessionEvent)). IfLive (λ life. IsSoundPart config life.0 life.1) p) life.stands (sound.sessions channel life.below)

  -- its connection is open
  pub wide_here : is_open (phase_of h) ≡ true
  wide_here = elim (cases_Bool (is_open (phase_of h))) [
    | inl wide ↦ wide
    | inr shut ↦ not_both (part channel h) (life.begin, life.past) (sound.none shut channel) life.stands
  ]

  -- its ids are apart
  pub apart_here : IsApart s
  apart_here = subst IsApart (sym life.is) well.session.apart

  -- the bounds of its links are those of their names
  pub bounds_here : (handle : ℕ) (l : LiveLink) → one.slot_at s handle ≡ Live l → l.link.terms.bounds ≡ bounds_for config l.name
  bounds_here handle l there =
      let x = has_life lived.live_state (one.handles life.begin) (λ k. lived.part k life.past) handle l (subst (λ (t : SessionState). one.slot_at t handle ≡ Live l) life.is there) in
      let so = subst (λ (p : Slot (Life Attached LinkEvent)). IfLive (λ (y : Life Attached LinkEvent). HasBounds config y.0) p) x.stands (well.limited handle) in
      subst (λ (y : LiveLink). y.link.terms.bounds ≡ bounds_for config y.name) (sym x.is) so
