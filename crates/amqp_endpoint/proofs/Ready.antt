-- A take is refused with nothing ready exactly where nothing is ready.
use Rattle.std.proofs.Common.{arith, ◌≡◌, ℕ, Bool, true, false, List, [], ◌∷◌, refl, ap, ◌∙◌, Option, Some, None}
use Rattle.std.specs.Prelude.{◌||◌, is_none, slice_get}
use Rattle.amqp_link.specs.Links.{Delivery, first_ready}
use Rattle.amqp_session.specs.declared.fault.CallFault.TheVariants as of_session
use Rattle.amqp_session.specs.declared.slot.Slot.{Slot}
use Rattle.amqp_session.specs.declared.slot.Slot.TheVariants.{Free, Live, Waits}
use Rattle.amqp_session.specs.Calls.{Take, at_link}
use Rattle.amqp_session.specs.Faults.{or_else, where_so}
use Rattle.amqp_session.specs.Histories as lived
use Rattle.amqp_session.specs.Sessions as one
use Rattle.amqp_session.specs.Sessions.{LiveLink, SessionState}
use Rattle.amqp_endpoint.specs.declared.fault.CallFault.{CallFault}
use Rattle.amqp_endpoint.specs.declared.fault.CallFault.TheVariants as refused
use Rattle.amqp_endpoint.specs.declared.phase.Phase.{Phase}
use Rattle.amqp_endpoint.specs.declared.phase.Phase.TheVariants as phase
use Rattle.amqp_endpoint.specs.Calls.{call_fault, at_session, of_option}
use Rattle.amqp_endpoint.specs.Configs.{Configured}
use Rattle.amqp_endpoint.specs.Connections.{ConnectionEvent, channels, slot_at, is_open, is_closing, is_dead}
use Rattle.amqp_endpoint.specs.Histories.{phase_of, part, state_of, Sound}
use Rattle.amqp_endpoint.specs.Takings.{link_in, HasNoneReady}
use Rattle.amqp_endpoint.proofs.Messages.{has_life}

abbrev IsReadyFault : Option CallFault → Type 0
IsReadyFault o = o ≡ Some refused.NothingReady

-- what stands there, which lives and has nothing ready
record IsEmptyLink (x : Slot LiveLink) : Type 0 where
  pub link : LiveLink
  pub stands : x ≡ Live link
  pub none : link.link.ready ≡ []

no_more : (ds : List Delivery) → IsReadyFault (or_else (of_option (where_so (is_none (slice_get ds 0)) of_session.NothingReady)) None) → ds ≡ []
no_more [] e = refl
no_more (d ∷ ds) e = absurd (grind (arith, e))

empty_link : (handle : ℕ) (x : Slot LiveLink) → IsReadyFault (or_else (of_option (at_link x (λ l. where_so (is_none (first_ready l)) of_session.NothingReady))) None) → IsEmptyLink x
empty_link handle Free e = absurd (grind (arith, e))
empty_link handle (Live l) e = record { link = l; stands = refl; none = no_more l.link.ready e }
empty_link handle Waits e = absurd (grind (arith, e))

empty_in : (handle : ℕ) (x : Slot SessionState) → IsReadyFault (or_else (at_session x (Take handle)) None) → IsEmptyLink (link_in handle x)
empty_in handle Free e = absurd (grind (arith, e))
empty_in handle (Live s) e = empty_link handle (one.slot_at s handle) e
empty_in handle Waits e = absurd (grind (arith, e))

alive : (dead : Bool) (rest : Option CallFault) → IsReadyFault (or_else (where_so dead refused.Dead) rest) → IsReadyFault rest
alive true rest e = absurd (grind (arith, e))
alive false rest e = e

-- a take is refused so where no whole delivery is left
pub none_ready : (config : Configured) (h : List ConnectionEvent) (unsent : List ℕ) (channel handle : ℕ) → Sound config h →
    call_fault (state_of config h) unsent channel (Take handle) ≡ Some refused.NothingReady →
    HasNoneReady (state_of config h) channel handle
none_ready config h unsent channel handle sound e =
    let s = state_of config h in
    let x = empty_in handle (slot_at s channel) (alive (is_dead s.phase || is_closing s.phase) (or_else (at_session (slot_at s channel) (Take handle)) None) e) in
    record { link = x.link; stands = x.stands; none = x.none }

-- The other way: a link lives only on an open connection. ---------------------------------------------------------------

goes_first : (p : Phase) (rest : Option CallFault) → is_open p ≡ true → IsReadyFault rest → IsReadyFault (or_else (where_so (is_dead p || is_closing p) refused.Dead) rest)
goes_first phase.Unopened rest wide e = absurd (grind (arith, wide))
goes_first (phase.Open m c) rest wide e = e
goes_first phase.Closing rest wide e = absurd (grind (arith, wide))
goes_first phase.Dead rest wide e = absurd (grind (arith, wide))

is_wide : (b : Bool) → (b ≡ false → ⊥) → b ≡ true
is_wide true f = refl
is_wide false f = absurd (f refl)

refused_on : (handle : ℕ) (x : Slot LiveLink) (l : LiveLink) → x ≡ Live l → l.link.ready ≡ [] →
    IsReadyFault (or_else (of_option (at_link x (λ l. where_so (is_none (first_ready l)) of_session.NothingReady))) None)
refused_on handle x l e none =
    ap (λ (y : Slot LiveLink). or_else (of_option (at_link y (λ l. where_so (is_none (first_ready l)) of_session.NothingReady))) None) e
    ∙ ap (λ (ds : List Delivery). or_else (of_option (where_so (is_none (slice_get ds 0)) of_session.NothingReady)) None) none

-- and only there
pub refused_at : (config : Configured) (h : List ConnectionEvent) (unsent : List ℕ) (channel handle : ℕ) → Sound config h → HasNoneReady (state_of config h) channel handle →
    call_fault (state_of config h) unsent channel (Take handle) ≡ Some refused.NothingReady
refused_at config h unsent channel handle sound x =
    let at = by (slot_at (state_of config h) channel) refl x.stands in
    goes_first (phase_of h) (or_else (at_session (slot_at (state_of config h) channel) (Take handle)) None) at.0 at.1
  where
    by : (y : Slot SessionState) → slot_at (state_of config h) channel ≡ y → link_in handle y ≡ Live x.link → (is_open (phase_of h) ≡ true) × IsReadyFault (or_else (at_session y (Take handle)) None)
    by Free e here = absurd (grind (arith, here))
    by (Live s) e here =
        let life = has_life lived.state_of (channels config) (λ k. part k h) channel s e in
        (is_wide (is_open (phase_of h)) (λ shut. absurd (grind (arith, sound.none shut channel, life.stands))), refused_on handle (one.slot_at s handle) x.link here x.none)
    by Waits e here = absurd (grind (arith, here))
