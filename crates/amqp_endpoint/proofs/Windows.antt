-- A session that lives is what its part of the history gives.
use Rattle.std.proofs.Common.{arith, ◌≡◌, ℕ, ◌+◌, ◌-◌, ◌<◌, ◌≤◌, ◌^◌, List, ap, ◌∙◌, sym, subst}
use Rattle.amqp_session.specs.declared.slot.Slot.{Slot}
use Rattle.amqp_session.specs.declared.slot.Slot.TheVariants.{Live}
use Rattle.amqp_session.specs.declared.terms.SessionTerms.{SessionTerms}
use Rattle.amqp_session.specs.Histories as session
use Rattle.amqp_session.specs.Places.{Life, IfLive}
use Rattle.amqp_session.specs.Sessions.{SessionState, SessionEvent}
use Rattle.amqp_endpoint.proofs.Messages.{has_life}
use Rattle.amqp_endpoint.specs.Configs.{Configured}
use Rattle.amqp_endpoint.specs.Connections.{ConnectionEvent, channels, slot_at}
use Rattle.amqp_endpoint.specs.Histories.{part, state_of, IsSoundPart, Sound}
use Rattle.amqp_endpoint.specs.Windows.{HasItsWindow}

-- a difference that is one is no less
difference : (a b : ℕ) → b ≤ a → (a - b) + b ≡ a
difference a b l = omega (arith, l)

-- a session that stands on a channel has the window that its part gives
pub has_its_window : (config : Configured) (h : List ConnectionEvent) (channel : ℕ) (s : SessionState) → Sound config h → slot_at (state_of config h) channel ≡ Live s →
    HasItsWindow config (part channel h) s
has_its_window config h channel s sound here =
    let x = has_life session.state_of (channels config) (λ k. part k h) channel s here in
    let well = subst (λ (p : Slot (Life SessionTerms SessionEvent)). IfLive (λ life. IsSoundPart config life.0 life.1) p) x.stands (sound.sessions channel x.below) in
    let opening : x.begin.incoming_window + session.widenings x.past ≡ config.window + session.widenings x.past = ap (λ (n : ℕ). n + session.widenings x.past) well.begun.window in
    record {
      terms = x.begin;
      past = x.past;
      stands = x.stands;
      is = x.is;
      window = ap (λ (t : SessionState). t.window + session.transfers x.past) x.is ∙ difference (x.begin.incoming_window + session.widenings x.past) (session.transfers x.past) well.session.spent
          ∙ opening;
      narrow = subst (λ (t : SessionState). t.window < 2 ^ 31) (sym x.is) well.session.narrow;
      next = ap (λ (t : SessionState). t.next_incoming_id) x.is;
    }
