-- A settle of one open delivery that the index has, and the index after it.
use Rattle.std.proofs.Common.{arith, ◌≡◌, ℕ, ◌+◌, ◌-◌, ◌%◌, ◌^◌, ◌<◌, subst, Bool, false, List, refl, sym, ap, ◌∙◌, Option, Some, None}
use Rattle.amqp_link.specs.declared.settlement.Standing.{Standing}
use Rattle.amqp_link.specs.declared.settlement.Standing.TheVariants.{Absent, Untaken, Told, Awaiting}
use Rattle.amqp_link.specs.Histories.{one_if}
use Rattle.amqp_link.specs.Links.{ReceiverSettled, IsAwaiting}
use Rattle.amqp_session.specs.declared.fault.CallFault.{CallFault}
use Rattle.amqp_session.specs.declared.index.Kept.{Kept}
use Rattle.amqp_session.specs.declared.slot.Slot.{Slot}
use Rattle.amqp_session.specs.Sessions.{LiveLink, SessionState, session_after, slot_at}
use Rattle.amqp_session.specs.Sessions as event
use Rattle.amqp_session.specs.Calls.{slot_standing, standing_in, standing_fault, settles_at_once}
use Rattle.amqp_session.specs.Links.{HasSettled}
use Rattle.amqp_session.specs.Indexes.{found, closed_of, answered, is_kept_at, IsKnown}
use Rattle.amqp_session.proofs.Ids.{IdsGrow}
use Rattle.amqp_session.proofs.Accepts.{settle_ok}
use Rattle.amqp_session.proofs.Dones.{apart_after}
use Rattle.amqp_session.proofs.Lent.{all_on, awaiting, not_awaiting, can_settle, has_settled}
use Rattle.amqp_session.proofs.Lookups.{found_here}
use Rattle.amqp_session.proofs.Closed.{has_settled_indexed}

-- the event of a settle of a range
pub answered_is : (s : SessionState) (first last : ℕ) → s.next_incoming_id < 2 ^ 32 → answered first last s ≡ session_after s (event.Settled first last)
answered_is s first last short =
    let window : s.window ≡ s.window + 0 - 0 = omega arith in
    let number : s.next_incoming_id ≡ (s.next_incoming_id + 0) % 2 ^ 32 = omega (arith, short) in
    ap (λ (ks : List (Slot LiveLink)). record s { links = ks }) (sym (all_on 0 (ReceiverSettled first last) s.links))
    ∙ ap (λ (w : ℕ). record { terms = s.terms; window = w; next_incoming_id = s.next_incoming_id; links = (session_after s (event.Settled first last)).links }) window
    ∙ ap (λ (n : ℕ). record { terms = s.terms; window = s.window + 0 - 0; next_incoming_id = n; links = (session_after s (event.Settled first last)).links }) number

-- what is not settled at once stays in the index
stays : (x : Standing) (fault : CallFault) → standing_fault x ≡ Some fault → settles_at_once x ≡ false
stays Absent fault e = refl
stays Untaken fault e = refl
stays Told fault e = refl
stays (Awaiting mode) fault e = absurd (grind (arith, e))

module _ (entries : List (ℕ × Kept)) (s new : SessionState) (id : ℕ) (kept : Kept) (x : Standing) (known : IsKnown entries s) (low : id < 2 ^ 32) (short : s.next_incoming_id < 2 ^ 32)
    (here : Some kept ≡ found entries id) (stands : slot_standing id (slot_at s kept.handle) ≡ x) where
  whole : standing_in id s.links ≡ x
  whole = found_here entries s.links known.indexed id low kept here ∙ stands

  pub one_answered : HasSettled s new kept.handle id → IsAwaiting x → new ≡ answered id id s
  one_answered has a = has_settled s id kept.handle x known.apart low stands whole (can_settle x a) new short has ∙ sym (answered_is s id id short)

  pub one_known : IdsGrow → (entries' : List (ℕ × Kept)) → (IsAwaiting x → HasSettled s new kept.handle id) → (¬ (IsAwaiting x) → new ≡ s) →
      ((q : ℕ) → q < 2 ^ 32 → found entries' q ≡ closed_of (settles_at_once x) id q (found entries q)) → IsKnown entries' new
  one_known grow entries' settled same closes = by (standing_fault x) refl
    where
      by : (o : Option CallFault) → standing_fault x ≡ o → IsKnown entries' new
      by None e =
          let has = settled (awaiting x e) in record {
            apart = apart_after grow s new (event.Settled id id) known.apart (settle_ok s id known.apart low (ap standing_fault whole ∙ e)) (has_settled s id kept.handle x known.apart low stands whole e new short has);
            indexed = has_settled_indexed entries entries' s new id kept.handle x (settles_at_once x) known.apart low short has stands e refl closes known.indexed;
          }
      by (Some fault) e =
          subst (λ (t : SessionState). IsKnown entries' t) (sym (same (not_awaiting x fault e))) record {
            apart = known.apart;
            indexed = λ q i m. known.indexed q i m ∙ sym (ap (λ (o : Option Kept). one_if (is_kept_at i o)) (closes q m ∙ ap (λ (b : Bool). closed_of b id q (found entries q)) (stays x fault e)));
          }
