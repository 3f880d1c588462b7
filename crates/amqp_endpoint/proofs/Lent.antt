-- A session that its connection lent.
use Rattle.std.proofs.Common.{arith, ◌≡◌, ◌≤◌, ℕ, Bool, true, false, not, ◌||◌, List, [], ◌∷◌, ◌++◌, length, refl, ap, ◌∙◌, sym, subst, Option, Some, None}
use Rattle.std.specs.Prelude.{slice_get, slice_set, unwrap_or, if◌then◌else◌}
use Rattle.std.proofs.lemmas.List.{append-nil}
use Rattle.amqp_session.specs.declared.slot.Slot.{Slot}
use Rattle.amqp_session.specs.declared.slot.Slot.TheVariants.{Free, Live, Waits}
use Rattle.amqp_session.specs.Faults.{or_else, where_so}
use Rattle.amqp_session.specs.Places.{live_in}
use Rattle.amqp_session.specs.Sessions.{SessionState, SessionEvent, session_after}
use Rattle.amqp_session.proofs.Tables.{put_again}
use Rattle.amqp_perform.specs.Said.{Said, said_frame}
use Rattle.amqp_session.specs.Calls as session
use Rattle.amqp_endpoint.specs.declared.fault.CallFault.{CallFault}
use Rattle.amqp_endpoint.specs.declared.fault.CallFault.TheVariants as refused
use Rattle.amqp_endpoint.specs.Asking.{IsCounted}
use Rattle.amqp_endpoint.specs.Calls.{at_session, call_fault, call_event, call_spoken, slot_event, slot_spoken, has_room, full_fault, writes}
use Rattle.amqp_endpoint.specs.Replies.{joined, on_channel}
use Rattle.amqp_endpoint.specs.Connections as event
use Rattle.amqp_endpoint.specs.Connections.{ConnectionState, connection_after, slot_at, is_closing, is_dead}
use Rattle.amqp_endpoint.specs.ConnectionLending.{with_session}
use Rattle.amqp_endpoint.specs.Runs.{session_answer, accepted_answer}
use Rattle.amqp_endpoint.proofs.Tables.{Table, after_is, goes_on_at}

stands : (o : Option (Slot SessionState)) (t : SessionState) → unwrap_or o Free ≡ Live t → o ≡ Some (Live t)
stands (Some x) t e = ap (λ (y : Slot SessionState). Some y) e
stands None t e = absurd (grind (arith, e))

-- what lives at a place stands there
pub lives : (x : Slot SessionState) (t : SessionState) → Some t ≡ live_in x → x ≡ Live t
lives Free t e = absurd (grind (arith, e))
lives (Live s) t e = grind (arith, e)
lives Waits t e = absurd (grind (arith, e))

-- it goes on
pub went_on : (s : ConnectionState) (i : ℕ) (t : SessionState) (e : SessionEvent) → slot_at s i ≡ Live t → with_session s i (session_after t e) ≡ connection_after s (event.InSession i e)
went_on s i t e live =
    after_is s.config s.phase s.failed s.closed s.peer s.sessions s refl (event.InSession i e) (slice_set s.sessions i (Live (session_after t e)))
    (goes_on_at s.sessions i e t (stands (slice_get s.sessions i) t live))

-- or is as it was
pub stayed : (s : ConnectionState) (i : ℕ) (t : SessionState) → slot_at s i ≡ Live t → with_session s i t ≡ s
stayed s i t live = ap (λ (ls : Table). record s { sessions = ls }) (put_again s.sessions i (Live t) (stands (slice_get s.sessions i) t live))

-- A call that its session accepted, seen from the connection.
pub called : (s : ConnectionState) (i : ℕ) (t new : SessionState) (c : session.Call) (said : List Said) → Some t ≡ live_in (slot_at s i) →
    session.call_fault t c ≡ None → new ≡ session_after t (session.call_event t c) → session.call_answer t c ≡ said →
    (at_session (slot_at s i) c ≡ None) × (with_session s i new ≡ connection_after s (call_event s i c)) × (call_spoken s i c ≡ on_channel i said)
called s i t new c said at none is answer =
    let live : slot_at s i ≡ Live t = lives (slot_at s i) t at in (
      rw live (rw none refl),
      ap (λ (u : SessionState). with_session s i u) is ∙ went_on s i t (session.call_event t c) live ∙ ap (λ (x : Slot SessionState). connection_after s (slot_event i x c)) (sym live),
      ap (λ (x : Slot SessionState). slot_spoken i x c) live ∙ ap (λ (l : List Said). on_channel i l) answer,
    )

-- Said to the peer. -----------------------------------------------------------------------------------------------------

-- one performative is one frame
one_said : (channel : ℕ) (x : Said) → joined (on_channel channel (x ∷ [])) ≡ said_frame channel x []
one_said channel x = append-nil (said_frame channel x [])

module _ (s : ConnectionState) (i : ℕ) (t new : SessionState) (c : session.Call) (said : Said) (at : Some t ≡ live_in (slot_at s i)) (none : session.call_fault t c ≡ None)
    (is : new ≡ session_after t (session.call_event t c)) (answer : session.call_answer t c ≡ said ∷ []) where
  spoken : joined (call_spoken s i c) ≡ said_frame i said []
  spoken = ap joined (called s i t new c (said ∷ []) at none is answer).2 ∙ one_said i said

  -- it fits
  pub fits : ((s : ConnectionState) (channel : ℕ) (c : session.Call) → length (joined (call_spoken s channel c)) ≤ 2560) → length (said_frame i said []) ≤ 2560
  fits law = subst (λ (bytes : List ℕ). length bytes ≤ 2560) spoken (law s i c)

  -- what is accepted, and written
  pub asked : (unsent after : List ℕ) → (is_dead s.phase || is_closing s.phase) ≡ false → has_room unsent ≡ true → after ≡ unsent ++ said_frame i said [] →
      (call_fault s unsent i c ≡ None) × (with_session s i new ≡ connection_after s (call_event s i c)) × (after ≡ unsent ++ joined (call_spoken s i c))
  asked unsent after awake room written =
      let all = called s i t new c (said ∷ []) at none is answer in (
        ap (λ (b : Bool). or_else (where_so b refused.Dead) (or_else (at_session (slot_at s i) c) (if writes c then full_fault unsent else None))) awake
            ∙ ap (λ (o : Option CallFault). or_else o (if writes c then full_fault unsent else None)) all.0 ∙ full (writes c),
        all.1,
        written ∙ ap (λ (bytes : List ℕ). unsent ++ bytes) (sym spoken),
      )
    where
      full : (b : Bool) → (if b then where_so (not (has_room unsent)) refused.Full else None) ≡ None
      full true = ap (λ (r : Bool). where_so (not r) refused.Full) room
      full false = refl

-- the number that it answers
pub counts : (s : ConnectionState) (i : ℕ) (t : SessionState) (c : session.Call) (n : ℕ) → Some t ≡ live_in (slot_at s i) → IsCounted (session_answer t c) n → IsCounted (accepted_answer (slot_at s i) c) n
counts s i t c n at is = subst (λ (x : Slot SessionState). IsCounted (accepted_answer x c) n) (sym (lives (slot_at s i) t at)) is
