-- A connection stands as the message level says, after each event of its one link.
use Rattle.std.proofs.Common.{◌≡◌, ℕ, suc, ◌+◌, ◌-◌, ◌%◌, ◌^◌, List, [], ◌∷◌, refl, ap, ◌∙◌}
use Rattle.std.specs.Prelude.{unwrap_or}
use Rattle.amqp_link.specs.Histories.{one_if}
use Rattle.amqp_link.specs.Links.{LinkEvent}
use Rattle.amqp_session.specs.declared.slot.Slot.{Slot}
use Rattle.amqp_session.specs.declared.slot.Slot.TheVariants.{Free}
use Rattle.amqp_session.specs.Places.{Happens, GoesOn, slot_after, places_from, places_after}
use Rattle.amqp_session.specs.Sessions.{Attached, LiveLink, SessionState, session_begins, session_after, live_begins, live_after, is_transfer, widened_by, stated_by}
use Rattle.amqp_pair.specs.Stands.{AreFree, StandsLaw}

still_free : (x : Happens Attached LinkEvent) (slots : List (Slot LiveLink)) (k : ℕ) → ((n : ℕ) → slot_after live_begins live_after (suc n) x Free ≡ Free) → AreFree slots
    → AreFree (places_from live_begins live_after (suc k) x slots)
still_free x [] k keeps a = tt
still_free x (s ∷ slots) k keeps a = (ap (λ (q : Slot LiveLink). slot_after live_begins live_after (suc k) x q) a.0 ∙ keeps k, still_free x slots (suc k) keeps a.1)

pub stands : StandsLaw
stands s w e x l a is head keeps =
    let t : SessionState = session_after a.session e in
    record {
      opened = a.opened;
      session = t;
      others = places_from session_begins session_after 1 (GoesOn 0 e) a.others;
      sessions = ap (λ (z : List (Slot SessionState)). places_after session_begins session_after z (GoesOn 0 e)) a.sessions;
      link = l;
      frees = places_from live_begins live_after 1 x a.frees;
      links = ap (λ (y : Happens Attached LinkEvent). places_after live_begins live_after a.session.links y) is ∙ ap (λ (z : List (Slot LiveLink)). places_after live_begins live_after z x) a.links
          ∙ ap (λ (q : Slot LiveLink). q ∷ places_from live_begins live_after 1 x a.frees) head;
      free = still_free x a.frees 0 keeps a.free;
      same = refl;
      places = ap (λ (n : ℕ). n + widened_by e - one_if (is_transfer e)) a.places;
      next = ap (λ (n : ℕ). (unwrap_or (stated_by e) n + one_if (is_transfer e)) % 2 ^ 32) a.next;
    }
