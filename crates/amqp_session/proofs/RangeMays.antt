-- A settle of a range of ids without fault is an event that the session accepts.
use Rattle.std.proofs.Common.{arith, ◌≡◌, ℕ, zero, suc, Bool, true, false, not, ◌&&◌, ◌||◌, List, [], ◌∷◌, refl, sym, ap, ◌∙◌, Option, Some, None}
use Rattle.std.specs.Prelude.{slice_get, if◌then◌else◌}
use Rattle.std.specs.List.{list_any}
use Rattle.std.proofs.lemmas.Bool.{or_parts, or_from}
use Rattle.std.proofs.lemmas.Option.{same_Some}
use Rattle.amqp_link.specs.Links.{Delivery, open_set, is_covered, is_first, tells, names_untaken, settle_fault}
use Rattle.amqp_session.specs.declared.fault.CallFault.{CallFault}
use Rattle.amqp_session.specs.declared.fault.CallFault.TheVariants as refused
use Rattle.amqp_session.specs.declared.slot.Slot.{Slot}
use Rattle.amqp_session.specs.declared.slot.Slot.TheVariants.{Live}
use Rattle.amqp_session.specs.Sessions.{LiveLink, SessionState, SessionMay}
use Rattle.amqp_session.specs.Sessions as event
use Rattle.amqp_session.specs.Calls.{slot_names_untaken, slot_names_told, slot_names_first, slot_names_second, is_absent, is_behind, standing_in, range_fault}

-- it is not the first fault
pub skip_fault : (b : Bool) (fault : CallFault) (rest : Option CallFault) → (if b then Some fault else rest) ≡ None → (b ≡ false) × (rest ≡ None)
skip_fault true fault rest e = absurd (grind (arith, e))
skip_fault false fault rest e = (refl, e)

any_at : (t : Slot LiveLink → Bool) (slots : List (Slot LiveLink)) (k : ℕ) (x : Slot LiveLink) → list_any t slots ≡ false → slice_get slots k ≡ Some x → t x ≡ false
any_at t [] k x none e = absurd (grind (arith, e))
any_at t (y ∷ slots) zero x none e = ap t (sym (same_Some y x e)) ∙ (or_parts (t y) (list_any t slots) none).0
any_at t (y ∷ slots) (suc k) x none e = any_at t slots k x (or_parts (t y) (list_any t slots) none).1 e

none_told : (first last : ℕ) (ds : List Delivery) → list_any (λ d. is_covered first last d && d.told) ds ≡ false → list_any (λ d. tells first last d && d.told) ds ≡ false
none_told first last [] e = refl
none_told first last (d ∷ ds) e =
    let two = or_parts (is_covered first last d && d.told) (list_any (λ d. is_covered first last d && d.told) ds) e in
    or_from (tells first last d && d.told) (list_any (λ d. tells first last d && d.told) ds) (by (not (is_first d.rcv_settle_mode)) (is_covered first last d) d.told two.0) (none_told first last ds two.1)
  where
    by : (m c t : Bool) → (c && t) ≡ false → ((m && c) && t) ≡ false
    by true c t f = f
    by false c t f = refl

-- every live link accepts a settle of a range without fault
pub range_ok : (s : SessionState) (first last : ℕ) → range_fault first last s ≡ None → SessionMay s (event.Settled first last)
range_ok s first last none = (tt, tt, λ k l e. settles l (any_at (slot_names_untaken first last) s.links k (Live l) untaken e) (any_at (slot_names_told first last) s.links k (Live l) told e))
  where
    mixed_or : Option CallFault
    mixed_or = if list_any (slot_names_first first last) s.links && list_any (slot_names_second first last) s.links then Some refused.MixedModes else None

    told_or : Option CallFault
    told_or = if list_any (slot_names_told first last) s.links then Some refused.AlreadyTold else mixed_or

    one : (list_any (slot_names_untaken first last) s.links ≡ false) × (told_or ≡ None)
    one =
        let right = skip_fault ((is_absent (standing_in first s.links) || is_absent (standing_in last s.links) || is_behind first last)) refused.NoDelivery (if list_any (slot_names_untaken first last) s.links then Some refused.NotTaken else told_or) none in
        skip_fault (list_any (slot_names_untaken first last) s.links) refused.NotTaken told_or right.1

    untaken : list_any (slot_names_untaken first last) s.links ≡ false
    untaken = one.0

    told : list_any (slot_names_told first last) s.links ≡ false
    told = (skip_fault (list_any (slot_names_told first last) s.links) refused.AlreadyTold mixed_or one.1).0

    settles : (l : LiveLink) → names_untaken first last (open_set l.link) ≡ false → list_any (λ d. is_covered first last d && d.told) l.link.awaiting ≡ false → settle_fault first last (open_set l.link) ≡ None
    settles l up once = rw (up, none_told first last l.link.awaiting once) refl
