-- The first link that lacks credit, looked for among those that were reached.
use Rattle.std.proofs.Common.{arith, ◌≡◌, ℕ, ◌+◌, ◌<◌, ◌≤◌, Bool, true, false, List, length, Option, Some, None, get_or, refl, sym, ap, ◌∙◌}
use Rattle.std.specs.Prelude.{nat_lt, unwrap_or}
use Rattle.std.proofs.lemmas.Bool.{ltb-true, ltb-false}
use Rattle.std.proofs.lemmas.Option.{slice_get_past}
use Rattle.amqp_session.specs.declared.slot.Slot.{Slot}
use Rattle.amqp_session.specs.declared.slot.Slot.TheVariants.{Free}
use Rattle.amqp_session.specs.Lacking.{wants_credit, IsFirstLacking}
use Rattle.amqp_session.specs.Sessions.{LiveLink}
use Rattle.amqp_session.specs.Slots.{at_place}
use Rattle.amqp_session.proofs.Tables.{there}

-- a place that was looked at
pub lacks_there : (credit : ℕ) (slots : List (Slot LiveLink)) (i : ℕ) (x : Slot LiveLink) (b : Bool) → x ≡ get_or slots i x → i < length slots → b ≡ wants_credit credit x
    → wants_credit credit (at_place slots i) ≡ b
lacks_there credit slots i x b is l e = ap (λ (o : Option (Slot LiveLink)). wants_credit credit (unwrap_or o Free)) (there slots i x is l) ∙ sym e

-- no link stands at a handle that was not reached
lacks_past : (credit : ℕ) (slots : List (Slot LiveLink)) (i : ℕ) → length slots ≤ i → wants_credit credit (at_place slots i) ≡ false
lacks_past credit slots i l = ap (λ (o : Option (Slot LiveLink)). wants_credit credit (unwrap_or o Free)) (slice_get_past slots i l)

-- one place more where none does
pub none_more : (credit : ℕ) (slots : List (Slot LiveLink)) (from i : ℕ) → ((h : ℕ) → from ≤ h → h < i → wants_credit credit (at_place slots h) ≡ false)
    → wants_credit credit (at_place slots i) ≡ false → (h : ℕ) → from ≤ h → h < i + 1 → wants_credit credit (at_place slots h) ≡ false
none_more credit slots from i before here h a b = by (nat_lt h i) refl
  where
    by : (c : Bool) → nat_lt h i ≡ c → wants_credit credit (at_place slots h) ≡ false
    by true is = before h a (ltb-true h i is)
    by false is = let same : h ≡ i = omega (arith, b, ltb-false h i is) in ap (λ (k : ℕ). wants_credit credit (at_place slots k)) same ∙ here

-- all places were looked at
pub none_at_all : (credit : ℕ) (slots : List (Slot LiveLink)) (from i : ℕ) → length slots ≤ i → ((h : ℕ) → from ≤ h → h < i → wants_credit credit (at_place slots h) ≡ false)
    → (h : ℕ) → from ≤ h → wants_credit credit (at_place slots h) ≡ false
none_at_all credit slots from i all before h a = by (nat_lt h i) refl
  where
    by : (c : Bool) → nat_lt h i ≡ c → wants_credit credit (at_place slots h) ≡ false
    by true is = before h a (ltb-true h i is)
    by false is = lacks_past credit slots h (omega (arith, all, ltb-false h i is))

-- the same handle where the same links stand
pub first_moved : (credit from : ℕ) (a b : ℕ → Slot LiveLink) → ((h : ℕ) → b h ≡ a h) → (r : Option ℕ) → IsFirstLacking credit from a r → IsFirstLacking credit from b r
first_moved credit from a b same None x = λ h l. ap (λ (s : Slot LiveLink). wants_credit credit s) (same h) ∙ x h l
first_moved credit from a b same (Some i) x =
    (x.0, ap (λ (s : Slot LiveLink). wants_credit credit s) (same i) ∙ x.1, λ h l m. ap (λ (s : Slot LiveLink). wants_credit credit s) (same h) ∙ x.2 h l m)
