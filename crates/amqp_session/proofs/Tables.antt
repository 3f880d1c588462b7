-- What stands in a table of places, and what an event makes of it.
use Rattle.std.proofs.Common.{arith, ◌≡◌, ℕ, zero, suc, ◌+◌, ◌<◌, ◌≤◌, subst, ne_eqb, Bool, List, [], ◌∷◌, length, refl, sym, ap, ◌∙◌, Option, Some, None, get_or}
use Rattle.std.specs.Prelude.{nat_eq, slice_get, slice_set, option_map, unwrap_or, if◌then◌else◌}
use Rattle.std.proofs.lemmas.Bool.{eq-eqb, cond-false}
use Rattle.std.proofs.lemmas.Option.{slice_get-get_or, same_Some}
use Rattle.amqp_session.specs.declared.slot.Slot.{Slot}
use Rattle.amqp_session.specs.declared.slot.Slot.TheVariants.{Free, Live, Waits}
use Rattle.amqp_session.specs.Laws.{IsElsewhere}
use Rattle.amqp_session.specs.Places.{Happens, Nothing, Begins, GoesOn, AllGoOn, Leaves, Gone, AllGone, slot_map, live_in, IsInUse, slot_after, places_from}

-- What stands in it. --------------------------------------------------------------------------------------------------

-- what lives at a place is one
pub same_live : {T : Type 0} (x y : T) → Live x ≡ Live y → x ≡ y
same_live {T} x y e = same_Some x y (ap (λ (s : Slot T). live_in s) e)

-- what is read at an index of the list stands there
pub there : {X : Type 0} (xs : List X) (i : ℕ) (x : X) → x ≡ get_or xs i x → i < length xs → slice_get xs i ≡ Some x
there {X} xs i x e l = slice_get-get_or xs i x l ∙ ap (λ (y : X). Some y) (sym e)

-- something stands at each place
pub present : {T : Type 0} (slots : List (Slot T)) (i : ℕ) → i < length slots → slice_get slots i ≡ Some (unwrap_or (slice_get slots i) Free)
present [] i l = absurd (omega (arith, l))
present (s ∷ slots) zero l = refl
present (s ∷ slots) (suc i) l = present slots i (omega (arith, l))

-- what is in use stands there
pub found : {T : Type 0} (o : Option (Slot T)) (x : Slot T) → unwrap_or o Free ≡ x → IsInUse x → o ≡ Some x
found {T} None x e used = absurd (subst (λ (s : Slot T). IsInUse s) (sym e) used)
found {T} (Some s) x e used = ap (λ (t : Slot T). Some t) e

-- what stands there is put there again
pub put_again : {X : Type 0} (xs : List X) (i : ℕ) (x : X) → slice_get xs i ≡ Some x → slice_set xs i x ≡ xs
put_again [] i x e = refl
put_again {X} (y ∷ xs) zero x e = ap (λ (z : X). z ∷ xs) (sym (same_Some y x e))
put_again {X} (y ∷ xs) (suc i) x e = ap (λ (rest : List X). y ∷ rest) (put_again xs i x e)

-- What an event makes of it. ------------------------------------------------------------------------------------------

module _ {B E T : Type 0} (start : B → T) (next : T → E → T) where
  -- what happens elsewhere leaves a place as it was
  pub elsewhere : (k : ℕ) (x : Happens B E) (s : Slot T) → IsElsewhere k x → slot_after start next k x s ≡ s
  elsewhere k Nothing s away = refl
  elsewhere k (Begins place begin) s away = cond-false (nat_eq place k) _ s (ne_eqb place k away)
  elsewhere k (GoesOn place e) s away = cond-false (nat_eq place k) _ s (ne_eqb place k away)
  elsewhere k (AllGoOn e) s away = absurd away
  elsewhere k (Leaves place) s away = cond-false (nat_eq place k) _ s (ne_eqb place k away)
  elsewhere k (Gone place) s away = cond-false (nat_eq place k) _ s (ne_eqb place k away)
  elsewhere k AllGone s away = absurd away

  -- what happens at a place happens there
  pub hit : (k : ℕ) (s t : Slot T) → (if nat_eq k k then s else t) ≡ s
  hit k s t = ap (λ (b : Bool). if b then s else t) (eq-eqb k k refl)

  -- what stands at a place after it
  pub get_after : (k i : ℕ) (x : Happens B E) (slots : List (Slot T)) → slice_get (places_from start next k x slots) i ≡ option_map (slot_after start next (k + i) x) (slice_get slots i)
  get_after k i x [] = refl
  get_after k zero x (s ∷ slots) =
      let same : k ≡ k + 0 = omega arith in ap (λ (j : ℕ). Some (slot_after start next j x s)) same
  get_after k (suc i) x (s ∷ slots) =
      let same : suc k + i ≡ k + suc i = omega arith in get_after (suc k) i x slots ∙ ap (λ (j : ℕ). option_map (slot_after start next j x) (slice_get slots i)) same

  none_from : (k : ℕ) (x : Happens B E) (slots : List (Slot T)) → ((j : ℕ) → k ≤ j → IsElsewhere j x) → places_from start next k x slots ≡ slots
  none_from k x [] none = refl
  none_from k x (s ∷ slots) none =
      ap (λ (t : Slot T). t ∷ places_from start next (suc k) x slots) (elsewhere k x s (none k (omega arith)))
      ∙ ap (λ (rest : List (Slot T)). s ∷ rest) (none_from (suc k) x slots (λ j l. none j (omega (arith, l))))

  -- nothing happens at any place
  pub none_after : (slots : List (Slot T)) → places_from start next 0 Nothing slots ≡ slots
  none_after slots = none_from 0 Nothing slots (λ j l. tt)

  -- something happens at one place, and nothing elsewhere
  one_from : (k place : ℕ) (x : Happens B E) (slots : List (Slot T)) (i : ℕ) (s new : Slot T) → place ≡ k + i → ((j : ℕ) → (place ≡ j → ⊥) → IsElsewhere j x) →
      slot_after start next place x s ≡ new → slice_get slots i ≡ Some s → places_from start next k x slots ≡ slice_set slots i new
  one_from k place x [] i s new at only here e = absurd (grind (arith, e))
  one_from k place x (t ∷ slots) zero s new at only here e =
      let k_is : k ≡ place = omega (arith, at) in
      let head : slot_after start next k x t ≡ new = ap (λ (j : ℕ). slot_after start next j x t) k_is ∙ ap (λ (u : Slot T). slot_after start next place x u) (same_Some t s e) ∙ here in
      ap (λ (u : Slot T). u ∷ places_from start next (suc k) x slots) head
      ∙ ap (λ (rest : List (Slot T)). new ∷ rest) (none_from (suc k) x slots (λ j l. only j (λ f. absurd (omega (arith, l, f, at)))))
  one_from k place x (t ∷ slots) (suc i) s new at only here e =
      ap (λ (u : Slot T). u ∷ places_from start next (suc k) x slots) (elsewhere k x t (only k (λ f. absurd (omega (arith, f, at)))))
      ∙ ap (λ (rest : List (Slot T)). t ∷ rest) (one_from (suc k) place x slots i s new (omega (arith, at)) only here e)

  -- a life begins at a place
  pub begins_at : (slots : List (Slot T)) (i : ℕ) (begin : B) (s : Slot T) → slice_get slots i ≡ Some s → places_from start next 0 (Begins i begin) slots ≡ slice_set slots i (Live (start begin))
  begins_at slots i begin s e = one_from 0 i (Begins i begin) slots i s (Live (start begin)) (omega arith) (λ j away. away) (hit i (Live (start begin)) s) e

  -- the life there goes on
  pub goes_on_at : (slots : List (Slot T)) (i : ℕ) (e : E) (s : Slot T) → slice_get slots i ≡ Some s → places_from start next 0 (GoesOn i e) slots ≡ slice_set slots i (slot_map (λ t. next t e) s)
  goes_on_at slots i e s at = one_from 0 i (GoesOn i e) slots i s (slot_map (λ t. next t e) s) (omega arith) (λ j away. away) (hit i (slot_map (λ t. next t e) s) s) at

  -- this side ends it
  pub leaves_at : (slots : List (Slot T)) (i : ℕ) (s : Slot T) → slice_get slots i ≡ Some s → places_from start next 0 (Leaves i) slots ≡ slice_set slots i Waits
  leaves_at slots i s e = one_from 0 i (Leaves i) slots i s Waits (omega arith) (λ j away. away) (hit i Waits s) e

  -- the peer ends it
  pub gone_at : (slots : List (Slot T)) (i : ℕ) (s : Slot T) → slice_get slots i ≡ Some s → places_from start next 0 (Gone i) slots ≡ slice_set slots i Free
  gone_at slots i s e = one_from 0 i (Gone i) slots i s Free (omega arith) (λ j away. away) (hit i Free s) e
