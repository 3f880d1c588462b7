-- What the index of a session says of an id.
use Rattle.std.proofs.Common.{arith, ◌≡◌, ℕ, zero, suc, ◌+◌, ◌<◌, ◌≤◌, ◌^◌, Bool, true, false, List, [], ◌∷◌, refl, sym, ap, ◌∙◌, Option, Some, None}
use Rattle.std.specs.Prelude.{slice_get, unwrap_or, is_some, nat_eq, nat_lt, cond, if◌then◌else◌, ◌||◌}
use Rattle.std.specs.List.{list_any, count_by}
use Rattle.std.proofs.lemmas.Bool.{eq-eqb, ne_eqb, lt-ltb, le-ltb}
use Rattle.amqp_link.specs.declared.settlement.Standing.{Standing}
use Rattle.amqp_link.specs.declared.settlement.Standing.TheVariants.{Absent, Untaken, Told, Awaiting}
use Rattle.amqp_link.specs.Histories.{one_if}
use Rattle.amqp_link.specs.Links.{Delivery, deliveries, has_id, is_covered}
use Rattle.amqp_link.proofs.Hints.{count_cons as count_both}
use Rattle.amqp_session.specs.declared.index.Kept.{Kept}
use Rattle.amqp_session.specs.declared.slot.Slot.{Slot}
use Rattle.amqp_session.specs.declared.slot.Slot.TheVariants.{Free, Live, Waits}
use Rattle.amqp_session.specs.Places.{tabulate}
use Rattle.amqp_session.specs.Sessions.{LiveLink, SessionState, slot_at, slot_has, slot_count, table_count, IsApart}
use Rattle.amqp_session.specs.Calls.{slot_standing, standing_in, or_later}
use Rattle.amqp_session.specs.Slots.{at_place}
use Rattle.amqp_session.specs.Indexes.{found, gone_of, is_kept_at, IsIndexed, IsOnceAt}
use Rattle.amqp_session.proofs.Ids.{table_none}
use Rattle.amqp_session.proofs.Standings.{none_has, AreSmall, first_small, rest_small, covered_id, slot_within, absent_none}

-- where no place has the id, it is absent
pub absent_all : (id : ℕ) (slots : List (Slot LiveLink)) → ((i : ℕ) → slot_count id (at_place slots i) ≡ 0) → standing_in id slots ≡ Absent
absent_all id [] none = refl
absent_all id (s ∷ slots) none = ap (λ (x : Standing). or_later x (standing_in id slots)) (absent_none id s (none 0)) ∙ absent_all id slots (λ i. none (suc i))

or_absent : (x : Standing) → or_later x Absent ≡ x
or_absent Absent = refl
or_absent Untaken = refl
or_absent Told = refl
or_absent (Awaiting mode) = refl

-- where no other place has it, it stands as it does at this one
pub stands_at_one : (id : ℕ) (slots : List (Slot LiveLink)) (h : ℕ) → ((i : ℕ) → nat_eq h i ≡ false → slot_count id (at_place slots i) ≡ 0) →
    standing_in id slots ≡ slot_standing id (at_place slots h)
stands_at_one id [] h none = refl
stands_at_one id (s ∷ slots) zero none =
    ap (λ (x : Standing). or_later (slot_standing id s) x) (absent_all id slots (λ i. none (suc i) (ne_eqb 0 (suc i) (λ e. absurd (omega (arith, e)))))) ∙ or_absent (slot_standing id s)
stands_at_one id (s ∷ slots) (suc h) none =
    ap (λ (x : Standing). or_later x (standing_in id slots)) (absent_none id s (none 0 (ne_eqb (suc h) 0 (λ e. absurd (omega (arith, e))))))
    ∙ stands_at_one id slots h (λ i e. none (suc i) (ne_eqb (suc h) (suc i) (λ f. differ i e f)))
  where
    differ : (i : ℕ) → nat_eq h i ≡ false → suc h ≡ suc i → ⊥
    differ i e f = let same : h ≡ i = omega (arith, f) in no (sym e ∙ eq-eqb h i same)
      where
        no : false ≡ true → ⊥
        no e = cc

-- Ids are taken out one by one. -----------------------------------------------------------------------------------------

pub gone_next : (ids rest : List ℕ) (id q : ℕ) (o p : Option Kept) → ids ≡ id ∷ rest → p ≡ (if nat_eq id q then None else o) → gone_of rest q p ≡ gone_of ids q o
gone_next ids rest id q o p is put =
    ap (gone_of rest q) put ∙ by (nat_eq id q) (list_any (λ gone. nat_eq gone q) rest) ∙ sym (ap (λ (ns : List ℕ). gone_of ns q o) is)
  where
    by : (a b : Bool) → (if b then None else (if a then None else o)) ≡ (if a || b then None else o)
    by true true = refl
    by true false = refl
    by false b = refl

-- What the index says. ---------------------------------------------------------------------------------------------------

module _ (entries : List (ℕ × Kept)) (slots : List (Slot LiveLink)) (indexed : IsIndexed entries slots) (id : ℕ) (low : id < 2 ^ 32) where
  -- it has none
  pub none_counted : None ≡ found entries id → (i : ℕ) → slot_count id (at_place slots i) ≡ 0
  none_counted e i = indexed id i low ∙ ap (λ (o : Option Kept). one_if (is_kept_at i o)) (sym e)

  -- it has one at another handle
  pub other_counted : (kept : Kept) → Some kept ≡ found entries id → (i : ℕ) → nat_eq kept.handle i ≡ false → slot_count id (at_place slots i) ≡ 0
  other_counted kept e i away = indexed id i low ∙ ap (λ (o : Option Kept). one_if (is_kept_at i o)) (sym e) ∙ ap one_if away

  -- and here
  pub here_counted : (kept : Kept) → Some kept ≡ found entries id → slot_count id (at_place slots kept.handle) ≡ 1
  here_counted kept e = indexed id kept.handle low ∙ ap (λ (o : Option Kept). one_if (is_kept_at kept.handle o)) (sym e) ∙ ap one_if (eq-eqb kept.handle kept.handle refl)

  pub found_none : None ≡ found entries id → standing_in id slots ≡ Absent
  found_none e = absent_all id slots (none_counted e)

  pub found_here : (kept : Kept) → Some kept ≡ found entries id → standing_in id slots ≡ slot_standing id (at_place slots kept.handle)
  found_here kept e = stands_at_one id slots kept.handle (other_counted kept e)

  -- an id is open exactly where the index has it
  pub known_open : is_some (found entries id) ≡ list_any (slot_has id) slots
  known_open = by (found entries id) refl
    where
      closed : (slots : List (Slot LiveLink)) → ((i : ℕ) → slot_count id (at_place slots i) ≡ 0) → list_any (slot_has id) slots ≡ false
      closed [] none = refl
      closed (s ∷ slots) none = rw (slot_closed s (none 0), closed slots (λ i. none (suc i))) refl
        where
          slot_closed : (s : Slot LiveLink) → slot_count id s ≡ 0 → slot_has id s ≡ false
          slot_closed Free e = refl
          slot_closed (Live l) e = none_has id (deliveries l.link) e
          slot_closed Waits e = refl

      opened : (slots : List (Slot LiveLink)) (h : ℕ) → 1 ≤ slot_count id (at_place slots h) → list_any (slot_has id) slots ≡ true
      opened slots h some = decide (list_any (slot_has id) slots) refl
        where
          within : (o : Option (Slot LiveLink)) → slice_get slots h ≡ o → slot_count id (unwrap_or o Free) ≤ table_count id slots
          within None e = omega arith
          within (Some x) e = slot_within id slots h x e

          decide : (b : Bool) → list_any (slot_has id) slots ≡ b → list_any (slot_has id) slots ≡ true
          decide true f = f
          decide false f = let most = within (slice_get slots h) refl in absurd (omega (arith, some, most, table_none id slots f))

      by : (o : Option Kept) → found entries id ≡ o → is_some o ≡ list_any (slot_has id) slots
      by None e = sym (closed slots (none_counted (sym e)))
      by (Some kept) e = let one = here_counted kept (sym e) in sym (opened slots kept.handle (omega (arith, one)))

-- No two open deliveries of a link have the id. ----------------------------------------------------------------------------

covered_few : (id : ℕ) (ds : List Delivery) → id < 2 ^ 32 → AreSmall ds → count_by (is_covered id id) ds ≤ count_by (has_id id) ds
covered_few id [] low small = omega arith
covered_few id (d ∷ ds) low small = by (is_covered id id d) refl (covered_few id ds low (rest_small d ds small))
  where
    by : (b : Bool) → is_covered id id d ≡ b → count_by (is_covered id id) ds ≤ count_by (has_id id) ds → count_by (is_covered id id) (d ∷ ds) ≤ count_by (has_id id) (d ∷ ds)
    by true f rest =
        let has = covered_id id d.delivery_id low (first_small d ds small) f in
        let one = count_both (is_covered id id) d ds ∙ ap (λ (b : Bool). cond b 1 0 + count_by (is_covered id id) ds) f in
        let two = count_both (has_id id) d ds ∙ ap (λ (b : Bool). cond b 1 0 + count_by (has_id id) ds) has in
        omega (arith, rest, one, two)
    by false f rest =
        let one = count_both (is_covered id id) d ds ∙ ap (λ (b : Bool). cond b 1 0 + count_by (is_covered id id) ds) f in
        omega (arith, rest, one, count_both (has_id id) d ds)

pub once_at : (s : SessionState) (id h : ℕ) → IsApart s → id < 2 ^ 32 → IsOnceAt id (slot_at s h)
once_at s id h apart low = by_get (slice_get s.links h) refl
  where
    by_slot : (x : Slot LiveLink) → ((n : ℕ) → slot_count n x ≤ one_if (nat_lt n (2 ^ 32))) → IsOnceAt id x
    by_slot Free few = tt
    by_slot (Live l) few =
        let room : one_if (nat_lt id (2 ^ 32)) ≡ 1 = ap one_if (lt-ltb id (2 ^ 32) low) in
        let most = few id in
        let all = covered_few id (deliveries l.link) low (λ n m. let none : one_if (nat_lt n (2 ^ 32)) ≡ 0 = ap one_if (le-ltb n (2 ^ 32) m) in let fewer = few n in omega (arith, none, fewer)) in
        omega (arith, room, most, all)
    by_slot Waits few = tt

    by_get : (o : Option (Slot LiveLink)) → slice_get s.links h ≡ o → IsOnceAt id (unwrap_or o Free)
    by_get None e = tt
    by_get (Some x) e = by_slot x (λ n. let within = slot_within n s.links h x e in let most = apart n in omega (arith, within, most))

-- nothing stands at a begin
pub nothing_stands : (id k n i : ℕ) → slot_count id (at_place (tabulate k n (λ j. Free)) i) ≡ 0
nothing_stands id k zero i = refl
nothing_stands id k (suc n) zero = refl
nothing_stands id k (suc n) (suc i) = nothing_stands id (suc k) n i
