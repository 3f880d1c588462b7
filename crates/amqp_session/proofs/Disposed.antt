-- A settle of the sender, one delivery by one.
use Rattle.std.proofs.Common.{subst, arith, ◌≡◌, ℕ, zero, suc, ◌+◌, ◌-◌, ◌%◌, ◌^◌, ◌<◌, ◌≤◌, Bool, true, false, not, ◌&&◌, ◌||◌, List, [], ◌∷◌, map, refl, sym, ap, ◌∙◌, Option, Some, None}
use Rattle.std.specs.Prelude.{slice_get, slice_set, unwrap_or, nat_eq, nat_lt, nat_le, sum_by, cond}
use Rattle.std.specs.List.{AllByRecursion, count_by}
use Rattle.std.proofs.lemmas.Bool.{eq-eqb, eqb-true, eqb-false, ne_eqb, lt-ltb, le-leb, ltb-true, ltb-false, leb-true, and_parts, and_from, false_from_ne_true}
use Rattle.std.proofs.lemmas.List.Sums.{sum_by-cons}
use Rattle.amqp_serial.specs.Numbers.{distance_of}
use Rattle.amqp_link.specs.Histories.{one_if}
use Rattle.amqp_link.specs.Links.{Delivery, LinkState, SenderSettled, covers, has_id, deliveries, open_set, newly_settled, link_after}
use Rattle.amqp_link.proofs.Hints.{count_cons as count_both}
use Rattle.amqp_link.proofs.Ranges.{either, settled_in_two, counted_in_two, settled_nothing, counted_nothing}
use Rattle.amqp_session.specs.declared.slot.Slot.{Slot}
use Rattle.amqp_session.specs.declared.slot.Slot.TheVariants.{Free, Live, Waits}
use Rattle.amqp_session.specs.Faults.{slot_settled}
use Rattle.amqp_link.specs.Links.{is_covered, IsOnce}
use Rattle.amqp_session.specs.Sessions.{LiveLink, SessionState, slot_count, slot_at, table_count, IsApart}
use Rattle.amqp_session.specs.Indexes.{found, disposed, is_kept_at, IsAlone, IsKnown, IsKnownFrom, IsOnceAt}
use Rattle.amqp_session.specs.Links.{link_in, link_at, slot_relinked, with_link}
use Rattle.amqp_session.specs.declared.index.Kept.{Kept}
use Rattle.amqp_session.proofs.Ids.{IdsGrow, table_cons}
use Rattle.amqp_session.specs.Places.{places_from}
use Rattle.amqp_session.specs.Places as place
use Rattle.amqp_session.specs.Sessions as event
use Rattle.amqp_session.specs.Sessions.{live_begins, live_after, session_after}
use Rattle.amqp_session.proofs.Lent.{lives, all_on}
use Rattle.amqp_session.proofs.Lookups.{once_at}
use Rattle.amqp_session.proofs.Standings.{covered_id, slot_within}
use Rattle.amqp_session.specs.Slots.{at_place, slot_called}

-- What is so of each id that an open delivery has is so of each delivery.
of_each : (p q : ℕ → Bool) (ds : List Delivery) → ((n : ℕ) → 1 ≤ count_by (has_id n) ds → p n ≡ q n) → AllByRecursion (λ d. p d.delivery_id ≡ q d.delivery_id) ds
of_each p q [] so = tt
of_each p q (d ∷ ds) so = (so d.delivery_id (omega (arith, here, count_both (has_id d.delivery_id) d ds)), of_each p q ds (λ n m. so n (omega (arith, m, count_both (has_id n) d ds))))
  where
    here : ◌≡◌ {A = ℕ} (cond (has_id d.delivery_id d) 1 0) 1
    here = ap (λ (b : Bool). cond b 1 0) (eq-eqb d.delivery_id d.delivery_id refl)

pub later_other : (h i : ℕ) → nat_eq h i ≡ false → nat_eq (suc h) (suc i) ≡ false
later_other h i e = let differ = eqb-false h i e in ne_eqb (suc h) (suc i) (λ f. absurd (omega (arith, differ, f)))

module _ (a b : ℕ) where
  -- one range as two
  module _ (c d e f : ℕ) where
    slot_in_two : (x : Slot LiveLink) → ((n : ℕ) → 1 ≤ slot_count n x → covers a b n ≡ either (covers c d) (covers e f) n) →
        slot_called (SenderSettled a b) x ≡ slot_called (SenderSettled e f) (slot_called (SenderSettled c d) x)
    slot_in_two Free so = refl
    slot_in_two (Live l) so = ap (λ (t : LinkState). Live (record l { link = t })) (settled_in_two a b l.link c d e f (of_each (covers a b) (either (covers c d) (covers e f)) (deliveries l.link) so))
    slot_in_two Waits so = refl

    slot_counted_in_two : (x : Slot LiveLink) → ((n : ℕ) → 1 ≤ slot_count n x → covers a b n ≡ either (covers c d) (covers e f) n) →
        slot_settled a b x ≡ slot_settled c d x + slot_settled e f (slot_called (SenderSettled c d) x)
    slot_counted_in_two Free so = refl
    slot_counted_in_two (Live l) so = counted_in_two a b l.link c d e f (of_each (covers a b) (either (covers c d) (covers e f)) (deliveries l.link) so)
    slot_counted_in_two Waits so = refl

    abbrev pub IsBoth : List (Slot LiveLink) → Type 0
    IsBoth slots = (n i : ℕ) → 1 ≤ slot_count n (at_place slots i) → covers a b n ≡ either (covers c d) (covers e f) n

    pub in_two : (slots : List (Slot LiveLink)) → IsBoth slots → map (slot_called (SenderSettled a b)) slots ≡ map (slot_called (SenderSettled e f)) (map (slot_called (SenderSettled c d)) slots)
    in_two [] so = refl
    in_two (x ∷ slots) so =
        ap (λ (y : Slot LiveLink). y ∷ map (slot_called (SenderSettled a b)) slots) (slot_in_two x (λ n m. so n 0 m))
        ∙ ap (λ (ys : List (Slot LiveLink)). slot_called (SenderSettled e f) (slot_called (SenderSettled c d) x) ∷ ys) (in_two slots (λ n i m. so n (suc i) m))

    pub sum_in_two : (slots : List (Slot LiveLink)) → IsBoth slots →
        sum_by (slot_settled a b) slots ≡ sum_by (slot_settled c d) slots + sum_by (slot_settled e f) (map (slot_called (SenderSettled c d)) slots)
    sum_in_two [] so = refl
    sum_in_two (x ∷ slots) so = omega (
      arith,
      sum_by-cons (slot_settled a b) x slots,
      sum_by-cons (slot_settled c d) x slots,
      sum_by-cons (slot_settled e f) (slot_called (SenderSettled c d) x) (map (slot_called (SenderSettled c d)) slots),
      slot_counted_in_two x (λ n m. so n 0 m),
      sum_in_two slots (λ n i m. so n (suc i) m),
    )

  -- a range that names nothing
  slot_nothing : (x : Slot LiveLink) → ((n : ℕ) → 1 ≤ slot_count n x → covers a b n ≡ false) → slot_called (SenderSettled a b) x ≡ x
  slot_nothing Free so = refl
  slot_nothing (Live l) so = ap (λ (t : LinkState). Live (record l { link = t })) (settled_nothing a b l.link (of_each (covers a b) (λ n. false) (deliveries l.link) so))
  slot_nothing Waits so = refl

  slot_counted_nothing : (x : Slot LiveLink) → ((n : ℕ) → 1 ≤ slot_count n x → covers a b n ≡ false) → slot_settled a b x ≡ 0
  slot_counted_nothing Free so = refl
  slot_counted_nothing (Live l) so = counted_nothing a b l.link (of_each (covers a b) (λ n. false) (deliveries l.link) so)
  slot_counted_nothing Waits so = refl

  abbrev pub IsNone : List (Slot LiveLink) → Type 0
  IsNone slots = (n i : ℕ) → 1 ≤ slot_count n (at_place slots i) → covers a b n ≡ false

  pub nothing_done : (slots : List (Slot LiveLink)) → IsNone slots → map (slot_called (SenderSettled a b)) slots ≡ slots
  nothing_done [] so = refl
  nothing_done (x ∷ slots) so =
      ap (λ (y : Slot LiveLink). y ∷ map (slot_called (SenderSettled a b)) slots) (slot_nothing x (λ n m. so n 0 m))
      ∙ ap (λ (ys : List (Slot LiveLink)). x ∷ ys) (nothing_done slots (λ n i m. so n (suc i) m))

  pub nothing_summed : (slots : List (Slot LiveLink)) → IsNone slots → sum_by (slot_settled a b) slots ≡ 0
  nothing_summed [] so = refl
  nothing_summed (x ∷ slots) so =
      omega (arith, sum_by-cons (slot_settled a b) x slots, slot_counted_nothing x (λ n m. so n 0 m), nothing_summed slots (λ n i m. so n (suc i) m))

  -- one that names none but at one place
  abbrev pub IsNoneBut : ℕ → List (Slot LiveLink) → Type 0
  IsNoneBut h slots = (n i : ℕ) → nat_eq h i ≡ false → 1 ≤ slot_count n (at_place slots i) → covers a b n ≡ false

  pub done_at : (h : ℕ) (slots : List (Slot LiveLink)) → IsNoneBut h slots → slice_set slots h (slot_called (SenderSettled a b) (at_place slots h)) ≡ map (slot_called (SenderSettled a b)) slots
  done_at h [] so = refl
  done_at zero (x ∷ slots) so =
      ap (λ (ys : List (Slot LiveLink)). slot_called (SenderSettled a b) x ∷ ys) (sym (nothing_done slots (λ n i m. so n (suc i) (ne_eqb 0 (suc i) (λ e. absurd (omega (arith, e)))) m)))
  done_at (suc h) (x ∷ slots) so =
      ap (λ (ys : List (Slot LiveLink)). x ∷ ys) (done_at h slots (λ n i e m. so n (suc i) (later_other h i e) m))
      ∙ ap (λ (y : Slot LiveLink). y ∷ map (slot_called (SenderSettled a b)) slots) (sym (slot_nothing x (λ n m. so n 0 (ne_eqb (suc h) 0 (λ e. absurd (omega (arith, e)))) m)))

  pub summed_at : (h : ℕ) (slots : List (Slot LiveLink)) → IsNoneBut h slots → sum_by (slot_settled a b) slots ≡ slot_settled a b (at_place slots h)
  summed_at h [] so = refl
  summed_at zero (x ∷ slots) so =
      omega (arith, sum_by-cons (slot_settled a b) x slots, nothing_summed slots (λ n i m. so n (suc i) (ne_eqb 0 (suc i) (λ e. absurd (omega (arith, e)))) m))
  summed_at (suc h) (x ∷ slots) so =
      let rest = summed_at h slots (λ n i e m. so n (suc i) (later_other h i e) m) in
      omega (arith, sum_by-cons (slot_settled a b) x slots, slot_counted_nothing x (λ n m. so n 0 (ne_eqb (suc h) 0 (λ e. absurd (omega (arith, e)))) m), rest)

-- Ids as plain numbers. ---------------------------------------------------------------------------------------------------

no_true : false ≡ true → ⊥
no_true e = cc

below : (m n : ℕ) → nat_le m n ≡ false → n < m
below m n e = grind (arith, e)

not_below : (m n : ℕ) → n < m → nat_le m n ≡ false
not_below m n l = false_from_ne_true (nat_le m n) (λ e. absurd (omega (arith, l, leb-true m n e)))

pub plain : (a b n : ℕ) → a ≤ b → b < a + 2 ^ 31 → b < 2 ^ 32 → n < 2 ^ 32 → covers a b n ≡ (nat_le a n && nat_le n b)
plain a b n l f s m = by (nat_le a n) (nat_le n b) refl refl
  where
    near : nat_lt (distance_of a b) (2 ^ 31) ≡ true
    near = lt-ltb (distance_of a b) (2 ^ 31) (omega (arith, l, f, s))

    within : covers a b n ≡ true → distance_of a n ≤ distance_of a b
    within e = leb-true (distance_of a n) (distance_of a b) (and_parts (nat_lt (distance_of a b) (2 ^ 31)) (nat_le (distance_of a n) (distance_of a b)) e).1

    by : (x y : Bool) → nat_le a n ≡ x → nat_le n b ≡ y → covers a b n ≡ (x && y)
    by true true e g =
        let one = leb-true a n e in
        let two = leb-true n b g in
        and_from (nat_lt (distance_of a b) (2 ^ 31)) (nat_le (distance_of a n) (distance_of a b)) near (le-leb (distance_of a n) (distance_of a b) (omega (arith, l, s, m, one, two)))
    by true false e g = false_from_ne_true (covers a b n) (λ c. let less = within c in let one = leb-true a n e in let two = below n b g in absurd (omega (arith, l, f, s, m, one, two, less)))
    by false y e g = false_from_ne_true (covers a b n) (λ c. let less = within c in let one = below a n e in absurd (omega (arith, l, f, s, m, one, less)))

-- behind the last there are none
pub behind : (last n : ℕ) → last < 2 ^ 32 → covers (last + 1) last n ≡ false
behind last n s = false_from_ne_true (covers (last + 1) last n) (λ c.
    let near = ltb-true (distance_of (last + 1) last) (2 ^ 31) (and_parts (nat_lt (distance_of (last + 1) last) (2 ^ 31)) (nat_le (distance_of (last + 1) n) (distance_of (last + 1) last)) c).0 in
    absurd (omega (arith, s, near)))

rest_is : (id last n : ℕ) → id ≤ last → last < id + 2 ^ 31 → last < 2 ^ 32 → n < 2 ^ 32 → covers (id + 1) last n ≡ (nat_le (id + 1) n && nat_le n last)
rest_is id last n l f s m = by (nat_eq id last) refl
  where
    by : (b : Bool) → nat_eq id last ≡ b → covers (id + 1) last n ≡ (nat_le (id + 1) n && nat_le n last)
    by true e =
        let same = eqb-true id last e in
        let none : covers (id + 1) last n ≡ false = ap (λ (k : ℕ). covers (k + 1) last n) same ∙ behind last n s in
        none ∙ sym (false_from_ne_true (nat_le (id + 1) n && nat_le n last) (λ c. let p = and_parts (nat_le (id + 1) n) (nat_le n last) c in
        let one = leb-true (id + 1) n p.0 in let two = leb-true n last p.1 in absurd (omega (arith, same, one, two))))
    by false e = let differ = eqb-false id last e in plain (id + 1) last n (omega (arith, l, differ)) (omega (arith, f)) s m

-- the range as its next id and the rest
pub one_and_rest : (from id last n : ℕ) → from ≤ id → id ≤ last → last < from + 2 ^ 31 → last < 2 ^ 32 → n < 2 ^ 32 → (from ≤ n → n < id → ⊥) →
    covers from last n ≡ either (covers id id) (covers (id + 1) last) n
one_and_rest from id last n a b f s m none =
    plain from last n (omega (arith, a, b)) f s m ∙ by (nat_lt n id) (nat_eq n id) refl refl
    ∙ sym (ap (λ (x : Bool). x || covers (id + 1) last n) (plain id id n (omega arith) (omega arith) (omega (arith, b, s)) m)
    ∙ ap (λ (x : Bool). (nat_le id n && nat_le n id) || x) (rest_is id last n b (omega (arith, a, f)) s m))
  where
    by : (x y : Bool) → nat_lt n id ≡ x → nat_eq n id ≡ y → (nat_le from n && nat_le n last) ≡ ((nat_le id n && nat_le n id) || (nat_le (id + 1) n && nat_le n last))
    by true y e g =
        let l = ltb-true n id e in
        let one : nat_le from n ≡ false = not_below from n (early (nat_le from n) refl l) in
        let two : nat_le id n ≡ false = not_below id n l in
        let three : nat_le (id + 1) n ≡ false = not_below (id + 1) n (omega (arith, l)) in rw (one, two, three) refl
      where
        early : (c : Bool) → nat_le from n ≡ c → n < id → n < from
        early true c l = absurd (none (leb-true from n c) l)
        early false c l = below from n c
    by false true e g =
        let same = eqb-true n id g in
        let one : nat_le from n ≡ true = le-leb from n (omega (arith, a, same)) in
        let two : nat_le n last ≡ true = le-leb n last (omega (arith, b, same)) in
        let three : nat_le id n ≡ true = le-leb id n (omega (arith, same)) in
        let four : nat_le n id ≡ true = le-leb n id (omega (arith, same)) in rw (one, two, three, four) refl
    by false false e g =
        let l = ltb-false n id e in
        let differ = eqb-false n id g in
        let one : nat_le from n ≡ true = le-leb from n (omega (arith, a, l)) in
        let two : nat_le id n ≡ true = le-leb id n l in
        let three : nat_le n id ≡ false = not_below n id (omega (arith, l, differ)) in
        let four : nat_le (id + 1) n ≡ true = le-leb (id + 1) n (omega (arith, l, differ)) in rw (one, two, three, four) refl

-- The table. ------------------------------------------------------------------------------------------------------------------

within_place : (n i : ℕ) (slots : List (Slot LiveLink)) → slot_count n (at_place slots i) ≤ table_count n slots
within_place n i slots = by (slice_get slots i) refl
  where
    by : (o : Option (Slot LiveLink)) → slice_get slots i ≡ o → slot_count n (unwrap_or o Free) ≤ table_count n slots
    by None e = omega arith
    by (Some x) e = slot_within n slots i x e

pub small_id : (s : SessionState) (n i : ℕ) → IsApart s → 1 ≤ slot_count n (at_place s.links i) → n < 2 ^ 32
small_id s n i apart more = by (nat_lt n (2 ^ 32)) refl
  where
    by : (b : Bool) → nat_lt n (2 ^ 32) ≡ b → n < 2 ^ 32
    by true e = ltb-true n (2 ^ 32) e
    by false e =
        let few = apart n in
        let none : one_if (nat_lt n (2 ^ 32)) ≡ 0 = ap one_if e in
        let most = within_place n i s.links in absurd (omega (arith, few, none, most, more))

apart_called : IdsGrow → (a b : ℕ) (s : SessionState) → IsApart s → IsApart (disposed a b s)
apart_called grow a b s apart = λ n. let less = by n s.links in let few = apart n in omega (arith, less, few)
  where
    slot_less : (n : ℕ) (x : Slot LiveLink) → slot_count n (slot_called (SenderSettled a b) x) ≤ slot_count n x
    slot_less n Free = omega arith
    slot_less n (Live l) = let step = grow n l.link (SenderSettled a b) tt in omega (arith, step)
    slot_less n Waits = omega arith

    by : (n : ℕ) (slots : List (Slot LiveLink)) → table_count n (map (slot_called (SenderSettled a b)) slots) ≤ table_count n slots
    by n [] = omega arith
    by n (x ∷ slots) =
        let one = slot_less n x in
        let rest = by n slots in
        omega (arith, one, rest, table_cons n x slots, table_cons n (slot_called (SenderSettled a b) x) (map (slot_called (SenderSettled a b)) slots))

-- One delivery. ------------------------------------------------------------------------------------------------------------

abbrev not_settled : Delivery → Bool
not_settled d = not d.settled

fewer : (p : Delivery → Bool) (ds : List Delivery) → count_by (λ d. not_settled d && p d) ds ≤ count_by p ds
fewer p [] = omega arith
fewer p (d ∷ ds) =
    let rest = fewer p ds in
    let one = by (not_settled d) (p d) in
    omega (arith, rest, one, count_both (λ x. not_settled x && p x) d ds, count_both p d ds)
  where
    by : (a b : Bool) → cond (a && b) 1 0 ≤ cond b 1 0
    by true b = omega arith
    by false true = omega arith
    by false false = omega arith

module _ (s : SessionState) (h id : ℕ) (apart : IsApart s) (alone : IsAlone id h s.links) (low : id < 2 ^ 32) where
  none_but : IsNoneBut id id h s.links
  none_but = λ n i away more. false_from_ne_true (covers id id n) (λ c.
      let same = eqb-true n id (covered_id id n low (small_id s n i apart more) c) in
      let none = alone i away in
      let count : slot_count n (at_place s.links i) ≡ slot_count id (at_place s.links i) = ap (λ (k : ℕ). slot_count k (at_place s.links i)) same in
      absurd (omega (arith, none, count, more)))

  module _ (t new : LinkState) (at : Some t ≡ link_at s h) where
    pub is_once : IsOnce id id (open_set t)
    is_once =
        let live = lives (slot_at s h) t at in
        subst (λ (u : LinkState). IsOnce id id (open_set u)) (sym live.2) (subst (IsOnceAt id) live.1 (once_at s id h apart low))

    pub one_done : new ≡ link_after t (SenderSettled id id) → with_link s h new ≡ disposed id id s
    one_done is =
        let live = lives (slot_at s h) t at in
        ap (λ (ls : List (Slot LiveLink)). record s { links = ls })
        (ap (λ (u : LinkState). slice_set s.links h (slot_relinked (slot_at s h) u)) (is ∙ ap (λ (u : LinkState). link_after u (SenderSettled id id)) live.2)
        ∙ ap (λ (y : Slot LiveLink). slice_set s.links h (slot_relinked y (link_after live.0.link (SenderSettled id id)))) live.1
        ∙ ap (λ (y : Slot LiveLink). slice_set s.links h (slot_called (SenderSettled id id) y)) (sym live.1)
        ∙ done_at id id h s.links none_but)

    pub one_apart : IdsGrow → new ≡ link_after t (SenderSettled id id) → IsApart (with_link s h new)
    one_apart grow is = subst (λ (u : SessionState). IsApart u) (sym (one_done is)) (apart_called grow id id s apart)

    pub one_counted : newly_settled id id (open_set t) ≡ sum_by (slot_settled id id) s.links
    one_counted =
        let live = lives (slot_at s h) t at in
        ap (λ (u : LinkState). newly_settled id id (open_set u)) live.2 ∙ ap (slot_settled id id) (sym live.1) ∙ sym (summed_at id id h s.links none_but)

    pub one_at_most : newly_settled id id (open_set t) ≤ 1
    one_at_most = let few = fewer (is_covered id id) (deliveries t) in let once = is_once in omega (arith, few, once)

  -- where no link is live there
  module _ (at : None ≡ link_at s h) where
    none_there : IsNone id id s.links
    none_there = λ n i more. by n i more (nat_eq h i) refl
      where
        empty : (n : ℕ) (x : Slot LiveLink) → None ≡ link_in x → slot_count n x ≡ 0
        empty n Free e = refl
        empty n (Live l) e = absurd (grind (arith, e))
        empty n Waits e = refl

        by : (n i : ℕ) → 1 ≤ slot_count n (at_place s.links i) → (b : Bool) → nat_eq h i ≡ b → covers id id n ≡ false
        by n i more true e =
            let none = empty n (slot_at s h) at in
            let count : slot_count n (at_place s.links h) ≡ slot_count n (at_place s.links i) = ap (λ (k : ℕ). slot_count n (at_place s.links k)) (eqb-true h i e) in
            absurd (omega (arith, none, count, more))
        by n i more false e = none_but n i e more

    pub none_done : s ≡ disposed id id s
    none_done = ap (λ (ls : List (Slot LiveLink)). record s { links = ls }) (sym (nothing_done id id s.links none_there))

    pub none_counted : 0 ≡ sum_by (slot_settled id id) s.links
    none_counted = sym (nothing_summed id id s.links none_there)

-- A step of the walk over the index. -----------------------------------------------------------------------------------------

module _ (entries : List (ℕ × Kept)) (s : SessionState) (from last : ℕ) (order : from ≤ last) (few : last < from + 2 ^ 31) (small : last < 2 ^ 32) (known : IsKnownFrom entries from last s) where
  closed : (n i : ℕ) → from ≤ n → n ≤ last → found entries n ≡ None → 1 ≤ slot_count n (at_place s.links i) → ⊥
  closed n i a b none more =
      let count : slot_count n (at_place s.links i) ≡ 0 = known.indexed n i a b ∙ ap (λ (o : Option Kept). one_if (is_kept_at i o)) none in absurd (omega (arith, count, more))

  -- nothing is left
  module _ (none : (q : ℕ) → from ≤ q → q ≤ last → found entries q ≡ None) where
    pub none_left : IsNone from last s.links
    none_left = λ n i more.
        plain from last n order few small (small_id s n i known.apart more)
        ∙ false_from_ne_true (nat_le from n && nat_le n last) (λ c. let p = and_parts (nat_le from n) (nat_le n last) c in
        let a = leb-true from n p.0 in let b = leb-true n last p.1 in closed n i a b (none n a b) more)

    pub left_done : s ≡ disposed from last s
    left_done = ap (λ (ls : List (Slot LiveLink)). record s { links = ls }) (sym (nothing_done from last s.links none_left))

    pub left_counted : sum_by (slot_settled from last) s.links ≡ 0
    left_counted = nothing_summed from last s.links none_left

  -- or one is
  module _ (id : ℕ) (low : from ≤ id) (high : id ≤ last) (none : (q : ℕ) → from ≤ q → q < id → found entries q ≡ None) where
    pub both : IsBoth from last id id (id + 1) last s.links
    both = λ n i more. one_and_rest from id last n low high few small (small_id s n i known.apart more) (λ a b. closed n i a (omega (arith, b, high)) (none n a b) more)

    pub step_done : disposed from last s ≡ disposed (id + 1) last (disposed id id s)
    step_done = ap (λ (ls : List (Slot LiveLink)). record s { links = ls }) (in_two from last id id (id + 1) last s.links both)

    pub step_counted : sum_by (slot_settled from last) s.links ≡ sum_by (slot_settled id id) s.links + sum_by (slot_settled (id + 1) last) (disposed id id s).links
    step_counted = sum_in_two from last id id (id + 1) last s.links both

    module _ (is_last : id ≡ last) where
      pub last_done : disposed from last s ≡ disposed id id s
      last_done = step_done ∙ ap (λ (ls : List (Slot LiveLink)). record s { links = ls }) (nothing_done (id + 1) last (disposed id id s).links (λ n i more. gone n))
        where
          gone : (n : ℕ) → covers (id + 1) last n ≡ false
          gone n = ap (λ (k : ℕ). covers (k + 1) last n) is_last ∙ behind last n small

      pub last_counted : sum_by (slot_settled from last) s.links ≡ sum_by (slot_settled id id) s.links
      last_counted = let nothing = nothing_summed (id + 1) last (disposed id id s).links (λ n i more. gone n) in omega (arith, step_counted, nothing)
        where
          gone : (n : ℕ) → covers (id + 1) last n ≡ false
          gone n = ap (λ (k : ℕ). covers (k + 1) last n) is_last ∙ behind last n small

-- A range that goes on behind the end of the ids. ------------------------------------------------------------------------------

pub no_ids : (first last : ℕ) → 2 ^ 31 ≤ distance_of first last → (n : ℕ) → covers first last n ≡ false
no_ids first last far n = false_from_ne_true (covers first last n) (λ c.
    let near = ltb-true (distance_of first last) (2 ^ 31) (and_parts (nat_lt (distance_of first last) (2 ^ 31)) (nat_le (distance_of first n) (distance_of first last)) c).0 in
    absurd (omega (arith, far, near)))

pub no_ids_done : (first last : ℕ) (s : SessionState) → 2 ^ 31 ≤ distance_of first last → s ≡ disposed first last s
no_ids_done first last s far = ap (λ (ls : List (Slot LiveLink)). record s { links = ls }) (sym (nothing_done first last s.links (λ n i more. no_ids first last far n)))

pub no_ids_counted : (first last : ℕ) (s : SessionState) → 2 ^ 31 ≤ distance_of first last → 0 ≡ sum_by (slot_settled first last) s.links
no_ids_counted first last s far = sym (nothing_summed first last s.links (λ n i more. no_ids first last far n))

pub known_from : (entries : List (ℕ × Kept)) (s : SessionState) (first last : ℕ) → last < 2 ^ 32 → IsKnown entries s → IsKnownFrom entries first last s
known_from entries s first last small known = record { apart = known.apart; indexed = λ id i a b. known.indexed id i (omega (arith, b, small)) }

module _ (first last : ℕ) (wraps : last < first) (small : first < 2 ^ 32) (near : distance_of first last < 2 ^ 31) where
  pub wrapped : (n : ℕ) → n < 2 ^ 32 → covers first last n ≡ either (covers first 4294967295) (covers 0 last) n
  wrapped n m =
      by (nat_le first n) (nat_le n last) refl refl
      ∙ sym (ap (λ (x : Bool). x || covers 0 last n) (plain first 4294967295 n (omega (arith, small)) (omega (arith, wraps, small, near)) (omega arith) m ∙ top (nat_le first n))
      ∙ ap (λ (x : Bool). nat_le first n || x) (plain 0 last n (omega arith) (omega (arith, wraps, small, near)) (omega (arith, wraps, small)) m ∙ bottom))
    where
      top : (b : Bool) → (b && nat_le n 4294967295) ≡ b
      top true = le-leb n 4294967295 (omega (arith, m))
      top false = refl

      bottom : (nat_le 0 n && nat_le n last) ≡ nat_le n last
      bottom = ap (λ (b : Bool). b && nat_le n last) (le-leb 0 n (omega arith))

      is_near : nat_lt (distance_of first last) (2 ^ 31) ≡ true
      is_near = lt-ltb (distance_of first last) (2 ^ 31) near

      within : distance_of first n ≤ distance_of first last → covers first last n ≡ true
      within l = and_from (nat_lt (distance_of first last) (2 ^ 31)) (nat_le (distance_of first n) (distance_of first last)) is_near (le-leb (distance_of first n) (distance_of first last) l)

      by : (x y : Bool) → nat_le first n ≡ x → nat_le n last ≡ y → covers first last n ≡ (nat_le first n || nat_le n last)
      by true y e g = let one = leb-true first n e in within (omega (arith, one, m, wraps, small)) ∙ sym (ap (λ (x : Bool). x || nat_le n last) e)
      by false true e g =
          let one = below first n e in let two = leb-true n last g in
          within (omega (arith, one, two, m, wraps, small)) ∙ sym (ap (λ (x : Bool). x || nat_le n last) e ∙ g)
      by false false e g =
          let one = below first n e in
          let two = below n last g in
          false_from_ne_true (covers first last n) (λ c.
          let less = leb-true (distance_of first n) (distance_of first last) (and_parts (nat_lt (distance_of first last) (2 ^ 31)) (nat_le (distance_of first n) (distance_of first last)) c).1 in
          absurd (omega (arith, one, two, m, wraps, small, less))) ∙ sym (ap (λ (x : Bool). x || nat_le n last) e ∙ g)

  module _ (s : SessionState) (apart : IsApart s) where
    pub wraps_both : IsBoth first last first 4294967295 0 last s.links
    wraps_both = λ n i more. wrapped n (small_id s n i apart more)

    pub wrap_done : disposed 0 last (disposed first 4294967295 s) ≡ disposed first last s
    wrap_done = sym (ap (λ (ls : List (Slot LiveLink)). record s { links = ls }) (in_two first last first 4294967295 0 last s.links wraps_both))

    pub wrap_counted : sum_by (slot_settled first last) s.links ≡ sum_by (slot_settled first 4294967295) s.links + sum_by (slot_settled 0 last) (disposed first 4294967295 s).links
    wrap_counted = sum_in_two first last first 4294967295 0 last s.links wraps_both

-- The event of a disposition. ----------------------------------------------------------------------------------------------------

pub disposed_is : (s : SessionState) (first last : ℕ) → s.next_incoming_id < 2 ^ 32 → disposed first last s ≡ session_after s (event.PeerSettled first last)
disposed_is s first last short =
    let window : s.window ≡ s.window + 0 - 0 = omega arith in
    let number : s.next_incoming_id ≡ (s.next_incoming_id + 0) % 2 ^ 32 = omega (arith, short) in
    ap (λ (ks : List (Slot LiveLink)). record s { links = ks }) (sym (all_on 0 (SenderSettled first last) s.links))
    ∙ ap (λ (w : ℕ). record { terms = s.terms; window = w; next_incoming_id = s.next_incoming_id; links = (session_after s (event.PeerSettled first last)).links }) window
    ∙ ap (λ (n : ℕ). record { terms = s.terms; window = s.window + 0 - 0; next_incoming_id = n; links = (session_after s (event.PeerSettled first last)).links }) number

pub ignored_is : (s : SessionState) → s.next_incoming_id < 2 ^ 32 → s ≡ session_after s event.Ignored
ignored_is s short =
    let window : s.window ≡ s.window + 0 - 0 = omega arith in
    let number : s.next_incoming_id ≡ (s.next_incoming_id + 0) % 2 ^ 32 = omega (arith, short) in
    ap (λ (ks : List (Slot LiveLink)). record s { links = ks }) (sym (unmoved 0 s.links))
    ∙ ap (λ (w : ℕ). record { terms = s.terms; window = w; next_incoming_id = s.next_incoming_id; links = (session_after s event.Ignored).links }) window
    ∙ ap (λ (n : ℕ). record { terms = s.terms; window = s.window + 0 - 0; next_incoming_id = n; links = (session_after s event.Ignored).links }) number
  where
    unmoved : (k : ℕ) (slots : List (Slot LiveLink)) → places_from live_begins live_after k place.Nothing slots ≡ slots
    unmoved k [] = refl
    unmoved k (x ∷ slots) = ap (λ (ys : List (Slot LiveLink)). x ∷ ys) (unmoved (suc k) slots)
