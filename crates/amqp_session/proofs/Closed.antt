-- The index of a session after a settle of its receiver.
use Rattle.std.proofs.Common.{arith, ◌≡◌, ℕ, ◌+◌, ◌<◌, ◌≤◌, ◌^◌, subst, Bool, true, false, not, ◌&&◌, List, [], ◌∷◌, ◌++◌, map, refl, sym, ap, ◌∙◌, Option, Some, None}
use Rattle.std.specs.Prelude.{slice_get, unwrap_or, option_to_list, filter, find, nat_eq, nat_lt, cond, if◌then◌else◌}
use Rattle.std.specs.List.{list_any, count_by}
use Rattle.std.proofs.lemmas.Bool.{eqb-true, and_parts, and_from, le-ltb, lt-ltb}
use Rattle.std.proofs.lemmas.Option.{same_Some}
use Rattle.amqp_perform.specs.declared.modes.ReceiverSettleMode.{ReceiverSettleMode}
use Rattle.amqp_perform.specs.declared.modes.ReceiverSettleMode.TheVariants.{First, Second}
use Rattle.amqp_link.specs.declared.settlement.Standing.{Standing}
use Rattle.amqp_link.specs.declared.settlement.Standing.TheVariants.{Untaken, Told, Awaiting}
use Rattle.amqp_link.specs.Histories.{one_if}
use Rattle.amqp_link.specs.Laws.{id_count}
use Rattle.amqp_link.specs.Links.{LinkState, Delivery, ReceiverSettled, has_id, is_first, is_covered, receiver_settles, marked_told, link_after, open_set, untaken, standing_at, standing_of}
use Rattle.amqp_link.proofs.Hints.{no_true, count_append, count_cons as count_both}
use Rattle.amqp_link.proofs.Ranges.{covers_itself}
use Rattle.amqp_session.specs.declared.index.Kept.{Kept}
use Rattle.amqp_session.specs.declared.slot.Slot.{Slot}
use Rattle.amqp_session.specs.declared.slot.Slot.TheVariants.{Free, Live}
use Rattle.amqp_session.specs.Places as place
use Rattle.amqp_session.specs.Calls.{slot_standing, standing_fault, settles_at_once}
use Rattle.amqp_session.specs.Links.{link_at, with_link, HasSettled}
use Rattle.amqp_session.specs.Sessions.{LiveLink, SessionState, session_after, slot_at, slot_count, IsApart}
use Rattle.amqp_session.specs.Sessions as event
use Rattle.amqp_session.specs.Indexes.{found, closed_of, is_kept_at, IsIndexed}
use Rattle.amqp_session.proofs.Came.{same_counted, given_counted, given_kept}
use Rattle.amqp_session.proofs.Indexed.{went, index_by, most_one, nowhere_else}
use Rattle.amqp_session.proofs.Lent.{lives, went_on, awaits}
use Rattle.amqp_session.proofs.Standings.{AreSmall, first_small, rest_small, covered_id, slot_within}

and_true : (b : Bool) → (b && true) ≡ b
and_true true = refl
and_true false = refl

and_false : (b : Bool) → (b && false) ≡ false
and_false true = refl
and_false false = refl

-- a settle of the id closes the delivery, where it is asked of this id
closes : ℕ → ℕ → Delivery → Bool
closes q id d = is_first d.rcv_settle_mode && nat_eq id q && has_id id d

closes_is : (q id : ℕ) (d : Delivery) → closes q id d ≡ (is_first d.rcv_settle_mode && nat_eq id q && has_id id d)
unfolding closes
closes_is q id d = refl

abbrev after : ℕ → List Delivery → List Delivery
after id ds = map (marked_told id id) (filter (λ d. not (receiver_settles id id d)) ds)

-- what it closes and what is left
settle_list : (q id : ℕ) (ds : List Delivery) → id < 2 ^ 32 → AreSmall ds → count_by (has_id q) (after id ds) + count_by (closes q id) ds ≡ count_by (has_id q) ds
settle_list q id [] low small = refl
settle_list q id (d ∷ ds) low small = by (receiver_settles id id d) refl (settle_list q id ds low (rest_small d ds small))
  where
    closed : receiver_settles id id d ≡ true → closes q id d ≡ has_id q d
    closed f =
        let two = and_parts (is_first d.rcv_settle_mode) (is_covered id id d) f in
        let same = covered_id id d.delivery_id low (first_small d ds small) two.1 in
        closes_is q id d ∙ ap (λ (b : Bool). b && nat_eq id q && has_id id d) two.0 ∙ ap (λ (b : Bool). nat_eq id q && b) same ∙ and_true (nat_eq id q)
        ∙ ap (λ (n : ℕ). nat_eq n q) (sym (eqb-true d.delivery_id id same))

    kept : receiver_settles id id d ≡ false → closes q id d ≡ false
    kept f = decide (closes q id d) refl
      where
        decide : (b : Bool) → closes q id d ≡ b → closes q id d ≡ false
        decide true g =
            let all = and_parts (is_first d.rcv_settle_mode && nat_eq id q) (has_id id d) (sym (closes_is q id d) ∙ g) in
            let one = and_parts (is_first d.rcv_settle_mode) (nat_eq id q) all.0 in
            let covered : is_covered id id d ≡ true = subst (λ (n : ℕ). is_covered id id (record d { delivery_id = n }) ≡ true) (sym (eqb-true d.delivery_id id all.1)) (covers_itself id low) in
            absurd (no_true (sym f ∙ and_from (is_first d.rcv_settle_mode) (is_covered id id d) one.0 covered))
        decide false g = g

    by : (b : Bool) → receiver_settles id id d ≡ b → count_by (has_id q) (after id ds) + count_by (closes q id) ds ≡ count_by (has_id q) ds →
        count_by (has_id q) (after id (d ∷ ds)) + count_by (closes q id) (d ∷ ds) ≡ count_by (has_id q) (d ∷ ds)
    by true f rest =
        let left = ap (λ (b : Bool). count_by (has_id q) (map (marked_told id id) (cond (not b) (d ∷ filter (λ x. not (receiver_settles id id x)) ds) (filter (λ x. not (receiver_settles id id x)) ds)))) f in
        let gone = count_both (closes q id) d ds ∙ ap (λ (b : Bool). cond b 1 0 + count_by (closes q id) ds) (closed f) in
        omega (arith, rest, left, gone, count_both (has_id q) d ds)
    by false f rest =
        let left = ap (λ (b : Bool). count_by (has_id q) (map (marked_told id id) (cond (not b) (d ∷ filter (λ x. not (receiver_settles id id x)) ds) (filter (λ x. not (receiver_settles id id x)) ds)))) f in
        let more = count_both (has_id q) (marked_told id id d) (after id ds) in
        let none = count_both (closes q id) d ds ∙ ap (λ (b : Bool). cond b 1 0 + count_by (closes q id) ds) (kept f) in
        omega (arith, rest, left, more, none, count_both (has_id q) d ds)

-- no more are closed than have the id
fewer_close : (q id : ℕ) (ds : List Delivery) → count_by (closes q id) ds ≤ count_by (has_id id) ds
fewer_close q id [] = omega arith
fewer_close q id (d ∷ ds) = by (has_id id d) refl (fewer_close q id ds)
  where
    at_most : (b : Bool) → cond b 1 0 ≤ 1
    at_most true = omega arith
    at_most false = omega arith

    by : (b : Bool) → has_id id d ≡ b → count_by (closes q id) ds ≤ count_by (has_id id) ds → count_by (closes q id) (d ∷ ds) ≤ count_by (has_id id) (d ∷ ds)
    by true f rest =
        let one = count_both (has_id id) d ds ∙ ap (λ (b : Bool). cond b 1 0 + count_by (has_id id) ds) f in
        omega (arith, rest, one, count_both (closes q id) d ds, at_most (closes q id d))
    by false f rest =
        let none = closes_is q id d ∙ ap (λ (b : Bool). is_first d.rcv_settle_mode && nat_eq id q && b) f ∙ and_false (is_first d.rcv_settle_mode && nat_eq id q) in
        let zero = count_both (closes q id) d ds ∙ ap (λ (b : Bool). cond b 1 0 + count_by (closes q id) ds) none in
        omega (arith, rest, zero, count_both (has_id id) d ds)

-- the one that is found is closed, if it is in mode first
found_closes : (q id : ℕ) (ds : List Delivery) (x : Delivery) → find (has_id id) ds ≡ Some x → count_by (has_id id) ds ≤ 1 →
    count_by (closes q id) ds ≡ (if is_first x.rcv_settle_mode && nat_eq id q then 1 else 0)
found_closes q id [] x e once = absurd (grind (arith, e))
found_closes q id (d ∷ ds) x e once = by (has_id id d) refl (λ g. found_closes q id ds x g)
  where
    by : (b : Bool) → has_id id d ≡ b → (find (has_id id) ds ≡ Some x → count_by (has_id id) ds ≤ 1 → count_by (closes q id) ds ≡ (if is_first x.rcv_settle_mode && nat_eq id q then 1 else 0)) →
        count_by (closes q id) (d ∷ ds) ≡ (if is_first x.rcv_settle_mode && nat_eq id q then 1 else 0)
    by true f later =
        let same : d ≡ x = same_Some d x (sym (ap (λ (b : Bool). cond b (Some d) (find (has_id id) ds)) f) ∙ e) in
        let one = count_both (has_id id) d ds ∙ ap (λ (b : Bool). cond b 1 0 + count_by (has_id id) ds) f in
        let few = fewer_close q id ds in
        let this : closes q id d ≡ (is_first x.rcv_settle_mode && nat_eq id q) =
        closes_is q id d ∙ ap (λ (b : Bool). is_first d.rcv_settle_mode && nat_eq id q && b) f ∙ and_true (is_first d.rcv_settle_mode && nat_eq id q)
        ∙ ap (λ (y : Delivery). is_first y.rcv_settle_mode && nat_eq id q) same in
        let all = count_both (closes q id) d ds ∙ ap (λ (b : Bool). cond b 1 0 + count_by (closes q id) ds) this in
        omega (arith, once, one, few, all)
    by false f later =
        let none = closes_is q id d ∙ ap (λ (b : Bool). is_first d.rcv_settle_mode && nat_eq id q && b) f ∙ and_false (is_first d.rcv_settle_mode && nat_eq id q) in
        let zero = count_both (closes q id) d ds ∙ ap (λ (b : Bool). cond b 1 0 + count_by (closes q id) ds) none in
        let behind : find (has_id id) ds ≡ Some x = sym (ap (λ (b : Bool). cond b (Some d) (find (has_id id) ds)) f) ∙ e in
        let rest = later behind (omega (arith, once, count_both (has_id id) d ds)) in
        omega (arith, zero, rest)

-- One link. ------------------------------------------------------------------------------------------------------------------

-- what stands awaits that, and was handed up
pub record Awaits (id : ℕ) (l : LinkState) (mode : ReceiverSettleMode) : Type 0 where
  pub it : Delivery
  pub found : find (has_id id) l.awaiting ≡ Some it
  pub in_mode : it.rcv_settle_mode ≡ mode

awaits_it : (id : ℕ) (l : LinkState) (mode : ReceiverSettleMode) → standing_of id (open_set l) ≡ Awaiting mode → Awaits id l mode
awaits_it id l mode e = by (list_any (has_id id) (untaken (open_set l))) (find (has_id id) l.awaiting) refl e
  where
    by_told : (d : Delivery) (b : Bool) → find (has_id id) l.awaiting ≡ Some d → (if b then Told else Awaiting d.rcv_settle_mode) ≡ Awaiting mode → Awaits id l mode
    by_told d true f g = absurd (grind (arith, g))
    by_told d false f g = let same : d.rcv_settle_mode ≡ mode = cc in record { it = d; found = f; in_mode = same }

    by : (b : Bool) (o : Option Delivery) → find (has_id id) l.awaiting ≡ o → (if b then Untaken else standing_at o) ≡ Awaiting mode → Awaits id l mode
    by true o f g = absurd (grind (arith, g))
    by false None f g = absurd (grind (arith, g))
    by false (Some d) f g = by_told d d.told f g

at_once : (mode : ReceiverSettleMode) → is_first mode ≡ settles_at_once (Awaiting mode)
at_once First = refl
at_once Second = refl

link_settled : (q id : ℕ) (l : LinkState) (mode : ReceiverSettleMode) → id < 2 ^ 32 → AreSmall l.awaiting → count_by (has_id id) l.awaiting ≤ 1 → standing_of id (open_set l) ≡ Awaiting mode →
    id_count q (link_after l (ReceiverSettled id id)) + (if settles_at_once (Awaiting mode) && nat_eq id q then 1 else 0) ≡ id_count q l
link_settled q id l mode low small once e =
    let a = awaits_it id l mode e in
    let gone = found_closes q id l.awaiting a.it a.found once
    ∙ ap (λ (m : ReceiverSettleMode). if is_first m && nat_eq id q then 1 else 0) a.in_mode ∙ ap (λ (b : Bool). if b && nat_eq id q then 1 else 0) (at_once mode) in
    let left = settle_list q id l.awaiting low small in
    let now = count_append (has_id q) (after id l.awaiting ++ l.ready) (option_to_list l.unfinished) in
    let now2 = count_append (has_id q) (after id l.awaiting) l.ready in
    let was = count_append (has_id q) (l.awaiting ++ l.ready) (option_to_list l.unfinished) in
    let was2 = count_append (has_id q) l.awaiting l.ready in
    omega (arith, gone, left, now, now2, was, was2)

-- The session. -----------------------------------------------------------------------------------------------------------------

pub settled_indexed : (entries entries' : List (ℕ × Kept)) (s : SessionState) (id h : ℕ) (x : Standing) (t new : LinkState) (closed : Bool) → IsApart s → id < 2 ^ 32 → s.next_incoming_id < 2 ^ 32 →
    Some t ≡ link_at s h → slot_standing id (slot_at s h) ≡ x → standing_fault x ≡ None → closed ≡ settles_at_once x → new ≡ link_after t (ReceiverSettled id id) →
    ((q : ℕ) → q < 2 ^ 32 → found entries' q ≡ closed_of closed id q (found entries q)) → IsIndexed entries s.links → IsIndexed entries' (with_link s h new).links
settled_indexed entries entries' s id h x t new closed apart low short at stands none once is closes was =
    subst (λ (u : SessionState). IsIndexed entries' u.links) (sym whole) (by closed closes (once ∙ ap settles_at_once mode.1))
  where
    live : (l : LiveLink) × (slot_at s h ≡ Live l) × (t ≡ l.link)
    live = lives (slot_at s h) t at

    mode : (m : ReceiverSettleMode) × (x ≡ Awaiting m)
    mode = awaits x none

    whole : with_link s h new ≡ session_after s (event.Called h (ReceiverSettled id id))
    whole = ap (with_link s h) is ∙ went_on s h t (ReceiverSettled id id) short at

    few : (n : ℕ) → id_count n live.0.link ≤ one_if (nat_lt n (2 ^ 32))
    few n = by_get (slice_get s.links h) refl
      where
        by_get : (o : Option (Slot LiveLink)) → slice_get s.links h ≡ o → id_count n live.0.link ≤ one_if (nat_lt n (2 ^ 32))
        by_get None e = absurd (no_live (sym (ap (λ (o : Option (Slot LiveLink)). unwrap_or o Free) e) ∙ live.1))
          where
            no_live : Free ≡ Live live.0 → ⊥
            no_live e = cc
        by_get (Some y) e =
            let same : slot_count n y ≡ id_count n live.0.link = ap (slot_count n) (sym (ap (λ (o : Option (Slot LiveLink)). unwrap_or o Free) e) ∙ live.1) in
            let within = slot_within n s.links h y e in
            let most = apart n in omega (arith, same, within, most)

    parts : (n : ℕ) → count_by (has_id n) live.0.link.awaiting ≤ id_count n live.0.link
    parts n =
        let two = count_append (has_id n) (live.0.link.awaiting ++ live.0.link.ready) (option_to_list live.0.link.unfinished) in
        let one = count_append (has_id n) live.0.link.awaiting live.0.link.ready in omega (arith, two, one)

    small : AreSmall live.0.link.awaiting
    small = λ n m. let none : one_if (nat_lt n (2 ^ 32)) ≡ 0 = ap one_if (le-ltb n (2 ^ 32) m) in omega (arith, none, few n, parts n)

    one : count_by (has_id id) live.0.link.awaiting ≤ 1
    one = let room : one_if (nat_lt id (2 ^ 32)) ≡ 1 = ap one_if (lt-ltb id (2 ^ 32) low) in omega (arith, room, few id, parts id)

    step : (q : ℕ) → id_count q (link_after live.0.link (ReceiverSettled id id)) + (if settles_at_once (Awaiting mode.0) && nat_eq id q then 1 else 0) ≡ id_count q live.0.link
    step q = link_settled q id live.0.link mode.0 low small one (ap (slot_standing id) (sym live.1) ∙ stands ∙ mode.1)

    by : (b : Bool) → ((q : ℕ) → q < 2 ^ 32 → found entries' q ≡ closed_of b id q (found entries q)) → b ≡ settles_at_once (Awaiting mode.0) →
        IsIndexed entries' (session_after s (event.Called h (ReceiverSettled id id))).links
    by true shut e =
        index_by (λ q i n. if nat_eq id q then 0 else n) entries entries' s.links (went (place.GoesOn h (ReceiverSettled id id)) s.links)
        (λ q i n. given_counted q h id (ReceiverSettled id id) s.links live.0 i live.1
        (ap (λ (b : Bool). id_count q (link_after live.0.link (ReceiverSettled id id)) + (if b && nat_eq id q then 1 else 0)) e ∙ step q)
        (most_one entries s.links was q h n) (λ j away more. nowhere_else entries s.links was q h n more j away))
        (λ q i n. given_kept id q i (found entries q) (found entries' q) (shut q n))
        was
    by false shut e =
        index_by (λ q i n. n) entries entries' s.links (went (place.GoesOn h (ReceiverSettled id id)) s.links)
        (λ q i n. same_counted q h (ReceiverSettled id id) s.links live.0 i live.1
        (let whole = ap (λ (b : Bool). id_count q (link_after live.0.link (ReceiverSettled id id)) + (if b && nat_eq id q then 1 else 0)) e ∙ step q in omega (arith, whole)))
        (λ q i n. ap (λ (o : Option Kept). one_if (is_kept_at i o)) (shut q n))
        was

-- the same of the link that saw its receiver settle the id
pub has_settled_indexed : (entries entries' : List (ℕ × Kept)) (s new : SessionState) (id h : ℕ) (x : Standing) (closed : Bool) → IsApart s → id < 2 ^ 32 → s.next_incoming_id < 2 ^ 32 →
    HasSettled s new h id → slot_standing id (slot_at s h) ≡ x → standing_fault x ≡ None → closed ≡ settles_at_once x →
    ((q : ℕ) → q < 2 ^ 32 → found entries' q ≡ closed_of closed id q (found entries q)) → IsIndexed entries s.links → IsIndexed entries' new.links
has_settled_indexed entries entries' s new id h x closed apart low short has stands none once closes was =
    subst (λ (u : SessionState). IsIndexed entries' u.links) (sym has.2)
    (settled_indexed entries entries' s id h x has.0 (link_after has.0 (ReceiverSettled id id)) closed apart low short has.1 stands none once refl closes was)
