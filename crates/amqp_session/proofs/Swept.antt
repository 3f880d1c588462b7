-- The index where those were taken out that are open no longer.
use Rattle.std.proofs.Common.{arith, ◌≡◌, ℕ, zero, suc, ◌+◌, ◌<◌, ◌≤◌, ◌^◌, Bool, true, false, not, ◌&&◌, List, [], ◌∷◌, ◌++◌, map, refl, sym, ap, ◌∙◌, Option, Some, None}
use Rattle.std.specs.Prelude.{option_map, option_to_list, filter, cond, is_some, find, nat_eq, nat_le, nat_lt, if◌then◌else◌, ◌&&◌, ◌||◌}
use Rattle.std.proofs.lemmas.Bool.{eqb-true, eqb-false, and_from, lt-ltb, le-leb}
use Rattle.std.proofs.lemmas.List.Folds.{list_any-append}
use Rattle.amqp_serial.specs.Numbers.{distance_of}
use Rattle.amqp_link.specs.Histories.{one_if}
use Rattle.amqp_link.specs.Links.{SenderSettled, has_id}
use Rattle.amqp_link.proofs.PlaceKeys.{any_found}
use Rattle.amqp_perform.specs.declared.modes.ReceiverSettleMode.{ReceiverSettleMode}
use Rattle.amqp_link.specs.declared.settlement.Standing.TheVariants.{Absent, Untaken, Told, Awaiting}
use Rattle.std.specs.List.{list_any, count_by}
use Rattle.amqp_link.specs.Links.{covers, is_covered, sender_settled_by, link_after}
use Rattle.amqp_link.proofs.Hints.{count_append, count_cons as count_both}
use Rattle.amqp_link.specs.Links.{Delivery, has_id, open_set, untaken, standing_of, standing_at}
use Rattle.amqp_session.specs.Calls.{slot_standing, is_absent}
use Rattle.amqp_session.proofs.Standings.{absent_none, covered_id, parts_count}
use Rattle.amqp_session.specs.declared.index.Kept.{Kept}
use Rattle.amqp_session.specs.declared.slot.Slot.{Slot}
use Rattle.amqp_session.specs.declared.slot.Slot.TheVariants.{Free, Live, Waits}
use Rattle.amqp_session.specs.Sessions.{LiveLink, SessionState, slot_at, slot_count}
use Rattle.amqp_link.specs.Links.{LinkEvent, LinkState}
use Rattle.amqp_link.specs.Laws.{id_count}
use Rattle.amqp_session.specs.Slots.{at_place, slot_called}
use Rattle.amqp_session.specs.Indexes.{found, closed_of, is_untaken, swept, swept_if, disposed, is_kept_at, IsIndexed}
use Rattle.amqp_session.proofs.Ids.{IdsGrow, none_has}

no_true : false ≡ true → ⊥
no_true e = cc

-- what is not absent is open, and what is absent is not
some_counted : (id : ℕ) (x : Slot LiveLink) → is_absent (slot_standing id x) ≡ false → 1 ≤ slot_count id x
some_counted id x e = by (nat_eq (slot_count id x) 0) refl
  where
    by : (b : Bool) → nat_eq (slot_count id x) 0 ≡ b → 1 ≤ slot_count id x
    by true f = absurd (no_true (sym e ∙ ap is_absent (absent_none id x (eqb-true (slot_count id x) 0 f))))
    by false f = let more = eqb-false (slot_count id x) 0 f in omega (arith, more)

none_standing : (id : ℕ) (l : LinkState) → is_absent (standing_of id (open_set l)) ≡ true → id_count id l ≡ 0
none_standing id l e = by (list_any (has_id id) (untaken (open_set l))) (find (has_id id) l.awaiting) refl refl e
  where
    told : (b : Bool) (mode : ReceiverSettleMode) → is_absent (if b then Told else Awaiting mode) ≡ true → ⊥
    told true mode f = no_true f
    told false mode f = no_true f

    by : (b : Bool) (o : Option Delivery) → list_any (has_id id) (untaken (open_set l)) ≡ b → find (has_id id) l.awaiting ≡ o →
        is_absent (if b then Untaken else standing_at o) ≡ true → id_count id l ≡ 0
    by true o f g h = absurd (no_true h)
    by false (Some d) f g h = absurd (told d.told d.rcv_settle_mode h)
    by false None f g h =
        let front = none_has id l.awaiting (any_found (has_id id) l.awaiting ∙ ap is_some g) in
        let back = none_has id (untaken (open_set l)) f in omega (arith, parts_count id l, front, back)

pub none_there : (id : ℕ) (x : Slot LiveLink) → is_absent (slot_standing id x) ≡ true → slot_count id x ≡ 0
none_there id Free e = refl
none_there id (Live l) e = none_standing id l.link e
none_there id Waits e = refl

swept_is : (entries : List (ℕ × Kept)) (s new : SessionState) → ((id i : ℕ) → slot_count id (at_place new.links i) ≤ slot_count id (at_place s.links i)) → (id i : ℕ) (o : Option Kept) →
    slot_count id (at_place s.links i) ≡ one_if (is_kept_at i o) → slot_count id (at_place new.links i) ≡ one_if (is_kept_at i (swept id new o))
swept_is entries s new less id i None is = let few = less id i in omega (arith, is, few)
swept_is entries s new less id i (Some kept) is = by_has (is_absent (slot_standing id (slot_at new kept.handle))) (nat_eq kept.handle i) refl refl
  where
    here : nat_eq kept.handle i ≡ true → slot_count id (slot_at new kept.handle) ≡ slot_count id (at_place new.links i)
    here f = ap (λ (n : ℕ). slot_count id (at_place new.links n)) (eqb-true kept.handle i f)

    by_has : (a b : Bool) → is_absent (slot_standing id (slot_at new kept.handle)) ≡ a → nat_eq kept.handle i ≡ b →
        slot_count id (at_place new.links i) ≡ one_if (is_kept_at i (if a then None else Some kept))
    by_has false true e f =
        let few = less id i in
        let most : slot_count id (at_place s.links i) ≡ 1 = is ∙ ap one_if f in
        let some = some_counted id (slot_at new kept.handle) e in
        let one : slot_count id (at_place new.links i) ≡ 1 = omega (arith, few, most, some, here f) in one ∙ sym (ap one_if f)
    by_has false false e f =
        let few = less id i in
        let most : slot_count id (at_place s.links i) ≡ 0 = is ∙ ap one_if f in
        let none : slot_count id (at_place new.links i) ≡ 0 = omega (arith, few, most) in none ∙ sym (ap one_if f)
    by_has true true e f = sym (here f) ∙ none_there id (slot_at new kept.handle) e
    by_has true false e f =
        let few = less id i in
        let most : slot_count id (at_place s.links i) ≡ 0 = is ∙ ap one_if f in omega (arith, few, most)

-- where only those are swept of which a test says so, and the others stay
swept_some : (so : ℕ → Bool) (entries entries' : List (ℕ × Kept)) (s new : SessionState) → ((id i : ℕ) → slot_count id (at_place new.links i) ≤ slot_count id (at_place s.links i)) →
    ((id i : ℕ) → id < 2 ^ 32 → so id ≡ false → slot_count id (at_place new.links i) ≡ slot_count id (at_place s.links i)) →
    ((id : ℕ) → id < 2 ^ 32 → found entries' id ≡ swept_if (so id) id new (found entries id)) → IsIndexed entries s.links → IsIndexed entries' new.links
swept_some so entries entries' s new less same sweeps was = λ id i low. by id i low (so id) refl
  where
    by : (id i : ℕ) → id < 2 ^ 32 → (b : Bool) → so id ≡ b → slot_count id (at_place new.links i) ≡ one_if (is_kept_at i (found entries' id))
    by id i low true f =
        swept_is entries s new less id i (found entries id) (was id i low)
        ∙ sym (ap (λ (o : Option Kept). one_if (is_kept_at i o)) (sweeps id low ∙ ap (λ (b : Bool). swept_if b id new (found entries id)) f))
    by id i low false f =
        same id i low f ∙ was id i low
        ∙ sym (ap (λ (o : Option Kept). one_if (is_kept_at i o)) (sweeps id low ∙ ap (λ (b : Bool). swept_if b id new (found entries id)) f))

-- One link. ------------------------------------------------------------------------------------------------------------------

unsettled_list : (q first last : ℕ) (ds : List Delivery) → covers first last q ≡ false → count_by (has_id q) (filter (λ d. not (is_covered first last d)) ds) ≡ count_by (has_id q) ds
unsettled_list q first last [] e = refl
unsettled_list q first last (d ∷ ds) e = by (is_covered first last d) refl (unsettled_list q first last ds e)
  where
    by : (b : Bool) → is_covered first last d ≡ b → count_by (has_id q) (filter (λ d. not (is_covered first last d)) ds) ≡ count_by (has_id q) ds →
        count_by (has_id q) (filter (λ d. not (is_covered first last d)) (d ∷ ds)) ≡ count_by (has_id q) (d ∷ ds)
    by true f rest =
        let gone = ap (λ (b : Bool). count_by (has_id q) (cond (not b) (d ∷ filter (λ x. not (is_covered first last x)) ds) (filter (λ x. not (is_covered first last x)) ds))) f in
        let other : has_id q d ≡ false = other_id (has_id q d) refl in
        let none = count_both (has_id q) d ds ∙ ap (λ (b : Bool). cond b 1 0 + count_by (has_id q) ds) other in
        omega (arith, rest, gone, none)
      where
        other_id : (b : Bool) → has_id q d ≡ b → has_id q d ≡ false
        other_id true g = absurd (no_true (sym e ∙ ap (covers first last) (sym (eqb-true d.delivery_id q g)) ∙ f))
        other_id false g = g
    by false f rest =
        let kept = ap (λ (b : Bool). count_by (has_id q) (cond (not b) (d ∷ filter (λ x. not (is_covered first last x)) ds) (filter (λ x. not (is_covered first last x)) ds))) f in
        let one = count_both (has_id q) d (filter (λ x. not (is_covered first last x)) ds) in
        omega (arith, rest, kept, one, count_both (has_id q) d ds)

settled_map : (q first last : ℕ) (ds : List Delivery) → count_by (has_id q) (map (sender_settled_by first last) ds) ≡ count_by (has_id q) ds
settled_map q first last [] = refl
settled_map q first last (d ∷ ds) =
    omega (arith, settled_map q first last ds, count_both (has_id q) d ds, count_both (has_id q) (sender_settled_by first last d) (map (sender_settled_by first last) ds))

settled_option : (q first last : ℕ) (o : Option Delivery) → count_by (has_id q) (option_to_list (option_map (sender_settled_by first last) o)) ≡ count_by (has_id q) (option_to_list o)
settled_option q first last None = refl
settled_option q first last (Some d) = refl

uncovered_stay : (q first last : ℕ) (l : LinkState) → covers first last q ≡ false → id_count q (link_after l (SenderSettled first last)) ≡ id_count q l
uncovered_stay q first last l e =
    let front = filter (λ d. not (is_covered first last d)) l.awaiting in
    let now = count_append (has_id q) (filter (λ d. not (is_covered first last d)) l.awaiting ++ map (sender_settled_by first last) l.ready) (option_to_list (option_map (sender_settled_by first last) l.unfinished)) in
    let now2 = count_append (has_id q) (filter (λ d. not (is_covered first last d)) l.awaiting) (map (sender_settled_by first last) l.ready) in
    let was = count_append (has_id q) (l.awaiting ++ l.ready) (option_to_list l.unfinished) in
    let was2 = count_append (has_id q) l.awaiting l.ready in
    omega (arith, now, now2, was, was2, unsettled_list q first last l.awaiting e, settled_map q first last l.ready, settled_option q first last l.unfinished)

-- What a disposition leaves of one that it names: what was not handed up. --------------------------------------------------

has_covered : (id n : ℕ) → n < 2 ^ 32 → nat_eq id n ≡ true → covers n n id ≡ true
has_covered id n low e = ap (covers n n) (eqb-true id n e)
    ∙ and_from (nat_lt (distance_of n n) (2 ^ 31)) (nat_le (distance_of n n) (distance_of n n)) (lt-ltb (distance_of n n) (2 ^ 31) (omega (arith, low))) (le-leb (distance_of n n) (distance_of n n) (omega arith))

other_uncovered : (id q : ℕ) → id < 2 ^ 32 → q < 2 ^ 32 → nat_eq id q ≡ false → covers id id q ≡ false
other_uncovered id q low m away = by (covers id id q) refl
  where
    by : (b : Bool) → covers id id q ≡ b → covers id id q ≡ false
    by true e = absurd (eqb-false id q away (sym (eqb-true q id (covered_id id q low m e))))
    by false e = e

called_at : (e : LinkEvent) (i : ℕ) (slots : List (Slot LiveLink)) → at_place (map (slot_called e) slots) i ≡ slot_called e (at_place slots i)
called_at e i [] = refl
called_at e zero (s ∷ slots) = refl
called_at e (suc i) (s ∷ slots) = called_at e i slots

any_settled : (id first last : ℕ) (ds : List Delivery) → list_any (has_id id) (map (sender_settled_by first last) ds) ≡ list_any (has_id id) ds
any_settled id first last [] = refl
any_settled id first last (d ∷ ds) = ap (λ (b : Bool). has_id id d || b) (any_settled id first last ds)

untaken_settled : (id first last : ℕ) (l : LinkState) → list_any (has_id id) (untaken (open_set (link_after l (SenderSettled first last)))) ≡ list_any (has_id id) (untaken (open_set l))
untaken_settled id first last l = by l.unfinished
  where
    parts : (xs ys : List Delivery) → list_any (has_id id) (map (sender_settled_by first last) xs ++ ys) ≡ list_any (has_id id) xs || list_any (has_id id) ys
    parts xs ys = list_any-append (has_id id) (map (sender_settled_by first last) xs) ys ∙ ap (λ (b : Bool). b || list_any (has_id id) ys) (any_settled id first last xs)

    by : (o : Option Delivery) → list_any (has_id id) (map (sender_settled_by first last) l.ready ++ option_to_list (option_map (sender_settled_by first last) o)) ≡ list_any (has_id id) (l.ready ++ option_to_list o)
    by None = parts l.ready [] ∙ sym (list_any-append (has_id id) l.ready [])
    by (Some d) = parts l.ready (sender_settled_by first last d ∷ []) ∙ sym (list_any-append (has_id id) l.ready (d ∷ []))

none_left : (id : ℕ) (ds : List Delivery) → id < 2 ^ 32 → find (has_id id) (filter (λ d. not (is_covered id id d)) ds) ≡ None
none_left id [] low = refl
none_left id (d ∷ ds) low = by (is_covered id id d) (has_id id d) refl refl (none_left id ds low)
  where
    by : (a b : Bool) → is_covered id id d ≡ a → has_id id d ≡ b → find (has_id id) (filter (λ d. not (is_covered id id d)) ds) ≡ None →
        find (has_id id) (filter (λ d. not (is_covered id id d)) (d ∷ ds)) ≡ None
    by true b f g rest = ap (λ (b : Bool). find (has_id id) (cond (not b) (d ∷ filter (λ x. not (is_covered id id x)) ds) (filter (λ x. not (is_covered id id x)) ds))) f ∙ rest
    by false true f g rest = absurd (no_true (sym f ∙ has_covered d.delivery_id id low g))
    by false false f g rest =
        ap (λ (b : Bool). find (has_id id) (cond (not b) (d ∷ filter (λ x. not (is_covered id id x)) ds) (filter (λ x. not (is_covered id id x)) ds))) f
        ∙ ap (λ (b : Bool). cond b (Some d) (find (has_id id) (filter (λ x. not (is_covered id id x)) ds))) g ∙ rest

absent_after : (id : ℕ) (x : Slot LiveLink) → id < 2 ^ 32 → is_absent (slot_standing id (slot_called (SenderSettled id id) x)) ≡ not (is_untaken (slot_standing id x))
absent_after id Free low = refl
absent_after id (Live l) low =
    ap (λ (b : Bool). is_absent (if b then Untaken else standing_at (find (has_id id) (filter (λ d. not (is_covered id id d)) l.link.awaiting)))) (untaken_settled id id id l.link)
    ∙ ap (λ (o : Option Delivery). is_absent (if list_any (has_id id) (untaken (open_set l.link)) then Untaken else standing_at o)) (none_left id l.link.awaiting low)
    ∙ by (list_any (has_id id) (untaken (open_set l.link))) (find (has_id id) l.link.awaiting)
  where
    told : (b : Bool) (mode : ReceiverSettleMode) → true ≡ not (is_untaken (if b then Told else Awaiting mode))
    told true mode = refl
    told false mode = refl

    by : (b : Bool) (o : Option Delivery) → is_absent (if b then Untaken else Absent) ≡ not (is_untaken (if b then Untaken else standing_at o))
    by true o = refl
    by false None = refl
    by false (Some d) = told d.told d.rcv_settle_mode
absent_after id Waits low = refl

-- after the sender settled one delivery
pub one_indexed : IdsGrow → (entries entries' : List (ℕ × Kept)) (s new : SessionState) (id : ℕ) (kept : Kept) (closed : Bool) → id < 2 ^ 32 → new ≡ disposed id id s → found entries id ≡ Some kept →
    closed ≡ not (is_untaken (slot_standing id (slot_at s kept.handle))) → ((q : ℕ) → q < 2 ^ 32 → found entries' q ≡ closed_of closed id q (found entries q)) → IsIndexed entries s.links →
    IsIndexed entries' new.links
one_indexed grow entries entries' s new id kept closed low is here at closes was =
    swept_some (nat_eq id) entries entries' s new less same (λ q m. closes q m ∙ sweeps q (nat_eq id q) refl) was
  where
    place_is : (i : ℕ) → at_place new.links i ≡ slot_called (SenderSettled id id) (at_place s.links i)
    place_is i = ap (λ (t : SessionState). at_place t.links i) is ∙ called_at (SenderSettled id id) i s.links

    less : (q i : ℕ) → slot_count q (at_place new.links i) ≤ slot_count q (at_place s.links i)
    less q i = let same = ap (slot_count q) (place_is i) in let few = each (at_place s.links i) in omega (arith, same, few)
      where
        each : (x : Slot LiveLink) → slot_count q (slot_called (SenderSettled id id) x) ≤ slot_count q x
        each Free = omega arith
        each (Live l) = let step = grow q l.link (SenderSettled id id) tt in omega (arith, step)
        each Waits = omega arith

    same : (q i : ℕ) → q < 2 ^ 32 → nat_eq id q ≡ false → slot_count q (at_place new.links i) ≡ slot_count q (at_place s.links i)
    same q i m away = ap (slot_count q) (place_is i) ∙ each (at_place s.links i)
      where
        each : (x : Slot LiveLink) → slot_count q (slot_called (SenderSettled id id) x) ≡ slot_count q x
        each Free = refl
        each (Live l) = uncovered_stay q id id l.link (other_uncovered id q low m away)
        each Waits = refl

    closed_is : closed ≡ is_absent (slot_standing id (slot_at new kept.handle))
    closed_is = at ∙ sym (absent_after id (slot_at s kept.handle) low) ∙ ap (λ (x : Slot LiveLink). is_absent (slot_standing id x)) (sym (place_is kept.handle))

    sweeps : (q : ℕ) (b : Bool) → nat_eq id q ≡ b → closed_of closed id q (found entries q) ≡ swept_if (nat_eq id q) q new (found entries q)
    sweeps q true e =
        ap (λ (b : Bool). if closed && b then None else found entries q) e ∙ ap (λ (o : Option Kept). if closed && true then None else o) here_q ∙ at_it closed
        ∙ ap (λ (b : Bool). if b then None else Some kept) (closed_is ∙ ap (λ (k : ℕ). is_absent (slot_standing k (slot_at new kept.handle))) same_q)
        ∙ sym (ap (λ (b : Bool). swept_if b q new (found entries q)) e ∙ ap (swept q new) here_q)
      where
        same_q : id ≡ q
        same_q = eqb-true id q e

        here_q : found entries q ≡ Some kept
        here_q = ap (found entries) (sym same_q) ∙ here

        at_it : (a : Bool) → (if a && true then None else Some kept) ≡ (if a then None else Some kept)
        at_it true = refl
        at_it false = refl
    sweeps q false e =
        ap (λ (b : Bool). if closed && b then None else found entries q) e ∙ nothing closed (found entries q) ∙ sym (ap (λ (b : Bool). swept_if b q new (found entries q)) e)
      where
        nothing : (a : Bool) (o : Option Kept) → (if a && false then None else o) ≡ o
        nothing true o = refl
        nothing false o = refl
