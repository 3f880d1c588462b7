-- The index of a session after each of its events.
use Rattle.std.proofs.Common.{arith, ◌≡◌, ℕ, suc, ◌+◌, ◌<◌, ◌≤◌, ◌^◌, subst, Bool, true, false, List, [], ◌∷◌, ◌++◌, length, map, refl, sym, ap, ◌∙◌, Option, Some, None}
use Rattle.std.specs.Prelude.{slice_get, drop, IsSomeAnd, unwrap_or, option_map, option_to_list, is_none, nat_eq, if◌then◌else◌, ◌&&◌, ◌||◌}
use Rattle.std.specs.List.{count_by, list_any}
use Rattle.std.proofs.lemmas.Bool.{eqb-true, and_parts}
use Rattle.amqp_link.specs.Histories.{one_if}
use Rattle.amqp_link.specs.Laws.{id_count}
use Rattle.amqp_link.specs.Links.{LinkState, LinkEvent, Delivery, deliveries, has_id, link_after, first_ready, left_open, HandedUp, FlowStated, is_beyond_credit, is_drained}
use Rattle.amqp_session.specs.declared.index.Kept.{Kept}
use Rattle.amqp_session.specs.declared.slot.Slot.{Slot}
use Rattle.amqp_session.specs.declared.slot.Slot.TheVariants.{Free, Live, Waits}
use Rattle.amqp_session.specs.Places.{Happens, slot_after, slot_map, live_in, places_from}
use Rattle.amqp_session.specs.Places as place
use Rattle.amqp_session.specs.Sessions.{Attached, LiveLink, live_begins, live_after, SessionState, SessionEvent, session_after, slot_at, slot_count, happens}
use Rattle.amqp_session.specs.Slots.{at_place}
use Rattle.amqp_session.specs.Indexes.{found, closed_of, left_of, ids_of, gone_of, told_of, is_kept_at, IsIndexed, IsEnded}
use Rattle.amqp_session.specs.declared.terms.SessionTerms.{SessionTerms}
use Rattle.amqp_session.specs.Sessions.{session_begins}
use Rattle.amqp_session.proofs.Lookups.{nothing_stands, none_counted, other_counted}
use Rattle.amqp_link.proofs.Hints.{no_true, count_append, count_cons as count_both}
use Rattle.amqp_link.specs.HandedUps.{IsHandedUp}
use Rattle.amqp_link.specs.declared.link.Taken.{Taken}
use Rattle.amqp_session.specs.Links.{link_at, with_link}
use Rattle.amqp_session.specs.Sessions as event
use Rattle.amqp_perform.specs.declared.condition.Condition.TheVariants as condition
use Rattle.amqp_session.specs.declared.report.Report.{Report}
use Rattle.amqp_session.specs.declared.report.Report.TheVariants as report
use Rattle.amqp_session.specs.Faults.{session_fault, event_of, named_event, flow_event, flow_report, named_report, report_of, refusal, attached}
use Rattle.amqp_session.specs.Frames.{Flowing, Attaching, Flows, Attaches}
use Rattle.amqp_session.proofs.Accepts.{free_of, name_handle}
use Rattle.amqp_session.proofs.Lent.{lives, went_on}
use Rattle.std.proofs.lemmas.Option.{same_Some}
use Rattle.amqp_session.proofs.Tables.{get_after}

abbrev Slots : Type 0
Slots = List (Slot LiveLink)

abbrev Entries : Type 0
Entries = List (ℕ × Kept)

-- the table after what happens
abbrev pub went : Happens Attached LinkEvent → List (Slot LiveLink) → List (Slot LiveLink)
went x slots = places_from live_begins live_after 0 x slots

-- The index and the counts change alike.
pub index_by : (F : ℕ → ℕ → ℕ → ℕ) (entries entries' : List (ℕ × Kept)) (slots slots' : List (Slot LiveLink)) →
    ((id place : ℕ) → id < 2 ^ 32 → slot_count id (at_place slots' place) ≡ F id place (slot_count id (at_place slots place))) →
    ((id place : ℕ) → id < 2 ^ 32 → one_if (is_kept_at place (found entries' id)) ≡ F id place (one_if (is_kept_at place (found entries id)))) → IsIndexed entries slots → IsIndexed entries' slots'
index_by F entries entries' slots slots' counts kept was = λ id place low. counts id place low ∙ ap (F id place) (was id place low) ∙ sym (kept id place low)

-- what an event makes of the count at a place
pub count_after : (id : ℕ) (x : Happens Attached LinkEvent) (slots : List (Slot LiveLink)) (i : ℕ) (G : ℕ → ℕ) → G 0 ≡ 0 →
    ((s : Slot LiveLink) → slice_get slots i ≡ Some s → slot_count id (slot_after live_begins live_after i x s) ≡ G (slot_count id s)) →
    slot_count id (at_place (went x slots) i) ≡ G (slot_count id (at_place slots i))
count_after id x slots i G none each =
    ap (λ (o : Option (Slot LiveLink)). slot_count id (unwrap_or o Free)) (get_after live_begins live_after 0 i x slots) ∙ by (slice_get slots i) refl
  where
    by : (o : Option (Slot LiveLink)) → slice_get slots i ≡ o →
        slot_count id (unwrap_or (option_map (slot_after live_begins live_after (0 + i) x) o) Free) ≡ G (slot_count id (unwrap_or o Free))
    by None e = sym none
    by (Some s) e = let same : 0 + i ≡ i = omega arith in ap (λ (k : ℕ). slot_count id (slot_after live_begins live_after k x s)) same ∙ each s e

-- Nothing changes. ----------------------------------------------------------------------------------------------------

pub nothing_counted : (id : ℕ) (slots : List (Slot LiveLink)) (i : ℕ) → slot_count id (at_place (went place.Nothing slots) i) ≡ slot_count id (at_place slots i)
nothing_counted id slots i = count_after id place.Nothing slots i (λ n. n) refl (λ s e. refl)

pick_same : (id : ℕ) (b : Bool) (s t : Slot LiveLink) → (b ≡ true → slot_count id t ≡ slot_count id s) → slot_count id (if b then t else s) ≡ slot_count id s
pick_same id true s t same = same refl
pick_same id false s t same = refl

-- an event of one link that leaves its deliveries their ids
pub on_counted : (id h : ℕ) (e : LinkEvent) (slots : List (Slot LiveLink)) (i : ℕ) → ((l : LinkState) → id_count id (link_after l e) ≡ id_count id l) →
    slot_count id (at_place (went (place.GoesOn h e) slots) i) ≡ slot_count id (at_place slots i)
on_counted id h e slots i same = count_after id (place.GoesOn h e) slots i (λ n. n) refl (λ s at. pick_same id (nat_eq h i) s (slot_map (λ l. live_after l e) s) (λ hit. by s))
  where
    by : (s : Slot LiveLink) → slot_count id (slot_map (λ l. live_after l e) s) ≡ slot_count id s
    by Free = refl
    by (Live l) = same l.link
    by Waits = refl

-- a link begins, or is refused, where nothing stands
pub begins_counted : (id h : ℕ) (a : Attached) (slots : List (Slot LiveLink)) (i : ℕ) → at_place slots h ≡ Free →
    slot_count id (at_place (went (place.Begins h a) slots) i) ≡ slot_count id (at_place slots i)
begins_counted id h a slots i free =
    count_after id (place.Begins h a) slots i (λ n. n) refl (λ s at. pick_same id (nat_eq h i) s (Live (live_begins a)) (λ hit. sym (ap (slot_count id) (free_at h i slots s free hit at))))
  where
    free_at : (h i : ℕ) (slots : List (Slot LiveLink)) (s : Slot LiveLink) → at_place slots h ≡ Free → nat_eq h i ≡ true → slice_get slots i ≡ Some s → s ≡ Free
    free_at h i slots s free hit at =
        ap (λ (o : Option (Slot LiveLink)). unwrap_or o Free) (sym at) ∙ ap (at_place slots) (sym (eqb-true h i hit)) ∙ free

pub refused_counted : (id h : ℕ) (slots : List (Slot LiveLink)) (i : ℕ) → at_place slots h ≡ Free → slot_count id (at_place (went (place.Leaves h) slots) i) ≡ slot_count id (at_place slots i)
refused_counted id h slots i free = count_after id (place.Leaves h) slots i (λ n. n) refl (λ s at. pick_same id (nat_eq h i) s Waits (λ hit. sym (ap (slot_count id) (free_at s hit at))))
  where
    free_at : (s : Slot LiveLink) → nat_eq h i ≡ true → slice_get slots i ≡ Some s → s ≡ Free
    free_at s hit at = ap (λ (o : Option (Slot LiveLink)). unwrap_or o Free) (sym at) ∙ ap (at_place slots) (sym (eqb-true h i hit)) ∙ free

-- A link ends. -----------------------------------------------------------------------------------------------------------

pick_none : (id : ℕ) (b : Bool) (s t : Slot LiveLink) → slot_count id t ≡ 0 → slot_count id (if b then t else s) ≡ (if b then 0 else slot_count id s)
pick_none id true s t none = none
pick_none id false s t none = refl

none_left : (b : Bool) → ◌≡◌ {A = ℕ} (if b then 0 else 0) 0
none_left true = refl
none_left false = refl

pub leaves_counted : (id h : ℕ) (slots : List (Slot LiveLink)) (i : ℕ) →
    slot_count id (at_place (went (place.Leaves h) slots) i) ≡ (if nat_eq h i then 0 else slot_count id (at_place slots i))
leaves_counted id h slots i = count_after id (place.Leaves h) slots i (λ n. if nat_eq h i then 0 else n) (none_left (nat_eq h i)) (λ s at. pick_none id (nat_eq h i) s Waits refl)

pub gone_counted : (id h : ℕ) (slots : List (Slot LiveLink)) (i : ℕ) →
    slot_count id (at_place (went (place.Gone h) slots) i) ≡ (if nat_eq h i then 0 else slot_count id (at_place slots i))
gone_counted id h slots i = count_after id (place.Gone h) slots i (λ n. if nat_eq h i then 0 else n) (none_left (nat_eq h i)) (λ s at. pick_none id (nat_eq h i) s Free refl)

-- what is left in the index
left_kept : (h place : ℕ) (o : Option Kept) → one_if (is_kept_at place (left_of h o)) ≡ (if nat_eq h place then 0 else one_if (is_kept_at place o))
left_kept h place None = sym (none_left (nat_eq h place))
left_kept h place (Some kept) = by (nat_eq kept.handle h) (nat_eq h place) refl refl
  where
    other : nat_eq kept.handle h ≡ false → nat_eq h place ≡ true → nat_eq kept.handle place ≡ false
    other f g = subst (λ (n : ℕ). nat_eq kept.handle n ≡ false) (eqb-true h place g) f

    same : nat_eq kept.handle h ≡ true → nat_eq h place ≡ false → nat_eq kept.handle place ≡ false
    same f g = subst (λ (n : ℕ). nat_eq n place ≡ false) (sym (eqb-true kept.handle h f)) g

    by : (a b : Bool) → nat_eq kept.handle h ≡ a → nat_eq h place ≡ b →
        one_if (is_kept_at place (if a then None else Some kept)) ≡ (if b then 0 else one_if (nat_eq kept.handle place))
    by true true f g = refl
    by true false f g = sym (ap one_if (same f g))
    by false true f g = ap one_if (other f g)
    by false false f g = refl

-- a link is gone, from the table and from the index
pub index_left : (h : ℕ) (entries entries' : List (ℕ × Kept)) (slots slots' : List (Slot LiveLink)) →
    ((id place : ℕ) → slot_count id (at_place slots' place) ≡ (if nat_eq h place then 0 else slot_count id (at_place slots place))) →
    ((id : ℕ) → id < 2 ^ 32 → found entries' id ≡ left_of h (found entries id)) → IsIndexed entries slots → IsIndexed entries' slots'
index_left h entries entries' slots slots' counts left =
    index_by (λ id place n. if nat_eq h place then 0 else n) entries entries' slots slots' (λ id place low. counts id place)
    (λ id place low. ap (λ o. one_if (is_kept_at place o)) (left id low) ∙ left_kept h place (found entries id))

-- an id is one of those of these deliveries exactly where it counts
any_counted : (q : ℕ) (ds : List Delivery) (b : Bool) → count_by (has_id q) ds ≡ one_if b → list_any (λ gone. nat_eq gone q) (map (λ d. d.delivery_id) ds) ≡ b
any_counted q [] true e = absurd (omega (arith, e))
any_counted q [] false e = refl
any_counted q (d ∷ ds) b e = by (any_counted q ds) b (nat_eq d.delivery_id q) e refl
  where
    any_rest : Bool
    any_rest = list_any (λ gone. nat_eq gone q) (map (λ d. d.delivery_id) ds)

    both : count_by (has_id q) (d ∷ ds) ≡ one_if (has_id q d) + count_by (has_id q) ds
    both = count_both (has_id q) d ds

    by : ((c : Bool) → count_by (has_id q) ds ≡ one_if c → any_rest ≡ c) → (b a : Bool) → count_by (has_id q) (d ∷ ds) ≡ one_if b → nat_eq d.delivery_id q ≡ a → (nat_eq d.delivery_id q || any_rest) ≡ b
    by rest true true e f = ap (λ (v : Bool). v || any_rest) f
    by rest true false e f = let here : one_if (has_id q d) ≡ 0 = ap one_if f in ap (λ (v : Bool). v || any_rest) f ∙ rest true (omega (arith, e, both, here))
    by rest false true e f = let here : one_if (has_id q d) ≡ 1 = ap one_if f in absurd (omega (arith, e, both, here))
    by rest false false e f = let here : one_if (has_id q d) ≡ 0 = ap one_if f in ap (λ (v : Bool). v || any_rest) f ∙ rest false (omega (arith, e, both, here))

-- the ids of the link at a handle are those that the index has there
pub gone_left : (h q : ℕ) (ended : Option LiveLink) (entries : List (ℕ × Kept)) (slots : List (Slot LiveLink)) → IsIndexed entries slots → q < 2 ^ 32 → ended ≡ live_in (at_place slots h) →
    gone_of (ids_of ended) q (found entries q) ≡ left_of h (found entries q)
gone_left h q ended entries slots indexed low is =
    ap (λ (o : Option LiveLink). gone_of (ids_of o) q (found entries q)) is
    ∙ ap (λ (b : Bool). if b then None else found entries q) (any_here (at_place slots h) (indexed q h low)) ∙ left_is (found entries q)
  where
    any_here : (s : Slot LiveLink) → slot_count q s ≡ one_if (is_kept_at h (found entries q)) → list_any (λ gone. nat_eq gone q) (ids_of (live_in s)) ≡ is_kept_at h (found entries q)
    any_here Free e = any_counted q [] (is_kept_at h (found entries q)) e
    any_here (Live l) e = any_counted q (deliveries l.link) (is_kept_at h (found entries q)) e
    any_here Waits e = any_counted q [] (is_kept_at h (found entries q)) e

    left_is : (o : Option Kept) → (if is_kept_at h o then None else o) ≡ left_of h o
    left_is None = refl
    left_is (Some kept) = refl

-- nothing changes in the index
pub index_same : (entries : List (ℕ × Kept)) (slots slots' : List (Slot LiveLink)) → ((id place : ℕ) → slot_count id (at_place slots' place) ≡ slot_count id (at_place slots place)) →
    IsIndexed entries slots → IsIndexed entries slots'
index_same entries slots slots' counts = index_by (λ id place n. n) entries entries slots slots' (λ id place low. counts id place) (λ id place low. refl)

-- A session after an event. ---------------------------------------------------------------------------------------------

-- the index stays
pub after_same : (entries : List (ℕ × Kept)) (s new : SessionState) (e : SessionEvent) → new ≡ session_after s e →
    ((id place : ℕ) → slot_count id (at_place (went (happens e) s.links) place) ≡ slot_count id (at_place s.links place)) → IsIndexed entries s.links → IsIndexed entries new.links
after_same entries s new e is counts was = subst (λ (t : SessionState). IsIndexed entries t.links) (sym is) (index_same entries s.links (went (happens e) s.links) counts was)

-- a link has ended
pub after_left : (h : ℕ) (entries entries' : List (ℕ × Kept)) (s new : SessionState) (e : SessionEvent) → new ≡ session_after s e →
    ((id place : ℕ) → slot_count id (at_place (went (happens e) s.links) place) ≡ (if nat_eq h place then 0 else slot_count id (at_place s.links place))) →
    ((id : ℕ) → id < 2 ^ 32 → found entries' id ≡ left_of h (found entries id)) → IsIndexed entries s.links → IsIndexed entries' new.links
after_left h entries entries' s new e is counts left was =
    subst (λ (t : SessionState). IsIndexed entries' t.links) (sym is) (index_left h entries entries' s.links (went (happens e) s.links) counts left was)

-- a session begins
pub indexed_begins : (entries : List (ℕ × Kept)) (s : SessionState) (terms : SessionTerms) → entries ≡ [] → s ≡ session_begins terms → IsIndexed entries s.links
indexed_begins entries s terms none is = λ id place low.
    ap (λ (t : SessionState). slot_count id (at_place t.links place)) is ∙ nothing_stands id 0 (suc terms.handle_max) place
    ∙ sym (ap (λ (es : List (ℕ × Kept)). one_if (is_kept_at place (found es id))) none)

-- A delivery is closed. --------------------------------------------------------------------------------------------------

closed_kept : (closed : Bool) (gone id place : ℕ) (o : Option Kept) →
    one_if (is_kept_at place (closed_of closed gone id o)) ≡ (if closed && nat_eq gone id then 0 else one_if (is_kept_at place o))
closed_kept closed gone id place o = by (closed && nat_eq gone id)
  where
    by : (b : Bool) → one_if (is_kept_at place (if b then None else o)) ≡ (if b then 0 else one_if (is_kept_at place o))
    by true = refl
    by false = refl

pub index_closed : (closed : Bool) (gone : ℕ) (entries entries' : List (ℕ × Kept)) (slots slots' : List (Slot LiveLink)) →
    ((id place : ℕ) → id < 2 ^ 32 → slot_count id (at_place slots' place) ≡ (if closed && nat_eq gone id then 0 else slot_count id (at_place slots place))) →
    ((id : ℕ) → id < 2 ^ 32 → found entries' id ≡ closed_of closed gone id (found entries id)) → IsIndexed entries slots → IsIndexed entries' slots'
index_closed closed gone entries entries' slots slots' counts closes =
    index_by (λ id place n. if closed && nat_eq gone id then 0 else n) entries entries' slots slots' counts
    (λ id place low. ap (λ (o : Option Kept). one_if (is_kept_at place o)) (closes id low) ∙ closed_kept closed gone id place (found entries id))

-- at a place where it is, it is once, and at no other
pub most_one : (entries : List (ℕ × Kept)) (slots : List (Slot LiveLink)) → IsIndexed entries slots → (id h : ℕ) → id < 2 ^ 32 → slot_count id (at_place slots h) ≤ 1
most_one entries slots indexed id h low = let is = indexed id h low in omega (arith, is, few (is_kept_at h (found entries id)))
  where
    few : (b : Bool) → one_if b ≤ 1
    few true = omega arith
    few false = omega arith

pub nowhere_else : (entries : List (ℕ × Kept)) (slots : List (Slot LiveLink)) → IsIndexed entries slots → (id h : ℕ) → id < 2 ^ 32 → 1 ≤ slot_count id (at_place slots h) → (i : ℕ) →
    nat_eq h i ≡ false → slot_count id (at_place slots i) ≡ 0
nowhere_else entries slots indexed id h low some i away = by (found entries id) refl
  where
    here : (kept : Kept) → found entries id ≡ Some kept → (b : Bool) → nat_eq kept.handle h ≡ b → nat_eq kept.handle i ≡ false
    here kept e true f = subst (λ (n : ℕ). nat_eq n i ≡ false) (sym (eqb-true kept.handle h f)) away
    here kept e false f =
        let none : slot_count id (at_place slots h) ≡ 0 = indexed id h low ∙ ap (λ (o : Option Kept). one_if (is_kept_at h o)) e ∙ ap one_if f in absurd (omega (arith, none, some))

    by : (o : Option Kept) → found entries id ≡ o → slot_count id (at_place slots i) ≡ 0
    by None e = none_counted entries slots indexed id low (sym e) i
    by (Some kept) e = other_counted entries slots indexed id low kept (sym e) i (here kept e (nat_eq kept.handle h) refl)

-- the counts of the three parts of a link
three : (test : Delivery → Bool) (a b c : List Delivery) → count_by test (a ++ b ++ c) ≡ count_by test a + count_by test b + count_by test c
three test a b c = let one = count_append test (a ++ b) c in let two = count_append test a b in omega (arith, one, two)

open_left : (q : ℕ) (d : Delivery) → count_by (has_id q) (left_open d) ≡ (if d.settled then 0 else one_if (has_id q d))
open_left q d = by d.settled
  where
    by : (b : Bool) → count_by (has_id q) (if b then [] else record d { message = [] } ∷ []) ≡ (if b then 0 else one_if (has_id q d))
    by true = refl
    by false = count_both (has_id q) (record d { message = [] }) [] ∙ omega arith

-- a delivery is handed up, and open no longer where it is settled
handed_counted : (q : ℕ) (l : LinkState) (d : Delivery) → first_ready l ≡ Some d → id_count q (link_after l (HandedUp d)) + (if d.settled then one_if (has_id q d) else 0) ≡ id_count q l
handed_counted q l d first = by l.ready first
  where
    split : (b : Bool) (n : ℕ) → ◌≡◌ {A = ℕ} ((if b then 0 else n) + (if b then n else 0)) n
    split true n = omega arith
    split false n = omega arith

    by : (ready : List Delivery) → slice_get ready 0 ≡ Some d →
        count_by (has_id q) ((l.awaiting ++ left_open d) ++ drop 1 ready ++ option_to_list l.unfinished) + (if d.settled then one_if (has_id q d) else 0)
        ≡ count_by (has_id q) (l.awaiting ++ ready ++ option_to_list l.unfinished)
    by [] e = absurd (grind (arith, e))
    by (x ∷ rest) e =
        let same : x ≡ d = same_Some x d e in
        let after = three (has_id q) (l.awaiting ++ left_open d) rest (option_to_list l.unfinished) in
        let left = count_append (has_id q) l.awaiting (left_open d) in
        let before = three (has_id q) l.awaiting (x ∷ rest) (option_to_list l.unfinished) in
        let head : count_by (has_id q) (x ∷ rest) ≡ one_if (has_id q d) + count_by (has_id q) rest =
        count_both (has_id q) x rest ∙ ap (λ (y : Delivery). one_if (has_id q y) + count_by (has_id q) rest) same in
        omega (arith, after, left, before, head, open_left q d, split d.settled (one_if (has_id q d)))

taken_counted : (q h : ℕ) (d : Delivery) (links : List (Slot LiveLink)) (l : LiveLink) (i : ℕ) → at_place links h ≡ Live l → first_ready l.link ≡ Some d → slot_count q (at_place links h) ≤ 1 →
    ((j : ℕ) → nat_eq h j ≡ false → 1 ≤ slot_count q (at_place links h) → slot_count q (at_place links j) ≡ 0) →
    slot_count q (at_place (went (place.GoesOn h (HandedUp d)) links) i) ≡ (if d.settled && nat_eq d.delivery_id q then 0 else slot_count q (at_place links i))
taken_counted q h d links l i live first most away =
    count_after q (place.GoesOn h (HandedUp d)) links i (λ n. if d.settled && nat_eq d.delivery_id q then 0 else n) (none_left (d.settled && nat_eq d.delivery_id q))
    (λ s at. by (nat_eq h i) refl s at)
  where
    here_is : slot_count q (at_place links h) ≡ id_count q l.link
    here_is = ap (slot_count q) live

    step : id_count q (link_after l.link (HandedUp d)) + (if d.settled then one_if (has_id q d) else 0) ≡ id_count q l.link
    step = handed_counted q l.link d first

    taken : d.settled && nat_eq d.delivery_id q ≡ true → id_count q (link_after l.link (HandedUp d)) + 1 ≡ id_count q l.link
    taken e =
        let two = and_parts d.settled (nat_eq d.delivery_id q) e in
        let one : (if d.settled then one_if (has_id q d) else 0) ≡ 1 = ap (λ (b : Bool). if b then one_if (has_id q d) else 0) two.0 ∙ ap one_if two.1 in
        omega (arith, step, one)

    kept : d.settled && nat_eq d.delivery_id q ≡ false → id_count q (link_after l.link (HandedUp d)) ≡ id_count q l.link
    kept e = by_both d.settled (nat_eq d.delivery_id q) refl refl
      where
        by_both : (a b : Bool) → d.settled ≡ a → nat_eq d.delivery_id q ≡ b → id_count q (link_after l.link (HandedUp d)) ≡ id_count q l.link
        by_both true true f g = absurd (no_true (sym e ∙ ap (λ (b : Bool). b && nat_eq d.delivery_id q) f ∙ g))
        by_both true false f g =
            let none : (if d.settled then one_if (has_id q d) else 0) ≡ 0 = ap (λ (b : Bool). if b then one_if (has_id q d) else 0) f ∙ ap one_if g in omega (arith, step, none)
        by_both false b f g = let none : (if d.settled then one_if (has_id q d) else 0) ≡ 0 = ap (λ (b : Bool). if b then one_if (has_id q d) else 0) f in omega (arith, step, none)

    counts : (b : Bool) → d.settled && nat_eq d.delivery_id q ≡ b → id_count q (link_after l.link (HandedUp d)) ≡ (if b then 0 else id_count q l.link)
    counts true e = let one = taken e in omega (arith, one, most, here_is)
    counts false e = kept e

    stays : (b : Bool) → d.settled && nat_eq d.delivery_id q ≡ b → (s : Slot LiveLink) → slice_get links i ≡ Some s → nat_eq h i ≡ false → slot_count q s ≡ (if b then 0 else slot_count q s)
    stays true e s at f =
        let one = taken e in
        let here : at_place links i ≡ s = ap (λ (o : Option (Slot LiveLink)). unwrap_or o Free) at in
        ap (slot_count q) (sym here) ∙ away i f (omega (arith, one, here_is))
    stays false e s at f = refl

    by : (b : Bool) → nat_eq h i ≡ b → (s : Slot LiveLink) → slice_get links i ≡ Some s →
        slot_count q (if b then slot_map (λ (m : LiveLink). live_after m (HandedUp d)) s else s) ≡ (if d.settled && nat_eq d.delivery_id q then 0 else slot_count q s)
    by true f s at =
        let here : s ≡ Live l = ap (λ (o : Option (Slot LiveLink)). unwrap_or o Free) (sym at) ∙ ap (at_place links) (sym (eqb-true h i f)) ∙ live in
        ap (λ (u : Slot LiveLink). slot_count q (slot_map (λ (m : LiveLink). live_after m (HandedUp d)) u)) here
        ∙ counts (d.settled && nat_eq d.delivery_id q) refl
        ∙ sym (ap (λ (u : Slot LiveLink). if d.settled && nat_eq d.delivery_id q then 0 else slot_count q u) here)
    by false f s at = stays (d.settled && nat_eq d.delivery_id q) refl s at f

-- after a take
pub taken_indexed : {A : Type 0} (entries entries' : List (ℕ × Kept)) (s : SessionState) (h : ℕ) (t new : LinkState) (up : Taken A) → s.next_incoming_id < 2 ^ 32 → Some t ≡ link_at s h →
    IsSomeAnd (first_ready t) (λ d. IsHandedUp up d × (new ≡ link_after t (HandedUp d))) →
    ((q : ℕ) → q < 2 ^ 32 → found entries' q ≡ closed_of up.settled up.delivery_id q (found entries q)) → IsIndexed entries s.links → IsIndexed entries' (with_link s h new).links
taken_indexed entries entries' s h t new up short at some closes was = by (first_ready t) refl some
  where
    by : (o : Option Delivery) → first_ready t ≡ o → IsSomeAnd o (λ d. IsHandedUp up d × (new ≡ link_after t (HandedUp d))) → IsIndexed entries' (with_link s h new).links
    by None first none = absurd none
    by (Some d) first is =
        let live = lives (slot_at s h) t at in
        let first_one : first_ready live.0.link ≡ Some d = ap first_ready (sym live.2) ∙ first in
        let whole : with_link s h new ≡ session_after s (event.Called h (HandedUp d)) = ap (with_link s h) is.1 ∙ went_on s h t (HandedUp d) short at in
        subst (λ (u : SessionState). IsIndexed entries' u.links) (sym whole)
        (index_closed d.settled d.delivery_id entries entries' s.links (went (place.GoesOn h (HandedUp d)) s.links)
        (λ q i low. taken_counted q h d s.links live.0 i live.1 first_one (most_one entries s.links was q h low) (λ j away more. nowhere_else entries s.links was q h low more j away))
        (λ q low. closes q low ∙ ap (λ (b : Bool). closed_of b up.delivery_id q (found entries q)) is.0.settled ∙ ap (λ (n : ℕ). closed_of d.settled n q (found entries q)) is.0.delivery_id)
        was)

-- the index is as it was, event for event
pub after_kept : (entries entries' : List (ℕ × Kept)) (s new : SessionState) (e : SessionEvent) → new ≡ session_after s e →
    ((id place : ℕ) → slot_count id (at_place (went (happens e) s.links) place) ≡ slot_count id (at_place s.links place)) →
    ((id : ℕ) → id < 2 ^ 32 → found entries' id ≡ found entries id) → IsIndexed entries s.links → IsIndexed entries' new.links
after_kept entries entries' s new e is counts same was =
    subst (λ (t : SessionState). IsIndexed entries' t.links) (sym is)
    (index_by (λ id place n. n) entries entries' s.links (went (happens e) s.links) (λ id place low. counts id place)
    (λ id place low. ap (λ (o : Option Kept). one_if (is_kept_at place o)) (same id low)) was)

-- A flow. ------------------------------------------------------------------------------------------------------------------

-- what is told of it is what happens to the index
pub flow_indexed : (entries entries' : List (ℕ × Kept)) (s new : SessionState) (f : Flowing) (told : Report) (ended : Option LiveLink) → new ≡ session_after s (event_of s (Flows f)) → told ≡ report_of s (Flows f) → IsEnded s told ended →
    ((id : ℕ) → id < 2 ^ 32 → found entries' id ≡ told_of told ended id (found entries id)) → IsIndexed entries s.links → IsIndexed entries' new.links
flow_indexed entries entries' s new f told ended is tells end left was =
    by_handle f.handle is (subst (λ (r : Report). IsEnded s r ended) tells end) (λ id low. left id low ∙ ap (λ (r : Report). told_of r ended id (found entries id)) tells)
  where
    unmoved : (e : SessionEvent) → happens e ≡ place.Nothing → new ≡ session_after s e → ((id : ℕ) → id < 2 ^ 32 → found entries' id ≡ found entries id) → IsIndexed entries' new.links
    unmoved e none is same =
        after_kept entries entries' s new e is (λ id i. ap (λ (x : Happens Attached LinkEvent). slot_count id (at_place (went x s.links) i)) none ∙ nothing_counted id s.links i) same was

    by_drained : (h : ℕ) (b : Bool) → new ≡ session_after s (event.LinkFlowCame h f.next_outgoing_id f.delivery_count) →
        ((id : ℕ) → id < 2 ^ 32 → found entries' id ≡ told_of (if b then report.Drained h else report.Nothing) ended id (found entries id)) → IsIndexed entries' new.links
    by_drained h true is same = after_kept entries entries' s new (event.LinkFlowCame h f.next_outgoing_id f.delivery_count) is
        (λ id i. on_counted id h (FlowStated f.delivery_count) s.links i (λ l. refl)) same was
    by_drained h false is same = after_kept entries entries' s new (event.LinkFlowCame h f.next_outgoing_id f.delivery_count) is
        (λ id i. on_counted id h (FlowStated f.delivery_count) s.links i (λ l. refl)) same was

    by_beyond : (h n : ℕ) (drained b : Bool) → new ≡ session_after s (if b then event.LinkFlowEnded h f.next_outgoing_id else event.LinkFlowCame h f.next_outgoing_id f.delivery_count) →
        IsEnded s (if b then report.Failed h condition.TransferLimitExceeded n else (if drained then report.Drained h else report.Nothing)) ended →
        ((id : ℕ) → id < 2 ^ 32 →
        found entries' id ≡ told_of (if b then report.Failed h condition.TransferLimitExceeded n else (if drained then report.Drained h else report.Nothing)) ended id (found entries id)) →
        IsIndexed entries' new.links
    by_beyond h n drained true is end same =
        after_left h entries entries' s new (event.LinkFlowEnded h f.next_outgoing_id) is (λ id i. leaves_counted id h s.links i)
        (λ id low. same id low ∙ gone_left h id ended entries s.links was low end) was
    by_beyond h n drained false is end same = by_drained h drained is same

    by_slot : (h : ℕ) (x : Slot LiveLink) → new ≡ session_after s (flow_event h f x) → IsEnded s (flow_report h f x) ended →
        ((id : ℕ) → id < 2 ^ 32 → found entries' id ≡ told_of (flow_report h f x) ended id (found entries id)) → IsIndexed entries' new.links
    by_slot h Free is end same = unmoved event.Ignored refl is same
    by_slot h (Live l) is end same = by_beyond h (length l.link.ready) (is_drained l.link f.delivery_count) (is_beyond_credit l.link.delivery_count l.link.credit f.delivery_count) is end same
    by_slot h Waits is end same = unmoved event.Ignored refl is same

    by_handle : (o : Option ℕ) → new ≡ session_after s (named_event s f o) → IsEnded s (named_report s f o) ended →
        ((id : ℕ) → id < 2 ^ 32 → found entries' id ≡ told_of (named_report s f o) ended id (found entries id)) →
        IsIndexed entries' new.links
    by_handle None is end same = unmoved (event.FlowCame f.next_outgoing_id) refl is same
    by_handle (Some h) is end same = by_slot h (slot_at s h) is end same

-- An attach. ---------------------------------------------------------------------------------------------------------------

pub attach_indexed : (entries : List (ℕ × Kept)) (s new : SessionState) (a : Attaching) → new ≡ session_after s (event_of s (Attaches a)) → session_fault s (Attaches a) ≡ None →
    IsIndexed entries s.links → IsIndexed entries new.links
attach_indexed entries s new a is accepted was = by (is_none (refusal s.terms a)) is
  where
    free : at_place s.links a.handle ≡ Free
    free = free_of (slot_at s a.handle) (name_handle s a accepted).1

    by : (b : Bool) → new ≡ session_after s (if b then event.LinkAttached a.handle (attached s.terms a) else event.LinkRefused a.handle) → IsIndexed entries new.links
    by true is = after_same entries s new (event.LinkAttached a.handle (attached s.terms a)) is (λ id i. begins_counted id a.handle (attached s.terms a) s.links i free) was
    by false is = after_same entries s new (event.LinkRefused a.handle) is (λ id i. refused_counted id a.handle s.links i free) was
