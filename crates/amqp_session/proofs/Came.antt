-- The index of a session after a transfer.
use Rattle.std.proofs.Common.{arith, ◌≡◌, ℕ, ◌+◌, ◌-◌, ◌%◌, ◌<◌, ◌≤◌, ◌^◌, subst, Bool, true, false, not, ◌&&◌, List, [], ◌∷◌, ◌++◌, refl, sym, ap, ◌∙◌, ne_eqb, Option, Some, None}
use Rattle.std.specs.Prelude.{slice_get, unwrap_or, option_map, option_to_list, is_none, is_some, nat_eq, if◌then◌else◌}
use Rattle.std.specs.List.{count_by}
use Rattle.std.specs.Option.{option_map_or}
use Rattle.std.proofs.lemmas.Bool.{eqb-true, eq-eqb, and_from}
use Rattle.std.proofs.lemmas.Option.{same_Some}
use Rattle.amqp_link.specs.declared.transfer.LinkFault.{LinkFault}
use Rattle.amqp_link.specs.declared.transfer.LinkFault.TheVariants as link_fault
use Rattle.amqp_link.specs.declared.transfer.Step.{Step}
use Rattle.amqp_link.specs.declared.transfer.Verdict.{Verdict}
use Rattle.amqp_link.specs.declared.transfer.Verdict.TheVariants.{Begins, GoesOn, Passes, GivesUp, Fails}
use Rattle.amqp_link.specs.Histories.{one_if}
use Rattle.amqp_link.specs.Laws.{id_count}
use Rattle.amqp_link.specs.Links.{Sent, LinkState, LinkEvent, Delivery, has_id, link_after, Transferred, delivery_after, goes_on, completes, fault_of, known_fault, may_grow, step_of, IsVerdict}
use Rattle.amqp_link.proofs.Steps.{skip_some}
use Rattle.amqp_link.proofs.Hints.{no_true, count_append, count_cons as count_both}
use Rattle.amqp_session.specs.declared.fault.SessionFault.TheVariants as fault
use Rattle.amqp_session.specs.declared.index.Kept.{Kept}
use Rattle.amqp_session.specs.declared.report.Report.{Report}
use Rattle.amqp_session.specs.declared.report.Report.TheVariants as report
use Rattle.amqp_session.specs.declared.slot.Slot.{Slot}
use Rattle.amqp_session.specs.declared.slot.Slot.TheVariants.{Free, Live, Waits}
use Rattle.amqp_session.specs.Places.{slot_after, slot_map, live_in, places_after}
use Rattle.amqp_session.specs.Places as place
use Rattle.amqp_session.specs.Faults.{or_else, where_so, is_free, handle_fault, session_fault, event_of, transfer_event, transfer_report, transfer_fault, came_report, report_of, step_report, link_condition}
use Rattle.amqp_session.specs.Faults.{slot_may_grow, frame_may_grow}
use Rattle.amqp_session.specs.Frames.{Transfers}
use Rattle.amqp_session.specs.Sessions.{LiveLink, live_begins, live_after, SessionState, SessionEvent, session_after, slot_at, slot_count, slot_ready, table_count, is_open_id, is_transfer, widened_by, stated_by, happens}
use Rattle.amqp_session.specs.Sessions as event
use Rattle.amqp_session.specs.Slots.{at_place}
use Rattle.amqp_session.specs.Links.{link_in, link_at, with_link, counted}
use Rattle.amqp_session.specs.Indexes.{found, ids_of, gone_of, is_kept_at, IsIndexed, IsPut, IsTaken, IsKeptBehind, is_begun}
use Rattle.amqp_session.proofs.Accepts.{fresh}
use Rattle.amqp_session.proofs.Ids.{new_id}
use Rattle.amqp_session.proofs.Indexed.{went, index_by, after_kept, after_left, gone_left, leaves_counted, most_one, nowhere_else}
use Rattle.amqp_session.proofs.Lent.{lives, went_on}
use Rattle.amqp_session.proofs.Lookups.{here_counted, known_open}
use Rattle.amqp_session.proofs.Padded.{none_after}
use Rattle.amqp_session.proofs.Standings.{slot_within}
use Rattle.amqp_session.proofs.Tables.{get_after}

-- One link. ---------------------------------------------------------------------------------------------------------------

-- what a transfer leaves behind what was ready
last_counted : (q : ℕ) (more aborted : Bool) (d : Delivery) →
    count_by (has_id q) (if not more && not aborted then d ∷ [] else []) + count_by (has_id q) (option_to_list (if more && not aborted then Some d else None))
    ≡ (if aborted then 0 else one_if (has_id q d))
last_counted q true true d = refl
last_counted q true false d = let one = count_both (has_id q) d [] in omega (arith, one)
last_counted q false true d = refl
last_counted q false false d = let one = count_both (has_id q) d [] in omega (arith, one)

-- how many of its open deliveries have an id
came_counted : (q : ℕ) (l : LinkState) (t : Sent) →
    id_count q (link_after l (Transferred t)) ≡ count_by (has_id q) l.awaiting + count_by (has_id q) l.ready + (if t.aborted then 0 else one_if (has_id q (delivery_after l.terms l.unfinished t)))
came_counted q l t =
    let d = delivery_after l.terms l.unfinished t in
    let two = count_append (has_id q) (l.awaiting ++ (l.ready ++ (if completes t then delivery_after l.terms l.unfinished t ∷ [] else [])))
    (option_to_list (if goes_on t then Some (delivery_after l.terms l.unfinished t) else None)) in
    let one = count_append (has_id q) l.awaiting (l.ready ++ (if completes t then delivery_after l.terms l.unfinished t ∷ [] else [])) in
    let ready = count_append (has_id q) l.ready (if completes t then delivery_after l.terms l.unfinished t ∷ [] else []) in
    omega (arith, two, one, ready, last_counted q t.more t.aborted (delivery_after l.terms l.unfinished t))

was_counted : (q : ℕ) (l : LinkState) → id_count q l ≡ count_by (has_id q) l.awaiting + count_by (has_id q) l.ready + count_by (has_id q) (option_to_list l.unfinished)
was_counted q l =
    let two = count_append (has_id q) (l.awaiting ++ l.ready) (option_to_list l.unfinished) in
    let one = count_append (has_id q) l.awaiting l.ready in
    omega (arith, two, one)

-- The table. ----------------------------------------------------------------------------------------------------------------

-- what an event of one link makes of the counts
goes_counted : (q h : ℕ) (e : LinkEvent) (links : List (Slot LiveLink)) (l : LiveLink) (i n : ℕ) → at_place links h ≡ Live l → id_count q (link_after l.link e) ≡ n →
    slot_count q (at_place (went (place.GoesOn h e) links) i) ≡ (if nat_eq h i then n else slot_count q (at_place links i))
goes_counted q h e links l i n live is =
    ap (λ (o : Option (Slot LiveLink)). slot_count q (unwrap_or o Free)) (get_after live_begins live_after 0 i (place.GoesOn h e) links) ∙ by (slice_get links i) refl
  where
    no_live : Free ≡ Live l → ⊥
    no_live e = cc

    past : (b : Bool) → nat_eq h i ≡ b → slice_get links i ≡ None → ◌≡◌ {A = ℕ} 0 (if b then n else 0)
    past true f at =
        absurd (no_live (sym (ap (λ (o : Option (Slot LiveLink)). unwrap_or o Free) at) ∙ ap (at_place links) (sym (eqb-true h i f)) ∙ live))
    past false f at = refl

    pick : (s : Slot LiveLink) (b : Bool) → nat_eq h i ≡ b → slice_get links i ≡ Some s → slot_count q (if b then slot_map (λ (m : LiveLink). live_after m e) s else s) ≡ (if b then n else slot_count q s)
    pick s true f at =
        let here : s ≡ Live l = ap (λ (o : Option (Slot LiveLink)). unwrap_or o Free) (sym at) ∙ ap (at_place links) (sym (eqb-true h i f)) ∙ live in
        ap (λ (u : Slot LiveLink). slot_count q (slot_map (λ (m : LiveLink). live_after m e) u)) here ∙ is
    pick s false f at = refl

    by : (o : Option (Slot LiveLink)) → slice_get links i ≡ o →
        slot_count q (unwrap_or (option_map (slot_after live_begins live_after (0 + i) (place.GoesOn h e)) o) Free) ≡ (if nat_eq h i then n else slot_count q (unwrap_or o Free))
    by None at = past (nat_eq h i) refl at
    by (Some s) at =
        let same : 0 + i ≡ i = omega arith in
        ap (λ (k : ℕ). slot_count q (slot_after live_begins live_after k (place.GoesOn h e) s)) same ∙ pick s (nat_eq h i) refl at

-- what the place had
had : (q h i : ℕ) (links : List (Slot LiveLink)) (l : LiveLink) → at_place links h ≡ Live l → nat_eq h i ≡ true → slot_count q (at_place links i) ≡ id_count q l.link
had q h i links l live f = ap (λ (k : ℕ). slot_count q (at_place links k)) (sym (eqb-true h i f)) ∙ ap (slot_count q) live

-- the counts stay
pub same_counted : (q h : ℕ) (e : LinkEvent) (links : List (Slot LiveLink)) (l : LiveLink) (i : ℕ) → at_place links h ≡ Live l → id_count q (link_after l.link e) ≡ id_count q l.link →
    slot_count q (at_place (went (place.GoesOn h e) links) i) ≡ slot_count q (at_place links i)
same_counted q h e links l i live is = goes_counted q h e links l i (id_count q l.link) live is ∙ by (nat_eq h i) refl
  where
    by : (b : Bool) → nat_eq h i ≡ b → (if b then id_count q l.link else slot_count q (at_place links i)) ≡ slot_count q (at_place links i)
    by true f = sym (had q h i links l live f)
    by false f = refl

-- A delivery begins. -----------------------------------------------------------------------------------------------------------

begins_counted : (q h id : ℕ) (e : LinkEvent) (links : List (Slot LiveLink)) (l : LiveLink) (i : ℕ) → at_place links h ≡ Live l →
    id_count q (link_after l.link e) ≡ id_count q l.link + one_if (nat_eq id q) →
    slot_count q (at_place (went (place.GoesOn h e) links) i) ≡ slot_count q (at_place links i) + one_if (nat_eq id q && nat_eq h i)
begins_counted q h id e links l i live is = goes_counted q h e links l i (id_count q l.link + one_if (nat_eq id q)) live is ∙ by (nat_eq id q) (nat_eq h i) refl refl
  where
    by : (a b : Bool) → nat_eq id q ≡ a → nat_eq h i ≡ b → (if b then id_count q l.link + one_if a else slot_count q (at_place links i)) ≡ slot_count q (at_place links i) + one_if (a && b)
    by true true f g = let was = had q h i links l live g in omega (arith, was)
    by true false f g = omega arith
    by false true f g = let was = had q h i links l live g in omega (arith, was)
    by false false f g = omega arith

begins_kept : (entries entries' : List (ℕ × Kept)) (id h q i : ℕ) (kept : Kept) → found entries id ≡ None → kept.handle ≡ h → IsPut entries entries' id (Some kept) →
    one_if (is_kept_at i (found entries' q)) ≡ one_if (is_kept_at i (found entries q)) + one_if (nat_eq id q && nat_eq h i)
begins_kept entries entries' id h q i kept none at put = ap (λ (o : Option Kept). one_if (is_kept_at i o)) (put q) ∙ by (nat_eq id q) refl
  where
    by : (b : Bool) → nat_eq id q ≡ b → one_if (is_kept_at i (if b then Some kept else found entries q)) ≡ one_if (is_kept_at i (found entries q)) + one_if (b && nat_eq h i)
    by true f =
        let gone : one_if (is_kept_at i (found entries q)) ≡ 0 = ap (λ (k : ℕ). one_if (is_kept_at i (found entries k))) (sym (eqb-true id q f)) ∙ ap (λ (o : Option Kept). one_if (is_kept_at i o)) none in
        let here : one_if (nat_eq kept.handle i) ≡ one_if (nat_eq h i) = ap (λ (k : ℕ). one_if (nat_eq k i)) at in omega (arith, gone, here)
    by false f = omega arith

-- The unfinished one is given up. ---------------------------------------------------------------------------------------------

pub given_kept : (gone q i : ℕ) (o p : Option Kept) → p ≡ (if nat_eq gone q then None else o) → one_if (is_kept_at i p) ≡ (if nat_eq gone q then 0 else one_if (is_kept_at i o))
given_kept gone q i o p put = ap (λ (o : Option Kept). one_if (is_kept_at i o)) put ∙ by (nat_eq gone q)
  where
    by : (b : Bool) → one_if (is_kept_at i (if b then None else o)) ≡ (if b then 0 else one_if (is_kept_at i o))
    by true = refl
    by false = refl

pub given_counted : (q h gone : ℕ) (e : LinkEvent) (links : List (Slot LiveLink)) (l : LiveLink) (i : ℕ) → at_place links h ≡ Live l → id_count q (link_after l.link e) + one_if (nat_eq gone q) ≡ id_count q l.link →
    slot_count q (at_place links h) ≤ 1 → ((j : ℕ) → nat_eq h j ≡ false → 1 ≤ slot_count q (at_place links h) → slot_count q (at_place links j) ≡ 0) →
    slot_count q (at_place (went (place.GoesOn h e) links) i) ≡ (if nat_eq gone q then 0 else slot_count q (at_place links i))
given_counted q h gone e links l i live is most away = goes_counted q h e links l i (id_count q (link_after l.link e)) live refl ∙ by (nat_eq gone q) (nat_eq h i) refl refl
  where
    here_is : slot_count q (at_place links h) ≡ id_count q l.link
    here_is = ap (slot_count q) live

    by : (a b : Bool) → nat_eq gone q ≡ a → nat_eq h i ≡ b → (if b then id_count q (link_after l.link e) else slot_count q (at_place links i)) ≡ (if a then 0 else slot_count q (at_place links i))
    by true true f g = let one : one_if (nat_eq gone q) ≡ 1 = ap one_if f in omega (arith, is, one, most, here_is)
    by true false f g = let one : one_if (nat_eq gone q) ≡ 1 = ap one_if f in away i g (omega (arith, is, one, here_is))
    by false true f g = let none : one_if (nat_eq gone q) ≡ 0 = ap one_if f in let was = had q h i links l live g in omega (arith, is, none, was)
    by false false f g = refl

-- how the count of one link moves
shifted : (q : ℕ) (l : LinkState) (t : Sent) (u : Option Delivery) (a : Bool) → l.unfinished ≡ u → t.aborted ≡ a →
    id_count q (link_after l (Transferred t)) + count_by (has_id q) (option_to_list u) ≡ id_count q l + (if a then 0 else one_if (has_id q (delivery_after l.terms u t)))
shifted q l t u a e f =
    let first = ap (λ (o : Option Delivery). count_by (has_id q) (option_to_list o)) e in
    let last = ap (λ (b : Bool). if b then 0 else one_if (has_id q (delivery_after l.terms l.unfinished t))) f ∙ ap (λ (o : Option Delivery). if a then 0 else one_if (has_id q (delivery_after l.terms o t))) e in
    omega (arith, came_counted q l t, was_counted q l, first, last)

-- What a transfer comes to. -------------------------------------------------------------------------------------------------------

-- where it is not refused it has no fault
pub taken_of : (known : Bool) (l : LinkState) (t : Sent) (v : Verdict) → ((f : LinkFault) → v ≡ Fails f → ⊥) → IsVerdict known l t v → (known_fault known l t ≡ None) × IsTaken l t v
taken_of known l t (Begins key) other is = (is.0, ((skip_some (not t.resume && (is_none l.unfinished && known)) link_fault.InvalidField (fault_of l t) is.0).1, is.1, is.2))
taken_of known l t GoesOn other is = (is.0, ((skip_some (not t.resume && (is_none l.unfinished && known)) link_fault.InvalidField (fault_of l t) is.0).1, is.1, is.2))
taken_of known l t Passes other is = (is.0, ((skip_some (not t.resume && (is_none l.unfinished && known)) link_fault.InvalidField (fault_of l t) is.0).1, is.1, is.2))
taken_of known l t (GivesUp id) other is = (is.0, ((skip_some (not t.resume && (is_none l.unfinished && known)) link_fault.InvalidField (fault_of l t) is.0).1, is.1, is.2))
taken_of known l t (Fails f) other is = absurd (other f refl)

-- what begins a delivery is a head
pub begun_head : (l : LinkState) (t : Sent) (v : Verdict) → IsTaken l t v → is_begun v ≡ true → l.unfinished ≡ None
begun_head l t (Begins key) taken e = taken.1
begun_head l t GoesOn taken e = absurd (no_true e)
begun_head l t Passes taken e = absurd (no_true e)
begun_head l t (GivesUp id) taken e = absurd (no_true e)
begun_head l t (Fails f) taken e = absurd (no_true e)

-- The index. ---------------------------------------------------------------------------------------------------------------------

-- an id that no place has is not in the index
none_kept : (entries : List (ℕ × Kept)) (links : List (Slot LiveLink)) → IsIndexed entries links → (id : ℕ) → id < 2 ^ 32 → table_count id links ≡ 0 → found entries id ≡ None
none_kept entries links indexed id low none = by (found entries id) refl
  where
    within : (i : ℕ) (o : Option (Slot LiveLink)) → slice_get links i ≡ o → slot_count id (unwrap_or o Free) ≤ table_count id links
    within i None e = omega arith
    within i (Some x) e = slot_within id links i x e

    by : (o : Option Kept) → found entries id ≡ o → found entries id ≡ None
    by None e = e
    by (Some kept) e =
        let one = here_counted entries links indexed id low kept (sym e) in
        let most = within kept.handle (slice_get links kept.handle) refl in absurd (omega (arith, one, most, none))

-- a delivery that begins has an id that is not in it
pub begun_free : (entries : List (ℕ × Kept)) (s : SessionState) (l : LinkState) (t : Sent) → IsIndexed entries s.links → unwrap_or t.delivery_id 0 < 2 ^ 32 → transfer_fault s l t ≡ None → l.unfinished ≡ None →
    found entries (unwrap_or t.delivery_id 0) ≡ None
begun_free entries s l t indexed low none head =
    let ok = fresh s l t none in
    none_kept entries s.links indexed (unwrap_or t.delivery_id 0) low
    (new_id (unwrap_or t.delivery_id 0) s l t ok.0 ok.1 (and_from (is_none l.unfinished) (nat_eq (unwrap_or t.delivery_id 0) (unwrap_or t.delivery_id 0)) (ap is_none head) (eq-eqb (unwrap_or t.delivery_id 0) (unwrap_or t.delivery_id 0) refl)))

-- it holds behind a transfer that was taken
pub came_indexed : (entries after : List (ℕ × Kept)) (s new : SessionState) (h : ℕ) (t : Sent) (l : LiveLink) (v : Verdict) → slot_at s h ≡ Live l → IsTaken l.link t v → new ≡ session_after s (event.TransferCame h t) →
    (is_begun v ≡ true → found entries (unwrap_or t.delivery_id 0) ≡ None) → IsKeptBehind v h (unwrap_or t.delivery_id 0) entries after → IsIndexed entries s.links → IsIndexed after new.links
came_indexed entries after s new h t l (Begins key) here taken is free put was =
    subst (λ (u : SessionState). IsIndexed after u.links) (sym is)
    (index_by (λ q i n. n + one_if (nat_eq (unwrap_or t.delivery_id 0) q && nat_eq h i)) entries after s.links (went (place.GoesOn h (Transferred t)) s.links)
    (λ q i n. begins_counted q h (unwrap_or t.delivery_id 0) (Transferred t) s.links l i here (let one = shifted q l.link t None false taken.1 taken.2 in omega (arith, one)))
    (λ q i n. begins_kept entries after (unwrap_or t.delivery_id 0) h q i (record { handle = h; key = key }) (free refl) refl put)
    was)
came_indexed entries after s new h t l GoesOn here taken is free put was = by l.link.unfinished refl taken.1
  where
    by : (u : Option Delivery) → l.link.unfinished ≡ u → is_none l.link.unfinished ≡ false → IsIndexed after new.links
    by None e some = absurd (no_true (sym (sym (ap is_none e) ∙ some)))
    by (Some d) e some =
        after_kept entries after s new (event.TransferCame h t) is
        (λ q i. same_counted q h (Transferred t) s.links l i here (let one = shifted q l.link t (Some d) false e taken.2 in let two = count_both (has_id q) d [] in omega (arith, one, two)))
        (λ q low. ap (λ (es : List (ℕ × Kept)). found es q) put) was
came_indexed entries after s new h t l Passes here taken is free put was =
    after_kept entries after s new (event.TransferCame h t) is
    (λ q i. same_counted q h (Transferred t) s.links l i here (let one = shifted q l.link t None true taken.1 taken.2 in omega (arith, one)))
    (λ q low. ap (λ (es : List (ℕ × Kept)). found es q) put) was
came_indexed entries after s new h t l (GivesUp gone) here taken is free put was = by l.link.unfinished refl taken.1
  where
    none_some : None ≡ Some gone → ⊥
    none_some e = cc

    by : (u : Option Delivery) → l.link.unfinished ≡ u → option_map (λ (d : Delivery). d.delivery_id) l.link.unfinished ≡ Some gone → IsIndexed after new.links
    by None e some = absurd (none_some (sym (ap (option_map (λ (d : Delivery). d.delivery_id)) e) ∙ some))
    by (Some d) e some =
        let same : d.delivery_id ≡ gone = same_Some d.delivery_id gone (sym (ap (option_map (λ (d : Delivery). d.delivery_id)) e) ∙ some) in
        subst (λ (u : SessionState). IsIndexed after u.links) (sym is)
        (index_by (λ q i n. if nat_eq gone q then 0 else n) entries after s.links (went (place.GoesOn h (Transferred t)) s.links)
        (λ q i n. given_counted q h gone (Transferred t) s.links l i here
        (let one = shifted q l.link t (Some d) true e taken.2 in let two = count_both (has_id q) d [] in let three = ap (λ (k : ℕ). one_if (nat_eq k q)) same in omega (arith, one, two, three))
        (most_one entries s.links was q h n) (λ j away more. nowhere_else entries s.links was q h n more j away))
        (λ q i n. given_kept gone q i (found entries q) (found after q) (put q))
        was)
came_indexed entries after s new h t l (Fails f) here taken is free put was = absurd taken

-- What a transfer is. --------------------------------------------------------------------------------------------------------------

-- the session with a place of its window and a number less
abbrev parts : SessionState → ℕ → ℕ → List (Slot LiveLink) → SessionState
parts s w n ls = record { terms = s.terms; window = w; next_incoming_id = n; links = ls }

counted_is : (s : SessionState) (w n : ℕ) (ls : List (Slot LiveLink)) (e : SessionEvent) → w - 1 ≡ s.window + widened_by e - one_if (is_transfer e) →
    (n + 1) % 2 ^ 32 ≡ (unwrap_or (stated_by e) s.next_incoming_id + one_if (is_transfer e)) % 2 ^ 32 → ls ≡ places_after live_begins live_after s.links (happens e) →
    parts s (w - 1) ((n + 1) % 2 ^ 32) ls ≡ session_after s e
counted_is s w n ls e a b c =
    ap (λ (m : ℕ). parts s m ((n + 1) % 2 ^ 32) ls) a
    ∙ ap (λ (m : ℕ). parts s (s.window + widened_by e - one_if (is_transfer e)) m ls) b
    ∙ ap (λ (ks : List (Slot LiveLink)). parts s (s.window + widened_by e - one_if (is_transfer e)) ((unwrap_or (stated_by e) s.next_incoming_id + one_if (is_transfer e)) % 2 ^ 32) ks) c

-- where no link is live
module _ (s : SessionState) (h : ℕ) (t : Sent) (some : 1 ≤ s.window) where
  by_handle : session_fault s (Transfers h t) ≡ handle_fault s h
  by_handle = ap (λ (b : Bool). or_else (where_so b fault.WindowViolation) (handle_fault s h)) (ne_eqb s.window 0 (λ e. absurd (omega (arith, e, some))))

  pub has_one : is_free (slot_at s h) ≡ false → session_fault s (Transfers h t) ≡ None
  has_one used = by_handle ∙ ap (λ (b : Bool). where_so b fault.UnattachedHandle) used

  pub waits : None ≡ link_at s h → is_free (slot_at s h) ≡ false → slot_at s h ≡ Waits
  waits none used = by (slot_at s h) none used
    where
      by : (x : Slot LiveLink) → None ≡ link_in x → is_free x ≡ false → x ≡ Waits
      by Free none used = absurd (no_true (sym used))
      by (Live l) none used = absurd (grind (arith, none))
      by Waits none used = refl

  pub dropped : s.next_incoming_id < 2 ^ 32 → slot_at s h ≡ Waits → counted s ≡ session_after s (event_of s (Transfers h t))
  dropped short here =
      counted_is s s.window s.next_incoming_id s.links (event.TransferDropped h) (omega arith) refl (sym (none_after s.links))
      ∙ ap (λ (x : Slot LiveLink). session_after s (transfer_event s h t x)) (sym here)

-- whether an open delivery has its id
pub known_is : (entries : List (ℕ × Kept)) (s : SessionState) (o : Option ℕ) → IsIndexed entries s.links → unwrap_or o 0 < 2 ^ 32 →
    option_map_or (λ id. is_some (found entries id)) o false ≡ option_map_or (is_open_id s) o false
known_is entries s None indexed low = refl
known_is entries s (Some id) indexed low = known_open entries s.links indexed id low

-- where a link is
module _ (s : SessionState) (h : ℕ) (t : Sent) (u : LinkState) (at : Some u ≡ link_at s h) (some : 1 ≤ s.window) where
  pub live : (l : LiveLink) × (slot_at s h ≡ Live l) × (u ≡ l.link)
  live = lives (slot_at s h) u at

  pub is_used : is_free (slot_at s h) ≡ false
  is_used = ap is_free live.1

  pub accepted : session_fault s (Transfers h t) ≡ None
  accepted = has_one s h t some is_used

  pub fault_is : (known : Bool) → known ≡ option_map_or (is_open_id s) t.delivery_id false → known_fault known u t ≡ transfer_fault s live.0.link t
  fault_is known is =
      ap (λ (b : Bool). known_fault b u t) is ∙ ap (λ (l : LinkState). known_fault (option_map_or (is_open_id s) t.delivery_id false) l t) live.2

  -- it is taken
  module _ (none : transfer_fault s live.0.link t ≡ None) where
    pub event_is : event_of s (Transfers h t) ≡ event.TransferCame h t
    event_is = ap (λ (x : Slot LiveLink). transfer_event s h t x) live.1 ∙ ap (λ (o : Option LinkFault). if is_none o then event.TransferCame h t else event.TransferEnded h) none

    pub came : (new : LinkState) → s.next_incoming_id < 2 ^ 32 → new ≡ link_after u (Transferred t) → counted (with_link s h new) ≡ session_after s (event_of s (Transfers h t))
    came new short is =
        ap (λ (w : LinkState). counted (with_link s h w)) is ∙ ap counted (went_on s h u (Transferred t) short at)
        ∙ counted_is s (s.window + 0 - 0) ((s.next_incoming_id + 0) % 2 ^ 32) (session_after s (event.Called h (Transferred t))).links (event.TransferCame h t) (omega arith) (omega (arith, short)) refl
        ∙ ap (λ (e : SessionEvent). session_after s e) (sym event_is)

    pub came_told : (step : Step) → step ≡ step_of t → step_report h step ≡ report_of s (Transfers h t)
    came_told step is =
        ap (step_report h) is ∙ sym (ap (λ (x : Slot LiveLink). transfer_report s h t x) live.1 ∙ ap (λ (o : Option LinkFault). came_report h live.0.link t o) none)

    pub grows : may_grow u t ≡ true → frame_may_grow s (Transfers h t) ≡ true
    grows more =
        ap (λ (x : Slot LiveLink). slot_may_grow s t x) live.1
        ∙ and_from (is_none (transfer_fault s live.0.link t)) (may_grow live.0.link t) (ap is_none none) (ap (λ (l : LinkState). may_grow l t) (sym live.2) ∙ more)

  -- it ends its link
  module _ (f : LinkFault) (fails : transfer_fault s live.0.link t ≡ Some f) where
    pub ends_is : event_of s (Transfers h t) ≡ event.TransferEnded h
    ends_is = ap (λ (x : Slot LiveLink). transfer_event s h t x) live.1 ∙ ap (λ (o : Option LinkFault). if is_none o then event.TransferCame h t else event.TransferEnded h) fails

    pub ended : (old new : SessionState) → old ≡ s → s.next_incoming_id < 2 ^ 32 → new ≡ session_after old (event.Detached h) → counted new ≡ session_after s (event_of s (Transfers h t))
    ended old new same short is =
        ap counted (is ∙ ap (λ (u : SessionState). session_after u (event.Detached h)) same)
        ∙ counted_is s (s.window + 0 - 0) ((s.next_incoming_id + 0) % 2 ^ 32) (session_after s (event.Detached h)).links (event.TransferEnded h) (omega arith) (omega (arith, short)) refl
        ∙ ap (λ (e : SessionEvent). session_after s e) (sym ends_is)

    pub ended_told : (old : SessionState) (told : Report) → old ≡ s → told ≡ report.Failed h (link_condition f) (slot_ready (slot_at old h)) → told ≡ report_of s (Transfers h t)
    ended_told old told same is =
        is ∙ ap (λ (v : SessionState). report.Failed h (link_condition f) (slot_ready (slot_at v h))) same
        ∙ ap (λ (x : Slot LiveLink). report.Failed h (link_condition f) (slot_ready x)) live.1
        ∙ sym (ap (λ (x : Slot LiveLink). transfer_report s h t x) live.1 ∙ ap (λ (o : Option LinkFault). came_report h live.0.link t o) fails)

-- the index behind it
pub ended_indexed : (entries after : List (ℕ × Kept)) (s old new : SessionState) (h : ℕ) → old ≡ s → new ≡ session_after s (event.TransferEnded h) →
    ((id : ℕ) → id < 2 ^ 32 → found after id ≡ gone_of (ids_of (live_in (slot_at old h))) id (found entries id)) → IsIndexed entries s.links → IsIndexed after new.links
ended_indexed entries after s old new h same is left was =
    after_left h entries after s new (event.TransferEnded h) is (λ id i. leaves_counted id h s.links i)
    (λ id low. left id low ∙ gone_left h id (live_in (slot_at old h)) entries s.links was low (ap (λ (v : SessionState). live_in (slot_at v h)) same)) was

-- and behind one that was refused memory
pub still_indexed : (entries after : List (ℕ × Kept)) (s new : SessionState) → new ≡ s → ((id : ℕ) → found after id ≡ found entries id) → IsIndexed entries s.links → IsIndexed after new.links
still_indexed entries after s new same still was =
    subst (λ (v : SessionState). IsIndexed after v.links) (sym same)
    (index_by (λ q i n. n) entries after s.links s.links (λ q i low. refl) (λ q i low. ap (λ (o : Option Kept). one_if (is_kept_at i o)) (still q)) was)
