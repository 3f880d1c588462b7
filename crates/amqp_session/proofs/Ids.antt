-- No two open deliveries of a session have one id, and each id has 32 bits, whatever is accepted.
use Rattle.std.proofs.Common.{arith, ◌≡◌, ℕ, zero, suc, ◌+◌, ◌^◌, ◌<◌, ◌≤◌, subst, Bool, true, false, not, ◌&&◌, ◌||◌, List, [], ◌∷◌, refl, sym, ap, ◌∙◌, Option, Some, None}
use Rattle.std.specs.Prelude.{is_none, is_some, unwrap_or, slice_get, nat_eq, nat_le, nat_lt, if◌then◌else◌}
use Rattle.std.specs.List.{list_any, count_by}
use Rattle.std.specs.Option.{option_map_or}
use Rattle.std.proofs.lemmas.Bool.{eqb-true, leb-true, leb-false, lt-ltb, not-false, and_parts, or_parts}
use Rattle.std.proofs.lemmas.List.Sums.{sum_by-cons}
use Rattle.amqp_link.specs.declared.terms.Terms.{Terms}
use Rattle.amqp_link.specs.declared.transfer.LinkFault.TheVariants as link_fault
use Rattle.amqp_link.specs.Histories as link
use Rattle.amqp_link.specs.Laws.{id_count, begun_with}
use Rattle.amqp_link.specs.Links.{Sent, Delivery, LinkState, LinkEvent, Granted, DrainAsked, Transferred, FlowStated, HandedUp, ReceiverSettled, SenderSettled, link_after, LinkMay, deliveries}
use Rattle.amqp_link.specs.Links.{has_id, fault_of, is_formed, is_tag, is_first, states_second, lacks_credit, is_too_long}
use Rattle.amqp_session.specs.declared.slot.Slot.{Slot}
use Rattle.amqp_session.specs.declared.slot.Slot.TheVariants.{Free, Live, Waits}
use Rattle.amqp_session.specs.declared.terms.SessionTerms.{SessionTerms}
use Rattle.amqp_session.specs.Places.{Happens, slot_after, slot_map, places_from, live_in}
use Rattle.amqp_session.specs.Sessions.{Attached, LiveLink, live_begins, live_after, SessionState, SessionEvent, SessionMay, session_begins, session_after, slot_at, slot_has, is_open_id}
use Rattle.amqp_link.specs.Histories.{one_if}
use Rattle.amqp_session.specs.Sessions.{is_reused, slot_count, table_count, IsApart}
use Rattle.amqp_session.specs.Histories.{after_all, Accepted}
use Rattle.amqp_session.specs.Sessions as event
use Rattle.amqp_session.specs.Places as place
use Rattle.amqp_link.proofs.Steps.{skip_some}

-- what a link owes to its session: more of its open deliveries have an id only where a head begins one with it
abbrev pub IdsGrow : Type 0
IdsGrow = (id : ℕ) (s : LinkState) (e : LinkEvent) → LinkMay s e → id_count id (link_after s e) ≤ id_count id s + begun_with id s e

-- so many open deliveries of a session may have an id
abbrev room : ℕ → ℕ
room id = one_if (nat_lt id (2 ^ 32))

-- Where none has the id. -----------------------------------------------------------------------------------------------------

-- where no delivery has an id none is counted
pub none_has : (id : ℕ) (ds : List Delivery) → list_any (has_id id) ds ≡ false → count_by (has_id id) ds ≡ 0
none_has id [] e = refl
none_has id (d ∷ ds) e =
    let two = or_parts (has_id id d) (list_any (has_id id) ds) e in
    let here : link.one_if (has_id id d) ≡ 0 = ap link.one_if two.0 in
    omega (arith, sum_by-cons (λ (d : Delivery). link.one_if (has_id id d)) d ds, here, none_has id ds two.1)

pub slot_none : (id : ℕ) (s : Slot LiveLink) → slot_has id s ≡ false → slot_count id s ≡ 0
slot_none id Free e = refl
slot_none id (Live l) e = none_has id (deliveries l.link) e
slot_none id Waits e = refl

-- the count over a table with one more handle
pub table_cons : (id : ℕ) (s : Slot LiveLink) (slots : List (Slot LiveLink)) → table_count id (s ∷ slots) ≡ slot_count id s + table_count id slots
table_cons id s slots = sum_by-cons (slot_count id) s slots

-- where no link has an id none is counted
pub table_none : (id : ℕ) (slots : List (Slot LiveLink)) → list_any (slot_has id) slots ≡ false → table_count id slots ≡ 0
table_none id [] e = refl
table_none id (s ∷ slots) e =
    let two = or_parts (slot_has id s) (list_any (slot_has id) slots) e in omega (arith, table_cons id s slots, slot_none id s two.0, table_none id slots two.1)

-- The table. -----------------------------------------------------------------------------------------------------------------

-- a place where this many more may stand
abbrev at_place : ℕ → ℕ → ℕ → ℕ
at_place place k more = if nat_eq place k then more else 0

abbrev from_place : ℕ → ℕ → ℕ → ℕ
from_place place k more = if nat_le k place then more else 0

place_on : (place k more : ℕ) → at_place place k more + from_place place (suc k) more ≤ from_place place k more
place_on place k more = by (nat_eq place k) (nat_le (suc k) place) (nat_le k place) refl refl refl
  where
    by : (a b c : Bool) → nat_eq place k ≡ a → nat_le (suc k) place ≡ b → nat_le k place ≡ c → (if a then more else 0) + (if b then more else 0) ≤ (if c then more else 0)
    by true true c f g h = absurd (omega (arith, eqb-true place k f, leb-true (suc k) place g))
    by true false true f g h = omega arith
    by true false false f g h = absurd (omega (arith, eqb-true place k f, leb-false k place h))
    by false true true f g h = omega arith
    by false true false f g h = absurd (omega (arith, leb-true (suc k) place g, leb-false k place h))
    by false false c f g h = omega arith

-- the table after what happens
abbrev went : Happens Attached LinkEvent → List (Slot LiveLink) → List (Slot LiveLink)
went x slots = places_from live_begins live_after 0 x slots

-- where each place has no more than before, but for this one, so has the table
table_step : (id place more k : ℕ) (x : Happens Attached LinkEvent) (slots : List (Slot LiveLink)) →
    ((j i : ℕ) (s : Slot LiveLink) → j ≡ k + i → slice_get slots i ≡ Some s → slot_count id (slot_after live_begins live_after j x s) ≤ slot_count id s + at_place place j more) →
    table_count id (places_from live_begins live_after k x slots) ≤ table_count id slots + from_place place k more
table_step id place more k x [] each = omega arith
table_step id place more k x (s ∷ slots) each =
    let first = each k 0 s (omega arith) refl in
    let rest = table_step id place more (suc k) x slots (λ j i t e g. each j (suc i) t (omega (arith, e)) g) in
    let before = table_cons id s slots in
    let after = table_cons id (slot_after live_begins live_after k x s) (places_from live_begins live_after (suc k) x slots) in
    omega (arith, before, after, first, rest, place_on place k more)

-- one of two slots, of which neither has more
pick : (id n : ℕ) (b : Bool) (s t : Slot LiveLink) → slot_count id s ≤ n → slot_count id t ≤ n → slot_count id (if b then s else t) ≤ n
pick id n true s t l m = l
pick id n false s t l m = m

-- the place of the event, and the others
pick_at : (id more n : ℕ) (b : Bool) (s t : Slot LiveLink) → (b ≡ true → slot_count id s ≤ n + more) → slot_count id t ≤ n → slot_count id (if b then s else t) ≤ n + (if b then more else 0)
pick_at id more n true s t l m = l refl
pick_at id more n false s t l m = omega (arith, m)

-- An event that adds nothing anywhere.
no_more : (id : ℕ) (x : Happens Attached LinkEvent) (slots : List (Slot LiveLink)) →
    ((j i : ℕ) (s : Slot LiveLink) → slice_get slots i ≡ Some s → slot_count id (slot_after live_begins live_after j x s) ≤ slot_count id s) → table_count id (went x slots) ≤ table_count id slots
no_more id x slots each =
    let all = table_step id 0 0 0 x slots (λ j i s e g. let l = each j i s g in omega (arith, l)) in omega (arith, all)

begins_none : (id handle : ℕ) (a : Attached) (slots : List (Slot LiveLink)) → table_count id (went (place.Begins handle a) slots) ≤ table_count id slots
begins_none id handle a slots = no_more id (place.Begins handle a) slots (λ j i s g. pick id (slot_count id s) (nat_eq handle j) (Live (live_begins a)) s (omega arith) (omega arith))

leaves_none : (id handle : ℕ) (slots : List (Slot LiveLink)) → table_count id (went (place.Leaves handle) slots) ≤ table_count id slots
leaves_none id handle slots = no_more id (place.Leaves handle) slots (λ j i s g. pick id (slot_count id s) (nat_eq handle j) Waits s (omega arith) (omega arith))

gone_none : (id handle : ℕ) (slots : List (Slot LiveLink)) → table_count id (went (place.Gone handle) slots) ≤ table_count id slots
gone_none id handle slots = no_more id (place.Gone handle) slots (λ j i s g. pick id (slot_count id s) (nat_eq handle j) Free s (omega arith) (omega arith))

nothing_none : (id : ℕ) (slots : List (Slot LiveLink)) → table_count id (went place.Nothing slots) ≤ table_count id slots
nothing_none id slots = no_more id place.Nothing slots (λ j i s g. omega arith)

-- What a head needs. ---------------------------------------------------------------------------------------------------------

formed : (l : LinkState) (t : Sent) → fault_of l t ≡ None → is_formed l.terms l.unfinished t ≡ true
formed l t e =
    let rest = if lacks_credit l then Some link_fault.TransferLimit else (if is_too_long l t then Some link_fault.MessageSize else None) in
    let one = skip_some t.resume link_fault.NotImplemented (if not (is_formed l.terms l.unfinished t) then Some link_fault.InvalidField else rest) e in
    let two = skip_some (not (is_formed l.terms l.unfinished t)) link_fault.InvalidField rest one.1 in not-false (is_formed l.terms l.unfinished t) two.0

-- a head states its id
head_id : (terms : Terms) (p : Option Delivery) (t : Sent) → is_none p ≡ true → is_formed terms p t ≡ true → is_some t.delivery_id ≡ true
head_id terms None t e f =
    let one = and_parts (is_some t.delivery_id && is_tag t.delivery_tag) (t.settled || not (is_first terms.rcv_settle_mode && states_second t.rcv_settle_mode)) f in
    (and_parts (is_some t.delivery_id) (is_tag t.delivery_tag) one.0).0
head_id terms (Some d) t e f = absurd (grind (arith, e))

stated_new : (test : ℕ → Bool) (o : Option ℕ) → is_some o ≡ true → option_map_or test o false ≡ false → test (unwrap_or o 0) ≡ false
stated_new test None e f = absurd (grind (arith, e))
stated_new test (Some id) e f = f

-- a head whose id this is comes where no open delivery has it
pub new_id : (id : ℕ) (s : SessionState) (l : LinkState) (t : Sent) → is_reused s l t ≡ false → fault_of l t ≡ None → is_none l.unfinished && nat_eq (unwrap_or t.delivery_id 0) id ≡ true →
    table_count id s.links ≡ 0
new_id id s l t fresh none head =
    let two = and_parts (is_none l.unfinished) (nat_eq (unwrap_or t.delivery_id 0) id) head in
    let closed : option_map_or (is_open_id s) t.delivery_id false ≡ false = subst (λ (b : Bool). b && option_map_or (is_open_id s) t.delivery_id false ≡ false) two.0 fresh in
    let new = stated_new (is_open_id s) t.delivery_id (head_id l.terms l.unfinished t two.0 (formed l t none)) closed in
    table_none id s.links (subst (λ (n : ℕ). is_open_id s n ≡ false) (eqb-true (unwrap_or t.delivery_id 0) id two.1) new)

-- an id of 32 bits may stand once
has_room : (id n : ℕ) → n < 2 ^ 32 → nat_eq n id ≡ true → room id ≡ 1
has_room id n l e =
    let small : id < 2 ^ 32 = omega (arith, l, eqb-true n id e) in ap one_if (lt-ltb id (2 ^ 32) small)

most : (place k more : ℕ) → from_place place k more ≤ more
most place k more = by (nat_le k place)
  where
    by : (b : Bool) → (if b then more else 0) ≤ more
    by true = omega arith
    by false = omega arith

-- A step. --------------------------------------------------------------------------------------------------------------------

module _ (grow : IdsGrow) where
  alike : (slots : List (Slot LiveLink)) (handle i : ℕ) (l : LiveLink) (u : Slot LiveLink) → handle ≡ i → slice_get slots handle ≡ Some (Live l) → slice_get slots i ≡ Some u → u ≡ Live l
  alike slots handle i l u same here get =
      let both : Some u ≡ Some (Live l) = sym get ∙ ap (λ (n : ℕ). slice_get slots n) (sym same) ∙ here in ap (λ (o : Option (Slot LiveLink)). unwrap_or o Free) both

  live_slot : (id : ℕ) (l : LiveLink) (e : LinkEvent) (s : Slot LiveLink) → s ≡ Live l → LinkMay l.link e →
      slot_count id (slot_map (λ (m : LiveLink). live_after m e) s) ≤ slot_count id s + begun_with id l.link e
  live_slot id l e s same may =
      subst (λ (u : Slot LiveLink). slot_count id (slot_map (λ (m : LiveLink). live_after m e) u) ≤ slot_count id u + begun_with id l.link e) (sym same) (grow id l.link e may)

  -- An event at one link adds what it adds there.
  at_one : (id : ℕ) (s : SessionState) (handle : ℕ) (e : LinkEvent) (l : LiveLink) → slice_get s.links handle ≡ Some (Live l) → LinkMay l.link e →
      table_count id (went (place.GoesOn handle e) s.links) ≤ table_count id s.links + begun_with id l.link e
  at_one id s handle e l here may =
      let all = table_step id handle (begun_with id l.link e) 0 (place.GoesOn handle e) s.links each in omega (arith, all, most handle 0 (begun_with id l.link e))
    where
      each : (j i : ℕ) (u : Slot LiveLink) → j ≡ 0 + i → slice_get s.links i ≡ Some u →
          slot_count id (slot_after live_begins live_after j (place.GoesOn handle e) u) ≤ slot_count id u + at_place handle j (begun_with id l.link e)
      each j i u same get = pick_at id (begun_with id l.link e) (slot_count id u) (nat_eq handle j) _ u (λ hit. live_slot id l e u (alike s.links handle i l u (there hit) here get) may) (omega arith)
        where
          there : nat_eq handle j ≡ true → handle ≡ i
          there hit = omega (arith, eqb-true handle j hit, same)

  -- An event of all links that begins nothing adds nothing.
  at_all : (id : ℕ) (e : LinkEvent) (slots : List (Slot LiveLink)) → ((s : LinkState) → begun_with id s e ≡ 0) →
      ((place : ℕ) (l : LiveLink) → slice_get slots place ≡ Some (Live l) → LinkMay l.link e) → table_count id (went (place.AllGoOn e) slots) ≤ table_count id slots
  at_all id e slots begins may = no_more id (place.AllGoOn e) slots each
    where
      each : (j i : ℕ) (s : Slot LiveLink) → slice_get slots i ≡ Some s → slot_count id (slot_map (λ (m : LiveLink). live_after m e) s) ≤ slot_count id s
      each j i Free get = omega arith
      each j i (Live l) get = let step = grow id l.link e (may i l get) in omega (arith, step, begins l.link)
      each j i Waits get = omega arith

  -- A transfer adds a delivery with the id where none has it.
  came_apart : (id : ℕ) (s : SessionState) (handle : ℕ) (t : Sent) → IsApart s → SessionMay s (event.TransferCame handle t) →
      table_count id (went (place.GoesOn handle (Transferred t)) s.links) ≤ room id
  came_apart id s handle t apart may = by may.2.0 may.2.1 may.2.2
    where
      by : (l : LiveLink) → slice_get s.links handle ≡ Some (Live l) → fault_of l.link t ≡ None → table_count id (went (place.GoesOn handle (Transferred t)) s.links) ≤ room id
      by l here none = cases (is_none l.link.unfinished && nat_eq (unwrap_or t.delivery_id 0) id) refl
        where
          step : table_count id (went (place.GoesOn handle (Transferred t)) s.links) ≤ table_count id s.links + begun_with id l.link (Transferred t)
          step = at_one id s handle (Transferred t) l here none

          fresh : is_reused s l.link t ≡ false
          fresh =
              let slot : slot_at s handle ≡ Live l = ap (λ (o : Option (Slot LiveLink)). unwrap_or o Free) here in
              subst (λ (u : Slot LiveLink). option_map_or (λ (m : LiveLink). is_reused s m.link t) (live_in u) false ≡ false) slot may.1.free

          cases : (b : Bool) → is_none l.link.unfinished && nat_eq (unwrap_or t.delivery_id 0) id ≡ b → table_count id (went (place.GoesOn handle (Transferred t)) s.links) ≤ room id
          cases true e =
              let one : begun_with id l.link (Transferred t) ≡ 1 = ap link.one_if e in
              let two = and_parts (is_none l.link.unfinished) (nat_eq (unwrap_or t.delivery_id 0) id) e in
              omega (arith, step, one, new_id id s l.link t fresh none e, has_room id (unwrap_or t.delivery_id 0) may.1.number two.1)
          cases false e =
              let none : begun_with id l.link (Transferred t) ≡ 0 = ap link.one_if e in
              let before = apart id in omega (arith, step, none, before)

  called_apart : (id : ℕ) (s : SessionState) (handle : ℕ) (e : LinkEvent) (l : LiveLink) → IsApart s → slice_get s.links handle ≡ Some (Live l) → LinkMay l.link e → begun_with id l.link e ≡ 0 →
      table_count id (went (place.GoesOn handle e) s.links) ≤ room id
  called_apart id s handle e l apart here may none =
      let before = apart id in omega (arith, at_one id s handle e l here may, none, before)

  pub stays_apart : (s : SessionState) (e : SessionEvent) → IsApart s → SessionMay s e → IsApart (session_after s e)
  stays_apart s (event.Widened n) apart may = λ id. let one = apart id in omega (arith, one, nothing_none id s.links)
  stays_apart s (event.LinkAttached handle a) apart may = λ id. let one = apart id in omega (arith, one, begins_none id handle a s.links)
  stays_apart s (event.LinkRefused handle) apart may = λ id. let one = apart id in omega (arith, one, leaves_none id handle s.links)
  stays_apart s (event.TransferCame handle t) apart may = λ id. came_apart id s handle t apart may
  stays_apart s (event.TransferEnded handle) apart may = λ id. let one = apart id in omega (arith, one, leaves_none id handle s.links)
  stays_apart s (event.TransferDropped handle) apart may = λ id. let one = apart id in omega (arith, one, nothing_none id s.links)
  stays_apart s (event.FlowCame next_id) apart may = λ id. let one = apart id in omega (arith, one, nothing_none id s.links)
  stays_apart s (event.LinkFlowCame handle next_id count) apart may = λ id. called_apart id s handle (FlowStated count) may.2.0 apart may.2.1 may.2.2 refl
  stays_apart s (event.LinkFlowEnded handle next_id) apart may = λ id. let one = apart id in omega (arith, one, leaves_none id handle s.links)
  stays_apart s (event.PeerSettled first last) apart may = λ id. let one = apart id in omega (arith, one, at_all id (SenderSettled first last) s.links (λ s. refl) may.2)
  stays_apart s (event.Settled first last) apart may = λ id. let one = apart id in omega (arith, one, at_all id (ReceiverSettled first last) s.links (λ s. refl) may.2)
  stays_apart s event.Ignored apart may = λ id. let one = apart id in omega (arith, one, nothing_none id s.links)
  stays_apart s (event.PeerDetached handle) apart may = λ id. let one = apart id in omega (arith, one, gone_none id handle s.links)
  stays_apart s (event.Detached handle) apart may = λ id. let one = apart id in omega (arith, one, leaves_none id handle s.links)
  stays_apart s (event.Called handle (Granted n)) apart may = λ id. called_apart id s handle (Granted n) may.2.0 apart may.2.1 may.2.2 refl
  stays_apart s (event.Called handle DrainAsked) apart may = λ id. called_apart id s handle DrainAsked may.2.0 apart may.2.1 may.2.2 refl
  stays_apart s (event.Called handle (Transferred t)) apart may = absurd may.1
  stays_apart s (event.Called handle (FlowStated stated)) apart may = absurd may.1
  stays_apart s (event.Called handle (HandedUp d)) apart may = λ id. called_apart id s handle (HandedUp d) may.2.0 apart may.2.1 may.2.2 refl
  stays_apart s (event.Called handle (ReceiverSettled first last)) apart may = absurd may.1
  stays_apart s (event.Called handle (SenderSettled first last)) apart may = absurd may.1

free_none : (id k n : ℕ) → table_count id (place.tabulate k n (λ j. Free)) ≡ 0
free_none id k zero = refl
free_none id k (suc n) = let rest = free_none id (suc k) n in omega (arith, table_cons id Free (place.tabulate (suc k) n (λ j. Free)), rest)

-- a new session has no two deliveries of one id
pub begins_apart : (terms : SessionTerms) → IsApart (session_begins terms)
begins_apart terms = λ id. let none = free_none id 0 (suc terms.handle_max) in omega (arith, none)

-- nor has any after accepted events
pub all_apart : IdsGrow → (terms : SessionTerms) (h : List SessionEvent) → Accepted terms h → IsApart (after_all terms h)
all_apart grow terms [] all = begins_apart terms
all_apart grow terms (e ∷ h) all = stays_apart grow (after_all terms h) e (all_apart grow terms h all.0) all.1
