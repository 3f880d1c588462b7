-- A link that its session lent.
use Rattle.std.proofs.Common.{arith, ◌≡◌, ℕ, zero, suc, ◌+◌, ◌-◌, ◌%◌, ◌^◌, ◌<◌, ◌≤◌, subst, Bool, List, [], ◌∷◌, map, refl, sym, ap, ◌∙◌, Option, Some, None}
use Rattle.std.specs.Prelude.{slice_get, slice_set, unwrap_or, is_none, nat_lt, IsSomeAnd}
use Rattle.std.proofs.lemmas.Bool.{le-ltb, lt-ltb}
use Rattle.std.proofs.lemmas.Option.{same_Some}
use Rattle.amqp_perform.specs.Said.{Said}
use Rattle.amqp_perform.specs.declared.modes.ReceiverSettleMode.{ReceiverSettleMode}
use Rattle.amqp_link.specs.declared.link.Taken.{Taken}
use Rattle.amqp_link.specs.declared.settlement.Standing.{Standing}
use Rattle.amqp_link.specs.declared.settlement.Standing.TheVariants.{Absent, Untaken, Told, Awaiting}
use Rattle.amqp_link.specs.HandedUps.{IsHandedUp}
use Rattle.amqp_link.specs.Histories.{one_if}
use Rattle.amqp_link.specs.Links.{LinkState, LinkEvent, Granted, DrainAsked, HandedUp, ReceiverSettled, Delivery, link_after, first_ready, open_count, open_set, settle_fault, standing_of, IsAwaiting}
use Rattle.amqp_session.specs.declared.fault.CallFault.{CallFault}
use Rattle.amqp_session.specs.declared.fault.CallFault.TheVariants as refused
use Rattle.amqp_session.specs.declared.slot.Slot.{Slot}
use Rattle.amqp_session.specs.declared.slot.Slot.TheVariants.{Free, Live, Waits}
use Rattle.amqp_session.specs.declared.state.LinkStated.{LinkStated}
use Rattle.amqp_session.specs.Places.{AllGoOn, places_from}
use Rattle.amqp_session.specs.Frames.{link_flow_said}
use Rattle.amqp_session.specs.Faults.{where_so, link_flow}
use Rattle.amqp_session.specs.Sessions.{LiveLink, live_begins, live_after, SessionState, session_after, slot_at, table_count, IsApart}
use Rattle.amqp_session.specs.Sessions as event
use Rattle.amqp_session.specs.Calls.{Call, Grant, Drain, Take, at_link, call_fault, call_event, first_taken, take_event, slot_standing, standing_in, standing_fault}
use Rattle.amqp_session.specs.Slots.{HandsUp, slot_called, stated_of}
use Rattle.amqp_session.specs.Links.{link_in, link_at, relinked, slot_relinked, with_link, HasSettled}
use Rattle.amqp_session.proofs.Tables.{found, put_again, goes_on_at}
use Rattle.amqp_session.proofs.Standings.{settles_everywhere, some_stands}
use Rattle.amqp_session.proofs.Founds.{settled_at}
use Rattle.amqp_session.proofs.States.{flow_is}

-- what is live there
pub lives : (x : Slot LiveLink) (t : LinkState) → Some t ≡ link_in x → (l : LiveLink) × (x ≡ Live l) × (t ≡ l.link)
lives Free t e = absurd (grind (arith, e))
lives (Live l) t e = (l, refl, same_Some t l.link e)
lives Waits t e = absurd (grind (arith, e))

-- an event of a link changes nothing but the links
by_links : (s : SessionState) (h : ℕ) (e : LinkEvent) (ls : List (Slot LiveLink)) → s.next_incoming_id < 2 ^ 32 →
    ls ≡ (session_after s (event.Called h e)).links → record s { links = ls } ≡ session_after s (event.Called h e)
by_links s h e ls short is =
    let window : s.window ≡ s.window + 0 - 0 = omega arith in
    let number : s.next_incoming_id ≡ (s.next_incoming_id + 0) % 2 ^ 32 = omega (arith, short) in
    ap (λ (ks : List (Slot LiveLink)). record s { links = ks }) is
    ∙ ap (λ (w : ℕ). record { terms = s.terms; window = w; next_incoming_id = s.next_incoming_id; links = (session_after s (event.Called h e)).links }) window
    ∙ ap (λ (n : ℕ). record { terms = s.terms; window = s.window + 0 - 0; next_incoming_id = n; links = (session_after s (event.Called h e)).links }) number

-- it goes on
pub went_on : (s : SessionState) (h : ℕ) (t : LinkState) (e : LinkEvent) → s.next_incoming_id < 2 ^ 32 → Some t ≡ link_at s h → with_link s h (link_after t e) ≡ session_after s (event.Called h e)
went_on s h t e short at =
    let live = lives (slot_at s h) t at in
    by_links s h e (slice_set s.links h (slot_relinked (slot_at s h) (link_after t e))) short
    (ap (λ (x : Slot LiveLink). slice_set s.links h (slot_relinked x (link_after t e))) live.1
    ∙ ap (λ (u : LinkState). slice_set s.links h (slot_relinked (Live live.0) (link_after u e))) live.2
    ∙ sym (goes_on_at live_begins live_after s.links h e (Live live.0) (found (slice_get s.links h) (Live live.0) live.1 tt)))

-- or is as it was
pub stayed : (s : SessionState) (h : ℕ) (t : LinkState) → Some t ≡ link_at s h → with_link s h t ≡ s
stayed s h t at =
    let live = lives (slot_at s h) t at in
    ap (λ (ls : List (Slot LiveLink)). record s { links = ls })
    (ap (λ (x : Slot LiveLink). slice_set s.links h (slot_relinked x t)) live.1
    ∙ ap (λ (u : LinkState). slice_set s.links h (slot_relinked (Live live.0) u)) live.2
    ∙ put_again s.links h (Live live.0) (found (slice_get s.links h) (Live live.0) live.1 tt))

-- a call that was refused leaves everything
module _ (s : SessionState) (h : ℕ) (t new : LinkState) (at : Some t ≡ link_at s h) (same : new ≡ t) where
  pub unchanged : (now : SessionState) → s ≡ now → with_link s h new ≡ now
  unchanged now view = ap (λ (u : LinkState). with_link s h u) same ∙ stayed s h t at ∙ view

  pub apart_still : IsApart s → IsApart (with_link s h new)
  apart_still apart = subst (λ (u : SessionState). IsApart u) (sym (unchanged s refl)) apart

-- a test of it is one of the link at the handle
pub tested : (x : Slot LiveLink) (t : LinkState) (test : LinkState → Option CallFault) → Some t ≡ link_in x → at_link x test ≡ test t
tested x t test at = let live = lives x t at in ap (λ (y : Slot LiveLink). at_link y test) live.1 ∙ ap test (sym live.2)

-- A call that its link accepted. ----------------------------------------------------------------------------------------

-- what it leaves, and that it is accepted
abbrev pub IsCalled : SessionState → ℕ → LinkState → Call → Type 0
IsCalled s h new c = (call_fault s c ≡ None) × (with_link s h new ≡ session_after s (call_event s c))

module _ (s : SessionState) (h : ℕ) (t new : LinkState) (short : s.next_incoming_id < 2 ^ 32) (at : Some t ≡ link_at s h) where
  -- what one event of the link leaves
  one_event : (e : LinkEvent) → new ≡ link_after t e → with_link s h new ≡ session_after s (event.Called h e)
  one_event e is = ap (λ (u : LinkState). with_link s h u) is ∙ went_on s h t e short at

  pub granted : (n : ℕ) → t.credit + open_count t + n ≤ t.terms.bounds.allowed → new ≡ link_after t (Granted n) → IsCalled s h new (Grant h n)
  granted n within is = (
    tested (slot_at s h) t (λ l. where_so (nat_lt l.terms.bounds.allowed (l.credit + open_count l + n)) refused.TooMuchCredit) at
        ∙ ap (λ (b : Bool). where_so b refused.TooMuchCredit) (le-ltb t.terms.bounds.allowed (t.credit + open_count t + n) within),
    one_event (Granted n) is,
  )

  pub much : (n : ℕ) → t.terms.bounds.allowed < t.credit + open_count t + n → call_fault s (Grant h n) ≡ Some refused.TooMuchCredit
  much n over =
      tested (slot_at s h) t (λ l. where_so (nat_lt l.terms.bounds.allowed (l.credit + open_count l + n)) refused.TooMuchCredit) at
      ∙ ap (λ (b : Bool). where_so b refused.TooMuchCredit) (lt-ltb t.terms.bounds.allowed (t.credit + open_count t + n) over)

  pub asked : new ≡ link_after t DrainAsked → IsCalled s h new (Drain h)
  asked is = (tested (slot_at s h) t (λ l. None) at, one_event DrainAsked is)

  -- the delivery that it hands up is the first that is ready
  pub handed : {A : Type 0} (up : Taken A) → IsSomeAnd (first_ready t) (λ d. IsHandedUp up d × (new ≡ link_after t (HandedUp d))) → IsCalled s h new (Take h) × HandsUp (slot_at s h) up
  handed {A} up is =
      let live = lives (slot_at s h) t at in (
        (
          tested (slot_at s h) t (λ l. where_so (is_none (first_ready l)) refused.NothingReady) at ∙ some (first_ready t) is,
          by_first (first_ready t) is ∙ ap (λ (o : Option Delivery). session_after s (first_taken h o)) (ap first_ready live.2)
              ∙ ap (λ (x : Slot LiveLink). session_after s (take_event h x)) (sym live.1),
        ),
        subst (λ (x : Slot LiveLink). HandsUp x up) (sym live.1) (subst (λ (u : LinkState). IsSomeAnd (first_ready u) (λ d. IsHandedUp up d)) live.2 (hands (first_ready t) is)),
      )
    where
      some : (o : Option Delivery) → IsSomeAnd o (λ d. IsHandedUp up d × (new ≡ link_after t (HandedUp d))) → where_so (is_none o) refused.NothingReady ≡ None
      some None is = absurd is
      some (Some d) is = refl

      by_first : (o : Option Delivery) → IsSomeAnd o (λ d. IsHandedUp up d × (new ≡ link_after t (HandedUp d))) → with_link s h new ≡ session_after s (first_taken h o)
      by_first None is = absurd is
      by_first (Some d) is = one_event (HandedUp d) is.1

      hands : (o : Option Delivery) → IsSomeAnd o (λ d. IsHandedUp up d × (new ≡ link_after t (HandedUp d))) → IsSomeAnd o (λ d. IsHandedUp up d)
      hands None is = absurd is
      hands (Some d) is = is.0

  -- none is ready
  pub none_ready : first_ready t ≡ None → call_fault s (Take h) ≡ Some refused.NothingReady
  none_ready none =
      tested (slot_at s h) t (λ l. where_so (is_none (first_ready l)) refused.NothingReady) at ∙ ap (λ (o : Option Delivery). where_so (is_none o) refused.NothingReady) none

-- the flow that states what the link is then
pub flow_after : (s : SessionState) (h : ℕ) (t new : LinkState) (stated : LinkStated) (said : Said) → Some t ≡ link_at s h → stated ≡ stated_of new →
    said ≡ link_flow_said s.next_incoming_id s.window h stated.delivery_count stated.link_credit stated.drain → link_flow (with_link s h new) h ≡ said ∷ []
flow_after s h t new stated said at is same =
    let live = lives (slot_at s h) t at in
    let put : slot_at (with_link s h new) h ≡ Live (relinked live.0 new) =
    ap (λ (x : Slot LiveLink). unwrap_or (slice_get (slice_set s.links h (slot_relinked x new)) h) Free) live.1
    ∙ ap (λ (o : Option (Slot LiveLink)). unwrap_or o Free) (put_there s.links h (Live live.0) (Live (relinked live.0 new)) (found (slice_get s.links h) (Live live.0) live.1 tt)) in
    flow_is (with_link s h new) h (Live (relinked live.0 new)) stated said put is same
  where
    put_there : (xs : List (Slot LiveLink)) (i : ℕ) (x new : Slot LiveLink) → slice_get xs i ≡ Some x → slice_get (slice_set xs i new) i ≡ Some new
    put_there [] i x new e = absurd (grind (arith, e))
    put_there (y ∷ xs) zero x new e = refl
    put_there (y ∷ xs) (suc i) x new e = put_there xs i x new e

-- A settle of the one link that has the id. ---------------------------------------------------------------------------------

-- a delivery that can be settled awaits that
pub awaits : (x : Standing) → standing_fault x ≡ None → (mode : ReceiverSettleMode) × (x ≡ Awaiting mode)
awaits Absent e = absurd (grind (arith, e))
awaits Untaken e = absurd (grind (arith, e))
awaits Told e = absurd (grind (arith, e))
awaits (Awaiting mode) e = (mode, refl)

pub awaiting : (x : Standing) → standing_fault x ≡ None → IsAwaiting x
awaiting x e = subst IsAwaiting (sym (awaits x e).1) tt

pub can_settle : (x : Standing) → IsAwaiting x → standing_fault x ≡ None
can_settle Absent a = absurd a
can_settle Untaken a = absurd a
can_settle Told a = absurd a
can_settle (Awaiting mode) a = refl

-- how the id stands on the link is how it stands at its place
pub stands_in : (id : ℕ) (x : Slot LiveLink) (t : LinkState) → Some t ≡ link_in x → standing_of id (open_set t) ≡ slot_standing id x
stands_in id x t at = let live = lives x t at in ap (λ (u : LinkState). standing_of id (open_set u)) live.2 ∙ ap (slot_standing id) (sym live.1)

pub none_stands : (id : ℕ) (x : Slot LiveLink) → None ≡ link_in x → Absent ≡ slot_standing id x
none_stands id Free e = refl
none_stands id (Live l) e = absurd (grind (arith, e))
none_stands id Waits e = refl

-- and one that can't does not
pub not_awaiting : (x : Standing) (fault : CallFault) → standing_fault x ≡ Some fault → ¬ (IsAwaiting x)
not_awaiting Absent fault e = λ a. a
not_awaiting Untaken fault e = λ a. a
not_awaiting Told fault e = λ a. a
not_awaiting (Awaiting mode) fault e = absurd (grind (arith, e))

-- every live link goes on
pub all_on : (k : ℕ) (e : LinkEvent) (slots : List (Slot LiveLink)) → places_from live_begins live_after k (AllGoOn e) slots ≡ map (slot_called e) slots
all_on k e [] = refl
all_on k e (s ∷ slots) = ap (λ (rest : List (Slot LiveLink)). slot_called e s ∷ rest) (all_on (suc k) e slots)

module _ (s : SessionState) (id h : ℕ) (x : Standing) (apart : IsApart s) (small : id < 2 ^ 32) (stands : slot_standing id (slot_at s h) ≡ x) (whole : standing_in id s.links ≡ x)
    (none : standing_fault x ≡ None) where
  -- it can settle the id
  pub may_settle : (t : LinkState) → Some t ≡ link_at s h → settle_fault id id (open_set t) ≡ None
  may_settle t at =
      let live = lives (slot_at s h) t at in
      let mode = awaits x none in
      subst (λ (u : LinkState). settle_fault id id (open_set u) ≡ None) (sym live.2)
      (settles_everywhere s id mode.0 apart small (whole ∙ mode.1) h live.0 (found (slice_get s.links h) (Live live.0) live.1 tt))

  -- and does so for all
  pub settled : (t new : LinkState) → s.next_incoming_id < 2 ^ 32 → Some t ≡ link_at s h → new ≡ link_after t (ReceiverSettled id id) → with_link s h new ≡ session_after s (event.Settled id id)
  settled t new short at is =
      let live = lives (slot_at s h) t at in
      let there : slice_get s.links h ≡ Some (Live live.0) = found (slice_get s.links h) (Live live.0) live.1 tt in
      let mode = awaits x none in
      let awaits_it : slot_standing id (Live live.0) ≡ Awaiting mode.0 = ap (slot_standing id) (sym live.1) ∙ stands ∙ mode.1 in
      let once : table_count id s.links ≤ 1 = (let room : one_if (nat_lt id (2 ^ 32)) ≡ 1 = ap one_if (lt-ltb id (2 ^ 32) small) in let most = apart id in omega (arith, most, room)) in
      let window : s.window ≡ s.window + 0 - 0 = omega arith in
      let number : s.next_incoming_id ≡ (s.next_incoming_id + 0) % 2 ^ 32 = omega (arith, short) in
      let links : slice_set s.links h (slot_relinked (slot_at s h) new) ≡ (session_after s (event.Settled id id)).links =
      ap (λ (u : LinkState). slice_set s.links h (slot_relinked (slot_at s h) u)) (is ∙ ap (λ (u : LinkState). link_after u (ReceiverSettled id id)) live.2)
      ∙ ap (λ (y : Slot LiveLink). slice_set s.links h (slot_relinked y (link_after live.0.link (ReceiverSettled id id)))) live.1
      ∙ settled_at id s.links h (Live live.0) small few once there (some_stands id (Live live.0) mode.0 awaits_it) ∙ sym (all_on 0 (ReceiverSettled id id) s.links) in
      ap (λ (ks : List (Slot LiveLink)). record s { links = ks }) links
      ∙ ap (λ (w : ℕ). record { terms = s.terms; window = w; next_incoming_id = s.next_incoming_id; links = (session_after s (event.Settled id id)).links }) window
      ∙ ap (λ (n : ℕ). record { terms = s.terms; window = s.window + 0 - 0; next_incoming_id = n; links = (session_after s (event.Settled id id)).links }) number
    where
      few : (m : ℕ) → 2 ^ 32 ≤ m → table_count m s.links ≡ 0
      few m long = let room : one_if (nat_lt m (2 ^ 32)) ≡ 0 = ap one_if (le-ltb m (2 ^ 32) long) in let most = apart m in omega (arith, most, room)

  -- the session where the link has
  pub has_settled : (new : SessionState) → s.next_incoming_id < 2 ^ 32 → HasSettled s new h id → new ≡ session_after s (event.Settled id id)
  has_settled new short has = has.2 ∙ settled has.0 (link_after has.0 (ReceiverSettled id id)) short has.1 refl
