-- A session as its parts: what stands at its handles, and what each event makes of the parts.
use Rattle.std.proofs.Common.{arith, ◌≡◌, ℕ, ◌+◌, ◌-◌, ◌%◌, ◌^◌, ◌<◌, ◌≤◌, subst, Bool, true, false, not, ◌&&◌, List, [], ◌∷◌, length, map, refl, sym, ap, ◌∙◌, Option, Some, None, get_or}
use Rattle.std.specs.Prelude.{slice_get, slice_set, unwrap_or, sum_by, is_none, if◌then◌else◌}
use Rattle.std.proofs.lemmas.Option.{slice_get_past}
use Rattle.std.proofs.lemmas.Bool.{le-ltb}
use Rattle.std.proofs.lemmas.List.{length-set}
use Rattle.amqp_perform.specs.declared.condition.Condition.{Condition}
use Rattle.amqp_perform.specs.Performatives.{is_receiver}
use Rattle.amqp_link.specs.Links.{LinkState, FlowStated, SenderSettled, is_beyond_credit}
use Rattle.amqp_session.specs.declared.fault.SessionFault.TheVariants as fault
use Rattle.amqp_session.specs.declared.report.Report.{Report}
use Rattle.amqp_session.specs.declared.report.Report.TheVariants as told
use Rattle.amqp_session.specs.declared.slot.Slot.{Slot}
use Rattle.amqp_session.specs.declared.slot.Slot.TheVariants.{Free, Live, Waits}
use Rattle.amqp_session.specs.declared.terms.SessionTerms.{SessionTerms}
use Rattle.amqp_session.specs.Places.{Begins, Leaves, live_in}
use Rattle.amqp_perform.specs.Said.{Said}
use Rattle.amqp_session.specs.Frames.{link_flow_said, Attaching, Flowing, Attaches, Flows}
use Rattle.amqp_link.specs.Histories.{one_if}
use Rattle.amqp_session.specs.Sessions.{LiveLink, live_begins, live_after, SessionState, SessionEvent, handles, happens, is_transfer, widened_by, stated_by, session_after, slot_at}
use Rattle.amqp_session.specs.Sessions.{session_begins}
use Rattle.amqp_session.specs.Sessions as event
use Rattle.amqp_session.specs.Faults.{is_free, handle_fault, session_fault, attached, attach_event, flow_event, named_event, event_of}
use Rattle.amqp_session.specs.Faults.{report_of, named_report, flow_report, refusal, attach_fault, or_else, where_so, slot_flow, link_flow, named_fault, attach_report}
use Rattle.amqp_session.specs.Slots.{padded, session_of, IsReached, is_live, at_place, slot_flowed, slot_called}
use Rattle.amqp_session.specs.Indexes.{IsEnded, IsEndedAt}
use Rattle.amqp_session.specs.Slots.{IsStated, IsFlowTold, stated_of}
use Rattle.amqp_session.specs.declared.state.LinkStated.{LinkStated}
use Rattle.amqp_session.specs.Links.{slot_relinked, with_link}
use Rattle.amqp_session.proofs.Padded.{From, padded_set, padded_get, padded_sum, padded_long, padded_none, none_after, begins_at, goes_on_at, leaves_at, gone_at}
use Rattle.amqp_session.proofs.Padded.{all_after}
use Rattle.amqp_session.proofs.Tables.{there, put_again}

-- a number of 32 bits
stays : (n : ℕ) → n < 2 ^ 32 → (n + 0) % 2 ^ 32 ≡ n
stays n l = omega (arith, l)

unmoved : (w : ℕ) → w + 0 - 0 ≡ w
unmoved w = omega arith

-- the link that ended at a place is that at its handle
pub ended_in : (s : SessionState) (h : ℕ) (x : Slot LiveLink) (r : Report) (ended : Option LiveLink) → slot_at s h ≡ x → IsEndedAt h x r ended → IsEnded s r ended
ended_in s h x told.Nothing ended at is = tt
ended_in s h x (told.Attached handle) ended at is = tt
ended_in s h x (told.Unfinished handle) ended at is = tt
ended_in s h x (told.Ready handle) ended at is = tt
ended_in s h x (told.Aborted handle) ended at is = tt
ended_in s h x (told.Drained handle) ended at is = tt
ended_in s h x (told.Settled count) ended at is = tt
ended_in s h x (told.Detached handle dropped) ended at is = tt
ended_in s h x (told.Failed handle condition dropped) ended at is = is.1 ∙ ap live_in (sym at) ∙ ap (λ (k : ℕ). live_in (slot_at s k)) (sym is.0)

module _ (terms : SessionTerms) (w n : ℕ) (slots : List (Slot LiveLink)) (s : SessionState) (view : session_of terms w n slots ≡ s) (reached : IsReached terms slots) where
  -- what stands at a handle that was reached, and at another
  pub slot_is : (h : ℕ) (x : Slot LiveLink) → x ≡ get_or slots h x → h < length slots → slot_at s h ≡ x
  slot_is h x e l =
      subst (λ (t : SessionState). slot_at t h ≡ x) view (padded_get (handles terms) slots h reached.reached ∙ ap (λ (o : Option (Slot LiveLink)). unwrap_or o Free) (there slots h x e l))

  pub slot_past : (h : ℕ) → length slots ≤ h → slot_at s h ≡ Free
  slot_past h l =
      subst (λ (t : SessionState). slot_at t h ≡ Free) view (padded_get (handles terms) slots h reached.reached ∙ ap (λ (o : Option (Slot LiveLink)). unwrap_or o Free) (slice_get_past slots h l))

  -- what stands at each
  pub slots_are : (h : ℕ) → slot_at s h ≡ at_place slots h
  slots_are h = subst (λ (t : SessionState). slot_at t h ≡ at_place slots h) view (padded_get (handles terms) slots h reached.reached)

  abbrev parts : ℕ → ℕ → List (Slot LiveLink) → SessionState
  parts a b ls = record { terms = terms; window = a; next_incoming_id = b; links = ls }

  pub after_is : (e : SessionEvent) (w2 n2 : ℕ) (slots2 : List (Slot LiveLink)) → w + widened_by e - one_if (is_transfer e) ≡ w2 →
      (unwrap_or (stated_by e) n + one_if (is_transfer e)) % 2 ^ 32 ≡ n2 → From 0 (happens e) (padded (handles terms) slots) ≡ padded (handles terms) slots2 →
      session_of terms w2 n2 slots2 ≡ session_after s e
  after_is e w2 n2 slots2 a b c =
      subst (λ (t : SessionState). session_of terms w2 n2 slots2 ≡ session_after t e) view (
      ap (λ (m : ℕ). parts m n2 (padded (handles terms) slots2)) (sym a)
      ∙ ap (λ (m : ℕ). parts (w + widened_by e - one_if (is_transfer e)) m (padded (handles terms) slots2)) (sym b)
      ∙ ap (λ (ls : List (Slot LiveLink)). parts (w + widened_by e - one_if (is_transfer e)) ((unwrap_or (stated_by e) n + one_if (is_transfer e)) % 2 ^ 32) ls) (sym c))

  -- nothing happens
  pub ignored : n < 2 ^ 32 → s ≡ session_after s event.Ignored
  ignored l = sym view ∙ after_is event.Ignored w n slots (unmoved w) (stays n l) (none_after (padded (handles terms) slots))

  -- a detach of this side
  pub left : (h : ℕ) (x new : Slot LiveLink) → n < 2 ^ 32 → x ≡ get_or slots h x → h < length slots → new ≡ Waits → session_of terms w n (slice_set slots h new) ≡ session_after s (event.Detached h)
  left h x new l at within is =
      ap (λ (y : Slot LiveLink). session_of terms w n (slice_set slots h y)) is
      ∙ after_is (event.Detached h) w n (slice_set slots h Waits) (unmoved w) (stays n l) (leaves_at (handles terms) slots h x (there slots h x at within) reached.reached)

  -- and of the peer
  pub gone : (h : ℕ) (x : Slot LiveLink) → n < 2 ^ 32 → slice_get slots h ≡ Some x → session_of terms w n (slice_set slots h Free) ≡ session_after s (event.PeerDetached h)
  gone h x l at = after_is (event.PeerDetached h) w n (slice_set slots h Free) (unmoved w) (stays n l) (gone_at (handles terms) slots h x at reached.reached)

  -- more places for the window
  pub widened : (k : ℕ) → n < 2 ^ 32 → session_of terms (w + k) n slots ≡ session_after s (event.Widened k)
  widened k l = after_is (event.Widened k) (w + k) n slots (omega arith) (stays n l) (none_after (padded (handles terms) slots))

  -- a settle of ids, by the sender and by the receiver
  pub peer_settled : (first last : ℕ) (slots2 : List (Slot LiveLink)) → n < 2 ^ 32 → slots2 ≡ map (slot_called (SenderSettled first last)) slots →
      session_of terms w n slots2 ≡ session_after s (event.PeerSettled first last)
  peer_settled first last slots2 l is =
      after_is (event.PeerSettled first last) w n slots2 (unmoved w) (stays n l) (all_after (handles terms) (SenderSettled first last) slots ∙ ap (padded (handles terms)) (sym is))

  -- a flow of the session
  pub flowed : (f : Flowing) → f.handle ≡ None → f.next_outgoing_id < 2 ^ 32 → session_of terms w f.next_outgoing_id slots ≡ session_after s (event_of s (Flows f))
  flowed f none l =
      after_is (event.FlowCame f.next_outgoing_id) w f.next_outgoing_id slots (unmoved w) (stays f.next_outgoing_id l) (none_after (padded (handles terms) slots))
      ∙ ap (λ (o : Option ℕ). session_after s (named_event s f o)) (sym none)

  -- and of a link
  pub link_flowed : (f : Flowing) (h : ℕ) (x new : Slot LiveLink) → f.handle ≡ Some h → f.next_outgoing_id < 2 ^ 32 → x ≡ get_or slots h x → h < length slots → is_live x ≡ true →
      new ≡ slot_flowed f x → session_of terms w f.next_outgoing_id (slice_set slots h new) ≡ session_after s (event_of s (Flows f))
  link_flowed f h x new named l at within live is =
      ap (λ (y : Slot LiveLink). session_of terms w f.next_outgoing_id (slice_set slots h y)) is ∙ by_slot x at live
      ∙ ap (λ (y : Slot LiveLink). session_after s (flow_event h f y)) (sym (slot_is h x at within)) ∙ ap (λ (o : Option ℕ). session_after s (named_event s f o)) (sym named)
    where
      by_slot : (x : Slot LiveLink) → x ≡ get_or slots h x → is_live x ≡ true → session_of terms w f.next_outgoing_id (slice_set slots h (slot_flowed f x)) ≡ session_after s (flow_event h f x)
      by_slot Free at live = absurd (grind (arith, live))
      by_slot (Live l0) at live = by_test (is_beyond_credit l0.link.delivery_count l0.link.credit f.delivery_count)
        where
          by_test : (b : Bool) → session_of terms w f.next_outgoing_id (slice_set slots h (if b then Waits else Live (live_after l0 (FlowStated f.delivery_count)))) ≡ session_after s
              (if b then event.LinkFlowEnded h f.next_outgoing_id else event.LinkFlowCame h f.next_outgoing_id f.delivery_count)
          by_test true =
              after_is (event.LinkFlowEnded h f.next_outgoing_id) w f.next_outgoing_id (slice_set slots h Waits) (unmoved w) (stays f.next_outgoing_id l)
              (leaves_at (handles terms) slots h (Live l0) (there slots h (Live l0) at within) reached.reached)
          by_test false =
              after_is (event.LinkFlowCame h f.next_outgoing_id f.delivery_count) w f.next_outgoing_id (slice_set slots h (Live (live_after l0 (FlowStated f.delivery_count)))) (unmoved w)
              (stays f.next_outgoing_id l) (goes_on_at (handles terms) slots h (FlowStated f.delivery_count) (Live l0) (there slots h (Live l0) at within) reached.reached)
      by_slot Waits at live = absurd (grind (arith, live))

  pub handle_free : (h : ℕ) (x : Slot LiveLink) → slot_at s h ≡ x → is_free x ≡ true → handle_fault s h ≡ Some fault.UnattachedHandle
  handle_free h x at free = ap (λ (y : Slot LiveLink). where_so (is_free y) fault.UnattachedHandle) at ∙ ap (λ (b : Bool). where_so b fault.UnattachedHandle) free

  pub handle_used : (h : ℕ) (x : Slot LiveLink) → slot_at s h ≡ x → is_free x ≡ false → handle_fault s h ≡ None
  handle_used h x at used = ap (λ (y : Slot LiveLink). where_so (is_free y) fault.UnattachedHandle) at ∙ ap (λ (b : Bool). where_so b fault.UnattachedHandle) used

-- the flow that states what a link is
pub flow_is : (s : SessionState) (h : ℕ) (x : Slot LiveLink) (stated : LinkStated) (said : Said) → slot_at s h ≡ x → IsStated x stated →
    said ≡ link_flow_said s.next_incoming_id s.window h stated.delivery_count stated.link_credit stated.drain → link_flow s h ≡ said ∷ []
flow_is s h x stated said at is same = ap (λ (y : Slot LiveLink). slot_flow s h y) at ∙ by_slot x is
  where
    by_slot : (x : Slot LiveLink) → IsStated x stated → slot_flow s h x ≡ said ∷ []
    by_slot Free is = absurd is
    by_slot (Live l) is =
        ap (λ (z : LinkStated). link_flow_said s.next_incoming_id s.window h z.delivery_count z.link_credit z.drain ∷ []) (sym is) ∙ ap (λ (y : Said). y ∷ []) (sym same)
    by_slot Waits is = absurd is

-- Standings. -----------------------------------------------------------------------------------------------------------------

module _ (terms : SessionTerms) (w n : ℕ) (slots : List (Slot LiveLink)) (s : SessionState) (view : session_of terms w n slots ≡ s) (reached : IsReached terms slots) where
  -- another state of the link at a handle that was reached
  pub relinked_at : (h : ℕ) (x : Slot LiveLink) (u : LinkState) → x ≡ get_or slots h x → h < length slots → session_of terms w n (slice_set slots h (slot_relinked x u)) ≡ with_link s h u
  relinked_at h x u at low =
      subst (λ (t : SessionState). session_of terms w n (slice_set slots h (slot_relinked x u)) ≡ with_link t h u) view (
      ap (λ (ls : List (Slot LiveLink)). record { terms = terms; window = w; next_incoming_id = n; links = ls })
      (sym (padded_set (handles terms) slots h x (slot_relinked x u) (there slots h x at low) reached.reached)
      ∙ ap (λ (y : Slot LiveLink). slice_set (padded (handles terms) slots) h (slot_relinked y u))
      (sym (slot_is terms w n slots (session_of terms w n slots) refl reached h x at low))))

  -- sums over what was reached
  pub sum_is : (f : Slot LiveLink → ℕ) → f Free ≡ 0 → sum_by f s.links ≡ sum_by f slots
  sum_is f free = subst (λ (t : SessionState). sum_by f t.links ≡ sum_by f slots) view (padded_sum f (handles terms) slots free reached.reached)

  pub long_is : length s.links ≡ handles s.terms
  long_is = subst (λ (t : SessionState). length t.links ≡ handles t.terms) view (padded_long (handles terms) slots)

  pub place_is : (h : ℕ) → slot_at s h ≡ at_place slots h
  place_is h = subst (λ (t : SessionState). slot_at t h ≡ at_place slots h) view (padded_get (handles terms) slots h reached.reached)

  -- a flow that is dropped
  pub flow_dropped : (f : Flowing) (h : ℕ) (x new : Slot LiveLink) → f.handle ≡ Some h → n < 2 ^ 32 → x ≡ get_or slots h x → h < length slots → x ≡ Waits → new ≡ slot_flowed f x →
      session_of terms w n (slice_set slots h new) ≡ session_after s (event_of s (Flows f))
  flow_dropped f h x new named l at within waits is =
      let same : new ≡ x = is ∙ ap (slot_flowed f) waits ∙ sym waits in
      ap (λ (y : Slot LiveLink). session_of terms w n (slice_set slots h y)) same
      ∙ ap (session_of terms w n) (put_again slots h x (there slots h x at within)) ∙ view ∙ ignored terms w n slots s view reached l
      ∙ ap (λ (y : Slot LiveLink). session_after s (flow_event h f y)) (sym (slot_is terms w n slots s view reached h x at within ∙ waits))
      ∙ ap (λ (o : Option ℕ). session_after s (named_event s f o)) (sym named)

  pub flow_kept : (h : ℕ) (x new : Slot LiveLink) → x ≡ get_or slots h x → h < length slots → new ≡ x → session_of terms w n (slice_set slots h new) ≡ s
  flow_kept h x new at within same =
      ap (λ (y : Slot LiveLink). session_of terms w n (slice_set slots h y)) same ∙ ap (session_of terms w n) (put_again slots h x (there slots h x at within)) ∙ view

  pub flow_accepted : (f : Flowing) (h : ℕ) (x : Slot LiveLink) → f.handle ≡ Some h → x ≡ get_or slots h x → h < length slots → is_free x ≡ false → session_fault s (Flows f) ≡ None
  flow_accepted f h x named at within used = ap (named_fault s) named ∙ handle_used terms w n slots s view reached h x (slot_is terms w n slots s view reached h x at within) used

  pub flow_refused : (f : Flowing) (h : ℕ) (x : Slot LiveLink) → f.handle ≡ Some h → slot_at s h ≡ x → is_free x ≡ true → session_fault s (Flows f) ≡ Some fault.UnattachedHandle
  flow_refused f h x named at free = ap (named_fault s) named ∙ handle_free terms w n slots s view reached h x at free

  pub flow_told : (f : Flowing) (h : ℕ) (x : Slot LiveLink) (report : Report) → f.handle ≡ Some h → x ≡ get_or slots h x → h < length slots → report ≡ flow_report h f x → report ≡ report_of s (Flows f)
  flow_told f h x report named at within is =
      is ∙ ap (λ (y : Slot LiveLink). flow_report h f y) (sym (slot_is terms w n slots s view reached h x at within)) ∙ ap (λ (o : Option ℕ). named_report s f o) (sym named)

-- what slots tell of a flow
pub told_none : (h : ℕ) (f : Flowing) (x : Slot LiveLink) → IsFlowTold h f x None → x ≡ Waits
told_none h f Free e = absurd e
told_none h f (Live l) e = absurd (grind (arith, e))
told_none h f Waits e = refl

-- a flow that tells something found a live link
pub told_some : (h : ℕ) (f : Flowing) (x : Slot LiveLink) (report : Report) → IsFlowTold h f x (Some report) → (is_live x ≡ true) × (report ≡ flow_report h f x)
told_some h f Free report e = absurd e
told_some h f (Live l) report e = (refl, grind (arith, e))
told_some h f Waits report e = absurd (grind (arith, e))

-- a live handle is in use
pub live_used : (x : Slot LiveLink) → is_live x ≡ true → is_free x ≡ false
live_used Free e = absurd (grind (arith, e))
live_used (Live l) e = refl
live_used Waits e = absurd (grind (arith, e))

-- a flow leaves a free one
pub free_kept : (f : Flowing) (x : Slot LiveLink) → is_free x ≡ true → slot_flowed f x ≡ x
free_kept f Free e = refl
free_kept f (Live l) e = absurd (grind (arith, e))
free_kept f Waits e = absurd (grind (arith, e))

-- a session at its begin
pub begins_is : (terms : SessionTerms) (slots : List (Slot LiveLink)) → slots ≡ [] → session_of terms terms.incoming_window terms.next_outgoing_id slots ≡ session_begins terms
begins_is terms slots none =
    ap (session_of terms terms.incoming_window terms.next_outgoing_id) none
    ∙ ap (λ (ls : List (Slot LiveLink)). record { terms = terms; window = terms.incoming_window; next_incoming_id = terms.next_outgoing_id; links = ls }) (padded_none 0 (handles terms))

-- no flow of a link that is not live
pub no_flow : (s : SessionState) (h : ℕ) (x : Slot LiveLink) → slot_at s h ≡ x → ((stated : LinkStated) → IsStated x stated → ⊥) → link_flow s h ≡ []
no_flow s h x at none = ap (λ (y : Slot LiveLink). slot_flow s h y) at ∙ by_slot x none
  where
    by_slot : (x : Slot LiveLink) → ((stated : LinkStated) → IsStated x stated → ⊥) → slot_flow s h x ≡ []
    by_slot Free none = refl
    by_slot (Live l) none = absurd (none (stated_of l.link) refl)
    by_slot Waits none = refl

-- the fault of an attach, by its three tests
pub attach_tested : (s : SessionState) (a : Attaching) (x : Slot LiveLink) (c d : Bool) → length a.name ≤ 255 → slot_at s a.handle ≡ x → is_free x ≡ c →
    (not (is_receiver a.role) && is_none a.initial_delivery_count) ≡ d → attach_fault s a ≡ or_else (where_so (not c) fault.HandleInUse) (where_so d fault.InvalidField)
attach_tested s a x c d short at free lacks =
    ap (λ (b : Bool). or_else (where_so b fault.ResourceLimit) (or_else (where_so (not (is_free (slot_at s a.handle))) fault.HandleInUse)
    (where_so (not (is_receiver a.role) && is_none a.initial_delivery_count) fault.InvalidField))) (le-ltb 255 (length a.name) short)
    ∙ ap (λ (b : Bool). or_else (where_so (not b) fault.HandleInUse) (where_so (not (is_receiver a.role) && is_none a.initial_delivery_count) fault.InvalidField)) (ap is_free at ∙ free)
    ∙ ap (λ (b : Bool). or_else (where_so (not c) fault.HandleInUse) (where_so b fault.InvalidField)) lacks

-- An attach, where the table was grown to its handle. -------------------------------------------------------------------------

module _ (terms : SessionTerms) (w n : ℕ) (slots : List (Slot LiveLink)) (s : SessionState) (view : session_of terms w n slots ≡ s) (reached : IsReached terms slots) (slots1 : List (Slot LiveLink))
    (same : (m : ℕ) → padded m slots1 ≡ padded m slots) where
  terms_are : terms ≡ s.terms
  terms_are = ap (λ (t : SessionState). t.terms) view

  -- nothing has changed
  pub grown : session_of terms w n slots1 ≡ s
  grown = ap (λ (ls : List (Slot LiveLink)). record { terms = terms; window = w; next_incoming_id = n; links = ls }) (same (handles terms)) ∙ view

  pub attached_there : (a : Attaching) (x new : Slot LiveLink) → n < 2 ^ 32 → x ≡ get_or slots1 a.handle x → a.handle < length slots1 → length slots1 ≤ handles terms → refusal terms a ≡ None →
      new ≡ Live (live_begins (attached terms a)) → session_of terms w n (slice_set slots1 a.handle new) ≡ session_after s (event_of s (Attaches a))
  attached_there a x new l at within most none is =
      ap (λ (y : Slot LiveLink). session_of terms w n (slice_set slots1 a.handle y)) is
      ∙ after_is terms w n slots s view reached (event.LinkAttached a.handle (attached terms a)) w n (slice_set slots1 a.handle (Live (live_begins (attached terms a)))) (unmoved w) (stays n l)
      (ap (From 0 (Begins a.handle (attached terms a))) (sym (same (handles terms))) ∙ begins_at (handles terms) slots1 a.handle (attached terms a) x (there slots1 a.handle x at within) most)
      ∙ ap (λ (o : Option Condition). session_after s (if is_none o then event.LinkAttached a.handle (attached terms a) else event.LinkRefused a.handle)) (sym none)
      ∙ ap (λ (t : SessionTerms). session_after s (attach_event t a)) terms_are

  pub refused_there : (a : Attaching) (x : Slot LiveLink) (condition : Condition) → n < 2 ^ 32 → x ≡ get_or slots1 a.handle x → a.handle < length slots1 → length slots1 ≤ handles terms →
      refusal terms a ≡ Some condition → session_of terms w n (slice_set slots1 a.handle Waits) ≡ session_after s (event_of s (Attaches a))
  refused_there a x condition l at within most some =
      after_is terms w n slots s view reached (event.LinkRefused a.handle) w n (slice_set slots1 a.handle Waits) (unmoved w) (stays n l)
      (ap (From 0 (Leaves a.handle)) (sym (same (handles terms))) ∙ leaves_at (handles terms) slots1 a.handle x (there slots1 a.handle x at within) most)
      ∙ ap (λ (o : Option Condition). session_after s (if is_none o then event.LinkAttached a.handle (attached terms a) else event.LinkRefused a.handle)) (sym some)
      ∙ ap (λ (t : SessionTerms). session_after s (attach_event t a)) terms_are

  pub attach_told : (a : Attaching) (o : Option Condition) → refusal terms a ≡ o → attach_report a.handle o ≡ report_of s (Attaches a)
  attach_told a o is = ap (attach_report a.handle) (sym is) ∙ ap (λ (t : SessionTerms). attach_report a.handle (refusal t a)) terms_are

-- tables that were grown, or changed at a place
pub reached_more : (terms : SessionTerms) (slots slots1 : List (Slot LiveLink)) → IsReached terms slots → length slots1 ≤ handles terms → IsReached terms slots1
reached_more terms slots slots1 reached most = record { reached = most; handles = reached.handles }

-- a change at one handle leaves every other within the handles offered
pub reached_set : (terms : SessionTerms) (slots : List (Slot LiveLink)) (h : ℕ) (x : Slot LiveLink) → IsReached terms slots → IsReached terms (slice_set slots h x)
reached_set terms slots h x reached = record { reached = omega (arith, reached.reached, length-set slots h x); handles = reached.handles }
