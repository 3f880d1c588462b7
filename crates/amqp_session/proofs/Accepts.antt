-- A frame without fault, and a call that is not refused, is an event that the session accepts.
use Rattle.std.proofs.Common.{arith, ◌≡◌, ℕ, ◌+◌, ◌^◌, ◌<◌, ◌≤◌, subst, Bool, true, false, not, ◌&&◌, ◌||◌, List, [], length, refl, sym, ap, ◌∙◌, ltb-false, Option, Some, None}
use Rattle.std.specs.Prelude.{is_none, unwrap_or, slice_get, nat_eq, nat_lt, nat_le, if◌then◌else◌}
use Rattle.std.specs.Option.{option_map_or}
use Rattle.std.proofs.lemmas.Bool.{leb-false, eqb-false}
use Rattle.amqp_perform.specs.declared.condition.Condition.{Condition}
use Rattle.amqp_perform.specs.declared.condition.Condition.TheVariants as condition
use Rattle.amqp_perform.specs.Performatives.{is_receiver}
use Rattle.amqp_link.specs.declared.transfer.LinkFault.{LinkFault}
use Rattle.amqp_link.specs.declared.transfer.LinkFault.TheVariants as link_fault
use Rattle.amqp_link.specs.declared.settlement.Standing.{Standing}
use Rattle.amqp_link.specs.declared.settlement.Standing.TheVariants.{Absent, Untaken, Told, Awaiting}
use Rattle.amqp_link.specs.Links.{Sent, Delivery, LinkState, fault_of, is_formed, lacks_credit, is_too_long, is_beyond_credit, first_ready, open_count, ReceiverSettled}
use Rattle.amqp_session.specs.declared.fault.SessionFault.TheVariants as session_fault_of
use Rattle.amqp_session.specs.declared.fault.CallFault.{CallFault}
use Rattle.amqp_session.specs.declared.fault.CallFault.TheVariants as refused
use Rattle.amqp_session.specs.declared.slot.Slot.{Slot}
use Rattle.amqp_session.specs.declared.slot.Slot.TheVariants.{Free, Live, Waits}
use Rattle.amqp_session.specs.declared.terms.SessionTerms.{SessionTerms}
use Rattle.amqp_session.specs.Places.{IsInUse, live_in, life_state}
use Rattle.amqp_perform.specs.Said.{said_frame}
use Rattle.amqp_session.specs.Frames.{Attaching, Flowing, Frame, Attaches, Flows, Transfers, Disposes, Detaches, IsInRange, is_coordinator, attach_said}
use Rattle.amqp_session.specs.Sessions.{LiveLink, SessionState, SessionEvent, SessionMay, IsApart, live_may, slot_at, is_reused, handles}
use Rattle.amqp_session.specs.Histories.{state_of, Sound, part, live_state}
use Rattle.amqp_session.specs.Faults.{or_else, where_so, is_free, attach_fault, handle_fault, named_fault, session_fault, refusal, transfer_fault, attached, attach_event, transfer_event}
use Rattle.amqp_session.specs.Faults.{flow_event, named_event, is_settling, event_of}
use Rattle.amqp_session.specs.Calls.{Call, Widen, Grant, Drain, Take, Settle, SettleRange, Detach, Refuse, SettleWith, SettleRangeWith, reason_fault, range_fault, standing_in, standing_fault, at_link, call_fault, take_event, first_taken, call_event}
use Rattle.amqp_session.specs.Laws.{IsCallInRange}
use Rattle.amqp_session.proofs.Standings.{settles_everywhere}
use Rattle.amqp_session.proofs.RangeMays.{range_ok}
use Rattle.amqp_session.specs.Sessions as event
use Rattle.amqp_link.proofs.Steps.{skip_some}
use Rattle.amqp_session.proofs.Firsts.{neither, not_so}
use Rattle.amqp_session.proofs.Places.{tabulate_long}
use Rattle.amqp_session.proofs.Tables.{present, found}

-- What stands at a handle. ---------------------------------------------------------------------------------------------------

used_of : (x : Slot LiveLink) → is_free x ≡ false → IsInUse x
used_of Free e = absurd (grind (arith, e))
used_of (Live l) e = tt
used_of Waits e = tt

pub free_of : (x : Slot LiveLink) → not (is_free x) ≡ false → x ≡ Free
free_of Free e = refl
free_of (Live l) e = absurd (grind (arith, e))
free_of Waits e = absurd (grind (arith, e))

-- the session has all its handles
abbrev HasHandles : SessionState → Type 0
HasHandles s = length s.links ≡ handles s.terms

moved : (s : SessionState) → nat_eq s.window 0 ≡ false → 1 ≤ s.window
moved s e = let n = eqb-false s.window 0 e in omega (arith, n)

-- Frames. --------------------------------------------------------------------------------------------------------------------

-- the second of three, and the parts of the first fault of an attach
second : {A : Type 0} (b c d : Bool) (x y z : A) → or_else (where_so b x) (or_else (where_so c y) (where_so d z)) ≡ None → (b ≡ false) × (c ≡ false)
second b c d x y z e =
    let one = neither (where_so b x) (or_else (where_so c y) (where_so d z)) e in
    let two = neither (where_so c y) (where_so d z) one.1 in (not_so b x one.0, not_so c y two.0)

pub name_handle : (s : SessionState) (a : Attaching) → attach_fault s a ≡ None → (nat_lt 255 (length a.name) ≡ false) × (not (is_free (slot_at s a.handle)) ≡ false)
name_handle s a e =
    let uncounted = not (is_receiver a.role) && is_none a.initial_delivery_count in
    second (nat_lt 255 (length a.name)) (not (is_free (slot_at s a.handle))) uncounted session_fault_of.ResourceLimit session_fault_of.HandleInUse session_fault_of.InvalidField e

long_ends : (terms : SessionTerms) (a : Attaching) → refusal terms a ≡ None → nat_lt 1024 (length a.source + length a.target) ≡ false
long_ends terms a e =
    let large = nat_lt terms.max_frame_size (length (said_frame 0 (attach_said a.bounds.max_message_size a) [])) in
    let long = nat_lt 1024 (length a.source + length a.target) in
    (second (is_receiver a.role || is_coordinator a.target) long large condition.NotImplemented condition.ResourceLimitExceeded condition.FrameSizeTooSmall e).1

pub window_handle : (s : SessionState) (handle : ℕ) (t : Sent) → session_fault s (Transfers handle t) ≡ None → (nat_eq s.window 0 ≡ false) × (is_free (slot_at s handle) ≡ false)
window_handle s handle t e =
    let one = neither (where_so (nat_eq s.window 0) session_fault_of.WindowViolation) (handle_fault s handle) e in
    (not_so (nat_eq s.window 0) session_fault_of.WindowViolation one.0, not_so (is_free (slot_at s handle)) session_fault_of.UnattachedHandle one.1)

in_use : (s : SessionState) (handle : ℕ) → handle_fault s handle ≡ None → IsInUse (slot_at s handle)
in_use s handle e = used_of (slot_at s handle) (not_so (is_free (slot_at s handle)) session_fault_of.UnattachedHandle e)

attach_ok : (s : SessionState) (a : Attaching) → HasHandles s → IsInRange s.terms.handle_max (Attaches a) → attach_fault s a ≡ None → SessionMay s (attach_event s.terms a)
attach_ok s a t range none = by_refusal (refusal s.terms a) refl
  where
    free_here : slice_get s.links a.handle ≡ Some Free
    free_here = present s.links a.handle (omega (arith, range.0, t)) ∙ ap (λ (x : Slot LiveLink). Some x) (free_of (slot_at s a.handle) (name_handle s a none).1)

    by_refusal : (o : Option Condition) → refusal s.terms a ≡ o → SessionMay s (if is_none o then event.LinkAttached a.handle (attached s.terms a) else event.LinkRefused a.handle)
    by_refusal None e =
        let short = ltb-false 255 (length a.name) (name_handle s a none).0 in
        let ends = ltb-false 1024 (length a.source + length a.target) (long_ends s.terms a e) in (tt, tt, (free_here, record { name = short; ends = ends; count = range.1 }))
    by_refusal (Some c) e = (tt, tt, (Free, free_here, tt))

-- a link's first test is that nothing is resumed
no_resume : (l : LinkState) (t : Sent) → fault_of l t ≡ None → t.resume ≡ false
no_resume l t e =
    let last = if lacks_credit l then Some link_fault.TransferLimit else (if is_too_long l t then Some link_fault.MessageSize else None) in
    (skip_some t.resume link_fault.NotImplemented (if not (is_formed l.terms l.unfinished t) then Some link_fault.InvalidField else last) e).0

pub fresh : (s : SessionState) (l : LinkState) (t : Sent) → transfer_fault s l t ≡ None → (is_reused s l t ≡ false) × (fault_of l t ≡ None)
fresh s l t e =
    let one = skip_some (not t.resume && is_reused s l t) link_fault.InvalidField (fault_of l t) e in
    let three = and_false t.resume (is_reused s l t) (no_resume l t one.1) one.0 in (three, one.1)
  where
    and_false : (a b : Bool) → a ≡ false → not a && b ≡ false → b ≡ false
    and_false true b e f = absurd (grind (arith, e))
    and_false false b e f = f

transfer_ok : (s : SessionState) (handle : ℕ) (t : Sent) → unwrap_or t.delivery_id 0 < 2 ^ 32 → session_fault s (Transfers handle t) ≡ None → (x : Slot LiveLink) → slot_at s handle ≡ x →
    SessionMay s (transfer_event s handle t x)
transfer_ok s handle t small none Free here =
    absurd (subst (λ (y : Slot LiveLink). IsInUse y) here (used_of (slot_at s handle) (window_handle s handle t none).1))
transfer_ok s handle t small none (Live l) here = by_fault (transfer_fault s l.link t) refl
  where
    there : slice_get s.links handle ≡ Some (Live l)
    there = found (slice_get s.links handle) (Live l) here tt

    by_fault : (o : Option LinkFault) → transfer_fault s l.link t ≡ o → SessionMay s (if is_none o then event.TransferCame handle t else event.TransferEnded handle)
    by_fault None e = (
      moved s (window_handle s handle t none).0,
      record { number = small; free = subst (λ (y : Slot LiveLink). option_map_or (λ (m : LiveLink). is_reused s m.link t) (live_in y) false ≡ false) (sym here) (fresh s l.link t e).0 },
      (l, there, (fresh s l.link t e).1),
    )
    by_fault (Some f) e = (moved s (window_handle s handle t none).0, tt, (Live l, there, tt))
transfer_ok s handle t small none Waits here = (moved s (window_handle s handle t none).0, tt, tt)

flow_ok : (s : SessionState) (handle : ℕ) (f : Flowing) → handle_fault s handle ≡ None → (x : Slot LiveLink) → slot_at s handle ≡ x → SessionMay s (flow_event handle f x)
flow_ok s handle f none Free here = absurd (subst (λ (y : Slot LiveLink). IsInUse y) here (in_use s handle none))
flow_ok s handle f none (Live l) here = by_count (is_beyond_credit l.link.delivery_count l.link.credit f.delivery_count) refl
  where
    there : slice_get s.links handle ≡ Some (Live l)
    there = found (slice_get s.links handle) (Live l) here tt

    by_count : (b : Bool) → is_beyond_credit l.link.delivery_count l.link.credit f.delivery_count ≡ b →
        SessionMay s (if b then event.LinkFlowEnded handle f.next_outgoing_id else event.LinkFlowCame handle f.next_outgoing_id f.delivery_count)
    by_count true e = (tt, tt, (Live l, there, tt))
    by_count false e = (tt, tt, (l, there, e))
flow_ok s handle f none Waits here = (tt, tt, tt)

named_ok : (s : SessionState) (f : Flowing) (handle : Option ℕ) → named_fault s handle ≡ None → SessionMay s (named_event s f handle)
named_ok s f None none = (tt, tt, tt)
named_ok s f (Some handle) none = flow_ok s handle f none (slot_at s handle) refl

settled_ok : (s : SessionState) (b : Bool) (first last : ℕ) → SessionMay s (if b then event.PeerSettled first last else event.Ignored)
settled_ok s true first last = (tt, tt, λ place t e. tt)
settled_ok s false first last = (tt, tt, tt)

-- a frame without a fault is an event that the session may take
pub frame_ok : (s : SessionState) (f : Frame) → HasHandles s → IsInRange s.terms.handle_max f → session_fault s f ≡ None → SessionMay s (event_of s f)
frame_ok s (Attaches a) table range none = attach_ok s a table range none
frame_ok s (Flows f) table range none = named_ok s f f.handle none
frame_ok s (Transfers handle t) table range none = transfer_ok s handle t range none (slot_at s handle) refl
frame_ok s (Disposes d) table range none = settled_ok s (is_settling d) _ _
frame_ok s (Detaches handle closed) table range none =
    let used = in_use s handle none in (tt, tt, (slot_at s handle, found (slice_get s.links handle) (slot_at s handle) refl used, used))

-- Calls. ---------------------------------------------------------------------------------------------------------------------

-- where a link is live, a call for it is judged by the link
pub at_live : (x : Slot LiveLink) (test : LinkState → Option CallFault) → at_link x test ≡ None → (l : LiveLink) × (x ≡ Live l) × (test l.link ≡ None)
at_live Free test e = absurd (grind (arith, e))
at_live (Live l) test e = (l, refl, e)
at_live Waits test e = absurd (grind (arith, e))

-- a live link stands in the table at its handle
pub live_at : (s : SessionState) (handle : ℕ) (l : LiveLink) → slot_at s handle ≡ Live l → slice_get s.links handle ≡ Some (Live l)
live_at s handle l here = found (slice_get s.links handle) (Live l) here tt

grant_ok : (s : SessionState) (handle n : ℕ) → call_fault s (Grant handle n) ≡ None → SessionMay s (call_event s (Grant handle n))
grant_ok s handle n none =
    let live = at_live (slot_at s handle) (λ l. where_so (nat_lt l.terms.bounds.allowed (l.credit + open_count l + n)) refused.TooMuchCredit) none in
    let l = live.0 in
    let most = l.link.terms.bounds.allowed in
    let all = l.link.credit + open_count l.link + n in (tt, tt, (l, live_at s handle l live.1, ltb-false most all (not_so (nat_lt most all) refused.TooMuchCredit live.2)))

take_ok : (s : SessionState) (handle : ℕ) → (x : Slot LiveLink) → slot_at s handle ≡ x → at_link x (λ l. where_so (is_none (first_ready l)) refused.NothingReady) ≡ None →
    SessionMay s (take_event handle x)
take_ok s handle Free here none = absurd (grind (arith, none))
take_ok s handle (Live l) here none = first (first_ready l.link) refl
  where
    first : (o : Option Delivery) → first_ready l.link ≡ o → SessionMay s (first_taken handle o)
    first None e = (tt, tt, tt)
    first (Some d) e = (tt, tt, (l, live_at s handle l here, e))
take_ok s handle Waits here none = absurd (grind (arith, none))

-- of the delivery with this id the sender can be told what became of it
pub settle_ok : (s : SessionState) (id : ℕ) → IsApart s → id < 2 ^ 32 → standing_fault (standing_in id s.links) ≡ None → SessionMay s (event.Settled id id)
settle_ok s id apart small none = (tt, tt, by (standing_in id s.links) refl none)
  where
    by : (x : Standing) → standing_in id s.links ≡ x → standing_fault x ≡ None → (k : ℕ) (l : LiveLink) → slice_get s.links k ≡ Some (Live l) → live_may l (ReceiverSettled id id)
    by Absent e none = absurd (grind (arith, none))
    by Untaken e none = absurd (grind (arith, none))
    by Told e none = absurd (grind (arith, none))
    by (Awaiting mode) e none = settles_everywhere s id mode apart small e

-- a link that is live may be left
left_ok : (s : SessionState) (handle : ℕ) → at_link (slot_at s handle) (λ l. None) ≡ None → SessionMay s (event.Detached handle)
left_ok s handle none =
    let live = at_live (slot_at s handle) (λ l. None) none in (tt, tt, (Live live.0, live_at s handle live.0 live.1, tt))

-- so is a call that is not refused
pub call_ok : (s : SessionState) (c : Call) → IsApart s → IsCallInRange c → call_fault s c ≡ None → SessionMay s (call_event s c)
call_ok s (Widen n) apart range none =
    let less = leb-false (2 ^ 31) (s.window + n) (not_so (nat_le (2 ^ 31) (s.window + n)) refused.WindowTooWide none) in (less, tt, tt)
call_ok s (Grant handle n) apart range none = grant_ok s handle n none
call_ok s (Drain handle) apart range none =
    let live = at_live (slot_at s handle) (λ l. None) none in (tt, tt, (live.0, live_at s handle live.0 live.1, tt))
call_ok s (Take handle) apart range none = take_ok s handle (slot_at s handle) refl none
call_ok s (Settle id outcome) apart range none = range_ok s id id none
call_ok s (SettleRange first last outcome) apart range none = range_ok s first last none
call_ok s (Detach handle) apart range none = left_ok s handle none
call_ok s (Refuse handle r) apart range none = left_ok s handle (neither (at_link (slot_at s handle) (λ l. None)) (reason_fault r) none).0
call_ok s (SettleWith id r) apart range none = range_ok s id id (neither (range_fault id id s) (reason_fault r) none).0
call_ok s (SettleRangeWith first last r) apart range none = range_ok s first last (neither (range_fault first last s) (reason_fault r) none).0

-- Of a history. --------------------------------------------------------------------------------------------------------------

-- after any accepted events a frame without a fault is accepted
pub frames_accepted : (terms : SessionTerms) (h : List SessionEvent) (f : Frame) → Sound terms h → IsInRange terms.handle_max f → session_fault (state_of terms h) f ≡ None →
    SessionMay (state_of terms h) (event_of (state_of terms h) f)
frames_accepted terms h f sound range none = frame_ok (state_of terms h) f (tabulate_long 0 (handles terms) (λ handle. life_state live_state (part handle h))) range none

-- so is a call that is not refused
pub calls_accepted : (terms : SessionTerms) (h : List SessionEvent) (c : Call) → Sound terms h → IsCallInRange c → call_fault (state_of terms h) c ≡ None →
    SessionMay (state_of terms h) (call_event (state_of terms h) c)
calls_accepted terms h c sound range none = call_ok (state_of terms h) c sound.apart range none
