-- The calls of an endpoint with one link are turns of the message level.
use Rattle.std.proofs.Common.{◌≡◌, ℕ, suc, ◌+◌, ◌^◌, ◌<◌, ◌≤◌, Bool, true, false, cond, ltb, leb, eqb, List, [], ◌∷◌, ◌++◌, Option, Some, None, refl, sym, ap, subst, ◌∙◌, arith}
use Rattle.std.specs.Prelude.{is_none, slice_get, unwrap_or}
use Rattle.std.proofs.lemmas.Bool.{le-leb, lt-ltb}
use Rattle.amqp_link.specs.Links.{Delivery, LinkState, LinkEvent, Granted, DrainAsked, HandedUp as Gives, ReceiverSettled, open_count, first_ready, link_after}
use Rattle.amqp_perform.specs.Said.{Said}
use Rattle.amqp_session.specs.declared.fault.CallFault as session_fault
use Rattle.amqp_session.specs.declared.fault.CallFault.TheVariants as of_session
use Rattle.amqp_session.specs.declared.slot.Slot.{Slot}
use Rattle.amqp_session.specs.declared.slot.Slot.TheVariants.{Free, Live}
use Rattle.amqp_session.specs.Calls as call
use Rattle.amqp_session.specs.Calls.{at_link, settles_at_once, standing_in}
use Rattle.amqp_session.specs.Faults.{where_so, or_else, slot_flow, link_flow, session_flow}
use Rattle.amqp_session.specs.Frames.{flow_said, link_flow_said}
use Rattle.amqp_session.specs.Places.{Nothing, GoesOn, AllGoOn, live_in, places_after}
use Rattle.amqp_session.specs.Sessions.{SessionState, SessionEvent, LiveLink, live_after, session_begins, session_after, Widened, Called, Settled}
use Rattle.amqp_endpoint.specs.Calls.{call_fault, dead_fault, at_session, of_option, full_fault, writes, slot_event, slot_spoken}
use Rattle.amqp_endpoint.specs.Connections.{ConnectionState, InSession, connection_after, slot_at}
use Rattle.amqp_endpoint.specs.Replies.{on_channel}
use Rattle.amqp_endpoint.specs.Runs.{handed_of, handed, link_handed, accepted_answer}
use Rattle.amqp_pair.specs.Called.{flow_speaks, IsFlowCalled, GrantLaw, WidenLaw, DrainLaw, TakeLaw, SettleLaw}
use Rattle.amqp_pair.specs.Stands.{Stands, StandsLaw}
use Rattle.amqp_pair.specs.World.{World, Turn, Grant, Widen, Drain, Take, Settle, happens, flows, takes, flow_of, Plain, Inv}
use Rattle.amqp_pair.proofs.Acted.{at_channel, at_handle, stands_as, free_still}

-- Why a call is accepted. -----------------------------------------------------------------------------------------------

first_none : {A : Type 0} (a b : Option A) → or_else a b ≡ None → (a ≡ None) × (b ≡ None)
first_none None b e = (refl, e)
first_none (Some x) b e = absurd (cc e)

no_option : (f : Option session_fault.CallFault) → of_option f ≡ None → f ≡ None
no_option None e = refl
no_option (Some f) e = absurd (cc e)

no_fault : (s : ConnectionState) (w : World) (a : Stands s w) (unsent : List ℕ) (c : call.Call) → call_fault s unsent 0 c ≡ None → call.call_fault a.session c ≡ None
no_fault s w a unsent c e =
    let behind = (first_none (dead_fault s) (or_else (at_session (slot_at s 0) c) (cond (writes c) (full_fault unsent) None)) e).1 in
    let own = (first_none (at_session (slot_at s 0) c) (cond (writes c) (full_fault unsent) None) behind).0 in
    no_option (call.call_fault a.session c) (ap (λ (q : Slot SessionState). at_session q c) (sym (at_channel s w a)) ∙ own)

not_so : {A : Type 0} (b : Bool) (x : A) → where_so b x ≡ None → b ≡ false
not_so true x e = absurd (cc e)
not_so false x e = refl

not_less : (a b : ℕ) → ltb a b ≡ false → b ≤ a
not_less a b e = grind (arith, e)

not_least : (a b : ℕ) → leb a b ≡ false → b < a
not_least a b e = grind (arith, e)

-- What it writes. -------------------------------------------------------------------------------------------------------

says : (s : ConnectionState) (w : World) (a : Stands s w) (c : call.Call) → slot_spoken 0 (slot_at s 0) c ≡ on_channel 0 (call.call_answer a.session c)
says s w a c = ap (λ (q : Slot SessionState). slot_spoken 0 q c) (at_channel s w a)

event_is : (s : ConnectionState) (w : World) (a : Stands s w) (c : call.Call) → slot_event 0 (slot_at s 0) c ≡ InSession 0 (call.call_event a.session c)
event_is s w a c = ap (λ (q : Slot SessionState). slot_event 0 q c) (at_channel s w a)

-- the flow of the link, as it stands then
flow_is : (s : ConnectionState) (w : World) (a : Stands s w) → link_flow a.session 0 ≡ flow_speaks (flow_of w true) ∷ []
flow_is s w a =
    ap (λ (q : Slot LiveLink). slot_flow a.session 0 q) (at_handle s w a)
    ∙ ap (λ (l : LinkState). link_flow_said a.session.next_incoming_id a.session.window 0 l.delivery_count l.credit l.draining ∷ []) a.same
    ∙ ap (λ (n : ℕ). link_flow_said n a.session.window 0 w.link.delivery_count w.link.credit w.link.draining ∷ []) a.next
    ∙ ap (λ (n : ℕ). link_flow_said w.next n 0 w.link.delivery_count w.link.credit w.link.draining ∷ []) a.places

session_flow_is : (s : ConnectionState) (w : World) (a : Stands s w) → session_flow a.session ≡ flow_speaks (flow_of w false)
session_flow_is s w a = ap (λ (n : ℕ). flow_said n a.session.window) a.next ∙ ap (λ (n : ℕ). flow_said w.next n) a.places

-- the session that stands then is the one after the event
session_is : (s : ConnectionState) (w v : World) (e : SessionEvent) (a : Stands s w) (b : Stands (connection_after s (InSession 0 e)) v) → b.session ≡ session_after a.session e
session_is s w v e a b =
    let p : Live b.session ≡ Live (session_after a.session e) =
    sym (at_channel (connection_after s (InSession 0 e)) v b) ∙ ap (λ (z : List (Slot SessionState)). unwrap_or (slice_get (places_after session_begins session_after z (GoesOn 0 e)) 0) Free) a.sessions in
    ap (λ (q : Slot SessionState). unwrap_or (live_in q) a.session) p

module _ (stand : StandsLaw) where
  -- a call for the link
  on_link : (s : ConnectionState) (w : World) (x : Plain) (a : Stands s w) (i : Inv w x) (e : LinkEvent) (v : World) → v.link ≡ link_after w.link e → v.places ≡ w.places → v.next ≡ w.next
      → (b : Stands (connection_after s (InSession 0 (Called 0 e))) v) × (b.session ≡ session_after a.session (Called 0 e))
  on_link s w x a i e v l p n =
      let b : Stands (connection_after s (InSession 0 (Called 0 e))) v =
      stands_as _ _ v (ap (λ (z : LinkState). link_after z e) a.same ∙ sym l) (omega (arith, p)) (omega (arith, n, i.end_next))
      (stand s w (Called 0 e) (GoesOn 0 e) (live_after a.link e) a refl refl (λ k. free_still (eqb 0 (suc k)))) in
      (b, session_is s w v (Called 0 e) a b)

  flow_called : (s : ConnectionState) (w v : World) (x : Plain) (a : Stands s w) (i : Inv w x) (c : call.Call) (e : LinkEvent) (turn : Turn) → call.call_event a.session c ≡ Called 0 e
      → call.call_answer a.session c ≡ link_flow (session_after a.session (Called 0 e)) 0 → happens w turn ≡ flows v true → v.link ≡ link_after w.link e → v.places ≡ w.places → v.next ≡ w.next → v.to_sender ≡ w.to_sender
      → IsFlowCalled s c w turn true
  flow_called s w v x a i c e turn is answer goes l p n same =
      let b = on_link s w x a i e (flows v true) l p n in
      record {
        called = record {
          event = Called 0 e;
          is = event_is s w a c ∙ ap (λ (z : SessionEvent). InSession 0 z) is;
          stands = subst (λ (z : World). Stands (connection_after s (InSession 0 (Called 0 e))) z) (sym goes) b.0;
          spoken = says s w a c ∙ ap (λ (z : List Said). on_channel 0 z) (answer ∙ sym (ap (λ (t : SessionState). link_flow t 0) b.1) ∙ flow_is _ (flows v true) b.0
              ∙ ap (λ (z : World). flow_speaks (flow_of z true) ∷ []) (sym goes));
        };
        on_way = ap (λ (z : World). z.to_sender) goes ∙ ap (λ z. z ++ flow_of v true ∷ []) same ∙ ap (λ (z : World). w.to_sender ++ flow_of z true ∷ []) (sym goes);
      }

  pub grants : GrantLaw
  grants s w x unsent n a i e =
      let v : World = record w { link = link_after w.link (Granted n) } in
      let none : where_so (ltb a.link.link.terms.bounds.allowed (a.link.link.credit + open_count a.link.link + n)) of_session.TooMuchCredit ≡ None =
      ap (λ (q : Slot LiveLink). at_link q (λ l. where_so (ltb l.terms.bounds.allowed (l.credit + open_count l + n)) of_session.TooMuchCredit)) (sym (at_handle s w a)) ∙ no_fault s w a unsent (call.Grant 0 n) e in
      let fits : w.link.credit + open_count w.link + n ≤ w.link.terms.bounds.allowed =
      subst (λ (l : LinkState). l.credit + open_count l + n ≤ l.terms.bounds.allowed) a.same (not_less a.link.link.terms.bounds.allowed (a.link.link.credit + open_count a.link.link + n) (not_so _ of_session.TooMuchCredit none)) in
      flow_called s w v x a i (call.Grant 0 n) (Granted n) (Grant n) refl refl (ap (λ (b : Bool). cond b (flows v true) w) (le-leb _ _ fits)) refl refl refl refl

  pub drains : DrainLaw
  drains s w x unsent a i e = flow_called s w (record w { link = link_after w.link DrainAsked }) x a i (call.Drain 0) DrainAsked Drain refl refl refl refl refl refl refl

  pub widens : WidenLaw
  widens s w x unsent n a i e =
      let v : World = record w { places = w.places + n } in
      let fits : a.session.window + n < 2 ^ 31 = not_least (2 ^ 31) (a.session.window + n) (not_so _ of_session.WindowTooWide (no_fault s w a unsent (call.Widen n) e)) in
      let goes : happens w (Widen n) ≡ flows v false = ap (λ (b : Bool). cond b (flows v false) w) (lt-ltb (w.places + n) (2 ^ 31) (omega (arith, fits, a.places))) in
      let b : Stands (connection_after s (InSession 0 (Widened n))) (flows v false) =
      stands_as _ _ (flows v false) a.same (omega arith) (omega (arith, i.end_next)) (stand s w (Widened n) Nothing a.link a refl refl (λ k. refl)) in
      record {
        called = record {
          event = Widened n;
          is = event_is s w a (call.Widen n);
          stands = subst (λ (z : World). Stands (connection_after s (InSession 0 (Widened n))) z) (sym goes) b;
          spoken = says s w a (call.Widen n) ∙ ap (λ (z : Said). on_channel 0 (z ∷ [])) (ap session_flow (sym (session_is s w (flows v false) (Widened n) a b)) ∙ session_flow_is _ (flows v false) b ∙ ap (λ (z : World). flow_speaks (flow_of z false)) (sym goes));
        };
        on_way = ap (λ (z : World). z.to_sender) goes ∙ ap (λ (z : World). w.to_sender ++ flow_of z false ∷ []) (sym goes);
      }

  pub settles : SettleLaw
  settles s w x unsent id outcome a i e = record {
    settled = settles_at_once (standing_in id a.session.links);
    called = record {
      event = Settled id id;
      is = event_is s w a (call.Settle id outcome);
      stands = stands_as _ _ (happens w (Settle id)) (ap (λ (z : LinkState). link_after z (ReceiverSettled id id)) a.same) (omega arith) (omega (arith, i.end_next))
          (stand s w (Settled id id) (AllGoOn (ReceiverSettled id id)) (live_after a.link (ReceiverSettled id id)) a refl refl (λ k. refl));
      spoken = says s w a (call.Settle id outcome);
    };
  }

  first : (ds : List Delivery) → where_so (is_none (slice_get ds 0)) of_session.NothingReady ≡ None → (d : Delivery) × (rest : List Delivery) × (ds ≡ d ∷ rest)
  first [] e = absurd (cc e)
  first (d ∷ ds) e = (d, ds, refl)

  pub gives : TakeLaw
  gives s w x unsent a i e =
      let none : where_so (is_none (slice_get a.link.link.ready 0)) of_session.NothingReady ≡ None =
      ap (λ (q : Slot LiveLink). at_link q (λ l. where_so (is_none (first_ready l)) of_session.NothingReady)) (sym (at_handle s w a)) ∙ no_fault s w a unsent (call.Take 0) e in
      let f = first a.link.link.ready none in
      let d : Delivery = f.0 in
      let mine : w.link.ready ≡ d ∷ f.1 = ap (λ (l : LinkState). l.ready) (sym a.same) ∙ f.2 in
      let goes : happens w Take ≡ takes w (d ∷ f.1) = ap (λ (ds : List Delivery). takes w ds) mine in
      let is_first : first_ready a.link.link ≡ Some d = ap (λ (ds : List Delivery). slice_get ds 0) f.2 in
      let b = on_link s w x a i (Gives d) (takes w (d ∷ f.1)) refl refl refl in
      record {
        called = record {
          event = Called 0 (Gives d);
          is = event_is s w a (call.Take 0)
              ∙ ap (λ (z : SessionEvent). InSession 0 z) (ap (λ (q : Slot LiveLink). call.take_event 0 q) (at_handle s w a) ∙ ap (λ (z : Option Delivery). call.first_taken 0 z) is_first);
          stands = subst (λ (z : World). Stands (connection_after s (InSession 0 (Called 0 (Gives d)))) z) (sym goes) b.0;
          spoken = says s w a (call.Take 0);
        };
        handed = handed_of d;
        answer = ap (λ (q : Slot SessionState). accepted_answer q (call.Take 0)) (at_channel s w a) ∙ ap link_handed (at_handle s w a) ∙ ap handed is_first;
        given = ap (λ (z : World). z.given) goes;
      }
