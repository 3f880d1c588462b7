-- The words of a sender are acted upon as on the message level.
use Rattle.std.proofs.Common.{◌≡◌, ℕ, zero, suc, ◌^◌, ◌<◌, ◌&&◌, ◌||◌, Bool, true, false, cond, eqb, List, [], ◌∷◌, Option, Some, None, refl, sym, ap, subst, ◌∙◌, arith}
use Rattle.std.specs.Prelude.{is_none, unwrap_or, slice_get}
use Rattle.std.specs.List.{list_any}
use Rattle.amqp_link.specs.declared.transfer.LinkFault.{LinkFault}
use Rattle.amqp_link.specs.declared.transfer.Step.{Step}
use Rattle.amqp_link.specs.declared.transfer.Step.TheVariants as step
use Rattle.amqp_link.specs.Links.{Sent, LinkState, Transferred, FlowStated, deliveries, has_id, fault_of, step_of, is_beyond_credit, is_drained, link_after}
use Rattle.amqp_session.specs.declared.slot.Slot.{Slot}
use Rattle.amqp_session.specs.declared.slot.Slot.TheVariants.{Free, Live}
use Rattle.amqp_session.specs.Faults.{step_report}
use Rattle.amqp_session.specs.Frames.{Transfers, Flows}
use Rattle.amqp_session.specs.Places.{GoesOn}
use Rattle.amqp_session.specs.Sessions as session
use Rattle.amqp_session.specs.Sessions.{SessionState, LiveLink, live_after, slot_has, is_open_id, is_reused, TransferCame, LinkFlowCame}
use Rattle.amqp_endpoint.specs.declared.event.Event.TheVariants as told
use Rattle.amqp_endpoint.specs.Connections.{ConnectionState, slot_at}
use Rattle.amqp_endpoint.specs.Lines.{Line, SessionFrame, line_of, report_told}
use Rattle.amqp_endpoint.specs.Replies.{joined}
use Rattle.amqp_endpoint.specs.Traces.{failure_in}
use Rattle.amqp_send.specs.declared.flow_state.FlowState.{FlowState}
use Rattle.amqp_pair.specs.Acted.{GoesOnAs, ActedLaw}
use Rattle.amqp_pair.specs.Reading.{FlowLaw, TransferLaw, TakenLaw, HeededLaw, flowing_of, sent_by}
use Rattle.amqp_pair.specs.Stands.{AreFree, Stands, StandsLaw}
use Rattle.amqp_pair.specs.Words.{Sends, Answers, unit_in, IsRight}
use Rattle.amqp_pair.specs.World.{World, Frame, Plain, Inv, StepLaw, To_end, happens, acts, fails, judged, takes_in, counts, id_open, first_sent, later_sent}

-- What stands at channel 0, and at handle 0. ---------------------------------------------------------------------------

pub at_channel : (s : ConnectionState) (w : World) (a : Stands s w) → slot_at s 0 ≡ Live a.session
at_channel s w a = ap (λ (z : List (Slot SessionState)). unwrap_or (slice_get z 0) Free) a.sessions

pub at_handle : (s : ConnectionState) (w : World) (a : Stands s w) → session.slot_at a.session 0 ≡ Live a.link
at_handle s w a = ap (λ (z : List (Slot LiveLink)). unwrap_or (slice_get z 0) Free) a.links

pub stands_as : (s : ConnectionState) (w v : World) → w.link ≡ v.link → w.places ≡ v.places → w.next ≡ v.next → Stands s w → Stands s v
stands_as s w v l p n a = record {
  opened = a.opened;
  session = a.session;
  others = a.others;
  sessions = a.sessions;
  link = a.link;
  frees = a.frees;
  links = a.links;
  free = a.free;
  same = a.same ∙ l;
  places = a.places ∙ p;
  next = a.next ∙ n;
}

-- What the message level finds no fault in. ----------------------------------------------------------------------------

pub record IsFine (w : World) (t : Sent) (used : Bool) : Type 0 where
  pub place : eqb w.places 0 ≡ false
  pub new : used ≡ false
  pub fault : fault_of w.link t ≡ None

fine_by : (w : World) (q : List Frame) (t : Sent) (none used : Bool) (fault : Option LinkFault) → (cond none (fails w) (cond used (fails w) (judged w q t fault))).failed ≡ false → (none ≡ false) × (used ≡ false) × (fault ≡ None)
fine_by w q t true used fault e = absurd (cc e)
fine_by w q t false true fault e = absurd (cc e)
fine_by w q t false false (Some f) e = absurd (cc e)
fine_by w q t false false None e = (refl, refl, refl)

is_fine : (w : World) (q : List Frame) (t : Sent) (used : Bool) → (takes_in w q t used).failed ≡ false → IsFine w t used
is_fine w q t used e =
    let f : (eqb w.places 0 ≡ false) × (used ≡ false) × (fault_of w.link t ≡ None) = fine_by w q t (eqb w.places 0) used (fault_of w.link t) e in
    record { place = f.0; new = f.1; fault = f.2 }

taken_in : (w : World) (q : List Frame) (t : Sent) (used : Bool) → IsFine w t used → takes_in w q t used ≡ judged w q t None
taken_in w q t used f =
    ap (λ (b : Bool). cond b (fails w) (cond used (fails w) (judged w q t (fault_of w.link t)))) f.place
    ∙ ap (λ (b : Bool). cond b (fails w) (judged w q t (fault_of w.link t))) f.new ∙ ap (λ (z : Option LinkFault). judged w q t z) f.fault

some : (n : ℕ) → eqb n 0 ≡ false → 0 < n
some zero e = absurd (cc e)
some (suc n) e = omega arith

-- Ids. ------------------------------------------------------------------------------------------------------------------

none_free : (id : ℕ) (slots : List (Slot LiveLink)) → AreFree slots → list_any (slot_has id) slots ≡ false
none_free id [] a = refl
none_free id (s ∷ slots) a = ap (λ (q : Slot LiveLink). slot_has id q || list_any (slot_has id) slots) a.0 ∙ none_free id slots a.1

or_false : (b c : Bool) → c ≡ false → (b || c) ≡ b
or_false true c e = refl
or_false false c e = e

and_false : (a b : Bool) → b ≡ false → (a && b) ≡ false
and_false true b e = e
and_false false b e = refl

open_id : (s : ConnectionState) (w : World) (a : Stands s w) (id : ℕ) → is_open_id a.session id ≡ list_any (has_id id) (deliveries w.link)
open_id s w a id =
    ap (λ (z : List (Slot LiveLink)). list_any (slot_has id) z) a.links ∙ or_false (slot_has id (Live a.link)) (list_any (slot_has id) a.frees) (none_free id a.frees a.free)
    ∙ ap (λ (l : LinkState). list_any (has_id id) (deliveries l)) a.same

not_reused : (s : ConnectionState) (w : World) (a : Stands s w) (id : ℕ) (p : List ℕ) (m : Bool) → id_open w.link id ≡ false → is_reused a.session a.link.link (first_sent id p m) ≡ false
not_reused s w a id p m e = ap (λ (b : Bool). is_none a.link.link.unfinished && b) (open_id s w a id) ∙ ap (λ (l : LinkState). is_none l.unfinished && list_any (has_id id) (deliveries w.link)) a.same ∙ e

-- A line. ---------------------------------------------------------------------------------------------------------------

step_fine : (s : Step) → failure_in (report_told 0 (step_report 0 s)) ≡ None
step_fine step.Unfinished = refl
step_fine step.Ready = refl
step_fine step.Aborted = refl

drained_fine : (b : Bool) → failure_in (cond b (Some (told.Drained 0 0)) None) ≡ None
drained_fine true = refl
drained_fine false = refl

pub free_still : (b : Bool) → cond {A = Slot LiveLink} b Free Free ≡ Free
free_still true = refl
free_still false = refl

module _ (stand : StandsLaw) (takes : TakenLaw) (heeds : HeededLaw) where
  -- a transfer in which there is no fault
  transfer : (s : ConnectionState) (w : World) (a : Stands s w) (q : List Frame) (t : Sent) (used : Bool) → is_reused a.session a.link.link t ≡ false → IsFine w t used
      → GoesOnAs s (SessionFrame 0 a.session (Transfers 0 t)) (judged w q t None)
  transfer s w a q t used new fine =
      let k = takes s a.session a.link t (at_handle s w a) new (ap (λ (l : LinkState). fault_of l t) a.same ∙ fine.fault) in
      record {
        event = TransferCame 0 t;
        is = k.event;
        stands = stands_as _ _ (judged w q t None) (ap (λ (l : LinkState). link_after l (Transferred t)) a.same) (omega arith) refl
            (stand s w (TransferCame 0 t) (GoesOn 0 (Transferred t)) (live_after a.link (Transferred t)) a refl refl (λ k. free_still (eqb 0 (suc k))));
        told = ap failure_in k.told ∙ step_fine (step_of t);
        reply = ap joined k.reply;
      }

  flow : (s : ConnectionState) (w : World) (a : Stands s w) (q : List Frame) (f : FlowState) → f.next_outgoing_id < 2 ^ 32 → is_beyond_credit w.link.delivery_count w.link.credit (Some f.delivery_count) ≡ false
      → GoesOnAs s (SessionFrame 0 a.session (Flows (flowing_of f))) (record w { to_end = q; link = link_after w.link (FlowStated (Some f.delivery_count)); next = f.next_outgoing_id })
  flow s w a q f few fine =
      let k = heeds s a.session a.link f (at_handle s w a) (ap (λ (l : LinkState). is_beyond_credit l.delivery_count l.credit (Some f.delivery_count)) a.same ∙ fine) in
      record {
        event = LinkFlowCame 0 f.next_outgoing_id (Some f.delivery_count);
        is = k.event;
        stands = stands_as _ _ (record w { to_end = q; link = link_after w.link (FlowStated (Some f.delivery_count)); next = f.next_outgoing_id })
            (ap (λ (l : LinkState). link_after l (FlowStated (Some f.delivery_count))) a.same) (omega arith) (omega (arith, few))
            (stand s w (LinkFlowCame 0 f.next_outgoing_id (Some f.delivery_count)) (GoesOn 0 (FlowStated (Some f.delivery_count))) (live_after a.link (FlowStated (Some f.delivery_count))) a refl refl (λ k. free_still (eqb 0 (suc k))));
        told = ap failure_in k.told ∙ drained_fine (is_drained a.link.link (Some f.delivery_count));
        reply = ap joined k.reply;
      }

  module _ (flows : FlowLaw) (transfers : TransferLaw) (step : StepLaw) where
    -- nothing fails on the message level
    never : (w : World) (x : Plain) → Inv w x → (happens w To_end).failed ≡ false
    never w x i = (step w x To_end tt i).1.fine

    moved : (s : ConnectionState) (line other : Line) (w v : World) → other ≡ line → v ≡ w → GoesOnAs s line w → GoesOnAs s other v
    moved s line other w v e f g = subst (λ (z : Line). GoesOnAs s z v) (sym e) (subst (λ (z : World). GoesOnAs s line z) (sym f) g)

    sends : (s : ConnectionState) (w : World) (most : ℕ) (lt : most < 2 ^ 32) (a : Stands s w) (q : List Frame) (id : ℕ) (begun more : Bool) (payload : List ℕ) (used : Bool) → IsRight most (Sends id begun more payload)
        → is_reused a.session a.link.link (sent_by id begun more payload) ≡ false → IsFine w (sent_by id begun more payload) used
        → (line : Line) × (line_of s (unit_in (Sends id begun more payload)) ≡ line) × GoesOnAs s line (judged w q (sent_by id begun more payload) None)
    sends s w most lt a q id begun more payload used right new fine = (
      SessionFrame 0 a.session (Transfers 0 (sent_by id begun more payload)),
      transfers s a.session a.link id begun more payload a.opened (at_channel s w a) (at_handle s w a) (omega (arith, some w.places fine.place, a.places)) right.0 (omega (arith, right.1, lt)),
      transfer s w a q (sent_by id begun more payload) used new fine,
    )

    pub acted : ActedLaw
    acted s w x most (Sends id false more payload) q lt a i e right =
        let world : happens w To_end ≡ takes_in w q (first_sent id payload more) (id_open w.link id) = ap (λ (z : List Frame). acts w z) e in
        let fine = is_fine w q (first_sent id payload more) (id_open w.link id) (ap (λ (v : World). v.failed) (sym world) ∙ never w x i) in
        let r = sends s w most lt a q id false more payload (id_open w.link id) right (not_reused s w a id payload more fine.new) fine in
        moved s r.0 _ _ _ r.1 (world ∙ taken_in w q (first_sent id payload more) (id_open w.link id) fine) r.2
    acted s w x most (Sends id true more payload) q lt a i e right =
        let world : happens w To_end ≡ takes_in w q (later_sent payload more) false = ap (λ (z : List Frame). acts w z) e in
        let fine = is_fine w q (later_sent payload more) false (ap (λ (v : World). v.failed) (sym world) ∙ never w x i) in
        let r = sends s w most lt a q id true more payload false right (and_false (is_none a.link.link.unfinished) false refl) fine in
        moved s r.0 _ _ _ r.1 (world ∙ taken_in w q (later_sent payload more) false fine) r.2
    acted s w x most (Answers f drain) q lt a i e right =
        let world : happens w To_end ≡ counts w q f.delivery_count f.next_outgoing_id = ap (λ (z : List Frame). acts w z) e in
        let fine = heeded (is_beyond_credit w.link.delivery_count w.link.credit (Some f.delivery_count)) (ap (λ (v : World). v.failed) (sym world) ∙ never w x i) in
        moved s (SessionFrame 0 a.session (Flows (flowing_of f))) _ _ _
        (flows s a.session a.link f drain a.opened (at_channel s w a) (at_handle s w a) right.0 right.1 right.2 (omega (arith, right.3, lt)))
        (world ∙ ap (λ (b : Bool). cond b (fails w) (record w { to_end = q; link = link_after w.link (FlowStated (Some f.delivery_count)); next = f.next_outgoing_id })) fine)
        (flow s w a q f right.1 fine)
      where
        heeded : (b : Bool) → (cond b (fails w) (record w { to_end = q; link = link_after w.link (FlowStated (Some f.delivery_count)); next = f.next_outgoing_id })).failed ≡ false → b ≡ false
        heeded true e = absurd (cc e)
        heeded false e = refl
