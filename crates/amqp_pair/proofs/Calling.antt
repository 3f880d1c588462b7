-- What the calls of an endpoint come to, at each stage of its opening.
use Rattle.std.proofs.Common.{◌≡◌, ℕ, zero, suc, ◌+◌, ◌^◌, ◌<◌, ◌≤◌, Bool, true, false, cond, leb, List, [], ◌∷◌, ◌++◌, map, Option, Some, None, refl, sym, ap, subst, ◌∙◌, arith, append-nil}
use Rattle.std.specs.Prelude.{slice_get, unwrap_or}
use Rattle.std.proofs.lemmas.Bool.{lt-ltb}
use Rattle.amqp_link.specs.Links.{Delivery, link_after, Granted, DrainAsked}
use Rattle.amqp_perform.specs.declared.outcome.Outcome.{Outcome}
use Rattle.amqp_perform.specs.Said.{said_frame}
use Rattle.amqp_session.specs.declared.fault.CallFault as session_fault
use Rattle.amqp_session.specs.declared.fault.CallFault.TheVariants as of_session
use Rattle.amqp_session.specs.declared.slot.Slot.{Slot}
use Rattle.amqp_session.specs.declared.slot.Slot.TheVariants.{Free, Live, Waits}
use Rattle.amqp_link.specs.declared.settlement.Standing.TheVariants as standing
use Rattle.amqp_session.specs.Calls as call
use Rattle.amqp_session.specs.Calls.{at_link, is_absent, standing_in, slot_standing, or_later, range_fault, is_behind, slot_names_untaken, slot_names_told, slot_names_first, slot_names_second}
use Rattle.amqp_session.specs.Faults.{where_so, or_else}
use Rattle.amqp_session.specs.Frames.{flow_said}
use Rattle.amqp_session.specs.Places.{Nothing, GoesOn, places_from, places_after}
use Rattle.amqp_session.specs.Sessions.{LiveLink, SessionState, SessionEvent, Widened, live_begins, live_after, session_begins, session_after}
use Rattle.amqp_session.specs.Sessions as session
use Rattle.amqp_endpoint.specs.declared.fault.CallFault.{CallFault}
use Rattle.amqp_endpoint.specs.declared.fault.CallFault.TheVariants as refused
use Rattle.amqp_endpoint.specs.Calls.{call_fault, call_event, call_spoken, dead_fault, at_session, of_option, fault_of_session, full_fault, writes, slot_event, slot_spoken}
use Rattle.amqp_endpoint.specs.Configs.{Configured}
use Rattle.amqp_endpoint.specs.Connections.{ConnectionState, ConnectionEvent, InSession, connection_after, slot_at}
use Rattle.amqp_endpoint.specs.Replies.{joined}
use Rattle.amqp_endpoint.specs.Runs as of_endpoint
use Rattle.amqp_endpoint.specs.Runs.{Handed, HandedUp, accepted_answer}
use Rattle.amqp_send.specs.Sendings.{SendTerms}
use Rattle.amqp_pair.specs.Attached.{HasBegun}
use Rattle.amqp_pair.specs.Called.{flow_speaks, IsCalled}
use Rattle.amqp_pair.specs.Items.{Far, AwaitsHeader, AwaitsOpen, AwaitsBegin, AwaitsAttach, Goes, States, Disposes, IsStated}
use Rattle.amqp_pair.specs.Paired.{IsUnattached, IsFar}
use Rattle.amqp_pair.specs.Stands.{AreFree, Stands}
use Rattle.amqp_pair.specs.World.{World, Turn, Grant, Widen, Drain, Take, Settle, happens, flows, takes, flow_of, Plain, Inv}
use Rattle.amqp_pair.proofs.Below.{Below}
use Rattle.amqp_pair.proofs.Becoming.{Becomes, free_kept}

-- Refusals. ---------------------------------------------------------------------------------------------------------------

refused_by : (d m rest : Option CallFault) (f : CallFault) → m ≡ Some f → or_else d (or_else m rest) ≡ None → ⊥
refused_by None m rest f is e = let k : Some f ≡ None = ap (λ (z : Option CallFault). or_else z rest) (sym is) ∙ e in absurd (cc k)
refused_by (Some d) m rest f is e = absurd (cc e)

-- no session lives there
unbegun_refuses : (s : ConnectionState) (others : List (Slot SessionState)) (unsent : List ℕ) (c : call.Call) → s.sessions ≡ Free ∷ others → call_fault s unsent 0 c ≡ None → ⊥
unbegun_refuses s others unsent c e none =
    let free : slot_at s 0 ≡ Free = ap (λ (z : List (Slot SessionState)). unwrap_or (slice_get z 0) Free) e in
    refused_by (dead_fault s) (at_session (slot_at s 0) c) (cond (writes c) (full_fault unsent) None) refused.NoSession (ap (λ (q : Slot SessionState). at_session q c) free) none

-- the session refuses
session_refuses : (s : ConnectionState) (t : SessionState) (unsent : List ℕ) (c : call.Call) (f : session_fault.CallFault) → slot_at s 0 ≡ Live t → call.call_fault t c ≡ Some f → call_fault s unsent 0 c ≡ None → ⊥
session_refuses s t unsent c f live fault none =
    refused_by (dead_fault s) (at_session (slot_at s 0) c) (cond (writes c) (full_fault unsent) None) (fault_of_session f)
    (ap (λ (q : Slot SessionState). at_session q c) live ∙ ap of_option fault) none

accepts_by : (s : ConnectionState) (t : SessionState) (unsent : List ℕ) (c : call.Call) (o : Option session_fault.CallFault) → slot_at s 0 ≡ Live t → call.call_fault t c ≡ o → call_fault s unsent 0 c ≡ None → o ≡ None
accepts_by s t unsent c None live is none = refl
accepts_by s t unsent c (Some f) live is none = absurd (session_refuses s t unsent c f live is none)

not_so : {A : Type 0} (b : Bool) (x : A) → where_so b x ≡ None → b ≡ false
not_so true x e = absurd (cc e)
not_so false x e = refl

not_least : (a b : ℕ) → leb a b ≡ false → b < a
not_least a b e = grind (arith, e)

-- no delivery is open where no link lives
none_stands : (id : ℕ) (slots : List (Slot LiveLink)) → AreFree slots → standing_in id slots ≡ standing.Absent
none_stands id [] a = refl
none_stands id (s ∷ slots) a = ap (λ (q : Slot LiveLink). or_later (slot_standing id q) (standing_in id slots)) a.0 ∙ none_stands id slots a.1

channel_is : (s : ConnectionState) (others : List (Slot SessionState)) (first : Slot SessionState) → s.sessions ≡ first ∷ others → slot_at s 0 ≡ first
channel_is s others first e = ap (λ (z : List (Slot SessionState)). unwrap_or (slice_get z 0) Free) e

handle_is : (t : SessionState) (others : List (Slot LiveLink)) (first : Slot LiveLink) → t.links ≡ first ∷ others → session.slot_at t 0 ≡ first
handle_is t others first e = ap (λ (z : List (Slot LiveLink)). unwrap_or (slice_get z 0) Free) e

-- What is said. -------------------------------------------------------------------------------------------------------------

pub stated : (v : World) (y : Plain) (b : Bool) → Inv v y → IsStated (flow_of v b)
stated v y b i = record { next = omega (arith, i.end_next); window = omega (arith, i.narrow); count = omega (arith, i.end_count); credit = omega (arith, i.within, i.few); quiet = refl }

-- nothing but the link, the window and the flows has changed
record Stayed (w v : World) : Type 0 where
  pub sender : v.sender ≡ w.sender
  pub to_end : v.to_end ≡ w.to_end
  pub given : v.given ≡ w.given
  pub offered : v.offered ≡ w.offered
  pub terms_are : v.link.terms ≡ w.link.terms

stayed_if : (b : Bool) (w v : World) → Stayed w v → Stayed w (cond b v w)
stayed_if true w v s = s
stayed_if false w v s = record { sender = refl; to_end = refl; given = refl; offered = refl; terms_are = refl }

record Took (w v : World) : Type 0 where
  pub sender : v.sender ≡ w.sender
  pub to_end : v.to_end ≡ w.to_end
  pub to_sender : v.to_sender ≡ w.to_sender
  pub offered : v.offered ≡ w.offered
  pub terms_are : v.link.terms ≡ w.link.terms

took : (w : World) (ds : List Delivery) → Took w (takes w ds)
took w [] = record { sender = refl; to_end = refl; to_sender = refl; offered = refl; terms_are = refl }
took w (d ∷ ds) = record { sender = refl; to_end = refl; to_sender = refl; offered = refl; terms_are = refl }

-- An accepted call at one stage.
abbrev pub CallBecomes : Configured → SendTerms → ConnectionState → World → Far → call.Call → List (List ℕ) → Type 0
CallBecomes config terms s w e c handed = Becomes config terms (connection_after s (call_event s 0 c)) w w.to_end e e (joined (call_spoken s 0 c)) handed

-- a take, with what it hands up
pub record TakeBecomes (config : Configured) (terms : SendTerms) (s : ConnectionState) (w : World) (e : Far) : Type 0 where
  pub handed : Handed
  pub answer : accepted_answer (slot_at s 0) (call.Take 0) ≡ HandedUp handed
  pub becomes : CallBecomes config terms s w e (call.Take 0) (handed.message ∷ [])

module _ (law : Below) (config : Configured) (terms : SendTerms) (s : ConnectionState) (w : World) (x : Plain) (i : Inv w x) (unsent : List ℕ) where
  -- Behind the attach. --------------------------------------------------------------------------------------------------------

  with_flow : (c : call.Call) (turn : Turn) (of_link : Bool) → (y : Plain) → Inv (happens w turn) y → Stayed w (happens w turn) → IsCalled s c (happens w turn) (flow_speaks (flow_of (happens w turn) of_link) ∷ [])
      → (happens w turn).to_sender ≡ w.to_sender ++ flow_of (happens w turn) of_link ∷ [] → CallBecomes config terms s w Goes c []
  with_flow c turn of_link y j stayed k on_way = record {
    world = happens w turn;
    plain = y;
    replies = States (flow_of (happens w turn) of_link) ∷ [];
    far = subst (λ (z : ConnectionEvent). Stands (connection_after s z) (happens w turn)) (sym k.is) k.stands;
    written = ap joined k.spoken;
    leads = (refl, refl);
    said = (stated (happens w turn) y of_link j, tt);
    sender = stayed.sender;
    to_end = stayed.to_end;
    to_sender = on_way;
    given = stayed.given ∙ sym (append-nil w.given);
    offered = stayed.offered;
    terms_are = stayed.terms_are;
    sound = j;
  }

  grant_goes : (n : ℕ) → Stands s w → call_fault s unsent 0 (call.Grant 0 n) ≡ None → CallBecomes config terms s w Goes (call.Grant 0 n) []
  grant_goes n a none =
      let k = law.grants s w x unsent n a i none in
      let y = law.step w x (Grant n) tt i in
      with_flow (call.Grant 0 n) (Grant n) true y.0 y.1
      (stayed_if (leb (w.link.credit + Rattle.amqp_link.specs.Links.open_count w.link + n) w.link.terms.bounds.allowed) w (flows (record w { link = link_after w.link (Granted n) }) true)
      (record { sender = refl; to_end = refl; given = refl; offered = refl; terms_are = refl })) k.called k.on_way

  widen_goes : (n : ℕ) → Stands s w → call_fault s unsent 0 (call.Widen n) ≡ None → CallBecomes config terms s w Goes (call.Widen n) []
  widen_goes n a none =
      let k = law.widens s w x unsent n a i none in
      let y = law.step w x (Widen n) tt i in
      with_flow (call.Widen n) (Widen n) false y.0 y.1
      (stayed_if (Rattle.std.proofs.Common.ltb (w.places + n) (2 ^ 31)) w (flows (record w { places = w.places + n }) false) (record { sender = refl; to_end = refl; given = refl; offered = refl; terms_are = refl })) k.called k.on_way

  drain_goes : Stands s w → call_fault s unsent 0 (call.Drain 0) ≡ None → CallBecomes config terms s w Goes (call.Drain 0) []
  drain_goes a none =
      let k = law.drains s w x unsent a i none in
      let y = law.step w x Drain tt i in
      with_flow (call.Drain 0) Drain true y.0 y.1 (record { sender = refl; to_end = refl; given = refl; offered = refl; terms_are = refl }) k.called k.on_way

  settle_goes : (id : ℕ) (outcome : Outcome) → id < 2 ^ 32 → Stands s w → call_fault s unsent 0 (call.Settle id outcome) ≡ None → CallBecomes config terms s w Goes (call.Settle id outcome) []
  settle_goes id outcome few a none =
      let k = law.settles s w x unsent id outcome a i none in
      let y = law.step w x (Settle id) tt i in
      record {
        world = happens w (Settle id);
        plain = y.0;
        replies = Disposes id k.settled outcome ∷ [];
        far = subst (λ (z : ConnectionEvent). Stands (connection_after s z) (happens w (Settle id))) (sym k.called.is) k.called.stands;
        written = ap joined k.called.spoken;
        leads = (refl, refl);
        said = (few, tt);
        sender = refl;
        to_end = refl;
        to_sender = sym (append-nil w.to_sender);
        given = sym (append-nil w.given);
        offered = refl;
        terms_are = refl;
        sound = y.1;
      }

  take_goes : Stands s w → call_fault s unsent 0 (call.Take 0) ≡ None → TakeBecomes config terms s w Goes
  take_goes a none =
      let k = law.takes s w x unsent a i none in
      let y = law.step w x Take tt i in
      let t : Took w (happens w Take) = took w w.link.ready in
      record {
        handed = k.handed;
        answer = k.answer;
        becomes = record {
          world = happens w Take;
          plain = y.0;
          replies = [];
          far = subst (λ (z : ConnectionEvent). Stands (connection_after s z) (happens w Take)) (sym k.called.is) k.called.stands;
          written = ap joined k.called.spoken;
          leads = refl;
          said = tt;
          sender = t.sender;
          to_end = t.to_end;
          to_sender = t.to_sender ∙ sym (append-nil w.to_sender);
          given = k.given;
          offered = t.offered;
          terms_are = t.terms_are;
          sound = y.1;
        };
      }

  -- Between the begin and the attach. -------------------------------------------------------------------------------------------

  widen_begun : (n : ℕ) → IsUnattached config terms s w → call_fault s unsent 0 (call.Widen n) ≡ None → CallBecomes config terms s w AwaitsAttach (call.Widen n) []
  widen_begun n u none =
      let b : HasBegun s w = u.begun in
      let t : SessionState = session_after b.session (Widened n) in
      let live : slot_at s 0 ≡ Live b.session = channel_is s b.others (Live b.session) b.sessions in
      let own = accepts_by s b.session unsent (call.Widen n) (call.call_fault b.session (call.Widen n)) live refl none in
      let fits : b.session.window + n < 2 ^ 31 = not_least (2 ^ 31) (b.session.window + n) (not_so _ of_session.WindowTooWide own) in
      let v : World = record w { places = w.places + n } in
      let goes : happens w (Widen n) ≡ flows v false = ap (λ (z : Bool). cond z (flows v false) w) (lt-ltb (w.places + n) (2 ^ 31) (omega (arith, fits, b.places))) in
      let k = law.step w x (Widen n) tt i in
      let j : Inv (flows v false) k.0 = subst (λ (z : World). Inv z k.0) goes k.1 in
      let next : t.next_incoming_id ≡ w.next = omega (arith, b.next, i.end_next) in
      let places : t.window ≡ w.places + n = omega (arith, b.places) in
      let event : call_event s 0 (call.Widen n) ≡ InSession 0 (Widened n) = ap (λ (q : Slot SessionState). slot_event 0 q (call.Widen n)) live in
      let begun : HasBegun (connection_after s (InSession 0 (Widened n))) (flows v false) = record {
        opened = b.opened;
        session = t;
        others = places_from session_begins session_after 1 (GoesOn 0 (Widened n)) b.others;
        sessions = ap (λ (z : List (Slot SessionState)). places_after session_begins session_after z (GoesOn 0 (Widened n))) b.sessions;
        frees = places_from live_begins live_after 1 Nothing b.frees;
        links = ap (λ (z : List (Slot LiveLink)). places_after live_begins live_after z Nothing) b.links;
        free = free_kept b.frees 1 b.free;
        size = b.size;
        places = places;
        next = next;
      } in
      record {
        world = flows v false;
        plain = k.0;
        replies = States (flow_of v false) ∷ [];
        far = subst (λ (z : ConnectionEvent). IsUnattached config terms (connection_after s z) (flows v false)) (sym event) (record { begun = begun; link = u.link });
        written = ap (λ (q : Slot SessionState). joined (slot_spoken 0 q (call.Widen n))) live ∙ ap (λ (m : ℕ). said_frame 0 (flow_said m t.window) [] ++ []) next
            ∙ ap (λ (m : ℕ). said_frame 0 (flow_said w.next m) [] ++ []) places;
        leads = (refl, refl);
        said = (stated (flows v false) k.0 false j, tt);
        sender = refl;
        to_end = refl;
        to_sender = refl;
        given = sym (append-nil w.given);
        offered = refl;
        terms_are = refl;
        sound = j;
      }

  -- the link is not there
  no_link : (u : IsUnattached config terms s w) (c : call.Call) (test : Rattle.amqp_link.specs.Links.LinkState → Option session_fault.CallFault) → call.call_fault u.begun.session c ≡ at_link (session.slot_at u.begun.session 0) test → call_fault s unsent 0 c ≡ None → ⊥
  no_link u c test is none =
      let b : HasBegun s w = u.begun in
      session_refuses s b.session unsent c of_session.NoLink (channel_is s b.others (Live b.session) b.sessions) (is ∙ ap (λ (q : Slot LiveLink). at_link q test) (handle_is b.session b.frees Free b.links)) none

  no_delivery : (u : IsUnattached config terms s w) (id : ℕ) (outcome : Outcome) → call_fault s unsent 0 (call.Settle id outcome) ≡ None → ⊥
  no_delivery u id outcome none =
      let b : HasBegun s w = u.begun in
      let absent : standing_in id b.session.links ≡ standing.Absent = ap (λ (z : List (Slot LiveLink)). standing_in id z) b.links ∙ none_stands id b.frees b.free in
      session_refuses s b.session unsent (call.Settle id outcome) of_session.NoDelivery (channel_is s b.others (Live b.session) b.sessions) (range id b.session absent) none
    where
      range : (id : ℕ) (t : SessionState) → standing_in id t.links ≡ standing.Absent → range_fault id id t ≡ Some of_session.NoDelivery
      range id t e = rw e refl

  -- At each stage. --------------------------------------------------------------------------------------------------------------

  pub widen_becomes : (e : Far) (n : ℕ) → IsFar config terms s w e → call_fault s unsent 0 (call.Widen n) ≡ None → CallBecomes config terms s w e (call.Widen n) []
  widen_becomes AwaitsHeader n far none = absurd (unbegun_refuses s far.1.others unsent (call.Widen n) far.1.sessions none)
  widen_becomes AwaitsOpen n far none = absurd (unbegun_refuses s far.1.others unsent (call.Widen n) far.1.sessions none)
  widen_becomes AwaitsBegin n far none = absurd (unbegun_refuses s far.1.others unsent (call.Widen n) far.1.sessions none)
  widen_becomes AwaitsAttach n far none = widen_begun n far none
  widen_becomes Goes n far none = widen_goes n far none

  pub grant_becomes : (e : Far) (n : ℕ) → IsFar config terms s w e → call_fault s unsent 0 (call.Grant 0 n) ≡ None → CallBecomes config terms s w e (call.Grant 0 n) []
  grant_becomes AwaitsHeader n far none = absurd (unbegun_refuses s far.1.others unsent (call.Grant 0 n) far.1.sessions none)
  grant_becomes AwaitsOpen n far none = absurd (unbegun_refuses s far.1.others unsent (call.Grant 0 n) far.1.sessions none)
  grant_becomes AwaitsBegin n far none = absurd (unbegun_refuses s far.1.others unsent (call.Grant 0 n) far.1.sessions none)
  grant_becomes AwaitsAttach n far none = absurd (no_link far (call.Grant 0 n) _ refl none)
  grant_becomes Goes n far none = grant_goes n far none

  pub drain_becomes : (e : Far) → IsFar config terms s w e → call_fault s unsent 0 (call.Drain 0) ≡ None → CallBecomes config terms s w e (call.Drain 0) []
  drain_becomes AwaitsHeader far none = absurd (unbegun_refuses s far.1.others unsent (call.Drain 0) far.1.sessions none)
  drain_becomes AwaitsOpen far none = absurd (unbegun_refuses s far.1.others unsent (call.Drain 0) far.1.sessions none)
  drain_becomes AwaitsBegin far none = absurd (unbegun_refuses s far.1.others unsent (call.Drain 0) far.1.sessions none)
  drain_becomes AwaitsAttach far none = absurd (no_link far (call.Drain 0) _ refl none)
  drain_becomes Goes far none = drain_goes far none

  pub settle_becomes : (e : Far) (id : ℕ) (outcome : Outcome) → id < 2 ^ 32 → IsFar config terms s w e → call_fault s unsent 0 (call.Settle id outcome) ≡ None → CallBecomes config terms s w e (call.Settle id outcome) []
  settle_becomes AwaitsHeader id outcome few far none = absurd (unbegun_refuses s far.1.others unsent (call.Settle id outcome) far.1.sessions none)
  settle_becomes AwaitsOpen id outcome few far none = absurd (unbegun_refuses s far.1.others unsent (call.Settle id outcome) far.1.sessions none)
  settle_becomes AwaitsBegin id outcome few far none = absurd (unbegun_refuses s far.1.others unsent (call.Settle id outcome) far.1.sessions none)
  settle_becomes AwaitsAttach id outcome few far none = absurd (no_delivery far id outcome none)
  settle_becomes Goes id outcome few far none = settle_goes id outcome few far none

  pub take_becomes : (e : Far) → IsFar config terms s w e → call_fault s unsent 0 (call.Take 0) ≡ None → TakeBecomes config terms s w e
  take_becomes AwaitsHeader far none = absurd (unbegun_refuses s far.1.others unsent (call.Take 0) far.1.sessions none)
  take_becomes AwaitsOpen far none = absurd (unbegun_refuses s far.1.others unsent (call.Take 0) far.1.sessions none)
  take_becomes AwaitsBegin far none = absurd (unbegun_refuses s far.1.others unsent (call.Take 0) far.1.sessions none)
  take_becomes AwaitsAttach far none = absurd (no_link far (call.Take 0) _ refl none)
  take_becomes Goes far none = take_goes far none

-- none of these hands anything up
pub widen_answer : (q : Slot SessionState) (n : ℕ) → accepted_answer q (call.Widen n) ≡ of_endpoint.Accepted
widen_answer Free n = refl
widen_answer (Live t) n = refl
widen_answer Waits n = refl

pub grant_answer : (q : Slot SessionState) (n : ℕ) → accepted_answer q (call.Grant 0 n) ≡ of_endpoint.Accepted
grant_answer Free n = refl
grant_answer (Live t) n = refl
grant_answer Waits n = refl

pub drain_answer : (q : Slot SessionState) → accepted_answer q (call.Drain 0) ≡ of_endpoint.Accepted
drain_answer Free = refl
drain_answer (Live t) = refl
drain_answer Waits = refl

pub settle_answer : (q : Slot SessionState) (id : ℕ) (outcome : Outcome) → accepted_answer q (call.Settle id outcome) ≡ of_endpoint.Accepted
settle_answer Free id outcome = refl
settle_answer (Live t) id outcome = refl
settle_answer Waits id outcome = refl
