-- What an endpoint does, as the message level has it.
use Rattle.std.proofs.Common.{◌≡◌, ℕ, zero, suc, ◌+◌, ◌^◌, ◌≤◌, Bool, true, false, cond, eqb, List, [], ◌∷◌, ◌++◌, length, map, take, drop, Option, Some, None, refl, sym, ap, subst, ◌∙◌, arith, append-nil}
use Rattle.std.specs.Prelude.{slice_get, unwrap_or}
use Rattle.std.specs.List.{flat_map}
use Rattle.std.proofs.lemmas.Bool.{lt-ltb}
use Rattle.amqp_frame.specs.Splits.{SplitterState, Waits, IsEmptied}
use Rattle.amqp_frame.specs.Units.{StreamUnit, HeaderUnit, bytes_of, AreUnits, due_after}
use Rattle.amqp_frame.specs.declared.units.Stage.{Stage}
use Rattle.amqp_frame.specs.declared.units.Stage.TheVariants.{Frames}
use Rattle.amqp_frame.specs.declared.units.TheConstants.{HEADER}
use Rattle.amqp_link.specs.Links.{Sent, LinkState, link_begins, link_after, FlowStated, fault_of, is_beyond_credit}
use Rattle.amqp_link.specs.declared.transfer.LinkFault.{LinkFault}
use Rattle.amqp_perform.specs.Said.{Said, said_frame}
use Rattle.amqp_session.specs.declared.slot.Slot.{Slot}
use Rattle.amqp_session.specs.declared.slot.Slot.TheVariants.{Free, Live}
use Rattle.amqp_session.specs.declared.terms.SessionTerms.{SessionTerms}
use Rattle.amqp_session.specs.Frames as of_session
use Rattle.amqp_session.specs.Frames.{Attaches}
use Rattle.amqp_session.specs.Places.{Nothing, Begins, places_from, places_after, tabulate}
use Rattle.amqp_session.specs.Sessions.{LiveLink, SessionState, live_begins, live_after, session_begins, session_after}
use Rattle.amqp_endpoint.specs.declared.phase.Phase.{Phase}
use Rattle.amqp_endpoint.specs.declared.phase.Phase.TheVariants as phase
use Rattle.amqp_endpoint.specs.Configs.{Configured}
use Rattle.amqp_endpoint.specs.Connections.{ConnectionState, ConnectionEvent, connection_after, slot_at, lesser}
use Rattle.amqp_endpoint.specs.Lines.{Line, PeerOpens, PeerBegins, SessionFrame, line_of, event_on, told_on, begun_terms, peer_frame_size}
use Rattle.amqp_endpoint.specs.Fields.{Beginning}
use Rattle.amqp_endpoint.specs.Replies as of_endpoint
use Rattle.amqp_endpoint.specs.Replies.{Spoken, reply_on, joined}
use Rattle.amqp_endpoint.specs.Traces.{failure_in}
use Rattle.amqp_endpoint.proofs.Replies.{attach_most}
use Rattle.amqp_send.specs.Frames.{IsOpening}
use Rattle.amqp_send.specs.Sendings.{SendTerms}
use Rattle.amqp_pair.specs.Attached.{HasBegun}
use Rattle.amqp_pair.specs.Heard.{begin_flow}
use Rattle.amqp_pair.specs.Items.{Far, AwaitsHeader, AwaitsOpen, AwaitsBegin, AwaitsAttach, Goes, due_at, Item, OwnHeader, OwnOpen, OwnBegin, OwnAttach, Speaks, item_unit, words_in, Leads, Reply, ItsHeader, ItsOpen, ItsBegin, ItsAttach, begun_with, reply_unit, flows_in, LeadsBack, answered_at, AreSaid}
use Rattle.amqp_pair.specs.Paired.{link_terms, IsUnbegun, IsUnattached, IsFar, IsOutward}
use Rattle.amqp_pair.specs.Reading.{IsOpened, opening_with, attaching_of}
use Rattle.amqp_pair.specs.Served.{AreTerms}
use Rattle.amqp_pair.specs.Spoken.{IsOnWay}
use Rattle.amqp_pair.specs.Stands.{AreFree, Stands}
use Rattle.amqp_pair.specs.Words.{Word, unit_in, frame_in, IsRight, AreRight}
use Rattle.amqp_pair.specs.World.{World, Frame, First, Later, Told, To_end, Widen, happens, acts as acts_on, fails, judged, flows, first_sent, later_sent, id_open, Plain, Inv}
use Rattle.amqp_pair.proofs.Below.{Below}
use Rattle.amqp_pair.proofs.Items.{cons_of, item_due, items_units, lesser_none}
use Rattle.amqp_pair.proofs.Ways.{takes, acts}

-- What comes of the message level. -------------------------------------------------------------------------------------------

-- A step of the endpoint from one stage to another, which writes these bytes, hands these messages up, and leaves these frames on their way to it.
pub record Becomes (config : Configured) (terms : SendTerms) (next : ConnectionState) (w : World) (q : List Frame) (e e' : Far) (bytes : List ℕ) (handed : List (List ℕ)) : Type 0 where
  pub world : World
  pub plain : Plain
  pub replies : List Reply
  pub far : IsFar config terms next world e'
  pub written : bytes ≡ flat_map bytes_of (map (reply_unit config terms) replies)
  pub leads : LeadsBack (answered_at e) replies (answered_at e')
  pub said : AreSaid replies
  pub sender : world.sender ≡ w.sender
  pub to_end : world.to_end ≡ q
  pub to_sender : world.to_sender ≡ w.to_sender ++ flows_in config replies
  pub given : world.given ≡ w.given ++ handed
  pub offered : world.offered ≡ w.offered
  pub terms_are : world.link.terms ≡ w.link.terms
  pub sound : Inv world plain

-- a line that fails nothing
pub record BecomesBy (config : Configured) (terms : SendTerms) (s : ConnectionState) (w : World) (q : List Frame) (e e' : Far) (line : Line) : Type 0 where
  pub becomes : Becomes config terms (connection_after s (event_on s line)) w q e e' (reply_on s line) []
  pub told : failure_in (told_on s line) ≡ None

-- Tables in which nothing happens. ----------------------------------------------------------------------------------------------

pub free_kept : (slots : List (Slot LiveLink)) (k : ℕ) → AreFree slots → AreFree (places_from live_begins live_after k Nothing slots)
free_kept [] k a = tt
free_kept (s ∷ slots) k a = (a.0, free_kept slots (suc k) a.1)

frees : (k n : ℕ) → AreFree (tabulate k n (λ (i : ℕ). Free))
frees k zero = tt
frees k (suc n) = (refl, frees (suc k) n)

unbegun_still : (config : Configured) (terms : SendTerms) (s next : ConnectionState) (w : World) → next.sessions ≡ places_after session_begins session_after s.sessions Nothing → IsUnbegun config terms s w → IsUnbegun config terms next w
unbegun_still config terms s next w e u = record {
  others = places_from session_begins session_after 1 Nothing u.others;
  sessions = e ∙ ap (λ (z : List (Slot SessionState)). places_after session_begins session_after z Nothing) u.sessions;
  places = u.places;
  next = u.next;
  link = u.link;
}

-- The first unit. ---------------------------------------------------------------------------------------------------------------

pub record IsFirst (config : Configured) (terms : SendTerms) (new : SplitterState) (pipe unsent : List ℕ) (e : Far) (items : List Item) (f : Far) (u : StreamUnit) : Type 0 where
  pub item : Item
  pub rest : List Item
  pub is : items ≡ item ∷ rest
  pub unit : item_unit terms item ≡ u
  pub leads : Leads e (item ∷ rest) f
  pub right : AreRight config.max_frame (words_in (item ∷ rest))
  pub joined : new.filled ++ (pipe ++ unsent) ≡ flat_map bytes_of (map (item_unit terms) rest)
  pub limit : new.limit ≡ config.max_frame
  pub stage : new.stage ≡ Frames

-- What the message level acts upon. -----------------------------------------------------------------------------------------------

record Took (w v : World) (q : List Frame) : Type 0 where
  pub sender : v.sender ≡ w.sender
  pub to_end : v.to_end ≡ q
  pub to_sender : v.to_sender ≡ w.to_sender
  pub given : v.given ≡ w.given
  pub offered : v.offered ≡ w.offered
  pub terms_are : v.link.terms ≡ w.link.terms

judged_so : (w : World) (q : List Frame) (t : Sent) (none used : Bool) (fault : Option LinkFault) → (cond none (fails w) (cond used (fails w) (judged w q t fault))).failed ≡ false → Took w (cond none (fails w) (cond used (fails w) (judged w q t fault))) q
judged_so w q t true used fault e = absurd (cc e)
judged_so w q t false true fault e = absurd (cc e)
judged_so w q t false false (Some f) e = absurd (cc e)
judged_so w q t false false None e = record { sender = refl; to_end = refl; to_sender = refl; given = refl; offered = refl; terms_are = refl }

counted_so : (w : World) (q : List Frame) (count next : ℕ) (b : Bool) → (cond b (fails w) (record w { to_end = q; link = link_after w.link (FlowStated (Some count)); next = next })).failed ≡ false
    → Took w (cond b (fails w) (record w { to_end = q; link = link_after w.link (FlowStated (Some count)); next = next })) q
counted_so w q count next true e = absurd (cc e)
counted_so w q count next false e = record { sender = refl; to_end = refl; to_sender = refl; given = refl; offered = refl; terms_are = refl }

took_by : (w : World) (f : Frame) (q : List Frame) → (acts_on w (f ∷ q)).failed ≡ false → Took w (acts_on w (f ∷ q)) q
took_by w (First id payload more) q e = judged_so w q (first_sent id payload more) (eqb w.places 0) (id_open w.link id) (fault_of w.link (first_sent id payload more)) e
took_by w (Later payload more) q e = judged_so w q (later_sent payload more) (eqb w.places 0) false (fault_of w.link (later_sent payload more)) e
took_by w (Told count next) q e = counted_so w q count next (is_beyond_credit w.link.delivery_count w.link.credit (Some count)) e

-- what the frames of the opening come to
abbrev peer_opens : List ℕ → Line
peer_opens container_id = PeerOpens (opening_with container_id)

abbrev beginning : Beginning
beginning = record { remote_channel = None; next_outgoing_id = 0; handle_max = 0 }

module _ (law : Below) (config : Configured) (terms : SendTerms) (a : AreTerms config terms) where
  pub opening : IsOpening terms
  opening = law.opening terms a.short_id a.short_name

  pub first_item : (input between new : SplitterState) (pipe unsent : List ℕ) (used : ℕ) (e : Far) (items : List Item) (f : Far) (u : StreamUnit) → IsOutward config terms input pipe unsent e items f
      → between.limit ≡ input.limit → between.stage ≡ input.stage → between.filled ≡ input.filled ++ take used pipe → Waits between u → IsEmptied between new (due_after u)
      → IsFirst config terms new (drop used pipe) unsent e items f u
  first_item input between new pipe unsent used e items f u i el es ef waits gone =
      let way : List StreamUnit = map (item_unit terms) items in
      let units : AreUnits config.max_frame (due_at e) way = items_units law config.max_frame terms e f items a.configured.some_frame (omega (arith, a.configured.most_frame)) opening i.leads i.right in
      let each : AreUnits input.limit input.stage way = subst (λ (z : ℕ). AreUnits z input.stage way) (sym i.limit) (subst (λ (z : Stage). AreUnits config.max_frame z way) (sym i.stage) units) in
      let on_way : IsOnWay between (drop used pipe) unsent way = takes input between pipe unsent way used el es ef (record { joined = i.joined; each = each }) in
      let least : 8 ≤ between.limit = omega (arith, el, i.limit, a.configured.some_frame) in
      let k = acts law.apart law.some between new (drop used pipe) unsent way u least waits gone on_way in
      let c = cons_of (item_unit terms) items u k.0 k.1 in
      record {
        item = c.first;
        rest = c.rest;
        is = c.is;
        unit = c.unit;
        leads = subst (λ (z : List Item). Leads e z f) c.is i.leads;
        right = subst (λ (z : List Item). AreRight config.max_frame (words_in z)) c.is i.right;
        joined = k.2.joined ∙ ap (λ (z : List StreamUnit). flat_map bytes_of z) (sym c.others);
        limit = gone.limit ∙ el ∙ i.limit;
        stage = gone.stage ∙ ap due_after (sym c.unit) ∙ item_due terms c.first;
      }

  module _ (s : ConnectionState) (set : s.config ≡ config) (w : World) (x : Plain) (i : Inv w x) where
    -- The header. -------------------------------------------------------------------------------------------------------------

    by_header : IsFar config terms s w AwaitsHeader → BecomesBy config terms s w w.to_end AwaitsHeader AwaitsOpen (line_of s (HeaderUnit HEADER))
    by_header far = record {
      becomes = record {
        world = w;
        plain = x;
        replies = ItsHeader ∷ [];
        far = (far.0, unbegun_still config terms s _ w refl far.1);
        written = sym (append-nil HEADER);
        leads = (refl, refl);
        said = (tt, tt);
        sender = refl;
        to_end = refl;
        to_sender = sym (append-nil w.to_sender);
        given = sym (append-nil w.given);
        offered = refl;
        terms_are = refl;
        sound = i;
      };
      told = refl;
    }

    -- The open. ---------------------------------------------------------------------------------------------------------------

    by_open : IsFar config terms s w AwaitsOpen → BecomesBy config terms s w w.to_end AwaitsOpen AwaitsBegin (peer_opens terms.container_id)
    by_open far = record {
      becomes = record {
        world = w;
        plain = x;
        replies = ItsOpen ∷ [];
        far = (ap (λ (z : ℕ). phase.Open 4096 z) (lesser_none s.config.channel_max), unbegun_still config terms s _ w refl far.1);
        written = ap (λ (z : Configured). said_frame 0 (of_endpoint.open_said z (lesser z.channel_max 0)) [] ++ []) set;
        leads = (refl, refl);
        said = (tt, tt);
        sender = refl;
        to_end = refl;
        to_sender = sym (append-nil w.to_sender);
        given = sym (append-nil w.given);
        offered = refl;
        terms_are = refl;
        sound = i;
      };
      told = refl;
    }

    -- The begin. --------------------------------------------------------------------------------------------------------------

    begun_so : IsOpened s → begun_terms s beginning ≡ begun_with config
    begun_so opened =
        ap (λ (z : Configured). record { incoming_window = z.window; next_outgoing_id = 0; handle_max = lesser z.handle_max 0; max_frame_size = peer_frame_size s.phase }) set
        ∙ ap (λ (z : Phase). record (begun_with config) { max_frame_size = peer_frame_size z }) opened

    -- on the message level the window is told
    begin_told : IsUnbegun config terms s w → happens w (Widen 0) ≡ record w { to_sender = w.to_sender ++ begin_flow config.window ∷ [] }
    begin_told u =
        let none : w.places + 0 ≡ w.places = omega arith in
        ap (λ (b : Bool). cond b (flows (record w { places = w.places + 0 }) false) w) (lt-ltb (w.places + 0) (2 ^ 31) (omega (arith, i.narrow)))
        ∙ ap (λ (n : ℕ). flows (record w { places = n }) false) none
        ∙ ap (λ (l : LinkState). record w { to_sender = w.to_sender ++ record { of_link = false; count = l.delivery_count; credit = l.credit; next = w.next; window = w.places; drain = l.draining; echo = false } ∷ [] }) u.link
        ∙ ap (λ (n : ℕ). record w { to_sender = w.to_sender ++ record { of_link = false; count = 0; credit = 0; next = n; window = w.places; drain = false; echo = false } ∷ [] }) u.next
        ∙ ap (λ (n : ℕ). record w { to_sender = w.to_sender ++ record { of_link = false; count = 0; credit = 0; next = 0; window = n; drain = false; echo = false } ∷ [] }) u.places

    by_begin : IsFar config terms s w AwaitsBegin → BecomesBy config terms s w w.to_end AwaitsBegin AwaitsAttach (PeerBegins 0 beginning)
    by_begin far =
        let v : World = record w { to_sender = w.to_sender ++ begin_flow config.window ∷ [] } in
        let k = law.step w x (Widen 0) tt i in
        let t : SessionTerms = begun_terms s beginning in
        let terms_so : t ≡ begun_with config = begun_so far.0 in
        record {
          becomes = record {
            world = v;
            plain = k.0;
            replies = ItsBegin ∷ [];
            far = record {
              begun = record {
                opened = far.0;
                session = session_begins t;
                others = places_from session_begins session_after 1 (Begins 0 t) far.1.others;
                sessions = ap (λ (z : List (Slot SessionState)). places_after session_begins session_after z (Begins 0 t)) far.1.sessions;
                frees = tabulate 1 t.handle_max (λ (n : ℕ). Free);
                links = refl;
                free = frees 1 t.handle_max;
                size = ap (λ (z : SessionTerms). z.max_frame_size) terms_so;
                places = ap (λ (z : SessionTerms). z.incoming_window) terms_so ∙ sym far.1.places;
                next = sym far.1.next;
              };
              link = far.1.link;
            };
            written = ap (λ (z : SessionTerms). said_frame 0 (of_endpoint.begin_said 0 z) [] ++ []) terms_so;
            leads = (refl, refl);
            said = (tt, tt);
            sender = refl;
            to_end = refl;
            to_sender = refl;
            given = sym (append-nil w.given);
            offered = refl;
            terms_are = refl;
            sound = subst (λ (z : World). Inv z k.0) (begin_told far.1) k.1;
          };
          told = refl;
        }

    -- The attach. -------------------------------------------------------------------------------------------------------------

    by_attach : (u : IsUnattached config terms s w) → BecomesBy config terms s w w.to_end AwaitsAttach Goes (SessionFrame 0 u.begun.session (Attaches (attaching_of s.config terms.name)))
    by_attach u =
        let b : HasBegun s w = u.begun in
        let longest : ℕ = (attaching_of s.config terms.name).bounds.max_message_size in
        let said : Said = of_session.attach_said longest (attaching_of s.config terms.name) in
        let short : length (said_frame 0 said []) ≤ 4096 = omega (arith, law.long 0 said, attach_most longest (attaching_of s.config terms.name) a.short_name (omega arith)) in
        let k = law.attached s w terms.name b (u.link ∙ ap (λ (z : Configured). link_begins (link_terms z terms)) (sym set)) (omega (arith, i.end_next)) short in
        record {
          becomes = record {
            world = w;
            plain = x;
            replies = ItsAttach ∷ [];
            far = subst (λ (z : ConnectionEvent). Stands (connection_after s z) w) (sym k.event) k.stands;
            written = ap joined k.reply ∙ ap (λ (z : Configured). said_frame 0 (of_session.attach_said (attaching_of z terms.name).bounds.max_message_size (attaching_of z terms.name)) [] ++ []) set;
            leads = (refl, refl);
            said = (tt, tt);
            sender = refl;
            to_end = refl;
            to_sender = sym (append-nil w.to_sender);
            given = sym (append-nil w.given);
            offered = refl;
            terms_are = refl;
            sound = i;
          };
          told = k.told;
        }

    -- A word. -----------------------------------------------------------------------------------------------------------------

    by_word : (word : Word) (q : List Frame) → w.to_end ≡ frame_in word ∷ q → IsRight config.max_frame word → Stands s w → BecomesBy config terms s w q Goes Goes (line_of s (unit_in word))
    by_word word q first right stands =
        let k = law.acted s w x config.max_frame word q (omega (arith, a.configured.most_frame)) stands i first right in
        let y = law.step w x To_end tt i in
        let goes : happens w To_end ≡ acts_on w (frame_in word ∷ q) = ap (λ (z : List Frame). acts_on w z) first in
        let t : Took w (happens w To_end) q = subst (λ (z : World). Took w z q) (sym goes) (took_by w (frame_in word) q (ap (λ (z : World). z.failed) (sym goes) ∙ y.1.fine)) in
        record {
          becomes = record {
            world = happens w To_end;
            plain = y.0;
            replies = [];
            far = subst (λ (z : ConnectionEvent). Stands (connection_after s z) (happens w To_end)) (sym k.is) k.stands;
            written = k.reply;
            leads = refl;
            said = tt;
            sender = t.sender;
            to_end = t.to_end;
            to_sender = t.to_sender ∙ sym (append-nil w.to_sender);
            given = t.given ∙ sym (append-nil w.given);
            offered = t.offered;
            terms_are = t.terms_are;
            sound = y.1;
          };
          told = k.told;
        }

    -- Each of them. -------------------------------------------------------------------------------------------------------------

    becomes_by : (q : List Frame) (e e' : Far) (line other : Line) → other ≡ line → BecomesBy config terms s w q e e' line → BecomesBy config terms s w q e e' other
    becomes_by q e e' line other is b = subst (λ (z : Line). BecomesBy config terms s w q e e' z) (sym is) b

    -- from the stage at which it may come
    at_stage : (u : StreamUnit) (q : List Frame) (e from to : Far) (rest : List Item) (f : Far) → e ≡ from → Leads to rest f → due_at to ≡ Frames → BecomesBy config terms s w q from to (line_of s u)
        → (e' : Far) × Leads e' rest f × (due_at e' ≡ Frames) × BecomesBy config terms s w q e e' (line_of s u)
    at_stage u q e from to rest f is leads due b = (to, leads, due, subst (λ (z : Far). BecomesBy config terms s w q z to (line_of s u)) (sym is) b)

    channel_is : (others : List (Slot SessionState)) (first : Slot SessionState) → s.sessions ≡ first ∷ others → slot_at s 0 ≡ first
    channel_is others first e = ap (λ (z : List (Slot SessionState)). unwrap_or (slice_get z 0) Free) e

    pub becomes : (e f : Far) (item : Item) (rest : List Item) → IsFar config terms s w e → Leads e (item ∷ rest) f → AreRight config.max_frame (words_in (item ∷ rest)) → w.to_end ≡ map frame_in (words_in (item ∷ rest))
        → (e' : Far) × Leads e' rest f × (due_at e' ≡ Frames) × BecomesBy config terms s w (map frame_in (words_in rest)) e e' (line_of s (item_unit terms item))
    becomes e f OwnHeader rest far l right to_end =
        let here : IsFar config terms s w AwaitsHeader = subst (λ (z : Far). IsFar config terms s w z) l.0 far in
        at_stage (item_unit terms OwnHeader) (map frame_in (words_in rest)) e AwaitsHeader AwaitsOpen rest f l.0 l.1 refl
        (subst (λ (z : List Frame). BecomesBy config terms s w z AwaitsHeader AwaitsOpen (line_of s (item_unit terms OwnHeader))) to_end (by_header here))
    becomes e f OwnOpen rest far l right to_end =
        let here : IsFar config terms s w AwaitsOpen = subst (λ (z : Far). IsFar config terms s w z) l.0 far in
        let is = law.opens s terms.container_id here.0 a.container_id (omega (arith, opening.first)) in
        at_stage (item_unit terms OwnOpen) (map frame_in (words_in rest)) e AwaitsOpen AwaitsBegin rest f l.0 l.1 refl
        (subst (λ (z : List Frame). BecomesBy config terms s w z AwaitsOpen AwaitsBegin (line_of s (item_unit terms OwnOpen))) to_end
        (becomes_by w.to_end AwaitsOpen AwaitsBegin (peer_opens terms.container_id) (line_of s (item_unit terms OwnOpen)) is (by_open here)))
    becomes e f OwnBegin rest far l right to_end =
        let here : IsFar config terms s w AwaitsBegin = subst (λ (z : Far). IsFar config terms s w z) l.0 far in
        let is = law.begins s here.0 (channel_is here.1.others Free here.1.sessions) (omega (arith, opening.second)) in
        at_stage (item_unit terms OwnBegin) (map frame_in (words_in rest)) e AwaitsBegin AwaitsAttach rest f l.0 l.1 refl
        (subst (λ (z : List Frame). BecomesBy config terms s w z AwaitsBegin AwaitsAttach (line_of s (item_unit terms OwnBegin))) to_end
        (becomes_by w.to_end AwaitsBegin AwaitsAttach (PeerBegins 0 beginning) (line_of s (item_unit terms OwnBegin)) is (by_begin here)))
    becomes e f OwnAttach rest far l right to_end =
        let here : IsUnattached config terms s w = subst (λ (z : Far). IsFar config terms s w z) l.0 far in
        let b : HasBegun s w = here.begun in
        let is = law.attaches s b.session terms.name b.opened (channel_is b.others (Live b.session) b.sessions) (ap (λ (z : List (Slot LiveLink)). unwrap_or (slice_get z 0) Free) b.links) a.name a.short_name (omega (arith, opening.third)) in
        at_stage (item_unit terms OwnAttach) (map frame_in (words_in rest)) e AwaitsAttach Goes rest f l.0 l.1 refl
        (subst (λ (z : List Frame). BecomesBy config terms s w z AwaitsAttach Goes (line_of s (item_unit terms OwnAttach))) to_end
        (becomes_by w.to_end AwaitsAttach Goes (SessionFrame 0 b.session (Attaches (attaching_of s.config terms.name))) (line_of s (item_unit terms OwnAttach)) is (by_attach here)))
    becomes e f (Speaks word) rest far l right to_end =
        let here : Stands s w = subst (λ (z : Far). IsFar config terms s w z) l.0 far in
        at_stage (item_unit terms (Speaks word)) (map frame_in (words_in rest)) e Goes Goes rest f l.0 l.1 refl (by_word word (map frame_in (words_in rest)) to_end right.0 here)
