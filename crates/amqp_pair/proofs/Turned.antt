-- Each turn keeps how the two ends stand.
use Rattle.std.proofs.Common.{◌≡◌, ℕ, ◌+◌, ◌^◌, ◌≤◌, inl, inr, Bool, true, false, cond, List, [], ◌∷◌, ◌++◌, length, map, take, drop, Option, Some, None, refl, sym, ap, subst, ◌∙◌, arith, append_assoc, append-nil}
use Rattle.std.specs.Prelude.{option_map}
use Rattle.std.proofs.lemmas.List.{take-append-drop, map-append}
use Rattle.amqp_frame.specs.Splits.{SplitterState, Waits, IsUnchanged, IsEmptied}
use Rattle.amqp_frame.specs.Units.{StreamUnit, due_after}
use Rattle.amqp_frame.proofs.Fronts.{waits_or_not}
use Rattle.amqp_link.specs.declared.terms.Terms.{Terms}
use Rattle.amqp_session.specs.Calls as session
use Rattle.amqp_session.specs.Calls.{Widen, Grant, Drain, Take, Settle, SettleRange, Detach, Refuse, SettleWith, SettleRangeWith}
use Rattle.amqp_endpoint.specs.declared.event.Event.{Event}
use Rattle.amqp_endpoint.specs.declared.event.Event.TheVariants as event
use Rattle.amqp_endpoint.specs.declared.event.Fed.{Fed}
use Rattle.amqp_endpoint.specs.declared.event.Outcome.{Outcome}
use Rattle.amqp_endpoint.specs.declared.event.Outcome.TheVariants as outcome
use Rattle.amqp_endpoint.specs.Calls.{call_event, call_spoken}
use Rattle.amqp_endpoint.specs.Configs.{Configured}
use Rattle.amqp_endpoint.specs.Connections.{ConnectionState, connection_after, is_dead, slot_at}
use Rattle.amqp_endpoint.specs.Lines.{line_of, told_on}
use Rattle.amqp_endpoint.specs.Replies.{reply_on, joined}
use Rattle.amqp_endpoint.specs.Runs as of_endpoint
use Rattle.amqp_endpoint.specs.Runs.{Handed, HandedUp, IsWritten, IsMoved, accepted_answer}
use Rattle.amqp_endpoint.specs.Steps.{EndpointState, IsKept, IsActed, IsFed, FeedDone, TakesAndActs, Acts, may_act, told_outcome, acted_after}
use Rattle.amqp_endpoint.specs.Traces.{failure_in}
use Rattle.amqp_send.specs.declared.news.News.{News}
use Rattle.amqp_send.specs.declared.news.OfferFault.{OfferFault}
use Rattle.amqp_send.specs.declared.talk.Talk.{Talk}
use Rattle.amqp_send.specs.declared.talk.Talk.TheVariants as talk
use Rattle.amqp_send.specs.Calls.{SenderState, taken}
use Rattle.amqp_send.specs.Runs as of_sender
use Rattle.amqp_send.specs.Runs.{moved_count, does_send}
use Rattle.amqp_send.specs.Sendings.{SendTerms, Sending, Message, Acted, Offered, Moved, changed, send_after, all_written, has_room, fault_at}
use Rattle.amqp_pair.specs.declared.turn.TurnAnswer.{TurnAnswer}
use Rattle.amqp_pair.specs.declared.turn.TurnAnswer.TheVariants as answer
use Rattle.amqp_pair.specs.Items.{Far, AwaitsHeader, AwaitsOpen, AwaitsBegin, AwaitsAttach, Goes, Item, OwnHeader, OwnOpen, OwnBegin, OwnAttach, Speaks, words_in, written_at, Reply, reply_unit, flows_in, answered_at}
use Rattle.amqp_pair.specs.Paired.{IsFar, talk_at, HasHeard, IsOutward, IsInward, IsHalf, Paired, offered_by, IsTurnKept, TurnLaw}
use Rattle.amqp_pair.specs.Served.{AreTerms, IsOfLink, IsNoFailure, IsWell}
use Rattle.amqp_pair.specs.Turns.{Offer, ToEndpoint, ToSender, Ask, Ends, room_for, IsOffered, IsToEndpoint, IsToSender, IsAsked, IsEndpointAlone}
use Rattle.amqp_pair.specs.Words.{AreRight, frame_in, sender_of}
use Rattle.amqp_pair.specs.World.{World, Frame, Plain, Inv, happens, offers}
use Rattle.amqp_pair.specs.World as level
use Rattle.amqp_pair.proofs.Below.{Below}
use Rattle.amqp_pair.proofs.Becoming.{Becomes, BecomesBy, first_item, becomes}
use Rattle.amqp_pair.proofs.Calling.{widen_becomes, grant_becomes, drain_becomes, settle_becomes, take_becomes, widen_answer, grant_answer, drain_answer, settle_answer}
use Rattle.amqp_pair.proofs.Hearing.{first_reply, heard_reply}
use Rattle.amqp_pair.proofs.Items.{more_bytes, units_joined, back_behind, flows_behind, said_behind}
use Rattle.amqp_pair.proofs.Worlds.{within}
use Rattle.amqp_pair.proofs.Stepped.{settled}

-- Bytes. --------------------------------------------------------------------------------------------------------------------

moved_bytes : (front pipe unsent : List ℕ) (n : ℕ) → front ++ ((pipe ++ take n unsent) ++ drop n unsent) ≡ front ++ (pipe ++ unsent)
moved_bytes front pipe unsent n = ap (λ (z : List ℕ). front ++ z) (append_assoc pipe (take n unsent) (drop n unsent) ∙ ap (λ (z : List ℕ). pipe ++ z) (take-append-drop n unsent))

taken_bytes : (front pipe unsent : List ℕ) (n : ℕ) → (front ++ take n pipe) ++ (drop n pipe ++ unsent) ≡ front ++ (pipe ++ unsent)
taken_bytes front pipe unsent n =
    append_assoc front (take n pipe) (drop n pipe ++ unsent)
    ∙ ap (λ (z : List ℕ). front ++ z) (sym (append_assoc (take n pipe) (drop n pipe) unsent) ∙ ap (λ (z : List ℕ). z ++ unsent) (take-append-drop n pipe))

-- the ends by their parts
same_ends : (n : Ends) (a : SenderState) (b c : List ℕ) (d : List Handed) → n.sender ≡ a → n.to_endpoint ≡ b → n.to_sender ≡ c → n.taken ≡ d
    → n ≡ record { sender = a; endpoint = n.endpoint; to_endpoint = b; to_sender = c; taken = d }
same_ends n a b c d p q r s =
    ap (λ (z : SenderState). record n { sender = z }) p
    ∙ ap (λ (z : List ℕ). record { sender = a; endpoint = n.endpoint; to_endpoint = z; to_sender = n.to_sender; taken = n.taken }) q
    ∙ ap (λ (z : List ℕ). record { sender = a; endpoint = n.endpoint; to_endpoint = b; to_sender = z; taken = n.taken }) r
    ∙ ap (λ (z : List Handed). record { sender = a; endpoint = n.endpoint; to_endpoint = b; to_sender = c; taken = z }) s

-- Outcomes. -------------------------------------------------------------------------------------------------------------------

fine_event : (e : Event) → failure_in (Some e) ≡ None → IsNoFailure (outcome.Event e)
fine_event (event.Failed scope condition dropped) p = absurd (cc p)
fine_event e p = tt

fine_none : (b : Bool) → IsNoFailure (cond b outcome.Dead outcome.More)
fine_none true = tt
fine_none false = tt

fine_told : (after : ConnectionState) (o : Option Event) → failure_in o ≡ None → IsNoFailure (told_outcome after o)
fine_told after None p = fine_none (is_dead after.phase)
fine_told after (Some e) p = fine_event e p

alive : (config : Configured) (terms : SendTerms) (s : ConnectionState) (w : World) (e : Far) → IsFar config terms s w e → is_dead s.phase ≡ false
alive config terms s w AwaitsHeader far = ap is_dead far.0
alive config terms s w AwaitsOpen far = ap is_dead far.0
alive config terms s w AwaitsBegin far = ap is_dead far.0
alive config terms s w AwaitsAttach far = ap is_dead far.begun.opened
alive config terms s w Goes far = ap is_dead far.opened

rights_rest : (most : ℕ) (item : Item) (rest : List Item) → AreRight most (words_in (item ∷ rest)) → AreRight most (words_in rest)
rights_rest most OwnHeader rest a = a
rights_rest most OwnOpen rest a = a
rights_rest most OwnBegin rest a = a
rights_rest most OwnAttach rest a = a
rights_rest most (Speaks word) rest a = a.1

-- What the endpoint does to the ends. ---------------------------------------------------------------------------------------------

record EndOn (config : Configured) (terms : SendTerms) (new : EndpointState) (pipe : List ℕ) (t : Sending) (taken_now : List Handed) (input : SplitterState) (back_pipe : List ℕ) (w : World) (r : Far) : Type 0 where
  pub e : Far
  pub items : List Item
  pub replies : List Reply
  pub world : World
  pub plain : Plain
  pub half : IsHalf config terms new pipe t taken_now world plain e items (written_at r)
  pub back : IsInward config terms input back_pipe new.unsent r replies (answered_at e)
  pub to_sender : world.to_sender ≡ flows_in config replies
  pub offered : world.offered ≡ w.offered

-- what the sender does to them
record BackOn (config : Configured) (terms : SendTerms) (new : SenderState) (end : EndpointState) (pipe : List ℕ) (taken_now : List Handed) (back_pipe : List ℕ) (w : World) (e : Far) : Type 0 where
  pub r : Far
  pub items : List Item
  pub replies : List Reply
  pub world : World
  pub plain : Plain
  pub half : IsHalf config terms end pipe new.sending taken_now world plain e items (written_at r)
  pub heard : HasHeard config terms new.sending r
  pub back : IsInward config terms new.input back_pipe end.unsent r replies (answered_at e)
  pub to_sender : world.to_sender ≡ flows_in config replies
  pub offered : world.offered ≡ w.offered

-- and a call
record AskedOn (config : Configured) (terms : SendTerms) (next : Ends) (w : World) : Type 0 where
  pub world : World
  pub plain : Plain
  pub paired : Paired config terms next world plain
  pub offered : world.offered ≡ w.offered

abbrev well_of : Option OfferFault → Type 0
well_of None = Unit {0}
well_of (Some f) = IsWell (answer.NotTakenOver f)

abbrev handed_or : Handed → of_endpoint.Answer → Handed
handed_or d (HandedUp z) = z
handed_or d z = d

module _ (law : Below) (config : Configured) (terms : SendTerms) (a : AreTerms config terms) where
  module _ (end new : EndpointState) (pipe : List ℕ) (t : Sending) (taken_now : List Handed) (input : SplitterState) (back_pipe : List ℕ) (w : World) (x : Plain) (e r : Far) (items : List Item) (replies : List Reply)
      (h : IsHalf config terms end pipe t taken_now w x e items (written_at r)) (i : IsInward config terms input back_pipe end.unsent r replies (answered_at e)) (flowing : w.to_sender ≡ flows_in config replies) where
    end_becomes : (next : ConnectionState) (e' : Far) (left : List Item) (later : List ℕ) (bytes : List ℕ) (handed : List (List ℕ)) (more : List Handed) → new.connection ≡ next → next.config ≡ config → new.unsent ≡ end.unsent ++ bytes
        → map (λ (d : Handed). d.message) more ≡ map (λ (d : Handed). d.message) taken_now ++ handed → Becomes config terms next w (map frame_in (words_in left)) e e' bytes handed
        → IsOutward config terms new.input later t.unsent e' left (written_at r) → EndOn config terms new later t more input back_pipe w r
    end_becomes next e' left later bytes handed more is set unsent given b out = record {
      e = e';
      items = left;
      replies = replies ++ b.replies;
      world = b.world;
      plain = b.plain;
      half = record {
        config_is = ap (λ (z : ConnectionState). z.config) is ∙ set;
        far = subst (λ (z : ConnectionState). IsFar config terms z b.world e') (sym is) b.far;
        out = out;
        sender = b.sender ∙ h.sender;
        to_end = b.to_end;
        given = given ∙ ap (λ (z : List (List ℕ)). z ++ handed) h.given ∙ sym b.given;
        terms_are = b.terms_are ∙ h.terms_are;
        sound = b.sound;
      };
      back = record {
        joined = ap (λ (z : List ℕ). input.filled ++ (back_pipe ++ z)) unsent ∙ more_bytes input.filled back_pipe end.unsent bytes _ _ i.joined b.written ∙ sym (units_joined (reply_unit config terms) replies b.replies);
        limit = i.limit;
        stage = i.stage;
        leads = back_behind r (answered_at e) (answered_at e') replies b.replies i.leads b.leads;
        said = said_behind replies b.replies i.said b.said;
      };
      to_sender = b.to_sender ∙ ap (λ z. z ++ flows_in config b.replies) flowing ∙ sym (flows_behind config replies b.replies);
      offered = b.offered;
    }

    -- it has not changed, but for bytes that it took
    end_kept : (later : List ℕ) → new.connection ≡ end.connection → new.unsent ≡ end.unsent → new.input.limit ≡ end.input.limit → new.input.stage ≡ end.input.stage
        → new.input.filled ++ (later ++ t.unsent) ≡ end.input.filled ++ (pipe ++ t.unsent) → EndOn config terms new later t taken_now input back_pipe w r
    end_kept later connection unsent limit stage joined_so = record {
      e = e;
      items = items;
      replies = replies;
      world = w;
      plain = x;
      half = record {
        config_is = ap (λ (z : ConnectionState). z.config) connection ∙ h.config_is;
        far = subst (λ (z : ConnectionState). IsFar config terms z w e) (sym connection) h.far;
        out = record { joined = joined_so ∙ h.out.joined; limit = limit ∙ h.out.limit; stage = stage ∙ h.out.stage; leads = h.out.leads; right = h.out.right };
        sender = h.sender;
        to_end = h.to_end;
        given = h.given;
        terms_are = h.terms_are;
        sound = h.sound;
      };
      back = record { joined = ap (λ (z : List ℕ). input.filled ++ (back_pipe ++ z)) unsent ∙ i.joined; limit = i.limit; stage = i.stage; leads = i.leads; said = i.said };
      to_sender = flowing;
      offered = refl;
    }

    -- A feed. -------------------------------------------------------------------------------------------------------------------

    module _ (used : ℕ) (between : SplitterState) (el : between.limit ≡ end.input.limit) (es : between.stage ≡ end.input.stage) (ef : between.filled ≡ end.input.filled ++ take used pipe) where
      fed_kept : IsKept (record end { input = between }) new → EndOn config terms new (drop used pipe) t taken_now input back_pipe w r
      fed_kept k = end_kept (drop used pipe) k.connection k.unsent (k.input.limit ∙ el) (k.input.stage ∙ es)
          (ap (λ (z : List ℕ). z ++ (drop used pipe ++ t.unsent)) (k.input.filled ∙ ef) ∙ taken_bytes end.input.filled pipe t.unsent used)

      fed_acted : (u : StreamUnit) (o : Outcome) → Waits between u → IsActed (record end { input = between }) new u o → IsNoFailure o × EndOn config terms new (drop used pipe) t taken_now input back_pipe w r
      fed_acted u o waits act =
          let s : ConnectionState = end.connection in
          let f = first_item law config terms a end.input between new.input pipe t.unsent used e items (written_at r) u h.out el es ef waits act.input in
          let to_end : w.to_end ≡ map frame_in (words_in (f.item ∷ f.rest)) = h.to_end ∙ ap (λ (z : List Item). map frame_in (words_in z)) f.is in
          let b = becomes law config terms a s h.config_is w x h.sound e (written_at r) f.item f.rest h.far f.leads f.right to_end in
          let by : BecomesBy config terms s w (map frame_in (words_in f.rest)) e b.0 (line_of s u) = subst (λ (z : StreamUnit). BecomesBy config terms s w (map frame_in (words_in f.rest)) e b.0 (line_of s z)) f.unit b.3 in (
            subst (λ (z : Outcome). IsNoFailure z) (sym act.told) (fine_told (acted_after s u) (told_on s (line_of s u)) by.told),
            end_becomes (acted_after s u) b.0 f.rest (drop used pipe) (reply_on s (line_of s u)) [] taken_now act.connection h.config_is act.unsent (sym (append-nil _)) by.becomes
                (record { joined = f.joined; limit = f.limit; stage = f.stage ∙ sym b.2; leads = b.1; right = rights_rest config.max_frame f.item f.rest f.right }),
          )

      fed_by : (u : StreamUnit) (o : Outcome) (room : Bool) → Waits between u → Acts (record end { input = between }) new u room o → IsNoFailure o × EndOn config terms new (drop used pipe) t taken_now input back_pipe w r
      fed_by u o false waits k = (subst (λ (z : Outcome). IsNoFailure z) (sym k.1) tt, fed_kept k.0)
      fed_by u o true waits (inl act) = fed_acted u o waits act
      fed_by u o true waits (inr k) = (subst (λ (z : Outcome). IsNoFailure z) (sym k.1) tt, fed_kept k.0)

    fed_endpoint : (used : ℕ) (o : Outcome) → IsFed end new pipe used o → IsNoFailure o × EndOn config terms new (drop used pipe) t taken_now input back_pipe w r
    fed_endpoint used o fed =
        let y : TakesAndActs end new pipe used o = subst (λ (b : Bool). FeedDone b end new pipe used o) (alive config terms end.connection w e h.far) fed in
        let least : 8 ≤ y.between.limit = omega (arith, y.taken.limit, h.out.limit, a.configured.some_frame) in
        elim (waits_or_not y.between least) [
          | inl k ↦ fed_by used y.between y.taken.limit y.taken.stage y.taken.filled k.0 o (may_act (record end { input = y.between }) k.0) k.1 (y.comes.unit k.0 k.1)
          | inr idle ↦
              let k = y.comes.none idle in
              (subst (λ (z : Outcome). IsNoFailure z) (sym k.1) (fine_none (is_dead end.connection.phase)), fed_kept used y.between y.taken.limit y.taken.stage y.taken.filled k.0)
        ]

  -- What the sender does to the ends. ---------------------------------------------------------------------------------------------

  module _ (old new : SenderState) (end : EndpointState) (pipe : List ℕ) (taken_now : List Handed) (piece : List ℕ) (used : ℕ) (w : World) (x : Plain) (e r : Far) (items : List Item) (replies : List Reply)
      (h : IsHalf config terms end pipe old.sending taken_now w x e items (written_at r)) (d : HasHeard config terms old.sending r) (i : IsInward config terms old.input piece end.unsent r replies (answered_at e))
      (flowing : w.to_sender ≡ flows_in config replies) where
    back_kept : IsUnchanged (taken old.input (take used piece)) new.input → new.sending ≡ old.sending → BackOn config terms new end pipe taken_now (drop used piece) w e
    back_kept u same = record {
      r = r;
      items = items;
      replies = replies;
      world = w;
      plain = x;
      half = subst (λ (z : Sending). IsHalf config terms end pipe z taken_now w x e items (written_at r)) (sym same) h;
      heard = subst (λ (z : Sending). HasHeard config terms z r) (sym same) d;
      back = record {
        joined = ap (λ (z : List ℕ). z ++ (drop used piece ++ end.unsent)) u.filled ∙ taken_bytes old.input.filled piece end.unsent used ∙ i.joined;
        limit = u.limit ∙ i.limit;
        stage = u.stage ∙ i.stage;
        leads = i.leads;
        said = i.said;
      };
      to_sender = flowing;
      offered = refl;
    }

    back_acted : (u : StreamUnit) → Waits (taken old.input (take used piece)) u → IsEmptied (taken old.input (take used piece)) new.input (due_after u) → new.sending ≡ send_after old.sending (Acted u) → BackOn config terms new end pipe taken_now (drop used piece) w e
    back_acted u waits gone same =
        let f = first_reply law config terms a old.input (taken old.input (take used piece)) new.input piece end.unsent used r replies (answered_at e) u i refl refl refl waits gone in
        let k = heard_reply law config terms a end pipe taken_now old.sending w x e r items f.reply f.rest (answered_at e) u h d (flowing ∙ ap (λ (z : List Reply). flows_in config z) f.is) f.leads f.said.0 f.unit in
        record {
          r = k.r;
          items = k.items;
          replies = f.rest;
          world = k.world;
          plain = k.plain;
          half = subst (λ (z : Sending). IsHalf config terms end pipe z taken_now k.world k.plain e k.items (written_at k.r)) (sym same) k.half;
          heard = subst (λ (z : Sending). HasHeard config terms z k.r) (sym same) k.heard;
          back = record { joined = f.joined; limit = f.limit; stage = f.stage ∙ sym k.due; leads = k.leads; said = f.said.1 };
          to_sender = k.to_sender;
          offered = k.offered;
        }

    back_by : (news : Option News) (u : StreamUnit) (room : Bool) → has_room old.sending ≡ room → Waits (taken old.input (take used piece)) u → of_sender.IsFed old new piece used news → BackOn config terms new end pipe taken_now (drop used piece) w e
    back_by news u true e1 waits f = let k = f.acted u waits e1 in back_acted u waits k.0 k.1
    back_by news u false e1 waits f = let k = f.waits e1 in back_kept k.0 k.1

    fed_sender : (news : Option News) → of_sender.IsFed old new piece used news → BackOn config terms new end pipe taken_now (drop used piece) w e
    fed_sender news f =
        let between : SplitterState = taken old.input (take used piece) in
        let least : 8 ≤ between.limit = omega (arith, i.limit) in
        elim (waits_or_not between least) [
          | inl k ↦ back_by news k.0 (has_room old.sending) refl k.1 f
          | inr idle ↦ let k = f.none idle in back_kept k.0 k.1
        ]

  -- The turns. --------------------------------------------------------------------------------------------------------------------

  heard_moved : (s : Sending) (n : ℕ) (r : Far) → HasHeard config terms s r → HasHeard config terms (record s { unsent = drop n s.unsent }) r
  heard_moved s n r d = record { terms_are = d.terms_are; talks = d.talks; numbered = d.numbered; size = d.size; unflowed = d.unflowed }

  heard_offered : (s : Sending) (m : List ℕ) (r : Far) → HasHeard config terms s r → HasHeard config terms (changed s (Offered m)) r
  heard_offered s m r d = record { terms_are = d.terms_are; talks = d.talks; numbered = d.numbered; size = d.size; unflowed = d.unflowed }

  to_endpoint_kept : (s next : Ends) (w : World) (x : Plain) (n : ℕ) (came : Fed) → Paired config terms s w x → IsToEndpoint s next n came → IsTurnKept config terms next w (ToEndpoint n) (answer.EndpointFed came)
  to_endpoint_kept s next w x n came p d =
      let m : ℕ = moved_count s.sender (room_for n s.to_endpoint) in
      let own : Sending = s.sender.sending in
      let t : Sending = record own { unsent = drop m own.unsent } in
      let pipe : List ℕ = s.to_endpoint ++ d.moved in
      let h = p.half in
      let moved : IsHalf config terms s.endpoint pipe t s.taken w x p.e p.items (written_at p.r) = record {
        config_is = h.config_is;
        far = h.far;
        out = record {
          joined = ap (λ (z : List ℕ). s.endpoint.input.filled ++ ((s.to_endpoint ++ z) ++ drop m own.unsent)) d.out.0 ∙ moved_bytes s.endpoint.input.filled s.to_endpoint own.unsent m ∙ h.out.joined;
          limit = h.out.limit;
          stage = h.out.stage;
          leads = h.out.leads;
          right = h.out.right;
        };
        sender = h.sender;
        to_end = h.to_end;
        given = h.given;
        terms_are = h.terms_are;
        sound = h.sound;
      } in
      let k = settled law config terms s.endpoint pipe s.taken t w x p.e p.r p.items moved (heard_moved own m p.r p.heard) in
      let f = fed_endpoint s.endpoint next.endpoint pipe (all_written t) s.taken s.sender.input s.to_sender k.stepped.world k.stepped.plain p.e p.r k.stepped.items p.replies k.stepped.half p.back (k.stepped.to_sender ∙ p.to_sender)
      came.used came.outcome d.fed in
      let same = same_ends next (does_send s.sender (Moved m)) (drop came.used pipe) s.to_sender s.taken d.out.1 d.pipe d.other d.taken in
      record {
        well = f.0;
        world = f.1.world;
        plain = f.1.plain;
        paired = subst (λ (z : Ends). Paired config terms z f.1.world f.1.plain) (sym same)
            (record { e = f.1.e; r = p.r; items = f.1.items; replies = f.1.replies; half = f.1.half; heard = k.heard; back = f.1.back; to_sender = f.1.to_sender });
        within = within f.1.world f.1.plain f.1.half.sound;
        offered = f.1.offered ∙ k.stepped.offered ∙ sym (append-nil w.offered);
      }

  to_sender_kept : (s next : Ends) (w : World) (x : Plain) (n used : ℕ) (news : Option News) → Paired config terms s w x → IsToSender s next n used news → IsTurnKept config terms next w (ToSender n) (answer.SenderFed used news)
  to_sender_kept s next w x n used news p d =
      let m : ℕ = room_for n s.to_sender in
      let piece : List ℕ = s.to_sender ++ d.moved in
      let h = p.half in
      let moved : IsHalf config terms next.endpoint s.to_endpoint s.sender.sending s.taken w x p.e p.items (written_at p.r) = record {
        config_is = ap (λ (z : ConnectionState). z.config) d.out.connection ∙ h.config_is;
        far = subst (λ (z : ConnectionState). IsFar config terms z w p.e) (sym d.out.connection) h.far;
        out = record {
          joined = ap (λ (z : List ℕ). z ++ (s.to_endpoint ++ s.sender.sending.unsent)) d.out.input.filled ∙ h.out.joined;
          limit = d.out.input.limit ∙ h.out.limit;
          stage = d.out.input.stage ∙ h.out.stage;
          leads = h.out.leads;
          right = h.out.right;
        };
        sender = h.sender;
        to_end = h.to_end;
        given = h.given;
        terms_are = h.terms_are;
        sound = h.sound;
      } in
      let back : IsInward config terms s.sender.input piece next.endpoint.unsent p.r p.replies (answered_at p.e) = record {
        joined = ap (λ (z : List ℕ). s.sender.input.filled ++ ((s.to_sender ++ z) ++ next.endpoint.unsent)) d.out.moved ∙ ap (λ (z : List ℕ). s.sender.input.filled ++ ((s.to_sender ++ take m s.endpoint.unsent) ++ z)) d.out.unsent
            ∙ moved_bytes s.sender.input.filled s.to_sender s.endpoint.unsent m ∙ p.back.joined;
        limit = p.back.limit;
        stage = p.back.stage;
        leads = p.back.leads;
        said = p.back.said;
      } in
      let f = fed_sender s.sender next.sender next.endpoint s.to_endpoint s.taken piece used w x p.e p.r p.items p.replies moved p.heard back p.to_sender news d.fed in
      let same = same_ends next next.sender s.to_endpoint (drop used piece) s.taken refl d.other d.pipe d.taken in
      record {
        well = tt;
        world = f.world;
        plain = f.plain;
        paired = subst (λ (z : Ends). Paired config terms z f.world f.plain) (sym same)
            (record { e = p.e; r = f.r; items = f.items; replies = f.replies; half = f.half; heard = f.heard; back = f.back; to_sender = f.to_sender });
        within = within f.world f.plain f.half.sound;
        offered = f.offered ∙ sym (append-nil w.offered);
      }

  -- A call. -----------------------------------------------------------------------------------------------------------------------

  asked_on : (s next : Ends) (w : World) (more : List Handed) (p_r : Far) (heard : HasHeard config terms s.sender.sending p_r) → IsEndpointAlone s next more
      → EndOn config terms next.endpoint s.to_endpoint s.sender.sending (s.taken ++ more) s.sender.input s.to_sender w p_r → AskedOn config terms next w
  asked_on s next w more r heard alone f =
      let same = same_ends next s.sender s.to_endpoint s.to_sender (s.taken ++ more) alone.sender alone.to_endpoint alone.to_sender alone.taken in
      record {
        world = f.world;
        plain = f.plain;
        paired = subst (λ (z : Ends). Paired config terms z f.world f.plain) (sym same)
            (record { e = f.e; r = r; items = f.items; replies = f.replies; half = f.half; heard = heard; back = f.back; to_sender = f.to_sender });
        offered = f.offered;
      }

  -- it is refused
  refused_kept : (s next : Ends) (w : World) (x : Plain) → Paired config terms s w x → IsKept s.endpoint next.endpoint → IsEndpointAlone s next [] → AskedOn config terms next w
  refused_kept s next w x p k alone =
      let f = end_kept s.endpoint next.endpoint s.to_endpoint s.sender.sending s.taken s.sender.input s.to_sender w x p.e p.r p.items p.replies p.half p.back p.to_sender s.to_endpoint k.connection k.unsent k.input.limit k.input.stage
      (ap (λ (z : List ℕ). z ++ (s.to_endpoint ++ s.sender.sending.unsent)) k.input.filled) in
      asked_on s next w [] p.r p.heard alone (subst (λ (z : List Handed). EndOn config terms next.endpoint s.to_endpoint s.sender.sending z s.sender.input s.to_sender w p.r) (sym (append-nil s.taken)) f)

  -- it is accepted
  accepted_kept : (s next : Ends) (w : World) (x : Plain) (c : session.Call) (more : List Handed) (p : Paired config terms s w x) → IsWritten s.endpoint next.endpoint (call_event s.endpoint.connection 0 c) (joined (call_spoken s.endpoint.connection 0 c))
      → IsEndpointAlone s next more
      → Becomes config terms (connection_after s.endpoint.connection (call_event s.endpoint.connection 0 c)) w w.to_end p.e p.e (joined (call_spoken s.endpoint.connection 0 c)) (map (λ (d : Handed). d.message) more) → AskedOn config terms next w
  accepted_kept s next w x c more p k alone b =
      let h = p.half in
      let out : IsOutward config terms next.endpoint.input s.to_endpoint s.sender.sending.unsent p.e p.items (written_at p.r) = record {
        joined = ap (λ (z : List ℕ). z ++ (s.to_endpoint ++ s.sender.sending.unsent)) k.input.filled ∙ h.out.joined;
        limit = k.input.limit ∙ h.out.limit;
        stage = k.input.stage ∙ h.out.stage;
        leads = h.out.leads;
        right = h.out.right;
      } in
      let next_connection : ConnectionState = connection_after s.endpoint.connection (call_event s.endpoint.connection 0 c) in
      let bytes : List ℕ = joined (call_spoken s.endpoint.connection 0 c) in
      let handed : List (List ℕ) = map (λ (d : Handed). d.message) more in
      let here : Becomes config terms next_connection w (map frame_in (words_in p.items)) p.e p.e bytes handed = subst (λ (z : List Frame). Becomes config terms next_connection w z p.e p.e bytes handed) h.to_end b in
      asked_on s next w more p.r p.heard alone
      (end_becomes s.endpoint next.endpoint s.to_endpoint s.sender.sending s.taken s.sender.input s.to_sender w x p.e p.r p.items p.replies h p.back p.to_sender next_connection p.e p.items s.to_endpoint bytes handed (s.taken ++ more)
      k.connection h.config_is k.unsent (map-append (λ (d : Handed). d.message) s.taken more) here out)

  turn_of_asked : (s next : Ends) (w : World) (c : session.Call) (b : TurnAnswer) → offered_by (Ask c) b ≡ [] → IsWell b → AskedOn config terms next w → IsTurnKept config terms next w (Ask c) b
  turn_of_asked s next w c b none well k = record {
    well = well;
    world = k.world;
    plain = k.plain;
    paired = k.paired;
    within = within k.world k.plain k.paired.half.sound;
    offered = k.offered ∙ sym (append-nil w.offered) ∙ ap (λ (z : List (List ℕ)). w.offered ++ z) (sym none);
  }

  -- it hands up nothing that such a call hands up
  not_handed : (d : Handed) (z : of_endpoint.Answer) → HandedUp d ≡ z → z ≡ of_endpoint.Accepted → ⊥
  not_handed d z e f = let k : HandedUp d ≡ of_endpoint.Accepted = e ∙ f in absurd (cc k)

  accepted_ask : (s next : Ends) (w : World) (x : Plain) (c : session.Call) (p : Paired config terms s w x) → IsOfLink c → IsAsked s next c of_endpoint.Accepted [] → AskedOn config terms next w
  accepted_ask s next w x (Widen n) p fair d =
      accepted_kept s next w x (Widen n) [] p d.does.1 d.rest (widen_becomes law config terms s.endpoint.connection w x p.half.sound s.endpoint.unsent p.e n p.half.far d.does.0)
  accepted_ask s next w x (Grant handle n) p fair d =
      let k : IsAsked s next (Grant 0 n) of_endpoint.Accepted [] = subst (λ (z : ℕ). IsAsked s next (Grant z n) of_endpoint.Accepted []) fair d in
      accepted_kept s next w x (Grant 0 n) [] p k.does.1 k.rest (grant_becomes law config terms s.endpoint.connection w x p.half.sound s.endpoint.unsent p.e n p.half.far k.does.0)
  accepted_ask s next w x (Drain handle) p fair d =
      let k : IsAsked s next (Drain 0) of_endpoint.Accepted [] = subst (λ (z : ℕ). IsAsked s next (Drain z) of_endpoint.Accepted []) fair d in
      accepted_kept s next w x (Drain 0) [] p k.does.1 k.rest (drain_becomes law config terms s.endpoint.connection w x p.half.sound s.endpoint.unsent p.e p.half.far k.does.0)
  accepted_ask s next w x (Take handle) p fair d =
      let k : IsAsked s next (Take 0) of_endpoint.Accepted [] = subst (λ (z : ℕ). IsAsked s next (Take z) of_endpoint.Accepted []) fair d in
      let b = take_becomes law config terms s.endpoint.connection w x p.half.sound s.endpoint.unsent p.e p.half.far k.does.0 in
      absurd (not_handed b.handed of_endpoint.Accepted (sym b.answer ∙ sym k.does.2) refl)
  accepted_ask s next w x (Settle id outcome) p fair d =
      accepted_kept s next w x (Settle id outcome) [] p d.does.1 d.rest (settle_becomes law config terms s.endpoint.connection w x p.half.sound s.endpoint.unsent p.e id outcome fair p.half.far d.does.0)
  accepted_ask s next w x (SettleRange first last outcome) p fair d = absurd fair
  accepted_ask s next w x (Detach handle) p fair d = absurd fair
  accepted_ask s next w x (Refuse handle r) p fair d = absurd fair
  accepted_ask s next w x (SettleWith id r) p fair d = absurd fair
  accepted_ask s next w x (SettleRangeWith first last r) p fair d = absurd fair

  handed_same : (d b : Handed) → HandedUp d ≡ HandedUp b → d ≡ b
  handed_same d b e = ap (λ (z : of_endpoint.Answer). handed_or d z) e

  handed_ask : (s next : Ends) (w : World) (x : Plain) (c : session.Call) (b : Handed) (p : Paired config terms s w x) → IsOfLink c → IsAsked s next c (HandedUp b) (b ∷ []) → AskedOn config terms next w
  handed_ask s next w x (Widen n) b p fair d = absurd (not_handed b _ d.does.2 (widen_answer (slot_at s.endpoint.connection 0) n))
  handed_ask s next w x (Grant handle n) b p fair d =
      let k : IsAsked s next (Grant 0 n) (HandedUp b) (b ∷ []) = subst (λ (z : ℕ). IsAsked s next (Grant z n) (HandedUp b) (b ∷ [])) fair d in
      absurd (not_handed b _ k.does.2 (grant_answer (slot_at s.endpoint.connection 0) n))
  handed_ask s next w x (Drain handle) b p fair d =
      let k : IsAsked s next (Drain 0) (HandedUp b) (b ∷ []) = subst (λ (z : ℕ). IsAsked s next (Drain z) (HandedUp b) (b ∷ [])) fair d in
      absurd (not_handed b _ k.does.2 (drain_answer (slot_at s.endpoint.connection 0)))
  handed_ask s next w x (Take handle) b p fair d =
      let k : IsAsked s next (Take 0) (HandedUp b) (b ∷ []) = subst (λ (z : ℕ). IsAsked s next (Take z) (HandedUp b) (b ∷ [])) fair d in
      let y = take_becomes law config terms s.endpoint.connection w x p.half.sound s.endpoint.unsent p.e p.half.far k.does.0 in
      let same : y.handed ≡ b = handed_same y.handed b (sym y.answer ∙ sym k.does.2) in
      accepted_kept s next w x (Take 0) (b ∷ []) p k.does.1 k.rest
      (subst (λ (z : Handed). Becomes config terms (connection_after s.endpoint.connection (call_event s.endpoint.connection 0 (Take 0))) w w.to_end p.e p.e (joined (call_spoken s.endpoint.connection 0 (Take 0))) (z.message ∷ [])) same y.becomes)
  handed_ask s next w x (Settle id outcome) b p fair d = absurd (not_handed b _ d.does.2 (settle_answer (slot_at s.endpoint.connection 0) id outcome))
  handed_ask s next w x (SettleRange first last outcome) b p fair d = absurd fair
  handed_ask s next w x (Detach handle) b p fair d = absurd fair
  handed_ask s next w x (Refuse handle r) b p fair d = absurd fair
  handed_ask s next w x (SettleWith id r) b p fair d = absurd fair
  handed_ask s next w x (SettleRangeWith first last r) b p fair d = absurd fair

  -- An offer. ---------------------------------------------------------------------------------------------------------------------

  none_waits : (t : Talk) (m : Option Message) → fault_at t m ≡ None → m ≡ None
  none_waits t None e = refl
  none_waits talk.Silent (Some m) e = absurd (cc e)
  none_waits talk.Talking (Some m) e = absurd (cc e)
  none_waits talk.Closing (Some m) e = absurd (cc e)
  none_waits (talk.Ended c) (Some m) e = absurd (cc e)

  busy_at : (r : Far) (m : Option Message) (f : OfferFault) → fault_at (talk_at r) m ≡ Some f → IsWell (answer.NotTakenOver f)
  busy_at AwaitsHeader None f e = subst (λ (z : Option OfferFault). well_of z) e tt
  busy_at AwaitsHeader (Some m) f e = subst (λ (z : Option OfferFault). well_of z) e tt
  busy_at AwaitsOpen None f e = subst (λ (z : Option OfferFault). well_of z) e tt
  busy_at AwaitsOpen (Some m) f e = subst (λ (z : Option OfferFault). well_of z) e tt
  busy_at AwaitsBegin None f e = subst (λ (z : Option OfferFault). well_of z) e tt
  busy_at AwaitsBegin (Some m) f e = subst (λ (z : Option OfferFault). well_of z) e tt
  busy_at AwaitsAttach None f e = subst (λ (z : Option OfferFault). well_of z) e tt
  busy_at AwaitsAttach (Some m) f e = subst (λ (z : Option OfferFault). well_of z) e tt
  busy_at Goes None f e = subst (λ (z : Option OfferFault). well_of z) e tt
  busy_at Goes (Some m) f e = subst (λ (z : Option OfferFault). well_of z) e tt

  offer_kept : (s next : Ends) (w : World) (x : Plain) (m : List ℕ) → length m ≤ (Rattle.amqp_endpoint.specs.Configs.bounds_for config terms.name).max_message_size → length w.offered + 1 ≤ 2 ^ 32 → Paired config terms s w x
      → IsOffered s next m of_sender.TakenOver → IsTurnKept config terms next w (Offer m) answer.TakenOver
  offer_kept s next w x m fair room p d =
      let own : Sending = s.sender.sending in
      let t : Sending = changed own (Offered m) in
      let h = p.half in
      let none : own.message ≡ None = none_waits own.talk own.message d.does.0 in
      let v : World = record w { offered = w.offered ++ m ∷ []; sender = sender_of t } in
      let k = law.step w x (level.Offer m) (subst (λ (z : Terms). length m ≤ z.bounds.max_message_size) (sym h.terms_are) fair, omega (arith, room)) h.sound in
      let goes : happens w (level.Offer m) ≡ v =
      ap (λ (z : Option (List ℕ)). offers w z m) (ap (λ (z : level.Sender). z.waiting) h.sender ∙ ap (λ (z : Option Message). option_map (λ (y : Message). y.rest) z) none)
      ∙ ap (λ (z : level.Sender). record w { offered = w.offered ++ m ∷ []; sender = record z { waiting = Some m; begun = false } }) h.sender in
      let half : IsHalf config terms s.endpoint s.to_endpoint t s.taken v k.0 p.e p.items (written_at p.r) = record {
        config_is = h.config_is;
        far = Rattle.amqp_pair.proofs.Stepped.far_as config terms s.endpoint.connection w v p.e refl refl refl h.far;
        out = record { joined = h.out.joined; limit = h.out.limit; stage = h.out.stage; leads = h.out.leads; right = h.out.right };
        sender = refl;
        to_end = h.to_end;
        given = h.given;
        terms_are = h.terms_are;
        sound = subst (λ (z : World). Inv z k.0) goes k.1;
      } in
      let f = settled law config terms s.endpoint s.to_endpoint s.taken t v k.0 p.e p.r p.items half (heard_offered own m p.r p.heard) in
      let there : Ends = record { sender = does_send s.sender (Offered m); endpoint = s.endpoint; to_endpoint = s.to_endpoint; to_sender = s.to_sender; taken = s.taken } in
      let same : next ≡ there =
      same_ends next (does_send s.sender (Offered m)) s.to_endpoint s.to_sender s.taken d.does.1 d.rest.to_endpoint d.rest.to_sender d.rest.taken ∙ ap (λ (z : EndpointState). record there { endpoint = z }) d.rest.endpoint in
      record {
        well = tt;
        world = f.stepped.world;
        plain = f.stepped.plain;
        paired = subst (λ (z : Ends). Paired config terms z f.stepped.world f.stepped.plain) (sym same)
            (record { e = p.e; r = p.r; items = f.stepped.items; replies = p.replies; half = f.stepped.half; heard = f.heard; back = p.back; to_sender = f.stepped.to_sender ∙ p.to_sender });
        within = within f.stepped.world f.stepped.plain f.stepped.half.sound;
        offered = f.stepped.offered;
      }

  refuse_kept : (s next : Ends) (w : World) (x : Plain) (m : List ℕ) (f : OfferFault) → Paired config terms s w x → IsOffered s next m (of_sender.Refused f) → IsTurnKept config terms next w (Offer m) (answer.NotTakenOver f)
  refuse_kept s next w x m f p d =
      let same : next ≡ s = same_ends next s.sender s.to_endpoint s.to_sender s.taken d.does.1 d.rest.to_endpoint d.rest.to_sender d.rest.taken ∙ ap (λ (z : EndpointState). record s { endpoint = z }) d.rest.endpoint in
      record {
        well = busy_at p.r s.sender.sending.message f (ap (λ (z : Talk). fault_at z s.sender.sending.message) (sym p.heard.talks) ∙ d.does.0);
        world = w;
        plain = x;
        paired = subst (λ (z : Ends). Paired config terms z w x) (sym same) p;
        within = within w x p.half.sound;
        offered = sym (append-nil w.offered);
      }

-- Each of them. -------------------------------------------------------------------------------------------------------------------

pub turn_kept : Below → TurnLaw
turn_kept law config terms s next w x (Offer m) answer.TakenOver a fair room p d = offer_kept law config terms a s next w x m fair (omega (arith, room)) p d
turn_kept law config terms s next w x (Offer m) (answer.NotTakenOver f) a fair room p d = refuse_kept law config terms a s next w x m f p d
turn_kept law config terms s next w x (ToEndpoint n) (answer.EndpointFed came) a fair room p d = to_endpoint_kept law config terms a s next w x n came p d
turn_kept law config terms s next w x (ToSender n) (answer.SenderFed used news) a fair room p d = to_sender_kept law config terms a s next w x n used news p d
turn_kept law config terms s next w x (Ask c) answer.Accepted a fair room p d = turn_of_asked law config terms a s next w c answer.Accepted refl tt (accepted_ask law config terms a s next w x c p fair d)
turn_kept law config terms s next w x (Ask c) answer.HandedUp a fair room p d = turn_of_asked law config terms a s next w c answer.HandedUp refl tt (handed_ask law config terms a s next w x c d.0 p fair d.1)
turn_kept law config terms s next w x (Ask c) (answer.Refused f) a fair room p d = turn_of_asked law config terms a s next w c (answer.Refused f) refl tt (refused_kept law config terms a s next w x p d.does.1 d.rest)
turn_kept law config terms s next w x (Offer m) (answer.EndpointFed fed) a fair room p d = absurd d
turn_kept law config terms s next w x (Offer m) (answer.SenderFed used news) a fair room p d = absurd d
turn_kept law config terms s next w x (Offer m) answer.Accepted a fair room p d = absurd d
turn_kept law config terms s next w x (Offer m) answer.HandedUp a fair room p d = absurd d
turn_kept law config terms s next w x (Offer m) (answer.Refused f) a fair room p d = absurd d
turn_kept law config terms s next w x (ToEndpoint n) answer.TakenOver a fair room p d = absurd d
turn_kept law config terms s next w x (ToEndpoint n) (answer.NotTakenOver f) a fair room p d = absurd d
turn_kept law config terms s next w x (ToEndpoint n) (answer.SenderFed used news) a fair room p d = absurd d
turn_kept law config terms s next w x (ToEndpoint n) answer.Accepted a fair room p d = absurd d
turn_kept law config terms s next w x (ToEndpoint n) answer.HandedUp a fair room p d = absurd d
turn_kept law config terms s next w x (ToEndpoint n) (answer.Refused f) a fair room p d = absurd d
turn_kept law config terms s next w x (ToSender n) answer.TakenOver a fair room p d = absurd d
turn_kept law config terms s next w x (ToSender n) (answer.NotTakenOver f) a fair room p d = absurd d
turn_kept law config terms s next w x (ToSender n) (answer.EndpointFed fed) a fair room p d = absurd d
turn_kept law config terms s next w x (ToSender n) answer.Accepted a fair room p d = absurd d
turn_kept law config terms s next w x (ToSender n) answer.HandedUp a fair room p d = absurd d
turn_kept law config terms s next w x (ToSender n) (answer.Refused f) a fair room p d = absurd d
turn_kept law config terms s next w x (Ask c) answer.TakenOver a fair room p d = absurd d
turn_kept law config terms s next w x (Ask c) (answer.NotTakenOver f) a fair room p d = absurd d
turn_kept law config terms s next w x (Ask c) (answer.EndpointFed fed) a fair room p d = absurd d
turn_kept law config terms s next w x (Ask c) (answer.SenderFed used news) a fair room p d = absurd d
