-- What a sender hears of its endpoint keeps how the two ends stand.
use Rattle.std.proofs.Common.{◌≡◌, ℕ, ◌^◌, ◌<◌, ◌≤◌, Bool, true, false, cond, List, [], ◌∷◌, ◌++◌, length, map, take, drop, Some, refl, sym, ap, subst, ◌∙◌, arith, append-nil}
use Rattle.std.specs.List.{flat_map}
use Rattle.amqp_frame.specs.Splits.{SplitterState, Waits, IsEmptied}
use Rattle.amqp_frame.specs.Units.{StreamUnit, HeaderUnit, FrameUnit, bytes_of, AreUnits, due_after}
use Rattle.amqp_frame.specs.declared.units.Stage.{Stage}
use Rattle.amqp_frame.specs.declared.units.Stage.TheVariants.{Frames}
use Rattle.amqp_frame.specs.declared.units.TheConstants.{HEADER}
use Rattle.amqp_perform.specs.Said.{Said, said_frame}
use Rattle.amqp_session.specs.Frames as of_session
use Rattle.amqp_endpoint.specs.Configs.{Configured, bounds_for}
use Rattle.amqp_endpoint.specs.Connections.{lesser}
use Rattle.amqp_endpoint.specs.Replies as of_endpoint
use Rattle.amqp_endpoint.specs.Runs.{Handed}
use Rattle.amqp_endpoint.specs.Steps.{EndpointState}
use Rattle.amqp_endpoint.proofs.Replies.{open_most, begin_most, attach_most, flow_most, link_flow_most, disposition_most}
use Rattle.amqp_send.specs.declared.talk.Talk.{Talk}
use Rattle.amqp_send.specs.declared.talk.Talk.TheVariants as talk
use Rattle.amqp_send.specs.declared.telling.Telling.{Telling}
use Rattle.amqp_send.specs.declared.telling.Telling.TheVariants.{Nothing, Opened, Begun, Flowed, Disposed}
use Rattle.amqp_send.specs.Flows.{opened}
use Rattle.amqp_send.specs.Sendings.{SendTerms, Sending, Acted, frame, opening, greeted, heard, heard_in, send_after, all_written}
use Rattle.amqp_send.specs.Tellings.{told_of}
use Rattle.amqp_pair.specs.Called.{flow_speaks}
use Rattle.amqp_pair.specs.Heard.{flow_tells, begin_flow}
use Rattle.amqp_pair.specs.Items.{Far, AwaitsOpen, AwaitsBegin, Goes, due_at, Item, OwnOpen, OwnBegin, OwnAttach, item_unit, words_in, written_at, Reply, ItsHeader, ItsOpen, ItsBegin, ItsAttach, States, Disposes, begun_with, reply_unit, flows_in, LeadsBack, IsSaid, AreSaid}
use Rattle.amqp_pair.specs.Paired.{talk_at, IsUnflowed, HasHeard, IsInward, IsHalf}
use Rattle.amqp_pair.specs.Reading.{attaching_of}
use Rattle.amqp_pair.specs.Served.{AreTerms}
use Rattle.amqp_pair.specs.Spoken.{frame_unit, IsOnWay}
use Rattle.amqp_pair.specs.Words.{Word, AreRight, frame_in, sender_of, Steps}
use Rattle.amqp_pair.specs.World.{World, Flow, Plain}
use Rattle.amqp_pair.proofs.Below.{Below}
use Rattle.amqp_pair.proofs.Items.{more_bytes, units_joined, cons_of, leads_behind, words_behind, reply_due, replies_units, lesser_none}
use Rattle.amqp_pair.proofs.Stepped.{IsSame, step_half, settled}
use Rattle.amqp_pair.proofs.Ways.{takes, acts}

-- The unit that waits is the first of those on their way. ------------------------------------------------------------------

pub record IsFirst (config : Configured) (terms : SendTerms) (new : SplitterState) (pipe unsent : List ℕ) (r : Far) (replies : List Reply) (g : Far) (u : StreamUnit) : Type 0 where
  pub reply : Reply
  pub rest : List Reply
  pub is : replies ≡ reply ∷ rest
  pub unit : reply_unit config terms reply ≡ u
  pub leads : LeadsBack r (reply ∷ rest) g
  pub said : AreSaid (reply ∷ rest)
  pub joined : new.filled ++ (pipe ++ unsent) ≡ flat_map bytes_of (map (reply_unit config terms) rest)
  pub limit : new.limit ≡ 4096
  pub stage : new.stage ≡ Frames

module _ (law : Below) (config : Configured) (terms : SendTerms) (a : AreTerms config terms) where
  pub first_reply : (input between new : SplitterState) (pipe unsent : List ℕ) (used : ℕ) (r : Far) (replies : List Reply) (g : Far) (u : StreamUnit) → IsInward config terms input pipe unsent r replies g
      → between.limit ≡ input.limit → between.stage ≡ input.stage → between.filled ≡ input.filled ++ take used pipe → Waits between u → IsEmptied between new (due_after u)
      → IsFirst config terms new (drop used pipe) unsent r replies g u
  first_reply input between new pipe unsent used r replies g u i el es ef waits gone =
      let way : List StreamUnit = map (reply_unit config terms) replies in
      let each : AreUnits input.limit input.stage way =
      subst (λ (z : ℕ). AreUnits z input.stage way) (sym i.limit) (subst (λ (z : Stage). AreUnits 4096 z way) (sym i.stage) (replies_units law config terms r g replies a i.leads)) in
      let on_way : IsOnWay between (drop used pipe) unsent way = takes input between pipe unsent way used el es ef (record { joined = i.joined; each = each }) in
      let least : 8 ≤ between.limit = omega (arith, el, i.limit) in
      let k = acts law.apart law.some between new (drop used pipe) unsent way u least waits gone on_way in
      let c = cons_of (reply_unit config terms) replies u k.0 k.1 in
      record {
        reply = c.first;
        rest = c.rest;
        is = c.is;
        unit = c.unit;
        leads = subst (λ (z : List Reply). LeadsBack r z g) c.is i.leads;
        said = subst (λ (z : List Reply). AreSaid z) c.is i.said;
        joined = k.2.joined ∙ ap (λ (z : List StreamUnit). flat_map bytes_of z) (sym c.others);
        limit = gone.limit ∙ el ∙ i.limit;
        stage = gone.stage ∙ ap due_after (sym c.unit) ∙ reply_due config terms c.first;
      }

-- What it hears. --------------------------------------------------------------------------------------------------------------

pub record IsHeardOn (config : Configured) (terms : SendTerms) (end : EndpointState) (pipe : List ℕ) (t : Sending) (taken : List Handed) (w : World) (e : Far) (rest : List Reply) (g : Far) : Type 0 where
  pub r : Far
  pub items : List Item
  pub world : World
  pub plain : Plain
  pub half : IsHalf config terms end pipe t taken world plain e items (written_at r)
  pub heard : HasHeard config terms t r
  pub leads : LeadsBack r rest g
  pub to_sender : world.to_sender ≡ flows_in config rest
  pub offered : world.offered ≡ w.offered
  pub due : due_at r ≡ Frames

-- a sender of which something else has changed
pub half_with : (config : Configured) (terms : SendTerms) (end : EndpointState) (pipe : List ℕ) (s t : Sending) (taken : List Handed) (w : World) (x : Plain) (e : Far) (items : List Item) (f : Far)
    → t.unsent ≡ s.unsent → sender_of t ≡ sender_of s → IsHalf config terms end pipe s taken w x e items f → IsHalf config terms end pipe t taken w x e items f
half_with config terms end pipe s t taken w x e items f u same h = record {
  config_is = h.config_is;
  far = h.far;
  out = record { joined = ap (λ (z : List ℕ). end.input.filled ++ (pipe ++ z)) u ∙ h.out.joined; limit = h.out.limit; stage = h.out.stage; leads = h.out.leads; right = h.out.right };
  sender = h.sender ∙ sym same;
  to_end = h.to_end;
  given = h.given;
  terms_are = h.terms_are;
  sound = h.sound;
}

module _ (law : Below) (config : Configured) (terms : SendTerms) (a : AreTerms config terms) (end : EndpointState) (pipe : List ℕ) (taken : List Handed) where
  -- all is written behind a change
  then_written : (s t : Sending) (w v : World) (x : Plain) (e r : Far) (items : List Item) (rest : List Reply) (g : Far) → t ≡ all_written s → IsHalf config terms end pipe s taken v x e items (written_at r) → HasHeard config terms s r
      → LeadsBack r rest g → v.to_sender ≡ flows_in config rest → v.offered ≡ w.offered → due_at r ≡ Frames → IsHeardOn config terms end pipe t taken w e rest g
  then_written s t w v x e r items rest g is h d leads to_sender offered due =
      let k = settled law config terms end pipe taken s v x e r items h d in
      subst (λ (z : Sending). IsHeardOn config terms end pipe z taken w e rest g) (sym is)
      (record {
        r = r;
        items = k.stepped.items;
        world = k.stepped.world;
        plain = k.stepped.plain;
        half = k.stepped.half;
        heard = k.heard;
        leads = leads;
        to_sender = k.stepped.to_sender ∙ to_sender;
        offered = k.stepped.offered ∙ offered;
        due = due;
      })

  -- turns of the message level
  then_stepped : (s t own : Sending) (w : World) (fs : List Flow) (x : Plain) (e : Far) (items : List Item) (rest : List Reply) (g : Far) → t ≡ own → IsHalf config terms end pipe s taken w x e items Goes → s.terms ≡ terms → s.talk ≡ talk.Talking
      → s.flow.max_frame_size ≤ config.max_frame → Rattle.amqp_pair.specs.Words.IsNumbered s.flow → Steps s own w (record w { to_sender = fs }) → LeadsBack Goes rest g → fs ≡ flows_in config rest
      → IsHeardOn config terms end pipe t taken w e rest g
  then_stepped s t own w fs x e items rest g is h terms_are talks size numbered k leads to_sender =
      let v : World = record w { to_sender = fs } in
      let same : IsSame w v = record { to_end = refl; link = refl; places = refl; next = refl; given = refl; offered = refl } in
      let p = step_half law config terms end pipe taken s own w v x e items h same numbered size k in
      subst (λ (z : Sending). IsHeardOn config terms end pipe z taken w e rest g) (sym is)
      (record {
        r = Goes;
        items = p.items;
        world = p.world;
        plain = p.plain;
        half = p.half;
        heard = record { terms_are = k.terms ∙ terms_are; talks = k.talk ∙ talks; numbered = k.numbered numbered; size = omega (arith, k.size, size); unflowed = tt };
        leads = leads;
        to_sender = p.to_sender ∙ to_sender;
        offered = p.offered;
        due = refl;
      })

  -- the state that it comes to, by what it is told
  told_so : (s : Sending) (r : Far) (u : StreamUnit) (own : StreamUnit) (t : Telling) (k : Talk) → HasHeard config terms s r → own ≡ u → told_of own ≡ t → talk_at r ≡ k → send_after s (Acted u) ≡ all_written (heard_in k t s)
  told_so s r u own t k d is told at =
      ap (λ (z : StreamUnit). all_written (heard_in s.talk (told_of z) s)) (sym is) ∙ ap (λ (z : Telling). all_written (heard_in s.talk z s)) told ∙ ap (λ (z : Talk). all_written (heard_in z t s)) (d.talks ∙ at)

  -- The opening. ----------------------------------------------------------------------------------------------------------------

  -- its items behind those on their way
  opened_half : (s t : Sending) (w : World) (x : Plain) (e : Far) (items : List Item) → t.unsent ≡ s.unsent ++ flat_map frame (opening terms) → sender_of t ≡ sender_of s → IsHalf config terms end pipe s taken w x e items AwaitsOpen
      → IsHalf config terms end pipe t taken w x e (items ++ OwnOpen ∷ OwnBegin ∷ OwnAttach ∷ []) Goes
  opened_half s t w x e items u same h =
      let more : List Item = OwnOpen ∷ OwnBegin ∷ OwnAttach ∷ [] in
      let among : words_in (items ++ more) ≡ words_in items = words_behind items more ∙ append-nil (words_in items) in
      record {
        config_is = h.config_is;
        far = h.far;
        out = record {
          joined = ap (λ (z : List ℕ). end.input.filled ++ (pipe ++ z)) u
              ∙ more_bytes end.input.filled pipe s.unsent _ _ _ h.out.joined refl ∙ sym (units_joined (item_unit terms) items more);
          limit = h.out.limit;
          stage = h.out.stage;
          leads = leads_behind e AwaitsOpen Goes items more h.out.leads (refl, (refl, (refl, refl)));
          right = subst (λ (z : List Word). AreRight config.max_frame z) (sym among) h.out.right;
        };
        sender = h.sender ∙ sym same;
        to_end = h.to_end ∙ ap (λ (z : List Word). map frame_in z) (sym among);
        given = h.given;
        terms_are = h.terms_are;
        sound = h.sound;
      }

  -- One reply more. -------------------------------------------------------------------------------------------------------------

  few : (x : Said) (n : ℕ) → n ≤ 1600 → Rattle.amqp_endpoint.specs.Lengths.said_most x ≤ n → length (said_frame 0 x []) < 2 ^ 32
  few x n le most = omega (arith, law.long 0 x, le, most)

  flow_told : (b : Bool) (next window count credit : ℕ) (drain : Bool) → next < 2 ^ 32 → window < 2 ^ 32 → count < 2 ^ 32 → credit < 2 ^ 32
      → told_of (FrameUnit (said_frame 0 (cond b (of_session.link_flow_said next window 0 count credit drain) (of_session.flow_said next window)) []))
      ≡ Flowed (record { next_incoming_id = next; incoming_window = window; of_link = b; delivery_count = cond b count 0; link_credit = cond b credit 0; drain = cond b drain false; echo = false })
  flow_told true next window count credit drain n w c k =
      (law.link_flow_tells next window count credit drain n w c k).tells (few (of_session.link_flow_said next window 0 count credit drain) 400 (omega arith) (link_flow_most next window 0 count credit drain))
  flow_told false next window count credit drain n w c k =
      (law.flow_tells next window n w).tells (few (of_session.flow_said next window) 400 (omega arith) (flow_most next window))

  pub heard_reply : (s : Sending) (w : World) (x : Plain) (e r : Far) (items : List Item) (reply : Reply) (rest : List Reply) (g : Far) (u : StreamUnit) → IsHalf config terms end pipe s taken w x e items (written_at r)
      → HasHeard config terms s r → w.to_sender ≡ flows_in config (reply ∷ rest) → LeadsBack r (reply ∷ rest) g → IsSaid reply → reply_unit config terms reply ≡ u
      → IsHeardOn config terms end pipe (send_after s (Acted u)) taken w e rest g
  heard_reply s w x e r items ItsHeader rest g u h d to_sender l said is =
      let t : Sending = greeted Nothing s in
      let own : IsHalf config terms end pipe s taken w x e items AwaitsOpen = subst (λ (z : Far). IsHalf config terms end pipe s taken w x e items z) (ap written_at l.0) h in
      then_written t (send_after s (Acted u)) w w x e AwaitsOpen (items ++ OwnOpen ∷ OwnBegin ∷ OwnAttach ∷ []) rest g
      (told_so s r u (HeaderUnit HEADER) Nothing talk.Silent d is refl (ap talk_at l.0))
      (opened_half s t w x e items (ap (λ (z : SendTerms). s.unsent ++ flat_map frame (opening z)) d.terms_are) refl own)
      (record { terms_are = d.terms_are; talks = refl; numbered = d.numbered; size = d.size; unflowed = subst (λ (z : Far). IsUnflowed z s.flow) l.0 d.unflowed })
      l.1 to_sender refl refl
  heard_reply s w x e r items ItsOpen rest g u h d to_sender l said is =
      let t : Sending = record s { flow = opened config.max_frame s.flow } in
      let cm : ℕ = lesser config.channel_max 0 in
      let k = law.open_tells config cm a.own_name a.configured.some_frame (omega (arith, a.configured.most_frame)) (omega (arith, lesser_none config.channel_max)) in
      let told = k.tells (few (of_endpoint.open_said config cm) 400 (omega arith) (open_most config cm a.configured.most_name)) in
      let own : IsHalf config terms end pipe s taken w x e items Goes = subst (λ (z : Far). IsHalf config terms end pipe s taken w x e items z) (ap written_at l.0) h in
      then_written t (send_after s (Acted u)) w w x e AwaitsBegin items rest g (told_so s r u (reply_unit config terms ItsOpen) (Opened config.max_frame) talk.Talking d is told (ap talk_at l.0))
      (half_with config terms end pipe s t taken w x e items Goes refl refl own)
      (record {
        terms_are = d.terms_are;
        talks = d.talks ∙ ap talk_at l.0;
        numbered = record { least = a.configured.some_frame; most = omega (arith, a.configured.most_frame); id = d.numbered.id; next = d.numbered.next; count = d.numbered.count; peer = d.numbered.peer };
        size = omega arith;
        unflowed = subst (λ (z : Far). IsUnflowed z s.flow) l.0 d.unflowed;
      })
      l.1 to_sender refl refl
  heard_reply s w x e r items ItsBegin rest g u h d to_sender l said is =
      let own : IsHalf config terms end pipe s taken w x e items Goes = subst (λ (z : Far). IsHalf config terms end pipe s taken w x e items z) (ap written_at l.0) h in
      let k = law.begin_tells 0 (begun_with config) (omega arith) (omega (arith, a.configured.most_window)) (omega (arith, lesser_none config.handle_max)) in
      let told = k.tells (few (of_endpoint.begin_said 0 (begun_with config)) 400 (omega arith) (begin_most 0 (begun_with config))) in
      then_stepped s (send_after s (Acted u)) (all_written (heard (Begun 0 config.window) s)) w (flows_in config rest) x e items rest g
      (told_so s r u (reply_unit config terms ItsBegin) (Begun 0 config.window) talk.Talking d is told (ap talk_at l.0))
      own d.terms_are (d.talks ∙ ap talk_at l.0) d.size d.numbered
      (law.begin_heard s w (begin_flow config.window) (flows_in config rest) to_sender refl refl refl (omega (arith, a.configured.most_window)) (subst (λ (z : Far). IsUnflowed z s.flow) l.0 d.unflowed))
      l.1 refl
  heard_reply s w x e r items ItsAttach rest g u h d to_sender l said is =
      let longest : ℕ = (bounds_for config terms.name).max_message_size in
      let k = law.attach_tells config terms.name longest a.name (omega (arith, a.bounds.most_bytes)) in
      let told = k.tells (few (of_session.attach_said longest (attaching_of config terms.name)) 1600 (omega arith) (attach_most longest (attaching_of config terms.name) a.short_name (omega arith))) in
      let own : IsHalf config terms end pipe s taken w x e items Goes = subst (λ (z : Far). IsHalf config terms end pipe s taken w x e items z) (ap written_at l.0) h in
      then_written s (send_after s (Acted u)) w w x e Goes items rest g (told_so s r u (reply_unit config terms ItsAttach) Nothing talk.Talking d is told (ap talk_at l.0)) own
      (record { terms_are = d.terms_are; talks = d.talks ∙ ap talk_at l.0; numbered = d.numbered; size = d.size; unflowed = tt }) l.1 to_sender refl refl
  heard_reply s w x e r items (States f) rest g u h d to_sender l said is =
      let own : IsHalf config terms end pipe s taken w x e items Goes = subst (λ (z : Far). IsHalf config terms end pipe s taken w x e items z) (ap written_at l.0) h in
      let told : told_of (frame_unit (flow_speaks f) []) ≡ flow_tells f = flow_told f.of_link f.next f.window f.count f.credit f.drain said.next said.window said.count said.credit in
      then_stepped s (send_after s (Acted u)) (all_written (heard (flow_tells f) s)) w (flows_in config rest) x e items rest g
      (told_so s r u (reply_unit config terms (States f)) (flow_tells f) talk.Talking d is told (ap talk_at l.0))
      own d.terms_are (d.talks ∙ ap talk_at l.0) d.size d.numbered (law.flow_heard s w f (flows_in config rest) to_sender said.quiet) l.1 refl
  heard_reply s w x e r items (Disposes id settled_now outcome) rest g u h d to_sender l said is =
      let k = law.disposition_tells id settled_now outcome said in
      let told = k.tells (few (of_session.disposition_said id id settled_now outcome) 400 (omega arith) (disposition_most id id settled_now outcome)) in
      let own : IsHalf config terms end pipe s taken w x e items Goes = subst (λ (z : Far). IsHalf config terms end pipe s taken w x e items z) (ap written_at l.0) h in
      then_written s (send_after s (Acted u)) w w x e Goes items rest g (told_so s r u (reply_unit config terms (Disposes id settled_now outcome)) (Disposed id id (Some outcome)) talk.Talking d is told (ap talk_at l.0)) own
      (record { terms_are = d.terms_are; talks = d.talks ∙ ap talk_at l.0; numbered = d.numbered; size = d.size; unflowed = tt }) l.1 to_sender refl refl
