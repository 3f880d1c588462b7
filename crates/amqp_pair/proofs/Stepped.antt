-- What a sender writes keeps how the two ends stand.
use Rattle.std.proofs.Common.{◌≡◌, ℕ, zero, suc, ◌≤◌, Bool, false, cond, List, [], ◌∷◌, ◌++◌, map, Option, Some, None, refl, sym, ap, subst, ◌∙◌, arith}
use Rattle.std.proofs.lemmas.List.{map-append}
use Rattle.amqp_link.specs.Links.{LinkState}
use Rattle.amqp_endpoint.specs.Configs.{Configured}
use Rattle.amqp_endpoint.specs.Connections.{ConnectionState}
use Rattle.amqp_endpoint.specs.Runs.{Handed}
use Rattle.amqp_endpoint.specs.Steps.{EndpointState}
use Rattle.amqp_send.specs.Sendings.{SendTerms, Sending, Message, is_talking, wrote, wrote_of, writes, all_written, frames_left, flow_behind, message_behind, output_behind}
use Rattle.amqp_pair.specs.Items.{Far, AwaitsHeader, AwaitsOpen, AwaitsBegin, AwaitsAttach, Goes, Item, item_unit, words_in, Speaks, written_at}
use Rattle.amqp_pair.specs.Paired.{IsFar, IsUnbegun, IsUnflowed, HasHeard, IsHalf}
use Rattle.amqp_pair.specs.Words.{Word, AreRight, IsNumbered, frame_in, with_sender, adds, Writes, Steps}
use Rattle.amqp_pair.specs.World.{World, Sender, Frame, Turn, Plain, Inv, happens, run, AreFair}
use Rattle.amqp_pair.proofs.Acted.{stands_as}
use Rattle.amqp_pair.proofs.Below.{Below}
use Rattle.amqp_pair.proofs.Items.{more_bytes, units_joined, leads_behind, words_behind, words_lead, words_of, words_text, rights_more}
use Rattle.amqp_pair.proofs.Words.{all_right}

-- The endpoint's side of the message level is the same. ------------------------------------------------------------------

unbegun_as : (config : Configured) (terms : SendTerms) (s : ConnectionState) (w v : World) → w.link ≡ v.link → w.places ≡ v.places → w.next ≡ v.next → IsUnbegun config terms s w → IsUnbegun config terms s v
unbegun_as config terms s w v l p n u = record { others = u.others; sessions = u.sessions; places = sym p ∙ u.places; next = sym n ∙ u.next; link = sym l ∙ u.link }

pub far_as : (config : Configured) (terms : SendTerms) (s : ConnectionState) (w v : World) (e : Far) → w.link ≡ v.link → w.places ≡ v.places → w.next ≡ v.next → IsFar config terms s w e → IsFar config terms s v e
far_as config terms s w v AwaitsHeader l p n f = (f.0, unbegun_as config terms s w v l p n f.1)
far_as config terms s w v AwaitsOpen l p n f = (f.0, unbegun_as config terms s w v l p n f.1)
far_as config terms s w v AwaitsBegin l p n f = (f.0, unbegun_as config terms s w v l p n f.1)
far_as config terms s w v AwaitsAttach l p n f = record {
  begun = record {
    opened = f.begun.opened;
    session = f.begun.session;
    others = f.begun.others;
    sessions = f.begun.sessions;
    frees = f.begun.frees;
    links = f.begun.links;
    free = f.begun.free;
    size = f.begun.size;
    places = f.begun.places ∙ p;
    next = f.begun.next ∙ n;
  };
  link = sym l ∙ f.link;
}
far_as config terms s w v Goes l p n f = stands_as s w v l p n f

-- nothing but the flows on their way to the sender may differ
pub record IsSame (w v : World) : Type 0 where
  pub to_end : v.to_end ≡ w.to_end
  pub link : v.link ≡ w.link
  pub places : v.places ≡ w.places
  pub next : v.next ≡ w.next
  pub given : v.given ≡ w.given
  pub offered : v.offered ≡ w.offered

-- the ends behind some frames that the sender wrote
pub record IsStepped (config : Configured) (terms : SendTerms) (end : EndpointState) (pipe : List ℕ) (t : Sending) (taken : List Handed) (v : World) (e f : Far) : Type 0 where
  pub items : List Item
  pub world : World
  pub plain : Plain
  pub half : IsHalf config terms end pipe t taken world plain e items f
  pub to_sender : world.to_sender ≡ v.to_sender
  pub offered : world.offered ≡ v.offered

module _ (law : Below) where
  pub runs_kept : (turns : List Turn) (w : World) (x : Plain) → AreFair turns w → Inv w x → (y : Plain) × Inv (run turns w) y
  runs_kept [] w x fair i = (x, i)
  runs_kept (turn ∷ turns) w x fair i = let k = law.step w x turn fair.0 i in runs_kept turns (happens w turn) k.0 fair.1 k.1

  module _ (config : Configured) (terms : SendTerms) (end : EndpointState) (pipe : List ℕ) (taken : List Handed) where
    -- turns of the message level, and their frames
    pub step_half : (s t : Sending) (w v : World) (x : Plain) (e : Far) (items : List Item) → IsHalf config terms end pipe s taken w x e items Goes → IsSame w v → IsNumbered s.flow → s.flow.max_frame_size ≤ config.max_frame
        → Steps s t w v → IsStepped config terms end pipe t taken v e Goes
    step_half s t w v x e items h same numbered size k =
        let words : List Word = k.words in
        let world : World = adds (with_sender v t) words in
        let own : with_sender w s ≡ w = ap (λ (z : Sender). record w { sender = z }) (sym h.sender) in
        let kept = runs_kept k.turns (with_sender w s) x k.fair (subst (λ (z : World). Inv z x) (sym own) h.sound) in
        let among : words_in (items ++ map Speaks words) ≡ words_in items ++ words = words_behind items (map Speaks words) ∙ ap (λ (z : List Word). words_in items ++ z) (words_of words) in
        record {
          items = items ++ map Speaks words;
          world = world;
          plain = kept.0;
          half = record {
            config_is = h.config_is;
            far = far_as config terms end.connection w world e (sym same.link) (sym same.places) (sym same.next) h.far;
            out = record {
              joined = ap (λ (z : List ℕ). end.input.filled ++ (pipe ++ z)) k.bytes
                  ∙ more_bytes end.input.filled pipe s.unsent _ _ _ h.out.joined (words_text terms words) ∙ sym (units_joined (item_unit terms) items (map Speaks words));
              limit = h.out.limit;
              stage = h.out.stage;
              leads = leads_behind e Goes Goes items (map Speaks words) h.out.leads (words_lead words);
              right = subst (λ (z : List Word). AreRight config.max_frame z) (sym among)
                  (all_right config.max_frame (words_in items) words h.out.right (rights_more s.flow.max_frame_size config.max_frame words size (k.right numbered)));
            };
            sender = refl;
            to_end = ap (λ (z : List Frame). z ++ map frame_in words) (same.to_end ∙ h.to_end) ∙ sym (map-append frame_in (words_in items) words) ∙ ap (λ (z : List Word). map frame_in z) (sym among);
            given = h.given ∙ sym same.given;
            terms_are = ap (λ (z : LinkState). z.terms) same.link ∙ h.terms_are;
            sound = subst (λ (z : World). Inv z kept.0) k.world kept.1;
          };
          to_sender = refl;
          offered = refl;
        }

-- A sender that does not talk writes nothing. ---------------------------------------------------------------------------

wrote_still : (s : Sending) (m : Option Message) → is_talking s.talk ≡ false → wrote_of s m ≡ s
wrote_still s None e = refl
wrote_still s (Some m) e =
    ap (λ (b : Bool). cond b (record s { flow = flow_behind s.flow s.unsent m; message = message_behind s.flow s.unsent m; unsent = output_behind s.flow s.unsent m }) s) e

pub writes_still : (s : Sending) (n : ℕ) → is_talking s.talk ≡ false → writes n s ≡ s
writes_still s zero e = refl
writes_still s (suc n) e = ap (λ (z : Sending). wrote z) (writes_still s n e) ∙ wrote_still s s.message e

-- All is written that may be. ---------------------------------------------------------------------------------------------

pub record IsSettled (config : Configured) (terms : SendTerms) (end : EndpointState) (pipe : List ℕ) (t : Sending) (taken : List Handed) (v : World) (e r : Far) : Type 0 where
  pub stepped : IsStepped config terms end pipe t taken v e (written_at r)
  pub heard : HasHeard config terms t r

same_world : (w : World) → IsSame w w
same_world w = record { to_end = refl; link = refl; places = refl; next = refl; given = refl; offered = refl }

unflowed_as : (r : Far) (s t : Sending) → t.flow.flowed ≡ s.flow.flowed → IsUnflowed r s.flow → IsUnflowed r t.flow
unflowed_as AwaitsHeader s t e u = e ∙ u
unflowed_as AwaitsOpen s t e u = e ∙ u
unflowed_as AwaitsBegin s t e u = e ∙ u
unflowed_as AwaitsAttach s t e u = tt
unflowed_as Goes s t e u = tt

module _ (law : Below) (config : Configured) (terms : SendTerms) (end : EndpointState) (pipe : List ℕ) (taken : List Handed) where
  talking : (s : Sending) (w : World) (x : Plain) (e r : Far) (items : List Item) → IsHalf config terms end pipe s taken w x e items Goes → HasHeard config terms s r → written_at r ≡ Goes → IsSettled config terms end pipe (all_written s) taken w e r
  talking s w x e r items h d goes =
      let k : Writes s (all_written s) w = law.written s w in
      let steps : Steps s (all_written s) w w = record {
        turns = k.turns;
        words = k.words;
        fair = k.fair;
        world = k.world;
        bytes = k.bytes;
        right = k.right;
        numbered = k.numbered;
        terms = k.kept.terms;
        talk = k.kept.talk;
        size = k.kept.size;
      } in
      record {
        stepped = subst (λ (z : Far). IsStepped config terms end pipe (all_written s) taken w e z) (sym goes) (step_half law config terms end pipe taken s (all_written s) w w x e items h (same_world w) d.numbered d.size steps);
        heard = record {
          terms_are = k.kept.terms ∙ d.terms_are;
          talks = k.kept.talk ∙ d.talks;
          numbered = k.numbered d.numbered;
          size = omega (arith, k.kept.size, d.size);
          unflowed = unflowed_as r s (all_written s) k.kept.flowed d.unflowed;
        };
      }

  pub settled : (s : Sending) (w : World) (x : Plain) (e r : Far) (items : List Item) → IsHalf config terms end pipe s taken w x e items (written_at r) → HasHeard config terms s r → IsSettled config terms end pipe (all_written s) taken w e r
  settled s w x e AwaitsHeader items h d =
      subst (λ (z : Sending). IsSettled config terms end pipe z taken w e AwaitsHeader) (sym (writes_still s (frames_left s.message) (ap is_talking d.talks)))
      (record { stepped = record { items = items; world = w; plain = x; half = h; to_sender = refl; offered = refl }; heard = d })
  settled s w x e AwaitsOpen items h d = talking s w x e AwaitsOpen items h d refl
  settled s w x e AwaitsBegin items h d = talking s w x e AwaitsBegin items h d refl
  settled s w x e AwaitsAttach items h d = talking s w x e AwaitsAttach items h d refl
  settled s w x e Goes items h d = talking s w x e Goes items h d refl
