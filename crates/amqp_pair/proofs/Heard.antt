-- The events of a sender are turns of the message level.
use Rattle.std.proofs.Common.{◌≡◌, ℕ, ◌≤◌, ◌&&◌, Bool, true, false, cond, List, [], ◌∷◌, ◌++◌, length, map, Option, Some, None, refl, sym, ap, subst, ◌∙◌, arith, append_assoc, append-nil}
use Rattle.std.specs.Prelude.{is_none, option_map}
use Rattle.std.specs.List.{flat_map}
use Rattle.std.proofs.lemmas.Grind.{flat_map-append}
use Rattle.std.proofs.lemmas.List.{map-append}
use Rattle.amqp_send.specs.declared.talk.Talk.{Talk}
use Rattle.amqp_send.specs.declared.talk.Talk.TheVariants as talk
use Rattle.amqp_send.specs.declared.telling.Limits.{Limits}
use Rattle.amqp_send.specs.declared.telling.Telling.TheVariants.{Begun}
use Rattle.amqp_serial.specs.Numbers.{sum_of}
use Rattle.amqp_send.specs.declared.flow_state.FlowState.{FlowState}
use Rattle.amqp_send.specs.Flows.{drained, limited}
use Rattle.amqp_send.specs.Sendings.{Message, Sending, frame, flow_said, next_frame, Offered, changed, heard, answered, all_written, fault_at}
use Rattle.amqp_pair.specs.World.{World, Flow, Frame, Turn, Offer, To_sender, run, happens, AreFair, IsFair}
use Rattle.amqp_pair.specs.World as world
use Rattle.amqp_pair.specs.Words.{Word, AreRight, IsNumbered, Answers, frame_in, text_in, sender_of, with_sender, adds, Steps}
use Rattle.amqp_pair.specs.Heard.{FlowHeardLaw, BeginHeardLaw, OfferedLaw}
use Rattle.amqp_pair.proofs.Words.{all_right, all}

-- one turn of the message level comes to another state, with some words; then all is written that may be
pub record Changes (s t : Sending) (w v : World) (turn : Turn) : Type 0 where
  pub words : List Word
  pub fair : IsFair (with_sender w s) turn
  pub world : happens (with_sender w s) turn ≡ adds (with_sender v t) words
  pub bytes : t.unsent ≡ s.unsent ++ flat_map text_in words
  pub right : IsNumbered s.flow → AreRight s.flow.max_frame_size words
  pub numbered : IsNumbered s.flow → IsNumbered t.flow
  pub terms : t.terms ≡ s.terms
  pub talk : t.talk ≡ s.talk
  pub size : t.flow.max_frame_size ≡ s.flow.max_frame_size

no_words : (w : World) → w ≡ adds w []
no_words w = ap (λ (x : List Frame). record w { to_end = x }) (sym (append-nil w.to_end))

-- An offer. -----------------------------------------------------------------------------------------------------------

none_waits : (t : Talk) (m : Option Message) → fault_at t m ≡ None → m ≡ None
none_waits t None e = refl
none_waits talk.Silent (Some m) e = absurd (cc e)
none_waits talk.Talking (Some m) e = absurd (cc e)
none_waits talk.Closing (Some m) e = absurd (cc e)
none_waits (talk.Ended c) (Some m) e = absurd (cc e)

-- A flow. -------------------------------------------------------------------------------------------------------------

same_none : (m : Option Message) → is_none (option_map (λ (x : Message). x.rest) m) ≡ is_none m
same_none None = refl
same_none (Some m) = refl

-- a flow of the session alone says nothing of credit
same_limit : (b : Bool) (count credit old : ℕ) → cond b (sum_of count credit) old ≡ cond b (sum_of (cond b count 0) (cond b credit 0)) old
same_limit true count credit old = refl
same_limit false count credit old = refl

same_drain : (b d n : Bool) → (b && d && n) ≡ (b && cond b d false && n)
same_drain true d n = refl
same_drain false d n = refl

-- what answers a flow
pub record IsAnswered (s : Sending) (v : World) (drains : Bool) : Type 0 where
  pub words : List Word
  pub world : world.answered (with_sender v s) drains false ≡ adds (with_sender v (answered drains false s)) words
  pub bytes : (answered drains false s).unsent ≡ s.unsent ++ flat_map text_in words
  pub right : IsNumbered s.flow → AreRight s.flow.max_frame_size words
  pub numbered : IsNumbered s.flow → IsNumbered (answered drains false s).flow
  pub terms : (answered drains false s).terms ≡ s.terms
  pub talk : (answered drains false s).talk ≡ s.talk
  pub size : (answered drains false s).flow.max_frame_size ≡ s.flow.max_frame_size

is_answered : ((f : FlowState) (drain : Bool) → length (frame (flow_said f drain)) ≤ 64) → (s : Sending) (v : World) (drains : Bool) → IsAnswered s v drains
is_answered few s v true = record {
  words = Answers (drained s.flow) true ∷ [];
  world = refl;
  bytes = ap (λ (x : List ℕ). s.unsent ++ x) (sym (append-nil (text_in (Answers (drained s.flow) true))));
  right = λ n. ((n.peer, n.next, omega arith, omega (arith, few (drained s.flow) true, n.least)), tt);
  numbered = λ n. record { least = n.least; most = n.most; id = n.id; next = n.next; count = omega arith; peer = n.peer };
  terms = refl;
  talk = refl;
  size = refl;
}
is_answered few s v false = record {
  words = [];
  world = no_words (with_sender v s);
  bytes = sym (append-nil s.unsent);
  right = λ n. tt;
  numbered = λ n. n;
  terms = refl;
  talk = refl;
  size = refl;
}

abbrev limits_of : Flow → Limits
limits_of f = record {
  next_incoming_id = f.next;
  incoming_window = f.window;
  of_link = f.of_link;
  delivery_count = cond f.of_link f.count 0;
  link_credit = cond f.of_link f.credit 0;
  drain = cond f.of_link f.drain false;
  echo = false;
}

-- the limits are told
abbrev told_world : World → Sending → List Flow → ℕ → ℕ → World
told_world w s fs credit_limit window_limit = record (with_sender w s) { sender = record (sender_of s) { credit_limit = credit_limit; window_limit = window_limit }; to_sender = fs }

module _ (within : (f : FlowState) (m : Message) → 512 ≤ f.max_frame_size → (length (next_frame f m) ≤ 4096) × (length (next_frame f m) ≤ f.max_frame_size)) where
  then_all : (s t : Sending) (w v : World) (turn : Turn) → Changes s t w v turn → Steps s (all_written t) w v
  then_all s t w v turn c =
      let a = all within t (adds v c.words) in
      record {
        turns = turn ∷ a.turns;
        words = c.words ++ a.words;
        fair = (c.fair, subst (λ (x : World). AreFair a.turns x) (sym c.world) a.fair);
        world = ap (λ (x : World). run a.turns x) c.world ∙ a.world
            ∙ ap (λ (x : List Frame). record (with_sender v (all_written t)) { to_end = x })
            (append_assoc v.to_end (map frame_in c.words) (map frame_in a.words) ∙ ap (λ (x : List Frame). v.to_end ++ x) (sym (map-append frame_in c.words a.words)));
        bytes = a.bytes ∙ ap (λ (x : List ℕ). x ++ flat_map text_in a.words) c.bytes ∙ append_assoc s.unsent (flat_map text_in c.words) (flat_map text_in a.words)
            ∙ ap (λ (x : List ℕ). s.unsent ++ x) (sym (flat_map-append text_in c.words a.words));
        right = λ n. all_right s.flow.max_frame_size c.words a.words (c.right n) (subst (λ (k : ℕ). AreRight k a.words) c.size (a.right (c.numbered n)));
        numbered = λ n. a.numbered (c.numbered n);
        terms = a.kept.terms ∙ c.terms;
        talk = a.kept.talk ∙ c.talk;
        size = a.kept.size ∙ c.size;
      }

  pub offered : OfferedLaw
  offered s w m free fair =
      let none : s.message ≡ None = none_waits s.talk s.message free in
      let v : World = record w { offered = w.offered ++ m ∷ [] } in
      then_all s (changed s (Offered m)) w v (Offer m) (record {
        words = [];
        fair = fair;
        world = rw none (no_words (with_sender v (changed s (Offered m))));
        bytes = sym (append-nil s.unsent);
        right = λ n. tt;
        numbered = λ n. n;
        terms = refl;
        talk = refl;
        size = refl;
      })

  pub flow_heard : ((f : FlowState) (drain : Bool) → length (frame (flow_said f drain)) ≤ 64) → FlowHeardLaw
  flow_heard short s w f fs e quiet =
      let v : World = record w { to_sender = fs } in
      let l : Limits = limits_of f in
      let s1 : Sending = record s { flow = limited l s.flow } in
      let d : Bool = l.of_link && l.drain && is_none s.message in
      let own : Bool = f.of_link && f.drain && is_none (option_map (λ (x : Message). x.rest) s.message) in
      let a : IsAnswered s1 v d = is_answered short s1 v d in
      let same : own ≡ d = ap (λ (n : Bool). f.of_link && f.drain && n) (same_none s.message) ∙ same_drain f.of_link f.drain (is_none s.message) in
      let limit : cond f.of_link (sum_of f.count f.credit) s.flow.credit_end ≡ cond f.of_link (sum_of l.delivery_count l.link_credit) s.flow.credit_end = same_limit f.of_link f.count f.credit s.flow.credit_end in
      then_all s (answered d false s1) w v To_sender (record {
        words = a.words;
        fair = tt;
        world = ap (λ (x : List Flow). world.comes (with_sender w s) x) e
            ∙ ap (λ (q : Bool). world.answered (told_world w s fs (cond f.of_link (sum_of f.count f.credit) s.flow.credit_end) (sum_of f.next f.window)) own q) quiet
            ∙ ap (λ (b : Bool). world.answered (told_world w s fs (cond f.of_link (sum_of f.count f.credit) s.flow.credit_end) (sum_of f.next f.window)) b false) same
            ∙ ap (λ (n : ℕ). world.answered (told_world w s fs n (sum_of f.next f.window)) d false) limit
            ∙ a.world;
        bytes = a.bytes;
        right = λ n. a.right (record { least = n.least; most = n.most; id = n.id; next = n.next; count = n.count; peer = n.peer });
        numbered = λ n. a.numbered (record { least = n.least; most = n.most; id = n.id; next = n.next; count = n.count; peer = n.peer });
        terms = a.terms;
        talk = a.talk;
        size = a.size;
      })

  -- The begin. ----------------------------------------------------------------------------------------------------------

  pub begin_heard : BeginHeardLaw
  begin_heard s w f fs e alone first quiet few unflowed =
      let v : World = record w { to_sender = fs } in
      let t : Sending = heard (Begun 0 f.window) s in
      let n : Bool = is_none (option_map (λ (x : Message). x.rest) s.message) in
      let window : sum_of 0 f.window ≡ cond s.flow.flowed s.flow.window_end f.window =
      (omega (arith, few)) ∙ sym (ap (λ (b : Bool). cond b s.flow.window_end f.window) unflowed) in
      then_all s t w v To_sender (record {
        words = [];
        fair = tt;
        world = ap (λ (x : List Flow). world.comes (with_sender w s) x) e
            ∙ ap (λ (b : Bool). world.answered (told_world w s fs (cond b (sum_of f.count f.credit) s.flow.credit_end) (sum_of f.next f.window)) (b && f.drain && n) f.echo) alone
            ∙ ap (λ (q : Bool). world.answered (told_world w s fs s.flow.credit_end (sum_of f.next f.window)) false q) quiet
            ∙ ap (λ (k : ℕ). told_world w s fs s.flow.credit_end (sum_of k f.window)) first
            ∙ ap (λ (k : ℕ). told_world w s fs s.flow.credit_end k) window
            ∙ no_words (with_sender v t);
        bytes = sym (append-nil s.unsent);
        right = λ n. tt;
        numbered = λ n. record { least = n.least; most = n.most; id = n.id; next = n.next; count = n.count; peer = omega arith };
        terms = refl;
        talk = refl;
        size = refl;
      })
