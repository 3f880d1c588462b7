-- The frames that a sender writes are turns of the message level.
use Rattle.std.proofs.Common.{◌≡◌, ℕ, zero, suc, ◌-◌, ◌≤◌, ◌&&◌, ◌||◌, Bool, true, false, not, cond, ltb, leb, List, [], ◌∷◌, ◌++◌, length, map, take, drop, Option, Some, None, refl, sym, ap, subst, ◌∙◌, arith, append_assoc, append-nil}
use Rattle.std.specs.List.{flat_map}
use Rattle.std.proofs.Math.Seq.{take-length}
use Rattle.std.proofs.lemmas.Bool.{ltb-true, le-leb}
use Rattle.std.proofs.lemmas.Grind.{flat_map-append}
use Rattle.std.proofs.lemmas.List.{map-append}
use Rattle.amqp_perform.specs.Said.{said_frame}
use Rattle.amqp_send.specs.declared.flow_state.FlowState.{FlowState}
use Rattle.amqp_send.specs.Flows.{credit, window, most, transferred}
use Rattle.amqp_send.specs.Sendings.{Message, Sending, frame, heads_of, transfer_said, is_talking, is_last, share, may_go, fits, next_frame, wrote_of, wrote, writes, all_written, frames_left}
use Rattle.amqp_pair.specs.World.{World, Turn, Write, run, happens, AreFair, charge, credit_of, window_of, cuts}
use Rattle.amqp_pair.specs.World as world
use Rattle.amqp_pair.specs.Words.{Word, Sends, frame_in, text_in, with_sender, adds, IsKept, AreRight, Writes}

-- Nothing is written, or one thing behind the other. ------------------------------------------------------------------

kept_same : (s : Sending) → IsKept s s
kept_same s = record { terms = refl; talk = refl; size = refl; peer = refl; flowed = refl }

nothing : (s : Sending) (w : World) → Writes s s w
nothing s w = record {
  turns = [];
  words = [];
  fair = tt;
  world = ap (λ (x : List world.Frame). record (with_sender w s) { to_end = x }) (sym (append-nil w.to_end));
  bytes = sym (append-nil s.unsent);
  right = λ n. tt;
  numbered = λ n. n;
  kept = kept_same s;
}

pub run_behind : (ts us : List Turn) (w : World) → run (ts ++ us) w ≡ run us (run ts w)
run_behind [] us w = refl
run_behind (t ∷ ts) us w = run_behind ts us (happens w t)

pub fair_behind : (ts us : List Turn) (w : World) → AreFair ts w → AreFair us (run ts w) → AreFair (ts ++ us) w
fair_behind [] us w f g = g
fair_behind (t ∷ ts) us w f g = (f.0, fair_behind ts us (happens w t) f.1 g)

pub all_right : (most : ℕ) (xs ys : List Word) → AreRight most xs → AreRight most ys → AreRight most (xs ++ ys)
all_right most [] ys a b = b
all_right most (x ∷ xs) ys a b = (a.0, all_right most xs ys a.1 b)

pub behind : (s t u : Sending) (w : World) (a : Writes s t w) → Writes t u (adds w a.words) → Writes s u w
behind s t u w a b = record {
  turns = a.turns ++ b.turns;
  words = a.words ++ b.words;
  fair = fair_behind a.turns b.turns (with_sender w s) a.fair (subst (λ (x : World). AreFair b.turns x) (sym a.world) b.fair);
  world = run_behind a.turns b.turns (with_sender w s) ∙ ap (λ (x : World). run b.turns x) a.world ∙ b.world
      ∙ ap (λ (x : List world.Frame). record (with_sender w u) { to_end = x })
      (append_assoc w.to_end (map frame_in a.words) (map frame_in b.words) ∙ ap (λ (x : List world.Frame). w.to_end ++ x) (sym (map-append frame_in a.words b.words)));
  bytes = b.bytes ∙ ap (λ (x : List ℕ). x ++ flat_map text_in b.words) a.bytes ∙ append_assoc s.unsent (flat_map text_in a.words) (flat_map text_in b.words)
      ∙ ap (λ (x : List ℕ). s.unsent ++ x) (sym (flat_map-append text_in a.words b.words));
  right = λ n. all_right s.flow.max_frame_size a.words b.words (a.right n) (subst (λ (k : ℕ). AreRight k b.words) a.kept.size (b.right (a.numbered n)));
  numbered = λ n. b.numbered (a.numbered n);
  kept = record {
    terms = b.kept.terms ∙ a.kept.terms;
    talk = b.kept.talk ∙ a.kept.talk;
    size = b.kept.size ∙ a.kept.size;
    peer = b.kept.peer ∙ a.kept.peer;
    flowed = b.kept.flowed ∙ a.kept.flowed;
  };
}

-- One frame. ----------------------------------------------------------------------------------------------------------

-- it goes: the window has a place, and credit is there where it begins a delivery
pub record Goes (f : FlowState) (m : Message) : Type 0 where
  pub placed : ltb 0 (window f) ≡ true
  pub paid : leb (cond m.begun 0 1) (credit f) ≡ true

goes_by : (begun place room : Bool) (c : ℕ) → ((begun || ltb 0 c) && place && room) ≡ true → (place ≡ true) × (leb (cond begun 0 1) c ≡ true)
goes_by true true room c e = (refl, le-leb 0 c (omega arith))
goes_by true false room c e = absurd (cc e)
goes_by false true room c e = (refl, paid (ltb 0 c) refl e)
  where
    paid : (b : Bool) → ltb 0 c ≡ b → (b && true && room) ≡ true → leb 1 c ≡ true
    paid true is e = le-leb 1 c (omega (arith, ltb-true 0 c is))
    paid false is e = absurd (cc e)
goes_by false false room c e = no (ltb 0 c) e
  where
    no : (b : Bool) → (b && false && room) ≡ true → (false ≡ true) × (leb 1 c ≡ true)
    no true e = absurd (cc e)
    no false e = absurd (cc e)

goes : (s : Sending) (m : Message) → may_go s.flow s.unsent m ≡ true → Goes s.flow m
goes s m e =
    let g : (ltb 0 (window s.flow) ≡ true) × (leb (cond m.begun 0 1) (credit s.flow) ≡ true) = goes_by m.begun (ltb 0 (window s.flow)) (fits s.unsent (next_frame s.flow m)) (credit s.flow) e in
    record { placed = g.0; paid = g.1 }

-- on the message level it is cut off the message that waits
cut : (w : World) (s : Sending) (m : Message) (n : ℕ) (more : Bool) → s.message ≡ Some m → Goes s.flow m → happens (with_sender w s) (Write n more) ≡ cuts (with_sender w s) m.rest n more
cut w s m n more e g = rw (e, g.placed, g.paid) refl

-- so much of the message goes into the frame, all of it into the last
cut_frame : (w : World) (s : Sending) (m : Message) (n : ℕ) (last : Bool) → s.message ≡ Some m → Goes s.flow m → (last ≡ true → n ≡ length m.rest)
    → (512 ≤ s.flow.max_frame_size → length (said_frame 0 (transfer_said s.flow.delivery_id m.begun (not last)) (take n m.rest)) ≤ s.flow.max_frame_size) →
    Writes s (record s {
      flow = transferred (heads_of m) s.flow;
      message = cond last None (Some (record { rest = drop n m.rest; begun = true }));
      unsent = s.unsent ++ said_frame 0 (transfer_said s.flow.delivery_id m.begun (not last)) (take n m.rest);
    }) w
cut_frame w s m n true e g is_all short =
    let whole : take n m.rest ≡ m.rest = ap (λ (k : ℕ). take k m.rest) (is_all refl) ∙ take-length m.rest in
    record {
      turns = Write n false ∷ [];
      words = Sends s.flow.delivery_id m.begun false m.rest ∷ [];
      fair = (tt, tt);
      world = cut w s m n false e g ∙ rw e refl;
      bytes = ap (λ (x : List ℕ). s.unsent ++ said_frame 0 (transfer_said s.flow.delivery_id m.begun false) x) whole
          ∙ ap (λ (x : List ℕ). s.unsent ++ x) (sym (append-nil (said_frame 0 (transfer_said s.flow.delivery_id m.begun false) m.rest)));
      right = λ k. ((k.id, subst (λ (x : List ℕ). length (said_frame 0 (transfer_said s.flow.delivery_id m.begun false) x) ≤ s.flow.max_frame_size) whole (short k.least)), tt);
      numbered = λ k. record { least = k.least; most = k.most; id = omega arith; next = omega arith; count = omega arith; peer = k.peer };
      kept = record { terms = refl; talk = refl; size = refl; peer = refl; flowed = refl };
    }
cut_frame w s m n false e g is_all short = record {
  turns = Write n true ∷ [];
  words = Sends s.flow.delivery_id m.begun true (take n m.rest) ∷ [];
  fair = (tt, tt);
  world = cut w s m n true e g ∙ rw e refl;
  bytes = ap (λ (x : List ℕ). s.unsent ++ x) (sym (append-nil (said_frame 0 (transfer_said s.flow.delivery_id m.begun true) (take n m.rest))));
  right = λ k. ((k.id, short k.least), tt);
  numbered = λ k. record { least = k.least; most = k.most; id = omega arith; next = omega arith; count = omega arith; peer = k.peer };
  kept = record { terms = refl; talk = refl; size = refl; peer = refl; flowed = refl };
}

all_of_it : (f : FlowState) (m : Message) → is_last f m ≡ true → share f m ≡ length m.rest
all_of_it f m e = ap (λ (b : Bool). cond b (length m.rest) (most f - length (frame (transfer_said f.delivery_id m.begun true)))) e

module _ (within : (f : FlowState) (m : Message) → 512 ≤ f.max_frame_size → (length (next_frame f m) ≤ 4096) × (length (next_frame f m) ≤ f.max_frame_size)) where
  frame_goes : (w : World) (s : Sending) (m : Message) → s.message ≡ Some m → is_talking s.talk ≡ true → may_go s.flow s.unsent m ≡ true → Writes s (wrote_of s (Some m)) w
  frame_goes w s m e t g = let go = goes s m g in rw (t, g) (cut_frame w s m (share s.flow m) (is_last s.flow m) e go (all_of_it s.flow m) (λ least. (within s.flow m least).1))

  no_frame : (w : World) (s : Sending) (m : Message) (talks may : Bool) → s.message ≡ Some m → is_talking s.talk ≡ talks → may_go s.flow s.unsent m ≡ may → Writes s (wrote_of s (Some m)) w
  no_frame w s m false may e t g = rw t (nothing s w)
  no_frame w s m true false e t g = rw (t, g) (subst (λ (o : Option Message). Writes s (record s { message = o }) w) e (nothing s w))
  no_frame w s m true true e t g = frame_goes w s m e t g

  one_by : (w : World) (s : Sending) (o : Option Message) → s.message ≡ o → Writes s (wrote_of s o) w
  one_by w s None e = nothing s w
  one_by w s (Some m) e = no_frame w s m (is_talking s.talk) (may_go s.flow s.unsent m) e refl refl

  one : (w : World) (s : Sending) → Writes s (wrote s) w
  one w s = one_by w s s.message refl

  -- All of them. --------------------------------------------------------------------------------------------------------

  pub many : (n : ℕ) (s : Sending) (w : World) → Writes s (writes n s) w
  many zero s w = nothing s w
  many (suc n) s w = let a = many n s w in behind s (writes n s) (wrote (writes n s)) w a (one (adds w a.words) (writes n s))

  pub all : (s : Sending) (w : World) → Writes s (all_written s) w
  all s w = many (frames_left s.message) s w
