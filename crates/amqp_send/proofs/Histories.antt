-- A sender is what its history gives.
use Rattle.std.proofs.Common.{◌≡◌, ℕ, zero, suc, ◌+◌, ◌-◌, ◌%◌, ◌^◌, ◌<◌, ◌≤◌, ◌&&◌, ◌||◌, nat_lt, nat_le, Bool, true, false, not, cond, List, [], ◌∷◌, ◌++◌, length, take, drop, Option, Some, None}
use Rattle.std.proofs.Common.{is_none, refl, sym, ap, subst, ◌∙◌, arith, ◌⊎◌, inl, inr, append_assoc, append-nil, length-append}
use Rattle.std.specs.List.{flat_map}
use Rattle.std.proofs.Math.Seq.{take-length}
use Rattle.std.proofs.lemmas.Bool.{not-true, and_parts, ltb-true, leb-true, le-leb}
use Rattle.std.proofs.lemmas.List.{take-append-drop}
use Rattle.amqp_perform.specs.Said.{said_frame}
use Rattle.amqp_serial.specs.Numbers.{sum_of}
use Rattle.amqp_perform.specs.declared.condition.Condition.{Condition}
use Rattle.amqp_perform.specs.declared.condition.Condition.TheVariants as condition
use Rattle.amqp_send.specs.declared.flow_state.FlowState.{FlowState}
use Rattle.amqp_send.specs.declared.talk.Talk.{Talk}
use Rattle.amqp_send.specs.declared.talk.Talk.TheVariants as talk
use Rattle.amqp_send.specs.declared.telling.Limits.{Limits}
use Rattle.amqp_send.specs.declared.telling.Telling.{Telling}
use Rattle.amqp_send.specs.declared.telling.Telling.TheVariants as told
use Rattle.amqp_send.specs.Flows.{ahead, credit, window, most, opened, begun, limited, drained, transferred}
use Rattle.amqp_send.specs.Histories.{Piece, Deed, Heard, Wrote, pieces, offers, goes_on, part, wholes, heads, drains, advances, credit_end, flow_of, answer_by, transfer_text, written, moved, waiting}
use Rattle.amqp_send.specs.Histories.{IsMessageBegun, IsHistory, MayGo, AllMayGo, heard_deeds, event_deeds, next_piece, wrote_deeds, frame_deeds, deeds, after_all, history, IsLawfulEvent, Accepted}
use Rattle.amqp_send.specs.Sendings.{SendTerms, Message, Sending, sending_begins, frame, opening, flow_said, close_said, transfer_said, is_last, share, next_frame, heads_of, left_of, fault_at, fits}
use Rattle.amqp_send.specs.Sendings.{is_talking, may_go, may_send, can_write, wrote_of, wrote, writes, frames_left, all_written, ended, answered, flowed, heard, heard_in, SendEvent, Acted, Offered}
use Rattle.amqp_send.specs.Sendings.{CloseWritten, Moved, changed, send_after, SendMay}
use Rattle.amqp_send.specs.Tellings.{told_of, IsLawful}
use Rattle.amqp_send.proofs.Lengths.{frame_within, frame_full}
use Rattle.amqp_send.proofs.Writing.{smaller, stays}
use Rattle.amqp_send.specs.Lengths.{Lengths, NullIsLeast}

-- what is kept along a history
pub record Keeps (terms : SendTerms) (h : List Deed) (s : Sending) : Type 0 where
  pub is : IsHistory terms h s
  pub all : AllMayGo h
  pub least : 512 ≤ s.flow.max_frame_size

-- Numbers round the end. ----------------------------------------------------------------------------------------------

one_more : (n : ℕ) → sum_of (n % 2 ^ 32) 1 ≡ (n + 1) % 2 ^ 32
one_more n = omega arith

more : (n k : ℕ) → sum_of (n % 2 ^ 32) k ≡ (n + k) % 2 ^ 32
more n k = omega arith

same_numbers : (f : FlowState) (a a2 b b2 c c2 : ℕ) → a ≡ a2 → b ≡ b2 → c ≡ c2
    → (record f { next_outgoing_id = a; delivery_id = b; delivery_count = c }) ≡ (record f { next_outgoing_id = a2; delivery_id = b2; delivery_count = c2 })
same_numbers f a a2 b b2 c c2 ea eb ec = rw (ea, eb, ec) refl

heads_are : (b o : Bool) → b ≡ o → (if_begun : ℕ) → if_begun ≡ cond b 0 1 → if_begun ≡ cond o 0 1
heads_are b o e n is = is ∙ ap (λ (x : Bool). cond x 0 1) e

-- a frame more
flow_more : (f : FlowState) (h : List Deed) (m : Message) (p : Piece) → f ≡ flow_of h → m.begun ≡ goes_on (pieces h) → transferred (heads_of m) f ≡ flow_of (Wrote p ∷ h)
flow_more f h m p is begun =
    let k : ℕ = cond (goes_on (pieces h)) 0 1 in
    let one : heads_of m ≡ k = ap (λ (x : Bool). cond x 0 1) begun in
    ap (λ (x : FlowState). transferred (heads_of m) x) is
    ∙ ap (λ (x : ℕ). transferred x (flow_of h)) one
    ∙ same_numbers (flow_of h)
    (sum_of (length (pieces h) % 2 ^ 32) 1) (length (pieces (Wrote p ∷ h)) % 2 ^ 32)
    (sum_of (heads (pieces h) % 2 ^ 32) k) (heads (pieces (Wrote p ∷ h)) % 2 ^ 32)
    (sum_of ((heads (pieces h) + advances h) % 2 ^ 32) k) ((heads (pieces (Wrote p ∷ h)) + advances h) % 2 ^ 32)
    (omega (arith, one_more (length (pieces h))))
    (more (heads (pieces h)) k)
    (more (heads (pieces h) + advances h) k ∙ ap (λ (x : ℕ). x % 2 ^ 32) (omega arith))

-- Bytes. --------------------------------------------------------------------------------------------------------------

further : (out unsent text all : List ℕ) → out ++ unsent ≡ all → out ++ (unsent ++ text) ≡ all ++ text
further out unsent text all e = sym (append_assoc out unsent text) ∙ ap (λ (x : List ℕ). x ++ text) e

-- The frame that is written. ------------------------------------------------------------------------------------------

text_is : (f : FlowState) (h : List Deed) (m : Message) → f ≡ flow_of h → m.begun ≡ goes_on (pieces h) → next_frame f m ≡ transfer_text (next_piece f m) h
text_is f h m is begun =
    ap (λ (x : FlowState). said_frame 0 (transfer_said x.delivery_id m.begun (not (is_last f m))) (take (share f m) m.rest)) is
    ∙ ap (λ (x : Bool). said_frame 0 (transfer_said (heads (pieces h) % 2 ^ 32) x (not (is_last f m))) (take (share f m) m.rest)) begun

-- what its messages are
messages_more : (os : List (List ℕ)) (ps : List Piece) (f : FlowState) (m : Message) (last : Bool) → is_last f m ≡ last → os ≡ wholes ps ++ waiting (Some m) ps
    → (os ≡ wholes (next_piece f m ∷ ps) ++ waiting (left_of f m) (next_piece f m ∷ ps)) × IsMessageBegun (left_of f m) (next_piece f m ∷ ps)
messages_more os ps f m true e is =
    (rw (e, take-length m.rest) (is ∙ sym (append-nil (wholes ps ++ (part ps ++ m.rest) ∷ []))), rw e refl)
messages_more os ps f m false e is =
    let n : ℕ = most f - length (frame (transfer_said f.delivery_id m.begun true)) in
    let joined : (part ps ++ take n m.rest) ++ drop n m.rest ≡ part ps ++ m.rest = append_assoc (part ps) (take n m.rest) (drop n m.rest)
    ∙ ap (λ (x : List ℕ). part ps ++ x) (take-append-drop n m.rest) in
    (rw e (is ∙ ap (λ (x : List ℕ). wholes ps ++ x ∷ []) (sym joined)), rw e refl)

may_credit : (b : Bool) (n : ℕ) → (b || nat_lt 0 n) ≡ true → b ≡ false → 0 < n
may_credit true n e f = absurd (cc f)
may_credit false n e f = ltb-true 0 n e

module _ (laws : Lengths) (null : NullIsLeast) where
  may : (h : List Deed) (s : Sending) (m : Message) → s.flow ≡ flow_of h → m.begun ≡ goes_on (pieces h) → 512 ≤ s.flow.max_frame_size → may_go s.flow s.unsent m ≡ true → MayGo (next_piece s.flow m) h
  may h s m is begun le go =
      let f = s.flow in
      let a = and_parts ((m.begun || nat_lt 0 (credit f)) && nat_lt 0 (window f)) (fits s.unsent (next_frame f m)) go in
      let b = and_parts (m.begun || nat_lt 0 (credit f)) (nat_lt 0 (window f)) a.0 in
      let text = text_is f h m is begun in record {
        credited = λ no. subst (λ (x : FlowState). 0 < credit x) is (may_credit m.begun (credit f) b.0 (begun ∙ no));
        placed = subst (λ (x : FlowState). 0 < window x) is (ltb-true 0 (window f) b.1);
        within = subst (λ (x : FlowState). length (transfer_text (next_piece f m) h) ≤ most x) is (subst (λ (x : List ℕ). length x ≤ most f) text (frame_within laws null f m le));
        full = λ goes. ap length (sym text) ∙ frame_full laws null f m le (not-true (is_last f m) goes) ∙ ap most is;
      }

  wrote_step : (terms : SendTerms) (h : List Deed) (s : Sending) (o : Option Message) → s.message ≡ o → Keeps terms h s → Keeps terms (wrote_deeds s o ++ h) (wrote_of s o)
  wrote_step terms h s None e k = k
  wrote_step terms h s (Some m) e k = by (is_talking s.talk) (may_go s.flow s.unsent m) refl refl
    where
      same : (record s { message = Some m }) ≡ s
      same = ap (λ (x : Option Message). record s { message = x }) (sym e)

      begun_is : m.begun ≡ goes_on (pieces h)
      begun_is = subst (λ (x : Option Message). IsMessageBegun x (pieces h)) e k.is.begun

      messages_are : offers h ≡ wholes (pieces h) ++ waiting (Some m) (pieces h)
      messages_are = subst (λ (x : Option Message). offers h ≡ wholes (pieces h) ++ waiting x (pieces h)) e k.is.messages

      by : (t go : Bool) → is_talking s.talk ≡ t → may_go s.flow s.unsent m ≡ go → Keeps terms (wrote_deeds s (Some m) ++ h) (wrote_of s (Some m))
      by false go et eg = rw et k
      by true false et eg = rw (et, eg) (subst (λ (x : Sending). Keeps terms h x) (sym same) k)
      by true true et eg =
          let p = next_piece s.flow m in
          let next = messages_more (offers h) (pieces h) s.flow m (is_last s.flow m) refl messages_are in
          let after : Sending = record s { flow = transferred (heads_of m) s.flow; message = left_of s.flow m; unsent = s.unsent ++ next_frame s.flow m } in
          let keeps : Keeps terms (Wrote p ∷ h) after = record {
            is = record {
              terms_are = k.is.terms_are;
              flow_is = flow_more s.flow h m p k.is.flow_is begun_is;
              messages = next.0;
              begun = next.1;
              bytes = further (moved h) s.unsent (next_frame s.flow m) (written terms h) k.is.bytes ∙ ap (λ (x : List ℕ). written terms h ++ x) (text_is s.flow h m k.is.flow_is begun_is);
            };
            all = (may h s m k.is.flow_is begun_is k.least eg, k.all);
            least = k.least;
          } in
          rw (et, eg) keeps

  frames_step : (terms : SendTerms) (h : List Deed) (s : Sending) (n : ℕ) → Keeps terms h s → Keeps terms (frame_deeds n s ++ h) (writes n s)
  frames_step terms h s zero k = k
  frames_step terms h s (suc n) k =
      let t = writes n s in
      subst (λ (x : List Deed). Keeps terms x (wrote t)) (sym (append_assoc (wrote_deeds t t.message) (frame_deeds n s) h)) (wrote_step terms (frame_deeds n s ++ h) t t.message refl
      (frames_step terms h s n k))

-- What is told. -------------------------------------------------------------------------------------------------------

-- a sender that ends keeps what its history gives
pub ended_is : (terms : SendTerms) (h : List Deed) (s : Sending) (c : Condition) → Keeps terms h s → Keeps terms h (ended c s)
ended_is terms h s c k = record { is = record { terms_are = k.is.terms_are; flow_is = k.is.flow_is; messages = k.is.messages; begun = k.is.begun; bytes = k.is.bytes }; all = k.all; least = k.least }

-- what is told changes the limits and what waits to be sent, and no message
heard_keeps : (terms : SendTerms) (h : List Deed) (s : Sending) (t : Telling) (f : FlowState) (unsent : List ℕ) → Keeps terms h s → f ≡ flow_of (Heard t ∷ h) →
    moved h ++ unsent ≡ written terms (Heard t ∷ h) → 512 ≤ f.max_frame_size → Keeps terms (Heard t ∷ h) (record s { flow = f; unsent = unsent })
heard_keeps terms h s t f unsent k flow bytes least = record {
  is = record { terms_are = k.is.terms_are; flow_is = flow; messages = k.is.messages; begun = k.is.begun; bytes = bytes };
  all = k.all;
  least = least;
}

-- what changes nothing that counts
quiet : (terms : SendTerms) (h : List Deed) (s : Sending) (t : Telling) → flow_of (Heard t ∷ h) ≡ flow_of h → written terms (Heard t ∷ h) ≡ written terms h ++ [] → Keeps terms h s →
    Keeps terms (Heard t ∷ h) s
quiet terms h s t flow text k = heard_keeps terms h s t s.flow s.unsent k (k.is.flow_is ∙ sym flow) (k.is.bytes ∙ sym (append-nil (written terms h)) ∙ sym text) k.least

idle_by : (o : Option Message) (os : List (List ℕ)) (ps : List Piece) → os ≡ wholes ps ++ waiting o ps → is_none o ≡ nat_le (length os) (length (wholes ps))
idle_by None os ps e = sym (le-leb (length os) (length (wholes ps)) (omega (arith, ap length e, length-append (wholes ps) [])))
idle_by (Some m) os ps e = by (nat_le (length os) (length (wholes ps))) refl
  where
    by : (b : Bool) → nat_le (length os) (length (wholes ps)) ≡ b → false ≡ b
    by false is = refl
    by true is = absurd (omega (arith, leb-true (length os) (length (wholes ps)) is, ap length e, length-append (wholes ps) ((part ps ++ m.rest) ∷ [])))

same_count : (f : FlowState) (a b : ℕ) → a ≡ b → (record f { delivery_count = a }) ≡ (record f { delivery_count = b })
same_count f a b e = rw e refl

-- the answer to a flow
flow_step : (terms : SendTerms) (h : List Deed) (s : Sending) (l : Limits) → Keeps terms h s → Keeps terms (Heard (told.Flowed l) ∷ h) (flowed l s)
flow_step terms h s l k = subst (λ (d : Bool). Keeps terms (Heard (told.Flowed l) ∷ h) (answered d l.echo (record s { flow = limited l s.flow }))) (sym same) (by (drains l h) l.echo refl refl)
  where
    same : (l.of_link && l.drain && is_none s.message) ≡ drains l h
    same = ap (λ (x : Bool). l.of_link && l.drain && x) (idle_by s.message (offers h) (pieces h) k.is.messages)

    after : FlowState
    after = flow_of (Heard (told.Flowed l) ∷ h)

    n : ℕ
    n = heads (pieces h) + advances h

    up : ℕ
    up = ahead (n % 2 ^ 32) (credit_end (Heard (told.Flowed l) ∷ h))

    count : (d : Bool) → drains l h ≡ d → (n + cond d up 0) % 2 ^ 32 ≡ after.delivery_count
    count d e = ap (λ (x : ℕ). x % 2 ^ 32) (omega arith) ∙ ap (λ (x : Bool). (heads (pieces h) + (advances h + cond x up 0)) % 2 ^ 32) (sym e)

    stays_is : drains l h ≡ false → limited l s.flow ≡ after
    stays_is e = ap (limited l) k.is.flow_is ∙ same_count (limited l (flow_of h)) (n % 2 ^ 32) after.delivery_count (ap (λ (x : ℕ). x % 2 ^ 32) (omega arith) ∙ count false e)

    drained_is : drains l h ≡ true → drained (limited l s.flow) ≡ after
    drained_is e = ap (λ (x : FlowState). drained (limited l x)) k.is.flow_is ∙ same_count (limited l (flow_of h)) (sum_of (n % 2 ^ 32) up) after.delivery_count (more n up ∙ count true e)

    by : (d echo : Bool) → drains l h ≡ d → l.echo ≡ echo → Keeps terms (Heard (told.Flowed l) ∷ h) (answered d echo (record s { flow = limited l s.flow }))
    by true echo ed ee =
        heard_keeps terms h s (told.Flowed l) (drained (limited l s.flow)) (s.unsent ++ frame (flow_said (drained (limited l s.flow)) true)) k (drained_is ed)
        (further (moved h) s.unsent (frame (flow_said (drained (limited l s.flow)) true)) (written terms h) k.is.bytes
        ∙ ap (λ (x : FlowState). written terms h ++ frame (flow_said x true)) (drained_is ed) ∙ ap (λ (x : Bool). written terms h ++ answer_by x l.echo after) (sym ed)) k.least
    by false true ed ee =
        heard_keeps terms h s (told.Flowed l) (limited l s.flow) (s.unsent ++ frame (flow_said (limited l s.flow) false)) k (stays_is ed)
        (further (moved h) s.unsent (frame (flow_said (limited l s.flow) false)) (written terms h) k.is.bytes
        ∙ ap (λ (x : FlowState). written terms h ++ frame (flow_said x false)) (stays_is ed) ∙ ap (λ (x : Bool). written terms h ++ answer_by x true after) (sym ed)
        ∙ ap (λ (x : Bool). written terms h ++ answer_by (drains l h) x after) (sym ee)) k.least
    by false false ed ee =
        heard_keeps terms h s (told.Flowed l) (limited l s.flow) s.unsent k (stays_is ed)
        (k.is.bytes ∙ sym (append-nil (written terms h)) ∙ ap (λ (x : Bool). written terms h ++ answer_by x false after) (sym ed)
        ∙ ap (λ (x : Bool). written terms h ++ answer_by (drains l h) x after) (sym ee)) k.least

heard_step : (terms : SendTerms) (h : List Deed) (s : Sending) (t : Telling) → IsLawful t → Keeps terms h s → Keeps terms (Heard t ∷ h) (heard t s)
heard_step terms h s told.Nothing lawful k = quiet terms h s told.Nothing refl refl k
heard_step terms h s (told.Opened n) lawful k =
    heard_keeps terms h s (told.Opened n) (opened n s.flow) s.unsent k (ap (opened n) k.is.flow_is) (k.is.bytes ∙ sym (append-nil (written terms h))) lawful
heard_step terms h s (told.Begun next incoming_window) lawful k =
    heard_keeps terms h s (told.Begun next incoming_window) (begun next incoming_window s.flow) s.unsent k (ap (begun next incoming_window) k.is.flow_is)
    (k.is.bytes ∙ sym (append-nil (written terms h))) k.least
heard_step terms h s (told.Flowed l) lawful k = flow_step terms h s l k
heard_step terms h s (told.Disposed first last outcome) lawful k = quiet terms h s (told.Disposed first last outcome) refl refl k
heard_step terms h s (told.Left c) lawful k = ended_is terms (Heard (told.Left c) ∷ h) s c (quiet terms h s (told.Left c) refl refl k)
heard_step terms h s (told.Closed c) lawful k = ended_is terms (Heard (told.Closed c) ∷ h) s c (quiet terms h s (told.Closed c) refl refl k)
heard_step terms h s told.Unread lawful k = ended_is terms (Heard told.Unread ∷ h) s condition.Other (quiet terms h s told.Unread refl refl k)

acted_step : (terms : SendTerms) (h : List Deed) (s : Sending) (u : Talk) (t : Telling) → IsLawful t → Keeps terms h s → Keeps terms (heard_deeds u t ++ h) (heard_in u t s)
acted_step terms h s talk.Silent told.Nothing lawful k = record {
  is = record {
    terms_are = k.is.terms_are;
    flow_is = k.is.flow_is;
    messages = k.is.messages;
    begun = k.is.begun;
    bytes = further (moved h) s.unsent (flat_map frame (opening s.terms)) (written terms h) k.is.bytes ∙ ap (λ (x : SendTerms). written terms h ++ flat_map frame (opening x)) k.is.terms_are;
  };
  all = k.all;
  least = k.least;
}
acted_step terms h s talk.Silent t lawful k = ended_is terms h s condition.Other k
acted_step terms h s talk.Talking t lawful k = heard_step terms h s t lawful k
acted_step terms h s talk.Closing (told.Closed c) lawful k = ended_is terms h s c k
acted_step terms h s talk.Closing t lawful k = k
acted_step terms h s (talk.Ended c) t lawful k = k

none_waits : (u : Talk) (o : Option Message) → fault_at u o ≡ None → o ≡ None
none_waits talk.Silent None e = refl
none_waits talk.Silent (Some m) e = absurd (cc e)
none_waits talk.Talking None e = refl
none_waits talk.Talking (Some m) e = absurd (cc e)
none_waits talk.Closing o e = absurd (cc e)
none_waits (talk.Ended c) o e = absurd (cc e)

part_none : (ps : List Piece) → goes_on ps ≡ false → part ps ≡ []
part_none [] e = refl
part_none (p ∷ ps) e = rw e refl

event_step : (terms : SendTerms) (h : List Deed) (s : Sending) (e : SendEvent) → IsLawfulEvent e → SendMay s e → Keeps terms h s → Keeps terms (event_deeds s e ++ h) (changed s e)
event_step terms h s (Acted u) lawful may k = acted_step terms h s s.talk (told_of u) lawful k
event_step terms h s (Offered m) lawful may k =
    let none = none_waits s.talk s.message may in
    let rest : goes_on (pieces h) ≡ false = subst (λ (x : Option Message). IsMessageBegun x (pieces h)) none k.is.begun in
    let before : offers h ≡ wholes (pieces h) ++ [] = subst (λ (x : Option Message). offers h ≡ wholes (pieces h) ++ waiting x (pieces h)) none k.is.messages in record {
      is = record {
        terms_are = k.is.terms_are;
        flow_is = k.is.flow_is;
        messages = ap (λ (x : List (List ℕ)). x ++ m ∷ []) (before ∙ append-nil (wholes (pieces h))) ∙ ap (λ (x : List ℕ). wholes (pieces h) ++ (x ++ m) ∷ []) (sym (part_none (pieces h) rest));
        begun = sym rest;
        bytes = k.is.bytes;
      };
      all = k.all;
      least = k.least;
    }
event_step terms h s CloseWritten lawful may k = record {
  is = record {
    terms_are = k.is.terms_are;
    flow_is = k.is.flow_is;
    messages = k.is.messages;
    begun = k.is.begun;
    bytes = further (moved h) s.unsent (frame close_said) (written terms h) k.is.bytes;
  };
  all = k.all;
  least = k.least;
}
event_step terms h s (Moved n) lawful may k = record {
  is = record {
    terms_are = k.is.terms_are;
    flow_is = k.is.flow_is;
    messages = k.is.messages;
    begun = k.is.begun;
    bytes = append_assoc (moved h) (take n s.unsent) (drop n s.unsent) ∙ ap (λ (x : List ℕ). moved h ++ x) (take-append-drop n s.unsent) ∙ k.is.bytes;
  };
  all = k.all;
  least = k.least;
}

-- Lists of events. ----------------------------------------------------------------------------------------------------

begins : (terms : SendTerms) → Keeps terms [] (sending_begins terms)
begins terms = record { is = record { terms_are = refl; flow_is = refl; messages = refl; begun = refl; bytes = refl }; all = tt; least = omega arith }

none_left : (t : Sending) (o : Option Message) → frames_left o ≤ 0 → may_send t o ≡ false
none_left t None le = refl
none_left t (Some m) le = absurd (omega (arith, le))

module _ (laws : Lengths) (null : NullIsLeast) where
  pub goes_step : (terms : SendTerms) (h : List Deed) (s : Sending) (e : SendEvent) → IsLawfulEvent e → SendMay s e → Keeps terms h s → Keeps terms (deeds s e ++ h) (send_after s e)
  goes_step terms h s e lawful may k =
      let t = changed s e in
      let n = frames_left t.message in
      subst (λ (x : List Deed). Keeps terms x (writes n t)) (sym (append_assoc (frame_deeds n t) (event_deeds s e) h))
      (frames_step laws null terms (event_deeds s e ++ h) t n (event_step terms h s e lawful may k))

  -- each frame leaves less, until none may be written
  fewer : (terms : SendTerms) (h : List Deed) (s : Sending) (n : ℕ) → Keeps terms h s → (can_write (writes n s) ≡ false) ⊎ (n + frames_left (writes n s).message ≤ frames_left s.message)
  fewer terms h s zero k = inr (omega arith)
  fewer terms h s (suc n) k =
      let t = writes n s in
      let now = frames_step laws null terms h s n k in
      elim (fewer terms h s n k) [
        | inl none ↦ inl (ap can_write (stays t none) ∙ none)
        | inr less ↦ by (can_write t) refl now less
      ]
    where
      by : (b : Bool) → can_write (writes n s) ≡ b → Keeps terms (frame_deeds n s ++ h) (writes n s) → n + frames_left (writes n s).message ≤ frames_left s.message →
          (can_write (writes (suc n) s) ≡ false) ⊎ (suc n + frames_left (writes (suc n) s).message ≤ frames_left s.message)
      by false e now less = inl (ap can_write (stays (writes n s) e) ∙ e)
      by true e now less = inr (omega (arith, less, smaller laws null (writes n s) now.least e))

  written_all : (terms : SendTerms) (h : List Deed) (s : Sending) → Keeps terms h s → can_write (all_written s) ≡ false
  written_all terms h s k =
      elim (fewer terms h s (frames_left s.message) k) [
        | inl none ↦ none
        | inr less ↦ none_left (all_written s) (all_written s).message (omega (arith, less))
      ]

  pub all_keeps : (terms : SendTerms) (es : List SendEvent) → Accepted terms es → Keeps terms (history terms es) (after_all terms es)
  all_keeps terms [] a = begins terms
  all_keeps terms (e ∷ es) a = goes_step terms (history terms es) (after_all terms es) e a.2 a.1 (all_keeps terms es a.0)

  pub all_written_out : (terms : SendTerms) (es : List SendEvent) → Accepted terms es → can_write (after_all terms es) ≡ false
  all_written_out terms [] a = refl
  all_written_out terms (e ∷ es) a =
      let s = after_all terms es in
      written_all terms (event_deeds s e ++ history terms es) (changed s e) (event_step terms (history terms es) s e a.2 a.1 (all_keeps terms es a.0))
