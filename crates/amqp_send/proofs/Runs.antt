-- The history of a sender, one call after another.
use Rattle.std.proofs.Common.{arith, ◌≡◌, ℕ, zero, suc, ◌≤◌, ◌&&◌, inl, inr, Bool, true, false, List, [], ◌∷◌, ◌++◌, take, drop}
use Rattle.std.proofs.Common.{refl, sym, ap, ◌∙◌, subst, Option, Some, None, append_assoc, append-nil}
use Rattle.std.specs.Prelude.{if◌then◌else◌}
use Rattle.std.specs.List.{flat_map}
use Rattle.amqp_frame.specs.Splits.{SplitterState, Waits, IsHeld, IsUnchanged, WentBy}
use Rattle.amqp_frame.specs.Units.{StreamUnit, bytes_of, AreUnits}
use Rattle.amqp_frame.specs.declared.units.Stage.{Stage}
use Rattle.amqp_frame.specs.declared.units.Stage.TheVariants as due
use Rattle.amqp_frame.proofs.Fronts.{none_held, waits_or_not}
use Rattle.amqp_frame.proofs.Histories.{unit_went}
use Rattle.amqp_send.specs.declared.news.News.{News}
use Rattle.amqp_send.specs.declared.talk.Talk.{Talk}
use Rattle.amqp_send.specs.declared.talk.Talk.TheVariants as talk
use Rattle.amqp_send.specs.declared.telling.Telling.{Telling}
use Rattle.amqp_send.specs.declared.telling.Telling.TheVariants as told
use Rattle.amqp_send.specs.Calls.{SenderState, taken}
use Rattle.amqp_send.specs.Histories.{Deed, Wrote, offers, moved, heard_deeds, event_deeds, next_piece, wrote_deeds, frame_deeds, deeds}
use Rattle.amqp_send.specs.Histories.{after_all, history, IsHistory, AllMayGo, IsLawfulEvent, Accepted}
use Rattle.amqp_send.specs.Runs.{Call, Offer, Feed, Output, Close, Answer, TakenOver, Refused, Fed, MovedOut, Closed, does_send, IsFed, moved_count, IsClosed, Does, Run, IsStart}
use Rattle.amqp_send.specs.Runs.{taken_by, moved_by, offered_by, told_by, Notice, Moves, news_told, fed, offered, heard, units_of, notices, tellings, IsTraced, HasHistory, HasMoment}
use Rattle.amqp_send.specs.Sendings.{SendTerms, Message, Sending, is_talking, may_go, writes, frames_left, has_room, can_write}
use Rattle.amqp_send.specs.Sendings.{SendEvent, Acted, Offered, CloseWritten, Moved, changed, send_after, SendMay}
use Rattle.amqp_send.specs.Tellings.{told_of}

-- What was offered and moved out, in a longer history. ----------------------------------------------------------------

-- no message is taken over, and nothing moved out
record IsSame (more h : List Deed) : Type 0 where
  pub offers_are : offers more ≡ offers h
  pub moved_is : moved more ≡ moved h

wrote_same : (s : Sending) (o : Option Message) (h : List Deed) → IsSame (wrote_deeds s o ++ h) h
wrote_same s None h = record { offers_are = refl; moved_is = refl }
wrote_same s (Some m) h = by (is_talking s.talk && may_go s.flow s.unsent m)
  where
    by : (b : Bool) → IsSame ((if b then Wrote (next_piece s.flow m) ∷ [] else []) ++ h) h
    by true = record { offers_are = refl; moved_is = refl }
    by false = record { offers_are = refl; moved_is = refl }

frames_same : (n : ℕ) (s : Sending) (h : List Deed) → IsSame (frame_deeds n s ++ h) h
frames_same zero s h = record { offers_are = refl; moved_is = refl }
frames_same (suc n) s h =
    let t = writes n s in
    let one = wrote_same t t.message (frame_deeds n s ++ h) in
    let rest = frames_same n s h in
    subst (λ (x : List Deed). IsSame x h) (sym (append_assoc (wrote_deeds t t.message) (frame_deeds n s) h))
    (record { offers_are = one.offers_are ∙ rest.offers_are; moved_is = one.moved_is ∙ rest.moved_is })

event_same : (s : Sending) (e : SendEvent) (h : List Deed) → IsSame (deeds s e ++ h) (event_deeds s e ++ h)
event_same s e h =
    let t = changed s e in
    subst (λ (x : List Deed). IsSame x (event_deeds s e ++ h)) (sym (append_assoc (frame_deeds (frames_left t.message) t) (event_deeds s e) h))
    (frames_same (frames_left t.message) t (event_deeds s e ++ h))

heard_same : (w : Talk) (t : Telling) (h : List Deed) → IsSame (heard_deeds w t ++ h) h
heard_same talk.Silent told.Nothing h = record { offers_are = refl; moved_is = refl }
heard_same talk.Silent t h = record { offers_are = refl; moved_is = refl }
heard_same talk.Talking t h = record { offers_are = refl; moved_is = refl }
heard_same talk.Closing t h = record { offers_are = refl; moved_is = refl }
heard_same (talk.Ended c) t h = record { offers_are = refl; moved_is = refl }

-- what an event takes over, and what it moves out
abbrev taken_over : SendEvent → List (List ℕ)
taken_over (Acted u) = []
taken_over (Offered m) = m ∷ []
taken_over CloseWritten = []
taken_over (Moved n) = []

abbrev moved_out : Sending → SendEvent → List ℕ
moved_out s (Acted u) = []
moved_out s (Offered m) = []
moved_out s CloseWritten = []
moved_out s (Moved n) = take n s.unsent

-- an event's own deeds
record Adds (s : Sending) (e : SendEvent) (h more : List Deed) : Type 0 where
  pub offers_are : offers more ≡ offers h ++ taken_over e
  pub moved_is : moved more ≡ moved h ++ moved_out s e

event_adds : (s : Sending) (e : SendEvent) (h : List Deed) → Adds s e h (event_deeds s e ++ h)
event_adds s (Acted u) h =
    let same = heard_same s.talk (told_of u) h in
    record { offers_are = same.offers_are ∙ sym (append-nil (offers h)); moved_is = same.moved_is ∙ sym (append-nil (moved h)) }
event_adds s (Offered m) h = record { offers_are = refl; moved_is = sym (append-nil (moved h)) }
event_adds s CloseWritten h = record { offers_are = sym (append-nil (offers h)); moved_is = sym (append-nil (moved h)) }
event_adds s (Moved n) h = record { offers_are = sym (append-nil (offers h)); moved_is = refl }

adds : (s : Sending) (e : SendEvent) (h : List Deed) → Adds s e h (deeds s e ++ h)
adds s e h =
    let same = event_same s e h in
    let own = event_adds s e h in
    record { offers_are = same.offers_are ∙ own.offers_are; moved_is = same.moved_is ∙ own.moved_is }

-- One event. ----------------------------------------------------------------------------------------------------------

record Leads (terms : SendTerms) (took gave : List ℕ) (messages : List (List ℕ)) (told : List Notice) (s : SenderState) : Type 0 where
  pub events : List SendEvent
  pub traced : IsTraced terms took gave messages told events s

-- what the input has to be behind an event
record IsInput (i : SplitterState) (us : List StreamUnit) (took : List ℕ) : Type 0 where
  pub limit : i.limit ≡ 4096
  pub units : WentBy i us took
  pub rest : IsHeld i.limit i.stage i.filled

one_more : (terms : SendTerms) (took before gave : List ℕ) (messages : List (List ℕ)) (told : List Notice) (es : List SendEvent) (old new : SenderState) (e : SendEvent)
    → IsTraced terms before gave messages told es old → SendMay old.sending e → IsLawfulEvent e → new.sending ≡ send_after old.sending e → IsInput new.input (units_of (e ∷ es)) took
    → IsTraced terms took (gave ++ moved_out old.sending e) (messages ++ taken_over e) (told ++ notices old.sending e) (e ∷ es) new
one_more terms took before gave messages told es old new e t may lawful n i =
    let h = history terms es in
    let s = after_all terms es in
    let more = adds s e h in
    record {
      accepted = (t.accepted, subst (λ (x : Sending). SendMay x e) t.sending_is may, lawful);
      sending_is = n ∙ ap (λ (x : Sending). send_after x e) t.sending_is;
      limit = i.limit;
      units = i.units;
      rest = i.rest;
      messages_are = ap (λ (x : List (List ℕ)). x ++ taken_over e) t.messages_are ∙ sym more.offers_are;
      gave_is = ap (λ (x : List ℕ). x ++ moved_out old.sending e) t.gave_is ∙ ap (λ (x : Sending). moved h ++ moved_out x e) t.sending_is ∙ sym more.moved_is;
      told_is = ap (λ (x : List Notice). x ++ notices old.sending e) t.told_is ∙ ap (λ (x : Sending). tellings terms es ++ notices x e) t.sending_is;
    }

input_of : (terms : SendTerms) (took gave : List ℕ) (messages : List (List ℕ)) (told : List Notice) (es : List SendEvent) (s : SenderState)
    → IsTraced terms took gave messages told es s → IsInput s.input (units_of es) took
input_of terms took gave messages told es s t = record { limit = t.limit; units = t.units; rest = t.rest }

-- Feeds. --------------------------------------------------------------------------------------------------------------

-- bytes are taken
grows : (i : SplitterState) (us : List StreamUnit) (took piece : List ℕ) (used : ℕ) → IsHeld i.limit i.stage (i.filled ++ take used piece) → IsInput i us took
    → IsInput (taken i (take used piece)) us (took ++ take used piece)
grows i us took piece used held x = record {
  limit = x.limit;
  units = record {
    joined = ap (λ (w : List ℕ). w ++ take used piece) x.units.joined ∙ append_assoc (flat_map bytes_of us) i.filled (take used piece);
    each = x.units.each;
    due = x.units.due;
  };
  rest = held;
}

unchanged : (old new : SplitterState) (us : List StreamUnit) (took : List ℕ) → IsUnchanged old new → IsInput old us took → IsInput new us took
unchanged old new us took u x = record {
  limit = u.limit ∙ x.limit;
  units = record {
    joined = x.units.joined ∙ ap (λ (w : List ℕ). flat_map bytes_of us ++ w) (sym u.filled);
    each = subst (λ (m : ℕ). AreUnits m due.Header us) (sym u.limit) x.units.each;
    due = u.stage ∙ x.units.due;
  };
  rest = subst (λ (m : ℕ). IsHeld m new.stage new.filled) (sym u.limit)
      (subst (λ (w : Stage). IsHeld old.limit w new.filled) (sym u.stage) (subst (λ (w : List ℕ). IsHeld old.limit old.stage w) (sym u.filled) x.rest));
}

-- what stays, where the input alone changes
stays : (terms : SendTerms) (took before gave : List ℕ) (messages : List (List ℕ)) (told : List Notice) (es : List SendEvent) (old new : SenderState)
    → IsTraced terms before gave messages told es old → new.sending ≡ old.sending → IsInput new.input (units_of es) took → IsTraced terms took gave messages told es new
stays terms took before gave messages told es old new t n i = record {
  accepted = t.accepted;
  sending_is = n ∙ t.sending_is;
  limit = i.limit;
  units = i.units;
  rest = i.rest;
  messages_are = t.messages_are;
  gave_is = t.gave_is;
  told_is = t.told_is;
}

module _ (terms : SendTerms) (took gave : List ℕ) (messages : List (List ℕ)) (told : List Notice) (es : List SendEvent) (old new : SenderState)
    (t : IsTraced terms took gave messages told es old) where
  quiet : (news : Option News) (bytes : List ℕ) (between : SplitterState) → IsInput between (units_of es) bytes → IsUnchanged between new.input × (new.sending ≡ old.sending) × (news ≡ None)
      → Leads terms bytes (gave ++ []) (messages ++ []) (told ++ news_told news) new
  quiet news bytes between i k =
      let at = stays terms bytes took gave messages told es old new t k.1 (unchanged between new.input (units_of es) bytes k.0 i) in
      record {
        events = es;
        traced = subst (λ (v : List ℕ). IsTraced terms bytes v (messages ++ []) (told ++ news_told news) es new) (sym (append-nil gave))
            (subst (λ (v : List (List ℕ)). IsTraced terms bytes gave v (told ++ news_told news) es new) (sym (append-nil messages))
            (subst (λ (v : List Notice). IsTraced terms bytes gave messages v es new) (sym (append-nil told) ∙ ap (λ (n : Option News). told ++ news_told n) (sym k.2)) at));
      }

  feeds : (piece : List ℕ) (used : ℕ) (news : Option News) → IsFed old new piece used news → Leads terms (took ++ take used piece) (gave ++ []) (messages ++ []) (told ++ news_told news) new
  feeds piece used news f =
      elim (waits_or_not between (subst (λ (m : ℕ). 8 ≤ m) (sym t.limit) (omega arith))) [
        | inl u ↦ by (has_room old.sending) refl u.0 u.1
        | inr none ↦ quiet news (took ++ take used piece) between i (f.none none)
      ]
    where
      between : SplitterState
      between = taken old.input (take used piece)

      i : IsInput between (units_of es) (took ++ take used piece)
      i = grows old.input (units_of es) took piece used f.held (input_of terms took gave messages told es old t)

      by : (room : Bool) → has_room old.sending ≡ room → (u : StreamUnit) → Waits between u → Leads terms (took ++ take used piece) (gave ++ []) (messages ++ []) (told ++ news_told news) new
      by false r u w = quiet news (took ++ take used piece) between i (f.waits r)
      by true r u w =
          let a = f.acted u w r in
          let after : IsInput new.input (units_of es ++ u ∷ []) (took ++ take used piece) = record {
            limit = a.0.limit ∙ i.limit;
            units = unit_went between new.input (units_of es) (took ++ take used piece) u a.0 i.units w;
            rest = subst (λ (v : List ℕ). IsHeld new.input.limit new.input.stage v) (sym a.0.filled) (none_held new.input.limit new.input.stage);
          } in
          record {
            events = Acted u ∷ es;
            traced = subst (λ (n : Option News). IsTraced terms (took ++ take used piece) (gave ++ []) (messages ++ []) (told ++ news_told n) (Acted u ∷ es) new) (sym a.2)
                (one_more terms (took ++ take used piece) took gave messages told es old new (Acted u) t r (f.lawful u w r) a.1 after);
          }

  -- The other calls. --------------------------------------------------------------------------------------------------

  -- the input is as it was
  same_input : (e : SendEvent) → units_of (e ∷ es) ≡ units_of es → IsInput old.input (units_of (e ∷ es)) (took ++ [])
  same_input e u = subst (λ (v : List ℕ). IsInput old.input (units_of (e ∷ es)) v) (sym (append-nil took))
      (subst (λ (v : List StreamUnit). IsInput old.input v took) (sym u) (input_of terms took gave messages told es old t))

  happens : (e : SendEvent) → units_of (e ∷ es) ≡ units_of es → SendMay old.sending e → IsLawfulEvent e → new ≡ does_send old e
      → Leads terms (took ++ []) (gave ++ moved_out old.sending e) (messages ++ taken_over e) (told ++ notices old.sending e) new
  happens e u may lawful n =
      subst (λ (x : SenderState). Leads terms (took ++ []) (gave ++ moved_out old.sending e) (messages ++ taken_over e) (told ++ notices old.sending e) x) (sym n)
      (record { events = e ∷ es; traced = one_more terms (took ++ []) took gave messages told es old (does_send old e) e t may lawful refl (same_input e u) })

  kept : new ≡ old → Leads terms (took ++ []) (gave ++ []) (messages ++ []) (told ++ []) new
  kept n = record {
    events = es;
    traced = subst (λ (v : List ℕ). IsTraced terms v (gave ++ []) (messages ++ []) (told ++ []) es new) (sym (append-nil took))
        (subst (λ (v : List ℕ). IsTraced terms took v (messages ++ []) (told ++ []) es new) (sym (append-nil gave))
        (subst (λ (v : List (List ℕ)). IsTraced terms took gave v (told ++ []) es new) (sym (append-nil messages))
        (subst (λ (v : List Notice). IsTraced terms took gave messages v es new) (sym (append-nil told))
        (subst (λ (x : SenderState). IsTraced terms took gave messages told es x) (sym n) t))));
  }

  closes : (closed : Bool) → IsClosed old new closed → Leads terms (took ++ []) (gave ++ []) (messages ++ []) (told ++ told_by Close (Closed closed)) new
  closes true c = happens CloseWritten refl (sym c.may) tt (c.written_so refl)
  closes false c = kept (c.kept refl)

  outputs : (room : ℕ) (bytes : List ℕ) → (bytes ≡ take (moved_count old room) old.sending.unsent) × (new ≡ does_send old (Moved (moved_count old room)))
      → Leads terms (took ++ []) (gave ++ bytes) (messages ++ []) (told ++ Moves bytes ∷ []) new
  outputs room bytes d =
      subst (λ (v : List ℕ). Leads terms (took ++ []) (gave ++ v) (messages ++ []) (told ++ Moves v ∷ []) new) (sym d.0)
      (happens (Moved (moved_count old room)) refl (omega arith) tt d.1)

  does : (c : Call) (a : Answer) → Does old new c a → Leads terms (took ++ taken_by c a) (gave ++ moved_by a) (messages ++ offered_by c a) (told ++ told_by c a) new
  does (Offer m) TakenOver d = happens (Offered m) refl d.0 tt d.1
  does (Offer m) (Refused fault) d = kept d.1
  does (Feed piece) (Fed used news) d = feeds piece used news d
  does (Output room) (MovedOut bytes) d = outputs room bytes d
  does Close (Closed closed) d = closes closed d
  does c a d = absurd d

-- All calls. ----------------------------------------------------------------------------------------------------------

all_calls : (terms : SendTerms) (took gave : List ℕ) (messages : List (List ℕ)) (told : List Notice) (es : List SendEvent) (s : SenderState)
    (asked : List Call) (answers : List Answer) (last : SenderState) → IsTraced terms took gave messages told es s → Run s asked answers last
    → Leads terms (took ++ fed asked answers) (gave ++ flat_map moved_by answers) (messages ++ offered asked answers) (told ++ heard asked answers) last
all_calls terms took gave messages told es s [] [] last t r = kept terms took gave messages told es s last t r
all_calls terms took gave messages told es s [] (a ∷ answers) last t r = absurd r
all_calls terms took gave messages told es s (c ∷ asked) [] last t r = absurd r
all_calls terms took gave messages told es s (c ∷ asked) (a ∷ answers) last t r =
    let one = does terms took gave messages told es s r.0 t c a r.1 in
    let more = all_calls terms (took ++ taken_by c a) (gave ++ moved_by a) (messages ++ offered_by c a) (told ++ told_by c a) one.events r.0 asked answers last one.traced r.2 in
    let out = flat_map moved_by answers in
    let messages_by = offered asked answers in
    let words = heard asked answers in
    subst (λ (v : List ℕ). Leads terms v (gave ++ (moved_by a ++ out)) (messages ++ (offered_by c a ++ messages_by)) (told ++ (told_by c a ++ words)) last)
    (append_assoc took (taken_by c a) (fed asked answers))
    (subst (λ (v : List ℕ). Leads terms (took ++ taken_by c a ++ fed asked answers) v (messages ++ (offered_by c a ++ messages_by)) (told ++ (told_by c a ++ words)) last)
    (append_assoc gave (moved_by a) out)
    (subst (λ (v : List (List ℕ)). Leads terms (took ++ taken_by c a ++ fed asked answers) (gave ++ moved_by a ++ out) v (told ++ (told_by c a ++ words)) last)
    (append_assoc messages (offered_by c a) messages_by)
    (subst (λ (v : List Notice). Leads terms (took ++ taken_by c a ++ fed asked answers) (gave ++ moved_by a ++ out) (messages ++ offered_by c a ++ messages_by) v last)
    (append_assoc told (told_by c a) words) more)))

-- a new sender has no events
starts : (terms : SendTerms) (s : SenderState) → IsStart terms s → IsTraced terms [] [] [] [] [] s
starts terms s new = record {
  accepted = tt;
  sending_is = new.sending;
  limit = new.limit;
  units = record { joined = sym new.filled; each = tt; due = new.stage };
  rest = subst (λ (l : List ℕ). IsHeld s.input.limit s.input.stage l) (sym new.filled)
      (none_held s.input.limit s.input.stage);
  messages_are = refl;
  gave_is = refl;
  told_is = refl;
}

-- what holds of accepted events
pub record EventLaws : Type 0 where
  pub is : (terms : SendTerms) (es : List SendEvent) → Accepted terms es → IsHistory terms (history terms es) (after_all terms es)
  pub may : (terms : SendTerms) (es : List SendEvent) → Accepted terms es → AllMayGo (history terms es)
  pub complete : (terms : SendTerms) (es : List SendEvent) → Accepted terms es → can_write (after_all terms es) ≡ false

-- the sender that a list of calls leads to, with its history
pub runs : EventLaws → (terms : SendTerms) (calls : List Call) (answers : List Answer) (start last : SenderState)
    → IsStart terms start → Run start calls answers last → HasHistory terms calls answers last
runs laws terms calls answers start last new run =
    let all = all_calls terms [] [] [] [] [] start calls answers last (starts terms start new) run in
    let t = all.traced in
    let is = subst (λ (x : Sending). IsHistory terms (history terms all.events) x) (sym t.sending_is) (laws.is terms all.events t.accepted) in
    record {
      events = all.events;
      traced = t;
      is = is;
      may = laws.may terms all.events t.accepted;
      complete = ap can_write t.sending_is ∙ laws.complete terms all.events t.accepted;
      output = ap (λ (v : List ℕ). v ++ last.sending.unsent) t.gave_is ∙ is.bytes;
    }

-- After each call. ----------------------------------------------------------------------------------------------------

-- The first calls of a run are a run, and so are the others.
record IsSplit (start : SenderState) (calls : List Call) (answers : List Answer) (last : SenderState) (n : ℕ) : Type 0 where
  pub now : SenderState
  pub so_far : Run start (take n calls) (take n answers) now
  pub goes_on : Run now (drop n calls) (drop n answers) last

split : (n : ℕ) (s : SenderState) (calls : List Call) (answers : List Answer) (last : SenderState) → Run s calls answers last → IsSplit s calls answers last n
split zero s calls answers last r = record { now = s; so_far = refl; goes_on = r }
split (suc n) s [] [] last r = record { now = s; so_far = refl; goes_on = r }
split (suc n) s [] (a ∷ answers) last r = absurd r
split (suc n) s (c ∷ calls) [] last r = absurd r
split (suc n) s (c ∷ calls) (a ∷ answers) last r =
    let more = split n r.0 calls answers last r.2 in record { now = more.now; so_far = (r.0, r.1, more.so_far); goes_on = more.goes_on }

-- a run has a history after each of its calls
pub moments : EventLaws → (terms : SendTerms) (calls : List Call) (answers : List Answer) (start last : SenderState) (n : ℕ)
    → IsStart terms start → Run start calls answers last → HasMoment terms start calls answers last n
moments laws terms calls answers start last n new run =
    let x = split n start calls answers last run in
    record {
      now = x.now;
      so_far = x.so_far;
      goes_on = x.goes_on;
      past = runs laws terms (take n calls) (take n answers) start x.now new x.so_far;
    }
