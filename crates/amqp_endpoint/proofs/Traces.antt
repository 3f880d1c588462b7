-- The history of an endpoint, one call after another.
use Rattle.std.proofs.Common.{arith, ◌≡◌, ℕ, zero, suc, ◌+◌, ◌^◌, ◌<◌, ◌≤◌, ◌⊎◌, inl, inr, Bool, true, false, List, [], ◌∷◌, ◌++◌, length, take, drop, refl, sym, ap, ◌∙◌, subst, Option, Some, None}
use Rattle.std.specs.Prelude.{if◌then◌else◌, ◌||◌, slice_index}
use Rattle.std.specs.List.{list_any, flat_map}
use Rattle.std.proofs.Math.Seq.{take-add}
use Rattle.std.proofs.lemmas.List.{append-nil, append_assoc, length-append, length-take, take-append-drop}
use Rattle.amqp_frame.specs.Splits.{SplitterState, Waits, IsUnchanged, IsHeld, IsOne, IsOver, IsTaken}
use Rattle.amqp_frame.specs.Units.{StreamUnit, bytes_of, IsUnit, IsRest, due_behind}
use Rattle.amqp_frame.specs.declared.units.Stage.{Stage}
use Rattle.amqp_frame.specs.declared.units.Stage.TheVariants as due
use Rattle.amqp_frame.proofs.Fronts.{front, none_held, waits_or_not}
use Rattle.amqp_frame.proofs.Histories.{units_more, due_more, joined_more}
use Rattle.amqp_link.specs.Links.{Delivery, first_ready}
use Rattle.amqp_reason.specs.Reasons.{Reason}
use Rattle.amqp_session.specs.declared.slot.Slot.{Slot}
use Rattle.amqp_session.specs.declared.slot.Slot.TheVariants.{Free, Live, Waits as Awaits}
use Rattle.amqp_session.specs.Calls as session
use Rattle.amqp_session.specs.Faults.{or_else, where_so}
use Rattle.amqp_session.specs.Laws.{IsCallInRange}
use Rattle.amqp_session.specs.Sessions as of_session
use Rattle.amqp_session.specs.Sessions.{LiveLink, SessionState}
use Rattle.amqp_endpoint.specs.declared.event.Event.{Event}
use Rattle.amqp_endpoint.specs.declared.event.Outcome.{Outcome}
use Rattle.amqp_endpoint.specs.declared.event.Outcome.TheVariants as outcome
use Rattle.amqp_endpoint.specs.declared.fault.CallFault.{CallFault}
use Rattle.amqp_endpoint.specs.declared.fault.CallFault.TheVariants as refused
use Rattle.amqp_endpoint.specs.declared.phase.Phase.{Phase}
use Rattle.amqp_endpoint.specs.declared.phase.Phase.TheVariants as phase
use Rattle.amqp_endpoint.specs.Calls.{call_fault, call_event, call_spoken, open_call_fault, close_call_spoken, heartbeat, full_fault, close_with_fault, close_with_spoken, reason_fault}
use Rattle.amqp_endpoint.specs.Configs.{Configured, IsConfigured}
use Rattle.amqp_endpoint.specs.Connections as event
use Rattle.amqp_endpoint.specs.Connections.{ConnectionState, ConnectionEvent, connection_after, ConnectionMay, is_dead, is_open, is_unopened}
use Rattle.amqp_endpoint.specs.Connections.{is_closing, is_end, slot_at, connection_ready}
use Rattle.amqp_endpoint.specs.Histories as of_connection
use Rattle.amqp_endpoint.specs.Histories.{phase_of, state_of, Sound}
use Rattle.amqp_endpoint.specs.Lines.{line_of, event_on, told_on}
use Rattle.amqp_endpoint.specs.Replies.{joined, reply_on}
use Rattle.amqp_endpoint.specs.Runs.{Call, Feed, InSession, Close, CloseWith, Heartbeat, Output, Held, Finish, Answer, Fed, Accepted, Dropped, Named, HandedUp, Refused, MovedOut, Holds, Ended}
use Rattle.amqp_endpoint.specs.Runs.{handed, link_handed, session_answer, accepted_answer, IsWritten, IsBeat, IsMoved, IsFinished, Does}
use Rattle.amqp_endpoint.specs.Runs.{Run, IsStart, Happened, Acted, Called, Closed, ClosedWith, Beat, Over, units_of, events, written}
use Rattle.amqp_endpoint.specs.Steps.{EndpointState, IsKept, IsActed, Acts, Comes, FeedDone, may_act, told_outcome, acted_after}
use Rattle.amqp_endpoint.specs.Traces.{IsInRange, AreInRange, taken_by, moved_by, Told, Done, Ends, event_in, told_by, all_taken, heard, has_finished, event_told, tellings, IsTraced}
use Rattle.amqp_endpoint.proofs.Steps.{ConnectionBegins, ConnectionGoesOn, all_sound}

-- what is owed of units and calls
abbrev pub UnitsAccepted : Type 0
UnitsAccepted = (config : Configured) (h : List ConnectionEvent) (u : StreamUnit) → Sound config h → is_dead (phase_of h) ≡ false → ((i : ℕ) → slice_index (bytes_of u) i < 256) →
    ConnectionMay (state_of config h) (event_on (state_of config h) (line_of (state_of config h) u))

-- the law that calls which are not refused are accepted
abbrev pub CallsAccepted : Type 0
CallsAccepted = (config : Configured) (h : List ConnectionEvent) (unsent : List ℕ) (channel : ℕ) (c : session.Call) → Sound config h → IsCallInRange c →
    call_fault (state_of config h) unsent channel c ≡ None → ConnectionMay (state_of config h) (call_event (state_of config h) channel c)

-- Bytes. ----------------------------------------------------------------------------------------------------------------

abbrev AreBytes : List ℕ → Type 0
AreBytes xs = (i : ℕ) → slice_index xs i < 256

bytes_append : (xs ys : List ℕ) → AreBytes xs → AreBytes ys → AreBytes (xs ++ ys)
bytes_append [] ys a b i = b i
bytes_append (x ∷ xs) ys a b zero = a zero
bytes_append (x ∷ xs) ys a b (suc i) = bytes_append xs ys (λ j. a (suc j)) b i

bytes_take : (n : ℕ) (xs : List ℕ) → AreBytes xs → AreBytes (take n xs)
bytes_take zero xs a i = omega arith
bytes_take (suc n) [] a i = a i
bytes_take (suc n) (x ∷ xs) a zero = a zero
bytes_take (suc n) (x ∷ xs) a (suc i) = bytes_take n xs (λ j. a (suc j)) i

bytes_none : AreBytes []
bytes_none i = omega arith

-- A connection whose input ended is over. -------------------------------------------------------------------------------

either_of : (a b : Bool) → b ≡ true → (a || b) ≡ true
either_of true b e = refl
either_of false b e = e

-- behind the end of the input the connection has ended
pub ended_in : (config : Configured) (h : List Happened) → has_finished h ≡ true → list_any is_end (events config h) ≡ true
ended_in config [] o = absurd (grind (arith, o))
ended_in config (Acted u ∷ h) o = either_of (is_end (event_on (state_of config (events config h)) (line_of (state_of config (events config h)) u))) (list_any is_end (events config h))
    (ended_in config h o)
ended_in config (Called channel c ∷ h) o = either_of (is_end (call_event (state_of config (events config h)) channel c)) (list_any is_end (events config h)) (ended_in config h o)
ended_in config (Closed ∷ h) o = ended_in config h o
ended_in config (ClosedWith r ∷ h) o = ended_in config h o
ended_in config (Beat ∷ h) o = ended_in config h o
ended_in config (Over ∷ h) o = refl

over_dead : (over : Bool) (p : Phase) → over ≡ true → is_dead (if over then phase.Dead else p) ≡ false → ⊥
over_dead true p o d = absurd (grind (arith, d))
over_dead false p o d = absurd (grind (arith, o))

live_input : (b : Bool) → (b ≡ true → ⊥) → b ≡ false
live_input true f = absurd (f refl)
live_input false f = refl

-- One call. -------------------------------------------------------------------------------------------------------------

-- the history, and that bytes are in the buffer
record IsAt (config : Configured) (took moved : List ℕ) (told : List Told) (h : List Happened) (s : EndpointState) : Type 0 where
  pub traced : IsTraced config took moved told h s
  pub each : AreBytes s.input.filled

-- a history that grew to this one
record Leads (config : Configured) (took moved : List ℕ) (told : List Told) (h : List Happened) (s : EndpointState) : Type 0 where
  pub history : List Happened
  pub later : List Happened
  pub few : length later ≤ 1
  pub grown : history ≡ later ++ h
  pub at : IsAt config took moved told history s

-- the connection and the buffer stay
stays : (config : Configured) (took moved after : List ℕ) (told : List Told) (h : List Happened) (old new : EndpointState) → IsAt config took moved told h old → IsUnchanged old.input new.input →
    moved ++ old.unsent ≡ after ++ new.unsent → new.connection ≡ old.connection → IsAt config took after told h new
stays config took moved after told h old new x u o c =
    let t = x.traced in
    record {
      traced = record {
        accepted = t.accepted;
        state = c ∙ t.state;
        sound = t.sound;
        rest = t.rest;
        units = t.units;
        each = t.each;
        held = t.held;
        buffer = u.filled ∙ t.buffer;
        limit = u.limit ∙ t.limit;
        stage = λ e. u.stage ∙ t.stage e;
        output = t.output ∙ o;
        telling = t.telling;
      };
      each = subst (λ (w : List ℕ). AreBytes w) (sym u.filled) x.each;
    }

kept : (config : Configured) (took moved : List ℕ) (told : List Told) (h : List Happened) (old new : EndpointState) → IsAt config took moved told h old → IsKept old new →
    IsAt config took moved told h new
kept config took moved told h old new x k = stays config took moved moved told h old new x k.input (ap (λ (w : List ℕ). moved ++ w) (sym k.unsent)) k.connection

more_written : (all moved before : List ℕ) (bytes added after : List ℕ) → all ≡ moved ++ before → bytes ≡ added → after ≡ before ++ added → all ++ bytes ≡ moved ++ after
more_written all moved before bytes added after a b c =
    ap (λ (w : List ℕ). w ++ bytes) a ∙ append_assoc moved before bytes ∙ ap (λ (w : List ℕ). moved ++ (before ++ w)) b ∙ ap (λ (w : List ℕ). moved ++ w) (sym c)

module _ (begins : ConnectionBegins) (goes_on : ConnectionGoesOn) (config : Configured) (narrow : config.window < 2 ^ 31) where
  next_state : (h : List ConnectionEvent) (old new : ConnectionState) (f : ConnectionState → ConnectionEvent) → old ≡ state_of config h → Sound config h → of_connection.Accepted config h →
      ConnectionMay (state_of config h) (f (state_of config h)) → new ≡ connection_after old (f old) →
      (new ≡ state_of config (f (state_of config h) ∷ h)) × Sound config (f (state_of config h) ∷ h) × of_connection.Accepted config (f (state_of config h) ∷ h)
  next_state h old new f e sound all may n =
      let law = goes_on config h (f (state_of config h)) narrow sound may in
      let so_far = subst (λ (s : ConnectionState). ConnectionMay s (f (state_of config h))) (sym (all_sound begins goes_on config h narrow all).0) may in
      (n ∙ ap (λ (s : ConnectionState). connection_after s (f s)) e ∙ law.0, law.1, (all, so_far))

  called : CallsAccepted → (took moved : List ℕ) (told : List Told) (h : List Happened) (old new : EndpointState) (channel : ℕ) (c : session.Call) → IsAt config took moved told h old →
      IsCallInRange c →
      call_fault old.connection old.unsent channel c ≡ None → IsWritten old new (call_event old.connection channel c) (joined (call_spoken old.connection channel c)) →
      IsAt config took moved (told ++ Done (InSession channel c) (accepted_answer (slot_at old.connection channel) c) ∷ []) (Called channel c ∷ h) new
  called accepted took moved told h old new channel c x range none w =
      let t = x.traced in
      let past = events config h in
      let answered = λ (s : ConnectionState). Done (InSession channel c) (accepted_answer (slot_at s channel) c) ∷ [] in
      let may = accepted config past old.unsent channel c t.sound range (subst (λ (s : ConnectionState). call_fault s old.unsent channel c ≡ None) t.state none) in
      let next = next_state past old.connection new.connection (λ s. call_event s channel c) t.state t.sound t.accepted may w.connection in
      record {
        traced = record {
          accepted = next.2;
          state = next.0;
          sound = next.1;
          rest = t.rest;
          units = t.units;
          each = t.each;
          held = t.held;
          buffer = w.input.filled ∙ t.buffer;
          limit = w.input.limit ∙ t.limit;
          stage = λ e. w.input.stage ∙ t.stage e;
          output = more_written (written config h) moved old.unsent (joined (call_spoken (state_of config past) channel c)) (joined (call_spoken old.connection channel c)) new.unsent t.output
              (ap (λ (s : ConnectionState). joined (call_spoken s channel c)) (sym t.state)) w.unsent;
          telling = ap (λ (v : List Told). v ++ answered old.connection) t.telling ∙ ap (λ (v : List Told). tellings config h ++ v) (ap answered t.state);
        };
        each = subst (λ (v : List ℕ). AreBytes v) (sym w.input.filled) x.each;
      }

  closed : (took moved : List ℕ) (told : List Told) (h : List Happened) (old new : EndpointState) → IsAt config took moved told h old → is_open old.connection.phase ≡ true →
      IsWritten old new event.CloseAsked (joined close_call_spoken) → IsAt config took moved (told ++ Done Close (Dropped (connection_ready old.connection)) ∷ []) (Closed ∷ h) new
  closed took moved told h old new x wide w =
      let t = x.traced in
      let answered = λ (s : ConnectionState). Done Close (Dropped (connection_ready s)) ∷ [] in
      let next = next_state (events config h) old.connection new.connection (λ s. event.CloseAsked) t.state t.sound t.accepted
      (subst (λ (s : ConnectionState). is_open s.phase ≡ true) t.state wide, tt, tt) w.connection in
      record {
        traced = record {
          accepted = next.2;
          state = next.0;
          sound = next.1;
          rest = t.rest;
          units = t.units;
          each = t.each;
          held = t.held;
          buffer = w.input.filled ∙ t.buffer;
          limit = w.input.limit ∙ t.limit;
          stage = λ e. w.input.stage ∙ t.stage e;
          output = more_written (written config h) moved old.unsent (joined close_call_spoken) (joined close_call_spoken) new.unsent t.output refl w.unsent;
          telling = ap (λ (v : List Told). v ++ answered old.connection) t.telling ∙ ap (λ (v : List Told). tellings config h ++ v) (ap answered t.state);
        };
        each = subst (λ (v : List ℕ). AreBytes v) (sym w.input.filled) x.each;
      }

  closed_with : (took moved : List ℕ) (told : List Told) (h : List Happened) (old new : EndpointState) (r : Reason) → IsAt config took moved told h old → is_open old.connection.phase ≡ true →
      IsWritten old new event.CloseAsked (joined (close_with_spoken r)) → IsAt config took moved (told ++ Done (CloseWith r) (Dropped (connection_ready old.connection)) ∷ []) (ClosedWith r ∷ h) new
  closed_with took moved told h old new r x wide w =
      let t = x.traced in
      let answered = λ (s : ConnectionState). Done (CloseWith r) (Dropped (connection_ready s)) ∷ [] in
      let next = next_state (events config h) old.connection new.connection (λ s. event.CloseAsked) t.state t.sound t.accepted
      (subst (λ (s : ConnectionState). is_open s.phase ≡ true) t.state wide, tt, tt) w.connection in
      record {
        traced = record {
          accepted = next.2;
          state = next.0;
          sound = next.1;
          rest = t.rest;
          units = t.units;
          each = t.each;
          held = t.held;
          buffer = w.input.filled ∙ t.buffer;
          limit = w.input.limit ∙ t.limit;
          stage = λ e. w.input.stage ∙ t.stage e;
          output = more_written (written config h) moved old.unsent (joined (close_with_spoken r)) (joined (close_with_spoken r)) new.unsent t.output refl w.unsent;
          telling = ap (λ (v : List Told). v ++ answered old.connection) t.telling ∙ ap (λ (v : List Told). tellings config h ++ v) (ap answered t.state);
        };
        each = subst (λ (v : List ℕ). AreBytes v) (sym w.input.filled) x.each;
      }

  finished : (took moved : List ℕ) (told : List Told) (h : List Happened) (old new : EndpointState) → IsAt config took moved told h old → IsFinished old new →
      IsAt config took moved (told ++ Ends ∷ []) (Over ∷ h) new
  finished took moved told h old new x f =
      let t = x.traced in
      let next = next_state (events config h) old.connection new.connection (λ s. event.Finished) t.state t.sound t.accepted (tt, tt, tt) f.connection in
      record {
        traced = record {
          accepted = next.2;
          state = next.0;
          sound = next.1;
          rest = t.rest;
          units = t.units;
          each = t.each;
          held = t.held;
          buffer = f.filled;
          limit = f.limit ∙ t.limit;
          stage = λ e. absurd (grind (arith, e));
          output = append-nil (written config h) ∙ t.output ∙ ap (λ (w : List ℕ). moved ++ w) (sym f.unsent);
          telling = ap (λ (v : List Told). v ++ Ends ∷ []) t.telling;
        };
        each = subst (λ (v : List ℕ). AreBytes v) (sym f.filled) bytes_none;
      }

beat : (config : Configured) (took moved : List ℕ) (told : List Told) (h : List Happened) (old new : EndpointState) → IsAt config took moved told h old → IsBeat old new →
    IsAt config took moved (told ++ Done Heartbeat Accepted ∷ []) (Beat ∷ h) new
beat config took moved told h old new x b =
    let t = x.traced in
    record {
      traced = record {
        accepted = t.accepted;
        state = b.connection ∙ t.state;
        sound = t.sound;
        rest = t.rest;
        units = t.units;
        each = t.each;
        held = t.held;
        buffer = b.input.filled ∙ t.buffer;
        limit = b.input.limit ∙ t.limit;
        stage = λ e. b.input.stage ∙ t.stage e;
        output = more_written (written config h) moved old.unsent heartbeat heartbeat new.unsent t.output refl b.unsent;
        telling = ap (λ (v : List Told). v ++ Done Heartbeat Accepted ∷ []) t.telling;
      };
      each = subst (λ (v : List ℕ). AreBytes v) (sym b.input.filled) x.each;
    }

-- Feeds. ----------------------------------------------------------------------------------------------------------------

not_over : (config : Configured) (took moved : List ℕ) (told : List Told) (h : List Happened) (s : EndpointState) → IsAt config took moved told h s → is_dead s.connection.phase ≡ false →
    has_finished h ≡ false
not_over config took moved told h s x alive =
    let past = events config h in
    live_input (has_finished h) (λ o. over_dead (list_any is_end past) _ (ended_in config h o) (subst (λ (c : ConnectionState). is_dead c.phase ≡ false) x.traced.state alive))

here : (over : Bool) (rest : List ℕ) → over ≡ false → (if over then [] else rest) ≡ rest
here true rest e = absurd (grind (arith, e))
here false rest e = refl

emptied : (over : Bool) (left : List ℕ) → left ≡ [] → left ≡ (if over then [] else [])
emptied true left e = e
emptied false left e = e

-- A byte more. -----------------------------------------------------------------------------------------------------------

-- where a front of some bytes with at most one behind them ends: behind them all, or within the bytes
data IsCut (s front more : List ℕ) : Type 0 where
  AtTheEnd : more ≡ [] → IsCut s front more
  Within : (rest : List ℕ) → s ≡ front ++ rest → IsCut s front more

cut_at : (s last front more : List ℕ) → length last ≤ 1 → s ++ last ≡ front ++ more → IsCut s front more
cut_at s last [] more l e = Within s refl
cut_at [] last (y ∷ front) [] l e = AtTheEnd refl
cut_at [] last (y ∷ front) (z ∷ more) l e = absurd (omega (arith, l, ap length e, length-append front (z ∷ more)))
cut_at (x ∷ s) last (y ∷ front) more l e =
    let rest : s ++ last ≡ front ++ more = ap (λ (w : List ℕ). drop 1 w) e in
    let same : x ≡ y = cc in
    elim (cut_at s last front more l rest) [
      | AtTheEnd n ↦ AtTheEnd n
      | Within b d ↦ Within b (ap (λ (n : ℕ). n ∷ s) same ∙ ap (λ (w : List ℕ). y ∷ w) d)
    ]

-- less than a unit, with a byte more, is less than a unit or is one
rest_and_one : (max : ℕ) (stage : Stage) (s last : List ℕ) → length last ≤ 1 → IsRest max stage s → IsRest max stage (s ++ last) ⊎ IsOne max stage (s ++ last)
rest_and_one max stage s last l r =
    elim (front max stage (s ++ last)) [
      | inl still ↦ inl still
      | inr f ↦ elim (cut_at s last (bytes_of f.unit) f.more l f.joined) [
        | AtTheEnd none ↦ inr (record { unit = f.unit; stands = record { is = f.is; whole = f.joined ∙ ap (λ (w : List ℕ). bytes_of f.unit ++ w) none ∙ append-nil (bytes_of f.unit) } })
        | Within rest e ↦ absurd (r.none f.unit rest f.is e)
      ]
    ]

held_of : (max : ℕ) (stage : Stage) (bytes : List ℕ) → (IsOver stage → ⊥) → IsRest max stage bytes ⊎ IsOne max stage bytes → IsHeld max stage bytes
held_of max due.Header bytes o x = x
held_of max due.Frames bytes o x = x
held_of max due.Refused bytes o x = absurd (o tt)
held_of max (due.Faulty f) bytes o x = absurd (o tt)

-- what is taken keeps to less than a unit, or one
taken_held : (old between : SplitterState) (piece : List ℕ) (used : ℕ) → IsHeld old.limit old.stage old.filled → IsTaken old between piece used →
    IsHeld old.limit old.stage (old.filled ++ take used piece)
taken_held old between piece zero held t = subst (λ (w : List ℕ). IsHeld old.limit old.stage w) (sym (append-nil old.filled)) held
taken_held old between piece (suc k) held t =
    let first = old.filled ++ take k piece in
    let last = take 1 (drop k piece) in
    let number : k + 1 ≡ suc k = omega arith in
    let parts : take (suc k) piece ≡ take k piece ++ last = ap (λ (n : ℕ). take n piece) (sym number) ∙ take-add k 1 piece in
    let joined : first ++ last ≡ old.filled ++ take (suc k) piece = append_assoc old.filled (take k piece) last ∙ ap (λ (w : List ℕ). old.filled ++ w) (sym parts) in
    let short : length last ≤ 1 = simp (length-take) (omega arith) in
    let upto = rest_and_one old.limit old.stage first last short (t.early k (omega arith)) in
    subst (λ (w : List ℕ). IsHeld old.limit old.stage w) joined (held_of old.limit old.stage (first ++ last) (λ o. absurd (omega (arith, t.full (inr o)))) upto)

taken_behind : (max : ℕ) (stage : Stage) (rest : List ℕ) (old between : SplitterState) (piece : List ℕ) (used : ℕ) → old.limit ≡ max → old.stage ≡ stage → old.filled ≡ rest →
    IsHeld max stage rest → IsTaken old between piece used → IsHeld max stage (rest ++ take used piece)
taken_behind max stage rest old between piece used l d f held t =
    let before : IsHeld old.limit old.stage old.filled = rw (l, d, f) held in
    let after = taken_held old between piece used before t in
    subst (λ (m : ℕ). IsHeld m stage (rest ++ take used piece)) l
    (subst (λ (v : Stage). IsHeld old.limit v (rest ++ take used piece)) d (subst (λ (w : List ℕ). IsHeld old.limit old.stage (w ++ take used piece)) f after))

-- bytes are taken
grows : (config : Configured) (took moved : List ℕ) (told : List Told) (h : List Happened) (old : EndpointState) (between : SplitterState) (piece : List ℕ) (used : ℕ) →
    IsAt config took moved told h old →
    has_finished h ≡ false → AreBytes piece → IsTaken old.input between piece used → IsAt config (took ++ take used piece) moved told h (record old { input = between })
grows config took moved told h old between piece used x live bytes g =
    let t = x.traced in
    let first = take used piece in
    record {
      traced = record {
        accepted = t.accepted;
        state = t.state;
        sound = t.sound;
        rest = t.rest ++ first;
        units = ap (λ (w : List ℕ). w ++ first) t.units ∙ append_assoc (flat_map bytes_of (units_of h)) t.rest first;
        each = t.each;
        held = taken_behind config.max_frame (due_behind due.Header (units_of h)) t.rest old.input between piece used t.limit (t.stage live) (t.buffer ∙ here (has_finished h) t.rest live) t.held g;
        buffer = g.filled ∙ ap (λ (w : List ℕ). w ++ first) (t.buffer ∙ here (has_finished h) t.rest live) ∙ sym (here (has_finished h) (t.rest ++ first) live);
        limit = g.limit ∙ t.limit;
        stage = λ e. g.stage ∙ t.stage e;
        output = t.output;
        telling = t.telling;
      };
      each = subst (λ (w : List ℕ). AreBytes w) (sym g.filled) (bytes_append old.input.filled first x.each (bytes_take used piece bytes));
    }

told_in : (s : ConnectionState) (e : Option Event) → event_in (told_outcome s e) ≡ event_told e
told_in s (Some e) = refl
told_in s None = silent (is_dead s.phase)
  where
    silent : (dead : Bool) → event_in (if dead then outcome.Dead else outcome.More) ≡ []
    silent true = refl
    silent false = refl

module _ (begins : ConnectionBegins) (goes_on : ConnectionGoesOn) (accepted : UnitsAccepted) (config : Configured) (narrow : config.window < 2 ^ 31) where
  -- the unit that waits is acted upon
  acted : (took moved : List ℕ) (told : List Told) (h : List Happened) (old new : EndpointState) (u : StreamUnit) (answer : Outcome) → IsAt config took moved told h old →
      is_dead old.connection.phase ≡ false → Waits old.input u → IsActed old new u answer → IsAt config took moved (told ++ event_in answer) (Acted u ∷ h) new
  acted took moved told h old new u answer x alive w a =
      let t = x.traced in
      let past = events config h in
      let live = not_over config took moved told h old x alive in
      let bytes = subst (λ (v : List ℕ). AreBytes v) w.whole x.each in
      let may = accepted config past u t.sound (subst (λ (c : ConnectionState). is_dead c.phase ≡ false) t.state alive) bytes in
      let next = next_state begins goes_on config narrow past old.connection new.connection (λ s. event_on s (line_of s u)) t.state t.sound t.accepted may a.connection in
      let rest : t.rest ≡ bytes_of u = sym (t.buffer ∙ here (has_finished h) t.rest live) ∙ w.whole in
      let is : IsUnit config.max_frame (due_behind due.Header (units_of h)) u =
      subst (λ (m : ℕ). IsUnit m (due_behind due.Header (units_of h)) u) t.limit (subst (λ (d : Stage). IsUnit old.input.limit d u) (t.stage live) w.is) in
      record {
        traced = record {
          accepted = next.2;
          state = next.0;
          sound = next.1;
          rest = [];
          units = t.units ∙ ap (λ (v : List ℕ). flat_map bytes_of (units_of h) ++ v) (rest ∙ sym (append-nil (bytes_of u))) ∙ sym (joined_more (units_of h) u []);
          each = units_more config.max_frame due.Header (units_of h) u t.each is;
          held = none_held config.max_frame (due_behind due.Header (units_of h ++ u ∷ []));
          buffer = emptied (has_finished h) new.input.filled a.input.filled;
          limit = a.input.limit ∙ t.limit;
          stage = λ e. a.input.stage ∙ sym (due_more due.Header (units_of h) u);
          output = more_written (written config h) moved old.unsent (reply_on (state_of config past) (line_of (state_of config past) u))
              (reply_on old.connection (line_of old.connection u)) new.unsent t.output
              (ap (λ (s : ConnectionState). reply_on s (line_of s u)) (sym t.state)) a.unsent;
          telling = ap (λ (v : List Told). v ++ event_in answer) t.telling ∙ ap (λ (v : List Told). tellings config h ++ v) (
              ap event_in a.told ∙ told_in (acted_after old.connection u) (told_on old.connection (line_of old.connection u)) ∙ ap (λ (s : ConnectionState). event_told (told_on s
              (line_of s u))) t.state);
        };
        each = subst (λ (v : List ℕ). AreBytes v) (sym a.input.filled) bytes_none;
      }

  no_event : (told : List Told) (answer : Outcome) → event_in answer ≡ [] → told ≡ told ++ event_in answer
  no_event told answer e = sym (append-nil told) ∙ ap (λ (v : List Told). told ++ v) (sym e)

  -- nothing comes of it
  quiet : (took moved : List ℕ) (told : List Told) (h : List Happened) (old new : EndpointState) (answer : Outcome) → IsAt config took moved told h old → IsKept old new → event_in answer ≡ [] →
      Leads config took moved (told ++ event_in answer) h new
  quiet took moved told h old new answer x k e =
      record {
        history = h;
        later = [];
        few = omega arith;
        grown = refl;
        at = subst (λ (v : List Told). IsAt config took moved v h new) (no_event told answer e) (kept config took moved told h old new x k);
      }

  acts : (took moved : List ℕ) (told : List Told) (h : List Happened) (old new : EndpointState) (u : StreamUnit) (may : Bool) (answer : Outcome) → IsAt config took moved told h old →
      is_dead old.connection.phase ≡ false → Waits old.input u → Acts old new u may answer → Leads config took moved (told ++ event_in answer) h new
  acts took moved told h old new u false answer x alive w a = quiet took moved told h old new answer x a.0 (ap event_in a.1)
  acts took moved told h old new u true answer x alive w a =
      elim a [
        | inl does ↦ record { history = Acted u ∷ h; later = Acted u ∷ []; few = omega arith; grown = refl; at = acted took moved told h old new u answer x alive w does }
        | inr waits ↦ quiet took moved told h old new answer x waits.0 (ap event_in waits.1)
      ]

  comes : (took moved : List ℕ) (told : List Told) (h : List Happened) (old new : EndpointState) (answer : Outcome) → 8 ≤ config.max_frame → IsAt config took moved told h old →
      is_dead old.connection.phase ≡ false → Comes old new answer → Leads config took moved (told ++ event_in answer) h new
  comes took moved told h old new answer least x alive c =
      elim (waits_or_not old.input (subst (λ (m : ℕ). 8 ≤ m) (sym x.traced.limit) least)) [
        | inl u ↦ acts took moved told h old new u.0 (may_act old u.0) answer x alive u.1 (c.unit u.0 u.1)
        | inr none ↦ quiet took moved told h old new answer x (c.none none).0 (ap event_in (c.none none).1 ∙ told_in old.connection None)
      ]

  feeds : (took moved : List ℕ) (told : List Told) (h : List Happened) (dead : Bool) (old new : EndpointState) (piece : List ℕ) (used : ℕ) (answer : Outcome) → 8 ≤ config.max_frame →
      IsAt config took moved told h old → is_dead old.connection.phase ≡ dead → AreBytes piece → FeedDone dead old new piece used answer →
      Leads config (took ++ take used piece) moved (told ++ event_in answer) h new
  feeds took moved told h true old new piece used answer least x dead bytes f =
      let same : took ≡ took ++ take used piece = sym (append-nil took) ∙ ap (λ (n : ℕ). took ++ take n piece) (sym f.1) in
      subst (λ (v : List ℕ). Leads config v moved (told ++ event_in answer) h new) same (quiet took moved told h old new answer x f.0 (ap event_in f.2))
  feeds took moved told h false old new piece used answer least x alive bytes f =
      let live = not_over config took moved told h old x alive in
      comes (took ++ take used piece) moved told h (record old { input = f.between }) new answer least (grows config took moved told h old f.between piece used x live bytes f.taken) alive f.comes

-- Calls. ----------------------------------------------------------------------------------------------------------------

-- where nothing is taken, moved out and told
same_at : (config : Configured) (took moved : List ℕ) (told : List Told) (h : List Happened) (s : EndpointState) → IsAt config took moved told h s →
    IsAt config (took ++ []) (moved ++ []) (told ++ []) h s
same_at config took moved told h s x =
    subst (λ (v : List ℕ). IsAt config v (moved ++ []) (told ++ []) h s) (sym (append-nil took))
    (subst (λ (v : List ℕ). IsAt config took v (told ++ []) h s) (sym (append-nil moved)) (subst (λ (v : List Told). IsAt config took moved v h s) (sym (append-nil told)) x))

-- a call that takes, moves out and tells nothing
plain : (config : Configured) (took moved : List ℕ) (told : List Told) (h : List Happened) (new : EndpointState) → IsAt config took moved told h new →
    Leads config (took ++ []) (moved ++ []) (told ++ []) h new
plain config took moved told h new x = record { history = h; later = []; few = omega arith; grown = refl; at = same_at config took moved told h new x }

open_where : (p : Phase) (rest : Option CallFault) → or_else (where_so (is_dead p || is_closing p) refused.Dead) (or_else (where_so (is_unopened p) refused.NotOpen) rest) ≡ None → is_open p ≡ true
open_where phase.Unopened rest e = absurd (grind (arith, e))
open_where (phase.Open m c) rest e = refl
open_where phase.Closing rest e = absurd (grind (arith, e))
open_where phase.Dead rest e = absurd (grind (arith, e))

-- no call for a session moves bytes out
handed_still : (d : Option Delivery) → moved_by (handed d) ≡ []
handed_still None = refl
handed_still (Some d) = refl

link_still : (s : Slot LiveLink) → moved_by (link_handed s) ≡ []
link_still Free = refl
link_still (Live l) = handed_still (first_ready l.link)
link_still Awaits = refl

session_still : (s : SessionState) (c : session.Call) → moved_by (session_answer s c) ≡ []
session_still s (session.Take handle) = link_still (of_session.slot_at s handle)
session_still s (session.Detach handle) = refl
session_still s (session.Refuse handle r) = refl
session_still s (session.SettleWith id r) = refl
session_still s (session.SettleRangeWith first last r) = refl
session_still s (session.Widen n) = refl
session_still s (session.Grant handle n) = refl
session_still s (session.Drain handle) = refl
session_still s (session.Settle id o) = refl
session_still s (session.SettleRange first last o) = refl

-- no call of a session moves bytes out
pub answer_still : (s : Slot SessionState) (c : session.Call) → moved_by (accepted_answer s c) ≡ []
answer_still Free c = refl
answer_still (Live s) c = session_still s c
answer_still Awaits c = refl

-- a call that takes nothing and moves nothing out
tells_leads : (config : Configured) (took moved : List ℕ) (told : List Told) (h : List Happened) (y : Happened) (new : EndpointState) (a : Answer) → moved_by a ≡ [] →
    IsAt config took moved told (y ∷ h) new → Leads config (took ++ []) (moved ++ moved_by a) told h new
tells_leads config took moved told h y new a q x = record {
  history = y ∷ h;
  later = y ∷ [];
  few = omega arith;
  grown = refl;
  at = subst (λ (v : List ℕ). IsAt config v (moved ++ moved_by a) told (y ∷ h) new) (sym (append-nil took))
      (subst (λ (v : List ℕ). IsAt config took v told (y ∷ h) new) (sym (append-nil moved) ∙ ap (λ (v : List ℕ). moved ++ v) (sym q)) x);
}

-- Many calls. -----------------------------------------------------------------------------------------------------------

-- after so many of the calls this is the history, behind what happened later in the whole one
pub record Moment (config : Configured) (took moved : List ℕ) (told : List Told) (s : EndpointState) (asked : List Call) (answers : List Answer) (last : EndpointState)
    (whole past : List Happened) (n : ℕ) : Type 0 where
  pub now : EndpointState
  pub so_far : Run s (take n asked) (take n answers) now
  pub goes_on : Run now (drop n asked) (drop n answers) last
  pub traced : IsTraced config (took ++ all_taken (take n asked) (take n answers)) (moved ++ flat_map moved_by (take n answers)) (told ++ heard (take n asked) (take n answers)) past now
  pub later : List Happened
  pub grown : whole ≡ later ++ past

-- the calls with their answers follow upon a history, and there is one after each of them
pub record Follows (config : Configured) (took moved : List ℕ) (told : List Told) (h : List Happened) (s : EndpointState) (asked : List Call) (answers : List Answer)
    (last : EndpointState) : Type 0 where
  pub history : List Happened
  pub later : List Happened
  pub grown : history ≡ later ++ h
  pub traced : IsTraced config (took ++ all_taken asked answers) (moved ++ flat_map moved_by answers) (told ++ heard asked answers) history last
  pub pasts : ℕ → List Happened
  pub first : pasts 0 ≡ h
  pub end : pasts (length asked) ≡ history
  pub each : (n : ℕ) → Moment config took moved told s asked answers last history (pasts n) n
  pub grows : (n : ℕ) → (added : List Happened) × (length added ≤ 1) × (pasts (suc n) ≡ added ++ pasts n)

no_calls : (config : Configured) (took moved : List ℕ) (told : List Told) (h : List Happened) (s last : EndpointState) → IsAt config took moved told h s → last ≡ s →
    Follows config took moved told h s [] [] last
no_calls config took moved told h s last x e = record {
  history = h;
  later = [];
  grown = refl;
  traced = subst (λ (v : EndpointState). IsTraced config (took ++ []) (moved ++ []) (told ++ []) h v) (sym e) (same_at config took moved told h s x).traced;
  pasts = λ n. h;
  first = refl;
  end = refl;
  each = still;
  grows = λ n. ([], omega arith, refl);
}
  where
    still : (n : ℕ) → Moment config took moved told s [] [] last h h n
    still zero = record { now = s; so_far = refl; goes_on = e; traced = (same_at config took moved told h s x).traced; later = []; grown = refl }
    still (suc n) = record { now = s; so_far = refl; goes_on = e; traced = (same_at config took moved told h s x).traced; later = []; grown = refl }

-- the history at first, and then those
abbrev pasts_from : List Happened → (ℕ → List Happened) → ℕ → List Happened
pasts_from h pasts zero = h
pasts_from h pasts (suc n) = pasts n

-- what one call and the others took, moved out and told
joined_call : (config : Configured) (took moved : List ℕ) (told : List Told) (h : List Happened) (s : EndpointState) (c : Call) (a : Answer) (asked : List Call) (answers : List Answer) →
    IsTraced config ((took ++ taken_by c a) ++ all_taken asked answers) ((moved ++ moved_by a) ++ flat_map moved_by answers) ((told ++ told_by c a) ++ heard asked answers) h s →
    IsTraced config (took ++ all_taken (c ∷ asked) (a ∷ answers)) (moved ++ flat_map moved_by (a ∷ answers)) (told ++ heard (c ∷ asked) (a ∷ answers)) h s
joined_call config took moved told h s c a asked answers x =
    let bytes = moved_by a ++ flat_map moved_by answers in
    let words = told_by c a ++ heard asked answers in
    subst (λ (v : List ℕ). IsTraced config v (moved ++ bytes) (told ++ words) h s) (append_assoc took (taken_by c a) (all_taken asked answers))
    (subst (λ (v : List ℕ). IsTraced config ((took ++ taken_by c a) ++ all_taken asked answers) v (told ++ words) h s) (append_assoc moved (moved_by a) (flat_map moved_by answers))
    (subst (λ (v : List Told). IsTraced config ((took ++ taken_by c a) ++ all_taken asked answers) ((moved ++ moved_by a) ++ flat_map moved_by answers) v h s)
    (append_assoc told (told_by c a) (heard asked answers)) x))

one_call : (config : Configured) (took moved : List ℕ) (told : List Told) (h : List Happened) (s next : EndpointState) (c : Call) (a : Answer) (asked : List Call) (answers : List Answer)
    (last : EndpointState) → IsAt config took moved told h s → Does s next c a → (one : Leads config (took ++ taken_by c a) (moved ++ moved_by a) (told ++ told_by c a) h next) →
    Follows config (took ++ taken_by c a) (moved ++ moved_by a) (told ++ told_by c a) one.history next asked answers last → Run next asked answers last →
    Follows config took moved told h s (c ∷ asked) (a ∷ answers) last
one_call config took moved told h s next c a asked answers last x d one more r = record {
  history = more.history;
  later = more.later ++ one.later;
  grown = whole;
  traced = joined_call config took moved told more.history last c a asked answers more.traced;
  pasts = pasts_from h more.pasts;
  first = refl;
  end = more.end;
  each = moments;
  grows = steps;
}
  where
    whole : more.history ≡ (more.later ++ one.later) ++ h
    whole = more.grown ∙ ap (λ (v : List Happened). more.later ++ v) one.grown ∙ sym (append_assoc more.later one.later h)

    moments : (n : ℕ) → Moment config took moved told s (c ∷ asked) (a ∷ answers) last more.history (pasts_from h more.pasts n) n
    moments zero = record {
      now = s;
      so_far = refl;
      goes_on = (next, d, r);
      traced = (same_at config took moved told h s x).traced;
      later = more.later ++ one.later;
      grown = whole;
    }
    moments (suc n) =
        let m = more.each n in
        record {
          now = m.now;
          so_far = (next, d, m.so_far);
          goes_on = m.goes_on;
          traced = joined_call config took moved told (more.pasts n) m.now c a (take n asked) (take n answers) m.traced;
          later = m.later;
          grown = m.grown;
        }

    steps : (n : ℕ) → (added : List Happened) × (length added ≤ 1) × (pasts_from h more.pasts (suc n) ≡ added ++ pasts_from h more.pasts n)
    steps zero = (one.later, one.few, more.first ∙ one.grown)
    steps (suc n) = more.grows n

module _ (begins : ConnectionBegins) (goes_on : ConnectionGoesOn) (units : UnitsAccepted) (calls : CallsAccepted) (config : Configured) (narrow : config.window < 2 ^ 31) (least : 8 ≤ config.max_frame) where
  in_session : (took moved : List ℕ) (told : List Told) (h : List Happened) (old new : EndpointState) (channel : ℕ) (c : session.Call) (a : Answer) → IsAt config took moved told h old →
      IsCallInRange c →
      (call_fault old.connection old.unsent channel c ≡ None) × IsWritten old new (call_event old.connection channel c) (joined (call_spoken old.connection channel c))
      × (a ≡ accepted_answer (slot_at old.connection channel) c) → Leads config (took ++ []) (moved ++ moved_by a) (told ++ Done (InSession channel c) a ∷ []) h new
  in_session took moved told h old new channel c a x range d =
      let answer = accepted_answer (slot_at old.connection channel) c in
      subst (λ (v : Answer). Leads config (took ++ []) (moved ++ moved_by v) (told ++ Done (InSession channel c) v ∷ []) h new) (sym d.2)
      (tells_leads config took moved (told ++ Done (InSession channel c) answer ∷ []) h (Called channel c) new answer (answer_still (slot_at old.connection channel) c)
      (called begins goes_on config narrow calls took moved told h old new channel c x range d.0 d.1))

  closes : (took moved : List ℕ) (told : List Told) (h : List Happened) (old new : EndpointState) (a : Answer) → IsAt config took moved told h old →
      (open_call_fault old.connection old.unsent ≡ None) × IsWritten old new event.CloseAsked (joined close_call_spoken) × (a ≡ Dropped (connection_ready old.connection)) →
      Leads config (took ++ []) (moved ++ moved_by a) (told ++ Done Close a ∷ []) h new
  closes took moved told h old new a x d =
      let answer = Dropped (connection_ready old.connection) in
      subst (λ (v : Answer). Leads config (took ++ []) (moved ++ moved_by v) (told ++ Done Close v ∷ []) h new) (sym d.2)
      (tells_leads config took moved (told ++ Done Close answer ∷ []) h Closed new answer refl
      (closed begins goes_on config narrow took moved told h old new x (open_where old.connection.phase (full_fault old.unsent) d.0) d.1))

  closes_with : (took moved : List ℕ) (told : List Told) (h : List Happened) (old new : EndpointState) (r : Reason) (a : Answer) → IsAt config took moved told h old →
      (close_with_fault old.connection old.unsent r ≡ None) × IsWritten old new event.CloseAsked (joined (close_with_spoken r)) × (a ≡ Dropped (connection_ready old.connection)) →
      Leads config (took ++ []) (moved ++ moved_by a) (told ++ Done (CloseWith r) a ∷ []) h new
  closes_with took moved told h old new r a x d =
      let answer = Dropped (connection_ready old.connection) in
      subst (λ (v : Answer). Leads config (took ++ []) (moved ++ moved_by v) (told ++ Done (CloseWith r) v ∷ []) h new) (sym d.2)
      (tells_leads config took moved (told ++ Done (CloseWith r) answer ∷ []) h (ClosedWith r) new answer refl
      (closed_with begins goes_on config narrow took moved told h old new r x
      (open_where old.connection.phase (or_else (reason_fault r) (full_fault old.unsent)) d.0) d.1))

  beats : (took moved : List ℕ) (told : List Told) (h : List Happened) (old new : EndpointState) (a : Answer) → IsAt config took moved told h old →
      (open_call_fault old.connection old.unsent ≡ None) × IsBeat old new × (a ≡ Accepted) → Leads config (took ++ []) (moved ++ moved_by a) (told ++ Done Heartbeat a ∷ []) h new
  beats took moved told h old new a x d =
      subst (λ (v : Answer). Leads config (took ++ []) (moved ++ moved_by v) (told ++ Done Heartbeat v ∷ []) h new) (sym d.2)
      (tells_leads config took moved (told ++ Done Heartbeat Accepted ∷ []) h Beat new Accepted refl (beat config took moved told h old new x d.1))

  outputs : (took moved : List ℕ) (told : List Told) (h : List Happened) (old new : EndpointState) (room : ℕ) (bytes : List ℕ) → IsAt config took moved told h old → IsMoved old new room bytes →
      Leads config (took ++ []) (moved ++ bytes) (told ++ []) h new
  outputs took moved told h old new room bytes x m =
      let whole = ap (λ (v : List ℕ). v ++ new.unsent) m.moved ∙ ap (λ (v : List ℕ). take room old.unsent ++ v) m.unsent ∙ take-append-drop room old.unsent in
      let at = stays config took moved (moved ++ bytes) told h old new x m.input (ap (λ (v : List ℕ). moved ++ v) (sym whole) ∙ sym (append_assoc moved bytes new.unsent)) m.connection in
      record {
        history = h;
        later = [];
        few = omega arith;
        grown = refl;
        at = subst (λ (v : List ℕ). IsAt config v (moved ++ bytes) (told ++ []) h new) (sym (append-nil took))
            (subst (λ (v : List Told). IsAt config took (moved ++ bytes) v h new) (sym (append-nil told)) at);
      }

  kept_leads : (took moved : List ℕ) (told : List Told) (h : List Happened) (old new : EndpointState) → IsAt config took moved told h old → IsKept old new →
      Leads config (took ++ []) (moved ++ []) (told ++ []) h new
  kept_leads took moved told h old new x k = plain config took moved told h new (kept config took moved told h old new x k)

  does : (took moved : List ℕ) (told : List Told) (h : List Happened) (old new : EndpointState) (call : Call) (a : Answer) → IsAt config took moved told h old → IsInRange call → Does old new call a →
      Leads config (took ++ taken_by call a) (moved ++ moved_by a) (told ++ told_by call a) h new
  does took moved told h old new (Feed piece) (Fed used o) x range d =
      subst (λ (v : List ℕ). Leads config (took ++ take used piece) v (told ++ event_in o) h new) (sym (append-nil moved))
      (feeds begins goes_on units config narrow took moved told h (is_dead old.connection.phase) old new piece used o least x refl range d)
  does took moved told h old new (InSession channel c) (Refused f) x range d = kept_leads took moved told h old new x d.1
  does took moved told h old new (InSession channel c) (Fed n o) x range d = in_session took moved told h old new channel c (Fed n o) x range d
  does took moved told h old new (InSession channel c) Accepted x range d = in_session took moved told h old new channel c Accepted x range d
  does took moved told h old new (InSession channel c) (Dropped n) x range d = in_session took moved told h old new channel c (Dropped n) x range d
  does took moved told h old new (InSession channel c) (Named n) x range d = in_session took moved told h old new channel c (Named n) x range d
  does took moved told h old new (InSession channel c) (HandedUp y) x range d = in_session took moved told h old new channel c (HandedUp y) x range d
  does took moved told h old new (InSession channel c) (MovedOut b) x range d = in_session took moved told h old new channel c (MovedOut b) x range d
  does took moved told h old new (InSession channel c) (Holds n) x range d = in_session took moved told h old new channel c (Holds n) x range d
  does took moved told h old new (InSession channel c) (Ended e) x range d = in_session took moved told h old new channel c (Ended e) x range d
  does took moved told h old new Close (Refused f) x range d = kept_leads took moved told h old new x d.1
  does took moved told h old new Close (Fed n o) x range d = closes took moved told h old new (Fed n o) x d
  does took moved told h old new Close Accepted x range d = closes took moved told h old new Accepted x d
  does took moved told h old new Close (Dropped n) x range d = closes took moved told h old new (Dropped n) x d
  does took moved told h old new Close (Named n) x range d = closes took moved told h old new (Named n) x d
  does took moved told h old new Close (HandedUp y) x range d = closes took moved told h old new (HandedUp y) x d
  does took moved told h old new Close (MovedOut b) x range d = closes took moved told h old new (MovedOut b) x d
  does took moved told h old new Close (Holds n) x range d = closes took moved told h old new (Holds n) x d
  does took moved told h old new Close (Ended e) x range d = closes took moved told h old new (Ended e) x d
  does took moved told h old new (CloseWith r) (Refused f) x range d = kept_leads took moved told h old new x d.1
  does took moved told h old new (CloseWith r) (Fed n o) x range d = closes_with took moved told h old new r (Fed n o) x d
  does took moved told h old new (CloseWith r) Accepted x range d = closes_with took moved told h old new r Accepted x d
  does took moved told h old new (CloseWith r) (Dropped n) x range d = closes_with took moved told h old new r (Dropped n) x d
  does took moved told h old new (CloseWith r) (Named n) x range d = closes_with took moved told h old new r (Named n) x d
  does took moved told h old new (CloseWith r) (HandedUp y) x range d = closes_with took moved told h old new r (HandedUp y) x d
  does took moved told h old new (CloseWith r) (MovedOut b) x range d = closes_with took moved told h old new r (MovedOut b) x d
  does took moved told h old new (CloseWith r) (Holds n) x range d = closes_with took moved told h old new r (Holds n) x d
  does took moved told h old new (CloseWith r) (Ended e) x range d = closes_with took moved told h old new r (Ended e) x d
  does took moved told h old new Heartbeat (Refused f) x range d = kept_leads took moved told h old new x d.1
  does took moved told h old new Heartbeat (Fed n o) x range d = beats took moved told h old new (Fed n o) x d
  does took moved told h old new Heartbeat Accepted x range d = beats took moved told h old new Accepted x d
  does took moved told h old new Heartbeat (Dropped n) x range d = beats took moved told h old new (Dropped n) x d
  does took moved told h old new Heartbeat (Named n) x range d = beats took moved told h old new (Named n) x d
  does took moved told h old new Heartbeat (HandedUp y) x range d = beats took moved told h old new (HandedUp y) x d
  does took moved told h old new Heartbeat (MovedOut b) x range d = beats took moved told h old new (MovedOut b) x d
  does took moved told h old new Heartbeat (Holds n) x range d = beats took moved told h old new (Holds n) x d
  does took moved told h old new Heartbeat (Ended e) x range d = beats took moved told h old new (Ended e) x d
  does took moved told h old new (Output room) (MovedOut bytes) x range d = outputs took moved told h old new room bytes x d
  does took moved told h old new Held (Holds n) x range d = kept_leads took moved told h old new x d.0
  does took moved told h old new Finish (Ended e) x range d =
      tells_leads config took moved (told ++ Ends ∷ []) h Over new (Ended e) refl (finished begins goes_on config narrow took moved told h old new x d.0)
  does took moved told h old new call a x range d = absurd d

  -- all calls, one after another
  all_calls : (took moved : List ℕ) (told : List Told) (h : List Happened) (s : EndpointState) (asked : List Call) (answers : List Answer) (last : EndpointState) →
      IsAt config took moved told h s → AreInRange asked → Run s asked answers last → Follows config took moved told h s asked answers last
  all_calls took moved told h s [] [] last x range r = no_calls config took moved told h s last x r
  all_calls took moved told h s [] (a ∷ answers) last x range r = absurd r
  all_calls took moved told h s (c ∷ asked) [] last x range r = absurd r
  all_calls took moved told h s (c ∷ asked) (a ∷ answers) last x range r =
      let one = does took moved told h s r.0 c a x range.0 r.1 in
      one_call config took moved told h s r.0 c a asked answers last x r.1 one
      (all_calls (took ++ taken_by c a) (moved ++ moved_by a) (told ++ told_by c a) one.history r.0 asked answers last one.at range.1 r.2) r.2

-- a new endpoint has the empty history
starts : ConnectionBegins → (config : Configured) (s : EndpointState) → IsStart config s → IsAt config [] [] [] [] s
starts begins config s start = record {
  traced = record {
    accepted = tt;
    state = start.connection ∙ (begins config).0;
    sound = (begins config).1;
    rest = [];
    units = refl;
    each = tt;
    held = none_held config.max_frame due.Header;
    buffer = start.filled;
    limit = start.limit;
    stage = λ e. start.stage;
    output = sym start.unsent;
    telling = refl;
  };
  each = subst (λ (v : List ℕ). AreBytes v) (sym start.filled) bytes_none;
}

-- the endpoint that a list of calls leads to, with its history and that after each call
pub traces : ConnectionBegins → ConnectionGoesOn → UnitsAccepted → CallsAccepted → (config : Configured) (calls : List Call) (answers : List Answer) (start last : EndpointState) →
    IsConfigured config.container_id config.max_frame config.window → AreInRange calls → IsStart config start → Run start calls answers last →
    Follows config [] [] [] [] start calls answers last
traces begins goes_on units accepted config calls answers start last within range new run =
    all_calls begins goes_on units accepted config within.most_window (omega (arith, within.some_frame)) [] [] [] [] start calls answers last (starts begins config start new) range run
