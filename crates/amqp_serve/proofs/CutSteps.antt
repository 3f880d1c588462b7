-- A call of serving is what the units make: the same state, the same bytes, the same records.
use Rattle.std.proofs.Common.{arith, ◌≡◌, ℕ, zero, suc, ◌<◌, Bool, true, false, List, [], ◌∷◌, ◌++◌, drop, refl, sym, ap, subst, ◌∙◌, Option, Some, None, append_assoc, append-nil}
use Rattle.std.specs.Prelude.{if◌then◌else◌}
use Rattle.std.proofs.lemmas.List.{take-append-drop}
use Rattle.amqp_frame.specs.Splits.{IsUnchanged}
use Rattle.amqp_session.specs.Calls as session
use Rattle.amqp_endpoint.specs.declared.event.Event.{Event}
use Rattle.amqp_endpoint.specs.declared.event.Event.TheVariants as event
use Rattle.amqp_endpoint.specs.declared.event.Outcome.{Outcome}
use Rattle.amqp_endpoint.specs.declared.event.Outcome.TheVariants as outcome
use Rattle.amqp_endpoint.specs.declared.fault.CallFault.{CallFault}
use Rattle.amqp_serve.specs.declared.rules.Rule.{Rule}
use Rattle.amqp_endpoint.specs.Calls.{call_fault, call_event, call_spoken}
use Rattle.amqp_endpoint.specs.Configs.{Configured}
use Rattle.amqp_endpoint.specs.Connections.{ConnectionState, connection_after, slot_at}
use Rattle.amqp_serve.specs.Cuts.{Made, called_by, called, answered_by, answer_at, supply_channel, call_for, topped_by, all_topped, topped_up, done_taken, done_from}
use Rattle.amqp_endpoint.specs.Replies.{joined}
use Rattle.amqp_endpoint.specs.Runs.{Call, InSession, Answer, Fed, Accepted, Dropped, Named, HandedUp, Refused, MovedOut, Holds, Ended, Does}
use Rattle.amqp_endpoint.specs.Runs.{CallDone, IsMoved, IsWritten, accepted_answer}
use Rattle.amqp_endpoint.specs.Traces.{moved_by}
use Rattle.amqp_serve.specs.Serving.{lack, top_up_by, all_supplies, Stand, ToppingUp, Receiving, Settling, stand_told, stand_taken, recorded_by}
use Rattle.amqp_serve.specs.declared.supplies.Supply.{Supply}
use Rattle.amqp_serve.specs.declared.supplies.Supply.TheVariants.{WindowOf, CreditOf}
use Rattle.amqp_endpoint.specs.Steps.{EndpointState, IsKept}
use Rattle.amqp_endpoint.proofs.Traces.{answer_still}
use Rattle.amqp_serve.proofs.CutTops.{AreStill, all_still, config_all}

-- what an endpoint has made, where these bytes were moved out and these recorded before
abbrev pub made_at : EndpointState → List ℕ → List ℕ → Made
made_at s w r = record { connection = s.connection; written = w ++ s.unsent; recorded = r }

abbrev made_of : ConnectionState → List ℕ → List ℕ → Made
made_of s w r = record { connection = s; written = w; recorded = r }

-- Two makes are the same where their parts are.
pub made_same : (a b : ConnectionState) (v w x y : List ℕ) → a ≡ b → v ≡ w → x ≡ y → made_of a v x ≡ made_of b w y
made_same a b v w x y i j k = ap (λ (s : ConnectionState). made_of s v x) i ∙ ap (λ (l : List ℕ). made_of b l x) j ∙ ap (λ (l : List ℕ). made_of b w l) k

-- Calls. --------------------------------------------------------------------------------------------------------------

-- A call for a session with its answer, as it was made of what was made before.
pub record IsCalled (s t : EndpointState) (channel : ℕ) (c : session.Call) (answer : Answer) (w r : List ℕ) : Type 0 where
  pub made : called (made_at s w r) channel c ≡ made_at t (w ++ moved_by answer) (r ++ recorded_by (InSession channel c) answer)
  pub told : answer ≡ answer_at s.connection channel c
  pub input : IsUnchanged s.input t.input

none_recorded : (channel : ℕ) (c : session.Call) (fault : CallFault) → recorded_by (InSession channel c) (Refused fault) ≡ []
none_recorded channel (session.Widen n) fault = refl
none_recorded channel (session.Grant handle n) fault = refl
none_recorded channel (session.Drain handle) fault = refl
none_recorded channel (session.Take handle) fault = refl
none_recorded channel (session.Settle id outcome) fault = refl
none_recorded channel (session.SettleRange first last outcome) fault = refl
none_recorded channel (session.Detach handle) fault = refl
none_recorded channel (session.Refuse handle r) fault = refl
none_recorded channel (session.SettleWith id r) fault = refl
none_recorded channel (session.SettleRangeWith first last r) fault = refl

module _ (s t : EndpointState) (channel : ℕ) (c : session.Call) (w r : List ℕ) where
  refused_made : (fault : CallFault) → call_fault s.connection [] channel c ≡ Some fault → IsKept s t → IsCalled s t channel c (Refused fault) w r
  refused_made fault is kept = record {
    made = ap (λ (o : Option CallFault). called_by o (made_at s w r) channel c) is
        ∙ made_same s.connection t.connection (w ++ s.unsent) ((w ++ []) ++ t.unsent) r (r ++ recorded_by (InSession channel c) (Refused fault)) (sym kept.connection)
        (ap (λ (l : List ℕ). w ++ l) (sym kept.unsent) ∙ ap (λ (l : List ℕ). l ++ t.unsent) (sym (append-nil w)))
        (sym (append-nil r) ∙ ap (λ (l : List ℕ). r ++ l) (sym (none_recorded channel c fault)));
    told = sym (ap (λ (o : Option CallFault). answered_by o (accepted_answer (slot_at s.connection channel) c)) is);
    input = kept.input;
  }

  accepted_made : (answer : Answer) → call_fault s.connection [] channel c ≡ None → IsWritten s t (call_event s.connection channel c) (joined (call_spoken s.connection channel c)) →
      answer ≡ accepted_answer (slot_at s.connection channel) c → IsCalled s t channel c answer w r
  accepted_made answer is done told =
      let spoken = joined (call_spoken s.connection channel c) in
      let none : moved_by answer ≡ [] = ap (λ (a : Answer). moved_by a) told ∙ answer_still (slot_at s.connection channel) c in record {
        made = ap (λ (o : Option CallFault). called_by o (made_at s w r) channel c) is
            ∙ made_same (connection_after s.connection (call_event s.connection channel c)) t.connection ((w ++ s.unsent) ++ spoken) ((w ++ moved_by answer) ++ t.unsent)
            (r ++ recorded_by (InSession channel c) (accepted_answer (slot_at s.connection channel) c)) (r ++ recorded_by (InSession channel c) answer) (sym done.connection)
            (append_assoc w s.unsent spoken ∙ ap (λ (l : List ℕ). w ++ l) (sym done.unsent)
            ∙ ap (λ (l : List ℕ). l ++ t.unsent) (sym (ap (λ (l : List ℕ). w ++ l) none ∙ append-nil w)))
            (ap (λ (a : Answer). r ++ recorded_by (InSession channel c) a) (sym told));
        told = told ∙ sym (ap (λ (o : Option CallFault). answered_by o (accepted_answer (slot_at s.connection channel) c)) is);
        input = done.input;
      }

  -- a call where its refusals do not hang on what waits to be sent
  call_made : (answer : Answer) → call_fault s.connection s.unsent channel c ≡ call_fault s.connection [] channel c → CallDone s t channel c answer → IsCalled s t channel c answer w r
  call_made (Refused fault) same d = refused_made fault (sym same ∙ d.0) d.1
  call_made (Fed used told) same d = accepted_made (Fed used told) (sym same ∙ d.0) d.1 d.2
  call_made Accepted same d = accepted_made Accepted (sym same ∙ d.0) d.1 d.2
  call_made (Dropped n) same d = accepted_made (Dropped n) (sym same ∙ d.0) d.1 d.2
  call_made (Named n) same d = accepted_made (Named n) (sym same ∙ d.0) d.1 d.2
  call_made (HandedUp h) same d = accepted_made (HandedUp h) (sym same ∙ d.0) d.1 d.2
  call_made (MovedOut bytes) same d = accepted_made (MovedOut bytes) (sym same ∙ d.0) d.1 d.2
  call_made (Holds n) same d = accepted_made (Holds n) (sym same ∙ d.0) d.1 d.2
  call_made (Ended end) same d = accepted_made (Ended end) (sym same ∙ d.0) d.1 d.2

  -- with nothing that waits
  silent_made : (answer : Answer) → s.unsent ≡ [] → CallDone s t channel c answer → IsCalled s t channel c answer w r
  silent_made answer none d = call_made answer (ap (λ (l : List ℕ). call_fault s.connection l channel c) none) d

-- What is made from a stand on. --------------------------------------------------------------------------

-- Moving bytes out leaves what was made.
pub moved_made : (s t : EndpointState) (room : ℕ) (bytes w r : List ℕ) → IsMoved s t room bytes → made_at s w r ≡ made_at t (w ++ bytes) (r ++ [])
moved_made s t room bytes w r d =
    made_same s.connection t.connection (w ++ s.unsent) ((w ++ bytes) ++ t.unsent) r (r ++ []) (sym d.connection)
    (ap (λ (l : List ℕ). w ++ l) (sym (take-append-drop room s.unsent) ∙ ap (λ (l : List ℕ). l ++ drop room s.unsent) (sym d.moved) ∙ ap (λ (l : List ℕ). bytes ++ l) (sym d.unsent))
    ∙ sym (append_assoc w bytes t.unsent))
    (sym (append-nil r))

-- So does what changes nothing.
pub kept_made : (s t : EndpointState) (w r : List ℕ) → s.connection ≡ t.connection → s.unsent ≡ t.unsent → made_at s w r ≡ made_at t (w ++ []) (r ++ [])
kept_made s t w r c u =
    made_same s.connection t.connection (w ++ s.unsent) ((w ++ []) ++ t.unsent) r (r ++ []) c
    (ap (λ (l : List ℕ). w ++ l) u ∙ ap (λ (l : List ℕ). l ++ t.unsent) (sym (append-nil w))) (sym (append-nil r))

-- where it stands once a message was handed up, by whether its sender settled it
abbrev if_settled : Bool → Configured → ℕ → ℕ → Stand
if_settled settled config channel id = if settled then ToppingUp (all_supplies config) else Settling channel id

handed_same : (p : Rule) (config : Configured) (channel id : ℕ) (settled : Bool) (m : Made) →
    done_taken p (if_settled settled config channel id) m ≡ done_from p (if_settled settled config channel id) m
handed_same p config channel id true m = refl
handed_same p config channel id false m = refl

taken_same : (p : Rule) (config : Configured) (channel : ℕ) (answer : Answer) (m : Made) → done_taken p (stand_taken config channel answer) m ≡ done_from p (stand_taken config channel answer) m
taken_same p config channel (HandedUp d) m = handed_same p config channel d.delivery_id d.settled m
taken_same p config channel _ m = refl

-- So does taking the message that is ready.
pub take_made : (p : Rule) (s t : EndpointState) (channel handle : ℕ) (answer : Answer) (w r : List ℕ) → CallDone s t channel (session.Take handle) answer →
    done_from p (Receiving channel handle) (made_at s w r)
    ≡ done_from p (stand_taken t.connection.config channel answer) (made_at t (w ++ moved_by answer) (r ++ recorded_by (InSession channel (session.Take handle)) answer))
take_made p s t channel handle answer w r d =
    let y = call_made s t channel (session.Take handle) w r answer refl d in
    let n = made_at t (w ++ moved_by answer) (r ++ recorded_by (InSession channel (session.Take handle)) answer) in
    ap (λ (m : Made). done_taken p (stand_taken m.connection.config channel (answer_at s.connection channel (session.Take handle))) m) y.made
    ∙ ap (λ (a : Answer). done_taken p (stand_taken t.connection.config channel a) (made_at t (w ++ moved_by answer) (r ++ recorded_by (InSession channel (session.Take handle)) answer))) (sym y.told)
    ∙ taken_same p t.connection.config channel answer n

-- So does settling it.
pub settle_made : (p : Rule) (s t : EndpointState) (channel id : ℕ) (answer : Answer) (w r : List ℕ) → s.unsent ≡ [] → CallDone s t channel (session.Settle id p.outcome) answer →
    done_from p (Settling channel id) (made_at s w r)
    ≡ done_from p (ToppingUp (all_supplies t.connection.config)) (made_at t (w ++ moved_by answer) (r ++ recorded_by (InSession channel (session.Settle id p.outcome)) answer))
settle_made p s t channel id answer w r none d =
    ap (λ (m : Made). topped_up p m) (silent_made s t channel (session.Settle id p.outcome) w r answer none d).made

-- The call that tops a supply up is one for the session on its channel.
pub top_call : (supply : Supply) (n : ℕ) → top_up_by supply n ≡ InSession (supply_channel supply) (call_for supply n)
top_call (WindowOf channel) n = refl
top_call (CreditOf channel handle) n = refl

given_some : (n : ℕ) (m : Made) (supply : Supply) → 0 < n → topped_by n m supply ≡ called m (supply_channel supply) (call_for supply n)
given_some zero m supply some = absurd (omega (arith, some))
given_some (suc n) m supply some = refl

-- So does topping up a supply.
pub top_made : (p : Rule) (s t : EndpointState) (supply : Supply) (supplies : List Supply) (answer : Answer) (w r : List ℕ) → s.unsent ≡ [] → 0 < lack p s.connection supply →
    Does s t (top_up_by supply (lack p s.connection supply)) answer →
    (done_from p (ToppingUp (supply ∷ supplies)) (made_at s w r)
    ≡ done_from p (ToppingUp supplies) (made_at t (w ++ moved_by answer) (r ++ recorded_by (top_up_by supply (lack p s.connection supply)) answer)))
    × IsUnchanged s.input t.input
top_made p s t supply supplies answer w r none some d =
    let n = lack p s.connection supply in
    let is = top_call supply (lack p s.connection supply) in
    let done = subst (λ (c : Call). Does s t c answer) is d in
    let y = silent_made s t (supply_channel supply) (call_for supply n) w r answer none done in (
      ap (λ (m : Made). all_topped p supplies m)
          (given_some n (made_at s w r) supply some ∙ y.made ∙ ap (λ (c : Call). made_at t (w ++ moved_by answer) (r ++ recorded_by c answer)) (sym is)),
      y.input,
    )

-- What was topped up is still. ------------------------------------------------------------------------------------------

abbrev IsStill : Rule → Made → Type 0
IsStill p m = AreStill p m.connection (all_supplies m.connection.config)

still_up : (p : Rule) (m : Made) → IsStill p (topped_up p m)
still_up p m =
    let supplies = all_supplies m.connection.config in
    subst (λ (config : Configured). AreStill p (topped_up p m).connection (all_supplies config)) (sym (config_all p supplies m)) (all_still p m supplies)

settled_still : (p : Rule) (channel id : ℕ) (settled : Bool) (m : Made) → IsStill p (done_taken p (if_settled settled m.connection.config channel id) m)
settled_still p channel id true m = still_up p m
settled_still p channel id false m = still_up p (called m channel (session.Settle id p.outcome))

taken_still : (p : Rule) (channel : ℕ) (answer : Answer) (m : Made) → IsStill p (done_taken p (stand_taken m.connection.config channel answer) m)
taken_still p channel (HandedUp d) m = settled_still p channel d.delivery_id d.settled m
taken_still p channel _ m = still_up p m

event_still : (p : Rule) (e : Event) (m : Made) → IsStill p (done_from p (stand_told m.connection.config (outcome.Event e)) m)
event_still p (event.Ready channel handle) m = taken_still p channel (answer_at m.connection channel (session.Take handle)) (called m channel (session.Take handle))
event_still p _ m = still_up p m

-- Whatever is told but a want of memory, all supplies are topped up at last.
pub told_still : (p : Rule) (told : Outcome) (m : Made) → (told ≡ outcome.NoMemory → ⊥) → IsStill p (done_from p (stand_told m.connection.config told) m)
told_still p (outcome.Event e) m fine = event_still p e m
told_still p outcome.NoMemory m fine = absurd (fine refl)
told_still p _ m fine = still_up p m
