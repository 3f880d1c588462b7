-- A server that begins, goes on and ends, and is what its own calls alone give.
use Rattle.std.proofs.Common.{◌≡◌, ℕ, ◌+◌, ◌≤◌, arith, ◌⊎◌, inl, inr, Bool, true, false, List, [], ◌∷◌, ◌++◌, length, length-append, take, drop, Option, Some, None, refl, sym, ap, subst, ◌∙◌, append-nil, append_assoc}
use Rattle.std.proofs.Math.Seq.{drop-nil, take-nil}
use Rattle.std.proofs.lemmas.Bool.{true≢false}
use Rattle.std.proofs.lemmas.List.{take-append-drop, length-drop}
use Rattle.amqp_frame.specs.Units.{IsUnit, IsRest, due_behind}
use Rattle.amqp_frame.specs.declared.units.Stage.{Stage}
use Rattle.amqp_frame.specs.declared.units.Stage.TheVariants.{Header}
use Rattle.amqp_endpoint.specs.declared.event.End.{End}
use Rattle.amqp_endpoint.specs.declared.event.Outcome.{Outcome}
use Rattle.amqp_endpoint.specs.declared.fault.CallFault.{CallFault}
use Rattle.amqp_endpoint.specs.Calls.{open_call_fault, close_call_spoken}
use Rattle.amqp_endpoint.specs.Configs.{Configured, IsConfigured}
use Rattle.amqp_endpoint.specs.Connections.{ConnectionState, connection_begins, connection_ready, is_dead}
use Rattle.amqp_endpoint.specs.Lines.{line_of, may_grow_on}
use Rattle.amqp_endpoint.specs.Replies.{joined}
use Rattle.amqp_endpoint.specs.Runs.{Call, Output, Close, Finish, Answer, MovedOut, Dropped, Ended, Does, Run, IsStart, IsMoved}
use Rattle.amqp_endpoint.specs.Steps.{EndpointState, IsKept}
use Rattle.amqp_endpoint.specs.Traces.{IsInRange, AreInRange, told_by}
use Rattle.amqp_endpoint.specs.Held.{held}
use Rattle.amqp_endpoint.specs.Uses.{IsUsed, granted_over, messages_over, held_by_any}
use Rattle.amqp_serve.specs.declared.rules.Rule.{Rule}
use Rattle.amqp_serve.specs.declared.server.Status.{Status}
use Rattle.amqp_serve.specs.declared.server.Status.TheVariants as status
use Rattle.amqp_serve.specs.declared.serving.ServeFault.TheVariants as fault
use Rattle.amqp_serve.specs.declared.steps.Done.{Done}
use Rattle.amqp_serve.specs.Cuts.{Made, first_made, left_over, end_with, served_one, topped_up}
use Rattle.amqp_serve.specs.Deeds.{Ends, HasStepped, HasStopped}
use Rattle.amqp_serve.specs.Kept.{IsInUse, IsServing, status_of, IsGoing, IsOff, IsLife}
use Rattle.amqp_serve.specs.Lives.{Life, Parting, ByPeer, BySelf, new_life, last_words, heard_on, starved_on, told_on, ended_on, ended_units, AreUntried, IsToldBut, IsAlone, IsOver, IsOpen, IsNotOpen}
use Rattle.amqp_serve.specs.Rooms.{answers_room, record_room}
use Rattle.amqp_serve.specs.Servers.{ServerState, hears, open_fault, finish_fault, IsSame, IsSent, IsFinishedSo, IsClosed}
use Rattle.amqp_serve.specs.Serving.{Stand, Step, Serves, moved, recorded, calls_of, answers_of}
use Rattle.amqp_serve.proofs.CutSteps.{made_at, made_same}
use Rattle.amqp_serve.proofs.Cuts.{left_is}
use Rattle.amqp_serve.proofs.Effects.{MakesOn, makes_unit, makes_none, makes_first}
use Rattle.amqp_serve.proofs.Notes.{step_noted}
use Rattle.amqp_serve.proofs.OneSteps.{EndsUnit, EndsNone, Begins, one_step}

-- Statuses. -----------------------------------------------------------------------------------------------------------

-- an endpoint that is open
opens_on : (m : ServerState) → open_fault m ≡ None → (hears m.status ≡ true) × (open_call_fault m.endpoint.connection [] ≡ None)
opens_on m is = by (hears m.status) (open_call_fault m.endpoint.connection []) refl refl
  where
    by : (a : Bool) (o : Option CallFault) → hears m.status ≡ a → open_call_fault m.endpoint.connection [] ≡ o → (a ≡ true) × (o ≡ None)
    by true None e f = (refl, refl)
    by false o e f = absurd (grind (arith, is, e))
    by true (Some x) e f = absurd (grind (arith, is, e, f))

-- one whose input may end
finishes_on : (s : Status) → finish_fault s ≡ None → s ≡ status.Serving
finishes_on status.Serving is = refl
finishes_on status.Starved is = absurd (grind (arith, is))
finishes_on status.Ended is = absurd (grind (arith, is))
finishes_on (status.Lost x) is = absurd (grind (arith, is))

serving_of : (b : Bool) → status.Serving ≡ status_of b → b ≡ false
serving_of false is = refl
serving_of true is = absurd (grind (arith, is))

-- How much is held, over calls. ---------------------------------------------------------------------------------------

-- so much more was granted, and so many more messages were taken
pub goes_by : ((config : Configured) (channel handle granted messages : ℕ) (old new : EndpointState) (c : Call) (a : Answer) → IsUsed config channel handle granted messages old → IsInRange c → Does old new c a →
    IsUsed config channel handle (granted + granted_over channel handle (told_by c a)) (messages + messages_over channel handle (told_by c a)) new) →
    (config : Configured) (channel handle granted messages : ℕ) (old new : EndpointState) (c : Call) (a : Answer) → IsUsed config channel handle granted messages old → IsInRange c → Does old new c a →
    (more most : ℕ) × IsUsed config channel handle more most new
goes_by law config channel handle granted messages old new c a used range does =
    (granted + granted_over channel handle (told_by c a), messages + messages_over channel handle (told_by c a), law config channel handle granted messages old new c a used range does)

-- a kept endpoint is one of which nothing was moved out
moved_nothing : (s t : EndpointState) → IsKept s t → IsMoved s t 0 []
moved_nothing s t k = record { input = k.input; moved = refl; unsent = k.unsent; connection = k.connection }

module _ (goes_on : (config : Configured) (channel handle granted messages : ℕ) (old new : EndpointState) (c : Call) (a : Answer) → IsUsed config channel handle granted messages old → IsInRange c → Does old new c a →
    (more most : ℕ) × IsUsed config channel handle more most new) (config : Configured) where
  call_used : (s t : EndpointState) (c : Call) (a : Answer) → IsInUse config s → IsInRange c → Does s t c a → IsInUse config t
  call_used s t c a u range does = let x = goes_on config 0 0 u.granted u.messages s t c a u.is range does in record { granted = x.0; messages = x.1; is = x.2 }

  kept_used : (s t : EndpointState) → IsInUse config s → IsKept s t → IsInUse config t
  kept_used s t u k = call_used s t (Output 0) (MovedOut []) u tt (moved_nothing s t k)

  run_used : (s t : EndpointState) (calls : List Call) (answers : List Answer) → IsInUse config s → AreInRange calls → Run s calls answers t → IsInUse config t
  run_used s t [] [] u range run = subst (λ (x : EndpointState). IsInUse config x) (sym run) u
  run_used s t [] (a ∷ answers) u range run = absurd run
  run_used s t (c ∷ calls) [] u range run = absurd run
  run_used s t (c ∷ calls) (a ∷ answers) u range run = run_used run.0 t calls answers (call_used s run.0 c a u range.0 run.1) range.1 run.2

-- What is made. -------------------------------------------------------------------------------------------------------

-- as long as it goes on all that was made was written
serving_told : (config : Configured) (l : Life) (s : EndpointState) → l.ended ≡ None → (x : IsServing config l s) → l.told ≡ x.is.made.written
serving_told config l s lives x =
    sym (append-nil l.told) ∙ x.is.told ∙ ap (λ (e : Option Parting). x.is.made.written ++ last_words e) lives ∙ append-nil x.is.made.written

serving_made : (config : Configured) (l : Life) (s : EndpointState) → l.ended ≡ None → (x : IsServing config l s) → made_at s l.told l.noted ≡ x.is.made
serving_made config l s lives x =
    let m = x.is.made in
    made_same s.connection m.connection (l.told ++ s.unsent) m.written l.noted m.recorded x.connection
    (ap (λ (u : List ℕ). l.told ++ u) x.sent ∙ append-nil l.told ∙ serving_told config l s lives x) x.is.noted

-- no whole unit is in its buffer, or one waits for memory
serving_begins : (config : Configured) (l : Life) (s : EndpointState) → IsServing config l s → Begins s
serving_begins config l s x = by l.starved refl
  where
    by : (b : Bool) → l.starved ≡ b → Begins s
    by false e =
        let none : l.untried ≡ [] = subst (λ (b : Bool). AreUntried b config.max_frame (due_behind Header (ended_units x.is.is.effects)) x.is.made.connection x.is.is.rest l.untried) e x.is.untried in
        let filled = x.filled ∙ ap (λ (u : List ℕ). x.is.is.rest ++ u) none ∙ append-nil x.is.is.rest in
        inl (subst (λ (f : List ℕ). IsRest s.input.limit s.input.stage f) (sym filled)
        (subst (λ (g : Stage). IsRest s.input.limit g x.is.is.rest) (sym x.stage)
        (subst (λ (n : ℕ). IsRest n (due_behind Header (ended_units x.is.is.effects)) x.is.is.rest) (sym x.limit) x.is.is.cut.behind)))
    by true e =
        let u = subst (λ (b : Bool). AreUntried b config.max_frame (due_behind Header (ended_units x.is.is.effects)) x.is.made.connection x.is.is.rest l.untried) e x.is.untried in
        inr (
          u.unit,
          record {
            is = subst (λ (n : ℕ). IsUnit n s.input.stage u.unit) (sym x.limit) (subst (λ (g : Stage). IsUnit config.max_frame g u.unit) (sym x.stage) u.is);
            whole = x.filled ∙ u.whole;
          },
          x.alive e,
        )

-- A step. -------------------------------------------------------------------------------------------------------------

module _ (config : Configured) (l : Life) (s t : EndpointState) (lives : l.ended ≡ None) (x : IsServing config l s) (r : Rule) (bytes wrote noted : List ℕ) (silent : t.unsent ≡ []) where
  abbrev after : Life
  after = heard_on l r bytes wrote noted

  -- once it is known what was made
  on_made : (n : Made) (left : List ℕ) (stage : Stage) → made_at t (l.told ++ wrote) (l.noted ++ noted) ≡ n → MakesOn config l.heard n r (l.untried ++ bytes) left stage → t.input.limit ≡ s.input.limit →
      t.input.stage ≡ stage → t.input.filled ≡ left → (t.input.filled ≡ []) ⊎ (is_dead t.connection.phase ≡ false) → IsServing config after t
  on_made n left stage made y limit stage_is filled alive = record {
    is = record {
      made = n;
      end = y.end;
      is = y.is;
      untried = refl;
      noted = ap (λ (m : Made). m.recorded) made;
      told = ap (λ (u : List ℕ). (l.told ++ wrote) ++ u) (sym silent) ∙ ap (λ (m : Made). m.written) made
          ∙ sym (append-nil n.written) ∙ ap (λ (e : Option Parting). n.written ++ last_words e) (sym lives);
      ended = λ e is. absurd (grind (arith, is, lives));
    };
    connection = ap (λ (m : Made). m.connection) made;
    limit = limit ∙ x.limit;
    stage = stage_is ∙ sym y.stage_is;
    filled = filled ∙ sym y.rest ∙ sym (append-nil y.is.rest);
    left = alive;
    alive = λ is. absurd (true≢false (sym is));
    sent = silent;
  }

  made : made_at s l.told l.noted ≡ x.is.made
  made = serving_made config l s lives x

  abbrev stage_now : Stage
  stage_now = due_behind Header (ended_units x.is.is.effects)

  on_unit : EndsUnit r s t bytes wrote noted l.told l.noted → IsServing config after t
  on_unit y =
      let is : IsUnit config.max_frame stage_now y.unit = subst (λ (n : ℕ). IsUnit n stage_now y.unit) x.limit (subst (λ (g : Stage). IsUnit s.input.limit g y.unit) x.stage y.is) in
      let whole = sym (append_assoc x.is.is.rest l.untried bytes) ∙ ap (λ (f : List ℕ). f ++ bytes) (sym x.filled) ∙ y.whole in
      let alive = ap (λ (c : ConnectionState). is_dead c.phase) (sym x.connection) ∙ y.alive in
      on_made (served_one r x.is.made y.unit) [] _ (y.made ∙ ap (λ (m : Made). served_one r m y.unit) made)
      (makes_unit config l.heard x.is.made x.is.end x.is.is r (l.untried ++ bytes) y.unit is whole alive) y.limit y.stage y.filled (inl y.filled)

  on_none : EndsNone r s t bytes wrote noted l.told l.noted → IsServing config after t
  on_none y =
      let filled : t.input.filled ≡ x.is.is.rest ++ (l.untried ++ bytes) = y.filled ∙ ap (λ (f : List ℕ). f ++ bytes) x.filled ∙ append_assoc x.is.is.rest l.untried bytes in
      let rest : IsRest config.max_frame stage_now (x.is.is.rest ++ (l.untried ++ bytes)) = subst (λ (f : List ℕ). IsRest config.max_frame stage_now f) filled
      (subst (λ (g : Stage). IsRest config.max_frame g t.input.filled) (y.stage ∙ x.stage) (subst (λ (n : ℕ). IsRest n t.input.stage t.input.filled) (y.limit ∙ x.limit) y.rest)) in
      on_made (topped_up r x.is.made) (x.is.is.rest ++ (l.untried ++ bytes)) stage_now (y.made ∙ ap (λ (m : Made). topped_up r m) made)
      (makes_none config l.heard x.is.made x.is.end x.is.is r (l.untried ++ bytes) rest) y.limit (y.stage ∙ x.stage) filled y.left

-- memory was refused
starves_on : (config : Configured) (l : Life) (s t : EndpointState) (x : IsServing config l s) (r : Rule) (bytes : List ℕ) (e f : Ends) → HasStopped r fault.NoMemory bytes s t e f → IsServing config (starved_on l bytes) t
starves_on config l s t x r bytes e f y =
    let in_it = y.added refl in
    let wants = y.starved refl in
    let kept = (y.still refl).0 in
    let filled : t.input.filled ≡ x.is.is.rest ++ (l.untried ++ bytes) = in_it.filled ∙ ap (λ (h : List ℕ). h ++ bytes) x.filled ∙ append_assoc x.is.is.rest l.untried bytes in
    let limit = in_it.limit ∙ x.limit in
    let stage = in_it.stage ∙ x.stage in
    record {
      is = record {
        made = x.is.made;
        end = x.is.end;
        is = x.is.is;
        untried = record {
          unit = wants.unit;
          is = subst (λ (n : ℕ). IsUnit n (due_behind Header (ended_units x.is.is.effects)) wants.unit) limit (subst (λ (g : Stage). IsUnit t.input.limit g wants.unit) stage wants.waits.is);
          whole = sym filled ∙ wants.waits.whole;
          wants = ap (λ (c : ConnectionState). may_grow_on (line_of c wants.unit)) (sym (kept ∙ x.connection)) ∙ wants.wants;
        };
        noted = x.is.noted;
        told = x.is.told;
        ended = x.is.ended;
      };
      connection = kept ∙ x.connection;
      limit = limit;
      stage = stage;
      filled = filled;
      left = inr wants.alive;
      alive = λ is. wants.alive;
      sent = wants.sent;
    }

-- A life. -------------------------------------------------------------------------------------------------------------

hearing : (config : Configured) (l : Life) (m : ServerState) → hears m.status ≡ true → IsLife config l m → IsGoing config l m
hearing config l m may x =
    elim x.goes [
      | inl g ↦ g
      | inr o ↦ absurd (let is = o.status in grind (arith, may, is))
    ]

serving_due : (config : Configured) (l : Life) (m : ServerState) (x : IsLife config l m) → IsGoing config l m → l.due ≡ 0
serving_due config l m x g = let none = ap (λ (u : List ℕ). length u) g.serving.sent in omega (arith, none, x.due)

-- no call was made of a new endpoint
pub starts : (config : Configured) (m : ServerState) → IsUsed config 0 0 0 0 m.endpoint → IsStart config m.endpoint → m.status ≡ status.Serving → IsLife config new_life m
starts config m used begins is = record {
  used = record { granted = 0; messages = 0; is = used };
  due = ap (λ (u : List ℕ). length u) begins.unsent;
  goes = inl (record {
    goes_on = refl;
    status = is;
    serving = record {
      is = record {
        made = first_made config;
        end = end_with (connection_begins config) (left_over (connection_begins config) []);
        is = makes_first config;
        untried = refl;
        noted = refl;
        told = refl;
        ended = λ e is. absurd (grind (arith, is));
      };
      connection = begins.connection;
      limit = begins.limit;
      stage = begins.stage;
      filled = begins.filled;
      left = inl begins.filled;
      alive = λ is. absurd (true≢false (sym is));
      sent = begins.unsent;
    };
  });
}

module _ (goes_on : (config : Configured) (channel handle granted messages : ℕ) (old new : EndpointState) (c : Call) (a : Answer) → IsUsed config channel handle granted messages old → IsInRange c → Does old new c a →
    (more most : ℕ) × IsUsed config channel handle more most new) (config : Configured) where
  -- It is the same, but for bytes of its buffer that do not count.
  module _ (l : Life) (s t : EndpointState) (k : IsKept s t) where
    same_serving : IsServing config l s → IsServing config l t
    same_serving x = record {
      is = x.is;
      connection = k.connection ∙ x.connection;
      limit = k.input.limit ∙ x.limit;
      stage = k.input.stage ∙ x.stage;
      filled = k.input.filled ∙ x.filled;
      left = elim x.left [
        | inl none ↦ inl (k.input.filled ∙ none)
        | inr alive ↦ inr (ap (λ (c : ConnectionState). is_dead c.phase) k.connection ∙ alive)
      ];
      alive = λ is. ap (λ (c : ConnectionState). is_dead c.phase) k.connection ∙ x.alive is;
      sent = k.unsent ∙ x.sent;
    }

  pub stays : (l : Life) (a b : ServerState) → IsSame a b → IsLife config l a → IsLife config l b
  stays l a b h x = record {
    used = kept_used goes_on config a.endpoint b.endpoint x.used h.endpoint;
    due = ap (λ (u : List ℕ). length u) h.endpoint.unsent ∙ x.due;
    goes = elim x.goes [
      | inl g ↦ inl (record { goes_on = g.goes_on; status = h.status ∙ g.status; serving = same_serving l a.endpoint b.endpoint h.endpoint g.serving })
      | inr o ↦ inr (record { ended = o.ended; status = h.status ∙ o.status; is = subst (λ (u : List ℕ). IsToldBut config l u) (sym h.endpoint.unsent) o.is })
    ];
  }

  -- Its input ends.
  module _ (l : Life) (a b : ServerState) (how : End) (h : IsFinishedSo a b how) where
    at_end : (g : IsGoing config l a) → how ≡ g.serving.is.end
    at_end g =
        let x = g.serving in
        let s = a.endpoint in
        let rests : l.starved ≡ false = serving_of l.starved (sym (finishes_on a.status h.was) ∙ g.status) in
        let none : l.untried ≡ [] = subst (λ (q : Bool). AreUntried q config.max_frame (due_behind Header (ended_units x.is.is.effects)) x.is.made.connection x.is.is.rest l.untried) rests x.is.untried in
        let filled = x.filled ∙ ap (λ (u : List ℕ). x.is.is.rest ++ u) none ∙ append-nil x.is.is.rest in
        let as_left = left_is s.connection s.input.filled x.left in
        h.end ∙ ap (λ (f : List ℕ). end_with s.connection f) as_left ∙ ap (λ (f : List ℕ). end_with s.connection (left_over s.connection f)) filled
        ∙ ap (λ (c : ConnectionState). end_with c (left_over c x.is.is.rest)) x.connection ∙ sym x.is.is.ends

    finish_off : IsGoing config l a → IsOff config (ended_on l (ByPeer how)) b
    finish_off g =
        let x = g.serving in
        let silent : b.endpoint.unsent ≡ [] = h.endpoint.unsent ∙ x.sent in
        record {
          ended = λ is. absurd (grind (arith, is));
          status = h.status;
          is = record {
            made = x.is.made;
            end = x.is.end;
            is = x.is.is;
            untried = x.is.untried;
            noted = x.is.noted;
            told = ap (λ (u : List ℕ). l.told ++ u) silent ∙ append-nil l.told ∙ serving_told config l a.endpoint g.goes_on x ∙ sym (append-nil x.is.made.written);
            ended = λ e is. let same : how ≡ e = grind (arith, is) in sym same ∙ at_end g;
          };
        }

    pub finishes : IsLife config l a → IsLife config (ended_on l (ByPeer how)) b
    finishes x =
        let none = ap (λ (u : List ℕ). length u) h.endpoint.unsent in
        record {
          used = call_used goes_on config a.endpoint b.endpoint Finish (Ended how) x.used tt (h.endpoint, h.end);
          due = omega (arith, none, x.due);
          goes = elim x.goes [
            | inl g ↦ inr (finish_off g)
            | inr o ↦ absurd (let is = finishes_on a.status h.was in let was = o.status in grind (arith, is, was))
          ];
        }

  -- This side closes it.
  module _ (l : Life) (a b : ServerState) (h : IsClosed a b) where
    close_off : IsGoing config l a → IsOff config (ended_on l BySelf) b
    close_off g =
        let x = g.serving in
        let silent : b.endpoint.unsent ≡ joined close_call_spoken = h.endpoint.unsent ∙ ap (λ (u : List ℕ). u ++ joined close_call_spoken) x.sent in
        record {
          ended = λ is. absurd (grind (arith, is));
          status = h.status;
          is = record {
            made = x.is.made;
            end = x.is.end;
            is = x.is.is;
            untried = x.is.untried;
            noted = x.is.noted;
            told = ap (λ (u : List ℕ). l.told ++ u) silent ∙ ap (λ (w : List ℕ). w ++ joined close_call_spoken) (serving_told config l a.endpoint g.goes_on x);
            ended = λ e is. absurd (grind (arith, is));
          };
        }

    pub closes : IsLife config l a → IsLife config (ended_on l BySelf) b
    closes x =
        let may = opens_on a h.was in
        let g = hearing config l a may.0 x in
        let more = ap (λ (u : List ℕ). length u) h.endpoint.unsent in
        record {
          used = call_used goes_on config a.endpoint b.endpoint Close (Dropped (connection_ready a.endpoint.connection)) x.used tt
              (ap (λ (u : List ℕ). open_call_fault a.endpoint.connection u) g.serving.sent ∙ may.1, h.endpoint, refl);
          due = omega (arith, more, x.due, length-append a.endpoint.unsent (joined close_call_spoken));
          goes = inr (close_off g);
        }

  -- Bytes that waited are written.
  module _ (l : Life) (a b : ServerState) (bytes : List ℕ) (h : IsSent a b (length bytes)) (is : bytes ≡ take (length bytes) a.endpoint.unsent) where
    left_now : b.endpoint.unsent ≡ drop (length bytes) a.endpoint.unsent
    left_now = ap (λ (s : EndpointState). s.unsent) h.endpoint

    both : bytes ++ b.endpoint.unsent ≡ a.endpoint.unsent
    both =
        ap (λ (w : List ℕ). w ++ b.endpoint.unsent) is ∙ ap (λ (w : List ℕ). take (length bytes) a.endpoint.unsent ++ w) left_now ∙ take-append-drop (length bytes) a.endpoint.unsent

    sent_going : IsGoing config l a → IsGoing config (told_on l bytes) b
    sent_going g =
        let none : bytes ≡ [] = is ∙ ap (λ (u : List ℕ). take (length bytes) u) g.serving.sent ∙ take-nil (length bytes) in
        let told : l.told ≡ l.told ++ bytes = sym (append-nil l.told) ∙ ap (λ (w : List ℕ). l.told ++ w) (sym none) in
        let rest : drop (length bytes) a.endpoint.unsent ≡ a.endpoint.unsent = ap (λ (u : List ℕ). drop (length bytes) u) g.serving.sent ∙ drop-nil (length bytes) ∙ sym g.serving.sent in
        let same : b.endpoint ≡ a.endpoint = h.endpoint ∙ ap (λ (u : List ℕ). record a.endpoint { unsent = u }) rest in
        let x = g.serving in
        let here : IsServing config (told_on l bytes) a.endpoint = record {
          is = record {
            made = x.is.made;
            end = x.is.end;
            is = x.is.is;
            untried = x.is.untried;
            noted = x.is.noted;
            told = ap (λ (w : List ℕ). w ++ []) (sym told) ∙ x.is.told;
            ended = x.is.ended;
          };
          connection = x.connection;
          limit = x.limit;
          stage = x.stage;
          filled = x.filled;
          left = x.left;
          alive = x.alive;
          sent = x.sent;
        } in
        record {
          goes_on = g.goes_on;
          status = h.status ∙ g.status;
          serving = subst (λ (s : EndpointState). IsServing config (told_on l bytes) s) (sym same) here;
        }

    sent_off : IsOff config l a → IsOff config (told_on l bytes) b
    sent_off o = record {
      ended = o.ended;
      status = h.status ∙ o.status;
      is = record {
        made = o.is.made;
        end = o.is.end;
        is = o.is.is;
        untried = o.is.untried;
        noted = o.is.noted;
        told = append_assoc l.told bytes b.endpoint.unsent ∙ ap (λ (w : List ℕ). l.told ++ w) both ∙ o.is.told;
        ended = o.is.ended;
      };
    }

    pub hands : IsLife config l a → IsLife config (told_on l bytes) b
    hands x =
        let n = length bytes in
        let count = ap (λ (u : List ℕ). length u) left_now in
        record {
          used = subst (λ (s : EndpointState). IsInUse config s) (sym h.endpoint)
              (call_used goes_on config a.endpoint (record a.endpoint { unsent = drop n a.endpoint.unsent }) (Output n) (MovedOut (take n a.endpoint.unsent)) x.used tt
              (record { input = record { limit = refl; stage = refl; filled = refl }; moved = refl; unsent = refl; connection = refl }));
          due = omega (arith, count, length-drop n a.endpoint.unsent, x.due);
          goes = elim x.goes [
            | inl g ↦ inl (sent_going g)
            | inr o ↦ inr (sent_off o)
          ];
        }

-- It hears. -----------------------------------------------------------------------------------------------------------

module _ (goes_on : (config : Configured) (channel handle granted messages : ℕ) (old new : EndpointState) (c : Call) (a : Answer) → IsUsed config channel handle granted messages old → IsInRange c → Does old new c a →
    (more most : ℕ) × IsUsed config channel handle more most new)
    (ranges : (r : Rule) (a b : Stand) (s t : EndpointState) (steps : List Step) → Serves r a s steps b t → AreInRange (calls_of steps))
    (runs : (r : Rule) (a b : Stand) (s t : EndpointState) (steps : List Step) → Serves r a s steps b t → Run s (calls_of steps) (answers_of steps) t)
    (config_is : (config : Configured) (channel handle granted messages : ℕ) (s : EndpointState) → IsUsed config channel handle granted messages s → s.connection.config ≡ config)
    (held_is : (config : Configured) (channel handle granted messages : ℕ) (s : EndpointState) → IsUsed config channel handle granted messages s → held s ≤ held_by_any config)
    (within : (r : Rule) (config : Configured) (told : Outcome) (d : Done) (bytes : List ℕ) (old new : EndpointState) (e f : Ends) → IsConfigured config.container_id config.max_frame config.window →
    old.connection.config ≡ config → 8 ≤ old.input.limit → old.unsent ≡ [] → (x : HasStepped r told d bytes old new e f) → length (moved x.served.steps) ≤ answers_room config)
    (config : Configured) where
  serves_used : (r : Rule) (a b : Stand) (s t : EndpointState) (steps : List Step) → IsInUse config s → Serves r a s steps b t → IsInUse config t
  serves_used r a b s t steps u x = run_used goes_on config s t (calls_of steps) (answers_of steps) u (ranges r a b s t steps x) (runs r a b s t steps x)

  pub hears_on : (l : Life) (a b : ServerState) (r : Rule) (bytes : List ℕ) (told : Outcome) (d : Done) (e f : Ends) → hears a.status ≡ true → (x : HasStepped r told d bytes a.endpoint b.endpoint e f) →
      b.status ≡ status.Serving → IsLife config l a →
      IsLife config (heard_on l r bytes (moved x.served.steps) (recorded x.served.steps)) b × (length (moved x.served.steps) ≤ answers_room config) × (length (recorded x.served.steps) ≤ record_room config)
  hears_on l a b r bytes told d e f may x is life =
      let g = hearing config l a may life in
      let s = g.serving in
      let wrote = moved x.served.steps in
      let noted = recorded x.served.steps in
      let serves : IsServing config (heard_on l r bytes wrote noted) b.endpoint =
      elim (one_step r told d bytes a.endpoint b.endpoint e f s.sent (serving_begins config l a.endpoint s) s.left x l.told l.noted) [
        | inl y ↦ on_unit config l a.endpoint b.endpoint g.goes_on s r bytes wrote noted x.sent y
        | inr y ↦ on_none config l a.endpoint b.endpoint g.goes_on s r bytes wrote noted x.sent y
      ] in
      let limits = life.used.is.within in (
        record {
          used = serves_used r _ _ a.endpoint b.endpoint x.served.steps life.used x.served.serves;
          due = ap (λ (u : List ℕ). length u) x.sent ∙ sym (serving_due config l a life g);
          goes = inl (record { goes_on = g.goes_on; status = is; serving = serves });
        },
        within r config told d bytes a.endpoint b.endpoint e f limits (config_is config 0 0 life.used.granted life.used.messages a.endpoint life.used.is)
            (let limit = s.limit in omega (arith, limits.some_frame, limit)) s.sent x,
        step_noted config (call_used goes_on config) (λ u used. held_is config 0 0 used.granted used.messages u used.is) told x.served.serves life.used x.deeds.told,
      )

  pub starves : (l : Life) (a b : ServerState) (r : Rule) (bytes : List ℕ) (e f : Ends) → hears a.status ≡ true → HasStopped r fault.NoMemory bytes a.endpoint b.endpoint e f →
      b.status ≡ status.Starved → IsLife config l a → IsLife config (starved_on l bytes) b
  starves l a b r bytes e f may x is life =
      let g = hearing config l a may life in
      record {
        used = kept_used goes_on config x.broke.last b.endpoint (serves_used r _ _ a.endpoint x.broke.last x.broke.steps life.used x.broke.serves) x.broke.same;
        due = ap (λ (u : List ℕ). length u) (x.starved refl).sent ∙ sym (serving_due config l a life g);
        goes = inl (record { goes_on = g.goes_on; status = is; serving = starves_on config l a.endpoint b.endpoint g.serving r bytes e f x });
      }

-- What its own calls alone give. --------------------------------------------------------------------------------------

pub alone : (config : Configured) (l : Life) (m : ServerState) → IsLife config l m → IsAlone config l
alone config l m x =
    elim x.goes [
      | inl g ↦ record { rest = []; is = g.serving.is; due = sym (serving_due config l m x g) }
      | inr o ↦ record { rest = m.endpoint.unsent; is = o.is; due = x.due }
    ]

pub over : (config : Configured) (l : Life) (m : ServerState) → IsLife config l m → l.ended ≡ None → is_dead m.endpoint.connection.phase ≡ true → IsOver config l
over config l m x lives dead =
    elim x.goes [
      | inl g ↦ let s = g.serving in record { made = s.is.made; end = s.is.end; is = s.is.is; over = ap (λ (c : ConnectionState). is_dead c.phase) (sym s.connection) ∙ dead }
      | inr o ↦ absurd (o.ended lives)
    ]

pub opened : (config : Configured) (l : Life) (m : ServerState) → IsLife config l m → l.ended ≡ None → open_call_fault m.endpoint.connection [] ≡ None → IsOpen config l
opened config l m x lives is =
    elim x.goes [
      | inl g ↦ let s = g.serving in record { made = s.is.made; end = s.is.end; is = s.is.is; is_open = ap (λ (c : ConnectionState). open_call_fault c []) (sym s.connection) ∙ is }
      | inr o ↦ absurd (o.ended lives)
    ]

pub unopened : (config : Configured) (l : Life) (m : ServerState) → IsLife config l m → l.ended ≡ None → (open_call_fault m.endpoint.connection [] ≡ None → ⊥) → IsNotOpen config l
unopened config l m x lives is =
    elim x.goes [
      | inl g ↦ let s = g.serving in record { made = s.is.made; end = s.is.end; is = s.is.is; not_open = λ e. is (ap (λ (c : ConnectionState). open_call_fault c []) s.connection ∙ e) }
      | inr o ↦ absurd (o.ended lives)
    ]
