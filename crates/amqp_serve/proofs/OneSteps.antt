-- One step, whatever the rule of those before it: it serves the unit that it ended, or it ended none and tops up.
use Rattle.std.proofs.Common.{arith, ◌≡◌, ℕ, zero, suc, ◌⊎◌, inl, inr, Bool, true, false, List, [], ◌∷◌, ◌++◌, take, refl, sym, ap, subst, ◌∙◌, append_assoc, append-nil, Option, Some, None}
use Rattle.std.proofs.lemmas.Bool.{true≢false}
use Rattle.std.specs.Prelude.{if◌then◌else◌}
use Rattle.std.specs.List.{flat_map}
use Rattle.amqp_frame.specs.Splits.{SplitterState, Waits, IsTaken, IsUnchanged}
use Rattle.amqp_frame.specs.Units.{StreamUnit, bytes_of, IsUnit, IsRest, AreUnits, due_after, due_behind}
use Rattle.amqp_frame.specs.declared.units.Stage.{Stage}
use Rattle.amqp_frame.proofs.Fronts.{front}
use Rattle.amqp_session.specs.declared.slot.Slot.{Slot}
use Rattle.amqp_session.specs.declared.slot.Slot.TheVariants.{Free, Live, Waits as Awaits}
use Rattle.amqp_session.specs.Calls as session
use Rattle.amqp_session.specs.Sessions.{SessionState}
use Rattle.amqp_endpoint.specs.declared.event.Outcome.{Outcome}
use Rattle.amqp_endpoint.specs.declared.event.Outcome.TheVariants as outcome
use Rattle.amqp_endpoint.specs.declared.fault.CallFault.{CallFault}
use Rattle.amqp_endpoint.specs.Calls.{slot_event, call_fault}
use Rattle.amqp_endpoint.specs.Connections.{ConnectionState, connection_after, slot_at, is_dead}
use Rattle.amqp_endpoint.specs.Lines.{line_of}
use Rattle.amqp_endpoint.specs.Replies.{reply_on}
use Rattle.amqp_endpoint.specs.Runs.{Call}
use Rattle.amqp_endpoint.specs.Steps as steps
use Rattle.amqp_endpoint.specs.Steps.{EndpointState, IsKept, IsActed, IsFed, Acts, Comes, acted_after, room_for, told_outcome}
use Rattle.amqp_endpoint.specs.Traces.{taken_by}
use Rattle.amqp_endpoint.proofs.Fills.{fed_read}
use Rattle.amqp_serve.specs.declared.rules.Rule.{Rule}
use Rattle.amqp_serve.specs.declared.steps.Done.{Done}
use Rattle.amqp_serve.specs.declared.supplies.Supply.{Supply}
use Rattle.amqp_serve.specs.Cuts.{Made, called_by, call_for, supply_channel, topped_by, topped, all_topped, topped_up, done_from, answered, served_one, served_all}
use Rattle.amqp_serve.specs.Deeds.{outcomes_by, Ends, HasStepped}
use Rattle.amqp_serve.specs.Serving.{Stand, ToppingUp, reading, all_supplies, stand_told, lack, Step, Serves, Rests, MovesOut, Feeds, Takes, Settles, TopsUp, Passes, Finishes, fed, moved, recorded}
use Rattle.amqp_serve.proofs.CutRuns.{IsGood, IsEnded, ended, IsCourse, ends_last, nothing_rests, halted, follows}
use Rattle.amqp_serve.proofs.CutSteps.{made_at, made_same, top_call, told_still}
use Rattle.amqp_serve.proofs.Resumed.{moved_none}
use Rattle.amqp_serve.proofs.ServingFeeds.{room_for_all}

-- Its one feed. -------------------------------------------------------------------------------------------------------

-- what feeds reported
abbrev outcomes : List Step → List Outcome
outcomes xs = flat_map (λ x. outcomes_by x.answer) xs

no_front : {X : Type 0} (xs ys : List X) → xs ++ ys ≡ [] → ys ≡ []
no_front [] ys e = e
no_front (x ∷ xs) ys e = absurd (grind (arith, e))

-- steps with no feed take nothing
quiet : {p : Rule} {a b : Stand} {s t : EndpointState} {xs : List Step} → Serves p a s xs b t → outcomes xs ≡ [] → fed xs ≡ []
quiet Rests e = refl
quiet (MovesOut next room bytes does x) e = quiet x e
quiet (Feeds next piece used told none range does x) e = absurd (grind (arith, e))
quiet (Takes {p} {b} {s} {last} {steps} next channel handle answer does x) e = quiet x (no_front (outcomes_by answer) (outcomes steps) e)
quiet (Settles {p} {b} {s} {last} {steps} next channel id answer none small does x) e = quiet x (no_front (outcomes_by answer) (outcomes steps) e)
quiet (TopsUp {p} {b} {s} {last} {steps} next supply supplies answer none lacks does x) e =
    ap (λ (c : Call). taken_by c answer ++ fed steps) (top_call supply (lack p s.connection supply)) ∙ quiet x (no_front (outcomes_by answer) (outcomes steps) e)
quiet (Passes supply supplies lacks x) e = quiet x e
quiet (Finishes next end none does x) e = quiet x e

-- of an outcome and others
abbrev first_of : Outcome → List Outcome → Outcome
first_of o [] = o
first_of o (x ∷ xs) = x

abbrev rest_of : List Outcome → List Outcome
rest_of [] = []
rest_of (x ∷ xs) = xs

-- the one feed of some steps, and those after it
record IsFirstFeed (p : Rule) (s : EndpointState) (b : Stand) (t : EndpointState) (xs : List Step) (told : Outcome) : Type 0 where
  next : EndpointState
  piece : List ℕ
  used : ℕ
  more : List Step
  feed : IsFed s next piece used told
  serves : Serves p (stand_told next.connection.config told) next more b t
  none : outcomes more ≡ []
  fed : fed xs ≡ take used piece ++ fed more
  moved : moved xs ≡ moved more
  recorded : recorded xs ≡ recorded more

first_feed : {p : Rule} {a b : Stand} {s t : EndpointState} {xs : List Step} → Serves p a s xs b t → a ≡ reading → (IsEnded b → ⊥) → (told : Outcome) → told ∷ [] ≡ outcomes xs → s.unsent ≡ [] →
    IsFirstFeed p s b t xs told
first_feed Rests e over told is none = absurd (grind (arith, is))
first_feed (MovesOut {p} {a} {b} {s} {last} {steps} next room bytes does x) e over told is none =
    let n = moved_none s next room bytes does none in
    let y = first_feed x e over told is (n.1.unsent ∙ none) in
    record {
      next = y.next;
      piece = y.piece;
      used = y.used;
      more = y.more;
      feed = fed_read s next y.next y.piece y.used told n.1 y.feed;
      serves = y.serves;
      none = y.none;
      fed = y.fed;
      moved = ap (λ (l : List ℕ). l ++ moved steps) n.0 ∙ y.moved;
      recorded = y.recorded;
    }
first_feed (Feeds {p} {b} {s} {last} {steps} next piece used other silent range does x) e over told is none =
    let same : other ≡ told = sym (ap (λ (l : List Outcome). first_of told l) is) in
    record {
      next = next;
      piece = piece;
      used = used;
      more = steps;
      feed = subst (λ (o : Outcome). IsFed s next piece used o) same does;
      serves = subst (λ (o : Outcome). Serves p (stand_told next.connection.config o) next steps b last) same x;
      none = sym (ap (λ (l : List Outcome). rest_of l) is);
      fed = refl;
      moved = refl;
      recorded = refl;
    }
first_feed (Takes next channel handle answer does x) e over told is none = absurd (grind (arith, e))
first_feed (Settles next channel id answer silent small does x) e over told is none = absurd (grind (arith, e))
first_feed (TopsUp next supply supplies answer silent lacks does x) e over told is none = absurd (grind (arith, e))
first_feed (Passes supply supplies lacks x) e over told is none = absurd (grind (arith, e))
first_feed (Finishes next end silent does x) e over told is none = absurd (over (ended x tt))

-- Topping up ends no connection. --------------------------------------------------------------------------------------

phase_slot : (s : ConnectionState) (channel : ℕ) (x : Slot SessionState) (c : session.Call) → (connection_after s (slot_event channel x c)).phase ≡ s.phase
phase_slot s channel Free c = refl
phase_slot s channel (Live y) c = refl
phase_slot s channel Awaits c = refl

phase_called : (o : Option CallFault) (m : Made) (channel : ℕ) (c : session.Call) → (called_by o m channel c).connection.phase ≡ m.connection.phase
phase_called None m channel c = phase_slot m.connection channel (slot_at m.connection channel) c
phase_called (Some fault) m channel c = refl

phase_by : (n : ℕ) (m : Made) (supply : Supply) → (topped_by n m supply).connection.phase ≡ m.connection.phase
phase_by zero m supply = refl
phase_by (suc n) m supply = phase_called (call_fault m.connection [] (supply_channel supply) (call_for supply (suc n))) m (supply_channel supply) (call_for supply (suc n))

phase_all : (p : Rule) (supplies : List Supply) (m : Made) → (all_topped p supplies m).connection.phase ≡ m.connection.phase
phase_all p [] m = refl
phase_all p (supply ∷ supplies) m = phase_all p supplies (topped p m supply) ∙ phase_by (lack p m.connection supply) m supply

-- What a step comes to. -----------------------------------------------------------------------------------------------

-- a unit ended
pub record EndsUnit (p : Rule) (s t : EndpointState) (bytes wrote noted w k : List ℕ) : Type 0 where
  pub unit : StreamUnit
  pub is : IsUnit s.input.limit s.input.stage unit
  pub whole : s.input.filled ++ bytes ≡ bytes_of unit
  pub alive : is_dead s.connection.phase ≡ false
  pub limit : t.input.limit ≡ s.input.limit
  pub stage : t.input.stage ≡ due_after unit
  pub filled : t.input.filled ≡ []
  pub made : made_at t (w ++ wrote) (k ++ noted) ≡ served_one p (made_at s w k) unit

-- or none did
pub record EndsNone (p : Rule) (s t : EndpointState) (bytes wrote noted w k : List ℕ) : Type 0 where
  pub limit : t.input.limit ≡ s.input.limit
  pub stage : t.input.stage ≡ s.input.stage
  pub filled : t.input.filled ≡ s.input.filled ++ bytes
  pub rest : IsRest t.input.limit t.input.stage t.input.filled
  pub left : (t.input.filled ≡ []) ⊎ (is_dead t.connection.phase ≡ false)
  pub made : made_at t (w ++ wrote) (k ++ noted) ≡ topped_up p (made_at s w k)

-- no whole unit is in the buffer, or one waits
abbrev pub Begins : EndpointState → Type 0
Begins s = IsRest s.input.limit s.input.stage s.input.filled ⊎ ((u : StreamUnit) × Waits s.input u × (is_dead s.connection.phase ≡ false))

same_at : (s t : EndpointState) (w k : List ℕ) → s.connection ≡ t.connection → s.unsent ≡ t.unsent → made_at s w k ≡ made_at t w k
same_at s t w k c u = made_same s.connection t.connection (w ++ s.unsent) (w ++ t.unsent) k k c (ap (λ (l : List ℕ). w ++ l) u) refl

module _ (p : Rule) (s t : EndpointState) (xs : List Step) (told : Outcome) (f : IsFirstFeed p s reading t xs told) (silent : s.unsent ≡ []) (w k : List ℕ) where
  abbrev next : EndpointState
  next = f.next

  -- what is made once what follows the feed is done
  abbrev then_made : Made
  then_made = done_from p (stand_told next.connection.config told) (made_at next w k)

  took : fed xs ≡ take f.used f.piece
  took = f.fed ∙ ap (λ (l : List ℕ). take f.used f.piece ++ l) (quiet f.serves f.none) ∙ append-nil (take f.used f.piece)

  fine : told ≡ outcome.NoMemory → ⊥
  fine is = let h = halted f.serves (ap (λ (o : Outcome). stand_told next.connection.config o) is) [] [] in absurd (let e = h.stand in grind (arith, e))

  -- what follows the feed was done
  record HasRested : Type 0 where
    made : made_at t (w ++ moved xs) (k ++ recorded xs) ≡ then_made
    input : IsUnchanged next.input t.input
    left : (t.input.filled ≡ []) ⊎ (is_dead t.connection.phase ≡ false)

  rested : IsRest next.input.limit next.input.stage next.input.filled → (next.input.filled ≡ []) ⊎ (is_dead then_made.connection.phase ≡ false) → HasRested
  rested rest left = by c.units refl
    where
      good : IsGood p then_made next.input
      good = record { still = told_still p told (made_at next w k) fine; rest = rest; left = left }

      c : IsCourse p reading then_made next.input t.input (fed f.more) (made_at t (w ++ moved f.more) (k ++ recorded f.more))
      c = follows f.serves (λ h. h) w k good

      all : next.input.filled ≡ flat_map bytes_of c.units ++ t.input.filled
      all = sym (append-nil next.input.filled) ∙ ap (λ (l : List ℕ). next.input.filled ++ l) (sym (quiet f.serves f.none)) ∙ c.joined

      by : (us : List StreamUnit) → c.units ≡ us → HasRested
      by [] e = record {
        made = made_same t.connection t.connection ((w ++ moved xs) ++ t.unsent) ((w ++ moved f.more) ++ t.unsent) (k ++ recorded xs) (k ++ recorded f.more) refl
            (ap (λ (l : List ℕ). (w ++ l) ++ t.unsent) f.moved) (ap (λ (l : List ℕ). k ++ l) f.recorded)
            ∙ c.made ∙ ap (λ (us : List StreamUnit). served_all p then_made us) e;
        input = record {
          limit = c.limit;
          stage = c.stage ∙ ap (λ (us : List StreamUnit). due_behind next.input.stage us) e;
          filled = sym (all ∙ ap (λ (us : List StreamUnit). flat_map bytes_of us ++ t.input.filled) e);
        };
        left = (c.good (λ h. h)).left;
      }
      by (u ∷ us) e =
          let each = subst (λ (vs : List StreamUnit). AreUnits next.input.limit next.input.stage vs) e c.each in
          absurd (rest.none u (flat_map bytes_of us ++ t.input.filled) each.0
          (all ∙ ap (λ (vs : List StreamUnit). flat_map bytes_of vs ++ t.input.filled) e ∙ append_assoc (bytes_of u) (flat_map bytes_of us) t.input.filled))

  -- A feed that acted upon nothing tops up.
  only_tops : s.connection ≡ next.connection → s.unsent ≡ next.unsent → stand_told next.connection.config told ≡ ToppingUp (all_supplies next.connection.config) → then_made ≡ topped_up p (made_at s w k)
  only_tops c u stand = ap (λ (a : Stand). done_from p a (made_at next w k)) stand ∙ ap (λ (m : Made). topped_up p m) (sym (same_at s next w k c u))

  abbrev Ends_unit : Type 0
  Ends_unit = EndsUnit p s t (fed xs) (moved xs) (recorded xs) w k

  abbrev Ends_none : Type 0
  Ends_none = EndsNone p s t (fed xs) (moved xs) (recorded xs) w k

  -- the connection was over
  when_dead : IsRest s.input.limit s.input.stage s.input.filled → s.input.filled ≡ [] → IsKept s next → f.used ≡ 0 → told ≡ outcome.Dead → Ends_none
  when_dead rest empty kept none dead =
      let here : IsRest next.input.limit next.input.stage next.input.filled = nothing_rests next.input.limit next.input.stage next.input.filled (kept.input.filled ∙ empty) in
      let r = rested here (inl (kept.input.filled ∙ empty)) in
      let nothing : fed xs ≡ [] = took ∙ ap (λ (n : ℕ). take n f.piece) none in
      record {
        limit = r.input.limit ∙ kept.input.limit;
        stage = r.input.stage ∙ kept.input.stage;
        filled = r.input.filled ∙ kept.input.filled ∙ sym (append-nil s.input.filled) ∙ ap (λ (l : List ℕ). s.input.filled ++ l) (sym nothing);
        rest = nothing_rests t.input.limit t.input.stage t.input.filled (r.input.filled ∙ kept.input.filled ∙ empty);
        left = r.left;
        made = r.made ∙ only_tops (sym kept.connection) (sym kept.unsent) (ap (λ (o : Outcome). stand_told next.connection.config o) dead);
      }

  module _ (between : SplitterState) (taken : IsTaken s.input between f.piece f.used) (alive : is_dead s.connection.phase ≡ false) where
    abbrev mid : EndpointState
    mid = record s { input = between }

    came : between.filled ≡ s.input.filled ++ fed xs
    came = taken.filled ∙ ap (λ (l : List ℕ). s.input.filled ++ l) (sym took)

    -- a part of a unit
    when_part : IsRest between.limit between.stage between.filled → IsKept mid next → told ≡ told_outcome s.connection None → Ends_none
    when_part part kept is =
        let more : told ≡ outcome.More = is ∙ ap (λ (b : Bool). if b then outcome.Dead else outcome.More) alive in
        let tops = only_tops (sym kept.connection) (sym kept.unsent) (ap (λ (o : Outcome). stand_told next.connection.config o) more) in
        let here : IsRest next.input.limit next.input.stage next.input.filled = subst (λ (l : List ℕ). IsRest next.input.limit next.input.stage l) (sym kept.input.filled)
        (subst (λ (stage : Stage). IsRest next.input.limit stage between.filled) (sym kept.input.stage) (subst (λ (n : ℕ). IsRest n between.stage between.filled) (sym kept.input.limit) part)) in
        let lives : is_dead then_made.connection.phase ≡ false = ap (λ (m : Made). is_dead m.connection.phase) tops
        ∙ ap is_dead (phase_all p (all_supplies s.connection.config) (made_at s w k)) ∙ alive in
        let r = rested here (inr lives) in
        record {
          limit = r.input.limit ∙ kept.input.limit ∙ taken.limit;
          stage = r.input.stage ∙ kept.input.stage ∙ taken.stage;
          filled = r.input.filled ∙ kept.input.filled ∙ came;
          rest = subst (λ (l : List ℕ). IsRest t.input.limit t.input.stage l) (sym r.input.filled)
              (subst (λ (stage : Stage). IsRest t.input.limit stage next.input.filled) (sym r.input.stage) (subst (λ (n : ℕ). IsRest n next.input.stage next.input.filled) (sym r.input.limit) here));
          left = r.left;
          made = r.made ∙ tops;
        }

    -- the end of a unit
    when_unit : (u : StreamUnit) → Waits between u → IsActed mid next u told → Ends_unit
    when_unit u waits d =
        let reply = reply_on s.connection (line_of s.connection u) in
        let same : made_at next w k ≡ answered (made_at s w k) u =
        made_same next.connection (acted_after s.connection u) (w ++ next.unsent) ((w ++ s.unsent) ++ reply) k k d.connection
        (ap (λ (l : List ℕ). w ++ l) d.unsent ∙ sym (append_assoc w s.unsent reply)) refl in
        let serves : then_made ≡ served_one p (made_at s w k) u = ap (λ (y : Made). done_from p (stand_told y.connection.config told) y) same
        ∙ ap (λ (o : Outcome). done_from p (stand_told (acted_after s.connection u).config o) (answered (made_at s w k) u)) d.told in
        let r = rested (nothing_rests next.input.limit next.input.stage next.input.filled d.input.filled) (inl d.input.filled) in
        record {
          unit = u;
          is = subst (λ (n : ℕ). IsUnit n s.input.stage u) taken.limit (subst (λ (stage : Stage). IsUnit between.limit stage u) taken.stage waits.is);
          whole = sym came ∙ waits.whole;
          alive = alive;
          limit = r.input.limit ∙ d.input.limit ∙ taken.limit;
          stage = r.input.stage ∙ d.input.stage;
          filled = r.input.filled ∙ d.input.filled;
          made = r.made ∙ serves;
        }

    -- the unit was acted upon, since memory was not refused
    of_unit : (u : StreamUnit) → Waits between u → Comes mid next told → Ends_unit
    of_unit u waits comes =
        let room : room_for s.unsent u ≡ true = ap (λ (l : List ℕ). room_for l u) silent ∙ room_for_all u in
        let acts : Acts mid next u true told = subst (λ (b : Bool). Acts mid next u b told) room (comes.unit u waits) in
        elim acts [
          | inl acted ↦ when_unit u waits acted
          | inr kept ↦ absurd (fine kept.1)
        ]

    when_alive : Comes mid next told → Begins s → Ends_unit ⊎ Ends_none
    when_alive comes (inl rest) =
        elim (front between.limit between.stage between.filled) [
          | inl part ↦
              let n = comes.none (λ u waits. part.none u [] waits.is (waits.whole ∙ sym (append-nil (bytes_of u)))) in inr (when_part part n.0 n.1)
          | inr h ↦
              let may : IsUnit s.input.limit s.input.stage h.unit =
              subst (λ (n : ℕ). IsUnit n s.input.stage h.unit) taken.limit (subst (λ (stage : Stage). IsUnit between.limit stage h.unit) taken.stage h.is) in
              let no_more = ends_last s.input.limit s.input.stage s.input.filled f.piece f.used h.unit h.more taken.bound rest taken.early may (sym taken.filled ∙ h.joined) in
              inl (of_unit h.unit (record { is = h.is; whole = h.joined ∙ ap (λ (l : List ℕ). bytes_of h.unit ++ l) no_more ∙ append-nil (bytes_of h.unit) }) comes)
        ]
    when_alive comes (inr one) =
        let u = one.0 in
        let none : f.used ≡ 0 = taken.full (inl (record { unit = u; stands = one.1 })) in
        let whole : between.filled ≡ s.input.filled = taken.filled ∙ ap (λ (n : ℕ). s.input.filled ++ take n f.piece) none ∙ append-nil s.input.filled in
        inl (of_unit u (record {
          is = subst (λ (n : ℕ). IsUnit n between.stage u) (sym taken.limit) (subst (λ (stage : Stage). IsUnit s.input.limit stage u) (sym taken.stage) one.1.is);
          whole = whole ∙ one.1.whole;
        }) comes)

  whichever : (over : Bool) → is_dead s.connection.phase ≡ over → steps.FeedDone over s next f.piece f.used told → Begins s → (s.input.filled ≡ []) ⊎ (is_dead s.connection.phase ≡ false) → Ends_unit ⊎ Ends_none
  whichever true is d (inl rest) (inl empty) = inr (when_dead rest empty d.0 d.1 d.2)
  whichever true is d (inl rest) (inr alive) = absurd (true≢false (sym is ∙ alive))
  whichever true is d (inr one) left = absurd (true≢false (sym is ∙ one.2))
  whichever false is d begins left = when_alive d.between d.taken is d.comes begins

-- A step serves the unit that it ended, or it ended none and tops up.
pub one_step : (p : Rule) (told : Outcome) (d : Done) (bytes : List ℕ) (s t : EndpointState) (e f : Ends) → s.unsent ≡ [] → Begins s → (s.input.filled ≡ []) ⊎ (is_dead s.connection.phase ≡ false) →
    (x : HasStepped p told d bytes s t e f) → (w k : List ℕ) →
    EndsUnit p s t bytes (moved x.served.steps) (recorded x.served.steps) w k ⊎ EndsNone p s t bytes (moved x.served.steps) (recorded x.served.steps) w k
one_step p told d bytes s t e f silent begins left x w k =
    let feed = first_feed x.served.serves refl (λ h. h) told x.deeds.told silent in
    let y = whichever p s t x.served.steps told feed silent w k (is_dead s.connection.phase) refl feed.feed begins left in
    subst (λ (l : List ℕ). EndsUnit p s t l (moved x.served.steps) (recorded x.served.steps) w k ⊎ EndsNone p s t l (moved x.served.steps) (recorded x.served.steps) w k) x.served.fed y
