-- Serving that goes on once memory was refused, as if it had not been.
use Rattle.std.proofs.Common.{arith, ◌≡◌, ℕ, ◌≤◌, ◌⊎◌, inl, inr, Bool, true, false, List, [], ◌∷◌, ◌++◌, take, drop, refl, sym, ap, subst, ◌∙◌, append_assoc, append-nil, None}
use Rattle.std.proofs.Math.Seq.{take-nil, drop-nil}
use Rattle.std.specs.Prelude.{if◌then◌else◌}
use Rattle.amqp_frame.specs.Splits.{SplitterState, Waits, IsTaken, IsUnchanged}
use Rattle.amqp_frame.specs.Units.{StreamUnit}
use Rattle.amqp_frame.proofs.Fronts.{waits_or_not}
use Rattle.amqp_session.specs.Calls as session
use Rattle.amqp_endpoint.specs.declared.event.Event.{Event}
use Rattle.amqp_endpoint.specs.declared.event.Event.TheVariants as event
use Rattle.amqp_endpoint.specs.declared.event.Outcome.{Outcome}
use Rattle.amqp_endpoint.specs.declared.event.Outcome.TheVariants as outcome
use Rattle.amqp_endpoint.specs.Configs.{Configured}
use Rattle.amqp_endpoint.specs.Connections.{ConnectionState, is_dead}
use Rattle.amqp_endpoint.specs.Lines.{line_of, told_on, may_grow_on}
use Rattle.amqp_endpoint.specs.Replies.{reply_on}
use Rattle.amqp_endpoint.specs.Runs.{Call, Feed, InSession, Output, Answer, Fed, HandedUp, MovedOut, IsMoved, Does}
use Rattle.amqp_endpoint.specs.Steps as steps
use Rattle.amqp_endpoint.specs.Steps.{EndpointState, IsKept, IsActed, IsFed, Acts, Comes, acted_after, acted_outcome, room_for, told_outcome}
use Rattle.amqp_endpoint.specs.Traces.{IsInRange, moved_by, taken_by}
use Rattle.amqp_serve.specs.declared.rules.Rule.{Rule}
use Rattle.amqp_serve.specs.Cuts.{supply_channel, call_for}
use Rattle.amqp_serve.specs.Serving.{Stand, ToppingUp, Settling, Starved, Over, reading, all_supplies, stand_told, stand_taken, lack, top_up_by}
use Rattle.amqp_serve.specs.declared.supplies.Supply.{Supply}
use Rattle.amqp_serve.specs.Serving.{Step, Serves, Rests, MovesOut, Feeds, Takes, Settles, TopsUp, Passes, Finishes, recorded_by, fed, moved, recorded}
use Rattle.amqp_serve.proofs.CutRuns.{IsEnded, ended}
use Rattle.amqp_serve.proofs.CutSteps.{top_call}
use Rattle.amqp_serve.proofs.ServingFeeds.{alive_feeds, never_starved, room_for_all, waits_before, fed_limit}
use Rattle.amqp_serve.proofs.Servings.{kept_same, unchanged_on}
use Rattle.amqp_serve.proofs.ServingTops.{call_keeps}

-- What is kept twice is kept.
pub kept_on : (s t u : EndpointState) → IsKept s t → IsKept t u → IsKept s u
kept_on s t u x y = record { input = unchanged_on x.input y.input; unsent = y.unsent ∙ x.unsent; connection = y.connection ∙ x.connection }

unchanged_back : (a b : SplitterState) → IsUnchanged a b → IsUnchanged b a
unchanged_back a b x = record { limit = sym x.limit; stage = sym x.stage; filled = sym x.filled }

-- A feed that tries again. --------------------------------------------------------------------------------------------

-- what comes of a unit does so of it in an endpoint that was kept
module _ (s t u : EndpointState) (told : Outcome) (k : IsKept s t) where
  acted_on : (v : StreamUnit) → IsActed t u v told → IsActed s u v told
  acted_on v x = record {
    input = record { limit = x.input.limit ∙ k.input.limit; stage = x.input.stage; filled = x.input.filled };
    unsent = x.unsent ∙ ap (λ (l : List ℕ). l ++ reply_on t.connection (line_of t.connection v)) k.unsent
        ∙ ap (λ (c : ConnectionState). s.unsent ++ reply_on c (line_of c v)) k.connection;
    connection = x.connection ∙ ap (λ (c : ConnectionState). acted_after c v) k.connection;
    told = x.told ∙ ap (λ (c : ConnectionState). acted_outcome c v) k.connection;
  }

  acts_on : (v : StreamUnit) (may : Bool) → Acts t u v may told → Acts s u v may told
  acts_on v false x = (kept_on s t u k x.0, x.1)
  acts_on v true (inl acted) = inl (acted_on v acted)
  acts_on v true (inr waits) = inr (kept_on s t u k waits.0, waits.1, ap (λ (c : ConnectionState). may_grow_on (line_of c v)) (sym k.connection) ∙ waits.2)

  comes_on : Comes t u told → Comes s u told
  comes_on x = record {
    unit = λ v w.
        subst (λ (b : Bool). Acts s u v b told) (ap (λ (l : List ℕ). room_for l v) k.unsent)
        (acts_on v (room_for t.unsent v) (x.unit v (waits_before t.input s.input v (unchanged_back s.input t.input k.input) w)));
    none = λ idle.
        let rest = x.none (λ v w. idle v (waits_before s.input t.input v k.input w)) in
        (kept_on s t u k rest.0, rest.1 ∙ ap (λ (c : ConnectionState). told_outcome c None) k.connection);
  }

-- The unit of a piece waits for memory.
pub record IsWanting (s m : EndpointState) (piece : List ℕ) (used : ℕ) : Type 0 where
  pub least : 8 ≤ s.input.limit
  pub silent : s.unsent ≡ []
  pub fed : IsFed s m piece used outcome.NoMemory

-- a connection that is over wants none
wanting_alive : (s m : EndpointState) (piece : List ℕ) (used : ℕ) → IsWanting s m piece used → is_dead s.connection.phase ≡ false
wanting_alive s m piece used x = by (is_dead s.connection.phase) refl
  where
    by : (over : Bool) → is_dead s.connection.phase ≡ over → over ≡ false
    by true is = let y = subst (λ (b : Bool). steps.FeedDone b s m piece used outcome.NoMemory) is x.fed in absurd (grind (arith, y.2))
    by false is = refl

-- The piece brought a unit, and nothing else has changed.
pub record IsWaiting (s m : EndpointState) (piece : List ℕ) (used : ℕ) : Type 0 where
  pub between : SplitterState
  pub taken : IsTaken s.input between piece used
  pub unit : StreamUnit
  pub waits : Waits between unit
  pub kept : IsKept (record s { input = between }) m

pub wanting_waits : (s m : EndpointState) (piece : List ℕ) (used : ℕ) → IsWanting s m piece used → IsWaiting s m piece used
wanting_waits s m piece used x =
    let y = alive_feeds s m piece used outcome.NoMemory (wanting_alive s m piece used x) x.fed in
    let between : EndpointState = record s { input = y.between } in
    elim (waits_or_not y.between (subst (λ (n : ℕ). 8 ≤ n) (sym y.taken.limit) x.least)) [
      | inl w ↦
          let u = w.0 in
          let room : room_for s.unsent u ≡ true = ap (λ (l : List ℕ). room_for l u) x.silent ∙ room_for_all u in
          let acts : Acts between m u true outcome.NoMemory = subst (λ (b : Bool). Acts between m u b outcome.NoMemory) room (y.comes.unit u w.1) in
          elim acts [
            | inl acted ↦ absurd (never_starved (acted_after s.connection u) (told_on s.connection (line_of s.connection u)) (sym acted.told))
            | inr kept ↦ record { between = y.between; taken = y.taken; unit = u; waits = w.1; kept = kept.0 }
          ]
      | inr idle ↦ absurd (never_starved s.connection None (sym (y.comes.none idle).1))
    ]

-- The next feed takes no byte, and what comes of it would have come of the piece.
fed_again : (s m t next : EndpointState) (piece more : List ℕ) (used n : ℕ) (told : Outcome) → IsWanting s m piece used → IsKept m t → IsFed t next more n told →
    (n ≡ 0) × IsFed s next piece used told
fed_again s m t next piece more used n told x k y =
    let w = wanting_waits s m piece used x in
    let alive = wanting_alive s m piece used x in
    let between : EndpointState = record s { input = w.between } in
    let same : IsKept between t = kept_on between m t w.kept k in
    let z = alive_feeds t next more n told (ap (λ (c : ConnectionState). is_dead c.phase) same.connection ∙ alive) y in
    let here : Waits t.input w.unit = waits_before t.input w.between w.unit (unchanged_back w.between t.input same.input) w.waits in
    let none : n ≡ 0 = z.taken.full (inl (record { unit = w.unit; stands = here })) in
    let whole : IsUnchanged t.input z.between = record {
      limit = z.taken.limit;
      stage = z.taken.stage;
      filled = z.taken.filled ∙ ap (λ (i : ℕ). t.input.filled ++ take i more) none ∙ append-nil t.input.filled;
    } in
    let mid : EndpointState = record t { input = z.between } in
    let all : IsKept between mid = record { input = unchanged_on same.input whole; unsent = same.unsent; connection = same.connection } in
    (none, subst (λ (b : Bool). steps.FeedDone b s next piece used told) (sym alive) (record { between = w.between; taken = w.taken; comes = comes_on between mid next told all z.comes }))

-- Steps that do nothing. ----------------------------------------------------------------------------------------------

pub record DoNothing (s t : EndpointState) (xs : List Step) : Type 0 where
  pub kept : IsKept s t
  pub fed : fed xs ≡ []
  pub moved : moved xs ≡ []
  pub recorded : recorded xs ≡ []

pub moved_none : (s next : EndpointState) (room : ℕ) (bytes : List ℕ) → IsMoved s next room bytes → s.unsent ≡ [] → (bytes ≡ []) × IsKept s next
moved_none s next room bytes d none = (
  d.moved ∙ ap (λ (l : List ℕ). take room l) none ∙ take-nil room,
  record { input = d.input; unsent = d.unsent ∙ ap (λ (l : List ℕ). drop room l) none ∙ drop-nil room ∙ sym none; connection = d.connection },
)

nothing_on : (s next t : EndpointState) (room : ℕ) (bytes : List ℕ) (xs : List Step) → (bytes ≡ []) × IsKept s next → DoNothing next t xs →
    DoNothing s t (record { call = Output room; answer = MovedOut bytes } ∷ xs)
nothing_on s next t room bytes xs none x = record {
  kept = kept_on s next t none.1 x.kept;
  fed = x.fed;
  moved = ap (λ (l : List ℕ). l ++ moved xs) none.0 ∙ x.moved;
  recorded = x.recorded;
}

-- once memory was refused nothing is done
starved_stays : {p : Rule} {a b : Stand} {s t : EndpointState} {xs : List Step} → Serves p a s xs b t → a ≡ Starved → s.unsent ≡ [] → DoNothing s t xs
starved_stays (Rests {p} {a} {s}) e none = record { kept = kept_same s; fed = refl; moved = refl; recorded = refl }
starved_stays (MovesOut {p} {a} {b} {s} {last} {steps} next room bytes does x) e none =
    let n = moved_none s next room bytes does none in nothing_on s next last room bytes steps n (starved_stays x e (n.1.unsent ∙ none))
starved_stays (Feeds next piece used told silent range does x) e none = absurd (grind (arith, e))
starved_stays (Takes next channel handle answer does x) e none = absurd (grind (arith, e))
starved_stays (Settles next channel id answer silent small does x) e none = absurd (grind (arith, e))
starved_stays (TopsUp next supply supplies answer silent lacks does x) e none = absurd (grind (arith, e))
starved_stays (Passes supply supplies lacks x) e none = absurd (grind (arith, e))
starved_stays (Finishes next end silent does x) e none = absurd (grind (arith, e))

-- Serving with memory at first. -----------------------------------------------------------------------------------------

-- It is served so that these bytes are fed, moved out and recorded.
pub record IsAmple (p : Rule) (a : Stand) (s : EndpointState) (b : Stand) (t : EndpointState) (bytes wrote noted : List ℕ) : Type 0 where
  pub steps : List Step
  pub serves : Serves p a s steps b t
  pub fed : fed steps ≡ bytes
  pub moved : moved steps ≡ wrote
  pub recorded : recorded steps ≡ noted

-- Serving that goes on tries the unit again, unless it does nothing.
resumes : {p : Rule} {a b : Stand} {s t : EndpointState} {ys : List Step} → Serves p a s ys b t → a ≡ reading → (IsEnded b → ⊥) → (first m : EndpointState) (piece : List ℕ) (used : ℕ) →
    IsInRange (Feed piece) → IsWanting first m piece used → IsKept m s → ((b ≡ reading) × DoNothing s t ys) ⊎ IsAmple p reading first b t (take used piece ++ fed ys) (moved ys) (recorded ys)
resumes (Rests {p} {a} {s}) e over first m piece used range w k = inl (e, record { kept = kept_same s; fed = refl; moved = refl; recorded = refl })
resumes (MovesOut {p} {a} {b} {s} {last} {steps} next room bytes does x) e over first m piece used range w k =
    let silent = k.unsent ∙ (wanting_waits first m piece used w).kept.unsent ∙ w.silent in
    let none = moved_none s next room bytes does silent in
    elim (resumes x e over first m piece used range w (kept_on m s next k none.1)) [
      | inl r ↦ inl (r.0, nothing_on s next last room bytes steps none r.1)
      | inr z ↦ inr (record { steps = z.steps; serves = z.serves; fed = z.fed; moved = z.moved ∙ sym (ap (λ (l : List ℕ). l ++ moved steps) none.0); recorded = z.recorded })
    ]
resumes (Feeds {p} {b} {s} {last} {steps} next more count told silent more_range does x) e over first m piece used range w k =
    let again = fed_again first m s next piece more used count told w k does in
    inr (record {
      steps = record { call = Feed piece; answer = Fed used told } ∷ steps;
      serves = Feeds next piece used told w.silent range again.1 x;
      fed = ap (λ (l : List ℕ). take used piece ++ l) (sym (ap (λ (i : ℕ). take i more ++ fed steps) again.0));
      moved = refl;
      recorded = refl;
    })
resumes (Takes next channel handle answer does x) e over first m piece used range w k = absurd (grind (arith, e))
resumes (Settles next channel id answer silent small does x) e over first m piece used range w k = absurd (grind (arith, e))
resumes (TopsUp next supply supplies answer silent lacks does x) e over first m piece used range w k = absurd (grind (arith, e))
resumes (Passes supply supplies lacks x) e over first m piece used range w k = absurd (grind (arith, e))
resumes (Finishes next end silent does x) e over first m piece used range w k = absurd (over (ended x tt))

-- Nothing was done since memory was refused, and the unit waits.
pub record StandsStill (b : Stand) (m n t : EndpointState) (ys : List Step) : Type 0 where
  pub stand : b ≡ reading
  pub nothing : DoNothing n t ys
  pub unit : StreamUnit
  pub waits : Waits m.input unit

-- Two runs are one with memory at first, unless the second does nothing.
pub record IsJoined (p : Rule) (a : Stand) (s m : EndpointState) (xs : List Step) (n : EndpointState) (b : Stand) (t : EndpointState) (ys : List Step) : Type 0 where
  pub alive : is_dead m.connection.phase ≡ false
  pub goes : StandsStill b m n t ys ⊎ IsAmple p a s b t (fed xs ++ fed ys) (moved xs ++ moved ys) (recorded xs ++ recorded ys)

abbrev OneMore : Rule → Stand → EndpointState → Stand → EndpointState → Step → Stand → EndpointState → Type 0
OneMore p a s c next x b t = (zs : List Step) → Serves p c next zs b t → Serves p a s (x ∷ zs) b t

joined_more : {p : Rule} {a c b : Stand} {s next m n t : EndpointState} {xs ys : List Step} (x : Step) → OneMore p a s c next x b t → IsJoined p c next m xs n b t ys →
    IsJoined p a s m (x ∷ xs) n b t ys
joined_more {xs} {ys} x on j = record {
  alive = j.alive;
  goes = elim j.goes [
    | inl still ↦ inl still
    | inr z ↦ inr (record {
      steps = x ∷ z.steps;
      serves = on z.steps z.serves;
      fed = ap (λ (l : List ℕ). taken_by x.call x.answer ++ l) z.fed ∙ sym (append_assoc (taken_by x.call x.answer) (fed xs) (fed ys));
      moved = ap (λ (l : List ℕ). moved_by x.answer ++ l) z.moved ∙ sym (append_assoc (moved_by x.answer) (moved xs) (moved ys));
      recorded = ap (λ (l : List ℕ). recorded_by x.call x.answer ++ l) z.recorded ∙ sym (append_assoc (recorded_by x.call x.answer) (recorded xs) (recorded ys));
    })
  ];
}

told_or : (told : Outcome) → (told ≡ outcome.NoMemory) ⊎ (told ≡ outcome.NoMemory → ⊥)
told_or outcome.NoMemory = inl refl
told_or told = inr (λ e. absurd (grind (arith, e)))

event_starves : (config : Configured) (e : Event) → stand_told config (outcome.Event e) ≡ Starved → ⊥
event_starves config (event.Ready channel handle) is = absurd (grind (arith, is))
event_starves config e is = absurd (grind (arith, is))

told_starves : (config : Configured) (told : Outcome) → stand_told config told ≡ Starved → told ≡ outcome.NoMemory
told_starves config outcome.NoMemory is = refl
told_starves config (outcome.Event e) is = absurd (event_starves config e is)
told_starves config told is = absurd (grind (arith, is))

handed_starves : (config : Configured) (channel id : ℕ) (settled : Bool) → (if settled then ToppingUp (all_supplies config) else Settling channel id) ≡ Starved → ⊥
handed_starves config channel id true is = absurd (grind (arith, is))
handed_starves config channel id false is = absurd (grind (arith, is))

taken_starves : (config : Configured) (channel : ℕ) (answer : Answer) → stand_taken config channel answer ≡ Starved → ⊥
taken_starves config channel (HandedUp d) is = handed_starves config channel d.delivery_id d.settled is
taken_starves config channel answer is = absurd (grind (arith, is))

never_topping : (supplies : List Supply) → ToppingUp supplies ≡ Starved → ⊥
never_topping supplies is = absurd (grind (arith, is))

never_over : {p : Rule} {s t : EndpointState} {b : Stand} {xs : List Step} → Serves p Over s xs b t → b ≡ Starved → ⊥
never_over x is = subst (λ (a : Stand). IsEnded a) is (ended x tt)

module _ {b : Stand} {n t : EndpointState} {ys : List Step} (over : IsEnded b → ⊥) where
  -- the piece whose unit waits, and what goes on from there
  wanting_joined : {p : Rule} {c : Stand} {s next m : EndpointState} {xs : List Step} (piece : List ℕ) (used : ℕ) (told : Outcome) → IsInRange (Feed piece) → IsWanting s next piece used →
      told ≡ outcome.NoMemory → Serves p (stand_told next.connection.config told) next xs c m → IsKept m n → Serves p reading n ys b t →
      IsJoined p reading s m (record { call = Feed piece; answer = Fed used told } ∷ xs) n b t ys
  wanting_joined {p} {c} {s} {next} {m} {xs} piece used told range w is x k y =
      let wait = wanting_waits s next piece used w in
      let still = starved_stays x (ap (λ (o : Outcome). stand_told next.connection.config o) is) (wait.kept.unsent ∙ w.silent) in
      let same = kept_on (record s { input = wait.between }) next m wait.kept still.kept in
      record {
        alive = ap (λ (c : ConnectionState). is_dead c.phase) same.connection ∙ wanting_alive s next piece used w;
        goes = elim (resumes y refl over s next piece used range w (kept_on next m n still.kept k)) [
          | inl r ↦ inl (record {
            stand = r.0;
            nothing = r.1;
            unit = wait.unit;
            waits = waits_before m.input wait.between wait.unit (unchanged_back wait.between m.input same.input) wait.waits;
          })
          | inr z ↦ inr (record {
            steps = z.steps;
            serves = z.serves;
            fed = z.fed ∙ sym (ap (λ (l : List ℕ). l ++ fed ys) (ap (λ (l : List ℕ). take used piece ++ l) still.fed ∙ append-nil (take used piece)));
            moved = z.moved ∙ sym (ap (λ (l : List ℕ). l ++ moved ys) still.moved);
            recorded = z.recorded ∙ sym (ap (λ (l : List ℕ). l ++ recorded ys) still.recorded);
          })
        ];
      }

  -- Two runs are joined where the first ends at a want of memory.
  pub joined : {p : Rule} {a c : Stand} {s m : EndpointState} {xs : List Step} → Serves p a s xs c m → (a ≡ Starved → ⊥) → c ≡ Starved → 8 ≤ s.input.limit → IsKept m n → Serves p reading n ys b t →
      IsJoined p a s m xs n b t ys
  joined Rests fine is least k y = absurd (fine is)
  joined (MovesOut {p} {s} next room bytes does x) fine is least k y =
      joined_more (record { call = Output room; answer = MovedOut bytes }) (λ zs z. MovesOut next room bytes does z) (joined x fine is (omega (arith, least, does.input.limit)) k y)
  joined (Feeds {p} {s} next piece used told none range does x) fine is least k y =
      elim (told_or told) [
        | inl wants ↦
            wanting_joined piece used told range (record { least = least; silent = none; fed = subst (λ (o : Outcome). IsFed s next piece used o) wants does }) wants x k y
        | inr goes ↦
            joined_more (record { call = Feed piece; answer = Fed used told }) (λ zs z. Feeds next piece used told none range does z)
            (joined x (λ starved. goes (told_starves next.connection.config told starved)) is (omega (arith, least, fed_limit s next piece used told least does)) k y)
      ]
  joined (Takes {p} {s} next channel handle answer does x) fine is least k y =
      let limit = (call_keeps s next channel (session.Take handle) answer does).limit in
      joined_more (record { call = InSession channel (session.Take handle); answer = answer }) (λ zs z. Takes next channel handle answer does z)
      (joined x (taken_starves next.connection.config channel answer) is (omega (arith, least, limit)) k y)
  joined (Settles {p} {s} next channel id answer none small does x) fine is least k y =
      let limit = (call_keeps s next channel (session.Settle id p.outcome) answer does).limit in
      joined_more (record { call = InSession channel (session.Settle id p.outcome); answer = answer }) (λ zs z. Settles next channel id answer none small does z)
      (joined x (never_topping (all_supplies next.connection.config)) is (omega (arith, least, limit)) k y)
  joined (TopsUp {p} {s} next supply supplies answer none lacks does x) fine is least k y =
      let call = top_up_by supply (lack p s.connection supply) in
      let limit = (call_keeps s next (supply_channel supply) (call_for supply (lack p s.connection supply)) answer
      (subst (λ (c : Call). Does s next c answer) (top_call supply (lack p s.connection supply)) does)).limit in
      joined_more (record { call = call; answer = answer }) (λ zs z. TopsUp next supply supplies answer none lacks does z)
      (joined x (never_topping supplies) is (omega (arith, least, limit)) k y)
  joined (Passes {p} {s} supply supplies lacks x) fine is least k y =
      let j = joined x (never_topping supplies) is least k y in record {
        alive = j.alive;
        goes = elim j.goes [
          | inl still ↦ inl still
          | inr z ↦ inr (record { steps = z.steps; serves = Passes supply supplies lacks z.serves; fed = z.fed; moved = z.moved; recorded = z.recorded })
        ];
      }
  joined (Finishes next end none does x) fine is least k y = absurd (never_over x is)
