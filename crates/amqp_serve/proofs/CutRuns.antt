-- Serving is what the units of the bytes that were fed make, one by one.
use Rattle.std.proofs.Common.{arith, ◌≡◌, ℕ, suc, ◌+◌, ◌-◌, ◌<◌, ◌≤◌, ◌⊎◌, inl, inr, Bool, true, false, List, [], ◌∷◌, ◌++◌, length, take, drop, refl, sym, ap, subst, ◌∙◌, append_assoc, append-nil}
use Rattle.std.proofs.Common.{None}
use Rattle.std.specs.Prelude.{if◌then◌else◌}
use Rattle.std.proofs.Math.Seq.{take-append_seam, take-add}
use Rattle.std.proofs.lemmas.Bool.{cases_lt}
use Rattle.std.proofs.lemmas.List.{length-append, length-take-le, take-append-drop}
use Rattle.std.specs.List.{flat_map}
use Rattle.amqp_frame.specs.Splits.{SplitterState, Waits, IsUnchanged, IsTaken}
use Rattle.amqp_frame.specs.Units.{StreamUnit, bytes_of, IsUnit, IsRest, AreUnits, due_after, due_behind}
use Rattle.amqp_frame.specs.declared.units.Stage.{Stage}
use Rattle.amqp_frame.proofs.Fronts.{front}
use Rattle.amqp_frame.proofs.Readings.{unit_length}
use Rattle.amqp_session.specs.Calls.{Take, Settle}
use Rattle.amqp_endpoint.specs.declared.event.Outcome.{Outcome}
use Rattle.amqp_endpoint.specs.declared.event.Outcome.TheVariants as outcome
use Rattle.amqp_serve.specs.declared.rules.Rule.{Rule}
use Rattle.amqp_endpoint.specs.Connections.{is_dead}
use Rattle.amqp_serve.specs.Cuts.{Made, done_from, topped_by, all_topped, answered, served_one, served_all, AreTimely}
use Rattle.amqp_endpoint.specs.Lines.{line_of, told_on}
use Rattle.amqp_endpoint.specs.Replies.{reply_on}
use Rattle.amqp_endpoint.specs.Runs.{Call, Feed, InSession, Output, Fed, MovedOut}
use Rattle.amqp_endpoint.specs.Traces.{moved_by, taken_by}
use Rattle.amqp_serve.specs.Serving.{Stand, ToppingUp, Receiving, Settling, Starved, Over, all_supplies, stand_told, lack, top_up_by}
use Rattle.amqp_serve.specs.Serving.{Step, Serves, Rests, MovesOut, Feeds, Takes, Settles, TopsUp, Passes, Finishes, recorded_by, fed, moved, recorded}
use Rattle.amqp_endpoint.specs.Steps as steps
use Rattle.amqp_endpoint.specs.Steps.{EndpointState, IsActed, IsKept, Acts, acted_after, room_for, told_outcome}
use Rattle.amqp_serve.proofs.CutTops.{AreStill, all_unchanged}
use Rattle.amqp_serve.proofs.CutSteps.{made_at, made_same, moved_made, kept_made, take_made, settle_made, top_call, top_made, told_still}
use Rattle.amqp_serve.proofs.Servings.{unchanged_on}
use Rattle.amqp_serve.proofs.ServingFeeds.{never_starved, room_for_all}
use Rattle.amqp_serve.proofs.ServingTops.{call_keeps}

-- Stands that serving never leaves. -------------------------------------------------------------------------------------

-- memory was refused, or the input has ended
abbrev pub IsStuck : Stand → Type 0
IsStuck (ToppingUp supplies) = ⊥
IsStuck (Receiving channel handle) = ⊥
IsStuck (Settling channel id) = ⊥
IsStuck Starved = Unit {0}
IsStuck Over = Unit {0}

-- the input has ended
abbrev pub IsEnded : Stand → Type 0
IsEnded (ToppingUp supplies) = ⊥
IsEnded (Receiving channel handle) = ⊥
IsEnded (Settling channel id) = ⊥
IsEnded Starved = ⊥
IsEnded Over = Unit {0}

pub ended : {p : Rule} {a b : Stand} {s t : EndpointState} {xs : List Step} → Serves p a s xs b t → IsEnded a → IsEnded b
ended Rests h = h
ended (MovesOut next room bytes does x) h = ended x h
ended (Feeds next piece used told none range does x) h = absurd h
ended (Takes next channel handle answer does x) h = absurd h
ended (Settles next channel id answer none small does x) h = absurd h
ended (TopsUp next supply supplies answer none lacks does x) h = absurd h
ended (Passes supply supplies lacks x) h = absurd h
ended (Finishes next end none does x) h = absurd h

-- once memory was refused bytes are moved out, and nothing else is done
pub record IsHalted (s t : EndpointState) (xs : List Step) (b : Stand) (w r : List ℕ) : Type 0 where
  made : made_at s w r ≡ made_at t (w ++ moved xs) (r ++ recorded xs)
  input : IsUnchanged s.input t.input
  none : fed xs ≡ []
  pub stand : b ≡ Starved

-- What is kept true. --------------------------------------------------------------------------------------------------

-- where all that follows is done nothing is lacking, and no unit is in the buffer
pub record IsGood (p : Rule) (m : Made) (input : SplitterState) : Type 0 where
  pub still : AreStill p m.connection (all_supplies m.connection.config)
  pub rest : IsRest input.limit input.stage input.filled
  pub left : (input.filled ≡ []) ⊎ (is_dead m.connection.phase ≡ false)

-- the same of a splitter that differs in nothing but its reserved bytes
rest_on : (i j : SplitterState) → IsUnchanged i j → IsRest i.limit i.stage i.filled → IsRest j.limit j.stage j.filled
rest_on i j u rest =
    subst (λ (f : List ℕ). IsRest j.limit j.stage f) (sym u.filled)
    (subst (λ (stage : Stage). IsRest j.limit stage i.filled) (sym u.stage) (subst (λ (n : ℕ). IsRest n i.stage i.filled) (sym u.limit) rest))

units_on : (i j : SplitterState) (us : List StreamUnit) → IsUnchanged i j → AreUnits j.limit j.stage us → AreUnits i.limit i.stage us
units_on i j us u each = subst (λ (n : ℕ). AreUnits n i.stage us) u.limit (subst (λ (stage : Stage). AreUnits j.limit stage us) u.stage each)

good_made : {p : Rule} {m n : Made} {i : SplitterState} → m ≡ n → IsGood p m i → IsGood p n i
good_made {p} {m} {n} {i} e good = subst (λ (x : Made). IsGood p x i) e good

good_input : {p : Rule} {m : Made} {i j : SplitterState} → IsUnchanged i j → IsGood p m i → IsGood p m j
good_input {p} {m} {i} {j} u good = record {
  still = good.still;
  rest = rest_on i j u good.rest;
  left = elim good.left [
    | inl none ↦ inl (u.filled ∙ none)
    | inr alive ↦ inr alive
  ];
}

-- These bytes behind what is in the buffer are units and what is in it then, and the units make the last of the first.
pub record IsCourse (p : Rule) (b : Stand) (m : Made) (old new : SplitterState) (bytes : List ℕ) (last : Made) : Type 0 where
  pub units : List StreamUnit
  pub joined : old.filled ++ bytes ≡ flat_map bytes_of units ++ new.filled
  pub each : AreUnits old.limit old.stage units
  pub timely : AreTimely p m units
  pub limit : new.limit ≡ old.limit
  pub stage : new.stage ≡ due_behind old.stage units
  pub made : last ≡ served_all p m units
  pub good : (IsStuck b → ⊥) → IsGood p last new

course_input : {p : Rule} {b : Stand} {m last : Made} {old mid new : SplitterState} {bytes : List ℕ} → IsUnchanged old mid → IsCourse p b m mid new bytes last → IsCourse p b m old new bytes last
course_input {p} {b} {m} {last} {old} {mid} {new} {bytes} u x = record {
  units = x.units;
  joined = ap (λ (f : List ℕ). f ++ bytes) (sym u.filled) ∙ x.joined;
  each = units_on old mid x.units u x.each;
  timely = x.timely;
  limit = x.limit ∙ u.limit;
  stage = x.stage ∙ ap (λ (stage : Stage). due_behind stage x.units) u.stage;
  made = x.made;
  good = x.good;
}

-- what is owed of some steps
abbrev Goes : Rule → Made → EndpointState → Stand → EndpointState → List Step → List ℕ → List ℕ → Type 0
Goes p m s b t xs w r = IsGood p m s.input → IsCourse p b m s.input t.input (fed xs) (done_from p b (made_at t (w ++ moved xs) (r ++ recorded xs)))

-- of no step
goes_none : (p : Rule) (a : Stand) (s : EndpointState) (w r : List ℕ) → Goes p (done_from p a (made_at s w r)) s a s [] w r
goes_none p a s w r good =
    let none = made_same s.connection s.connection ((w ++ []) ++ s.unsent) (w ++ s.unsent) (r ++ []) r refl (ap (λ (l : List ℕ). l ++ s.unsent) (append-nil w)) (append-nil r) in
    let same = ap (λ (m : Made). done_from p a m) none in record {
      units = [];
      joined = append-nil s.input.filled;
      each = tt;
      timely = tt;
      limit = refl;
      stage = refl;
      made = same;
      good = λ fine. good_made (sym same) good;
    }

-- what was moved out and recorded before, with one step more
later_made : (t : EndpointState) (w mv ms r rc rs : List ℕ) → made_at t ((w ++ mv) ++ ms) ((r ++ rc) ++ rs) ≡ made_at t (w ++ (mv ++ ms)) (r ++ (rc ++ rs))
later_made t w mv ms r rc rs =
    made_same t.connection t.connection (((w ++ mv) ++ ms) ++ t.unsent) ((w ++ (mv ++ ms)) ++ t.unsent) ((r ++ rc) ++ rs) (r ++ (rc ++ rs)) refl
    (ap (λ (l : List ℕ). l ++ t.unsent) (append_assoc w mv ms)) (append_assoc r rc rs)

-- of a step that feeds nothing, and leaves what is to be made
goes_on : (p : Rule) {m n : Made} (s next : EndpointState) (b : Stand) (t : EndpointState) (x : Step) (xs : List Step) (w r : List ℕ) → m ≡ n →
    IsUnchanged s.input next.input → taken_by x.call x.answer ≡ [] →
    Goes p n next b t xs (w ++ moved_by x.answer) (r ++ recorded_by x.call x.answer) → Goes p m s b t (x ∷ xs) w r
goes_on p {m} {n} s next b t x xs w r same input none rest good =
    let y = rest (good_input input (good_made same good)) in
    let z = course_input input y in
    let later = subst (λ (l : Made). IsCourse p b n s.input t.input (fed xs) l)
    (ap (λ (l : Made). done_from p b l) (later_made t w (moved_by x.answer) (moved xs) r (recorded_by x.call x.answer) (recorded xs))) z in
    let whole = subst (λ (l : List ℕ). IsCourse p b n s.input t.input l (done_from p b (made_at t (w ++ moved (x ∷ xs)) (r ++ recorded (x ∷ xs)))))
    (sym (ap (λ (l : List ℕ). l ++ fed xs) none)) later in
    subst (λ (y : Made). IsCourse p b y s.input t.input (fed (x ∷ xs)) (done_from p b (made_at t (w ++ moved (x ∷ xs)) (r ++ recorded (x ∷ xs))))) (sym same) whole

goes_same : (p : Rule) {m n : Made} (s : EndpointState) (b : Stand) (t : EndpointState) (xs : List Step) (w r : List ℕ) → m ≡ n → Goes p n s b t xs w r → Goes p m s b t xs w r
goes_same p {m} {n} s b t xs w r same rest = subst (λ (y : Made). Goes p y s b t xs w r) (sym same) rest

-- A piece that is fed. ------------------------------------------------------------------------------------------------

-- of two joined lists that are equal, the fronts of one length
front_same : (xs ys zs ws : List ℕ) → xs ++ ys ≡ zs ++ ws → length xs ≡ length zs → xs ≡ zs
front_same xs ys zs ws e l =
    sym (take-append_seam xs ys) ∙ ap (λ (k : List ℕ). take (length xs) k) e ∙ ap (λ (n : ℕ). take n (zs ++ ws)) l ∙ take-append_seam zs ws

-- no unit ends before the last byte that was taken
pub ends_last : (max : ℕ) (stage : Stage) (held piece : List ℕ) (used : ℕ) (u : StreamUnit) (more : List ℕ) → used ≤ length piece → IsRest max stage held →
    ((k : ℕ) → k + 1 ≤ used → IsRest max stage (held ++ take k piece)) → IsUnit max stage u → held ++ take used piece ≡ bytes_of u ++ more → more ≡ []
ends_last max stage held piece used u [] bound rest early is e = refl
ends_last max stage held piece used u (b ∷ more) bound rest early is e = by (cases_lt (length held) (length (bytes_of u)))
  where
    n : ℕ
    n = length (bytes_of u)

    long : length held + used ≡ n + suc (length more)
    long =
        let l = ap (λ (l : List ℕ). length l) e in
        omega (arith, l, length-append held (take used piece), length-append (bytes_of u) (b ∷ more), length-take-le used piece bound)

    within : length (bytes_of u) ≤ length held → ⊥
    within le =
        let first : take n held ≡ bytes_of u =
        front_same (take n held) (drop n held ++ take used piece) (bytes_of u) (b ∷ more)
        (sym (append_assoc (take n held) (drop n held) (take used piece)) ∙ ap (λ (l : List ℕ). l ++ take used piece) (take-append-drop n held) ∙ e) (length-take-le n held le) in
        rest.none u (drop n held) is (sym (take-append-drop n held) ∙ ap (λ (l : List ℕ). l ++ drop n held) first)

    beyond : length held < length (bytes_of u) → ⊥
    beyond lt =
        let k = n - length held in
        let j = used - k in
        let parts : take used piece ≡ take k piece ++ take j (drop k piece) =
        (let sum : used ≡ k + j = omega (arith, lt, long) in ap (λ (i : ℕ). take i piece) sum ∙ take-add k j piece) in
        let short : k ≤ length piece = omega (arith, lt, long, bound) in
        let first : held ++ take k piece ≡ bytes_of u =
        front_same (held ++ take k piece) (take j (drop k piece)) (bytes_of u) (b ∷ more)
        (append_assoc held (take k piece) (take j (drop k piece)) ∙ ap (λ (l : List ℕ). held ++ l) (sym parts) ∙ e)
        (omega (arith, lt, length-append held (take k piece), length-take-le k piece short)) in
        (early k (omega (arith, lt, long))).none u [] is (first ∙ sym (append-nil (bytes_of u)))

    by : (length held < length (bytes_of u)) ⊎ (length (bytes_of u) ≤ length held) → b ∷ more ≡ []
    by (inl lt) = absurd (beyond lt)
    by (inr le) = absurd (within le)

-- a unit may stand where the same is due
unit_on : (i j : SplitterState) (u : StreamUnit) → i.limit ≡ j.limit → i.stage ≡ j.stage → IsUnit i.limit i.stage u → IsUnit j.limit j.stage u
unit_on i j u l s is = subst (λ (n : ℕ). IsUnit n j.stage u) l (subst (λ (stage : Stage). IsUnit i.limit stage u) s is)

-- bytes more in the buffer
course_fed : (p : Rule) (b : Stand) (m n last : Made) (old mid new : SplitterState) (bytes more : List ℕ) → mid.limit ≡ old.limit → mid.stage ≡ old.stage → mid.filled ≡ old.filled ++ bytes → m ≡ n →
    IsCourse p b n mid new more last → IsCourse p b m old new (bytes ++ more) last
course_fed p b m n last old mid new bytes more l s f e x = record {
  units = x.units;
  joined = sym (append_assoc old.filled bytes more) ∙ ap (λ (k : List ℕ). k ++ more) (sym f) ∙ x.joined;
  each = subst (λ (k : ℕ). AreUnits k old.stage x.units) l (subst (λ (stage : Stage). AreUnits mid.limit stage x.units) s x.each);
  timely = subst (λ (y : Made). AreTimely p y x.units) (sym e) x.timely;
  limit = x.limit ∙ l;
  stage = x.stage ∙ ap (λ (stage : Stage). due_behind stage x.units) s;
  made = x.made ∙ ap (λ (y : Made). served_all p y x.units) (sym e);
  good = x.good;
}

-- No unit begins no byte.
pub nothing_rests : (max : ℕ) (stage : Stage) (bytes : List ℕ) → bytes ≡ [] → IsRest max stage bytes
nothing_rests max stage bytes none = record {
  none = λ u more is e. let l = ap (λ (k : List ℕ). length k) (sym none ∙ e) in omega (arith, unit_length max stage u is, l, length-append (bytes_of u) more);
}

module _ (p : Rule) (s next : EndpointState) (b : Stand) (t : EndpointState) (piece : List ℕ) (used : ℕ) (told : Outcome) (xs : List Step) (w r : List ℕ) where
  -- what is to be made once it was fed
  abbrev then_made : Made
  then_made = done_from p (stand_told next.connection.config told) (made_at next (w ++ []) (r ++ []))

  abbrev step : Step
  step = record { call = Feed piece; answer = Fed used told }

  abbrev Rest : Type 0
  Rest = Goes p then_made next b t xs (w ++ []) (r ++ [])

  abbrev Whole : Type 0
  Whole = Goes p (made_at s w r) s b t (step ∷ xs) w r

  abbrev so_far : Made
  so_far = done_from p b (made_at t ((w ++ []) ++ moved xs) ((r ++ []) ++ recorded xs))

  last_made : so_far ≡ done_from p b (made_at t (w ++ moved (step ∷ xs)) (r ++ recorded (step ∷ xs)))
  last_made = ap (λ (m : Made). done_from p b m) (later_made t w [] (moved xs) r [] (recorded xs))

  -- where nothing was acted upon, topping up again changes nothing
  unacted : IsGood p (made_at s w r) s.input → s.connection ≡ next.connection → s.unsent ≡ next.unsent →
      stand_told next.connection.config told ≡ ToppingUp (all_supplies next.connection.config) → made_at s w r ≡ then_made
  unacted good c u stand =
      let kept = kept_made s next w r c u in
      let still = (good_made kept good).still in
      kept ∙ sym (ap (λ (a : Stand). done_from p a (made_at next (w ++ []) (r ++ []))) stand ∙ all_unchanged p (made_at next (w ++ []) (r ++ [])) (all_supplies next.connection.config) still)

  -- a connection that is over
  fed_dead : IsKept s next → used ≡ 0 → told ≡ outcome.Dead → Rest → Whole
  fed_dead kept none dead rest = λ good.
      goes_on p s next b t step xs w r (unacted good (sym kept.connection) (sym kept.unsent) (ap (λ (o : Outcome). stand_told next.connection.config o) dead)) kept.input
      (ap (λ (n : ℕ). take n piece) none) rest good

  module _ (between : SplitterState) (taken : IsTaken s.input between piece used) (alive : is_dead s.connection.phase ≡ false) where
    abbrev mid : EndpointState
    mid = record s { input = between }

    -- a part of a unit
    fed_part : IsRest between.limit between.stage between.filled → IsKept mid next → told ≡ told_outcome s.connection None → Rest → Whole
    fed_part part kept is rest = λ good.
        let more : told ≡ outcome.More = is ∙ ap (λ (b : Bool). if b then outcome.Dead else outcome.More) alive in
        let same = unacted good (sym kept.connection) (sym kept.unsent) (ap (λ (o : Outcome). stand_told next.connection.config o) more) in
        let on : IsGood p then_made next.input = record {
          still = (good_made same good).still;
          rest = rest_on between next.input kept.input part;
          left = inr (subst (λ (y : Made). is_dead y.connection.phase ≡ false) same alive);
        } in
        let z = course_input kept.input (rest on) in
        subst (λ (y : Made). IsCourse p b (made_at s w r) s.input t.input (fed (step ∷ xs)) y) last_made
        (course_fed p b (made_at s w r) then_made so_far s.input between t.input (take used piece) (fed xs)
        taken.limit taken.stage taken.filled same z)

    -- what is to be made once a unit was acted upon is what it makes
    acted_made : (u : StreamUnit) → IsActed mid next u told → then_made ≡ served_one p (made_at s w r) u
    acted_made u d =
        let reply = reply_on s.connection (line_of s.connection u) in
        let same : made_at next (w ++ []) (r ++ []) ≡ answered (made_at s w r) u =
        made_same next.connection (acted_after s.connection u) ((w ++ []) ++ next.unsent) ((w ++ s.unsent) ++ reply) (r ++ []) r d.connection
        (ap (λ (l : List ℕ). l ++ next.unsent) (append-nil w) ∙ ap (λ (l : List ℕ). w ++ l) d.unsent ∙ sym (append_assoc w s.unsent reply)) (append-nil r) in
        ap (λ (y : Made). done_from p (stand_told y.connection.config told) y) same
        ∙ ap (λ (o : Outcome). done_from p (stand_told (acted_after s.connection u).config o) (answered (made_at s w r) u)) d.told

    -- the end of a unit
    fed_unit : (u : StreamUnit) → Waits between u → IsActed mid next u told → Rest → Whole
    fed_unit u waits d rest = λ good.
        let same = acted_made u d in
        let on : IsGood p then_made next.input = record {
          still = told_still p told (made_at next (w ++ []) (r ++ [])) (λ starved. never_starved (acted_after s.connection u) (told_on s.connection (line_of s.connection u)) (sym d.told ∙ starved));
          rest = nothing_rests next.input.limit next.input.stage next.input.filled d.input.filled;
          left = inl d.input.filled;
        } in
        let z = rest on in
        let course : IsCourse p b (made_at s w r) s.input t.input (fed (step ∷ xs)) so_far = record {
          units = u ∷ z.units;
          joined = sym (append_assoc s.input.filled (take used piece) (fed xs)) ∙ ap (λ (k : List ℕ). k ++ fed xs) (sym taken.filled ∙ waits.whole)
              ∙ ap (λ (k : List ℕ). bytes_of u ++ k) (ap (λ (k : List ℕ). k ++ fed xs) (sym d.input.filled) ∙ z.joined)
              ∙ sym (append_assoc (bytes_of u) (flat_map bytes_of z.units) t.input.filled);
          each = (
            unit_on between s.input u taken.limit taken.stage waits.is,
            subst (λ (n : ℕ). AreUnits n (due_after u) z.units) (d.input.limit ∙ taken.limit) (subst (λ (stage : Stage). AreUnits next.input.limit stage z.units) d.input.stage z.each),
          );
          timely = (alive, subst (λ (y : Made). AreTimely p y z.units) same z.timely);
          limit = z.limit ∙ d.input.limit ∙ taken.limit;
          stage = z.stage ∙ ap (λ (stage : Stage). due_behind stage z.units) d.input.stage;
          made = z.made ∙ ap (λ (y : Made). served_all p y z.units) same;
          good = z.good;
        } in
        subst (λ (y : Made). IsCourse p b (made_at s w r) s.input t.input (fed (step ∷ xs)) y) last_made course

    -- the end of a unit for which memory was refused
    fed_none : IsKept mid next → IsHalted next t xs b (w ++ []) (r ++ []) → Whole
    fed_none kept halted = λ good. record {
      units = [];
      joined = sym (append_assoc s.input.filled (take used piece) (fed xs))
          ∙ ap (λ (k : List ℕ). (s.input.filled ++ take used piece) ++ k) halted.none ∙ append-nil (s.input.filled ++ take used piece)
          ∙ sym taken.filled ∙ sym (halted.input.filled ∙ kept.input.filled);
      each = tt;
      timely = tt;
      limit = halted.input.limit ∙ kept.input.limit ∙ taken.limit;
      stage = halted.input.stage ∙ kept.input.stage ∙ taken.stage;
      made = sym last_made ∙ ap (λ (a : Stand). done_from p a (made_at t ((w ++ []) ++ moved xs) ((r ++ []) ++ recorded xs))) halted.stand
          ∙ sym halted.made ∙ sym (kept_made s next w r (sym kept.connection) (sym kept.unsent));
      good = λ fine. absurd (fine (subst (λ (a : Stand). IsStuck a) (sym halted.stand) tt));
    }

    -- whichever it is
    fed_alive : s.unsent ≡ [] → ((u : StreamUnit) → Waits between u → Acts mid next u (room_for s.unsent u) told) →
        (((u : StreamUnit) → Waits between u → ⊥) → IsKept mid next × (told ≡ told_outcome s.connection None)) →
        (told ≡ outcome.NoMemory → IsHalted next t xs b (w ++ []) (r ++ [])) → Rest → Whole
    fed_alive silent unit none halts rest = λ good.
        elim (front between.limit between.stage between.filled) [
          | inl part ↦
              let k = none (λ u waits. part.none u [] waits.is (waits.whole ∙ sym (append-nil (bytes_of u)))) in fed_part part k.0 k.1 rest good
          | inr f ↦
              let may = unit_on between s.input f.unit taken.limit taken.stage f.is in
              let no_more = ends_last s.input.limit s.input.stage s.input.filled piece used f.unit f.more taken.bound good.rest taken.early may (sym taken.filled ∙ f.joined) in
              let waits : Waits between f.unit = record { is = f.is; whole = f.joined ∙ ap (λ (l : List ℕ). bytes_of f.unit ++ l) no_more ∙ append-nil (bytes_of f.unit) } in
              let room : room_for s.unsent f.unit ≡ true = ap (λ (l : List ℕ). room_for l f.unit) silent ∙ room_for_all f.unit in
              let acts : Acts mid next f.unit true told = subst (λ (b : Bool). Acts mid next f.unit b told) room (unit f.unit waits) in
              elim acts [
                | inl acted ↦ fed_unit f.unit waits acted rest good
                | inr kept ↦ fed_none kept.0 (halts kept.1) good
              ]
        ]

  -- a piece, wherever it ends
  fed_made : s.unsent ≡ [] → (over : Bool) → is_dead s.connection.phase ≡ over → steps.FeedDone over s next piece used told →
      (told ≡ outcome.NoMemory → IsHalted next t xs b (w ++ []) (r ++ [])) → Rest → Whole
  fed_made silent true is d halts rest = fed_dead d.0 d.1 d.2 rest
  fed_made silent false is d halts rest = fed_alive d.between d.taken is silent d.comes.unit d.comes.none halts rest

pub halted : {p : Rule} {a b : Stand} {s t : EndpointState} {xs : List Step} → Serves p a s xs b t → a ≡ Starved → (w r : List ℕ) → IsHalted s t xs b w r
halted (Rests {p} {a} {s}) e w r = record {
  made = made_same s.connection s.connection (w ++ s.unsent) ((w ++ []) ++ s.unsent) r (r ++ []) refl (ap (λ (l : List ℕ). l ++ s.unsent) (sym (append-nil w))) (sym (append-nil r));
  input = record { limit = refl; stage = refl; filled = refl };
  none = refl;
  stand = e;
}
halted (MovesOut {p} {a} {b} {s} {last} {steps} next room bytes does x) e w r =
    let y = halted x e (w ++ bytes) (r ++ []) in record {
      made = moved_made s next room bytes w r does ∙ y.made ∙ later_made last w bytes (moved steps) r [] (recorded steps);
      input = unchanged_on does.input y.input;
      none = y.none;
      stand = y.stand;
    }
halted (Feeds next piece used told none range does x) e w r = absurd (grind (arith, e))
halted (Takes next channel handle answer does x) e w r = absurd (grind (arith, e))
halted (Settles next channel id answer none small does x) e w r = absurd (grind (arith, e))
halted (TopsUp next supply supplies answer none lacks does x) e w r = absurd (grind (arith, e))
halted (Passes supply supplies lacks x) e w r = absurd (grind (arith, e))
halted (Finishes next end none does x) e w r = absurd (grind (arith, e))

-- The whole of it. ----------------------------------------------------------------------------------------------------

-- Serving from one stand to another makes what the units that were fed make, but for what is done from there on.
pub follows : {p : Rule} {a b : Stand} {s t : EndpointState} {xs : List Step} → Serves p a s xs b t → (IsEnded b → ⊥) → (w r : List ℕ) → Goes p (done_from p a (made_at s w r)) s b t xs w r
follows (Rests {p} {a} {s}) e w r = goes_none p a s w r
follows (MovesOut {p} {a} {b} {s} {last} {steps} next room bytes does x) e w r =
    goes_on p s next b last (record { call = Output room; answer = MovedOut bytes }) steps w r
    (ap (λ (m : Made). done_from p a m) (moved_made s next room bytes w r does)) does.input refl (follows x e (w ++ bytes) (r ++ []))
follows (Feeds {p} {b} {s} {last} {steps} next piece used told none range does x) e w r =
    fed_made p s next b last piece used told steps w r none (is_dead s.connection.phase) refl does
    (λ starved. halted x (ap (λ (o : Outcome). stand_told next.connection.config o) starved) (w ++ []) (r ++ [])) (follows x e (w ++ []) (r ++ []))
follows (Takes {p} {b} {s} {last} {steps} next channel handle answer does x) e w r =
    goes_on p s next b last (record { call = InSession channel (Take handle); answer = answer }) steps w r
    (take_made p s next channel handle answer w r does) (call_keeps s next channel _ answer does) refl (follows x e _ _)
follows (Settles {p} {b} {s} {last} {steps} next channel id answer none small does x) e w r =
    goes_on p s next b last (record { call = InSession channel (Settle id p.outcome); answer = answer }) steps w r
    (settle_made p s next channel id answer w r none does) (call_keeps s next channel _ answer does) refl (follows x e _ _)
follows (TopsUp {p} {b} {s} {last} {steps} next supply supplies answer none lacks does x) e w r =
    let y = top_made p s next supply supplies answer w r none lacks does in
    goes_on p s next b last (record { call = top_up_by supply (lack p s.connection supply); answer = answer }) steps w r y.0 y.1
    (ap (λ (c : Call). taken_by c answer) (top_call supply (lack p s.connection supply))) (follows x e _ _)
follows (Passes {p} {b} {s} {last} {steps} supply supplies lacks x) e w r =
    goes_same p s b last steps w r (ap (λ (n : ℕ). all_topped p supplies (topped_by n (made_at s w r) supply)) lacks) (follows x e w r)
follows (Finishes next end none does x) e w r = absurd (e (ended x tt))
