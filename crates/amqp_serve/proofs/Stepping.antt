-- One step: a feed, and what follows from it.
use Rattle.std.proofs.Common.{arith, ◌≡◌, ◌≢◌, ℕ, ◌<◌, ◌≤◌, Bool, true, false, List, [], ◌++◌, Result, Ok, Err, length, take, slice_index, refl, sym, ap, subst, ◌∙◌}
use Rattle.std.proofs.KnownBytes.{Keeps-refl}
use Rattle.amqp_endpoint.specs.declared.event.Outcome.{Outcome}
use Rattle.amqp_endpoint.specs.declared.event.Outcome.TheVariants as outcome
use Rattle.amqp_endpoint.specs.Configs.{Configured}
use Rattle.amqp_endpoint.specs.Connections.{ConnectionState, is_dead}
use Rattle.amqp_endpoint.specs.Runs.{Feed, Fed, Does}
use Rattle.amqp_endpoint.specs.Steps.{EndpointState, IsKept, IsFed, FeedDone}
use Rattle.amqp_frame.specs.Splits.{SplitterState}
use Rattle.amqp_serve.specs.declared.rules.Rule.{Rule}
use Rattle.amqp_serve.specs.declared.server.Status.{Status}
use Rattle.amqp_serve.specs.declared.server.Status.TheVariants as status
use Rattle.amqp_serve.specs.declared.serving.ServeFault.{ServeFault}
use Rattle.amqp_serve.specs.declared.serving.ServeFault.TheVariants as fault
use Rattle.amqp_serve.specs.declared.steps.Done.{Done}
use Rattle.amqp_serve.specs.Deeds.{Deeds, fed_deeds, rest_deeds, done_deeds, receipt_deeds, topped_deeds, no_deeds, Ends, AreOpen, IsOfEnds, WentOn, WentOff, HasFollowed, HasFailed, filled, Follows, IsStepped, ReachesBy}
use Rattle.amqp_serve.specs.Servers.{hears, status_after, waiting_by}
use Rattle.amqp_serve.specs.Serving.{Starved, ToppingUp, all_supplies, reading, stand_told, Served, BrokeOff, IsStarved}
use Rattle.amqp_serve.specs.Supplied.{IsSuppliedBut, IsOnlyAt, told_look, received_look, look_behind}
use Rattle.amqp_serve.proofs.Deeds.{deeds_on, rest_both, done_both, one_done, went_on, went_off, then_quiet, marked_neither}
use Rattle.amqp_serve.proofs.Looks.{received_behind}
use Rattle.amqp_serve.proofs.Resumed.{wanting_waits}
use Rattle.amqp_serve.proofs.ServingFeeds.{fed_served, fed_idle, fed_starved, waits_before}
use Rattle.amqp_serve.proofs.Servings.{served_on, served_then, broke_then, works_none, stopped}

-- how far a feed reaches
pub reached : (over : Bool) (s t : EndpointState) (piece : List ℕ) (used : ℕ) (told : Outcome) → FeedDone over s t piece used told → ReachesBy over s piece used
reached true s t piece used told fed = fed.1
reached false s t piece used told fed = (fed.between, fed.taken)

-- What follows. ---------------------------------------------------------------------------------------------------------------

-- one of the ends failed
pub failed_by : (p : Rule) (told : Outcome) (lost : ServeFault) (s t : EndpointState) (x y : Ends) → WentOff p lost (stand_told s.connection.config told) s t x y → HasFailed p told lost s t x y
failed_by p told lost s t x y off = record { which = read lost off.which; broke = off.broke; starved = λ is. absurd (memory lost off.which is); marked = off.marked }
  where
    read : (lost : ServeFault) → IsOfEnds lost → lost ≢ fault.Read
    read fault.Read none = absurd none
    read fault.Write one = λ is. absurd (grind (arith, is))
    read fault.Sink one = λ is. absurd (grind (arith, is))
    read fault.NoMemory none = absurd none

    memory : (lost : ServeFault) → IsOfEnds lost → lost ≡ fault.NoMemory → ⊥
    memory fault.Read none is = none
    memory fault.Write one is = absurd (grind (arith, is))
    memory fault.Sink one is = absurd (grind (arith, is))
    memory fault.NoMemory none is = none

-- an exit by a fault
pub follow_lost : (p : Rule) (told : Outcome) (r : Result (Unit {0}) ServeFault) (d : Done) (lost fault : ServeFault) (s t : EndpointState) (x y : Ends) → r ≡ Err lost → lost ≡ fault
    → WentOff p fault (stand_told s.connection.config told) s t x y → Follows p told (filled r d) s t x y
follow_lost p told r d lost fault s t x y is same off =
    subst (λ (q : Result (Unit {0}) ServeFault). Follows p told (filled q d) s t x y) (sym is) (subst (λ (k : ServeFault). HasFailed p told k s t x y) (sym same) (failed_by p told fault s t x y off))

-- memory was refused
pub follow_starved : (p : Rule) (told : Outcome) (s : EndpointState) (x : Ends) → told ≡ outcome.NoMemory → AreOpen x → HasFailed p told fault.NoMemory s s x x
follow_starved p told s x is fit = record {
  which = λ e. absurd (grind (arith, e));
  broke = subst (λ (o : Outcome). BrokeOff p fault.NoMemory (stand_told s.connection.config o) [] s s x.writer x.writer x.sink x.sink) (sym is)
      (stopped p Starved Starved s s x.writer x.writer x.writer x.sink x.sink x.sink (works_none p Starved s x.writer x.sink) (Keeps-refl x.writer) (Keeps-refl x.sink) fault.NoMemory (refl, refl));
  starved = λ e. (is, refl, refl);
  marked = marked_neither fault.NoMemory x (λ e. absurd (grind (arith, e))) (λ e. absurd (grind (arith, e))) fit;
}

-- a message that is ready is received, then what lacks something is topped up, and then all is written
pub followed : (p : Rule) (told : Outcome) (d : Done) (s t u v : EndpointState) (x y z q : Ends) → (told ≢ outcome.NoMemory)
    → WentOn p (receipt_deeds d.receipt) (stand_told s.connection.config told) (ToppingUp (all_supplies s.connection.config)) s t x y
    → WentOn p (topped_deeds d.topped) (ToppingUp (all_supplies t.connection.config)) reading t u y z → t.connection.config ≡ s.connection.config
    → WentOn p no_deeds reading reading u v z q → v.unsent ≡ [] → HasFollowed p told d s v x q
followed p told d s t u v x y z q fed got gave same wrote sent =
    let topped : WentOn p (topped_deeds d.topped) (ToppingUp (all_supplies s.connection.config)) reading t u y z =
    subst (λ (k : Configured). WentOn p (topped_deeds d.topped) (ToppingUp (all_supplies k)) reading t u y z) same gave in
    let all = then_quiet (went_on (rest_deeds d) got topped (rest_both d topped.works.served.steps topped.deeds)) wrote in
    record { fed = fed; works = all.works; deeds = all.deeds; sent = sent; still = all.still }

-- the same, where an end failed on the way
pub top_lost : (p : Rule) (d : Deeds) (told : Outcome) (lost : ServeFault) (s t u : EndpointState) (x y z : Ends) → WentOn p d (stand_told s.connection.config told) (ToppingUp (all_supplies s.connection.config)) s t x y
    → t.connection.config ≡ s.connection.config → WentOff p lost (ToppingUp (all_supplies t.connection.config)) t u y z → WentOff p lost (stand_told s.connection.config told) s u x z
top_lost p d told lost s t u x y z got same off = went_off got (subst (λ (k : Configured). WentOff p lost (ToppingUp (all_supplies k)) t u y z) same off)

pub write_lost : (p : Rule) (told : Outcome) (d : Done) (lost : ServeFault) (s t u v : EndpointState) (x y z q : Ends)
    → WentOn p (receipt_deeds d.receipt) (stand_told s.connection.config told) (ToppingUp (all_supplies s.connection.config)) s t x y
    → WentOn p (topped_deeds d.topped) (ToppingUp (all_supplies t.connection.config)) reading t u y z → t.connection.config ≡ s.connection.config
    → WentOff p lost reading u v z q → WentOff p lost (stand_told s.connection.config told) s v x q
write_lost p told d lost s t u v x y z q got gave same off =
    let topped : WentOn p (topped_deeds d.topped) (ToppingUp (all_supplies s.connection.config)) reading t u y z =
    subst (λ (k : Configured). WentOn p (topped_deeds d.topped) (ToppingUp (all_supplies k)) reading t u y z) same gave in
    went_off (went_on (rest_deeds d) got topped (rest_both d topped.works.served.steps topped.deeds)) off

-- what may lack something then
pub looked : (p : Rule) (supplied : Bool) (told : Outcome) (between : Bool) (s t : ConnectionState) → (supplied ≡ true → IsSuppliedBut (told_look told between) p s)
    → IsOnlyAt p (received_look told) s t → IsSuppliedBut (look_behind supplied told between) p t
looked p true told between s t but only = received_behind p told between s t only (but refl)
looked p false told between s t but only = λ y listed none. absurd none

-- The whole step. -------------------------------------------------------------------------------------------------------------

module _ (law : (s t u : EndpointState) (piece : List ℕ) (used : ℕ) (told : Outcome) → IsKept s t → IsFed t u piece used told → Does s u (Feed piece) (Fed used told)) (p : Rule) (s t u v : EndpointState)
    (piece : List ℕ) (used : ℕ) (told : Outcome) (x y : Ends) (kept : IsKept s t) (none : t.unsent ≡ []) (bytes : (i : ℕ) → slice_index piece i < 256) (least : 8 ≤ t.input.limit) (x1 : IsFed t u piece used told) where
  fed : Served p reading (stand_told u.connection.config told) (take used piece) s u x.writer x.writer x.sink x.sink
  fed = fed_served law p s t u piece used told x.writer x.sink none bytes kept x1

  -- memory is refused before the connection is over alone
  starves : told ≡ outcome.NoMemory → is_dead t.connection.phase ≡ false
  starves is = by (is_dead t.connection.phase) refl x1
    where
      by : (over : Bool) → is_dead t.connection.phase ≡ over → FeedDone over t u piece used told → is_dead t.connection.phase ≡ false
      by true dead done = let no : outcome.NoMemory ≡ outcome.Dead = sym is ∙ done.2 in absurd (grind (arith, no))
      by false alive done = alive

  pub stepped : (r : Result Done ServeFault) → Follows p told r u v x y → IsStepped p (take used piece) told r s v x y
  unfolding fed served_then served_on fed_served
  stepped (Ok d) f = record {
    served = served_then fed f.works;
    deeds = deeds_on (fed_deeds told) (rest_deeds d) (done_deeds told d) fed.steps f.works.served.steps
        (one_done (fed_deeds told) (record { call = Feed piece; answer = Fed used told }) refl refl refl refl refl refl) f.deeds (done_both told d f.works.served.steps f.deeds);
    sent = f.sent;
    idle = λ alive w waits. fed_idle t u piece used told (ap (λ (c : ConnectionState). is_dead c.phase) kept.connection ∙ alive) none f.fed x1 w (waits_before u.input v.input w f.works.input waits);
    still = f.still;
  }
  stepped (Err lost) f = record {
    which = f.which;
    broke = broke_then fed f.broke;
    starved = λ is.
        let left = f.starved is in
        subst (λ (z : EndpointState). IsStarved z) (sym left.1)
        (fed_starved t u piece used least (starves left.0) none (subst (λ (o : Outcome). IsFed t u piece used o) left.0 x1));
    still = λ is.
        let left = f.starved is in
        let waits = wanting_waits t u piece used (record { least = least; silent = none; fed = subst (λ (o : Outcome). IsFed t u piece used o) left.0 x1 }) in
        (ap (λ (z : EndpointState). z.connection) left.1 ∙ waits.kept.connection ∙ kept.connection, left.2);
    added = λ is.
        let left = f.starved is in
        let waits = wanting_waits t u piece used (record { least = least; silent = none; fed = subst (λ (o : Outcome). IsFed t u piece used o) left.0 x1 }) in
        let input = ap (λ (z : EndpointState). z.input) left.1 in
        record {
          limit = ap (λ (i : SplitterState). i.limit) input ∙ waits.kept.input.limit ∙ waits.taken.limit ∙ kept.input.limit;
          stage = ap (λ (i : SplitterState). i.stage) input ∙ waits.kept.input.stage ∙ waits.taken.stage ∙ kept.input.stage;
          filled = ap (λ (i : SplitterState). i.filled) input ∙ waits.kept.input.filled ∙ waits.taken.filled ∙ ap (λ (l : List ℕ). l ++ take used piece) kept.input.filled;
        };
    marked = f.marked;
  }

-- No answer waits behind a step after which the server hears.
pub rests : (p : Rule) (bytes : List ℕ) (told : Outcome) (r : Result Done ServeFault) (s t : EndpointState) (x y : Ends) → IsStepped p bytes told r s t x y → hears (status_after r) ≡ true → t.unsent ≡ []
rests p bytes told (Ok d) s t x y on is = on.sent
rests p bytes told (Err fault.Read) s t x y off is = absurd (grind (arith, is))
rests p bytes told (Err fault.Write) s t x y off is = absurd (grind (arith, is))
rests p bytes told (Err fault.Sink) s t x y off is = absurd (grind (arith, is))
rests p bytes told (Err fault.NoMemory) s t x y off is = (off.starved refl).sent

-- What waits to be written waits in the endpoint.
pub few_wait : (status : Status) (unsent : List ℕ) (n : ℕ) → n ≤ length (waiting_by status unsent) → n ≤ length unsent
few_wait status.Serving unsent n few = few
few_wait status.Starved unsent n few = few
few_wait status.Ended unsent n few = few
few_wait (status.Lost x) unsent n few = let none : length (waiting_by (status.Lost x) unsent) ≡ 0 = refl in omega (arith, few, none)
