-- What was read and fed while serving.
use Rattle.std.proofs.Common.{arith, ◌≡◌, ℕ, ◌⊎◌, inl, inr, Bool, true, false, List, [], ◌∷◌, ◌++◌, Option, Result, Ok, Err, IfErr, ◌↔◌, refl, sym, ap, subst, ◌∙◌, IsTrue}
use Rattle.std.proofs.KnownBytes.{Appends-nil, Appends-kept, Consumes-nil, Consumes-trans, Consumes-kept}
use Rattle.std.specs.Io.KnownBytes.{Consumes, Keeps}
use Rattle.amqp_endpoint.specs.declared.event.End.{End}
use Rattle.amqp_endpoint.specs.declared.event.Outcome.{Outcome}
use Rattle.amqp_endpoint.specs.Connections.{ConnectionState, is_dead}
use Rattle.amqp_endpoint.specs.Runs.{Finish, Ended, Does}
use Rattle.amqp_endpoint.specs.Steps.{EndpointState, IsKept}
use Rattle.amqp_serve.specs.declared.rules.Rule.{Rule}
use Rattle.amqp_serve.specs.declared.serving.ServeFault.{ServeFault}
use Rattle.amqp_serve.specs.declared.serving.ServeFault.TheVariants as fault
use Rattle.amqp_serve.specs.declared.steps.Done.{Done}
use Rattle.amqp_serve.specs.Deeds.{no_deeds, Ends, AreOpen, IsOfEnds, WentOff, HasStepped, HasStopped, filled, IsStepped, IsLost, HasGone, Goes}
use Rattle.amqp_serve.specs.Serving.{Stand, Step, reading, moved, IsLeft, Over, Serves, Rests, Finishes, finish_of, Served, HasRead, HasBroken, Works, IsServed, IsIdle}
use Rattle.amqp_serve.proofs.Deeds.{went_none, went_stopped, marked_neither}
use Rattle.amqp_serve.proofs.ServingFeeds.{waits_before}
use Rattle.amqp_serve.proofs.Servings.{serves_on, run_of, ranges_of, served_on, served_then, broke_on, if_err}

-- nothing but what was done
pub read_worked : {p : Rule} {s t : EndpointState} {w w1 k k1 : Option (List ℕ)} (r : Option (List ℕ)) → Works p reading reading s t w w1 k k1 → HasRead p s t r r w w1 k k1
read_worked r on = record { bytes = []; read = Consumes-nil r; served = on.served }

-- how a step came out
pub stepped_done : {p : Rule} {bytes : List ℕ} {told : Outcome} {r : Result Done ServeFault} {d : Done} {s t : EndpointState} {x y : Ends} → r ≡ Ok d → IsStepped p bytes told r s t x y → HasStepped p told d bytes s t x y
stepped_done {p} {bytes} {told} {r} {d} {s} {t} {x} {y} is on = subst (λ (q : Result Done ServeFault). IsStepped p bytes told q s t x y) is on

pub stepped_lost : {p : Rule} {bytes : List ℕ} (told : Outcome) {r : Result Done ServeFault} {lost : ServeFault} {s t : EndpointState} {x y : Ends} → r ≡ Err lost → IsStepped p bytes told r s t x y
    → HasStopped p lost bytes s t x y
stepped_lost {p} {bytes} told {r} {lost} {s} {t} {x} {y} is off = subst (λ (q : Result Done ServeFault). IsStepped p bytes told q s t x y) is off

-- and a step whose answer was stored
pub step_done : {p : Rule} {bytes : List ℕ} {told : Outcome} {r : Result (Unit {0}) ServeFault} {x : Unit {0}} {d : Done} {s t : EndpointState} {y z : Ends} → r ≡ Ok x → IsStepped p bytes told (filled r d) s t y z
    → HasStepped p told d bytes s t y z
step_done {d = d} is on = stepped_done (ap (λ r. filled r d) is) on

pub step_lost : {p : Rule} {bytes : List ℕ} (told : Outcome) {r : Result (Unit {0}) ServeFault} (d : Done) {lost : ServeFault} {s t : EndpointState} {x y : Ends} → r ≡ Err lost → IsStepped p bytes told (filled r d) s t x y
    → HasStopped p lost bytes s t x y
step_lost told d is off = stepped_lost told (ap (λ r. filled r d) is) off

-- and a piece of no bytes
pub read_stepped : {p : Rule} {told : Outcome} {d : Done} {s t u : EndpointState} {w k : Option (List ℕ)} {y z : Ends} (r : Option (List ℕ)) → Works p reading reading s t w y.writer k y.sink → HasStepped p told d [] t u y z
    → HasRead p s u r r w z.writer k z.sink
read_stepped r on step = record { bytes = []; read = Consumes-nil r; served = served_on on.served step.served }

-- more was read
pub read_more : {p : Rule} {s t u : EndpointState} {w w1 w2 k k1 k2 : Option (List ℕ)} (r r1 r2 : Option (List ℕ)) → HasRead p s t r r1 w w1 k k1 → HasRead p t u r1 r2 w1 w2 k1 k2
    → HasRead p s u r r2 w w2 k k2
read_more r r1 r2 x y = record { bytes = x.bytes ++ y.bytes; read = Consumes-trans r r1 r2 x.bytes y.bytes x.read y.read; served = served_on x.served y.served }

pub broken_more : {p : Rule} {e : ServeFault} {s t u : EndpointState} {w w1 w2 k k1 k2 : Option (List ℕ)} (r r1 r2 : Option (List ℕ)) → HasRead p s t r r1 w w1 k k1
    → HasBroken p e t u r1 r2 w1 w2 k1 k2 → HasBroken p e s u r r2 w w2 k k2
broken_more r r1 r2 x y = (x.bytes ++ y.0, Consumes-trans r r1 r2 x.bytes y.0 x.read y.1, broke_on x.served y.2)

module _ (p : Rule) (s t : EndpointState) (r r1 w w1 k k1 : Option (List ℕ)) (x : HasRead p s t r r1 w w1 k k1) where
  module _ (t1 : EndpointState) (w2 k2 : Option (List ℕ)) (y : Works p reading reading t t1 w1 w2 k1 k2) where
    so_far : Served p reading reading x.bytes s t1 w w2 k k2
    so_far = served_then x.served y

    -- the run ends
    pub read_ended : (u : EndpointState) (end : End) (ended : Bool) → t1.unsent ≡ [] → t1.connection ≡ t.connection → Does t1 u Finish (Ended end)
        → (is_dead s.connection.phase ≡ false → IsIdle t) → (is_dead t.connection.phase ≡ true) ⊎ IsTrue ended
        → (bytes : List ℕ) × Consumes r r1 bytes × IsServed p end bytes ended s u w w2 k k2
    read_ended u end ended sent same finish idle over =
        let z = so_far in
        let ends : Serves p reading t1 (finish_of end ∷ []) Over u = Finishes u end sent finish Rests in (
          x.bytes,
          x.read,
          record {
            steps = z.steps;
            before = t1;
            serves = z.serves;
            ends = ends;
            run = run_of (serves_on z.serves ends);
            range = ranges_of (serves_on z.serves ends);
            fed = sym z.fed;
            over = elim over [
              | inl dead ↦ inl (ap (λ (c : ConnectionState). is_dead c.phase) same ∙ dead)
              | inr done ↦ inr done
            ];
            idle = λ alive v waits. idle alive v (waits_before t.input t1.input v y.input waits);
            written = z.written;
            recorded = z.recorded;
          },
        )

-- Serving breaks off. ---------------------------------------------------------------------------------------------------------

-- where one of the ends failed
pub lost_at_ends : (p : Rule) (lost : ServeFault) (s t : EndpointState) (r : Option (List ℕ)) (reader_failed : Bool) (x y : Ends) → ¬ (IsTrue reader_failed) → WentOff p lost reading s t x y
    → IsLost p lost s t r r reader_failed x y
lost_at_ends p lost s t r reader_failed x y fine off = record {
  broken = ([], Consumes-nil r, off.broke);
  read = (λ is. absurd (no_read lost off.which is), λ failed. absurd (fine failed));
  marked = off.marked;
  waited = λ is. absurd (no_read lost off.which is);
  starved = λ is. absurd (no_memory lost off.which is);
}
  where
    no_read : (lost : ServeFault) → IsOfEnds lost → lost ≡ fault.Read → ⊥
    no_read fault.Read none is = none
    no_read fault.Write one is = absurd (grind (arith, is))
    no_read fault.Sink one is = absurd (grind (arith, is))
    no_read fault.NoMemory none is = none

    no_memory : (lost : ServeFault) → IsOfEnds lost → lost ≡ fault.NoMemory → ⊥
    no_memory fault.Read none is = none
    no_memory fault.Write one is = absurd (grind (arith, is))
    no_memory fault.Sink one is = absurd (grind (arith, is))
    no_memory fault.NoMemory none is = none

-- in a step
pub lost_in_step : (p : Rule) (lost : ServeFault) (s t : EndpointState) (bytes : List ℕ) (r r1 : Option (List ℕ)) (reader_failed : Bool) (x y : Ends) → ¬ (IsTrue reader_failed) → Consumes r r1 bytes
    → HasStopped p lost bytes s t x y → IsLost p lost s t r r1 reader_failed x y
lost_in_step p lost s t bytes r r1 reader_failed x y fine read off = record {
  broken = (bytes, read, off.broke);
  read = (λ is. absurd (off.which is), λ failed. absurd (fine failed));
  marked = off.marked;
  waited = λ is. absurd (off.which is);
  starved = off.starved;
}

-- where the reader failed
pub lost_at_reader : (p : Rule) (s t : EndpointState) (r r1 : Option (List ℕ)) (reader_failed : Bool) (x : Ends) → IsTrue reader_failed → Keeps r r1 → IsKept s t → s.unsent ≡ [] → is_dead s.connection.phase ≡ false
    → AreOpen x → IsLost p fault.Read s t r r1 reader_failed x x
lost_at_reader p s t r r1 reader_failed x failed kept same sent alive fit = record {
  broken = (
    [],
    Consumes-kept r r r1 [] (Consumes-nil r) kept,
    record {
      stand = reading;
      steps = [];
      last = s;
      serves = Rests;
      same = same;
      fed = refl;
      written = Appends-nil x.writer;
      noted = [];
      unnoted = [];
      records = refl;
      sink = Appends-nil x.sink;
      left = (refl, refl);
    },
  );
  read = (λ is. failed, λ is. refl);
  marked = marked_neither fault.Read x (λ is. absurd (grind (arith, is))) (λ is. absurd (grind (arith, is))) fit;
  waited = λ is. (same.unsent ∙ sent, ap (λ (c : ConnectionState). is_dead c.phase) same.connection ∙ alive);
  starved = λ is. absurd (grind (arith, is));
}

-- behind what was done
pub lost_behind : {p : Rule} {lost : ServeFault} {s t u : EndpointState} {x y z : Ends} (r r1 : Option (List ℕ)) (reader_failed : Bool) → Works p reading reading s t x.writer y.writer x.sink y.sink
    → IsLost p lost t u r r1 reader_failed y z → IsLost p lost s u r r1 reader_failed x z
lost_behind r r1 reader_failed on off = record { broken = (off.broken.0, off.broken.1, broke_on on.served off.broken.2); read = off.read; marked = off.marked; waited = off.waited; starved = off.starved }

-- behind what was read
pub lost_more : {k p : Rule} {lost : ServeFault} {s t u : EndpointState} {x y z : Ends} (r r1 r2 : Option (List ℕ)) (reader_failed : Bool) → k ≡ p → HasRead p s t r r1 x.writer y.writer x.sink y.sink
    → IsLost k lost t u r1 r2 reader_failed y z → IsLost p lost s u r r2 reader_failed x z
lost_more {k} {p} {lost} {s} {t} {u} {x} {y} {z} r r1 r2 reader_failed same on off =
    let here : IsLost p lost t u r1 r2 reader_failed y z = subst (λ (q : Rule). IsLost q lost t u r1 r2 reader_failed y z) same off in
    record { broken = broken_more r r1 r2 on here.broken; read = here.read; marked = here.marked; waited = here.waited; starved = here.starved }

-- an exit by a fault
pub lost_by : {X : Type 0} (q : Result X ServeFault) (p : Rule) (lost fault : ServeFault) (s t : EndpointState) (r r1 : Option (List ℕ)) (reader_failed : Bool) (x y : Ends) → q ≡ Err lost → lost ≡ fault
    → IsLost p fault s t r r1 reader_failed x y → IfErr q (λ e. IsLost p e s t r r1 reader_failed x y)
lost_by q p lost fault s t r r1 reader_failed x y is same off =
    if_err q (λ e. IsLost p e s t r r1 reader_failed x y) lost is (subst (λ (e : ServeFault). IsLost p e s t r r1 reader_failed x y) (sym same) off)

-- a flush that failed
pub flush_lost : (p : Rule) (s : EndpointState) (q : Result (Unit {0}) ServeFault) (lost : ServeFault) (w w1 k k1 : Option (List ℕ)) (f f1 g g1 : Bool) → q ≡ Err lost → (q ≡ Err fault.Read → ⊥) → (q ≡ Err fault.NoMemory → ⊥)
    → ((q ≡ Err fault.Write) ↔ IsTrue f1) → ((q ≡ Err fault.Sink) ↔ IsTrue g1) → Keeps w w1 → Keeps k k1 → AreOpen (record { writer = w; sink = k; writer_failed = f; sink_failed = g })
    → WentOff p lost reading s s (record { writer = w; sink = k; writer_failed = f; sink_failed = g }) (record { writer = w1; sink = k1; writer_failed = f1; sink_failed = g1 })
flush_lost p s q lost w w1 k k1 f f1 g g1 is read memory write sink answers records fit =
    went_stopped p no_deeds reading reading s s (record { writer = w; sink = k; writer_failed = f; sink_failed = g }) w w1 k k1 f f1 g g1 lost (went_none p reading s _ fit) answers records
    (of_ends lost (λ e. read (is ∙ ap Err e)) (λ e. memory (is ∙ ap Err e)))
    (record { writer = (λ e. write.0 (is ∙ ap Err e), λ failed. same_err lost fault.Write is (write.1 failed)); sink = (λ e. sink.0 (is ∙ ap Err e), λ failed. same_err lost fault.Sink is (sink.1 failed)) })
  where
    of_ends : (lost : ServeFault) → (lost ≡ fault.Read → ⊥) → (lost ≡ fault.NoMemory → ⊥) → IsOfEnds lost
    of_ends fault.Read a b = a refl
    of_ends fault.Write a b = tt
    of_ends fault.Sink a b = tt
    of_ends fault.NoMemory a b = b refl

    same_err : (a b : ServeFault) → q ≡ Err a → q ≡ Err b → a ≡ b
    same_err a b x y = let e = sym x ∙ y in cc

-- what is consumed behind what was kept
kept_first : (r r1 r2 : Option (List ℕ)) (bytes : List ℕ) → Keeps r r1 → Consumes r1 r2 bytes → Consumes r r2 bytes
kept_first r r1 r2 bytes kept read = Consumes-trans r r1 r2 [] bytes (Consumes-kept r r r1 [] (Consumes-nil r) kept) read

-- A step of a run over a reader. ----------------------------------------------------------------------------------------------

-- with a piece
pub gone_by_step : (p : Rule) (told : Outcome) (d : Done) (s t : EndpointState) (bytes : List ℕ) (r r1 : Option (List ℕ)) (reader_failed : Bool) (x y : Ends) → ¬ (IsTrue reader_failed) → is_dead s.connection.phase ≡ false
    → Consumes r r1 bytes → HasStepped p told d bytes s t x y → HasGone p s t r r1 reader_failed x y
gone_by_step p told d s t bytes r r1 reader_failed x y fine alive read on =
    record { read = record { bytes = bytes; read = read; served = on.served }; idle = on.idle alive; sent = on.sent; still = on.still; reader = fine }

pub goes_by_step : (p : Rule) (told : Outcome) (q : Result (Unit {0}) ServeFault) (d : Done) (s t : EndpointState) (bytes : List ℕ) (r r1 : Option (List ℕ)) (reader_failed : Bool) (x y : Ends) → ¬ (IsTrue reader_failed)
    → is_dead s.connection.phase ≡ false → Consumes r r1 bytes → IsStepped p bytes told (filled q d) s t x y → Goes p q s t r r1 reader_failed x y
goes_by_step p told (Ok v) d s t bytes r r1 reader_failed x y fine alive read on = gone_by_step p told d s t bytes r r1 reader_failed x y fine alive read on
goes_by_step p told (Err lost) d s t bytes r r1 reader_failed x y fine alive read off = lost_in_step p lost s t bytes r r1 reader_failed x y fine read off

-- behind a flush, and what a reader kept
pub goes_behind : (p : Rule) (q : Result (Unit {0}) ServeFault) (s t u : EndpointState) (r r1 r2 : Option (List ℕ)) (reader_failed : Bool) (x y z : Ends) → Works p reading reading s t x.writer y.writer x.sink y.sink → Keeps r r1
    → Goes p q t u r1 r2 reader_failed y z → Goes p q s u r r2 reader_failed x z
goes_behind p (Ok d) s t u r r1 r2 reader_failed x y z on kept w =
    record { read = record { bytes = w.read.bytes; read = kept_first r r1 r2 w.read.bytes kept w.read.read; served = served_on on.served w.read.served }; idle = w.idle; sent = w.sent; still = w.still; reader = w.reader }
goes_behind p (Err lost) s t u r r1 r2 reader_failed x y z on kept w = record {
  broken = (w.broken.0, kept_first r r1 r2 w.broken.0 kept w.broken.1, broke_on on.served w.broken.2);
  read = w.read;
  marked = w.marked;
  waited = w.waited;
  starved = w.starved;
}

-- where it has ended
pub goes_ended : (p : Rule) (s : EndpointState) (r r1 : Option (List ℕ)) (reader_failed : Bool) (x y : Ends) → Works p reading reading s s x.writer y.writer x.sink y.sink → Keeps r r1 → ¬ (IsTrue reader_failed) → s.unsent ≡ []
    → IsIdle s → AreOpen y → HasGone p s s r r1 reader_failed x y
goes_ended p s r r1 reader_failed x y on kept fine sent idle fit =
    record { read = record { bytes = []; read = Consumes-kept r r r1 [] (Consumes-nil r) kept; served = on.served }; idle = idle; sent = sent; still = fit; reader = fine }

-- an exit by a fault
pub goes_lost : (q : Result (Unit {0}) ServeFault) (p : Rule) (lost fault : ServeFault) (s t : EndpointState) (r r1 : Option (List ℕ)) (reader_failed : Bool) (x y : Ends) → q ≡ Err lost → lost ≡ fault
    → IsLost p fault s t r r1 reader_failed x y → Goes p q s t r r1 reader_failed x y
goes_lost q p lost fault s t r r1 reader_failed x y is same off =
    subst (λ (v : Result (Unit {0}) ServeFault). Goes p v s t r r1 reader_failed x y) (sym is) (subst (λ (e : ServeFault). IsLost p e s t r r1 reader_failed x y) (sym same) off)

-- Both are flushed where memory was refused. ----------------------------------------------------------------------------------

module _ (p q : Rule) (e : ServeFault) (s t : EndpointState) (r r1 w w1 w2 k k1 k2 : Option (List ℕ)) (same : p ≡ q) (is : e ≡ fault.NoMemory) (x : HasBroken p e s t r r1 w w1 k k1) (answers : Keeps w1 w2)
    (records : Keeps k1 k2) where
  here : HasBroken q fault.NoMemory s t r r1 w w1 k k1
  here = subst (λ (z : Rule). HasBroken z fault.NoMemory s t r r1 w w1 k k1) same (subst (λ (z : ServeFault). HasBroken p z s t r r1 w w1 k k1) is x)

  -- which does nothing more
  pub starved_flushed : HasBroken q fault.NoMemory s t r r1 w w2 k k2
  starved_flushed =
      let b = here.2 in (
        here.0,
        here.1,
        record {
          stand = b.stand;
          steps = b.steps;
          last = b.last;
          serves = b.serves;
          same = b.same;
          fed = b.fed;
          written = Appends-kept w w1 w2 (moved b.steps) b.written answers;
          noted = b.noted;
          unnoted = b.unnoted;
          records = b.records;
          sink = Appends-kept k k1 k2 b.noted b.sink records;
          left = b.left;
        },
      )

  -- or one of them fails then
  pub starved_lost : (lost : ServeFault) → (lost ≡ fault.Write) ⊎ (lost ≡ fault.Sink) → HasBroken q lost s t r r1 w w2 k k2
  starved_lost lost which =
      let b = here.2 in (
        here.0,
        here.1,
        record {
          stand = b.stand;
          steps = b.steps;
          last = b.last;
          serves = b.serves;
          same = b.same;
          fed = b.fed;
          written = Appends-kept w w1 w2 (moved b.steps) b.written answers;
          noted = b.noted;
          unnoted = b.unnoted;
          records = b.records;
          sink = Appends-kept k k1 k2 b.noted b.sink records;
          left = left lost which b.stand b.steps b.noted b.unnoted b.left.1;
        },
      )
    where
      left : (lost : ServeFault) → (lost ≡ fault.Write) ⊎ (lost ≡ fault.Sink) → (stand : Stand) (steps : List Step) (noted unnoted : List ℕ) → unnoted ≡ [] → IsLeft lost stand steps noted unnoted
      left lost (inl write) stand steps noted unnoted none = subst (λ (z : ServeFault). IsLeft z stand steps noted unnoted) (sym write) none
      left lost (inr sink) stand steps noted unnoted none = subst (λ (z : ServeFault). IsLeft z stand steps noted unnoted) (sym sink) (inl none)
