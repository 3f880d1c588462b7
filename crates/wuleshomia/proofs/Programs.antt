-- A program's calls on one handle, one behind another.
use Rattle.std.proofs.Common.{ℕ, List, [], ◌∷◌, ◌++◌, refl, subst}
use Rattle.amqp_endpoint.specs.declared.event.Outcome.{Outcome}
use Rattle.amqp_endpoint.specs.Runs.{Call, Feed, Answer, Fed, Does, Run}
use Rattle.amqp_endpoint.specs.Steps.{EndpointState, IsKept, IsFed}
use Rattle.amqp_serve.specs.declared.rules.Rule.{Rule}
use Rattle.amqp_serve.specs.Serving as by
use Rattle.amqp_serve.specs.Serving.{Stand, Step, calls_of, answers_of}
use Rattle.amqp_serve.specs.declared.supplies.Supply.{Supply}
use Rattle.amqp_serve.specs.Supplying.{Supplies, Rests, Passes, Gives}
use Rattle.wuleshomia.specs.declared.held.Held.{Held}
use Rattle.wuleshomia.specs.Programs.{Exports, Ends, Calls, Takes, TopsUp, TopsUpTo, Reads, Serves, IsRunTo}
use Rattle.wuleshomia.proofs.Keeping.{kept_same, kept_on, run_on}

-- one run behind another
run_joins : (s t u : EndpointState) (calls more : List Call) (answers told : List Answer) → Run s calls answers t → Run t more told u → Run s (calls ++ more) (answers ++ told) u
run_joins s t u [] more [] told x y = subst (λ (m : EndpointState). Run m more told u) x y
run_joins s t u [] more (a ∷ answers) told x y = absurd x
run_joins s t u (c ∷ calls) more [] told x y = absurd x
run_joins s t u (c ∷ calls) more (a ∷ answers) told x y = (x.0, x.1, run_joins x.0 t u calls more answers told x.2 y)

module _ (fed_on : (s read new : EndpointState) (piece : List ℕ) (used : ℕ) (o : Outcome) → IsKept s read → IsFed read new piece used o → Does s new (Feed piece) (Fed used o))
    (steps_run : (r : Rule) (a b : Stand) (s t : EndpointState) (steps : List Step) → by.Serves r a s steps b t → Run s (calls_of steps) (answers_of steps) t) where
  -- a call, and then others
  one_more : {s next t : EndpointState} {calls : List Call} {answers : List Answer} (c : Call) (a : Answer) → Does s next c a → IsRunTo next calls answers t → IsRunTo s (c ∷ calls) (a ∷ answers) t
  one_more {s} {next} c a x y = record { last = y.last; run = (next, x, y.run); same = y.same }

  -- supplies that were given what they lacked
  supplies_run : {r : Rule} {window : ℕ} {supplies left : List Supply} {s t : EndpointState} {steps : List Step} → Supplies r window supplies s steps left t → Run s (calls_of steps) (answers_of steps) t
  supplies_run Rests = refl
  supplies_run (Passes supply supplies none x) = supplies_run x
  supplies_run (Gives next supply supplies some d x) = (next, d, supplies_run x)

  -- these calls, and then others
  more : {s next t : EndpointState} {calls : List Call} {answers : List Answer} (steps : List Step) → Run s (calls_of steps) (answers_of steps) next → IsRunTo next calls answers t
      → IsRunTo s (calls_of steps ++ calls) (answers_of steps ++ answers) t
  more {s} {next} {t} {calls} {answers} steps x y = record { last = y.last; run = run_joins s next y.last (calls_of steps) calls (answers_of steps) answers x y.run; same = y.same }

  pub exports_run : {s t : Held} {calls : List Call} {answers : List Answer} → Exports s calls answers t → IsRunTo s.endpoint calls answers t.endpoint
  exports_run (Ends {s}) = record { last = s.endpoint; run = refl; same = kept_same s.endpoint }
  exports_run (Calls next call answer x rest) = one_more call answer x.does (exports_run rest)
  exports_run (Takes next channel handle t x rest) = one_more _ _ x.does (exports_run rest)
  exports_run (TopsUp next r window supplies x rest) = more x.steps (supplies_run x.given) (exports_run rest)
  exports_run (TopsUpTo next r window supplies f x rest) = more x.steps (supplies_run x.given) (one_more _ _ x.refused (exports_run rest))
  exports_run (Reads {s} {last} {calls} {answers} next same rest) = subst (λ (m : EndpointState). IsRunTo m calls answers last.endpoint) same (exports_run rest)
  exports_run (Serves {s} {last} {calls} {answers} next r a b steps left x same rest) =
      let y = exports_run rest in
      let z = run_on fed_on left next.endpoint y.last calls answers same y.run in
      record { last = z.last; run = run_joins s.endpoint left z.last (calls_of steps) calls (answers_of steps) answers (steps_run r a b s.endpoint left steps x) z.run; same = kept_on z.same y.same }
