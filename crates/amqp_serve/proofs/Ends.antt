-- Serving that might end now.
use Rattle.std.proofs.Common.{◌≡◌, ℕ, inr, true, List, [], ◌∷◌, Option, refl, sym}
use Rattle.amqp_endpoint.specs.Connections as event
use Rattle.amqp_endpoint.specs.Connections.{connection_after}
use Rattle.amqp_endpoint.specs.Runs.{IsFinished, end_of}
use Rattle.amqp_endpoint.specs.Steps.{EndpointState}
use Rattle.amqp_serve.specs.declared.rules.Rule.{Rule}
use Rattle.amqp_serve.specs.Serving.{reading, Over, Serves, Rests, Finishes, finish_of, Served, IsServed, IsIdle}
use Rattle.amqp_serve.proofs.Servings.{serves_on, run_of, ranges_of}

-- an endpoint whose input has ended
abbrev pub finished : EndpointState → EndpointState
finished s = record s { input = record s.input { filled = [] }; connection = connection_after s.connection event.Finished }

-- where no answer waits and no unit, the reader may have ended
unfoldable pub served_end : (p : Rule) (bytes : List ℕ) (s t : EndpointState) (w w1 k k1 : Option (List ℕ)) (x : Served p reading reading bytes s t w w1 k k1) → t.unsent ≡ [] → IsIdle t
    → IsServed p (end_of t) bytes true s (finished t) w w1 k k1
served_end p bytes s t w w1 k k1 x sent idle =
    let done : IsFinished t (finished t) = record { limit = refl; filled = refl; unsent = refl; connection = refl } in
    let ends : Serves p reading t (finish_of (end_of t) ∷ []) Over (finished t) = Finishes (finished t) (end_of t) sent (done, refl) Rests in
    record {
      steps = x.steps;
      before = t;
      serves = x.serves;
      ends = ends;
      run = run_of (serves_on x.serves ends);
      range = ranges_of (serves_on x.serves ends);
      fed = sym x.fed;
      over = inr refl;
      idle = λ _. idle;
      written = x.written;
      recorded = x.recorded;
    }
