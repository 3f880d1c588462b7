use Rattle.std.proofs.Common.{List, [], ◌∷◌, ◌++◌, map, ap, subst, ◌∙◌}
use Rattle.std.proofs.lemmas.List.{map-append}
use Rattle.amqp_endpoint.specs.Endpoints.{handed_in}
use Rattle.amqp_endpoint.specs.Runs.{Does, InSession, Handed, HandedUp}
use Rattle.amqp_endpoint.specs.Steps.{EndpointState}
use Rattle.amqp_pair.specs.Turns.{Ends}
use Rattle.amqp_session.specs.Calls.{Take}
use Rattle.amqp_pair.proofs.pair.Pair.take.Goals as goal

pub returns-in_ok-push-in-Ok : goal.returns-in_ok-push-in-Ok
returns-in_ok-push-in-Ok g c =
    let x : Handed = handed_in c.in-Ok.taken in (
      x,
      record {
        does = subst (λ (z : EndpointState). Does z c.take.new.self (InSession 0 (Take 0)) (HandedUp x)) (ap (λ (s : Ends). s.endpoint) c.self.view_is) c.in-Ok.ensures;
        rest = record {
          sender = ap (λ (s : Ends). s.sender) c.self.view_is;
          to_endpoint = ap (λ (s : Ends). s.to_endpoint) c.self.view_is;
          to_sender = ap (λ (s : Ends). s.to_sender) c.self.view_is;
          taken = ap (λ ts. map handed_in ts) c.in_ok-push-in-Ok.ensures.items ∙ map-append handed_in c.self.inside.taken.items (c.in-Ok.taken ∷ [])
              ∙ ap (λ (ds : List Handed). ds ++ x ∷ []) (ap (λ (s : Ends). s.taken) c.self.view_is);
        };
      },
    )
