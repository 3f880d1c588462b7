use Rattle.std.proofs.Common.{ℕ, List, map, refl, subst}
use Rattle.amqp_endpoint.specs.Endpoints.{handed_in}
use Rattle.amqp_send.specs.Runs as of_sender
use Rattle.amqp_pair.specs.Turns.{Ends, IsHeardWhole}
use Rattle.amqp_pair.proofs.pair.Pair.hear.Goals as goal

pub returns : goal.returns
returns g c =
    let pair = c.self.inside in
    let used = c.feed-used.result.0 in
    let news = c.feed-used.result.1 in
    let new : Ends = record { sender = c.feed-used.new.self; endpoint = pair.endpoint; to_endpoint = pair.to_endpoint.items; to_sender = c.drop_front.new.bytes.items; taken = map handed_in pair.taken.items } in
    subst (λ (s : Ends). IsHeardWhole s new used news) c.self.view_is
    (record {
      fed = subst (λ (l : List ℕ). of_sender.Does pair.sender c.feed-used.new.self (of_sender.Feed l) (of_sender.Fed used news)) c.deref.ensures.value c.feed-used.ensures.does;
      pipe = c.drop_front.ensures;
      endpoint = refl;
      other = refl;
      taken = refl;
    })
