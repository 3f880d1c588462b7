use Rattle.std.proofs.Common.{List, ℕ, take, subst}
use Rattle.amqp_serve.specs.Deeds.{filled, IsStepped, ends}
use Rattle.amqp_serve.proofs.Looks.{fed_behind}
use Rattle.amqp_serve.proofs.ServingFeeds.{take_twice, bytes_in_front}
use Rattle.amqp_serve.proofs.Stepping.{stepped}
use Rattle.amqp_serve.proofs.steps.serve_read_into.Goals as goal

pub follow_into-end-requires-clause-supplied : goal.follow_into-end-requires-clause-supplied
follow_into-end-requires-clause-supplied g c = λ is.
    fed_behind c.args.course.now.rule c.args.endpoint.now c.filled-fed.new.self (take c.args.n c.args.endpoint.now.input.spare) c.args.n c.filled-fed.result.outcome c.holds_a_header.ensures c.requires.sent
    c.filled-fed.ensures.fed (c.requires.course is)

pub returns-clause-stepped : goal.returns-clause-stepped
returns-clause-stepped g c =
    let follows = c.follow_into-end.ensures.follows in (
      follows.0,
      follows.1,
      λ s kept.
          let t = c.args.endpoint.now in
          let c_done = filled c.follow_into-end.result follows.0 in
          let spare = t.input.spare in
          let e = ends g.W.Write.contents g.S.Write.contents c.args.writer.now c.args.sink.now in
          let f = ends g.W.Write.contents g.S.Write.contents c.follow_into-end.new.writer c.follow_into-end.new.sink in
          subst (λ (l : List ℕ). IsStepped c.args.course.now.rule l c.filled-fed.result.outcome c_done s c.follow_into-end.new.endpoint e f) (take_twice c.args.n spare)
          (stepped c.fills_are_feeds.ensures c.args.course.now.rule s t c.filled-fed.new.self c.follow_into-end.new.endpoint (take c.args.n spare) c.args.n c.filled-fed.result.outcome e f kept c.requires.sent
          (bytes_in_front spare c.args.n c.spare_is_bytes.ensures) c.holds_a_header.ensures c.filled-fed.ensures.fed c_done follows.2),
    )
