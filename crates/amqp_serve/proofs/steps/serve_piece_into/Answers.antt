use Rattle.amqp_endpoint.specs.Connections.{is_dead}
use Rattle.amqp_serve.specs.Deeds.{filled, ends}
use Rattle.amqp_serve.proofs.Looks.{fed_behind}
use Rattle.amqp_serve.proofs.Servings.{kept_same}
use Rattle.amqp_serve.proofs.Stepping.{stepped, reached}
use Rattle.amqp_serve.proofs.steps.serve_piece_into.Goals as goal

pub follow_into-end-requires-clause-supplied : goal.follow_into-end-requires-clause-supplied
follow_into-end-requires-clause-supplied g c = λ is.
    fed_behind c.args.course.now.rule c.args.endpoint.now c.feed-fed.new.self c.args.piece.now c.feed-fed.result.used c.feed-fed.result.outcome c.holds_a_header.ensures c.requires.sent c.feed-fed.ensures
    (c.requires.course is)

pub returns-clause-stepped : goal.returns-clause-stepped
returns-clause-stepped g c =
    let follows = c.follow_into-end.ensures.follows in (
      follows.0,
      follows.1,
      stepped c.fills_are_feeds.ensures c.args.course.now.rule c.args.endpoint.now c.args.endpoint.now c.feed-fed.new.self c.follow_into-end.new.endpoint c.args.piece.now c.feed-fed.result.used c.feed-fed.result.outcome
          (ends g.W.Write.contents g.S.Write.contents c.args.writer.now c.args.sink.now) (ends g.W.Write.contents g.S.Write.contents c.follow_into-end.new.writer c.follow_into-end.new.sink) (kept_same c.args.endpoint.now)
          c.requires.sent c.are_bytes.ensures c.holds_a_header.ensures c.feed-fed.ensures (filled c.follow_into-end.result follows.0) follows.2,
    )

pub returns-clause-reaches : goal.returns-clause-reaches
returns-clause-reaches g c = reached (is_dead c.args.endpoint.now.connection.phase) c.args.endpoint.now c.feed-fed.new.self c.args.piece.now c.feed-fed.result.used c.feed-fed.result.outcome c.feed-fed.ensures
