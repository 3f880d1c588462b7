use Rattle.std.proofs.Common.{ap, ◌∙◌}
use Rattle.std.specs.Prelude.{not}
use Rattle.amqp_session.specs.Indexes.{is_untaken}
use Rattle.amqp_session.proofs.Lookups.{once_at}
use Rattle.amqp_session.proofs.Swept.{one_indexed}
use Rattle.amqp_session.proofs.session.settle_one.Goals as goal

pub standing-requires : goal.standing-requires
standing-requires g c = once_at c.args.state.now c.args.id c.args.kept.handle c.requires.known.apart c.ranges.id.fits

pub returns-clause-known : goal.returns-clause-known
returns-clause-known g c = record {
  apart = c.peer_settled_at-count.ensures.apart;
  indexed =
      one_indexed c.open_ids_grow_by_heads.ensures c.args.index.now c.close.new.self c.args.state.now c.peer_settled_at-count.new.state c.args.id c.args.kept _ c.ranges.id.fits c.peer_settled_at-count.ensures.new c.requires.here
      (ap not (c.is_untaken-untaken.ensures ∙ ap is_untaken c.standing.ensures)) c.close.ensures c.requires.known.indexed;
}
