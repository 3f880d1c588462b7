use Rattle.std.proofs.Common.{Bool, sym, ap, ◌∙◌}
use Rattle.amqp_session.specs.Indexes.{found, closed_of}
use Rattle.amqp_session.proofs.Lookups.{found_here}
use Rattle.amqp_session.proofs.RangeIndexes.{one_answered, one_known}
use Rattle.amqp_session.proofs.ranges.settle_one.Goals as goal

pub settle_at-standing-requires-clause-whole : goal.settle_at-standing-requires-clause-whole
settle_at-standing-requires-clause-whole g c = found_here c.args.index.now c.args.state.now.links c.requires.known.indexed c.args.id c.ranges.id.fits c.args.kept (sym c.requires.here)

pub returns-clause-standing : goal.returns-clause-standing
returns-clause-standing g c =
    c.settle_at-standing.ensures.standing ∙ sym (found_here c.args.index.now c.args.state.now.links c.requires.known.indexed c.args.id c.ranges.id.fits c.args.kept (sym c.requires.here))

pub returns-clause-settled : goal.returns-clause-settled
returns-clause-settled g c = λ a.
    one_answered c.args.index.now c.args.state.now c.settle_at-standing.new.state c.args.id c.args.kept c.settle_at-standing.result c.requires.known c.ranges.id.fits c.is_numbered.ensures
    (sym c.requires.here) (sym c.settle_at-standing.ensures.standing) (c.settle_at-standing.ensures.settled a) a

pub returns-clause-known : goal.returns-clause-known
returns-clause-known g c =
    one_known c.args.index.now c.args.state.now c.settle_at-standing.new.state c.args.id c.args.kept c.settle_at-standing.result c.requires.known c.ranges.id.fits c.is_numbered.ensures
    (sym c.requires.here) (sym c.settle_at-standing.ensures.standing) c.open_ids_grow_by_heads.ensures c.close.new.self c.settle_at-standing.ensures.settled c.settle_at-standing.ensures.same
    (λ q m. c.close.ensures q m ∙ ap (λ (b : Bool). closed_of b c.args.id q (found c.args.index.now q)) c.settles_at_once.ensures)
