use Rattle.std.proofs.Common.{arith, ◌∙◌}
use Rattle.amqp_session.proofs.Disposed.{is_once, one_done, one_apart, one_counted, one_at_most, none_done, none_counted}
use Rattle.amqp_session.proofs.session.peer_settled_at.Goals as goal

pub peer_settled_at-requires : goal.peer_settled_at-requires
peer_settled_at-requires g c = is_once c.args.state.now c.args.kept.handle c.args.id c.requires.apart c.requires.alone c.ranges.id.fits c.in-Some.link.now c.in-Some.link.now c.in-Some.ensures.value

pub returns-in-Some-clause-new : goal.returns-in-Some-clause-new
returns-in-Some-clause-new g c = one_done c.args.state.now c.args.kept.handle c.args.id c.requires.apart c.requires.alone c.ranges.id.fits c.in-Some.link.now c.peer_settled_at.new.self c.in-Some.ensures.value c.peer_settled_at.ensures.new

pub returns-in-Some-clause-apart : goal.returns-in-Some-clause-apart
returns-in-Some-clause-apart g c =
    one_apart c.args.state.now c.args.kept.handle c.args.id c.requires.apart c.requires.alone c.ranges.id.fits c.in-Some.link.now c.peer_settled_at.new.self c.in-Some.ensures.value c.open_ids_grow_by_heads.ensures
    c.peer_settled_at.ensures.new

pub returns-in-Some-clause-count : goal.returns-in-Some-clause-count
returns-in-Some-clause-count g c =
    c.peer_settled_at.ensures.count
    ∙ one_counted c.args.state.now c.args.kept.handle c.args.id c.requires.apart c.requires.alone c.ranges.id.fits c.in-Some.link.now c.in-Some.link.now c.in-Some.ensures.value

pub returns-in-Some-clause-most : goal.returns-in-Some-clause-most
returns-in-Some-clause-most g c =
    let few = one_at_most c.args.state.now c.args.kept.handle c.args.id c.requires.apart c.requires.alone c.ranges.id.fits c.in-Some.link.now c.in-Some.link.now c.in-Some.ensures.value in
    omega (arith, few, c.peer_settled_at.ensures.count)

pub returns-in-None-clause-new : goal.returns-in-None-clause-new
returns-in-None-clause-new g c = none_done c.args.state.now c.args.kept.handle c.args.id c.requires.apart c.requires.alone c.ranges.id.fits c.in-None.ensures.value

pub returns-in-None-clause-count : goal.returns-in-None-clause-count
returns-in-None-clause-count g c = none_counted c.args.state.now c.args.kept.handle c.args.id c.requires.apart c.requires.alone c.ranges.id.fits c.in-None.ensures.value
