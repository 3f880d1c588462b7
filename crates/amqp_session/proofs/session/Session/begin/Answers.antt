use Rattle.amqp_session.proofs.Dones.{apart_begins}
use Rattle.amqp_session.proofs.Indexed.{indexed_begins}
use Rattle.amqp_session.proofs.session.Session.begin.Goals as goal

pub invariant_of-result : goal.invariant_of-result
invariant_of-result g c = record {
  apart = apart_begins c.begin.result c.args.terms c.begin.ensures;
  indexed = indexed_begins c.new.result c.begin.result c.args.terms c.new.ensures c.begin.ensures;
}
