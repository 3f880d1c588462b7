use Rattle.amqp_link.proofs.Bounds.{bytes_bound}
use Rattle.amqp_link.proofs.link.Link.held.Goals as goal

pub returns-clause-most : goal.returns-clause-most
returns-clause-most g c = rw (← c.self.view_is, c.bytes.ensures) (bytes_bound c.self.inside.terms c.self.inside.credit c.self.inside.deliveries c.self.invariant)
