-- What is seen of the record of a link.
use Rattle.amqp_session.specs.declared.state.Record.{Record}
use Rattle.amqp_session.specs.Sessions.{LiveLink}

module _ {A : Type 0} where
  abbrev pub live_of : Record A → LiveLink
  live_of r = record { name = r.name.items; source = r.source.items; target = r.target.items; link = r.link }
