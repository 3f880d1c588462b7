use Rattle.std.proofs.Common.{refl}
use Rattle.amqp_session.specs.Frames.{Disposes, disposing}
use Rattle.amqp_session.proofs.Dones.{frame_may}
use Rattle.amqp_session.proofs.session.Session.disposition.Goals as goal

pub returns-clause-may : goal.returns-clause-may
returns-clause-may g c =
    frame_may c.self.inside.state c.args.self.now (Disposes (disposing c.args.disposition.now)) c.self.view_is c.is_long.ensures
    tt refl
