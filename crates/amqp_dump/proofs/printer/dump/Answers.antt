use Rattle.amqp_frame.specs.Devices.{device_inner, has_ended}
use Rattle.amqp_frame.proofs.Results.{on_err}
use Rattle.amqp_dump.proofs.Printings.{none_begun}
use Rattle.amqp_dump.proofs.printer.dump.Goals as goal

pub returns-in_err-scanner-clause-begun : goal.returns-in_err-scanner-clause-begun
returns-in_err-scanner-clause-begun g c =
    on_err _ _ (none_begun (g.R.Read.remaining (device_inner c.args.reader.now)) (g.W.Write.contents (device_inner c.args.writer.now)) (has_ended c.args.reader.now))

pub returns-in_err-lines-clause-begun : goal.returns-in_err-lines-clause-begun
returns-in_err-lines-clause-begun g c =
    on_err _ _ (none_begun (g.R.Read.remaining (device_inner c.args.reader.now)) (g.W.Write.contents (device_inner c.args.writer.now)) (has_ended c.args.reader.now))

pub returns-in_err-piece-clause-begun : goal.returns-in_err-piece-clause-begun
returns-in_err-piece-clause-begun g c =
    on_err _ _ (none_begun (g.R.Read.remaining (device_inner c.args.reader.now)) (g.W.Write.contents (device_inner c.args.writer.now)) (has_ended c.args.reader.now))
