use Rattle.std.proofs.Common.{ℕ, List, [], append-nil, sym, ◌∙◌}
use Rattle.amqp_frame.specs.Devices.{device_inner}
use Rattle.amqp_frame.proofs.Results.{on_err}
use Rattle.amqp_dump.specs.Printing.{Puts}
use Rattle.amqp_dump.proofs.printer.write_many.Goals as goal

pub returns-in_err-write_lines-clause-begun : goal.returns-in_err-write_lines-clause-begun
returns-in_err-write_lines-clause-begun g c =
    let held = g.W.Write.contents (device_inner c.args.writer.now) in
    let now = g.W.Write.contents (device_inner c.write_lines.new.writer) in
    let waited = c.args.lines.now.whole in
    let w = c.in_err-write_lines.ensures.begun in
    let puts : (missing : List ℕ) × Puts [] held now waited missing = (w.1, record { written = w.0; went = w.2; joined = sym w.3 ∙ sym (append-nil waited) }) in
    on_err _ _ puts
