use Rattle.std.proofs.Common.{ℕ, List, inl, inr, subst}
use Rattle.std.proofs.KnownBytes.{Keeps-refl}
use Rattle.amqp_frame.specs.Devices.{device_inner}
use Rattle.amqp_dump.specs.Entries.{entry_of}
use Rattle.amqp_dump.specs.Printing.{Prints}
use Rattle.amqp_frame.proofs.Results.{on_err}
use Rattle.amqp_dump.proofs.Printings.{end_began, end_fault, end_dump, put_all, put_prints, unput_prints, KeepsOrPrints}
use Rattle.amqp_dump.proofs.printer.print_end.Goals as goal

pub returns-in_err-put_line-in-Some-clause-begun : goal.returns-in_err-put_line-in-Some-clause-begun
returns-in_err-put_line-in-Some-clause-begun g c = λ held bytes h.
    let w0 = g.W.Write.contents (device_inner c.args.writer.now) in
    on_err _ _ (end_began held w0 w0 c.args.scanner.now c.in-Some.item bytes h c.in-Some.ensures.told (inl (Keeps-refl w0)))

pub returns-in_err-write_lines-in-Some-clause-begun : goal.returns-in_err-write_lines-in-Some-clause-begun
returns-in_err-write_lines-in-Some-clause-begun g c = λ held bytes h.
    let w0 = g.W.Write.contents (device_inner c.args.writer.now) in
    let w1 = g.W.Write.contents (device_inner c.write_lines.new.writer) in
    let entry = entry_of c.in-Some.item in
    let w = c.in_err-write_lines-in-Some.ensures.begun in
    let part : KeepsOrPrints entry w0 w1 c.args.lines.now.whole = inr (w.1, unput_prints entry w0 w1 c.args.lines.now c.put_line.new.out w.0 w.1 c.in_ok-put_line-in-Some.ensures w.2 w.3) in
    on_err _ _
    (end_began held w0 w1 c.args.scanner.now c.in-Some.item bytes h c.in-Some.ensures.told
    (subst (λ (x : List ℕ). KeepsOrPrints entry w0 w1 x) c.requires.empty part))

pub returns-in_ok-write_lines-in-Some-clause-dumped : goal.returns-in_ok-write_lines-in-Some-clause-dumped
returns-in_ok-write_lines-in-Some-clause-dumped g c = λ held bytes h.
    let w0 = g.W.Write.contents (device_inner c.args.writer.now) in
    let w1 = g.W.Write.contents (device_inner c.write_lines.new.writer) in
    let entry = entry_of c.in-Some.item in
    let waits = c.write_lines.new.lines.whole in
    let prints = put_prints entry w0 w1 c.args.lines.now c.put_line.new.out waits c.in_ok-put_line-in-Some.ensures
    (put_all w0 w1 c.put_line.new.out.whole waits c.in_ok-write_lines-in-Some.ensures.written c.in_ok-write_lines-in-Some.ensures.empty) in
    end_fault held w0 w1 waits c.args.scanner.now c.in-Some.item bytes h c.in-Some.ensures.told c.in-Some.ensures.fault
    (subst (λ (x : List ℕ). Prints entry w0 w1 x waits) c.requires.empty prints)
    c.in_ok-write_lines-in-Some.ensures.empty

pub returns-in-None-clause-dumped : goal.returns-in-None-clause-dumped
returns-in-None-clause-dumped g c = λ held bytes h.
    let w0 = g.W.Write.contents (device_inner c.args.writer.now) in
    end_dump held w0 c.args.scanner.now bytes h c.in-None.ensures.told
