use Rattle.std.proofs.Common.{◌≡◌, ◌-◌, List, ℕ, length, take, drop, inl, subst, arith, length-drop, take_all}
use Rattle.std.proofs.KnownBytes.{Appends-nil}
use Rattle.std.specs.Io.KnownBytes.{Appends}
use Rattle.amqp_frame.specs.Devices.{device_inner, AppendsFront}
use Rattle.amqp_frame.proofs.Results.{on_err}
use Rattle.amqp_records.specs.Printing.{BeginsWriting}
use Rattle.amqp_records.proofs.Printings.{line_written, message_written, ok_map, err_map, Writes, front_begins}
use Rattle.amqp_records.proofs.printer.print_record.Goals as goal

pub returns-in-Only-clause-begun : goal.returns-in-Only-clause-begun
returns-in-Only-clause-begun g c =
    let w = g.W.Write.contents (device_inner c.args.writer.now) in
    let w1 = g.W.Write.contents (device_inner c.write_out.new.writer) in
    let bytes = c.args.bytes.now in
    let is = message_written c.args.output c.in-Only.wanted c.args.number bytes c.in-Only.is c.if-number-wanted.false in
    let part = take (length bytes - 18) (drop 18 bytes) in
    let whole : part ≡ drop 18 bytes = take_all (length bytes - 18) (drop 18 bytes) (omega (arith, length-drop 18 bytes)) in
    err_map c.write_out.result (AppendsFront w w1 part) (BeginsWriting c.args.output c.args.number bytes w w1)
    (λ p. front_begins c.args.output c.args.number bytes (drop 18 bytes) w w1 is (subst (λ (y : List ℕ). AppendsFront w w1 y) whole p)) c.write_out.ensures.begun

pub returns-in_err-put_line_of-clause-begun : goal.returns-in_err-put_line_of-clause-begun
returns-in_err-put_line_of-clause-begun g c =
    let w = g.W.Write.contents (device_inner c.args.writer.now) in
    let begins : BeginsWriting c.args.output c.args.number c.args.bytes.now w w = inl (Appends-nil w) in
    on_err _ _ begins

pub returns-clause-written : goal.returns-clause-written
returns-clause-written g c =
    let w = g.W.Write.contents (device_inner c.args.writer.now) in
    let w1 = g.W.Write.contents (device_inner c.write_out-2.new.writer) in
    let line = c.put_line_of.new.scratch.line.items in
    let is = line_written c.args.output c.args.number c.args.bytes.now line c.in_default.not-Only c.in_ok-put_line_of.ensures in
    ok_map c.write_out-2.result (Appends w w1 c.deref.result.now) (Writes c.args.output c.args.number c.args.bytes.now w w1)
    (λ went. (line, is, subst (λ (y : List ℕ). Appends w w1 y) c.deref.ensures.value went)) c.write_out-2.ensures.written

pub returns-clause-begun : goal.returns-clause-begun
returns-clause-begun g c =
    let w = g.W.Write.contents (device_inner c.args.writer.now) in
    let w1 = g.W.Write.contents (device_inner c.write_out-2.new.writer) in
    let line = c.put_line_of.new.scratch.line.items in
    let is = line_written c.args.output c.args.number c.args.bytes.now line c.in_default.not-Only c.in_ok-put_line_of.ensures in
    err_map c.write_out-2.result (AppendsFront w w1 c.deref.result.now) (BeginsWriting c.args.output c.args.number c.args.bytes.now w w1)
    (λ p. front_begins c.args.output c.args.number c.args.bytes.now line w w1 is (subst (λ (y : List ℕ). AppendsFront w w1 y) c.deref.ensures.value p)) c.write_out-2.ensures.begun
