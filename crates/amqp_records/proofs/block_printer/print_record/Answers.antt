use Rattle.std.proofs.Common.{◌≡◌, ◌-◌, List, ℕ, length, take, drop, inl, sym, subst, arith, length-drop, take_all}
use Rattle.std.proofs.KnownBytes.{Appends-nil}
use Rattle.std.specs.Io.KnownBytes.{Appends}
use Rattle.amqp_frame.specs.Devices.{device_inner, AppendsFront}
use Rattle.amqp_frame.proofs.Results.{on_err}
use Rattle.amqp_records.specs.Printing.{IsLineOf}
use Rattle.amqp_records.specs.BlockPrinting.{BeginsTelling}
use Rattle.amqp_records.proofs.Printings.{ok_map, err_map}
use Rattle.amqp_records.proofs.BlockTellings.{line_told, message_told, Tells, front_told}
use Rattle.amqp_records.proofs.block_printer.print_record.Goals as goal

pub returns-in-Only-clause-begun : goal.returns-in-Only-clause-begun
returns-in-Only-clause-begun g c =
    let w = g.W.Write.contents (device_inner c.args.writer.now) in
    let w1 = g.W.Write.contents (device_inner c.write_out.new.writer) in
    let bytes = c.args.bytes.now in
    let is = message_told c.args.output c.in-Only.wanted c.args.connection c.args.number bytes c.in-Only.is c.if-number-wanted.false in
    let part = take (length bytes - 18) (drop 18 bytes) in
    let whole : part ≡ drop 18 bytes = take_all (length bytes - 18) (drop 18 bytes) (omega (arith, length-drop 18 bytes)) in
    err_map c.write_out.result (AppendsFront w w1 part) (BeginsTelling c.args.output c.args.connection c.args.number bytes w w1)
    (λ p. front_told c.args.output c.args.connection c.args.number bytes (drop 18 bytes) w w1 is (subst (λ (y : List ℕ). AppendsFront w w1 y) whole p)) c.write_out.ensures.begun

pub returns-in_err-put_line_of-clause-begun : goal.returns-in_err-put_line_of-clause-begun
returns-in_err-put_line_of-clause-begun g c =
    let w = g.W.Write.contents (device_inner c.args.writer.now) in
    let begins : BeginsTelling c.args.output c.args.connection c.args.number c.args.bytes.now w w = inl (Appends-nil w) in
    on_err _ _ begins

pub returns-in_err-line-clause-begun : goal.returns-in_err-line-clause-begun
returns-in_err-line-clause-begun g c =
    let w = g.W.Write.contents (device_inner c.args.writer.now) in
    let begins : BeginsTelling c.args.output c.args.connection c.args.number c.args.bytes.now w w = inl (Appends-nil w) in
    on_err _ _ begins

pub returns-clause-told : goal.returns-clause-told
returns-clause-told g c =
    let w = g.W.Write.contents (device_inner c.args.writer.now) in
    let w1 = g.W.Write.contents (device_inner c.write_out-2.new.writer) in
    let line = c.line.result.now in
    let whole = c.in_ok-line.line.items in
    let is = line_told c.args.output c.args.connection c.args.number c.args.bytes.now line whole c.in_default.not-Only
    (subst (IsLineOf c.args.output c.args.number c.args.bytes.now) (sym c.line.ensures) c.in_ok-put_line_of.ensures) c.in_ok-line.ensures
    in
    ok_map c.write_out-2.result (Appends w w1 c.deref.result.now) (Tells c.args.output c.args.connection c.args.number c.args.bytes.now w w1)
    (λ went. (whole, is, subst (λ (y : List ℕ). Appends w w1 y) c.deref.ensures.value went)) c.write_out-2.ensures.written

pub returns-clause-begun : goal.returns-clause-begun
returns-clause-begun g c =
    let w = g.W.Write.contents (device_inner c.args.writer.now) in
    let w1 = g.W.Write.contents (device_inner c.write_out-2.new.writer) in
    let line = c.line.result.now in
    let whole = c.in_ok-line.line.items in
    let is = line_told c.args.output c.args.connection c.args.number c.args.bytes.now line whole c.in_default.not-Only
    (subst (IsLineOf c.args.output c.args.number c.args.bytes.now) (sym c.line.ensures) c.in_ok-put_line_of.ensures) c.in_ok-line.ensures
    in
    err_map c.write_out-2.result (AppendsFront w w1 c.deref.result.now) (BeginsTelling c.args.output c.args.connection c.args.number c.args.bytes.now w w1)
    (λ p. front_told c.args.output c.args.connection c.args.number c.args.bytes.now whole w w1 is (subst (λ (y : List ℕ). AppendsFront w w1 y) c.deref.ensures.value p)) c.write_out-2.ensures.begun
