use Rattle.std.proofs.Common.{◌≡◌, ℕ, ◌-◌, List, [], ◌++◌, length, take, sym, ap, ◌∙◌, subst, arith, rules}
use Rattle.std.proofs.KnownBytes.{Consumes-nil, Consumes-trans, Consumes-kept}
use Rattle.std.proofs.lemmas.Bool.{eqb-true}
use Rattle.std.proofs.lemmas.Grind.{common_steps}
use Rattle.std.proofs.lemmas.List.{nil_from_length}
use Rattle.std.specs.Vec.{vec_len}
use Rattle.amqp_frame.specs.Devices.{device_inner}
use Rattle.amqp_frame.proofs.Results.{on_err}
use Rattle.amqp_records.specs.declared.record.Front.TheVariants.{Whole, TooLong}
use Rattle.amqp_records.specs.Records.{front_of, BeginsNoRecord}
use Rattle.amqp_records.specs.Printing.{HasPrinted, Prints, BreaksOff, IsNothing, IsTooLong}
use Rattle.amqp_records.proofs.Printings.{none_printed, begun_here, prints}
use Rattle.amqp_records.proofs.printer.print_all.Goals as goal

pub loop-alloc-init : goal.loop-alloc-init
loop-alloc-init g c =
    let limit = c.args.max_message in
    let r0 = g.R.Read.remaining (device_inner c.args.reader.now) in
    let w0 = g.W.Write.contents (device_inner c.args.writer.now) in
    let arrived = c.new-arrived.result.items in
    let none : arrived ≡ [] = c.new-arrived.ensures.items in
    record {
      some = c.requires.some;
      reads = c.requires.reader;
      writes = c.requires.writer;
      printed = ([], Consumes-nil r0, subst (λ (y : List ℕ). HasPrinted c.args.output limit w0 w0 1 0 y []) (sym none) (none_printed c.args.output limit w0));
      none = λ n e. let never : front_of limit [] ≡ Whole n = subst (λ (y : List ℕ). front_of limit y ≡ Whole n) none e in absurd cc;
      short = λ e. let never : front_of limit [] ≡ TooLong = subst (λ (y : List ℕ). front_of limit y ≡ TooLong) none e in absurd cc;
    }

pub returns-in_err-count-clause-shown : goal.returns-in_err-count-clause-shown
returns-in_err-count-clause-shown g c = λ same.
    let old = c.loop-alloc in
    let r = g.R.Read.remaining (device_inner old.reader) in
    let r0 = g.R.Read.remaining (device_inner c.args.reader.now) in
    let r1 = g.R.Read.remaining (device_inner c.read_piece.new.reader) in
    let w = g.W.Write.contents (device_inner old.writer) in
    let w0 = g.W.Write.contents (device_inner c.args.writer.now) in
    let p = old.invariant.printed in (
      old.due.number - 1,
      old.due.place,
      prints c.args.output c.args.max_message r0 r1 w0 w old.due.number old.due.place old.arrived.items p.0 (BeginsNoRecord c.args.max_message)
          (Consumes-kept r0 r r1 p.0 p.1 c.in_err-count.ensures.kept) p.2 old.invariant.none,
    )

pub returns-in_err-count-clause-begun : goal.returns-in_err-count-clause-begun
returns-in_err-count-clause-begun g c =
    let old = c.loop-alloc in
    let r = g.R.Read.remaining (device_inner old.reader) in
    let r0 = g.R.Read.remaining (device_inner c.args.reader.now) in
    let r1 = g.R.Read.remaining (device_inner c.read_piece.new.reader) in
    let w = g.W.Write.contents (device_inner old.writer) in
    let w0 = g.W.Write.contents (device_inner c.args.writer.now) in
    let p = old.invariant.printed in
    let broken : BreaksOff c.args.output c.args.max_message r0 r1 w0 w = (
      p.0,
      Consumes-kept r0 r r1 p.0 p.1 c.in_err-count.ensures.kept,
      begun_here c.args.output c.args.max_message w0 w old.due.number old.due.place old.arrived.items p.0 p.2,
    ) in
    on_err _ _ broken

pub returns-in_err-print_piece-clause-begun : goal.returns-in_err-print_piece-clause-begun
returns-in_err-print_piece-clause-begun g c =
    let old = c.loop-alloc in
    let r = g.R.Read.remaining (device_inner old.reader) in
    let r0 = g.R.Read.remaining (device_inner c.args.reader.now) in
    let r1 = g.R.Read.remaining (device_inner c.read_piece.new.reader) in
    let w0 = g.W.Write.contents (device_inner c.args.writer.now) in
    let w1 = g.W.Write.contents (device_inner c.print_piece.new.writer) in
    let piece = take c.in_ok-count.count c.read_piece.new.piece in
    let p = old.invariant.printed in
    let broken : BreaksOff c.args.output c.args.max_message r0 r1 w0 w1 = (
      p.0 ++ piece,
      Consumes-trans r0 r r1 p.0 piece p.1 c.in_ok-count.ensures.bytes,
      c.in_err-print_piece.ensures.begun w0 p.0 p.2,
    ) in
    on_err _ _ broken

pub returns-in-TooLong-clause-long : goal.returns-in-TooLong-clause-long
returns-in-TooLong-clause-long g c = λ place same.
    let old = c.loop-alloc in
    let new = c.print_piece.new in
    let r = g.R.Read.remaining (device_inner old.reader) in
    let r0 = g.R.Read.remaining (device_inner c.args.reader.now) in
    let r1 = g.R.Read.remaining (device_inner c.read_piece.new.reader) in
    let w0 = g.W.Write.contents (device_inner c.args.writer.now) in
    let w1 = g.W.Write.contents (device_inner new.writer) in
    let piece = take c.in_ok-count.count c.read_piece.new.piece in
    let p = old.invariant.printed in
    let is : new.due.place ≡ place = cc in
    let long : IsTooLong c.args.max_message new.arrived.items = ap (front_of c.args.max_message) (sym c.deref.ensures.value) ∙ sym c.front_of.ensures ∙ c.in-TooLong.is in
    let printed = prints c.args.output c.args.max_message r0 r1 w0 w1 new.due.number new.due.place new.arrived.items (p.0 ++ piece) (IsTooLong c.args.max_message)
    (Consumes-trans r0 r r1 p.0 piece p.1 c.in_ok-count.ensures.bytes) (c.in_ok-print_piece.ensures.on w0 p.0 p.2) long
    in
    (new.due.number - 1, subst (λ (k : ℕ). Prints c.args.output c.args.max_message r0 r1 w0 w1 (new.due.number - 1) k (IsTooLong c.args.max_message)) is printed)

pub returns-in-TooLong-clause-begun : goal.returns-in-TooLong-clause-begun
returns-in-TooLong-clause-begun g c =
    let old = c.loop-alloc in
    let new = c.print_piece.new in
    let r = g.R.Read.remaining (device_inner old.reader) in
    let r0 = g.R.Read.remaining (device_inner c.args.reader.now) in
    let r1 = g.R.Read.remaining (device_inner c.read_piece.new.reader) in
    let w0 = g.W.Write.contents (device_inner c.args.writer.now) in
    let w1 = g.W.Write.contents (device_inner new.writer) in
    let piece = take c.in_ok-count.count c.read_piece.new.piece in
    let p = old.invariant.printed in (
      p.0 ++ piece,
      Consumes-trans r0 r r1 p.0 piece p.1 c.in_ok-count.ensures.bytes,
      begun_here c.args.output c.args.max_message w0 w1 new.due.number new.due.place new.arrived.items (p.0 ++ piece) (c.in_ok-print_piece.ensures.on w0 p.0 p.2),
    )

pub loop-alloc-preserved : goal.loop-alloc-preserved
loop-alloc-preserved g c =
    let old = c.loop-alloc in
    let new = c.print_piece.new in
    let r = g.R.Read.remaining (device_inner old.reader) in
    let r0 = g.R.Read.remaining (device_inner c.args.reader.now) in
    let r1 = g.R.Read.remaining (device_inner c.read_piece.new.reader) in
    let w0 = g.W.Write.contents (device_inner c.args.writer.now) in
    let piece = take c.in_ok-count.count c.read_piece.new.piece in
    let p = old.invariant.printed in
    record {
      some = omega (arith, old.invariant.some, c.read_piece.auto.piece);
      reads = first_of (search rules, grind (arith, common_steps));
      writes = first_of (search rules, grind (arith, common_steps));
      printed = (
        p.0 ++ piece,
        Consumes-trans r0 r r1 p.0 piece p.1 c.in_ok-count.ensures.bytes,
        c.in_ok-print_piece.ensures.on w0 p.0 p.2,
      );
      none = c.in_ok-print_piece.ensures.none;
      short = λ e. c.in_default.not-TooLong (c.front_of.ensures ∙ ap (front_of c.args.max_message) c.deref.ensures.value ∙ e);
    }

pub returns-then-is_empty-clause-printed : goal.returns-then-is_empty-clause-printed
returns-then-is_empty-clause-printed g c =
    let old = c.loop-alloc in
    let r = g.R.Read.remaining (device_inner old.reader) in
    let r0 = g.R.Read.remaining (device_inner c.args.reader.now) in
    let w = g.W.Write.contents (device_inner old.writer) in
    let w0 = g.W.Write.contents (device_inner c.args.writer.now) in
    let p = old.invariant.printed in
    let none : vec_len old.arrived ≡ 0 = eqb-true _ 0 (sym c.is_empty.ensures ∙ c.if-is_empty.true) in
    let zero : length old.arrived.items ≡ 0 = first_of (search rules, grind (arith, common_steps)) in
    (old.due.place, prints c.args.output c.args.max_message r0 r w0 w old.due.number old.due.place old.arrived.items p.0 IsNothing p.1 p.2 (nil_from_length old.arrived.items zero))
