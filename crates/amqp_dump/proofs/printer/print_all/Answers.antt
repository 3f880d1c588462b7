use Rattle.std.proofs.Common.{◌≡◌, ℕ, ◌+◌, ◌<◌, ◌++◌, Bool, true, false, [], length, take, Ok, Err, IfSome, inl, inr, sym, ap, subst, ◌∙◌, arith, length-append}
use Rattle.std.proofs.KnownBytes.{Consumes-nil, Consumes-trans, Consumes-kept}
use Rattle.std.proofs.lemmas.Bool.{false≢true, cases_lt}
use Rattle.std.proofs.lemmas.List.{length-take-le}
use Rattle.amqp_frame.specs.Devices.{device_inner, has_ended}
use Rattle.amqp_dump.specs.declared.printer.DumpFault.TheVariants.{Read, TooLong}
use Rattle.amqp_dump.specs.Printing.{IsDump, BeginsDump, Dumps, BreaksOff}
use Rattle.amqp_dump.specs.Steps.{taken_by}
use Rattle.amqp_dump.proofs.Tellings.{told_length}
use Rattle.amqp_frame.proofs.Results.{on_err}
use Rattle.amqp_dump.proofs.Printings.{map_ok, map_err, none_printed, shows, begun_on, begun_weak, dump_weak, whole_dump}
use Rattle.amqp_dump.proofs.printer.print_all.Goals as goal

pub loop-alloc-init : goal.loop-alloc-init
loop-alloc-init g c =
    let r0 = g.R.Read.remaining (device_inner c.args.reader.now) in
    let w0 = g.W.Write.contents (device_inner c.args.writer.now) in
    let none : length {A = ℕ} [] ≡ taken_by c.args.scanner.now = told_length c.args.scanner.now [] [] c.requires.none in
    record {
      some = c.requires.some;
      reads = c.requires.reader;
      writes = c.requires.writer;
      ready = c.requires.none.ready;
      short = omega (arith, none);
      empty = c.requires.empty;
      line = c.requires.line;
      printed = ([], Consumes-nil r0, none_printed w0 c.args.scanner.now c.requires.none);
      left = λ _. omega arith;
      whole = λ going _ ended. absurd (false≢true (sym going ∙ ended));
    }

pub returns-in-Err-clause-begun : goal.returns-in-Err-clause-begun
returns-in-Err-clause-begun g c =
    let r = g.R.Read.remaining (device_inner c.loop-alloc.reader) in
    let r0 = g.R.Read.remaining (device_inner c.args.reader.now) in
    let r1 = g.R.Read.remaining (device_inner c.read_piece.new.reader) in
    let w = g.W.Write.contents (device_inner c.loop-alloc.writer) in
    let w0 = g.W.Write.contents (device_inner c.args.writer.now) in
    let p = c.loop-alloc.invariant.printed in
    let came = c.in-Err.ensures.came in (
      p.0 ++ came.0,
      Consumes-trans r0 r r1 p.0 came.0 p.1 came.1,
      begun_weak w0 w (p.0 ++ came.0) (has_ended c.read_piece.new.reader) (begun_on w0 w c.loop-alloc.scanner p.0 came.0 p.2),
    )

pub returns-in-Err-clause-shown : goal.returns-in-Err-clause-shown
returns-in-Err-clause-shown g c = λ same.
    let r = g.R.Read.remaining (device_inner c.loop-alloc.reader) in
    let r0 = g.R.Read.remaining (device_inner c.args.reader.now) in
    let r1 = g.R.Read.remaining (device_inner c.read_piece.new.reader) in
    let w = g.W.Write.contents (device_inner c.loop-alloc.writer) in
    let w0 = g.W.Write.contents (device_inner c.args.writer.now) in
    let p = c.loop-alloc.invariant.printed in
    let read : c.in-Err.fault ≡ Read = cc in
    (p.0, Consumes-kept r0 r r1 p.0 p.1 (c.in-Err.ensures.kept (ap Err read)), shows w0 w c.loop-alloc.scanner p.0 p.2)

pub returns-in-Err-clause-long : goal.returns-in-Err-clause-long
returns-in-Err-clause-long g c = λ same.
    let r = g.R.Read.remaining (device_inner c.loop-alloc.reader) in
    let r0 = g.R.Read.remaining (device_inner c.args.reader.now) in
    let r1 = g.R.Read.remaining (device_inner c.read_piece.new.reader) in
    let p = c.loop-alloc.invariant.printed in
    let long : c.in-Err.fault ≡ TooLong = cc in
    let came = c.in-Err.ensures.long (ap Err long) in
    let before = told_length c.loop-alloc.scanner p.0 p.2.entries p.2.told in
    let joined = length-append p.0 came.0 in
    (p.0 ++ came.0, Consumes-trans r0 r r1 p.0 came.0 p.1 came.1, omega (arith, before, joined, came.2, c.taken.ensures))

pub returns-in_err-is_over-clause-begun : goal.returns-in_err-is_over-clause-begun
returns-in_err-is_over-clause-begun g c =
    let piece = take c.in-Ok.count c.read_piece.new.piece in
    let r = g.R.Read.remaining (device_inner c.loop-alloc.reader) in
    let r0 = g.R.Read.remaining (device_inner c.args.reader.now) in
    let r1 = g.R.Read.remaining (device_inner c.read_piece.new.reader) in
    let w0 = g.W.Write.contents (device_inner c.args.writer.now) in
    let w1 = g.W.Write.contents (device_inner c.print_piece.new.writer) in
    let p = c.loop-alloc.invariant.printed in
    let broken : BreaksOff r0 r1 w0 w1 (has_ended c.read_piece.new.reader) = (
      p.0 ++ piece,
      Consumes-trans r0 r r1 p.0 piece p.1 c.in-Ok.ensures.bytes,
      begun_weak w0 w1 (p.0 ++ piece) (has_ended c.read_piece.new.reader) (c.in_err-is_over.ensures.begun w0 p.0 p.2),
    ) in
    on_err _ _ broken

pub returns-then-is_over-clause-dumped : goal.returns-then-is_over-clause-dumped
returns-then-is_over-clause-dumped g c =
    let piece = take c.in-Ok.count c.read_piece.new.piece in
    let r = g.R.Read.remaining (device_inner c.loop-alloc.reader) in
    let r0 = g.R.Read.remaining (device_inner c.args.reader.now) in
    let r1 = g.R.Read.remaining (device_inner c.read_piece.new.reader) in
    let w0 = g.W.Write.contents (device_inner c.args.writer.now) in
    let w1 = g.W.Write.contents (device_inner c.print_piece.new.writer) in
    let p = c.loop-alloc.invariant.printed in (
      p.0 ++ piece,
      Consumes-trans r0 r r1 p.0 piece p.1 c.in-Ok.ensures.bytes,
      dump_weak w0 w1 (p.0 ++ piece) (has_ended c.read_piece.new.reader) false (c.in_ok-is_over.ensures.fault w0 p.0 p.2 (ap Ok c.if-is_over.true)),
    )

pub returns-then-is_over-clause-whole : goal.returns-then-is_over-clause-whole
returns-then-is_over-clause-whole g c = λ fresh full.
    let piece = take c.in-Ok.count c.read_piece.new.piece in
    let r = g.R.Read.remaining (device_inner c.loop-alloc.reader) in
    let r0 = g.R.Read.remaining (device_inner c.args.reader.now) in
    let r1 = g.R.Read.remaining (device_inner c.read_piece.new.reader) in
    let w0 = g.W.Write.contents (device_inner c.args.writer.now) in
    let w1 = g.W.Write.contents (device_inner c.print_piece.new.writer) in
    let p = c.loop-alloc.invariant.printed in
    whole_dump r0 r1 w0 w1 (p.0 ++ piece) false false (Consumes-trans r0 r r1 p.0 piece p.1 c.in-Ok.ensures.bytes)
    (c.in_ok-is_over.ensures.fault w0 p.0 p.2 (ap Ok c.if-is_over.true)) (λ no. absurd (false≢true no))

pub loop-alloc-preserved : goal.loop-alloc-preserved
loop-alloc-preserved g c =
    let piece = take c.in-Ok.count c.read_piece.new.piece in
    let r = g.R.Read.remaining (device_inner c.loop-alloc.reader) in
    let r0 = g.R.Read.remaining (device_inner c.args.reader.now) in
    let r1 = g.R.Read.remaining (device_inner c.read_piece.new.reader) in
    let w0 = g.W.Write.contents (device_inner c.args.writer.now) in
    let p = c.loop-alloc.invariant.printed in
    let on = c.in_ok-is_over.ensures.on w0 p.0 p.2 (ap Ok c.if-is_over.false) in
    let going : has_ended c.loop-alloc.reader ≡ false = sym c.ended.ensures ∙ c.loop-alloc-test.true in
    let before : length p.0 ≡ taken_by c.loop-alloc.scanner = told_length c.loop-alloc.scanner p.0 p.2.entries p.2.told in
    let after : length (p.0 ++ piece) ≡ taken_by c.print_piece.new.scanner = told_length c.print_piece.new.scanner (p.0 ++ piece) on.entries on.told in
    let joined = length-append p.0 piece in
    let cut = length-take-le c.in-Ok.count c.read_piece.new.piece c.in-Ok.ensures.bound in
    let more : taken_by c.print_piece.new.scanner ≡ taken_by c.loop-alloc.scanner + c.in-Ok.count = omega (arith, before, after, joined, cut) in
    let left = c.loop-alloc.invariant.left going in
    record {
      some = omega (arith, c.loop-alloc.invariant.some, c.read_piece.auto.piece);
      reads = λ failed. let no = c.in-Ok.ensures.read.1 failed in absurd cc;
      writes = λ failed. let no = c.in_ok-is_over.ensures.write.1 failed in absurd cc;
      ready = c.in_ok-is_over.ensures.ready (ap Ok c.if-is_over.false);
      short = omega (arith, more, c.in-Ok.ensures.short, c.taken.ensures);
      empty = c.in_ok-is_over.ensures.empty;
      line = c.in_ok-is_over.ensures.line;
      printed = (p.0 ++ piece, Consumes-trans r0 r r1 p.0 piece p.1 c.in-Ok.ensures.bytes, on);
      left = λ goes.
          let some : 0 < c.in-Ok.count = elim (cases_lt 0 c.in-Ok.count) [
            | inl h ↦ h
            | inr h ↦ let zero : c.in-Ok.count ≡ 0 = omega arith in absurd (false≢true (sym goes ∙ c.in-Ok.ensures.zero.0 zero))
          ] in
          omega (arith, left, more, some, c.in-Ok.ensures.counts);
      whole = λ fresh full ended.
          c.in-Ok.ensures.end (omega (arith, left, full, c.loop-alloc.invariant.short)) (ap Ok (c.in-Ok.ensures.zero.1 ended));
    }

pub returns-clause-dumped : goal.returns-clause-dumped
returns-clause-dumped g c =
    let r = g.R.Read.remaining (device_inner c.loop-alloc.reader) in
    let r0 = g.R.Read.remaining (device_inner c.args.reader.now) in
    let w0 = g.W.Write.contents (device_inner c.args.writer.now) in
    let w1 = g.W.Write.contents (device_inner c.print_end.new.writer) in
    let p = c.loop-alloc.invariant.printed in
    let ended : has_ended c.loop-alloc.reader ≡ true = sym c.ended.ensures ∙ c.loop-alloc-test.false in
    map_ok c.print_end.result (λ clean. IsDump w0 w1 p.0 true clean) (Dumps r0 r w0 w1 (has_ended c.loop-alloc.reader))
    (λ clean d. (p.0, p.1, subst (λ (all : Bool). IsDump w0 w1 p.0 all clean) (sym ended) d)) (c.print_end.ensures.dumped w0 p.0 p.2)

pub returns-clause-begun : goal.returns-clause-begun
returns-clause-begun g c =
    let r = g.R.Read.remaining (device_inner c.loop-alloc.reader) in
    let r0 = g.R.Read.remaining (device_inner c.args.reader.now) in
    let w0 = g.W.Write.contents (device_inner c.args.writer.now) in
    let w1 = g.W.Write.contents (device_inner c.print_end.new.writer) in
    let p = c.loop-alloc.invariant.printed in
    let ended : has_ended c.loop-alloc.reader ≡ true = sym c.ended.ensures ∙ c.loop-alloc-test.false in
    map_err c.print_end.result (BeginsDump w0 w1 p.0 true) (BreaksOff r0 r w0 w1 (has_ended c.loop-alloc.reader))
    (λ d. (p.0, p.1, subst (λ (all : Bool). BeginsDump w0 w1 p.0 all) (sym ended) d)) (c.print_end.ensures.begun w0 p.0 p.2)

pub returns-clause-end : goal.returns-clause-end
returns-clause-end g c = λ fresh full _.
    let ended : has_ended c.loop-alloc.reader ≡ true = sym c.ended.ensures ∙ c.loop-alloc-test.false in
    c.loop-alloc.invariant.whole fresh full ended

pub returns-clause-whole : goal.returns-clause-whole
returns-clause-whole g c = λ fresh full.
    let r = g.R.Read.remaining (device_inner c.loop-alloc.reader) in
    let r0 = g.R.Read.remaining (device_inner c.args.reader.now) in
    let w0 = g.W.Write.contents (device_inner c.args.writer.now) in
    let w1 = g.W.Write.contents (device_inner c.print_end.new.writer) in
    let p = c.loop-alloc.invariant.printed in
    let ended : has_ended c.loop-alloc.reader ≡ true = sym c.ended.ensures ∙ c.loop-alloc-test.false in
    map_ok c.print_end.result (λ clean. IsDump w0 w1 p.0 true clean) (λ clean. IfSome r0 (λ stream. IsDump w0 w1 stream true clean))
    (λ clean d. whole_dump r0 r w0 w1 p.0 true clean p.1 d (λ _. c.loop-alloc.invariant.whole fresh full ended)) (c.print_end.ensures.dumped w0 p.0 p.2)
