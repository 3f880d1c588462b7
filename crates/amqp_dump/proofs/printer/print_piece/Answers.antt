use Rattle.std.proofs.Common.{◌++◌, Bool, Option, Some, take, inr, subst, sym, ◌∙◌, rules, arith}
use Rattle.std.proofs.KnownBytes.{Keeps-refl}
use Rattle.std.proofs.lemmas.Grind.{common_steps}
use Rattle.amqp_frame.specs.Devices.{device_inner}
use Rattle.amqp_dump.specs.Pages.{Page}
use Rattle.amqp_dump.specs.Printing.{HasPrinted}
use Rattle.amqp_dump.specs.Steps.{IsReadyBehind, PutsNext}
use Rattle.amqp_frame.proofs.Results.{on_err}
use Rattle.amqp_dump.proofs.Printings.{put_prints, puts_none, printed_piece, printed_more, printed_fault, all_printed, began, began_unit, began_part}
use Rattle.amqp_dump.proofs.printer.print_piece.Goals as goal

pub returns-in_err-is_fault-clause-begun : goal.returns-in_err-is_fault-clause-begun
returns-in_err-is_fault-clause-begun g c = λ held before h.
    let w = g.W.Write.contents (device_inner c.loop-is_fault.writer) in
    on_err _ _
    (began held w w c.loop-is_fault.lines.whole c.loop-is_fault.scanner before c.args.piece.now c.loop-is_fault.at (c.loop-is_fault.invariant.printed held before h) (Keeps-refl w))

pub returns-in_err-write_many-clause-begun : goal.returns-in_err-write_many-clause-begun
returns-in_err-write_many-clause-begun g c = λ held before h.
    let old = c.loop-is_fault in
    let w = g.W.Write.contents (device_inner old.writer) in
    let w1 = g.W.Write.contents (device_inner c.write_many.new.writer) in
    let told : PutsNext old.scanner c.args.piece.now old.at c.next.new.at c.next.new.self old.lines c.next.new.lines (Some c.in-Some.is_fault) =
    subst (λ (x : Option Bool). PutsNext old.scanner c.args.piece.now old.at c.next.new.at c.next.new.self old.lines c.next.new.lines x) c.in-Some.is c.in_ok-is_fault.ensures.told in
    let part = c.in_err-write_many.ensures.begun in
    on_err _ _
    (began_unit held w w1 old.lines.whole old.scanner c.args.piece.now old.at c.next.new.at c.next.new.self told.0 before (old.invariant.printed held before h) told.3
    (inr (part.0, put_prints told.0 w w1 old.lines c.next.new.lines part.0 told.2 part.1)))

pub returns-then-is_fault-clause-fault : goal.returns-then-is_fault-clause-fault
returns-then-is_fault-clause-fault g c = λ held before h _.
    let old = c.loop-is_fault in
    let w = g.W.Write.contents (device_inner old.writer) in
    let w1 = g.W.Write.contents (device_inner c.write_many.new.writer) in
    let waits = c.write_many.new.lines.whole in
    let told : PutsNext old.scanner c.args.piece.now old.at c.next.new.at c.next.new.self old.lines c.next.new.lines (Some c.in-Some.is_fault) =
    subst (λ (x : Option Bool). PutsNext old.scanner c.args.piece.now old.at c.next.new.at c.next.new.self old.lines c.next.new.lines x) c.in-Some.is c.in_ok-is_fault.ensures.told in
    printed_fault held w w1 old.lines.whole waits old.scanner c.args.piece.now old.at c.next.new.at c.next.new.self told.0 before (old.invariant.printed held before h) told.3
    (told.1 ∙ c.if-is_fault.true) (put_prints told.0 w w1 old.lines c.next.new.lines waits told.2 c.in_ok-write_many.ensures.put)
    (c.in_ok-write_many.ensures.empty c.if-is_fault.true)

pub loop-is_fault-preserved : goal.loop-is_fault-preserved
loop-is_fault-preserved g c =
    let old = c.loop-is_fault in
    let w = g.W.Write.contents (device_inner old.writer) in
    let w1 = g.W.Write.contents (device_inner c.write_many.new.writer) in
    let waits = c.write_many.new.lines.whole in
    let told : PutsNext old.scanner c.args.piece.now old.at c.next.new.at c.next.new.self old.lines c.next.new.lines (Some c.in-Some.is_fault) =
    subst (λ (x : Option Bool). PutsNext old.scanner c.args.piece.now old.at c.next.new.at c.next.new.self old.lines c.next.new.lines x) c.in-Some.is c.in_ok-is_fault.ensures.told in
    let ready : IsReadyBehind c.next.new.self (Some c.in-Some.is_fault) = subst (λ (x : Option Bool). IsReadyBehind c.next.new.self x) c.in-Some.is c.in_ok-is_fault.ensures.ready in
    record {
      within = c.in_ok-is_fault.ensures.within;
      unmarked = first_of (search rules, grind (arith, common_steps));
      ready = ready c.if-is_fault.false;
      line = c.in_ok-write_many.ensures.line;
      fits = omega (arith, c.in_ok-is_fault.ensures.taken, old.invariant.fits);
      printed = λ held before h.
          printed_more held w w1 old.lines.whole waits old.scanner c.args.piece.now old.at c.next.new.at c.next.new.self told.0 before (old.invariant.printed held before h) told.3
          (told.1 ∙ c.if-is_fault.false) (put_prints told.0 w w1 old.lines c.next.new.lines waits told.2 c.in_ok-write_many.ensures.put);
    }

pub returns-in_err-write_lines-clause-begun : goal.returns-in_err-write_lines-clause-begun
returns-in_err-write_lines-clause-begun g c = λ held before h.
    let old = c.loop-is_fault in
    let w = g.W.Write.contents (device_inner old.writer) in
    let w1 = g.W.Write.contents (device_inner c.write_lines.new.writer) in
    let goes = puts_none old.scanner c.args.piece.now old.at c.next.new.at c.next.new.self old.lines c.next.new.lines c.in_ok-is_fault.field-0 c.in_ok-is_fault.ensures.told
    (λ x same. c.in_default.not-Some x same) in
    let printed = subst (λ (p : Page). HasPrinted held w p.whole old.scanner (before ++ take old.at c.args.piece.now)) (sym goes.1) (old.invariant.printed held before h) in
    on_err _ _
    (began_part held w w1 c.next.new.lines.whole c.next.new.self (before ++ c.args.piece.now)
    (printed_piece held w c.next.new.lines.whole old.scanner c.args.piece.now old.at c.next.new.at c.next.new.self before printed goes.0)
    c.in_err-write_lines.ensures.begun)

pub returns-clause-on : goal.returns-clause-on
returns-clause-on g c = λ held before h _.
    let old = c.loop-is_fault in
    let w = g.W.Write.contents (device_inner old.writer) in
    let w1 = g.W.Write.contents (device_inner c.write_lines.new.writer) in
    let goes = puts_none old.scanner c.args.piece.now old.at c.next.new.at c.next.new.self old.lines c.next.new.lines c.in_ok-is_fault.field-0 c.in_ok-is_fault.ensures.told
    (λ x same. c.in_default.not-Some x same) in
    let printed = subst (λ (p : Page). HasPrinted held w p.whole old.scanner (before ++ take old.at c.args.piece.now)) (sym goes.1) (old.invariant.printed held before h) in
    all_printed held w w1 c.next.new.lines.whole c.next.new.self (before ++ c.args.piece.now)
    (printed_piece held w c.next.new.lines.whole old.scanner c.args.piece.now old.at c.next.new.at c.next.new.self before printed goes.0)
    c.in_ok-write_lines.ensures.written
