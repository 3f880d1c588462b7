use Rattle.std.proofs.Common.{◌≡◌, ℕ, ◌-◌, List, [], ◌++◌, length, take, refl, sym, ◌∙◌, subst, arith, rules}
use Rattle.std.proofs.KnownBytes.{Consumes-nil, Consumes-trans, Consumes-kept}
use Rattle.std.proofs.lemmas.Bool.{eqb-true}
use Rattle.std.proofs.lemmas.Grind.{common_steps}
use Rattle.std.proofs.lemmas.List.{nil_from_length}
use Rattle.std.specs.Vec.{vec_len}
use Rattle.amqp_frame.specs.Devices.{device_inner}
use Rattle.amqp_frame.proofs.Results.{on_err}
use Rattle.amqp_records.specs.Printing.{IsNothing}
use Rattle.amqp_records.specs.Blocks.{IsTorn, BeginsNoBlock}
use Rattle.amqp_records.specs.BlockPrinting.{HasTold, TellsBlocks, StopsTelling, IsNoBlock}
use Rattle.amqp_records.proofs.BlockFronts.{front_torn}
use Rattle.amqp_records.proofs.BlockTellings.{told_none, told_begun, tells}
use Rattle.amqp_records.proofs.block_printer.print_through.Goals as goal

pub loop-alloc-init : goal.loop-alloc-init
loop-alloc-init g c =
    let limit = c.args.max_message in
    let r0 = g.R.Read.remaining (device_inner c.args.reader.now) in
    let w0 = g.W.Write.contents (device_inner c.args.writer.now) in
    let arrived = c.new-arrived.result.items in
    let none : arrived ≡ [] = c.new-arrived.ensures.items in
    record {
      some = c.requires.some;
      reads = c.requires.reader;
      writes = c.requires.writer;
      told = ([], Consumes-nil r0, subst (λ (y : List ℕ). HasTold c.args.output limit w0 w0 1 0 y []) (sym none) (told_none c.args.output limit w0));
      torn = subst (λ (y : List ℕ). IsTorn limit y) (sym none) refl;
    }

pub returns-in_err-count-clause-shown : goal.returns-in_err-count-clause-shown
returns-in_err-count-clause-shown g c = λ same.
    let old = c.loop-alloc in
    let r = g.R.Read.remaining (device_inner old.reader) in
    let r0 = g.R.Read.remaining (device_inner c.args.reader.now) in
    let r1 = g.R.Read.remaining (device_inner c.read_piece.new.reader) in
    let w = g.W.Write.contents (device_inner old.writer) in
    let w0 = g.W.Write.contents (device_inner c.args.writer.now) in
    let p = old.invariant.told in (
      old.due.number - 1,
      old.due.place,
      tells c.args.output c.args.max_message r0 r1 w0 w old.due.number old.due.place old.arrived.items p.0 (IsTorn c.args.max_message)
          (Consumes-kept r0 r r1 p.0 p.1 c.in_err-count.ensures.kept) p.2 old.invariant.torn,
    )

pub returns-in_err-count-clause-begun : goal.returns-in_err-count-clause-begun
returns-in_err-count-clause-begun g c =
    let old = c.loop-alloc in
    let r = g.R.Read.remaining (device_inner old.reader) in
    let r0 = g.R.Read.remaining (device_inner c.args.reader.now) in
    let r1 = g.R.Read.remaining (device_inner c.read_piece.new.reader) in
    let w = g.W.Write.contents (device_inner old.writer) in
    let w0 = g.W.Write.contents (device_inner c.args.writer.now) in
    let p = old.invariant.told in
    let broken : StopsTelling c.args.output c.args.max_message r0 r1 w0 w = (
      p.0,
      Consumes-kept r0 r r1 p.0 p.1 c.in_err-count.ensures.kept,
      told_begun c.args.output c.args.max_message w0 w old.due.number old.due.place old.arrived.items p.0 p.2,
    ) in
    on_err _ _ broken

pub returns-in_err-print_piece-clause-begun : goal.returns-in_err-print_piece-clause-begun
returns-in_err-print_piece-clause-begun g c =
    let old = c.loop-alloc in
    let r = g.R.Read.remaining (device_inner old.reader) in
    let r0 = g.R.Read.remaining (device_inner c.args.reader.now) in
    let r1 = g.R.Read.remaining (device_inner c.read_piece.new.reader) in
    let w0 = g.W.Write.contents (device_inner c.args.writer.now) in
    let w1 = g.W.Write.contents (device_inner c.print_piece.new.writer) in
    let piece = take c.in_ok-count.count c.read_piece.new.piece in
    let p = old.invariant.told in
    let broken : StopsTelling c.args.output c.args.max_message r0 r1 w0 w1 = (
      p.0 ++ piece,
      Consumes-trans r0 r r1 p.0 piece p.1 c.in_ok-count.ensures.bytes,
      c.in_err-print_piece.ensures.begun w0 p.0 p.2,
    ) in
    on_err _ _ broken

pub returns-in-NoBlock-clause-block : goal.returns-in-NoBlock-clause-block
returns-in-NoBlock-clause-block g c = λ place same.
    let limit = c.args.max_message in
    let old = c.loop-alloc in
    let new = c.print_piece.new in
    let r = g.R.Read.remaining (device_inner old.reader) in
    let r0 = g.R.Read.remaining (device_inner c.args.reader.now) in
    let r1 = g.R.Read.remaining (device_inner c.read_piece.new.reader) in
    let w0 = g.W.Write.contents (device_inner c.args.writer.now) in
    let w1 = g.W.Write.contents (device_inner new.writer) in
    let piece = take c.in_ok-count.count c.read_piece.new.piece in
    let p = old.invariant.told in
    let is : new.due.place ≡ place = cc in
    let other : IsNoBlock limit new.arrived.items = subst (IsNoBlock limit) c.deref.ensures.value (c.block_front.ensures.none c.in-NoBlock.is, c.block_front.ensures.untorn c.in-NoBlock.is) in
    let told = tells c.args.output limit r0 r1 w0 w1 new.due.number new.due.place new.arrived.items (p.0 ++ piece) (IsNoBlock limit)
    (Consumes-trans r0 r r1 p.0 piece p.1 c.in_ok-count.ensures.bytes) (c.in_ok-print_piece.ensures.on w0 p.0 p.2) other
    in
    (new.due.number - 1, subst (λ (k : ℕ). TellsBlocks c.args.output limit r0 r1 w0 w1 (new.due.number - 1) k (IsNoBlock limit)) is told)

pub returns-in-NoBlock-clause-begun : goal.returns-in-NoBlock-clause-begun
returns-in-NoBlock-clause-begun g c =
    let old = c.loop-alloc in
    let new = c.print_piece.new in
    let r = g.R.Read.remaining (device_inner old.reader) in
    let r0 = g.R.Read.remaining (device_inner c.args.reader.now) in
    let r1 = g.R.Read.remaining (device_inner c.read_piece.new.reader) in
    let w0 = g.W.Write.contents (device_inner c.args.writer.now) in
    let w1 = g.W.Write.contents (device_inner new.writer) in
    let piece = take c.in_ok-count.count c.read_piece.new.piece in
    let p = old.invariant.told in (
      p.0 ++ piece,
      Consumes-trans r0 r r1 p.0 piece p.1 c.in_ok-count.ensures.bytes,
      told_begun c.args.output c.args.max_message w0 w1 new.due.number new.due.place new.arrived.items (p.0 ++ piece) (c.in_ok-print_piece.ensures.on w0 p.0 p.2),
    )

pub loop-alloc-preserved : goal.loop-alloc-preserved
loop-alloc-preserved g c =
    let limit = c.args.max_message in
    let old = c.loop-alloc in
    let r = g.R.Read.remaining (device_inner old.reader) in
    let r0 = g.R.Read.remaining (device_inner c.args.reader.now) in
    let r1 = g.R.Read.remaining (device_inner c.read_piece.new.reader) in
    let w0 = g.W.Write.contents (device_inner c.args.writer.now) in
    let piece = take c.in_ok-count.count c.read_piece.new.piece in
    let p = old.invariant.told in
    let rest = c.deref.result.now in
    let none : BeginsNoBlock limit rest = subst (BeginsNoBlock limit) (sym c.deref.ensures.value) c.in_ok-print_piece.ensures.none in
    let torn : IsTorn limit rest = front_torn limit rest c.block_front.result none c.block_front.ensures.whole c.block_front.ensures.torn c.in_default.not-NoBlock in
    record {
      some = omega (arith, old.invariant.some, c.read_piece.auto.piece);
      reads = first_of (search rules, grind (arith, common_steps));
      writes = first_of (search rules, grind (arith, common_steps));
      told = (
        p.0 ++ piece,
        Consumes-trans r0 r r1 p.0 piece p.1 c.in_ok-count.ensures.bytes,
        c.in_ok-print_piece.ensures.on w0 p.0 p.2,
      );
      torn = subst (IsTorn limit) c.deref.ensures.value torn;
    }

pub returns-then-is_empty-clause-printed : goal.returns-then-is_empty-clause-printed
returns-then-is_empty-clause-printed g c =
    let old = c.loop-alloc in
    let r = g.R.Read.remaining (device_inner old.reader) in
    let r0 = g.R.Read.remaining (device_inner c.args.reader.now) in
    let w = g.W.Write.contents (device_inner old.writer) in
    let w0 = g.W.Write.contents (device_inner c.args.writer.now) in
    let p = old.invariant.told in
    let none : vec_len old.arrived ≡ 0 = eqb-true _ 0 (sym c.is_empty.ensures ∙ c.if-is_empty.true) in
    let zero : length old.arrived.items ≡ 0 = first_of (search rules, grind (arith, common_steps)) in
    (old.due.place, tells c.args.output c.args.max_message r0 r w0 w old.due.number old.due.place old.arrived.items p.0 IsNothing p.1 p.2 (nil_from_length old.arrived.items zero))

pub returns-clause-begun : goal.returns-clause-begun
returns-clause-begun g c =
    let old = c.loop-alloc in
    let w = g.W.Write.contents (device_inner old.writer) in
    let w0 = g.W.Write.contents (device_inner c.args.writer.now) in
    let p = old.invariant.told in
    (p.0, p.1, told_begun c.args.output c.args.max_message w0 w old.due.number old.due.place old.arrived.items p.0 p.2)
