use Rattle.std.proofs.Common.{◌≡◌, ℕ, ◌++◌, List, drop, sym, ap, ◌∙◌, subst}
use Rattle.amqp_frame.specs.Devices.{device_inner}
use Rattle.amqp_frame.proofs.Results.{on_err}
use Rattle.amqp_records.specs.Blocks.{BeginsNoBlock}
use Rattle.amqp_records.specs.BlockPrinting.{HasTold}
use Rattle.amqp_records.proofs.BlockTellings.{told_piece, told_kept, told_begun}
use Rattle.amqp_records.proofs.block_printer.print_piece.Goals as goal

pub returns-in_err-extend_from_slice-clause-begun : goal.returns-in_err-extend_from_slice-clause-begun
returns-in_err-extend_from_slice-clause-begun g c = λ held came h.
    let w = g.W.Write.contents (device_inner c.args.writer.now) in
    let due = c.args.due.now in
    let piece = c.args.piece.now in
    on_err _ _ (told_begun c.args.output c.args.max_message held w due.number due.place (c.args.arrived.now.items ++ piece) (came ++ piece)
    (told_piece c.args.output c.args.max_message held w due.number due.place c.args.arrived.now.items came piece h))

pub returns-in_err-printed-clause-begun : goal.returns-in_err-printed-clause-begun
returns-in_err-printed-clause-begun g c = λ held came h.
    let w = g.W.Write.contents (device_inner c.args.writer.now) in
    let due = c.args.due.now in
    let piece = c.args.piece.now in
    let grown : c.deref.result.now ≡ c.args.arrived.now.items ++ piece = c.deref.ensures.value ∙ c.in_ok-extend_from_slice.ensures.items in
    on_err _ _ (c.in_err-printed.ensures.begun held (came ++ piece)
    (subst (λ (y : List ℕ). HasTold c.args.output c.args.max_message held w due.number due.place y (came ++ piece)) (sym grown)
    (told_piece c.args.output c.args.max_message held w due.number due.place c.args.arrived.now.items came piece h)))

pub returns-in_err-flush-clause-begun : goal.returns-in_err-flush-clause-begun
returns-in_err-flush-clause-begun g c = λ held came h.
    let w = g.W.Write.contents (device_inner c.args.writer.now) in
    let w1 = g.W.Write.contents (device_inner c.print_whole.new.writer) in
    let w2 = g.W.Write.contents (device_inner c.flush.new.writer) in
    let due = c.args.due.now in
    let new = c.print_whole.new.due in
    let piece = c.args.piece.now in
    let rest = drop c.in_ok-printed.printed c.deref.result.now in
    let grown : c.deref.result.now ≡ c.args.arrived.now.items ++ piece = c.deref.ensures.value ∙ c.in_ok-extend_from_slice.ensures.items in
    let printed = c.in_ok-printed.ensures.on held (came ++ piece)
    (subst (λ (y : List ℕ). HasTold c.args.output c.args.max_message held w due.number due.place y (came ++ piece)) (sym grown)
    (told_piece c.args.output c.args.max_message held w due.number due.place c.args.arrived.now.items came piece h))
    in
    on_err _ _ (told_begun c.args.output c.args.max_message held w2 new.number new.place rest (came ++ piece)
    (told_kept c.args.output c.args.max_message held w1 w2 new.number new.place rest (came ++ piece) printed c.in_err-flush.ensures.kept))

pub returns-clause-none : goal.returns-clause-none
returns-clause-none g c =
    let dropped : c.drop_front.new.bytes.items ≡ drop c.in_ok-printed.printed c.deref.result.now = c.drop_front.ensures ∙ ap (drop c.in_ok-printed.printed) (sym c.deref.ensures.value) in
    subst (λ (y : List ℕ). BeginsNoBlock c.args.max_message y) (sym dropped) c.in_ok-printed.ensures.none

pub returns-clause-on : goal.returns-clause-on
returns-clause-on g c = λ held came h.
    let w = g.W.Write.contents (device_inner c.args.writer.now) in
    let w1 = g.W.Write.contents (device_inner c.print_whole.new.writer) in
    let w2 = g.W.Write.contents (device_inner c.flush.new.writer) in
    let due = c.args.due.now in
    let new = c.print_whole.new.due in
    let piece = c.args.piece.now in
    let rest = drop c.in_ok-printed.printed c.deref.result.now in
    let grown : c.deref.result.now ≡ c.args.arrived.now.items ++ piece = c.deref.ensures.value ∙ c.in_ok-extend_from_slice.ensures.items in
    let dropped : c.drop_front.new.bytes.items ≡ rest = c.drop_front.ensures ∙ ap (drop c.in_ok-printed.printed) (sym c.deref.ensures.value) in
    let printed = c.in_ok-printed.ensures.on held (came ++ piece)
    (subst (λ (y : List ℕ). HasTold c.args.output c.args.max_message held w due.number due.place y (came ++ piece)) (sym grown)
    (told_piece c.args.output c.args.max_message held w due.number due.place c.args.arrived.now.items came piece h))
    in
    subst (λ (y : List ℕ). HasTold c.args.output c.args.max_message held w2 new.number new.place y (came ++ piece)) (sym dropped)
    (told_kept c.args.output c.args.max_message held w1 w2 new.number new.place rest (came ++ piece) printed c.in_ok-flush.ensures.kept)
