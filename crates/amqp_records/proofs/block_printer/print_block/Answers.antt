use Rattle.std.proofs.Common.{ℕ, List, drop, subst}
use Rattle.amqp_frame.specs.Devices.{device_inner}
use Rattle.amqp_frame.proofs.Results.{on_err}
use Rattle.amqp_records.specs.Blocks.{number_of}
use Rattle.amqp_records.specs.BlockPrinting.{TellsBlock, BeginsToTell}
use Rattle.amqp_records.proofs.BlockFronts.{from_on}
use Rattle.amqp_records.proofs.BlockTellings.{some_none, some_here}
use Rattle.amqp_records.proofs.block_printer.print_block.Goals as goal

pub returns-in_err-place-clause-begun : goal.returns-in_err-place-clause-begun
returns-in_err-place-clause-begun g c =
    let w = g.W.Write.contents (device_inner c.args.writer.now) in
    let block = c.args.block.now in
    let n = c.args.due.now.number in
    on_err _ _ (some_here c.args.output c.args.max_message (number_of block) (drop 12 block) w w n n 0
    (some_none c.args.output c.args.max_message (number_of block) (drop 12 block) w n c.requires.records))

pub returns-in_err-number-clause-begun : goal.returns-in_err-number-clause-begun
returns-in_err-number-clause-begun g c =
    let w = g.W.Write.contents (device_inner c.args.writer.now) in
    let w1 = g.W.Write.contents (device_inner c.print_each.new.writer) in
    let block = c.args.block.now in
    let n = c.args.due.now.number in
    on_err _ _ (subst (λ (k : ℕ). BeginsToTell c.args.output c.args.max_message k (drop 12 block) w w1 n) c.number_of-connection.ensures
    (subst (λ (y : List ℕ). BeginsToTell c.args.output c.args.max_message c.number_of-connection.result y w w1 n) (from_on 12 block) c.in_err-number.ensures.begun))

pub returns-clause-told : goal.returns-clause-told
returns-clause-told g c =
    let w = g.W.Write.contents (device_inner c.args.writer.now) in
    let w1 = g.W.Write.contents (device_inner c.print_each.new.writer) in
    let block = c.args.block.now in
    let n = c.args.due.now.number in
    subst (λ (k : ℕ). TellsBlock c.args.output c.args.max_message k (drop 12 block) w w1 n c.in_ok-number.number) c.number_of-connection.ensures
    (subst (λ (y : List ℕ). TellsBlock c.args.output c.args.max_message c.number_of-connection.result y w w1 n c.in_ok-number.number) (from_on 12 block) c.in_ok-number.ensures.told)
