use Rattle.std.proofs.Common.{ℕ, List, [], Option}
use Rattle.std.proofs.KnownBytes.{Consumes-nil}
use Rattle.amqp_frame.specs.Devices.{device_inner}
use Rattle.amqp_frame.proofs.Results.{on_err}
use Rattle.amqp_records.specs.declared.printer.Output.{Output}
use Rattle.amqp_records.specs.BlockPrinting.{StopsTelling}
use Rattle.amqp_records.proofs.BlockTellings.{told_none, told_begun}
use Rattle.amqp_records.proofs.block_printer.print_blocks.Goals as goal

-- nothing came and nothing was written
none_begun : (output : Output) (limit : ℕ) (left held : Option (List ℕ)) → StopsTelling output limit left left held held
none_begun output limit left held = ([], Consumes-nil left, told_begun output limit held held 1 0 [] [] (told_none output limit held))

pub returns-in_err-scratch-clause-begun : goal.returns-in_err-scratch-clause-begun
returns-in_err-scratch-clause-begun g c =
    on_err _ _ (none_begun c.args.output c.args.max_message (g.R.Read.remaining (device_inner c.args.reader.now)) (g.W.Write.contents (device_inner c.args.writer.now)))

pub returns-in_err-piece-clause-begun : goal.returns-in_err-piece-clause-begun
returns-in_err-piece-clause-begun g c =
    on_err _ _ (none_begun c.args.output c.args.max_message (g.R.Read.remaining (device_inner c.args.reader.now)) (g.W.Write.contents (device_inner c.args.writer.now)))
