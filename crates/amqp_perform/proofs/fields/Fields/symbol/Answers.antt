use Rattle.std.proofs.Common.{arith}
use Rattle.amqp_types.proofs.Complete.{all_ascii}
use Rattle.amqp_perform.proofs.Readers.{symbol_is}
use Rattle.amqp_perform.proofs.Texts.{ascii_fails}
use Rattle.amqp_perform.proofs.fields.Fields.symbol.Goals.{in-163+in_ok-octets-in-163, in-179+in_ok-octets-in-179}
use Rattle.amqp_perform.proofs.fields.Fields.symbol.Goals as goal

pub returns-then-is_ascii : goal.returns-then-is_ascii
returns-then-is_ascii c =
    let is = symbol_is c.args.self.now.left c.args.self.now.items.bytes.now in
    let ascii = all_ascii c.match-branch-2.octets.now c.if-is_ascii.ensures.cases in
    elim c.match-branch-2.branch [
      | in-163+in_ok-octets-in-163 w ↦ grind (arith, is, ascii)
      | in-179+in_ok-octets-in-179 w ↦ grind (arith, is, ascii)
    ]

pub returns-else-is_ascii : goal.returns-else-is_ascii
returns-else-is_ascii c =
    let is = symbol_is c.args.self.now.left c.args.self.now.items.bytes.now in
    let high = c.if-is_ascii.ensures.cases in
    let no = ascii_fails c.match-branch-2.octets.now high.0 high.1 in
    elim c.match-branch-2.branch [
      | in-163+in_ok-octets-in-163 w ↦ grind (arith, is, no)
      | in-179+in_ok-octets-in-179 w ↦ grind (arith, is, no)
    ]
