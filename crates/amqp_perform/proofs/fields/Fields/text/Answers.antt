use Rattle.std.proofs.Common.{arith}
use Rattle.std.proofs.lemmas.Str.{is_utf8-from_IsUtf8}
use Rattle.amqp_perform.proofs.Readers.{string_is}
use Rattle.amqp_perform.proofs.Texts.{utf8_fails}
use Rattle.amqp_perform.proofs.fields.Fields.text.Goals.{in-161+in_ok-octets-in-161, in-177+in_ok-octets-in-177}
use Rattle.amqp_perform.proofs.fields.Fields.text.Goals as goal

pub returns-in-Ok : goal.returns-in-Ok
returns-in-Ok c =
    let is = string_is c.args.self.now.left c.args.self.now.items.bytes.now in
    let text = is_utf8-from_IsUtf8 c.match-branch-2.octets.now c.in-Ok.ensures.cases.1 in
    elim c.match-branch-2.branch [
      | in-161+in_ok-octets-in-161 w ↦ grind (arith, is, text)
      | in-177+in_ok-octets-in-177 w ↦ grind (arith, is, text)
    ]

pub returns-in-Err : goal.returns-in-Err
returns-in-Err c =
    let is = string_is c.args.self.now.left c.args.self.now.items.bytes.now in
    let no = utf8_fails c.match-branch-2.octets.now c.in-Err.ensures.cases.0 in
    elim c.match-branch-2.branch [
      | in-161+in_ok-octets-in-161 w ↦ grind (arith, is, no)
      | in-177+in_ok-octets-in-177 w ↦ grind (arith, is, no)
    ]
