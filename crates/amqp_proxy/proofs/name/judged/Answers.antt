use Rattle.std.proofs.Common.{◌≤◌, length, arith}
use Rattle.std.proofs.lemmas.Bool.Decides.{nat_tests}
use Rattle.amqp_proxy.proofs.Names.{is_text, is_no_text}
use Rattle.amqp_proxy.proofs.name.judged.Goals as goal

pub returns-in-Ok : goal.returns-in-Ok
returns-in-Ok c =
    let some : 1 ≤ length c.args.name.now = grind (arith, nat_tests) in
    is_text c.args.name.now c.in-Ok.text.now some (omega arith) c.in-Ok.ensures.cases.0 c.in-Ok.ensures.cases.1

pub returns-in-Err : goal.returns-in-Err
returns-in-Err c =
    let some : 1 ≤ length c.args.name.now = grind (arith, nat_tests) in
    is_no_text c.args.name.now some (omega arith) c.in-Err.ensures.cases.0
