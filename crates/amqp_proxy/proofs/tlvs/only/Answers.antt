use Rattle.std.proofs.Common.{sym, ◌∙◌, arith}
use Rattle.std.specs.Option.{option_copied}
use Rattle.amqp_proxy.proofs.Values.{nothing_pending, ended}
use Rattle.amqp_proxy.proofs.tlvs.only.Goals as goal

pub loop-at-init : goal.loop-at-init
loop-at-init c = record { within = omega arith; whole = nothing_pending c.args.kind c.args.bytes.now }

pub returns : goal.returns
returns c = sym c.loop-at.invariant.whole ∙ ended c.args.kind (option_copied c.loop-at.found) c.loop-at.at c.args.bytes.now c.loop-at-test.false
