use Rattle.std.proofs.Common.{rules, sym, ◌∙◌}
use Rattle.amqp_types.proofs.Skips.{rest_of_number}
use Rattle.amqp_types.proofs.skipper.skip_number.Goals as goal

pub returns-in_err-rest-2 : goal.returns-in_err-rest-2
returns-in_err-rest-2 c = rw (rest_of_number c.args.w c.args.kind c.args.form c.args.bytes.now (sym c.is_partial.ensures ∙ c.if-is_partial.false)) (search rules)

pub returns : goal.returns
returns c = rw (rest_of_number c.args.w c.args.kind c.args.form c.args.bytes.now (sym c.is_partial.ensures ∙ c.if-is_partial.false)) (search rules)
