use Rattle.std.proofs.Common.{rules, ◌≡◌, ◌∙◌}
use Rattle.std.specs.Str.{bytes_eq}
use Rattle.amqp_types.proofs.LentKeys.{octets_told}
use Rattle.amqp_types.proofs.key.are_same.Goals as goal

pub returns : goal.returns
returns c = λ kind.
    let same : c.eq.result ≡ bytes_eq c.args.a.now c.args.b.now = search rules in
    same ∙ octets_told kind c.args.a.now c.args.b.now (search rules) (search rules)
