use Rattle.std.proofs.Common.{◌≡◌, ◌∙◌, rules, drop, ap}
use Rattle.byteorder.specs.Endian.{big_bytes}
use Rattle.amqp_types.specs.Marks.{mark_of}
use Rattle.amqp_types.proofs.MarkLaws.{number_mark}
use Rattle.amqp_types.proofs.many_keys.number_mark.Goals as goal

pub returns : goal.returns
returns c = λ kind.
    let last : c.split_at.result.1.now ≡ drop 8 (big_bytes 16 c.args.number) = search rules in
    c.mark_of.ensures ∙ ap mark_of last ∙ number_mark kind c.args.number
