use Rattle.std.proofs.Common.{All, length, string_bytes, sym, subst, rules}
use Rattle.amqp_records.specs.Lines.{IsPrintable}
use Rattle.amqp_records.proofs.Printables.{head_printable, if_ok}
use Rattle.amqp_records.proofs.summary.head_of.Goals as goal

pub returns-clause-printable : goal.returns-clause-printable
returns-clause-printable c =
    let record_ = c.args.record.now in
    let head = head_printable c.args.number record_.channel record_.handle record_.delivery_id record_.message_format (length record_.message.now) (search rules) (search rules) (search rules)
    (search rules) (search rules) (search rules)
    in
    if_ok c.format.result _ (λ text. All IsPrintable (string_bytes text)) (λ text e. subst (All IsPrintable) (sym e) head) c.format.ensures.ok
