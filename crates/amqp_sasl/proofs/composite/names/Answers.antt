use Rattle.std.proofs.Common.{[], sym, ap, ◌∙◌}
use Rattle.std.proofs.lemmas.List.{append-nil}
use Rattle.amqp_sasl.proofs.Peeking.{named, peeked_name, unnamed}
use Rattle.amqp_sasl.proofs.composite.names.Goals as goal

pub returns-in-Unsigned : goal.returns-in-Unsigned
returns-in-Unsigned c = λ t s.
    let h = named c.args.code c.args.name.now t c.args.descriptor.now c.peek.result (c.peek.ensures t c.args.descriptor.now [] s (sym (append-nil c.args.descriptor.now))) in
    c.is_code.ensures ∙ sym (h ∙ ap (peeked_name c.args.code c.args.name.now) c.in-Unsigned.is)

pub returns-in-Symbol : goal.returns-in-Symbol
returns-in-Symbol c = λ t s.
    let h = named c.args.code c.args.name.now t c.args.descriptor.now c.peek.result (c.peek.ensures t c.args.descriptor.now [] s (sym (append-nil c.args.descriptor.now))) in
    c.eq.ensures ∙ sym (h ∙ ap (peeked_name c.args.code c.args.name.now) c.in-Symbol.is)

pub returns-in_default : goal.returns-in_default
returns-in_default c = λ t s.
    let h = named c.args.code c.args.name.now t c.args.descriptor.now c.peek.result (c.peek.ensures t c.args.descriptor.now [] s (sym (append-nil c.args.descriptor.now))) in
    sym (h ∙ unnamed c.args.code c.args.name.now c.peek.result c.in_default.not-Unsigned c.in_default.not-Symbol)
