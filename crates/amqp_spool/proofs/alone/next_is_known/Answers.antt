use Rattle.std.proofs.Common.{sym, ap, ◌∙◌, Ok}
use Rattle.amqp_spool.specs.EntryReading.{recorded_in}
use Rattle.amqp_spool.proofs.KnownReading.{read_known, none_known, ends_none, sender_is, sender_is_not, flags, read_some, gives_some}
use Rattle.amqp_spool.proofs.alone.next_is_known.Goals as goal

pub returns-in_default-clause-no : goal.returns-in_default-clause-no
returns-in_default-clause-no c = λ is es body are. ends_none c.args.names.now c.next.new.self es (c.in-Ok.ensures.ends (ap (λ o. Ok o) c.in_default.is) es body)

pub returns-clause-yes : goal.returns-clause-yes
returns-clause-yes c = λ is.
    let old = c.args.names.now in
    let new = c.next.new.self in
    let body = c.args.entries.now.rest.now in
    let left = c.next.new.entries.rest.now in
    let sender = sender_is c.of.result _ c.of.ensures (sym c.is_some.ensures ∙ flags _ _ is) in
    read_known old new body left (recorded_in c.in-Some.record) sender.0 (read_some old new body left c.in-Ok.next c.in-Some.record c.in-Some.is c.in-Ok.ensures.some) sender.1

pub returns-clause-no : goal.returns-clause-no
returns-clause-no c = λ is es body are.
    let old = c.args.names.now in
    let new = c.next.new.self in
    let left = c.next.new.entries.rest.now in
    let none = sender_is_not c.of.result _ c.of.ensures (sym c.is_some.ensures ∙ flags _ _ is) in
    let gives = gives_some old new c.args.entries.now.rest.now left c.in-Ok.next c.in-Some.record c.in-Some.is c.in-Ok.ensures.gives es body in
    absurd (none_known old new left es (recorded_in c.in-Some.record) gives are none)
