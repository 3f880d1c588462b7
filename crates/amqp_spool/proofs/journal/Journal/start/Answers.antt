use Rattle.std.proofs.Common.{List, sym, ap, ◌∙◌, subst, length}
use Rattle.std.proofs.lemmas.Bool.{false≢true, eq-eqb}
use Rattle.amqp_spool.specs.declared.segments.Named.{Named}
use Rattle.amqp_spool.specs.Folders.{History, Now}
use Rattle.amqp_spool.specs.Reads.{HasNames}
use Rattle.amqp_spool.proofs.Starting.{no_names}
use Rattle.amqp_spool.proofs.journal.Journal.start.Goals as goal

pub returns-else-is_empty-clause-begun : goal.returns-else-is_empty-clause-begun
returns-else-is_empty-clause-begun g c = λ t past is empty.
    let items = c.in_ok-names.names.items in
    let names : HasNames items t = subst (λ (h : History). Now (HasNames items) h) is c.in_ok-names.ensures in
    let none = ap (λ (l : List Named). length l) c.as_slice.ensures.value ∙ no_names items t empty.none names in
    absurd (false≢true (sym c.if-is_empty.false ∙ c.is_empty.ensures ∙ eq-eqb (length c.as_slice.result.now) 0 none))
