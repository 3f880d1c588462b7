use Rattle.std.proofs.Common.{◌≡◌, List, [], arith, length, refl, sym, ap, ◌∙◌, true, false}
use Rattle.std.proofs.lemmas.Bool.{false≢true, eq-eqb}
use Rattle.amqp_spool.specs.Entries.{Introduction}
use Rattle.amqp_spool.specs.EntryReading.{introduced_in}
use Rattle.amqp_spool.specs.Waitings.{numbered}
use Rattle.amqp_spool.proofs.Introducing.{nothing_in, is_kept, kept_is, kept_begins, one_introduced, as_introduced, not_recorded}
use Rattle.amqp_spool.proofs.entry.introduces.Goals as goal

pub returns-then-is_empty : goal.returns-then-is_empty
returns-then-is_empty c =
    let some = c.in-Some-Introduction-default in
    let told = introduced_in some.told in
    let from = numbered c.args.link (introduced_in c.args.from.now) in
    let begins = as_introduced c.args.bytes.now some.rest.now some.field-0-0 some.told some.field-0-0-is some.ensures.some in (
      λ yes. is_kept c.args.link c.args.bytes.now some.rest.now told from begins (nothing_in some.rest.now (sym c.if-is_empty.true ∙ c.is_empty.ensures)) (c.is_same.ensures.0 yes) refl,
      λ kept. c.is_same.ensures.1 (one_introduced told from (kept_is c.args.link c.args.bytes.now some.rest.now (Introduction told) from begins kept).0),
    )

pub returns-else-is_empty : goal.returns-else-is_empty
returns-else-is_empty c =
    let some = c.in-Some-Introduction-default in
    let told = introduced_in some.told in
    let from = numbered c.args.link (introduced_in c.args.from.now) in
    let begins = as_introduced c.args.bytes.now some.rest.now some.field-0-0 some.told some.field-0-0-is some.ensures.some in (
      λ yes. absurd (grind (arith, yes, c.if-is_empty.false)),
      λ kept. absurd (false≢true (sym c.if-is_empty.false ∙ c.is_empty.ensures ∙ eq-eqb (length some.rest.now) 0 (ap (λ (l : List _). length l) (kept_is c.args.link c.args.bytes.now some.rest.now (Introduction told) from begins kept).1))),
    )

pub returns-in-Some-Record-default : goal.returns-in-Some-Record-default
returns-in-Some-Record-default c =
    let some = c.in-Some-Record-default in (
      λ yes. absurd (grind (arith, yes)),
      λ kept. absurd (not_recorded c.args.link c.args.bytes.now some.field-0-1.now some.field-0-0 some.field-0-0-0 (numbered c.args.link (introduced_in c.args.from.now)) some.field-0-0-is some.ensures.some kept),
    )

pub returns-in-None : goal.returns-in-None
returns-in-None c = (
  λ yes. absurd (grind (arith, yes)),
  λ kept. absurd (c.in-None.ensures.none refl (Introduction (numbered c.args.link (introduced_in c.args.from.now))) [] (kept_begins c.args.link c.args.bytes.now (numbered c.args.link (introduced_in c.args.from.now)) kept)),
)
