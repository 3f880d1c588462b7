use Rattle.std.proofs.Common.{Some, ap, sym, ◌∙◌}
use Rattle.std.proofs.lemmas.Option.{slice_get-get_or}
use Rattle.amqp_hub.specs.Ledgers.{records_of}
use Rattle.amqp_hub.proofs.Putting.{copied_at}
use Rattle.amqp_hub.proofs.replays.Hub+Ledger+A+A.put_since.Goals as goal

pub returns-in-Some : goal.returns-in-Some
returns-in-Some g c =
    let r = c.in-Some.record.now in
    let lookup = c.in-Some.ensures.lookup in
    let at = slice_get-get_or c.records.result.now c.args.before r lookup.3.0 ∙ ap (λ x. Some x) (sym lookup.1) in
    copied_at c.from_slice.result (λ v. v.items) c.records.result.now c.args.before c.in-Some.record.now c.deref.result.now (records_of c.args.self.now.keeper) at c.deref.ensures.value
    (c.records.ensures ∙ ap (λ l. records_of l) c.keeper.ensures) c.from_slice.ensures.items
