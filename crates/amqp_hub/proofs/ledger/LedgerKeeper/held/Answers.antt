use Rattle.std.proofs.Common.{arith, ℕ, ◌^◌, ◌-◌, min, length, drop, ap, sym, ◌∙◌}
use Rattle.std.proofs.lemmas.List.{take_all, length-drop}
use Rattle.std.specs.Prelude.{sum_by}
use Rattle.amqp_hub.specs.Ledgers.{waiting_bytes}
use Rattle.amqp_hub.proofs.Settling.{waiting_is}
use Rattle.amqp_hub.proofs.ledger.LedgerKeeper.held.Goals as goal

pub returns : goal.returns
returns g c =
    let all = c.deref.result.now in
    let records = c.self.inside.records.items in
    let taken = c.self.inside.taken in
    let whole = take_all (length all - taken) (drop taken all) (omega (arith, length-drop taken all)) in
    c.bytes_in.ensures
    ∙ ap (λ (n : ℕ). min n (2 ^ 64 - 1))
    (ap (λ l. sum_by (λ r. length r.bytes.items) l) whole ∙ ap (λ l. sum_by (λ r. length r.bytes.items) (drop taken l)) c.deref.ensures.value ∙ sym (waiting_is taken records) ∙ ap waiting_bytes c.self.view_is)
