use Rattle.std.proofs.Common.{◌≡◌, ℕ, Bool, true, min, length, sym, ap, ◌∙◌}
use Rattle.amqp_send.specs.Flows.{most}
use Rattle.amqp_send.specs.Sendings.{frame, transfer_said}
use Rattle.amqp_send.proofs.Lengths.{later_long}
use Rattle.amqp_send.proofs.outgoing.head_len_of.Goals as goal

pub returns-then-is_begun-clause-len : goal.returns-then-is_begun-clause-len
returns-then-is_begun-clause-len g c =
    let f = c.args.flow in
    let begun : c.args.message.now.begun ≡ true = sym c.is_begun.ensures ∙ c.if-is_begun.true in
    let long : length (frame (transfer_said f.delivery_id c.args.message.now.begun true)) ≡ 20 =
    ap (λ (b : Bool). length (frame (transfer_said f.delivery_id b true))) begun ∙ later_long in
    c.min.ensures ∙ ap (λ (n : ℕ). min 20 n) c.most-most.ensures.value ∙ sym (ap (λ (n : ℕ). min n (most f)) long)
