use Rattle.std.proofs.Common.{arith, ap, ◌+◌, ◌*◌, ℕ}
use Rattle.amqp_gateway.proofs.Mosts.{most_is}
use Rattle.amqp_gateway.proofs.bound.peer_most.Goals as goal

pub returns : goal.returns
returns c within =
    let sessions = c.channel_max.result + 1 in
    let links = sessions * (c.handle_max.result + 1) in
    let few = c.max_frame.result + 8192 + 64 * sessions + (3 + sessions + links) * 2560 + 16448 in
    let most = most_is c.args.config.now c.args.link sessions links few (ap (λ (n : ℕ). n + 1) c.channel_max.ensures.value) (ap (λ (n : ℕ). sessions * (n + 1)) c.handle_max.ensures)
    (ap (λ (n : ℕ). n + 8192 + 64 * sessions + (3 + sessions + links) * 2560 + 16448) c.max_frame.ensures.value) within in
    omega (arith, most, c.saturating_mul.ensures, c.saturating_add.ensures)
