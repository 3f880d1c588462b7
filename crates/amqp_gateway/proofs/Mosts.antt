-- How much a peer holds at most, counted.
use Rattle.std.proofs.Common.{arith, ap, ◌≡◌, ◌∙◌, ◌+◌, ◌*◌, ◌≤◌, ℕ, zero, suc, length}
use Rattle.std.specs.Prelude.{flat_map}
use Rattle.std.proofs.Math.Nat.{mul_comm, mul-suc}
use Rattle.std.proofs.lemmas.List.{length-append}
use Rattle.amqp_session.proofs.Places.{tabulate_long}
use Rattle.amqp_session.specs.Places.{tabulate}
use Rattle.amqp_serve.specs.declared.supplies.Supply.TheVariants.{CreditOf}
use Rattle.amqp_serve.specs.Serving.{session_supplies, all_supplies_from, all_supplies}
use Rattle.amqp_endpoint.specs.Configs.{Configured}
use Rattle.amqp_endpoint.specs.Connections.{channels}
use Rattle.amqp_endpoint.specs.Held.{any_link_most}
use Rattle.amqp_gateway.specs.Bounds.{peer_most}

session_long : (h c : ℕ) → length (session_supplies h c) ≡ suc h
session_long h c = ap (λ (n : ℕ). suc n) (tabulate_long 0 h (λ handle. CreditOf c handle))

supplies_from_long : (h c n : ℕ) → length (all_supplies_from h c n) ≡ n * suc h
unfolding all_supplies_from
supplies_from_long h c zero = omega arith
supplies_from_long h c (suc n) =
    omega (arith, length-append (session_supplies h c) (flat_map (λ k. session_supplies h k) (tabulate (suc c) n (λ k. k))), session_long h c, supplies_from_long h (suc c) n)

-- a window for each channel, and credit for each handle of it
pub supplies_long : (config : Configured) → length (all_supplies config) ≡ channels config * suc (suc config.handle_max)
unfolding all_supplies
supplies_long config = supplies_from_long (suc config.handle_max) 0 (channels config)

times : (n a b : ℕ) → a ≤ b → n * a ≤ n * b
times zero a b l = omega arith
times (suc n) a b l = omega (arith, l, times n a b l)

-- what is counted from the numbers of channels and handles is no less
pub most_is : (config : Configured) (link sessions links few : ℕ)
    → sessions ≡ config.channel_max + 1 → links ≡ sessions * (config.handle_max + 1) → few ≡ config.max_frame + 8192 + 64 * sessions + (3 + sessions + links) * 2560 + 16448
    → any_link_most config ≤ link → peer_most config ≤ link * links + few
most_is config link sessions links few s l f within =
    let n = channels config * suc config.handle_max in
    let is : links ≡ n = l ∙ (ap (λ (k : ℕ). k * (config.handle_max + 1)) {x = sessions} {y = channels config} (omega (arith, s)) ∙ ap (λ (k : ℕ). channels config * k) {x = config.handle_max + 1} {y = suc config.handle_max} (omega arith)) in
    let product : link * links ≡ n * link = ap (λ (k : ℕ). link * k) is ∙ mul_comm link n in
    omega (arith, s, is, f, product, supplies_long config, mul-suc (channels config) (suc config.handle_max), times n (any_link_most config) link within)
