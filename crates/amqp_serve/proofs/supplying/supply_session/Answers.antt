use Rattle.std.proofs.Common.{◌≡◌, ◌+◌, ◌-◌, ◌<◌, ◌∷◌, ℕ, List, suc, false, ap, subst, arith, rules}
use Rattle.std.specs.Prelude.{is_none}
use Rattle.std.proofs.lemmas.Grind.{common_steps}
use Rattle.std.proofs.lemmas.Result.{err_from_is_err_and}
use Rattle.amqp_session.specs.Places.{tabulate}
use Rattle.amqp_endpoint.specs.Configs.{Configured}
use Rattle.amqp_endpoint.specs.Connections.{slot_at}
use Rattle.amqp_serve.specs.declared.supplies.Supply.{Supply}
use Rattle.amqp_serve.specs.declared.supplies.Supply.TheVariants.{WindowOf, CreditOf}
use Rattle.amqp_serve.specs.Serving.{session_supplies}
use Rattle.amqp_serve.specs.Supplying.{half_rule}
use Rattle.amqp_serve.proofs.Gifts.{GaveTo, to_itself, some_of, first_refused, window_come, link_come, gave_some}
use Rattle.amqp_serve.proofs.ServingTops.{tabulate_step}
use Rattle.amqp_serve.proofs.supplying.supply_session.Goals as goal

pub returns-in_err-supply-clause-gave : goal.returns-in_err-supply-clause-gave
returns-in_err-supply-clause-gave g c =
    let s = c.args.endpoint.now in
    let p = half_rule c.args.credit in
    let e = err_from_is_err_and c.from_residual.result c.from_residual.ensures.1 in
    let shown : is_none c.window.result ≡ false = first_of (search rules, grind (arith, common_steps)) in
    let rest = tabulate 0 (suc s.connection.config.handle_max) (λ (h : ℕ). CreditOf c.args.channel h) in
    let some : 0 < c.window_lack-places.result = some_of c.window_lack-places.result (λ z. absurd (grind (arith, (c.in_err-supply.ensures.nothing z).0))) in
    gave_some _ (slot_at s.connection c.args.channel) c.window.result c.from_residual.result e.0 _ p c.args.window (WindowOf c.args.channel ∷ rest) s c.supply.new.endpoint c.window.ensures
    shown e.1 e.2
    (first_refused p c.args.window (WindowOf c.args.channel ∷ rest) rest (WindowOf c.args.channel) _ s s c.supply.new.endpoint c.window_lack-places.result c.window_lack-places.ensures some
    (c.in_err-supply.ensures.given some) (to_itself p c.args.window (WindowOf c.args.channel ∷ rest) s))

pub loop-handle-init : goal.loop-handle-init
loop-handle-init g c =
    record {
      within = c.first_lacking-handle.ensures.within;
      come = window_come (half_rule c.args.credit) c.args.window (c.handle_max.result + 1) c.args.channel c.first_lacking-handle.result c.window_lack-places.result c.args.endpoint.now c.supply.new.endpoint
          c.window_lack-places.ensures (record { nothing = λ z. (c.in_ok-supply.ensures.nothing z).1; given = c.in_ok-supply.ensures.given }) c.first_lacking-handle.ensures.within
          c.first_lacking-handle.ensures.passed;
    }

pub returns-in_err-supply-2-clause-gave : goal.returns-in_err-supply-2-clause-gave
returns-in_err-supply-2-clause-gave g c =
    let s = c.args.endpoint.now in
    let t = c.loop-handle.endpoint in
    let i = c.loop-handle.handle in
    let n = c.handle_max.result + 1 in
    let p = half_rule c.args.credit in
    let credit = λ (h : ℕ). CreditOf c.args.channel h in
    let e = err_from_is_err_and c.from_residual-in_err-supply-2.result c.from_residual-in_err-supply-2.ensures.1 in
    let shown : is_none c.window.result ≡ false = first_of (search rules, grind (arith, common_steps)) in
    let all : n ≡ suc s.connection.config.handle_max = omega (arith, c.handle_max.ensures, ap (λ (k : Configured). k.handle_max) c.config.ensures) in
    let some : 0 < c.credit_lack-lacking.result = some_of c.credit_lack-lacking.result (λ z. absurd (grind (arith, (c.in_err-supply-2.ensures.nothing z).0))) in
    let before = subst (λ (l : List Supply). GaveTo p c.args.window (session_supplies n c.args.channel) s l t) (tabulate_step credit i n c.loop-handle-test.true) c.loop-handle.invariant.come.gave in
    gave_some _ (slot_at s.connection c.args.channel) c.window.result c.from_residual-in_err-supply-2.result e.0 _ p c.args.window (session_supplies (suc s.connection.config.handle_max) c.args.channel) s
    c.supply-in-loop-handle.new.endpoint c.window.ensures shown e.1 e.2
    (first_refused p c.args.window (session_supplies (suc s.connection.config.handle_max) c.args.channel) (tabulate (i + 1) (n - (i + 1)) credit) (CreditOf c.args.channel i) _ s t
    c.supply-in-loop-handle.new.endpoint c.credit_lack-lacking.result c.credit_lack-lacking.ensures some (c.in_err-supply-2.ensures.given some)
    (subst (λ (m : ℕ). GaveTo p c.args.window (session_supplies m c.args.channel) s (CreditOf c.args.channel i ∷ tabulate (i + 1) (n - (i + 1)) credit) t) all before))

pub loop-handle-preserved : goal.loop-handle-preserved
loop-handle-preserved g c =
    let lacking = c.first_lacking-handle-in-loop-handle in
    record {
      within = lacking.ensures.within;
      come = link_come (half_rule c.args.credit) c.args.window (c.handle_max.result + 1) c.args.channel c.loop-handle.handle lacking.result c.credit_lack-lacking.result c.args.endpoint.now c.loop-handle.endpoint
          c.supply-in-loop-handle.new.endpoint c.loop-handle-test.true c.credit_lack-lacking.ensures
          (record { nothing = λ z. (c.in_ok-supply-2.ensures.nothing z).1; given = c.in_ok-supply-2.ensures.given }) lacking.ensures.from lacking.ensures.within lacking.ensures.passed c.loop-handle.invariant.come;
    }
