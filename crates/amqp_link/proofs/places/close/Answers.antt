use Rattle.std.proofs.Common.{arith, refl, rules, ap, length}
use Rattle.std.specs.Prelude.{is_some}
use Rattle.std.proofs.lemmas.Fn.{filter_same}
use Rattle.amqp_link.proofs.Closings.{cleared, closed, ready_fits, filter_length}
use Rattle.amqp_link.proofs.places.close.Goals as goal

pub overflow_sub-handed_up : goal.overflow_sub-handed_up
overflow_sub-handed_up g c =
    let left = filter_same _ (λ place. is_some place) _ (λ x b f' k. search rules) _ _ c.retain.ensures.filtered in
    omega (arith, ready_fits c.args.places.now.items _ c.args.handed_up.now c.requires.filled left, c.len-count.ensures, c.len.ensures, c.retain.new.self.ok.0, c.args.places.now.ok.0)

pub returns-then-deliveries-eq0-clause-same : goal.returns-then-deliveries-eq0-clause-same
returns-then-deliveries-eq0-clause-same g c =
    cleared c.args.places.now.items _ c.args.handed_up.now _ c.requires.filled (omega (arith, c.requires.keys, c.if-deliveries-eq0.true)) c.clear.ensures.items refl

pub returns-then-count-deliveries-clause-same : goal.returns-then-count-deliveries-clause-same
returns-then-count-deliveries-clause-same g c =
    let left = filter_same _ (λ place. is_some place) _ (λ x b f' k. search rules) _ _ c.retain.ensures.filtered in
    closed c.args.places.now.items _ c.args.handed_up.now _ c.requires.split c.requires.filled left
    (omega (arith, c.retain.ensures.bound, c.retain.new.self.ok.0, c.args.places.now.ok.0))
    (omega (arith, c.len-count.ensures, c.len.ensures, c.retain.new.self.ok.0, c.args.places.now.ok.0))

pub returns-then-count-deliveries-clause-few : goal.returns-then-count-deliveries-clause-few
returns-then-count-deliveries-clause-few g c =
    let left = filter_same _ (λ place. is_some place) _ (λ x b f' k. search rules) _ _ c.retain.ensures.filtered in
    omega (arith, ap length left, filter_length c.args.places.now.items, c.requires.keys)
