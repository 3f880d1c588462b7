use Rattle.std.proofs.Common.{◌∙◌, ◌++◌}
use Rattle.std.specs.Prelude.{option_to_list}
use Rattle.std.proofs.lemmas.List.{append_assoc}
use Rattle.amqp_link.specs.Links.{has_id}
use Rattle.amqp_link.specs.Keeping.{delivery_of}
use Rattle.amqp_link.proofs.PlaceKeys.{found_any, any_before, any_behind}
use Rattle.amqp_link.proofs.open_deliveries.OpenDeliveries.has_id.Goals as goal

pub returns-then-is_some : goal.returns-then-is_some
returns-then-is_some g c =
    let s = c.args.self.now in
    rw (append_assoc s.awaiting s.ready (option_to_list s.unfinished))
    (any_before (has_id c.args.id) s.awaiting (s.ready ++ option_to_list s.unfinished) _
    (c.is_some.ensures ∙ found_any (λ d. delivery_of d.now) (has_id c.args.id) c.find_handed_up.result s.awaiting c.find_handed_up.ensures) c.if-is_some.true)

pub returns-else-is_some : goal.returns-else-is_some
returns-else-is_some g c =
    let s = c.args.self.now in
    rw (append_assoc s.awaiting s.ready (option_to_list s.unfinished))
    (any_behind (has_id c.args.id) s.awaiting (s.ready ++ option_to_list s.unfinished) _ _
    (c.is_some.ensures ∙ found_any (λ d. delivery_of d.now) (has_id c.args.id) c.find_handed_up.result s.awaiting c.find_handed_up.ensures) c.if-is_some.false c.is_untaken.ensures)
