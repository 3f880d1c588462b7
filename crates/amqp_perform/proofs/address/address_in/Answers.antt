use Rattle.std.proofs.Common.{◌≤◌, [], sym, ap, subst, ◌∙◌, arith}
use Rattle.std.proofs.lemmas.List.{append-nil}
use Rattle.amqp_types.specs.Trees.{Tree, depth_of}
use Rattle.amqp_perform.specs.Addresses.{node_in}
use Rattle.amqp_perform.proofs.Targets.{described_as}
use Rattle.amqp_perform.proofs.address.address_in.Goals as goal

pub returns-in-Described : goal.returns-in-Described
returns-in-Described c t is =
    let out = c.in-Described.ensures t is.0 is.1 is.2 is.3 in
    let deep = subst (λ (u : Tree). depth_of u ≤ 30) out.2 is.4 in
    let typed = c.is_target.ensures out.0 (c.in-Described.descriptor.now, [], out.4, sym (append-nil c.in-Described.descriptor.now), omega (arith, deep)) in
    c.address_in_list.ensures out.1 (c.in-Described.list.now, [], out.5, sym (append-nil c.in-Described.list.now), omega (arith, deep))
    ∙ described_as out.0 out.1 (sym typed ∙ c.if-is_target.true)
    ∙ ap node_in (sym out.2)
