use Rattle.std.proofs.Common.{◌≡◌, sym, ap, refl, ◌∙◌, arith}
use Rattle.amqp_types.specs.Trees.{Trees, none, more}
use Rattle.amqp_perform.specs.Addresses.{Nameless, node_of, node_by, node_in_fields}
use Rattle.amqp_perform.specs.Targets.{SpellItems}
use Rattle.amqp_perform.proofs.Targets.{items_of, first_begins, node_peeked}
use Rattle.amqp_perform.proofs.address.address_in_items.Goals as goal

pub peek-requires : goal.peek-requires
peek-requires c = let h = first_begins c.args.count c.args.items.now c.requires c.if-count-eq0.false in (h.0, h.1.0, h.1.1, h.1.2, h.1.3)

pub returns-then-count-eq0 : goal.returns-then-count-eq0
returns-then-count-eq0 c = by
  where
    by : (ts : Trees) → SpellItems c.args.count ts c.args.items.now → Nameless ≡ node_in_fields ts
    by none is = refl
    by (more u us) is = absurd (omega (arith, is.0, c.if-count-eq0.true))

pub returns-else-count-eq0 : goal.returns-else-count-eq0
returns-else-count-eq0 c = by
  where
    by : (ts : Trees) → SpellItems c.args.count ts c.args.items.now → node_of c.address_by.result ≡ node_in_fields ts
    by none is = absurd (c.if-count-eq0.false is.0)
    by (more u us) is =
        let h = items_of c.args.count u us c.args.items.now is in
        c.address_by.ensures ∙ sym (node_peeked u h.0 c.peek.result c.is_true_at.result (c.peek.ensures u h.0 h.1 h.3 h.2))
        ∙ ap (node_by u) (c.is_true_at.ensures (more u us) is)
