use Rattle.std.proofs.Common.{◌≡◌, ℕ, ◌-◌, List, false, sym, ap, subst, refl, ◌∙◌, arith}
use Rattle.amqp_types.specs.Trees.{Trees, none, more}
use Rattle.amqp_perform.specs.Addresses.{field_in}
use Rattle.amqp_perform.specs.Outcomes.{is_true_tree}
use Rattle.amqp_perform.specs.Targets.{SpellItems}
use Rattle.amqp_perform.proofs.Targets.{items_of, first_begins, true_peeked, field_after}
use Rattle.amqp_perform.proofs.address.+is_true_at.Goals as goal

pub peek-requires : goal.peek-requires
peek-requires t c = let h = first_begins c.args.count c.args.items.now c.requires c.if-count-eq0.false in (h.0, h.1.0, h.1.1, h.1.2, h.1.3)

pub after_first-requires : goal.after_first-requires
after_first-requires t c = first_begins c.args.count c.args.items.now c.requires c.if-count-eq0.false

pub is_true_at-requires : goal.is_true_at-requires
is_true_at-requires t c = (omega (arith, c.decreases, c.if-place-eq0.false), by c.requires.0 c.requires.1)
  where
    by : (ts : Trees) → SpellItems c.args.count ts c.args.items.now → (us : Trees) × SpellItems (c.args.count - 1) us c.after_first.result.now
    by none is = absurd (c.if-count-eq0.false is.0)
    by (more u us) is = let h = items_of c.args.count u us c.args.items.now is in (us, subst (λ (b : List ℕ). SpellItems (c.args.count - 1) us b) (sym (c.after_first.ensures u h.0 h.1 h.3 h.4 h.2)) h.5)

pub returns-then-count-eq0 : goal.returns-then-count-eq0
returns-then-count-eq0 t c = by
  where
    by : (ts : Trees) → SpellItems c.args.count ts c.args.items.now → false ≡ is_true_tree (field_in c.args.place ts)
    by none is = refl
    by (more u us) is = absurd (omega (arith, is.0, c.if-count-eq0.true))

pub returns-then-place-eq0 : goal.returns-then-place-eq0
returns-then-place-eq0 t c = by
  where
    by : (ts : Trees) → SpellItems c.args.count ts c.args.items.now → c.peeks_true.result ≡ is_true_tree (field_in c.args.place ts)
    by none is = absurd (c.if-count-eq0.false is.0)
    by (more u us) is =
        let h = items_of c.args.count u us c.args.items.now is in
        c.peeks_true.ensures ∙ sym (true_peeked u h.0 c.peek.result (c.peek.ensures u h.0 h.1 h.3 h.2)) ∙ ap (λ n. is_true_tree (field_in n (more u us))) (sym c.if-place-eq0.true)

pub returns-else-place-eq0 : goal.returns-else-place-eq0
returns-else-place-eq0 t c = by
  where
    by : (ts : Trees) → SpellItems c.args.count ts c.args.items.now → c.is_true_at.result ≡ is_true_tree (field_in c.args.place ts)
    by none is = absurd (c.if-count-eq0.false is.0)
    by (more u us) is =
        let h = items_of c.args.count u us c.args.items.now is in
        c.is_true_at.ensures us (subst (λ (b : List ℕ). SpellItems (c.args.count - 1) us b) (sym (c.after_first.ensures u h.0 h.1 h.3 h.4 h.2)) h.5)
        ∙ ap is_true_tree (sym (field_after c.args.place u us c.if-place-eq0.false))
