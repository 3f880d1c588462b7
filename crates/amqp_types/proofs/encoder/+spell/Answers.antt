use Rattle.std.proofs.Common.{arith}
use Rattle.std.proofs.lemmas.Result.{err_from_is_err_and}
use Rattle.amqp_types.proofs.Fitting.{unfit_item, unfit_key, unfit_value}
use Rattle.amqp_types.proofs.encoder.+spell.Goals as goal

pub spell_all-returns-in_err-spell-clause-err : goal.spell_all-returns-in_err-spell-clause-err
spell_all-returns-in_err-spell-clause-err t c =
    let p = err_from_is_err_and c.from_residual.result c.from_residual.ensures.1 in
    rw (p.1, p.2, ← c.deref-item-items.ensures.value)
    (unfit_item _ c.loop-item.item-index c.deref-item-items.result.now c.item-item.result (omega arith) c.item-item.is c.loop-item.invariant.rest c.in_err-spell.ensures.err)

pub spell_heads-returns-in_err-spell-clause-err : goal.spell_heads-returns-in_err-spell-clause-err
spell_heads-returns-in_err-spell-clause-err t c =
    let p = err_from_is_err_and c.from_residual-in_err-spell.result c.from_residual-in_err-spell.ensures.1 in
    rw (p.1, p.2, ← c.deref-descriptor-items.ensures.value)
    (unfit_item _ c.loop-descriptor.descriptor-index c.deref-descriptor-items.result.now c.descriptor-item.result (omega arith) c.descriptor-item.is c.loop-descriptor.invariant.rest
    c.in_err-spell.ensures.err)

pub spell_pairs-returns-in_err-spell-clause-err : goal.spell_pairs-returns-in_err-spell-clause-err
spell_pairs-returns-in_err-spell-clause-err t c =
    let p = err_from_is_err_and c.from_residual.result c.from_residual.ensures.1 in
    rw (p.1, p.2, ← c.deref-key-items.ensures.value)
    (unfit_key _ c.loop-key.key-index c.deref-key-items.result.now c.loop-key-item.result (omega arith) c.loop-key-item.is c.loop-key.invariant.rest c.in_err-spell.ensures.err)

pub spell_pairs-returns-in_err-spell-2-clause-err : goal.spell_pairs-returns-in_err-spell-2-clause-err
spell_pairs-returns-in_err-spell-2-clause-err t c =
    let p = err_from_is_err_and c.from_residual-in_err-spell-2.result c.from_residual-in_err-spell-2.ensures.1 in
    rw (p.1, p.2, ← c.deref-key-items.ensures.value)
    (unfit_value _ c.loop-key.key-index c.deref-key-items.result.now c.loop-key-item.result (omega arith) c.loop-key-item.is c.loop-key.invariant.rest c.in_err-spell-2.ensures.err)

pub parts_of-returns-in_err-part_of-clause-err : goal.parts_of-returns-in_err-part_of-clause-err
parts_of-returns-in_err-part_of-clause-err t c =
    let p = err_from_is_err_and c.from_residual.result c.from_residual.ensures.1 in
    rw (p.1, p.2, ← c.deref-item-items.ensures.value)
    (unfit_item _ c.loop-item.item-index c.deref-item-items.result.now c.item-item.result (omega arith) c.item-item.is c.loop-item.invariant.rest c.in_err-part_of.ensures.err)
