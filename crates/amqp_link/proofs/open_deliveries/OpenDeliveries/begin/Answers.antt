use Rattle.std.proofs.Common.{arith, ◌≡◌, ℕ, ◌+◌, List, [], ◌∷◌, ◌++◌, refl, ap, ◌∙◌}
use Rattle.std.specs.Prelude.{Some, None, true, false}
use Rattle.std.proofs.lemmas.List.{append-nil}
use Rattle.amqp_frame.proofs.Results.{on_err}
use Rattle.amqp_link.specs.Links.{Sent, Delivery, OpenSet, sent_of, begun, with_delivery}
use Rattle.amqp_link.specs.Keeping.{delivery_of}
use Rattle.amqp_link.proofs.KeptPlaces.{begins_at, whole_at, roomier}
use Rattle.amqp_link.proofs.open_deliveries.OpenDeliveries.begin.Goals as goal

with_more : (o : OpenSet) (t : Sent) (d e : Delivery) → t.more ≡ true → t.aborted ≡ false → d ≡ e → record o { unfinished = Some d } ≡ with_delivery o t e
with_more o t d e more stays same = rw (more, stays, append-nil o.ready, same) refl

with_whole : (o : OpenSet) (t : Sent) (d e : Delivery) → t.more ≡ false → t.aborted ≡ false → d ≡ e → record o { ready = o.ready ++ d ∷ []; unfinished = None } ≡ with_delivery o t e
with_whole o t d e last stays same = rw (last, stays, same) refl

pub invariant_of-self : goal.invariant_of-self
invariant_of-self g c = (roomier c.self.inside.slab c.reserve.new.self _ _ _ _ _ _ _ _ c.self.invariant c.reserve.ensures.rest_kept refl (omega arith)).kept

pub invariant_of-self-in_err-reserve-2 : goal.invariant_of-self-in_err-reserve-2
invariant_of-self-in_err-reserve-2 g c = (roomier c.self.inside.slab c.reserve.new.self _ _ _ _ _ _ _ _ c.self.invariant c.reserve.ensures.rest_kept c.reserve-2.ensures.items
    c.reserve-2.ensures.capacity).kept

pub returns-in_err-reserve-2-clause-err : goal.returns-in_err-reserve-2-clause-err
returns-in_err-reserve-2-clause-err g c = on_err _ _ ((roomier c.self.inside.slab c.reserve.new.self _ _ _ _ _ _ _ c.reserve-2.new.self.cap c.self.invariant c.reserve.ensures.rest_kept
    c.reserve-2.ensures.items c.reserve-2.ensures.capacity).is ∙ c.self.view_is)

pub invariant_of-self-in_err-message : goal.invariant_of-self-in_err-message
invariant_of-self-in_err-message g c = (roomier c.self.inside.slab c.reserve.new.self _ _ _ _ _ _ _ _ c.self.invariant c.reserve.ensures.rest_kept c.reserve-2.ensures.items
    c.reserve-2.ensures.capacity).kept

pub returns-in_err-message-clause-err : goal.returns-in_err-message-clause-err
returns-in_err-message-clause-err g c = on_err _ _ ((roomier c.self.inside.slab c.reserve.new.self _ _ _ _ _ _ _ c.reserve-2.new.self.cap c.self.invariant c.reserve.ensures.rest_kept
    c.reserve-2.ensures.items c.reserve-2.ensures.capacity).is ∙ c.self.view_is)

pub invariant_of-self-then-transfer : goal.invariant_of-self-then-transfer
invariant_of-self-then-transfer g c = (begins_at c.self.inside.slab c.reserve.new.self c.insert_reserved-key.new.self c.self.inside.order.items c.reserve-2.new.self.items _ _ c.insert_reserved-key.result c.begun-delivery.result _ _ _ _ c.reserve-2.new.self.cap
    (ap (λ (o : OpenSet). o.unfinished) c.self.view_is ∙ c.requires.none) c.self.invariant c.reserve.ensures.rest_kept c.reserve-2.ensures.items
    c.insert_reserved-key.ensures.was_vacant c.insert_reserved-key.ensures.updates c.insert_reserved-key.ensures.len
    (omega (arith, c.in_ok-reserve-2.ensures.ok, c.reserve-2.new.self.ok.0)) (ap (λ (n : ℕ). c.self.inside.bytes + n) c.bytes.ensures)).kept

pub returns-then-transfer-clause-ok : goal.returns-then-transfer-clause-ok
returns-then-transfer-clause-ok g c = (begins_at c.self.inside.slab c.reserve.new.self c.insert_reserved-key.new.self c.self.inside.order.items c.reserve-2.new.self.items _ _ c.insert_reserved-key.result c.begun-delivery.result _ _ _ _ c.reserve-2.new.self.cap
    (ap (λ (o : OpenSet). o.unfinished) c.self.view_is ∙ c.requires.none) c.self.invariant c.reserve.ensures.rest_kept c.reserve-2.ensures.items
    c.insert_reserved-key.ensures.was_vacant c.insert_reserved-key.ensures.updates c.insert_reserved-key.ensures.len
    (omega (arith, c.in_ok-reserve-2.ensures.ok, c.reserve-2.new.self.ok.0)) (ap (λ (n : ℕ). c.self.inside.bytes + n) c.bytes.ensures)).is
    ∙ ap (λ (o : OpenSet). record o { unfinished = Some (delivery_of c.begun-delivery.result) }) c.self.view_is
    ∙ with_more c.args.self.now (sent_of c.args.transfer.now c.args.payload.now) _ _ c.if-transfer.true c.requires.whole (c.begun-delivery.ensures ∙ ap (λ (bytes : List ℕ). begun c.args.terms.now (sent_of c.args.transfer.now bytes)) c.in_ok-message.ensures)

pub invariant_of-self-2 : goal.invariant_of-self-2
invariant_of-self-2 g c = (whole_at c.self.inside.slab c.reserve.new.self c.insert_reserved-key.new.self c.self.inside.order.items c.reserve-2.new.self.items c.push_reserved.new.self.items _ _ c.insert_reserved-key.result c.begun-delivery.result _ _ _ _
    c.reserve-2.new.self.cap c.push_reserved.new.self.cap
    (ap (λ (o : OpenSet). o.unfinished) c.self.view_is ∙ c.requires.none) c.self.invariant c.reserve.ensures.rest_kept c.reserve-2.ensures.items
    c.insert_reserved-key.ensures.was_vacant c.insert_reserved-key.ensures.updates c.insert_reserved-key.ensures.len
    (omega (arith, c.in_ok-reserve-2.ensures.ok, c.reserve-2.new.self.ok.0)) (ap (λ (n : ℕ). c.self.inside.bytes + n) c.bytes.ensures) c.push_reserved.ensures.items
    (omega (arith, c.push_reserved.ensures.capacity))).kept

pub returns-clause-ok : goal.returns-clause-ok
returns-clause-ok g c = (whole_at c.self.inside.slab c.reserve.new.self c.insert_reserved-key.new.self c.self.inside.order.items c.reserve-2.new.self.items c.push_reserved.new.self.items _ _ c.insert_reserved-key.result c.begun-delivery.result _ _ _ _
    c.reserve-2.new.self.cap c.push_reserved.new.self.cap
    (ap (λ (o : OpenSet). o.unfinished) c.self.view_is ∙ c.requires.none) c.self.invariant c.reserve.ensures.rest_kept c.reserve-2.ensures.items
    c.insert_reserved-key.ensures.was_vacant c.insert_reserved-key.ensures.updates c.insert_reserved-key.ensures.len
    (omega (arith, c.in_ok-reserve-2.ensures.ok, c.reserve-2.new.self.ok.0)) (ap (λ (n : ℕ). c.self.inside.bytes + n) c.bytes.ensures) c.push_reserved.ensures.items
    (omega (arith, c.push_reserved.ensures.capacity))).is
    ∙ ap (λ (o : OpenSet). record o { ready = o.ready ++ delivery_of c.begun-delivery.result ∷ []; unfinished = None }) c.self.view_is
    ∙ with_whole c.args.self.now (sent_of c.args.transfer.now c.args.payload.now) _ _ c.if-transfer.false c.requires.whole (c.begun-delivery.ensures ∙ ap (λ (bytes : List ℕ). begun c.args.terms.now (sent_of c.args.transfer.now bytes)) c.in_ok-message.ensures)
