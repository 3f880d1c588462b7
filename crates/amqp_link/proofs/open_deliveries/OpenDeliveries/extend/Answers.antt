use Rattle.std.proofs.Common.{length, ◌++◌, ◌||◌, Bool, List, arith, ℕ, ◌≡◌, ◌+◌, refl, sym, ap, ◌∙◌, Some, Option}
use Rattle.std.proofs.lemmas.Result.{err_from_is_err_and}
use Rattle.amqp_link.specs.Links.{Delivery, delivery_bytes}
use Rattle.std.specs.Prelude.{option_map}
use Rattle.std.proofs.lemmas.List.{length-append}
use Rattle.amqp_link.specs.Keeping.{delivery_of, delivery_in, at_key, set_at}
use Rattle.std.proofs.lemmas.Option.{same_Some}
use Rattle.amqp_link.proofs.KeptPlaces.{changes_at, here_of}
use Rattle.amqp_link.proofs.open_deliveries.OpenDeliveries.extend.Goals as goal

longer : (d : Delivery) (b : Bool) (more : List ℕ) → delivery_bytes (record d { settled = d.settled || b; message = d.message ++ more }) ≡ delivery_bytes d + length more
longer d b more = omega (arith, length-append d.message more)

pub index_mut-requires : goal.index_mut-requires
index_mut-requires g c = here_of c.self.inside.slab _ _ _ c.in-Some.key _ _ c.self.invariant c.in-Some.is

pub invariant_of-self : goal.invariant_of-self
invariant_of-self g c =
    let same = c.in_err-extend.ensures.err ∙ sym (ap delivery_in c.index_mut.ensures.value) in
    (changes_at c.self.inside.slab _ _ _ c.in-Some.key c.extend.new.self _ _ 0 _ c.in-Some.is c.self.invariant (ap delivery_bytes same ∙ omega arith) (omega arith)).kept

pub returns-in_err-extend-clause-err : goal.returns-in_err-extend-clause-err
returns-in_err-extend-clause-err g c =
    let p = err_from_is_err_and c.from_residual.result c.from_residual.ensures.1 in
    let same = c.in_err-extend.ensures.err ∙ sym (ap delivery_in c.index_mut.ensures.value) in
    let whole : Some (delivery_of c.extend.new.self) ≡ option_map (at_key c.self.inside.slab) c.self.inside.unfinished = ap Some same
    ∙ sym (ap (option_map (at_key c.self.inside.slab)) c.in-Some.is) in
    rw (p.1, ← c.self.view_is)
    ((changes_at c.self.inside.slab _ _ _ c.in-Some.key c.extend.new.self c.self.inside.bytes c.self.inside.bytes 0 c.self.inside.order.cap c.in-Some.is c.self.invariant
    (ap delivery_bytes same ∙ omega arith) (omega arith)).is
    ∙ ap (λ (p : Option Delivery). record (set_at c.self.inside.slab c.self.inside.order.items c.self.inside.handed_up c.self.inside.unfinished) { unfinished = p }) whole)

pub invariant_of-self-in-Some : goal.invariant_of-self-in-Some
invariant_of-self-in-Some g c =
    let long = ap delivery_bytes c.in_ok-extend.ensures.ok ∙ longer (delivery_of c.index_mut.result.now) c.args.settled c.args.payload.now
    ∙ ap (λ s. delivery_bytes (delivery_in s) + length c.args.payload.now) (sym c.index_mut.ensures.value) in
    (changes_at c.self.inside.slab _ _ _ c.in-Some.key c.extend.new.self _ _ _ _ c.in-Some.is c.self.invariant long refl).kept

pub returns-in_ok-extend-clause-ok : goal.returns-in_ok-extend-clause-ok
returns-in_ok-extend-clause-ok g c =
    let long = ap delivery_bytes c.in_ok-extend.ensures.ok ∙ longer (delivery_of c.index_mut.result.now) c.args.settled c.args.payload.now
    ∙ ap (λ s. delivery_bytes (delivery_in s) + length c.args.payload.now) (sym c.index_mut.ensures.value) in
    rw (← c.self.view_is) (λ d e.
    let same : d ≡ delivery_of c.index_mut.result.now = same_Some _ _ (sym e ∙ ap (option_map (at_key c.self.inside.slab)) c.in-Some.is
    ∙ ap (λ s. Some (delivery_in s)) c.index_mut.ensures.value) in
    (changes_at c.self.inside.slab _ _ _ c.in-Some.key c.extend.new.self _ _ _ c.self.inside.order.cap c.in-Some.is c.self.invariant long refl).is
    ∙ ap (λ (x : Delivery). record (set_at c.self.inside.slab c.self.inside.order.items c.self.inside.handed_up c.self.inside.unfinished) { unfinished = Some x })
    (c.in_ok-extend.ensures.ok ∙ ap (λ (x : Delivery). record x { settled = x.settled || c.args.settled; message = x.message ++ c.args.payload.now }) (sym same)))
