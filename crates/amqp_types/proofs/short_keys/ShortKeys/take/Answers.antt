use Rattle.std.proofs.Common.{rules, set, ◌≡◌, ◌∷◌, ◌+◌, ◌-◌, ◌<◌, length, take, drop, map, Bor, List, ℕ, true, false, refl, sym, ◌∙◌, ap, inr, arith}
use Rattle.std.proofs.lemmas.List.{take_all, length-drop, drop-set}
use Rattle.amqp_types.specs.Decoding.{is_among}
use Rattle.amqp_types.specs.Images.{image}
use Rattle.amqp_types.specs.Trees.{Octets}
use Rattle.amqp_types.proofs.short_keys.ShortKeys.take.Goals as goal

pub returns-then-has-clause-none : goal.returns-then-has-clause-none
returns-then-has-clause-none c = λ inner nodes.
    let self = c.self.inside in
    let kind : c.in-Some.kind ≡ self.kind = search rules in
    let all : map (λ (key : Bor (List ℕ)). image (Octets self.kind key.now)) (take (32 - self.free) (drop self.free self.keys)) ≡ c.args.self.now =
    ap (map (λ key. image (Octets self.kind key.now))) (take_all (32 - self.free) (drop self.free self.keys) (omega (arith, length-drop self.free self.keys, c.self.invariant.1))) ∙ c.self.view_is in
    let there : is_among (image (Octets c.in-Some.kind c.in-Some.octets.now)) c.args.self.now ≡ true =
    rw kind (ap (is_among (image (Octets self.kind c.in-Some.octets.now))) (sym all) ∙ sym (c.if-has.ensures self.kind)) in
    inr (inr (Octets c.in-Some.kind c.in-Some.octets.now, nodes, c.in-Some.rest.now, c.in-Some.ensures.read inner c.args.w nodes, there, rw c.place.ensures refl))

pub returns-clause-new : goal.returns-clause-new
returns-clause-new c = λ inner nodes.
    let self = c.self.inside in
    let kind : c.in-Some.kind ≡ self.kind = search rules in
    let all : map (λ (key : Bor (List ℕ)). image (Octets self.kind key.now)) (take (32 - self.free) (drop self.free self.keys)) ≡ c.args.self.now =
    ap (map (λ key. image (Octets self.kind key.now))) (take_all (32 - self.free) (drop self.free self.keys) (omega (arith, length-drop self.free self.keys, c.self.invariant.1))) ∙ c.self.view_is in
    let new : is_among (image (Octets c.in-Some.kind c.in-Some.octets.now)) c.args.self.now ≡ false =
    rw kind (ap (is_among (image (Octets self.kind c.in-Some.octets.now))) (sym all) ∙ sym (c.if-has.ensures self.kind)) in
    let some : self.free - 1 < length self.keys = omega (arith, c.if-self-eq0.false, c.self.invariant.0, c.self.invariant.1) in
    let next : self.free - 1 + 1 ≡ self.free = omega (arith, c.if-self-eq0.false) in
    let with : map (λ (key : Bor (List ℕ)). image (Octets self.kind key.now)) (drop (self.free - 1) (set self.keys (self.free - 1) c.in-Some.octets))
    ≡ image (Octets c.in-Some.kind c.in-Some.octets.now) ∷ c.args.self.now =
    rw kind (ap (map (λ key. image (Octets self.kind key.now))) (drop-set self.keys (self.free - 1) c.in-Some.octets some)
    ∙ ap (λ n. image (Octets self.kind c.in-Some.octets.now) ∷ map (λ key. image (Octets self.kind key.now)) (drop n self.keys)) next
    ∙ ap (λ keys. image (Octets self.kind c.in-Some.octets.now) ∷ keys) c.self.view_is) in
    (Octets c.in-Some.kind c.in-Some.octets.now, c.in-Some.ensures.read inner c.args.w nodes, new, λ other. ap (is_among other) with)
