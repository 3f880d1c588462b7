use Rattle.std.proofs.Common.{rules, ◌≡◌, ◌∙◌, ap, not}
use Rattle.amqp_types.specs.Keys.{key_image}
use Rattle.amqp_types.proofs.Sets.{found, inserted}
use Rattle.amqp_types.proofs.keys.Keys.insert_key.Goals as goal

pub returns-clause-new : goal.returns-clause-new
returns-clause-new c =
    let e : c.put_key.new.out.items ≡ key_image c.args.key.now = search rules in
    let f = found (λ k. k.items) c.put_key.new.out.items c.self.inside.images.keys in
    c.in_ok-insert.ensures.added ∙ ap not f ∙ rw e (search rules)

pub returns-clause-ok : goal.returns-clause-ok
returns-clause-ok c octets =
    let e : c.put_key.new.out.items ≡ key_image c.args.key.now = search rules in
    let f = inserted (λ k. k.items) octets c.put_key.new.out c.self.inside.images.keys in
    rw c.in_ok-insert.ensures.keys (f ∙ rw e (search rules))
