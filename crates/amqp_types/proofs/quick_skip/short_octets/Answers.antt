use Rattle.std.proofs.Common.{◌≡◌, ◌∷◌, rules, refl, Ok, Some}
use Rattle.amqp_types.specs.declared.code.SizeWidth.TheVariants.{One}
use Rattle.amqp_types.specs.declared.code.Constructor.TheVariants.{Variable}
use Rattle.amqp_types.specs.Reading.{item_by}
use Rattle.amqp_types.specs.Trees.{Octets}
use Rattle.amqp_types.proofs.LentKeys.{coded_is}
use Rattle.amqp_types.proofs.quick_skip.short_octets.Goals as goal

pub returns-clause-read : goal.returns-clause-read
unfolding item_by
returns-clause-read c = λ inner w nodes.
    let parts : c.args.bytes.now ≡ c.in_ok-code.code.now ∷ c.in_ok-code.data.now = search rules in
    let item : item_by inner (Variable c.in_ok-kind.kind One) w (Some nodes) c.in_ok-code.data.now ≡ Ok (Octets c.in_ok-kind.kind c.in_ok-octets.octets.now, Some nodes, c.in_ok-octets.rest.now) =
    rw (c.in_ok-octets.ensures.read w) refl in
    rw parts (coded_is inner w nodes c.in_ok-code.code.now (Variable c.in_ok-kind.kind One) c.in_ok-code.data.now c.in_ok-octets.rest.now (Octets c.in_ok-kind.kind c.in_ok-octets.octets.now)
    c.in_ok-kind.ensures item)
