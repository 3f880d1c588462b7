use Rattle.std.proofs.Common.{rules, ◌≡◌, ◌≢◌, ◌<◌, ◌^◌}
use Rattle.amqp_types.proofs.LentKeys.{numbers_told, kinds_told, octet_kinds_told, number_not_octets, octets_not_number}
use Rattle.amqp_types.proofs.key.are_equal.Goals as goal

pub returns-then-eq : goal.returns-then-eq
returns-then-eq c =
    let same : c.in-Number-Number.kind ≡ c.in-Number-Number.other = search rules in
    let n : c.in-Number-Number.number < 256 ^ 16 = search rules in
    let m : c.in-Number-Number.other_number < 256 ^ 16 = search rules in
    rw (c.in-Number-Number.is-0, c.in-Number-Number.is-1, same) (numbers_told c.in-Number-Number.other c.in-Number-Number.number c.in-Number-Number.other_number n m)

pub returns-else-eq : goal.returns-else-eq
returns-else-eq c =
    let apart : c.in-Number-Number.kind ≢ c.in-Number-Number.other = search rules in
    rw (c.in-Number-Number.is-0, c.in-Number-Number.is-1, c.if-eq.false) (kinds_told c.in-Number-Number.kind c.in-Number-Number.other c.in-Number-Number.number c.in-Number-Number.other_number apart)

pub returns-then-eq-2 : goal.returns-then-eq-2
returns-then-eq-2 c =
    let same : c.in-Octets-Octets.kind ≡ c.in-Octets-Octets.other = search rules in
    rw (c.in-Octets-Octets.is-0, c.in-Octets-Octets.is-1, same) (c.are_same.ensures c.in-Octets-Octets.other)

pub returns-else-eq-2 : goal.returns-else-eq-2
returns-else-eq-2 c =
    let apart : c.in-Octets-Octets.kind ≢ c.in-Octets-Octets.other = search rules in
    rw (c.in-Octets-Octets.is-0, c.in-Octets-Octets.is-1, c.if-eq-2.false) (octet_kinds_told c.in-Octets-Octets.kind c.in-Octets-Octets.other c.in-Octets-Octets.octets.now
    c.in-Octets-Octets.other_octets.now apart)

pub returns-in_default : goal.returns-in_default
returns-in_default c = rw (c.in_default.is-0, c.in_default.is-1) (number_not_octets c.in_default.field-0-0 c.in_default.field-0-1 c.in_default.field-1-0 c.in_default.field-1-1.now)

pub returns-in_default-2 : goal.returns-in_default-2
returns-in_default-2 c = rw (c.in_default.is-0, c.in_default.is-1) (octets_not_number c.in_default.field-0-0 c.in_default.field-0-1 c.in_default.field-1-0.now c.in_default.field-1-1)
