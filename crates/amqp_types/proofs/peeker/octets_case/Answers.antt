use Rattle.std.proofs.Common.{◌≡◌, ℕ, ◌^◌, ◌<◌, List, length, sym, subst}
use Rattle.amqp_types.specs.declared.kind.Kind.TheVariants as kind
use Rattle.amqp_types.specs.Trees.{Octets}
use Rattle.amqp_types.specs.declared.code.Constructor.TheVariants.{Variable}
use Rattle.amqp_types.proofs.Peeks.{behind, no_size_err, no_octets_err, octets_are}
use Rattle.amqp_types.proofs.peeker.octets_case.Goals as goal

pub returns-in-Binary : goal.returns-in-Binary
returns-in-Binary c = λ t code data_ rest found_code spelled parts.
    let found = octets_are c.args.kind kind.Binary c.in-Binary.is c.args.w c.args.size c.args.bytes.now c.in_ok-len.len c.in_ok-len.rest.now c.in_ok-octets.octets.now c.in_ok-octets.field-0-1.now
    (rw c.size_len.ensures at c.in_ok-len.ensures.read) c.in_ok-octets.ensures.read t data_ rest (behind (Variable c.args.kind c.args.size) t code data_ found_code spelled) parts in
    (found.0, found.2)

pub returns-in-Symbol : goal.returns-in-Symbol
returns-in-Symbol c = λ t code data_ rest found_code spelled parts.
    let found = octets_are c.args.kind kind.Symbol c.in-Symbol.is c.args.w c.args.size c.args.bytes.now c.in_ok-len.len c.in_ok-len.rest.now c.in_ok-octets.octets.now c.in_ok-octets.field-0-1.now
    (rw c.size_len.ensures at c.in_ok-len.ensures.read) c.in_ok-octets.ensures.read t data_ rest (behind (Variable c.args.kind c.args.size) t code data_ found_code spelled) parts in
    found

pub returns-in-Ok : goal.returns-in-Ok
returns-in-Ok c = λ t code data_ rest found_code spelled parts.
    let found = octets_are c.args.kind kind.String c.in-String.is c.args.w c.args.size c.args.bytes.now c.in_ok-len.len c.in_ok-len.rest.now c.in_ok-octets.octets.now c.in_ok-octets.field-0-1.now
    (rw c.size_len.ensures at c.in_ok-len.ensures.read) c.in_ok-octets.ensures.read t data_ rest (behind (Variable c.args.kind c.args.size) t code data_ found_code spelled) parts in
    subst (λ (x : List ℕ). (t ≡ Octets kind.String x) × (length x < 2 ^ 32)) (sym c.in-Ok.ensures.0) (found.0, found.2)

pub returns-in-Err : goal.returns-in-Err
returns-in-Err c = λ t code data_ rest found_code spelled parts.
    let found = octets_are c.args.kind kind.String c.in-String.is c.args.w c.args.size c.args.bytes.now c.in_ok-len.len c.in_ok-len.rest.now c.in_ok-octets.octets.now c.in_ok-octets.field-0-1.now
    (rw c.size_len.ensures at c.in_ok-len.ensures.read) c.in_ok-octets.ensures.read t data_ rest (behind (Variable c.args.kind c.args.size) t code data_ found_code spelled) parts in
    absurd (c.in-Err.ensures found.1)

pub returns-in_err-len : goal.returns-in_err-len
returns-in_err-len c = λ t code data_ rest found_code spelled parts.
    absurd (no_size_err c.args.w c.args.kind c.args.size c.args.bytes.now _ (rw c.size_len.ensures at c.in_err-len.ensures.read) t data_ rest
    (behind (Variable c.args.kind c.args.size) t code data_ found_code spelled) parts)

pub returns-in_err-octets : goal.returns-in_err-octets
returns-in_err-octets c = λ t code data_ rest found_code spelled parts.
    absurd (no_octets_err c.args.w c.args.kind c.args.size c.args.bytes.now c.in_ok-len.len c.in_ok-len.rest.now _ (rw c.size_len.ensures at c.in_ok-len.ensures.read) c.in_err-octets.ensures.read t
    data_ rest
    (behind (Variable c.args.kind c.args.size) t code data_ found_code spelled) parts)
