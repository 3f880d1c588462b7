use Rattle.std.proofs.Common.{rules, ◌≡◌, [], take, drop, None, sym, ap, ◌∙◌}
use Rattle.std.proofs.lemmas.List.{take-append-drop}
use Rattle.amqp_types.specs.Reading.{value_of}
use Rattle.amqp_perform.proofs.Targets.{found_as, read_as}
use Rattle.amqp_perform.proofs.address.address_of.Goals as goal

pub address_in-requires : goal.address_in-requires
address_in-requires c =
    let found = c.in-Ok.ensures.found in
    (found.0, (take c.in-Ok.field-0 c.args.target.now, drop c.in-Ok.field-0 c.args.target.now, found.1, sym (take-append-drop c.in-Ok.field-0 c.args.target.now), found.2))

pub returns-in-Ok : goal.returns-in-Ok
returns-in-Ok c =
    let found = c.in-Ok.ensures.found in
    let bytes = c.args.target.now in
    let n = c.in-Ok.field-0 in
    let whole = take-append-drop n bytes in
    let some : bytes ≡ [] → ⊥ = search rules in
    let read = ap (value_of 30 None) (sym whole) ∙ c.reading_is_exact.ensures.value_only 30 found.0 (take n bytes) (drop n bytes) found.1 found.2 in
    c.address_in.ensures found.0 (take n bytes, drop n bytes, found.1, sym whole, found.2) ∙ found_as found.0 bytes (drop n bytes) read ∙ read_as bytes some
