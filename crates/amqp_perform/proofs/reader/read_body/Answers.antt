use Rattle.std.proofs.Common.{◌≡◌, ℕ, ◌-◌, ◌≤◌, List, length, drop, Some, Ok, Err, sym, ap, ◌∙◌, arith}
use Rattle.amqp_types.proofs.Octets.{IsBytes}
use Rattle.amqp_perform.specs.Performatives.{type_of, performative_cells}
use Rattle.amqp_perform.specs.BodyReading.{IsRead}
use Rattle.amqp_perform.proofs.BodyLaws.{payload_behind, read_found, read_only, read_fault}
use Rattle.amqp_perform.proofs.reader.read_body.Goals as goal

is_bytes : (c : goal.In-Some) → IsBytes c.args.bytes.now
is_bytes c i = omega (arith, c.type_inv.bytes i)

behind : (c : goal.In-Some) → (length c.in-Some.rest.now ≤ length c.args.bytes.now) × (drop (length c.args.bytes.now - length c.in-Some.rest.now) c.args.bytes.now ≡ c.in-Some.rest.now)
behind c = payload_behind c.args.bytes.now (type_of c.in-Some.performative) (performative_cells c.in-Some.performative) c.in-Some.rest.now (is_bytes c) c.in-Some.ensures

is_read : (c : goal.In-Some) → IsRead c.args.bytes.now (Ok (c.in-Some.performative, length c.args.bytes.now - length c.in-Some.rest.now))
is_read c = c.in-Some.ensures ∙ ap (λ (rest : List ℕ). Some (type_of c.in-Some.performative, performative_cells c.in-Some.performative, rest)) (sym (behind c).1)

is_refused : (c : goal.After-fault_in) → IsRead c.args.bytes.now (Err c.fault_in.result)
is_refused c = (c.in-None.ensures, c.fault_in.ensures)

pub overflow_sub-result : goal.overflow_sub-result
overflow_sub-result c = (behind c).0

pub returns-in-Some-clause-found : goal.returns-in-Some-clause-found
returns-in-Some-clause-found c = read_found c.args.bytes.now (Ok (c.in-Some.performative, length c.args.bytes.now - length c.in-Some.rest.now)) (is_bytes c) (is_read c)

pub returns-in-Some-clause-only : goal.returns-in-Some-clause-only
returns-in-Some-clause-only c =
    λ d cells payload body. read_only c.args.bytes.now (Ok (c.in-Some.performative, length c.args.bytes.now - length c.in-Some.rest.now)) d cells payload (is_read c) body

pub returns-in-Some-clause-exact : goal.returns-in-Some-clause-exact
returns-in-Some-clause-exact c = is_read c

pub returns-in-None-clause-only : goal.returns-in-None-clause-only
returns-in-None-clause-only c = λ d cells payload body. read_only c.args.bytes.now (Err c.fault_in.result) d cells payload (is_refused c) body

pub returns-in-None-clause-fault : goal.returns-in-None-clause-fault
returns-in-None-clause-fault c = read_fault c.args.bytes.now (Err c.fault_in.result) (λ i. omega (arith, c.type_inv.bytes i)) (is_refused c)
