-- amqp_addresses/proofs/addresses/Addresses/of/Answers.antt
use Rattle.std.proofs.Common.{ap, subst, Option, List, ℕ}
use Rattle.std.specs.Borrow.{Bor}
use Rattle.std.specs.Option.{option_map}
use Rattle.amqp_addresses.specs.Takings.{taken}
use Rattle.amqp_addresses.proofs.Reading.{Reads, parts_left, shorter_left, gives_ok, reads_more, refused, reads_all}
use Rattle.amqp_addresses.proofs.addresses.Addresses.of.Goals as goal

pub returns-in-Err-clause-fault : goal.returns-in-Err-clause-fault
returns-in-Err-clause-fault c =
    let l = c.loop-left in
    let so = ap (λ (o : Option (Bor (List ℕ))). option_map (λ r. r.now) o) c.in-Some.is in
    let reads = subst (λ (o : Option (List ℕ)). Reads c.args.credit c.args.text.now l.addresses l.number o) so l.invariant in
    let parts = parts_left c.in-Some.rest.now c.first_line.result.0.now c.first_line.result.1 c.first_line.ensures.parts in
    rw c.at.ensures (refused c.args.credit c.args.text.now l.addresses c.take.new.self l.number c.in-Some.rest.now c.first_line.result.0.now
    (option_map (λ r. r.now) c.first_line.result.1) c.in-Err.fault reads parts c.in-Err.ensures)

pub loop-left-preserved : goal.loop-left-preserved
loop-left-preserved c =
    let l = c.loop-left in
    let so = ap (λ (o : Option (Bor (List ℕ))). option_map (λ r. r.now) o) c.in-Some.is in
    let reads = subst (λ (o : Option (List ℕ)). Reads c.args.credit c.args.text.now l.addresses l.number o) so l.invariant in
    let parts = parts_left c.in-Some.rest.now c.first_line.result.0.now c.first_line.result.1 c.first_line.ensures.parts in
    let short = shorter_left c.in-Some.rest.now c.first_line.result.0.now c.first_line.result.1 c.first_line.ensures.shorter in
    reads_more c.args.credit c.args.text.now l.addresses l.number c.in-Some.rest.now c.first_line.result.0.now (option_map (λ r. r.now) c.first_line.result.1)
    c.take.new.self reads parts short
    (gives_ok (λ _. c.take.new.self) c.take.result c.in_default-take.field-0 (taken c.args.credit l.addresses c.first_line.result.0.now) c.take.ensures c.in_default-take.is)

pub returns-clause-all : goal.returns-clause-all
returns-clause-all c =
    let l = c.loop-left in
    let so = ap (λ (o : Option (Bor (List ℕ))). option_map (λ r. r.now) o) c.in_default.is in
    reads_all c.args.credit c.args.text.now l.addresses l.number (subst (λ (o : Option (List ℕ)). Reads c.args.credit c.args.text.now l.addresses l.number o) so l.invariant)
