use Rattle.std.proofs.Common.{ℕ, ◌+◌, arith, [], ap, subst, Ok}
use Rattle.amqp_spool.specs.Alone.{HasKnown}
use Rattle.amqp_spool.proofs.KnownReading.{known_then, all_known, what_is_left}
use Rattle.amqp_spool.proofs.alone.reads_alone.Goals as goal

pub returns-then-not-branch-clause-no : goal.returns-then-not-branch-clause-no
returns-then-not-branch-clause-no c = λ is es alone.
    let x = c.records.invariant.so_far in
    let left = what_is_left c.args.names.now c.records.names c.args.body.now c.records.entries.rest.now x.0 c.args.count es x.2 alone in
    let none = c.in_ok-next_is_known.ensures.no (ap (λ b. Ok b) c.if-not-branch.true) left.entries left.is left.known in
    omega (arith, none, left.counted, x.1, c.records-test.true)

pub records-preserved : goal.records-preserved
records-preserved c =
    let x = c.records.invariant.so_far in
    let next = c.in_ok-next_is_known.ensures.yes (ap (λ b. Ok b) c.if-not-branch.false) in
    record { so_far = (x.0 + 1, omega (arith, x.1, c.records-test.true), known_then c.args.names.now c.records.names c.next_is_known.new.names c.args.body.now c.records.entries.rest.now c.next_is_known.new.entries.rest.now x.0 1 x.2 next) }

pub returns-clause-yes : goal.returns-clause-yes
returns-clause-yes c = λ is.
    let x = c.records.invariant.so_far in
    let old = c.args.names.now in
    let new = c.has_none_left.new.names in
    let body = c.args.body.now in
    let all = known_then old c.records.names new body c.records.entries.rest.now [] x.0 0 x.2 (c.has_none_left.ensures.yes is) in
    all_known old new body c.args.count (subst (λ (n : ℕ). HasKnown old new body [] n) (omega (arith, x.1, c.records-test.false)) all)

pub returns-clause-no : goal.returns-clause-no
returns-clause-no c = λ is es alone.
    let x = c.records.invariant.so_far in
    let left = what_is_left c.args.names.now c.records.names c.args.body.now c.records.entries.rest.now x.0 c.args.count es x.2 alone in
    let some = c.has_none_left.ensures.no is left.entries left.is in
    omega (arith, some, left.counted, x.1, c.records-test.false)
