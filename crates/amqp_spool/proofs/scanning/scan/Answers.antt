use Rattle.std.proofs.Common.{arith, refl, ◌∙◌, subst, List, ℕ}
use Rattle.amqp_spool.specs.Batches.{Batch, EndsAt}
use Rattle.amqp_spool.specs.Heads.{BeginsBatch}
use Rattle.amqp_spool.proofs.Through.{rest_is, within, begun, one_more, fits_in, from_there}
use Rattle.amqp_spool.proofs.scanning.scan.Goals as goal

pub batches-init : goal.batches-init
batches-init c = record { through = begun c.args.secret.now c.args.first c.args.bytes.now }

pub slice_bounds-next_batch-count : goal.slice_bounds-next_batch-count
slice_bounds-next_batch-count c = within c.args.secret.now c.args.first c.args.bytes.now c.batches.scanned c.batches.invariant.through

pub overflow_add-scanned-in-Some : goal.overflow_add-scanned-in-Some
overflow_add-scanned-in-Some c =
    let b : Batch = record { head = c.in-Some.head; body = c.in-Some.body.now } in
    let n = c.batches.scanned.end in
    let here = subst (λ (l : List ℕ). BeginsBatch c.args.secret.now l b.head b.body) (from_there n c.args.bytes.now) (c.in-Some.ensures.some).1 in
    omega (arith, fits_in c.args.secret.now c.args.bytes.now n b (within c.args.secret.now c.args.first c.args.bytes.now c.batches.scanned c.batches.invariant.through) here, c.type_inv.bytes)

pub batches-smaller : goal.batches-smaller
batches-smaller c =
    let b : Batch = record { head = c.in-Some.head; body = c.in-Some.body.now } in
    let n = c.batches.scanned.end in
    let here = subst (λ (l : List ℕ). BeginsBatch c.args.secret.now l b.head b.body) (from_there n c.args.bytes.now) (c.in-Some.ensures.some).1 in
    omega (arith, fits_in c.args.secret.now c.args.bytes.now n b (within c.args.secret.now c.args.first c.args.bytes.now c.batches.scanned c.batches.invariant.through) here)

pub batches-preserved : goal.batches-preserved
batches-preserved c =
    let b : Batch = record { head = c.in-Some.head; body = c.in-Some.body.now } in
    let found = c.in-Some.ensures.some in
    let here = subst (λ (l : List ℕ). BeginsBatch c.args.secret.now l b.head b.body) (from_there c.batches.scanned.end c.args.bytes.now) found.1 in
    record { through = one_more c.args.secret.now c.args.first c.args.bytes.now c.batches.scanned b c.batches.invariant.through found.0 here }

pub returns : goal.returns
returns c =
    let s = c.batches.scanned in
    let x = c.batches.invariant.through in
    let rest = from_there s.end c.args.bytes.now ∙ rest_is c.args.secret.now c.args.first c.args.bytes.now s x in
    record { through = x; ends = subst (λ (l : List ℕ). EndsAt c.args.secret.now s.next l) rest (c.in_default.ensures.none refl) }
