use Rattle.std.proofs.Common.{◌-◌, length, take, drop, arith, ap, ◌∙◌, subst, List, ℕ, Ok}
use Rattle.std.specs.Prelude.{IfSome}
use Rattle.amqp_spool.specs.Alone.{EndsAlone, HasReadAlone}
use Rattle.amqp_spool.specs.Batches.{Batch, Follows}
use Rattle.amqp_spool.specs.Heads.{BeginsBatch}
use Rattle.amqp_spool.specs.Names.{nobody, after}
use Rattle.amqp_spool.proofs.KnownReading.{nothing_alone, one_more_alone, ends_as}
use Rattle.amqp_spool.proofs.Through.{rest_is, within, fits_in, from_there}
use Rattle.amqp_spool.proofs.alone.scan_alone.Goals as goal

pub batches-init : goal.batches-init
batches-init c = record { so_far = nothing_alone c.new-names.result c.args.secret.now c.args.first c.args.bytes.now c.new-names.ensures }

pub slice_bounds-next_alone-count : goal.slice_bounds-next_alone-count
slice_bounds-next_alone-count c = within c.args.secret.now c.args.first c.args.bytes.now c.batches.scanned c.batches.invariant.so_far.through

pub batches-smaller : goal.batches-smaller
batches-smaller c =
    let b : Batch = record { head = c.in-Some.head; body = c.in-Some.body.now } in
    let n = c.batches.scanned.end in
    let found = subst (λ o. IfSome o (λ x. Follows c.batches.scanned.next (record { head = x.0; body = x.1.now }) × BeginsBatch c.args.secret.now (take (length c.args.bytes.now - n) (drop n c.args.bytes.now)) x.0 x.1.now × HasReadAlone c.batches.names c.next_alone.new.names x.1.now x.0.count)) c.in-Some.is c.in_ok-head.ensures.some in
    let here = subst (λ (l : List ℕ). BeginsBatch c.args.secret.now l b.head b.body) (from_there n c.args.bytes.now) found.1 in
    omega (arith, fits_in c.args.secret.now c.args.bytes.now n b (within c.args.secret.now c.args.first c.args.bytes.now c.batches.scanned c.batches.invariant.so_far.through) here)

pub batches-preserved : goal.batches-preserved
batches-preserved c =
    let b : Batch = record { head = c.in-Some.head; body = c.in-Some.body.now } in
    let n = c.batches.scanned.end in
    let found = subst (λ o. IfSome o (λ x. Follows c.batches.scanned.next (record { head = x.0; body = x.1.now }) × BeginsBatch c.args.secret.now (take (length c.args.bytes.now - n) (drop n c.args.bytes.now)) x.0 x.1.now × HasReadAlone c.batches.names c.next_alone.new.names x.1.now x.0.count)) c.in-Some.is c.in_ok-head.ensures.some in
    let here = subst (λ (l : List ℕ). BeginsBatch c.args.secret.now l b.head b.body) (from_there n c.args.bytes.now) found.1 in
    record { so_far = one_more_alone c.batches.names c.next_alone.new.names c.args.secret.now c.args.first c.args.bytes.now c.batches.scanned b c.batches.invariant.so_far found.0 here found.2 }

pub returns : goal.returns
returns c =
    let s = c.batches.scanned in
    let x = c.batches.invariant.so_far in
    let rest = from_there s.end c.args.bytes.now ∙ rest_is c.args.secret.now c.args.first c.args.bytes.now s x.through in
    let ends = ends_as c.batches.names (after nobody x.entries) c.args.secret.now s.next _ x.names_are (c.in_ok-head.ensures.none (ap (λ o. Ok o) c.in_default.is)) in
    record { through = x.through; entries = x.entries; bodies = x.bodies; known = x.known; ends = subst (λ (l : List ℕ). EndsAlone (after nobody x.entries) c.args.secret.now s.next l) rest ends }
