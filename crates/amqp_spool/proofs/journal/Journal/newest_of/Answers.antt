use Rattle.std.proofs.Common.{ℕ, List, refl, sym, ap, ◌∙◌, arith, length, subst, Err}
use Rattle.std.proofs.lemmas.Bool.{false≢true}
use Rattle.std.proofs.lemmas.Result.{err_from_is_err_and}
use Rattle.amqp_spool.specs.declared.journal.JournalFault.{JournalFault}
use Rattle.amqp_spool.specs.Folders.{History, Now}
use Rattle.amqp_spool.specs.Reads.{BeginsWith}
use Rattle.amqp_spool.proofs.Back.{newest_seen, first_head, first_same, as_fault}
use Rattle.amqp_spool.proofs.Starting.{is_newest, rest_of}
use Rattle.amqp_spool.proofs.journal.Journal.newest_of.Goals as goal

pub returns-clause-newest : goal.returns-clause-newest
returns-clause-newest g c =
    is_newest c.args.named.bytes c.in_ok-head.head c.in_ok-bytes.bytes.items c.in-Some.batches.now _ c.truncate.new.self.items c.scan-scanned.result c.in_ok-alone.alone (g.F.Folder.history c.args.self.now.folder) c.in_ok-head.ensures.begins c.in_ok-bytes.ensures.has
    (rest_of c.deref.result.now c.in_ok-bytes.bytes.items c.in-Some.batches.now c.deref.ensures.value c.in-Some.ensures.lookup.0.2) c.scan-scanned.ensures refl c.in_ok-alone.ensures c.truncate.ensures.items

pub returns-in_err-head-clause-whole : goal.returns-in_err-head-clause-whole
returns-in_err-head-clause-whole g c = λ t past names is has seen bad.
    let f = newest_seen c.args.named names t has seen in
    let q = err_from_is_err_and c.from_residual.result c.from_residual.ensures.1 in
    c.in_err-head.ensures.whole t past is (first_head c.args.named t f) (ap (λ (x : JournalFault). Err x) (sym q.2) ∙ ap as_fault (sym q.1 ∙ bad))

pub returns-then-head-named-clause-whole : goal.returns-then-head-named-clause-whole
returns-then-head-named-clause-whole g c = λ t past names is has seen _.
    let f = newest_seen c.args.named names t has seen in
    let at : BeginsWith 0 c.in_ok-head.head t = subst (λ (x : History). Now (BeginsWith 0 c.in_ok-head.head) x) is c.in_ok-head.ensures.begins in
    c.if-head-named.true (first_same c.args.named t f c.in_ok-head.head c.in_ok-head.ensures.is at)

pub returns-in_default-clause-whole : goal.returns-in_default-clause-whole
returns-in_default-clause-whole g c = λ t past names is has seen _.
    let f = newest_seen c.args.named names t has seen in
    false≢true (c.in_default.ensures.lookup.1 (omega (arith, f.long, c.in_ok-bytes.ensures.long.0, ap (λ (l : List ℕ). length l) c.deref.ensures.value), omega arith))

pub returns-then-named-clause-whole : goal.returns-then-named-clause-whole
returns-then-named-clause-whole g c = λ t past names is has seen _. omega (arith, (newest_seen c.args.named names t has seen).long, c.if-named.true)
