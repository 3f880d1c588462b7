use Rattle.std.proofs.Common.{ℕ, ◌+◌, arith, List, length, refl, sym, ap, ◌∙◌, subst}
use Rattle.std.specs.Prelude.{OnErr, IfErr}
use Rattle.std.proofs.lemmas.Result.{err_from_is_err_and}
use Rattle.amqp_spool.specs.declared.head.Head.{Head}
use Rattle.amqp_spool.specs.Batches.{Batch}
use Rattle.amqp_spool.specs.Heads.{IsBatch, batch_text}
use Rattle.amqp_spool.specs.Folders.{IsUnasked}
use Rattle.amqp_spool.specs.Journals.{GoesHere, StaysAt, IsSettled, Stands, IsRefused, HasNoRoomHere}
use Rattle.amqp_spool.proofs.Refusals.{refused_here}
use Rattle.amqp_spool.proofs.Settling.{batch_length, settles_not, follows_next, settles_unput, settles_put, stands_after}
use Rattle.amqp_spool.proofs.journal.Journal.settle_here.Goals as goal

pub returns-in_err-append-clause-settled : goal.returns-in_err-append-clause-settled
returns-in_err-append-clause-settled g c = λ all it.
    let ch = it.chapter in
    let chs = it.older in
    let stands = it.at in
    let s = c.args.self.now in
    let b : Batch = record { head = record { size = length c.args.body.now; count = c.args.count; first = s.next; arrived = c.args.arrived }; body = c.args.body.now } in
    let e = c.in_err-append.ensures in
    let text = c.deref.ensures.value ∙ c.in_ok-batch.ensures ∙ ap (λ (h : Head). batch_text h.secret b.head b.body) stands.head in
    let batch : IsBatch b.head b.body = record { size = refl; small = c.requires.small; count = c.ranges.count.fits; first = omega (arith, c.requires.within); arrived = c.ranges.arrived.fits } in
    let follows = follows_next _ s.next b stands.next refl batch c.requires.some c.requires.within in
    let put = e.put ch chs b text follows (stands.well c.if-self.false) in
    let q = err_from_is_err_and c.from_residual-in_err-append.result c.from_residual-in_err-append.ensures.1 in
    subst (λ r. IsSettled g.F.Folder.history it.chapter it.older (GoesHere c.args.arrived it.chapter it.older c.args.count c.args.body.now) all r s c.append.new.self) (sym q.1)
    (settles_unput g.F.Folder.history all ch chs it.told (GoesHere c.args.arrived it.chapter it.older c.args.count c.args.body.now) q.0 s c.append.new.self b _ stands e.same e.alive e.untried put)

pub returns-in_err-append-clause-stays : goal.returns-in_err-append-clause-stays
returns-in_err-append-clause-stays g c =
    let s = c.args.self.now in
    let q = err_from_is_err_and c.from_residual-in_err-append.result c.from_residual-in_err-append.ensures.1 in
    let stays : (all : List Batch) (it : Stands g.F.Folder.history all s) → StaysAt g.F.Folder.history all it c.append.new.self = λ all it.
    let b : Batch = record { head = record { size = length c.args.body.now; count = c.args.count; first = s.next; arrived = c.args.arrived }; body = c.args.body.now } in
    let e = c.in_err-append.ensures in
    let text = c.deref.ensures.value ∙ c.in_ok-batch.ensures ∙ ap (λ (h : Head). batch_text h.secret b.head b.body) it.at.head in
    let batch : IsBatch b.head b.body = record { size = refl; small = c.requires.small; count = c.ranges.count.fits; first = omega (arith, c.requires.within); arrived = c.ranges.arrived.fits } in
    let follows = follows_next _ s.next b it.at.next refl batch c.requires.some c.requires.within in
    let put = e.put it.chapter it.older b text follows (it.at.well c.if-self.false) in
    (record { chapter = it.chapter; older = it.older; told = it.told; at = stands_after g.F.Folder.history all it.chapter it.older it.told s c.append.new.self b _ it.at e.same e.alive e.untried put }, refl, refl) in
    subst (λ r. OnErr r ((all : List Batch) (it : Stands g.F.Folder.history all s) → StaysAt g.F.Folder.history all it c.append.new.self)) (sym q.1) stays

pub returns-clause-counted : goal.returns-clause-counted
returns-clause-counted g c =
    let e = c.in_ok-append.ensures in
    let b : Batch = record { head = record { size = length c.args.body.now; count = c.args.count; first = c.args.self.now.next; arrived = c.args.arrived }; body = c.args.body.now } in
    let len = ap (λ (l : List ℕ). length l) (c.deref.ensures.value ∙ c.in_ok-batch.ensures) ∙ batch_length c.args.self.now.head.secret b in
    record { fits = e.counted.fits; within = e.counted.within; place = omega (arith, e.same.place, c.saturating_sub.ensures, c.if-saturating_sub-len.false, c.requires.counted.fits.1, c.requires.counted.place, c.requires.small); sum = e.counted.sum; exact = e.counted.exact; most = e.counted.most; well = e.counted.well; writes = e.counted.writes }

pub returns-clause-settled : goal.returns-clause-settled
returns-clause-settled g c = λ all it.
    let ch = it.chapter in
    let chs = it.older in
    let stands = it.at in
    let s = c.args.self.now in
    let b : Batch = record { head = record { size = length c.args.body.now; count = c.args.count; first = s.next; arrived = c.args.arrived }; body = c.args.body.now } in
    let e = c.in_ok-append.ensures in
    let text = c.deref.ensures.value ∙ c.in_ok-batch.ensures ∙ ap (λ (h : Head). batch_text h.secret b.head b.body) stands.head in
    let batch : IsBatch b.head b.body = record { size = refl; small = c.requires.small; count = c.ranges.count.fits; first = omega (arith, c.requires.within); arrived = c.ranges.arrived.fits } in
    let follows = follows_next _ s.next b stands.next refl batch c.requires.some c.requires.within in
    let put = e.put ch chs b text follows (stands.well c.if-self.false) in
    settles_put g.F.Folder.history all ch chs it.told (GoesHere c.args.arrived it.chapter it.older c.args.count c.args.body.now) s c.append.new.self b _ _ ((refl, refl, refl), refl, refl) follows stands e.same e.alive (ap (λ n. n + (32 + length c.args.body.now)) e.same.place) (ap (λ n. n + c.args.count) e.same.next) put

pub returns-then-self-clause-stays : goal.returns-then-self-clause-stays
returns-then-self-clause-stays g c = λ all it. (it, refl, refl)

pub returns-in_err-batch-clause-stays : goal.returns-in_err-batch-clause-stays
returns-in_err-batch-clause-stays g c =
    let s = c.args.self.now in
    let q = err_from_is_err_and c.from_residual.result c.from_residual.ensures.1 in
    let stays : (all : List Batch) (it : Stands g.F.Folder.history all s) → StaysAt g.F.Folder.history all it s = λ all it. (it, refl, refl) in
    subst (λ r. OnErr r ((all : List Batch) (it : Stands g.F.Folder.history all s) → StaysAt g.F.Folder.history all it s)) (sym q.1) stays

pub returns-then-self-clause-settled : goal.returns-then-self-clause-settled
returns-then-self-clause-settled g c = λ all it. settles_not g.F.Folder.history all (GoesHere c.args.arrived it.chapter it.older c.args.count c.args.body.now) _ c.args.self.now c.args.self.now it refl

pub returns-in_err-batch-clause-settled : goal.returns-in_err-batch-clause-settled
returns-in_err-batch-clause-settled g c = λ all it.
    let s = c.args.self.now in
    let q = err_from_is_err_and c.from_residual.result c.from_residual.ensures.1 in
    subst (λ r. IsSettled g.F.Folder.history it.chapter it.older (GoesHere c.args.arrived it.chapter it.older c.args.count c.args.body.now) all r s s) (sym q.1)
    (settles_not g.F.Folder.history all (GoesHere c.args.arrived it.chapter it.older c.args.count c.args.body.now) q.0 s s it refl)

pub returns-in_err-append-clause-why : goal.returns-in_err-append-clause-why
returns-in_err-append-clause-why g c =
    let s = c.args.self.now in
    let h = g.F.Folder.history in
    let len = 32 + length c.args.body.now in
    let q = err_from_is_err_and c.from_residual-in_err-append.result c.from_residual-in_err-append.ensures.1 in
    let b : Batch = record { head = record { size = length c.args.body.now; count = c.args.count; first = s.next; arrived = c.args.arrived }; body = c.args.body.now } in
    let long = ap (λ (l : List ℕ). length l) (c.deref.ensures.value ∙ c.in_ok-batch.ensures) ∙ batch_length s.head.secret b in
    subst (λ r. IfErr r (λ fault. IsUnasked (h s.folder) (h c.append.new.self.folder) → IsRefused (HasNoRoomHere len s) fault)) (sym q.1)
    (λ un. refused_here len (length c.deref.result.now) s c.in_err-append.field-0.0 q.0 q.2 long (c.in_err-append.ensures.why un))
