use Rattle.std.proofs.Common.{ℕ, ◌+◌, arith, List, ◌++◌, length, refl, sym, ap, ◌∙◌, subst, Err}
use Rattle.std.specs.Prelude.{IfErr}
use Rattle.std.proofs.lemmas.Result.{err_from_is_err_and}
use Rattle.amqp_spool.specs.declared.head.Head.{Head}
use Rattle.amqp_spool.specs.Batches.{Batch}
use Rattle.amqp_spool.specs.Heads.{IsBatch, head_text, batch_text}
use Rattle.amqp_spool.specs.Folders.{IsUnasked}
use Rattle.amqp_spool.specs.Journals.{GoesAnew, IsSettled, head_after, IsRefused, HasNoRoom}
use Rattle.amqp_spool.proofs.Refusals.{refused_anew}
use Rattle.amqp_spool.proofs.Settling.{segment_text, goes_next, next_chapter, next_behind, settles_anew, settles_unadded, settles_not, settles_still, next_is, behind_is, same_after, ok_is, full_is}
use Rattle.amqp_spool.proofs.journal.Journal.settle_anew.Goals as goal

pub add-requires-clause-small : goal.add-requires-clause-small
add-requires-clause-small g c = omega (arith, ap (λ (l : List ℕ). length l) c.deref.ensures.value, c.in_ok-segment.ensures.long, c.requires.small)

pub returns-in_err-add-clause-settled : goal.returns-in_err-add-clause-settled
returns-in_err-add-clause-settled g c = λ all it.
    let ch = it.chapter in
    let chs = it.older in
    let stands = it.at in
    let s = c.args.self.now in
    let b : Batch = record { head = record { size = length c.args.body.now; count = c.args.count; first = s.next; arrived = c.args.arrived }; body = c.args.body.now } in
    let batch : IsBatch b.head b.body = record { size = refl; small = c.requires.short; count = c.ranges.count.fits; first = omega (arith, c.requires.within); arrived = c.ranges.arrived.fits } in
    let e = c.in_err-add.ensures in
    let h = c.head_after-head.ensures in
    let secret = c.args.secret in
    let place = c.requires.counted.place in
    let same = same_after s c.add.new.self c.reserve.new.self e.same in
    let next = next_chapter g.F.Folder.history all ch chs it.told s stands secret h.long place c.requires.counted.fits.2 b batch refl c.requires.some c.requires.within in
    let behind = next_behind g.F.Folder.history all ch chs it.told s stands secret h.long place c.requires.counted.fits.2 b batch refl c.requires.some c.requires.within in
    let text = c.deref.ensures.value ∙ c.in_ok-segment.ensures.text ∙ ap (λ (k : Head). head_text k ++ batch_text k.secret b.head b.body) h.head ∙ segment_text (head_after s secret) b in
    let begun = e.begun next ch chs behind text (sym (ap (λ (k : Head). k.first) h.head)) (goes_next g.F.Folder.history all ch chs it.told s stands secret h.long place c.requires.counted.fits.2 b batch refl c.requires.some c.requires.within) stands.holds in
    let q = err_from_is_err_and c.from_residual-in_err-add.result c.from_residual-in_err-add.ensures.1 in
    subst (λ r. IsSettled g.F.Folder.history it.chapter it.older (GoesAnew c.args.arrived it.chapter it.older c.args.count c.args.body.now) all r s c.add.new.self) (sym q.1)
    (settles_unadded g.F.Folder.history all ch chs it.told s stands secret h.long place c.requires.counted.fits.2 b batch refl c.requires.some c.requires.within (GoesAnew c.args.arrived it.chapter it.older c.args.count c.args.body.now) q.0 c.add.new.self c.in_err-add.field-0.0 q.2 same
    (λ full. e.alive (λ is. full_is (ap (λ f. Err f) (sym full) ∙ is))) (λ full. e.spent (ap (λ f. Err f) full)) begun)

pub returns-clause-settled : goal.returns-clause-settled
returns-clause-settled g c = λ all it.
    let ch = it.chapter in
    let chs = it.older in
    let stands = it.at in
    let s = c.args.self.now in
    let b : Batch = record { head = record { size = length c.args.body.now; count = c.args.count; first = s.next; arrived = c.args.arrived }; body = c.args.body.now } in
    let batch : IsBatch b.head b.body = record { size = refl; small = c.requires.short; count = c.ranges.count.fits; first = omega (arith, c.requires.within); arrived = c.ranges.arrived.fits } in
    let e = c.in_ok-add.ensures in
    let h = c.head_after-head.ensures in
    let secret = c.args.secret in
    let place = c.requires.counted.place in
    let same = same_after s c.add.new.self c.reserve.new.self e.same in
    let next = next_chapter g.F.Folder.history all ch chs it.told s stands secret h.long place c.requires.counted.fits.2 b batch refl c.requires.some c.requires.within in
    let behind = next_behind g.F.Folder.history all ch chs it.told s stands secret h.long place c.requires.counted.fits.2 b batch refl c.requires.some c.requires.within in
    let text = c.deref.ensures.value ∙ c.in_ok-segment.ensures.text ∙ ap (λ (k : Head). head_text k ++ batch_text k.secret b.head b.body) h.head ∙ segment_text (head_after s secret) b in
    let begun = e.begun next ch chs behind text (sym (ap (λ (k : Head). k.first) h.head)) (goes_next g.F.Folder.history all ch chs it.told s stands secret h.long place c.requires.counted.fits.2 b batch refl c.requires.some c.requires.within) stands.holds in
    settles_anew g.F.Folder.history all ch chs it.told s stands secret h.long place c.requires.counted.fits.2 b batch refl c.requires.some c.requires.within (GoesAnew c.args.arrived it.chapter it.older c.args.count c.args.body.now) c.add.new.self c.head_after-head.result c.len.result _ ((refl, refl, refl), refl, next_is g.F.Folder.history all ch chs it.told s stands secret h.long place c.requires.counted.fits.2 b batch refl c.requires.some c.requires.within, behind_is g.F.Folder.history all ch chs it.told s stands secret h.long place c.requires.counted.fits.2 b batch refl c.requires.some c.requires.within) same (e.alive ok_is) h.head
    (c.len.ensures ∙ sym c.deref.ensures.len ∙ ap (λ (l : List ℕ). length l) text) (ap (λ n. n + c.args.count) same.next) begun

pub returns-in_err-segment-clause-settled : goal.returns-in_err-segment-clause-settled
returns-in_err-segment-clause-settled g c = λ all it.
    let s = c.args.self.now in
    let q = err_from_is_err_and c.from_residual.result c.from_residual.ensures.1 in
    subst (λ r. IsSettled g.F.Folder.history it.chapter it.older (GoesAnew c.args.arrived it.chapter it.older c.args.count c.args.body.now) all r s s) (sym q.1)
    (settles_not g.F.Folder.history all (GoesAnew c.args.arrived it.chapter it.older c.args.count c.args.body.now) q.0 s s it refl)

pub returns-in_err-reserve-clause-settled : goal.returns-in_err-reserve-clause-settled
returns-in_err-reserve-clause-settled g c = λ all it.
    let s = c.args.self.now in
    let q = err_from_is_err_and c.from_residual-in_err-reserve.result c.from_residual-in_err-reserve.ensures.1 in
    subst (λ r. IsSettled g.F.Folder.history it.chapter it.older (GoesAnew c.args.arrived it.chapter it.older c.args.count c.args.body.now) all r s (record s { segments = c.reserve.new.self })) (sym q.1)
    (settles_still g.F.Folder.history all (GoesAnew c.args.arrived it.chapter it.older c.args.count c.args.body.now) q.0 s c.reserve.new.self it)

pub returns-in_err-add-clause-why : goal.returns-in_err-add-clause-why
returns-in_err-add-clause-why g c =
    let s = c.args.self.now in
    let h = g.F.Folder.history in
    let len = 112 + length c.args.body.now in
    let q = err_from_is_err_and c.from_residual-in_err-add.result c.from_residual-in_err-add.ensures.1 in
    let long = ap (λ (l : List ℕ). length l) c.deref.ensures.value ∙ c.in_ok-segment.ensures.long in
    subst (λ r. IfErr r (λ fault. IsUnasked (h s.folder) (h c.add.new.self.folder) → IsRefused (HasNoRoom len s) fault)) (sym q.1)
    (λ un. refused_anew len (length c.deref.result.now) s c.in_err-add.field-0.0 q.0 q.2 long (c.in_err-add.ensures.why un))
