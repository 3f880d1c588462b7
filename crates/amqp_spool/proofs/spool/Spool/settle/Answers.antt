use Rattle.std.proofs.Common.{◌≡◌, ◌++◌, arith, sym, ap, ◌∙◌, subst, Ok, Err}
use Rattle.std.proofs.lemmas.Result.{err_from_is_err_and}
use Rattle.std.proofs.lemmas.Bool.{false≢true}
use Rattle.amqp_spool.specs.declared.journal.JournalFault.{JournalFault}
use Rattle.amqp_spool.specs.Spools.{KeepsTold}
use Rattle.amqp_spool.specs.Journals.{IsSettled, GoesEither}
use Rattle.amqp_spool.specs.Spools.{IsDone}
use Rattle.amqp_spool.proofs.Preparing.{alive_ok, alive_err, counted_ready, since_ready, settled_ready, settled_not, has_ready, not_ready}
use Rattle.amqp_spool.proofs.Spooling.{told_since, done_not, done_it, as_waiting, as_waited}
use Rattle.amqp_spool.proofs.spool.Spool.settle.Goals as goal

pub settle-requires-clause-short : goal.settle-requires-clause-short
settle-requires-clause-short g c = (omega (arith, c.here.ensures.within, c.requires.short), omega (arith, c.deref.ensures.len, c.in_ok-anew.ensures.within, c.requires.short))

pub settle-requires-clause-counted : goal.settle-requires-clause-counted
settle-requires-clause-counted g c = counted_ready g.F.Folder.history c.args.self.now.journal c.prepare.new.self c.prepare.ensures.same c.prepare.ensures.history c.if-self.false c.requires.counted

pub returns-in_err-settle-clause-kept : goal.returns-in_err-settle-clause-kept
returns-in_err-settle-clause-kept g c = λ told waiting has.
    let h = g.F.Folder.history in
    let s = c.args.self.now in
    let ready = c.prepare.new.self in
    let alive = alive_ok c.in_ok-prepare.ensures.alive c.if-self.false in
    let then = has_ready h s ready c.prepare.ensures.same c.prepare.ensures.history told waiting alive has in
    let k = h c.settle.new.self.folder in
    since_ready h s.journal ready c.prepare.ensures.same c.prepare.ensures.history (KeepsTold told) k (told_since h told waiting (record s { journal = ready }) then (h ready.folder) k (c.settle.ensures.settled then.all then.journal).kept)

pub returns-clause-kept : goal.returns-clause-kept
returns-clause-kept g c = λ told waiting has.
    let h = g.F.Folder.history in
    let s = c.args.self.now in
    let ready = c.prepare.new.self in
    let alive = alive_ok c.in_ok-prepare.ensures.alive c.if-self.false in
    let then = has_ready h s ready c.prepare.ensures.same c.prepare.ensures.history told waiting alive has in
    let k = h c.settle.new.self.folder in
    since_ready h s.journal ready c.prepare.ensures.same c.prepare.ensures.history (KeepsTold told) k (told_since h told waiting (record s { journal = ready }) then (h ready.folder) k (c.settle.ensures.settled then.all then.journal).kept)

pub returns-in_err-settle-clause-settled : goal.returns-in_err-settle-clause-settled
returns-in_err-settle-clause-settled g c = λ told waiting has.
    let s = c.args.self.now in
    let h = g.F.Folder.history in
    let ready = c.prepare.new.self in
    let alive = alive_ok c.in_ok-prepare.ensures.alive c.if-self.false in
    let then = has_ready h s ready c.prepare.ensures.same c.prepare.ensures.history told waiting alive has in
    let j = c.settle.new.self in
    let q = err_from_is_err_and c.from_residual-in_err-settle.result c.from_residual-in_err-settle.ensures.1 in
    let settled = as_waiting h told waiting (record s { journal = ready }) then j c.args.arrived (Err c.in_err-settle.field-0.0) c.count-count.result c.here.result.now c.deref.result.now c.count-count.ensures c.here.ensures.is (c.deref.ensures.value ∙ c.in_ok-anew.ensures.is)
    (c.in_err-settle.ensures.settled then.all then.journal) in
    subst (λ r. IsDone h told waiting r (record s { journal = j })) (sym (q.1 ∙ ap (λ (x : JournalFault). Err x) q.2)) (done_not h told waiting (record s { journal = ready }) then j c.args.arrived c.in_err-settle.field-0.0 settled)

pub returns-clause-settled : goal.returns-clause-settled
returns-clause-settled g c = λ told waiting has.
    let s = c.args.self.now in
    let h = g.F.Folder.history in
    let ready = c.prepare.new.self in
    let alive = alive_ok c.in_ok-prepare.ensures.alive c.if-self.false in
    let then = has_ready h s ready c.prepare.ensures.same c.prepare.ensures.history told waiting alive has in
    let j = c.settle.new.self in
    let some : (s.waiting.count ≡ 0) → ⊥ = λ none. false≢true (sym c.if-is_empty.false ∙ c.is_empty.ensures.1 none) in
    let settled = as_waiting h told waiting (record s { journal = ready }) then j c.args.arrived (Ok tt) c.count-count.result c.here.result.now c.deref.result.now c.count-count.ensures c.here.ensures.is (c.deref.ensures.value ∙ c.in_ok-anew.ensures.is)
    (c.in_ok-settle.ensures.settled then.all then.journal) in
    done_it h told waiting (record s { journal = ready }) then j c.args.arrived c.clear.new.self c.clear.ensures (omega (arith, some)) settled

pub returns-in_err-prepare-clause-settled : goal.returns-in_err-prepare-clause-settled
returns-in_err-prepare-clause-settled g c = λ told waiting has.
    let s = c.args.self.now in
    let h = g.F.Folder.history in
    let j = c.prepare.new.self in
    let q = err_from_is_err_and c.from_residual.result c.from_residual.ensures.1 in
    let alive = alive_err c.in_err-prepare.ensures.alive c.if-self.false in
    subst (λ r. IsDone h told waiting r (record s { journal = j })) (sym (q.1 ∙ ap (λ (x : JournalFault). Err x) q.2)) (not_ready h s j c.prepare.ensures.same c.prepare.ensures.history told waiting c.in_err-prepare.field-0.0 alive has)

pub returns-then-is_none-clause-settled : goal.returns-then-is_none-clause-settled
returns-then-is_none-clause-settled g c = λ told waiting has.
    let s = c.args.self.now in
    let alive = alive_ok c.in_ok-prepare.ensures.alive c.if-self.false in
    not_ready g.F.Folder.history s c.prepare.new.self c.prepare.ensures.same c.prepare.ensures.history told waiting _ (λ _. alive) has

pub returns-in_err-anew-clause-settled : goal.returns-in_err-anew-clause-settled
returns-in_err-anew-clause-settled g c = λ told waiting has.
    let s = c.args.self.now in
    let h = g.F.Folder.history in
    let j = c.prepare.new.self in
    let q = err_from_is_err_and c.from_residual-in_err-anew.result c.from_residual-in_err-anew.ensures.1 in
    let alive = alive_ok c.in_ok-prepare.ensures.alive c.if-self.false in
    subst (λ r. IsDone h told waiting r (record s { journal = j })) (sym q.1) (not_ready h s j c.prepare.ensures.same c.prepare.ensures.history told waiting q.0 (λ _. alive) has)

pub returns-in_err-prepare-clause-batch : goal.returns-in_err-prepare-clause-batch
returns-in_err-prepare-clause-batch g c = λ all it _.
    let s = c.args.self.now in
    let h = g.F.Folder.history in
    let j = c.prepare.new.self in
    let q = err_from_is_err_and c.from_residual.result c.from_residual.ensures.1 in
    let alive = alive_err c.in_err-prepare.ensures.alive c.if-self.false in
    subst (λ r. IsSettled h it.chapter it.older (GoesEither c.args.arrived it.chapter it.older s.waiting.count s.waiting.here (s.waiting.again ++ s.waiting.here)) all r s.journal j) (sym (q.1 ∙ ap (λ (x : JournalFault). Err x) q.2))
    (settled_not h s.journal j c.prepare.ensures.same c.prepare.ensures.history all (GoesEither c.args.arrived it.chapter it.older s.waiting.count s.waiting.here (s.waiting.again ++ s.waiting.here)) c.in_err-prepare.field-0.0 alive it)

pub returns-then-is_none-clause-batch : goal.returns-then-is_none-clause-batch
returns-then-is_none-clause-batch g c = λ all it _.
    let s = c.args.self.now in
    let alive = alive_ok c.in_ok-prepare.ensures.alive c.if-self.false in
    settled_not g.F.Folder.history s.journal c.prepare.new.self c.prepare.ensures.same c.prepare.ensures.history all (GoesEither c.args.arrived it.chapter it.older s.waiting.count s.waiting.here (s.waiting.again ++ s.waiting.here)) _ (λ _. alive) it

pub returns-in_err-anew-clause-batch : goal.returns-in_err-anew-clause-batch
returns-in_err-anew-clause-batch g c = λ all it _.
    let s = c.args.self.now in
    let h = g.F.Folder.history in
    let j = c.prepare.new.self in
    let q = err_from_is_err_and c.from_residual-in_err-anew.result c.from_residual-in_err-anew.ensures.1 in
    let alive = alive_ok c.in_ok-prepare.ensures.alive c.if-self.false in
    subst (λ r. IsSettled h it.chapter it.older (GoesEither c.args.arrived it.chapter it.older s.waiting.count s.waiting.here (s.waiting.again ++ s.waiting.here)) all r s.journal j) (sym q.1)
    (settled_not h s.journal j c.prepare.ensures.same c.prepare.ensures.history all (GoesEither c.args.arrived it.chapter it.older s.waiting.count s.waiting.here (s.waiting.again ++ s.waiting.here)) q.0 (λ _. alive) it)

pub returns-in_err-settle-clause-batch : goal.returns-in_err-settle-clause-batch
returns-in_err-settle-clause-batch g c = λ all it _.
    let s = c.args.self.now in
    let h = g.F.Folder.history in
    let ready = c.prepare.new.self in
    let j = c.settle.new.self in
    let alive = alive_ok c.in_ok-prepare.ensures.alive c.if-self.false in
    let q = err_from_is_err_and c.from_residual-in_err-settle.result c.from_residual-in_err-settle.ensures.1 in
    subst (λ r. IsSettled h it.chapter it.older (GoesEither c.args.arrived it.chapter it.older s.waiting.count s.waiting.here (s.waiting.again ++ s.waiting.here)) all r s.journal j) (sym (q.1 ∙ ap (λ (x : JournalFault). Err x) q.2))
    (settled_ready h s.journal ready c.prepare.ensures.same c.prepare.ensures.history all c.args.arrived s.waiting.count s.waiting.here (s.waiting.again ++ s.waiting.here) (Err c.in_err-settle.field-0.0) j alive it
    (λ now. as_waited h all ready j now s.waiting c.args.arrived (Err c.in_err-settle.field-0.0) c.count-count.result c.here.result.now c.deref.result.now c.count-count.ensures c.here.ensures.is (c.deref.ensures.value ∙ c.in_ok-anew.ensures.is)
    (c.in_err-settle.ensures.settled all now)))

pub returns-clause-batch : goal.returns-clause-batch
returns-clause-batch g c = λ all it _.
    let s = c.args.self.now in
    let h = g.F.Folder.history in
    let ready = c.prepare.new.self in
    let j = c.settle.new.self in
    let alive = alive_ok c.in_ok-prepare.ensures.alive c.if-self.false in
    settled_ready h s.journal ready c.prepare.ensures.same c.prepare.ensures.history all c.args.arrived s.waiting.count s.waiting.here (s.waiting.again ++ s.waiting.here) (Ok tt) j alive it
    (λ now. as_waited h all ready j now s.waiting c.args.arrived (Ok tt) c.count-count.result c.here.result.now c.deref.result.now c.count-count.ensures c.here.ensures.is (c.deref.ensures.value ∙ c.in_ok-anew.ensures.is)
    (c.in_ok-settle.ensures.settled all now))
