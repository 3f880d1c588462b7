use Rattle.std.proofs.Common.{◌≡◌, ℕ, List, sym, ap, ◌∙◌, arith, length, subst}
use Rattle.std.proofs.lemmas.List.{take-append-le, take_all}
use Rattle.amqp_spool.specs.Folders.{Now}
use Rattle.amqp_spool.specs.Reads.{NewestHas}
use Rattle.amqp_spool.proofs.Starting.{newest_has}
use Rattle.amqp_spool.proofs.journal.Journal.newest.Goals as goal

pub returns-clause-has : goal.returns-clause-has
returns-clause-has g c =
    let h = g.F.Folder.history c.args.self.now.folder in
    let out = c.read.new.out in
    let n = c.resize.new.self.len in
    let long : length out ≡ n = c.read.ensures.len ∙ c.deref_mut.ensures.len in
    let long_len : length out ≡ c.args.len = long ∙ c.in_ok-resize.ensures.len in
    subst (λ (l : List ℕ). Now (NewestHas c.args.len l) h) (sym (take-append-le n out _ (omega (arith, long)) ∙ take_all n out (omega (arith, long)))) (newest_has c.args.len out h long_len c.in_ok-read.ensures.read)

pub returns-clause-long : goal.returns-clause-long
returns-clause-long g c =
    let out = c.read.new.out in
    let n = c.resize.new.self.len in
    let long : length out ≡ n = c.read.ensures.len ∙ c.deref_mut.ensures.len in
    (ap (λ (l : List ℕ). length l) (take-append-le n out _ (omega (arith, long)) ∙ take_all n out (omega (arith, long))) ∙ long ∙ c.in_ok-resize.ensures.len, omega (arith, c.if-len-self.false))
