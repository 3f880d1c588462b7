use Rattle.std.proofs.Common.{◌++◌, [], refl, ap, subst, sym}
use Rattle.amqp_spool.specs.declared.spool.Spool.{Spool}
use Rattle.amqp_spool.specs.Journals.{HaveLimits}
use Rattle.amqp_spool_keeper.specs.Keeping.{state_of, Holds, IsSafe}
use Rattle.amqp_spool_keeper.proofs.Holding.{safe_then, waits_on}
use Rattle.amqp_spool_keeper.proofs.keeper.SpoolKeeper.write_out.Goals as goal

pub returns-then-self-clause-safe : goal.returns-then-self-clause-safe
returns-then-self-clause-safe g c =
    let h = g.F.Folder.history in
    let a = c.args.self.now in
    let room = c.self.inside.room in
    let b = state_of c.self.inside.spool room in
    let same = c.publish.ensures.same in
    let limits : HaveLimits c.self.inside.spool.journal c.publish.new.self.journal = record { limit = ap (λ (s : Spool g.row.F.Denot). s.journal.limit) same; segment = ap (λ (s : Spool g.row.F.Denot). s.journal.segment) same; life = ap (λ (s : Spool g.row.F.Denot). s.journal.life) same } in
    safe_then h a b (state_of c.publish.new.self room) (subst (λ k. IsSafe h a k) (sym c.self.view_is) c.write_batch-progress.ensures.safe) c.publish.ensures.history limits refl

pub returns-then-self-clause-told : goal.returns-then-self-clause-told
returns-then-self-clause-told g c = λ out told waiting held.
    let h = g.F.Folder.history in
    let mid = c.write_batch-progress.ensures.told out told waiting held in
    waits_on h c.self.inside.spool c.publish.new.self c.self.inside.room c.publish.ensures.has (told ++ waiting) [] (subst (λ k. Holds h (told ++ waiting) [] k) (sym c.self.view_is) mid)
