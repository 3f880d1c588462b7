use Rattle.std.proofs.Common.{subst, sym, ◌∙◌}
use Rattle.std.proofs.lemmas.Bool.{false≢true}
use Rattle.amqp_spool_keeper.specs.Keeping.{state_of, IsSafe, WaitsOn}
use Rattle.amqp_spool_keeper.proofs.Holding.{safe_of, waits_on}
use Rattle.amqp_spool_keeper.proofs.keeper.SpoolKeeper.free.Goals as goal

pub returns-clause-safe : goal.returns-clause-safe
returns-clause-safe g c =
    let h = g.F.Folder.history in
    let s = c.self.inside.spool in
    let t = c.free.new.self in
    let room = c.self.inside.room in
    subst (λ k. IsSafe h k (state_of t room)) c.self.view_is (safe_of h s t room c.free.ensures.kept c.free.ensures.bound c.free.ensures.limits)

pub returns-clause-waits : goal.returns-clause-waits
returns-clause-waits g c = λ alive.
    let h = g.F.Folder.history in
    let s = c.self.inside.spool in
    let t = c.free.new.self in
    let room = c.self.inside.room in
    subst (λ k. WaitsOn h k (state_of t room)) c.self.view_is (waits_on h s t room (λ told waiting has. c.free.ensures.has told waiting has (λ is. false≢true (sym alive ∙ c.free.ensures.fails is))))
