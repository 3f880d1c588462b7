use Rattle.std.proofs.Common.{◌≡◌, subst, sym, ◌∙◌}
use Rattle.std.proofs.lemmas.Bool.{false≢true}
use Rattle.amqp_spool_keeper.specs.Keeping.{state_of, IsSafe, IsTold, WaitsOn}
use Rattle.amqp_spool_keeper.proofs.Holding.{safe_of, is_told, waits_on}
use Rattle.amqp_spool_keeper.proofs.keeper.SpoolKeeper.write_batch.Goals as goal

pub returns-after-self-clause-safe : goal.returns-after-self-clause-safe
returns-after-self-clause-safe g c =
    let h = g.F.Folder.history in
    let s = c.self-2.inside.spool in
    let t = c.settle.new.self in
    let room = c.self-2.inside.room in
    let same : state_of s room ≡ c.args.self.now = c.self-2.view_is ∙ c.look_at_clock.ensures in
    subst (λ k. IsSafe h k (state_of t room)) same (safe_of h s t room c.settle.ensures.kept c.settle.ensures.bound c.settle.ensures.limits)

pub returns-after-self-clause-told : goal.returns-after-self-clause-told
returns-after-self-clause-told g c = λ out.
    let h = g.F.Folder.history in
    let s = c.self-2.inside.spool in
    let t = c.settle.new.self in
    let room = c.self-2.inside.room in
    let same : state_of s room ≡ c.args.self.now = c.self-2.view_is ∙ c.look_at_clock.ensures in
    subst (λ k. IsTold h k (state_of t room)) same (is_told h s t room (λ told waiting has. (c.in-Ok.ensures.settled told waiting has).done))

pub returns-then-has_failed-2-clause-safe : goal.returns-then-has_failed-2-clause-safe
returns-then-has_failed-2-clause-safe g c =
    let h = g.F.Folder.history in
    let s = c.self-2.inside.spool in
    let t = c.settle.new.self in
    let room = c.self-2.inside.room in
    let same : state_of s room ≡ c.args.self.now = c.self-2.view_is ∙ c.look_at_clock.ensures in
    subst (λ k. IsSafe h k (state_of t room)) same (safe_of h s t room c.settle.ensures.kept c.settle.ensures.bound c.settle.ensures.limits)

pub returns-else-has_failed-2-clause-safe : goal.returns-else-has_failed-2-clause-safe
returns-else-has_failed-2-clause-safe g c =
    let h = g.F.Folder.history in
    let s = c.self-2.inside.spool in
    let t = c.settle.new.self in
    let room = c.self-2.inside.room in
    let same : state_of s room ≡ c.args.self.now = c.self-2.view_is ∙ c.look_at_clock.ensures in
    subst (λ k. IsSafe h k (state_of t room)) same (safe_of h s t room c.settle.ensures.kept c.settle.ensures.bound c.settle.ensures.limits)

pub returns-else-has_failed-2-clause-waits : goal.returns-else-has_failed-2-clause-waits
returns-else-has_failed-2-clause-waits g c = λ stuck.
    let h = g.F.Folder.history in
    let s = c.self-2.inside.spool in
    let t = c.settle.new.self in
    let room = c.self-2.inside.room in
    let same : state_of s room ≡ c.args.self.now = c.self-2.view_is ∙ c.look_at_clock.ensures in
    subst (λ k. WaitsOn h k (state_of t room)) same
    (waits_on h s t room (λ told waiting has. (c.in-Err.ensures.settled told waiting has).refused (λ is. false≢true (sym c.if-has_failed-2.false ∙ (c.has_failed-in-Err.ensures ∙ c.in-Err.ensures.fails is)))))
