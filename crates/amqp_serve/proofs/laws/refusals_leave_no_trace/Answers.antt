use Rattle.std.proofs.Common.{arith, sym, ◌∙◌}
use Rattle.amqp_serve.specs.Policies.{rule_of}
use Rattle.amqp_serve.proofs.Interrupted.{whole_served, interrupted_begins, interrupted_runs}
use Rattle.amqp_serve.proofs.laws.refusals_leave_no_trace.Goals as goal

pub returns-clause-served : goal.returns-clause-served
returns-clause-served c p = whole_served (rule_of p)

pub returns-clause-same : goal.returns-clause-same
returns-clause-same c p config more end end2 ended ended2 old mid new old2 new2 held now last kept keeps lasts held2 now2 kept2 keeps2 steps within start start2 i y z =
    let whole = whole_served (rule_of p) end more ended old mid new held now last kept keeps lasts steps (omega (arith, within.some_frame, start.limit)) i y in
    let same = c.serving_ignores_cuts.ensures p config _ end end2 ended ended2 old old2 new new2 held held2 last now2 kept kept2 lasts keeps2 within start start2 whole.0 z in
    (same.0, sym whole.1 ∙ same.1, sym whole.2 ∙ same.2, same.3, same.4)

pub returns-clause-begun : goal.returns-clause-begun
returns-clause-begun c p config end unfed old mid last held now kept keeps steps more stand made within start i x before is =
    interrupted_begins (rule_of p) config end unfed old mid last held now kept keeps steps more stand made (omega (arith, within.some_frame)) start i x before is

pub returns-clause-run : goal.returns-clause-run
returns-clause-run c p = interrupted_runs (rule_of p)
