use Rattle.std.proofs.Common.{arith, ap}
use Rattle.amqp_serve.specs.Cuts.{Made}
use Rattle.amqp_serve.specs.Policies.{rule_of}
use Rattle.amqp_serve.proofs.Cuts.{one_made, alike}
use Rattle.amqp_serve.proofs.laws.serving_ignores_cuts.Goals as goal

pub returns : goal.returns
returns c p config bytes end end2 ended ended2 old old2 new new2 held held2 now now2 kept kept2 keeps keeps2 within start start2 x y =
    let made = c.serving_follows_the_units.ensures p config end bytes ended old new held now kept keeps start x in
    let made2 = c.serving_follows_the_units.ensures p config end2 bytes ended2 old2 new2 held2 now2 kept2 keeps2 start2 y in
    let same = one_made (rule_of p) config bytes _ _ end end2 (omega (arith, within.some_frame)) made made2 in
    let written = ap (λ (m : Made). m.written) same.0 in
    let recorded = ap (λ (m : Made). m.recorded) same.0 in
    (same.1, written, recorded, alike held now held2 now2 _ _ x.written y.written written, alike kept keeps kept2 keeps2 _ _ x.recorded y.recorded recorded)
