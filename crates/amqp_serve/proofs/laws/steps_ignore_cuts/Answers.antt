use Rattle.std.proofs.Common.{arith, ap}
use Rattle.amqp_endpoint.specs.Runs.{end_of}
use Rattle.amqp_serve.specs.Cuts.{Made}
use Rattle.amqp_serve.proofs.Cuts.{served_is_made, one_made}
use Rattle.amqp_serve.proofs.Ends.{finished, served_end}
use Rattle.amqp_serve.proofs.laws.steps_ignore_cuts.Goals as goal

pub returns : goal.returns
unfolding served_end
returns c r config bytes old old2 new new2 held held2 now now2 kept kept2 keeps keeps2 within start start2 x y sent sent2 idle idle2 =
    let made = served_is_made r config (end_of new) bytes _ old (finished new) held now kept keeps start (served_end r bytes old new held now kept keeps x sent idle) in
    let made2 = served_is_made r config (end_of new2) bytes _ old2 (finished new2) held2 now2 kept2 keeps2 start2 (served_end r bytes old2 new2 held2 now2 kept2 keeps2 y sent2 idle2) in
    let same = one_made r config bytes _ _ (end_of new) (end_of new2) (omega (arith, within.some_frame)) made made2 in
    (ap (λ (m : Made). m.connection) same.0, ap (λ (m : Made). m.written) same.0, ap (λ (m : Made). m.recorded) same.0)
