use Rattle.std.proofs.Common.{ap, ◌++◌, ◌∙◌}
use Rattle.std.specs.Hash.DefaultHasher as sip
use Rattle.amqp_spool.proofs.Summing.{two_parts}
use Rattle.amqp_spool.proofs.sum.sum_of.Goals as goal

pub returns : goal.returns
returns c =
    let secret = c.args.secret.now in
    let front = c.args.front.now in
    let rest = c.args.rest.now in
    let begun = c.write.ensures ∙ ap (λ s. sip.write s secret) c.new-hasher.ensures in
    let all = c.write-3.ensures ∙ ap (λ s. sip.write s rest) (c.write-2.ensures ∙ ap (λ s. sip.write s front) begun) in
    c.finish.ensures ∙ ap (λ s. sip.finish s) (all ∙ two_parts (sip.write sip.initial secret) front rest ∙ two_parts sip.initial secret (front ++ rest))
