use Rattle.std.proofs.Common.{[], sym, ◌∙◌, append-nil}
use Rattle.amqp_frame.specs.Units.{bytes_of}
use Rattle.amqp_endpoint.specs.Runs.{end_of}
use Rattle.amqp_serve.proofs.CutRuns.{nothing_rests}
use Rattle.amqp_serve.proofs.Cuts.{served_is_made}
use Rattle.amqp_serve.proofs.Ends.{finished, served_end}
use Rattle.amqp_serve.proofs.step_laws.steps_follow_the_units.Goals as goal

pub returns-clause-begins : goal.returns-clause-begins
returns-clause-begins c config s start = λ u w. (nothing_rests s.input.limit s.input.stage s.input.filled start.filled).none u [] w.is (w.whole ∙ sym (append-nil (bytes_of u)))

pub returns-clause-made : goal.returns-clause-made
unfolding served_end
returns-clause-made c r config bytes old new held now kept keeps start x sent idle =
    served_is_made r config (end_of new) bytes _ old (finished new) held now kept keeps start (served_end r bytes old new held now kept keeps x sent idle)
