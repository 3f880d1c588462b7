use Rattle.amqp_perform.proofs.address.+is_true_at.Given as goal

abbrev pub decreases-is_true_at : goal.decreases-is_true_at
decreases-is_true_at l = l.place
