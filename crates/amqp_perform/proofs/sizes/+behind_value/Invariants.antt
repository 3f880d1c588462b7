use Rattle.amqp_perform.proofs.sizes.+behind_value.Given as goal

-- each call goes down a level of depth
abbrev pub decreases-behind_value : goal.decreases-behind_value
decreases-behind_value l = l.depth
