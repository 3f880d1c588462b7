use Rattle.amqp_send.proofs.Histories.{all_keeps, all_written_out}
use Rattle.amqp_send.proofs.laws.steps_give_the_history.Goals as goal

pub returns-clause-is : goal.returns-clause-is
returns-clause-is c = λ terms es a. (all_keeps c.lengths_of_frames.ensures.lengths c.lengths_of_frames.ensures.null terms es a).is

pub returns-clause-may : goal.returns-clause-may
returns-clause-may c = λ terms es a. (all_keeps c.lengths_of_frames.ensures.lengths c.lengths_of_frames.ensures.null terms es a).all

pub returns-clause-written : goal.returns-clause-written
returns-clause-written c = all_written_out c.lengths_of_frames.ensures.lengths c.lengths_of_frames.ensures.null
