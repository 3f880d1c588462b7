use Rattle.amqp_pair.proofs.Acted.{acted}
use Rattle.amqp_pair.proofs.laws.words_are_acted_upon.Goals as goal

pub returns : goal.returns
returns c = acted c.a_connection_stands_as_the_message_level.ensures c.what_has_no_fault_fails_nothing.ensures.transfer c.what_has_no_fault_fails_nothing.ensures.flow
    c.frames_of_a_sender_are_accepted.ensures.flow c.frames_of_a_sender_are_accepted.ensures.transfer c.the_message_level_is_sound.ensures.step
