use Rattle.amqp_send.proofs.laws.lengths_of_frames.Goals as goal

pub returns-clause-lengths : goal.returns-clause-lengths
returns-clause-lengths c = record {
  most = c.frames_are_as_long.ensures.most;
  payload = c.frames_are_as_long.ensures.payload;
  numbers = c.fields_are_as_long.ensures.numbers;
  octets = c.fields_are_as_long.ensures.octets;
}

pub returns-clause-null : goal.returns-clause-null
returns-clause-null c = c.a_null_adds_no_more.ensures
