use Rattle.amqp_pair.proofs.Turned.{turn_kept}
use Rattle.amqp_pair.proofs.laws.each_turn_keeps_the_pair.Goals as goal

pub returns : goal.returns
returns c = turn_kept (record {
  apart = c.no_unit_begins_another.ensures;
  some = c.each_unit_has_bytes.ensures;
  frame = c.said_is_a_frame.ensures;
  opening = c.frames_are_within.ensures.opening;
  long = c.frames_are_as_long.ensures;
  words = c.words_are_units.ensures;
  written = c.a_sender_makes_turns.ensures.writes;
  flow_heard = c.a_sender_makes_turns.ensures.flow;
  begin_heard = c.a_sender_makes_turns.ensures.begin;
  open_tells = c.replies_tell_what_they_say.ensures.open;
  begin_tells = c.replies_tell_what_they_say.ensures.begin;
  attach_tells = c.replies_tell_what_they_say.ensures.attach;
  flow_tells = c.replies_tell_what_they_say.ensures.flow;
  link_flow_tells = c.replies_tell_what_they_say.ensures.link_flow;
  disposition_tells = c.replies_tell_what_they_say.ensures.disposition;
  opens = c.frames_of_a_sender_are_accepted.ensures.open;
  begins = c.frames_of_a_sender_are_accepted.ensures.begin;
  attaches = c.frames_of_a_sender_are_accepted.ensures.attach;
  attached = c.the_attach_is_accepted.ensures;
  acted = c.words_are_acted_upon.ensures;
  grants = c.calls_are_turns.ensures.grant;
  widens = c.calls_are_turns.ensures.widen;
  drains = c.calls_are_turns.ensures.drain;
  takes = c.calls_are_turns.ensures.take;
  settles = c.calls_are_turns.ensures.settle;
  step = c.the_message_level_is_sound.ensures.step;
})
