use Rattle.std.proofs.Common.{◌≡◌, ◌≤◌, length, take, map}
use Rattle.std.specs.Prelude.{vec_capacity}
use Rattle.amqp_pair.specs.Histories.{AllInRange}
use Rattle.amqp_pair.specs.Turns.{turn_of, IsJoined}
use Rattle.amqp_send.specs.Keeping.{terms_of}
use Rattle.amqp_pair.proofs.runs.joined.Given as goal

-- the turns so far with their answers led new ends here, their ids have 32 bits, and there is room for the answers of the others
abbrev pub invariant-loop-turn : goal.invariant-loop-turn
invariant-loop-turn g l = record {
  run : IsJoined l.fn.config (terms_of l.fn.send_config) (map turn_of (take l.turn-index l.turns)) l.answers.items l.pair;
  range : AllInRange (map turn_of (take l.turn-index l.turns));
  long : length l.answers.items ≡ l.turn-index;
  room : length l.turns ≤ vec_capacity l.answers;
}
