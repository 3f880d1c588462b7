use Rattle.std.proofs.Common.{◌≡◌, ◌≤◌, length, take, map}
use Rattle.std.specs.Prelude.{vec_capacity}
use Rattle.amqp_hub.specs.Turns.{turn_of, answer_of}
use Rattle.amqp_hub.proofs.Turning.{IsSoFar}
use Rattle.amqp_hub.proofs.replays.hub_replay.Given as goal

-- the turns so far with their answers say what each connection came by and what the ledger has, and there is room for the answers of the others
abbrev pub invariant-loop-turn : goal.invariant-loop-turn
invariant-loop-turn g l = record {
  so_far : IsSoFar l.fn.rule l.fn.config l.fn.limit l.fn.room (map turn_of (take l.turn-index l.turns)) (map answer_of l.answers.items) l.hub.members l.hub.keeper;
  limit : l.hub.limit ≡ l.fn.limit;
  long : length l.answers.items ≡ l.turn-index;
  room : length l.turns ≤ vec_capacity l.answers;
}
