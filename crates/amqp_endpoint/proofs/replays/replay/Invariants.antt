use Rattle.std.proofs.Common.{◌≡◌, ◌≤◌, length, take, map}
use Rattle.std.specs.Prelude.{vec_capacity}
use Rattle.amqp_endpoint.specs.Endpoints.{call_of, answer_of, IsReplay}
use Rattle.amqp_endpoint.specs.Traces.{AreInRange}
use Rattle.amqp_endpoint.proofs.replays.replay.Given as goal

-- the calls so far with their answers led a new endpoint here, and there is room for the answers of the others
abbrev pub invariant-loop-call : goal.invariant-loop-call
invariant-loop-call g l = record {
  replay : IsReplay l.fn.config (map call_of (take l.call-index l.calls)) (map answer_of l.answers.items) l.endpoint;
  range : AreInRange (map call_of (take l.call-index l.calls));
  long : length l.answers.items ≡ l.call-index;
  room : length l.calls ≤ vec_capacity l.answers;
}
