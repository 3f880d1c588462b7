use Rattle.std.proofs.Common.{◌≡◌, ℕ, List, ◌++◌, take}
use Rattle.std.specs.List.{flat_map}
use Rattle.std.specs.Borrow.{Bor}
use Rattle.amqp_proxy.specs.Streams.{passage, told, IsApart}
use Rattle.amqp_proxy.proofs.replays.proxy_replay.Given as goal

abbrev pub invariant-loop-piece : goal.invariant-loop-piece
invariant-loop-piece l = record {
  apart : IsApart l.proxy.outcome l.handed.items;
  exact : (more : List ℕ) → passage (flat_map (λ (p : Bor (List ℕ)). p.now) (take l.piece-index l.pieces) ++ more) ≡ told l.proxy (l.handed.items ++ more);
}
