use Rattle.std.proofs.Common.{◌≡◌, ℕ, List, ◌++◌, Some, take}
use Rattle.std.specs.List.{flat_map}
use Rattle.std.specs.Borrow.{Bor}
use Rattle.amqp_sasl.specs.Exchanges.{exchange, outcome_of, told, IsApart}
use Rattle.amqp_sasl.proofs.replays.sasl_replay.Given as goal

abbrev pub invariant-loop-piece : goal.invariant-loop-piece
invariant-loop-piece l = record {
  apart : IsApart (outcome_of l.sasl.stage) l.behind.items;
  exact : (more : List ℕ) → exchange l.fn.offer (Some l.admitted) (flat_map (λ (p : Bor (List ℕ)). p.now) (take l.piece-index l.pieces) ++ more) ≡ told l.sasl (Some l.admitted) (l.behind.items ++ more);
}
