use Rattle.std.proofs.Common.{ℕ, List, [], ◌++◌, Some, Bool, take, sym, ap, subst, ◌∙◌}
use Rattle.std.specs.List.{flat_map}
use Rattle.std.specs.Borrow.{Bor}
use Rattle.std.proofs.lemmas.List.{append-nil, take_all}
use Rattle.amqp_sasl.specs.declared.layer.Outcome.{Outcome}
use Rattle.amqp_sasl.specs.Exchanges.{exchange, told, IsApart}
use Rattle.amqp_sasl.proofs.Pieces.{came}
use Rattle.amqp_sasl.proofs.replays.sasl_replay.Goals as goal

pub loop-piece-init : goal.loop-piece-init
loop-piece-init c = record {
  apart = subst (λ (o : Outcome). IsApart o c.new-behind.result.items) (sym c.new-sasl.ensures.stage) c.new-behind.ensures.items;
  exact = λ more. sym (c.new-sasl.ensures.exact (Some c.args.admitted) more)
      ∙ ap (λ (l : List ℕ). told c.new-sasl.result (Some c.args.admitted) (l ++ more)) (sym c.new-behind.ensures.items);
}

pub returns : goal.returns
returns c =
    let answer = Some c.args.admitted in
    let now = λ (p : Bor (List ℕ)). p.now in
    let whole = take_all c.loop-piece.piece-index c.args.pieces.now c.loop-piece-test.false in
    let same = ap (λ (ps : List (Bor (List ℕ))). exchange c.args.offer answer (flat_map now ps)) (sym whole)
    ∙ ap (exchange c.args.offer answer) (sym (append-nil (flat_map now (take c.loop-piece.piece-index c.args.pieces.now))))
    ∙ c.loop-piece.invariant.exact []
    ∙ ap (told c.loop-piece.sasl answer) (append-nil c.loop-piece.behind.items) in
    record {
      whole = came c.close.result (λ (a : Bool). told c.loop-piece.sasl (Some a) c.loop-piece.behind.items) c.args.admitted
          (exchange c.args.offer answer (flat_map now c.args.pieces.now)) c.close.ensures same;
    }
