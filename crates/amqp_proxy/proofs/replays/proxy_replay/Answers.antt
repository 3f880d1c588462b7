use Rattle.std.proofs.Common.{ℕ, List, [], ◌++◌, take, sym, ap, subst, ◌∙◌}
use Rattle.std.specs.List.{flat_map}
use Rattle.std.specs.Borrow.{Bor}
use Rattle.std.proofs.lemmas.List.{append-nil, take_all}
use Rattle.amqp_proxy.specs.declared.proxy.Outcome.{Outcome}
use Rattle.amqp_proxy.specs.Streams.{passage, told, IsApart}
use Rattle.amqp_proxy.proofs.Pieces.{came}
use Rattle.amqp_proxy.proofs.replays.proxy_replay.Goals as goal

pub loop-piece-init : goal.loop-piece-init
loop-piece-init c = record {
  apart = subst (λ (o : Outcome). IsApart o c.new-handed.result.items) (sym c.new-proxy.ensures.outcome) c.new-handed.ensures.items;
  exact = λ more. sym (c.new-proxy.ensures.exact more) ∙ ap (λ (l : List ℕ). told c.new-proxy.result (l ++ more)) (sym c.new-handed.ensures.items);
}

pub returns : goal.returns
returns c =
    let l = c.loop-piece in
    let now = λ (p : Bor (List ℕ)). p.now in
    let whole = take_all l.piece-index c.args.pieces.now c.loop-piece-test.false in
    let same = ap (λ (ps : List (Bor (List ℕ))). passage (flat_map now ps)) (sym whole)
    ∙ ap passage (sym (append-nil (flat_map now (take l.piece-index c.args.pieces.now))))
    ∙ l.invariant.exact []
    ∙ ap (told l.proxy) (append-nil l.handed.items) in
    let r = came c.outcome.result l.proxy l.handed.items (passage (flat_map now c.args.pieces.now)) c.outcome.ensures.says
    (subst (λ (o : Outcome). IsApart o l.handed.items) (sym c.outcome.ensures.outcome) l.invariant.apart) same in
    record { standing = r.standing; handed = r.all; same = r.same }
