use Rattle.std.proofs.Common.{ℕ, ◌+◌, ◌-◌, ◌++◌, List, [], subst, arith}
use Rattle.std.proofs.lemmas.Result.{err_from_is_err_and}
use Rattle.amqp_session.specs.Places.{tabulate}
use Rattle.amqp_serve.specs.declared.supplies.Supply.{Supply}
use Rattle.amqp_serve.specs.declared.supplies.Supply.TheVariants.{WindowOf, CreditOf}
use Rattle.amqp_serve.specs.Deeds.{topped_deeds, with_both, WentOn, ends}
use Rattle.amqp_serve.specs.Serving.{session_supplies, ToppingUp}
use Rattle.amqp_serve.proofs.Deeds.{went_silent, went_on, then_quiet, went_off, went_lost, topped_both}
use Rattle.amqp_serve.proofs.ServingTops.{tabulate_step, tabulate_none, tabulate_all, links_passed}
use Rattle.amqp_serve.proofs.Supplied.{of_at, only_on, first_at, next_at, back_at, fewer_at, more_at, both_fine, both_set}
use Rattle.amqp_serve.proofs.supplies.top_up_session.Goals as goal

pub returns-in_err-topped-clause-went : goal.returns-in_err-topped-clause-went
returns-in_err-topped-clause-went g c = λ rest.
    let p = err_from_is_err_and c.from_residual.result c.from_residual.ensures.1 in
    went_lost _ c.from_residual.result _ p.0 _ p.1 p.2 (c.in_err-topped.ensures.went (tabulate 0 c.args.handles (λ (h : ℕ). CreditOf c.args.channel h) ++ rest))

pub loop-handle-init : goal.loop-handle-init
loop-handle-init g c =
    let credit = λ (h : ℕ). CreditOf c.args.channel h in
    let n = c.args.handles in
    let t = c.top_up_one.new.endpoint in
    let e = ends g.W.Write.contents g.S.Write.contents c.args.writer.now c.args.sink.now in
    let f = ends g.W.Write.contents g.S.Write.contents c.top_up_one.new.writer c.top_up_one.new.sink in
    record {
      open_ends = (c.in_ok-topped.ensures.went []).still;
      only = of_at (WindowOf c.args.channel) c.in_ok-topped.ensures.only;
      within = c.first_lacking-handle.ensures.within;
      supplied = (
        λ is. more_at c.args.rule.now t.connection c.args.channel 0 c.first_lacking-handle.result c.first_lacking-handle.ensures.passed
            (first_at c.args.rule.now t.connection c.args.channel (c.in_ok-topped.ensures.supplied.0 is)),
        λ at. c.in_ok-topped.ensures.supplied.1 at.window,
      );
      went = λ rest.
          let on = c.in_ok-topped.ensures.went (tabulate 0 n credit ++ rest) in
          then_quiet
          (subst (λ (l : List Supply). WentOn c.args.rule.now (topped_deeds c.in_ok-topped.topped) (ToppingUp (session_supplies n c.args.channel ++ rest)) (ToppingUp (l ++ rest)) c.args.endpoint.now t e f)
          (tabulate_all credit n) on)
          (went_silent c.args.rule.now _ _ t f (links_passed c.args.rule.now rest t c.args.channel n 0 c.first_lacking-handle.result (omega arith) c.first_lacking-handle.ensures.within c.first_lacking-handle.ensures.passed) on.still);
    }

pub returns-in_err-granted-clause-went : goal.returns-in_err-granted-clause-went
returns-in_err-granted-clause-went g c = λ rest.
    let i = c.loop-handle.handle in
    let n = c.args.handles in
    let credit = λ (h : ℕ). CreditOf c.args.channel h in
    let p = err_from_is_err_and c.from_residual-in_err-granted.result c.from_residual-in_err-granted.ensures.1 in
    went_lost _ c.from_residual-in_err-granted.result _ p.0 _ p.1 p.2
    (went_off
    (subst (λ (l : List Supply). WentOn c.args.rule.now (topped_deeds c.loop-handle.topped) (ToppingUp (session_supplies n c.args.channel ++ rest)) (ToppingUp (l ++ rest)) c.args.endpoint.now c.loop-handle.endpoint
    (ends g.W.Write.contents g.S.Write.contents c.args.writer.now c.args.sink.now) (ends g.W.Write.contents g.S.Write.contents c.loop-handle.writer c.loop-handle.sink))
    (tabulate_step credit i n c.loop-handle-test.true) (c.loop-handle.invariant.went rest))
    (c.in_err-granted.ensures.went (tabulate (i + 1) (n - (i + 1)) credit ++ rest)))

pub loop-handle-preserved : goal.loop-handle-preserved
loop-handle-preserved g c =
    let i = c.loop-handle.handle in
    let n = c.args.handles in
    let p = c.args.rule.now in
    let s = c.loop-handle.endpoint in
    let t = c.top_up_one-in-loop-handle.new.endpoint in
    let e = ends g.W.Write.contents g.S.Write.contents c.args.writer.now c.args.sink.now in
    let f = ends g.W.Write.contents g.S.Write.contents c.loop-handle.writer c.loop-handle.sink in
    let f1 = ends g.W.Write.contents g.S.Write.contents c.top_up_one-in-loop-handle.new.writer c.top_up_one-in-loop-handle.new.sink in
    let credit = λ (h : ℕ). CreditOf c.args.channel h in
    let lacking = c.first_lacking-handle-in-loop-handle in
    record {
      open_ends = (c.in_ok-granted.ensures.went []).still;
      only = only_on c.loop-handle.invariant.only (of_at (CreditOf c.args.channel i) c.in_ok-granted.ensures.only);
      within = lacking.ensures.within;
      supplied = rw c.and-topped.ensures (
        λ is.
            let fine = both_fine c.loop-handle.topped.refused c.in_ok-granted.granted.refused is in
            more_at p t.connection c.args.channel (i + 1) lacking.result lacking.ensures.passed
            (next_at p s.connection t.connection c.args.channel i c.in_ok-granted.ensures.only (c.loop-handle.invariant.supplied.0 fine.0) (c.in_ok-granted.ensures.supplied.0 fine.1)),
        λ at.
            let first = fewer_at p t.connection c.args.channel (i + 1) lacking.result lacking.ensures.from at in
            both_set c.loop-handle.topped.refused c.in_ok-granted.granted.refused
            (c.loop-handle.invariant.supplied.1 (back_at p s.connection t.connection c.args.channel i c.in_ok-granted.ensures.only first))
            (c.in_ok-granted.ensures.supplied.1 (first.credit i (omega arith))),
      );
      went = λ rest. rw c.and-topped.ensures
          (then_quiet
          (went_on (topped_deeds (with_both c.loop-handle.topped c.in_ok-granted.granted))
          (subst (λ (l : List Supply). WentOn p (topped_deeds c.loop-handle.topped) (ToppingUp (session_supplies n c.args.channel ++ rest)) (ToppingUp (l ++ rest)) c.args.endpoint.now s e f)
          (tabulate_step credit i n c.loop-handle-test.true) (c.loop-handle.invariant.went rest))
          (c.in_ok-granted.ensures.went (tabulate (i + 1) (n - (i + 1)) credit ++ rest)) (topped_both c.loop-handle.topped c.in_ok-granted.granted))
          (went_silent p _ _ t f1 (links_passed p rest t c.args.channel n (i + 1) lacking.result lacking.ensures.from lacking.ensures.within lacking.ensures.passed) (c.in_ok-granted.ensures.went rest).still));
    }

pub returns-clause-supplied : goal.returns-clause-supplied
returns-clause-supplied g c =
    let p = c.args.rule.now in
    let t = c.loop-handle.endpoint.connection in (
      λ is. fewer_at p t c.args.channel c.args.handles c.loop-handle.handle (omega (arith, c.loop-handle-test.false)) (c.loop-handle.invariant.supplied.0 is),
      λ at. c.loop-handle.invariant.supplied.1 (fewer_at p t c.args.channel c.loop-handle.handle c.args.handles c.loop-handle.invariant.within at),
    )

pub returns-clause-only : goal.returns-clause-only
returns-clause-only g c = c.loop-handle.invariant.only

pub returns-clause-went : goal.returns-clause-went
returns-clause-went g c = λ rest.
    subst (λ (l : List Supply). WentOn c.args.rule.now (topped_deeds c.loop-handle.topped) (ToppingUp (session_supplies c.args.handles c.args.channel ++ rest)) (ToppingUp (l ++ rest)) c.args.endpoint.now
    c.loop-handle.endpoint (ends g.W.Write.contents g.S.Write.contents c.args.writer.now c.args.sink.now) (ends g.W.Write.contents g.S.Write.contents c.loop-handle.writer c.loop-handle.sink))
    (tabulate_none (λ (h : ℕ). CreditOf c.args.channel h) c.loop-handle.handle c.args.handles c.loop-handle-test.false) (c.loop-handle.invariant.went rest)
