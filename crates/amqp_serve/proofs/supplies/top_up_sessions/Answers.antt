use Rattle.std.proofs.Common.{◌≡◌, ◌≤◌, ◌<◌, ◌+◌, ◌-◌, ◌++◌, suc, Bool, true, false, List, [], refl, ap, sym, ◌∙◌, subst, arith}
use Rattle.std.specs.Prelude.{nat_lt}
use Rattle.std.proofs.lemmas.Bool.{ltb-true, ltb-false}
use Rattle.std.proofs.lemmas.Result.{err_from_is_err_and}
use Rattle.amqp_session.specs.Sessions.{SessionState}
use Rattle.amqp_endpoint.specs.Configs.{Configured}
use Rattle.amqp_endpoint.specs.Connections.{slot_at, channels}
use Rattle.amqp_serve.specs.declared.supplies.Look.TheVariants as look
use Rattle.amqp_serve.specs.declared.supplies.Supply.{Supply}
use Rattle.amqp_serve.specs.Cuts.{supply_channel}
use Rattle.amqp_serve.specs.Deeds.{topped_deeds, with_both, WentOn, ends}
use Rattle.amqp_serve.specs.Serving.{lack, session_supplies, all_supplies_from, all_supplies, ToppingUp, Serves}
use Rattle.amqp_serve.specs.Supplied.{IsListed}
use Rattle.amqp_serve.proofs.Deeds.{went_silent, went_on, then_quiet, went_off, went_lost, topped_both}
use Rattle.amqp_serve.proofs.ServingTops.{all_from, places_step, places_none, session_serves, channels_passed, not_live_supplied, none_live}
use Rattle.amqp_serve.proofs.Supplied.{supplied_at, further_on, next_channel, back_channel, only_same, both_fine, both_set}
use Rattle.amqp_serve.proofs.supplies.top_up_sessions.Goals.{then-is_some+in_ok-more, else-is_some}
use Rattle.amqp_serve.proofs.supplies.top_up_sessions.Goals as goal

-- nothing outside the channels that are gone through lacks anything
pub loop-channel-init : goal.loop-channel-init
loop-channel-init g c =
    let p = c.args.rule.now in
    let s = c.args.endpoint.now in
    let config = s.connection.config in
    let n = config.channel_max + 1 in
    let handles = c.handle_max.result + 1 in
    let first = c.args.first in
    let end = c.args.end in
    let most : c.handle_max.result ≡ config.handle_max = c.handle_max.ensures ∙ ap (λ (x : Configured). x.handle_max) c.config.ensures in
    let links : handles ≡ suc config.handle_max = omega (arith, most) in
    let few : first ≤ n = omega (arith, c.requires.ordered, c.requires.within) in
    let out = c.requires.but in
    let x = ends g.W.Write.contents g.S.Write.contents c.args.writer.now c.args.sink.now in
    record {
      open_ends = c.requires.ends;
      config = refl;
      within = few;
      behind = λ x listed far. out x listed (λ a b. omega (arith, far, b));
      supplied = (λ _ x listed near. out x listed (λ a b. omega (arith, near, a)), λ _. refl);
      went = went_silent p _ _ s x
          (subst (λ (l : List Supply). Serves p (ToppingUp l) s [] (ToppingUp (all_supplies_from handles first (n - first))) s) (sym (all_from config c.handle_max.result config.channel_max most refl))
          (channels_passed p s handles n 0 first (omega arith) few
          (λ i _ low. supplied_at p s.connection handles i links (omega (arith, low, few)) (λ x listed same. out x listed (λ a b. omega (arith, same, low, a)))))) c.requires.ends;
    }

pub returns-in_err-more-clause-went : goal.returns-in_err-more-clause-went
returns-in_err-more-clause-went g c =
    let i = c.loop-channel.channel in
    let n = c.args.endpoint.now.connection.config.channel_max + 1 in
    let below : i < n = omega (arith, c.loop-channel-test.true, c.requires.within) in
    let handles = c.handle_max.result + 1 in
    let all = all_supplies c.args.endpoint.now.connection.config in
    let p = err_from_is_err_and c.from_residual.result c.from_residual.ensures.1 in
    went_lost _ c.from_residual.result _ p.0 _ p.1 p.2
    (went_off
    (subst (λ (l : List Supply). WentOn c.args.rule.now (topped_deeds c.loop-channel.all) (ToppingUp all) (ToppingUp l) c.args.endpoint.now c.loop-channel.endpoint
    (ends g.W.Write.contents g.S.Write.contents c.args.writer.now c.args.sink.now) (ends g.W.Write.contents g.S.Write.contents c.loop-channel.writer c.loop-channel.sink))
    (places_step handles i n below) c.loop-channel.invariant.went)
    (c.in_err-more.ensures.went (all_supplies_from handles (i + 1) (n - (i + 1)))))

pub loop-channel-preserved : goal.loop-channel-preserved
loop-channel-preserved g c =
    let i = c.loop-channel.channel in
    let cfg = c.args.endpoint.now.connection.config in
    let n = cfg.channel_max + 1 in
    let below : i < n = omega (arith, c.loop-channel-test.true, c.requires.within) in
    let handles = c.handle_max.result + 1 in
    let all = all_supplies cfg in
    let rest = all_supplies_from handles (i + 1) (n - (i + 1)) in
    let e = ends g.W.Write.contents g.S.Write.contents c.args.writer.now c.args.sink.now in
    let f = ends g.W.Write.contents g.S.Write.contents c.loop-channel.writer c.loop-channel.sink in
    let p = c.args.rule.now in
    let before : WentOn p (topped_deeds c.loop-channel.all) (ToppingUp all) (ToppingUp (session_supplies handles i ++ rest)) c.args.endpoint.now c.loop-channel.endpoint e f =
    subst (λ (l : List Supply). WentOn p (topped_deeds c.loop-channel.all) (ToppingUp all) (ToppingUp l) c.args.endpoint.now c.loop-channel.endpoint e f) (places_step handles i n below) c.loop-channel.invariant.went in
    let here = c.loop-channel.endpoint.connection in
    let most : c.handle_max.result ≡ cfg.handle_max = c.handle_max.ensures ∙ ap (λ (x : Configured). x.handle_max) c.config.ensures in
    let links : handles ≡ suc here.config.handle_max = let same = ap (λ (x : Configured). x.handle_max) c.loop-channel.invariant.config in omega (arith, most, same) in
    record {
      open_ends = elim c.if-is_some.branch [
        | then-is_some+in_ok-more w ↦ rw (w.writer-is, w.sink-is) (w.in_ok-more.ensures.went []).still
        | else-is_some w ↦ rw (w.writer-is, w.sink-is) c.loop-channel.invariant.open_ends
      ];
      within = omega (arith, c.loop-channel-test.true, c.requires.within);
      config = elim c.if-is_some.branch [
        | then-is_some+in_ok-more w ↦ rw w.endpoint-is (w.in_ok-more.ensures.only.config ∙ c.loop-channel.invariant.config)
        | else-is_some w ↦ rw w.endpoint-is c.loop-channel.invariant.config
      ];
      behind = elim c.if-is_some.branch [
        | then-is_some+in_ok-more w ↦ rw w.endpoint-is (further_on p here w.top_up_session.new.endpoint.connection i c.args.end w.in_ok-more.ensures.only c.loop-channel-test.true
            c.loop-channel.invariant.behind)
        | else-is_some w ↦ rw w.endpoint-is c.loop-channel.invariant.behind
      ];
      supplied = elim c.if-is_some.branch [
        | then-is_some+in_ok-more w ↦
            let there = w.top_up_session.new.endpoint.connection in
            let only = w.in_ok-more.ensures.only in
            let most_there = links ∙ ap (λ (x : Configured). suc x.handle_max) (sym only.config) in
            let low_there : i < channels there.config = omega (arith, below, ap (λ (x : Configured). x.channel_max) (only.config ∙ c.loop-channel.invariant.config)) in
            rw (w.endpoint-is, w.all-is, w.and-all.ensures) (
              λ is.
                  let fine = both_fine c.loop-channel.all.refused w.in_ok-more.more.refused is in
                  next_channel p here there handles i only most_there (w.in_ok-more.ensures.supplied.0 fine.1) (c.loop-channel.invariant.supplied.0 fine.0),
              λ before. both_set c.loop-channel.all.refused w.in_ok-more.more.refused (c.loop-channel.invariant.supplied.1 (back_channel p here there i only before))
                  (w.in_ok-more.ensures.supplied.1 (supplied_at p there handles i most_there low_there (λ x listed same. before x listed (omega (arith, same))))),
            )
        | else-is_some w ↦
            let same = only_same p (look.Session i) here here refl in
            rw (w.endpoint-is, w.all-is) (
              λ is. next_channel p here here handles i same links
                  (not_live_supplied p handles i here
                  (none_live (λ (s : SessionState). s.window) (slot_at here i) c.window.result c.window.ensures (sym c.is_some.ensures ∙ w.if-is_some.false)))
                  (c.loop-channel.invariant.supplied.0 is),
              λ before. c.loop-channel.invariant.supplied.1 (back_channel p here here i same before),
            )
      ];
      went = elim c.if-is_some.branch [
        | then-is_some+in_ok-more w ↦ rw (w.endpoint-is, w.writer-is, w.sink-is, w.all-is, w.and-all.ensures)
            (went_on (topped_deeds (with_both c.loop-channel.all w.in_ok-more.more)) before (w.in_ok-more.ensures.went rest) (topped_both c.loop-channel.all w.in_ok-more.more))
        | else-is_some w ↦ rw (w.endpoint-is, w.writer-is, w.sink-is, w.all-is)
            (then_quiet before
            (went_silent p _ _ c.loop-channel.endpoint f
            (session_serves p rest c.loop-channel.endpoint handles i
            (not_live_supplied p handles i here (none_live (λ (s : SessionState). s.window) (slot_at here i) c.window.result c.window.ensures (sym c.is_some.ensures ∙ w.if-is_some.false))))
            before.still))
      ];
    }

pub returns-clause-supplied : goal.returns-clause-supplied
returns-clause-supplied g c = (λ is x listed. by is x listed (nat_lt (supply_channel x) c.loop-channel.channel) refl, λ all. c.loop-channel.invariant.supplied.1 (λ x listed low. all x listed))
  where
    by : c.loop-channel.all.refused ≡ 0 → (x : Supply) → IsListed c.loop-channel.endpoint.connection.config x → (b : Bool) → nat_lt (supply_channel x) c.loop-channel.channel ≡ b →
        lack c.args.rule.now c.loop-channel.endpoint.connection x ≡ 0
    by is x listed true low = c.loop-channel.invariant.supplied.0 is x listed (ltb-true (supply_channel x) c.loop-channel.channel low)
    by is x listed false high =
        let far : c.loop-channel.channel ≤ supply_channel x = ltb-false (supply_channel x) c.loop-channel.channel high in
        c.loop-channel.invariant.behind x listed (omega (arith, far, c.loop-channel-test.false))

pub returns-clause-went : goal.returns-clause-went
returns-clause-went g c =
    let p = c.args.rule.now in
    let t = c.loop-channel.endpoint in
    let cfg = c.args.endpoint.now.connection.config in
    let n = cfg.channel_max + 1 in
    let handles = c.handle_max.result + 1 in
    let all = all_supplies cfg in
    let e = ends g.W.Write.contents g.S.Write.contents c.args.writer.now c.args.sink.now in
    let f = ends g.W.Write.contents g.S.Write.contents c.loop-channel.writer c.loop-channel.sink in
    let most : c.handle_max.result ≡ cfg.handle_max = c.handle_max.ensures ∙ ap (λ (x : Configured). x.handle_max) c.config.ensures in
    let tops = ap (λ (x : Configured). x.channel_max) c.loop-channel.invariant.config in
    let mosts = ap (λ (x : Configured). x.handle_max) c.loop-channel.invariant.config in
    then_quiet c.loop-channel.invariant.went
    (went_silent p _ _ t f
    (subst (λ (l : List Supply). Serves p (ToppingUp (all_supplies_from handles c.loop-channel.channel (n - c.loop-channel.channel))) t [] (ToppingUp l) t) (places_none handles n n (omega arith))
    (channels_passed p t handles n c.loop-channel.channel n c.loop-channel.invariant.within (omega arith)
    (λ i far low. supplied_at p t.connection handles i (omega (arith, most, mosts)) (omega (arith, low, tops))
    (λ x listed same. c.loop-channel.invariant.behind x listed (omega (arith, same, far, c.loop-channel-test.false)))))) c.loop-channel.invariant.open_ends)
