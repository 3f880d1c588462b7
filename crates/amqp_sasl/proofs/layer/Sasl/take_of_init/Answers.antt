use Rattle.std.proofs.Common.{ℕ, ◌-◌, List, [], ◌∷◌, ◌++◌, length, ap, sym, subst, ◌∙◌, arith}
use Rattle.std.proofs.lemmas.List.{append-nil, length-append}
use Rattle.amqp_sasl.specs.declared.layer.Stage.{Stage}
use Rattle.amqp_sasl.specs.declared.layer.Stage.TheVariants as stage
use Rattle.amqp_sasl.specs.declared.verdict.Verdict.{Verdict}
use Rattle.amqp_sasl.specs.Frames.{progress_of}
use Rattle.amqp_sasl.specs.Verdicts.{Judged, Ends, step_of, judgement_now}
use Rattle.amqp_sasl.specs.Exchanges.{SaslState, IsSound, Broken, did, told, with_written, by_step}
use Rattle.amqp_sasl.proofs.Frames.{short-below, nothing_short}
use Rattle.amqp_sasl.proofs.Steps.{at_stage, stage_is, bad, whole, challenged, challenged_short, asking}
use Rattle.amqp_sasl.proofs.layer.Sasl.take_of_init.Goals as goal

pub push-requires : goal.push-requires
push-requires c =
    let s = c.self.inside in
    let is = stage_is c.args.self.now s.offer s.stage s.kept.init s.kept.rest s.unsent stage.Init c.self.view_is c.requires in
    let sound = subst (λ (x : Stage). IsSound s.offer x s.kept.init s.kept.rest s.unsent) is c.self.invariant in
    omega (arith, short-below 512 s.kept.rest sound.1 (omega arith), ap (λ (l : List ℕ). length l) sound.0)

pub invariant_of-self-in-Challenges : goal.invariant_of-self-in-Challenges
invariant_of-self-in-Challenges c =
    let s = c.self.inside in
    let is = stage_is c.args.self.now s.offer s.stage s.kept.init s.kept.rest s.unsent stage.Init c.self.view_is c.requires in
    let sound = subst (λ (x : Stage). IsSound s.offer x s.kept.init s.kept.rest s.unsent) is c.self.invariant in
    let due = ap (step_of s.offer) (c.split_off.ensures.init ∙ sym c.rest-in-Whole.ensures) ∙ c.in-Challenges.ensures in
    let short = challenged_short s.offer c.split_off.new.self.init _ due in
    let long = ap (λ (l : List ℕ). length l) c.put.ensures ∙ length-append s.unsent c.as_slice.result.now in (
      record { hostname = _; is = due },
      short,
      ap (progress_of (512 - length c.split_off.new.self.init)) c.split_off.ensures.rest ∙ nothing_short (512 - length c.split_off.new.self.init),
      omega (arith, sound.2, long, ap (λ (l : List ℕ). length l) c.as_slice.ensures),
    )

pub returns-in-Bad-clause-exact : goal.returns-in-Bad-clause-exact
returns-in-Bad-clause-exact c = λ answer more.
    let s = c.self.inside in
    let comes = ap (progress_of 512) (sym (c.rest.ensures ∙ c.push.ensures.rest)) ∙ sym c.in-Bad.ensures in
    ap (λ (x : SaslState). told x answer (c.args.byte ∷ more)) (at_stage c.args.self.now s.offer s.stage s.kept.init s.kept.rest s.unsent stage.Init c.self.view_is c.requires)
    ∙ ap (with_written s.unsent) (bad s.offer answer s.kept.rest more c.args.byte comes)

pub returns-in-Challenges-clause-exact : goal.returns-in-Challenges-clause-exact
returns-in-Challenges-clause-exact c = λ answer more.
    let s = c.self.inside in
    let is = stage_is c.args.self.now s.offer s.stage s.kept.init s.kept.rest s.unsent stage.Init c.self.view_is c.requires in
    let sound = subst (λ (x : Stage). IsSound s.offer x s.kept.init s.kept.rest s.unsent) is c.self.invariant in
    let comes = ap (progress_of 512) (sym (c.rest.ensures ∙ c.push.ensures.rest)) ∙ sym c.in-Whole.ensures in
    let due = ap (step_of s.offer) (sym (c.rest-in-Whole.ensures ∙ c.push.ensures.rest)) ∙ c.in-Challenges.ensures in
    let wrote = c.put.ensures ∙ ap (λ (l : List ℕ). s.unsent ++ l) (c.as_slice.ensures ∙ c.challenge_frame.ensures) in
    ap (λ (x : SaslState). told x answer (c.args.byte ∷ more)) (at_stage c.args.self.now s.offer s.stage s.kept.init s.kept.rest s.unsent stage.Init c.self.view_is c.requires)
    ∙ ap (with_written s.unsent) (whole s.offer answer s.kept.rest more c.args.byte sound.1 comes)
    ∙ challenged s.offer answer (s.kept.rest ++ c.args.byte ∷ []) c.split_off.new.self.init c.split_off.new.self.rest s.unsent c.put.new.self more _ due (c.split_off.ensures.init ∙ c.push.ensures.rest) c.split_off.ensures.rest wrote

pub returns-in-Malformed-clause-exact : goal.returns-in-Malformed-clause-exact
returns-in-Malformed-clause-exact c = λ answer more.
    let s = c.self.inside in
    let frame = s.kept.rest ++ c.args.byte ∷ [] in
    let is = stage_is c.args.self.now s.offer s.stage s.kept.init s.kept.rest s.unsent stage.Init c.self.view_is c.requires in
    let sound = subst (λ (x : Stage). IsSound s.offer x s.kept.init s.kept.rest s.unsent) is c.self.invariant in
    let comes = ap (progress_of 512) (sym (c.rest.ensures ∙ c.push.ensures.rest)) ∙ sym c.in-Whole.ensures in
    let ends = ap (step_of s.offer) (sym (c.rest-in-Whole.ensures ∙ c.push.ensures.rest)) ∙ c.in-Ends.ensures ∙ ap (λ (v : Verdict). Ends (judgement_now v)) c.in-Malformed.is in
    ap (λ (x : SaslState). told x answer (c.args.byte ∷ more)) (at_stage c.args.self.now s.offer s.stage s.kept.init s.kept.rest s.unsent stage.Init c.self.view_is c.requires)
    ∙ ap (with_written s.unsent) (whole s.offer answer s.kept.rest more c.args.byte sound.1 comes ∙ ap (λ (j : Judged). by_step answer j (512 - length frame) more) ends)

pub returns-in-Refused-clause-exact : goal.returns-in-Refused-clause-exact
returns-in-Refused-clause-exact c = λ answer more.
    let s = c.self.inside in
    let frame = s.kept.rest ++ c.args.byte ∷ [] in
    let is = stage_is c.args.self.now s.offer s.stage s.kept.init s.kept.rest s.unsent stage.Init c.self.view_is c.requires in
    let sound = subst (λ (x : Stage). IsSound s.offer x s.kept.init s.kept.rest s.unsent) is c.self.invariant in
    let comes = ap (progress_of 512) (sym (c.rest.ensures ∙ c.push.ensures.rest)) ∙ sym c.in-Whole.ensures in
    let ends = ap (step_of s.offer) (sym (c.rest-in-Whole.ensures ∙ c.push.ensures.rest)) ∙ c.in-Ends.ensures ∙ ap (λ (v : Verdict). Ends (judgement_now v)) c.in-Refused.is in
    ap (λ (x : SaslState). told x answer (c.args.byte ∷ more)) (at_stage c.args.self.now s.offer s.stage s.kept.init s.kept.rest s.unsent stage.Init c.self.view_is c.requires)
    ∙ ap (with_written s.unsent) (whole s.offer answer s.kept.rest more c.args.byte sound.1 comes ∙ ap (λ (j : Judged). by_step answer j (512 - length frame) more) ends)
    ∙ ap (λ (w : List ℕ). did Broken w [])
    (ap (λ (l : List ℕ). s.unsent ++ l) (sym (c.as_slice-in-Refused.ensures ∙ c.outcome_frame.ensures)) ∙ sym c.put-in-Refused.ensures ∙ sym (append-nil c.put-in-Refused.new.self))

pub returns-in-Asks-clause-exact : goal.returns-in-Asks-clause-exact
returns-in-Asks-clause-exact c = λ answer more.
    let s = c.self.inside in
    let frame = s.kept.rest ++ c.args.byte ∷ [] in
    let is = stage_is c.args.self.now s.offer s.stage s.kept.init s.kept.rest s.unsent stage.Init c.self.view_is c.requires in
    let sound = subst (λ (x : Stage). IsSound s.offer x s.kept.init s.kept.rest s.unsent) is c.self.invariant in
    let comes = ap (progress_of 512) (sym (c.rest.ensures ∙ c.push.ensures.rest)) ∙ sym c.in-Whole.ensures in
    let ends = ap (step_of s.offer) (sym (c.rest-in-Whole.ensures ∙ c.push.ensures.rest)) ∙ c.in-Ends.ensures in
    ap (λ (x : SaslState). told x answer (c.args.byte ∷ more)) (at_stage c.args.self.now s.offer s.stage s.kept.init s.kept.rest s.unsent stage.Init c.self.view_is c.requires)
    ∙ ap (with_written s.unsent) (whole s.offer answer s.kept.rest more c.args.byte sound.1 comes
    ∙ asking s.offer answer frame c.split_off-in-Asks.new.self.init c.split_off-in-Asks.new.self.rest more (512 - length frame) _ ends (c.split_off-in-Asks.ensures.init ∙ c.push.ensures.rest))
