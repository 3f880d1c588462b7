use Rattle.std.proofs.Common.{ℕ, ◌-◌, List, [], ◌∷◌, ◌++◌, length, ap, sym, subst, ◌∙◌, arith}
use Rattle.std.proofs.lemmas.List.{append-nil}
use Rattle.amqp_sasl.specs.declared.layer.Stage.{Stage}
use Rattle.amqp_sasl.specs.declared.layer.Stage.TheVariants as stage
use Rattle.amqp_sasl.specs.Frames.{progress_of}
use Rattle.amqp_sasl.specs.Verdicts.{Judgement, step_of, verdict_of}
use Rattle.amqp_sasl.specs.Exchanges.{SaslState, IsSound, Broken, did, told, with_written, by_verdict}
use Rattle.amqp_sasl.proofs.Frames.{short-below}
use Rattle.amqp_sasl.proofs.Steps.{at_stage, stage_is, bad_reply, whole_reply}
use Rattle.amqp_sasl.proofs.layer.Sasl.take_of_response.Goals as goal

pub push-requires : goal.push-requires
push-requires c =
    let s = c.self.inside in
    let is = stage_is c.args.self.now s.offer s.stage s.kept.init s.kept.rest s.unsent stage.Response c.self.view_is c.requires in
    let sound = subst (λ (x : Stage). IsSound s.offer x s.kept.init s.kept.rest s.unsent) is c.self.invariant in
    let below = short-below (512 - length s.kept.init) s.kept.rest sound.2 (omega (arith, sound.1)) in
    omega (arith, below, sound.1)

pub returns-in-Bad-clause-exact : goal.returns-in-Bad-clause-exact
returns-in-Bad-clause-exact c = λ answer more.
    let s = c.self.inside in
    let is = stage_is c.args.self.now s.offer s.stage s.kept.init s.kept.rest s.unsent stage.Response c.self.view_is c.requires in
    let sound = subst (λ (x : Stage). IsSound s.offer x s.kept.init s.kept.rest s.unsent) is c.self.invariant in
    let room = c.room.ensures ∙ ap (λ (l : List ℕ). 512 - length l) c.push.ensures.init in
    let comes = ap (λ (n : ℕ). progress_of n (s.kept.rest ++ c.args.byte ∷ [])) (sym room) ∙ ap (progress_of c.room.result) (sym (c.rest.ensures ∙ c.push.ensures.rest)) ∙ sym c.in-Bad.ensures in
    ap (λ (x : SaslState). told x answer (c.args.byte ∷ more)) (at_stage c.args.self.now s.offer s.stage s.kept.init s.kept.rest s.unsent stage.Response c.self.view_is c.requires)
    ∙ ap (with_written s.unsent) (bad_reply answer (step_of s.offer s.kept.init) (512 - length s.kept.init) s.kept.rest more c.args.byte sound.0 comes)

pub returns-in-Malformed-clause-exact : goal.returns-in-Malformed-clause-exact
returns-in-Malformed-clause-exact c = λ answer more.
    let s = c.self.inside in
    let is = stage_is c.args.self.now s.offer s.stage s.kept.init s.kept.rest s.unsent stage.Response c.self.view_is c.requires in
    let sound = subst (λ (x : Stage). IsSound s.offer x s.kept.init s.kept.rest s.unsent) is c.self.invariant in
    let room = c.room.ensures ∙ ap (λ (l : List ℕ). 512 - length l) c.push.ensures.init in
    let comes = ap (λ (n : ℕ). progress_of n (s.kept.rest ++ c.args.byte ∷ [])) (sym room) ∙ ap (progress_of c.room.result) (sym (c.rest.ensures ∙ c.push.ensures.rest)) ∙ sym c.in-Whole.ensures in
    let verdict = ap (λ (i : List ℕ). verdict_of s.offer i (s.kept.rest ++ c.args.byte ∷ [])) (sym (c.init.ensures.value ∙ c.push.ensures.init))
    ∙ ap (verdict_of s.offer c.init.result.now) (sym (c.rest-in-Whole.ensures ∙ c.push.ensures.rest)) ∙ c.in-Malformed.ensures in
    ap (λ (x : SaslState). told x answer (c.args.byte ∷ more)) (at_stage c.args.self.now s.offer s.stage s.kept.init s.kept.rest s.unsent stage.Response c.self.view_is c.requires)
    ∙ ap (with_written s.unsent) (whole_reply answer (step_of s.offer s.kept.init) (512 - length s.kept.init) s.kept.rest more c.args.byte sound.0 sound.2 comes ∙ ap (λ (j : Judgement). by_verdict answer j more) verdict)

pub returns-in-Refused-clause-exact : goal.returns-in-Refused-clause-exact
returns-in-Refused-clause-exact c = λ answer more.
    let s = c.self.inside in
    let is = stage_is c.args.self.now s.offer s.stage s.kept.init s.kept.rest s.unsent stage.Response c.self.view_is c.requires in
    let sound = subst (λ (x : Stage). IsSound s.offer x s.kept.init s.kept.rest s.unsent) is c.self.invariant in
    let room = c.room.ensures ∙ ap (λ (l : List ℕ). 512 - length l) c.push.ensures.init in
    let comes = ap (λ (n : ℕ). progress_of n (s.kept.rest ++ c.args.byte ∷ [])) (sym room) ∙ ap (progress_of c.room.result) (sym (c.rest.ensures ∙ c.push.ensures.rest)) ∙ sym c.in-Whole.ensures in
    let verdict = ap (λ (i : List ℕ). verdict_of s.offer i (s.kept.rest ++ c.args.byte ∷ [])) (sym (c.init.ensures.value ∙ c.push.ensures.init))
    ∙ ap (verdict_of s.offer c.init.result.now) (sym (c.rest-in-Whole.ensures ∙ c.push.ensures.rest)) ∙ c.in-Refused.ensures in
    ap (λ (x : SaslState). told x answer (c.args.byte ∷ more)) (at_stage c.args.self.now s.offer s.stage s.kept.init s.kept.rest s.unsent stage.Response c.self.view_is c.requires)
    ∙ ap (with_written s.unsent) (whole_reply answer (step_of s.offer s.kept.init) (512 - length s.kept.init) s.kept.rest more c.args.byte sound.0 sound.2 comes ∙ ap (λ (j : Judgement). by_verdict answer j more) verdict)
    ∙ ap (λ (w : List ℕ). did Broken w [])
    (ap (λ (l : List ℕ). s.unsent ++ l) (sym (c.as_slice.ensures ∙ c.outcome_frame.ensures)) ∙ sym c.put.ensures ∙ sym (append-nil c.put.new.self))

pub returns-in-Asks-clause-exact : goal.returns-in-Asks-clause-exact
returns-in-Asks-clause-exact c = λ answer more.
    let s = c.self.inside in
    let is = stage_is c.args.self.now s.offer s.stage s.kept.init s.kept.rest s.unsent stage.Response c.self.view_is c.requires in
    let sound = subst (λ (x : Stage). IsSound s.offer x s.kept.init s.kept.rest s.unsent) is c.self.invariant in
    let room = c.room.ensures ∙ ap (λ (l : List ℕ). 512 - length l) c.push.ensures.init in
    let comes = ap (λ (n : ℕ). progress_of n (s.kept.rest ++ c.args.byte ∷ [])) (sym room) ∙ ap (progress_of c.room.result) (sym (c.rest.ensures ∙ c.push.ensures.rest)) ∙ sym c.in-Whole.ensures in
    let verdict = ap (λ (i : List ℕ). verdict_of s.offer i (s.kept.rest ++ c.args.byte ∷ [])) (sym c.push.ensures.init)
    ∙ ap (verdict_of s.offer c.push.new.self.init) (sym c.push.ensures.rest) in
    ap (λ (x : SaslState). told x answer (c.args.byte ∷ more)) (at_stage c.args.self.now s.offer s.stage s.kept.init s.kept.rest s.unsent stage.Response c.self.view_is c.requires)
    ∙ ap (with_written s.unsent) (whole_reply answer (step_of s.offer s.kept.init) (512 - length s.kept.init) s.kept.rest more c.args.byte sound.0 sound.2 comes ∙ ap (λ (j : Judgement). by_verdict answer j more) verdict)
