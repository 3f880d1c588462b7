use Rattle.std.proofs.Common.{◌≡◌, ℕ, ◌+◌, List, [], ◌∷◌, ◌++◌, length, ap, sym, subst, ◌∙◌, arith}
use Rattle.std.proofs.lemmas.List.{append_assoc, append-nil, length-append}
use Rattle.amqp_sasl.specs.declared.layer.Stage.{Stage}
use Rattle.amqp_sasl.specs.declared.layer.Stage.TheVariants as stage
use Rattle.amqp_sasl.specs.declared.header.TheConstants.{SASL_HEADER}
use Rattle.amqp_sasl.specs.Answers.{mechanisms_frame}
use Rattle.amqp_sasl.specs.Frames.{opening_of, progress_of}
use Rattle.amqp_sasl.specs.Exchanges.{SaslState, IsSound, Broken, did, told, with_written, initiation}
use Rattle.amqp_sasl.proofs.Frames.{opening_short, nothing_short}
use Rattle.amqp_sasl.proofs.Steps.{state, at_stage, stage_is, secured, bare, other}
use Rattle.amqp_sasl.proofs.layer.Sasl.take_of_header.Goals as goal

pub invariant_of-self : goal.invariant_of-self
invariant_of-self c =
    let s = c.self.inside in
    let is = stage_is c.args.self.now s.offer s.stage s.kept.init s.kept.rest s.unsent stage.Header c.self.view_is c.requires in
    let sound = subst (λ (x : Stage). IsSound s.offer x s.kept.init s.kept.rest s.unsent) is c.self.invariant in
    let short = opening_short s.offer c.push.new.self.rest (ap (opening_of s.offer) (sym c.rest.ensures) ∙ sym c.in-Short.ensures) in
    subst (λ (x : Stage). IsSound s.offer x c.push.new.self.init c.push.new.self.rest s.unsent) (sym is) (c.push.ensures.init ∙ sound.0, short, sound.2)

pub invariant_of-self-in-Secured : goal.invariant_of-self-in-Secured
invariant_of-self-in-Secured c =
    let s = c.self.inside in
    let is = stage_is c.args.self.now s.offer s.stage s.kept.init s.kept.rest s.unsent stage.Header c.self.view_is c.requires in
    let sound = subst (λ (x : Stage). IsSound s.offer x s.kept.init s.kept.rest s.unsent) is c.self.invariant in
    let first : length c.put.new.self ≡ length s.unsent + 8 = ap (λ (l : List ℕ). length l) c.put.ensures ∙ length-append s.unsent c.as_slice.result.now ∙ ap (λ (l : List ℕ). length s.unsent + length l) c.as_slice.ensures in
    let both = ap (λ (l : List ℕ). length l) c.put-in-Secured.ensures ∙ length-append c.put.new.self c.mechanisms_frame.result.now in
    (c.wipe.ensures.init, ap (progress_of 512) c.wipe.ensures.rest ∙ nothing_short 512, omega (arith, sound.2, first, both, c.mechanisms_frame.ensures.short))

pub returns-in-Secured-clause-exact : goal.returns-in-Secured-clause-exact
returns-in-Secured-clause-exact c = λ answer more.
    let s = c.self.inside in
    let is = stage_is c.args.self.now s.offer s.stage s.kept.init s.kept.rest s.unsent stage.Header c.self.view_is c.requires in
    let sound = subst (λ (x : Stage). IsSound s.offer x s.kept.init s.kept.rest s.unsent) is c.self.invariant in
    let opens = ap (opening_of s.offer) (sym (c.rest.ensures ∙ c.push.ensures.rest)) ∙ sym c.in-Secured.ensures in
    let rest = initiation s.offer answer more in
    let wrote : c.put-in-Secured.new.self ≡ s.unsent ++ (SASL_HEADER ++ mechanisms_frame s.offer) =
    c.put-in-Secured.ensures ∙ ap (λ (l : List ℕ). l ++ c.mechanisms_frame.result.now) (c.put.ensures ∙ ap (λ (l : List ℕ). s.unsent ++ l) c.as_slice.ensures)
    ∙ ap (λ (l : List ℕ). (s.unsent ++ SASL_HEADER) ++ l) c.mechanisms_frame.ensures.value ∙ append_assoc s.unsent SASL_HEADER (mechanisms_frame s.offer) in
    ap (λ (x : SaslState). told x answer (c.args.byte ∷ more)) (at_stage c.args.self.now s.offer s.stage s.kept.init s.kept.rest s.unsent stage.Header c.self.view_is c.requires)
    ∙ ap (with_written s.unsent) (secured s.offer answer s.kept.rest more c.args.byte sound.1 opens)
    ∙ ap (λ (w : List ℕ). did rest.standing w rest.handed)
    (sym (append_assoc s.unsent (SASL_HEADER ++ mechanisms_frame s.offer) rest.written) ∙ ap (λ (l : List ℕ). l ++ rest.written) (sym wrote))
    ∙ ap (λ (k : List ℕ). told (state s.offer stage.Init c.wipe.new.self.init k c.put-in-Secured.new.self) answer more) (sym c.wipe.ensures.rest)

pub returns-in-Bare-clause-exact : goal.returns-in-Bare-clause-exact
returns-in-Bare-clause-exact c = λ answer more.
    let s = c.self.inside in
    let is = stage_is c.args.self.now s.offer s.stage s.kept.init s.kept.rest s.unsent stage.Header c.self.view_is c.requires in
    let sound = subst (λ (x : Stage). IsSound s.offer x s.kept.init s.kept.rest s.unsent) is c.self.invariant in
    let opens = ap (opening_of s.offer) (sym (c.rest.ensures ∙ c.push.ensures.rest)) ∙ sym c.in-Bare.ensures in
    ap (λ (x : SaslState). told x answer (c.args.byte ∷ more)) (at_stage c.args.self.now s.offer s.stage s.kept.init s.kept.rest s.unsent stage.Header c.self.view_is c.requires)
    ∙ ap (with_written s.unsent) (bare s.offer answer s.kept.rest more c.args.byte sound.1 opens)
    ∙ ap (λ (k : List ℕ). told (state s.offer stage.Past c.push.new.self.init k s.unsent) answer more) (sym c.push.ensures.rest)

pub returns-in-Other-clause-exact : goal.returns-in-Other-clause-exact
returns-in-Other-clause-exact c = λ answer more.
    let s = c.self.inside in
    let is = stage_is c.args.self.now s.offer s.stage s.kept.init s.kept.rest s.unsent stage.Header c.self.view_is c.requires in
    let sound = subst (λ (x : Stage). IsSound s.offer x s.kept.init s.kept.rest s.unsent) is c.self.invariant in
    let opens = ap (opening_of s.offer) (sym (c.rest.ensures ∙ c.push.ensures.rest)) ∙ sym c.in-Other.ensures in
    ap (λ (x : SaslState). told x answer (c.args.byte ∷ more)) (at_stage c.args.self.now s.offer s.stage s.kept.init s.kept.rest s.unsent stage.Header c.self.view_is c.requires)
    ∙ ap (with_written s.unsent) (other s.offer answer s.kept.rest more c.args.byte sound.1 opens)
    ∙ ap (λ (w : List ℕ). did Broken w [])
    (ap (λ (l : List ℕ). s.unsent ++ l) (sym c.as_slice-in-Other.ensures) ∙ sym c.put-in-Other.ensures ∙ sym (append-nil c.put-in-Other.new.self))
