use Rattle.std.proofs.Common.{ℕ, ◌≤◌, List, [], ◌∷◌, ◌++◌, length, Option, None, Result, ap, sym, subst, refl, ◌∙◌}
use Rattle.amqp_proxy.specs.declared.faults.ProxyFault.{ProxyFault}
use Rattle.amqp_proxy.specs.declared.proxy.Outcome.{Outcome}
use Rattle.amqp_proxy.specs.declared.proxy.Outcome.TheVariants.{More}
use Rattle.amqp_proxy.specs.Headers.{progress_of, name_of}
use Rattle.amqp_proxy.specs.Streams.{ProxyState, IsSound, FaultIs, told, by_name}
use Rattle.amqp_proxy.proofs.Steps.{at_outcome, outcome_is, bad, whole, good}
use Rattle.amqp_proxy.proofs.Whole.{short-below}
use Rattle.amqp_proxy.proofs.proxy.Proxy.take.Goals as goal

pub push-requires : goal.push-requires
push-requires c =
    let s = c.self.inside in
    let sound = subst (λ (x : Outcome). IsSound x s.kept) (outcome_is c.args.self.now s.outcome s.kept More c.self.view_is c.requires) c.self.invariant in
    short-below s.kept sound

pub invariant_of-self-in-None : goal.invariant_of-self-in-None
invariant_of-self-in-None c =
    let kept = c.push.new.self in
    let long = subst (λ (l : List ℕ). 16 ≤ length l) c.as_slice.ensures.value (c.in-Whole.ensures.whole refl) in
    good kept (name_of kept) long refl (subst (λ (l : List ℕ). FaultIs None (name_of l)) c.as_slice-in-Whole.ensures.value c.in-None.ensures)

pub returns-in-Bad : goal.returns-in-Bad
returns-in-Bad c = λ more.
    let s = c.self.inside in
    let comes = ap progress_of (sym (c.as_slice.ensures.value ∙ c.push.ensures)) ∙ sym c.in-Bad.ensures.value in
    ap (λ (x : ProxyState). told x (c.args.byte ∷ more)) (at_outcome c.args.self.now s.outcome s.kept More c.self.view_is c.requires)
    ∙ bad s.kept more c.args.byte c.in-Bad.fault comes

pub returns-in-None : goal.returns-in-None
returns-in-None c = λ more.
    let s = c.self.inside in
    let sound = subst (λ (x : Outcome). IsSound x s.kept) (outcome_is c.args.self.now s.outcome s.kept More c.self.view_is c.requires) c.self.invariant in
    let comes = ap progress_of (sym (c.as_slice.ensures.value ∙ c.push.ensures)) ∙ sym c.in-Whole.ensures.value in
    ap (λ (x : ProxyState). told x (c.args.byte ∷ more)) (at_outcome c.args.self.now s.outcome s.kept More c.self.view_is c.requires)
    ∙ whole s.kept more c.args.byte sound comes
    ∙ ap (λ (l : List ℕ). by_name l (name_of l) more) (sym c.push.ensures)

pub returns-in-Some : goal.returns-in-Some
returns-in-Some c = λ more.
    let s = c.self.inside in
    let sound = subst (λ (x : Outcome). IsSound x s.kept) (outcome_is c.args.self.now s.outcome s.kept More c.self.view_is c.requires) c.self.invariant in
    let comes = ap progress_of (sym (c.as_slice.ensures.value ∙ c.push.ensures)) ∙ sym c.in-Whole.ensures.value in
    let fault = ap name_of (sym (c.as_slice-in-Whole.ensures.value ∙ c.push.ensures)) ∙ c.in-Some.ensures in
    ap (λ (x : ProxyState). told x (c.args.byte ∷ more)) (at_outcome c.args.self.now s.outcome s.kept More c.self.view_is c.requires)
    ∙ whole s.kept more c.args.byte sound comes
    ∙ ap (λ (r : Result (Option (List ℕ)) ProxyFault). by_name (s.kept ++ c.args.byte ∷ []) r more) fault
