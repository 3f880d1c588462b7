-- When the sender is asked to use its credit up, and when it has done so.
use Rattle.std.proofs.Common.{arith, ◌≡◌, ℕ, ◌↔◌, inl, inr, Bool, true, false, cond, List, [], ◌∷◌, ◌++◌, refl, sym, ap, ◌∙◌, subst, Option}
use Rattle.std.proofs.lemmas.Bool.{cases_Bool, and_parts, and_from, eqb-true, eq-eqb}
use Rattle.amqp_link.specs.declared.terms.Terms.{Terms}
use Rattle.amqp_link.specs.Links.{is_drained, LinkEvent, DrainAsked, FlowStated}
use Rattle.amqp_link.specs.Histories.{credit, draining, asks_to_drain, ends_draining, state_of}
use Rattle.amqp_link.specs.Laws.{NoneEnds, IsAskedToDrain}
use Rattle.amqp_link.proofs.Steps.{credit_flowed}

-- a flow tells of a drain exactly where one was asked for and no credit is left behind it
pub drained_is : (terms : Terms) (h : List LinkEvent) (stated : Option ℕ) → (is_drained (state_of terms h) stated ≡ true) ↔ ((draining terms h ≡ true) × (credit terms (FlowStated stated ∷ h) ≡ 0))
drained_is terms h stated = (
  λ e. let p = and_parts _ _ e in (p.0, sym (credit_flowed terms h stated) ∙ eqb-true _ 0 p.1),
  λ r. and_from _ _ r.0 (eq-eqb _ 0 (credit_flowed terms h stated ∙ r.1)),
)

-- one event more, which doesn't end it
still_asked : (terms : Terms) (h : List LinkEvent) (e : LinkEvent) → ends_draining terms h e ≡ false → IsAskedToDrain terms h → IsAskedToDrain terms (e ∷ h)
still_asked terms h e none asked = record {
  later = e ∷ asked.later;
  before = asked.before;
  split = ap (λ (h : List LinkEvent). e ∷ h) asked.split;
  stays = (subst (λ (h : List LinkEvent). ends_draining terms h e ≡ false) asked.split none, asked.stays);
}

asked_more : (terms : Terms) (h : List LinkEvent) (e : LinkEvent) → cond (ends_draining terms h e) false (draining terms h) ≡ true →
    (draining terms h ≡ true → IsAskedToDrain terms h) → IsAskedToDrain terms (e ∷ h)
asked_more terms h e on before = elim (cases_Bool (ends_draining terms h e)) [
  | inl ends ↦ absurd (grind (arith, rw ends at on))
  | inr none ↦ still_asked terms h e none (before (rw none at on))
]

asked_from : (terms : Terms) (h : List LinkEvent) → draining terms h ≡ true → IsAskedToDrain terms h
asked_from terms [] on = absurd (grind (arith, on))
asked_from terms (DrainAsked ∷ h) on = record { later = []; before = h; split = refl; stays = tt }
asked_from terms (e ∷ h) on = asked_more terms h e on (λ before. asked_from terms h before)

draining_stays : (terms : Terms) (later before : List LinkEvent) → draining terms before ≡ true → NoneEnds terms later before → draining terms (later ++ before) ≡ true
draining_stays terms [] before on stays = on
draining_stays terms (e ∷ later) before on stays = one (asks_to_drain e) (ends_draining terms (later ++ before) e) stays.0 (draining_stays terms later before on stays.1)
  where
    one : (a b : Bool) → b ≡ false → draining terms (later ++ before) ≡ true → cond a true (cond b false (draining terms (later ++ before))) ≡ true
    one true b none rest = refl
    one false b none rest = rw none rest

-- a link drains exactly where the history asks
pub asked_is : (terms : Terms) (h : List LinkEvent) → (draining terms h ≡ true) ↔ IsAskedToDrain terms h
asked_is terms h = (
  asked_from terms h,
  λ asked. subst (λ (h : List LinkEvent). draining terms h ≡ true) (sym asked.split) (draining_stays terms asked.later (DrainAsked ∷ asked.before) refl asked.stays),
)
