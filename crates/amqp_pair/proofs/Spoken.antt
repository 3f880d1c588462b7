-- What a sender wrote is units.
use Rattle.std.proofs.Common.{◌≡◌, ℕ, Bool, true, false, List, [], ◌∷◌, ◌++◌, refl, sym, ap, ◌∙◌, append-nil}
use Rattle.std.specs.List.{flat_map}
use Rattle.std.proofs.lemmas.Grind.{flat_map-append}
use Rattle.amqp_frame.specs.Units.{StreamUnit, bytes_of}
use Rattle.amqp_send.specs.declared.flow_state.FlowState.{FlowState}
use Rattle.amqp_send.specs.declared.telling.Telling.{Telling}
use Rattle.amqp_send.specs.declared.telling.Telling.TheVariants.{Nothing, Opened, Begun, Flowed, Disposed, Left, Closed, Unread}
use Rattle.amqp_send.specs.Histories.{Deed, Greeted, Heard, Took, Wrote, Ceased, Gave, flow_of, drains, answer_by, answer_text, written}
use Rattle.amqp_send.specs.Sendings.{SendTerms}
use Rattle.amqp_pair.specs.Spoken.{answer_units, heard_units, spoken}

answer_is : (drain echo : Bool) (f : FlowState) → answer_by drain echo f ≡ flat_map bytes_of (answer_units drain echo f)
answer_is true echo f = sym (append-nil _)
answer_is false true f = sym (append-nil _)
answer_is false false f = refl

heard_is : (t : Telling) (h : List Deed) → answer_text t h ≡ flat_map bytes_of (heard_units t h)
heard_is (Flowed l) h = answer_is (drains l h) l.echo (flow_of (Heard (Flowed l) ∷ h))
heard_is Nothing h = refl
heard_is (Opened n) h = refl
heard_is (Begun a b) h = refl
heard_is (Disposed a b c) h = refl
heard_is (Left c) h = refl
heard_is (Closed c) h = refl
heard_is Unread h = refl

longer : (text more : List ℕ) (us vs : List StreamUnit) → text ≡ flat_map bytes_of us → more ≡ flat_map bytes_of vs → text ++ more ≡ flat_map bytes_of (us ++ vs)
longer text more us vs e f = ap (λ (x : List ℕ). x ++ more) e ∙ ap (λ (x : List ℕ). flat_map bytes_of us ++ x) f ∙ sym (flat_map-append bytes_of us vs)

pub spoken_is : (terms : SendTerms) (h : List Deed) → written terms h ≡ flat_map bytes_of (spoken terms h)
spoken_is terms [] = refl
spoken_is terms (Greeted ∷ h) = longer _ _ (spoken terms h) _ (spoken_is terms h) refl
spoken_is terms (Heard t ∷ h) = longer _ _ (spoken terms h) (heard_units t h) (spoken_is terms h) (heard_is t h)
spoken_is terms (Took m ∷ h) = spoken_is terms h
spoken_is terms (Wrote p ∷ h) = longer _ _ (spoken terms h) (_ ∷ []) (spoken_is terms h) (sym (append-nil _))
spoken_is terms (Ceased ∷ h) = longer _ _ (spoken terms h) (_ ∷ []) (spoken_is terms h) (sym (append-nil _))
spoken_is terms (Gave bytes ∷ h) = spoken_is terms h
