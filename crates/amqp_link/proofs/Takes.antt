-- A delivery is handed up: the first of the whole ones that were not.
use Rattle.std.proofs.Common.{arith, ◌≡◌, ℕ, zero, suc, Bool, true, false, not, cond, List, [], ◌∷◌, ◌++◌, map, filter, take, drop, refl, sym, ap, ◌∙◌, Some}
use Rattle.std.specs.Prelude.{slice_get}
use Rattle.std.proofs.lemmas.List.{map-append, length-append}
use Rattle.std.proofs.lemmas.List.Elements.{filter-append}
use Rattle.amqp_link.specs.declared.terms.Terms.{Terms}
use Rattle.amqp_link.specs.Links.{Delivery, LinkEvent, HandedUp, link_after, LinkMay, left_open}
use Rattle.amqp_link.specs.Histories.{Group, wholes, takes, handed_up_groups, ready_groups, is_settled, shown, shown_awaiting, state_of, handed_up, given}
use Rattle.amqp_link.proofs.Transfers.{stated, stated_same}
use Rattle.std.proofs.lemmas.Option.{same_Some}

-- Handing up. -----------------------------------------------------------------------------------------------------

-- the first of the whole deliveries that were not handed up
pub record First (terms : Terms) (h : List LinkEvent) (d : Delivery) : Type 0 where
  pub group : Group
  pub later : List Group
  pub rest : ready_groups h ≡ group ∷ later
  pub is : d ≡ shown terms h group

first_of_map : (terms : Terms) (h : List LinkEvent) (d : Delivery) (gs : List Group) → slice_get (map (shown terms h) gs) 0 ≡ Some d → ready_groups h ≡ gs → First terms h d
first_of_map terms h d [] e r = absurd (grind (arith, e))
first_of_map terms h d (g ∷ gs) e r = record { group = g; later = gs; rest = r; is = sym (same_Some _ _ e) }

-- what is handed up is the first whole delivery that was not
pub first_ready : (terms : Terms) (h : List LinkEvent) (d : Delivery) → LinkMay (state_of terms h) (HandedUp d) → First terms h d
first_ready terms h d may = first_of_map terms h d (ready_groups h) may refl

-- a front that is one longer
pub one_on : {X : Type 0} (n : ℕ) (xs : List X) (x : X) (ys : List X) → drop n xs ≡ x ∷ ys → (take (suc n) xs ≡ take n xs ++ x ∷ []) × (drop (suc n) xs ≡ ys)
one_on zero [] x ys e = absurd (grind (arith, e))
one_on {X = X} zero (z ∷ zs) x ys e = (ap (λ (w : X). w ∷ []) (first_same e), rest_same e)
  where
    first_same : z ∷ zs ≡ x ∷ ys → z ≡ x
    first_same e = cc

    rest_same : z ∷ zs ≡ x ∷ ys → zs ≡ ys
    rest_same e = cc
one_on (suc n) [] x ys e = absurd (grind (arith, e))
one_on {X = X} (suc n) (z ∷ zs) x ys e = let r = one_on n zs x ys e in (ap (λ (w : List X). z ∷ w) r.0, r.1)

-- one more is taken
pub took_one : (h : List LinkEvent) (d : Delivery) → takes (HandedUp d ∷ h) ≡ suc (takes h)
took_one h d = length-append (handed_up h) (d ∷ []) ∙ omega arith

-- with it what was handed up is still what the history gives
pub took_given : (terms : Terms) (h : List LinkEvent) (d : Delivery) → First terms h d → handed_up h ≡ given terms h → handed_up (HandedUp d ∷ h) ≡ given terms (HandedUp d ∷ h)
took_given terms h d f same =
    ap (λ (ds : List Delivery). ds ++ d ∷ []) same
    ∙ ap (λ (d : Delivery). given terms h ++ d ∷ []) f.is
    ∙ sym (ap (λ (gs : List Group). given terms h ++ take 1 (map (shown terms h) gs)) f.rest)

kept_one : (terms : Terms) (h : List LinkEvent) (g : Group) → map (shown_awaiting terms h) (filter (λ g. not (is_settled terms h g)) (g ∷ [])) ≡ left_open (shown terms h g)
kept_one terms h g = one (is_settled terms h g)
  where
    one : (b : Bool) → map (shown_awaiting terms h) (cond (not b) (g ∷ []) []) ≡ cond b [] (shown_awaiting terms h g ∷ [])
    one true = refl
    one false = refl

-- a take leaves the state of the longer history
pub take_state : (terms : Terms) (h : List LinkEvent) (d : Delivery) → LinkMay (state_of terms h) (HandedUp d) → link_after (state_of terms h) (HandedUp d) ≡ state_of terms (HandedUp d ∷ h)
unfolding stated
take_state terms h d may =
    let f = first_ready terms h d may in
    let on = one_on (takes h) (wholes h) f.group f.later f.rest in
    let open_one = λ (g : Group). not (is_settled terms h g) in
    stated_same terms _ _ _ _ _ _ _ _ _ _ _ _ refl refl refl
    (sym (ap (λ (n : ℕ). map (shown_awaiting terms h) (filter open_one (take n (wholes h)))) (took_one h d)
    ∙ ap (λ (gs : List Group). map (shown_awaiting terms h) (filter open_one gs)) on.0
    ∙ ap (map (shown_awaiting terms h)) (filter-append open_one (handed_up_groups h) (f.group ∷ []))
    ∙ map-append (shown_awaiting terms h) (filter open_one (handed_up_groups h)) _
    ∙ ap (λ (ds : List Delivery). (state_of terms h).awaiting ++ ds) (kept_one terms h f.group ∙ ap left_open (sym f.is))))
    (sym (ap (λ (n : ℕ). map (shown terms h) (drop n (wholes h))) (took_one h d)
    ∙ ap (map (shown terms h)) on.1
    ∙ sym (ap (λ (gs : List Group). drop 1 (map (shown terms h) gs)) f.rest)))
    refl
