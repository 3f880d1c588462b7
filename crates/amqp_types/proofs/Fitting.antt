-- What does not fit, in what holds it.
use Rattle.std.proofs.Common.{◌≡◌, ℕ, ◌+◌, ◌*◌, ◌<◌, List, [], ◌∷◌, length, get_or, drop, refl, sym, ap, ◌∙◌, subst, arith, inl, inr}
use Rattle.std.proofs.lemmas.List.{drop_more}
use Rattle.amqp_types.specs.declared.value.Value.{Value}
use Rattle.amqp_types.specs.declared.write_fault.WriteFault.{WriteFault}
use Rattle.amqp_types.specs.Canonical.{Fits, AllFit, PairsFit}
use Rattle.amqp_types.specs.Parts.{IsUnfit}
use Rattle.amqp_types.specs.Trees.{count_of, pair_count}
use Rattle.amqp_types.specs.Values.{view, views, pair_views}

-- what holds something that does not fit does not fit
pub unfit_from : (P Q : Type 0) (e : WriteFault) → (Q → P) → IsUnfit e P → IsUnfit e Q
unfit_from P Q e part (inl refused) = inl refused
unfit_from P Q e part (inr (long, denied)) = inr (long, λ q. denied (part q))

-- the first of those that are left
pub left_first : {X : Type 0} (i : ℕ) (xs : List X) (x : X) → i < length xs → x ≡ get_or xs i x → drop i xs ≡ x ∷ drop (i + 1) xs
left_first i xs x lt is = drop_more xs i x lt ∙ ap (λ y. y ∷ drop (i + 1) xs) (sym is)

-- an item that does not fit makes its list unfit
pub unfit_item : (e : WriteFault) (i : ℕ) (xs : List Value) (x : Value) → i < length xs → x ≡ get_or xs i x → (AllFit (views xs) → AllFit (views (drop i xs)))
    → IsUnfit e (Fits (view x)) → IsUnfit e (AllFit (views xs))
unfit_item e i xs x lt is rest unfit =
    unfit_from (Fits (view x)) (AllFit (views xs)) e (λ all. (subst (λ (ys : List Value). AllFit (views ys)) (left_first i xs x lt is) (rest all)).0) unfit

-- and so does a key, or its value, that does not fit
pub unfit_key : (e : WriteFault) (i : ℕ) (ps : List (Value × Value)) (p : Value × Value) → i < length ps → p ≡ get_or ps i p → (PairsFit (pair_views ps) → PairsFit (pair_views (drop i ps)))
    → IsUnfit e (Fits (view p.0)) → IsUnfit e (PairsFit (pair_views ps))
unfit_key e i ps p lt is rest unfit =
    unfit_from (Fits (view p.0)) (PairsFit (pair_views ps)) e (λ all. (subst (λ (ys : List (Value × Value)). PairsFit (pair_views ys)) (left_first i ps p lt is) (rest all)).0) unfit

pub unfit_value : (e : WriteFault) (i : ℕ) (ps : List (Value × Value)) (p : Value × Value) → i < length ps → p ≡ get_or ps i p → (PairsFit (pair_views ps) → PairsFit (pair_views (drop i ps)))
    → IsUnfit e (Fits (view p.1)) → IsUnfit e (PairsFit (pair_views ps))
unfit_value e i ps p lt is rest unfit =
    unfit_from (Fits (view p.1)) (PairsFit (pair_views ps)) e (λ all. (subst (λ (ys : List (Value × Value)). PairsFit (pair_views ys)) (left_first i ps p lt is) (rest all)).1) unfit

-- how many values there are
pub count_views : (vs : List Value) → count_of (views vs) ≡ length vs
count_views [] = refl
count_views (v ∷ vs) = omega (arith, count_views vs)

-- and how many keys and values
pub pair_count_views : (ps : List (Value × Value)) → pair_count (pair_views ps) ≡ 2 * length ps
pair_count_views [] = omega arith
pair_count_views (p ∷ ps) = omega (arith, pair_count_views ps)
