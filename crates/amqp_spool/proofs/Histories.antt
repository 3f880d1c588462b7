-- How the history of a folder goes on.
use Rattle.std.proofs.Common.{◌≡◌, ℕ, suc, ◌+◌, ◌≤◌, arith, length, length-append, Result, Ok, Err, List, [], ◌∷◌, ◌++◌, refl, sym, ap, ◌∙◌, subst, append_assoc, Some, None}
use Rattle.amqp_spool.specs.Folders.{State, History, Goes, GoesBy, Now, All, Since, IsUnasked}
use Rattle.std.specs.Prelude.{IfErr, OnErr}

pub goes_now : (R : State → State → Type 0) (P Q : State → Type 0) (h k : History) → Goes R h k → Now P h → ((s t : State) → P s → R s t → Q t) → Now Q k
goes_now R P Q (Some (s ∷ past)) k goes now then = subst (λ (x : History). Now Q x) (sym goes.1) (then s goes.0 now goes.2)
goes_now R P Q (Some []) k goes now then = absurd now
goes_now R P Q None k goes now then = subst (λ (x : History). Now Q x) (sym goes) tt

pub goes_since : (R : State → State → Type 0) (P Q : State → Type 0) (h k : History) → Goes R h k → Now P h → ((s t : State) → P s → R s t → Q t) → Since Q h k
goes_since R P Q (Some (s ∷ past)) k goes now then = (goes.0 ∷ [], goes.1, (then s goes.0 now goes.2, tt))
goes_since R P Q (Some []) k goes now then = absurd now
goes_since R P Q None k goes now then = goes

pub goes_by_now : (between : State → State) (R : State → State → Type 0) (P Q : State → Type 0) (h k : History) → GoesBy between R h k → Now P h → ((s t : State) → P s → R s t → Q t) → Now Q k
goes_by_now between R P Q (Some (s ∷ past)) k goes now then = subst (λ (x : History). Now Q x) (sym goes.1) (then s goes.0 now goes.2)
goes_by_now between R P Q (Some []) k goes now then = absurd now
goes_by_now between R P Q None k goes now then = subst (λ (x : History). Now Q x) (sym goes) tt

pub goes_by_since : (between : State → State) (R : State → State → Type 0) (P Q : State → Type 0) (h k : History) → GoesBy between R h k → Now P h → ((s : State) → P s → Q (between s)) → ((s t : State) → P s → R s t → Q t) → Since Q h k
goes_by_since between R P Q (Some (s ∷ past)) k goes now mid then = (goes.0 ∷ between s ∷ [], goes.1, (then s goes.0 now goes.2, (mid s now, tt)))
goes_by_since between R P Q (Some []) k goes now mid then = absurd now
goes_by_since between R P Q None k goes now mid then = goes

pub since_none : (Q : State → Type 0) (h : History) → Since Q h h
since_none Q (Some past) = ([], refl, tt)
since_none Q None = refl

all_more : (Q : State → Type 0) (xs ys : List State) → All Q xs → All Q ys → All Q (xs ++ ys)
all_more Q [] ys a b = b
all_more Q (x ∷ xs) ys a b = (a.0, all_more Q xs ys a.1 b)

pub since_since : (Q : State → Type 0) (h k l : History) → Since Q h k → Since Q k l → Since Q h l
since_since Q (Some past) k l a b =
    let c = subst (λ (x : History). Since Q x l) a.1 b in
    (c.0 ++ a.0, c.1 ∙ ap (λ (x : List State). Some x) (sym (append_assoc c.0 a.0 past)), all_more Q c.0 a.0 c.2 a.2)
since_since Q None k l a b = subst (λ (x : History). Since Q x l) a b

all_and : (P Q : State → Type 0) (xs : List State) → All P xs → ((s : State) → P s → Q s) → All Q xs
all_and P Q [] all then = tt
all_and P Q (x ∷ xs) all then = (then x all.0, all_and P Q xs all.1 then)

pub since_and : (P Q : State → Type 0) (h k : History) → Since P h k → ((s : State) → P s → Q s) → Since Q h k
since_and P Q (Some past) k since then = (since.0, since.1, all_and P Q since.0 since.2 then)
since_and P Q None k since then = since

pub now_and : (P Q : State → Type 0) (h : History) → Now P h → ((s : State) → P s → Q s) → Now Q h
now_and P Q (Some (s ∷ past)) now then = then s now
now_and P Q (Some []) now then = absurd now
now_and P Q None now then = tt

pub now_both : (P Q : State → Type 0) (h : History) → Now P h → Now Q h → Now (λ s. P s × Q s) h
now_both P Q (Some (s ∷ past)) p q = (p, q)
now_both P Q (Some []) p q = absurd p
now_both P Q None p q = tt

pub since_now : (P : State → Type 0) (h k : History) → Now P h → Since P h k → Now P k
since_now P (Some past) k now (([]), is, all) = subst (λ (x : History). Now P x) (sym is) now
since_now P (Some past) k now ((s ∷ more), is, all) = subst (λ (x : History). Now P x) (sym is) all.0
since_now P None k now is = subst (λ (x : History). Now P x) (sym is) tt

-- What was not asked. -------------------------------------------------------------------------------------------------

abbrev long : History → ℕ
long None = 0
long (Some past) = suc (length past)

goes_long : (R : State → State → Type 0) (h k : History) → Goes R h k → 1 ≤ long h → long k ≡ long h + 1
goes_long R (Some (s ∷ past)) k goes known = omega (arith, ap long goes.1)
goes_long R (Some []) k goes known = absurd goes
goes_long R None k goes known = absurd (omega (arith, known))

goes_by_long : (between : State → State) (R : State → State → Type 0) (h k : History) → GoesBy between R h k → 1 ≤ long h → long k ≡ long h + 2
goes_by_long between R (Some (s ∷ past)) k goes known = omega (arith, ap long goes.1)
goes_by_long between R (Some []) k goes known = absurd goes
goes_by_long between R None k goes known = absurd (omega (arith, known))

since_long : (P : State → Type 0) (h k : History) → Since P h k → long h ≤ long k
since_long P (Some past) k since = omega (arith, ap long since.1, length-append since.0 past)
since_long P None k since = omega arith

since_same : (P : State → Type 0) (h k : History) → Since P h k → long k ≡ long h → k ≡ h
since_same P (Some past) k (([]), is, all) same = is
since_same P (Some past) k ((s ∷ more), is, all) same = absurd (omega (arith, ap long is, same, length-append more past))
since_same P None k is same = is

unasked_long : (h k : History) → IsUnasked h k → (1 ≤ long h) × (long k ≡ long h)
unasked_long h k un = (omega (arith, ap long un.2), ap long un.3)

pub goes_asks : (R : State → State → Type 0) (h k : History) → Goes R h k → IsUnasked h k → ⊥
goes_asks R h k goes un = let u = unasked_long h k un in absurd (omega (arith, u.1, goes_long R h k goes u.0))

pub goes_by_asks : (between : State → State) (R : State → State → Type 0) (h k : History) → GoesBy between R h k → IsUnasked h k → ⊥
goes_by_asks between R h k goes un = let u = unasked_long h k un in absurd (omega (arith, u.1, goes_by_long between R h k goes u.0))

-- Nothing was asked before, nor then.
pub unasked_both : (P Q : State → Type 0) (h k l : History) → Since P h k → Since Q k l → IsUnasked h l → IsUnasked h k × IsUnasked k l
unasked_both P Q h k l first then un =
    let u = unasked_long h l un in
    let same : k ≡ h = since_same P h k first (omega (arith, since_long P h k first, since_long Q k l then, u.1)) in
    ((un.0, un.1, un.2, same), (un.0, un.1, same ∙ un.2, un.3 ∙ sym same))

pub goes_asks_then : (R S : State → State → Type 0) (h k l : History) → Goes R h k → Goes S k l → IsUnasked h l → ⊥
goes_asks_then R S h k l first then un =
    let u = unasked_long h l un in
    let one = goes_long R h k first u.0 in
    absurd (omega (arith, u.1, one, goes_long S k l then (omega (arith, one))))

pub no_err : {A E : Type 0} (r : Result A E) (U : Type 0) (P : E → Type 0) → (U → ⊥) → IfErr r (λ f. U → P f)
no_err (Ok x) U P not = tt
no_err (Err e) U P not = λ u. absurd (not u)

pub not_err : {A E : Type 0} (r : Result A E) (U P : Type 0) → (U → ⊥) → OnErr r (U → P)
not_err (Ok x) U P not = tt
not_err (Err e) U P not = λ u. absurd (not u)
