-- How one transfer more changes the deliveries that transfers make.
use Rattle.std.proofs.Common.{arith, ◌≡◌, ℕ, suc, ◌+◌, inl, inr, subst, Bool, true, false, not, ◌&&◌, cond, if◌then◌else◌, List, [], ◌∷◌, ◌++◌, length, filter, refl, sym, ap, ◌∙◌}
use Rattle.std.specs.Prelude.{Option, Some, None, is_none, find}
use Rattle.std.proofs.lemmas.Bool.{cases_Bool}
use Rattle.std.specs.List.{AllByRecursion}
use Rattle.std.proofs.lemmas.List.{append-nil}
use Rattle.std.proofs.lemmas.Grind.{flat_map-append}
use Rattle.amqp_link.specs.Links.{Sent, goes_on, completes, adds, LinkEvent, Transferred}
use Rattle.amqp_link.specs.Histories.{Group, joined, groups_from, groups, transfers, all_of, last_of, latest, message_of, is_whole, is_unfinished, heads_from, one_if}

-- a delivery of one transfer
abbrev pub alone : ℕ → Sent → Group
alone k t = record { number = k; head = t; behind = [] }

-- a delivery with one transfer more
abbrev pub grown : Group → Sent → Group
grown g t = record g { behind = g.behind ++ t ∷ [] }

-- the delivery that a transfer belongs to, behind deliveries of which this one is unfinished
abbrev pub target : ℕ → Sent → Option Group → Group
target k t None = alone k t
target k t (Some g) = grown g t

-- the deliveries with one transfer more
abbrev pub more : ℕ → Sent → List Group → List Group
more k t [] = alone k t ∷ []
more k t (g ∷ []) = if is_unfinished g then grown g t ∷ [] else g ∷ alone (suc k) t ∷ []
more k t (g ∷ h ∷ gs) = g ∷ more (suc k) t (h ∷ gs)

joined_cond : (k : ℕ) (u : Sent) (b : Bool) (xs ys : List Group) → joined k u (cond b xs ys) ≡ cond b (joined k u xs) (joined k u ys)
joined_cond k u true xs ys = refl
joined_cond k u false xs ys = refl

front_ends : (k : ℕ) (u : Sent) (gs : List Group) (t : Sent) → goes_on u ≡ false → alone k u ∷ more (suc k) t gs ≡ more k t (alone k u ∷ gs)
front_ends k u [] t e = rw e refl
front_ends k u (g ∷ gs) t e = refl

front_goes_on : (k : ℕ) (u : Sent) (gs : List Group) (t : Sent) → goes_on u ≡ true → joined k u (more k t gs) ≡ more k t (joined k u gs)
front_goes_on k u [] t e = rw e refl
front_goes_on k u (g ∷ []) t e = joined_cond k u (is_unfinished g) _ _
front_goes_on k u (g ∷ h ∷ gs) t e = refl

-- a choice between the same
pub same_either : {X : Type 0} (b : Bool) (x : X) → cond b x x ≡ x
same_either true x = refl
same_either false x = refl

-- one more transfer grows the last group or begins one
pub groups_more : (k : ℕ) (ts : List Sent) (t : Sent) → groups_from k (ts ++ t ∷ []) ≡ more k t (groups_from k ts)
groups_more k [] t = same_either (goes_on t) _
groups_more k (u ∷ ts) t = elim (cases_Bool (goes_on u)) [
  | inl e ↦ rw e (ap (joined k u) (groups_more k ts t) ∙ front_goes_on k u (groups_from k ts) t e)
  | inr e ↦ rw e (ap (λ (gs : List Group). alone k u ∷ gs) (groups_more (suc k) ts t) ∙ front_ends k u (groups_from (suc k) ts) t e)
]

-- Deliveries are numbered in order, and all but the last one have ended.
abbrev pub Runs : ℕ → List Group → Type 0
Runs k [] = Unit {0}
Runs k (g ∷ []) = g.number ≡ k
Runs k (g ∷ h ∷ gs) = (g.number ≡ k) × (is_unfinished g ≡ false) × Runs (suc k) (h ∷ gs)

joined_runs : (k : ℕ) (u : Sent) (gs : List Group) → Runs k gs → Runs k (joined k u gs)
joined_runs k u [] r = refl
joined_runs k u (g ∷ []) r = refl
joined_runs k u (g ∷ h ∷ gs) r = (refl, r.1, r.2)

alone_runs : (k : ℕ) (u : Sent) (gs : List Group) → goes_on u ≡ false → Runs (suc k) gs → Runs k (alone k u ∷ gs)
alone_runs k u [] e r = refl
alone_runs k u (g ∷ gs) e r = (refl, e, r)

-- the groups of any transfers are numbered, and all but the last are finished
pub groups_run : (k : ℕ) (ts : List Sent) → Runs k (groups_from k ts)
groups_run k [] = tt
groups_run k (u ∷ ts) = elim (cases_Bool (goes_on u)) [
  | inl e ↦ rw e (joined_runs k u (groups_from k ts) (groups_run k ts))
  | inr e ↦ rw e (alone_runs k u (groups_from (suc k) ts) e (groups_run (suc k) ts))
]

-- so are those of a history
pub runs : (h : List LinkEvent) → Runs 0 (groups h)
runs h = groups_run 0 (transfers h)

unfinished_not_whole : (t : Sent) → goes_on t ≡ true → completes t ≡ false
unfinished_not_whole t e = two t.more t.aborted e
  where
    two : (m a : Bool) → m && not a ≡ true → not m && not a ≡ false
    two true a e = refl
    two false a e = absurd (grind (arith, e))

-- a choice in front of two lists joined
pub cons_append : {X : Type 0} (b : Bool) (x : X) (xs ys : List X) → cond b (x ∷ (xs ++ ys)) (xs ++ ys) ≡ cond b (x ∷ xs) xs ++ ys
cons_append true x xs ys = refl
cons_append false x xs ys = refl

-- what is selected of the deliveries with one transfer more
module _ (test : Group → Bool) (ended : (g : Group) → is_unfinished g ≡ true → test g ≡ false) where
  pub selected_more : (k : ℕ) (t : Sent) (gs : List Group) → Runs k gs → filter test (more k t gs) ≡ filter test gs ++ filter test (target (k + length gs) t (find is_unfinished gs) ∷ [])
  selected_more k t [] r = ap (λ (n : ℕ). filter test (alone n t ∷ [])) (omega arith)
  selected_more k t (g ∷ []) r = elim (cases_Bool (is_unfinished g)) [
    | inl e ↦ rw (e, ended g e) refl
    | inr e ↦ rw e (cons_append (test g) g [] (filter test (alone (suc k) t ∷ [])) ∙ ap (λ (n : ℕ). filter test (g ∷ []) ++ filter test (alone n t ∷ [])) (omega arith))
  ]
  selected_more k t (g ∷ h ∷ gs) r =
      let n : suc k + length (h ∷ gs) ≡ k + length (g ∷ h ∷ gs) = omega arith in
      rw (r.1, selected_more (suc k) t (h ∷ gs) r.2, n) (cons_append (test g) g (filter test (h ∷ gs)) _)

-- what one more transfer adds to the whole deliveries
pub wholes_more : (k : ℕ) (t : Sent) (gs : List Group) → Runs k gs → filter is_whole (more k t gs) ≡ filter is_whole gs ++ filter is_whole (target (k + length gs) t (find is_unfinished gs) ∷ [])
wholes_more = selected_more is_whole (λ g e. unfinished_not_whole (latest g) e)

-- the unfinished delivery behind one more transfer
pub find_more : (k : ℕ) (t : Sent) (gs : List Group) → Runs k gs → find is_unfinished (more k t gs) ≡ find is_unfinished (target (k + length gs) t (find is_unfinished gs) ∷ [])
find_more k t [] r = ap (λ (n : ℕ). find is_unfinished (alone n t ∷ [])) (omega arith)
find_more k t (g ∷ []) r = elim (cases_Bool (is_unfinished g)) [
  | inl e ↦ rw e refl
  | inr e ↦ rw e (rw e (ap (λ (n : ℕ). find is_unfinished (alone n t ∷ [])) (omega arith)))
]
find_more k t (g ∷ h ∷ gs) r =
    let n : suc k + length (h ∷ gs) ≡ k + length (g ∷ h ∷ gs) = omega arith in
    rw (r.1, find_more (suc k) t (h ∷ gs) r.2, n) refl

-- how many deliveries there are then
pub length_more : (k : ℕ) (t : Sent) (gs : List Group) → Runs k gs → length (more k t gs) ≡ length gs + one_if (is_none (find is_unfinished gs))
length_more k t [] r = refl
length_more k t (g ∷ []) r = elim (cases_Bool (is_unfinished g)) [ inl e ↦ rw e refl | inr e ↦ rw e refl ]
length_more k t (g ∷ h ∷ gs) r = rw r.1 (omega (arith, length_more (suc k) t (h ∷ gs) r.2))

-- a fact of each delivery, and of the one that a transfer belongs to
pub all_more : (P : Group → Type 0) (k : ℕ) (t : Sent) (gs : List Group) → Runs k gs → AllByRecursion P gs → P (target (k + length gs) t (find is_unfinished gs)) → AllByRecursion P (more k t gs)
all_more P k t [] r all p = let n : k + 0 ≡ k = omega arith in (subst (λ (n : ℕ). P (alone n t)) n p, tt)
all_more P k t (g ∷ []) r all p = elim (cases_Bool (is_unfinished g)) [
  | inl e ↦ rw e (rw e at p, tt)
  | inr e ↦ let n : k + 1 ≡ suc k = omega arith in rw e (all.0, (subst (λ (n : ℕ). P (alone n t)) n (rw e at p), tt))
]
all_more P k t (g ∷ h ∷ gs) r all p =
    let n : k + length (g ∷ h ∷ gs) ≡ suc k + length (h ∷ gs) = omega arith in
    (all.0, all_more P (suc k) t (h ∷ gs) r.2 all.1 (rw (r.1, n) at p))

last_more : (t : Sent) (us : List Sent) (u : Sent) → last_of t (us ++ u ∷ []) ≡ u
last_more t [] u = refl
last_more t (v ∷ us) u = last_more v us u

-- the transfer is the last of its delivery
pub latest_of_target : (k : ℕ) (t : Sent) (p : Option Group) → latest (target k t p) ≡ t
latest_of_target k t None = refl
latest_of_target k t (Some g) = last_more g.head g.behind t

-- the message of a delivery with one more transfer
pub message_more : (g : Group) (t : Sent) → message_of (grown g t) ≡ message_of g ++ adds t
message_more g t = flat_map-append adds (all_of g) (t ∷ []) ∙ ap (λ (w : List ℕ). message_of g ++ w) (append-nil (adds t))

-- whether a transfer after these is a head
abbrev pub starts_behind : Bool → List Sent → Bool
starts_behind starts [] = starts
starts_behind starts (t ∷ ts) = starts_behind (not (goes_on t)) ts

-- how many transfers begin a delivery, with one more
pub heads_more : (b : Bool) (ts : List Sent) (t : Sent) → heads_from b (ts ++ t ∷ []) ≡ heads_from b ts + one_if (starts_behind b ts)
heads_more b [] t = omega arith
heads_more b (u ∷ ts) t = omega (arith, heads_more (not (goes_on u)) ts t)

behind_more : (b : Bool) (ts : List Sent) (t : Sent) → starts_behind b (ts ++ t ∷ []) ≡ not (goes_on t)
behind_more b [] t = refl
behind_more b (u ∷ ts) t = behind_more (not (goes_on u)) ts t

found : (g : Group) → is_none (find is_unfinished (g ∷ [])) ≡ not (goes_on (latest g))
found g = elim (cases_Bool (is_unfinished g)) [ inl e ↦ rw e refl | inr e ↦ rw e refl ]

-- a transfer is a head exactly where no delivery is unfinished
pub starts_is : (h : List LinkEvent) → starts_behind true (transfers h) ≡ is_none (find is_unfinished (groups h))
starts_is [] = refl
starts_is (Transferred t ∷ h) =
    let gs = groups h in
    behind_more true (transfers h) t
    ∙ sym (ap (λ (gs : List Group). is_none (find is_unfinished gs)) (groups_more 0 (transfers h) t)
    ∙ ap is_none (find_more 0 t (groups h) (groups_run 0 (transfers h)))
    ∙ found (target (0 + length (groups h)) t (find is_unfinished (groups h)))
    ∙ ap (λ (u : Sent). not (goes_on u)) (latest_of_target (0 + length (groups h)) t (find is_unfinished (groups h))))
starts_is (e ∷ h) = starts_is h

-- a fact of a delivery, where there is one
abbrev pub IfAny : (Group → Type 0) → Option Group → Type 0
IfAny P None = Unit {0}
IfAny P (Some g) = P g

-- what holds of all groups holds of one that is found
pub all_found : (P : Group → Type 0) (test : Group → Bool) (gs : List Group) → AllByRecursion P gs → IfAny P (find test gs)
all_found P test [] all = tt
all_found P test (g ∷ gs) all = one (test g) (all_found P test gs all.1)
  where
    one : (b : Bool) → IfAny P (find test gs) → IfAny P (cond b (Some g) (find test gs))
    one true rest = all.0
    one false rest = rest
