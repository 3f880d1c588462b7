-- The open deliveries of a link are those of its history that a test selects.
use Rattle.std.proofs.Common.{arith, ◌≡◌, ℕ, zero, suc, ◌+◌, ◌-◌, ◌<◌, ◌≤◌, inl, inr, Bool, true, false, not, ◌&&◌, ◌||◌, cond, List, [], ◌∷◌, ◌++◌, length, map, filter, take}
use Rattle.std.proofs.Common.{drop, refl, sym, ap, ◌∙◌, subst, ne_eqb, Option, Some}
use Rattle.std.proofs.Math.Seq.{take-nil, drop-nil}
use Rattle.std.specs.Prelude.{find, option_map, option_to_list, nat_eq, nat_lt, sum_by}
use Rattle.std.specs.List.{AllByRecursion, list_any}
use Rattle.std.proofs.Math.Bool.{or-false}
use Rattle.std.proofs.lemmas.Bool.{cases_Bool, lt-ltb, eq-eqb, and_left, and_right, or_from, or_left}
use Rattle.std.proofs.lemmas.List.{length-append, length-map}
use Rattle.std.proofs.lemmas.List.Sums.{sum_by-cons}
use Rattle.amqp_link.specs.declared.terms.Terms.{Terms}
use Rattle.amqp_link.specs.Links.{Sent, goes_on, completes, Delivery, deliveries, delivery_bytes, open_count, link_bytes, LinkEvent}
use Rattle.amqp_link.specs.Histories.{Group, groups, latest, is_aborted, is_whole, is_unfinished, takes, handed_up_groups, has_number, passes, is_handed_up, one_if, is_settled}
use Rattle.amqp_link.specs.Histories.{is_open, shown, shown_awaiting, kept, kept_bytes, state_of}
use Rattle.amqp_link.proofs.Groups.{Runs, runs, IfAny}

-- the first of numbered groups has the first number
pub runs_head : (k : ℕ) (g : Group) (gs : List Group) → Runs k (g ∷ gs) → g.number ≡ k
runs_head k g [] r = r
runs_head k g (h ∷ gs) r = r.0

-- the others are numbered from the next one on
pub runs_rest : (k : ℕ) (g : Group) (gs : List Group) → Runs k (g ∷ gs) → Runs (suc k) gs
runs_rest k g [] r = tt
runs_rest k g (h ∷ gs) r = r.2

-- A delivery has ended one way, or not. -------------------------------------------------------------------

-- how the last transfer leaves its delivery
pub data Way (t : Sent) : Type 0 where
  Given_up : t.aborted ≡ true → completes t ≡ false → goes_on t ≡ false → Way t
  Whole : t.aborted ≡ false → completes t ≡ true → goes_on t ≡ false → Way t
  Unfinished : t.aborted ≡ false → completes t ≡ false → goes_on t ≡ true → Way t

-- the three ways that a transfer can leave its delivery
pub way_of : (t : Sent) → Way t
way_of t = elim (cases_Bool t.aborted) [
  | inl a ↦ elim (cases_Bool t.more) [ inl m ↦ Given_up a (rw (a, m) refl) (rw (a, m) refl) | inr m ↦ Given_up a (rw (a, m) refl) (rw (a, m) refl) ]
  | inr a ↦ elim (cases_Bool t.more) [ inl m ↦ Unfinished a (rw (a, m) refl) (rw (a, m) refl) | inr m ↦ Whole a (rw (a, m) refl) (rw (a, m) refl) ]
]

-- a test of the delivery with a number before these fails
none_below : (test : Group → Bool) (k number : ℕ) (gs : List Group) → Runs k gs → number < k → list_any (λ g. nat_eq g.number number && test g) gs ≡ false
none_below test k number [] r l = refl
none_below test k number (g ∷ gs) r l =
    let other : g.number ≡ number → ⊥ = λ e. omega (arith, runs_head k g gs r, l, e) in
    or_from _ _ (and_left _ _ (ne_eqb g.number number other)) (none_below test (suc k) number gs (runs_rest k g gs r) (omega (arith, l)))

-- The first whole deliveries. -----------------------------------------------------------------------------

-- no delivery before these is among them
absent : (k m number : ℕ) (gs : List Group) → Runs k gs → number < k → has_number (take m (filter is_whole gs)) number ≡ false
absent k m number [] r l = ap (λ (gs : List Group). has_number gs number) (take-nil m)
absent k m number (g ∷ gs) r l = elim (cases_Bool (is_whole g)) [
  | inl e ↦ rw e (front (λ n. absent (suc k) n number gs (runs_rest k g gs r) (omega (arith, l))) m)
  | inr e ↦ rw e (absent (suc k) m number gs (runs_rest k g gs r) (omega (arith, l)))
]
  where
    front : ((n : ℕ) → has_number (take n (filter is_whole gs)) number ≡ false) → (m : ℕ) → has_number (take m (g ∷ filter is_whole gs)) number ≡ false
    front behind zero = refl
    front behind (suc m) =
        let other : g.number ≡ number → ⊥ = λ e. omega (arith, runs_head k g gs r, l, e) in
        or_from _ _ (ne_eqb g.number number other) (behind m)

-- the test holds of the first m whole deliveries, and of no other
abbrev pub Picks : (Group → Bool) → ℕ → List Group → Type 0
Picks test m [] = Unit {0}
Picks test m (g ∷ gs) = (test g ≡ (is_whole g && nat_lt 0 m)) × Picks test (m - one_if (is_whole g)) gs

-- the others, behind one that is not whole, or is
less : (test : Group → Bool) (m : ℕ) (g : Group) (gs : List Group) → is_whole g ≡ false → Picks test m (g ∷ gs) → Picks test m gs
less test m g gs e p = subst (λ (n : ℕ). Picks test n gs) (same e) p.1
  where
    same : is_whole g ≡ false → m - one_if (is_whole g) ≡ m
    same e = rw e (omega arith)

one_less : (test : Group → Bool) (m : ℕ) (g : Group) (gs : List Group) → is_whole g ≡ true → Picks test (suc m) (g ∷ gs) → (test g ≡ true) × Picks test m gs
one_less test m g gs e p = ((rw e at p.0) ∙ lt-ltb 0 (suc m) (omega arith), subst (λ (n : ℕ). Picks test n gs) (same e) p.1)
  where
    same : is_whole g ≡ true → suc m - one_if (is_whole g) ≡ m
    same e = rw e (omega arith)

none_left : (test : Group → Bool) (g : Group) (gs : List Group) → is_whole g ≡ true → Picks test 0 (g ∷ gs) → (test g ≡ false) × Picks test 0 gs
none_left test g gs e p = (rw e at p.0, subst (λ (n : ℕ). Picks test n gs) (same e) p.1)
  where
    same : is_whole g ≡ true → 0 - one_if (is_whole g) ≡ 0
    same e = rw e refl

picked_front : (k m : ℕ) (g : Group) (gs : List Group) → Runs k (g ∷ gs) → has_number (take m (filter is_whole (g ∷ gs))) g.number ≡ (is_whole g && nat_lt 0 m)
picked_front k m g gs r = elim (cases_Bool (is_whole g)) [
  | inl e ↦ rw e (front m)
  | inr e ↦ rw e (absent (suc k) m g.number gs (runs_rest k g gs r) (omega (arith, runs_head k g gs r)))
]
  where
    front : (m : ℕ) → has_number (take m (g ∷ filter is_whole gs)) g.number ≡ nat_lt 0 m
    front zero = refl
    front (suc m) = or_left _ _ (eq-eqb g.number g.number refl) ∙ sym (lt-ltb 0 (suc m) (omega arith))

picked_behind : (k m number : ℕ) (g : Group) (gs : List Group) → Runs k (g ∷ gs) → suc k ≤ number →
    has_number (take m (filter is_whole (g ∷ gs))) number ≡ has_number (take (m - one_if (is_whole g)) (filter is_whole gs)) number
picked_behind k m number g gs r l = elim (cases_Bool (is_whole g)) [
  | inl e ↦ rw e (front m)
  | inr e ↦ rw e (ap (λ (n : ℕ). has_number (take n (filter is_whole gs)) number) (omega arith))
]
  where
    front : (m : ℕ) → has_number (take m (g ∷ filter is_whole gs)) number ≡ has_number (take (m - 1) (filter is_whole gs)) number
    front zero = refl
    front (suc m) =
        let other : g.number ≡ number → ⊥ = λ e. omega (arith, runs_head k g gs r, l, e) in
        let less : m ≡ suc m - 1 = omega arith in
        ap (λ (b : Bool). b || has_number (take m (filter is_whole gs)) number) (ne_eqb g.number number other)
        ∙ ap (λ (n : ℕ). has_number (take n (filter is_whole gs)) number) less

-- the selection by numbers is a front of the whole groups
pub picks : (all : ℕ → Bool) (k m : ℕ) (gs : List Group) → Runs k gs → ((number : ℕ) → k ≤ number → all number ≡ has_number (take m (filter is_whole gs)) number) → Picks (λ g. all g.number) m gs
picks all k m [] r same = tt
picks all k m (g ∷ gs) r same = (
  same g.number (omega (arith, runs_head k g gs r)) ∙ picked_front k m g gs r,
  picks all (suc k) (m - one_if (is_whole g)) gs (runs_rest k g gs r) (λ number l. same number (omega (arith, l)) ∙ picked_behind k m number g gs r l),
)

-- Those that are open, in link order. -----------------------------------------------------------------------

module _ (settled taken : Group → Bool) (view bare keep : Group → Delivery) (kept_bare : (g : Group) → taken g ≡ true → keep g ≡ bare g)
    (kept_whole : (g : Group) → taken g ≡ false → keep g ≡ view g) where
  -- the open ones of these, of which m were handed up
  abbrev opens : List Group → List Delivery
  opens gs = map keep (filter (λ g. not (is_aborted g) && not (taken g && settled g)) gs)

  abbrev stand : ℕ → List Group → Option Group → List Delivery
  stand m ws p = map bare (filter (λ g. not (settled g)) (take m ws)) ++ map view (drop m ws) ++ option_to_list (option_map view p)

  one_gone : (g : Group) (gs : List Group) → taken g ≡ true → settled g ≡ true → opens (g ∷ gs) ≡ opens gs
  one_gone g gs t s = rw (t, s, same_gone (not (is_aborted g))) refl
    where
      same_gone : (b : Bool) → (b && false) ≡ false
      same_gone true = refl
      same_gone false = refl

  one_bare : (g : Group) (gs : List Group) → is_aborted g ≡ false → taken g ≡ true → settled g ≡ false → opens (g ∷ gs) ≡ bare g ∷ opens gs
  one_bare g gs a t s = rw (a, t, s) (ap (λ (d : Delivery). d ∷ opens gs) (kept_bare g t))

  one_whole : (g : Group) (gs : List Group) → is_aborted g ≡ false → taken g ≡ false → opens (g ∷ gs) ≡ view g ∷ opens gs
  one_whole g gs a t = rw (a, t) (ap (λ (d : Delivery). d ∷ opens gs) (kept_whole g t))

  one_given_up : (g : Group) (gs : List Group) → is_aborted g ≡ true → opens (g ∷ gs) ≡ opens gs
  one_given_up g gs a = rw a refl

  stand_gone : (m : ℕ) (g : Group) (ws : List Group) (p : Option Group) → settled g ≡ true → stand (suc m) (g ∷ ws) p ≡ stand m ws p
  stand_gone m g ws p s = rw s refl

  stand_bare : (m : ℕ) (g : Group) (ws : List Group) (p : Option Group) → settled g ≡ false → stand (suc m) (g ∷ ws) p ≡ bare g ∷ stand m ws p
  stand_bare m g ws p s = rw s refl

  -- a whole delivery in front
  whole_in_front : (m : ℕ) (g : Group) (gs : List Group) (p : Option Group) → is_aborted g ≡ false → is_whole g ≡ true → Picks taken m (g ∷ gs) →
      ((n : ℕ) → Picks taken n gs → opens gs ≡ stand n (filter is_whole gs) p) → opens (g ∷ gs) ≡ stand m (g ∷ filter is_whole gs) p
  whole_in_front zero g gs p a c picked behind =
      let rest = none_left taken g gs c picked in
      one_whole g gs a rest.0 ∙ ap (λ (ds : List Delivery). view g ∷ ds) (behind zero rest.1)
  whole_in_front (suc m) g gs p a c picked behind =
      let rest = one_less taken m g gs c picked in
      elim (cases_Bool (settled g)) [
        | inl s ↦ one_gone g gs rest.0 s ∙ behind m rest.1 ∙ sym (stand_gone m g (filter is_whole gs) p s)
        | inr s ↦ one_bare g gs a rest.0 s ∙ ap (λ (ds : List Delivery). bare g ∷ ds) (behind m rest.1) ∙ sym (stand_bare m g (filter is_whole gs) p s)
      ]

  -- one that is unfinished is the last
  unfinished_last : (k m : ℕ) (g : Group) (gs : List Group) → is_aborted g ≡ false → is_whole g ≡ false → is_unfinished g ≡ true → Runs k (g ∷ gs) → Picks taken m (g ∷ gs) →
      opens (g ∷ gs) ≡ stand m (filter is_whole gs) (Some g)
  unfinished_last k m g [] a c u r picked =
      let fresh : taken g ≡ false = rw c at picked.0 in
      rw (take-nil m, drop-nil m) (one_whole g [] a fresh)
  unfinished_last k m g (h ∷ gs) a c u r picked = absurd (grind (arith, r.1, u))

  selected : (k m : ℕ) (gs : List Group) → Runs k gs → Picks taken m gs → opens gs ≡ stand m (filter is_whole gs) (find is_unfinished gs)
  selected k m [] r p = rw (take-nil m, drop-nil m) refl
  selected k m (g ∷ gs) r p = elim (way_of (latest g)) [
    | Given_up a c u ↦ rw (c, u) (one_given_up g gs a ∙ selected (suc k) m gs (runs_rest k g gs r) (less taken m g gs c p))
    | Whole a c u ↦ rw (c, u) (whole_in_front m g gs (find is_unfinished gs) a c p (λ n q. selected (suc k) n gs (runs_rest k g gs r) q))
    | Unfinished a c u ↦ rw (c, u) (unfinished_last k m g gs a c u r p)
  ]

-- those of them that were handed up
module _ (settled taken : Group → Bool) where
  abbrev picked_opens : List Group → List Group
  picked_opens gs = filter (λ g. not (is_aborted g) && not (taken g && settled g) && taken g) gs

  picked_here : (g : Group) (gs : List Group) → is_aborted g ≡ false → taken g ≡ true → picked_opens (g ∷ gs) ≡ cond (not (settled g)) (g ∷ picked_opens gs) (picked_opens gs)
  picked_here g gs a t = elim (cases_Bool (settled g)) [ inl s ↦ rw (a, t, s) refl | inr s ↦ rw (a, t, s) refl ]

  not_picked : (g : Group) (gs : List Group) → taken g ≡ false → picked_opens (g ∷ gs) ≡ picked_opens gs
  not_picked g gs t = ap (λ (b : Bool). cond b (g ∷ picked_opens gs) (picked_opens gs)) (and_right (not (is_aborted g) && not (taken g && settled g)) (taken g) t)

  picked_front_open : (m : ℕ) (g : Group) (gs : List Group) → is_aborted g ≡ false → is_whole g ≡ true → Picks taken m (g ∷ gs) →
      ((n : ℕ) → Picks taken n gs → filter (λ g. not (settled g)) (take n (filter is_whole gs)) ≡ picked_opens gs) →
      filter (λ g. not (settled g)) (take m (g ∷ filter is_whole gs)) ≡ picked_opens (g ∷ gs)
  picked_front_open zero g gs a c p behind =
      let rest = none_left taken g gs c p in
      behind zero rest.1 ∙ sym (not_picked g gs rest.0)
  picked_front_open (suc m) g gs a c p behind =
      let rest = one_less taken m g gs c p in
      ap (λ (xs : List Group). cond (not (settled g)) (g ∷ xs) xs) (behind m rest.1) ∙ sym (picked_here g gs a rest.0)

  pub opens_picked : (m : ℕ) (gs : List Group) → Picks taken m gs → filter (λ g. not (settled g)) (take m (filter is_whole gs)) ≡ picked_opens gs
  opens_picked m [] p = ap (filter (λ g. not (settled g))) (take-nil m)
  opens_picked m (g ∷ gs) p = elim (way_of (latest g)) [
    | Given_up a c u ↦ rw c (opens_picked m gs (less taken m g gs c p) ∙ sym (not_picked g gs (rw c at p.0)))
    | Whole a c u ↦ rw c (picked_front_open m g gs a c p (λ n q. opens_picked n gs q))
    | Unfinished a c u ↦ rw c (opens_picked m gs (less taken m g gs c p) ∙ sym (not_picked g gs (rw c at p.0)))
  ]

-- the deliveries that were handed up are the first of the whole ones
pub taken_picked : (h : List LinkEvent) → Picks (is_handed_up h) (takes h) (groups h)
taken_picked h = picks (has_number (handed_up_groups h)) 0 (takes h) (groups h) (runs h) (λ number l. refl)

-- the open deliveries are those of the history that it says are open, as it shows them
pub deliveries_selected : (terms : Terms) (h : List LinkEvent) → deliveries (state_of terms h) ≡ map (kept terms h) (filter (is_open terms h) (groups h))
deliveries_selected terms h = sym (selected (is_settled terms h) (is_handed_up h) (shown terms h) (shown_awaiting terms h) (kept terms h) (λ g e. rw e refl) (λ g e. rw e refl) 0
    (takes h) (groups h) (runs h) (taken_picked h))

-- How many, and how many bytes. ------------------------------------------------------------------------------

three : (xs ys zs : List Delivery) → length (xs ++ ys ++ zs) ≡ length xs + length ys + length zs
three xs ys zs = omega (arith, length-append (xs ++ ys) zs, length-append xs ys)

-- so is their number
pub count_selected : (terms : Terms) (h : List LinkEvent) → open_count (state_of terms h) ≡ length (filter (is_open terms h) (groups h))
count_selected terms h =
    let s = state_of terms h in
    sym (three s.awaiting s.ready (option_to_list s.unfinished)) ∙ ap length (deliveries_selected terms h) ∙ length-map _ _

bytes_kept : (terms : Terms) (h : List LinkEvent) (g : Group) → delivery_bytes (kept terms h g) ≡ kept_bytes h g
bytes_kept terms h g = elim (cases_Bool (is_handed_up h g)) [ inl e ↦ rw e refl | inr e ↦ rw e refl ]

sum_kept : (terms : Terms) (h : List LinkEvent) (gs : List Group) → sum_by delivery_bytes (map (kept terms h) gs) ≡ sum_by (kept_bytes h) gs
sum_kept terms h [] = refl
sum_kept terms h (g ∷ gs) = omega (arith, sum_by-cons delivery_bytes (kept terms h g) (map (kept terms h) gs), sum_by-cons (kept_bytes h) g gs, bytes_kept terms h g, sum_kept terms h gs)

-- and their bytes
pub bytes_selected : (terms : Terms) (h : List LinkEvent) → link_bytes (state_of terms h) ≡ sum_by (kept_bytes h) (filter (is_open terms h) (groups h))
bytes_selected terms h = ap (sum_by delivery_bytes) (deliveries_selected terms h) ∙ sum_kept terms h (filter (is_open terms h) (groups h))

-- What is known of each, by where it stands. ---------------------------------------------------------------------------------

-- A test of the delivery with a number is one of that delivery: no two have one number.
pub passes_here : (any : (Group → Bool) → ℕ → Bool) (k : ℕ) (gs : List Group) → Runs k gs →
    ((test : Group → Bool) (number : ℕ) → k ≤ number → any test number ≡ list_any (λ g. nat_eq g.number number && test g) gs) →
    AllByRecursion (λ g. (test : Group → Bool) → any test g.number ≡ test g) gs
passes_here any k [] r same = tt
passes_here any k (g ∷ gs) r same = (
  λ test. same test g.number (omega (arith, runs_head k g gs r))
      ∙ ap (λ (b : Bool). (b && test g) || list_any (λ x. nat_eq x.number g.number && test x) gs) (eq-eqb g.number g.number refl)
      ∙ ap (λ (b : Bool). test g || b) (none_below test (suc k) g.number gs (runs_rest k g gs r) (omega (arith, runs_head k g gs r)))
      ∙ or-false (test g),
  passes_here any (suc k) gs (runs_rest k g gs r) (λ test number l. same test number (omega (arith, l))
      ∙ ap (λ (b : Bool). (b && test g) || list_any (λ x. nat_eq x.number number && test x) gs) (ne_eqb g.number number (λ e. omega (arith, runs_head k g gs r, l, e)))),
)

-- each group of a history is found by its own number
pub all_pass : (h : List LinkEvent) → AllByRecursion (λ g. (test : Group → Bool) → passes test g.number h ≡ test g) (groups h)
all_pass h = passes_here (λ test number. passes test number h) 0 (groups h) (runs h) (λ test number l. refl)

-- a fact of each delivery, of one that was not given up, and was handed up or not
abbrev pub Stands : (P : Group → Type 0) (taken : Group → Bool) → Bool → Group → Type 0
Stands P taken b g = P g × (taken g ≡ b) × (is_aborted g ≡ false)

module _ (P : Group → Type 0) (taken : Group → Bool) where
  taken_front : (m : ℕ) (g : Group) (gs : List Group) → is_aborted g ≡ false → is_whole g ≡ true → P g → Picks taken m (g ∷ gs) →
      ((n : ℕ) → Picks taken n gs → AllByRecursion (Stands P taken true) (take n (filter is_whole gs))) → AllByRecursion (Stands P taken true) (take m (g ∷ filter is_whole gs))
  taken_front zero g gs a c here p behind = tt
  taken_front (suc m) g gs a c here p behind =
      let rest = one_less taken m g gs c p in
      ((here, rest.0, a), behind m rest.1)

  pub takens_stand : (m : ℕ) (gs : List Group) → Picks taken m gs → AllByRecursion P gs → AllByRecursion (Stands P taken true) (take m (filter is_whole gs))
  takens_stand m [] p all = rw (take-nil m) tt
  takens_stand m (g ∷ gs) p all = elim (way_of (latest g)) [
    | Given_up a c u ↦ rw c (takens_stand m gs (less taken m g gs c p) all.1)
    | Whole a c u ↦ rw c (taken_front m g gs a c all.0 p (λ n q. takens_stand n gs q all.1))
    | Unfinished a c u ↦ rw c (takens_stand m gs (less taken m g gs c p) all.1)
  ]

  ready_front : (m : ℕ) (g : Group) (gs : List Group) → is_aborted g ≡ false → is_whole g ≡ true → P g → Picks taken m (g ∷ gs) →
      ((n : ℕ) → Picks taken n gs → AllByRecursion (Stands P taken false) (drop n (filter is_whole gs))) → AllByRecursion (Stands P taken false) (drop m (g ∷ filter is_whole gs))
  ready_front zero g gs a c here p behind =
      let rest = none_left taken g gs c p in
      ((here, rest.0, a), behind zero rest.1)
  ready_front (suc m) g gs a c here p behind = behind m (one_less taken m g gs c p).1

  pub readies_stand : (m : ℕ) (gs : List Group) → Picks taken m gs → AllByRecursion P gs → AllByRecursion (Stands P taken false) (drop m (filter is_whole gs))
  readies_stand m [] p all = rw (drop-nil m) tt
  readies_stand m (g ∷ gs) p all = elim (way_of (latest g)) [
    | Given_up a c u ↦ rw c (readies_stand m gs (less taken m g gs c p) all.1)
    | Whole a c u ↦ rw c (ready_front m g gs a c all.0 p (λ n q. readies_stand n gs q all.1))
    | Unfinished a c u ↦ rw c (readies_stand m gs (less taken m g gs c p) all.1)
  ]

  pub part_stands : (m : ℕ) (gs : List Group) → Picks taken m gs → AllByRecursion P gs → IfAny (Stands P taken false) (find is_unfinished gs)
  part_stands m [] p all = tt
  part_stands m (g ∷ gs) p all = elim (way_of (latest g)) [
    | Given_up a c u ↦ rw u (part_stands (m - one_if (is_whole g)) gs p.1 all.1)
    | Whole a c u ↦ rw u (part_stands (m - one_if (is_whole g)) gs p.1 all.1)
    | Unfinished a c u ↦ rw u (all.0, rw c at p.0, a)
  ]
