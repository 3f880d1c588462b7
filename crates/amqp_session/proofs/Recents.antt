-- Which deliveries are open among those that stand in their places, and where an id is found.
use Rattle.std.proofs.Common.{arith, ◌≡◌, ℕ, zero, suc, ◌+◌, ◌<◌, ◌≤◌, ◌⊎◌, inl, inr, Bool, true, false, List, [], ◌∷◌, ◌++◌, length, refl, sym, ap, ◌∙◌, Option, Some, None, IsSome, subst}
use Rattle.std.specs.Prelude.{IfSome, slice_get, slice_set, option_to_list, is_some, is_none, nat_eq, cond, if◌then◌else◌, option_map}
use Rattle.std.specs.List.{cons_option}
use Rattle.std.specs.Ordering.{nat_cmp}
use Rattle.std.specs.BTreeMap.{is_at}
use Rattle.std.proofs.lemmas.Bool.{eqb-true, eqb-false, cases_lt, cases_order}
use Rattle.std.proofs.lemmas.Grind.{common_steps}
use Rattle.std.proofs.lemmas.Option.{slice_get_within}
use Rattle.amqp_session.specs.declared.index.Kept.{Kept}
use Rattle.amqp_session.specs.declared.index.Begun.{Begun}
use Rattle.amqp_session.specs.Indexes.{found, IsPut, IsNext}
use Rattle.amqp_session.specs.Recents.{open_of, has_id_at, is_closed_at, IsRising, AreBelow, AreFrom, IsPlaceOf, IsClosed, IsNotOpen}

-- An id among the entries. -----------------------------------------------------------------------------------------------

pub false_true : false ≡ true → ⊥
false_true e = cc

pub none_some : {X : Type 0} {x : X} → None ≡ Some x → ⊥
none_some e = cc

pub same_id : (q : ℕ) → is_at (nat_cmp q) q ≡ true
same_id q = grind (arith, common_steps)

pub at_id : (q id : ℕ) → is_at (nat_cmp q) id ≡ true → id ≡ q
at_id q id is = grind (arith, common_steps, is)

pub other_id : (q id : ℕ) → (id ≡ q → ⊥) → is_at (nat_cmp q) id ≡ false
other_id q id other = by (is_at (nat_cmp q) id) refl
  where
    by : (t : Bool) → is_at (nat_cmp q) id ≡ t → is_at (nat_cmp q) id ≡ false
    by true is = absurd (other (at_id q id is))
    by false is = is

-- one delivery before others, if it is open
abbrev put : ℕ → Option Kept → List (ℕ × Kept) → List (ℕ × Kept)
put id o rest = cons_option (option_map (λ (kept : Kept). (id, kept)) o) rest

past : (id : ℕ) (o : Option Kept) (rest : List (ℕ × Kept)) (q : ℕ) → (id ≡ q → ⊥) → found (put id o rest) q ≡ found rest q
past id None rest q other = refl
past id (Some y) rest q other = ap (λ (t : Bool). cond t (Some y) (found rest q)) (other_id q id other)

-- the one that is open under an id, in its place
abbrev pub IsOpenIn : List Begun → ℕ → Kept → Type 0
IsOpenIn bs q x = (i : ℕ) × (b : Begun) × (slice_get bs i ≡ Some b) × (b.id ≡ q) × (b.kept ≡ Some x)

pub open_found : (bs : List Begun) (q : ℕ) (x : Kept) → found (open_of bs) q ≡ Some x → IsOpenIn bs q x
open_found [] q x e = absurd (none_some e)
open_found (b ∷ bs) q x e = step b.kept refl e (λ f. open_found bs q x f)
  where
    there : IsOpenIn bs q x → IsOpenIn (b ∷ bs) q x
    there h = (suc h.0, h.1, h.2, h.3, h.4)

    here : (y : Kept) (t : Bool) → b.kept ≡ Some y → is_at (nat_cmp q) b.id ≡ t → cond t (Some y) (found (open_of bs) q) ≡ Some x → (found (open_of bs) q ≡ Some x → IsOpenIn bs q x) → IsOpenIn (b ∷ bs) q x
    here y true kept is e rest = (zero, b, refl, at_id q b.id is, kept ∙ e)
    here y false kept is e rest = there (rest e)

    step : (o : Option Kept) → b.kept ≡ o → found (put b.id o (open_of bs)) q ≡ Some x → (found (open_of bs) q ≡ Some x → IsOpenIn bs q x) → IsOpenIn (b ∷ bs) q x
    step None kept e rest = there (rest e)
    step (Some y) kept e rest = here y (is_at (nat_cmp q) b.id) kept refl e rest

-- Rising ids. ------------------------------------------------------------------------------------------------------------

pub rest_rising : (b : Begun) (bs : List Begun) → IsRising (b ∷ bs) → IsRising bs
rest_rising b bs rising = λ i j c d l x y. rising (suc i) (suc j) c d (omega (arith, l)) x y

pub found_open : (bs : List Begun) → IsRising bs → (i : ℕ) (b : Begun) (x : Kept) → slice_get bs i ≡ Some b → b.kept ≡ Some x → found (open_of bs) b.id ≡ Some x
found_open [] rising i b x at kept = absurd (none_some at)
found_open (c ∷ bs) rising zero b x at kept =
    let same : c ≡ b = grind (arith, at) in
    ap (λ (d : Begun). found (put d.id d.kept (open_of bs)) b.id) same
    ∙ ap (λ (o : Option Kept). found (put b.id o (open_of bs)) b.id) kept
    ∙ ap (λ (t : Bool). cond t (Some x) (found (open_of bs) b.id)) (same_id b.id)
found_open (c ∷ bs) rising (suc i) b x at kept =
    let less = rising 0 (suc i) c b (omega (arith)) refl at in
    past c.id c.kept (open_of bs) b.id (λ e. absurd (omega (arith, e, less))) ∙ found_open bs (rest_rising c bs rising) i b x at kept

pub none_found : (bs : List Begun) (q : ℕ) → ((i : ℕ) (b : Begun) → slice_get bs i ≡ Some b → b.id ≡ q → b.kept ≡ None) → found (open_of bs) q ≡ None
none_found bs q none = by (found (open_of bs) q) refl
  where
    by : (o : Option Kept) → found (open_of bs) q ≡ o → found (open_of bs) q ≡ None
    by None e = e
    by (Some x) e = let h = open_found bs q x e in absurd (none_some (sym (none h.0 h.1 h.2 h.3) ∙ h.4))

-- two places that have the same id are one
pub one_place : (bs : List Begun) → IsRising bs → (i j : ℕ) (a b : Begun) → slice_get bs i ≡ Some a → slice_get bs j ≡ Some b → a.id ≡ b.id → i ≡ j
one_place bs rising i j a b x y same = by (cases_order i j)
  where
    by : (i ≡ j) ⊎ ((i < j) ⊎ (j < i)) → i ≡ j
    by (inl e) = e
    by (inr (inl l)) = absurd (let less = rising i j a b l x y in omega (arith, less, same))
    by (inr (inr l)) = absurd (let less = rising j i b a l y x in omega (arith, less, same))

-- what stands at one place
pub one_there : (bs : List Begun) (i j : ℕ) (a b : Begun) → slice_get bs i ≡ Some a → slice_get bs j ≡ Some b → i ≡ j → a ≡ b
one_there bs i j a b x y same = let both : Some a ≡ Some b = sym x ∙ ap (slice_get bs) same ∙ y in grind (arith, both)

-- Where an id stands. ----------------------------------------------------------------------------------------------------

-- what is open there under an id
abbrev pub kept_at : ℕ → Option Begun → Option Kept
kept_at id None = None
kept_at id (Some b) = if nat_eq b.id id then b.kept else None

past_end : (bs : List Begun) (p : ℕ) → slice_get bs p ≡ None → length bs ≤ p
past_end [] p at = omega (arith)
past_end (b ∷ bs) zero at = absurd (none_some (sym at))
past_end (b ∷ bs) (suc p) at = let rest = past_end bs p at in omega (arith, rest)

-- what is open under the id that stands at a place
open_there : (bs : List Begun) → IsRising bs → (id p : ℕ) (b : Begun) → slice_get bs p ≡ Some b → b.id ≡ id → (o : Option Kept) → b.kept ≡ o → found (open_of bs) id ≡ o
open_there bs rising id p b at same None kept =
    none_found bs id (λ i c x e. ap (λ (d : Begun). d.kept) (one_there bs i p c b x at (one_place bs rising i p c b x at (e ∙ sym same))) ∙ kept)
open_there bs rising id p b at same (Some x) kept = ap (found (open_of bs)) (sym same) ∙ found_open bs rising p b x at kept

pub some_there : (bs : List Begun) → IsRising bs → (id p : ℕ) (b : Begun) → slice_get bs p ≡ Some b → b.id ≡ id → IfSome b.kept (λ kept. found (open_of bs) id ≡ Some kept)
some_there bs rising id p b at same = by b.kept refl
  where
    by : (o : Option Kept) → b.kept ≡ o → IfSome o (λ kept. found (open_of bs) id ≡ Some kept)
    by None is = tt
    by (Some x) is = open_there bs rising id p b at same (Some x) is

pub looked : (bs : List Begun) → IsRising bs → (id p : ℕ) → IsPlaceOf id bs p → (o : Option Begun) → slice_get bs p ≡ o → found (open_of bs) id ≡ kept_at id o
looked bs rising id p place None at = none_found bs id (λ i b x e. absurd (by i b x e (cases_lt i p)))
  where
    by : (i : ℕ) (b : Begun) → slice_get bs i ≡ Some b → b.id ≡ id → (i < p) ⊎ (p ≤ i) → ⊥
    by i b x e (inl l) = absurd (let less = place.1 i b l x in omega (arith, less, e))
    by i b x e (inr l) = absurd (let within = slice_get_within bs i b x in omega (arith, within, l, past_end bs p at))
looked bs rising id p place (Some b) at = by (nat_eq b.id id) refl
  where
    by : (t : Bool) → nat_eq b.id id ≡ t → found (open_of bs) id ≡ (if t then b.kept else None)
    by true is = open_there bs rising id p b at (eqb-true b.id id is) b.kept refl
    by false is = none_found bs id (λ i c x e. absurd (other i c x e (cases_order i p)))
      where
        from : id ≤ b.id
        from = place.2 p b (omega (arith)) at

        other : (i : ℕ) (c : Begun) → slice_get bs i ≡ Some c → c.id ≡ id → (i ≡ p) ⊎ ((i < p) ⊎ (p < i)) → ⊥
        other i c x e (inl l) = eqb-false b.id id is (sym (ap (λ (d : Begun). d.id) (one_there bs i p c b x at l)) ∙ e)
        other i c x e (inr (inl l)) = absurd (let less = place.1 i c l x in omega (arith, less, e))
        other i c x e (inr (inr l)) = absurd (let less = rising p i b c l at x in omega (arith, less, e, from))

-- where what stands at a place has the id, it is its place
pub place_here : (bs : List Begun) → IsRising bs → (id p : ℕ) (b : Begun) → slice_get bs p ≡ Some b → b.id ≡ id → IsPlaceOf id bs p
place_here bs rising id p b at same = (
  let within = slice_get_within bs p b at in omega (arith, within),
  λ i c l x. let less = rising i p c b l x at in omega (arith, less, same),
  λ i c l x. from i c x (cases_order p i) l,
)
  where
    from : (i : ℕ) (c : Begun) → slice_get bs i ≡ Some c → (p ≡ i) ⊎ ((p < i) ⊎ (i < p)) → p ≤ i → id ≤ c.id
    from i c x (inl e) l = let alike = ap (λ (d : Begun). d.id) (one_there bs p i b c at x e) in omega (arith, alike, same)
    from i c x (inr (inl m)) l = let less = rising p i b c m at x in omega (arith, less, same)
    from i c x (inr (inr m)) l = absurd (omega (arith, m, l))

-- where it is guessed
pub guessed : (bs : List Begun) → IsRising bs → (id p : ℕ) → has_id_at id (slice_get bs p) ≡ true → IsPlaceOf id bs p
guessed bs rising id p has = by (slice_get bs p) refl has
  where
    by : (o : Option Begun) → slice_get bs p ≡ o → has_id_at id o ≡ true → IsPlaceOf id bs p
    by None at has = absurd (false_true has)
    by (Some b) at has = place_here bs rising id p b at (eqb-true b.id id has)

-- behind all where all are below
pub behind_all : (bs : List Begun) (id : ℕ) → AreBelow id (length bs) bs → IsPlaceOf id bs (length bs)
behind_all bs id below = (omega (arith), below, λ i b l at. absurd (let within = slice_get_within bs i b at in omega (arith, within, l)))

-- The next one. ----------------------------------------------------------------------------------------------------------

-- before this place none is open whose id is not less than the first
abbrev pub NoneBefore : ℕ → ℕ → List Begun → Type 0
NoneBefore from place bs = (i : ℕ) (b : Begun) → i < place → slice_get bs i ≡ Some b → from ≤ b.id → b.kept ≡ None

-- nor at it
pub none_here : (from p : ℕ) (bs : List Begun) (b : Begun) → NoneBefore from p bs → slice_get bs p ≡ Some b → b.kept ≡ None → NoneBefore from (p + 1) bs
none_here from p bs b none at closed i c l x m = by (cases_order i p)
  where
    by : (i ≡ p) ⊎ ((i < p) ⊎ (p < i)) → c.kept ≡ None
    by (inl e) = ap (λ (d : Begun). d.kept) (one_there bs i p c b x at e) ∙ closed
    by (inr (inl m')) = none i c m' x m
    by (inr (inr m')) = absurd (omega (arith, l, m'))

pub from_next : (from p : ℕ) (bs : List Begun) → AreFrom from p bs → AreFrom from (p + 1) bs
from_next from p bs all i b l at = all i b (omega (arith, l)) at

-- the ids from here on are greater than all that are asked for
pub none_left : (bs : List Begun) → IsRising bs → (from last p : ℕ) (b : Begun) → slice_get bs p ≡ Some b → last < b.id → NoneBefore from p bs → (q : ℕ) → from ≤ q → q ≤ last → found (open_of bs) q ≡ None
none_left bs rising from last p b at past none q l m = none_found bs q (λ i c x e. by i c x e (cases_order i p))
  where
    by : (i : ℕ) (c : Begun) → slice_get bs i ≡ Some c → c.id ≡ q → (i ≡ p) ⊎ ((i < p) ⊎ (p < i)) → c.kept ≡ None
    by i c x e (inl s) = absurd (let alike = ap (λ (d : Begun). d.id) (one_there bs i p c b x at s) in omega (arith, alike, e, m, past))
    by i c x e (inr (inl s)) = none i c s x (omega (arith, l, e))
    by i c x e (inr (inr s)) = absurd (let less = rising p i b c s at x in omega (arith, less, e, m, past))

-- none is left
pub none_behind : (bs : List Begun) (from p : ℕ) → slice_get bs p ≡ None → NoneBefore from p bs → (q : ℕ) → from ≤ q → found (open_of bs) q ≡ None
none_behind bs from p at none q l = none_found bs q (λ i c x e. none i c (let within = slice_get_within bs i c x in omega (arith, within, past_end bs p at)) x (omega (arith, l, e)))

-- the first open one from there on
pub next_here : (bs : List Begun) → IsRising bs → (from last p : ℕ) (b : Begun) (x : Kept) → slice_get bs p ≡ Some b → b.kept ≡ Some x → b.id ≤ last → AreFrom from p bs → NoneBefore from p bs → IsNext (open_of bs) from last (Some (b.id, x))
next_here bs rising from last p b x at kept within all none = (all p b (omega (arith)) at, within, found_open bs rising p b x at kept, λ q l m. none_found bs q (λ i c y e. by q l m i c y e (cases_order i p)))
  where
    by : (q : ℕ) → from ≤ q → q < b.id → (i : ℕ) (c : Begun) → slice_get bs i ≡ Some c → c.id ≡ q → (i ≡ p) ⊎ ((i < p) ⊎ (p < i)) → c.kept ≡ None
    by q l m i c y e (inl s) = absurd (let alike = ap (λ (d : Begun). d.id) (one_there bs i p c b y at s) in omega (arith, alike, e, m))
    by q l m i c y e (inr (inl s)) = none i c s y (omega (arith, l, e))
    by q l m i c y e (inr (inr s)) = absurd (let less = rising p i b c s at y in omega (arith, less, e, m))

-- One closes. ------------------------------------------------------------------------------------------------------------

set_here : (bs : List Begun) (p : ℕ) (v : Begun) → p < length bs → slice_get (slice_set bs p v) p ≡ Some v
set_here [] p v l = absurd (omega (arith, l))
set_here (b ∷ bs) zero v l = refl
set_here (b ∷ bs) (suc p) v l = set_here bs p v (omega (arith, l))

set_there : (bs : List Begun) (p : ℕ) (v : Begun) (i : ℕ) → (i ≡ p → ⊥) → slice_get (slice_set bs p v) i ≡ slice_get bs i
set_there [] p v i other = refl
set_there (b ∷ bs) zero v zero other = absurd (other refl)
set_there (b ∷ bs) zero v (suc i) other = refl
set_there (b ∷ bs) (suc p) v zero other = refl
set_there (b ∷ bs) (suc p) v (suc i) other = set_there bs p v i (λ e. other (ap suc e))

-- what is open in one is in the other, under one id
pub carried : (old new : List Begun) → IsRising new → (q : ℕ) → ((i : ℕ) (b : Begun) → slice_get old i ≡ Some b → b.id ≡ q → slice_get new i ≡ Some b) →
    ((i : ℕ) (b : Begun) → slice_get new i ≡ Some b → b.id ≡ q → slice_get old i ≡ Some b) → IsRising old → found (open_of new) q ≡ found (open_of old) q
carried old new rising q there back was = by (found (open_of old) q) refl
  where
    lost : (o : Option Kept) → found (open_of old) q ≡ None → found (open_of new) q ≡ o → found (open_of new) q ≡ None
    lost None none e = e
    lost (Some x) none e =
        let h = open_found new q x e in
        absurd (none_some (sym none ∙ ap (found (open_of old)) (sym h.3) ∙ found_open old was h.0 h.1 x (back h.0 h.1 h.2 h.3) h.4))

    by : (o : Option Kept) → found (open_of old) q ≡ o → found (open_of new) q ≡ o
    by None e = lost (found (open_of new) q) e refl
    by (Some x) e = let h = open_found old q x e in ap (found (open_of new)) (sym h.3) ∙ found_open new rising h.0 h.1 x (there h.0 h.1 h.2 h.3) h.4

-- the ids stay
pub closed_rising : (old new : List Begun) (place id : ℕ) → IsRising old → IsClosed old new place id → IsRising new
closed_rising old new place id rising h i j a b l x y = let less = rising i j (was i a x).0 (was j b y).0 l (was i a x).1 (was j b y).1 in omega (arith, less, (was i a x).2, (was j b y).2)
  where
    was : (i : ℕ) (a : Begun) → slice_get new i ≡ Some a → (c : Begun) × (slice_get old i ≡ Some c) × (c.id ≡ a.id)
    was i a x = by (cases_order i place)
      where
        by : (i ≡ place) ⊎ ((i < place) ⊎ (place < i)) → (c : Begun) × (slice_get old i ≡ Some c) × (c.id ≡ a.id)
        by (inl e) =
            let set : Some (record h.0 { kept = None }) ≡ Some a = sym (set_here old place (record h.0 { kept = None }) (slice_get_within old place h.0 h.1)) ∙ ap (λ (bs : List Begun). slice_get bs place) (sym h.4) ∙ ap (slice_get new) (sym e) ∙ x in
            let alike : record h.0 { kept = None } ≡ a = grind (arith, set) in (h.0, ap (slice_get old) e ∙ h.1, ap (λ (d : Begun). d.id) alike)
        by (inr (inl m)) = (a, sym (set_there old place (record h.0 { kept = None }) i (λ e. absurd (omega (arith, e, m)))) ∙ ap (λ (bs : List Begun). slice_get bs i) (sym h.4) ∙ x, refl)
        by (inr (inr m)) = (a, sym (set_there old place (record h.0 { kept = None }) i (λ e. absurd (omega (arith, e, m)))) ∙ ap (λ (bs : List Begun). slice_get bs i) (sym h.4) ∙ x, refl)

pub closed_put : (old new : List Begun) (place id : ℕ) → IsRising old → IsClosed old new place id → IsPut (open_of old) (open_of new) id None
closed_put old new place id rising h q = by (nat_eq id q) refl
  where
    now : IsRising new
    now = closed_rising old new place id rising h

    shut : slice_get new place ≡ Some (record h.0 { kept = None })
    shut = ap (λ (bs : List Begun). slice_get bs place) h.4 ∙ set_here old place (record h.0 { kept = None }) (slice_get_within old place h.0 h.1)

    kept : (i : ℕ) → (i ≡ place → ⊥) → slice_get new i ≡ slice_get old i
    kept i other = ap (λ (bs : List Begun). slice_get bs i) h.4 ∙ set_there old place (record h.0 { kept = None }) i other

    by : (t : Bool) → nat_eq id q ≡ t → found (open_of new) q ≡ (if t then None else found (open_of old) q)
    by true is = open_there new now q place (record h.0 { kept = None }) shut (h.2 ∙ eqb-true id q is) None refl
    by false is =
        carried old new now q
        (λ i b x e. kept i (λ s. eqb-false id q is (sym h.2 ∙ ap (λ (d : Begun). d.id) (one_there old place i h.0 b h.1 x (sym s)) ∙ e)) ∙ x)
        (λ i b x e. sym (kept i (λ s. eqb-false id q is (sym h.2 ∙ ap (λ (d : Begun). d.id) (one_there new place i (record h.0 { kept = None }) b shut x (sym s)) ∙ e))) ∙ x)
        rising

pub closed_was : (old new : List Begun) (place id : ℕ) → IsRising old → IsClosed old new place id → is_some (found (open_of old) id) ≡ true
closed_was old new place id rising h = by h.0.kept refl h.3
  where
    by : (o : Option Kept) → h.0.kept ≡ o → IsSome o → is_some (found (open_of old) id) ≡ true
    by None kept some = absurd (false_true some)
    by (Some x) kept some = ap is_some (open_there old rising id place h.0 h.1 h.2 (Some x) kept)

-- nothing is open under an id where its place says so
pub not_open : (bs : List Begun) → IsRising bs → (id p : ℕ) → IsPlaceOf id bs p → IsNotOpen bs p id → found (open_of bs) id ≡ None
not_open bs rising id p place none = looked bs rising id p place (slice_get bs p) refl ∙ by (slice_get bs p) refl
  where
    by : (o : Option Begun) → slice_get bs p ≡ o → kept_at id o ≡ None
    by None at = refl
    by (Some b) at = choose (nat_eq b.id id) refl
      where
        choose : (t : Bool) → nat_eq b.id id ≡ t → (if t then b.kept else None) ≡ None
        choose true is = none b at (eqb-true b.id id is)
        choose false is = refl

-- where none is open under an id, nothing is to be taken out
pub nothing_put : (entries : List (ℕ × Kept)) (id : ℕ) → found entries id ≡ None → IsPut entries entries id None
nothing_put entries id none q = by (nat_eq id q) refl
  where
    by : (t : Bool) → nat_eq id q ≡ t → found entries q ≡ (if t then None else found entries q)
    by true is = ap (found entries) (sym (eqb-true id q is)) ∙ none
    by false is = refl

-- One begins, or places are given back. -------------------------------------------------------------------------------------

-- what is found in two lists
abbrev pub or_else : Option Kept → Option Kept → Option Kept
or_else None o = o
or_else (Some x) o = Some x

pub found_joined : (ds bs : List (ℕ × Kept)) (q : ℕ) → found (ds ++ bs) q ≡ or_else (found ds q) (found bs q)
found_joined [] bs q = refl
found_joined (e ∷ ds) bs q = by (is_at (nat_cmp q) e.0) (found_joined ds bs q)
  where
    by : (t : Bool) → found (ds ++ bs) q ≡ or_else (found ds q) (found bs q) → cond t (Some e.1) (found (ds ++ bs) q) ≡ or_else (cond t (Some e.1) (found ds q)) (found bs q)
    by true rest = refl
    by false rest = rest

open_joined : (ds bs : List Begun) → open_of (ds ++ bs) ≡ open_of ds ++ open_of bs
open_joined [] bs = refl
open_joined (a ∷ ds) bs = by a.kept (open_joined ds bs)
  where
    by : (o : Option Kept) → open_of (ds ++ bs) ≡ open_of ds ++ open_of bs → put a.id o (open_of (ds ++ bs)) ≡ put a.id o (open_of ds) ++ open_of bs
    by None rest = rest
    by (Some x) rest = ap (λ (es : List (ℕ × Kept)). (a.id, x) ∷ es) rest

-- one more, under an id that was not there
pub one_more : (entries : List (ℕ × Kept)) (id : ℕ) (x : Kept) → found entries id ≡ None → IsPut entries (entries ++ (id, x) ∷ []) id (Some x)
one_more entries id x none q = found_joined entries ((id, x) ∷ []) q ∙ by (nat_eq id q) refl
  where
    clear : (o : Option Kept) → or_else o None ≡ o
    clear None = refl
    clear (Some y) = refl

    by : (t : Bool) → nat_eq id q ≡ t → or_else (found entries q) (found ((id, x) ∷ []) q) ≡ (if t then Some x else found entries q)
    by true is =
        ap (λ (n : ℕ). or_else (found entries n) (found ((id, x) ∷ []) n)) (sym (eqb-true id q is))
        ∙ ap (λ (o : Option Kept). or_else o (found ((id, x) ∷ []) id)) none
        ∙ ap (λ (t : Bool). cond t (Some x) None) (same_id id)
    by false is = ap (λ (t : Bool). or_else (found entries q) (cond t (Some x) None)) (other_id q id (eqb-false id q is)) ∙ clear (found entries q)

pub pushed : (bs : List Begun) (id : ℕ) (x : Kept) (v : Begun) → AreBelow id (length bs) bs → v.id ≡ id → v.kept ≡ Some x → IsPut (open_of bs) (open_of (bs ++ v ∷ [])) id (Some x)
pushed bs id x v below is kept q =
    ap (λ (es : List (ℕ × Kept)). found es q) (open_joined bs (v ∷ []) ∙ ap (λ (o : Option Kept). open_of bs ++ put v.id o []) kept ∙ ap (λ (n : ℕ). open_of bs ++ (n, x) ∷ []) is)
    ∙ one_more (open_of bs) id x (none_found bs id (λ i b at e. absurd (let less = below i b (slice_get_within bs i b at) at in omega (arith, less, e)))) q

-- a first place that is given back
pub shorter_rising : (old new : List Begun) (o : Option Begun) → old ≡ option_to_list o ++ new → IsRising old → IsRising new
shorter_rising old new None e rising = subst IsRising e rising
shorter_rising old new (Some b) e rising = rest_rising b new (subst IsRising e rising)

-- which was closed
pub shorter_open : (old new : List Begun) (o : Option Begun) → old ≡ option_to_list o ++ new → is_closed_at (slice_get old 0) ≡ true → open_of new ≡ open_of old
shorter_open old new None e closed = ap open_of (sym e)
shorter_open old new (Some b) e closed = by b.kept refl (ap (λ (bs : List Begun). is_closed_at (slice_get bs 0)) (sym e) ∙ closed) ∙ ap open_of (sym e)
  where
    by : (o : Option Kept) → b.kept ≡ o → is_none b.kept ≡ true → open_of new ≡ open_of (b ∷ new)
    by None kept shut = ap (λ (o : Option Kept). put b.id o (open_of new)) (sym kept)
    by (Some x) kept shut = absurd (false_true (ap is_none (sym kept) ∙ shut))
