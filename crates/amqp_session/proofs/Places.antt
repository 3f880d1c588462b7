-- A table of places, event by event: its states stay those of its lives.
use Rattle.std.proofs.Common.{arith, add-mul, ◌≡◌, ℕ, zero, suc, ◌+◌, ◌*◌, ◌<◌, ◌≤◌, subst, Bool, true, false, List, [], ◌∷◌, length, refl, sym, ap, ◌∙◌, Some, None}
use Rattle.std.specs.Prelude.{nat_eq, slice_get, sum_by, if◌then◌else◌}
use Rattle.std.proofs.lemmas.Bool.{eqb-true}
use Rattle.std.proofs.lemmas.List.Sums.{sum_by-cons}
use Rattle.amqp_session.specs.declared.slot.Slot.{Slot}
use Rattle.amqp_session.specs.declared.slot.Slot.TheVariants.{Free, Live, Waits}
use Rattle.amqp_session.specs.Places.{Happens, Nothing, Begins, GoesOn, AllGoOn, Leaves, Gone, AllGone, Life, slot_map, IfLive, slot_after, places_from, places_after, lived_on, life_after}
use Rattle.amqp_session.specs.Places.{tabulate, life_state, states, places_may, AreSound}

-- Tables of functions. -----------------------------------------------------------------------------------------------

tabulate_same : {A : Type 0} (k n : ℕ) (f g : ℕ → A) → ((j : ℕ) → j < k + n → f j ≡ g j) → tabulate k n f ≡ tabulate k n g
tabulate_same k zero f g same = refl
tabulate_same {A} k (suc n) f g same =
    let rest = tabulate_same (suc k) n f g (λ j l. same j (omega (arith, l))) in
    ap (λ (a : A). a ∷ tabulate (suc k) n f) (same k (omega arith)) ∙ ap (λ (rest : List A). g k ∷ rest) rest

-- a table has so many places
pub tabulate_long : {A : Type 0} (k n : ℕ) (f : ℕ → A) → length (tabulate k n f) ≡ n
tabulate_long k zero f = refl
tabulate_long k (suc n) f = ap suc (tabulate_long (suc k) n f)

-- nothing stands beyond them
pub none_above : {A : Type 0} (k n : ℕ) (f : ℕ → A) (i : ℕ) → n ≤ i → slice_get (tabulate k n f) i ≡ None
none_above k zero f i l = refl
none_above k (suc n) f zero l = absurd (omega (arith, l))
none_above k (suc n) f (suc i) l = none_above (suc k) n f i (omega (arith, l))

-- two sums over tables are one, where each place gives the same
pub sums_same : {S T : Type 0} (p : S → ℕ) (q : T → ℕ) (f : ℕ → S) (g : ℕ → T) → ((k : ℕ) → p (f k) ≡ q (g k)) → (k n : ℕ) → sum_by p (tabulate k n f) ≡ sum_by q (tabulate k n g)
sums_same p q f g same k zero = refl
sums_same p q f g same k (suc n) =
    omega (arith, sum_by-cons p (f k) (tabulate (suc k) n f), sum_by-cons q (g k) (tabulate (suc k) n g), same k, sums_same p q f g same (suc k) n)

-- a sum is at most so many times another, where each place is
pub sums_within : {S : Type 0} (p q : S → ℕ) (most : ℕ) (f : ℕ → S) (k n : ℕ) → ((j : ℕ) → j < k + n → p (f j) ≤ q (f j) * most) → sum_by p (tabulate k n f) ≤ sum_by q (tabulate k n f) * most
sums_within p q most f k zero each = omega arith
sums_within p q most f k (suc n) each =
    let rest = tabulate (suc k) n f in
    let here = each k (omega arith) in
    let later = sums_within p q most f (suc k) n (λ j l. each j (omega (arith, l))) in
    let product : sum_by q (f k ∷ rest) * most ≡ (q (f k) + sum_by q rest) * most = ap (λ (n : ℕ). n * most) (sum_by-cons q (f k) rest) in
    omega (arith, here, later, sum_by-cons p (f k) rest, product, add-mul (q (f k)) (sum_by q rest) most)

-- what stands at a place of a table is the function's value there, and the place is in the table
got_from : {A : Type 0} (k n : ℕ) (f : ℕ → A) (i : ℕ) (a : A) → slice_get (tabulate k n f) i ≡ Some a → (i < n) × (f (k + i) ≡ a)
got_from k zero f i a e = absurd (grind (arith, e))
got_from {A} k (suc n) f zero a e =
    let here : f k ≡ a = grind (arith, e) in
    let z : k ≡ k + 0 = omega arith in (omega arith, subst (λ (j : ℕ). f j ≡ a) z here)
got_from {A} k (suc n) f (suc i) a e =
    let r = got_from (suc k) n f i a e in
    let z : suc k + i ≡ k + suc i = omega arith in (omega (arith, r.0), subst (λ (j : ℕ). f j ≡ a) z r.1)

-- what is found in a table of values stands there
pub got : {A : Type 0} (n : ℕ) (f : ℕ → A) (i : ℕ) (a : A) → slice_get (tabulate 0 n f) i ≡ Some a → (i < n) × (f i ≡ a)
got {A} n f i a e =
    let r = got_from 0 n f i a e in
    let z : 0 + i ≡ i = omega arith in (r.0, subst (λ (j : ℕ). f j ≡ a) z r.1)

-- each place of the table stands in it
get_from : {A : Type 0} (k n : ℕ) (f : ℕ → A) (i : ℕ) → i < n → slice_get (tabulate k n f) i ≡ Some (f (k + i))
get_from k zero f i l = absurd (omega (arith, l))
get_from {A} k (suc n) f zero l =
    let z : k ≡ k + 0 = omega arith in ap (λ (j : ℕ). Some (f j)) z
get_from {A} k (suc n) f (suc i) l =
    let z : suc k + i ≡ k + suc i = omega arith in get_from (suc k) n f i (omega (arith, l)) ∙ ap (λ (j : ℕ). Some (f j)) z

-- each place within has its value
pub get_at : {A : Type 0} (n : ℕ) (f : ℕ → A) (i : ℕ) → i < n → slice_get (tabulate 0 n f) i ≡ Some (f i)
get_at {A} n f i l =
    let z : 0 + i ≡ i = omega arith in get_from 0 n f i l ∙ ap (λ (j : ℕ). Some (f j)) z

-- an event goes to each place of a table by itself
each_place : {B E T : Type 0} (start : B → T) (next : T → E → T) (k n : ℕ) (x : Happens B E) (f : ℕ → Slot T) →
    places_from start next k x (tabulate k n f) ≡ tabulate k n (λ j. slot_after start next j x (f j))
each_place start next k zero x f = refl
each_place {T} start next k (suc n) x f = ap (λ (rest : List (Slot T)). slot_after start next k x (f k) ∷ rest) (each_place start next (suc k) n x f)

-- One step. ----------------------------------------------------------------------------------------------------------

module _ {B E T : Type 0} (start : B → T) (next : T → E → T) (state : B → List E → T) (Begin : B → Type 0) (May : T → E → Type 0) (Sound : B → List E → Type 0) where
  -- of a life that begins: its state is that of no event, and it is sound
  abbrev pub LifeBegins : Type 0
  LifeBegins = (b : B) → Begin b → (start b ≡ state b []) × Sound b []

  -- of a life that goes on: its state is that of one event more, and it stays sound
  abbrev pub LifeGoesOn : Type 0
  LifeGoesOn = (b : B) (h : List E) (e : E) → Sound b h → May (state b h) e → (next (state b h) e ≡ state b (e ∷ h)) × Sound b (e ∷ h)

  abbrev SoundSlot : Slot (Life B E) → Type 0
  SoundSlot l = IfLive (λ (life : Life B E). Sound life.0 life.1) l

  -- what one step owes at one place
  abbrev Steps : Slot T → Slot (Life B E) → Type 0
  Steps s l = (s ≡ life_state state l) × SoundSlot l

  -- what goes on at one place
  going : LifeGoesOn → (e : E) (l : Slot (Life B E)) → SoundSlot l → IfLive (λ t. May t e) (life_state state l) →
      Steps (slot_map (λ t. next t e) (life_state state l)) (slot_map (λ life. lived_on life e) l)
  going step e Free sound may = (refl, tt)
  going step e (Live life) sound may =
      let one = step life.0 life.1 e sound may in (ap (λ (t : T). Live t) one.0, one.1)
  going step e Waits sound may = (refl, tt)

  -- one of two, by a test
  either : (b : Bool) (s t : Slot T) (l m : Slot (Life B E)) → (b ≡ true → Steps s l) → Steps t m → Steps (if b then s else t) (if b then l else m)
  either true s t l m hit miss = hit refl
  either false s t l m hit miss = miss

  live_only : (e : E) (s : Slot T) (t : T) → s ≡ Live t → May t e → IfLive (λ u. May u e) s
  live_only e s t same may = subst (λ (u : Slot T). IfLive (λ v. May v e) u) (sym same) may

  one_place : (n : ℕ) (lives : ℕ → Slot (Life B E)) (x : Happens B E) → LifeBegins → LifeGoesOn → AreSound Sound n lives → places_may Begin May (states state n lives) x → (k : ℕ) → k < n →
      Steps (slot_after start next k x (life_state state (lives k))) (life_after k x (lives k))
  one_place n lives Nothing begins step sound may k l = (refl, sound k l)
  one_place n lives (Begins place b) begins step sound may k l =
      either (nat_eq place k) _ _ _ _ (λ e. (ap (λ (t : T). Live t) (begins b may.1).0, (begins b may.1).1)) (refl, sound k l)
  one_place n lives (GoesOn place e) begins step sound may k l =
      either (nat_eq place k) _ _ _ _ (λ same. here (eqb-true place k same)) (refl, sound k l)
    where
      here : place ≡ k → Steps (slot_map (λ t. next t e) (life_state state (lives k))) (slot_map (λ life. lived_on life e) (lives k))
      here same =
          let at_place = (got n (λ j. life_state state (lives j)) place (Live may.0) may.1).1 in
          going step e (lives k) (sound k l) (live_only e (life_state state (lives k)) may.0 (subst (λ (j : ℕ). life_state state (lives j) ≡ Live may.0) same at_place) may.2)
  one_place n lives (AllGoOn e) begins step sound may k l = going step e (lives k) (sound k l) (all (lives k) refl)
    where
      all : (s : Slot (Life B E)) → lives k ≡ s → IfLive (λ t. May t e) (life_state state s)
      all Free same = tt
      all (Live life) same = may k (state life.0 life.1) (get_at n (λ j. life_state state (lives j)) k l ∙ ap (λ (s : Slot (Life B E)). Some (life_state state s)) same)
      all Waits same = tt
  one_place n lives (Leaves place) begins step sound may k l = either (nat_eq place k) _ _ _ _ (λ e. (refl, tt)) (refl, sound k l)
  one_place n lives (Gone place) begins step sound may k l = either (nat_eq place k) _ _ _ _ (λ e. (refl, tt)) (refl, sound k l)
  one_place n lives AllGone begins step sound may k l = (refl, tt)

  -- The table after an accepted event has the states of the lives after it, and they are sound.
  pub places_step : (n : ℕ) (lives : ℕ → Slot (Life B E)) (x : Happens B E) → LifeBegins → LifeGoesOn → AreSound Sound n lives → places_may Begin May (states state n lives) x →
      (places_after start next (states state n lives) x ≡ states state n (λ k. life_after k x (lives k))) × AreSound Sound n (λ k. life_after k x (lives k))
  places_step n lives x begins step sound may =
      let each = one_place n lives x begins step sound may in (
        each_place start next 0 n x (λ k. life_state state (lives k)) ∙ tabulate_same 0 n _ _ (λ j l. (each j (omega (arith, l))).0),
        λ k l. (each k l).1,
      )
