-- A table of places whose last ones are free and were never reached.
use Rattle.std.proofs.Common.{arith, ◌≡◌, ℕ, zero, suc, ◌<◌, ◌≤◌, Bool, false, ◌||◌, List, [], ◌∷◌, ◌++◌, length, map, refl, ap, ◌∙◌, Some, take, drop, get_or}
use Rattle.std.specs.Prelude.{slice_get, slice_set, unwrap_or, sum_by}
use Rattle.std.specs.List.{list_any}
use Rattle.std.proofs.lemmas.List.Sums.{sum_by-cons}
use Rattle.amqp_session.specs.declared.slot.Slot.{Slot}
use Rattle.amqp_session.specs.declared.slot.Slot.TheVariants.{Free, Live, Waits}
use Rattle.amqp_session.specs.Places.{Happens, Nothing, Begins, GoesOn, AllGoOn, Leaves, Gone, slot_map, places_from, tabulate}
use Rattle.amqp_link.specs.Links.{LinkEvent}
use Rattle.amqp_session.specs.Sessions.{Attached, LiveLink, live_begins, live_after}
use Rattle.amqp_session.specs.Calls.{slot_standing, or_later, standing_in}
use Rattle.amqp_session.specs.Slots.{padded}
use Rattle.amqp_session.proofs.Tables as table

-- What stands in it. -----------------------------------------------------------------------------------------------------------

-- what stands at a handle of a table filled up with free ones
pub padded_get : (n : ℕ) (slots : List (Slot LiveLink)) (i : ℕ) → length slots ≤ n → unwrap_or (slice_get (padded n slots) i) Free ≡ unwrap_or (slice_get slots i) Free
padded_get zero [] i l = refl
padded_get zero (s ∷ slots) i l = absurd (omega (arith, l))
padded_get (suc n) [] zero l = refl
padded_get (suc n) [] (suc i) l = padded_get n [] i (omega arith)
padded_get (suc n) (s ∷ slots) zero l = refl
padded_get (suc n) (s ∷ slots) (suc i) l = padded_get n slots i (omega (arith, l))

-- such a table has all handles
pub padded_long : (n : ℕ) (slots : List (Slot LiveLink)) → length (padded n slots) ≡ n
padded_long zero slots = refl
padded_long (suc n) [] = ap suc (padded_long n [])
padded_long (suc n) (s ∷ slots) = ap suc (padded_long n slots)

-- a sum over it is one over the table
pub padded_sum : (f : Slot LiveLink → ℕ) (n : ℕ) (slots : List (Slot LiveLink)) → f Free ≡ 0 → length slots ≤ n → sum_by f (padded n slots) ≡ sum_by f slots
padded_sum f zero [] free l = refl
padded_sum f zero (s ∷ slots) free l = absurd (omega (arith, l))
padded_sum f (suc n) [] free l = omega (arith, sum_by-cons f Free (padded n []), free, padded_sum f n [] free (omega arith))
padded_sum f (suc n) (s ∷ slots) free l = omega (arith, sum_by-cons f s (padded n slots), sum_by-cons f s slots, padded_sum f n slots free (omega (arith, l)))

-- so is a test of any
pub padded_any : (p : Slot LiveLink → Bool) (n : ℕ) (slots : List (Slot LiveLink)) → p Free ≡ false → length slots ≤ n → list_any p (padded n slots) ≡ list_any p slots
padded_any p zero [] free l = refl
padded_any p zero (s ∷ slots) free l = absurd (omega (arith, l))
padded_any p (suc n) [] free l = ap (λ (b : Bool). b || list_any p (padded n [])) free ∙ padded_any p n [] free (omega arith)
padded_any p (suc n) (s ∷ slots) free l = ap (λ (b : Bool). p s || b) (padded_any p n slots free (omega (arith, l)))

-- and the standing of an id
pub padded_standing : (id n : ℕ) (slots : List (Slot LiveLink)) → length slots ≤ n → standing_in id (padded n slots) ≡ standing_in id slots
padded_standing id zero [] l = refl
padded_standing id zero (s ∷ slots) l = absurd (omega (arith, l))
padded_standing id (suc n) [] l = padded_standing id n [] (omega arith)
padded_standing id (suc n) (s ∷ slots) l = ap (or_later (slot_standing id s)) (padded_standing id n slots (omega (arith, l)))

-- a free place more makes no difference
pub padded_push : (n : ℕ) (slots : List (Slot LiveLink)) → padded n (slots ++ Free ∷ []) ≡ padded n slots
padded_push zero slots = refl
padded_push (suc n) [] = refl
padded_push (suc n) (s ∷ slots) = ap (λ (rest : List (Slot LiveLink)). s ∷ rest) (padded_push n slots)

-- nothing was reached
pub padded_none : (k n : ℕ) → padded n [] ≡ tabulate k n (λ j. Free)
padded_none k zero = refl
padded_none k (suc n) = ap (λ (rest : List (Slot LiveLink)). Free ∷ rest) (padded_none (suc k) n)

-- what stands at a place that was reached stands in it
pub padded_there : (n : ℕ) (slots : List (Slot LiveLink)) (i : ℕ) (s : Slot LiveLink) → slice_get slots i ≡ Some s → length slots ≤ n → slice_get (padded n slots) i ≡ Some s
padded_there n [] i s e most = absurd (grind (arith, e))
padded_there zero (t ∷ slots) i s e most = absurd (omega (arith, most))
padded_there (suc n) (t ∷ slots) zero s e most = e
padded_there (suc n) (t ∷ slots) (suc i) s e most = padded_there n slots i s e (omega (arith, most))

-- and is put there anew
pub padded_set : (n : ℕ) (slots : List (Slot LiveLink)) (i : ℕ) (s new : Slot LiveLink) → slice_get slots i ≡ Some s → length slots ≤ n →
    slice_set (padded n slots) i new ≡ padded n (slice_set slots i new)
padded_set n [] i s new e most = absurd (grind (arith, e))
padded_set zero (t ∷ slots) i s new e most = absurd (omega (arith, most))
padded_set (suc n) (t ∷ slots) zero s new e most = refl
padded_set (suc n) (t ∷ slots) (suc i) s new e most = ap (λ (rest : List (Slot LiveLink)). t ∷ rest) (padded_set n slots i s new e (omega (arith, most)))

-- What an event makes of it. -----------------------------------------------------------------------------------------------------

abbrev Table : Type 0
Table = List (Slot LiveLink)

-- what an event makes of a table whose first handle is this
abbrev pub From : ℕ → Happens Attached LinkEvent → List (Slot LiveLink) → List (Slot LiveLink)
From k x slots = places_from live_begins live_after k x slots

-- nothing happens at any place
pub none_after : (slots : List (Slot LiveLink)) → From 0 Nothing slots ≡ slots
none_after slots = table.none_after live_begins live_after slots

-- an attach at a place of it
pub begins_at : (n : ℕ) (slots : List (Slot LiveLink)) (i : ℕ) (a : Attached) (s : Slot LiveLink) → slice_get slots i ≡ Some s → length slots ≤ n →
    From 0 (Begins i a) (padded n slots) ≡ padded n (slice_set slots i (Live (live_begins a)))
begins_at n slots i a s e most =
    table.begins_at live_begins live_after (padded n slots) i a s (padded_there n slots i s e most) ∙ padded_set n slots i s (Live (live_begins a)) e most

-- an event of the link at a place
pub goes_on_at : (n : ℕ) (slots : List (Slot LiveLink)) (i : ℕ) (e : LinkEvent) (s : Slot LiveLink) → slice_get slots i ≡ Some s → length slots ≤ n →
    From 0 (GoesOn i e) (padded n slots) ≡ padded n (slice_set slots i (slot_map (λ l. live_after l e) s))
goes_on_at n slots i e s at most =
    table.goes_on_at live_begins live_after (padded n slots) i e s (padded_there n slots i s at most) ∙ padded_set n slots i s (slot_map (λ l. live_after l e) s) at most

-- a detach of this side
pub leaves_at : (n : ℕ) (slots : List (Slot LiveLink)) (i : ℕ) (s : Slot LiveLink) → slice_get slots i ≡ Some s → length slots ≤ n →
    From 0 (Leaves i) (padded n slots) ≡ padded n (slice_set slots i Waits)
leaves_at n slots i s e most = table.leaves_at live_begins live_after (padded n slots) i s (padded_there n slots i s e most) ∙ padded_set n slots i s Waits e most

-- one of the peer
pub gone_at : (n : ℕ) (slots : List (Slot LiveLink)) (i : ℕ) (s : Slot LiveLink) → slice_get slots i ≡ Some s → length slots ≤ n → From 0 (Gone i) (padded n slots) ≡ padded n (slice_set slots i Free)
gone_at n slots i s e most = table.gone_at live_begins live_after (padded n slots) i s (padded_there n slots i s e most) ∙ padded_set n slots i s Free e most

-- every live link goes on
all_from : (k n : ℕ) (e : LinkEvent) (slots : Table) → From k (AllGoOn e) (padded n slots) ≡ padded n (map (slot_map (λ l. live_after l e)) slots)
all_from k zero e slots = refl
all_from k (suc n) e [] = ap (λ (rest : Table). Free ∷ rest) (all_from (suc k) n e [])
all_from k (suc n) e (s ∷ slots) = ap (λ (rest : Table). slot_map (λ l. live_after l e) s ∷ rest) (all_from (suc k) n e slots)

-- an event of all links
pub all_after : (n : ℕ) (e : LinkEvent) (slots : List (Slot LiveLink)) → From 0 (AllGoOn e) (padded n slots) ≡ padded n (map (slot_map (λ l. live_after l e)) slots)
all_after n e slots = all_from 0 n e slots

-- in a loop over all places, what is reached next is as it was
pub still : {X : Type 0} (f : X → X) (xs ys : List X) (i : ℕ) (x : X) → i < length xs → ys ≡ map f (take i xs) ++ drop i xs → x ≡ get_or ys i x → x ≡ get_or xs i x
still {X} f xs ys i x l e at = by_part xs i l (at ∙ ap (λ (zs : List X). get_or zs i x) e)
  where
    by_part : (xs : List X) (i : ℕ) → i < length xs → x ≡ get_or (map f (take i xs) ++ drop i xs) i x → x ≡ get_or xs i x
    by_part [] i l e = absurd (omega (arith, l))
    by_part (y ∷ xs) zero l e = e
    by_part (y ∷ xs) (suc i) l e = by_part xs i (omega (arith, l)) e
