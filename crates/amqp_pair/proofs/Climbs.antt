-- What is on its way, in plain numbers.
use Rattle.std.proofs.Common.{◌≡◌, ℕ, ◌+◌, ◌-◌, ◌%◌, ◌^◌, ◌<◌, ◌≤◌, Bool, true, false, cond, ltb, List, [], ◌∷◌, ◌++◌, Option, None, refl, ◌∙◌, ap, arith}
use Rattle.amqp_pair.specs.World.{Flow, Frame, First, Later, Told, ahead, grown, IsDeliveryBegun, Walk, Climb}

pub walk_le : (q : List Frame) (part : Option (List ℕ)) (c n k : ℕ) (last : Option (List ℕ)) (cs ns ks : ℕ) → Walk q part c n k last cs ns ks → (c ≤ cs) × (n ≤ ns) × (k ≤ ks)
walk_le [] part c n k last cs ns ks w = (omega (arith, w.1), omega (arith, w.2), omega (arith, w.3))
walk_le (First id p m ∷ q) part c n k last cs ns ks w = let r = walk_le q (grown None p m) (c + 1) (n + 1) (k + 1) last cs ns ks w.2 in (omega (arith, r.0), omega (arith, r.1), omega (arith, r.2))
walk_le (Later p m ∷ q) part c n k last cs ns ks w = let r = walk_le q (grown part p m) c (n + 1) k last cs ns ks w.1 in (r.0, omega (arith, r.1), r.2)
walk_le (Told count next ∷ q) part c n k last cs ns ks w = let r = walk_le q part w.0 n k last cs ns ks w.4 in (omega (arith, r.0, w.3), r.1, r.2)

pub walk_first : (q : List Frame) (part : Option (List ℕ)) (c n k : ℕ) (last : Option (List ℕ)) (cs ns ks : ℕ) (id : ℕ) (p : List ℕ) (m : Bool) → last ≡ None → id ≡ ks % 2 ^ 32 → Walk q part c n k last cs ns ks → Walk (q ++ First id p m ∷ []) part c n k (grown None p m) (cs + 1) (ns + 1) (ks + 1)
walk_first [] part c n k last cs ns ks id p m e f w = (w.0 ∙ e, omega (arith, f, w.3), (refl, omega (arith, w.1), omega (arith, w.2), omega (arith, w.3)))
walk_first (First i pl mo ∷ q) part c n k last cs ns ks id p m e f w = (w.0, w.1, walk_first q (grown None pl mo) (c + 1) (n + 1) (k + 1) last cs ns ks id p m e f w.2)
walk_first (Later pl mo ∷ q) part c n k last cs ns ks id p m e f w = (w.0, walk_first q (grown part pl mo) c (n + 1) k last cs ns ks id p m e f w.1)
walk_first (Told a b ∷ q) part c n k last cs ns ks id p m e f w = (w.0, w.1, w.2, w.3, walk_first q part w.0 n k last cs ns ks id p m e f w.4)

pub walk_later : (q : List Frame) (part : Option (List ℕ)) (c n k : ℕ) (last : Option (List ℕ)) (cs ns ks : ℕ) (p : List ℕ) (m : Bool) → IsDeliveryBegun last → Walk q part c n k last cs ns ks → Walk (q ++ Later p m ∷ []) part c n k (grown last p m) cs (ns + 1) ks
walk_later [] part c n k last cs ns ks p m b w = (rw w.0 b, (ap (λ x. grown x p m) w.0, w.1, omega (arith, w.2), w.3))
walk_later (First i pl mo ∷ q) part c n k last cs ns ks p m b w = (w.0, w.1, walk_later q (grown None pl mo) (c + 1) (n + 1) (k + 1) last cs ns ks p m b w.2)
walk_later (Later pl mo ∷ q) part c n k last cs ns ks p m b w = (w.0, walk_later q (grown part pl mo) c (n + 1) k last cs ns ks p m b w.1)
walk_later (Told x y ∷ q) part c n k last cs ns ks p m b w = (w.0, w.1, w.2, w.3, walk_later q part w.0 n k last cs ns ks p m b w.4)

pub walk_told : (q : List Frame) (part : Option (List ℕ)) (c n k : ℕ) (last : Option (List ℕ)) (cs ns ks d count next : ℕ) → cs ≤ d → count ≡ d % 2 ^ 32 → next ≡ ns % 2 ^ 32 → Walk q part c n k last cs ns ks → Walk (q ++ Told count next ∷ []) part c n k last d ns ks
walk_told [] part c n k last cs ns ks d count next le e f w = (d, e, omega (arith, f, w.2), omega (arith, le, w.1), (w.0, refl, w.2, w.3))
walk_told (First i pl mo ∷ q) part c n k last cs ns ks d count next le e f w = (w.0, w.1, walk_told q (grown None pl mo) (c + 1) (n + 1) (k + 1) last cs ns ks d count next le e f w.2)
walk_told (Later pl mo ∷ q) part c n k last cs ns ks d count next le e f w = (w.0, walk_told q (grown part pl mo) c (n + 1) k last cs ns ks d count next le e f w.1)
walk_told (Told x y ∷ q) part c n k last cs ns ks d count next le e f w = (w.0, w.1, w.2, w.3, walk_told q part w.0 n k last cs ns ks d count next le e f w.4)

pub climb_le : (fs : List Flow) (l p le pe : ℕ) → Climb fs l p le pe → (l ≤ le) × (p ≤ pe)
climb_le [] l p le pe c = c
climb_le (f ∷ fs) l p le pe c = let r = climb_le fs c.0 c.1 le pe c.5 in (omega (arith, r.0, c.2), omega (arith, r.1, c.3))

-- the limits rise without a flow
pub climb_up : (fs : List Flow) (l p le pe le' pe' : ℕ) → le ≤ le' → pe ≤ pe' → Climb fs l p le pe → Climb fs l p le' pe'
climb_up [] l p le pe le' pe' a b c = (omega (arith, c.0, a), omega (arith, c.1, b))
climb_up (g ∷ fs) l p le pe le' pe' a b c = (c.0, c.1, c.2, c.3, c.4, climb_up fs c.0 c.1 le pe le' pe' a b c.5)

-- one flow of the link more, of the highest limits
pub climb_link : (fs : List Flow) (l p le pe : ℕ) (f : Flow) → f.of_link ≡ true → (f.count + f.credit) % 2 ^ 32 ≡ le % 2 ^ 32 → (f.next + f.window) % 2 ^ 32 ≡ pe % 2 ^ 32 → Climb fs l p le pe → Climb (fs ++ f ∷ []) l p le pe
climb_link [] l p le pe f e a b c = (le, pe, c.0, c.1, (rw e a, b), (omega arith, omega arith))
climb_link (g ∷ fs) l p le pe f e a b c = (c.0, c.1, c.2, c.3, c.4, climb_link fs c.0 c.1 le pe f e a b c.5)

-- one flow of the session alone
pub climb_session : (fs : List Flow) (l p le pe : ℕ) (f : Flow) → f.of_link ≡ false → (f.next + f.window) % 2 ^ 32 ≡ pe % 2 ^ 32 → Climb fs l p le pe → Climb (fs ++ f ∷ []) l p le pe
climb_session [] l p le pe f e b c = (l, pe, omega arith, c.1, (rw e refl, b), (c.0, omega arith))
climb_session (g ∷ fs) l p le pe f e b c = (c.0, c.1, c.2, c.3, c.4, climb_session fs c.0 c.1 le pe f e b c.5)

small_ahead : (d : ℕ) → d < 2 ^ 31 → cond (ltb d (2 ^ 31)) d 0 ≡ d
small_ahead d lt = grind arith

-- the wrapping difference is the plain one
pub ahead_is : (limit own l o : ℕ) → limit % 2 ^ 32 ≡ l % 2 ^ 32 → own ≡ o % 2 ^ 32 → o ≤ l → l < o + 2 ^ 31 → ahead limit own ≡ l - o
ahead_is limit own l o e f le lt =
    let plain : (limit + (2 ^ 32 - own)) % 2 ^ 32 ≡ l - o = omega (arith, e, f, le, lt) in
    let small : l - o < 2 ^ 31 = omega (arith, lt) in
    rw plain (small_ahead (l - o) small)
