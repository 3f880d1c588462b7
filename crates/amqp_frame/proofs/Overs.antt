-- What is written behind what is filled.
use Rattle.std.proofs.Common.{rules, arith, ap, ◌∙◌}
use Rattle.std.specs.Prelude.{◌≡◌, ℕ, ◌+◌, ◌-◌, ◌≤◌, max, List, ◌++◌, length, take, drop, replicate, slice_range}
use Rattle.std.proofs.lemmas.List.{places, same_lists}
use Rattle.amqp_frame.specs.Rooms.{Filled, over, with_spare}

-- a vector of that length, once these were written from a place on
abbrev written : ℕ → ℕ → List ℕ → List ℕ → List ℕ
written long m xs ws = take long ((take m xs ++ (ws ++ drop (length ws) (drop m xs))) ++ drop (length (take m xs ++ (ws ++ drop (length ws) (drop m xs)))) xs)

-- a vector that was lengthened by zeros, if it was shorter
abbrev zeroed : ℕ → List ℕ → List ℕ
zeroed end xs = xs ++ replicate (end - length xs) 0

-- what a buffer is that keeps these
abbrev kept_in : ℕ → ℕ → List ℕ → Filled
kept_in whole m xs = record { filled = take m xs; spare = drop m xs ++ replicate (whole - length xs) 0; reach = length xs - m }

front : (m : ℕ) (xs ws : List ℕ) → m ≤ length xs → take m (written (length xs) m xs ws) ≡ take m xs
front m xs ws h = same_lists _ _ (search (rules, places)) (λ k d j. grind (arith, places))

behind : (m : ℕ) (xs ws : List ℕ) → m ≤ length xs → drop m (written (length xs) m xs ws) ≡ over ws (drop m xs)
behind m xs ws h = same_lists _ _ (search (rules, places)) (λ k d j. grind (arith, places))

as_long : (m : ℕ) (xs ws : List ℕ) → m ≤ length xs → length (written (length xs) m xs ws) ≡ length xs
as_long m xs ws h = search (rules, places)

-- what is written over the front does not reach what stands behind it
over_front : (ws bytes more : List ℕ) → over ws bytes ++ more ≡ over (take (length bytes) ws) (bytes ++ more)
over_front ws bytes more = same_lists _ _ (search (rules, places)) (λ k d j. grind (arith, places))

-- zeros move from the padding into the vector
padded : (whole m end : ℕ) (xs : List ℕ) → m ≤ length xs → length xs ≤ whole → end ≤ whole
    → drop m (zeroed end xs) ++ replicate (whole - length (zeroed end xs)) 0 ≡ drop m xs ++ replicate (whole - length xs) 0
padded whole m end xs h l k = same_lists _ _ (search (rules, places)) (λ i d j. grind (arith, places))

same_front : (m end : ℕ) (xs : List ℕ) → m ≤ length xs → take m (zeroed end xs) ≡ take m xs
same_front m end xs h = same_lists _ _ (search (rules, places)) (λ i d j. grind (arith, places))

longer : (m end : ℕ) (xs : List ℕ) → m ≤ length xs → m ≤ length (zeroed end xs)
longer m end xs h = search (rules, places)

reached : (m n : ℕ) (xs : List ℕ) → m ≤ length xs → length (zeroed (m + n) xs) - m ≡ max (length xs - m) n
reached m n xs h = search (rules, places)

behind_length : (m : ℕ) (xs : List ℕ) → length (drop m xs) ≡ length xs - m
behind_length m xs = search (rules, places)

same : (a b : Filled) → a.filled ≡ b.filled → a.spare ≡ b.spare → a.reach ≡ b.reach → a ≡ b
same a b e f g = λ i. record { filled = e i; spare = f i; reach = g i }

-- what is asked for fits
pub in_room : (whole m n : ℕ) (xs : List ℕ) → m ≤ length xs → length xs ≤ whole → n ≤ length (drop m xs ++ replicate (whole - length xs) 0) → m + n ≤ whole
in_room whole m n xs h l k = search (rules, places)

-- what is lent stood behind what is filled
pub lent : (whole m n : ℕ) (xs ys out : List ℕ) (s : Filled) → out ≡ slice_range ys m (m + n) → ys ≡ zeroed (m + n) xs → m ≤ length xs → length xs ≤ whole → m + n ≤ whole
    → kept_in whole m xs ≡ s → out ≡ take n s.spare
lent whole m n xs ys out s o e h l k is =
    let here : slice_range (zeroed (m + n) xs) m (m + n) ≡ take n (drop m xs ++ replicate (whole - length xs) 0) = same_lists _ _ (search (rules, places)) (λ i d j. grind (arith, places)) in
    o ∙ (ap (λ (zs : List ℕ). slice_range zs m (m + n)) e ∙ (here ∙ ap (λ (t : Filled). take n t.spare) is))

-- the mark goes on
pub marked : (whole m n : ℕ) (xs ys : List ℕ) (s : Filled) → ys ≡ zeroed (m + n) xs → m ≤ length xs → length xs ≤ whole → m + n ≤ whole → kept_in whole m xs ≡ s
    → take (m + n) ys ≡ s.filled ++ take n s.spare
marked whole m n xs ys s e h l k is =
    let here : take (m + n) (zeroed (m + n) xs) ≡ take m xs ++ take n (drop m xs ++ replicate (whole - length xs) 0) = same_lists _ _ (search (rules, places)) (λ i d j. grind (arith, places)) in
    ap (λ (zs : List ℕ). take (m + n) zs) e ∙ (here ∙ ap (λ (t : Filled). t.filled ++ take n t.spare) is)

pub left : (whole m n : ℕ) (xs ys : List ℕ) (s : Filled) → ys ≡ zeroed (m + n) xs → m ≤ length xs → length xs ≤ whole → m + n ≤ whole → kept_in whole m xs ≡ s
    → drop (m + n) ys ++ replicate (whole - length ys) 0 ≡ drop n s.spare
left whole m n xs ys s e h l k is =
    let here : drop (m + n) (zeroed (m + n) xs) ++ replicate (whole - length (zeroed (m + n) xs)) 0 ≡ drop n (drop m xs ++ replicate (whole - length xs) 0)
    = same_lists _ _ (search (rules, places)) (λ i d j. grind (arith, places)) in
    ap (λ (zs : List ℕ). drop (m + n) zs ++ replicate (whole - length zs) 0) e ∙ (here ∙ ap (λ (t : Filled). drop n t.spare) is)

-- a buffer after a write behind its mark
module _ (whole m n : ℕ) (xs ws : List ℕ) (filled : m ≤ length xs) (fits : length xs ≤ whole) (room : m + n ≤ whole) where
  abbrev ys : List ℕ
  ys = zeroed (m + n) xs

  abbrev zs : List ℕ
  zs = written (length ys) m ys ws

  spare_is : drop m zs ++ replicate (whole - length zs) 0 ≡ over (take (max (length xs - m) n) ws) (drop m xs ++ replicate (whole - length xs) 0)
  spare_is =
      let long = longer m (m + n) xs filled in
      ap (λ (k : ℕ). drop m zs ++ replicate (whole - k) 0) (as_long m ys ws long)
      ∙ (ap (λ (l : List ℕ). l ++ replicate (whole - length ys) 0) (behind m ys ws long)
      ∙ (over_front ws (drop m ys) (replicate (whole - length ys) 0)
      ∙ (ap (λ (k : ℕ). over (take k ws) (drop m ys ++ replicate (whole - length ys) 0)) (behind_length m ys ∙ reached m n xs filled)
      ∙ ap (λ (l : List ℕ). over (take (max (length xs - m) n) ws) l) (padded whole m (m + n) xs filled fits room))))

  written_in : kept_in whole m zs ≡ with_spare (kept_in whole m xs) n ws
  written_in =
      let long = longer m (m + n) xs filled in
      same _ _ (front m ys ws long ∙ same_front m (m + n) xs filled) spare_is (ap (λ (k : ℕ). k - m) (as_long m ys ws long) ∙ reached m n xs filled)

pub refilled : (whole m n k long : ℕ) (xs ys ws : List ℕ) (s : Filled) → long ≡ length ys → ys ≡ zeroed (m + n) xs → m ≤ length xs → length xs ≤ whole → m + n ≤ whole
    → kept_in whole m xs ≡ s → n ≡ k → kept_in whole m (written long m ys ws) ≡ with_spare s k ws
refilled whole m n k long xs ys ws s e f h l fits is count =
    rw e (rw f (written_in whole m n xs ws h l fits ∙ (ap (λ (t : Filled). with_spare t n ws) is ∙ ap (λ (i : ℕ). with_spare s i ws) count)))

pub over_length : (ws bytes : List ℕ) → length (over ws bytes) ≡ length bytes
over_length ws bytes = search (rules, places)
