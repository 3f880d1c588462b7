-- The messages that frames complete.
use Rattle.std.proofs.Common.{◌≡◌, ℕ, ◌+◌, ◌≤◌, Bool, true, false, List, [], ◌∷◌, ◌++◌, length, Option, Some, None, refl, sym, ◌∙◌, ap, subst, arith, append_assoc, append-nil, length-append}
use Rattle.std.specs.List.{AllByRecursion}
use Rattle.amqp_pair.specs.World.{Frame, First, Later, Told, text, grown, done, wholes, tail, Walk}

pub wholes_first : (q : List Frame) (part : Option (List ℕ)) (id : ℕ) (p : List ℕ) (m : Bool) → wholes part (q ++ First id p m ∷ []) ≡ wholes part q ++ done None p m
wholes_first [] part id p m = append-nil (done None p m)
wholes_first (First i pl mo ∷ q) part id p m = ap (λ z. done None pl mo ++ z) (wholes_first q (grown None pl mo) id p m) ∙ sym (append_assoc (done None pl mo) (wholes (grown None pl mo) q) (done None p m))
wholes_first (Later pl mo ∷ q) part id p m = ap (λ z. done part pl mo ++ z) (wholes_first q (grown part pl mo) id p m) ∙ sym (append_assoc (done part pl mo) (wholes (grown part pl mo) q) (done None p m))
wholes_first (Told a b ∷ q) part id p m = wholes_first q part id p m

pub wholes_later : (q : List Frame) (part : Option (List ℕ)) (c n k : ℕ) (last : Option (List ℕ)) (cs ns ks : ℕ) (p : List ℕ) (m : Bool) → Walk q part c n k last cs ns ks → wholes part (q ++ Later p m ∷ []) ≡ wholes part q ++ done last p m
wholes_later [] part c n k last cs ns ks p m w = append-nil (done part p m) ∙ ap (λ x. done x p m) w.0
wholes_later (First i pl mo ∷ q) part c n k last cs ns ks p m w = ap (λ z. done None pl mo ++ z) (wholes_later q (grown None pl mo) (c + 1) (n + 1) (k + 1) last cs ns ks p m w.2) ∙ sym (append_assoc (done None pl mo) (wholes (grown None pl mo) q) (done last p m))
wholes_later (Later pl mo ∷ q) part c n k last cs ns ks p m w = ap (λ z. done part pl mo ++ z) (wholes_later q (grown part pl mo) c (n + 1) k last cs ns ks p m w.1) ∙ sym (append_assoc (done part pl mo) (wholes (grown part pl mo) q) (done last p m))
wholes_later (Told a b ∷ q) part c n k last cs ns ks p m w = wholes_later q part w.0 n k last cs ns ks p m w.4

pub wholes_told : (q : List Frame) (part : Option (List ℕ)) (a b : ℕ) → wholes part (q ++ Told a b ∷ []) ≡ wholes part q
wholes_told [] part a b = refl
wholes_told (First i pl mo ∷ q) part a b = ap (λ z. done None pl mo ++ z) (wholes_told q (grown None pl mo) a b)
wholes_told (Later pl mo ∷ q) part a b = ap (λ z. done part pl mo ++ z) (wholes_told q (grown part pl mo) a b)
wholes_told (Told x y ∷ q) part a b = wholes_told q part a b

module _ (limit : ℕ) where
  abbrev pub Small : List (List ℕ) → Type 0
  Small ms = AllByRecursion (λ m. length m ≤ limit) ms

  pub small_back : (xs ys : List (List ℕ)) → Small (xs ++ ys) → Small ys
  small_back [] ys f = f
  small_back (x ∷ xs) ys f = small_back xs ys f.1

  pub small_more : (xs : List (List ℕ)) (m : List ℕ) → Small xs → length m ≤ limit → Small (xs ++ m ∷ [])
  small_more [] m f l = (l, tt)
  small_more (x ∷ xs) m f l = (f.0, small_more xs m f.1 l)

  last_fits : (t : List ℕ) (last waiting : Option (List ℕ)) → Some t ≡ last → (waiting ≡ None → last ≡ None) → Small (tail last waiting) → length t ≤ limit
  last_fits t last None e h s = let bad : Some t ≡ None = e ∙ h refl in absurd (cc bad)
  last_fits t last (Some rest) e h s = let l : length (t ++ rest) ≤ limit = subst (λ (x : Option (List ℕ)). length (text x ++ rest) ≤ limit) (sym e) s.0 in omega (arith, l, length-append t rest)

  -- what the endpoint has of a message is no longer than the message
  pub text_fits : (q : List Frame) (part : Option (List ℕ)) (c n k : ℕ) (last : Option (List ℕ)) (cs ns ks : ℕ) (waiting : Option (List ℕ)) → (waiting ≡ None → last ≡ None) → Walk q part c n k last cs ns ks → Small (wholes part q ++ tail last waiting) → length (text part) ≤ limit
  text_fits [] None c n k last cs ns ks waiting h w s = omega arith
  text_fits [] (Some t) c n k last cs ns ks waiting h w s = last_fits t last waiting w.0 h s
  text_fits (First i p m ∷ q) part c n k last cs ns ks waiting h w s = rw w.0 (omega arith)
  text_fits (Later p true ∷ q) part c n k last cs ns ks waiting h w s =
      let l = text_fits q (Some (text part ++ p)) c (n + 1) k last cs ns ks waiting h w.1 s in
      omega (arith, l, length-append (text part) p)
  text_fits (Later p false ∷ q) part c n k last cs ns ks waiting h w s = omega (arith, s.0, length-append (text part) p)
  text_fits (Told a b ∷ q) part c n k last cs ns ks waiting h w s = text_fits q part w.0 n k last cs ns ks waiting h w.4 s

  -- nor is it with its next frame
  pub next_fits : (q : List Frame) (part : Option (List ℕ)) (p : List ℕ) (m : Bool) (c n k : ℕ) (last : Option (List ℕ)) (cs ns ks : ℕ) (waiting : Option (List ℕ)) → (waiting ≡ None → last ≡ None) → Walk q (grown part p m) c n k last cs ns ks → Small ((done part p m ++ wholes (grown part p m) q) ++ tail last waiting) → length (text part ++ p) ≤ limit
  next_fits q part p true c n k last cs ns ks waiting h w s = text_fits q (Some (text part ++ p)) c n k last cs ns ks waiting h w s
  next_fits q part p false c n k last cs ns ks waiting h w s = s.0
