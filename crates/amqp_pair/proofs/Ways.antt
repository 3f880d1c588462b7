-- What is on its way from one end to the other.
use Rattle.std.proofs.Common.{◌≡◌, ℕ, ◌≤◌, List, [], ◌∷◌, ◌++◌, length, take, drop, refl, sym, ap, subst, ◌∙◌, arith, append_assoc, length-append}
use Rattle.std.specs.List.{flat_map}
use Rattle.std.proofs.lemmas.List.{take-append-drop}
use Rattle.std.proofs.lemmas.Grind.{flat_map-append}
use Rattle.amqp_frame.specs.Splits.{SplitterState, Waits, IsEmptied}
use Rattle.amqp_frame.specs.Units.{StreamUnit, AreUnits, due_after, IsUnit, bytes_of}
use Rattle.amqp_frame.specs.declared.units.Stage.{Stage}
use Rattle.amqp_pair.specs.Spoken.{IsOnWay}

-- bytes go into the pipe
pub moves : (s : SplitterState) (pipe unsent : List ℕ) (way : List StreamUnit) (n : ℕ) → IsOnWay s pipe unsent way → IsOnWay s (pipe ++ take n unsent) (drop n unsent) way
moves s pipe unsent way n w = record {
  joined = ap (λ (z : List ℕ). s.filled ++ z) (append_assoc pipe (take n unsent) (drop n unsent) ∙ ap (λ (z : List ℕ). pipe ++ z) (take-append-drop n unsent)) ∙ w.joined;
  each = w.each;
}

-- they are taken out of it
pub takes : (s t : SplitterState) (pipe unsent : List ℕ) (way : List StreamUnit) (n : ℕ) → t.limit ≡ s.limit → t.stage ≡ s.stage → t.filled ≡ s.filled ++ take n pipe → IsOnWay s pipe unsent way
    → IsOnWay t (drop n pipe) unsent way
takes s t pipe unsent way n el es ef w = record {
  joined = ap (λ (z : List ℕ). z ++ (drop n pipe ++ unsent)) ef ∙ append_assoc s.filled (take n pipe) (drop n pipe ++ unsent)
      ∙ ap (λ (z : List ℕ). s.filled ++ z) (sym (append_assoc (take n pipe) (drop n pipe) unsent) ∙ ap (λ (z : List ℕ). z ++ unsent) (take-append-drop n pipe)) ∙ w.joined;
  each = rw (el, es) w.each;
}

-- units are written behind them
pub writes : (s : SplitterState) (pipe unsent : List ℕ) (way more : List StreamUnit) → AreUnits s.limit s.stage (way ++ more) → IsOnWay s pipe unsent way
    → IsOnWay s pipe (unsent ++ flat_map bytes_of more) (way ++ more)
writes s pipe unsent way more each w = record {
  joined = ap (λ (z : List ℕ). s.filled ++ z) (sym (append_assoc pipe unsent (flat_map bytes_of more))) ∙ sym (append_assoc s.filled (pipe ++ unsent) (flat_map bytes_of more))
      ∙ ap (λ (z : List ℕ). z ++ flat_map bytes_of more) w.joined ∙ sym (flat_map-append bytes_of way more);
  each = each;
}

module _ (apart : (max : ℕ) (stage : Stage) (u v : StreamUnit) (a b : List ℕ) → 8 ≤ max → IsUnit max stage u → IsUnit max stage v → bytes_of u ++ a ≡ bytes_of v ++ b → (u ≡ v) × (a ≡ b))
    (some : (max : ℕ) (stage : Stage) (u : StreamUnit) → IsUnit max stage u → 4 ≤ length (bytes_of u)) where
  -- the unit that waits is the first on its way, and is acted upon
  pub acts : (s t : SplitterState) (pipe unsent : List ℕ) (way : List StreamUnit) (u : StreamUnit) → 8 ≤ s.limit → Waits s u → IsEmptied s t (due_after u) → IsOnWay s pipe unsent way
      → (later : List StreamUnit) × (way ≡ u ∷ later) × IsOnWay t pipe unsent later
  acts s t pipe unsent [] u least is gone w =
      absurd (omega (arith, ap (λ (x : List ℕ). length x) w.joined, ap (λ (x : List ℕ). length x) is.whole, some s.limit s.stage u is.is, length-append s.filled (pipe ++ unsent)))
  acts s t pipe unsent (x ∷ q) u least is gone w =
      let joined : bytes_of u ++ (pipe ++ unsent) ≡ bytes_of x ++ flat_map bytes_of q = ap (λ (z : List ℕ). z ++ (pipe ++ unsent)) (sym is.whole) ∙ w.joined in
      let r : (u ≡ x) × (pipe ++ unsent ≡ flat_map bytes_of q) = apart s.limit s.stage u x (pipe ++ unsent) (flat_map bytes_of q) least is.is w.each.0 joined in
      let rest : AreUnits t.limit t.stage q = rw (gone.limit, gone.stage) (subst (λ (z : StreamUnit). AreUnits s.limit (due_after z) q) (sym r.0) w.each.1) in
      (q, ap (λ (z : StreamUnit). z ∷ q) (sym r.0), record { joined = ap (λ (z : List ℕ). z ++ (pipe ++ unsent)) gone.filled ∙ r.1; each = rest })

  -- what one end acted upon begins what the other wrote
  pub front : (max : ℕ) (stage : Stage) (us vs : List StreamUnit) (rest : List ℕ) → 8 ≤ max → AreUnits max stage us → AreUnits max stage vs
      → flat_map bytes_of us ++ rest ≡ flat_map bytes_of vs → (later : List StreamUnit) × (vs ≡ us ++ later) × (rest ≡ flat_map bytes_of later)
  front max stage [] vs rest le a b e = (vs, refl, e)
  front max stage (u ∷ us) [] rest le a b e =
      let n : length ((bytes_of u ++ flat_map bytes_of us) ++ rest) ≡ 0 = ap (λ (x : List ℕ). length x) e in
      absurd (omega (arith, length-append (bytes_of u ++ flat_map bytes_of us) rest, length-append (bytes_of u) (flat_map bytes_of us), some max stage u a.0, n))
  front max stage (u ∷ us) (v ∷ vs) rest le a b e =
      let x : (u ≡ v) × (flat_map bytes_of us ++ rest ≡ flat_map bytes_of vs) = apart max stage u v (flat_map bytes_of us ++ rest) (flat_map bytes_of vs) le a.0 b.0 (sym (append_assoc (bytes_of u) (flat_map bytes_of us) rest) ∙ e) in
      let r : (later : List StreamUnit) × (vs ≡ us ++ later) × (rest ≡ flat_map bytes_of later) = front max (due_after u) us vs rest le a.1 (subst (λ (w : StreamUnit). AreUnits max (due_after w) vs) (sym x.0) b.1) x.1 in
      (r.0, ap (λ (w : StreamUnit). w ∷ vs) (sym x.0) ∙ ap (λ (ws : List StreamUnit). u ∷ ws) r.1, r.2)
