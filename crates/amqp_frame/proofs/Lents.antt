-- A frame that lies whole at the front of a piece.
use Rattle.std.proofs.Common.{rules, arith, ◌≡◌, ℕ, ◌+◌, ◌-◌, ◌≤◌, ◌<◌, ◌⊎◌, inl, inr, List, [], ◌++◌, length, take, drop, Option, Some, refl, sym, ap, subst, ◌∙◌}
use Rattle.amqp_frame.specs.declared.units.Frame.{Frame}
use Rattle.amqp_frame.specs.declared.units.Stage.{Stage}
use Rattle.amqp_frame.specs.declared.units.Stage.TheVariants.{Frames}
use Rattle.amqp_frame.specs.Units.{FrameUnit, IsUnit, IsRest, channel_of, body_of, due_after}
use Rattle.amqp_frame.specs.Splits.{SplitterState, Stands, IsOne, IsOver, IsHeld, IsTaken, TakesNothing, IsWholeIn, IsLent}
use Rattle.std.proofs.lemmas.Bool.{cases_lt}
use Rattle.std.proofs.lemmas.List.{append-nil, places, same_lists}
use Rattle.amqp_frame.proofs.Fronts.{none_taken, rest_early, none_behind}

pub lent : (s : SplitterState) (piece : List ℕ) (frame : Frame) (size : ℕ) → 8 ≤ s.limit → IsWholeIn s.limit s.stage s.filled piece (Some size) → frame.channel ≡ channel_of (take size piece) →
    frame.body.now ≡ body_of (take size piece) → IsLent s piece frame size
lent s piece frame size least whole channel body =
    let bytes = take size piece in
    let due = whole.0 in
    let empty = whole.1 in
    let joined : bytes ≡ s.filled ++ bytes = ap (λ (xs : List ℕ). xs ++ bytes) (sym empty) in
    let stands : Stands s.limit s.stage bytes (FrameUnit bytes) = record { is = subst (λ (t : Stage). IsUnit s.limit t (FrameUnit bytes)) (sym due) whole.2.1; whole = refl } in
    let one : IsOne s.limit s.stage bytes = record { unit = FrameUnit bytes; stands = stands } in
    let held : IsHeld s.limit s.stage (s.filled ++ bytes) = subst (λ (xs : List ℕ). IsHeld s.limit s.stage xs) joined (subst (λ (t : Stage). IsOne s.limit t bytes → IsHeld s.limit t bytes) (sym due) (λ o. inr o) one) in
    record {
      taken = record {
        bound = whole.2.0;
        limit = refl;
        stage = refl;
        filled = joined;
        all = λ l. inl one;
        full = λ full. none_taken s.limit s.stage s.filled piece size least held whole.2.0 full;
        early = λ k l. rest_early s.limit s.stage s.filled piece size k least held whole.2.0 (omega (arith, l));
      };
      waits = stands;
      goes = record { limit = refl; stage = due; filled = empty };
      channel = channel;
      body = body;
    }

-- a splitter that takes the piece takes that frame, no more and no less
pub lent_taken : (s new : SplitterState) (piece : List ℕ) (frame : Frame) (size used : ℕ) → 8 ≤ s.limit → IsLent s piece frame size → IsTaken s new piece used → used ≡ size
lent_taken s new piece frame size used least l t = by (cases_lt used size) (cases_lt size used)
  where
    empty : s.filled ++ take size piece ≡ take size piece
    empty = sym l.taken.filled

    whole : IsOne s.limit s.stage (take size piece)
    whole = record { unit = FrameUnit (take size piece); stands = l.waits }

    held : IsHeld s.limit s.stage (take size piece)
    held = subst (λ (t : Stage). IsOne s.limit t (take size piece) → IsHeld s.limit t (take size piece)) (sym l.goes.stage) (λ o. inr o) whole

    parted : take used piece ++ drop used (take size piece) ≡ take size piece → used < size → TakesNothing new → length (drop used (take size piece)) ≡ 0
    parted e h nothing =
        none_behind s.limit s.stage (take used piece) (drop used (take size piece)) least (subst (λ (xs : List ℕ). IsHeld s.limit s.stage xs) (sym e) held)
        (subst (λ (k : ℕ). IsOne k s.stage (take used piece) ⊎ IsOver s.stage) t.limit
        (subst (λ (x : Stage). IsOne new.limit x (take used piece) ⊎ IsOver x) t.stage
        (subst (λ (xs : List ℕ). IsOne new.limit new.stage xs ⊎ IsOver new.stage) (t.filled ∙ ap (λ (xs : List ℕ). xs ++ take used piece) l.goes.filled) nothing)))

    few : used < size → TakesNothing new → ⊥
    few h nothing =
        let e : take used piece ++ drop used (take size piece) ≡ take size piece = same_lists _ _ (search (rules, places)) (λ i d j. grind (arith, places)) in
        let long : length (drop used (take size piece)) ≡ size - used = let bound = l.taken.bound in search (rules, places) in
        omega (arith, parted e h nothing, long, h)

    by : (used < size) ⊎ (size ≤ used) → (size < used) ⊎ (used ≤ size) → used ≡ size
    by (inl h) b = absurd (few h (t.all (omega (arith, h, l.taken.bound))))
    by (inr a) (inl h) = absurd ((t.early size (omega (arith, h))).none (FrameUnit (take size piece)) [] l.waits.is (empty ∙ sym (append-nil (take size piece))))
    by (inr a) (inr b) = omega (arith, a, b)
