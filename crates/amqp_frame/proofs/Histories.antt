-- What a splitter's calls do to the units that went by.
use Rattle.std.proofs.Common.{◌≡◌, ℕ, List, [], ◌∷◌, ◌++◌, refl, sym, ap, ◌∙◌}
use Rattle.std.specs.List.{flat_map}
use Rattle.std.proofs.lemmas.Grind.{flat_map-append}
use Rattle.std.proofs.lemmas.List.{append_assoc, append-nil}
use Rattle.amqp_frame.specs.Units.{StreamUnit, bytes_of, IsUnit, IsRest, AreUnits, due_after, due_behind}
use Rattle.amqp_frame.specs.Splits.{SplitterState, Waits, IsEmptied, HasNoFrame, WentBy}
use Rattle.amqp_frame.specs.Units.{FrameUnit, FaultUnit}
use Rattle.amqp_frame.specs.declared.units.Stage.{Stage}
use Rattle.amqp_frame.specs.declared.units.Stage.TheVariants.{Header, Frames, Faulty}

-- one unit more
pub units_more : (max : ℕ) (stage : Stage) (us : List StreamUnit) (u : StreamUnit) → AreUnits max stage us → IsUnit max (due_behind stage us) u → AreUnits max stage (us ++ u ∷ [])
units_more max stage [] u each is = (is, tt)
units_more max stage (v ∷ us) u each is = (each.0, units_more max (due_after v) us u each.1 is)

-- what is due behind one more unit
pub due_more : (stage : Stage) (us : List StreamUnit) (u : StreamUnit) → due_behind stage (us ++ u ∷ []) ≡ due_after u
due_more stage [] u = refl
due_more stage (v ∷ us) u = due_more (due_after v) us u

-- the joined bytes of one more unit
pub joined_more : (us : List StreamUnit) (u : StreamUnit) (rest : List ℕ) → flat_map bytes_of (us ++ u ∷ []) ++ rest ≡ flat_map bytes_of us ++ (bytes_of u ++ rest)
joined_more us u rest =
    ap (λ (w : List ℕ). w ++ rest) (flat_map-append bytes_of us (u ∷ []) ∙ ap (λ (w : List ℕ). flat_map bytes_of us ++ w) (append-nil (bytes_of u)))
    ∙ append_assoc (flat_map bytes_of us) (bytes_of u) rest

-- the unit that waited went by
pub unit_went : (old new : SplitterState) (us : List StreamUnit) (taken : List ℕ) (u : StreamUnit) → IsEmptied old new (due_after u) → WentBy old us taken → Waits old u →
    WentBy new (us ++ u ∷ []) taken
unit_went old new us taken u e w h = record {
  joined =
      w.joined ∙ ap (λ (x : List ℕ). flat_map bytes_of us ++ x) (h.whole ∙ sym (append-nil (bytes_of u)))
      ∙ sym (joined_more us u []) ∙ ap (λ (x : List ℕ). flat_map bytes_of (us ++ u ∷ []) ++ x) (sym e.filled);
  each = rw e.limit (units_more old.limit Header us u w.each (rw w.due at h.is));
  due = e.stage ∙ sym (due_more Header us u);
}

-- less than a frame is no frame
pub no_frame : (s : SplitterState) → s.stage ≡ Frames → IsRest s.limit s.stage s.filled → HasNoFrame s
no_frame s e r = record {
  frames = λ bytes w. r.none (FrameUnit bytes) [] w.is (w.whole ∙ sym (append-nil bytes));
  faults = λ fault bytes w. r.none (FaultUnit fault bytes) [] w.is (w.whole ∙ sym (append-nil bytes));
  over = λ fault h. let no : Faulty fault ≡ Frames = sym h ∙ e in cc;
}

-- more bytes came of the unit that is due
pub more_came : (old new : SplitterState) (us : List StreamUnit) (taken more : List ℕ) → new.limit ≡ old.limit → new.stage ≡ old.stage → new.filled ≡ old.filled ++ more → WentBy old us taken →
    WentBy new us (taken ++ more)
more_came old new us taken more limit stage filled w = record {
  joined =
      ap (λ (x : List ℕ). x ++ more) w.joined ∙ append_assoc (flat_map bytes_of us) old.filled more ∙ ap (λ (x : List ℕ). flat_map bytes_of us ++ x) (sym filled);
  each = rw limit w.each;
  due = stage ∙ w.due;
}
