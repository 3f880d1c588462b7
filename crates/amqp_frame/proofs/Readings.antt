-- Each stream has one reading, and no other.
use Rattle.std.proofs.Common.{◌≡◌, ℕ, zero, suc, ◌+◌, ◌<◌, ◌≤◌, List, [], ◌∷◌, ◌++◌, length, inl, inr, refl, sym, ap, ◌∙◌, subst, arith}
use Rattle.std.specs.List.{flat_map}
use Rattle.std.proofs.lemmas.List.{length-append, append_assoc, append-nil}
use Rattle.amqp_frame.specs.Units.{StreamUnit, bytes_of, IsUnit, IsRest, IsReading, Units, due_after}
use Rattle.amqp_frame.specs.Splits.{SplitterState, Waits, IsOne, IsHeld, IsOver, TakesNothing, WentBy}
use Rattle.amqp_frame.specs.declared.units.Stage.{Stage}
use Rattle.amqp_frame.specs.declared.units.Stage.TheVariants.{Header, Frames, Refused, Faulty}
use Rattle.amqp_frame.proofs.Fronts.{HasFront, front, frame_length, header_exact, one_front}
use Rattle.amqp_frame.proofs.Histories.{units_more, due_more, joined_more}

-- no unit is shorter than four bytes
pub unit_length : (max : ℕ) (stage : Stage) (u : StreamUnit) → IsUnit max stage u → 4 ≤ length (bytes_of u)
unit_length max Header u h = let e = header_exact max u h in omega arith
unit_length max Frames u h = frame_length max u h
unit_length max Refused u h = absurd h
unit_length max (Faulty f) u h = absurd h

-- a stream can be read
pub record HasReading (max : ℕ) (stage : Stage) (stream : List ℕ) : Type 0 where
  pub units : List StreamUnit
  pub rest : List ℕ
  pub reading : IsReading max stage stream units rest

reads_none : (max : ℕ) (stage : Stage) (stream : List ℕ) → IsRest max stage stream → HasReading max stage stream
reads_none max stage stream r = record { units = []; rest = stream; reading = record { joined = refl; each = tt; behind = r } }

reads_more : (max : ℕ) (stage : Stage) (stream : List ℕ) (f : HasFront max stage stream) → HasReading max (due_after f.unit) f.more → HasReading max stage stream
reads_more max stage stream f t = record {
  units = f.unit ∷ t.units;
  rest = t.rest;
  reading = record {
    joined = f.joined ∙ ap (λ (w : List ℕ). bytes_of f.unit ++ w) t.reading.joined ∙ sym (append_assoc (bytes_of f.unit) (flat_map bytes_of t.units) t.rest);
    each = (f.is, t.reading.each);
    behind = t.reading.behind;
  };
}

shorter : (max : ℕ) (stage : Stage) (stream : List ℕ) (f : HasFront max stage stream) → length f.more + 4 ≤ length stream
shorter max stage stream f =
    let l = unit_length max stage f.unit f.is in
    let e = ap length f.joined ∙ length-append (bytes_of f.unit) f.more in
    omega arith

reads : (n max : ℕ) (stage : Stage) (stream : List ℕ) → length stream ≤ n → HasReading max stage stream
reads zero max stage stream l =
    elim (front max stage stream) [
      | inl r ↦ reads_none max stage stream r
      | inr f ↦ let s = shorter max stage stream f in absurd (omega arith)
    ]
reads (suc n) max stage stream l =
    elim (front max stage stream) [
      | inl r ↦ reads_none max stage stream r
      | inr f ↦ reads_more max stage stream f (reads n max (due_after f.unit) f.more (let s = shorter max stage stream f in omega arith))
    ]

-- every stream has a reading as units
pub each_is_read : (max : ℕ) (stage : Stage) (stream : List ℕ) → (us : List StreamUnit) × (rest : List ℕ) × IsReading max stage stream us rest
each_is_read max stage stream = let r = reads (length stream) max stage stream (omega arith) in (r.units, r.rest, r.reading)

behind_first : {max : ℕ} {stage : Stage} {stream : List ℕ} {u : StreamUnit} {us : List StreamUnit} {r : List ℕ} → IsReading max stage stream (u ∷ us) r →
    IsReading max (due_after u) (flat_map bytes_of us ++ r) us r
behind_first h = record { joined = refl; each = h.each.1; behind = h.behind }

begins_with : {max : ℕ} {stage : Stage} {stream : List ℕ} {u : StreamUnit} {us : List StreamUnit} {r : List ℕ} → IsReading max stage stream (u ∷ us) r →
    stream ≡ bytes_of u ++ (flat_map bytes_of us ++ r)
begins_with {u = u} {us = us} {r = r} h = h.joined ∙ append_assoc (bytes_of u) (flat_map bytes_of us) r

-- a stream has no second reading
pub one_reading : (max : ℕ) (stage : Stage) (stream : List ℕ) (us vs : List StreamUnit) (r q : List ℕ) → 8 ≤ max → IsReading max stage stream us r → IsReading max stage stream vs q →
    (us ≡ vs) × (r ≡ q)
one_reading max stage stream [] [] r q m g h = (refl, sym g.joined ∙ h.joined)
one_reading max stage stream [] (v ∷ vs) r q m g h = absurd (g.behind.none v (flat_map bytes_of vs ++ q) h.each.0 (sym g.joined ∙ begins_with h))
one_reading max stage stream (u ∷ us) [] r q m g h = absurd (h.behind.none u (flat_map bytes_of us ++ r) g.each.0 (sym h.joined ∙ begins_with g))
one_reading max stage stream (u ∷ us) (v ∷ vs) r q m g h =
    let first = one_front max stage u v (flat_map bytes_of us ++ r) (flat_map bytes_of vs ++ q) m g.each.0 h.each.0 (sym (begins_with g) ∙ begins_with h) in
    let other : IsReading max (due_after u) (flat_map bytes_of us ++ r) vs q =
    subst (λ (w : StreamUnit). IsReading max (due_after w) (flat_map bytes_of us ++ r) vs q) (sym first.0)
    (subst (λ (w : List ℕ). IsReading max (due_after v) w vs q) (sym first.1) (behind_first h)) in
    let rest = one_reading max (due_after u) (flat_map bytes_of us ++ r) us vs r q m (behind_first g) other in
    (ap (λ (w : StreamUnit). w ∷ us) first.0 ∙ ap (λ (ws : List StreamUnit). v ∷ ws) rest.0, rest.1)

-- nothing stands behind the last unit
over_rest : (max : ℕ) (stage : Stage) (bytes : List ℕ) → IsOver stage → IsRest max stage bytes
over_rest max Header bytes o = absurd o
over_rest max Frames bytes o = absurd o
over_rest max Refused bytes o = record { none = λ u more is e. is }
over_rest max (Faulty f) bytes o = record { none = λ u more is e. is }

held_rest : (max : ℕ) (stage : Stage) (bytes : List ℕ) → IsHeld max stage bytes → (IsOne max stage bytes → ⊥) → IsRest max stage bytes
held_rest max Header bytes (inl r) none = r
held_rest max Header bytes (inr o) none = absurd (none o)
held_rest max Frames bytes (inl r) none = r
held_rest max Frames bytes (inr o) none = absurd (none o)
held_rest max Refused bytes h none = over_rest max Refused bytes tt
held_rest max (Faulty f) bytes h none = over_rest max (Faulty f) bytes tt

over_empty : (max : ℕ) (stage : Stage) (bytes : List ℕ) → IsHeld max stage bytes → IsOver stage → bytes ≡ []
over_empty max Header bytes h o = absurd o
over_empty max Frames bytes h o = absurd o
over_empty max Refused bytes h o = h
over_empty max (Faulty f) bytes h o = h

went_on : (s : SplitterState) (us : List StreamUnit) (taken more : List ℕ) → IsRest s.limit s.stage (s.filled ++ more) → WentBy s us taken → Units s.limit (taken ++ more) us (s.filled ++ more)
went_on s us taken more r w = record {
  joined = ap (λ (x : List ℕ). x ++ more) w.joined ∙ append_assoc (flat_map bytes_of us) s.filled more;
  each = w.each;
  behind = subst (λ (stage : Stage). IsRest s.limit stage (s.filled ++ more)) w.due r;
}

-- what a splitter that took all it could makes of all bytes, taken or not
pub reading_ends : (s : SplitterState) (us : List StreamUnit) (taken more : List ℕ) → IsHeld s.limit s.stage s.filled → ((u : StreamUnit) → Waits s u → ⊥) → (0 < length more → TakesNothing s) →
    WentBy s us taken → Units s.limit (taken ++ more) us (s.filled ++ more)
reading_ends s us taken [] held none full w =
    went_on s us taken [] (rw append-nil (held_rest s.limit s.stage s.filled held (λ o. none o.unit o.stands))) w
reading_ends s us taken (x ∷ more) held none full w =
    elim (full (omega arith)) [
      | inl o ↦ absurd (none o.unit o.stands)
      | inr over ↦ went_on s us taken (x ∷ more) (over_rest s.limit s.stage (s.filled ++ x ∷ more) over) w
    ]

-- the last unit waits: whatever follows is no unit
pub reading_stops : (s : SplitterState) (us : List StreamUnit) (taken more : List ℕ) (u : StreamUnit) → Waits s u → IsOver (due_after u) → WentBy s us taken →
    Units s.limit (taken ++ more) (us ++ u ∷ []) more
reading_stops s us taken more u h over w = record {
  joined =
      ap (λ (x : List ℕ). x ++ more) (w.joined ∙ ap (λ (x : List ℕ). flat_map bytes_of us ++ x) h.whole)
      ∙ append_assoc (flat_map bytes_of us) (bytes_of u) more ∙ sym (joined_more us u more);
  each = units_more s.limit Header us u w.each (rw w.due at h.is);
  behind = rw (due_more Header us u) (over_rest s.limit (due_after u) more over);
}
