-- Which unit stands at the front of some bytes: there is at most one.
use Rattle.std.specs.Prelude.{nat_lt, if◌then◌else◌}
use Rattle.std.proofs.Common.{◌≡◌, ℕ, ◌+◌, ◌-◌, ◌*◌, ◌<◌, ◌≤◌, ◌⊎◌, Bool, cond, ◌||◌, ltb, List, [], ◌∷◌, ◌++◌, length, take, drop, Option, Some, None, inl, inr, refl, sym, ap, ◌∙◌, subst, arith}
use Rattle.std.proofs.Math.Seq.{take-append_seam, take-add, take-length}
use Rattle.std.proofs.lemmas.Bool.{cases_lt, lt-ltb, le-ltb}
use Rattle.std.proofs.lemmas.Bool.Decides.{nat_tests}
use Rattle.std.proofs.lemmas.List.{length-append, length-take, length-drop, length-take-le, take-append-drop, get_or_append_left, append_cancel_left, append_assoc, append-nil}
use Rattle.byteorder.specs.Numbers.{big_from-append}
use Rattle.amqp_frame.specs.Units.{StreamUnit, HeaderUnit, FrameUnit, FaultUnit, bytes_of, due_after, IsUnit, IsFault, IsFrame, IsSized, IsPlaced, IsRest, size_of, offset_of, type_of}
use Rattle.amqp_frame.specs.Splits.{SplitterState, Waits, IsOne, IsHeld, IsJudged, IsSound, IsOver, Stands, IsProgress, IsWanted, IsWholeIn, IsNext, IsTaken, AsksNext, MayCome, frame_asks}
use Rattle.amqp_frame.specs.declared.units.FrameFault.{FrameFault}
use Rattle.amqp_frame.specs.declared.units.FrameFault.TheVariants.{TooSmall, TooLarge, BadOffset, BadType}
use Rattle.amqp_frame.specs.declared.units.Progress.{Progress}
use Rattle.amqp_frame.specs.declared.units.Progress.TheVariants.{Wants, Whole, Fails}
use Rattle.amqp_frame.specs.declared.units.Stage.{Stage}
use Rattle.amqp_frame.specs.declared.units.Stage.TheVariants.{Header, Frames, Refused, Faulty}

-- what the fixed part of a frame's header says, whatever follows
pub size-append : (xs ys : List ℕ) → 4 ≤ length xs → size_of (xs ++ ys) ≡ size_of xs
unfolding size_of
size-append xs ys h = big_from-append 4 xs ys h

-- DOFF stands in the first eight bytes, whatever follows
pub offset-append : (xs ys : List ℕ) → 8 ≤ length xs → offset_of (xs ++ ys) ≡ offset_of xs
offset-append xs ys h = get_or_append_left xs ys 0 4 (omega arith)

-- so does TYPE
pub type-append : (xs ys : List ℕ) → 8 ≤ length xs → type_of (xs ++ ys) ≡ type_of xs
type-append xs ys h = get_or_append_left xs ys 0 5 (omega arith)

-- SIZE stays within its limits with more bytes behind it
pub sized-append : (max : ℕ) (xs ys : List ℕ) → 4 ≤ length xs → IsSized max xs → IsSized max (xs ++ ys)
sized-append max xs ys h s = let e = size-append xs ys h in record { least = omega arith; most = omega arith }

-- and DOFF in its place
pub placed-append : (xs ys : List ℕ) → 8 ≤ length xs → IsPlaced xs → IsPlaced (xs ++ ys)
placed-append xs ys h s =
    let e = size-append xs ys (omega arith) in
    let o = offset-append xs ys h in
    record { least = omega arith; within = omega arith }

-- the fault of a frame header with these numbers
abbrev pub verdict_of : ℕ → ℕ → ℕ → ℕ → Option FrameFault
verdict_of max size offset type =
    cond (ltb size 8) (Some TooSmall)
    (cond (ltb max size) (Some TooLarge)
    (cond (ltb offset 2 || ltb size (4 * offset)) (Some BadOffset) (cond (ltb 0 type) (Some BadType) None)))

verdict-small : (max size offset type : ℕ) → size < 8 → verdict_of max size offset type ≡ Some TooSmall
verdict-small max size offset type h = grind (arith, nat_tests)

verdict-large : (max size offset type : ℕ) → 8 ≤ max → max < size → verdict_of max size offset type ≡ Some TooLarge
verdict-large max size offset type m h = grind (arith, nat_tests)

verdict-offset : (max size offset type : ℕ) → 8 ≤ size → size ≤ max → (offset < 2) ⊎ (size < 4 * offset) → verdict_of max size offset type ≡ Some BadOffset
verdict-offset max size offset type a b h = grind (arith, nat_tests)

verdict-type : (max size offset type : ℕ) → 8 ≤ size → size ≤ max → 2 ≤ offset → 4 * offset ≤ size → 0 < type → verdict_of max size offset type ≡ Some BadType
verdict-type max size offset type a b c d h = grind (arith, nat_tests)

verdict-none : (max size offset type : ℕ) → 8 ≤ size → size ≤ max → 2 ≤ offset → 4 * offset ≤ size → type ≡ 0 → verdict_of max size offset type ≡ None
verdict-none max size offset type a b c d h = grind (arith, nat_tests)

-- the fault that the first bytes of a frame show, as the splitter judges them
abbrev pub verdict : ℕ → List ℕ → Option FrameFault
verdict max s = verdict_of max (size_of s) (offset_of s) (type_of s)

-- the unit that a frame header with this verdict begins
abbrev pub unit_for : List ℕ → Option FrameFault → StreamUnit
unit_for s None = FrameUnit (take (size_of s) s)
unit_for s (Some TooSmall) = FaultUnit TooSmall (take 4 s)
unit_for s (Some TooLarge) = FaultUnit TooLarge (take 4 s)
unit_for s (Some BadOffset) = FaultUnit BadOffset (take 8 s)
unit_for s (Some BadType) = FaultUnit BadType (take 8 s)

take_front : (xs ys : List ℕ) (n : ℕ) → length xs ≡ n → xs ≡ take n (xs ++ ys)
take_front xs ys n h = sym (subst (λ (k : ℕ). take k (xs ++ ys) ≡ xs) h (take-append_seam xs ys))

-- a unit is the one that the bytes which it begins give
pub unit_is : (max : ℕ) → 8 ≤ max → (u : StreamUnit) (more : List ℕ) → IsUnit max Frames u → u ≡ unit_for (bytes_of u ++ more) (verdict max (bytes_of u ++ more))
unit_is max m (HeaderUnit b) more h = absurd h
unit_is max m (FrameUnit b) more h =
    let l : 8 ≤ length b = omega arith in
    let e = size-append b more (omega arith) in
    let o = offset-append b more l in
    let t = type-append b more l in
    let v : verdict max (b ++ more) ≡ None = verdict-none max (size_of (b ++ more)) (offset_of (b ++ more)) (type_of (b ++ more)) (omega arith) (omega arith) (omega arith) (omega arith)
    (omega arith) in
    rw v (ap FrameUnit (take_front b more (size_of (b ++ more)) (omega arith)))
unit_is max m (FaultUnit TooSmall b) more h =
    let e = size-append b more (omega arith) in
    let v : verdict max (b ++ more) ≡ Some TooSmall = verdict-small max (size_of (b ++ more)) (offset_of (b ++ more)) (type_of (b ++ more)) (omega arith) in
    rw v (ap (FaultUnit TooSmall) (take_front b more 4 h.0))
unit_is max m (FaultUnit TooLarge b) more h =
    let e = size-append b more (omega arith) in
    let v : verdict max (b ++ more) ≡ Some TooLarge = verdict-large max (size_of (b ++ more)) (offset_of (b ++ more)) (type_of (b ++ more)) m (omega arith) in
    rw v (ap (FaultUnit TooLarge) (take_front b more 4 h.0))
unit_is max m (FaultUnit BadOffset b) more h =
    let l : 8 ≤ length b = omega arith in
    let e = size-append b more (omega arith) in
    let o = offset-append b more l in
    let place : (offset_of (b ++ more) < 2) ⊎ (size_of (b ++ more) < 4 * offset_of (b ++ more)) = rw (e, o) h.2 in
    let v : verdict max (b ++ more) ≡ Some BadOffset = verdict-offset max (size_of (b ++ more)) (offset_of (b ++ more)) (type_of (b ++ more)) (omega arith) (omega arith) place in
    rw v (ap (FaultUnit BadOffset) (take_front b more 8 h.0))
unit_is max m (FaultUnit BadType b) more h =
    let l : 8 ≤ length b = omega arith in
    let e = size-append b more (omega arith) in
    let o = offset-append b more l in
    let t = type-append b more l in
    let v : verdict max (b ++ more) ≡ Some BadType = verdict-type max (size_of (b ++ more)) (offset_of (b ++ more)) (type_of (b ++ more)) (omega arith) (omega arith) (omega arith) (omega arith)
    (omega arith) in
    rw v (ap (FaultUnit BadType) (take_front b more 8 h.0))

-- No unit begins another.
pub one_front : (max : ℕ) (stage : Stage) (u v : StreamUnit) (a b : List ℕ) → 8 ≤ max → IsUnit max stage u → IsUnit max stage v → bytes_of u ++ a ≡ bytes_of v ++ b → (u ≡ v) × (a ≡ b)
one_front max Header (HeaderUnit x) (HeaderUnit y) a b m g h e =
    let same : x ≡ y = take_front x a 8 g ∙ ap (take 8) e ∙ sym (take_front y b 8 h) in
    (ap HeaderUnit same, append_cancel_left x a b (subst (λ (w : List ℕ). x ++ a ≡ w ++ b) (sym same) e))
one_front max Header (HeaderUnit x) (FrameUnit y) a b m g h e = absurd h
one_front max Header (HeaderUnit x) (FaultUnit f y) a b m g h e = absurd h
one_front max Header (FrameUnit x) v a b m g h e = absurd g
one_front max Header (FaultUnit f x) v a b m g h e = absurd g
one_front max Refused u v a b m g h e = absurd g
one_front max (Faulty f) u v a b m g h e = absurd g
one_front max Frames u v a b m g h e =
    let same : u ≡ v = unit_is max m u a g ∙ ap (λ (s : List ℕ). unit_for s (verdict max s)) e ∙ sym (unit_is max m v b h) in
    (same, append_cancel_left (bytes_of u) a b (subst (λ (w : StreamUnit). bytes_of u ++ a ≡ bytes_of w ++ b) (sym same) e))

-- each unit that begins these bytes has at least n bytes
pub record BeginsWith (max : ℕ) (stage : Stage) (bytes : List ℕ) (n : ℕ) : Type 0 where
  pub least : (u : StreamUnit) (more : List ℕ) → IsUnit max stage u → bytes ≡ bytes_of u ++ more → n ≤ length (bytes_of u)

header_length : (max : ℕ) (s : List ℕ) (u : StreamUnit) (more : List ℕ) → IsUnit max Header u → s ≡ bytes_of u ++ more → 8 ≤ length (bytes_of u)
header_length max s (HeaderUnit b) more h e = omega arith
header_length max s (FrameUnit b) more h e = absurd h
header_length max s (FaultUnit f b) more h e = absurd h

-- the header's unit has eight bytes
pub header_exact : (max : ℕ) (u : StreamUnit) → IsUnit max Header u → length (bytes_of u) ≡ 8
header_exact max (HeaderUnit b) h = h
header_exact max (FrameUnit b) h = absurd h
header_exact max (FaultUnit f b) h = absurd h

-- no header is shorter than eight bytes
pub header_least : (max : ℕ) (s : List ℕ) → BeginsWith max Header s 8
header_least max s = record { least = header_length max s }

-- any unit at a frame's place has four bytes
pub frame_length : (max : ℕ) (u : StreamUnit) → IsUnit max Frames u → 4 ≤ length (bytes_of u)
frame_length max (HeaderUnit b) h = absurd h
frame_length max (FrameUnit b) h = omega arith
frame_length max (FaultUnit TooSmall b) h = omega arith
frame_length max (FaultUnit TooLarge b) h = omega arith
frame_length max (FaultUnit BadOffset b) h = omega arith
frame_length max (FaultUnit BadType b) h = omega arith

-- no unit at a frame's place is shorter than four bytes
pub frame_least : (max : ℕ) (s : List ℕ) → BeginsWith max Frames s 4
frame_least max s = record { least = λ u more h e. frame_length max u h }

-- with a SIZE in range it has eight
sized_length : (max : ℕ) (u : StreamUnit) (more : List ℕ) → IsSized max (bytes_of u ++ more) → IsUnit max Frames u → 8 ≤ length (bytes_of u)
sized_length max (HeaderUnit b) more s h = absurd h
sized_length max (FrameUnit b) more s h = omega arith
sized_length max (FaultUnit TooSmall b) more s h = let e = size-append b more (omega arith) in absurd (omega arith)
sized_length max (FaultUnit TooLarge b) more s h = let e = size-append b more (omega arith) in absurd (omega arith)
sized_length max (FaultUnit BadOffset b) more s h = omega arith
sized_length max (FaultUnit BadType b) more s h = omega arith

-- with a SIZE within its limits, none is shorter than eight
pub sized_least : (max : ℕ) (s : List ℕ) → IsSized max s → BeginsWith max Frames s 8
sized_least max s z = record { least = λ u more h e. sized_length max u more (subst (λ (w : List ℕ). IsSized max w) e z) h }

-- a lawful frame header that came whole
pub record IsLawful (max : ℕ) (bytes : List ℕ) : Type 0 where
  pub sized : IsSized max bytes
  pub placed : IsPlaced bytes
  pub typed : type_of bytes ≡ 0

-- with a lawful frame header it has SIZE bytes
lawful_length : (max : ℕ) (u : StreamUnit) (more : List ℕ) → IsLawful max (bytes_of u ++ more) → IsUnit max Frames u → size_of (bytes_of u ++ more) ≤ length (bytes_of u)
lawful_length max (HeaderUnit b) more s h = absurd h
lawful_length max (FrameUnit b) more s h = let e = size-append b more (omega arith) in omega arith
lawful_length max (FaultUnit TooSmall b) more s h = let e = size-append b more (omega arith) in absurd (omega arith)
lawful_length max (FaultUnit TooLarge b) more s h = let e = size-append b more (omega arith) in absurd (omega arith)
lawful_length max (FaultUnit BadOffset b) more s h =
    let e = size-append b more (omega arith) in
    let o = offset-append b more (omega arith) in
    elim h.2 [ inl p ↦ absurd (omega arith) | inr p ↦ absurd (omega arith) ]
lawful_length max (FaultUnit BadType b) more s h = let t = type-append b more (omega arith) in absurd (omega arith)

-- with a lawful header of a frame, none is shorter than SIZE
pub lawful_least : (max : ℕ) (s : List ℕ) → IsLawful max s → BeginsWith max Frames s (size_of s)
lawful_least max s z = record {
  least = λ u more h e.
      let p : size_of (bytes_of u ++ more) ≤ length (bytes_of u) = lawful_length max u more (subst (λ (w : List ℕ). IsLawful max w) e z) h in
      subst (λ (w : List ℕ). size_of w ≤ length (bytes_of u)) (sym e) p;
}

-- what is lawful stays so with more bytes behind it
pub lawful-append : (max : ℕ) (xs ys : List ℕ) → 8 ≤ length xs → IsLawful max xs → IsLawful max (xs ++ ys)
lawful-append max xs ys h z = record {
  sized = sized-append max xs ys (omega arith) z.sized;
  placed = placed-append xs ys h z.placed;
  typed = type-append xs ys h ∙ z.typed;
}

-- fewer bytes than that are no unit
pub rest_below : (max : ℕ) (stage : Stage) (s : List ℕ) (n : ℕ) → BeginsWith max stage s n → length s < n → IsRest max stage s
rest_below max stage s n b l = record {
  none = λ u more h e.
      let p = b.least u more h e in
      let q = ap length e ∙ length-append (bytes_of u) more in
      absurd (omega arith);
}

-- a unit begins these bytes
pub record HasFront (max : ℕ) (stage : Stage) (s : List ℕ) : Type 0 where
  pub unit : StreamUnit
  pub more : List ℕ
  pub is : IsUnit max stage unit
  pub joined : s ≡ bytes_of unit ++ more

nothing_more : (xs : List ℕ) → length xs ≡ 0 → xs ≡ []
nothing_more [] h = refl
nothing_more (x ∷ xs) h = absurd (omega arith)

-- so many bytes are a unit, if one begins them
one_if : (max : ℕ) (stage : Stage) (s : List ℕ) (n : ℕ) → BeginsWith max stage s n → length s ≤ n → HasFront max stage s → IsOne max stage s
one_if max stage s n b l f =
    let p = b.least f.unit f.more f.is f.joined in
    let q = ap length f.joined ∙ length-append (bytes_of f.unit) f.more in
    let e = nothing_more f.more (omega arith) in
    record { unit = f.unit; stands = record { is = f.is; whole = f.joined ∙ ap (λ (w : List ℕ). bytes_of f.unit ++ w) e ∙ append-nil (bytes_of f.unit) } }

cut : (n : ℕ) (s : List ℕ) → s ≡ take n s ++ drop n s
cut n s = sym (take-append-drop n s)

-- the front of n bytes says what the whole says
size_front : (n : ℕ) (s : List ℕ) → 4 ≤ n → n ≤ length s → size_of (take n s) ≡ size_of s
size_front n s h l =
    let p = length-take-le n s l in
    sym (size-append (take n s) (drop n s) (omega arith)) ∙ ap size_of (take-append-drop n s)

offset_front : (n : ℕ) (s : List ℕ) → 8 ≤ n → n ≤ length s → offset_of (take n s) ≡ offset_of s
offset_front n s h l =
    let p = length-take-le n s l in
    sym (offset-append (take n s) (drop n s) (omega arith)) ∙ ap (λ (w : List ℕ). offset_of w) (take-append-drop n s)

type_front : (n : ℕ) (s : List ℕ) → 8 ≤ n → n ≤ length s → type_of (take n s) ≡ type_of s
type_front n s h l =
    let p = length-take-le n s l in
    sym (type-append (take n s) (drop n s) (omega arith)) ∙ ap (λ (w : List ℕ). type_of w) (take-append-drop n s)

-- the unit that each frame header begins, once its bytes are there
pub small_front : (max : ℕ) (s : List ℕ) → 4 ≤ length s → size_of s < 8 → IsUnit max Frames (FaultUnit TooSmall (take 4 s))
small_front max s l h =
    let e = size_front 4 s (omega arith) l in
    let p = length-take-le 4 s l in
    (p, omega arith)

-- four bytes show a SIZE that is too large
pub large_front : (max : ℕ) (s : List ℕ) → 4 ≤ length s → max < size_of s → IsUnit max Frames (FaultUnit TooLarge (take 4 s))
large_front max s l h =
    let e = size_front 4 s (omega arith) l in
    let p = length-take-le 4 s l in
    (p, omega arith)

sized_front : (max n : ℕ) (s : List ℕ) → 4 ≤ n → n ≤ length s → IsSized max s → IsSized max (take n s)
sized_front max n s h l z = let e = size_front n s h l in record { least = omega arith; most = omega arith }

placed_front : (n : ℕ) (s : List ℕ) → 8 ≤ n → n ≤ length s → IsPlaced s → IsPlaced (take n s)
placed_front n s h l z =
    let e = size_front n s (omega arith) l in
    let o = offset_front n s h l in
    record { least = omega arith; within = omega arith }

-- eight bytes show a DOFF that is out of its place
pub offset_fault_front : (max : ℕ) (s : List ℕ) → 8 ≤ length s → IsSized max s → (offset_of s < 2) ⊎ (size_of s < 4 * offset_of s) → IsUnit max Frames (FaultUnit BadOffset (take 8 s))
offset_fault_front max s l z h =
    let e = size_front 8 s (omega arith) l in
    let o = offset_front 8 s (omega arith) l in
    (length-take-le 8 s l, sized_front max 8 s (omega arith) l z, rw (e, o) h)

-- eight bytes show a TYPE that is not 0
pub type_fault_front : (max : ℕ) (s : List ℕ) → 8 ≤ length s → IsSized max s → IsPlaced s → 0 < type_of s → IsUnit max Frames (FaultUnit BadType (take 8 s))
type_fault_front max s l z d h =
    let t = type_front 8 s (omega arith) l in
    (length-take-le 8 s l, sized_front max 8 s (omega arith) l z, placed_front 8 s (omega arith) l d, rw t h)

-- as many bytes as SIZE says are a frame, where its header is lawful
pub frame_front : (max : ℕ) (s : List ℕ) → IsLawful max s → size_of s ≤ length s → IsUnit max Frames (FrameUnit (take (size_of s) s))
frame_front max s z l =
    let e = size_front (size_of s) s (omega arith) l in
    record {
      whole = length-take-le (size_of s) s l ∙ sym e;
      sized = sized_front max (size_of s) s (omega arith) l z.sized;
      placed = placed_front (size_of s) s (omega arith) l z.placed;
      typed = type_front (size_of s) s (omega arith) l ∙ z.typed;
    }

front_of : (max : ℕ) (stage : Stage) (s : List ℕ) (u : StreamUnit) (n : ℕ) → bytes_of u ≡ take n s → IsUnit max stage u → HasFront max stage s
front_of max stage s u n b h = record { unit = u; more = drop n s; is = h; joined = cut n s ∙ ap (λ (w : List ℕ). w ++ drop n s) (sym b) }

front_lawful : (max : ℕ) (s : List ℕ) → IsLawful max s → IsRest max Frames s ⊎ HasFront max Frames s
front_lawful max s z =
    elim (cases_lt (length s) (size_of s)) [
      | inl below ↦ inl (rest_below max Frames s (size_of s) (lawful_least max s z) below)
      | inr l ↦ inr (front_of max Frames s (FrameUnit (take (size_of s) s)) (size_of s) refl (frame_front max s z l))
    ]

front_placed : (max : ℕ) (s : List ℕ) → 8 ≤ length s → IsSized max s → IsPlaced s → IsRest max Frames s ⊎ HasFront max Frames s
front_placed max s l z d =
    elim (cases_lt 0 (type_of s)) [
      | inl h ↦ inr (front_of max Frames s (FaultUnit BadType (take 8 s)) 8 refl (type_fault_front max s l z d h))
      | inr h ↦ front_lawful max s (record { sized = z; placed = d; typed = omega arith })
    ]

front_sized : (max : ℕ) (s : List ℕ) → 8 ≤ length s → IsSized max s → IsRest max Frames s ⊎ HasFront max Frames s
front_sized max s l z =
    elim (cases_lt (offset_of s) 2) [
      | inl h ↦ inr (front_of max Frames s (FaultUnit BadOffset (take 8 s)) 8 refl (offset_fault_front max s l z (inl h)))
      | inr least ↦ elim (cases_lt (size_of s) (4 * offset_of s)) [
        | inl h ↦ inr (front_of max Frames s (FaultUnit BadOffset (take 8 s)) 8 refl (offset_fault_front max s l z (inr h)))
        | inr within ↦ front_placed max s l z (record { least = least; within = within })
      ]
    ]

front_four : (max : ℕ) (s : List ℕ) → 4 ≤ length s → IsRest max Frames s ⊎ HasFront max Frames s
front_four max s l =
    elim (cases_lt (size_of s) 8) [
      | inl h ↦ inr (front_of max Frames s (FaultUnit TooSmall (take 4 s)) 4 refl (small_front max s l h))
      | inr least ↦ elim (cases_lt max (size_of s)) [
        | inl h ↦ inr (front_of max Frames s (FaultUnit TooLarge (take 4 s)) 4 refl (large_front max s l h))
        | inr most ↦ elim (cases_lt (length s) 8) [
          | inl below ↦ inl (rest_below max Frames s 8 (sized_least max s (record { least = least; most = most })) below)
          | inr eight ↦ front_sized max s eight (record { least = least; most = most })
        ]
      ]
    ]

front_none : (max : ℕ) (stage : Stage) (s : List ℕ) → ((u : StreamUnit) → IsUnit max stage u → ⊥) → IsRest max stage s
front_none max stage s h = record { none = λ u more is e. h u is }

-- either no unit begins these bytes or one does
pub front : (max : ℕ) (stage : Stage) (s : List ℕ) → IsRest max stage s ⊎ HasFront max stage s
front max Header s =
    elim (cases_lt (length s) 8) [
      | inl below ↦ inl (rest_below max Header s 8 (header_least max s) below)
      | inr l ↦ inr (front_of max Header s (HeaderUnit (take 8 s)) 8 refl (length-take-le 8 s l))
    ]
front max Frames s =
    elim (cases_lt (length s) 4) [
      | inl below ↦ inl (rest_below max Frames s 4 (frame_least max s) below)
      | inr l ↦ front_four max s l
    ]
front max Refused s = inl (front_none max Refused s (λ u h. h))
front max (Faulty f) s = inl (front_none max (Faulty f) s (λ u h. h))

-- so many bytes are less than a unit, or one
pub part_upto : (max : ℕ) (stage : Stage) (s : List ℕ) (n : ℕ) → BeginsWith max stage s n → length s ≤ n → IsRest max stage s ⊎ IsOne max stage s
part_upto max stage s n b l = elim (front max stage s) [ inl r ↦ inl r | inr f ↦ inr (one_if max stage s n b l f) ]

-- what is held is no more than the unit that begins it
pub held_front : (max : ℕ) (stage : Stage) (s : List ℕ) (u : StreamUnit) (more : List ℕ) → 8 ≤ max → IsRest max stage s ⊎ IsOne max stage s → IsUnit max stage u → s ≡ bytes_of u ++ more →
    s ≡ bytes_of u
held_front max stage s u more m (inl r) h e = absurd (r.none u more h e)
held_front max stage s u more m (inr o) h e =
    let same = one_front max stage u o.unit more [] m h o.stands.is (sym e ∙ o.stands.whole ∙ sym (append-nil (bytes_of o.unit))) in
    o.stands.whole ∙ ap bytes_of (sym same.0)

-- so many bytes are wanted where each unit that begins these and more has n bytes
wanted_to : (max n : ℕ) (s : List ℕ) → n ≤ max → length s < n → BeginsWith max Frames s n → ((more : List ℕ) → BeginsWith max Frames (s ++ more) n) → n - length s ≡ frame_asks s →
    IsProgress max s (Wants (n - length s))
wanted_to max n s m l here beyond asked = (
  omega arith,
  rest_below max Frames s n here l,
  record {
    fits = omega arith;
    held = λ more h. part_upto max Frames (s ++ more) n (beyond more) (omega (arith, length-append s more));
  },
  asked,
)

-- below four bytes the rest of SIZE is asked for, below eight that of the header, and then that of the frame
asks_size : (s : List ℕ) → length s < 4 → 4 - length s ≡ frame_asks s
asks_size s l = sym (ap (λ (b : Bool). if b then 4 - length s else (if nat_lt (length s) 8 then 8 - length s else size_of s - length s)) (lt-ltb (length s) 4 l))

asks_header : (s : List ℕ) → 4 ≤ length s → length s < 8 → 8 - length s ≡ frame_asks s
asks_header s f l =
    sym (
    ap (λ (b : Bool). if b then 4 - length s else (if nat_lt (length s) 8 then 8 - length s else size_of s - length s)) (le-ltb (length s) 4 f)
    ∙ ap (λ (b : Bool). if b then 8 - length s else size_of s - length s) (lt-ltb (length s) 8 l)
    )

asks_body : (s : List ℕ) → 8 ≤ length s → size_of s - length s ≡ frame_asks s
asks_body s f =
    sym (
    ap (λ (b : Bool). if b then 4 - length s else (if nat_lt (length s) 8 then 8 - length s else size_of s - length s)) (le-ltb (length s) 4 (omega (arith, f)))
    ∙ ap (λ (b : Bool). if b then 8 - length s else size_of s - length s) (le-ltb (length s) 8 f)
    )

-- below four bytes the rest of SIZE is wanted
pub wants_size : (max : ℕ) (s : List ℕ) → 8 ≤ max → length s < 4 → IsProgress max s (Wants (4 - length s))
wants_size max s m l = wanted_to max 4 s (omega arith) l (frame_least max s) (λ more. frame_least max (s ++ more)) (asks_size s l)

-- below eight the rest of the frame's header
pub wants_header : (max : ℕ) (s : List ℕ) → 8 ≤ max → 4 ≤ length s → length s < 8 → IsSized max s → IsProgress max s (Wants (8 - length s))
wants_header max s m f l z = wanted_to max 8 s m l (sized_least max s z) (λ more. sized_least max (s ++ more) (sized-append max s more f z)) (asks_header s f l)

-- and then the rest of the frame
pub wants_body : (max : ℕ) (s : List ℕ) → 8 ≤ length s → length s < size_of s → IsLawful max s → IsProgress max s (Wants (size_of s - length s))
wants_body max s f l z =
    wanted_to max (size_of s) s (omega arith) l (lawful_least max s z) (λ more.
    let P : ℕ → Type 0 = λ n. BeginsWith max Frames (s ++ more) n in
    subst P (size-append s more (omega arith)) (lawful_least max (s ++ more) (lawful-append max s more f z)))
    (asks_body s f)

-- what is held is a unit, where one begins it
held_unit : (max : ℕ) (s : List ℕ) (n : ℕ) (f : FrameFault) → 8 ≤ max → IsHeld max Frames s → IsUnit max Frames (FaultUnit f (take n s)) → IsProgress max s (Fails f)
held_unit max s n f m held h =
    subst (λ (w : List ℕ). IsUnit max Frames (FaultUnit f w)) (sym (held_front max Frames s (FaultUnit f (take n s)) (drop n s) m held h (cut n s))) h

-- a SIZE below eight is the fault that progress says
pub fails_small : (max : ℕ) (s : List ℕ) → 8 ≤ max → IsHeld max Frames s → 4 ≤ length s → size_of s < 8 → IsProgress max s (Fails TooSmall)
fails_small max s m held l h = held_unit max s 4 TooSmall m held (small_front max s l h)

-- so is one that is too large
pub fails_large : (max : ℕ) (s : List ℕ) → 8 ≤ max → IsHeld max Frames s → 4 ≤ length s → max < size_of s → IsProgress max s (Fails TooLarge)
fails_large max s m held l h = held_unit max s 4 TooLarge m held (large_front max s l h)

-- so is a DOFF out of its place
pub fails_offset : (max : ℕ) (s : List ℕ) → 8 ≤ max → IsHeld max Frames s → 8 ≤ length s → IsSized max s → (offset_of s < 2) ⊎ (size_of s < 4 * offset_of s) → IsProgress max s (Fails BadOffset)
fails_offset max s m held l z h = held_unit max s 8 BadOffset m held (offset_fault_front max s l z h)

-- so is a TYPE that is not 0
pub fails_type : (max : ℕ) (s : List ℕ) → 8 ≤ max → IsHeld max Frames s → 8 ≤ length s → IsSized max s → IsPlaced s → 0 < type_of s → IsProgress max s (Fails BadType)
fails_type max s m held l z d h = held_unit max s 8 BadType m held (type_fault_front max s l z d h)

-- a lawful frame with all its bytes is whole
pub is_whole : (max : ℕ) (s : List ℕ) → 8 ≤ max → IsHeld max Frames s → IsLawful max s → size_of s ≤ length s → IsProgress max s Whole
is_whole max s m held z l =
    let h = frame_front max s z l in
    subst (λ (w : List ℕ). IsFrame max w) (sym (held_front max Frames s (FrameUnit (take (size_of s) s)) (drop (size_of s) s) m held h (cut (size_of s) s))) h

-- no more than a header is held where one is due
pub header_upto : (max : ℕ) (s : List ℕ) → IsHeld max Header s → length s ≤ 8
header_upto max s (inl r) =
    elim (cases_lt 8 (length s)) [
      | inl h ↦ absurd (r.none (HeaderUnit (take 8 s)) (drop 8 s) (length-take-le 8 s (omega arith)) (cut 8 s))
      | inr h ↦ h
    ]
header_upto max s (inr o) = let q = header_exact max o.unit o.stands.is in let e = ap length o.stands.whole in omega arith

-- what lacks of a header is wanted
pub wants_eight : (max : ℕ) (s : List ℕ) → 8 ≤ max → IsHeld max Header s → IsWanted max Header s (8 - length s)
wants_eight max s m held =
    let l = header_upto max s held in
    record {
      fits = omega arith;
      held = λ more h. part_upto max Header (s ++ more) 8 (header_least max (s ++ more)) (omega (arith, length-append s more));
    }

-- eight bytes are the one unit where the header is due
pub header_one : (max : ℕ) (s : List ℕ) → length s ≡ 8 → IsOne max Header s
header_one max s h = record { unit = HeaderUnit s; stands = record { is = h; whole = refl } }

-- a frame is one unit
pub frame_one : (max : ℕ) (s : List ℕ) → IsFrame max s → IsOne max Frames s
frame_one max s h = record { unit = FrameUnit s; stands = record { is = h; whole = refl } }

-- the bytes that show a fault are one unit
pub fault_one : (max : ℕ) (f : FrameFault) (s : List ℕ) → IsFault max f s → IsOne max Frames s
fault_one max f s h = record { unit = FaultUnit f s; stands = record { is = h; whole = refl } }

-- nothing more is wanted
pub wants_none : (max : ℕ) (stage : Stage) (s : List ℕ) → length s ≤ max → IsHeld max stage s → IsWanted max stage s 0
wants_none max stage s l held = record {
  fits = omega arith;
  held = λ more h. rw (nothing_more more (omega arith), append-nil s) held;
}

-- a fault shows within eight bytes
pub fault_length : (max : ℕ) (f : FrameFault) (s : List ℕ) → IsFault max f s → length s ≤ 8
fault_length max TooSmall s h = omega arith
fault_length max TooLarge s h = omega arith
fault_length max BadOffset s h = omega arith
fault_length max BadType s h = omega arith

-- what begins what is held
pub front_held : (max : ℕ) (stage : Stage) (s : List ℕ) (u : StreamUnit) (more : List ℕ) → 8 ≤ max → IsHeld max stage s → IsUnit max stage u → s ≡ bytes_of u ++ more → s ≡ bytes_of u
front_held max Header s u more m held h e = held_front max Header s u more m held h e
front_held max Frames s u more m held h e = held_front max Frames s u more m held h e
front_held max Refused s u more m held h e = absurd h
front_held max (Faulty f) s u more m held h e = absurd h

same_length : (xs ys more : List ℕ) → xs ≡ ys → xs ≡ ys ++ more → length more ≡ 0
same_length xs ys more e f =
    let p = ap length e in
    let q = ap length f ∙ length-append ys more in
    omega arith

-- before its last byte what is held was less than a unit
pub rest_before : (max : ℕ) (stage : Stage) (s more : List ℕ) → 8 ≤ max → IsHeld max stage (s ++ more) → 0 < length more → IsRest max stage s
rest_before max stage s more m held l = record {
  none = λ u after is e.
      let joined : s ++ more ≡ bytes_of u ++ (after ++ more) = ap (λ (w : List ℕ). w ++ more) e ∙ append_assoc (bytes_of u) after more in
      let whole = front_held max stage (s ++ more) u (after ++ more) m held is joined in
      let none = same_length (s ++ more) (bytes_of u) (after ++ more) whole joined in
      absurd (omega (arith, length-append after more));
}

-- nothing comes behind a unit
pub none_behind : (max : ℕ) (stage : Stage) (s more : List ℕ) → 8 ≤ max → IsHeld max stage (s ++ more) → IsOne max stage s ⊎ IsOver stage → length more ≡ 0
none_behind max stage s more m held (inl o) =
    let joined : s ++ more ≡ bytes_of o.unit ++ more = ap (λ (w : List ℕ). w ++ more) o.stands.whole in
    same_length (s ++ more) (bytes_of o.unit) more (front_held max stage (s ++ more) o.unit more m held o.stands.is joined) joined
none_behind max Header s more m held (inr o) = absurd o
none_behind max Frames s more m held (inr o) = absurd o
none_behind max Refused s more m held (inr o) = let e = ap length held in omega (arith, length-append s more)
none_behind max (Faulty f) s more m held (inr o) = let e = ap length held in omega (arith, length-append s more)

-- one unit waits at most
pub one_waits : (max : ℕ) (stage : Stage) (s : List ℕ) (u v : StreamUnit) → 8 ≤ max → Stands max stage s u → Stands max stage s v → u ≡ v
one_waits max stage s u v m a b =
    (one_front max stage u v [] [] m a.is b.is (append-nil (bytes_of u) ∙ sym a.whole ∙ b.whole ∙ sym (append-nil (bytes_of v)))).0

-- an empty buffer is no unit
pub none_held : (max : ℕ) (stage : Stage) → IsHeld max stage []
none_held max Header = inl (rest_below max Header [] 8 (header_least max []) (omega arith))
none_held max Frames = inl (rest_below max Frames [] 4 (frame_least max []) (omega arith))
none_held max Refused = refl
none_held max (Faulty f) = refl

-- nothing more is wanted of a whole frame or of a fault
pub judged : (max : ℕ) (s : List ℕ) (p : Progress) → 8 ≤ max → IsProgress max s p → (p ≡ Whole) ⊎ ((f : FrameFault) × (p ≡ Fails f)) → (length s ≤ max) × IsOne max Frames s
judged max s Whole m h e = (omega arith, frame_one max s h)
judged max s (Fails f) m h e = (let l = fault_length max f s h in omega arith, fault_one max f s h)
judged max s (Wants n) m h (inl e) = absurd (cc)
judged max s (Wants n) m h (inr e) = absurd (let f = e.1 in cc)

-- the header that waits, and what is due behind it
pub next_header : (max : ℕ) (s : List ℕ) (next : Stage) → IsHeld max Header s → 8 ≤ length s → next ≡ due_after (HeaderUnit s) → IsNext max Header s (Some next)
next_header max s next held l e =
    let u = header_upto max s held in
    (HeaderUnit s, record { is = omega arith; whole = refl }, e)

-- so far the bytes are less than a unit
pub rest_early : (max : ℕ) (stage : Stage) (s piece : List ℕ) (n k : ℕ) → 8 ≤ max → IsHeld max stage (s ++ take n piece) → n ≤ length piece → k < n → IsRest max stage (s ++ take k piece)
rest_early max stage s piece n k m held l h =
    let more = take (n - k) (drop k piece) in
    let number : k + (n - k) ≡ n = omega arith in
    let parts : take n piece ≡ take k piece ++ more = ap (λ (i : ℕ). take i piece) (sym number) ∙ take-add k (n - k) piece in
    let joined : s ++ take n piece ≡ (s ++ take k piece) ++ more = ap (λ (w : List ℕ). s ++ w) parts ∙ sym (append_assoc s (take k piece) more) in
    let size : 0 < length more = simp (length-take, length-drop) (omega arith) in
    rest_before max stage (s ++ take k piece) more m (subst (λ (w : List ℕ). IsHeld max stage w) joined held) size

-- where a unit waits, or none is due any more, no byte is taken
pub none_taken : (max : ℕ) (stage : Stage) (s piece : List ℕ) (n : ℕ) → 8 ≤ max → IsHeld max stage (s ++ take n piece) → n ≤ length piece → IsOne max stage s ⊎ IsOver stage → n ≡ 0
none_taken max stage s piece n m held l full = sym (length-take-le n piece l) ∙ none_behind max stage s (take n piece) m held full

-- a second part of a piece behind a first
pub taken_more : (old now new piece : List ℕ) (at count : ℕ) → now ≡ old ++ take at piece → new ≡ now ++ take count (take (length piece - at) (drop at piece)) → new ≡ old ++ take (at + count) piece
taken_more old now new piece at count e f =
    let rest : take (length piece - at) (drop at piece) ≡ drop at piece = ap (λ (n : ℕ). take n (drop at piece)) (sym (length-drop at piece)) ∙ take-length (drop at piece) in
    f ∙ ap (λ (w : List ℕ). now ++ take count w) rest ∙ ap (λ (w : List ℕ). w ++ take count (drop at piece)) e
    ∙ append_assoc old (take at piece) (take count (drop at piece)) ∙ ap (λ (w : List ℕ). old ++ w) (sym (take-add at count piece))

-- what stands behind a place is as long as the piece lacks there
pub length_rest : (piece : List ℕ) (at : ℕ) → length (take (length piece - at) (drop at piece)) ≡ length piece - at
length_rest piece at = simp (length-take, length-drop) (omega arith)

-- what the bytes say of the whole frame at their front
pub record IsWholeAt (max : ℕ) (s : List ℕ) (n : ℕ) : Type 0 where
  pub size : n ≡ size_of s
  pub eight : 8 ≤ n
  pub lawful : IsLawful max s

-- a front that is a frame ends where progress says
pub whole_at : (max : ℕ) (s : List ℕ) (n : ℕ) → n ≤ length s → IsFrame max (take n s) → IsWholeAt max s n
whole_at max s n l h =
    let p = length-take-le n s l in
    let eight : 8 ≤ n = let w = h.whole in let z = h.sized.least in omega arith in
    let e = size_front n s (omega arith) l in
    let o = offset_front n s eight l in
    let t = type_front n s eight l in
    record {
      size = let w = h.whole in omega arith;
      eight = eight;
      lawful = record {
        sized = record { least = let z = h.sized.least in omega arith; most = let z = h.sized.most in omega arith };
        placed = record { least = let d = h.placed.least in omega arith; within = let d = h.placed.within in omega arith };
        typed = sym t ∙ h.typed;
      };
    }

-- of an empty buffer four bytes are wanted
pub judged_none : (max : ℕ) (stage : Stage) → 8 ≤ max → IsJudged max stage [] (Wants 4)
judged_none max Header m = tt
judged_none max Frames m = wants_size max [] m (omega arith)
judged_none max Refused m = tt
judged_none max (Faulty f) m = tt

-- an empty buffer is sound
pub sound_none : (max : ℕ) (stage : Stage) (reserved : ℕ) → 8 ≤ max → max ≤ reserved → IsSound max stage [] reserved (Wants 4)
sound_none max stage reserved m r = record { least = m; room = r; held = none_held max stage; judged = judged_none max stage m }

-- the frame that lay whole in a piece waits
pub whole_one : (max : ℕ) (stage : Stage) (held piece new : List ℕ) (size : ℕ) → IsWholeIn max stage held piece (Some size) → new ≡ held ++ take size piece → IsOne max stage new
whole_one max stage held piece new size w e =
    let frame : IsOne max Frames (take size piece) = frame_one max (take size piece) w.2.1 in
    rw (w.0, e, w.1) frame

-- a frame that is taken whole out of a piece leaves a splitter in order
pub whole_sound : (max : ℕ) (stage : Stage) (held piece new : List ℕ) (size reserved : ℕ) → 8 ≤ max → max ≤ reserved →
    IsWholeIn max stage held piece (Some size) → new ≡ held ++ take size piece → IsSound max stage new reserved Whole
whole_sound max stage held piece new size reserved m r w e =
    let here : IsHeld max Frames (take size piece) = inr (frame_one max (take size piece) w.2.1) in
    let frame : IsSound max Frames (take size piece) reserved Whole = record { least = m; room = r; held = here; judged = w.2.1 } in
    rw (w.0, e, w.1) frame

front_waits : (s : SplitterState) → 8 ≤ s.limit → (u : StreamUnit) (more : List ℕ) → IsUnit s.limit s.stage u → s.filled ≡ bytes_of u ++ more →
    ((v : StreamUnit) × Waits s v) ⊎ ((v : StreamUnit) → Waits s v → ⊥)
front_waits s least u [] is e = inl (u, record { is = is; whole = e ∙ append-nil (bytes_of u) })
front_waits s least u (x ∷ more) is e =
    inr (λ v w. let same = one_front s.limit s.stage u v (x ∷ more) [] least is w.is (sym e ∙ w.whole ∙ sym (append-nil (bytes_of v))) in absurd (grind (arith, same.1)))

-- a unit waits, or none does
pub waits_or_not : (s : SplitterState) → 8 ≤ s.limit → ((u : StreamUnit) × Waits s u) ⊎ ((u : StreamUnit) → Waits s u → ⊥)
waits_or_not s least =
    elim (front s.limit s.stage s.filled) [
      | inl r ↦ inr (λ u w. r.none u [] w.is (w.whole ∙ sym (append-nil (bytes_of u))))
      | inr f ↦ front_waits s least f.unit f.more f.is f.joined
    ]

-- What is asked for. ------------------------------------------------------------------------------------------------------

-- less than a unit is none
not_one : (max : ℕ) (stage : Stage) (s : List ℕ) → IsRest max stage s → IsOne max stage s → ⊥
not_one max stage s r o = r.none o.unit [] o.stands.is (o.stands.whole ∙ sym (append-nil (bytes_of o.unit)))

-- of a header what is left of eight bytes
pub asked_header : (max : ℕ) (s : List ℕ) → AsksNext max Header s (8 - length s)
asked_header max s = record {
  none = λ o. let q = header_exact max o.unit o.stands.is in let e = ap length o.stands.whole in omega (arith, q, e);
  some = λ none. refl;
}

-- of a frame what its progress says
pub asked_more : (max : ℕ) (s : List ℕ) (n : ℕ) → IsProgress max s (Wants n) → AsksNext max Frames s n
asked_more max s n p = record { none = λ o. absurd (not_one max Frames s p.1 o); some = λ none. p.3 }

-- nothing where a unit waits
pub asked_none : (max : ℕ) (stage : Stage) (s : List ℕ) → IsOne max stage s → AsksNext max stage s 0
asked_none max stage s o = record { none = λ one. refl; some = λ none. absurd (none o) }

-- and nothing once it is over
pub asked_over : (max : ℕ) (stage : Stage) (s : List ℕ) → IsOver stage → AsksNext max stage s 0
asked_over max Header s o = absurd o
asked_over max Frames s o = absurd o
asked_over max Refused s o = record { none = λ one. refl; some = λ none. refl }
asked_over max (Faulty f) s o = record { none = λ one. refl; some = λ none. refl }

-- what is asked for of a header may come
asked_of_header : (max : ℕ) (s : List ℕ) (n : ℕ) → 8 ≤ max → IsHeld max Header s → AsksNext max Header s n → IsRest max Header s ⊎ IsOne max Header s → IsWanted max Header s n
asked_of_header max s n m held a (inl r) = subst (λ (k : ℕ). IsWanted max Header s k) (sym (a.some (not_one max Header s r))) (wants_eight max s m held)
asked_of_header max s n m held a (inr o) =
    subst (λ (k : ℕ). IsWanted max Header s k) (sym (a.none o)) (wants_none max Header s (let l = header_upto max s held in omega (arith, l, m)) held)

-- what is asked for may come
pub asked_wanted : (max : ℕ) (stage : Stage) (s : List ℕ) (p : Progress) (n : ℕ) → 8 ≤ max → IsHeld max stage s → IsJudged max stage s p → AsksNext max stage s n → IsWanted max stage s n
asked_wanted max Header s p n m held j a =
    asked_of_header max s n m held a held
asked_wanted max Frames s (Wants k) n m held j a = subst (λ (i : ℕ). IsWanted max Frames s i) (j.3 ∙ sym (a.some (not_one max Frames s j.1))) j.2
asked_wanted max Frames s Whole n m held j a =
    let known = judged max s Whole m j (inl refl) in subst (λ (i : ℕ). IsWanted max Frames s i) (sym (a.none known.1)) (wants_none max Frames s known.0 held)
asked_wanted max Frames s (Fails f) n m held j a =
    let known = judged max s (Fails f) m j (inr (f, refl)) in subst (λ (i : ℕ). IsWanted max Frames s i) (sym (a.none known.1)) (wants_none max Frames s known.0 held)
asked_wanted max Refused s p n m held j a =
    let l = ap length held in subst (λ (i : ℕ). IsWanted max Refused s i) (sym (a.some (λ o. o.stands.is))) (wants_none max Refused s (omega (arith, l)) held)
asked_wanted max (Faulty f) s p n m held j a =
    let l = ap length held in subst (λ (i : ℕ). IsWanted max (Faulty f) s i) (sym (a.some (λ o. o.stands.is))) (wants_none max (Faulty f) s (omega (arith, l)) held)

-- as many as may come find room behind what is held, and are held there
pub room_filled : (s : SplitterState) (p : Progress) (n : ℕ) → IsSound s.limit s.stage s.filled (length s.filled + length s.spare) p → MayCome s n →
    (n ≤ length s.spare) × IsHeld s.limit s.stage (s.filled ++ take n s.spare)
room_filled s p n sound (inl none) =
    (omega (arith, none), subst (λ (k : ℕ). IsHeld s.limit s.stage (s.filled ++ take k s.spare)) (sym none) (subst (λ (w : List ℕ). IsHeld s.limit s.stage w) (sym (append-nil s.filled)) sound.held))
room_filled s p n sound (inr asked) =
    let wanted = asked_wanted s.limit s.stage s.filled p asked.0 sound.least sound.held sound.judged asked.1 in
    let room : n ≤ length s.spare = let fits = wanted.fits in let reserved = sound.room in let most = asked.2 in omega (arith, fits, reserved, most) in
    let long = length-take-le n s.spare room in
    (room, wanted.held (take n s.spare) (let most = asked.2 in omega (arith, long, most)))

-- then all of it is taken, as of a piece
pub room_taken : (old new : SplitterState) (n : ℕ) → 8 ≤ old.limit → n ≤ length old.spare → IsHeld old.limit old.stage (old.filled ++ take n old.spare) →
    new.limit ≡ old.limit → new.stage ≡ old.stage → new.filled ≡ old.filled ++ take n old.spare → IsTaken old new (take n old.spare) n
room_taken old new n least room held limit stage filled =
    let long = length-take-le n old.spare room in
    let same : take n (take n old.spare) ≡ take n old.spare = ap (λ (k : ℕ). take k (take n old.spare)) (sym long) ∙ take-length (take n old.spare) in
    let whole : IsHeld old.limit old.stage (old.filled ++ take n (take n old.spare)) = subst (λ (w : List ℕ). IsHeld old.limit old.stage (old.filled ++ w)) (sym same) held in
    record {
      bound = omega (arith, long);
      limit = limit;
      stage = stage;
      filled = filled ∙ ap (λ (w : List ℕ). old.filled ++ w) (sym same);
      all = λ h. absurd (omega (arith, h, long));
      full = none_taken old.limit old.stage old.filled (take n old.spare) n least whole (omega (arith, long));
      early = λ k h. rest_early old.limit old.stage old.filled (take n old.spare) n k least whole (omega (arith, long)) (omega (arith, h));
    }

-- where no frame is due nothing is judged
pub judged_other : (max : ℕ) (stage : Stage) (s : List ℕ) (p : Progress) → (stage ≡ Frames → ⊥) → IsJudged max stage s p
judged_other max Header s p other = tt
judged_other max Frames s p other = absurd (other refl)
judged_other max Refused s p other = tt
judged_other max (Faulty f) s p other = tt
