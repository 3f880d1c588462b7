-- What is kept true of an endpoint.
use Rattle.std.proofs.Common.{arith, ◌≡◌, ℕ, zero, suc, ◌*◌, ◌≤◌, ◌⊎◌, inl, inr, List, [], ◌∷◌, ◌++◌, length, take, drop, refl, sym, ap, ◌∙◌, subst}
use Rattle.std.specs.Prelude.{unwrap_or, slice_get}
use Rattle.std.proofs.lemmas.Bool.{cases_lt}
use Rattle.std.proofs.lemmas.List.{append-nil, take-append-drop, length-take-le}
use Rattle.amqp_frame.specs.Splits.{SplitterState, IsOver, Waits, IsOne, IsHeld, IsEmptied}
use Rattle.amqp_frame.specs.Units.{StreamUnit, HeaderUnit, FrameUnit, FaultUnit, bytes_of, due_after, IsUnit, IsRest, IsSized, IsPlaced, size_of, offset_of, type_of}
use Rattle.amqp_frame.specs.declared.units.FrameFault.TheVariants.{TooSmall, TooLarge, BadOffset, BadType}
use Rattle.amqp_frame.specs.declared.units.Stage.{Stage}
use Rattle.amqp_frame.specs.declared.units.Stage.TheVariants.{Header, Frames, Refused, Faulty}
use Rattle.amqp_frame.proofs.Fronts.{small_front, large_front, offset_fault_front, type_fault_front, frame_front, header_upto, fault_length}
use Rattle.amqp_session.specs.declared.slot.Slot.{Slot}
use Rattle.amqp_session.specs.declared.slot.Slot.TheVariants.{Free}
use Rattle.amqp_session.specs.Places.{AllGone, tabulate, places_from}
use Rattle.amqp_session.specs.Sessions.{SessionState, session_begins, session_after}
use Rattle.amqp_endpoint.specs.Configs.{Configured}
use Rattle.amqp_endpoint.specs.Connections.{ConnectionState, connection_begins, connection_after, Finished}
use Rattle.amqp_endpoint.specs.Endpoints.{IsEndpoint}
use Rattle.amqp_endpoint.specs.Runs.{IsFinished}
use Rattle.amqp_endpoint.specs.Steps.{EndpointState}

-- Units that are held. --------------------------------------------------------------------------------------------------

-- so many bytes begin with a unit
refuted : (max : ℕ) (stage : Stage) (s : List ℕ) (n : ℕ) (u : StreamUnit) → IsRest max stage s → bytes_of u ≡ take n s → IsUnit max stage u → ⊥
refuted max stage s n u r e is = r.none u (drop n s) is (sym (take-append-drop n s) ∙ ap (λ (w : List ℕ). w ++ drop n s) (sym e))

placed_few : (max : ℕ) (s : List ℕ) → 8 ≤ max → max ≤ length s → IsRest max Frames s → IsSized max s → IsPlaced s → ⊥
placed_few max s m l r z d =
    elim (cases_lt 0 (type_of s)) [
      | inl h ↦ refuted max Frames s 8 (FaultUnit BadType (take 8 s)) r refl (type_fault_front max s (omega arith) z d h)
      | inr h ↦ refuted max Frames s (size_of s) (FrameUnit (take (size_of s) s)) r refl (frame_front max s (record { sized = z; placed = d; typed = omega arith }) (omega (arith, z.most)))
    ]

sized_few : (max : ℕ) (s : List ℕ) → 8 ≤ max → max ≤ length s → IsRest max Frames s → IsSized max s → ⊥
sized_few max s m l r z =
    elim (cases_lt (offset_of s) 2) [
      | inl h ↦ refuted max Frames s 8 (FaultUnit BadOffset (take 8 s)) r refl (offset_fault_front max s (omega arith) z (inl h))
      | inr least ↦ elim (cases_lt (size_of s) (4 * offset_of s)) [
        | inl h ↦ refuted max Frames s 8 (FaultUnit BadOffset (take 8 s)) r refl (offset_fault_front max s (omega arith) z (inr h))
        | inr within ↦ placed_few max s m l r z (record { least = least; within = within })
      ]
    ]

-- less than a header is less than eight bytes
pub header_few : (max : ℕ) (s : List ℕ) → 8 ≤ length s → IsRest max Header s → ⊥
header_few max s l r = refuted max Header s 8 (HeaderUnit (take 8 s)) r refl (length-take-le 8 s l)

-- less than a unit is less than the longest frame
pub rest_few : (max : ℕ) (s : List ℕ) → 8 ≤ max → max ≤ length s → IsRest max Frames s → ⊥
rest_few max s m l r =
    elim (cases_lt (size_of s) 8) [
      | inl h ↦ refuted max Frames s 4 (FaultUnit TooSmall (take 4 s)) r refl (small_front max s (omega arith) h)
      | inr least ↦ elim (cases_lt max (size_of s)) [
        | inl h ↦ refuted max Frames s 4 (FaultUnit TooLarge (take 4 s)) r refl (large_front max s (omega arith) h)
        | inr most ↦ sized_few max s m l r (record { least = least; most = most })
      ]
    ]

unit_few : (max : ℕ) (u : StreamUnit) → 8 ≤ max → IsUnit max Frames u → length (bytes_of u) ≤ max
unit_few max (HeaderUnit bytes) m is = absurd is
unit_few max (FrameUnit bytes) m is = omega (arith, is.whole, is.sized.most)
unit_few max (FaultUnit f bytes) m is = omega (arith, fault_length max f bytes is)

-- what is held is at most the longest frame
pub held_few : (max : ℕ) (stage : Stage) (s : List ℕ) → 8 ≤ max → IsHeld max stage s → length s ≤ max
held_few max Header s m held = omega (arith, header_upto max s held)
held_few max Frames s m (inl r) =
    elim (cases_lt max (length s)) [
      | inl h ↦ absurd (rest_few max s m (omega (arith, h)) r)
      | inr h ↦ h
    ]
held_few max Frames s m (inr o) = omega (arith, unit_few max o.unit m o.stands.is, ap length o.stands.whole)
held_few max Refused s m held = omega (arith, ap length held)
held_few max (Faulty f) s m held = omega (arith, ap length held)

-- it is a unit or not
one_or_not : (max : ℕ) (stage : Stage) (s : List ℕ) → IsHeld max stage s → IsOne max stage s ⊎ (IsOne max stage s → ⊥)
one_or_not max Header s (inl r) = inr (λ o. r.none o.unit [] o.stands.is (o.stands.whole ∙ sym (append-nil (bytes_of o.unit))))
one_or_not max Header s (inr o) = inl o
one_or_not max Frames s (inl r) = inr (λ o. r.none o.unit [] o.stands.is (o.stands.whole ∙ sym (append-nil (bytes_of o.unit))))
one_or_not max Frames s (inr o) = inl o
one_or_not max Refused s held = inr (λ o. o.stands.is)
one_or_not max (Faulty f) s held = inr (λ o. o.stands.is)

-- At the end of the input. ----------------------------------------------------------------------------------------------

-- the buffer is empty, and a header is due only where it was before
pub record IsEnded (old new : SplitterState) : Type 0 where
  pub limit : new.limit ≡ old.limit
  pub filled : new.filled ≡ []
  pub header : new.stage ≡ Header → old.stage ≡ Header

-- no header is due behind a unit
pub due_no_header : (u : StreamUnit) → due_after u ≡ Header → ⊥
due_no_header (HeaderUnit bytes) e = absurd (grind (arith, e))
due_no_header (FrameUnit bytes) e = absurd (grind (arith, e))
due_no_header (FaultUnit f bytes) e = absurd (grind (arith, e))

-- what a finish does to the input
pub ended : (old new : SplitterState) → IsHeld old.limit old.stage old.filled → ((u : StreamUnit) → Waits old u → IsEmptied old new (due_after u)) →
    ((IsOne old.limit old.stage old.filled → ⊥) → IsEmptied old new old.stage) → IsEnded old new
ended old new held goes rest = by_one (one_or_not old.limit old.stage old.filled held)
  where
    by_one : IsOne old.limit old.stage old.filled ⊎ (IsOne old.limit old.stage old.filled → ⊥) → IsEnded old new
    by_one (inl o) = let e = goes o.unit o.stands in record { limit = e.limit; filled = e.filled; header = λ h. absurd (due_no_header o.unit (sym e.stage ∙ h)) }
    by_one (inr none) = let e = rest none in record { limit = e.limit; filled = e.filled; header = λ h. sym e.stage ∙ h }

gone_at : (k : ℕ) (slots : List (Slot SessionState)) (i : ℕ) → unwrap_or (slice_get (places_from session_begins session_after k AllGone slots) i) Free ≡ Free
gone_at k [] i = refl
gone_at k (s ∷ slots) zero = refl
gone_at k (s ∷ slots) (suc i) = gone_at (suc k) slots i

-- it leaves what holds of every endpoint
pub still_sound : (old new : SplitterState) (unsent : List ℕ) (s : ConnectionState) → IsEndpoint old unsent s → IsEnded old new → IsHeld new.limit new.stage new.filled →
    IsEndpoint new unsent (connection_after s Finished)
still_sound old new unsent s sound ended held = record {
  limit = ended.limit ∙ sound.limit;
  least = omega (arith, ended.limit, sound.least);
  most = omega (arith, ended.limit, sound.most);
  held = held;
  over = λ o. refl;
  fresh = λ e. let was = sound.fresh (ended.header e) in record { none = was.none; shut = refl; free = λ channel. gone_at 0 s.sessions channel };
}

-- and is the finish of the whole endpoint
pub is_finished : (old : EndpointState) (input : SplitterState) (s : ConnectionState) → IsEnded old.input input → s ≡ connection_after old.connection Finished →
    IsFinished old (record { input = input; unsent = old.unsent; connection = s })
is_finished old input s ended e = record { limit = ended.limit; filled = ended.filled; unsent = refl; connection = e }

-- At the start. ---------------------------------------------------------------------------------------------------------

-- a table of free places has nothing anywhere
pub free_at : (k n i : ℕ) → unwrap_or (slice_get (tabulate {A = Slot SessionState} k n (λ j. Free)) i) Free ≡ Free
free_at k zero i = refl
free_at k (suc n) zero = refl
free_at k (suc n) (suc i) = free_at (suc k) n i

-- a new endpoint has what holds of every endpoint
pub sound_start : (config : Configured) (max : ℕ) (input : SplitterState) → (input.limit ≡ max) × (input.stage ≡ Header) × (input.filled ≡ []) → max ≡ config.max_frame → 512 ≤ max → max ≤ 1048576 →
    IsHeld input.limit input.stage input.filled → IsEndpoint input [] (connection_begins config)
sound_start config max input i e least most held = record {
  limit = i.0 ∙ e;
  least = omega (arith, least, i.0);
  most = omega (arith, most, i.0);
  held = held;
  over = λ o. absurd (subst (λ (x : Stage). IsOver x) i.1 o);
  fresh = λ h. record { none = refl; shut = refl; free = λ channel. free_at 0 (suc config.channel_max) channel };
}

-- so has one whose parts are new
pub sound_new : (config : Configured) (max : ℕ) (input : SplitterState) (out : List ℕ) (s : ConnectionState) →
    (input.limit ≡ max) × (input.stage ≡ Header) × (input.filled ≡ []) → out ≡ [] → s ≡ connection_begins config →
    max ≡ config.max_frame → 512 ≤ max → max ≤ 1048576 → IsHeld input.limit input.stage input.filled → IsEndpoint input out s
sound_new config max input out s i o c e least most held =
    subst (λ (x : List ℕ). IsEndpoint input x s) (sym o)
    (subst (λ (x : ConnectionState). IsEndpoint input [] x) (sym c) (sound_start config max input i e least most held))
