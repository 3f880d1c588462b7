-- A piece that is fed while serving.
use Rattle.std.proofs.Common.{◌≡◌, ◌≢◌, ℕ, zero, suc, ◌<◌, ◌≤◌, inl, inr, Bool, true, false, List, [], ◌∷◌, ◌++◌, Option, Some, None, length, take, drop, slice_index, refl, sym, ap, subst, ◌∙◌, arith, append-nil, rules}
use Rattle.std.proofs.KnownBytes.{Appends-nil}
use Rattle.std.specs.Prelude.{if◌then◌else◌, max}
use Rattle.std.proofs.lemmas.List.{take_all, length-take, take-take, take-append-le, places}
use Rattle.amqp_frame.specs.Rooms.{over}
use Rattle.amqp_frame.specs.Splits.{SplitterState, Waits, IsOver, TakesNothing, IsUnchanged}
use Rattle.amqp_frame.specs.Units.{StreamUnit, HeaderUnit, FrameUnit, FaultUnit, bytes_of, IsUnit}
use Rattle.amqp_frame.specs.declared.units.Stage.{Stage}
use Rattle.amqp_frame.specs.declared.units.Stage.TheVariants.{Header, Frames, Refused, Faulty}
use Rattle.amqp_frame.proofs.Fronts.{header_exact, frame_length, waits_or_not}
use Rattle.amqp_endpoint.specs.declared.event.Event.{Event}
use Rattle.amqp_endpoint.specs.declared.event.Outcome.{Outcome}
use Rattle.amqp_endpoint.specs.declared.event.Outcome.TheVariants as outcome
use Rattle.amqp_serve.specs.declared.rules.Rule.{Rule}
use Rattle.amqp_endpoint.specs.Connections.{ConnectionState, is_dead}
use Rattle.amqp_endpoint.specs.Lines.{line_of, told_on, may_grow_on}
use Rattle.amqp_endpoint.specs.Runs.{Feed, Fed, Does}
use Rattle.amqp_serve.specs.Serving.{reading, stand_told, Rests, Feeds, Served, IsIdle, IsStarved}
use Rattle.amqp_endpoint.specs.Steps as steps
use Rattle.amqp_endpoint.specs.Steps.{EndpointState, IsKept, IsFed, TakesAndActs, Acts, acted_after, room_for, told_outcome}

unit_some : (max : ℕ) (stage : Stage) (u : StreamUnit) → IsUnit max stage u → 4 ≤ length (bytes_of u)
unit_some max Header u is = omega (arith, header_exact max u is)
unit_some max Frames u is = frame_length max u is
unit_some max Refused u is = absurd is
unit_some max (Faulty fault) u is = absurd is

-- no unit waits in an empty buffer
none_waits : (s : SplitterState) (u : StreamUnit) → s.filled ≡ [] → Waits s u → ⊥
none_waits s u none w = let some = unit_some s.limit s.stage u w.is in let same = ap length (sym none ∙ w.whole) in absurd (omega (arith, some, same))

-- what waits in a buffer that has not changed waited in it before
pub waits_before : (s t : SplitterState) (u : StreamUnit) → IsUnchanged s t → Waits t u → Waits s u
waits_before s t u x w = record {
  is = subst (λ (n : ℕ). IsUnit n s.stage u) x.limit (subst (λ (stage : Stage). IsUnit t.limit stage u) x.stage w.is);
  whole = sym x.filled ∙ w.whole;
}

-- an empty output has room for the answer to any unit
pub room_for_all : (u : StreamUnit) → room_for [] u ≡ true
room_for_all (HeaderUnit bytes) = refl
room_for_all (FrameUnit bytes) = refl
room_for_all (FaultUnit fault bytes) = refl

pub alive_feeds : (s t : EndpointState) (piece : List ℕ) (used : ℕ) (told : Outcome) → is_dead s.connection.phase ≡ false → IsFed s t piece used told → TakesAndActs s t piece used told
alive_feeds s t piece used told alive x = subst (λ (b : Bool). steps.FeedDone b s t piece used told) alive x

-- a unit that was acted upon tells of no want of memory
pub never_starved : (c : ConnectionState) (o : Option Event) → told_outcome c o ≡ outcome.NoMemory → ⊥
never_starved c (Some e) is = absurd (grind (arith, is))
never_starved c None is = by (is_dead c.phase) is
  where
    by : (over : Bool) → (if over then outcome.Dead else outcome.More) ≡ outcome.NoMemory → ⊥
    by true f = absurd (grind (arith, f))
    by false f = absurd (grind (arith, f))

acts_limit : (s t : EndpointState) (u : StreamUnit) (may : Bool) (told : Outcome) → Acts s t u may told → t.input.limit ≡ s.input.limit
acts_limit s t u false told x = x.0.input.limit
acts_limit s t u true told (inl acted) = acted.input.limit
acts_limit s t u true told (inr kept) = kept.0.input.limit

-- A feed leaves the largest frame that is accepted.
pub fed_limit : (s t : EndpointState) (piece : List ℕ) (used : ℕ) (told : Outcome) → 8 ≤ s.input.limit → IsFed s t piece used told → t.input.limit ≡ s.input.limit
fed_limit s t piece used told least = by (is_dead s.connection.phase)
  where
    by : (over : Bool) → steps.FeedDone over s t piece used told → t.input.limit ≡ s.input.limit
    by true x = x.0.input.limit
    by false x =
        let between : EndpointState = record s { input = x.between } in
        elim (waits_or_not x.between (subst (λ (n : ℕ). 8 ≤ n) (sym x.taken.limit) least)) [
          | inl w ↦ acts_limit between t w.0 (room_for s.unsent w.0) told (x.comes.unit w.0 w.1) ∙ x.taken.limit
          | inr idle ↦ (x.comes.none idle).0.input.limit ∙ x.taken.limit
        ]

-- Where nothing waits to be sent, a unit that waits is acted upon, unless memory is refused.
pub fed_idle : (s t : EndpointState) (piece : List ℕ) (used : ℕ) (told : Outcome) → is_dead s.connection.phase ≡ false → s.unsent ≡ [] → told ≢ outcome.NoMemory → IsFed s t piece used told → IsIdle t
fed_idle s t piece used told alive none fine x = λ u w.
    let y = alive_feeds s t piece used told alive x in
    let between : EndpointState = record s { input = y.between } in
    let idle : (v : StreamUnit) → Waits y.between v → ⊥ = λ v waits.
    let room : room_for s.unsent v ≡ true = ap (λ (l : List ℕ). room_for l v) none ∙ room_for_all v in
    let acts : Acts between t v true told = subst (λ (b : Bool). Acts between t v b told) room (y.comes.unit v waits) in
    elim acts [
      | inl acted ↦ none_waits t.input u acted.input.filled w
      | inr kept ↦ absurd (fine kept.1)
    ] in
    idle u (waits_before y.between t.input u (y.comes.none idle).0.input w)

-- Where memory is refused the unit that wants it waits, and nothing else has changed.
pub fed_starved : (s t : EndpointState) (piece : List ℕ) (used : ℕ) → 8 ≤ s.input.limit → is_dead s.connection.phase ≡ false → s.unsent ≡ [] → IsFed s t piece used outcome.NoMemory → IsStarved t
fed_starved s t piece used least alive none x =
    let y = alive_feeds s t piece used outcome.NoMemory alive x in
    let between : EndpointState = record s { input = y.between } in
    elim (waits_or_not y.between (subst (λ (n : ℕ). 8 ≤ n) (sym y.taken.limit) least)) [
      | inl w ↦
          let u = w.0 in
          let room : room_for s.unsent u ≡ true = ap (λ (l : List ℕ). room_for l u) none ∙ room_for_all u in
          let acts : Acts between t u true outcome.NoMemory = subst (λ (b : Bool). Acts between t u b outcome.NoMemory) room (y.comes.unit u w.1) in
          elim acts [
            | inl acted ↦ absurd (never_starved (acted_after s.connection u) (told_on s.connection (line_of s.connection u)) (sym acted.told))
            | inr kept ↦
                let same = kept.0.input in
                record {
                  unit = u;
                  waits = waits_before t.input y.between u (record { limit = sym same.limit; stage = sym same.stage; filled = sym same.filled }) w.1;
                  wants = ap (λ (c : ConnectionState). may_grow_on (line_of c u)) kept.0.connection ∙ kept.2;
                  sent = kept.0.unsent ∙ none;
                  alive = ap (λ (c : ConnectionState). is_dead c.phase) kept.0.connection ∙ alive;
                }
          ]
      | inr idle ↦ absurd (never_starved s.connection None (sym (y.comes.none idle).1))
    ]

-- Where no unit waits something is asked for.
pub idle_wants : (s : EndpointState) → IsIdle s → (IsOver s.input.stage → ⊥) → TakesNothing s.input → ⊥
idle_wants s idle over (inl one) = idle one.unit one.stands
idle_wants s idle over (inr gone) = over gone

-- the front of bytes is of bytes
pub bytes_in_front : (xs : List ℕ) (n : ℕ) → ((i : ℕ) → slice_index xs i < 256) → (i : ℕ) → slice_index (take n xs) i < 256
bytes_in_front xs zero bytes i = let none : slice_index (take 0 xs) i ≡ 0 = refl in omega (arith, none)
bytes_in_front [] (suc n) bytes i = bytes i
bytes_in_front (x ∷ xs) (suc n) bytes zero = bytes zero
bytes_in_front (x ∷ xs) (suc n) bytes (suc i) = bytes_in_front xs n (λ j. bytes (suc j)) i

-- the front of a front
pub take_twice : (n : ℕ) (xs : List ℕ) → take n (take n xs) ≡ take n xs
take_twice n xs = let long = length-take n xs in take_all n (take n xs) (omega (arith, long))

-- what was read stands at the front of the room
pub front_read : (n : ℕ) (ws bytes : List ℕ) → n ≤ length ws → length ws ≤ length bytes → take n (over ws bytes) ≡ take n ws
front_read n ws bytes few within =
    take-take n (length bytes) (ws ++ drop (length ws) bytes) (omega (arith, few, within)) ∙ take-append-le n ws (drop (length ws) bytes) few

-- the same, where m bytes of it were lent
pub front_lent : (n m k : ℕ) (ws bytes : List ℕ) → n ≤ length ws → length ws ≤ m → length ws ≤ length bytes → take n (over (take (max k m) ws) bytes) ≡ take n ws
front_lent n m k ws bytes few most within =
    ap (λ (l : List ℕ). take n (over l bytes)) (take_all (max k m) ws (search (rules, places))) ∙ front_read n ws bytes few within

-- a front is no longer than what it is of
pub front_short : (front bytes : List ℕ) → front ≡ take (length front) bytes → length front ≤ length bytes
front_short front bytes is = let long = length-take (length front) bytes in let same = ap length is in omega (arith, long, same)

-- what a feed took of a piece was served
unfoldable pub fed_served : ((s t u : EndpointState) (piece : List ℕ) (used : ℕ) (told : Outcome) → IsKept s t → IsFed t u piece used told → Does s u (Feed piece) (Fed used told))
    → (p : Rule) (s t u : EndpointState) (piece : List ℕ) (used : ℕ) (told : Outcome) (w k : Option (List ℕ)) → t.unsent ≡ [] → ((i : ℕ) → slice_index piece i < 256) → IsKept s t
    → IsFed t u piece used told → Served p reading (stand_told u.connection.config told) (take used piece) s u w w k k
fed_served law p s t u piece used told w k none bytes kept x = record {
  steps = record { call = Feed piece; answer = Fed used told } ∷ [];
  serves = Feeds u piece used told (sym kept.unsent ∙ none) bytes (law s t u piece used told kept x) Rests;
  fed = append-nil (take used piece);
  written = Appends-nil w;
  recorded = Appends-nil k;
}
