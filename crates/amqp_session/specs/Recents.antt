-- Deliveries that began with rising ids, in their places: which of them are open, and where an id is or would be.
use Rattle.std.specs.Prelude.{◌≡◌, ℕ, ◌≤◌, ◌<◌, Bool, false, nat_eq, nat_lt, List, length, Option, Some, None, IsSome, is_none, option_map, slice_get, slice_set}
use Rattle.std.specs.List.{filter_map}
use Rattle.amqp_session.specs.declared.index.Kept.{Kept}
use Rattle.amqp_session.specs.declared.index.Begun.{Begun}
use Rattle.amqp_session.specs.Indexes.{found}

-- where the open ones are stored, with their ids
abbrev pub open_of : List Begun → List (ℕ × Kept)
open_of = filter_map (λ b. option_map (λ kept. (b.id, kept)) b.kept)

-- each id is greater than those before it
abbrev pub IsRising : List Begun → Type 0
IsRising begun = (i j : ℕ) (a b : Begun) → i < j → slice_get begun i ≡ Some a → slice_get begun j ≡ Some b → a.id < b.id

-- the ids before this place are less than `id`
abbrev pub AreBelow : ℕ → ℕ → List Begun → Type 0
AreBelow id place begun = (i : ℕ) (b : Begun) → i < place → slice_get begun i ≡ Some b → b.id < id

-- the ids from this place on are not less than `id`
abbrev pub AreFrom : ℕ → ℕ → List Begun → Type 0
AreFrom id place begun = (i : ℕ) (b : Begun) → place ≤ i → slice_get begun i ≡ Some b → id ≤ b.id

-- an id is at this place, or would be there
abbrev pub IsPlaceOf : ℕ → List Begun → ℕ → Type 0
IsPlaceOf id begun place = (place ≤ length begun) × AreBelow id place begun × AreFrom id place begun

-- what is at a place has this id, if something is there
abbrev pub has_id_at : ℕ → Option Begun → Bool
has_id_at id None = false
has_id_at id (Some b) = nat_eq b.id id

-- what is at a place has a lesser id, if something is there
abbrev pub is_lesser_at : ℕ → Option Begun → Bool
is_lesser_at id None = false
is_lesser_at id (Some b) = nat_lt b.id id

-- what is at a place is closed, if something is there
abbrev pub is_closed_at : Option Begun → Bool
is_closed_at None = false
is_closed_at (Some b) = is_none b.kept

-- what was open at this place with this id is closed, and nothing else changed
abbrev pub IsClosed : List Begun → List Begun → ℕ → ℕ → Type 0
IsClosed old new place id = (b : Begun) × (slice_get old place ≡ Some b) × (b.id ≡ id) × IsSome b.kept × (new ≡ slice_set old place (record b { kept = None }))

-- nothing is open at this place with this id
abbrev pub IsNotOpen : List Begun → ℕ → ℕ → Type 0
IsNotOpen begun place id = (b : Begun) → slice_get begun place ≡ Some b → b.id ≡ id → b.kept ≡ None

-- no id is found in both
abbrev pub AreApart : List (ℕ × Kept) → List (ℕ × Kept) → Type 0
AreApart recent rest = (id : ℕ) → IsSome (found recent id) → found rest id ≡ None

-- each id is found alike in both
abbrev pub FindsAlike : List (ℕ × Kept) → List (ℕ × Kept) → Type 0
FindsAlike old new = (id : ℕ) → found new id ≡ found old id
