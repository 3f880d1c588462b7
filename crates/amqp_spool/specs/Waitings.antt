-- The batch that waits in memory, and the links of its records.
use Rattle.std.specs.Prelude.{◌≡◌, ◌≢◌, ℕ, ◌+◌, ◌<◌, ◌≤◌, nat_eq, nat_lt, if◌then◌else◌, List, [], ◌∷◌, ◌++◌, length, Option, Some, None, slice_index_or}
use Rattle.amqp_spool.specs.Entries.{Introduced, IsIntroduced, Recorded, Entry, Introduction, Record, IsBody, introduction, record_entry}
use Rattle.amqp_spool.specs.Names.{nobody, after, named}

-- An open link: the text of its introduction, and the number of the first record of the batch in which it last had a
-- record, or 0.
pub record LinkState : Type 0 where
  pub text : List ℕ
  pub last : ℕ

-- links, each at its number
abbrev pub LinksState : Type 0
LinksState = List (Option LinkState)

abbrev pub link_at : LinksState → ℕ → Option LinkState
link_at links number = slice_index_or links number None

-- The batch that waits: its entries, introductions that it needs before them in a new segment alone, how many records
-- it has, and how many bytes it has at most.
pub record WaitingState : Type 0 where
  pub here : List ℕ
  pub again : List ℕ
  pub count : ℕ
  pub most : ℕ

-- Links. --------------------------------------------------------------------------------------------------------------

-- an introduction, with this number of the link
abbrev pub numbered : ℕ → Introduced → Introduced
numbered number i = record i { link = number }

-- A text is the introduction of this link.
pub record IsKept (number : ℕ) (text : List ℕ) (i : Introduced) : Type 0 where
  pub is : IsIntroduced i
  pub same : i.link ≡ number
  pub whole : text ≡ introduction i

-- This is who sends on an open link.
pub record IsFrom (links : LinksState) (number : ℕ) (i : Introduced) : Type 0 where
  pub link : LinkState
  pub is_open : link_at links number ≡ Some link
  pub kept : IsKept number link.text i

-- Every other link stays.
abbrev pub OthersStay : LinksState → LinksState → ℕ → Type 0
OthersStay old new number = (other : ℕ) → other ≢ number → link_at new other ≡ link_at old other

-- A number that was free is that of a link that has had no record.
pub record IsOpened (old new : LinksState) (number : ℕ) (from : Introduced) : Type 0 where
  pub is : IsIntroduced (numbered number from)
  pub free : link_at old number ≡ None
  pub opened : link_at new number ≡ Some (record { text = introduction (numbered number from); last = 0 })
  pub others : OthersStay old new number

-- A number is free.
pub record IsClosed (old new : LinksState) (number : ℕ) : Type 0 where
  pub closed : link_at new number ≡ None
  pub others : OthersStay old new number

-- A link has had a record in the batch whose first record has this number.
pub record IsMarked (old new : LinksState) (number next : ℕ) : Type 0 where
  pub marked : (link : LinkState) → link_at old number ≡ Some link → link_at new number ≡ Some (record link { last = next })
  pub others : OthersStay old new number

-- Puts. ---------------------------------------------------------------------------------------------------------------

-- What a record of a link needs before it: its introduction, if the segment that begins with the record of the number
-- `first` doesn't know it;
abbrev pub told_here : ℕ → LinkState → List ℕ
told_here first link = if nat_lt link.last first then link.text else []

-- and if the segment knows it, the same for a new segment, if it is its first record of the batch that begins with the
-- record of the number `next`.
abbrev pub told_again : ℕ → ℕ → LinkState → List ℕ
told_again first next link = if nat_lt link.last first then [] else (if nat_eq link.last next then [] else link.text)

-- the batch with one record more
abbrev pub put_in : ℕ → ℕ → LinkState → Recorded → WaitingState → WaitingState
put_in first next link r w = record w { here = w.here ++ told_here first link ++ record_entry r; again = w.again ++ told_again first next link; count = w.count + 1 }

-- how many bytes a batch has, as it goes into a new segment
abbrev pub batch_len : WaitingState → ℕ
batch_len w = length w.again + length w.here

-- The invariant. ------------------------------------------------------------------------------------------------------

-- the link that an entry is of
abbrev pub link_of : Entry → ℕ
link_of (Introduction i) = i.link
link_of (Record r) = r.link

-- No entry is of this link.
abbrev pub HaveNone : List Entry → ℕ → Type 0
HaveNone [] number = Unit {0}
HaveNone (e ∷ es) number = (link_of e ≢ number) × HaveNone es number

-- each record, with who sends on its link
abbrev pub AreKnown : List (Option Introduced × Recorded) → Type 0
AreKnown [] = Unit {0}
AreKnown (put ∷ puts) = ((i : Introduced) × (put.0 ≡ Some i)) × AreKnown puts

-- What stands of an open link while a batch waits that begins with the record of the number `next`, for a segment that
-- begins with that of the number `first` and has these entries.
pub record IsTold (first next : ℕ) (es here again : List Entry) (number : ℕ) (link : LinkState) : Type 0 where
  pub from : Introduced
  pub kept : IsKept number link.text from
  pub past : link.last ≤ next
  -- the segment knows it
  pub knows : first ≤ link.last → after (after nobody es) here number ≡ Some from
  -- it has a record in the batch
  pub now : link.last ≡ next → after nobody (again ++ here) number ≡ Some from
  -- the segment knows it, and it has none in the batch
  pub before : first ≤ link.last → link.last < next → HaveNone (again ++ here) number

-- A batch waits for a segment of these entries, and these are its records, each with who sends on its link, wherever
-- the batch goes.
pub record Waits (first next : ℕ) (es : List Entry) (puts : List (Option Introduced × Recorded)) (links : LinksState) (w : WaitingState) : Type 0 where
  pub here : List Entry
  pub again : List Entry
  pub here_is : IsBody w.here here
  pub again_is : IsBody w.again again
  pub named_here : named (after nobody es) here ≡ puts
  pub named_anew : named nobody (again ++ here) ≡ puts
  pub are_known : AreKnown puts
  pub counted : w.count ≡ length puts
  pub told : (number : ℕ) (link : LinkState) → link_at links number ≡ Some link → IsTold first next es here again number link

-- A change of links alone keeps what stands of the batch.
abbrev pub KeepsWaiting : LinksState → LinksState → Type 0
KeepsWaiting old new = (first next : ℕ) (es : List Entry) (puts : List (Option Introduced × Recorded)) (w : WaitingState) → 1 ≤ first → 1 ≤ next → Waits first next es puts old w → Waits first next es puts new w

-- A put adds a record, which is that of who sends on its link.
abbrev pub AddsRecord : ℕ → ℕ → LinksState → LinksState → Recorded → WaitingState → WaitingState → Type 0
AddsRecord first next old new r was now = (es : List Entry) (puts : List (Option Introduced × Recorded)) (i : Introduced) → IsFrom old r.link i
    → Waits first next es puts old was → Waits first next es (puts ++ (Some i, r) ∷ []) new now

-- A batch is empty.
pub record IsCleared (was now : WaitingState) : Type 0 where
  pub here : now.here ≡ []
  pub again : now.again ≡ []
  pub count : now.count ≡ 0
  pub most : now.most ≡ was.most
