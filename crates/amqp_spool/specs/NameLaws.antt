-- What is proved of whose records are.
use Rattle.std.specs.Prelude.{◌≡◌, ℕ, ◌+◌, ◌<◌, ◌↔◌, List, [], ◌∷◌, ◌++◌, Option, Some, None}
use Rattle.amqp_spool.specs.Entries.{Introduced, Recorded, Entry, Introduction, Record, IsBody, IsAlone}
use Rattle.amqp_spool.specs.Names.{nobody, after, named, IsLast}
use Rattle.amqp_spool.specs.Waitings.{LinksState, WaitingState, link_at, Waits, IsCleared}

-- Who is known on a link after entries is who its last introduction names.
abbrev pub TheLastIsKnown : Type 0
TheLastIsKnown = (es : List Entry) (link : ℕ) (i : Introduced) → (after nobody es link ≡ Some i) ↔ IsLast es link i

-- Nobody is known only on a link that no entry introduces.
abbrev pub NobodyIsIntroduced : Type 0
NobodyIsIntroduced = (es front rest : List Entry) (link : ℕ) (i : Introduced) → after nobody es link ≡ None → es ≡ front ++ Introduction i ∷ rest → i.link ≡ link → ⊥

-- A record has the sender that is known on its link after the entries before it.
abbrev pub EachIsNamed : Type 0
EachIsNamed = (es front rest : List Entry) (r : Recorded) → es ≡ front ++ Record r ∷ rest
    → named nobody es ≡ named nobody front ++ (after nobody front r.link, r) ∷ named (after nobody front) rest

-- The batch that waits. -----------------------------------------------------------------------------------------------

-- Where no link is open, an empty batch waits.
abbrev pub NothingWaits : Type 0
NothingWaits = (first next : ℕ) (es : List Entry) (links : LinksState) (w : WaitingState) → ((number : ℕ) → link_at links number ≡ None) → w.here ≡ [] → w.again ≡ [] → w.count ≡ 0 → Waits first next es [] links w

-- After the batch was settled at the end of its segment, the segment has its entries too.
abbrev pub SettlesHere : Type 0
SettlesHere = (first next : ℕ) (es : List Entry) (puts : List (Option Introduced × Recorded)) (links : LinksState) (was now : WaitingState) (x : Waits first next es puts links was) → 0 < was.count → IsCleared was now
    → Waits first (next + was.count) (es ++ x.here) [] links now

-- After it was settled in a new segment, that has the introductions that it needed and its entries.
abbrev pub SettlesAnew : Type 0
SettlesAnew = (first next : ℕ) (es : List Entry) (puts : List (Option Introduced × Recorded)) (links : LinksState) (was now : WaitingState) (x : Waits first next es puts links was) → 0 < was.count → IsCleared was now
    → Waits next (next + was.count) (x.again ++ x.here) [] links now

-- The body for a new segment has those entries.
abbrev pub IsBodyAnew : Type 0
IsBodyAnew = (first next : ℕ) (es : List Entry) (puts : List (Option Introduced × Recorded)) (links : LinksState) (w : WaitingState) (x : Waits first next es puts links w) → IsBody (w.again ++ w.here) (x.again ++ x.here)

-- In a new segment each record of the batch has its link introduced before it,
abbrev pub IsAloneAnew : Type 0
IsAloneAnew = (first next : ℕ) (es : List Entry) (puts : List (Option Introduced × Recorded)) (links : LinksState) (w : WaitingState) (x : Waits first next es puts links w) → IsAlone (x.again ++ x.here)

-- and so has each record of a segment with the batch at its end, if it was so before.
abbrev pub IsAloneHere : Type 0
IsAloneHere = (first next : ℕ) (es : List Entry) (puts : List (Option Introduced × Recorded)) (links : LinksState) (w : WaitingState) (x : Waits first next es puts links w) → IsAlone es → IsAlone (es ++ x.here)
