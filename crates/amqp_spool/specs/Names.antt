-- Whose the records of a segment are.
use Rattle.std.specs.Prelude.{◌≡◌, ℕ, eqb, cond, List, [], ◌∷◌, ◌++◌, Option, Some, None}
use Rattle.amqp_spool.specs.Entries.{Introduced, Recorded, Entry, Introduction, Record}

-- who sends on each link, as far as that is known
abbrev pub Names : Type 0
Names = ℕ → Option Introduced

abbrev pub nobody : Names
nobody _ = None

abbrev pub known : Introduced → Names → Names
known i names = λ n. cond (eqb n i.link) (Some i) (names n)

-- who is known after entries
abbrev pub after : Names → List Entry → Names
after names [] = names
after names (Introduction i ∷ es) = after (known i names) es
after names (Record r ∷ es) = after names es

-- the records, each with who sends on its link
abbrev pub named : Names → List Entry → List (Option Introduced × Recorded)
named names [] = []
named names (Introduction i ∷ es) = named (known i names) es
named names (Record r ∷ es) = (names r.link, r) ∷ named names es

-- The last introduction of a link among entries: no other of that number is after it.
pub record IsLast (es : List Entry) (link : ℕ) (i : Introduced) : Type 0 where
  pub front : List Entry
  pub rest : List Entry
  pub whole : es ≡ front ++ Introduction i ∷ rest
  pub same : i.link ≡ link
  pub last : (j : Introduced) (a b : List Entry) → rest ≡ a ++ Introduction j ∷ b → j.link ≡ link → ⊥
