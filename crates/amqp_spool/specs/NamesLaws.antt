-- What is proved of a reader.
use Rattle.std.specs.Prelude.{◌≡◌, ℕ, List, [], ◌∷◌, Option}
use Rattle.amqp_spool.specs.declared.names.Names as reader
use Rattle.amqp_spool.specs.Entries.{Introduced, Recorded, Entry, IsBody}
use Rattle.amqp_spool.specs.Names.{named}
use Rattle.amqp_spool.specs.NamesRead.{names_of, HasTaken, HasRead}

-- A reader that asks for the next record until there is none, and each time who sends on its link, gets these.
abbrev pub Reads : reader.Names → List ℕ → List (Option Introduced × Recorded) → Type 0
Reads old body [] = (new : reader.Names) × HasTaken old new body []
Reads old body (p ∷ more) = (new : reader.Names) × (left : List ℕ) × HasRead old new body left p.1 × (p.0 ≡ names_of new p.1.link) × Reads new left more

-- They are the records of the body, each with who sends on its link.
abbrev pub ReadersGetNamed : Type 0
ReadersGetNamed = (names : reader.Names) (body : List ℕ) (es : List Entry) (list : List (Option Introduced × Recorded)) → IsBody body es → Reads names body list → list ≡ named (names_of names) es

-- What is read to its end is a body.
abbrev pub WhatIsReadIsABody : Type 0
WhatIsReadIsABody = (names : reader.Names) (body : List ℕ) (list : List (Option Introduced × Recorded)) → Reads names body list → (es : List Entry) × IsBody body es
