-- What is done with all bytes of a connection behind a proxy, however they are cut.
use Rattle.std.specs.Prelude.{◌≡◌, ◌≤◌, ℕ, List, [], ◌++◌, length, take, drop, Option, Some, None, Result, Ok, Err}
use Rattle.std.specs.Option.{option_copied}
use Rattle.amqp_proxy.specs.declared.faults.ProxyFault.{ProxyFault}
use Rattle.amqp_proxy.specs.declared.progress.Progress.{Progress}
use Rattle.amqp_proxy.specs.declared.progress.Progress.TheVariants as progress
use Rattle.amqp_proxy.specs.declared.said.Said.{Said}
use Rattle.amqp_proxy.specs.declared.proxy.Outcome.{Outcome}
use Rattle.amqp_proxy.specs.declared.proxy.Outcome.TheVariants as says
use Rattle.amqp_proxy.specs.Headers.{Saying, saying, progress_of, size_of, source_of, name_of, IsSource}

-- where a connection stands
pub data Standing : Type 0 where
  -- the header is not whole
  Awaits : Standing
  -- the header said this
  Passed : Saying → Standing
  Broken : ProxyFault → Standing

-- what is done with all bytes of a connection: where it then stands, and what was handed on
pub record Done : Type 0 where
  pub standing : Standing
  pub handed : List ℕ

abbrev pub did : Standing → List ℕ → Done
did s h = record { standing = s; handed = h }

-- what is done about a whole header, by the name in it, and with the bytes behind it
abbrev pub by_name : List ℕ → Result (Option (List ℕ)) ProxyFault → List ℕ → Done
by_name header (Ok name) behind = did (Passed (saying (source_of header) name)) behind
by_name header (Err f) behind = did (Broken f) []

abbrev pub by_progress : List ℕ → Progress → Done
by_progress bytes progress.Short = did Awaits []
by_progress bytes (progress.Bad f) = did (Broken f) []
by_progress bytes progress.Whole =
    by_name (take (size_of bytes) bytes) (name_of (take (size_of bytes) bytes)) (drop (size_of bytes) bytes)

-- what is done with all bytes of a connection
abbrev pub passage : List ℕ → Done
passage bytes = by_progress bytes (progress_of bytes)

-- A layer, and what it does with further bytes. --------------------------------------------------------------------------

-- what it said last, and the bytes that it keeps: those of the header, until it failed
pub record ProxyState : Type 0 where
  pub outcome : Outcome
  pub kept : List ℕ

-- what it does with all bytes that it gets from here on
abbrev pub onward : Outcome → List ℕ → List ℕ → Done
onward says.More kept more = passage (kept ++ more)
onward says.Past kept more = by_name kept (name_of kept) more
onward (says.Failed f) kept more = did (Broken f) []

abbrev pub told : ProxyState → List ℕ → Done
told s more = onward s.outcome s.kept more

-- the header has nothing wrong
pub record IsGood (kept : List ℕ) : Type 0 where
  pub fixed : 16 ≤ length kept
  pub name : Option (List ℕ)
  pub is : name_of kept ≡ Ok name

-- what holds of every layer
abbrev pub IsSound : Outcome → List ℕ → Type 0
IsSound says.More kept = progress_of kept ≡ progress.Short
IsSound says.Past kept = IsGood kept
IsSound (says.Failed f) kept = kept ≡ []

-- What it means that a layer says this. Once it is past, all bytes from here on are handed on, and nothing else is. Once it failed, it keeps
-- nothing.
abbrev pub Says : Outcome → ProxyState → Type 0
Says says.More s = told s [] ≡ did Awaits []
Says says.Past s = (said : Saying) × ((more : List ℕ) → told s more ≡ did (Passed said) more)
Says (says.Failed f) s = (s.kept ≡ []) × ((more : List ℕ) → told s more ≡ did (Broken f) [])

-- it says where the connection stands
abbrev pub IsOutcome : Outcome → Standing → Type 0
IsOutcome says.More Awaits = Unit {0}
IsOutcome says.Past (Passed said) = Unit {0}
IsOutcome (says.Failed f) (Broken g) = f ≡ g
IsOutcome _ _ = ⊥

-- what the header said is shown, and nothing before it is whole or after it failed
abbrev pub IsSaid : Said → Standing → Type 0
IsSaid s (Passed said) = IsSource s.source said.source × (option_copied s.name ≡ said.name)
IsSaid s _ = (s.source ≡ None) × (s.name ≡ None)

-- the fault of a whole header, if it has one
abbrev pub FaultIs : Option ProxyFault → Result (Option (List ℕ)) ProxyFault → Type 0
FaultIs None (Ok name) = Unit {0}
FaultIs None (Err f) = ⊥
FaultIs (Some f) there = there ≡ Err f

-- A whole connection. -----------------------------------------------------------------------------------------------------

-- between two pieces nothing is kept for the endpoint, unless the header is past
abbrev pub IsApart : Outcome → List ℕ → Type 0
IsApart says.More handed = handed ≡ []
IsApart says.Past handed = Unit {0}
IsApart (says.Failed f) handed = handed ≡ []
