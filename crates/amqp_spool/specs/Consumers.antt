-- The consumers of a spool beside its gateway: processes that go on in any order.
use Rattle.std.specs.Prelude.{◌≡◌, ◌≢◌, ℕ, ◌-◌, ◌≤◌, ◌<◌, max, List, [], ◌∷◌, ◌++◌, Option, Some, None}

-- each of them is at least this number
abbrev pub AreFrom : ℕ → List ℕ → Type 0
AreFrom n [] = Unit {0}
AreFrom n (p ∷ ps) = (n ≤ p) × AreFrom n ps

-- All consumers have passed this number: there is one, and each has acknowledged at least as far.
pub record HavePassed (n : ℕ) (positions : List ℕ) : Type 0 where
  pub some : positions ≢ []
  pub all : AreFrom n positions

-- Nothing above this number was passed by all.
abbrev pub PassAtMost : ℕ → List ℕ → Type 0
PassAtMost n positions = (m : ℕ) → HavePassed m positions → m ≤ n

-- the position of a new consumer, if the oldest segment begins with the record `oldest`: after what has gone, and after what may go
abbrev pub first_position : ℕ → ℕ → ℕ
first_position oldest floor = max (oldest - 1) floor

-- A position moves up, and not beyond the records that are published.
pub record MayMove (from to next : ℕ) : Type 0 where
  pub up : from ≤ to
  pub there : to < next

-- What consumers and gateway share: up to which number segments may be missing, up to which each consumer has acknowledged, and, while the gateway holds the consumers' lock, up to which it found that all had.
pub record Shared : Type 0 where
  pub floor : ℕ
  pub positions : List ℕ
  pub held : Option ℕ

-- One step of one process.
pub data Step : Shared → Shared → Type 0 where
  -- A consumer is added, under the lock.
  Add : {s : Shared} (n : ℕ) → s.held ≡ None → s.floor ≤ n → Step s (record s { positions = n ∷ s.positions })
  -- One is removed.
  Remove : {s : Shared} (front back : List ℕ) (p : ℕ) → s.positions ≡ front ++ p ∷ back → Step s (record s { positions = front ++ back })
  -- One acknowledges.
  Acknowledge : {s : Shared} (front back : List ℕ) (p q : ℕ) → s.positions ≡ front ++ p ∷ back → p ≤ q → Step s (record s { positions = front ++ q ∷ back })
  -- The gateway takes the lock, and finds up to which number all have acknowledged.
  Look : {s : Shared} (n : ℕ) → s.held ≡ None → HavePassed n s.positions → Step s (record s { held = Some n })
  -- It raises the floor up to that number at most.
  Raise : {s : Shared} (n floor : ℕ) → s.held ≡ Some n → floor ≤ max n s.floor → Step s (record s { floor = floor })
  -- It gives the lock back.
  LetGo : {s : Shared} → Step s (record s { held = None })

-- some steps, one after the other
pub data Steps : Shared → Shared → Type 0 where
  Done : {s : Shared} → Steps s s
  More : {s t u : Shared} → Step s t → Steps t u → Steps s u

-- Nothing may be missing that a consumer has not acknowledged.
abbrev pub NoneIsMissed : Shared → Type 0
NoneIsMissed s = AreFrom s.floor s.positions

-- without a consumer, and with the lock free
abbrev pub begun : ℕ → Shared
begun floor = record { floor = floor; positions = []; held = None }

-- However consumers come, go and acknowledge beside the gateway, each finds all that it has not acknowledged.
abbrev pub NoConsumerMisses : Type 0
NoConsumerMisses = (floor : ℕ) (s : Shared) → Steps (begun floor) s → NoneIsMissed s
