-- What the calls of a server say of its life, and what these alone give, whatever the rule of each step (AMQP 1.0, part 2, sections 2.2 to 2.4 and 2.7).
use Rattle.std.specs.Prelude.{◌≡◌, ℕ, ◌+◌, ◌-◌, Bool, true, false, List, [], ◌∷◌, ◌++◌, length, map, take, Option, Some, None}
use Rattle.std.specs.List.{All, flat_map}
use Rattle.amqp_frame.specs.Units.{StreamUnit, bytes_of, IsUnit, Units, due_behind}
use Rattle.amqp_frame.specs.declared.units.Stage.{Stage}
use Rattle.amqp_frame.specs.declared.units.Stage.TheVariants.{Header}
use Rattle.amqp_endpoint.specs.declared.event.End.{End}
use Rattle.amqp_endpoint.specs.Calls.{open_call_fault, close_call_spoken}
use Rattle.amqp_endpoint.specs.Configs.{Configured}
use Rattle.amqp_endpoint.specs.Connections.{ConnectionState, is_dead}
use Rattle.amqp_endpoint.specs.Lines.{line_of, may_grow_on}
use Rattle.amqp_endpoint.specs.Replies.{joined}
use Rattle.amqp_serve.specs.declared.rules.Rule.{Rule}
use Rattle.amqp_serve.specs.Cuts.{Made, served_one, topped_up, first_made, left_over, end_with, IsMade}

-- What steps make. ----------------------------------------------------------------------------------------------------

-- A step that was done: its rule, and the bytes that came for it.
pub record Heard : Type 0 where
  pub rule : Rule
  pub bytes : List ℕ

abbrev pub heard_bytes : List Heard → List ℕ
heard_bytes steps = flat_map (λ x. x.bytes) steps

-- What came of a step by this rule: a unit ended, or none did.
pub data Effect : Type 0 where
  OfUnit : Rule → StreamUnit → Effect
  OfNone : Rule → Effect

abbrev pub effect_rule : Effect → Rule
effect_rule (OfUnit r u) = r
effect_rule (OfNone r) = r

abbrev pub effect_units : Effect → List StreamUnit
effect_units (OfUnit r u) = u ∷ []
effect_units (OfNone r) = []

-- the units that ended
abbrev pub ended_units : List Effect → List StreamUnit
ended_units effects = flat_map effect_units effects

-- a unit is served by the rule of the step that ended it; a step that ended none tops up by its own
abbrev pub made_by : Made → Effect → Made
made_by m (OfUnit r u) = served_one r m u
made_by m (OfNone r) = topped_up r m

abbrev pub made_by_all : Made → List Effect → Made
made_by_all m [] = m
made_by_all m (x ∷ effects) = made_by_all (made_by m x) effects

-- the connection is not over before any unit
abbrev pub IsTimelyBy : Made → Effect → Type 0
IsTimelyBy m (OfUnit r u) = is_dead m.connection.phase ≡ false
IsTimelyBy m (OfNone r) = Unit {0}

abbrev pub AreTimelyBy : Made → List Effect → Type 0
AreTimelyBy m [] = Unit {0}
AreTimelyBy m (x ∷ effects) = IsTimelyBy m x × AreTimelyBy (made_by m x) effects

-- These steps make this of a new connection, and it ends so. After each of them, the bytes so far are the units that ended so far and a rest.
pub record IsMadeBy (config : Configured) (steps : List Heard) (made : Made) (end : End) : Type 0 where
  pub effects : List Effect
  pub rules : map effect_rule effects ≡ map (λ x. x.rule) steps
  pub cuts : (n : ℕ) → (rest : List ℕ) × Units config.max_frame (heard_bytes (take n steps)) (ended_units (take n effects)) rest
  pub rest : List ℕ
  pub cut : Units config.max_frame (heard_bytes steps) (ended_units effects) rest
  pub timely : AreTimelyBy (first_made config) effects
  pub is : made ≡ made_by_all (first_made config) effects
  pub ends : end ≡ end_with made.connection (left_over made.connection rest)

-- A life. -------------------------------------------------------------------------------------------------------------

-- Why a server hears nothing any more.
pub data Parting : Type 0 where
  ByPeer : End → Parting  -- its input ended, and the connection stood so [2.4.6]
  BySelf : Parting  -- this side closed the connection [2.4.3]

-- A server since it was made. `heard`: its steps that were done. `untried`, `starved`: the bytes that came since memory was refused for the unit that they end, and whether it was. `told`: all that
-- was written, except heartbeats. `noted`: all that was recorded. `due`: how many bytes of its close wait. `ended`: how it ended.
pub record Life : Type 0 where
  pub heard : List Heard
  pub untried : List ℕ
  pub starved : Bool
  pub told : List ℕ
  pub noted : List ℕ
  pub due : ℕ
  pub ended : Option Parting

abbrev pub new_life : Life
new_life = record { heard = []; untried = []; starved = false; told = []; noted = []; due = 0; ended = None }

-- the close that this side writes as its last frame [2.7.9]
abbrev pub last_words : Option Parting → List ℕ
last_words (Some BySelf) = joined close_call_spoken
last_words (Some (ByPeer end)) = []
last_words None = []

-- these bytes came and were served by this rule; this was written, and this recorded
abbrev pub heard_on : Life → Rule → List ℕ → List ℕ → List ℕ → Life
heard_on l r bytes wrote noted = record {
  heard = l.heard ++ record { rule = r; bytes = l.untried ++ bytes } ∷ [];
  untried = [];
  starved = false;
  told = l.told ++ wrote;
  noted = l.noted ++ noted;
  due = l.due;
  ended = l.ended;
}

-- these bytes came, and memory was refused for the unit that they end
abbrev pub starved_on : Life → List ℕ → Life
starved_on l bytes = record { heard = l.heard; untried = l.untried ++ bytes; starved = true; told = l.told; noted = l.noted; due = l.due; ended = l.ended }

-- these bytes, which waited, were written
abbrev pub told_on : Life → List ℕ → Life
told_on l bytes = record { heard = l.heard; untried = l.untried; starved = l.starved; told = l.told ++ bytes; noted = l.noted; due = l.due - length bytes; ended = l.ended }

-- it ended so
abbrev pub ended_on : Life → Parting → Life
ended_on l e = record { heard = l.heard; untried = l.untried; starved = l.starved; told = l.told; noted = l.noted; due = l.due + length (last_words (Some e)); ended = Some e }

-- What its own calls alone give. --------------------------------------------------------------------------------------

-- the rest and the untried bytes are one unit, for which memory may be needed
pub record IsUnitUntried (max : ℕ) (stage : Stage) (s : ConnectionState) (rest untried : List ℕ) : Type 0 where
  pub unit : StreamUnit
  pub is : IsUnit max stage unit
  pub whole : rest ++ untried ≡ bytes_of unit
  pub wants : may_grow_on (line_of s unit) ≡ true

-- no byte is untried unless memory was refused
abbrev pub AreUntried : Bool → ℕ → Stage → ConnectionState → List ℕ → List ℕ → Type 0
AreUntried false max stage s rest untried = untried ≡ []
AreUntried true max stage s rest untried = IsUnitUntried max stage s rest untried

-- A life is what its own calls alone give, except these last bytes. Its steps, each by its own rule, make `made` of a new connection. All its records are recorded. Its answers were written, except these
-- last bytes; the close comes last if this side closed it. If its input ended, it ended as those steps do.
pub record IsToldBut (config : Configured) (l : Life) (rest : List ℕ) : Type 0 where
  pub made : Made
  pub end : End
  pub is : IsMadeBy config l.heard made end
  pub untried : AreUntried l.starved config.max_frame (due_behind Header (ended_units is.effects)) made.connection is.rest l.untried
  pub noted : l.noted ≡ made.recorded
  pub told : l.told ++ rest ≡ made.written ++ last_words l.ended
  pub ended : (e : End) → l.ended ≡ Some (ByPeer e) → e ≡ end

-- and as many last bytes wait as the life says
pub record IsAlone (config : Configured) (l : Life) : Type 0 where
  pub rest : List ℕ
  pub is : IsToldBut config l rest
  pub due : length rest ≡ l.due

-- By its own calls the connection is over.
pub record IsOver (config : Configured) (l : Life) : Type 0 where
  pub made : Made
  pub end : End
  pub is : IsMadeBy config l.heard made end
  pub over : is_dead made.connection.phase ≡ true

-- By its own calls it is open, and neither side has closed it [2.4.6].
pub record IsOpen (config : Configured) (l : Life) : Type 0 where
  pub made : Made
  pub end : End
  pub is : IsMadeBy config l.heard made end
  pub is_open : open_call_fault made.connection [] ≡ None

-- By its own calls it is not open.
pub record IsNotOpen (config : Configured) (l : Life) : Type 0 where
  pub made : Made
  pub end : End
  pub is : IsMadeBy config l.heard made end
  pub not_open : open_call_fault made.connection [] ≡ None → ⊥

-- One rule. -----------------------------------------------------------------------------------------------------------

-- all these steps had this rule
abbrev pub AreBy : Rule → List Heard → Type 0
AreBy r steps = All (λ x. x.rule ≡ r) steps

-- If all its steps had one rule, a life is what the units of its bytes give by that rule, served one by one. Where the steps cut the bytes does not matter.
pub record IsAloneBy (r : Rule) (config : Configured) (l : Life) : Type 0 where
  pub made : Made
  pub end : End
  pub is : IsMade r config (heard_bytes l.heard) made end
  pub noted : l.noted ≡ made.recorded
  pub rest : List ℕ
  pub told : l.told ++ rest ≡ made.written ++ last_words l.ended
  pub due : length rest ≡ l.due
  pub ended : (e : End) → l.ended ≡ Some (ByPeer e) → e ≡ end
