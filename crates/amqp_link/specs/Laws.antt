-- What the laws of a link use, besides its states and its history.
use Rattle.std.specs.Prelude.{◌≡◌, ℕ, ◌+◌, Bool, false, ◌&&◌, List, [], ◌∷◌, ◌++◌, map, is_none}
use Rattle.std.specs.List.{count_by}
use Rattle.amqp_link.specs.declared.terms.Terms.{Terms}
use Rattle.amqp_link.specs.Links.{begun, has_id, covers, LinkState, deliveries, open_set, newly_settled, LinkEvent, DrainAsked, Transferred, SenderSettled, link_after}
use Rattle.amqp_link.specs.Histories.{one_if, ends_draining, Group, id_of, is_open, is_handed_up}

-- how many open deliveries have this id
abbrev pub id_count : ℕ → LinkState → ℕ
id_count id s = count_by (has_id id) (deliveries s)

-- how many deliveries with this id an event begins: a transfer begins one if none is unfinished [2.6.14]
abbrev pub begun_with : ℕ → LinkState → LinkEvent → ℕ
begun_with id s (Transferred t) = one_if (is_none s.unfinished && has_id id (begun s.terms t))
begun_with id s e = 0

-- the ids of the open deliveries, in the order in which those began
abbrev pub open_ids : LinkState → List ℕ
open_ids s = map (λ d. d.delivery_id) (deliveries s)

-- the link after its sender settled these ids, one after the other
abbrev pub settle_each : List ℕ → LinkState → LinkState
settle_each [] s = s
settle_each (id ∷ ids) s = settle_each ids (link_after s (SenderSettled id id))

-- how many open deliveries that settles in total
abbrev pub settled_each : List ℕ → LinkState → ℕ
settled_each [] s = 0
settled_each (id ∷ ids) s = newly_settled id id (open_set s) + settled_each ids (link_after s (SenderSettled id id))

-- a settle of these ids by the receiver names the delivery: it is open, was handed up, and has one of the ids
abbrev pub is_named_by : Terms → List LinkEvent → ℕ → ℕ → Group → Bool
is_named_by terms h first last g = is_open terms h g && is_handed_up h g && covers first last (id_of g)

-- none of the later events, the newest first, ended what was requested before them
abbrev pub NoneEnds : Terms → List LinkEvent → List LinkEvent → Type 0
NoneEnds terms [] before = Unit {0}
NoneEnds terms (e ∷ later) before = (ends_draining terms (later ++ before) e ≡ false) × NoneEnds terms later before

-- the sender was asked to use its credit up, and nothing since then ended that [2.6.7]
pub record IsAskedToDrain (terms : Terms) (h : List LinkEvent) : Type 0 where
  -- the events since then, and those before
  pub later : List LinkEvent
  pub before : List LinkEvent
  pub split : h ≡ later ++ DrainAsked ∷ before
  pub stays : NoneEnds terms later (DrainAsked ∷ before)
