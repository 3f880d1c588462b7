-- How a link stores its open deliveries: each under a key, and the keys at places in link order. No public clause names this.
use Rattle.std.specs.Prelude.{◌≡◌, ◌≢◌, ℕ, ◌+◌, ◌*◌, ◌<◌, ◌≤◌, List, [], ◌∷◌, ◌++◌, length, map, filter, take, drop, Bool, true, false, not, ◌&&◌, Option, Some, None, slice_get, IsSome, option_map, option_to_list, sum_by}
use Rattle.std.specs.Prelude.{count_by}
use Rattle.std.specs.List.{AllByRecursion}
use Rattle.slab.specs.Slab.{Slab, get, ContainsKey, slab_len}
use Rattle.amqp_perform.specs.declared.modes.ReceiverSettleMode.TheVariants.{First}
use Rattle.amqp_link.specs.declared.open_delivery.OpenDelivery.{OpenDelivery}
use Rattle.amqp_link.specs.declared.open_delivery.Question.{Question}
use Rattle.amqp_link.specs.declared.open_delivery.Question.TheVariants.{HasId, IsCovered, IsTold}
use Rattle.amqp_link.specs.declared.open_delivery.Settler.{Settler}
use Rattle.amqp_link.specs.declared.open_delivery.Settler.TheVariants.{Receiver, SenderOfHandedUp, SenderOfUntaken}
use Rattle.amqp_link.specs.declared.open_delivery.Settling.{Settling}
use Rattle.amqp_link.specs.declared.places.Found.{Found}
use Rattle.amqp_link.specs.declared.places.Found.TheVariants.{HandedUp, Ready, Unfinished, Unknown}
use Rattle.amqp_link.specs.declared.terms.Terms.{Terms}
use Rattle.amqp_link.specs.Bounds.{IsBounded}
use Rattle.amqp_link.specs.Links.{Delivery, OpenSet, LinkState, set_bytes, delivery_bytes, how_many, left_open, has_id, is_covered, tells, marked_told, receiver_settles, sender_settled_by}

-- One delivery. -----------------------------------------------------------------------------------------------

-- a delivery's answer to a question
abbrev pub asks_of : Question → Delivery → Bool
asks_of (HasId id) d = has_id id d
asks_of (IsCovered ids) d = is_covered ids.first ids.last d
asks_of (IsTold ids) d = tells ids.first ids.last d && d.told

-- the delivery is open no longer after a settle of these ids
abbrev pub ends_by : Settler → ℕ → ℕ → Delivery → Bool
ends_by Receiver first last d = receiver_settles first last d
ends_by SenderOfHandedUp first last d = is_covered first last d
ends_by SenderOfUntaken first last d = false

abbrev pub ends : Settling → Delivery → Bool
ends s d = ends_by s.settler s.ids.first s.ids.last d

-- the delivery after a settle, if it stays open
abbrev pub turned_by : Settler → ℕ → ℕ → Delivery → Delivery
turned_by Receiver first last d = marked_told first last d
turned_by SenderOfHandedUp first last d = d
turned_by SenderOfUntaken first last d = sender_settled_by first last d

abbrev pub turned : Settling → Delivery → Delivery
turned s d = turned_by s.settler s.ids.first s.ids.last d

-- a settle counts the delivery
abbrev pub counts_by : Settler → ℕ → ℕ → Delivery → Bool
counts_by Receiver first last d = is_covered first last d
counts_by SenderOfHandedUp first last d = not d.settled && is_covered first last d
counts_by SenderOfUntaken first last d = not d.settled && is_covered first last d

abbrev pub counts : Settling → Delivery → Bool
counts s d = counts_by s.settler s.ids.first s.ids.last d

-- what a settle leaves of these deliveries
abbrev pub settled_list : Settling → List Delivery → List Delivery
settled_list s ds = map (turned s) (filter (λ d. not (ends s d)) ds)

-- the open deliveries after this one, the first ready delivery, was handed up
abbrev pub taken_from : Delivery → OpenSet → OpenSet
taken_from d o = record o { awaiting = o.awaiting ++ left_open d; ready = drop 1 o.ready }

-- All of them. ---------------------------------------------------------------------------------------------------

-- the keys at these places
abbrev pub keys_of : List (Option ℕ) → List ℕ
keys_of [] = []
keys_of (None ∷ places) = keys_of places
keys_of (Some key ∷ places) = key ∷ keys_of places

-- other places for the same keys: the places from `handed_up` on are the same, and empty ones before them may go
pub record SameKeys (before after : List (Option ℕ)) (handed_up handed_up' : ℕ) : Type 0 where
  pub front : keys_of (take handed_up' after) ≡ keys_of (take handed_up before)
  pub back : drop handed_up' after ≡ drop handed_up before
  pub split : handed_up' ≤ length after
  pub short : length after ≤ length before

module _ {A : Type 0} where
  -- what is held of a delivery
  abbrev pub delivery_of : OpenDelivery A → Delivery
  delivery_of d = record {
    delivery_id = d.delivery_id;
    delivery_tag = d.delivery_tag;
    message_format = d.message_format;
    rcv_settle_mode = d.rcv_settle_mode;
    settled = d.settled;
    told = d.told;
    message = d.message;
  }

  -- the delivery under a key; an arbitrary one if there is none
  abbrev pub delivery_in : Option (OpenDelivery A) → Delivery
  delivery_in None = record { delivery_id = 0; delivery_tag = []; message_format = 0; rcv_settle_mode = First; settled = false; told = false; message = [] }
  delivery_in (Some d) = delivery_of d

  abbrev pub at_key : Slab (OpenDelivery A) → ℕ → Delivery
  at_key slab key = delivery_in (get slab key)

  -- a delivery is stored under this key, and has this id
  pub record IsUnder (slab : Slab (OpenDelivery A)) (key id : ℕ) : Type 0 where
    pub there : ContainsKey slab key
    pub named : has_id id (at_key slab key) ≡ true

  -- what a look may say of a delivery
  abbrev pub IsFoundAt : Slab (OpenDelivery A) → List (Option ℕ) → ℕ → Option ℕ → ℕ → ℕ → Found → Type 0
  IsFoundAt slab places handed_up unfinished key id (HandedUp place) = IsUnder slab key id × (slice_get places place ≡ Some (Some key)) × (place < handed_up)
  IsFoundAt slab places handed_up unfinished key id (Ready place) = IsUnder slab key id × (slice_get places place ≡ Some (Some key)) × (handed_up ≤ place)
  IsFoundAt slab places handed_up unfinished key id Unfinished = IsUnder slab key id × (unfinished ≡ Some key)
  IsFoundAt slab places handed_up unfinished key id Unknown = Unit {0}

  -- the same deliveries under the same keys: their noted places may differ
  pub record SameDeliveries (old new : Slab (OpenDelivery A)) : Type 0 where
    pub under : (key : ℕ) → at_key new key ≡ at_key old key
    pub there : (key : ℕ) → ContainsKey old key → ContainsKey new key
    pub only : slab_len new ≡ slab_len old

  abbrev pub set_of_keys : Slab (OpenDelivery A) → List ℕ → List ℕ → Option ℕ → OpenSet
  set_of_keys slab awaiting ready unfinished = record { awaiting = map (at_key slab) awaiting; ready = map (at_key slab) ready; unfinished = option_map (at_key slab) unfinished }

  -- the open deliveries at places in link order, of which the first `handed_up` are of deliveries that were handed up
  abbrev pub set_at : Slab (OpenDelivery A) → List (Option ℕ) → ℕ → Option ℕ → OpenSet
  set_at slab order handed_up unfinished = set_of_keys slab (keys_of (take handed_up order)) (keys_of (drop handed_up order)) unfinished

  -- the delivery-ids of the deliveries at the places from `at` on, followed by that of the unfinished one
  abbrev pub ids_at : Slab (OpenDelivery A) → List (Option ℕ) → ℕ → Option ℕ → List ℕ
  ids_at slab places at unfinished = map (λ key. (at_key slab key).delivery_id) (keys_of (drop at places)) ++ option_to_list unfinished

  -- each key at the places from `at` on has a delivery
  abbrev pub AreThere : Slab (OpenDelivery A) → List (Option ℕ) → ℕ → Type 0
  AreThere slab places at = AllByRecursion (ContainsKey slab) (keys_of (drop at places))

  -- each key has a delivery, and no key comes twice
  abbrev pub AreKeys : Slab (OpenDelivery A) → List ℕ → Type 0
  AreKeys slab [] = Unit {0}
  AreKeys slab (key ∷ keys) = ContainsKey slab key × AllByRecursion (λ other. other ≢ key) keys × AreKeys slab keys

  -- What a settle makes of the deliveries at these places: it counts some, and frees the bytes of those that are open no
  -- longer.
  pub record Settles (s : Settling) (old new : Slab (OpenDelivery A)) (before after : List (Option ℕ)) (many bytes : ℕ) : Type 0 where
    pub long : length after ≡ length before
    pub deliveries : map (at_key new) (keys_of after) ≡ settled_list s (map (at_key old) (keys_of before))
    pub count : many ≡ count_by (counts s) (map (at_key old) (keys_of before))
    pub freed : sum_by delivery_bytes (map (at_key new) (keys_of after)) + bytes ≡ sum_by delivery_bytes (map (at_key old) (keys_of before))
    -- if the settle can end no delivery, the places do not change
    pub same : ((d : Delivery) → ends s d ≡ false) → after ≡ before
    -- other keys stay keys, with the same deliveries
    pub others : (front back : List ℕ) → AreKeys old (front ++ keys_of before ++ back) → AreKeys new (front ++ keys_of after ++ back) × (map (at_key new) front ≡ map (at_key old) front) ×
        (map (at_key new) back ≡ map (at_key old) back)
    pub only : slab_len new + length (keys_of before) ≡ slab_len old + length (keys_of after)

  -- what holds for the keys of a link
  pub record IsKept (slab : Slab (OpenDelivery A)) (awaiting ready : List ℕ) (unfinished : Option ℕ) (bytes : ℕ) : Type 0 where
    pub keys : AreKeys slab (awaiting ++ ready ++ option_to_list unfinished)
    -- nothing else is stored
    pub only : slab_len slab ≡ length awaiting + length ready + length (option_to_list unfinished)
    pub total : bytes ≡ set_bytes (set_of_keys slab awaiting ready unfinished)

  -- what holds for their places
  pub record IsKeptAt (slab : Slab (OpenDelivery A)) (order : List (Option ℕ)) (handed_up : ℕ) (unfinished : Option ℕ) (bytes room : ℕ) : Type 0 where
    pub kept : IsKept slab (keys_of (take handed_up order)) (keys_of (drop handed_up order)) unfinished bytes
    pub split : handed_up ≤ length order
    -- a ready delivery has not left its place
    pub filled : AllByRecursion IsSome (drop handed_up order)
    -- there is room for the place of the unfinished delivery
    pub fits : length order + length (option_to_list unfinished) ≤ room
    -- at most four places for each open delivery and for four more
    pub few : length order + length (option_to_list unfinished) ≤ 4 * (slab_len slab + 4)

-- The link. --------------------------------------------------------------------------------------------------------

-- a link of these fields
abbrev pub link_of : Terms → ℕ → ℕ → Bool → OpenSet → LinkState
link_of terms credit count draining o = record { terms = terms; credit = credit; delivery_count = count; draining = draining; awaiting = o.awaiting; ready = o.ready; unfinished = o.unfinished }

-- a delivery that a link with these terms may have
pub record IsShort (terms : Terms) (d : Delivery) : Type 0 where
  pub delivery_tag : length d.delivery_tag ≤ 32
  pub message : length d.message ≤ terms.bounds.max_message_size

-- what holds for every link, so that its bytes can be counted
pub record IsLink (terms : Terms) (credit : ℕ) (o : OpenSet) : Type 0 where
  pub within : credit + how_many o ≤ terms.bounds.allowed
  pub bounded : IsBounded terms.bounds.allowed terms.bounds.max_message_size
  pub awaiting : AllByRecursion (IsShort terms) o.awaiting
  pub ready : AllByRecursion (IsShort terms) o.ready
  pub unfinished : AllByRecursion (IsShort terms) (option_to_list o.unfinished)
