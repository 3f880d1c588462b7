-- What follows from one look at a delivery, where no other has its id.
use Rattle.std.proofs.Common.{arith, ◌≡◌, ℕ, ◌+◌, ◌-◌, ◌<◌, ◌≤◌, ◌^◌, List, [], ◌∷◌, ◌++◌, length, take, drop, set, get_or, map, Option, Some, None, refl, sym, ap, subst, ◌∙◌}
use Rattle.std.specs.Prelude.{count_by, option_map, option_to_list, find, filter, is_some, slice_get, Bool, true, false, cond, not, ◌&&◌, ◌||◌}
use Rattle.std.specs.List.{list_any}
use Rattle.std.proofs.lemmas.Bool.{or_left, or_right}
use Rattle.std.proofs.lemmas.List.{get_or-take, get_or-drop, length-drop, length-take-le, set-append_left, take-append-drop}
use Rattle.std.proofs.lemmas.List.Folds.{list_any-append}
use Rattle.std.proofs.lemmas.Option.{slice_get_within, slice_get-get_or, get_or_from_slice_get}
use Rattle.slab.specs.Slab.{Slab}
use Rattle.amqp_link.specs.declared.open_delivery.OpenDelivery.{OpenDelivery}
use Rattle.amqp_link.specs.declared.open_delivery.Settling.{Settling}
use Rattle.amqp_link.specs.declared.open_delivery.Settler.{Settler}
use Rattle.amqp_link.specs.declared.open_delivery.Settler.TheVariants.{SenderOfHandedUp, SenderOfUntaken}
use Rattle.amqp_link.specs.declared.places.Found.TheVariants.{HandedUp, Ready}
use Rattle.amqp_link.specs.declared.settlement.Standing.TheVariants.{Untaken}
use Rattle.amqp_link.specs.Links.{Delivery, OpenSet, has_id, is_covered, IsOnce, standing_at, standing_of, newly_settled, sender_settled_by, sender_settled_in}
use Rattle.amqp_link.specs.Keeping.{at_key, keys_of, set_at, settled_list, AreKeys, IsUnder, IsFoundAt, IsKeptAt, Settles}
use Rattle.amqp_link.proofs.Counts.{count_parts}
use Rattle.amqp_link.proofs.Hints.{count_one, once_split, id_covered, none_found, unnamed, any_at, counted_at, found_there, only_one}
use Rattle.amqp_link.proofs.Keys.{total_is}
use Rattle.amqp_link.proofs.KeptPlaces.{ComesAt, PlacedAt}
use Rattle.amqp_link.proofs.KeptSettles.{all_stay, settled_go, awaiting_keys, ready_keys, awaiting_settled, ready_settled}
use Rattle.amqp_link.proofs.PlaceKeys.{any_found}

-- a settle of one id
abbrev one_id : Settler → ℕ → Settling
one_id who id = record { settler = who; ids = record { first = id; last = id } }

-- a place among the first
get_front : (places : List (Option ℕ)) (h i key : ℕ) → h ≤ length places → i < h → slice_get places i ≡ Some (Some key) → slice_get (take h places) i ≡ Some (Some key)
get_front places h i key low lt is =
    slice_get-get_or (take h places) i None (omega (arith, length-take-le h places low)) ∙ ap Some (get_or-take h places i None lt ∙ get_or_from_slice_get places i (Some key) None is)

-- and one behind them
get_back : (places : List (Option ℕ)) (h i key : ℕ) → h ≤ i → slice_get places i ≡ Some (Some key) → slice_get (drop h places) (i - h) ≡ Some (Some key)
get_back places h i key low is =
    let lt : i < length places = slice_get_within places i (Some key) is in
    let here : h + (i - h) ≡ i = omega arith in
    slice_get-get_or (drop h places) (i - h) None (omega (arith, length-drop h places))
    ∙ ap Some (get_or-drop h places (i - h) None ∙ ap (λ (k : ℕ). get_or places k None) here ∙ get_or_from_slice_get places i (Some key) None is)

-- Deliveries that don't have the id. ----------------------------------------------------------------------------------

none_any : (id : ℕ) (ds : List Delivery) → id < 2 ^ 32 → count_by (is_covered id id) ds ≡ 0 → list_any (has_id id) ds ≡ false
none_any id ds low e = any_found (has_id id) ds ∙ ap is_some (none_found id ds low e)

none_gone : (id : ℕ) (ds : List Delivery) → count_by (is_covered id id) ds ≡ 0 → filter (λ d. not (is_covered id id d)) ds ≡ ds
none_gone id ds e = sym (settled_go (record { first = id; last = id }) ds) ∙ (unnamed (one_id SenderOfHandedUp id) ds e).0

none_turned : (id : ℕ) (ds : List Delivery) → count_by (is_covered id id) ds ≡ 0 → map (sender_settled_by id id) ds ≡ ds
none_turned id ds e = sym (all_stay (record { first = id; last = id }) ds) ∙ (unnamed (one_id SenderOfUntaken id) ds e).0

part_stays : (id : ℕ) (p : Option Delivery) → count_by (is_covered id id) (option_to_list p) ≡ 0 → option_map (sender_settled_by id id) p ≡ p
part_stays id None e = refl
part_stays id (Some d) e = let same : sender_settled_by id id d ∷ [] ≡ d ∷ [] = none_turned id (d ∷ []) e in cc

none_counted : (id : ℕ) (ds : List Delivery) → count_by (is_covered id id) ds ≡ 0 → count_by (λ d. not d.settled && is_covered id id d) ds ≡ 0
none_counted id ds e = (unnamed (one_id SenderOfHandedUp id) ds e).1

-- A disposition of the sender over the id of one delivery, which was handed up,
front_alone : (id : ℕ) (o : OpenSet) → count_by (is_covered id id) o.ready ≡ 0 → count_by (is_covered id id) (option_to_list o.unfinished) ≡ 0 →
    record o { awaiting = settled_list (one_id SenderOfHandedUp id) o.awaiting } ≡ sender_settled_in id id o
front_alone id o e f = rw (settled_go (record { first = id; last = id }) o.awaiting, none_turned id o.ready e, part_stays id o.unfinished f) refl

-- is ready,
ready_alone : (id : ℕ) (o : OpenSet) → count_by (is_covered id id) o.awaiting ≡ 0 → count_by (is_covered id id) (option_to_list o.unfinished) ≡ 0 →
    record o { ready = map (sender_settled_by id id) o.ready } ≡ sender_settled_in id id o
ready_alone id o e f = rw (none_gone id o.awaiting e, part_stays id o.unfinished f) refl

-- or is unfinished
part_alone : (id : ℕ) (o : OpenSet) → count_by (is_covered id id) o.awaiting ≡ 0 → count_by (is_covered id id) o.ready ≡ 0 →
    record o { unfinished = option_map (sender_settled_by id id) o.unfinished } ≡ sender_settled_in id id o
part_alone id o e f = rw (none_gone id o.awaiting e, none_turned id o.ready f) refl

-- how many it settles, by the three parts
counted_in : (id : ℕ) (o : OpenSet) → newly_settled id id o ≡
    count_by (λ d. not d.settled && is_covered id id d) o.awaiting + count_by (λ d. not d.settled && is_covered id id d) o.ready + count_by (λ d. not d.settled && is_covered id id d) (option_to_list o.unfinished)
counted_in id o = count_parts (λ (d : Delivery). not d.settled && is_covered id id d) o.awaiting o.ready (option_to_list o.unfinished)

-- What was found. ---------------------------------------------------------------------------------------------------------

module _ {A : Type 0} (slab : Slab (OpenDelivery A)) (order places : List (Option ℕ)) (h : ℕ) (unfinished : Option ℕ) (bytes room key id i : ℕ) (now : OpenSet) (low : id < 2 ^ 32)
    (at : IsKeptAt slab order h unfinished bytes room) (same : places ≡ order) (is : set_at slab order h unfinished ≡ now) (once : IsOnce id id now) where
  most : count_by (is_covered id id) (map (at_key slab) (keys_of (take h order))) + count_by (is_covered id id) (map (at_key slab) (keys_of (drop h order)))
      + count_by (is_covered id id) (option_to_list (option_map (at_key slab) unfinished)) ≤ 1
  most = once_split id id (set_at slab order h unfinished) (subst (λ (o : OpenSet). IsOnce id id o) (sym is) once)

  stands : slice_get places i ≡ Some (Some key) → slice_get order i ≡ Some (Some key)
  stands e = ap (λ (ps : List (Option ℕ)). slice_get ps i) (sym same) ∙ e

  -- One that was handed up: those that were not don't have the id.
  module _ (seen : IsFoundAt slab places h unfinished key id (HandedUp i)) where
    covered : is_covered id id (at_key slab key) ≡ true
    covered = id_covered id (at_key slab key) low seen.0.named

    there : slice_get (take h order) i ≡ Some (Some key)
    there = get_front order h i key at.split seen.2 (stands seen.1)

    ready_none : count_by (is_covered id id) (map (at_key slab) (keys_of (drop h order))) ≡ 0
    ready_none = omega (arith, most, counted_at (is_covered id id) slab (take h order) i key there covered)

    part_none : count_by (is_covered id id) (option_to_list (option_map (at_key slab) unfinished)) ≡ 0
    part_none = omega (arith, most, counted_at (is_covered id id) slab (take h order) i key there covered)

    -- how it stands
    pub front_standing : standing_of id now ≡ standing_at (Some (at_key slab key))
    front_standing =
        let o = set_at slab order h unfinished in
        ap (standing_of id) (sym is)
        ∙ ap (λ (b : Bool). cond b Untaken (standing_at (find (has_id id) o.awaiting)))
        (list_any-append (has_id id) o.ready (option_to_list o.unfinished)
        ∙ ap (λ (b : Bool). b || list_any (has_id id) (option_to_list o.unfinished)) (none_any id o.ready low ready_none) ∙ none_any id (option_to_list o.unfinished) low part_none)
        ∙ ap standing_at (found_there id slab (take h order) i key low (omega (arith, most)) there seen.0.named)

    -- what is lent of its place
    held : (p : Option ℕ) → p ≡ get_or order i p → p ≡ Some key
    held p read = read ∙ get_or_from_slice_get order i (Some key) p (stands seen.1)

    pub front_keys : (p : Option ℕ) → p ≡ get_or order i p → AreKeys slab (option_to_list p)
    front_keys p read = subst (λ (q : Option ℕ). AreKeys slab (option_to_list q)) (sym (held p read)) (seen.0.there, tt, tt)

    -- a settle of it settles those that were handed up
    module _ (who : Settler) (new : Slab (OpenDelivery A)) (p y : Option ℕ) (many freed : ℕ) (read : p ≡ get_or order i p)
        (one : Settles (one_id who id) slab new (p ∷ []) (y ∷ []) many freed) where
      front_settles : Settles (one_id who id) slab new (take h order) (set (take h order) i y) many freed
      front_settles =
          only_one (one_id who id) slab new (take h order) i key many freed y there covered (omega (arith, most)) (awaiting_keys slab order (take h order) h unfinished bytes room at refl)
          (subst (λ (q : Option ℕ). Settles (one_id who id) slab new (q ∷ []) (y ∷ []) many freed) (held p read) one)

      pub front_settled : PlacedAt new (set order i y) h unfinished (bytes - freed) room (record now { awaiting = settled_list (one_id who id) now.awaiting })
      front_settled =
          let written : set (take h order) i y ++ drop h order ≡ set order i y =
          sym (set-append_left (take h order) (drop h order) i y (omega (arith, seen.2, length-take-le h order at.split))) ∙ ap (λ (ps : List (Option ℕ)). set ps i y) (take-append-drop h order) in
          subst (λ (o : OpenSet). PlacedAt new (set order i y) h unfinished (bytes - freed) room (record o { awaiting = settled_list (one_id who id) o.awaiting })) is
          (subst (λ (ps : List (Option ℕ)). PlacedAt new ps h unfinished (bytes - freed) room
          (record (set_at slab order h unfinished) { awaiting = settled_list (one_id who id) (set_at slab order h unfinished).awaiting })) written
          (awaiting_settled (one_id who id) slab new order (take h order) (set (take h order) i y) h unfinished many freed bytes room at refl front_settles))

      pub front_freed : freed ≤ bytes
      front_freed = omega (arith, front_settles.freed, at.kept.total ∙ total_is (set_at slab order h unfinished))

    -- a disposition of the sender over its id alone
    pub front_turned : record now { awaiting = settled_list (one_id SenderOfHandedUp id) now.awaiting } ≡ sender_settled_in id id now
    front_turned =
        subst (λ (o : OpenSet). record o { awaiting = settled_list (one_id SenderOfHandedUp id) o.awaiting } ≡ sender_settled_in id id o) is
        (front_alone id (set_at slab order h unfinished) ready_none part_none)

    pub front_counted : (new : Slab (OpenDelivery A)) (p y : Option ℕ) (many freed : ℕ) → p ≡ get_or order i p → Settles (one_id SenderOfHandedUp id) slab new (p ∷ []) (y ∷ []) many freed →
        many ≡ newly_settled id id now
    front_counted new p y many freed read one =
        let o = set_at slab order h unfinished in
        omega (
          arith,
          (front_settles SenderOfHandedUp new p y many freed read one).count,
          counted_in id (set_at slab order h unfinished),
          none_counted id o.ready ready_none,
          none_counted id (option_to_list o.unfinished) part_none,
          ap (newly_settled id id) is,
        )

  -- One that is ready: no other has the id.
  module _ (seen : IsFoundAt slab places h unfinished key id (Ready i)) where
    behind : slice_get (drop h order) (i - h) ≡ Some (Some key)
    behind = get_back order h i key seen.2 (stands seen.1)

    named : is_covered id id (at_key slab key) ≡ true
    named = id_covered id (at_key slab key) low seen.0.named

    front_none : count_by (is_covered id id) (map (at_key slab) (keys_of (take h order))) ≡ 0
    front_none = omega (arith, most, counted_at (is_covered id id) slab (drop h order) (i - h) key behind named)

    last_none : count_by (is_covered id id) (option_to_list (option_map (at_key slab) unfinished)) ≡ 0
    last_none = omega (arith, most, counted_at (is_covered id id) slab (drop h order) (i - h) key behind named)

    pub ready_standing : standing_of id now ≡ Untaken
    ready_standing =
        let o = set_at slab order h unfinished in
        ap (standing_of id) (sym is)
        ∙ ap (λ (b : Bool). cond b Untaken (standing_at (find (has_id id) o.awaiting)))
        (list_any-append (has_id id) o.ready (option_to_list o.unfinished)
        ∙ or_left (list_any (has_id id) o.ready) (list_any (has_id id) (option_to_list o.unfinished)) (any_at (has_id id) slab (drop h order) (i - h) key behind seen.0.named))

    module _ (new : Slab (OpenDelivery A)) (y : Option ℕ) (many freed : ℕ) (one : Settles (one_id SenderOfUntaken id) slab new (Some key ∷ []) (y ∷ []) many freed) where
      ready_settles : Settles (one_id SenderOfUntaken id) slab new (drop h order) (set (drop h order) (i - h) y) many freed
      ready_settles =
          only_one (one_id SenderOfUntaken id) slab new (drop h order) (i - h) key many freed y behind named (omega (arith, most)) (ready_keys slab order (drop h order) h unfinished bytes room at refl) one

      pub ready_turned : ComesAt new order h unfinished bytes room (sender_settled_in id id now)
      ready_turned =
          subst (λ (o : OpenSet). ComesAt new order h unfinished bytes room o) (ready_alone id (set_at slab order h unfinished) front_none last_none ∙ ap (sender_settled_in id id) is)
          (ready_settled (record { first = id; last = id }) slab new order (drop h order) (set (drop h order) (i - h) y) h unfinished many freed bytes room at refl ready_settles)

      pub ready_counted : many ≡ newly_settled id id now
      ready_counted =
          let o = set_at slab order h unfinished in
          omega (
            arith,
            ready_settles.count,
            counted_in id (set_at slab order h unfinished),
            none_counted id o.awaiting front_none,
            none_counted id (option_to_list o.unfinished) last_none,
            ap (newly_settled id id) is,
          )

-- The one that is unfinished: no other has the id.
module _ {A : Type 0} (slab : Slab (OpenDelivery A)) (order : List (Option ℕ)) (h : ℕ) (unfinished : Option ℕ) (key id : ℕ) (now : OpenSet) (low : id < 2 ^ 32)
    (is : set_at slab order h unfinished ≡ now) (once : IsOnce id id now) (seen : IsUnder slab key id × (unfinished ≡ Some key)) where
  it : option_to_list now.unfinished ≡ at_key slab key ∷ []
  it = ap (λ (o : OpenSet). option_to_list o.unfinished) (sym is) ∙ ap (λ (p : Option ℕ). option_to_list (option_map (at_key slab) p)) seen.1

  pub part_standing : standing_of id now ≡ Untaken
  part_standing =
      let any : list_any (has_id id) (option_to_list now.unfinished) ≡ true = ap (list_any (has_id id)) it ∙ or_left (has_id id (at_key slab key)) false seen.0.named in
      ap (λ (b : Bool). cond b Untaken (standing_at (find (has_id id) now.awaiting)))
      (list_any-append (has_id id) now.ready (option_to_list now.unfinished) ∙ or_right (list_any (has_id id) now.ready) (list_any (has_id id) (option_to_list now.unfinished)) any)

  others_none : (count_by (is_covered id id) now.awaiting ≡ 0) × (count_by (is_covered id id) now.ready ≡ 0)
  others_none =
      let most = once_split id id now once in
      let all = ap (count_by (is_covered id id)) it in
      let one = count_one (is_covered id id) (at_key slab key) [] (id_covered id (at_key slab key) low seen.0.named) in
      (omega (arith, most, all, one), omega (arith, most, all, one))

  pub part_turned : record now { unfinished = option_map (sender_settled_by id id) now.unfinished } ≡ sender_settled_in id id now
  part_turned = part_alone id now others_none.0 others_none.1

  pub part_counted : (many : ℕ) → many ≡ count_by (λ d. not d.settled && is_covered id id d) (option_to_list now.unfinished) → many ≡ newly_settled id id now
  part_counted many e = omega (arith, e, counted_in id now, none_counted id now.awaiting others_none.0, none_counted id now.ready others_none.1)
