-- The ids of the open deliveries of a link, as they are answered one after another.
use Rattle.std.proofs.Common.{◌≡◌, ℕ, ◌+◌, ◌<◌, length, get_or, List, [], ◌∷◌, ◌++◌, map, take, drop, Option, Some, None, refl, sym, ap, subst, ◌∙◌}
use Rattle.std.specs.Prelude.{option_map, option_to_list}
use Rattle.std.proofs.lemmas.List.{drop_more, map-append}
use Rattle.std.specs.List.{AllByRecursion}
use Rattle.slab.specs.Slab.{Slab, ContainsKey}
use Rattle.amqp_link.specs.declared.open_delivery.OpenDelivery.{OpenDelivery}
use Rattle.amqp_link.specs.Links.{Delivery, OpenSet, in_order}
use Rattle.amqp_link.specs.Keeping.{at_key, keys_of, ids_at, set_at, AreKeys, IsKeptAt}
use Rattle.amqp_link.proofs.Keys.{all_there, keys_before}
use Rattle.amqp_link.proofs.PlaceKeys.{keys_split}

-- the ids of a list that has three parts
three_parts : (f : ℕ → Delivery) (xs ys : List ℕ) (o : Option ℕ) →
    map (λ (d : Delivery). d.delivery_id) (map f xs ++ map f ys ++ option_to_list (option_map f o))
    ≡ map (λ (k : ℕ). (f k).delivery_id) (xs ++ ys) ++ option_to_list (option_map (λ (d : Delivery). d.delivery_id) (option_map f o))
three_parts f xs ys o =
    map-append (λ (d : Delivery). d.delivery_id) (map f xs ++ map f ys) (option_to_list (option_map f o))
    ∙ ap (λ (ns : List ℕ). ns ++ map (λ (d : Delivery). d.delivery_id) (option_to_list (option_map f o))) (both xs)
    ∙ ap (λ (ns : List ℕ). map (λ (k : ℕ). (f k).delivery_id) (xs ++ ys) ++ ns) (last o)
  where
    mapped : (zs : List ℕ) → map (λ (d : Delivery). d.delivery_id) (map f zs) ≡ map (λ (k : ℕ). (f k).delivery_id) zs
    mapped [] = refl
    mapped (z ∷ zs) = ap (λ (ns : List ℕ). (f z).delivery_id ∷ ns) (mapped zs)

    both : (zs : List ℕ) → map (λ (d : Delivery). d.delivery_id) (map f zs ++ map f ys) ≡ map (λ (k : ℕ). (f k).delivery_id) (zs ++ ys)
    both [] = mapped ys
    both (z ∷ zs) = ap (λ (ns : List ℕ). (f z).delivery_id ∷ ns) (both zs)

    last : (p : Option ℕ) → map (λ (d : Delivery). d.delivery_id) (option_to_list (option_map f p)) ≡ option_to_list (option_map (λ (d : Delivery). d.delivery_id) (option_map f p))
    last None = refl
    last (Some k) = refl

-- a place that is passed
pub key_here : (places : List (Option ℕ)) (at key : ℕ) → at < length places → get_or places at None ≡ Some key → keys_of (drop at places) ≡ key ∷ keys_of (drop (at + 1) places)
key_here places at key lt is = ap keys_of (drop_more places at None lt) ∙ ap (λ (p : Option ℕ). keys_of (p ∷ drop (at + 1) places)) is

pub empty_passed : (places : List (Option ℕ)) (at : ℕ) → at < length places → get_or places at None ≡ None → keys_of (drop (at + 1) places) ≡ keys_of (drop at places)
empty_passed places at lt is = sym (ap keys_of (drop_more places at None lt) ∙ ap (λ (p : Option ℕ). keys_of (p ∷ drop (at + 1) places)) is)

module _ {A : Type 0} where
  -- the keys at all places have deliveries
  pub keys_there : (slab : Slab (OpenDelivery A)) (order places : List (Option ℕ)) (h : ℕ) (o : Option ℕ) (bytes room : ℕ) → IsKeptAt slab order h o bytes room → places ≡ order →
      AllByRecursion (ContainsKey slab) (keys_of places)
  keys_there slab order places h o bytes room at same =
      rw same (all_there slab (keys_of order) (subst (λ (ks : List ℕ). AreKeys slab ks) (keys_split h order)
      (keys_before slab (keys_of (take h order) ++ keys_of (drop h order)) (option_to_list o) at.kept.keys)))

  -- of all open deliveries
  pub all_ids : (slab : Slab (OpenDelivery A)) (order places : List (Option ℕ)) (h : ℕ) (o id : Option ℕ) (now : OpenSet) → places ≡ order → set_at slab order h o ≡ now →
      id ≡ option_map (λ (d : Delivery). d.delivery_id) now.unfinished → ids_at slab places 0 id ≡ map (λ (d : Delivery). d.delivery_id) (in_order now)
  all_ids slab order places h o id now same is last =
      ap (λ (ps : List (Option ℕ)). ids_at slab ps 0 id) same
      ∙ ap (λ (p : Option ℕ). ids_at slab order 0 p) (last ∙ ap (λ (s : OpenSet). option_map (λ (d : Delivery). d.delivery_id) s.unfinished) (sym is))
      ∙ ap (λ (ks : List ℕ). map (λ (k : ℕ). (at_key slab k).delivery_id) ks ++ option_to_list (option_map (λ (d : Delivery). d.delivery_id) (option_map (at_key slab) o))) (sym (keys_split h order))
      ∙ sym (three_parts (at_key slab) (keys_of (take h order)) (keys_of (drop h order)) o)
      ∙ ap (λ (s : OpenSet). map (λ (d : Delivery). d.delivery_id) (in_order s)) is
