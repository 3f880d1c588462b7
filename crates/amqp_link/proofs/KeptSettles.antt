-- What a link keeps after a settle.
use Rattle.std.proofs.Common.{arith, ◌≡◌, ℕ, ◌+◌, ◌-◌, take, List, [], ◌∷◌, ◌++◌, length, map, Option, Some, None, refl, sym, ap, subst, ◌∙◌}
use Rattle.std.specs.Prelude.{option_map, option_to_list, sum_by, drop, filter, not}
use Rattle.std.proofs.Math.Seq.{take-append_seam, drop-append_seam}
use Rattle.std.proofs.lemmas.List.{append_assoc, append-nil, length-append, length-take-le, map-id, take-append-drop}
use Rattle.std.proofs.lemmas.List.Sums.{sum_by-cons}
use Rattle.slab.specs.Slab.{Slab}
use Rattle.amqp_link.specs.declared.open_delivery.OpenDelivery.{OpenDelivery}
use Rattle.amqp_link.specs.declared.open_delivery.Ids.{Ids}
use Rattle.amqp_link.specs.declared.open_delivery.Settling.{Settling}
use Rattle.amqp_link.specs.declared.open_delivery.Settler.TheVariants.{SenderOfHandedUp, SenderOfUntaken}
use Rattle.amqp_link.specs.Links.{Delivery, OpenSet, set_bytes, delivery_bytes, is_covered, sender_settled_by, sender_settled_in}
use Rattle.amqp_link.specs.Keeping.{at_key, keys_of, set_of_keys, set_at, AreKeys, IsKept, IsKeptAt, Settles, settled_list}
use Rattle.amqp_link.proofs.Keys.{keys_before, keys_behind, total_is}
use Rattle.amqp_link.proofs.KeptPlaces.{ComesAt, PlacedAt}
use Rattle.amqp_link.proofs.Settles.{same_append, one_key}

-- the sender ends none that was not handed up
pub all_stay : (ids : Ids) (ds : List Delivery) → settled_list (record { settler = SenderOfUntaken; ids = ids }) ds ≡ map (sender_settled_by ids.first ids.last) ds
all_stay ids [] = refl
all_stay ids (d ∷ ds) = ap (λ (es : List Delivery). sender_settled_by ids.first ids.last d ∷ es) (all_stay ids ds)

-- those that were handed up and are settled go
pub settled_go : (ids : Ids) (ds : List Delivery) → settled_list (record { settler = SenderOfHandedUp; ids = ids }) ds ≡ filter (λ d. not (is_covered ids.first ids.last d)) ds
settled_go ids ds = map-id (filter (λ d. not (is_covered ids.first ids.last d)) ds)

-- the three parts, one after another
pub sender_settles : (ids : Ids) (old a b new : OpenSet) → a ≡ record old { awaiting = settled_list (record { settler = SenderOfHandedUp; ids = ids }) old.awaiting } →
    b ≡ record a { ready = map (sender_settled_by ids.first ids.last) a.ready } → new ≡ record b { unfinished = option_map (sender_settled_by ids.first ids.last) b.unfinished } →
    new ≡ sender_settled_in ids.first ids.last old
sender_settles ids old a b new e f g = rw (g, f, e, settled_go ids old.awaiting) refl

same_bytes : (ids : Ids) (ds : List Delivery) → sum_by delivery_bytes (map (sender_settled_by ids.first ids.last) ds) ≡ sum_by delivery_bytes ds
same_bytes ids [] = refl
same_bytes ids (d ∷ ds) = omega (
  arith,
  same_bytes ids ds,
  sum_by-cons delivery_bytes d ds,
  sum_by-cons delivery_bytes (sender_settled_by ids.first ids.last d)
      (map (sender_settled_by ids.first ids.last) ds),
)

part_same : (f g : ℕ → Delivery) (p : Option ℕ) → map f (option_to_list p) ≡ map g (option_to_list p) → option_map f p ≡ option_map g p
part_same f g None e = refl
part_same f g (Some key) e = cc

part_turned : (f g : ℕ → Delivery) (turn : Delivery → Delivery) (p : Option ℕ) → map g (keys_of (p ∷ [])) ≡ map turn (map f (keys_of (p ∷ []))) → option_map g p ≡ option_map turn (option_map f p)
part_turned f g turn None e = refl
part_turned f g turn (Some key) e = cc

same_place : (p q : Option ℕ) → p ∷ [] ≡ q ∷ [] → p ≡ q
same_place p q e = cc

part_bytes : (ids : Ids) (p : Option Delivery) → sum_by delivery_bytes (option_to_list (option_map (sender_settled_by ids.first ids.last) p)) ≡ sum_by delivery_bytes (option_to_list p)
part_bytes ids None = refl
part_bytes ids (Some d) = refl

module _ {A : Type 0} where
  -- the keys of the three parts
  pub awaiting_keys : (slab : Slab (OpenDelivery A)) (order places : List (Option ℕ)) (h : ℕ) (unfinished : Option ℕ) (bytes room : ℕ) → IsKeptAt slab order h unfinished bytes room →
      places ≡ take h order → AreKeys slab (keys_of places)
  awaiting_keys slab order places h unfinished bytes room at e =
      rw e (keys_before slab (keys_of (take h order)) (keys_of (drop h order)) (keys_before slab (keys_of (take h order) ++ keys_of (drop h order)) (option_to_list unfinished) at.kept.keys))

  pub ready_keys : (slab : Slab (OpenDelivery A)) (order places : List (Option ℕ)) (h : ℕ) (unfinished : Option ℕ) (bytes room : ℕ) → IsKeptAt slab order h unfinished bytes room →
      places ≡ drop h order → AreKeys slab (keys_of places)
  ready_keys slab order places h unfinished bytes room at e =
      rw e (keys_behind slab (keys_of (take h order)) (keys_of (drop h order)) (keys_before slab (keys_of (take h order) ++ keys_of (drop h order)) (option_to_list unfinished) at.kept.keys))

  pub unfinished_keys : (slab : Slab (OpenDelivery A)) (order : List (Option ℕ)) (h : ℕ) (unfinished : Option ℕ) (bytes room : ℕ) → IsKeptAt slab order h unfinished bytes room →
      AreKeys slab (option_to_list unfinished)
  unfinished_keys slab order h unfinished bytes room at = keys_behind slab (keys_of (take h order) ++ keys_of (drop h order)) (option_to_list unfinished) at.kept.keys

  -- those that were handed up are settled
  pub awaiting_settled : (s : Settling) (old new : Slab (OpenDelivery A)) (order before after : List (Option ℕ)) (h : ℕ) (unfinished : Option ℕ) (many freed bytes room : ℕ) →
      IsKeptAt old order h unfinished bytes room → before ≡ take h order → Settles s old new before after many freed → PlacedAt new (after ++ drop h order) h unfinished (bytes - freed) room
      (record (set_at old order h unfinished) { awaiting = settled_list s (set_at old order h unfinished).awaiting })
  awaiting_settled s old new order before after h unfinished many freed bytes room at e settles =
      let a = keys_of (take h order) in
      let r = keys_of (drop h order) in
      let done : Settles s old new (take h order) after many freed = subst (λ (ps : List (Option ℕ)). Settles s old new ps after many freed) e settles in
      let o = done.others [] (keys_of (drop h order) ++ option_to_list unfinished) (subst (λ (ks : List ℕ). AreKeys old ks) (append_assoc a r (option_to_list unfinished)) at.kept.keys) in
      let two = same_append (at_key new) (at_key old) r (option_to_list unfinished) o.2 in
      let part = part_same (at_key new) (at_key old) unfinished two.1 in
      let long : length after ≡ h = done.long ∙ length-take-le h order at.split in
      let front : take h (after ++ drop h order) ≡ after = ap (λ (k : ℕ). take k (after ++ drop h order)) (sym long) ∙ take-append_seam after (drop h order) in
      let back : drop h (after ++ drop h order) ≡ drop h order = ap (λ (k : ℕ). drop k (after ++ drop h order)) (sym long) ∙ drop-append_seam after (drop h order) in
      let is : set_of_keys new (keys_of after) (keys_of (drop h order)) unfinished ≡ record (set_at old order h unfinished) { awaiting = settled_list s (map (at_key old) (keys_of (take h order))) } =
      rw (done.deliveries, two.0, part) refl in
      let was = at.kept.total ∙ total_is (set_at old order h unfinished) in
      let becomes = total_is (set_of_keys new (keys_of after) (keys_of (drop h order)) unfinished) in
      let rest = ap (λ (o : OpenSet). sum_by delivery_bytes o.ready + sum_by delivery_bytes (option_to_list o.unfinished)) is in
      let kept : IsKept new (keys_of after) (keys_of (drop h order)) unfinished (bytes - freed) = record {
        keys = subst (λ (ks : List ℕ). AreKeys new ks) (sym (append_assoc (keys_of after) r (option_to_list unfinished))) o.0;
        only = omega (arith, at.kept.only, done.only);
        total = omega (arith, was, becomes, rest, done.freed);
      } in
      let now : IsKept new (keys_of (take h (after ++ drop h order))) (keys_of (drop h (after ++ drop h order))) unfinished (bytes - freed) = rw (front, back) kept in
      record {
        placed = record {
          kept = now;
          split = omega (arith, long, length-append after (drop h order));
          filled = rw back at.filled;
          fits = omega (arith, at.fits, long, length-append after (drop h order), length-append (take h order) (drop h order), ap length (take-append-drop h order), length-take-le h order at.split);
        };
        is = rw (front, back) is;
      }

  -- those that are ready are settled
  pub ready_settled : (ids : Ids) (old new : Slab (OpenDelivery A)) (order before after : List (Option ℕ)) (h : ℕ) (unfinished : Option ℕ) (many freed bytes room : ℕ) →
      IsKeptAt old order h unfinished bytes room → before ≡ drop h order → Settles (record { settler = SenderOfUntaken; ids = ids }) old new before after many freed →
      ComesAt new order h unfinished bytes room (record (set_at old order h unfinished) { ready = map (sender_settled_by ids.first ids.last) (set_at old order h unfinished).ready })
  ready_settled ids old new order before after h unfinished many freed bytes room at e settles =
      let a = keys_of (take h order) in
      let r = keys_of (drop h order) in
      let same : after ≡ drop h order = settles.same (λ _. refl) ∙ e in
      let done : Settles (record { settler = SenderOfUntaken; ids = ids }) old new (drop h order) (drop h order) many freed = subst
      (λ (ps : List (Option ℕ)). Settles (record { settler = SenderOfUntaken; ids = ids }) old new (drop h order) ps many freed) same
      (subst (λ (ps : List (Option ℕ)). Settles (record { settler = SenderOfUntaken; ids = ids }) old new ps after many freed) e settles) in
      let o = done.others (keys_of (take h order)) (option_to_list unfinished) at.kept.keys in
      let part = part_same (at_key new) (at_key old) unfinished o.2 in
      let turned : map (at_key new) (keys_of (drop h order)) ≡ map (sender_settled_by ids.first ids.last) (map (at_key old) (keys_of (drop h order))) = done.deliveries
      ∙ all_stay ids (map (at_key old) (keys_of (drop h order))) in
      let is : set_at new order h unfinished ≡ record (set_at old order h unfinished) { ready = map (sender_settled_by ids.first ids.last) (map (at_key old) (keys_of (drop h order))) } =
      rw (o.1, turned, part) refl in
      let was = at.kept.total ∙ total_is (set_at old order h unfinished) in
      let becomes = ap set_bytes is ∙ total_is (record (set_at old order h unfinished) { ready = map (sender_settled_by ids.first ids.last) (map (at_key old) (keys_of (drop h order))) }) in
      record {
        kept = record {
          kept = record {
            keys = o.0;
            only = omega (arith, at.kept.only, done.only);
            total = omega (arith, was, becomes, same_bytes ids (map (at_key old) (keys_of (drop h order))));
          };
          split = at.split;
          filled = at.filled;
          fits = at.fits;
          few = omega (arith, at.few, done.only);
        };
        is = is;
      }

  -- the unfinished one is settled
  pub unfinished_settled : (ids : Ids) (old new : Slab (OpenDelivery A)) (order : List (Option ℕ)) (h : ℕ) (unfinished after : Option ℕ) (many freed bytes room : ℕ) →
      IsKeptAt old order h unfinished bytes room → Settles (record { settler = SenderOfUntaken; ids = ids }) old new (unfinished ∷ []) (after ∷ []) many freed →
      ComesAt new order h after bytes room (record (set_at old order h unfinished) { unfinished = option_map (sender_settled_by ids.first ids.last) (set_at old order h unfinished).unfinished })
  unfinished_settled ids old new order h unfinished after many freed bytes room at settles =
      let s : Settling = record { settler = SenderOfUntaken; ids = ids } in
      let front = keys_of (take h order) ++ keys_of (drop h order) in
      let same : after ≡ unfinished = same_place after unfinished (settles.same (λ _. refl)) in
      let done : Settles s old new (unfinished ∷ []) (unfinished ∷ []) many freed = subst (λ (p : Option ℕ). Settles s old new (unfinished ∷ []) (p ∷ []) many freed) same settles in
      let flat : front ++ keys_of (unfinished ∷ []) ++ [] ≡ front ++ option_to_list unfinished = append-nil (front ++ keys_of (unfinished ∷ []))
      ∙ ap (λ (ks : List ℕ). front ++ ks) (one_key unfinished) in
      let o = done.others front [] (subst (λ (ks : List ℕ). AreKeys old ks) (sym flat) at.kept.keys) in
      let two = same_append (at_key new) (at_key old) (keys_of (take h order)) (keys_of (drop h order)) o.1 in
      let part = part_turned (at_key old) (at_key new) (sender_settled_by ids.first ids.last) unfinished (done.deliveries ∙ all_stay ids (map (at_key old) (keys_of (unfinished ∷ [])))) in
      let is : set_at new order h unfinished ≡ record (set_at old order h unfinished) { unfinished = option_map (sender_settled_by ids.first ids.last) (option_map (at_key old) unfinished) } =
      rw (two.0, two.1, part) refl in
      let was = at.kept.total ∙ total_is (set_at old order h unfinished) in
      let becomes = ap set_bytes is ∙ total_is (record (set_at old order h unfinished) { unfinished = option_map (sender_settled_by ids.first ids.last) (option_map (at_key old) unfinished) }) in
      rw same (record {
        kept = record {
          kept = record {
            keys = subst (λ (ks : List ℕ). AreKeys new ks) flat o.0;
            only = omega (arith, at.kept.only, done.only);
            total = omega (arith, was, becomes, part_bytes ids (option_map (at_key old) unfinished));
          };
          split = at.split;
          filled = at.filled;
          fits = at.fits;
          few = omega (arith, at.few, done.only);
        };
        is = is;
      })
