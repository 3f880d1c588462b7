-- What a link keeps at its places, after each of its steps.
use Rattle.std.proofs.Common.{arith, ◌≡◌, ℕ, ◌+◌, ◌*◌, ◌-◌, ◌<◌, ◌≤◌, get_or, set, take, List, [], ◌∷◌, ◌++◌, length, map, Option, Some, None, refl, sym, ap, subst, ◌∙◌}
use Rattle.std.specs.Prelude.{option_map, option_to_list, slice_get, IsSome, true, false, drop}
use Rattle.std.specs.List.{AllByRecursion}
use Rattle.std.proofs.lemmas.List.{append-nil, length-append, length-drop, length-map, length-set, take-append-le, drop-append-le, take_more, take_more_set, drop_more, drop-set-lt}
use Rattle.slab.specs.Slab.{Slab, get, ContainsKey, Updates, with_value, slab_len}
use Rattle.amqp_link.specs.declared.open_delivery.OpenDelivery.{OpenDelivery}
use Rattle.amqp_link.specs.Links.{Delivery, OpenSet, how_many, delivery_bytes, left_open}
use Rattle.amqp_link.specs.Keeping.{delivery_of, delivery_in, at_key, keys_of, set_at, AreKeys, SameKeys, IsKept, IsKeptAt}
use Rattle.amqp_link.proofs.Keys.{in_keys, size_kept}
use Rattle.amqp_link.proofs.KeptKeys.{begins, changes, finishes, goes, first_in, leaves_settled, moves_unsettled}
use Rattle.amqp_link.proofs.PlaceKeys.{keys_append, length_filled, keys_length, keys_split}

all_push : (xs : List (Option ℕ)) (key : ℕ) → AllByRecursion IsSome xs → AllByRecursion IsSome (xs ++ Some key ∷ [])
all_push [] key all = (refl, tt)
all_push (x ∷ xs) key all = (all.0, all_push xs key all.1)

same_head : (x y : Option ℕ) (xs : List (Option ℕ)) → x ∷ xs ≡ y ∷ xs → x ≡ y
same_head x y xs e = cc

length_option : (f : ℕ → Delivery) (p : Option ℕ) → length (option_to_list (option_map f p)) ≡ length (option_to_list p)
length_option f None = refl
length_option f (Some x) = refl

none_of : (f : ℕ → Delivery) (p : Option ℕ) → option_map f p ≡ None → p ≡ None
none_of f None e = refl
none_of f (Some x) e = absurd (grind (arith, e))

within : (order : List (Option ℕ)) (h key : ℕ) → drop h order ≡ Some key ∷ drop (h + 1) order → h < length order
within order h key e = omega (arith, ap length e, length-drop h order)

later : (order : List (Option ℕ)) (h key : ℕ) → drop h order ≡ Some key ∷ drop (h + 1) order → AllByRecursion IsSome (drop h order) → AllByRecursion IsSome (drop (h + 1) order)
later order h key e all = (subst (λ (ps : List (Option ℕ)). AllByRecursion IsSome ps) e all).1

one_at_most : (p : Option ℕ) → length (option_to_list p) ≤ 1
one_at_most None = omega arith
one_at_most (Some key) = omega arith

module _ {A : Type 0} where
  -- what is kept at its places, however many
  pub record IsPlacedAt (slab : Slab (OpenDelivery A)) (order : List (Option ℕ)) (handed_up : ℕ) (unfinished : Option ℕ) (bytes room : ℕ) : Type 0 where
    pub kept : IsKept slab (keys_of (take handed_up order)) (keys_of (drop handed_up order)) unfinished bytes
    pub split : handed_up ≤ length order
    pub filled : AllByRecursion IsSome (drop handed_up order)
    pub fits : length order + length (option_to_list unfinished) ≤ room

  -- a state and what is kept of it
  pub record ComesAt (slab : Slab (OpenDelivery A)) (order : List (Option ℕ)) (handed_up : ℕ) (unfinished : Option ℕ) (bytes room : ℕ) (o : OpenSet) : Type 0 where
    pub kept : IsKeptAt slab order handed_up unfinished bytes room
    pub is : set_at slab order handed_up unfinished ≡ o

  -- the same before empty places are closed up
  pub record PlacedAt (slab : Slab (OpenDelivery A)) (order : List (Option ℕ)) (handed_up : ℕ) (unfinished : Option ℕ) (bytes room : ℕ) (o : OpenSet) : Type 0 where
    pub placed : IsPlacedAt slab order handed_up unfinished bytes room
    pub is : set_at slab order handed_up unfinished ≡ o

  -- other places for the same keys, and few
  pub same_keys : (slab : Slab (OpenDelivery A)) (order order' : List (Option ℕ)) (h h' : ℕ) (unfinished : Option ℕ) (bytes room room' : ℕ) (o : OpenSet) →
      PlacedAt slab order h unfinished bytes room o → SameKeys order order' h h' → length order' + 1 ≤ 4 * (slab_len slab + 4) → room ≤ room' → ComesAt slab order' h' unfinished bytes room' o
  same_keys slab order order' h h' unfinished bytes room room' o at same few roomy =
      let kept : IsKept slab (keys_of (take h' order')) (keys_of (drop h' order')) unfinished bytes = rw (same.front, same.back) at.placed.kept in
      record {
        kept = record {
          kept = kept;
          split = same.split;
          filled = rw same.back at.placed.filled;
          fits = omega (arith, at.placed.fits, same.short, roomy);
          few = omega (arith, few, one_at_most unfinished);
        };
        is = rw (same.front, same.back) at.is;
      }

  -- there are no more keys than deliveries
  pub keys_within : (slab : Slab (OpenDelivery A)) (order : List (Option ℕ)) (h : ℕ) (unfinished : Option ℕ) (bytes room : ℕ) → IsPlacedAt slab order h unfinished bytes room →
      length (keys_of order) ≤ slab_len slab
  keys_within slab order h unfinished bytes room at =
      omega (arith, at.kept.only, ap length (keys_split h order), length-append (keys_of (take h order)) (keys_of (drop h order)))

  -- a place is left for each ready delivery
  pub ready_places : (slab : Slab (OpenDelivery A)) (order : List (Option ℕ)) (h : ℕ) (unfinished : Option ℕ) (bytes room : ℕ) → IsKeptAt slab order h unfinished bytes room →
      length order - h ≡ length (set_at slab order h unfinished).ready
  ready_places slab order h unfinished bytes room at =
      omega (arith, length-map (keys_of (drop h order)) (at_key slab), length_filled (drop h order) at.filled, length-drop h order)

  -- no more deliveries than places that there is room for
  pub few_placed : (slab : Slab (OpenDelivery A)) (order : List (Option ℕ)) (h : ℕ) (unfinished : Option ℕ) (bytes room : ℕ) → IsPlacedAt slab order h unfinished bytes room → slab_len slab ≤ room
  few_placed slab order h unfinished bytes room at =
      omega (arith, at.kept.only, at.fits, keys_length order, ap length (keys_split h order), length-append (keys_of (take h order)) (keys_of (drop h order)))

  placed_of : (slab : Slab (OpenDelivery A)) (order : List (Option ℕ)) (h : ℕ) (unfinished : Option ℕ) (bytes room : ℕ) → IsKeptAt slab order h unfinished bytes room →
      IsPlacedAt slab order h unfinished bytes room
  placed_of slab order h unfinished bytes room at = record { kept = at.kept; split = at.split; filled = at.filled; fits = at.fits }

  pub many_kept : (slab : Slab (OpenDelivery A)) (order : List (Option ℕ)) (h : ℕ) (unfinished : Option ℕ) (bytes room : ℕ) → IsKeptAt slab order h unfinished bytes room →
      how_many (set_at slab order h unfinished) ≤ room
  many_kept slab order h unfinished bytes room at =
      omega (
        arith,
        few_placed slab order h unfinished bytes room (placed_of slab order h unfinished bytes room at),
        at.kept.only,
        length-map (keys_of (take h order)) (at_key slab),
        length-map (keys_of (drop h order)) (at_key slab),
        length_option (at_key slab) unfinished,
      )

  -- more room
  pub roomier : (old mid : Slab (OpenDelivery A)) (order order' : List (Option ℕ)) (h : ℕ) (unfinished : Option ℕ) (bytes n room room' : ℕ) → IsKeptAt old order h unfinished bytes room →
      mid ≡ record old { capacity = n } → order' ≡ order → room ≤ room' → ComesAt mid order' h unfinished bytes room' (set_at old order h unfinished)
  roomier old mid order order' h unfinished bytes n room room' at e f roomy =
      rw (e, f) (record {
        kept = record {
          kept = record { keys = at.kept.keys; only = at.kept.only; total = at.kept.total };
          split = at.split;
          filled = at.filled;
          fits = omega (arith, at.fits, roomy);
          few = at.few;
        };
        is = refl;
      })

  -- a delivery begins
  pub begins_at : (old mid new : Slab (OpenDelivery A)) (order order' : List (Option ℕ)) (h : ℕ) (unfinished : Option ℕ) (key : ℕ) (d : OpenDelivery A) (bytes more n room room' : ℕ) →
      option_map (at_key old) unfinished ≡ None → IsKeptAt old order h unfinished bytes room → mid ≡ record old { capacity = n } → order' ≡ order → get mid key ≡ None →
      Updates mid new key (Some d) → slab_len new ≡ slab_len mid + 1 → length order' + 1 ≤ room' → more ≡ bytes + delivery_bytes (delivery_of d) →
      ComesAt new order' h (Some key) more room' (record (set_at old order h unfinished) { unfinished = Some (delivery_of d) })
  begins_at old mid new order order' h unfinished key d bytes more n room room' none at e f free u size fit m =
      let empty = none_of (at_key old) unfinished none in
      let ready = roomier old mid order order' h unfinished bytes n room room at e f (omega arith) in
      let now : IsKept mid (keys_of (take h order')) (keys_of (drop h order')) None bytes = subst (λ (p : Option ℕ). IsKept mid (keys_of (take h order')) (keys_of (drop h order')) p bytes) empty
      ready.kept.kept in
      let c = begins mid new (keys_of (take h order')) (keys_of (drop h order')) key d bytes more now free u size m in
      record {
        kept = record {
          kept = c.kept;
          split = ready.kept.split;
          filled = ready.kept.filled;
          fits = fit;
          few = omega (arith, ready.kept.few, size);
        };
        is = c.is ∙ ap (λ (o : OpenSet). record o { unfinished = Some (delivery_of d) }) ready.is;
      }

  -- the key of the unfinished delivery
  pub here_of : (slab : Slab (OpenDelivery A)) (order : List (Option ℕ)) (h : ℕ) (unfinished : Option ℕ) (key bytes room : ℕ) → IsKeptAt slab order h unfinished bytes room → unfinished ≡ Some key →
      ContainsKey slab key
  here_of slab order h unfinished key bytes room at e =
      (in_keys slab (keys_of (take h order) ++ keys_of (drop h order)) key [] (subst (λ (p : Option ℕ). AreKeys slab (keys_of (take h order) ++ keys_of (drop h order) ++ option_to_list p)) e
      at.kept.keys)).here

  pub changes_at : (old : Slab (OpenDelivery A)) (order : List (Option ℕ)) (h : ℕ) (unfinished : Option ℕ) (key : ℕ) (d : OpenDelivery A) (bytes more n room : ℕ) → unfinished ≡ Some key →
      IsKeptAt old order h unfinished bytes room → delivery_bytes (delivery_of d) ≡ delivery_bytes (at_key old key) + n → more ≡ bytes + n →
      ComesAt (with_value old key d) order h unfinished more room (record (set_at old order h unfinished) { unfinished = Some (delivery_of d) })
  changes_at old order h unfinished key d bytes more n room e =
      subst (λ (p : Option ℕ). IsKeptAt old order h p bytes room → delivery_bytes (delivery_of d) ≡ delivery_bytes (at_key old key) + n → more ≡ bytes + n →
      ComesAt (with_value old key d) order h p more room (record (set_at old order h p) { unfinished = Some (delivery_of d) }))
      (sym e) (λ at long m.
      let c = changes old (keys_of (take h order)) (keys_of (drop h order)) key d bytes more n at.kept long m in
      record {
        kept = record { kept = c.kept; split = at.split; filled = at.filled; fits = at.fits; few = omega (arith, at.few, size_kept old key d (here_of old order h (Some key) key bytes room at refl)) };
        is = c.is;
      })

  -- the unfinished delivery becomes ready
  pub finishes_at : (slab : Slab (OpenDelivery A)) (order order' : List (Option ℕ)) (h : ℕ) (unfinished : Option ℕ) (key bytes room room' : ℕ) → unfinished ≡ Some key →
      IsKeptAt slab order h unfinished bytes room → order' ≡ order ++ Some key ∷ [] → room ≤ room' → ComesAt slab order' h None bytes room'
      (record (set_at slab order h unfinished) { ready = (set_at slab order h unfinished).ready ++ at_key slab key ∷ []; unfinished = None })
  finishes_at slab order order' h unfinished key bytes room room' e =
      subst (λ (p : Option ℕ). IsKeptAt slab order h p bytes room → order' ≡ order ++ Some key ∷ [] → room ≤ room' → ComesAt slab order' h None bytes room'
      (record (set_at slab order h p) { ready = (set_at slab order h p).ready ++ at_key slab key ∷ []; unfinished = None }))
      (sym e) (λ at f roomy.
      let c = finishes slab (keys_of (take h order)) (keys_of (drop h order)) key bytes at.kept in
      let front : take h order' ≡ take h order = ap (take h) f ∙ take-append-le h order (Some key ∷ []) at.split in
      let back : drop h order' ≡ drop h order ++ Some key ∷ [] = ap (drop h) f ∙ drop-append-le h order (Some key ∷ []) at.split in
      let keys : keys_of (drop h order') ≡ keys_of (drop h order) ++ key ∷ [] = ap keys_of back ∙ keys_append (drop h order) (Some key ∷ []) in
      let kept : IsKept slab (keys_of (take h order')) (keys_of (drop h order')) None bytes = rw (front, keys) c.kept in
      record {
        kept = record {
          kept = kept;
          split = omega (arith, at.split, ap length f, length-append order (Some key ∷ []));
          filled = rw back (all_push (drop h order) key at.filled);
          fits = omega (arith, at.fits, roomy, ap length f, length-append order (Some key ∷ []));
          few = omega (arith, at.few, ap length f, length-append order (Some key ∷ []));
        };
        is = rw (front, keys) c.is;
      })

  -- a delivery begins, and is ready
  pub whole_at : (old mid new : Slab (OpenDelivery A)) (order order' order'' : List (Option ℕ)) (h : ℕ) (unfinished : Option ℕ) (key : ℕ) (d : OpenDelivery A) (bytes more n room room' room'' : ℕ) →
      option_map (at_key old) unfinished ≡ None → IsKeptAt old order h unfinished bytes room → mid ≡ record old { capacity = n } → order' ≡ order → get mid key ≡ None →
      Updates mid new key (Some d) → slab_len new ≡ slab_len mid + 1 → length order' + 1 ≤ room' → more ≡ bytes + delivery_bytes (delivery_of d) → order'' ≡ order' ++ Some key ∷ [] → room' ≤ room'' →
      ComesAt new order'' h unfinished more room'' (record (set_at old order h unfinished) { ready = (set_at old order h unfinished).ready ++ delivery_of d ∷ []; unfinished = None })
  whole_at old mid new order order' order'' h unfinished key d bytes more n room room' room'' none at e f free u size fit m pushed roomy =
      let begun = begins_at old mid new order order' h unfinished key d bytes more n room room' none at e f free u size fit m in
      let whole = finishes_at new order' order'' h (Some key) key more room' room'' refl begun.kept pushed roomy in
      subst (λ (p : Option ℕ). ComesAt new order'' h p more room'' (record (set_at old order h unfinished) { ready = (set_at old order h unfinished).ready ++ delivery_of d ∷ []; unfinished = None }))
      (sym (none_of (at_key old) unfinished none))
      (record {
        kept = whole.kept;
        is = whole.is ∙ ap (λ (o : OpenSet). record o { ready = o.ready ++ option_to_list o.unfinished; unfinished = None }) begun.is;
      })

  -- the unfinished delivery goes
  pub goes_at : (old new : Slab (OpenDelivery A)) (order : List (Option ℕ)) (h : ℕ) (unfinished : Option ℕ) (key bytes less room : ℕ) → unfinished ≡ Some key →
      IsKeptAt old order h unfinished bytes room → Updates old new key None → slab_len new + 1 ≡ slab_len old → less ≡ bytes - delivery_bytes (at_key old key) →
      PlacedAt new order h None less room (record (set_at old order h unfinished) { unfinished = None })
  goes_at old new order h unfinished key bytes less room e =
      subst (λ (p : Option ℕ). IsKeptAt old order h p bytes room → Updates old new key None → slab_len new + 1 ≡ slab_len old → less ≡ bytes - delivery_bytes (at_key old key) →
      PlacedAt new order h None less room (record (set_at old order h p) { unfinished = None }))
      (sym e) (λ at u size m.
      let c = goes old new (keys_of (take h order)) (keys_of (drop h order)) key bytes less at.kept u size m in
      record { placed = record { kept = c.kept; split = at.split; filled = at.filled; fits = omega (arith, at.fits) }; is = c.is })

  -- the next delivery has a key
  pub first_at : (slab : Slab (OpenDelivery A)) (order : List (Option ℕ)) (h : ℕ) (unfinished : Option ℕ) (key bytes room : ℕ) → IsKeptAt slab order h unfinished bytes room →
      drop h order ≡ Some key ∷ drop (h + 1) order → ContainsKey slab key
  first_at slab order h unfinished key bytes room at e =
      (first_in slab (keys_of (take h order)) key (keys_of (drop (h + 1) order)) unfinished bytes
      (subst (λ (ps : List (Option ℕ)). IsKept slab (keys_of (take h order)) (keys_of ps) unfinished bytes) e at.kept)).here

  pub first_is : (slab : Slab (OpenDelivery A)) (order : List (Option ℕ)) (h : ℕ) (unfinished : Option ℕ) (key : ℕ) (d : OpenDelivery A) → drop h order ≡ Some key ∷ drop (h + 1) order →
      get slab key ≡ Some d → slice_get (set_at slab order h unfinished).ready 0 ≡ Some (delivery_of d)
  first_is slab order h unfinished key d e has = ap (λ (ps : List (Option ℕ)). slice_get (map (at_key slab) (keys_of ps)) 0) e ∙ ap (λ (s : Option (OpenDelivery A)). Some (delivery_in s)) has

  -- it is settled, and goes as it is handed up
  pub leaves_at : (old new : Slab (OpenDelivery A)) (order : List (Option ℕ)) (h : ℕ) (unfinished : Option ℕ) (key : ℕ) (d : OpenDelivery A) (bytes less room : ℕ) →
      drop h order ≡ Some key ∷ drop (h + 1) order → IsKeptAt old order h unfinished bytes room → get old key ≡ Some d → d.settled ≡ true → Updates old new key None →
      slab_len new + 1 ≡ slab_len old → less ≡ bytes - delivery_bytes (delivery_of d) → PlacedAt new (set order h None) (h + 1) unfinished less room
      (record (set_at old order h unfinished) { awaiting = (set_at old order h unfinished).awaiting ++ left_open (delivery_of d); ready = drop 1 (set_at old order h unfinished).ready })
  leaves_at old new order h unfinished key d bytes less room e at has settled u size m =
      let lt = within order h key e in
      let kept : IsKept old (keys_of (take h order)) (key ∷ keys_of (drop (h + 1) order)) unfinished bytes =
      subst (λ (ps : List (Option ℕ)). IsKept old (keys_of (take h order)) (keys_of ps) unfinished bytes) e at.kept in
      let c = leaves_settled old new (keys_of (take h order)) key (keys_of (drop (h + 1) order)) unfinished d bytes less kept has settled u size m in
      let front : keys_of (take (h + 1) (set order h None)) ≡ keys_of (take h order) =
      ap keys_of (take_more_set order h None lt) ∙ keys_append (take h order) (None ∷ []) ∙ append-nil (keys_of (take h order)) in
      let back : drop (h + 1) (set order h None) ≡ drop (h + 1) order = drop-set-lt (h + 1) order h None (omega arith) in
      let now : IsKept new (keys_of (take (h + 1) (set order h None))) (keys_of (drop (h + 1) (set order h None))) unfinished less = rw (front, back) c.kept in
      record {
        placed = record {
          kept = now;
          split = omega (arith, lt, length-set order h None);
          filled = rw back (later order h key e at.filled);
          fits = omega (arith, at.fits, length-set order h None);
        };
        is = rw (front, back)
            (c.is ∙ ap (λ (ps : List (Option ℕ)). record (set_at old order h unfinished) {
              awaiting = map (at_key old) (keys_of (take h order)) ++ left_open (delivery_of d);
              ready =
                  drop 1 (map (at_key old) (keys_of ps));
            }) (sym e));
      }

  -- it is not, and stays without its message
  pub moves_at : (old : Slab (OpenDelivery A)) (order : List (Option ℕ)) (h : ℕ) (unfinished : Option ℕ) (key : ℕ) (was d : OpenDelivery A) (bytes less n room : ℕ) →
      drop h order ≡ Some key ∷ drop (h + 1) order → IsKeptAt old order h unfinished bytes room → get old key ≡ Some was → was.settled ≡ false →
      delivery_of d ≡ record (delivery_of was) { message = [] } → n ≡ length (delivery_of was).message → less ≡ bytes - n → ComesAt (with_value old key d) order (h + 1) unfinished less room
      (record (set_at old order h unfinished) { awaiting = (set_at old order h unfinished).awaiting ++ left_open (delivery_of was); ready = drop 1 (set_at old order h unfinished).ready })
  moves_at old order h unfinished key was d bytes less n room e at has unsettled left size m =
      let lt = within order h key e in
      let kept : IsKept old (keys_of (take h order)) (key ∷ keys_of (drop (h + 1) order)) unfinished bytes =
      subst (λ (ps : List (Option ℕ)). IsKept old (keys_of (take h order)) (keys_of ps) unfinished bytes) e at.kept in
      let c = moves_unsettled old (keys_of (take h order)) key (keys_of (drop (h + 1) order)) unfinished was d bytes less n kept has unsettled left size m in
      let this : drop h order ≡ get_or order h None ∷ drop (h + 1) order = drop_more order h None lt in
      let that : get_or order h None ≡ Some key = same_head (get_or order h None) (Some key) (drop (h + 1) order) (sym this ∙ e) in
      let front : keys_of (take (h + 1) order) ≡ keys_of (take h order) ++ key ∷ [] =
      ap keys_of (take_more order h None lt ∙ ap (λ (p : Option ℕ). take h order ++ p ∷ []) that) ∙ keys_append (take h order) (Some key ∷ []) in
      let now : IsKept (with_value old key d) (keys_of (take (h + 1) order)) (keys_of (drop (h + 1) order)) unfinished less = rw front c.kept in
      record {
        kept = record {
          kept = now;
          split = omega (arith, lt);
          filled = later order h key e at.filled;
          fits = at.fits;
          few = omega (arith, at.few, size_kept old key d (first_at old order h unfinished key bytes room at e));
        };
        is = rw front (c.is ∙ ap (λ (ps : List (Option ℕ)). record (set_at old order h unfinished) {
          awaiting = map (at_key old) (keys_of (take h order)) ++ left_open (delivery_of was);
          ready =
              drop 1 (map (at_key old) (keys_of ps));
        }) (sym e));
      }
