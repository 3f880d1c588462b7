-- What a link keeps under its keys, after each of its steps.
use Rattle.std.proofs.Common.{arith, ◌≡◌, ℕ, ◌+◌, ◌-◌, List, [], ◌∷◌, ◌++◌, length, map, Option, Some, None, refl, sym, ap, subst, ◌∙◌}
use Rattle.std.specs.Prelude.{option_map, option_to_list, sum_by, true, false}
use Rattle.std.proofs.lemmas.List.{append_assoc, append-nil, length-append, map_push}
use Rattle.std.proofs.lemmas.List.Sums.{sum_by_push, sum_by-cons}
use Rattle.std.proofs.lemmas.Bool.{cond-false}
use Rattle.slab.specs.Slab.{Slab, get, Updates, with_value, slab_len}
use Rattle.slab.proofs.SlabLemmas.{Updates-with_value}
use Rattle.amqp_link.specs.declared.open_delivery.OpenDelivery.{OpenDelivery}
use Rattle.amqp_link.specs.Links.{Delivery, OpenSet, set_bytes, delivery_bytes, left_open}
use Rattle.amqp_link.specs.Keeping.{delivery_of, delivery_in, at_key, set_of_keys, AreKeys, IsKept}
use Rattle.amqp_link.proofs.Keys.{IsApart, IsIn, apart_append, in_keys, to_keys, fresh_apart, map_other, keys_other, there_now, size_kept, total_is}

one_total : (d : Delivery) → sum_by delivery_bytes (d ∷ []) ≡ delivery_bytes d
one_total d = omega arith

module _ {A : Type 0} where
  part_other : (old new : Slab (OpenDelivery A)) (key : ℕ) (slot : Option (OpenDelivery A)) (unfinished : Option ℕ) → Updates old new key slot → IsApart key (option_to_list unfinished) →
      option_map (at_key new) unfinished ≡ option_map (at_key old) unfinished
  part_other old new key slot None u a = refl
  part_other old new key slot (Some x) u a = rw (u.others x a.0) refl

  -- the others stay
  set_other : (old new : Slab (OpenDelivery A)) (key : ℕ) (slot : Option (OpenDelivery A)) (awaiting ready : List ℕ) (unfinished : Option ℕ) → Updates old new key slot →
      IsApart key (awaiting ++ ready ++ option_to_list unfinished) → set_of_keys new awaiting ready unfinished ≡ set_of_keys old awaiting ready unfinished
  set_other old new key slot awaiting ready unfinished u a =
      let b = apart_append key (awaiting ++ ready) (option_to_list unfinished) a in
      let d = apart_append key awaiting ready b.0 in
      rw (map_other old new key slot awaiting u d.0, map_other old new key slot ready u d.1, part_other old new key slot unfinished u b.1) refl

  -- a state and what is kept of it
  pub record Comes (slab : Slab (OpenDelivery A)) (awaiting ready : List ℕ) (unfinished : Option ℕ) (bytes : ℕ) (o : OpenSet) : Type 0 where
    pub kept : IsKept slab awaiting ready unfinished bytes
    pub is : set_of_keys slab awaiting ready unfinished ≡ o

  -- a delivery begins
  pub begins : (old new : Slab (OpenDelivery A)) (awaiting ready : List ℕ) (key : ℕ) (d : OpenDelivery A) (bytes more : ℕ) → IsKept old awaiting ready None bytes → get old key ≡ None →
      Updates old new key (Some d) → slab_len new ≡ slab_len old + 1 → more ≡ bytes + delivery_bytes (delivery_of d) → Comes new awaiting ready (Some key) more
      (record (set_of_keys old awaiting ready None) { unfinished = Some (delivery_of d) })
  begins old new awaiting ready key d bytes more kept free u size m =
      let apart : IsApart key (awaiting ++ ready ++ []) = fresh_apart old key (awaiting ++ ready ++ []) free kept.keys in
      let same = set_other old new key (Some d) awaiting ready None u apart in
      let is : set_of_keys new awaiting ready (Some key) ≡ record (set_of_keys old awaiting ready None) { unfinished = Some (delivery_of d) } =
      ap (λ (o : OpenSet). record o { unfinished = Some (at_key new key) }) same
      ∙ ap (λ (s : Option (OpenDelivery A)). record (set_of_keys old awaiting ready None) { unfinished = Some (delivery_in s) }) u.changed in
      record {
        kept = record {
          keys = to_keys new (awaiting ++ ready) key [] (there_now old new key d u) apart (keys_other old new key (Some d) (awaiting ++ ready ++ []) u apart kept.keys);
          only = omega (arith, size, kept.only);
          total = m ∙ ap (λ (n : ℕ). n + delivery_bytes (delivery_of d)) (kept.total ∙ total_is (set_of_keys old awaiting ready None))
              ∙ sym (ap set_bytes is ∙ total_is (record (set_of_keys old awaiting ready None) { unfinished = Some (delivery_of d) }) ∙ omega (arith, one_total (delivery_of d)));
        };
        is = is;
      }

  -- the unfinished delivery changes
  pub changes : (old : Slab (OpenDelivery A)) (awaiting ready : List ℕ) (key : ℕ) (d : OpenDelivery A) (bytes more n : ℕ) → IsKept old awaiting ready (Some key) bytes →
      delivery_bytes (delivery_of d) ≡ delivery_bytes (at_key old key) + n → more ≡ bytes + n → Comes (with_value old key d) awaiting ready (Some key) more
      (record (set_of_keys old awaiting ready (Some key)) { unfinished = Some (delivery_of d) })
  changes old awaiting ready key d bytes more n kept long m =
      let i = in_keys old (awaiting ++ ready) key [] kept.keys in
      let u = Updates-with_value old key d i.here in
      let same = set_other old (with_value old key d) key (Some d) awaiting ready None u i.apart in
      let is : set_of_keys (with_value old key d) awaiting ready (Some key) ≡ record (set_of_keys old awaiting ready (Some key)) { unfinished = Some (delivery_of d) } =
      ap (λ (o : OpenSet). record o { unfinished = Some (at_key (with_value old key d) key) }) same
      ∙ ap (λ (s : Option (OpenDelivery A)). record (set_of_keys old awaiting ready None) { unfinished = Some (delivery_in s) }) u.changed in
      let before = kept.total ∙ total_is (set_of_keys old awaiting ready (Some key)) in
      let after = ap set_bytes is ∙ total_is (record (set_of_keys old awaiting ready (Some key)) { unfinished = Some (delivery_of d) }) in
      record {
        kept = record {
          keys = to_keys (with_value old key d) (awaiting ++ ready) key [] (there_now old (with_value old key d) key d u) i.apart (keys_other old (with_value old key d) key (Some d)
              (awaiting ++ ready ++ []) u i.apart i.rest);
          only = size_kept old key d i.here ∙ kept.only;
          total = omega (arith, m, long, before, after, one_total (delivery_of d), one_total (at_key old key));
        };
        is = is;
      }

  -- the unfinished delivery becomes ready
  pub finishes : (slab : Slab (OpenDelivery A)) (awaiting ready : List ℕ) (key bytes : ℕ) → IsKept slab awaiting ready (Some key) bytes →
      Comes slab awaiting (ready ++ key ∷ []) None bytes (record (set_of_keys slab awaiting ready (Some key)) { ready = map (at_key slab) ready ++ at_key slab key ∷ []; unfinished = None })
  finishes slab awaiting ready key bytes kept =
      let flat : awaiting ++ ready ++ key ∷ [] ≡ awaiting ++ (ready ++ key ∷ []) ++ [] = append_assoc awaiting ready (key ∷ []) ∙ sym (append-nil (awaiting ++ (ready ++ key ∷ []))) in
      let is : set_of_keys slab awaiting (ready ++ key ∷ []) None ≡ record (set_of_keys slab awaiting ready (Some key)) { ready = map (at_key slab) ready ++ at_key slab key ∷ []; unfinished = None } =
      ap (λ (ds : List Delivery). record (set_of_keys slab awaiting ready (Some key)) { ready = ds; unfinished = None }) (map_push (at_key slab) ready key) in
      let before = kept.total ∙ total_is (set_of_keys slab awaiting ready (Some key)) in
      let after = ap set_bytes is ∙ total_is (record (set_of_keys slab awaiting ready (Some key)) { ready = map (at_key slab) ready ++ at_key slab key ∷ []; unfinished = None }) in
      record {
        kept = record {
          keys = subst (λ (ks : List ℕ). AreKeys slab ks) flat kept.keys;
          only = omega (arith, kept.only, length-append ready (key ∷ []));
          total = omega (arith, before, after, one_total (at_key slab key), sum_by_push delivery_bytes (map (at_key slab) ready) (at_key slab key));
        };
        is = is;
      }

  -- the unfinished delivery goes
  pub goes : (old new : Slab (OpenDelivery A)) (awaiting ready : List ℕ) (key : ℕ) (bytes less : ℕ) → IsKept old awaiting ready (Some key) bytes → Updates old new key None →
      slab_len new + 1 ≡ slab_len old → less ≡ bytes - delivery_bytes (at_key old key) →
      Comes new awaiting ready None less (record (set_of_keys old awaiting ready (Some key)) { unfinished = None })
  goes old new awaiting ready key bytes less kept u size m =
      let i = in_keys old (awaiting ++ ready) key [] kept.keys in
      let is = set_other old new key None awaiting ready None u i.apart in
      let before = kept.total ∙ total_is (set_of_keys old awaiting ready (Some key)) in
      let after = ap set_bytes is ∙ total_is (set_of_keys old awaiting ready None) in
      record {
        kept = record {
          keys = keys_other old new key None (awaiting ++ ready ++ []) u i.apart i.rest;
          only = omega (arith, size, kept.only);
          total = omega (arith, m, before, after, one_total (at_key old key));
        };
        is = is;
      }

  -- where the first ready key stands
  pub first_in : (slab : Slab (OpenDelivery A)) (awaiting : List ℕ) (key : ℕ) (ready : List ℕ) (unfinished : Option ℕ) (bytes : ℕ) → IsKept slab awaiting (key ∷ ready) unfinished bytes →
      IsIn slab awaiting key (ready ++ option_to_list unfinished)
  first_in slab awaiting key ready unfinished bytes kept = in_keys slab awaiting key (ready ++ option_to_list unfinished) (subst (λ (ks : List ℕ). AreKeys slab ks)
      (append_assoc awaiting (key ∷ ready) (option_to_list unfinished)) kept.keys)

  -- the first ready delivery goes
  pub leaves : (old new : Slab (OpenDelivery A)) (awaiting : List ℕ) (key : ℕ) (ready : List ℕ) (unfinished : Option ℕ) (bytes less : ℕ) → IsKept old awaiting (key ∷ ready) unfinished bytes →
      Updates old new key None → slab_len new + 1 ≡ slab_len old → less ≡ bytes - delivery_bytes (at_key old key) → Comes new awaiting ready unfinished less
      (record (set_of_keys old awaiting (key ∷ ready) unfinished) { ready = map (at_key old) ready })
  leaves old new awaiting key ready unfinished bytes less kept u size m =
      let i = first_in old awaiting key ready unfinished bytes kept in
      let apart : IsApart key (awaiting ++ ready ++ option_to_list unfinished) = rw (append_assoc awaiting ready (option_to_list unfinished)) i.apart in
      let is = set_other old new key None awaiting ready unfinished u apart in
      let before = kept.total ∙ total_is (set_of_keys old awaiting (key ∷ ready) unfinished) in
      let after = ap set_bytes is ∙ total_is (set_of_keys old awaiting ready unfinished) in
      record {
        kept = record {
          keys = keys_other old new key None (awaiting ++ ready ++ option_to_list unfinished) u apart (rw (append_assoc awaiting ready (option_to_list unfinished)) i.rest);
          only = omega (arith, size, kept.only);
          total = omega (arith, m, before, after, sum_by-cons delivery_bytes (at_key old key) (map (at_key old) ready));
        };
        is = is;
      }

  -- the first ready delivery is handed up, and this is left of it
  pub moves : (old : Slab (OpenDelivery A)) (awaiting : List ℕ) (key : ℕ) (ready : List ℕ) (unfinished : Option ℕ) (d : OpenDelivery A) (bytes less n : ℕ) →
      IsKept old awaiting (key ∷ ready) unfinished bytes → delivery_bytes (at_key old key) ≡ delivery_bytes (delivery_of d) + n → less ≡ bytes - n →
      Comes (with_value old key d) (awaiting ++ key ∷ []) ready unfinished less (record (set_of_keys old awaiting (key ∷ ready) unfinished) {
        awaiting =
            map (at_key old) awaiting ++ delivery_of d ∷ [];
        ready = map (at_key old) ready;
      })
  moves old awaiting key ready unfinished d bytes less n kept long m =
      let i = first_in old awaiting key ready unfinished bytes kept in
      let u = Updates-with_value old key d i.here in
      let apart : IsApart key (awaiting ++ ready ++ option_to_list unfinished) = rw (append_assoc awaiting ready (option_to_list unfinished)) i.apart in
      let same = set_other old (with_value old key d) key (Some d) awaiting ready unfinished u apart in
      let is : set_of_keys (with_value old key d) (awaiting ++ key ∷ []) ready unfinished ≡ record (set_of_keys old awaiting (key ∷ ready) unfinished) {
        awaiting =
            map (at_key old) awaiting ++ delivery_of d ∷ [];
        ready = map (at_key old) ready;
      } =
      ap (λ (ds : List Delivery). record (set_of_keys (with_value old key d) awaiting ready unfinished) { awaiting = ds }) (map_push (at_key (with_value old key d)) awaiting key)
      ∙ ap (λ (o : OpenSet). record o { awaiting = o.awaiting ++ at_key (with_value old key d) key ∷ [] }) same
      ∙ ap (λ (s : Option (OpenDelivery A)). record (set_of_keys old awaiting ready unfinished) { awaiting = map (at_key old) awaiting ++ delivery_in s ∷ [] }) u.changed in
      let keys : AreKeys (with_value old key d) (awaiting ++ key ∷ (ready ++ option_to_list unfinished)) =
      to_keys (with_value old key d) awaiting key (ready ++ option_to_list unfinished) (there_now old (with_value old key d) key d u) i.apart
      (keys_other old (with_value old key d) key (Some d) (awaiting ++ (ready ++ option_to_list unfinished)) u i.apart i.rest) in
      let before = kept.total ∙ total_is (set_of_keys old awaiting (key ∷ ready) unfinished) in
      let after = ap set_bytes is ∙ total_is (record (set_of_keys old awaiting (key ∷ ready) unfinished) {
        awaiting = map (at_key old) awaiting ++ delivery_of d ∷ [];
        ready =
            map (at_key old) ready;
      }) in
      record {
        kept = record {
          keys = rw (append_assoc (awaiting ++ key ∷ []) ready (option_to_list unfinished), append_assoc awaiting (key ∷ []) (ready ++ option_to_list unfinished)) keys;
          only = omega (arith, size_kept old key d i.here, kept.only, length-append awaiting (key ∷ []));
          total = omega (arith, m, long, before, after, sum_by-cons delivery_bytes (at_key old key) (map (at_key old) ready), sum_by_push delivery_bytes (map (at_key old) awaiting) (delivery_of d));
        };
        is = is;
      }

  -- the first ready delivery is settled, and goes as it is handed up
  pub leaves_settled : (old new : Slab (OpenDelivery A)) (awaiting : List ℕ) (key : ℕ) (ready : List ℕ) (unfinished : Option ℕ) (d : OpenDelivery A) (bytes less : ℕ) →
      IsKept old awaiting (key ∷ ready) unfinished bytes → get old key ≡ Some d → d.settled ≡ true → Updates old new key None → slab_len new + 1 ≡ slab_len old →
      less ≡ bytes - delivery_bytes (delivery_of d) → Comes new awaiting ready unfinished less
      (record (set_of_keys old awaiting (key ∷ ready) unfinished) { awaiting = map (at_key old) awaiting ++ left_open (delivery_of d); ready = map (at_key old) ready })
  leaves_settled old new awaiting key ready unfinished d bytes less kept has settled u size m =
      let same : at_key old key ≡ delivery_of d = ap delivery_in has in
      let c = leaves old new awaiting key ready unfinished bytes less kept u size (m ∙ ap (λ (x : Delivery). bytes - delivery_bytes x) (sym same)) in
      let none : left_open (delivery_of d) ≡ [] = rw settled refl in
      record {
        kept = c.kept;
        is = c.is ∙ ap (λ (ds : List Delivery). record (set_of_keys old awaiting (key ∷ ready) unfinished) { awaiting = ds; ready = map (at_key old) ready })
            (sym (ap (λ (ds : List Delivery). map (at_key old) awaiting ++ ds) none ∙ append-nil (map (at_key old) awaiting)));
      }

  -- it is not, and stays without its message
  pub moves_unsettled : (old : Slab (OpenDelivery A)) (awaiting : List ℕ) (key : ℕ) (ready : List ℕ) (unfinished : Option ℕ) (was d : OpenDelivery A) (bytes less n : ℕ) →
      IsKept old awaiting (key ∷ ready) unfinished bytes → get old key ≡ Some was → was.settled ≡ false → delivery_of d ≡ record (delivery_of was) { message = [] } →
      n ≡ length (delivery_of was).message → less ≡ bytes - n → Comes (with_value old key d) (awaiting ++ key ∷ []) ready unfinished less
      (record (set_of_keys old awaiting (key ∷ ready) unfinished) { awaiting = map (at_key old) awaiting ++ left_open (delivery_of was); ready = map (at_key old) ready })
  moves_unsettled old awaiting key ready unfinished was d bytes less n kept has unsettled left size m =
      let same : at_key old key ≡ delivery_of was = ap delivery_in has in
      let long : delivery_bytes (at_key old key) ≡ delivery_bytes (delivery_of d) + n = ap delivery_bytes same ∙ omega (arith, ap delivery_bytes left, size) in
      let c = moves old awaiting key ready unfinished d bytes less n kept long m in
      let one : left_open (delivery_of was) ≡ delivery_of d ∷ [] = cond-false was.settled [] (record (delivery_of was) { message = [] } ∷ []) unsettled ∙ ap (λ (x : Delivery). x ∷ []) (sym left) in
      record {
        kept = c.kept;
        is = c.is ∙ ap (λ (ds : List Delivery). record (set_of_keys old awaiting (key ∷ ready) unfinished) { awaiting = map (at_key old) awaiting ++ ds; ready = map (at_key old) ready }) (sym one);
      }
