-- A settle of some places, one after another.
use Rattle.std.proofs.Common.{arith, ◌≡◌, ℕ, ◌+◌, ◌<◌, ◌≤◌, List, [], ◌∷◌, ◌++◌, length, take, drop, set, get_or, map, filter, Option, Some, None, refl, sym, ap, subst, ◌∙◌}
use Rattle.std.specs.Prelude.{sum_by, count_by, option_to_list, Bool, true, false, cond, not}
use Rattle.std.proofs.lemmas.List.{append_assoc, append-nil, length-append, length-map, map-append, take-append-drop, take_more, take_more_set, drop_more, drop-set-lt}
use Rattle.std.proofs.lemmas.List.Sums.{sum_by-append, count_by-le-length}
use Rattle.std.proofs.lemmas.List.Elements.{filter-append}
use mir.Val.{bool_byte}
use Rattle.slab.specs.Slab.{Slab, get, ContainsKey, Updates, with_value, slab_len}
use Rattle.slab.proofs.SlabLemmas.{Updates-with_value}
use Rattle.amqp_link.specs.declared.open_delivery.OpenDelivery.{OpenDelivery}
use Rattle.amqp_link.specs.declared.open_delivery.Settling.{Settling}
use Rattle.amqp_link.specs.declared.open_delivery.Settler.TheVariants.{Receiver, SenderOfHandedUp, SenderOfUntaken}
use Rattle.amqp_link.specs.declared.open_delivery.Settler.{Settler}
use Rattle.amqp_link.specs.Links.{Delivery, delivery_bytes}
use Rattle.amqp_link.specs.Keeping.{delivery_of, delivery_in, at_key, keys_of, AreKeys, ends, turned, turned_by, counts, settled_list, Settles}
use Rattle.amqp_link.proofs.Keys.{IsApart, same_value, in_keys, to_keys, map_other, keys_other, apart_append, there_now, size_kept, keys_before, keys_behind}
use Rattle.amqp_link.proofs.PlaceKeys.{keys_append, keys_length}

-- a settle over two lists of deliveries joined
pub settled_append : (s : Settling) (ds es : List Delivery) → settled_list s (ds ++ es) ≡ settled_list s ds ++ settled_list s es
settled_append s ds es = ap (map (turned s)) (filter-append (λ d. not (ends s d)) ds es) ∙ map-append (turned s) (filter (λ d. not (ends s d)) ds) (filter (λ d. not (ends s d)) es)

-- it stays as long
pub turned_bytes : (s : Settling) (d : Delivery) → delivery_bytes (turned s d) ≡ delivery_bytes d
turned_bytes s d = by s.settler
  where
    by : (who : Settler) → delivery_bytes (turned_by who s.ids.first s.ids.last d) ≡ delivery_bytes d
    by Receiver = refl
    by SenderOfHandedUp = refl
    by SenderOfUntaken = refl

kept_list : (s : Settling) (d : Delivery) → ends s d ≡ false → settled_list s (d ∷ []) ≡ turned s d ∷ []
kept_list s d e = ap (λ b. map (turned s) (cond (not b) (d ∷ []) [])) e

left_list : (s : Settling) (d : Delivery) → ends s d ≡ true → settled_list s (d ∷ []) ≡ []
left_list s d e = ap (λ b. map (turned s) (cond (not b) (d ∷ []) [])) e

one_counted : (s : Settling) (d : Delivery) (n : ℕ) → n ≡ cond (counts s d) 1 0 → n ≡ count_by (counts s) (d ∷ [])
one_counted s d n e = omega (arith, e)

-- a count of one place is 1 or 0 by its test
pub one_or_none : (n : ℕ) (b : Bool) (c : Bool) → n ≡ bool_byte b → b ≡ c → n ≡ cond c 1 0
one_or_none n true c e same = e ∙ ap (λ x. cond x 1 0) same
one_or_none n false c e same = e ∙ ap (λ x. cond x 1 0) same

differ : true ≡ false → ⊥
differ e = cc

-- those before and those behind
pub same_append : (f g : ℕ → Delivery) (xs ys : List ℕ) → map f (xs ++ ys) ≡ map g (xs ++ ys) → (map f xs ≡ map g xs) × (map f ys ≡ map g ys)
same_append f g [] ys e = (refl, e)
same_append f g (x ∷ xs) ys e =
    let h : f x ≡ g x = cc in
    let t : map f (xs ++ ys) ≡ map g (xs ++ ys) = cc in
    let r = same_append f g xs ys t in
    (pair h r.0, r.1)
  where
    pair : {x y : Delivery} {ds es : List Delivery} → x ≡ y → ds ≡ es → x ∷ ds ≡ y ∷ es
    pair e f = cc

-- the keys of one place
pub one_key : (place : Option ℕ) → keys_of (place ∷ []) ≡ option_to_list place
one_key None = refl
one_key (Some key) = refl

-- the place that comes next
next_place : (olds nows : List (Option ℕ)) (i : ℕ) → i < length olds → length nows ≡ length olds → drop i nows ≡ drop i olds → get_or nows i None ≡ get_or olds i None
next_place olds nows i lt same rest =
    let there : i < length nows = omega arith in
    let x = drop_more olds i None lt in
    let y = drop_more nows i None there in
    cc

-- those behind it stay
pub rest_stays : (olds nows : List (Option ℕ)) (i : ℕ) (y : Option ℕ) → i < length olds → length nows ≡ length olds → drop i nows ≡ drop i olds → drop (i + 1) (set nows i y) ≡ drop (i + 1) olds
rest_stays olds nows i y lt same rest =
    let there : i < length nows = omega arith in
    let x = drop_more olds i None lt in
    let y = drop_more nows i None there in
    let e : drop (i + 1) nows ≡ drop (i + 1) olds = cc in
    drop-set-lt (i + 1) nows i _ (omega arith) ∙ e

module _ {A : Type 0} where
  -- whether it ends, asked of what stands under its key
  pub asked_of : (s : Settling) (slab : Slab (OpenDelivery A)) (key : ℕ) (was other : OpenDelivery A) (b v : Bool) → get slab key ≡ Some was → get slab key ≡ Some other →
      b ≡ ends s (delivery_of other) → b ≡ v → ends s (delivery_of was) ≡ v
  asked_of s slab key was other b v e f asked is = ap (λ d. ends s (delivery_of d)) (same_value slab key was other e f) ∙ sym asked ∙ is

  -- what a change under one key leaves beside it
  pub record Beside (old new : Slab (OpenDelivery A)) (front back : List ℕ) (key : ℕ) : Type 0 where
    pub front_same : map (at_key new) front ≡ map (at_key old) front
    pub back_same : map (at_key new) back ≡ map (at_key old) back
    pub here : ContainsKey old key
    pub apart : IsApart key (front ++ back)
    pub rest : AreKeys new (front ++ back)

  beside : (old new : Slab (OpenDelivery A)) (key : ℕ) (slot : Option (OpenDelivery A)) (front back : List ℕ) → Updates old new key slot → AreKeys old (front ++ key ∷ [] ++ back) →
      Beside old new front back key
  beside old new key slot front back u k =
      let i = in_keys old front key back (subst (λ (ks : List ℕ). AreKeys old ks) (append_assoc front (key ∷ []) back) k) in
      let two = apart_append key front back i.apart in
      record {
        front_same = map_other old new key slot front u two.0;
        back_same = map_other old new key slot back u two.1;
        here = i.here;
        apart = i.apart;
        rest = keys_other old new key slot (front ++ back) u i.apart i.rest;
      }

  -- one that stays open
  stays_open : (s : Settling) (old : Slab (OpenDelivery A)) (key many : ℕ) (was d : OpenDelivery A) → ContainsKey old key → get old key ≡ Some was → delivery_of d ≡ turned s (delivery_of was) →
      ends s (delivery_of was) ≡ false → many ≡ cond (counts s (delivery_of was)) 1 0 → Settles s old (with_value old key d) (Some key ∷ []) (Some key ∷ []) many 0
  stays_open s old key many was d here has becomes stays counted =
      let new = with_value old key d in
      let u = Updates-with_value old key d here in
      let was_is : at_key old key ≡ delivery_of was = ap delivery_in has in
      let now_is : at_key (with_value old key d) key ≡ turned s (delivery_of was) = ap delivery_in u.changed ∙ becomes in
      record {
        long = refl;
        deliveries = rw (was_is, now_is) (sym (kept_list s (delivery_of was) stays));
        count = rw was_is (one_counted s (delivery_of was) many counted);
        freed = rw (was_is, now_is) (omega (arith, turned_bytes s (delivery_of was)));
        same = λ _. refl;
        others = λ front back k.
            let b = beside old (with_value old key d) key (Some d) front back u k in (
              subst (λ (ks : List ℕ). AreKeys (with_value old key d) ks) (sym (append_assoc front (key ∷ []) back)) (to_keys (with_value old key d) front key back
                  (there_now old (with_value old key d) key d u) b.apart b.rest),
              b.front_same,
              b.back_same,
            );
        only = omega (arith, size_kept old key d here);
      }

  pub stays_open_at : (s : Settling) (old : Slab (OpenDelivery A)) (place : Option ℕ) (key many : ℕ) (was d : OpenDelivery A) → place ≡ Some key → ContainsKey old key → get old key ≡ Some was →
      delivery_of d ≡ turned s (delivery_of was) → ends s (delivery_of was) ≡ false → many ≡ cond (counts s (delivery_of was)) 1 0 →
      Settles s old (with_value old key d) (place ∷ []) (place ∷ []) many 0
  stays_open_at s old place key many was d e here has becomes stays counted =
      subst (λ (p : Option ℕ). Settles s old (with_value old key d) (p ∷ []) (p ∷ []) many 0) (sym e) (stays_open s old key many was d here has becomes stays counted)

  -- one that is open no longer
  goes : (s : Settling) (old new : Slab (OpenDelivery A)) (key many bytes : ℕ) (was : OpenDelivery A) → get old key ≡ Some was → Updates old new key None → slab_len new + 1 ≡ slab_len old →
      ends s (delivery_of was) ≡ true → many ≡ cond (counts s (delivery_of was)) 1 0 → bytes ≡ delivery_bytes (delivery_of was) → Settles s old new (Some key ∷ []) (None ∷ []) many bytes
  goes s old new key many bytes was has u less leaves counted freed =
      let was_is : at_key old key ≡ delivery_of was = ap delivery_in has in
      record {
        long = refl;
        deliveries = rw was_is (sym (left_list s (delivery_of was) leaves));
        count = rw was_is (one_counted s (delivery_of was) many counted);
        freed = rw was_is (omega (arith, freed));
        same = λ none. absurd (differ (sym leaves ∙ none (delivery_of was)));
        others = λ front back k.
            let b = beside old new key None front back u k in
            (subst (λ (ks : List ℕ). AreKeys new (ks ++ back)) (sym (append-nil front)) b.rest, b.front_same, b.back_same);
        only = omega (arith, less);
      }

  pub goes_at : (s : Settling) (old new : Slab (OpenDelivery A)) (place : Option ℕ) (key many bytes : ℕ) (was : OpenDelivery A) → place ≡ Some key → get old key ≡ Some was →
      Updates old new key None → slab_len new + 1 ≡ slab_len old → ends s (delivery_of was) ≡ true → many ≡ cond (counts s (delivery_of was)) 1 0 → bytes ≡ delivery_bytes (delivery_of was) →
      Settles s old new (place ∷ []) (None ∷ []) many bytes
  goes_at s old new place key many bytes was e has u less leaves counted freed =
      subst (λ (p : Option ℕ). Settles s old new (p ∷ []) (None ∷ []) many bytes) (sym e) (goes s old new key many bytes was has u less leaves counted freed)

  -- no place at all
  pub none_settled : (s : Settling) (slab : Slab (OpenDelivery A)) → Settles s slab slab [] [] 0 0
  none_settled s slab = record {
    long = refl;
    deliveries = refl;
    count = refl;
    freed = refl;
    same = λ _. refl;
    others = λ front back k. (k, refl, refl);
    only = refl;
  }

  abbrev Leaves : Slab (OpenDelivery A) → Slab (OpenDelivery A) → List ℕ → List ℕ → Type 0
  Leaves a b xs ys = (front back : List ℕ) → AreKeys a (front ++ xs ++ back) → AreKeys b (front ++ ys ++ back) × (map (at_key b) front ≡ map (at_key a) front) ×
      (map (at_key b) back ≡ map (at_key a) back)

  joined_others : (a b c : Slab (OpenDelivery A)) (front xs ys us vs back xus yvs : List ℕ) → xus ≡ xs ++ us → yvs ≡ ys ++ vs → Leaves a b xs ys → Leaves b c us vs →
      AreKeys a (front ++ xus ++ back) → AreKeys c (front ++ yvs ++ back) × (map (at_key c) front ≡ map (at_key a) front) × (map (at_key c) back ≡ map (at_key a) back)
  joined_others a b c front xs ys us vs back xus yvs ex ey first second k =
      let o = first front (us ++ back) (subst (λ (ks : List ℕ). AreKeys a ks) (ap (λ (ks : List ℕ). front ++ ks ++ back) ex ∙ regroup front xs us back) k) in
      let p = second (front ++ ys) back (subst (λ (ks : List ℕ). AreKeys b ks) (sym (append_assoc (front ++ ys) us back)) o.0) in (
        subst (λ (ks : List ℕ). AreKeys c ks) (append_assoc (front ++ ys) vs back ∙ sym (regroup front ys vs back) ∙ ap (λ (ks : List ℕ). front ++ ks ++ back) (sym ey)) p.0,
        (same_append (at_key c) (at_key b) front ys p.1).0 ∙ o.1,
        p.2 ∙ (same_append (at_key b) (at_key a) us back o.2).1,
      )
    where
      regroup : (front xs us back : List ℕ) → front ++ (xs ++ us) ++ back ≡ (front ++ xs) ++ (us ++ back)
      regroup front xs us back = simp append_assoc

  -- some places, and those behind them
  pub joined : (s : Settling) (a b c : Slab (OpenDelivery A)) (xs ys us vs : List (Option ℕ)) (m n f g : ℕ) → Settles s a b xs ys m f → Settles s b c us vs n g →
      AreKeys a (keys_of xs ++ keys_of us) → Settles s a c (xs ++ us) (ys ++ vs) (m + n) (f + g)
  joined s a b c xs ys us vs m n f g first second keys =
      let o = first.others [] (keys_of us) keys in
      let p = second.others (keys_of ys) [] (subst (λ (ks : List ℕ). AreKeys b ks) (sym (append-nil (keys_of ys ++ keys_of us))) o.0) in
      let kx = keys_append xs us in
      let ky = keys_append ys vs in
      let before : map (at_key a) (keys_of (xs ++ us)) ≡ map (at_key a) (keys_of xs) ++ map (at_key a) (keys_of us) = ap (map (at_key a)) kx ∙ map-append (at_key a) (keys_of xs) (keys_of us) in
      let after : map (at_key c) (keys_of (ys ++ vs)) ≡ map (at_key b) (keys_of ys) ++ map (at_key c) (keys_of vs) =
      ap (map (at_key c)) ky ∙ map-append (at_key c) (keys_of ys) (keys_of vs) ∙ ap (λ (ds : List Delivery). ds ++ map (at_key c) (keys_of vs)) p.1 in
      let mid : map (at_key c) (keys_of vs) ≡ settled_list s (map (at_key a) (keys_of us)) = second.deliveries ∙ ap (settled_list s) o.2 in
      let sums : (ds es : List Delivery) → sum_by delivery_bytes (ds ++ es) ≡ sum_by delivery_bytes ds + sum_by delivery_bytes es = sum_by-append delivery_bytes in
      record {
        long = omega (arith, first.long, second.long, length-append xs us, length-append ys vs);
        deliveries = after ∙ ap (λ (ds : List Delivery). ds ++ map (at_key c) (keys_of vs)) first.deliveries ∙ ap (λ (ds : List Delivery). settled_list s (map (at_key a) (keys_of xs)) ++ ds) mid
            ∙ sym (settled_append s (map (at_key a) (keys_of xs)) (map (at_key a) (keys_of us))) ∙ ap (settled_list s) (sym before);
        count = omega (
          arith,
          first.count,
          second.count,
          ap (count_by (counts s)) o.2,
          ap (count_by (counts s)) before,
          sum_by-append (λ x. cond (counts s x) 1 0) (map (at_key a) (keys_of xs))
              (map (at_key a) (keys_of us)),
        );
        freed = omega (
          arith,
          first.freed,
          second.freed,
          ap (sum_by delivery_bytes) o.2,
          ap (sum_by delivery_bytes) before,
          ap (sum_by delivery_bytes) after,
          sums (map (at_key a) (keys_of xs)) (map (at_key a) (keys_of us)),
          sums (map (at_key b) (keys_of ys)) (map (at_key c) (keys_of vs)),
        );
        same = λ none. let e = first.same none in let f = second.same none in cc;
        others = λ front back k. joined_others a b c front (keys_of xs) (keys_of ys) (keys_of us) (keys_of vs) back (keys_of (xs ++ us)) (keys_of (ys ++ vs)) kx ky first.others second.others k;
        only = omega (arith, first.only, second.only, ap length kx, ap length ky, length-append (keys_of xs) (keys_of us), length-append (keys_of ys) (keys_of vs));
      }

  -- it has a key of the slab, if it has one
  pub next_keys : (s : Settling) (a b : Slab (OpenDelivery A)) (olds nows : List (Option ℕ)) (i m f : ℕ) → i < length olds → length nows ≡ length olds →
      Settles s a b (take i olds) (take i nows) m f → drop i nows ≡ drop i olds → AreKeys a (keys_of olds) → AreKeys b (option_to_list (get_or nows i None))
  next_keys s a b olds nows i m f lt same done rest keys =
      let split : keys_of olds ≡ keys_of (take i olds) ++ keys_of (drop i olds) = ap keys_of (sym (take-append-drop i olds)) ∙ keys_append (take i olds) (drop i olds) in
      let o = done.others [] (keys_of (drop i olds)) (subst (λ (ks : List ℕ). AreKeys a ks) split keys) in
      let left : keys_of (drop i olds) ≡ option_to_list (get_or nows i None) ++ keys_of (drop (i + 1) olds) =
      ap keys_of (drop_more olds i None lt) ∙ keys_append (get_or olds i None ∷ []) (drop (i + 1) olds)
      ∙ ap (λ (ks : List ℕ). ks ++ keys_of (drop (i + 1) olds)) (one_key (get_or olds i None) ∙ ap option_to_list (sym (next_place olds nows i lt same rest))) in
      keys_before b (option_to_list (get_or nows i None)) (keys_of (drop (i + 1) olds)) (subst (λ (ks : List ℕ). AreKeys b ks) left (keys_behind b (keys_of (take i nows)) (keys_of (drop i olds)) o.0))

  -- one place more
  pub further : (s : Settling) (a b c : Slab (OpenDelivery A)) (olds nows : List (Option ℕ)) (i : ℕ) (y : Option ℕ) (m n f g : ℕ) → i < length olds → length nows ≡ length olds →
      Settles s a b (take i olds) (take i nows) m f → drop i nows ≡ drop i olds → AreKeys a (keys_of olds) → Settles s b c (get_or nows i None ∷ []) (y ∷ []) n g →
      Settles s a c (take (i + 1) olds) (take (i + 1) (set nows i y)) (m + n) (f + g)
  further s a b c olds nows i y m n f g lt same done rest keys one =
      let there : i < length nows = omega arith in
      let more : take (i + 1) olds ≡ take i olds ++ get_or nows i None ∷ [] = take_more olds i None lt ∙ ap (λ (p : Option ℕ). take i olds ++ p ∷ []) (sym (next_place olds nows i lt same rest)) in
      let split : keys_of olds ≡ (keys_of (take i olds) ++ keys_of (get_or nows i None ∷ [])) ++ keys_of (drop (i + 1) olds) =
      ap keys_of (sym (take-append-drop (i + 1) olds)) ∙ keys_append (take (i + 1) olds) (drop (i + 1) olds)
      ∙ ap (λ (ps : List (Option ℕ)). keys_of ps ++ keys_of (drop (i + 1) olds)) more ∙ ap (λ (ks : List ℕ). ks ++ keys_of (drop (i + 1) olds)) (keys_append (take i olds) (get_or nows i None ∷ [])) in
      let j = joined s a b c (take i olds) (take i nows) (get_or nows i None ∷ []) (y ∷ []) m n f g done one (keys_before a (keys_of (take i olds) ++ keys_of (get_or nows i None ∷ []))
      (keys_of (drop (i + 1) olds)) (subst (λ (ks : List ℕ). AreKeys a ks) split keys)) in
      rw (more, take_more_set nows i y there) j

  -- what is counted is no more than the places, and what is freed no more than was kept
  pub few : (s : Settling) (a b : Slab (OpenDelivery A)) (xs ys : List (Option ℕ)) (m f : ℕ) → Settles s a b xs ys m f → m ≤ length xs
  few s a b xs ys m f done = omega (arith, done.count, count_by-le-length (counts s) (map (at_key a) (keys_of xs)), length-map (keys_of xs) (at_key a), keys_length xs)

  pub little : (s : Settling) (a b : Slab (OpenDelivery A)) (olds ys : List (Option ℕ)) (i m f : ℕ) → Settles s a b (take i olds) ys m f → f ≤ sum_by delivery_bytes (map (at_key a) (keys_of olds))
  little s a b olds ys i m f done =
      let split : map (at_key a) (keys_of olds) ≡ map (at_key a) (keys_of (take i olds)) ++ map (at_key a) (keys_of (drop i olds)) =
      ap (λ (ps : List (Option ℕ)). map (at_key a) (keys_of ps)) (sym (take-append-drop i olds)) ∙ ap (map (at_key a)) (keys_append (take i olds) (drop i olds))
      ∙ map-append (at_key a) (keys_of (take i olds)) (keys_of (drop i olds)) in
      omega (arith, done.freed, ap (sum_by delivery_bytes) split, sum_by-append delivery_bytes (map (at_key a) (keys_of (take i olds))) (map (at_key a) (keys_of (drop i olds))))
