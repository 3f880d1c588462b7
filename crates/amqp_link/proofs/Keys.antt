-- Keys of a slab: what changes under one of them leaves the others.
use Rattle.std.proofs.Common.{arith, ◌≡◌, ◌≢◌, ℕ, ◌+◌, List, [], ◌∷◌, ◌++◌, map, Option, Some, None, Bor, refl, sym, ap, subst, ◌∙◌}
use Rattle.std.specs.Prelude.{option_map, option_copied, option_to_list, sum_by, IsSome, Bool, true, cond, is_some}
use Rattle.std.specs.List.{AllByRecursion}
use Rattle.std.proofs.lemmas.List.Sums.{sum_by-set, sum_by-append}
use Rattle.slab.specs.Slab.{Slab, get, ContainsKey, Updates, with_value, slab_len}
use Rattle.slab.proofs.SlabLemmas.{ContainsKey-within}
use Rattle.amqp_link.specs.declared.open_delivery.OpenDelivery.{OpenDelivery}
use Rattle.amqp_link.specs.Links.{OpenSet, set_bytes, delivery_bytes}
use Rattle.amqp_link.specs.Keeping.{delivery_of, at_key, AreKeys}

-- no key of the list is this one
abbrev pub IsApart : ℕ → List ℕ → Type 0
IsApart key keys = AllByRecursion (λ other. other ≢ key) keys

-- a key apart from two lists joined is apart from each
pub apart_append : (key : ℕ) (xs ys : List ℕ) → IsApart key (xs ++ ys) → IsApart key xs × IsApart key ys
apart_append key [] ys a = (tt, a)
apart_append key (x ∷ xs) ys a = let r = apart_append key xs ys a.1 in ((a.0, r.0), r.1)

turn : (a b : ℕ) → a ≢ b → b ≢ a
turn a b n e = n (sym e)

abbrev bit : Bool → ℕ
bit b = cond b 1 0

none_some : {T : Type 0} (o : Option T) → o ≡ None → IsSome o → ⊥
none_some None e s = grind (arith, s)
none_some (Some x) e s = grind (arith, e)

-- what bytes count, by the three lists
pub total_is : (o : OpenSet) → set_bytes o ≡ sum_by delivery_bytes o.awaiting + sum_by delivery_bytes o.ready + sum_by delivery_bytes (option_to_list o.unfinished)
total_is o = sum_by-append delivery_bytes (o.awaiting ++ o.ready) (option_to_list o.unfinished) ∙ ap (λ (n : ℕ). n + sum_by delivery_bytes (option_to_list o.unfinished))
    (sum_by-append delivery_bytes o.awaiting o.ready)

module _ {A : Type 0} where
  -- a key among others: it has a delivery, and the others are keys without it
  pub record IsIn (slab : Slab (OpenDelivery A)) (xs : List ℕ) (key : ℕ) (ys : List ℕ) : Type 0 where
    pub here : ContainsKey slab key
    pub apart : IsApart key (xs ++ ys)
    pub rest : AreKeys slab (xs ++ ys)

  pub in_keys : (slab : Slab (OpenDelivery A)) (xs : List ℕ) (key : ℕ) (ys : List ℕ) → AreKeys slab (xs ++ key ∷ ys) → IsIn slab xs key ys
  in_keys slab [] key ys k = record { here = k.0; apart = k.1; rest = k.2 }
  in_keys slab (x ∷ xs) key ys k =
      let r = in_keys slab xs key ys k.2 in
      let two = apart_append x xs (key ∷ ys) k.1 in
      record {
        here = r.here;
        apart = (turn key x two.1.0, r.apart);
        rest = (k.0, apart_both x xs ys two.0 two.1.1, r.rest);
      }
    where
      apart_both : (x : ℕ) (xs ys : List ℕ) → IsApart x xs → IsApart x ys → IsApart x (xs ++ ys)
      apart_both x [] ys a b = b
      apart_both x (y ∷ xs) ys a b = (a.0, apart_both x xs ys a.1 b)

  -- and back
  pub to_keys : (slab : Slab (OpenDelivery A)) (xs : List ℕ) (key : ℕ) (ys : List ℕ) → ContainsKey slab key → IsApart key (xs ++ ys) → AreKeys slab (xs ++ ys) → AreKeys slab (xs ++ key ∷ ys)
  to_keys slab [] key ys here apart keys = (here, apart, keys)
  to_keys slab (x ∷ xs) key ys here apart keys = (keys.0, apart_in x key xs ys (turn x key apart.0) keys.1, to_keys slab xs key ys here apart.1 keys.2)
    where
      apart_in : (x key : ℕ) (xs ys : List ℕ) → key ≢ x → IsApart x (xs ++ ys) → IsApart x (xs ++ key ∷ ys)
      apart_in x key [] ys n a = (n, a)
      apart_in x key (y ∷ xs) ys n a = (a.0, apart_in x key xs ys n a.1)

  -- what one key has
  pub same_value : (slab : Slab (OpenDelivery A)) (key : ℕ) (x y : OpenDelivery A) → get slab key ≡ Some x → get slab key ≡ Some y → x ≡ y
  same_value slab key x y e f = cc

  -- a key without a delivery is none of the keys
  pub fresh_apart : (slab : Slab (OpenDelivery A)) (key : ℕ) (keys : List ℕ) → get slab key ≡ None → AreKeys slab keys → IsApart key keys
  fresh_apart slab key [] e k = tt
  fresh_apart slab key (x ∷ xs) e k = ((λ same. none_some (get slab key) e (subst (λ (n : ℕ). ContainsKey slab n) same k.0)), fresh_apart slab key xs e k.2)

  pub map_other : (old new : Slab (OpenDelivery A)) (key : ℕ) (slot : Option (OpenDelivery A)) (keys : List ℕ) → Updates old new key slot → IsApart key keys →
      map (at_key new) keys ≡ map (at_key old) keys
  map_other old new key slot [] u a = refl
  map_other old new key slot (x ∷ xs) u a = rw (u.others x a.0, map_other old new key slot xs u a.1) refl

  pub keys_other : (old new : Slab (OpenDelivery A)) (key : ℕ) (slot : Option (OpenDelivery A)) (keys : List ℕ) → Updates old new key slot → IsApart key keys → AreKeys old keys → AreKeys new keys
  keys_other old new key slot [] u a k = tt
  keys_other old new key slot (x ∷ xs) u a k = (rw (u.others x a.0) k.0, k.1, keys_other old new key slot xs u a.1 k.2)

  -- a key that has been given a delivery
  pub there_now : (old new : Slab (OpenDelivery A)) (key : ℕ) (d : OpenDelivery A) → Updates old new key (Some d) → ContainsKey new key
  there_now old new key d u = subst (λ (s : Option (OpenDelivery A)). IsSome s) (sym u.changed) refl

  -- a value in the place of another keeps their number
  pub size_kept : (slab : Slab (OpenDelivery A)) (key : ℕ) (d : OpenDelivery A) → ContainsKey slab key → slab_len (with_value slab key d) ≡ slab_len slab
  size_kept slab key d here =
      let one = sum_by-set (λ (o : Option (OpenDelivery A)). bit (is_some o)) slab.slots key (Some d) None (ContainsKey-within slab key here) in
      let was : bit (is_some (get slab key)) ≡ bit true = ap bit here in
      omega (arith, one, was)

  -- keys have deliveries
  pub all_there : (slab : Slab (OpenDelivery A)) (keys : List ℕ) → AreKeys slab keys → AllByRecursion (ContainsKey slab) keys
  all_there slab [] k = tt
  all_there slab (x ∷ xs) k = (k.0, all_there slab xs k.2)

  -- the keys behind others are keys, and so are those before
  pub keys_behind : (slab : Slab (OpenDelivery A)) (xs ys : List ℕ) → AreKeys slab (xs ++ ys) → AreKeys slab ys
  keys_behind slab [] ys k = k
  keys_behind slab (x ∷ xs) ys k = keys_behind slab xs ys k.2

  pub keys_before : (slab : Slab (OpenDelivery A)) (xs ys : List ℕ) → AreKeys slab (xs ++ ys) → AreKeys slab xs
  keys_before slab [] ys k = tt
  keys_before slab (x ∷ xs) ys k = (k.0, (apart_append x xs ys k.1).0, keys_before slab xs ys k.2)

  -- a key alone
  pub first_there : (slab : Slab (OpenDelivery A)) (place : Option ℕ) (key : ℕ) → AreKeys slab (option_to_list place) → place ≡ Some key → ContainsKey slab key
  first_there slab None key k e = absurd (grind (arith, e))
  first_there slab (Some other) key k e = subst (λ (n : ℕ). ContainsKey slab n) (same_key e) k.0
    where
      same_key : Some other ≡ Some key → other ≡ key
      same_key e = cc

  -- what a lent delivery shows
  pub lent : (slab : Slab (OpenDelivery A)) (key : ℕ) (o : Option (Bor (OpenDelivery A))) → option_copied o ≡ get slab key → ContainsKey slab key →
      option_map (λ (held : Bor (OpenDelivery A)). delivery_of held.now) o ≡ Some (at_key slab key)
  lent slab key None e here = absurd (grind (arith, e, here))
  lent slab key (Some held) e here = rw (← e) refl
