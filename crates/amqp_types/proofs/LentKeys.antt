-- Keys that hold no others, as they stand in the bytes, and whether one is among others.
use Rattle.std.proofs.Common.{◌≡◌, ◌≢◌, ℕ, suc, true, false, not, ◌+◌, ◌-◌, ◌^◌, ◌<◌, ◌≤◌, Bool, ◌&&◌, ◌||◌, cond, nat_eq, List, [], ◌∷◌, ◌++◌, length, drop, map, get_or, Option, Some, None, is_some, Result, Ok, Err, refl, sym, ap, ◌∙◌, arith}
use Rattle.std.specs.Str.{bytes_eq}
use Rattle.std.proofs.Math.Seq.{drop-cons}
use Rattle.std.proofs.Math.Bool.{or_assoc}
use Rattle.std.proofs.lemmas.Bool.{le-ltb, ne_eqb, eq-eqb, eqb-true, false_from_ne_true}
use Rattle.std.proofs.lemmas.Bool.Decides.{same_from_decides}
use Rattle.std.proofs.lemmas.List.{drop_all}
use Rattle.std.proofs.lemmas.Slice.Eq.{bytes_eq-Decides}
use Rattle.amqp_types.specs.declared.code.Constructor.{Constructor}
use Rattle.amqp_types.specs.declared.fault.ReadFault.{ReadFault}
use Rattle.amqp_types.specs.declared.fault.ReadFault.TheVariants.{TooDeep}
use Rattle.amqp_types.specs.declared.kind.Kind.{Kind}
use Rattle.amqp_types.specs.declared.window.Window.{Window}
use Rattle.amqp_types.specs.Codes.{find_code, kind_of}
use Rattle.amqp_types.specs.Decoding.{is_among}
use Rattle.amqp_types.specs.Images.{image}
use Rattle.amqp_types.specs.InHand.{place}
use Rattle.amqp_types.specs.Keys.{IsWith}
use Rattle.amqp_types.specs.Kinds.{is_container}
use Rattle.amqp_types.specs.Reading.{Level, allowed, item_by, value_by}
use Rattle.amqp_types.specs.Trees.{Tree, Number, Octets}
use Rattle.amqp_types.proofs.ImageLaws.{IsSmall, image_apart, same_kind}
use Rattle.amqp_types.proofs.Reaches.{allowed_anywhere, not_described}

-- ---- reading

-- what may stand where no container may is none, and may stand anywhere
pub allowed_bare : (holds : Bool) (o : Option Constructor) (c : Constructor) → allowed 0 false o ≡ Ok c → allowed 0 holds o ≡ Ok c
allowed_bare holds None c e = absurd cc
allowed_bare holds (Some d) c e = by (is_container (kind_of d)) e
  where
    by : (b : Bool) → ◌≡◌ {A = Result Constructor ReadFault} (cond (b && true) (Err (TooDeep 0)) (Ok d)) (Ok c)
        → ◌≡◌ {A = Result Constructor ReadFault} (cond (b && not holds) (Err (TooDeep 0)) (Ok d)) (Ok c)
    by true h = absurd cc
    by false h = h

-- a value that charges nothing is read as its constructor's data are
pub coded_is : (inner : Option Level) (w : Window) (nodes code : ℕ) (c : Constructor) (rest behind : List ℕ) (t : Tree) → allowed 0 false (find_code code) ≡ Ok c
    → item_by inner c w (Some nodes) rest ≡ Ok (t, Some nodes, behind) → value_by inner w 0 (Some nodes) (code ∷ rest) ≡ Ok (t, Some nodes, behind)
unfolding value_by
coded_is inner w nodes code c rest behind t e h =
    let all : nodes - 0 ≡ nodes = omega arith in
    rw (
      ne_eqb code 0 (not_described false code c e),
      allowed_anywhere (place w (code ∷ rest)) (is_some inner) (find_code code) c (allowed_bare (is_some inner) (find_code code) c e),
      le-ltb nodes 0 (omega arith),
      all,
    ) h

-- ---- telling apart

-- small values are equal exactly if their images are
tells : (t u : Tree) → IsSmall t → IsSmall u → (bytes_eq (image t) (image u) ≡ true → t ≡ u) × (t ≡ u → bytes_eq (image t) (image u) ≡ true)
tells t u p q = (λ e. image_apart t u p q ((bytes_eq-Decides (image t) (image u)).0 e), λ e. (bytes_eq-Decides (image t) (image u)).1 (ap image e))

pub numbers_told : (k : Kind) (n m : ℕ) → n < 256 ^ 16 → m < 256 ^ 16 → nat_eq n m ≡ bytes_eq (image (Number k n)) (image (Number k m))
numbers_told k n m p q =
    same_from_decides (nat_eq n m) (bytes_eq (image (Number k n)) (image (Number k m))) (λ e. ap (Number k) (eqb-true n m e), λ e. eq-eqb n m (same e)) (tells (Number k n) (Number k m) p q)
  where
    same : Number k n ≡ Number k m → n ≡ m
    same e = cc

pub octets_told : (k : Kind) (x y : List ℕ) → length x < 256 ^ 8 → length y < 256 ^ 8 → bytes_eq x y ≡ bytes_eq (image (Octets k x)) (image (Octets k y))
octets_told k x y p q =
    same_from_decides (bytes_eq x y) (bytes_eq (image (Octets k x)) (image (Octets k y))) (λ e. ap (Octets k) ((bytes_eq-Decides x y).0 e), λ e. (bytes_eq-Decides x y).1 (same e))
    (tells (Octets k x) (Octets k y) p q)
  where
    same : Octets k x ≡ Octets k y → x ≡ y
    same e = cc

second : List ℕ → ℕ
second xs = get_or xs 1 9

-- values of two kinds are told apart by them
pub kinds_told : (j k : Kind) (n m : ℕ) → j ≢ k → false ≡ bytes_eq (image (Number j n)) (image (Number k m))
unfolding image second
kinds_told j k n m ne = sym (false_from_ne_true _ (λ e. ne (same_kind j k (ap second ((bytes_eq-Decides (image (Number j n)) (image (Number k m))).0 e)))))

pub octet_kinds_told : (j k : Kind) (x y : List ℕ) → j ≢ k → false ≡ bytes_eq (image (Octets j x)) (image (Octets k y))
unfolding image second
octet_kinds_told j k x y ne = sym (false_from_ne_true _ (λ e. ne (same_kind j k (ap second ((bytes_eq-Decides (image (Octets j x)) (image (Octets k y))).0 e)))))

-- and a number from bytes
pub number_not_octets : (j k : Kind) (n : ℕ) (y : List ℕ) → false ≡ bytes_eq (image (Number j n)) (image (Octets k y))
unfolding image
number_not_octets j k n y = refl

pub octets_not_number : (j k : Kind) (x : List ℕ) (m : ℕ) → false ≡ bytes_eq (image (Octets j x)) (image (Number k m))
unfolding image
octets_not_number j k x m = refl

-- ---- among others

module _ {B : Type 0} (f : B → List ℕ) (octets : List ℕ) (keys : List B) (i : ℕ) (d : B) (within : i < length keys) where
  there : drop i keys ≡ get_or keys i d ∷ drop (i + 1) keys
  there = let next : suc i ≡ i + 1 = omega arith in drop-cons keys i d within ∙ ap (λ (j : ℕ). get_or keys i d ∷ drop j keys) next

  -- one that is there
  pub among_at : bytes_eq (f (get_or keys i d)) octets ≡ true → is_among octets (map f (drop i keys)) ≡ true
  among_at e = rw (there, e) refl

  -- one that is not the next is among those behind it, or none
  pub among_on : bytes_eq (f (get_or keys i d)) octets ≡ false → is_among octets (map f (drop (i + 1) keys)) ≡ is_among octets (map f (drop i keys))
  among_on e = rw (there, e) refl

-- none is among none
pub among_none : {B : Type 0} (f : B → List ℕ) (octets : List ℕ) (keys : List B) (i : ℕ) → length keys ≤ i → is_among octets (map f (drop i keys)) ≡ false
among_none f octets keys i le = rw (drop_all i keys le) refl

-- among two lists
pub among_both : (octets : List ℕ) (xs ys : List (List ℕ)) → is_among octets (xs ++ ys) ≡ (is_among octets xs || is_among octets ys)
among_both octets [] ys = refl
among_both octets (x ∷ xs) ys =
    ap (λ (b : Bool). bytes_eq x octets || b) (among_both octets xs ys) ∙ sym (or_assoc (bytes_eq x octets) (is_among octets xs) (is_among octets ys))

swapped : (a b r : Bool) → (a || (b || r)) ≡ (b || (a || r))
swapped true true r = refl
swapped true false r = refl
swapped false b r = refl

-- one more in the second
pub with_second : (octets : List ℕ) (xs old new : List (List ℕ)) → IsWith octets old new → IsWith octets (xs ++ old) (xs ++ new)
with_second octets xs old new added other =
    among_both other xs new ∙ ap (λ (b : Bool). is_among other xs || b) (added other) ∙ swapped (is_among other xs) (bytes_eq octets other) (is_among other old)
    ∙ ap (λ (b : Bool). bytes_eq octets other || b) (sym (among_both other xs old))

-- one more at the end
pub pushed : {B : Type 0} (f : B → List ℕ) (xs : List B) (x : B) → IsWith (f x) (map f xs) (map f (xs ++ x ∷ []))
pushed f [] x other = refl
pushed f (y ∷ ys) x other =
    ap (λ (b : Bool). bytes_eq (f y) other || b) (pushed f ys x other) ∙ swapped (bytes_eq (f y) other) (bytes_eq (f x) other) (is_among other (map f ys))

-- the next of a list goes into the second
pub moved : {B : Type 0} (f : B → List ℕ) (octets : List ℕ) (keys : List B) (i : ℕ) (d : B) (old new : List (List ℕ)) → i < length keys → IsWith (f (get_or keys i d)) old new
    → is_among octets (map f (drop (i + 1) keys) ++ new) ≡ is_among octets (map f (drop i keys) ++ old)
moved f octets keys i d old new within added =
    rw (there f octets keys i d within) (with_second (f (get_or keys i d)) (map f (drop (i + 1) keys)) old new added octets)

-- where all have gone
pub all_moved : {B : Type 0} (f : B → List ℕ) (octets : List ℕ) (keys : List B) (i : ℕ) (new : List (List ℕ)) → length keys ≤ i → is_among octets (map f (drop i keys) ++ new) ≡ is_among octets new
all_moved f octets keys i new le = rw (drop_all i keys le) refl
