-- A set of byte strings holds the one that is put into it, and those before.
use Rattle.std.proofs.Common.{◌≡◌, ℕ, Bool, true, false, ◌||◌, List, [], ◌∷◌, map, refl, sym, ap, ◌∙◌}
use Rattle.std.specs.Str.{bytes_eq}
use Rattle.std.specs.List.{list_any}
use Rattle.std.specs.declared.cmp.Ordering.{Ordering}
use Rattle.std.specs.declared.cmp.Ordering.TheVariants.{Less, Equal, Greater}
use Rattle.std.specs.Ordering.{is_eq, match_ordering, nat_cmp}
use Rattle.std.specs.Cmp.Lexicographic.{slice_cmp}
use Rattle.std.specs.BTreeSet.{insert_key}
use Rattle.std.proofs.Math.Bool.{or_assoc, or_comm}
use Rattle.std.proofs.lemmas.Bool.Decides.{same_from_decides}
use Rattle.std.proofs.lemmas.Map.Lookups.{exact_bytes}
use Rattle.std.proofs.lemmas.Map.Text.{is_eq-slice_cmp}
use Rattle.std.proofs.lemmas.Slice.Eq.{bytes_eq-Decides}
use Rattle.amqp_types.specs.Decoding.{is_among}

-- bytes compare the same either way
pub bytes_eq-swap : (xs ys : List ℕ) → bytes_eq xs ys ≡ bytes_eq ys xs
bytes_eq-swap xs ys =
    let p = bytes_eq-Decides ys xs in
    same_from_decides (bytes_eq xs ys) (bytes_eq ys xs) (bytes_eq-Decides xs ys) (λ e. sym (p.0 e), λ e. p.1 (sym e))

once : (a b r : Bool) → b ≡ a → (b || r) ≡ (a || (b || r))
once true b r e = ap (λ (x : Bool). x || r) e
once false b r e = refl

swap : (a b r : Bool) → (b || (a || r)) ≡ (a || (b || r))
swap a b r = sym (or_assoc b a r) ∙ ap (λ (x : Bool). x || r) (or_comm b a) ∙ or_assoc a b r

module _ {K : Type 0} (octets_of : K → List ℕ) where
  pub found : (octets : List ℕ) (ks : List K) → list_any (λ k. is_eq (slice_cmp nat_cmp octets (octets_of k))) ks ≡ is_among octets (map octets_of ks)
  found octets [] = refl
  found octets (k ∷ ks) =
      ap (λ (b : Bool). b || list_any (λ k. is_eq (slice_cmp nat_cmp octets (octets_of k))) ks) (is_eq-slice_cmp octets (octets_of k) ∙ bytes_eq-swap octets (octets_of k))
      ∙ ap (λ (b : Bool). bytes_eq (octets_of k) octets || b) (found octets ks)

module _ {K : Type 0} (octets_of : K → List ℕ) (cmp : K → K → Ordering) (exact : (a b : K) → cmp a b ≡ Equal → octets_of a ≡ octets_of b) where
  placed : (octets : List ℕ) (k x : K) (xs : List K) (o : Ordering) → o ≡ cmp k x
      → is_among octets (map octets_of (insert_key cmp xs k)) ≡ (bytes_eq (octets_of k) octets || is_among octets (map octets_of xs))
      → is_among octets (map octets_of (match_ordering o (k ∷ x ∷ xs) (x ∷ xs) (x ∷ insert_key cmp xs k)))
      ≡ (bytes_eq (octets_of k) octets || (bytes_eq (octets_of x) octets || is_among octets (map octets_of xs)))
  placed octets k x xs Less e rest = refl
  placed octets k x xs Equal e rest =
      once (bytes_eq (octets_of k) octets) (bytes_eq (octets_of x) octets) (is_among octets (map octets_of xs))
      (ap (λ (ys : List ℕ). bytes_eq ys octets) (sym (exact k x (sym e))))
  placed octets k x xs Greater e rest =
      ap (λ (b : Bool). bytes_eq (octets_of x) octets || b) rest
      ∙ swap (bytes_eq (octets_of k) octets) (bytes_eq (octets_of x) octets) (is_among octets (map octets_of xs))

  -- where equal ones have the same bytes
  pub inserted_by : (octets : List ℕ) (k : K) (ks : List K) → is_among octets (map octets_of (insert_key cmp ks k)) ≡ (bytes_eq (octets_of k) octets || is_among octets (map octets_of ks))
  inserted_by octets k [] = refl
  inserted_by octets k (x ∷ xs) = placed octets k x xs (cmp k x) refl (inserted_by octets k xs)

-- so it is where they are ordered by their bytes
pub inserted : {K : Type 0} (octets_of : K → List ℕ) (octets : List ℕ) (k : K) (ks : List K)
    → is_among octets (map octets_of (insert_key (λ a b. slice_cmp nat_cmp (octets_of a) (octets_of b)) ks k)) ≡ (bytes_eq (octets_of k) octets || is_among octets (map octets_of ks))
inserted octets_of = inserted_by octets_of (λ a b. slice_cmp nat_cmp (octets_of a) (octets_of b)) (λ a b e. exact_bytes (octets_of a) (octets_of b) e)
