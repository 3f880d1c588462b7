-- Keys by their marks.
use Rattle.std.proofs.Common.{◌≡◌, ℕ, suc, Bool, true, false, ◌||◌, ◌+◌, ◌*◌, ◌%◌, ◌^◌, ◌<◌, ◌≤◌, ◌⊎◌, inl, inr, nat_eq, List, [], ◌∷◌, length, drop, get_or, refl, sym, ap, ◌∙◌, arith}
use Rattle.std.specs.List.{list_any}
use Rattle.std.specs.Str.{bytes_eq}
use Rattle.std.specs.Ordering.{is_eq, nat_cmp}
use Rattle.std.specs.declared.cmp.Ordering.TheVariants.{Less, Equal, Greater}
use Rattle.std.specs.Cmp.{nat_cmp_is}
use Rattle.std.proofs.Math.Seq.{drop-cons}
use Rattle.std.proofs.lemmas.Bool.{or_parts, or_from, or_right, false_from_ne_true, true≢false, eq-eqb, eqb-true, cases_lt}
use Rattle.std.proofs.lemmas.List.{drop_all, drop_at}
use Rattle.std.proofs.lemmas.Slice.Eq.{bytes_eq-Decides}
use Rattle.byteorder.specs.Endian.{big_bytes}
use Rattle.byteorder.specs.Numbers.{length-bytes_high_first}
use Rattle.amqp_types.specs.declared.kind.Kind.{Kind}
use Rattle.amqp_types.specs.Decoding.{is_among}
use Rattle.amqp_types.specs.Images.{image}
use Rattle.amqp_types.specs.Keys.{IsWith}
use Rattle.amqp_types.specs.Marks.{factor, marked, mark_of, image_mark, is_marked, AreMarkedBy}
use Rattle.amqp_types.specs.Trees.{Number, Octets}

-- one byte more
pub marked_next : (mark : ℕ) (bytes : List ℕ) (i d : ℕ) → i < length bytes → marked mark (drop i bytes) ≡ marked ((mark * factor % 2 ^ 64 + get_or bytes i d) % 2 ^ 64) (drop (i + 1) bytes)
unfolding marked
marked_next mark bytes i d within =
    let next : suc i ≡ i + 1 = omega arith in
    ap (marked mark) (drop-cons bytes i d within ∙ ap (λ (j : ℕ). get_or bytes i d ∷ drop j bytes) next)

-- all of them
pub marked_all : (mark : ℕ) (bytes : List ℕ) (i : ℕ) → length bytes ≤ i → marked mark (drop i bytes) ≡ mark
unfolding marked
marked_all mark bytes i le = rw (drop_all i bytes le) refl

same_mark : (m k : ℕ) → is_eq (nat_cmp m k) ≡ nat_eq k m
same_mark m k = by (cases_lt m k) (cases_lt k m)
  where
    by : (m < k) ⊎ (k ≤ m) → (k < m) ⊎ (m ≤ k) → is_eq (nat_cmp m k) ≡ nat_eq k m
    by (inl h) b = ap is_eq (sym (nat_cmp_is m k Less h)) ∙ sym (false_from_ne_true _ (λ e. omega (arith, eqb-true k m e, h)))
    by (inr a) (inl h) = ap is_eq (sym (nat_cmp_is m k Greater h)) ∙ sym (false_from_ne_true _ (λ e. omega (arith, eqb-true k m e, h)))
    by (inr a) (inr b) = let same : m ≡ k = omega (arith, a, b) in ap is_eq (sym (nat_cmp_is m k Equal same)) ∙ sym (eq-eqb k m (sym same))

-- a mark that is new is none of them
pub not_marked : (m : ℕ) (ks : List ℕ) → list_any (λ k. is_eq (nat_cmp m k)) ks ≡ false → is_marked m ks ≡ false
not_marked m [] h = refl
not_marked m (k ∷ ks) h =
    let parts = or_parts _ _ h in
    or_from (nat_eq k m) (is_marked m ks) (sym (same_mark m k) ∙ parts.0) (not_marked m ks parts.1)

-- a key whose mark is new is none of them
pub not_among : (marks : List ℕ) (images : List (List ℕ)) (octets : List ℕ) → AreMarkedBy marks images → is_marked (image_mark octets) marks ≡ false → is_among octets images ≡ false
not_among marks images octets by new = false_from_ne_true _ (λ h. true≢false (sym (by octets h) ∙ new))

-- one key more
pub marked_more : (old new : List ℕ) (images more : List (List ℕ)) (octets : List ℕ) → AreMarkedBy old images
    → ((mark : ℕ) → is_marked mark new ≡ (nat_eq (image_mark octets) mark || is_marked mark old)) → IsWith octets images more → AreMarkedBy new more
marked_more old new images more octets by put added o among = put (image_mark o) ∙ or_true (bytes_eq octets o) refl (sym (added o) ∙ among)
  where
    or_true : (b : Bool) → bytes_eq octets o ≡ b → (b || is_among o images) ≡ true → (nat_eq (image_mark octets) (image_mark o) || is_marked (image_mark o) old) ≡ true
    or_true true is h = ap (λ (b : Bool). b || is_marked (image_mark o) old) (eq-eqb (image_mark octets) (image_mark o) (ap image_mark ((bytes_eq-Decides octets o).0 is)))
    or_true false is h = ap (λ (b : Bool). nat_eq (image_mark octets) (image_mark o) || b) (by o h) ∙ or_right (nat_eq (image_mark octets) (image_mark o)) true refl

-- a mark more
pub marked_wider : (old new : List ℕ) (images : List (List ℕ)) (m : ℕ) → AreMarkedBy old images → ((mark : ℕ) → is_marked mark new ≡ (nat_eq m mark || is_marked mark old)) → AreMarkedBy new images
marked_wider old new images m by put o among =
    put (image_mark o) ∙ ap (λ (b : Bool). nat_eq m (image_mark o) || b) (by o among) ∙ or_right (nat_eq m (image_mark o)) true refl

-- ---- the marks of keys

pub number_mark : (k : Kind) (n : ℕ) → mark_of (drop 8 (big_bytes 16 n)) ≡ image_mark (image (Number k n))
unfolding image
number_mark k n = refl

pub octets_mark : (k : Kind) (octets : List ℕ) → mark_of octets ≡ image_mark (image (Octets k octets))
unfolding image
octets_mark k octets = ap mark_of (sym (drop_at (big_bytes 8 (length octets)) octets 8 (length-bytes_high_first 8 (length octets))))
