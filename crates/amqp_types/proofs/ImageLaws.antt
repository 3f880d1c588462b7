-- Values are equal exactly if their images are.
use Rattle.std.proofs.Common.{◌≡◌, ◌≢◌, ℕ, ◌+◌, ◌-◌, ◌^◌, ◌<◌, ◌≤◌, Bool, true, false, cond, ltb, List, [], ◌∷◌, ◌++◌, length, get_or, take, drop, Some, refl, sym, ap, subst, ◌∙◌, append_assoc, arith}
use Rattle.std.proofs.Common.{inl, inr}
use Rattle.std.specs.Prelude.{slice_get}
use Rattle.std.specs.Str.{bytes_eq}
use Rattle.std.proofs.lemmas.Bool.{false_from_ne_true, or_from}
use Rattle.std.proofs.lemmas.Slice.Eq.{bytes_eq-Decides}
use Rattle.std.proofs.lemmas.List.{append-nil, drop_at, take_at, length-append}
use Rattle.std.proofs.Math.Nat.{pow-le-pow_right}
use Rattle.byteorder.specs.Endian.{big_bytes, big_from}
use Rattle.byteorder.specs.Numbers.{big_number-reads_back, length-bytes_high_first}
use Rattle.amqp_types.specs.declared.kind.Kind.{Kind}
use Rattle.amqp_types.specs.declared.kind.Kind.TheVariants as kind
use Rattle.amqp_types.specs.declared.code.Form.{Form}
use Rattle.amqp_types.specs.declared.code.Form.TheVariants as form
use Rattle.amqp_types.specs.declared.code.SizeWidth.{SizeWidth}
use Rattle.amqp_types.specs.declared.code.SizeWidth.TheVariants as size
use Rattle.amqp_types.specs.Canonical.{IsRanged, AllRanged, PairsRanged}
use Rattle.amqp_types.specs.Kinds.{width}
use Rattle.amqp_types.specs.Trees.{Tree, Number, Octets, ListOf, MapOf, ArrayOf, Described, Trees, none, more, Pairs, no_pair, pair, HasNoKey, ArePairsLawful}
use Rattle.amqp_types.specs.Images.{kind_number, image, images, pair_images, has_key}
use Rattle.amqp_types.specs.Spelling.{size_len, SpellsNumber, Spells, SpellAll, SpellDescriptors, SpellItems, SpellPairs}

kinds : List Kind
kinds = kind.Null ∷ kind.Boolean ∷ kind.Ubyte ∷ kind.Ushort ∷ kind.Uint ∷ kind.Ulong ∷ kind.Byte ∷ kind.Short ∷ kind.Int ∷ kind.Long ∷ kind.Float ∷ kind.Double
    ∷ kind.Decimal32 ∷ kind.Decimal64 ∷ kind.Decimal128 ∷ kind.Char ∷ kind.Timestamp ∷ kind.Uuid ∷ kind.Binary ∷ kind.String ∷ kind.Symbol ∷ kind.List ∷ kind.Map ∷ kind.Array ∷ []

kind_back : (k : Kind) → slice_get kinds (kind_number k) ≡ Some k
unfolding kinds
kind_back kind.Null = refl
kind_back _ = refl

-- kinds of one number are the same
pub same_kind : (j k : Kind) → kind_number j ≡ kind_number k → j ≡ k
same_kind j k e = some (sym (kind_back j) ∙ ap (slice_get kinds) e ∙ kind_back k)
  where
    some : Some j ≡ Some k → j ≡ k
    some h = cc

-- small enough for an image of its own, as every value is that bytes spell
abbrev mutual
  pub IsSmall : Tree → Type 0
  IsSmall (Number k n) = n < 256 ^ 16
  IsSmall (Octets k octets) = length octets < 256 ^ 8
  IsSmall (ListOf ts) = AreSmall ts
  IsSmall (MapOf ps) = ArePairsSmall ps
  IsSmall (ArrayOf ds k ts) = AreSmall ds × AreSmall ts
  IsSmall (Described d t) = IsSmall d × IsSmall t

  pub AreSmall : Trees → Type 0
  AreSmall none = Unit {0}
  AreSmall (more t ts) = IsSmall t × AreSmall ts

  pub ArePairsSmall : Pairs → Type 0
  ArePairsSmall no_pair = Unit {0}
  ArePairsSmall (pair k v ps) = IsSmall k × IsSmall v × ArePairsSmall ps

first : List ℕ → ℕ
first xs = get_or xs 0 9

same_number : (w n m : ℕ) (a b : List ℕ) → n < 256 ^ w → m < 256 ^ w → big_bytes w n ++ a ≡ big_bytes w m ++ b → (n ≡ m) × (a ≡ b)
same_number w n m a b p q e = (
  sym (big_number-reads_back w n a p) ∙ ap (big_from 0 w) e ∙ big_number-reads_back w m b q,
  sym (drop_at (big_bytes w n) a w (length-bytes_high_first w n)) ∙ ap (drop w) e ∙ drop_at (big_bytes w m) b w (length-bytes_high_first w m),
)

same_octets : (x y a b : List ℕ) → length x < 256 ^ 8 → length y < 256 ^ 8 → (big_bytes 8 (length x) ++ x) ++ a ≡ (big_bytes 8 (length y) ++ y) ++ b → (x ≡ y) × (a ≡ b)
same_octets x y a b p q e =
    let s = same_number 8 (length x) (length y) (x ++ a) (y ++ b) p q (sym (append_assoc (big_bytes 8 (length x)) x a) ∙ e ∙ append_assoc (big_bytes 8 (length y)) y b) in
    (sym (take_at x a (length x) refl) ∙ ap (take (length x)) s.1 ∙ take_at y b (length x) (sym s.0), sym (drop_at x a (length x) refl) ∙ ap (drop (length x)) s.1 ∙ drop_at y b (length x) (sym s.0))

tail_same : (x y : ℕ) (xs ys : List ℕ) → x ∷ xs ≡ y ∷ ys → (x ≡ y) × (xs ≡ ys)
tail_same x y xs ys e = (cc, cc)

mutual
  unfolding image first

  image_same : (t u : Tree) (a b : List ℕ) → IsSmall t → IsSmall u → image t ++ a ≡ image u ++ b → (t ≡ u) × (a ≡ b)
  image_same (Number j n) (Number k m) a b p q e =
      let h = tail_same 0 0 (kind_number j ∷ (big_bytes 16 n ++ a)) (kind_number k ∷ (big_bytes 16 m ++ b)) e in
      let g = tail_same (kind_number j) (kind_number k) (big_bytes 16 n ++ a) (big_bytes 16 m ++ b) h.1 in
      let s = same_number 16 n m a b p q g.1 in
      (ap (λ (k : Kind). Number k n) (same_kind j k g.0) ∙ ap (Number k) s.0, s.1)
  image_same (Number j n) _ a b p q e = absurd (let h = ap first e in omega arith)
  image_same (Octets j x) (Octets k y) a b p q e =
      let h = tail_same 1 1 (kind_number j ∷ ((big_bytes 8 (length x) ++ x) ++ a)) (kind_number k ∷ ((big_bytes 8 (length y) ++ y) ++ b)) e in
      let g = tail_same (kind_number j) (kind_number k) ((big_bytes 8 (length x) ++ x) ++ a) ((big_bytes 8 (length y) ++ y) ++ b) h.1 in
      let s = same_octets x y a b p q g.1 in
      (ap (λ (k : Kind). Octets k x) (same_kind j k g.0) ∙ ap (Octets k) s.0, s.1)
  image_same (Octets j x) _ a b p q e = absurd (let h = ap first e in omega arith)
  image_same (ListOf ts) (ListOf us) a b p q e =
      let s = images_same ts us a b p q (tail_same 2 2 (images ts ++ a) (images us ++ b) e).1 in (ap ListOf s.0, s.1)
  image_same (ListOf ts) _ a b p q e = absurd (let h = ap first e in omega arith)
  image_same (MapOf ps) (MapOf qs) a b p q e =
      let s = pairs_same ps qs a b p q (tail_same 3 3 (pair_images ps ++ a) (pair_images qs ++ b) e).1 in (ap MapOf s.0, s.1)
  image_same (MapOf ps) _ a b p q e = absurd (let h = ap first e in omega arith)
  image_same (ArrayOf ds j ts) (ArrayOf es k us) a b p q e =
      let h = tail_same 4 4 (kind_number j ∷ ((images ds ++ images ts) ++ a)) (kind_number k ∷ ((images es ++ images us) ++ b)) e in
      let g = tail_same (kind_number j) (kind_number k) ((images ds ++ images ts) ++ a) ((images es ++ images us) ++ b) h.1 in
      let s = images_same ds es (images ts ++ a) (images us ++ b) p.0 q.0 (sym (append_assoc (images ds) (images ts) a) ∙ g.1 ∙ append_assoc (images es) (images us) b) in
      let r = images_same ts us a b p.1 q.1 s.1 in
      (ap (λ (d : Trees). ArrayOf d j ts) s.0 ∙ ap (λ (k : Kind). ArrayOf es k ts) (same_kind j k g.0) ∙ ap (ArrayOf es k) r.0, r.1)
  image_same (ArrayOf ds j ts) _ a b p q e = absurd (let h = ap first e in omega arith)
  image_same (Described d t) (Described f u) a b p q e =
      let h = tail_same 5 5 ((image d ++ image t) ++ a) ((image f ++ image u) ++ b) e in
      let s = image_same d f (image t ++ a) (image u ++ b) p.0 q.0 (sym (append_assoc (image d) (image t) a) ∙ h.1 ∙ append_assoc (image f) (image u) b) in
      let r = image_same t u a b p.1 q.1 s.1 in
      (ap (λ (x : Tree). Described x t) s.0 ∙ ap (Described f) r.0, r.1)
  image_same (Described d t) _ a b p q e = absurd (let h = ap first e in omega arith)

  images_same : (ts us : Trees) (a b : List ℕ) → AreSmall ts → AreSmall us → images ts ++ a ≡ images us ++ b → (ts ≡ us) × (a ≡ b)
  images_same none none a b p q e = (refl, (tail_same 0 0 a b e).1)
  images_same none (more u us) a b p q e = absurd (let h = ap first e in omega arith)
  images_same (more t ts) none a b p q e = absurd (let h = ap first e in omega arith)
  images_same (more t ts) (more u us) a b p q e =
      let h = tail_same 1 1 ((image t ++ images ts) ++ a) ((image u ++ images us) ++ b) e in
      let s = image_same t u (images ts ++ a) (images us ++ b) p.0 q.0 (sym (append_assoc (image t) (images ts) a) ∙ h.1 ∙ append_assoc (image u) (images us) b) in
      let r = images_same ts us a b p.1 q.1 s.1 in
      (ap (λ (x : Tree). more x ts) s.0 ∙ ap (more u) r.0, r.1)

  pairs_same : (ps qs : Pairs) (a b : List ℕ) → ArePairsSmall ps → ArePairsSmall qs → pair_images ps ++ a ≡ pair_images qs ++ b → (ps ≡ qs) × (a ≡ b)
  pairs_same no_pair no_pair a b p q e = (refl, (tail_same 0 0 a b e).1)
  pairs_same no_pair (pair k v qs) a b p q e = absurd (let h = ap first e in omega arith)
  pairs_same (pair k v ps) no_pair a b p q e = absurd (let h = ap first e in omega arith)
  pairs_same (pair k v ps) (pair l w qs) a b p q e =
      let h = tail_same 1 1 ((image k ++ (image v ++ pair_images ps)) ++ a) ((image l ++ (image w ++ pair_images qs)) ++ b) e in
      let s = image_same k l ((image v ++ pair_images ps) ++ a) ((image w ++ pair_images qs) ++ b) p.0 q.0 (sym (append_assoc (image k) (image v ++ pair_images ps) a) ∙ h.1
      ∙ append_assoc (image l) (image w ++ pair_images qs) b) in
      let r = image_same v w (pair_images ps ++ a) (pair_images qs ++ b) p.1 q.1 (sym (append_assoc (image v) (pair_images ps) a) ∙ s.1 ∙ append_assoc (image w) (pair_images qs) b) in
      let o = pairs_same ps qs a b p.2 q.2 r.1 in
      (ap (λ (x : Tree). pair x v ps) s.0 ∙ ap (λ (x : Tree). pair l x ps) r.0 ∙ ap (pair l w) o.0, o.1)

-- images tell small values apart
pub image_apart : (t u : Tree) → IsSmall t → IsSmall u → image t ≡ image u → t ≡ u
image_apart t u p q e = (image_same t u [] [] p q (append-nil (image t) ∙ e ∙ sym (append-nil (image u)))).0

-- ---- what bytes spell is small

narrow : (k : Kind) → width k ≤ 16
narrow kind.Null = omega arith
narrow _ = omega arith

powers : (n : ℕ) → n ≤ 16 → 256 ^ n ≤ 256 ^ 16
powers n h = pow-le-pow_right {n = 256} (omega arith) h

extended_small : (b : Bool) (n byte : ℕ) → n ≤ 16 → byte < 256 → cond b byte (256 ^ n - 256 + byte) < 256 ^ 16
extended_small true n byte h lt = omega arith
extended_small false n byte h lt = let p = powers n h in omega arith

number_small : (f : Form) (n x : ℕ) (text : List ℕ) → n ≤ 16 → SpellsNumber f n x text → x < 256 ^ 16
number_small form.Zero n x text h s = omega (arith, s.0)
number_small form.One n x text h s = omega (arith, s.0)
number_small form.OneByte n x text h s = omega (arith, s.0)
number_small form.OneSigned n x text h s = subst (λ (k : ℕ). k < 256 ^ 16) (sym s.2) (extended_small (ltb s.0 128) n s.0 h s.1)
number_small form.Full n x text h s = let p = powers n h in omega (arith, s.0)

size_small : (s : SizeWidth) (n : ℕ) → n < 256 ^ size_len s → n < 256 ^ 8
size_small size.One n h = omega arith
size_small size.Four n h = omega arith

mutual
  unfolding Spells

  pub small : (t : Tree) (text : List ℕ) → Spells t text → IsSmall t
  small (Number k n) text h = number_small h.1 (width k) n h.2 (narrow k) h.5
  small (Octets k octets) text h = size_small h.1 (length octets) h.5.0
  small (ListOf ts) text (inl h) = subst (λ (us : Trees). AreSmall us) (sym h.3) tt
  small (ListOf ts) text (inr h) = smalls ts h.2 h.7
  small (MapOf ps) text h = pairs_small ps h.2 h.7
  small (ArrayOf ds k ts) text h = (descriptors_small ds h.4 h.10, items_small h.2 ts h.5 h.13)
  small (Described d t) text h = (small d h.0 h.3, small t h.1 h.4)

  smalls : (ts : Trees) (text : List ℕ) → SpellAll ts text → AreSmall ts
  smalls none text h = tt
  smalls (more t ts) text h = (small t h.0 h.3, smalls ts h.1 h.4)

  descriptors_small : (ts : Trees) (text : List ℕ) → SpellDescriptors ts text → AreSmall ts
  descriptors_small none text h = tt
  descriptors_small (more t ts) text h = (small t h.0 h.3, descriptors_small ts h.1 h.4)

  items_small : (element : ℕ) (ts : Trees) (text : List ℕ) → SpellItems element ts text → AreSmall ts
  items_small element none text h = tt
  items_small element (more t ts) text h = (small t (element ∷ h.0) h.3, items_small element ts h.1 h.4)

  pairs_small : (ps : Pairs) (text : List ℕ) → SpellPairs ps text → ArePairsSmall ps
  pairs_small no_pair text h = tt
  pairs_small (pair k v ps) text h = (small k h.0 h.4, small v h.1 h.5, pairs_small ps h.2 h.6)

-- ---- a lawful map's keys are all new

-- none of the keys seen is this one
abbrev pub NotSeen : Tree → Trees → Type 0
NotSeen key none = Unit {0}
NotSeen key (more t ts) = (t ≢ key) × NotSeen key ts

-- a key that was not seen has no like
pub not_among : (key : Tree) (seen : Trees) → IsSmall key → AreSmall seen → NotSeen key seen → has_key key seen ≡ false
unfolding has_key
not_among key none p q h = refl
not_among key (more t ts) p q h =
    or_from (bytes_eq (image t) (image key)) (has_key key ts)
    (false_from_ne_true _ (λ e. h.0 (image_apart t key q.0 p ((bytes_eq-Decides (image t) (image key)).0 e)))) (not_among key ts p q.1 h.1)

abbrev AllNotSeen : Pairs → Trees → Type 0
AllNotSeen no_pair seen = Unit {0}
AllNotSeen (pair k v ps) seen = NotSeen k seen × AllNotSeen ps seen

not_seen_more : (key : Tree) (ps : Pairs) (seen : Trees) → HasNoKey key ps → AllNotSeen ps seen → AllNotSeen ps (more key seen)
not_seen_more key no_pair seen p h = tt
not_seen_more key (pair k v ps) seen p h = ((λ e. p.0 (sym e), h.0), not_seen_more key ps seen p.1 h.1)

-- each key is none of those before it
abbrev pub AreNew : Trees → Pairs → Type 0
AreNew seen no_pair = Unit {0}
AreNew seen (pair k v ps) = (has_key k seen ≡ false) × AreNew (more k seen) ps

new_behind : (ps : Pairs) (seen : Trees) → ArePairsSmall ps → AreSmall seen → ArePairsLawful ps → AllNotSeen ps seen → AreNew seen ps
new_behind no_pair seen p q lawful h = tt
new_behind (pair k v ps) seen p q lawful h = (not_among k seen p.0 q h.0, new_behind ps (more k seen) p.2 (p.0, q) lawful.3 (not_seen_more k ps seen lawful.2 h.1))

nothing_seen : (ps : Pairs) → AllNotSeen ps none
nothing_seen no_pair = tt
nothing_seen (pair k v ps) = (tt, nothing_seen ps)

-- the keys of a lawful map are new one by one
pub keys_new : (ps : Pairs) (parts : List ℕ) → SpellPairs ps parts → ArePairsLawful ps → AreNew none ps
keys_new ps parts spelled lawful = new_behind ps none (pairs_small ps parts spelled) tt lawful (nothing_seen ps)

-- ---- values in hand

mutual
  unfolding image

  pub small_in_hand : (t : Tree) → IsRanged t → length (image t) < 256 ^ 8 → IsSmall t
  small_in_hand (Number k n) r h = let p = powers (width k) (narrow k) in omega (arith, r.1)
  small_in_hand (Octets k octets) r h = omega (arith, h, length-append (big_bytes 8 (length octets)) octets)
  small_in_hand (ListOf ts) r h = all_in_hand ts r (omega (arith, h))
  small_in_hand (MapOf ps) r h = pairs_in_hand ps r (omega (arith, h))
  small_in_hand (ArrayOf ds k ts) r h =
      let len = length-append (images ds) (images ts) in (all_in_hand ds r.0 (omega (arith, h, len)), all_in_hand ts r.1 (omega (arith, h, len)))
  small_in_hand (Described d t) r h =
      let len = length-append (image d) (image t) in (small_in_hand d r.0 (omega (arith, h, len)), small_in_hand t r.1 (omega (arith, h, len)))

  all_in_hand : (ts : Trees) → AllRanged ts → length (images ts) < 256 ^ 8 → AreSmall ts
  all_in_hand none r h = tt
  all_in_hand (more t ts) r h =
      let len = length-append (image t) (images ts) in (small_in_hand t r.0 (omega (arith, h, len)), all_in_hand ts r.1 (omega (arith, h, len)))

  pairs_in_hand : (ps : Pairs) → PairsRanged ps → length (pair_images ps) < 256 ^ 8 → ArePairsSmall ps
  pairs_in_hand no_pair r h = tt
  pairs_in_hand (pair k v ps) r h =
      let len = length-append (image k) (image v ++ pair_images ps) in
      let rest = length-append (image v) (pair_images ps) in
      (small_in_hand k r.0 (omega (arith, h, len, rest)), small_in_hand v r.1 (omega (arith, h, len, rest)), pairs_in_hand ps r.2 (omega (arith, h, len, rest)))
