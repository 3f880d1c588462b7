-- Equal keys of a map in hand: each key is looked for among the images of those behind it.
use Rattle.std.proofs.Common.{◌≡◌, ◌≢◌, ℕ, zero, suc, ◌+◌, ◌-◌, ◌<◌, ◌≤◌, true, false, List, [], ◌∷◌, length, get_or, drop, sym, ap, ◌∙◌, subst, arith}
use Rattle.std.specs.Str.{bytes_eq}
use Rattle.std.proofs.lemmas.Bool.{or_parts}
use Rattle.std.proofs.lemmas.List.{drop_more}
use Rattle.std.proofs.lemmas.Slice.Eq.{bytes_eq-Decides}
use Rattle.amqp_types.specs.declared.value.Value.{Value}
use Rattle.amqp_types.specs.Images.{image, has_key}
use Rattle.amqp_types.specs.Lawful.{KeysApart}
use Rattle.amqp_types.specs.Trees.{Tree, Trees, none, more, Pairs, no_pair, pair, HasNoKey}
use Rattle.amqp_types.specs.Values.{view, pair_views}
use Rattle.amqp_types.proofs.ImageLaws.{IsSmall, AreSmall, NotSeen, not_among}

-- the keys of a map
abbrev pub keys_of : Pairs → Trees
keys_of no_pair = none
keys_of (pair k v ps) = more k (keys_of ps)

no_key_seen : (key : Tree) (ps : Pairs) → HasNoKey key ps → NotSeen key (keys_of ps)
no_key_seen key no_pair h = tt
no_key_seen key (pair k v ps) h = (h.0, no_key_seen key ps h.1)

one_image : (t u : Tree) → bytes_eq (image t) (image u) ≡ false → t ≢ u
one_image t u differ e = let h : true ≡ false = sym ((bytes_eq-Decides (image t) (image u)).1 (ap image e)) ∙ differ in cc

-- a key without its like is new
pub key_is_new : (key : Tree) (ps : Pairs) → has_key key (keys_of ps) ≡ false → HasNoKey key ps
unfolding has_key
key_is_new key no_pair h = tt
key_is_new key (pair k v ps) h =
    let p = or_parts (bytes_eq (image k) (image key)) (has_key key (keys_of ps)) h in
    (one_image k key p.0, key_is_new key ps p.1)

-- and one with it is not
pub key_is_known : (key : Tree) (ps : Pairs) → IsSmall key → AreSmall (keys_of ps) → has_key key (keys_of ps) ≡ true → HasNoKey key ps → ⊥
key_is_known key ps p q known unseen = let h : true ≡ false = sym known ∙ not_among key (keys_of ps) p q (no_key_seen key ps unseen) in cc

-- the keys behind i, and the one in front of them
pub one_more_behind : (ps : List (Value × Value)) (i : ℕ) (p : Value × Value) → 0 < i → i ≤ length ps → p ≡ get_or ps (i - 1) p
    → pair_views (drop (i - 1) ps) ≡ pair (view p.0) (view p.1) (pair_views (drop i ps))
one_more_behind ps i p some le is =
    let next : i - 1 + 1 ≡ i = omega arith in
    ap pair_views (drop_more ps (i - 1) p (omega arith) ∙ ap (λ (q : Value × Value). q ∷ drop (i - 1 + 1) ps) (sym is) ∙ ap (λ (n : ℕ). p ∷ drop n ps) next)

-- keys that are apart are so behind any place
pub apart_behind : (i : ℕ) (ps : List (Value × Value)) → KeysApart (pair_views ps) → KeysApart (pair_views (drop i ps))
apart_behind zero ps h = h
apart_behind (suc i) [] h = h
apart_behind (suc i) (p ∷ ps) h = apart_behind i ps h.1

-- two equal keys are not apart
pub not_apart : (ps : List (Value × Value)) (i : ℕ) (p : Value × Value) → 0 < i → i ≤ length ps → p ≡ get_or ps (i - 1) p
    → IsSmall (view p.0) → AreSmall (keys_of (pair_views (drop i ps))) → has_key (view p.0) (keys_of (pair_views (drop i ps))) ≡ true → KeysApart (pair_views ps) → ⊥
not_apart ps i p some le is small smalls known apart =
    let behind = subst (λ (qs : Pairs). KeysApart qs) (one_more_behind ps i p some le is) (apart_behind (i - 1) ps apart) in
    key_is_known (view p.0) (pair_views (drop i ps)) small smalls known behind.0
