-- A value has no more levels than its spelling has bytes.
use Rattle.std.proofs.Common.{◌≡◌, ℕ, ◌+◌, ◌≤◌, max, Bool, true, false, cond, List, ◌∷◌, ◌++◌, length, ap, arith, inl, inr}
use Rattle.std.proofs.lemmas.List.{length-append}
use Rattle.byteorder.specs.Endian.{big_bytes}
use Rattle.amqp_types.specs.declared.code.SizeWidth.{SizeWidth}
use Rattle.amqp_types.specs.Kinds.{is_container}
use Rattle.amqp_types.specs.Trees.{Tree, Number, Octets, ListOf, MapOf, ArrayOf, Described, Trees, none, more, Pairs, no_pair, pair, depth_of, depth_of_all, depth_of_pairs}
use Rattle.amqp_types.specs.Spelling.{size_len, SpellsBlock, Spells, SpellAll, SpellDescriptors, SpellItems, SpellPairs}

-- the parts are within what stands behind the code
block_long : (s : SizeWidth) (n code : ℕ) (parts text bytes : List ℕ) → SpellsBlock s n parts text → bytes ≡ code ∷ text → length parts + 1 ≤ length bytes
block_long s n code parts text bytes h e =
    let size = big_bytes (size_len s) (size_len s + length parts) in
    let count = big_bytes (size_len s) n in
    omega (arith, ap length e, ap length h.2, length-append size (count ++ parts), length-append count parts)

array_deep : (b : Bool) (m n head parts all : ℕ) → m ≤ head → n ≤ parts + 1 → head + (parts + 1) + 1 ≤ all → max m (max (cond b 1 0) n) + 1 ≤ all
array_deep true m n head parts all p q e = omega arith
array_deep false m n head parts all p q e = omega arith

mutual
  unfolding Spells

  pub depth_within : (t : Tree) (text : List ℕ) → Spells t text → depth_of t ≤ length text
  depth_within (Number k n) text h = omega arith
  depth_within (Octets k octets) text h = omega arith
  depth_within (ListOf ts) text (inl h) =
      let no_items : depth_of_all ts ≡ 0 = ap depth_of_all h.3 in
      omega (arith, no_items, ap length h.2)
  depth_within (ListOf ts) text (inr h) =
      omega (arith, block_long h.1 _ h.0 h.2 h.3 text h.6 h.5, depths_within ts h.2 h.7)
  depth_within (MapOf ps) text h =
      omega (arith, block_long h.1 _ h.0 h.2 h.3 text h.6 h.5, pair_depths_within ps h.2 h.7)
  depth_within (ArrayOf ds k ts) text h =
      let long = block_long h.1 _ h.0 (h.4 ++ h.2 ∷ h.5) h.6 text h.9 h.8 in
      array_deep (is_container k) (depth_of_all ds) (depth_of_all ts) (length h.4) (length h.5) (length text)
      (head_depths_within ds h.4 h.10) (item_depths_within h.2 ts h.5 h.13) (omega (arith, long, length-append h.4 (h.2 ∷ h.5)))
  depth_within (Described d t) text h =
      omega (arith, ap length h.2, length-append h.0 h.1, depth_within d h.0 h.3, depth_within t h.1 h.4)

  depths_within : (ts : Trees) (text : List ℕ) → SpellAll ts text → depth_of_all ts ≤ length text
  depths_within none text h = omega arith
  depths_within (more t ts) text h =
      omega (arith, ap length h.2, length-append h.0 h.1, depth_within t h.0 h.3, depths_within ts h.1 h.4)

  head_depths_within : (ds : Trees) (text : List ℕ) → SpellDescriptors ds text → depth_of_all ds ≤ length text
  head_depths_within none text h = omega arith
  head_depths_within (more d ds) text h =
      omega (arith, ap length h.2, length-append h.0 h.1, depth_within d h.0 h.3, head_depths_within ds h.1 h.4)

  item_depths_within : (element : ℕ) (ts : Trees) (text : List ℕ) → SpellItems element ts text → depth_of_all ts ≤ length text + 1
  item_depths_within element none text h = omega arith
  item_depths_within element (more t ts) text h =
      omega (arith, ap length h.2, length-append h.0 h.1, depth_within t (element ∷ h.0) h.3, item_depths_within element ts h.1 h.4)

  pair_depths_within : (ps : Pairs) (text : List ℕ) → SpellPairs ps text → depth_of_pairs ps ≤ length text
  pair_depths_within no_pair text h = omega arith
  pair_depths_within (pair k v ps) text h =
      omega (arith, ap length h.3, length-append h.0 (h.1 ++ h.2), length-append h.1 h.2, depth_within k h.0 h.4, depth_within v h.1 h.5, pair_depths_within ps h.2 h.6)
