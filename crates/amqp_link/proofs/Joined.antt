-- The bytes of blocks.
use Rattle.std.proofs.Common.{arith, ◌≡◌, ℕ, zero, suc, ◌+◌, ◌-◌, ◌<◌, ◌≤◌, List, [], ◌∷◌, ◌++◌, length, drop, Some, refl, sym, ap, ◌∙◌, append_assoc, append-nil, take, get_or, subst}
use Rattle.std.specs.Prelude.{slice_get}
use Rattle.std.specs.List.{AllWithin}
use Rattle.std.specs.List.Sorted.{IsNonDecreasingBy}
use Rattle.std.proofs.lemmas.Grind.{flat_map-append}
use Rattle.std.proofs.lemmas.List.{length-append, length-drop, drop-append-le, take-append-drop}
use Rattle.std.proofs.Math.Seq.{drop-append-add, take-add, take-append_seam}
use Rattle.std.proofs.lemmas.Option.{same_Some, slice_get_read}
use Rattle.amqp_link.specs.declared.blocks.Block.{Block}
use Rattle.amqp_link.specs.Pieces.{joined, lengths_of, total, AreWhole, AreBlocks}

-- a front of what follows a place
pub front_of : (all bytes rest : List ℕ) (at k : ℕ) → drop at all ≡ bytes ++ rest → (behind : List ℕ) × (drop at all ≡ take k bytes ++ behind)
front_of all bytes rest at k is = (drop k bytes ++ rest, is ∙ ap (λ (l : List ℕ). l ++ rest) (sym (take-append-drop k bytes)) ∙ append_assoc (take k bytes) (drop k bytes) rest)

-- one block more is a longer front
pub next_front : (all block behind : List ℕ) (at : ℕ) → drop at all ≡ block ++ behind → take (at + length block) all ≡ take at all ++ block
next_front all block behind at is =
    take-add at (length block) all ∙ ap (λ (l : List ℕ). take at all ++ take (length block) l) is ∙ ap (λ (l : List ℕ). take at all ++ l) (take-append_seam block behind)

-- which is within the whole
pub front_within : (all block behind : List ℕ) (at : ℕ) → drop at all ≡ block ++ behind → at ≤ length all → at + length block ≤ length all
front_within all block behind at is few = omega (arith, few, length-drop at all, ap length is, length-append block behind)

-- the bytes before a block, its own, and those behind it
pub around_block : (all block behind : List ℕ) (at : ℕ) → drop at all ≡ block ++ behind → all ≡ (take at all ++ block) ++ behind
around_block all block behind at is = sym (take-append-drop at all) ∙ ap (λ (l : List ℕ). take at all ++ l) is ∙ sym (append_assoc (take at all) block behind)

-- it has some bytes
pub some_front : (k : ℕ) (bytes : List ℕ) → 0 < k → 0 < length bytes → 0 < length (take k bytes)
some_front zero bytes few some = absurd (omega (arith, few))
some_front (suc k) [] few some = absurd (omega (arith, some))
some_front (suc k) (x ∷ xs) few some = omega arith

module _ {A : Type 0} where
  -- one block more
  pub joined_push : (blocks : List (Block A)) (b : Block A) → joined (blocks ++ b ∷ []) ≡ joined blocks ++ b.bytes.items
  joined_push blocks b = flat_map-append (λ (x : Block A). x.bytes.items) blocks (b ∷ []) ∙ ap (λ (l : List ℕ). joined blocks ++ l) (append-nil b.bytes.items)

  pub joined_on : (blocks more : List (Block A)) → joined (blocks ++ more) ≡ joined blocks ++ joined more
  joined_on blocks more = flat_map-append (λ (x : Block A). x.bytes.items) blocks more

  pub blocks_push : (start : ℕ) (blocks : List (Block A)) (b : Block A) → AreBlocks start blocks → AreWhole b.bytes.items → b.end ≡ start + length (joined blocks) + length b.bytes.items → AreBlocks start (blocks ++ b ∷ [])
  blocks_push start [] b are whole is = (whole, omega (arith, is), tt)
  blocks_push start (x ∷ xs) b are whole is = (are.0, are.1, blocks_push x.end xs b are.2 whole (omega (arith, is, are.1, length-append x.bytes.items (joined xs))))

  -- each ends behind where they start
  beyond : (start : ℕ) (blocks : List (Block A)) (d : Block A) → AreBlocks start blocks → (j : ℕ) → j < length blocks → start ≤ (get_or blocks j d).end
  beyond start [] d are j lt = absurd (omega (arith, lt))
  beyond start (b ∷ bs) d are zero lt = omega (arith, are.1)
  beyond start (b ∷ bs) d are (suc j) lt = omega (arith, are.1, beyond b.end bs d are.2 j (omega (arith, lt)))

  -- and behind those before it
  pub rising : (start : ℕ) (blocks : List (Block A)) → AreBlocks start blocks → IsNonDecreasingBy (λ (b : Block A). b.end) blocks
  rising start [] are i j d le lt = absurd (omega (arith, lt))
  rising start (b ∷ bs) are zero zero d le lt = omega arith
  rising start (b ∷ bs) are zero (suc j) d le lt = beyond b.end bs d are.2 j (omega (arith, lt))
  rising start (b ∷ bs) are (suc i) zero d le lt = absurd (omega (arith, le))
  rising start (b ∷ bs) are (suc i) (suc j) d le lt = rising b.end bs are.2 i j d (omega (arith, le)) (omega (arith, lt))

  -- the bytes behind a place in the first block
  first_part : (b : Block A) (bs : List (Block A)) (rest : List ℕ) (at : ℕ) → at ≤ length b.bytes.items → drop at (joined (b ∷ bs) ++ rest) ≡ drop at b.bytes.items ++ (joined bs ++ rest)
  first_part b bs rest at few = ap (λ (l : List ℕ). drop at l) (append_assoc b.bytes.items (joined bs) rest) ∙ drop-append-le at b.bytes.items (joined bs ++ rest) few

  -- and those behind one in another
  later_part : (b : Block A) (bs : List (Block A)) (rest : List ℕ) (at k : ℕ) → at ≡ length b.bytes.items + k → drop at (joined (b ∷ bs) ++ rest) ≡ drop k (joined bs ++ rest)
  later_part b bs rest at k is =
      ap (λ (l : List ℕ). drop at l) (append_assoc b.bytes.items (joined bs) rest) ∙ ap (λ (n : ℕ). drop n (b.bytes.items ++ (joined bs ++ rest))) is
      ∙ drop-append-add b.bytes.items (joined bs ++ rest) k

  -- where a block lies
  pub lies_at : (blocks : List (Block A)) (last : List ℕ) (i : ℕ) (b : Block A) → slice_get blocks i ≡ Some b
      → drop (total (take i (lengths_of blocks))) (joined blocks ++ last) ≡ b.bytes.items ++ (joined (drop (suc i) blocks) ++ last)
  lies_at [] last i b is = absurd (grind (arith, is))
  lies_at (x ∷ xs) last zero b is = append_assoc x.bytes.items (joined xs) last ∙ ap (λ (y : Block A). y.bytes.items ++ (joined xs ++ last)) (same_Some x b is)
  lies_at (x ∷ xs) last (suc i) b is = later_part x xs last (length x.bytes.items + total (take i (lengths_of xs))) (total (take i (lengths_of xs))) refl ∙ lies_at xs last i b is

  -- and where it ends
  pub ends_at : (blocks : List (Block A)) (i : ℕ) (b : Block A) → slice_get blocks i ≡ Some b
      → total (take (i + 1) (lengths_of blocks)) ≡ total (take i (lengths_of blocks)) + length b.bytes.items
  ends_at [] i b is = absurd (grind (arith, is))
  ends_at (x ∷ xs) zero b is = let same : 0 + 1 ≡ 1 = refl in ap (λ (n : ℕ). total (take n (lengths_of (x ∷ xs)))) same ∙ ap (λ (y : Block A). length y.bytes.items + 0) (same_Some x b is) ∙ omega arith
  ends_at (x ∷ xs) (suc i) b is =
      let same : suc i + 1 ≡ suc (i + 1) = omega arith in
      ap (λ (n : ℕ). total (take n (lengths_of (x ∷ xs)))) same ∙ ap (λ (n : ℕ). length x.bytes.items + n) (ends_at xs i b is) ∙ omega arith

  -- the last block follows all others
  pub lies_last : (blocks : List (Block A)) (last : List ℕ) → drop (total (lengths_of blocks)) (joined blocks ++ last) ≡ last
  lies_last [] last = refl
  lies_last (x ∷ xs) last = later_part x xs last (length x.bytes.items + total (lengths_of xs)) (total (lengths_of xs)) refl ∙ lies_last xs last

  -- a place in a block: where it begins, and what follows the place
  pub record IsIn (start at : ℕ) (b : Block A) (all : List ℕ) : Type 0 where
    pub own : length b.bytes.items ≤ b.end
    pub from : b.end - length b.bytes.items ≤ at
    pub before : at < b.end
    pub rest : List ℕ
    pub is : drop (at - start) all ≡ drop (at - (b.end - length b.bytes.items)) b.bytes.items ++ rest

  -- the first block that ends behind a place has it
  in_block : (start : ℕ) (blocks : List (Block A)) (last : List ℕ) (at i : ℕ) (b : Block A) → AreBlocks start blocks → start ≤ at → AllWithin (λ (x : Block A). x.end ≤ at) blocks 0 i → at < b.end → slice_get blocks i ≡ Some b → IsIn start at b (joined blocks ++ last)
  in_block start [] last at i b are from low high is = absurd (grind (arith, is))
  in_block start (x ∷ xs) last at zero b are from low high is =
      let same : x ≡ b = same_Some x b is in
      let end : b.end ≡ start + length b.bytes.items = subst (λ (y : Block A). y.end ≡ start + length y.bytes.items) same are.1 in
      let begins : start ≡ b.end - length b.bytes.items = omega (arith, end) in
      record {
        own = omega (arith, end);
        from = omega (arith, end, from);
        before = high;
        rest = joined xs ++ last;
        is = first_part x xs last (at - start) (omega (arith, are.1, ap (λ (y : Block A). y.end) same, high, from))
            ∙ ap (λ (y : Block A). drop (at - start) y.bytes.items ++ (joined xs ++ last)) same
            ∙ ap (λ (n : ℕ). drop (at - n) b.bytes.items ++ (joined xs ++ last)) begins;
      }
  in_block start (x ∷ xs) last at (suc i) b are from low high is =
      let end : x.end ≤ at = low 0 x (omega arith) (omega arith) in
      let on = in_block x.end xs last at i b are.2 end (λ j d at_least lt. low (suc j) d (omega arith) (omega (arith, lt))) high is in
      record {
        own = on.own;
        from = on.from;
        before = on.before;
        rest = on.rest;
        is = later_part x xs last (at - start) (at - x.end) (omega (arith, are.1, end)) ∙ on.is;
      }

  -- the same of all blocks, as they are searched and looked up
  pub found : (blocks searched looked : List (Block A)) (last : List ℕ) (at i : ℕ) (b : Block A) → searched ≡ blocks → looked ≡ blocks → AreBlocks 0 blocks → AllWithin (λ (x : Block A). x.end ≤ at) searched 0 i → AllWithin (λ (x : Block A). at < x.end) searched i (length searched) → i < length looked → b ≡ get_or looked i b → IsIn 0 at b (joined blocks ++ last)
  found blocks searched looked last at i b same_searched same_looked are low high within is =
      let read : slice_get blocks i ≡ Some b = ap (λ (l : List (Block A)). slice_get l i) (sym same_looked) ∙ slice_get_read looked (length looked) i b refl within is in
      let long : length looked ≡ length searched = ap length (same_looked ∙ sym same_searched) in
      let read_there : get_or searched i b ≡ b = ap (λ (l : List (Block A)). get_or l i b) (same_searched ∙ sym same_looked) ∙ sym is in
      in_block 0 blocks last at i b are (omega arith) (subst (λ (l : List (Block A)). AllWithin (λ (x : Block A). x.end ≤ at) l 0 i) same_searched low)
      (subst (λ (x : Block A). at < x.end) read_there (high i b (omega arith) (omega (arith, within, long)))) read

  -- a place that they all end before is behind their bytes
  behind_blocks : (start : ℕ) (blocks : List (Block A)) (at i : ℕ) → AreBlocks start blocks → start ≤ at → AllWithin (λ (x : Block A). x.end ≤ at) blocks 0 i → length blocks ≤ i → start + length (joined blocks) ≤ at
  behind_blocks start [] at i are from low all = omega (arith, from)
  behind_blocks start (x ∷ xs) at zero are from low all = absurd (omega (arith, all))
  behind_blocks start (x ∷ xs) at (suc i) are from low all =
      let end : x.end ≤ at = low 0 x (omega arith) (omega arith) in
      let on = behind_blocks x.end xs at i are.2 end (λ j d at_least lt. low (suc j) d (omega arith) (omega (arith, lt))) (omega (arith, all)) in
      omega (arith, length-append x.bytes.items (joined xs), are.1, on)

  pub passed : (blocks searched looked : List (Block A)) (at i : ℕ) → searched ≡ blocks → looked ≡ blocks → AreBlocks 0 blocks → AllWithin (λ (x : Block A). x.end ≤ at) searched 0 i → length looked ≤ i → length (joined blocks) ≤ at
  passed blocks searched looked at i same_searched same_looked are low all =
      let on = behind_blocks 0 blocks at i are (omega arith) (subst (λ (l : List (Block A)). AllWithin (λ (x : Block A). x.end ≤ at) l 0 i) same_searched low) (omega (arith, all, ap length same_looked)) in
      omega (arith, on)
