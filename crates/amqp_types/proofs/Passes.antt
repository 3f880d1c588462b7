-- A pass goes along with reading, step by step, where only the nodes and the bytes that are left are of interest.
use Rattle.std.proofs.Common.{◌≡◌, ◌⊎◌, inl, inr, ℕ, zero, suc, ◌+◌, ◌-◌, ◌<◌, ◌≤◌, Bool, true, false, ◌||◌, List, [], ◌∷◌, length, Option, Some, is_some, Ok, Err, refl, sym, ap, subst, ◌∙◌, arith}
use Rattle.std.specs.Str.{bytes_eq}
use Rattle.std.proofs.lemmas.Bool.{eq-eqb, ne_eqb, eqb-true}
use Rattle.amqp_types.specs.declared.code.Constructor.{Constructor}
use Rattle.amqp_types.specs.declared.code.Constructor.TheVariants.{Fixed, Variable, EmptyList, ListIn, MapIn, ArrayIn}
use Rattle.amqp_types.specs.declared.code.SizeWidth.{SizeWidth}
use Rattle.amqp_types.specs.declared.fault.ReadFault.{ReadFault}
use Rattle.amqp_types.specs.declared.fault.ReadFault.TheVariants.{DuplicateKey, NoMemory}
use Rattle.amqp_types.specs.declared.window.Window.{Window}
use Rattle.amqp_types.specs.Codes.{find_code, kind_of}
use Rattle.amqp_types.specs.Decoding.{is_among}
use Rattle.amqp_types.specs.Images.{image, has_key}
use Rattle.amqp_types.specs.InHand.{Budget, place}
use Rattle.amqp_types.specs.Keys.{IsWith, AreImagesOf}
use Rattle.amqp_types.specs.Reading.{Read, Part, Level, Head, Block, ◌>>=◌, allowed, charge, uncharged, number_at, trees_at, pairs_at, head_at, block_at, count_at, ended, array_at, item_by, value_by, with_descriptor}
use Rattle.amqp_types.specs.Skipping.{rest_of, passed, constructor_passed, is_still, Leaves}
use Rattle.amqp_types.specs.Spelling.{size_len}
use Rattle.amqp_types.specs.Trees.{Tree, Number, ArrayOf, Trees, none, more, pair}
use Rattle.amqp_types.proofs.Walks.{still_number}

-- what is passed is read
pub leaves : {A : Type 0} (read : Part A) (left : ℕ) (rest : List ℕ) → passed read ≡ Ok (Some left, rest) → Leaves read left rest
leaves (Ok x) left rest e = (x.0, ap (λ (y : Budget × List ℕ). Ok (x.0, y.0, y.1)) (same (x.1, x.2) (Some left, rest) e))
  where
    same : (a b : Budget × List ℕ) → ◌≡◌ {A = Read Budget} (Ok a) (Ok b) → a ≡ b
    same a b h = cc
leaves (Err d) left rest e = absurd cc

-- what is refused is no value
pub refused : {A : Type 0} (read : Part A) (d : ReadFault) → passed read ≡ Err d → read ≡ Err d
refused (Ok x) d e = absurd cc
refused (Err b) d e = ap (λ (f : ReadFault). Err f) (same b d e)
  where
    same : (a b : ReadFault) → ◌≡◌ {A = Read Budget} (Err a) (Err b) → a ≡ b
    same a b h = cc

-- a step that keeps what is left
pub passed_step : {A B : Type 0} (read : Part A) (f : A → B) → passed (read >>= λ x. Ok (f x.0, x.1, x.2)) ≡ passed read
passed_step (Ok x) f = refl
passed_step (Err e) f = refl

-- what charges nothing is passed by what it leaves
pub uncharged_passed : {A : Type 0} (budget : Budget) (read : Read A) (tree : A → Tree) → passed (uncharged budget read tree) ≡ (rest_of read >>= λ rest. Ok (budget, rest))
uncharged_passed budget (Ok x) tree = refl
uncharged_passed budget (Err e) tree = refl

-- ---- as many values as a count says

module _ (one : Window → Budget → List ℕ → Part Tree) (w : Window) where
  now_trees : (count i left : ℕ) (bytes : List ℕ) (total : Read Budget) → i < count → passed (trees_at one (count - i) w (Some left) bytes) ≡ total
      → passed (trees_at one (suc (count - (i + 1))) w (Some left) bytes) ≡ total
  now_trees count i left bytes total lt so_far =
      let k : count - i ≡ suc (count - (i + 1)) = omega arith in
      subst (λ (n : ℕ). passed (trees_at one n w (Some left) bytes) ≡ total) k so_far

  pub goes_on : (count i left less : ℕ) (bytes rest : List ℕ) (total : Read Budget) → i < count → passed (one w (Some left) bytes) ≡ Ok (Some less, rest)
      → passed (trees_at one (count - i) w (Some left) bytes) ≡ total → passed (trees_at one (count - (i + 1)) w (Some less) rest) ≡ total
  unfolding trees_at
  goes_on count i left less bytes rest total lt h so_far =
      let x = leaves (one w (Some left) bytes) less rest h in
      let step : passed (trees_at one (suc (count - (i + 1))) w (Some left) bytes) ≡ passed (trees_at one (count - (i + 1)) w (Some less) rest) =
      rw x.1 (passed_step (trees_at one (count - (i + 1)) w (Some less) rest) (λ others. more x.0 others)) in
      sym step ∙ now_trees count i left bytes total lt so_far

  pub ends : (count i left : ℕ) (bytes : List ℕ) (d : ReadFault) (total : Read Budget) → i < count → (d ≡ NoMemory) ⊎ (passed (one w (Some left) bytes) ≡ Err d)
      → passed (trees_at one (count - i) w (Some left) bytes) ≡ total → (d ≡ NoMemory) ⊎ (total ≡ Err d)
  unfolding trees_at
  ends count i left bytes d total lt h so_far =
      let now = now_trees count i left bytes total lt so_far in
      elim h [
        | inl e ↦ inl e
        | inr e ↦ inr (sym now ∙ (rw (refused (one w (Some left) bytes) d e) refl))
      ]

  pub is_done : (count i left : ℕ) (bytes : List ℕ) (total : Read Budget) → count ≤ i → passed (trees_at one (count - i) w (Some left) bytes) ≡ total → total ≡ Ok (Some left, bytes)
  unfolding trees_at
  is_done count i left bytes total le so_far =
      let k : count - i ≡ 0 = omega arith in
      sym (subst (λ (n : ℕ). passed (trees_at one n w (Some left) bytes) ≡ total) k so_far)

  -- what takes no bytes takes none however often it comes
  pub stays : (n left : ℕ) (bytes : List ℕ) → passed (one w (Some left) bytes) ≡ Ok (Some left, bytes) → passed (trees_at one n w (Some left) bytes) ≡ Ok (Some left, bytes)
  unfolding trees_at
  stays zero left bytes h = refl
  stays (suc n) left bytes h =
      let x = leaves (one w (Some left) bytes) left bytes h in
      rw x.1 (passed_step (trees_at one n w (Some left) bytes) (λ others. more x.0 others) ∙ stays n left bytes h)

-- an item without data takes no bytes
pub still_item : (inner : Option Level) (c : Constructor) (w : Window) (left : ℕ) (bytes : List ℕ) → is_still c ≡ true → passed (item_by inner c w (Some left) bytes) ≡ Ok (Some left, bytes)
unfolding item_by
still_item inner (Fixed k f) w left bytes e =
    uncharged_passed (Some left) (number_at w k f bytes) (Number k) ∙ ap (λ r. r >>= λ rest. Ok (Some left, rest)) (still_number w k f bytes (eqb-true _ _ e))
still_item inner (Variable k s) w left bytes e = absurd cc
still_item inner EmptyList w left bytes e = refl
still_item inner (ListIn s) w left bytes e = absurd cc
still_item inner (MapIn s) w left bytes e = absurd cc
still_item inner (ArrayIn s) w left bytes e = absurd cc

-- ---- keys and values in turn

-- a key is one of these where its image is
pub known_key : (key : Tree) (images : List (List ℕ)) (seen : Trees) → AreImagesOf images seen → has_key key seen ≡ is_among (image key) images
known_key key images seen same = sym (same key)

-- those of none
pub images_of_none : AreImagesOf [] none
unfolding has_key
images_of_none key = refl

-- the images with one more are those of the keys with one more
pub images_with : (key : Tree) (old new : List (List ℕ)) (seen : Trees) → AreImagesOf old seen → IsWith (image key) old new → AreImagesOf new (more key seen)
unfolding has_key
images_with key old new seen same added other = added (image other) ∙ ap (λ (b : Bool). bytes_eq (image key) (image other) || b) (same other)

module _ (level : Level) (w : Window) where
  now_pairs : (seen : Trees) (count i left : ℕ) (bytes : List ℕ) (total : Read Budget) → i < count → passed (pairs_at level seen (count - i) w (Some left) bytes) ≡ total
      → passed (pairs_at level seen (suc (count - (i + 1))) w (Some left) bytes) ≡ total
  now_pairs seen count i left bytes total lt so_far =
      let k : count - i ≡ suc (count - (i + 1)) = omega arith in
      subst (λ (n : ℕ). passed (pairs_at level seen n w (Some left) bytes) ≡ total) k so_far

  pub pairs_go_on : (seen : Trees) (key : Tree) (count i left middle less : ℕ) (bytes between rest : List ℕ) (total : Read Budget) → i < count
      → level.value w 0 (Some left) bytes ≡ Ok (key, Some middle, between) → has_key key seen ≡ false → passed (level.value w 0 (Some middle) between) ≡ Ok (Some less, rest)
      → passed (pairs_at level seen (count - i) w (Some left) bytes) ≡ total → passed (pairs_at level (more key seen) (count - (i + 1)) w (Some less) rest) ≡ total
  unfolding pairs_at
  pairs_go_on seen key count i left middle less bytes between rest total lt k new v so_far =
      let x = leaves (level.value w 0 (Some middle) between) less rest v in
      let step : passed (pairs_at level seen (suc (count - (i + 1))) w (Some left) bytes) ≡ passed (pairs_at level (more key seen) (count - (i + 1)) w (Some less) rest) =
      rw (k, new, x.1) (passed_step (pairs_at level (more key seen) (count - (i + 1)) w (Some less) rest) (λ others. pair key x.0 others)) in
      sym step ∙ now_pairs seen count i left bytes total lt so_far

  pub key_ends : (seen : Trees) (count i left : ℕ) (bytes : List ℕ) (d : ReadFault) (total : Read Budget) → i < count → level.value w 0 (Some left) bytes ≡ Err d
      → passed (pairs_at level seen (count - i) w (Some left) bytes) ≡ total → total ≡ Err d
  unfolding pairs_at
  key_ends seen count i left bytes d total lt h so_far = sym (now_pairs seen count i left bytes total lt so_far) ∙ (rw h refl)

  pub key_again : (seen : Trees) (key : Tree) (count i left middle : ℕ) (bytes between : List ℕ) (total : Read Budget) → i < count
      → level.value w 0 (Some left) bytes ≡ Ok (key, Some middle, between) → has_key key seen ≡ true
      → passed (pairs_at level seen (count - i) w (Some left) bytes) ≡ total → total ≡ Err (DuplicateKey (place w bytes))
  unfolding pairs_at
  key_again seen key count i left middle bytes between total lt h there so_far = sym (now_pairs seen count i left bytes total lt so_far) ∙ (rw (h, there) refl)

  pub value_ends : (seen : Trees) (key : Tree) (count i left middle : ℕ) (bytes between : List ℕ) (d : ReadFault) (total : Read Budget) → i < count
      → level.value w 0 (Some left) bytes ≡ Ok (key, Some middle, between) → has_key key seen ≡ false → (d ≡ NoMemory) ⊎ (passed (level.value w 0 (Some middle) between) ≡ Err d)
      → passed (pairs_at level seen (count - i) w (Some left) bytes) ≡ total → (d ≡ NoMemory) ⊎ (total ≡ Err d)
  unfolding pairs_at
  value_ends seen key count i left middle bytes between d total lt h new g so_far =
      let now = now_pairs seen count i left bytes total lt so_far in
      elim g [
        | inl e ↦ inl e
        | inr e ↦ inr (sym now ∙ (rw (h, new, refused (level.value w 0 (Some middle) between) d e) refl))
      ]

  pub pairs_are_done : (seen : Trees) (count i left : ℕ) (bytes : List ℕ) (total : Read Budget) → count ≤ i → passed (pairs_at level seen (count - i) w (Some left) bytes) ≡ total
      → total ≡ Ok (Some left, bytes)
  unfolding pairs_at
  pairs_are_done seen count i left bytes total le so_far =
      let k : count - i ≡ 0 = omega arith in
      sym (subst (λ (n : ℕ). passed (pairs_at level seen n w (Some left) bytes) ≡ total) k so_far)

-- ---- an array's descriptors and its element constructor

module _ (level : Level) (w : Window) where
  now_head : (count i left : ℕ) (bytes : List ℕ) (total : Part Constructor) → i < count → constructor_passed (head_at (count - i) level w (Some left) bytes) ≡ total
      → constructor_passed (head_at (suc (count - (i + 1))) level w (Some left) bytes) ≡ total
  now_head count i left bytes total lt so_far =
      let k : count - i ≡ suc (count - (i + 1)) = omega arith in
      subst (λ (n : ℕ). constructor_passed (head_at n level w (Some left) bytes) ≡ total) k so_far

  pub head_nil : (fuel left : ℕ) (bytes : List ℕ) (total : Part Constructor) → bytes ≡ [] → constructor_passed (head_at fuel level w (Some left) bytes) ≡ total → total ≡ Err w.short
  unfolding head_at
  head_nil zero left [] total e so_far = sym so_far
  head_nil (suc fuel) left [] total e so_far = sym so_far
  head_nil fuel left (code ∷ rest) total e so_far = absurd cc

  none_left : (left : ℕ) (bytes : List ℕ) → constructor_passed (head_at 0 level w (Some left) bytes) ≡ Err w.short
  unfolding head_at
  none_left left [] = refl
  none_left left (code ∷ rest) = refl

  pub head_out : (count i left : ℕ) (bytes : List ℕ) (total : Part Constructor) → count ≤ i → constructor_passed (head_at (count - i) level w (Some left) bytes) ≡ total → total ≡ Err w.short
  head_out count i left bytes total le so_far =
      let k : count - i ≡ 0 = omega arith in
      sym (subst (λ (n : ℕ). constructor_passed (head_at n level w (Some left) bytes) ≡ total) k so_far) ∙ none_left left bytes

  pub head_stands : (count i left code : ℕ) (rest : List ℕ) (c : Constructor) (total : Part Constructor) → i < count → (code ≡ 0 → ⊥)
      → allowed (place w (code ∷ rest)) level.holds (find_code code) ≡ Ok c
      → constructor_passed (head_at (count - i) level w (Some left) (code ∷ rest)) ≡ total → total ≡ Ok (c, Some left, rest)
  unfolding head_at
  head_stands count i left code rest c total lt ne h so_far = sym (now_head count i left (code ∷ rest) total lt so_far) ∙ (rw (ne_eqb code 0 ne, h) refl)

  pub head_refused : (count i left code : ℕ) (rest : List ℕ) (d : ReadFault) (total : Part Constructor) → i < count → (code ≡ 0 → ⊥)
      → allowed (place w (code ∷ rest)) level.holds (find_code code) ≡ Err d
      → constructor_passed (head_at (count - i) level w (Some left) (code ∷ rest)) ≡ total → total ≡ Err d
  unfolding head_at
  head_refused count i left code rest d total lt ne h so_far = sym (now_head count i left (code ∷ rest) total lt so_far) ∙ (rw (ne_eqb code 0 ne, h) refl)

  pub head_unpaid : (count i left code : ℕ) (rest : List ℕ) (d : ReadFault) (total : Part Constructor) → i < count → code ≡ 0
      → charge (Some left) 1 (place w (code ∷ rest)) ≡ Err d
      → constructor_passed (head_at (count - i) level w (Some left) (code ∷ rest)) ≡ total → total ≡ Err d
  unfolding head_at
  head_unpaid count i left code rest d total lt zero_is h so_far = sym (now_head count i left (code ∷ rest) total lt so_far) ∙ (rw (eq-eqb code 0 zero_is, h) refl)

  pub descriptor_ends : (count i left paid code : ℕ) (rest : List ℕ) (d : ReadFault) (total : Part Constructor) → i < count → code ≡ 0
      → charge (Some left) 1 (place w (code ∷ rest)) ≡ Ok (Some paid) → (d ≡ NoMemory) ⊎ (passed (level.value w 0 (Some paid) rest) ≡ Err d)
      → constructor_passed (head_at (count - i) level w (Some left) (code ∷ rest)) ≡ total → (d ≡ NoMemory) ⊎ (total ≡ Err d)
  unfolding head_at
  descriptor_ends count i left paid code rest d total lt zero_is h g so_far =
      let now = now_head count i left (code ∷ rest) total lt so_far in
      elim g [
        | inl e ↦ inl e
        | inr e ↦ inr (sym now ∙ (rw (eq-eqb code 0 zero_is, h, refused (level.value w 0 (Some paid) rest) d e) refl))
      ]

  joined : (d : Tree) (read : Part Head) → constructor_passed (read >>= λ head. Ok (with_descriptor d head.0, head.1, head.2)) ≡ constructor_passed read
  joined d (Ok x) = refl
  joined d (Err e) = refl

  pub head_goes_on : (count i left paid less code : ℕ) (bytes rest : List ℕ) (total : Part Constructor) → i < count → code ≡ 0
      → charge (Some left) 1 (place w (code ∷ bytes)) ≡ Ok (Some paid) → passed (level.value w 0 (Some paid) bytes) ≡ Ok (Some less, rest)
      → constructor_passed (head_at (count - i) level w (Some left) (code ∷ bytes)) ≡ total
      → constructor_passed (head_at (count - (i + 1)) level w (Some less) rest) ≡ total
  unfolding head_at
  head_goes_on count i left paid less code bytes rest total lt zero_is h g so_far =
      let x = leaves (level.value w 0 (Some paid) bytes) less rest g in
      let step : constructor_passed (head_at (suc (count - (i + 1))) level w (Some left) (code ∷ bytes)) ≡ constructor_passed (head_at (count - (i + 1)) level w (Some less) rest) =
      rw (eq-eqb code 0 zero_is, h, x.1) (joined x.0 (head_at (count - (i + 1)) level w (Some less) rest)) in
      sym step ∙ now_head count i left (code ∷ bytes) total lt so_far

-- ---- containers

-- what ends a container, where what is read in it leaves so much
abbrev pub closed : Block → Read Budget → Read Budget
closed block read = read >>= λ x. ended block.within x.1 (tt {0}) >>= λ _. Ok (x.0, block.behind)

passed_ended : (w : Window) (rest behind : List ℕ) (t : Tree) (left : Budget) → passed (ended w rest (t, left, behind)) ≡ (ended w rest (tt {0}) >>= λ _. Ok (left, behind))
passed_ended w [] behind t left = refl
passed_ended w (b ∷ rest) behind t left = refl

-- a block is passed where what is read in it ends
pub closes : {A : Type 0} (block : Block) (read : Part A) (tree : A → Tree) → passed (read >>= λ x. ended block.within x.2 (tree x.0, x.1, block.behind)) ≡ closed block (passed read)
closes block (Ok x) tree = passed_ended block.within x.2 block.behind (tree x.0) x.1
closes block (Err d) tree = refl

-- the head of an array that is passed is read
pub head_is : (read : Part Head) (c : Constructor) (left : ℕ) (rest : List ℕ) → constructor_passed read ≡ Ok (c, Some left, rest)
    → (h : Head) × (read ≡ Ok (h, Some left, rest)) × (h.constructor ≡ c)
head_is (Ok x) c left rest e =
    let all = same (x.0.constructor, x.1, x.2) (c, Some left, rest) e in
    (x.0, ap (λ (y : Constructor × Budget × List ℕ). Ok (x.0, y.1, y.2)) all, ap (λ (y : Constructor × Budget × List ℕ). y.0) all)
  where
    same : (a b : Constructor × Budget × List ℕ) → ◌≡◌ {A = Part Constructor} (Ok a) (Ok b) → a ≡ b
    same a b h = cc
head_is (Err d) c left rest e = absurd cc

module _ (level : Level) (w : Window) (s : SizeWidth) (nodes : ℕ) (bytes : List ℕ) (block : Block) (n : ℕ) (front : List ℕ) (left : ℕ) (c : Constructor) (middle : ℕ) (items : List ℕ)
    (e1 : block_at w s (size_len s + 1) bytes ≡ Ok block) (e2 : count_at block.within s false block.body ≡ Ok (n, front)) (e3 : charge (Some nodes) n (place block.within block.body) ≡ Ok (Some left))
    (e4 : constructor_passed (head_at (length front) level block.within (Some left) front) ≡ Ok (c, Some middle, items)) where
  -- an array is passed where its items are
  pub array_passed : passed (array_at level w s (Some nodes) bytes) ≡ closed block (passed (trees_at (level.item c) n block.within (Some middle) items))
  unfolding array_at
  array_passed =
      let h = head_is (head_at (length front) level block.within (Some left) front) c middle items e4 in
      rw (e1, e2, e3, h.1) (closes block (trees_at (level.item h.0.constructor) n block.within (Some middle) items) (ArrayOf h.0.descriptors (kind_of h.0.constructor))
      ∙ ap (λ (k : Constructor). closed block (passed (trees_at (level.item k) n block.within (Some middle) items))) h.2)

  -- and refused where they are
  pub array_ends : (d : ReadFault) → (d ≡ NoMemory) ⊎ (passed (trees_at (level.item c) n block.within (Some middle) items) ≡ Err d)
      → (d ≡ NoMemory) ⊎ (passed (array_at level w s (Some nodes) bytes) ≡ Err d)
  array_ends d h = elim h [
    | inl e ↦ inl e
    | inr e ↦ inr (array_passed ∙ ap (closed block) e)
  ]

-- ---- the constructor in front

-- a value that can't be charged
pub coded_unpaid : (inner : Option Level) (w : Window) (due nodes code : ℕ) (rest : List ℕ) (c : Constructor) (d : ReadFault) → (code ≡ 0 → ⊥)
    → allowed (place w (code ∷ rest)) (is_some inner) (find_code code) ≡ Ok c → charge (Some nodes) due (place w (code ∷ rest)) ≡ Err d
    → passed (value_by inner w due (Some nodes) (code ∷ rest)) ≡ Err d
unfolding value_by
coded_unpaid inner w due nodes code rest c d ne h u = rw (ne_eqb code 0 ne, h, u) refl

-- what leaves is passed
pub left_passed : {A : Type 0} (read : Part A) (left : ℕ) (rest : List ℕ) → Leaves read left rest → passed read ≡ Ok (Some left, rest)
left_passed read left rest h = rw h.1 refl
