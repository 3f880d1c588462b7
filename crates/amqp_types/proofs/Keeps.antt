-- Reading with what is read kept goes along with its definition, step by step.
use Rattle.std.proofs.Common.{◌≡◌, ◌⊎◌, inl, inr, ℕ, zero, suc, ◌+◌, ◌-◌, ◌<◌, ◌≤◌, Bool, true, false, not, ◌||◌, List, [], ◌∷◌, ◌++◌, length, Some, Ok, Err, refl, sym, ap, subst, ◌∙◌, arith}
use Rattle.std.specs.Str.{bytes_eq}
use Rattle.std.proofs.lemmas.Bool.{eq-eqb, ne_eqb}
use Rattle.amqp_types.specs.declared.code.Constructor.{Constructor}
use Rattle.amqp_types.specs.declared.fault.ReadFault.{ReadFault}
use Rattle.amqp_types.specs.declared.fault.ReadFault.TheVariants.{DuplicateKey, NoMemory}
use Rattle.amqp_types.specs.declared.value.Value.{Value}
use Rattle.amqp_types.specs.declared.window.Window.{Window}
use Rattle.amqp_types.specs.declared.code.SizeWidth.{SizeWidth}
use Rattle.amqp_types.specs.Codes.{find_code, kind_of}
use Rattle.amqp_types.specs.Decoding.{is_among}
use Rattle.amqp_types.specs.Spelling.{size_len}
use Rattle.amqp_types.specs.Trees.{Tree, ArrayOf, Trees, none, more, Pairs, no_pair, pair}
use Rattle.amqp_types.specs.Values.{view, views, pair_views}
use Rattle.amqp_types.specs.Images.{image, has_key}
use Rattle.amqp_types.specs.InHand.{Budget, place}
use Rattle.amqp_types.specs.Reading.{Part, Level, Head, ◌>>=◌, allowed, charge, trees_at, pairs_at, head_at, with_descriptor, Block, block_at, count_at, ended, array_at}

-- ---- values kept in front of those that are left

-- two lists of trees joined
abbrev pub join : Trees → Trees → Trees
join none us = us
join (more t ts) us = more t (join ts us)

join-none : (ts : Trees) → join ts none ≡ ts
join-none none = refl
join-none (more t ts) = ap (more t) (join-none ts)

-- with one more in the middle
pub join-push : (vs : List Value) (v : Value) (us : Trees) → join (views (vs ++ v ∷ [])) us ≡ join (views vs) (more (view v) us)
join-push [] v us = refl
join-push (x ∷ vs) v us = ap (more (view x)) (join-push vs v us)

-- values that were read before, in front of those that are
abbrev pub behind_values : Trees → Part Trees → Part Trees
behind_values front read = read >>= λ x. Ok (join front x.0, x.1, x.2)

-- in front of them none
pub behind_no_values : (read : Part Trees) → behind_values none read ≡ read
behind_no_values (Ok x) = refl
behind_no_values (Err e) = refl

one_more : (vs : List Value) (v : Value) (read : Part Trees)
    → behind_values (views (vs ++ v ∷ [])) read ≡ behind_values (views vs) (read >>= λ others. Ok (more (view v) others.0, others.1, others.2))
one_more vs v (Ok x) = ap (λ (ts : Trees). Ok (ts, x.1, x.2)) (join-push vs v x.0)
one_more vs v (Err e) = refl

module _ (one : Window → Budget → List ℕ → Part Tree) (w : Window) where
  pub keeps_on : (vs : List Value) (v : Value) (count i left less : ℕ) (bytes rest : List ℕ) (total : Part Trees) → i < count
      → one w (Some left) bytes ≡ Ok (view v, Some less, rest)
      → behind_values (views vs) (trees_at one (count - i) w (Some left) bytes) ≡ total
      → behind_values (views (vs ++ v ∷ [])) (trees_at one (count - (i + 1)) w (Some less) rest) ≡ total
  unfolding trees_at
  keeps_on vs v count i left less bytes rest total lt h so_far =
      let k : count - i ≡ suc (count - (i + 1)) = omega arith in
      let step : behind_values (views vs) (trees_at one (suc (count - (i + 1))) w (Some left) bytes) ≡ behind_values (views (vs ++ v ∷ [])) (trees_at one (count - (i + 1)) w (Some less) rest) =
      rw h (sym (one_more vs v (trees_at one (count - (i + 1)) w (Some less) rest))) in
      sym step ∙ subst (λ (n : ℕ). behind_values (views vs) (trees_at one n w (Some left) bytes) ≡ total) k so_far

  pub stops : (front : Trees) (count i left : ℕ) (bytes : List ℕ) (d : ReadFault) (total : Part Trees) → i < count
      → (d ≡ NoMemory) ⊎ (one w (Some left) bytes ≡ Err d)
      → behind_values front (trees_at one (count - i) w (Some left) bytes) ≡ total
      → (d ≡ NoMemory) ⊎ (total ≡ Err d)
  unfolding trees_at
  stops front count i left bytes d total lt h so_far =
      let k : count - i ≡ suc (count - (i + 1)) = omega arith in
      let now = subst (λ (n : ℕ). behind_values front (trees_at one n w (Some left) bytes) ≡ total) k so_far in
      elim h [
        | inl e ↦ inl e
        | inr e ↦ inr (sym now ∙ (rw e refl))
      ]

  pub all_kept : (front : Trees) (count i left : ℕ) (bytes : List ℕ) (total : Part Trees) → count ≤ i
      → behind_values front (trees_at one (count - i) w (Some left) bytes) ≡ total → total ≡ Ok (front, Some left, bytes)
  unfolding trees_at
  all_kept front count i left bytes total le so_far =
      let k : count - i ≡ 0 = omega arith in
      sym (subst (λ (n : ℕ). behind_values front (trees_at one n w (Some left) bytes) ≡ total) k so_far)
      ∙ ap (λ (ts : Trees). Ok (ts, Some left, bytes)) (join-none front)

-- ---- keys and values

-- the same of keys and values
abbrev pub join_pairs : Pairs → Pairs → Pairs
join_pairs no_pair qs = qs
join_pairs (pair k v ps) qs = pair k v (join_pairs ps qs)

join_pairs-none : (ps : Pairs) → join_pairs ps no_pair ≡ ps
join_pairs-none no_pair = refl
join_pairs-none (pair k v ps) = ap (pair k v) (join_pairs-none ps)

join_pairs-push : (vs : List (Value × Value)) (k v : Value) (qs : Pairs) → join_pairs (pair_views (vs ++ (k, v) ∷ [])) qs ≡ join_pairs (pair_views vs) (pair (view k) (view v) qs)
join_pairs-push [] k v qs = refl
join_pairs-push (x ∷ vs) k v qs = ap (pair (view x.0) (view x.1)) (join_pairs-push vs k v qs)

-- those that were read before, in front
abbrev pub behind_pairs : Pairs → Part Pairs → Part Pairs
behind_pairs front read = read >>= λ x. Ok (join_pairs front x.0, x.1, x.2)

-- in front of them none
pub behind_no_pairs : (read : Part Pairs) → behind_pairs no_pair read ≡ read
behind_no_pairs (Ok x) = refl
behind_no_pairs (Err e) = refl

-- the keys of these, the last one first, in front of others
abbrev pub keys_before : Trees → List (Value × Value) → Trees
keys_before seen [] = seen
keys_before seen (p ∷ ps) = keys_before (more (view p.0) seen) ps

-- the keys seen, with one more
pub keys_before-push : (seen : Trees) (ps : List (Value × Value)) (k v : Value) → keys_before seen (ps ++ (k, v) ∷ []) ≡ more (view k) (keys_before seen ps)
keys_before-push seen [] k v = refl
keys_before-push seen (p ∷ ps) k v = keys_before-push (more (view p.0) seen) ps k v

-- whether the bytes are the image of one of these
abbrev pub has_image : List ℕ → Trees → Bool
has_image octets none = false
has_image octets (more t ts) = bytes_eq (image t) octets || has_image octets ts

-- a key is known exactly where its image is
pub has_image-key : (key : Tree) (ts : Trees) → has_key key ts ≡ has_image (image key) ts
unfolding has_key
has_image-key key none = refl
has_image-key key (more t ts) = ap (λ (b : Bool). bytes_eq (image t) (image key) || b) (has_image-key key ts)

-- the images seen, with one more
pub has_image-push : (octets : List ℕ) (ps : List (Value × Value)) (k v : Value)
    → has_image octets (keys_before none (ps ++ (k, v) ∷ [])) ≡ (bytes_eq (image (view k)) octets || has_image octets (keys_before none ps))
has_image-push octets ps k v = ap (has_image octets) (keys_before-push none ps k v)

undone : (a b : Bool) → not a ≡ not b → a ≡ b
undone true true e = refl
undone true false e = absurd cc
undone false true e = absurd cc
undone false false e = refl

-- a set that holds the images of these tells whether a key is one of them
pub known_key : (key : Tree) (set : List (List ℕ)) (seen : Trees) (there new : Bool) → new ≡ not (is_among (image key) set) → new ≡ not there
    → ((octets : List ℕ) → is_among octets set ≡ has_image octets seen) → has_key key seen ≡ there
known_key key set seen there new is e same = has_image-key key seen ∙ sym (same (image key)) ∙ undone (is_among (image key) set) there (sym is ∙ e)

one_more_pair : (ps : List (Value × Value)) (k v : Value) (read : Part Pairs)
    → behind_pairs (pair_views (ps ++ (k, v) ∷ [])) read ≡ behind_pairs (pair_views ps) (read >>= λ others. Ok (pair (view k) (view v) others.0, others.1, others.2))
one_more_pair ps k v (Ok x) = ap (λ (qs : Pairs). Ok (qs, x.1, x.2)) (join_pairs-push ps k v x.0)
one_more_pair ps k v (Err e) = refl

module _ (level : Level) (w : Window) where
  now_pairs : (front : Pairs) (seen : Trees) (count i left : ℕ) (bytes : List ℕ) (total : Part Pairs) → i < count
      → behind_pairs front (pairs_at level seen (count - i) w (Some left) bytes) ≡ total
      → behind_pairs front (pairs_at level seen (suc (count - (i + 1))) w (Some left) bytes) ≡ total
  now_pairs front seen count i left bytes total lt so_far =
      let k : count - i ≡ suc (count - (i + 1)) = omega arith in
      subst (λ (n : ℕ). behind_pairs front (pairs_at level seen n w (Some left) bytes) ≡ total) k so_far

  pub pairs_keep_on : (ps : List (Value × Value)) (k v : Value) (count i left middle less : ℕ) (bytes between rest : List ℕ) (total : Part Pairs) → i < count
      → level.value w 0 (Some left) bytes ≡ Ok (view k, Some middle, between)
      → has_key (view k) (keys_before none ps) ≡ false
      → level.value w 0 (Some middle) between ≡ Ok (view v, Some less, rest)
      → behind_pairs (pair_views ps) (pairs_at level (keys_before none ps) (count - i) w (Some left) bytes) ≡ total
      → behind_pairs (pair_views (ps ++ (k, v) ∷ [])) (pairs_at level (keys_before none (ps ++ (k, v) ∷ [])) (count - (i + 1)) w (Some less) rest) ≡ total
  unfolding pairs_at
  pairs_keep_on ps k v count i left middle less bytes between rest total lt h new g so_far =
      let step : behind_pairs (pair_views ps) (pairs_at level (keys_before none ps) (suc (count - (i + 1))) w (Some left) bytes)
      ≡ behind_pairs (pair_views ps) (pairs_at level (more (view k) (keys_before none ps)) (count - (i + 1)) w (Some less) rest >>= λ others. Ok
      (pair (view k) (view v) others.0, others.1, others.2)) =
      rw (h, new, g) refl in
      one_more_pair ps k v (pairs_at level (keys_before none (ps ++ (k, v) ∷ [])) (count - (i + 1)) w (Some less) rest)
      ∙ ap (λ (seen : Trees). behind_pairs (pair_views ps) (pairs_at level seen (count - (i + 1)) w (Some less) rest >>= λ others. Ok (pair (view k) (view v) others.0, others.1, others.2)))
      (keys_before-push none ps k v)
      ∙ sym step ∙ now_pairs (pair_views ps) (keys_before none ps) count i left bytes total lt so_far

  pub key_stops : (front : Pairs) (seen : Trees) (count i left : ℕ) (bytes : List ℕ) (d : ReadFault) (total : Part Pairs) → i < count
      → (d ≡ NoMemory) ⊎ (level.value w 0 (Some left) bytes ≡ Err d)
      → behind_pairs front (pairs_at level seen (count - i) w (Some left) bytes) ≡ total
      → (d ≡ NoMemory) ⊎ (total ≡ Err d)
  unfolding pairs_at
  key_stops front seen count i left bytes d total lt h so_far =
      let now = now_pairs front seen count i left bytes total lt so_far in
      elim h [
        | inl e ↦ inl e
        | inr e ↦ inr (sym now ∙ (rw e refl))
      ]

  pub key_again : (front : Pairs) (seen : Trees) (count i left middle : ℕ) (bytes between : List ℕ) (key : Tree) (total : Part Pairs) → i < count
      → level.value w 0 (Some left) bytes ≡ Ok (key, Some middle, between)
      → has_key key seen ≡ true
      → behind_pairs front (pairs_at level seen (count - i) w (Some left) bytes) ≡ total
      → total ≡ Err (DuplicateKey (place w bytes))
  unfolding pairs_at
  key_again front seen count i left middle bytes between key total lt h there so_far =
      let now = now_pairs front seen count i left bytes total lt so_far in
      sym now ∙ (rw (h, there) refl)

  pub value_stops : (front : Pairs) (seen : Trees) (count i left middle : ℕ) (bytes between : List ℕ) (key : Tree) (d : ReadFault) (total : Part Pairs) → i < count
      → level.value w 0 (Some left) bytes ≡ Ok (key, Some middle, between)
      → has_key key seen ≡ false
      → (d ≡ NoMemory) ⊎ (level.value w 0 (Some middle) between ≡ Err d)
      → behind_pairs front (pairs_at level seen (count - i) w (Some left) bytes) ≡ total
      → (d ≡ NoMemory) ⊎ (total ≡ Err d)
  unfolding pairs_at
  value_stops front seen count i left middle bytes between key d total lt h new g so_far =
      let now = now_pairs front seen count i left bytes total lt so_far in
      elim g [
        | inl e ↦ inl e
        | inr e ↦ inr (sym now ∙ (rw (h, new, e) refl))
      ]

  pub all_pairs_kept : (front : Pairs) (seen : Trees) (count i left : ℕ) (bytes : List ℕ) (total : Part Pairs) → count ≤ i
      → behind_pairs front (pairs_at level seen (count - i) w (Some left) bytes) ≡ total → total ≡ Ok (front, Some left, bytes)
  unfolding pairs_at
  all_pairs_kept front seen count i left bytes total le so_far =
      let k : count - i ≡ 0 = omega arith in
      sym (subst (λ (n : ℕ). behind_pairs front (pairs_at level seen n w (Some left) bytes) ≡ total) k so_far)
      ∙ ap (λ (ps : Pairs). Ok (ps, Some left, bytes)) (join_pairs-none front)

-- ---- an array's descriptors and its element constructor

-- an array's head with the descriptors that were read before
abbrev pub with_descriptors : Trees → Head → Head
with_descriptors front head = record { descriptors = join front head.descriptors; constructor = head.constructor }

-- the same of what is read
abbrev pub behind_descriptors : Trees → Part Head → Part Head
behind_descriptors front read = read >>= λ x. Ok (with_descriptors front x.0, x.1, x.2)

-- with none before
pub behind_no_descriptors : (read : Part Head) → behind_descriptors none read ≡ read
behind_no_descriptors (Ok x) = refl
behind_no_descriptors (Err e) = refl

one_more_descriptor : (vs : List Value) (v : Value) (read : Part Head)
    → behind_descriptors (views (vs ++ v ∷ [])) read ≡ behind_descriptors (views vs) (read >>= λ head. Ok (with_descriptor (view v) head.0, head.1, head.2))
one_more_descriptor vs v (Ok x) = ap (λ (ts : Trees). Ok (record { descriptors = ts; constructor = x.0.constructor }, x.1, x.2)) (join-push vs v x.0.descriptors)
one_more_descriptor vs v (Err e) = refl

module _ (level : Level) (w : Window) where
  now_head : (front : Trees) (count i left : ℕ) (bytes : List ℕ) (total : Part Head) → i < count
      → behind_descriptors front (head_at (count - i) level w (Some left) bytes) ≡ total
      → behind_descriptors front (head_at (suc (count - (i + 1))) level w (Some left) bytes) ≡ total
  now_head front count i left bytes total lt so_far =
      let k : count - i ≡ suc (count - (i + 1)) = omega arith in
      subst (λ (n : ℕ). behind_descriptors front (head_at n level w (Some left) bytes) ≡ total) k so_far

  pub head_ends : (front : Trees) (fuel left : ℕ) (bytes : List ℕ) (total : Part Head) → bytes ≡ []
      → behind_descriptors front (head_at fuel level w (Some left) bytes) ≡ total → total ≡ Err w.short
  unfolding head_at
  head_ends front zero left [] total e so_far = sym so_far
  head_ends front (suc fuel) left [] total e so_far = sym so_far
  head_ends front fuel left (code ∷ rest) total e so_far = absurd cc

  none_left : (front : Trees) (left : ℕ) (bytes : List ℕ) → behind_descriptors front (head_at 0 level w (Some left) bytes) ≡ Err w.short
  unfolding head_at
  none_left front left [] = refl
  none_left front left (code ∷ rest) = refl

  pub head_is_out : (front : Trees) (count i left : ℕ) (bytes : List ℕ) (total : Part Head) → count ≤ i
      → behind_descriptors front (head_at (count - i) level w (Some left) bytes) ≡ total → total ≡ Err w.short
  unfolding head_at
  head_is_out front count i left bytes total le so_far =
      let k : count - i ≡ 0 = omega arith in
      let now = subst (λ (n : ℕ). behind_descriptors front (head_at n level w (Some left) bytes) ≡ total) k so_far in
      sym now ∙ none_left front left bytes

  pub head_stands : (front : Trees) (count i left code : ℕ) (rest : List ℕ) (c : Constructor) (total : Part Head) → i < count → (code ≡ 0 → ⊥)
      → allowed (place w (code ∷ rest)) level.holds (find_code code) ≡ Ok c
      → behind_descriptors front (head_at (count - i) level w (Some left) (code ∷ rest)) ≡ total
      → total ≡ Ok (record { descriptors = front; constructor = c }, Some left, rest)
  unfolding head_at
  head_stands front count i left code rest c total lt ne h so_far =
      let now = now_head front count i left (code ∷ rest) total lt so_far in
      sym now ∙ (rw (ne_eqb code 0 ne, h) (ap (λ (ts : Trees). Ok (record { descriptors = ts; constructor = c }, Some left, rest)) (join-none front)))

  pub head_refused : (front : Trees) (count i left code : ℕ) (rest : List ℕ) (d : ReadFault) (total : Part Head) → i < count → (code ≡ 0 → ⊥)
      → allowed (place w (code ∷ rest)) level.holds (find_code code) ≡ Err d
      → behind_descriptors front (head_at (count - i) level w (Some left) (code ∷ rest)) ≡ total
      → total ≡ Err d
  unfolding head_at
  head_refused front count i left code rest d total lt ne h so_far =
      let now = now_head front count i left (code ∷ rest) total lt so_far in
      sym now ∙ (rw (ne_eqb code 0 ne, h) refl)

  pub head_unpaid : (front : Trees) (count i left code : ℕ) (rest : List ℕ) (d : ReadFault) (total : Part Head) → i < count → code ≡ 0
      → charge (Some left) 1 (place w (code ∷ rest)) ≡ Err d
      → behind_descriptors front (head_at (count - i) level w (Some left) (code ∷ rest)) ≡ total
      → total ≡ Err d
  unfolding head_at
  head_unpaid front count i left code rest d total lt zero_is h so_far =
      let now = now_head front count i left (code ∷ rest) total lt so_far in
      sym now ∙ (rw (eq-eqb code 0 zero_is, h) refl)

  pub descriptor_stops : (front : Trees) (count i left paid code : ℕ) (rest : List ℕ) (d : ReadFault) (total : Part Head) → i < count → code ≡ 0
      → charge (Some left) 1 (place w (code ∷ rest)) ≡ Ok (Some paid)
      → (d ≡ NoMemory) ⊎ (level.value w 0 (Some paid) rest ≡ Err d)
      → behind_descriptors front (head_at (count - i) level w (Some left) (code ∷ rest)) ≡ total
      → (d ≡ NoMemory) ⊎ (total ≡ Err d)
  unfolding head_at
  descriptor_stops front count i left paid code rest d total lt zero_is h g so_far =
      let now = now_head front count i left (code ∷ rest) total lt so_far in
      elim g [
        | inl e ↦ inl e
        | inr e ↦ inr (sym now ∙ (rw (eq-eqb code 0 zero_is, h, e) refl))
      ]

  pub descriptor_kept : (vs : List Value) (v : Value) (count i left paid less code : ℕ) (bytes rest : List ℕ) (total : Part Head) → i < count → code ≡ 0
      → charge (Some left) 1 (place w (code ∷ bytes)) ≡ Ok (Some paid)
      → level.value w 0 (Some paid) bytes ≡ Ok (view v, Some less, rest)
      → behind_descriptors (views vs) (head_at (count - i) level w (Some left) (code ∷ bytes)) ≡ total
      → behind_descriptors (views (vs ++ v ∷ [])) (head_at (count - (i + 1)) level w (Some less) rest) ≡ total
  unfolding head_at
  descriptor_kept vs v count i left paid less code bytes rest total lt zero_is h g so_far =
      let now = now_head (views vs) count i left (code ∷ bytes) total lt so_far in
      let step : behind_descriptors (views vs) (head_at (suc (count - (i + 1))) level w (Some left) (code ∷ bytes))
      ≡ behind_descriptors (views vs) (head_at (count - (i + 1)) level w (Some less) rest >>= λ head. Ok (with_descriptor (view v) head.0, head.1, head.2)) =
      rw (eq-eqb code 0 zero_is, h, g) refl in
      one_more_descriptor vs v (head_at (count - (i + 1)) level w (Some less) rest) ∙ sym step ∙ now

-- ---- arrays

-- a block that has ended answers what was read in it
pub has_ended : {A : Type 0} (w : Window) (bytes : List ℕ) (x : A) → ended w bytes (tt {0}) ≡ Ok (tt {0}) → ended w bytes x ≡ Ok x
has_ended w [] x e = refl
has_ended w (b ∷ bytes) x e = absurd cc

-- one that has not answers its fault
pub goes_further : {A : Type 0} (w : Window) (bytes : List ℕ) (x : A) (d : ReadFault) → ended w bytes (tt {0}) ≡ Err d → ended w bytes x ≡ Err d
goes_further w [] x d e = absurd cc
goes_further w (b ∷ bytes) x d e = let same : w.short ≡ d = cc in ap (λ (f : ReadFault). Err f) same

-- an array is its block, its head and its items
pub array_read : (level : Level) (w : Window) (s : SizeWidth) (nodes : ℕ) (bytes : List ℕ) (block : Block) (n : ℕ) (front : List ℕ) (left : ℕ)
    (ds : Trees) (c : Constructor) (middle : ℕ) (data_left : List ℕ) (ts : Trees) (less : ℕ) (rest : List ℕ)
    → block_at w s (size_len s + 1) bytes ≡ Ok block → count_at block.within s false block.body ≡ Ok (n, front)
    → charge (Some nodes) n (place block.within block.body) ≡ Ok (Some left)
    → head_at (length front) level block.within (Some left) front ≡ Ok (record { descriptors = ds; constructor = c }, Some middle, data_left)
    → trees_at (level.item c) n block.within (Some middle) data_left ≡ Ok (ts, Some less, rest)
    → array_at level w s (Some nodes) bytes ≡ ended block.within rest (ArrayOf ds (kind_of c) ts, Some less, block.behind)
unfolding array_at
array_read level w s nodes bytes block n front left ds c middle data_left ts less rest e1 e2 e3 e4 e5 = rw (e1, e2, e3, e4, e5) refl
