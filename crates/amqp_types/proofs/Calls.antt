-- From the reading function to what the public calls promise.
use Rattle.std.proofs.Common.{◌≡◌, ℕ, ◌+◌, ◌≤◌, List, ◌++◌, length, take, drop, Some, None, Result, Ok, Err, refl, sym, ap, subst, ◌∙◌, arith, inl, inr}
use Rattle.std.specs.Prelude.{IfOk}
use Rattle.std.proofs.lemmas.List.{take_at, length-append, length-drop}
use Rattle.amqp_types.specs.declared.fault.ReadFault.{ReadFault}
use Rattle.amqp_types.specs.Canonical.{canonical, Fits, IsRanged}
use Rattle.amqp_types.specs.Trees.{Tree, IsLawful, depth_of, nodes_in, nodes_of}
use Rattle.amqp_types.specs.Spelling.{Spells}
use Rattle.amqp_types.specs.InHand.{Budget, outermost}
use Rattle.amqp_types.specs.Reading.{Part, ◌>>=◌, Is, Gives, after, value_of}
use Rattle.amqp_types.specs.Decoding.{decoded}
use Rattle.amqp_types.proofs.Octets.{IsBytes}
use Rattle.amqp_types.proofs.Skips.{ok_rest}
use Rattle.amqp_types.proofs.Compounds.{value_sound}
use Rattle.amqp_types.proofs.Again.{value_again}
use Rattle.amqp_types.proofs.Joined.{Spent}
use Rattle.amqp_types.proofs.Canons.{canonical_spells}

-- as many bytes were taken as stand in front of the rest
front : (bytes text rest : List ℕ) (n : ℕ) → bytes ≡ text ++ rest → n ≤ length bytes → drop n bytes ≡ rest → (n ≡ length text) × (take n bytes ≡ text)
front bytes text rest n parts le same =
    let len : length bytes ≡ length text + length rest = ap length parts ∙ length-append text rest in
    let n-is : n ≡ length text = omega (arith, ap length same, length-drop n bytes) in
    (n-is, ap (λ (k : ℕ). take k bytes) n-is ∙ ap (take (length text)) parts ∙ take_at text rest (length text) refl)

ok_parts : (a b : Tree × List ℕ) → ◌≡◌ {A = Result (Tree × List ℕ) ReadFault} (Ok a) (Ok b) → a ≡ b
ok_parts a b e = cc

-- ---- skip

skipped : (read : Part Tree) (rest : List ℕ) → after read ≡ Ok rest → (x : Tree × Budget × List ℕ) × (read ≡ Ok x) × (x.2 ≡ rest)
skipped (Ok x) rest e = (x, refl, ok_rest x.2 rest e)
skipped (Err d) rest e = absurd cc

-- what stands in front of the rest that is answered is a value
pub rest_found : (depth : ℕ) (bytes rest : List ℕ) → IsBytes bytes → after (value_of depth None bytes) ≡ Ok rest
    → (t : Tree) × (text : List ℕ) × Spells t text × (bytes ≡ text ++ rest) × (depth_of t ≤ depth)
rest_found depth bytes rest fits is =
    let s = skipped (value_of depth None bytes) rest is in
    let r = value_sound depth (outermost bytes) 1 None bytes s.0 fits s.1 in
    (s.0.0, r.text, r.spelled, r.takes.parts ∙ ap (λ (b : List ℕ). r.text ++ b) s.2, r.deep)

pub tree_again : (depth : ℕ) (t : Tree) (text rest : List ℕ) → Spells t text → depth_of t ≤ depth → value_of depth None (text ++ rest) ≡ Ok (t, None, rest)
tree_again depth t text rest spelled deep = value_again t depth (outermost (text ++ rest)) 1 None text rest spelled deep tt (λ c. absurd c)

-- a spelled value leaves what is behind it
pub rest_again : (depth : ℕ) (t : Tree) (text rest : List ℕ) → Spells t text → depth_of t ≤ depth → after (value_of depth None (text ++ rest)) ≡ Ok rest
rest_again depth t text rest spelled deep = ap after (value_again t depth (outermost (text ++ rest)) 1 None text rest spelled deep tt (λ c. absurd c))

-- what a skip passes is a value
pub skip_found : (depth : ℕ) (bytes : List ℕ) (r : Result ℕ ReadFault) → IsBytes bytes → IfOk r (λ n. n ≤ length bytes) → Is (λ n. drop n bytes) r (after (value_of depth None bytes))
    → IfOk r (λ n. (t : Tree) × Spells t (take n bytes) × (depth_of t ≤ depth))
skip_found depth bytes (Ok n) fits within is =
    let s = rest_found depth bytes (drop n bytes) fits is in
    let f = front bytes s.1 (drop n bytes) n s.3 within refl in
    (s.0, subst (λ (b : List ℕ). Spells s.0 b) (sym f.1) s.2, s.4)
skip_found depth bytes (Err e) fits within is = tt

-- a spelled value is what it passes
pub skip_only : (depth : ℕ) (bytes : List ℕ) (r : Result ℕ ReadFault) (t : Tree) (text rest : List ℕ) → IfOk r (λ n. n ≤ length bytes) → Is (λ n. drop n bytes) r (after (value_of depth None bytes))
    → Spells t text → depth_of t ≤ depth → bytes ≡ text ++ rest → r ≡ Ok (length text)
skip_only depth bytes r t text rest within is spelled deep parts =
    answer r within is (ap (λ (b : List ℕ). after (value_of depth None b)) parts ∙ rest_again depth t text rest spelled deep)
  where
    answer : (r : Result ℕ ReadFault) → IfOk r (λ n. n ≤ length bytes) → Is (λ n. drop n bytes) r (after (value_of depth None bytes)) → after (value_of depth None bytes) ≡ Ok rest →
        r ≡ Ok (length text)
    answer (Ok n) within is read = ap (λ (k : ℕ). Ok k) (front bytes text rest n parts within (ok_rest (drop n bytes) rest (sym is ∙ read))).0
    answer (Err e) within is read = absurd (let h : ◌≡◌ {A = Result (List ℕ) ReadFault} (Err e) (Ok rest) = sym is ∙ read in cc)

-- ---- decode

kept : (read : Part Tree) (x : Tree × List ℕ) → (read >>= λ y. Ok (y.0, y.2)) ≡ Ok x → (y : Tree × Budget × List ℕ) × (read ≡ Ok y) × (y.0 ≡ x.0) × (y.2 ≡ x.1)
kept (Ok y) x e = let s = ok_parts (y.0, y.2) x e in (y, refl, ap (λ (p : Tree × List ℕ). p.0) s, ap (λ (p : Tree × List ℕ). p.1) s)
kept (Err d) x e = absurd cc

spent_within : (nodes n : ℕ) (left : Budget) → Spent (Some nodes) n left → n ≤ nodes
spent_within nodes n left p = omega (arith, p.2)

-- what reading gives is spelled there, lawful and within the limits
pub decoded_found : (depth nodes : ℕ) (bytes rest : List ℕ) (t : Tree) → IsBytes bytes → decoded depth nodes bytes ≡ Ok (t, rest)
    → (text : List ℕ) × Spells t text × (bytes ≡ text ++ rest) × IsLawful t × (depth_of t ≤ depth) × (nodes_of t ≤ nodes)
decoded_found depth nodes bytes rest t fits is =
    let k = kept (value_of depth (Some nodes) bytes) (t, rest) is in
    let r = value_sound depth (outermost bytes) 1 (Some nodes) bytes k.0 fits k.1 in
    let few = spent_within nodes (1 + nodes_in k.0.0) k.0.1 r.spent in
    subst (λ (u : Tree). (text : List ℕ) × Spells u text × (bytes ≡ text ++ rest) × IsLawful u × (depth_of u ≤ depth) × (nodes_of u ≤ nodes)) k.2
    (r.text, r.spelled, r.takes.parts ∙ ap (λ (b : List ℕ). r.text ++ b) k.3, r.lawful tt, r.deep, few)

-- each such value is what reading gives
pub decoded_again : (depth nodes : ℕ) (t : Tree) (text rest : List ℕ) → Spells t text → IsLawful t → depth_of t ≤ depth → nodes_of t ≤ nodes → decoded depth nodes (text ++ rest) ≡ Ok (t, rest)
decoded_again depth nodes t text rest spelled lawful deep few =
    ap (λ (p : Part Tree). p >>= λ y. Ok (y.0, y.2)) (value_again t depth (outermost (text ++ rest)) 1 (Some nodes) text rest spelled deep few (λ _. lawful))

-- what is written is read back
pub written_again : (depth nodes : ℕ) (t : Tree) (rest : List ℕ) → IsLawful t → IsRanged t → Fits t → depth_of t ≤ depth → nodes_of t ≤ nodes → decoded depth nodes (canonical t ++ rest) ≡ Ok (t, rest)
written_again depth nodes t rest lawful ranged fits deep few =
    decoded_again depth nodes t (canonical t) rest (canonical_spells t lawful ranged fits) lawful deep few

-- the same of what a call answers
pub decode_found : {V : Type 0} (view : V → Tree) (depth nodes : ℕ) (bytes : List ℕ) (r : Result (V × ℕ) ReadFault) → IsBytes bytes → IfOk r (λ x. x.1 ≤ length bytes) →
    Gives (λ x. (view x.0, drop x.1 bytes)) r (decoded depth nodes bytes)
    → IfOk r (λ x. Spells (view x.0) (take x.1 bytes) × IsLawful (view x.0) × (depth_of (view x.0) ≤ depth) × (nodes_of (view x.0) ≤ nodes))
decode_found view depth nodes bytes (Ok x) fits within is =
    let s = decoded_found depth nodes bytes (drop x.1 bytes) (view x.0) fits is in
    let f = front bytes s.0 (drop x.1 bytes) x.1 s.2 within refl in
    (subst (λ (b : List ℕ). Spells (view x.0) b) (sym f.1) s.1, s.3, s.4, s.5)
decode_found view depth nodes bytes (Err e) fits within is = tt

-- the same of a call, where such a value stands there
pub decode_only : {V : Type 0} (view : V → Tree) (depth nodes : ℕ) (bytes : List ℕ) (r : Result (V × ℕ) ReadFault) (t : Tree) (text rest : List ℕ) → IfOk r (λ x. x.1 ≤ length bytes) →
    Gives (λ x. (view x.0, drop x.1 bytes)) r (decoded depth nodes bytes)
    → Spells t text → IsLawful t → depth_of t ≤ depth → nodes_of t ≤ nodes → bytes ≡ text ++ rest → Gives {Y = Tree × ℕ} (λ x. (view x.0, x.1)) r (Ok (t, length text))
decode_only {V = V} view depth nodes bytes r t text rest within is spelled lawful deep few parts =
    answer r within is (ap (decoded depth nodes) parts ∙ decoded_again depth nodes t text rest spelled lawful deep few)
  where
    answer : (r : Result (V × ℕ) ReadFault) → IfOk r (λ x. x.1 ≤ length bytes) → Gives (λ x. (view x.0, drop x.1 bytes)) r (decoded depth nodes bytes) → decoded depth nodes bytes ≡ Ok (t, rest)
        → Gives {Y = Tree × ℕ} (λ x. (view x.0, x.1)) r (Ok (t, length text))
    answer (Ok x) within is read =
        let same = ok_parts (view x.0, drop x.1 bytes) (t, rest) (sym is ∙ read) in
        let f = front bytes text rest x.1 parts within (ap (λ (p : Tree × List ℕ). p.1) same) in
        ap (λ (u : Tree). Ok (u, length text)) (sym (ap (λ (p : Tree × List ℕ). p.0) same)) ∙ ap (λ (k : ℕ). Ok (view x.0, k)) (sym f.0)
    answer (Err e) within (inl none) read = inl none
    answer (Err e) within (inr is) read = absurd (let h : ◌≡◌ {A = Result (Tree × List ℕ) ReadFault} (Err e) (Ok (t, rest)) = sym is ∙ read in cc)
