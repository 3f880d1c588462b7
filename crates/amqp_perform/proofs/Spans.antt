-- What a field of any type is: absent where its bytes are a null's, and else those bytes.
use Rattle.std.proofs.Common.{◌≡◌, ℕ, zero, suc, ◌-◌, ◌≤◌, Bool, true, false, eqb, List, [], ◌∷◌, length, take, drop, Option, Some, None, Result, Ok, Err, refl, sym, ap, subst, ◌∙◌, arith, inl, inr}
use Rattle.std.proofs.Common.{◌⊎◌}
use Rattle.std.proofs.Math.Dec.{leb}
use Rattle.std.specs.Prelude.{IfOk}
use Rattle.std.proofs.lemmas.Bool.{le-ltb, eqb-true, eqb-false}
use Rattle.std.specs.Str.{bytes_eq}
use Rattle.std.proofs.lemmas.Slice.Eq.{bytes_eq-Decides}
use Rattle.std.proofs.lemmas.List.{length-drop}
use Rattle.std.proofs.lemmas.Option.{cond_some}
use Rattle.amqp_types.specs.declared.kind.Kind.{Kind}
use Rattle.amqp_types.specs.declared.kind.Kind.TheVariants as kind
use Rattle.amqp_types.specs.declared.fault.ReadFault.{ReadFault}
use Rattle.amqp_types.specs.Spelling.{Spells}
use Rattle.amqp_types.specs.Trees.{Tree, Number, IsOfKind, depth_of}
use Rattle.amqp_types.specs.Reading.{Is, Part, after, number_at, form_at, item_by, value_by, value_of}
use Rattle.amqp_types.proofs.Skips.{ok_rest}
use Rattle.amqp_types.proofs.Peeks.{never_empty}
use Rattle.amqp_perform.specs.Cells.{Cell, Absent, Span, ◌>>=◌, is_null, typed_cell}
use Rattle.amqp_perform.specs.Performatives.{span}
use Rattle.amqp_perform.specs.BodyReading.{item_from, typed_at, octets_at}
use Rattle.amqp_perform.specs.Tables.{spanned}
use Rattle.amqp_perform.proofs.Made.{Yields}
use Rattle.amqp_perform.proofs.Rows.{others_yield}

null_kind : Kind → Bool
null_kind kind.Null = true
null_kind k = false

leaf_is : (t : Tree) (k : Kind) → IsOfKind k t → null_kind k ≡ false → is_null t ≡ false
unfolding null_kind
leaf_is (Number kind.Null n) k is e = absurd (let f : null_kind kind.Null ≡ false = subst (λ (j : Kind). null_kind j ≡ false) (sym is) e in cc)
leaf_is t k is e = refl

-- no code but one makes a null
pub no_null : (code : ℕ) (rest : List ℕ) → eqb code 0x40 ≡ false → Yields (λ t. is_null t ≡ false) (value_of 30 None (code ∷ rest))
unfolding null_kind
no_null code rest other =
    others_yield (λ t. is_null t ≡ false) null_kind (0x40 ∷ []) 30 code rest refl (other, tt) (λ d t. refl) leaf_is

null_after : (rest : List ℕ) → value_of 30 None (0x40 ∷ rest) ≡ Ok (Number kind.Null 0, None, rest)
unfolding value_by item_by number_at form_at
null_after rest = rw (le-ltb (length rest) 0 (omega arith)) refl

-- the text of a null
abbrev pub IsNullText : List ℕ → Type 0
IsNullText text = text ≡ 0x40 ∷ []

-- a span, out of what reading a value gives
abbrev pub any_at : ℕ → List ℕ → Part Tree → Option (Cell × ℕ × List ℕ)
any_at left bytes read = item_from bytes read >>= λ x. typed_cell spanned x.0 >>= λ c. Some (c, left, x.1)

-- a value other than null
span_read : (left len : ℕ) (bytes : List ℕ) (read : Part Tree) → len ≤ length bytes → Yields (λ t. is_null t ≡ false) read → after read ≡ Ok (drop len bytes)
    → any_at left bytes read ≡ Some (Span (take len bytes), left, drop len bytes)
span_read left len bytes (Ok x) within yields e =
    let rest = ok_rest x.2 (drop len bytes) e in
    let long : length bytes - length x.2 ≡ len = omega (arith, ap length rest, length-drop len bytes) in
    rw (yields, long, rest) refl
span_read left len bytes (Err f) within yields e = absurd cc

first_is : (len code : ℕ) (rest : List ℕ) → eqb code 0x40 ≡ false → IsNullText (take len (code ∷ rest)) → ⊥
first_is zero code rest other e = absurd cc
first_is (suc len) code rest other e = let same : code ≡ 0x40 = cc in eqb-false code 0x40 other same

one_taken : (len : ℕ) (rest : List ℕ) → len ≤ length (0x40 ∷ rest) → rest ≡ drop len (0x40 ∷ rest) → len ≡ 1
one_taken len rest within e = omega (arith, ap length e, length-drop len (0x40 ∷ rest))

-- a value that is well spelled, of this length
abbrev pub IsSpanned : ℕ → List ℕ → ℕ → Type 0
IsSpanned left bytes len =
    (IsNullText (take len bytes) × (typed_at spanned (suc left) bytes ≡ Some (Absent, left, drop len bytes)))
    ⊎ ((IsNullText (take len bytes) → ⊥) × (typed_at spanned (suc left) bytes ≡ Some (Span (take len bytes), left, drop len bytes)))

opaque_is : (left len : ℕ) (bytes : List ℕ) → len ≤ length bytes → after (value_of 30 None bytes) ≡ Ok (drop len bytes) → IsSpanned left bytes len
unfolding typed_at value_by
opaque_is left len [] within e = absurd cc
opaque_is left len (code ∷ rest) within e = tested (eqb code 0x40) refl
  where
    tested : (b : Bool) → eqb code 0x40 ≡ b → IsSpanned left (code ∷ rest) len
    tested true is =
        let same = eqb-true code 0x40 is in
        subst (λ (k : ℕ). IsSpanned left (k ∷ rest) len) (sym same) (null_here len within (subst (λ (k : ℕ). after (value_of 30 None (k ∷ rest)) ≡ Ok (drop len (k ∷ rest))) same e))
      where
        null_here : (len : ℕ) → len ≤ length (code ∷ rest) → after (value_of 30 None (0x40 ∷ rest)) ≡ Ok (drop len (0x40 ∷ rest)) → IsSpanned left (0x40 ∷ rest) len
        null_here len within e =
            let left_is : rest ≡ drop len (0x40 ∷ rest) = ok_rest rest (drop len (0x40 ∷ rest)) (sym (ap after (null_after rest)) ∙ e) in
            let one = one_taken len rest within left_is in
            subst (λ (n : ℕ). IsSpanned left (0x40 ∷ rest) n) (sym one) (inl (refl, ap (any_at left (0x40 ∷ rest)) (null_after rest)))
    tested false is = inr (first_is len code rest is, span_read left len (code ∷ rest) (value_of 30 None (code ∷ rest)) within (no_null code rest is) e)

-- an absent field, by the text that was skipped
pub null_span : (left len : ℕ) (bytes : List ℕ) → len ≤ length bytes → after (value_of 30 None bytes) ≡ Ok (drop len bytes) → IsNullText (take len bytes)
    → typed_at spanned (suc left) bytes ≡ Some (Absent, left, drop len bytes)
null_span left len bytes within e is = chosen (opaque_is left len bytes within e)
  where
    chosen : IsSpanned left bytes len → typed_at spanned (suc left) bytes ≡ Some (Absent, left, drop len bytes)
    chosen (inl h) = h.1
    chosen (inr h) = absurd (h.0 is)

span_of : (t : Tree) (text : List ℕ) → Spells t text → Span text ≡ span text
span_of t [] h = absurd (never_empty t [] [] h refl)
span_of t (b ∷ text) h = refl

-- any other
pub other_span : (left len : ℕ) (bytes : List ℕ) (t : Tree) → len ≤ length bytes → after (value_of 30 None bytes) ≡ Ok (drop len bytes) → Spells t (take len bytes)
    → (IsNullText (take len bytes) → ⊥) → typed_at spanned (suc left) bytes ≡ Some (span (take len bytes), left, drop len bytes)
other_span left len bytes t within e spelled other = chosen (opaque_is left len bytes within e)
  where
    chosen : IsSpanned left bytes len → typed_at spanned (suc left) bytes ≡ Some (span (take len bytes), left, drop len bytes)
    chosen (inl h) = absurd (other h.0)
    chosen (inr h) = h.1 ∙ ap (λ (c : Cell). Some (c, left, drop len bytes)) (span_of t (take len bytes) spelled)

octets_parts : (n : ℕ) (bytes o rest : List ℕ) → octets_at n bytes ≡ Some (o, rest) → (o ≡ take n bytes) × (rest ≡ drop n bytes)
octets_parts n bytes o rest e =
    let same = (cond_some (leb n (length bytes)) (take n bytes, drop n bytes) (o, rest) e).1 in
    (sym (ap (λ (p : List ℕ × List ℕ). p.0) same), sym (ap (λ (p : List ℕ × List ℕ). p.1) same))

-- what skip found, and what the cursor took of it
pub lent : (left len : ℕ) (bytes o rest : List ℕ) (r : Result ℕ ReadFault) → (left ≡ 0 → ⊥) → r ≡ Ok len → IfOk r (λ n. n ≤ length bytes) →
    IfOk r (λ n. (t : Tree) × Spells t (take n bytes) × (depth_of t ≤ 30))
    → Is (λ n. drop n bytes) r (after (value_of 30 None bytes)) → octets_at len bytes ≡ Some (o, rest)
    → (IsNullText o → typed_at spanned left bytes ≡ Some (Absent, left - 1, rest)) × ((IsNullText o → ⊥) → typed_at spanned left bytes ≡ Some (span o, left - 1, rest))
lent zero len bytes o rest r more is within found exact taken = absurd (more refl)
lent (suc left) len bytes o rest r more is within found exact taken =
    let parts = octets_parts len bytes o rest taken in
    let few = subst (λ (q : Result ℕ ReadFault). IfOk q (λ n. n ≤ length bytes)) is within in
    let spelled = subst (λ (q : Result ℕ ReadFault). IfOk q (λ n. (t : Tree) × Spells t (take n bytes) × (depth_of t ≤ 30))) is found in
    let read = subst (λ (q : Result ℕ ReadFault). Is (λ n. drop n bytes) q (after (value_of 30 None bytes))) is exact in
    let one : suc left - 1 ≡ left = omega arith in (
      λ null. null_span left len bytes few read (sym parts.0 ∙ null) ∙ (rw (one, parts.1) refl),
      λ other. other_span left len bytes spelled.0 few read spelled.1 (λ e. other (parts.0 ∙ e)) ∙ (rw (one, parts.0, parts.1) refl),
    )

-- texts that compare as different are
pub not_equal : (xs ys : List ℕ) → bytes_eq xs ys ≡ false → xs ≡ ys → ⊥
not_equal xs ys e same = let yes = (bytes_eq-Decides xs ys).1 same in cc
