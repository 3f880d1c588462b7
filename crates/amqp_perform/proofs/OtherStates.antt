-- Values that are no errors, and no states that are outcomes, are found as such.
use Rattle.std.proofs.Common.{◌≡◌, ℕ, ◌≤◌, false, List, [], ◌∷◌, ◌++◌, Option, Some, None, refl, ap, sym, ◌∙◌, arith, inl, inr}
use Rattle.std.specs.Option.{unwrap_or}
use Rattle.amqp_types.specs.declared.code.Constructor.{Constructor}
use Rattle.amqp_types.specs.Codes.{find_code}
use Rattle.amqp_types.specs.InHand.{outermost}
use Rattle.amqp_types.specs.Spelling.{Spells}
use Rattle.amqp_types.specs.Trees.{Tree, Number, Octets, ListOf, MapOf, ArrayOf, Described, depth_of}
use Rattle.amqp_types.proofs.Again.{value_again}
use Rattle.amqp_perform.specs.declared.condition.Condition.TheVariants as condition
use Rattle.amqp_perform.specs.declared.descriptor.Descriptor.{Descriptor}
use Rattle.amqp_perform.specs.declared.descriptor.Descriptor.TheVariants as of_type
use Rattle.amqp_perform.specs.Cells.{◌>>=◌}
use Rattle.amqp_perform.specs.Conditions.{condition_of, cell_condition, error_items, is_error_type, is_error}
use Rattle.amqp_perform.specs.Descriptors.{described_by}
use Rattle.amqp_perform.specs.Outcomes.{outcome_of, outcome_by, is_state_type, is_state}
use Rattle.amqp_perform.specs.BodyReading.{ListAt, descriptor_from, descriptor_at, list_at, described_at, typed_at}
use Rattle.amqp_perform.specs.Tables.{symbol}
use Rattle.amqp_perform.proofs.Describing.{no_descriptor}
use Rattle.amqp_perform.proofs.ListLaws.{described_parts}

-- a code of the table is not the one that describes
not_zero : (code : ℕ) (c : Constructor) → find_code code ≡ Some c → code ≡ 0 → ⊥
not_zero code c found zero = let e : find_code 0 ≡ Some c = ap find_code (sym zero) ∙ found in cc

undescribed : (code : ℕ) (c : Constructor) (text behind rest : List ℕ) → find_code code ≡ Some c → text ≡ code ∷ behind → descriptor_at (text ++ rest) ≡ None
undescribed code c text behind rest found joined = ap (λ (b : List ℕ). descriptor_at (b ++ rest)) joined ∙ no_descriptor (code ∷ (behind ++ rest)) (behind ++ rest) code refl (not_zero code c found)

abbrev IsNotDescribed : Tree → Type 0
IsNotDescribed (Described d t) = ⊥
IsNotDescribed t = Unit {0}

-- no descriptor is read of a value that is not described
not_described : (t : Tree) (text rest : List ℕ) → Spells t text → IsNotDescribed t → descriptor_at (text ++ rest) ≡ None
unfolding Spells
not_described (Number k n) text rest h other = undescribed h.0 _ text h.2 rest h.3 h.4
not_described (Octets k octets) text rest h other = undescribed h.0 _ text h.2 rest h.3 h.4
not_described (ListOf ts) text rest (inl h) other = undescribed h.0 _ text [] rest h.1 h.2
not_described (ListOf ts) text rest (inr h) other = undescribed h.0 _ text h.3 rest h.4 h.5
not_described (MapOf ps) text rest h other = undescribed h.0 _ text h.3 rest h.4 h.5
not_described (ArrayOf ds k ts) text rest h other = undescribed h.0 _ text h.6 rest h.7 h.8
not_described (Described d t) text rest h other = absurd other

-- the type, and what is left
abbrev with_rest : Option Descriptor → List ℕ → Option (Descriptor × List ℕ)
with_rest o rest = o >>= λ k. Some (k, rest)

abbrev listed : Descriptor → Option ListAt → Option (Descriptor × ListAt)
listed k o = o >>= λ list. Some (k, list)

-- what describes a value is read, where that describes a type
described_head : (d : Tree) (first rest : List ℕ) → Spells d first → depth_of d ≤ 31 → descriptor_at (0 ∷ (first ++ rest)) ≡ with_rest (described_by d) rest
unfolding descriptor_at
described_head d first rest spelled deep = ap descriptor_from (value_again d 31 (outermost (first ++ rest)) 1 None first rest spelled deep tt (λ c. absurd c))

-- a value that is no list is not read as one
abbrev IsNoList : Tree → Type 0
IsNoList (ListOf ts) = ⊥
IsNoList t = Unit {0}

no_list : (t : Tree) (text rest : List ℕ) → Spells t text → IsNoList t → list_at (text ++ rest) ≡ None
unfolding list_at Spells
no_list (Number k n) text rest h other = rw (h.4, h.3) refl
no_list (Octets k octets) text rest h other = rw (h.4, h.3) refl
no_list (ListOf ts) text rest h other = absurd other
no_list (MapOf ps) text rest h other = rw (h.5, h.4) refl
no_list (ArrayOf ds k ts) text rest h other = rw (h.8, h.7) refl
no_list (Described d t) text rest h other = rw h.2 refl

-- Conditions. ---------------------------------------------------------------------------------------------------------

abbrev first_condition : Option (Descriptor × ListAt) → Rattle.amqp_perform.specs.declared.condition.Condition.Condition
first_condition read = unwrap_or (read >>= λ x. error_items x.0 x.1 >>= λ list. typed_at symbol list.count list.items >>= λ read. Some (cell_condition read.0)) condition.Other

of_another : (k : Descriptor) (o : Option ListAt) → is_error_type (Some k) ≡ false → first_condition (listed k o) ≡ condition.Other
of_another k None other = refl
of_another of_type.Error (Some list) other = absurd cc
of_another _ (Some list) other = refl

of_no_list : (o : Option Descriptor) (second : List ℕ) (none : list_at second ≡ None) → first_condition (with_rest o second >>= λ d. listed d.0 (list_at d.1)) ≡ condition.Other
of_no_list None second none = refl
of_no_list (Some k) second none = rw none refl

of_list : (o : Option Descriptor) (second : List ℕ) → is_error_type o ≡ false → first_condition (with_rest o second >>= λ d. listed d.0 (list_at d.1)) ≡ condition.Other
of_list None second other = refl
of_list (Some k) second other = of_another k (list_at second) other

-- the condition of what is no error is Other
pub no_condition : (t : Tree) (text rest : List ℕ) → Spells t text → depth_of t ≤ 32 → is_error t ≡ false → condition_of (text ++ rest) ≡ condition.Other
unfolding condition_of described_at Spells
no_condition (Described d (ListOf ts)) text rest h deep other =
    rw (described_parts text h.0 h.1 rest h.2, described_head d h.0 (h.1 ++ rest) h.3 (omega (arith, deep))) (of_list (described_by d) (h.1 ++ rest) other)
no_condition (Described d t) text rest h deep other =
    rw (described_parts text h.0 h.1 rest h.2, described_head d h.0 (h.1 ++ rest) h.3 (omega (arith, deep))) (of_no_list (described_by d) (h.1 ++ rest) (no_list t h.1 rest h.4 tt))
no_condition t text rest h deep other = rw (not_described t text rest h tt) refl

-- Outcomes. -----------------------------------------------------------------------------------------------------------

of_no_state : (o : Option Descriptor) (second : List ℕ) → is_state_type o ≡ false → (with_rest o second >>= λ x. outcome_by x.0 x.1) ≡ None
of_no_state None second other = refl
of_no_state (Some of_type.Accepted) second other = absurd cc
of_no_state (Some of_type.Rejected) second other = absurd cc
of_no_state (Some of_type.Released) second other = absurd cc
of_no_state (Some of_type.Modified) second other = absurd cc
of_no_state (Some _) second other = refl

-- what is no state has no outcome
pub no_outcome : (t : Tree) (text rest : List ℕ) → Spells t text → depth_of t ≤ 32 → is_state t ≡ false → outcome_of (text ++ rest) ≡ None
unfolding outcome_of Spells
no_outcome (Described d t) text rest h deep other =
    rw (described_parts text h.0 h.1 rest h.2, described_head d h.0 (h.1 ++ rest) h.3 (omega (arith, deep))) (of_no_state (described_by d) (h.1 ++ rest) other)
no_outcome t text rest h deep other = rw (not_described t text rest h tt) refl
