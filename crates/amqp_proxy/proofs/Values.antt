-- The TLVs of bytes.
use Rattle.std.specs.Prelude.{nat_lt, if◌then◌else◌}
use Rattle.std.proofs.Common.{◌≡◌, ℕ, zero, suc, ◌+◌, ◌-◌, ◌<◌, ◌≤◌, Bool, true, false, eqb, Option, Some, None, Result, Ok, Err, List, [], ◌∷◌, length, take, drop, get_or, refl, sym, ap, ◌∙◌, one-add, length-take, length-drop, arith}
use Rattle.std.proofs.lemmas.List.{take_all, drop_all}
use Rattle.std.proofs.lemmas.Bool.{lt-ltb, le-ltb}
use Rattle.std.proofs.lemmas.Bool.Decides.{Decides-eqb}
use Rattle.byteorder.specs.Endian.{big_number}
use Rattle.amqp_proxy.specs.declared.faults.ProxyFault.{ProxyFault}
use Rattle.amqp_proxy.specs.declared.faults.ProxyFault.TheVariants.{Malformed}
use Rattle.amqp_proxy.specs.Tlvs.{Tlv, tlv, before, size_of, value_of, tlvs_after, tlvs_of, values, single, only, IsFirst}

-- bytes that belong to a TLV before are passed
pub passes : (n : ℕ) (bytes : List ℕ) → tlvs_after n bytes ≡ tlvs_of (drop n bytes)
unfolding tlvs_after
passes zero [] = refl
passes (suc n) [] = refl
passes zero (b ∷ bytes) = refl
passes (suc n) (b ∷ bytes) = passes n bytes

abbrev first : ℕ → List ℕ → Bool → Bool → Option (List Tlv)
first kind bytes a b = if a then None else if b then None else before (tlv kind (value_of bytes)) (tlvs_after (2 + size_of bytes) bytes)

first_is : (kind : ℕ) (bytes : List ℕ) → tlvs_of (kind ∷ bytes) ≡ first kind bytes (nat_lt (length bytes) 2) (nat_lt (length bytes) (2 + size_of bytes))
unfolding tlvs_after
first_is kind bytes = refl

-- the first TLV goes beyond the end
cut_cons : (kind : ℕ) (bytes : List ℕ) → length bytes < 2 → tlvs_of (kind ∷ bytes) ≡ None
cut_cons kind bytes h = first_is kind bytes ∙ ap (λ (b : Bool). first kind bytes b (nat_lt (length bytes) (2 + size_of bytes))) (lt-ltb (length bytes) 2 h)

beyond_cons : (kind : ℕ) (bytes : List ℕ) → 2 ≤ length bytes → length bytes < 2 + size_of bytes → tlvs_of (kind ∷ bytes) ≡ None
beyond_cons kind bytes g h =
    first_is kind bytes
    ∙ ap (λ (b : Bool). first kind bytes b (nat_lt (length bytes) (2 + size_of bytes))) (le-ltb (length bytes) 2 g)
    ∙ ap (λ (b : Bool). first kind bytes false b) (lt-ltb (length bytes) (2 + size_of bytes) h)

pub one_cons : (kind : ℕ) (bytes : List ℕ) → 2 + size_of bytes ≤ length bytes → tlvs_of (kind ∷ bytes) ≡ before (tlv kind (value_of bytes)) (tlvs_of (drop (2 + size_of bytes) bytes))
one_cons kind bytes h =
    first_is kind bytes
    ∙ ap (λ (b : Bool). first kind bytes b (nat_lt (length bytes) (2 + size_of bytes))) (le-ltb (length bytes) 2 (omega arith))
    ∙ ap (λ (b : Bool). first kind bytes false b) (le-ltb (length bytes) (2 + size_of bytes) h)
    ∙ ap (before (tlv kind (value_of bytes))) (passes (2 + size_of bytes) bytes)

pub cut_short : (bytes : List ℕ) → 1 ≤ length bytes → length bytes < 3 → tlvs_of bytes ≡ None
cut_short [] some h = absurd (omega (arith, some))
cut_short (kind ∷ bytes) some h = cut_cons kind bytes (omega (arith, h))

pub cut_beyond : (bytes : List ℕ) → 3 ≤ length bytes → length bytes < 3 + big_number 2 (drop 1 bytes) → tlvs_of bytes ≡ None
cut_beyond [] some h = absurd (omega (arith, some))
cut_beyond (kind ∷ bytes) some h = beyond_cons kind bytes (omega (arith, some)) (omega (arith, h))

-- The loop over the TLVs. -----------------------------------------------------------------------------------------------

-- the value of the only TLV of a type, where this one was found before
abbrev pub joined : Option (List ℕ) → List Tlv → Result (Option (List ℕ)) ProxyFault
joined None ts = single ts
joined (Some v) [] = Ok (Some v)
joined (Some v) (t ∷ ts) = Err Malformed

abbrev pub pending : ℕ → Option (List ℕ) → Option (List Tlv) → Result (Option (List ℕ)) ProxyFault
pending kind found None = Err Malformed
pending kind found (Some ts) = joined found (values kind ts)

pub nothing_pending : (kind : ℕ) (bytes : List ℕ) → pending kind None (tlvs_of bytes) ≡ only kind bytes
unfolding only
nothing_pending kind bytes = refl

-- once all of them were passed, it is the one that was found
pub ended : (kind : ℕ) (found : Option (List ℕ)) (at : ℕ) (bytes : List ℕ) → length bytes ≤ at → pending kind found (tlvs_of (drop at bytes)) ≡ Ok found
unfolding tlvs_after
ended kind None at bytes h = ap (λ (l : List ℕ). pending kind None (tlvs_of l)) (drop_all at bytes h)
ended kind (Some v) at bytes h = ap (λ (l : List ℕ). pending kind (Some v) (tlvs_of l)) (drop_all at bytes h)

-- one that is cut ends it
pub cut_pending : (kind : ℕ) (found : Option (List ℕ)) (ts : Option (List Tlv)) → ts ≡ None → pending kind found ts ≡ Err Malformed
cut_pending kind found ts is = ap (pending kind found) is

same : (n : ℕ) → eqb n n ≡ true
same n = (Decides-eqb n n).1 refl

differs : (a b : ℕ) → (a ≡ b → ⊥) → eqb a b ≡ false
differs a b n = by (eqb a b) refl
  where
    by : (t : Bool) → eqb a b ≡ t → eqb a b ≡ false
    by true e = absurd (n ((Decides-eqb a b).0 e))
    by false e = e

-- one of the type, where there was one before
twice_before : (kind : ℕ) (v value : List ℕ) (ts : Option (List Tlv)) → pending kind (Some v) (before (tlv kind value) ts) ≡ Err Malformed
twice_before kind v value None = refl
twice_before kind v value (Some ts) = ap (λ (b : Bool). joined (Some v) (if b then tlv kind value ∷ values kind ts else values kind ts)) (same kind)

-- the first of the type
joined_one : (value : List ℕ) (t : Tlv) (ts : List Tlv) → t.value ≡ value → single (t ∷ ts) ≡ joined (Some value) ts
joined_one value t [] is = ap (λ (v : List ℕ). Ok (Some v)) is
joined_one value t (u ∷ us) is = refl

found_before : (kind : ℕ) (value : List ℕ) (ts : Option (List Tlv)) → pending kind None (before (tlv kind value) ts) ≡ pending kind (Some value) ts
found_before kind value None = refl
found_before kind value (Some ts) =
    ap (λ (b : Bool). single (if b then tlv kind value ∷ values kind ts else values kind ts)) (same kind) ∙ joined_one value (tlv kind value) (values kind ts) refl

-- one of another type
passed_before : (kind other : ℕ) (value : List ℕ) (found : Option (List ℕ)) (ts : Option (List Tlv)) → (other ≡ kind → ⊥)
    → pending kind found (before (tlv other value) ts) ≡ pending kind found ts
passed_before kind other value found None n = refl
passed_before kind other value found (Some ts) n =
    ap (λ (b : Bool). joined found (if b then tlv other value ∷ values kind ts else values kind ts)) (differs other kind n)

drop-one : (n c : ℕ) (text : List ℕ) → drop (1 + n) (c ∷ text) ≡ drop n text
drop-one n c text = rw (one-add n) refl

-- The first TLV, as it is read. -----------------------------------------------------------------------------------------

pub cut_at : (bytes : List ℕ) (n : ℕ) → n ≡ big_number 2 (take (length bytes - 1) (drop 1 bytes)) → 3 ≤ length bytes → length bytes < 3 + n → tlvs_of bytes ≡ None
cut_at [] n e some h = absurd (omega (arith, some))
cut_at (kind ∷ rest) n e some h =
    let all : take (length (kind ∷ rest) - 1) rest ≡ rest = take_all (length (kind ∷ rest) - 1) rest (omega arith) in
    let size : n ≡ size_of rest = e ∙ ap (big_number 2) all in
    beyond_cons kind rest (omega (arith, some)) (omega (arith, h, size))

pub first_at : (bytes : List ℕ) (n : ℕ) → n ≡ big_number 2 (take (length bytes - 1) (drop 1 bytes)) → 3 + n ≤ length bytes
    → IsFirst bytes (get_or bytes 0 0) (take (3 + n - 3) (drop 3 bytes))
first_at [] n e h = absurd (omega (arith, h))
first_at (kind ∷ rest) n e h =
    let all : take (length (kind ∷ rest) - 1) rest ≡ rest = take_all (length (kind ∷ rest) - 1) rest (omega arith) in
    let size : n ≡ size_of rest = e ∙ ap (big_number 2) all in
    let same : 3 + n - 3 ≡ size_of rest = omega (arith, size) in
    let value : take (3 + n - 3) (drop 2 rest) ≡ value_of rest = ap (λ (k : ℕ). take k (drop 2 rest)) same in
    let len : length (take (3 + n - 3) (drop 2 rest)) ≡ size_of rest = omega (arith, h, size, length-take (3 + n - 3) (drop 2 rest), length-drop 2 rest) in
    let behind : 3 + length (take (3 + n - 3) (drop 2 rest)) ≡ 1 + (2 + size_of rest) = omega (arith, len) in
    record {
      within = omega (arith, h, size, len);
      whole = one_cons kind rest (omega (arith, h, size))
          ∙ ap (λ (v : List ℕ). before (tlv kind v) (tlvs_of (drop (2 + size_of rest) rest))) (sym value)
          ∙ ap (λ (l : List ℕ). before (tlv kind (take (3 + n - 3) (drop 2 rest))) (tlvs_of l))
          (sym (ap (λ (k : ℕ). drop k (kind ∷ rest)) behind ∙ drop-one (2 + size_of rest) kind rest));
    }
