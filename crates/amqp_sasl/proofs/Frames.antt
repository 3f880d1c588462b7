-- How far a frame has come, with more bytes behind it.
use Rattle.std.specs.Prelude.{nat_lt, if◌then◌else◌}
use Rattle.std.proofs.Common.{◌≡◌, ℕ, ◌*◌, ◌<◌, ◌≤◌, ◌⊎◌, Bool, true, false, not, eqb, ◌&&◌, ◌||◌, List, [], ◌∷◌, ◌++◌, length, take, inl, inr, refl, sym, ap, ◌∙◌, arith}
use Rattle.std.specs.Str.{bytes_eq}
use Rattle.std.proofs.lemmas.Bool.{cases_lt, lt-ltb, le-ltb}
use Rattle.std.proofs.lemmas.Bool.Decides.{nat_tests}
use Rattle.std.proofs.lemmas.List.{length-append, get_or_append_left, take-append-le}
use Rattle.byteorder.specs.Numbers.{big_from-append}
use Rattle.amqp_frame.specs.Units.{size_of, offset_of, type_of}
use Rattle.amqp_sasl.specs.declared.frame.Progress.{Progress}
use Rattle.amqp_sasl.specs.declared.frame.Progress.TheVariants.{Short, Bad, Whole}
use Rattle.amqp_sasl.specs.declared.header.Opening.{Opening}
use Rattle.amqp_sasl.specs.declared.header.Opening.TheVariants as opening
use Rattle.amqp_sasl.specs.declared.header.Opening.TheVariants.{Secured, Bare, Other}
use Rattle.amqp_sasl.specs.declared.header.TheConstants.{SASL_HEADER, BARE_START}
use Rattle.amqp_sasl.specs.declared.offer.Offer.{Offer}
use Rattle.amqp_sasl.specs.Frames.{opening_of, progress_of}

-- how far a frame has come of which n bytes are there, with this SIZE, DOFF and TYPE, and for which there is this room
abbrev pub judged : ℕ → ℕ → ℕ → ℕ → ℕ → Progress
judged room n size offset type =
    if nat_lt n 4 then Short
    else if nat_lt size 8 || nat_lt room size then Bad
    else if nat_lt n 8 then Short
    else if nat_lt offset 2 || nat_lt size (4 * offset) || not (eqb type 1) then Bad
    else if nat_lt n size then Short
    else Whole

pub judged_is : (room : ℕ) (bytes : List ℕ) → progress_of room bytes ≡ judged room (length bytes) (size_of bytes) (offset_of bytes) (type_of bytes)
unfolding progress_of
judged_is room bytes = refl

size-append : (xs ys : List ℕ) → 4 ≤ length xs → size_of (xs ++ ys) ≡ size_of xs
unfolding size_of
size-append xs ys h = big_from-append 4 xs ys h

offset-append : (xs ys : List ℕ) → 8 ≤ length xs → offset_of (xs ++ ys) ≡ offset_of xs
offset-append xs ys h = get_or_append_left xs ys 0 4 (omega arith)

type-append : (xs ys : List ℕ) → 8 ≤ length xs → type_of (xs ++ ys) ≡ type_of xs
type-append xs ys h = get_or_append_left xs ys 0 5 (omega arith)

short_is : (room n size offset type : ℕ) → judged room n size offset type ≡ Short → (n < 8) ⊎ ((8 ≤ n) × (n < size) × (size ≤ room))
short_is room n size offset type h = grind (arith, nat_tests)

whole_is : (room n size offset type : ℕ) → judged room n size offset type ≡ Whole → (8 ≤ n) × (size ≤ n) × (8 ≤ size)
whole_is room n size offset type h = grind (arith, nat_tests)

whole_more : (room n m size offset type : ℕ) → judged room n size offset type ≡ Whole → n ≤ m → judged room m size offset type ≡ Whole
whole_more room n m size offset type h le = grind (arith, nat_tests)

bad_more : (room n m size offset type : ℕ) → judged room n size offset type ≡ Bad → n ≤ m → judged room m size offset type ≡ Bad
bad_more room n m size offset type h le = grind (arith, nat_tests)

bad_early : (room n m size offset type other some : ℕ) → judged room n size offset type ≡ Bad → n < 8 → n ≤ m → judged room m size other some ≡ Bad
bad_early room n m size offset type other some h early le = grind (arith, nat_tests)

bad_late : (room n size offset type : ℕ) → judged room n size offset type ≡ Bad → 4 ≤ n
bad_late room n size offset type h = grind (arith, nat_tests)

-- less than a frame is less than the largest one
pub short-below : (room : ℕ) (bytes : List ℕ) → progress_of room bytes ≡ Short → 8 ≤ room → length bytes < room
short-below room bytes h least =
    elim (short_is room (length bytes) (size_of bytes) (offset_of bytes) (type_of bytes) (sym (judged_is room bytes) ∙ h))
    [ inl early ↦ omega arith | inr late ↦ omega arith ]

-- a whole frame stays one
pub whole-append : (room : ℕ) (bytes more : List ℕ) → progress_of room bytes ≡ Whole → progress_of room (bytes ++ more) ≡ Whole
whole-append room bytes more h =
    let is = sym (judged_is room bytes) ∙ h in
    let w = whole_is room (length bytes) (size_of bytes) (offset_of bytes) (type_of bytes) is in
    judged_is room (bytes ++ more)
    ∙ rw (size-append bytes more (omega arith), offset-append bytes more w.0, type-append bytes more w.0)
    (whole_more room (length bytes) (length (bytes ++ more)) (size_of bytes) (offset_of bytes) (type_of bytes) is (omega (arith, length-append bytes more)))

-- its size too
pub whole_size-append : (room : ℕ) (bytes more : List ℕ) → progress_of room bytes ≡ Whole → size_of (bytes ++ more) ≡ size_of bytes
whole_size-append room bytes more h =
    let w = whole_is room (length bytes) (size_of bytes) (offset_of bytes) (type_of bytes) (sym (judged_is room bytes) ∙ h) in
    size-append bytes more (omega arith)

-- what is no frame stays none
pub bad-append : (room : ℕ) (bytes more : List ℕ) → progress_of room bytes ≡ Bad → progress_of room (bytes ++ more) ≡ Bad
bad-append room bytes more h =
    let is = sym (judged_is room bytes) ∙ h in
    let four = bad_late room (length bytes) (size_of bytes) (offset_of bytes) (type_of bytes) is in
    let longer : length bytes ≤ length (bytes ++ more) = omega (arith, length-append bytes more) in
    judged_is room (bytes ++ more)
    ∙ rw (size-append bytes more four)
    (elim (cases_lt (length bytes) 8) [
      | inl early ↦ bad_early room (length bytes) (length (bytes ++ more)) (size_of bytes) (offset_of bytes) (type_of bytes) (offset_of (bytes ++ more)) (type_of (bytes ++ more)) is early longer
      | inr late ↦ rw (offset-append bytes more late, type-append bytes more late)
          (bad_more room (length bytes) (length (bytes ++ more)) (size_of bytes) (offset_of bytes) (type_of bytes) is longer)
    ])

-- a frame is whole once its last byte has come
pub whole_once : (room : ℕ) (bytes : List ℕ) (b : ℕ) → progress_of room bytes ≡ Short → progress_of room (bytes ++ b ∷ []) ≡ Whole → length (bytes ++ b ∷ []) ≡ size_of (bytes ++ b ∷ [])
whole_once room bytes b short whole =
    let longer = length-append bytes (b ∷ []) in
    let w = whole_is room (length (bytes ++ b ∷ [])) (size_of (bytes ++ b ∷ [])) (offset_of (bytes ++ b ∷ [])) (type_of (bytes ++ b ∷ [])) (sym (judged_is room (bytes ++ b ∷ [])) ∙ whole) in
    elim (short_is room (length bytes) (size_of bytes) (offset_of bytes) (type_of bytes) (sym (judged_is room bytes) ∙ short)) [
      | inl early ↦ omega arith
      | inr late ↦ (let same = size-append bytes (b ∷ []) (omega arith) in omega arith)
    ]

-- Headers. --------------------------------------------------------------------------------------------------------------

abbrev pub opened : Bool → Bool → Bool → Opening
opened short secured bare = if short then opening.Short else if secured then Secured else if bare then Bare else Other

pub opened_is : (offer : Offer) (bytes : List ℕ)
    → opening_of offer bytes ≡ opened (nat_lt (length bytes) 8) (bytes_eq (take 8 bytes) SASL_HEADER) (offer.optional && bytes_eq (take 5 bytes) BARE_START)
unfolding opening_of
opened_is offer bytes = refl

-- less than eight bytes are no header yet
pub opening_early : (offer : Offer) (bytes : List ℕ) → length bytes < 8 → opening_of offer bytes ≡ opening.Short
opening_early offer bytes h = opened_is offer bytes ∙ ap (λ b. opened b (bytes_eq (take 8 bytes) SASL_HEADER) (offer.optional && bytes_eq (take 5 bytes) BARE_START)) (lt-ltb (length bytes) 8 h)

not_short : (secured bare : Bool) → opened false secured bare ≡ opening.Short → ⊥
not_short true bare h = cc
not_short false true h = cc
not_short false false h = cc

-- only less than eight bytes are no header yet
pub opening_short : (offer : Offer) (bytes : List ℕ) → opening_of offer bytes ≡ opening.Short → length bytes < 8
opening_short offer bytes h =
    elim (cases_lt (length bytes) 8) [
      | inl early ↦ early
      | inr late ↦ absurd (not_short (bytes_eq (take 8 bytes) SASL_HEADER) (offer.optional && bytes_eq (take 5 bytes) BARE_START)
          (ap (λ b. opened b (bytes_eq (take 8 bytes) SASL_HEADER) (offer.optional && bytes_eq (take 5 bytes) BARE_START)) (sym (le-ltb (length bytes) 8 late)) ∙ sym (opened_is offer bytes) ∙ h))
    ]

-- no byte of a frame is less than a frame
pub nothing_short : (room : ℕ) → progress_of room [] ≡ Short
unfolding progress_of
nothing_short room = refl

-- a header has eight bytes
pub opening_late : (offer : Offer) (bytes : List ℕ) → (opening_of offer bytes ≡ opening.Short → ⊥) → 8 ≤ length bytes
opening_late offer bytes h = elim (cases_lt (length bytes) 8) [ inl early ↦ absurd (h (opening_early offer bytes early)) | inr late ↦ late ]

-- whatever follows a header, it is what it is
pub opening-append : (offer : Offer) (bytes more : List ℕ) → 8 ≤ length bytes → opening_of offer (bytes ++ more) ≡ opening_of offer bytes
opening-append offer bytes more h =
    let longer = length-append bytes more in
    let a = le-ltb (length (bytes ++ more)) 8 (omega arith) ∙ sym (le-ltb (length bytes) 8 h) in
    let eight = take-append-le 8 bytes more h in
    let five = take-append-le 5 bytes more (omega arith) in
    opened_is offer (bytes ++ more)
    ∙ ap (λ (b : Bool). opened b (bytes_eq (take 8 (bytes ++ more)) SASL_HEADER) (offer.optional && bytes_eq (take 5 (bytes ++ more)) BARE_START)) a
    ∙ ap (λ (x : List ℕ). opened (nat_lt (length bytes) 8) (bytes_eq x SASL_HEADER) (offer.optional && bytes_eq (take 5 (bytes ++ more)) BARE_START)) eight
    ∙ ap (λ (x : List ℕ). opened (nat_lt (length bytes) 8) (bytes_eq (take 8 bytes) SASL_HEADER) (offer.optional && bytes_eq x BARE_START)) five
    ∙ sym (opened_is offer bytes)

-- a frame with a DOFF of 2 and TYPE 1 is whole once as many bytes are there as SIZE says
pub whole_from : (room n size : ℕ) → 8 ≤ size → size ≤ room → size ≤ n → judged room n size 2 1 ≡ Whole
whole_from room n size a b c = grind (arith, nat_tests)
