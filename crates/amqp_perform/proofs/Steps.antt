-- Steps of reading that lemmas speak of.
use Rattle.std.proofs.Common.{◌≡◌, ℕ, List, Option, Some, None, refl, ap}
use Rattle.std.proofs.lemmas.Option.{same_Some}
use Rattle.amqp_types.specs.declared.code.SizeWidth.{SizeWidth}
use Rattle.amqp_types.specs.declared.code.SizeWidth.TheVariants as size
use Rattle.amqp_perform.specs.Cells.{Cell, ◌>>=◌}
use Rattle.amqp_perform.specs.BodyReading.{ListAt, byte_at, word_at, octets_at}

-- as many bytes as a size says that was read in front of them
abbrev pub behind_size : Option (ℕ × List ℕ) → Option (List ℕ × List ℕ)
behind_size size = size >>= λ n. octets_at n.0 n.1

-- a cell with the bytes behind it
abbrev pub with_rest : List ℕ → Cell → Option (Cell × List ℕ)
with_rest rest c = Some (c, rest)

-- and with the items left
abbrev pub with_left : ℕ → Cell × List ℕ → Option (Cell × ℕ × List ℕ)
with_left left x = Some (x.0, left, x.1)

-- the count in front of a block's items
abbrev pub count_in : SizeWidth → List ℕ → Option (ℕ × List ℕ)
count_in size.One bytes = byte_at bytes
count_in size.Four bytes = word_at bytes

-- a list by its count and items
abbrev pub list_of : List ℕ → ℕ × List ℕ → Option ListAt
list_of rest count = Some (record { count = count.0; items = count.1; behind = rest })

-- the list that a block is
abbrev pub list_in : SizeWidth → Option (List ℕ × List ℕ) → Option ListAt
list_in s block = block >>= λ x. count_in s x.0 >>= list_of x.1

-- a cell with the items left and the bytes behind it
abbrev pub with_both : ℕ → List ℕ → Cell → Option (Cell × ℕ × List ℕ)
with_both left rest c = Some (c, left, rest)

-- One step behind another. --------------------------------------------------------------------------------------------

-- where a step of reading gives something the one before did
pub bind_some : {A B : Type 0} (o : Option A) (f : A → Option B) (y : B) → (o >>= f) ≡ Some y → (x : A) × (o ≡ Some x) × (f x ≡ Some y)
bind_some (Some x) f y e = (x, refl, e)
bind_some None f y e = absurd cc

-- steps of reading may be joined
pub bind_bind : {A B C : Type 0} (o : Option A) (f : A → Option B) (g : B → Option C) → (o >>= f >>= g) ≡ (o >>= λ x. f x >>= g)
bind_bind None f g = refl
bind_bind (Some x) f g = refl

-- the parts of what was read are the same where it is
pub triple_is : {A B C : Type 0} (a b : A) (x y : B) (p q : C) → ◌≡◌ {A = Option (A × B × C)} (Some (a, x, p)) (Some (b, y, q)) → (a ≡ b) × (x ≡ y) × (p ≡ q)
triple_is {A = A} {B = B} {C = C} a b x y p q e =
    let same = same_Some (a, x, p) (b, y, q) e in
    (ap (λ (t : A × B × C). t.0) same, ap (λ (t : A × B × C). t.1) same, ap (λ (t : A × B × C). t.2) same)
