-- Reading to find only where a value ends.
use Rattle.std.specs.Prelude.{◌≡◌, ℕ, ◌+◌, ◌≤◌, Bool, true, false, not, ◌&&◌, ◌==◌, if◌then◌else◌, List, length, take, drop, Option, Some, None, Result, Ok}
use Rattle.byteorder.specs.Endian.{big_number}
use Rattle.amqp_types.specs.declared.code.Constructor.{Constructor}
use Rattle.amqp_types.specs.declared.code.Constructor.TheVariants.{Fixed, EmptyList}
use Rattle.amqp_types.specs.declared.code.SizeWidth.{SizeWidth}
use Rattle.amqp_types.specs.Kinds.{width, is_partial, is_container}
use Rattle.amqp_types.specs.Spelling.{form_len, size_len}
use Rattle.amqp_types.specs.declared.fault.ReadFault.{ReadFault}
use Rattle.amqp_types.specs.InHand.{Budget}
use Rattle.amqp_types.specs.Reading.{Read, Part, Head, ◌>>=◌}

-- what is left after a part that holds no others
abbrev pub rest_of : {A : Type 0} → Read A → Result (List ℕ) ReadFault
rest_of read = read >>= λ x. Ok x.1

-- an array's element constructor, and what is left after it
abbrev pub constructor_after : Part Head → Read Constructor
constructor_after read = read >>= λ x. Ok (x.0.constructor, x.2)

-- whether a constructor has no data
abbrev pub is_still : Constructor → Bool
is_still (Fixed k f) = form_len f (width k) == 0
is_still EmptyList = true
is_still _ = false

-- how many bytes come after a code, if all its values have as many and any bytes are valid
abbrev pub plain_width : Option Constructor → Option ℕ
plain_width (Some (Fixed k f)) = if is_container k then None else if is_partial k && not (is_still (Fixed k f)) then None else Some (form_len f (width k))
plain_width _ = None

-- the bytes that a size at the front counts
abbrev pub counted : SizeWidth → List ℕ → List ℕ
counted s bytes = take (big_number (size_len s) bytes) (drop (size_len s) bytes)

-- a size is at the front; the bytes that it counts are a count and the parts after it
pub record IsBody (s : SizeWidth) (bytes : List ℕ) (count : ℕ) (parts : List ℕ) : Type 0 where
  pub within : size_len s + big_number (size_len s) bytes ≤ length bytes
  pub least : size_len s ≤ big_number (size_len s) bytes
  pub counts : count ≡ big_number (size_len s) (counted s bytes)
  pub behind : parts ≡ drop (size_len s) (counted s bytes)

-- a part is read, and this many nodes and these bytes are left
abbrev pub Leaves : {A : Type 0} → Part A → ℕ → List ℕ → Type 0
Leaves {A = A} read left rest = (x : A) × (read ≡ Ok (x, Some left, rest))

-- the nodes and the bytes left, if the value itself is of no interest
abbrev pub passed : {A : Type 0} → Part A → Read Budget
passed read = read >>= λ x. Ok (x.1, x.2)

-- an array's element constructor, with the nodes and the bytes that are left after it
abbrev pub constructor_passed : Part Head → Part Constructor
constructor_passed read = read >>= λ x. Ok (x.0.constructor, x.1, x.2)
