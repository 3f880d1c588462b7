-- The keys of a map while it is checked: borrowed if they hold no other values, and all of them by their images.
use Rattle.std.specs.Prelude.{◌≡◌, ℕ, ◌⊎◌, ◌||◌, true, false, List, Some, Ok, Err}
use Rattle.std.specs.Str.{bytes_eq}
use Rattle.amqp_types.specs.declared.fault.ReadFault.{ReadFault}
use Rattle.amqp_types.specs.declared.fault.ReadFault.TheVariants.{NoMemory}
use Rattle.amqp_types.specs.declared.key.Key.{Key}
use Rattle.amqp_types.specs.declared.key.Key.TheVariants as key
use Rattle.amqp_types.specs.Decoding.{is_among}
use Rattle.amqp_types.specs.Images.{image, has_key}
use Rattle.amqp_types.specs.Reading.{Part}
use Rattle.amqp_types.specs.Trees.{Tree, Number, Octets, Trees}

-- the value that a key is
abbrev pub tree_of_key : Key → Tree
tree_of_key (key.Number k n) = Number k n
tree_of_key (key.Octets k octets) = Octets k octets.now

-- the image of a key
abbrev pub key_image : Key → List ℕ
key_image k = image (tree_of_key k)

-- the new images are the old ones with one more
abbrev pub IsWith : List ℕ → List (List ℕ) → List (List ℕ) → Type 0
IsWith octets old new = (other : List ℕ) → is_among other new ≡ (bytes_eq octets other || is_among other old)

-- the images are exactly those of these keys
abbrev pub AreImagesOf : List (List ℕ) → Trees → Type 0
AreImagesOf images keys = (key : Tree) → is_among (image key) images ≡ has_key key keys

-- a key is read whose image is not among the old ones; the new ones are those with it
abbrev pub Takes : Part Tree → List (List ℕ) → List (List ℕ) → ℕ → List ℕ → Type 0
Takes read old new left rest = (key : Tree) × (read ≡ Ok (key, Some left, rest)) × (is_among (image key) old ≡ false) × IsWith (image key) old new

-- no new key is read: memory was refused, no key is there, or its image is among the old ones
abbrev pub TakesNone : Part Tree → List (List ℕ) → ReadFault → ReadFault → Type 0
TakesNone read old again fault =
    (fault ≡ NoMemory) ⊎ ((read ≡ Err fault) ⊎ ((key : Tree) × (left : ℕ) × (rest : List ℕ) × (read ≡ Ok (key, Some left, rest)) × (is_among (image key) old ≡ true) × (fault ≡ again)))
