-- The items of a list, each with the bytes that spell it. [1.4, 1.6.22]
use Rattle.std.specs.Prelude.{◌≡◌, ℕ, ◌⊎◌, List, [], ◌∷◌, ◌++◌, length, Some}
use Rattle.std.specs.List.{flat_map}
use Rattle.amqp_types.specs.declared.code.SizeWidth.{SizeWidth}
use Rattle.amqp_types.specs.declared.code.Constructor.TheVariants.{EmptyList, ListIn}
use Rattle.amqp_types.specs.Codes.{find_code}
use Rattle.amqp_types.specs.Spelling.{Spells, SpellsBlock}
use Rattle.amqp_types.specs.Trees.{Tree, Trees, none, more}
use Rattle.amqp_perform.specs.declared.descriptor.Descriptor.{Descriptor}
use Rattle.amqp_perform.specs.Descriptors.{described_by}

-- a value, and the bytes that spell it
pub record Item : Type 0 where
  pub tree : Tree
  pub text : List ℕ

abbrev pub trees_of : List Item → Trees
trees_of [] = none
trees_of (x ∷ xs) = more x.tree (trees_of xs)

abbrev pub text_of : List Item → List ℕ
text_of xs = flat_map (λ (x : Item). x.text) xs

abbrev pub AreSpelled : List Item → Type 0
AreSpelled [] = Unit {0}
AreSpelled (x ∷ xs) = Spells x.tree x.text × AreSpelled xs

-- the bytes spell the list of these items [1.6.22]
abbrev pub SpellsList : List Item → List ℕ → Type 0
SpellsList xs bytes =
    ((code : ℕ) × (find_code code ≡ Some EmptyList) × (bytes ≡ code ∷ []) × (xs ≡ []))
    ⊎ ((code : ℕ) × (s : SizeWidth) × (text : List ℕ) × (find_code code ≡ Some (ListIn s)) × (bytes ≡ code ∷ text)
    × SpellsBlock s (length xs) (text_of xs) text × AreSpelled xs)

-- the bytes spell the list of these items, described as a list of the type [1.2, 1.3]
abbrev pub SpellsDescribed : Descriptor → List Item → List ℕ → Type 0
SpellsDescribed d xs bytes =
    (t : Tree) × (first second : List ℕ) × (bytes ≡ 0 ∷ (first ++ second)) × Spells t first × (described_by t ≡ Some d) × SpellsList xs second
