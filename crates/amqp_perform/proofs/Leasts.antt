-- A uint of at least a number, and any uint.
use Rattle.std.proofs.Common.{◌≡◌, ℕ, zero, suc, List, Option, Some, None, refl, ap, ◌∙◌, arith}
use Rattle.std.proofs.Math.Dec.{leb}
use Rattle.std.proofs.lemmas.Bool.{le-leb}
use Rattle.amqp_types.specs.declared.kind.Kind.TheVariants as kind
use Rattle.amqp_types.specs.Trees.{Tree, Number, Octets, ListOf, MapOf, ArrayOf, Described}
use Rattle.amqp_perform.specs.Cells.{Cell, Whole, ◌>>=◌, where_so, typed_cell}
use Rattle.amqp_perform.specs.Items.{Item}
use Rattle.amqp_perform.specs.BodyReading.{item_at, typed_at}
use Rattle.amqp_perform.specs.Tables.{uint, uint_from}
use Rattle.amqp_perform.proofs.Steps.{with_both}

-- a number, where it is not below the least
abbrev pub at_least : ℕ → Cell → Option Cell
at_least least (Whole n) = where_so (leb least n) (Whole n)
at_least least c = Some c

least_number : (least n : ℕ) → where_so (leb least n) (Whole n) ≡ (where_so (leb 0 n) (Whole n) >>= at_least least)
least_number least n = rw (le-leb 0 n (omega arith)) refl

least_cell : (least : ℕ) (t : Tree) (text : List ℕ)
    → typed_cell (uint_from least) (record { tree = t; text = text }) ≡ (typed_cell uint (record { tree = t; text = text }) >>= at_least least)
least_cell least (Number kind.Uint n) text = least_number least n
least_cell least (Number kind.Null n) text = refl
least_cell least (Number k n) text = refl
least_cell least (Octets k octets) text = refl
least_cell least (ListOf ts) text = refl
least_cell least (MapOf ps) text = refl
least_cell least (ArrayOf ds k ts) text = refl
least_cell least (Described d t) text = refl

-- a cell with the items left
abbrev pub keep : Cell × ℕ × List ℕ → Cell → Option (Cell × ℕ × List ℕ)
keep x c = Some (c, x.1, x.2)

-- what is read of a number that is at least this
abbrev pub from_least : ℕ → Option (Cell × ℕ × List ℕ) → Option (Cell × ℕ × List ℕ)
from_least least read = read >>= λ x. at_least least x.0 >>= keep x

regrouped : (least left : ℕ) (rest : List ℕ) (o : Option Cell) → (o >>= at_least least >>= with_both left rest) ≡ from_least least (o >>= with_both left rest)
regrouped least left rest None = refl
regrouped least left rest (Some c) = refl

least_read : (least left : ℕ) (read : Option (Item × List ℕ))
    → (read >>= λ x. typed_cell (uint_from least) x.0 >>= with_both left x.1) ≡ from_least least (read >>= λ x. typed_cell uint x.0 >>= with_both left x.1)
least_read least left None = refl
least_read least left (Some x) = ap (λ (o : Option Cell). o >>= with_both left x.1) (least_cell least x.0.tree x.0.text) ∙ regrouped least left x.1 (typed_cell uint x.0)

-- a frame's largest size
pub frame_size_is : (left : ℕ) (bytes : List ℕ) → typed_at (uint_from 512) left bytes ≡ from_least 512 (typed_at uint left bytes)
unfolding typed_at
frame_size_is zero bytes = refl
frame_size_is (suc left) bytes = least_read 512 left (item_at bytes)
