-- Descriptors of the lists that this crate reads and writes. [2.7, 2.8.14, 3.4]
use Rattle.std.specs.Prelude.{ℕ, ◌==◌, List, [], ◌∷◌, Option, None, find, codes}
use Rattle.std.specs.Str.{bytes_eq}
use Rattle.amqp_types.specs.declared.kind.Kind.TheVariants as kind
use Rattle.amqp_types.specs.Trees.{Tree, Number, Octets}
use Rattle.amqp_perform.specs.declared.descriptor.Descriptor.{Descriptor}
use Rattle.amqp_perform.specs.declared.descriptor.Descriptor.TheVariants as of_type

-- The number that describes a list of the type: a domain in the upper four bytes, and a number of the domain in the
-- lower four. The domain of the standard's own types is 0, so the whole is below 2 ^ 32; here it is one byte.
abbrev pub code_of : Descriptor → ℕ
code_of of_type.Open = 0x10
code_of of_type.Begin = 0x11
code_of of_type.Attach = 0x12
code_of of_type.Flow = 0x13
code_of of_type.Transfer = 0x14
code_of of_type.Disposition = 0x15
code_of of_type.Detach = 0x16
code_of of_type.End = 0x17
code_of of_type.Close = 0x18
code_of of_type.Error = 0x1d
code_of of_type.Accepted = 0x24
code_of of_type.Rejected = 0x25
code_of of_type.Released = 0x26
code_of of_type.Modified = 0x27

-- the symbol that describes it
abbrev pub symbol_of : Descriptor → List ℕ
symbol_of of_type.Open = codes "amqp:open:list"
symbol_of of_type.Begin = codes "amqp:begin:list"
symbol_of of_type.Attach = codes "amqp:attach:list"
symbol_of of_type.Flow = codes "amqp:flow:list"
symbol_of of_type.Transfer = codes "amqp:transfer:list"
symbol_of of_type.Disposition = codes "amqp:disposition:list"
symbol_of of_type.Detach = codes "amqp:detach:list"
symbol_of of_type.End = codes "amqp:end:list"
symbol_of of_type.Close = codes "amqp:close:list"
symbol_of of_type.Error = codes "amqp:error:list"
symbol_of of_type.Accepted = codes "amqp:accepted:list"
symbol_of of_type.Rejected = codes "amqp:rejected:list"
symbol_of of_type.Released = codes "amqp:released:list"
symbol_of of_type.Modified = codes "amqp:modified:list"

abbrev pub all_descriptors : List Descriptor
all_descriptors =
    of_type.Open ∷ of_type.Begin ∷ of_type.Attach ∷ of_type.Flow ∷ of_type.Transfer ∷ of_type.Disposition ∷ of_type.Detach ∷ of_type.End ∷ of_type.Close
    ∷ of_type.Error ∷ of_type.Accepted ∷ of_type.Rejected ∷ of_type.Released ∷ of_type.Modified ∷ []

-- the type that a number describes, and that a symbol describes
unfoldable pub by_code : ℕ → Option Descriptor
by_code code = find (λ d. code_of d == code) all_descriptors

unfoldable pub by_symbol : List ℕ → Option Descriptor
by_symbol symbol = find (λ d. bytes_eq (symbol_of d) symbol) all_descriptors

-- the type that a value describes: a ulong or a symbol [1.3]
abbrev pub described_by : Tree → Option Descriptor
described_by (Number kind.Ulong n) = by_code n
described_by (Octets kind.Symbol octets) = by_symbol octets
described_by _ = None
