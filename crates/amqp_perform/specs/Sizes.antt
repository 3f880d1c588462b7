-- What follows a constructor's code: data of its width, or a size and the data that it counts.
-- [1.2]
use Rattle.std.specs.Prelude.{ℕ, List, Option}
use Rattle.amqp_types.specs.declared.code.Constructor.{Constructor}
use Rattle.amqp_types.specs.declared.code.Constructor.TheVariants.{Variable, EmptyList, ListIn, MapIn, ArrayIn}
use Rattle.amqp_types.specs.declared.code.Constructor.TheVariants as code
use Rattle.amqp_types.specs.declared.code.SizeWidth.{SizeWidth}
use Rattle.amqp_types.specs.declared.code.SizeWidth.TheVariants as size
use Rattle.amqp_types.specs.Kinds.{width}
use Rattle.amqp_types.specs.Spelling.{form_len}
use Rattle.amqp_perform.specs.BodyReading.{octets_at, short_at, long_at}
use Rattle.amqp_perform.specs.declared.sizes.Data.{Data}
use Rattle.amqp_perform.specs.declared.sizes.Data.TheVariants.{Fixed, Short, Long}

-- the data with a size of this width
abbrev pub sized_data : SizeWidth → Data
sized_data size.One = Short
sized_data size.Four = Long

abbrev pub data_of : Constructor → Data
data_of (code.Fixed k f) = Fixed (form_len f (width k))
data_of (Variable k s) = sized_data s
data_of EmptyList = Fixed 0
data_of (ListIn s) = sized_data s
data_of (MapIn s) = sized_data s
data_of (ArrayIn s) = sized_data s

-- the data at the front, and what follows them
abbrev pub data_at : Data → List ℕ → Option (List ℕ × List ℕ)
data_at (Fixed n) bytes = octets_at n bytes
data_at Short bytes = short_at bytes
data_at Long bytes = long_at bytes
