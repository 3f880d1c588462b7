-- What a `sasl-init` and a `sasl-response` say. [5.3.3.2, 5.3.3.4]
use Rattle.std.specs.Prelude.{◌≡◌, ℕ, nat_lt, if◌then◌else◌, List, Option, Some, None}
use Rattle.std.specs.Option.{option_and_then, option_copied}
use Rattle.amqp_types.specs.Trees.{Tree, Trees, count_of}
use Rattle.amqp_sasl.specs.declared.sasl_init.SaslInit.{SaslInit}
use Rattle.amqp_sasl.specs.declared.sasl_init.TheConstants.{INIT_NAME, RESPONSE_NAME}
use Rattle.amqp_sasl.specs.Composites.{symbol_in, binary_in, text_in, present, first_of, others_of, items_in, items_at}

-- the fields of a `sasl-init` [5.3.3.2]
pub record Fields : Type 0 where
  pub mechanism : List ℕ
  pub response : Option (List ℕ)
  pub hostname : Option (List ℕ)

-- the fields that the items of a list are, if they are those of a `sasl-init`: no more than three, each of its type
abbrev pub fields_in : Trees → Option Fields
fields_in ts =
    if nat_lt 3 (count_of ts) then None else
    option_and_then (λ m. option_and_then (λ r. option_and_then (λ h. Some (record { mechanism = m; response = r; hostname = h }))
    (text_in (first_of (others_of (others_of ts))))) (binary_in (first_of (others_of ts)))) (symbol_in (first_of ts))

abbrev pub init_in : Tree → Option Fields
init_in t = option_and_then fields_in (items_in 0x41 INIT_NAME t)

-- the fields of the `sasl-init` that the body of a frame is, if it is one
unfoldable pub init_at : List ℕ → Option Fields
init_at body = option_and_then fields_in (items_at 0x41 INIT_NAME body)

-- the one field of a `sasl-response`, which has to be there [5.3.3.4]
abbrev pub field_in : Trees → Option (List ℕ)
field_in ts = if nat_lt 1 (count_of ts) then None else present (binary_in (first_of ts))

abbrev pub response_in : Tree → Option (List ℕ)
response_in t = option_and_then field_in (items_in 0x43 RESPONSE_NAME t)

-- what the `sasl-response` says that the body of a frame is, if it is one
unfoldable pub response_at : List ℕ → Option (List ℕ)
response_at body = option_and_then field_in (items_at 0x43 RESPONSE_NAME body)

-- a `sasl-init` in memory, apart from where it lies
abbrev pub fields_of : SaslInit → Fields
fields_of x = record { mechanism = x.mechanism.now; response = option_copied x.response; hostname = option_copied x.hostname }

-- what a call returns is what reading gives
abbrev pub Reads : Option SaslInit → Option Fields → Type 0
Reads None read = read ≡ None
Reads (Some x) read = read ≡ Some (fields_of x)
