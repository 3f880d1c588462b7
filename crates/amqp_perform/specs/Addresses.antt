-- The address of a target. [3.5.4]
use Rattle.std.specs.Prelude.{ℕ, zero, suc, ◌==◌, Bool, false, if◌then◌else◌, List, [], None, Ok, Err, codes}
use Rattle.std.specs.Str.{bytes_eq}
use Rattle.amqp_types.specs.declared.kind.Kind.TheVariants as kind
use Rattle.amqp_types.specs.Reading.{Part, value_of}
use Rattle.amqp_types.specs.Trees.{Tree, Number, Octets, ListOf, Described, Trees, none, more}
use Rattle.amqp_perform.specs.declared.address.Address.{Address}
use Rattle.amqp_perform.specs.declared.address.Address.TheVariants as address
use Rattle.amqp_perform.specs.Outcomes.{null_tree, is_true_tree}

-- What a target says of its node.
pub data Node : Type 0 where
  -- its address, a string
  Named : List ℕ → Node
  -- it has none: the sender asks for a node to be made
  Made : Node
  -- it has none, and asks for none
  Nameless : Node
  -- there is no target
  NoNode : Node
  -- anything else
  OtherNode : Node

abbrev pub node_of : Address → Node
node_of (address.Name name) = Named name.now
node_of address.Dynamic = Made
node_of address.Absent = Nameless
node_of address.NoTarget = NoNode
node_of address.Other = OtherNode

-- a value that describes a target
abbrev pub describes_target : Tree → Bool
describes_target (Number kind.Ulong n) = n == 0x29
describes_target (Octets kind.Symbol octets) = bytes_eq octets (codes "amqp:target:list")
describes_target _ = false

-- the field at this place; one after the last item is a null [1.4]
abbrev pub field_in : ℕ → Trees → Tree
field_in n none = null_tree
field_in zero (more t ts) = t
field_in (suc n) (more t ts) = field_in n ts

-- by the field address, and whether the field dynamic is true
abbrev pub node_by : Tree → Bool → Node
node_by (Octets kind.String name) dynamic = Named name
node_by (Number kind.Null n) dynamic = if dynamic then Made else Nameless
node_by _ dynamic = OtherNode

-- The fields of a target are address, durable, expiry-policy, timeout, dynamic, dynamic-node-properties and capabilities. [3.5.4]
abbrev pub node_in_fields : Trees → Node
node_in_fields ts = node_by (field_in 0 ts) (is_true_tree (field_in 4 ts))

abbrev pub node_in_list : Tree → Node
node_in_list (ListOf ts) = node_in_fields ts
node_in_list _ = OtherNode

abbrev pub node_in : Tree → Node
node_in (Number kind.Null n) = NoNode
node_in (Described d t) = if describes_target d then node_in_list t else OtherNode
node_in _ = OtherNode

abbrev pub node_read : Part Tree → Node
node_read (Ok x) = node_in x.0
node_read (Err e) = OtherNode

-- what bytes say that begin with a target, within 30 levels; none are no target
abbrev pub target_node : List ℕ → Node
target_node [] = NoNode
target_node bytes = node_read (value_of 30 None bytes)
