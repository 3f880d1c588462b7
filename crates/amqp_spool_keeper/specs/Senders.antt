-- Who sent a record, by the endpoint that it came to.
use Rattle.std.specs.Prelude.{ℕ, List, [], Option, Some, None}
use Rattle.amqp_endpoint.specs.Steps.{EndpointState}
use Rattle.amqp_endpoint.specs.Takings.{link_at}
use Rattle.amqp_endpoint.specs.declared.introduction.Introduction.{Introduction}
use Rattle.amqp_perform.specs.Addresses.{Node, Named, Made, Nameless, NoNode, OtherNode, target_node}
use Rattle.amqp_session.specs.declared.slot.Slot.{Slot}
use Rattle.amqp_session.specs.declared.slot.Slot.TheVariants.{Live}
use Rattle.amqp_session.specs.Sessions.{LiveLink}
use Rattle.amqp_hub.specs.declared.keeper.Origin.{Origin}
use Rattle.amqp_spool.specs.Entries.{Introduced}

-- what the target is: 0 an address, 1 dynamic, 2 none, 3 anything else
abbrev pub kind_of : Node → ℕ
kind_of (Named name) = 0
kind_of Made = 1
kind_of Nameless = 2
kind_of NoNode = 2
kind_of OtherNode = 3

-- the address, or the target itself, as its attach spells it, if it is anything else
abbrev pub target_by : Node → List ℕ → List ℕ
target_by (Named name) target = name
target_by OtherNode target = target
target_by _ target = []

-- the container-id of the peer
abbrev pub container_of : Option Introduction → List ℕ
container_of (Some i) = i.container_id
container_of None = []

-- who sends on a link, of a connection of this number that came from there
abbrev pub sender_on : Slot LiveLink → ℕ → List ℕ → Option Introduction → Introduced
sender_on (Live l) number from peer =
    record { link = 0; connection = number; peer = from; container = container_of peer; name = l.name; user = []; kind = kind_of (target_node l.target); target = target_by (target_node l.target) l.target }
sender_on _ number from peer = record { link = 0; connection = number; peer = from; container = container_of peer; name = []; user = []; kind = 2; target = [] }

-- who sent a record of this origin
abbrev pub sender_of : Origin → List ℕ → EndpointState → Introduced
sender_of origin from e = sender_on (link_at e.connection origin.channel origin.handle) origin.number from e.connection.peer
