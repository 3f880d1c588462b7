-- The type of a coordinator, by the outermost case of its value.
use Rattle.std.proofs.Common.{◌≡◌, ℕ, false, List, refl, ap, ◌∙◌, Ok, Err}
use Rattle.amqp_types.specs.declared.fault.ReadFault.{ReadFault}
use Rattle.amqp_types.specs.declared.kind.Kind.{Kind}
use Rattle.amqp_types.specs.declared.kind.Kind.TheVariants as kind
use Rattle.amqp_types.specs.declared.peeked.Peek.{Peek}
use Rattle.amqp_types.specs.declared.peeked.Peek.TheVariants as peek
use Rattle.amqp_types.specs.Peeks.{IsOutermost, IsOther, IsOtherNumber}
use Rattle.amqp_types.specs.Reading.{Part, after}
use Rattle.amqp_types.specs.Trees.{Tree, Number, Octets, ListOf, MapOf, ArrayOf, Described}
use Rattle.amqp_session.specs.Frames.{is_coordinator_type, is_coordinator_in}
use Rattle.amqp_session.specs.Coordinators.{peeks_coordinator}

-- what cannot be read is no coordinator
pub misread : (read : Part Tree) (e : ReadFault) → after read ≡ Err e → false ≡ is_coordinator_in read
misread (Ok x) e same = absurd cc
misread (Err f) e same = refl

by_kind : (k : Kind) (n : ℕ) → is_coordinator_type (Number k n) ≡ peeks_coordinator (peek.Unsigned k n)
by_kind kind.Ulong n = refl
by_kind _ n = refl

other_number : (k : Kind) (n : ℕ) → IsOtherNumber k → is_coordinator_type (Number k n) ≡ false
other_number kind.Ulong n is = absurd is
other_number _ n is = refl

other : (t : Tree) → IsOther t → is_coordinator_type t ≡ false
other (Number k n) is = other_number k n is
other (Octets k octets) is = absurd is
other (ListOf ts) is = absurd is
other (MapOf ps) is = refl
other (ArrayOf ds k ts) is = refl
other (Described d t) is = absurd is

-- the outermost case of a value shows whether it is one
pub peeked : (t : Tree) (text : List ℕ) (p : Peek) → IsOutermost t text p → is_coordinator_type t ≡ peeks_coordinator p
peeked t text peek.Null is = ap is_coordinator_type is
peeked t text (peek.Boolean b) is = ap is_coordinator_type is
peeked t text (peek.Unsigned k n) is = ap is_coordinator_type is.0 ∙ by_kind k n
peeked t text (peek.String octets) is = ap is_coordinator_type is.0
peeked t text (peek.Symbol octets) is = ap is_coordinator_type is.0
peeked t text (peek.Binary octets) is = ap is_coordinator_type is.0
peeked t text (peek.List count items) is = ap is_coordinator_type is.2
peeked t text (peek.Described first second) is = ap is_coordinator_type is.2
peeked t text peek.Other is = other t is
