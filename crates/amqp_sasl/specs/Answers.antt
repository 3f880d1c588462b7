-- What is written for the peer. [5.3.3]
use Rattle.std.specs.Prelude.{ℕ, Bool, if◌then◌else◌, List, [], codes}
use Rattle.amqp_types.specs.declared.kind.Kind.TheVariants as kind
use Rattle.amqp_types.specs.Canonical.{canonical}
use Rattle.amqp_types.specs.Trees.{Tree, Number, Octets, ListOf, ArrayOf, Described, Trees, none, more}
use Rattle.amqp_sasl.specs.declared.offer.Offer.{Offer}
use Rattle.amqp_sasl.specs.Frames.{framed}

abbrev pub symbol : List ℕ → Tree
symbol name = Octets kind.Symbol name

-- a list of fields, described by a number
abbrev pub composite : ℕ → Trees → Tree
composite code fields = Described (Number kind.Ulong code) (ListOf fields)

abbrev pub named : Bool → List ℕ → Trees → Trees
named offered name others = if offered then more (symbol name) others else others

-- the names of what is offered
abbrev pub mechanisms_of : Offer → Trees
mechanisms_of offer =
    named offer.anonymous (codes "ANONYMOUS") (named offer.plain (codes "PLAIN") (named offer.external (codes "EXTERNAL") none))

-- the frame of a `sasl-mechanisms`, whose one field is an array of symbols [5.3.3.1]
unfoldable pub mechanisms_frame : Offer → List ℕ
mechanisms_frame offer = framed (canonical (composite 0x40 (more (ArrayOf none kind.Symbol (mechanisms_of offer)) none)))

-- the frame of a `sasl-challenge` that says nothing: its one field is a binary [5.3.3.3]
unfoldable pub challenge_frame : List ℕ
challenge_frame = framed (canonical (composite 0x42 (more (Octets kind.Binary []) none)))

-- the frame of a `sasl-outcome`, whose first field is a ubyte: 0 is ok, 1 is auth [5.3.3.6, 5.3.4]
unfoldable pub outcome_frame : ℕ → List ℕ
outcome_frame code = framed (canonical (composite 0x44 (more (Number kind.Ubyte code) none)))
