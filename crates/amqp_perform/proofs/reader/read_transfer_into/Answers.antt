use Rattle.std.proofs.Common.{◌≡◌, ◌==◌, ◌&&◌, true, List, ℕ, length, Option, Some, None, refl, sym, ap, subst, ◌∙◌, arith}
use Rattle.std.specs.Prelude.{◌≢◌}
use Rattle.amqp_types.proofs.Octets.{IsBytes}
use Rattle.amqp_perform.specs.declared.descriptor.Descriptor.{Descriptor}
use Rattle.amqp_perform.specs.declared.descriptor.Descriptor.TheVariants as of_type
use Rattle.amqp_perform.specs.Cells.{Cell, ◌>>=◌}
use Rattle.amqp_perform.specs.Performatives.{transfer_cells}
use Rattle.amqp_perform.specs.Tables.{transfer_fields}
use Rattle.amqp_perform.specs.BodyReading.{ListAt, fields_at, described_at, performative_at, body_at, IsOfOther}
use Rattle.amqp_perform.proofs.BodyLaws.{payload_behind}
use Rattle.amqp_perform.proofs.reader.read_transfer_into.Goals as goal

-- a body that another type describes
by_fields : (d : Descriptor) (behind : List ℕ) (o : Option (List Cell)) → d ≢ of_type.Transfer → IsOfOther of_type.Transfer (o >>= λ cells. Some (d, cells, behind))
by_fields d behind None other = tt
by_fields d behind (Some cells) other = other

described_other : (bytes : List ℕ) (d : Descriptor) (list : ListAt) → described_at bytes ≡ Some (d, list) → d ≢ of_type.Transfer → IsOfOther of_type.Transfer (body_at bytes)
unfolding body_at
described_other bytes d list is other =
    subst (λ (o : Option (Descriptor × ListAt)). IsOfOther of_type.Transfer (o >>= λ list. performative_at list.0 list.1.count list.1.items >>= λ cells. Some (list.0, cells, list.1.behind)))
    (sym is) (by_fields d list.behind (performative_at d list.count list.items) other)

-- fields that are all of the items are those of a transfer
all_read : (count left : ℕ) (items behind : List ℕ) (cells : List Cell) → fields_at transfer_fields count items ≡ Some (cells, left, behind) → (left == 0 && (length behind == 0)) ≡ true
    → performative_at of_type.Transfer count items ≡ Some cells
unfolding performative_at
all_read count left items behind cells is ended = rw (is, ended) refl

-- and the body of such a list
read_so : (bytes : List ℕ) (list : ListAt) (cells : List Cell) → described_at bytes ≡ Some (of_type.Transfer, list) → performative_at of_type.Transfer list.count list.items ≡ Some cells
    → body_at bytes ≡ Some (of_type.Transfer, cells, list.behind)
unfolding body_at
read_so bytes list cells is reads = rw (is, reads) refl

pub returns-in_default : goal.returns-in_default
returns-in_default c = record {
  within = tt;
  exact = tt;
  none = described_other c.args.bytes.now c.in_ok-descriptor.field-0.descriptor _ c.in_ok-descriptor.ensures c.in_default.not-Transfer;
}

pub overflow_sub-result : goal.overflow_sub-result
overflow_sub-result c =
    let fits : IsBytes c.args.bytes.now = λ i. omega (arith, c.type_inv.bytes i) in
    let list = c.in_ok-descriptor.field-0 in
    let reads = all_read list.fields.left c.fill_transfer.new.fields.left list.fields.items.bytes.now c.fill_transfer.new.fields.items.bytes.now (transfer_cells c.fill_transfer.new.transfer) c.in_ok-fill_transfer.ensures (sym c.if-not-ended.ensures) in
    let of_this = ap (λ (d : Descriptor). Some (d, record { count = list.fields.left; items = list.fields.items.bytes.now; behind = list.rest.now })) c.in-Transfer.is in
    let body = read_so c.args.bytes.now (record { count = list.fields.left; items = list.fields.items.bytes.now; behind = list.rest.now }) (transfer_cells c.fill_transfer.new.transfer) (c.in_ok-descriptor.ensures ∙ of_this) reads in
    (payload_behind c.args.bytes.now of_type.Transfer (transfer_cells c.fill_transfer.new.transfer) list.rest.now fits body).0

pub returns-clause-exact : goal.returns-clause-exact
returns-clause-exact c =
    let fits : IsBytes c.args.bytes.now = λ i. omega (arith, c.type_inv.bytes i) in
    let list = c.in_ok-descriptor.field-0 in
    let reads = all_read list.fields.left c.fill_transfer.new.fields.left list.fields.items.bytes.now c.fill_transfer.new.fields.items.bytes.now (transfer_cells c.fill_transfer.new.transfer) c.in_ok-fill_transfer.ensures (sym c.if-not-ended.ensures) in
    let of_this = ap (λ (d : Descriptor). Some (d, record { count = list.fields.left; items = list.fields.items.bytes.now; behind = list.rest.now })) c.in-Transfer.is in
    let body = read_so c.args.bytes.now (record { count = list.fields.left; items = list.fields.items.bytes.now; behind = list.rest.now }) (transfer_cells c.fill_transfer.new.transfer) (c.in_ok-descriptor.ensures ∙ of_this) reads in
    let behind = payload_behind c.args.bytes.now of_type.Transfer (transfer_cells c.fill_transfer.new.transfer) list.rest.now fits body in
    body ∙ ap (λ (rest : List ℕ). Some (of_type.Transfer, transfer_cells c.fill_transfer.new.transfer, rest)) (sym behind.1)
