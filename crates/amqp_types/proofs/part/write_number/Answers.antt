use Rattle.std.proofs.Common.{◌≡◌, ℕ, ◌-◌, List, ◌++◌, drop, OnOk, subst, rules}
use Rattle.byteorder.specs.Endian.{big_bytes}
use Rattle.amqp_types.specs.Kinds.{width}
use Rattle.amqp_types.proofs.Tails.{last_of_sixteen}
use Rattle.amqp_types.proofs.part.write_number.Goals as goal

pub returns : goal.returns
returns c =
    let tail : drop (16 - c.width.result) c.to_be_bytes-bytes.result ≡ big_bytes (width c.args.kind) c.args.number =
    rw (c.width.ensures, c.to_be_bytes-bytes.ensures) (last_of_sixteen c.args.kind c.args.number) in
    subst (λ (xs : List ℕ). OnOk c.extend_from_slice.result (c.extend_from_slice.new.self.items ≡ c.args.out.now.items ++ xs)) tail (search rules)
