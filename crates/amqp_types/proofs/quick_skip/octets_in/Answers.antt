use Rattle.std.proofs.Common.{◌≡◌, ◌∙◌, ◌+◌, length, drop, ap, arith}
use Rattle.std.proofs.lemmas.List.{take_rest, drop-drop}
use Rattle.amqp_types.specs.Spelling.{size_len}
use Rattle.amqp_types.proofs.Reaches.{sized_is}
use Rattle.amqp_types.proofs.quick_skip.octets_in.Goals as goal

pub returns-clause-behind : goal.returns-clause-behind
returns-clause-behind c =
    let on : size_len c.args.size + c.in_ok-len.len ≡ size_len c.args.size + length c.split_at.result.0.now = omega (arith, c.split_at.ensures.front_len) in
    rw (c.split_at.ensures.back, c.size_len.ensures, take_rest c.args.bytes.now (size_len c.args.size)) (drop-drop c.in_ok-len.len (size_len c.args.size) c.args.bytes.now)
    ∙ ap (λ n. drop n c.args.bytes.now) on

pub returns-clause-read : goal.returns-clause-read
returns-clause-read c = λ w.
    let fine = rw (c.size_len.ensures, take_rest c.args.bytes.now _) at (c.are_octets.ensures c.if-not-are_octets.false) in
    let whole = sized_is w c.args.kind c.args.size c.args.bytes.now c.in_ok-len.len c.in_ok-len.ensures.number (omega
    (arith, c.size_len.ensures, c.if-rest-len.false, c.in_ok-len.ensures.within)) fine in
    rw (c.split_at.ensures.front, c.split_at.ensures.back, c.size_len.ensures, take_rest c.args.bytes.now (size_len c.args.size)) whole
