use Rattle.std.proofs.Common.{arith, length, ap, ◌+◌, ◌∙◌, ◌∷◌, ◌++◌, List, ℕ}
use Rattle.std.proofs.Common.{length-append}
use Rattle.byteorder.specs.Endian.{big_bytes}
use Rattle.amqp_reason.proofs.Spelled.{symbol_text, string_text, head_short, described_is}
use Rattle.amqp_reason.proofs.spelling.described_error.Goals as goal

pub put_octets-requires-clause-room : goal.put_octets-requires-clause-room
put_octets-requires-clause-room c =
    omega (arith, ap length c.described-spelled.ensures, head_short 2 (2 + length c.args.condition.now + 2 + length c.args.text.now), c.requires.condition)

pub put_octets-requires-2-clause-room : goal.put_octets-requires-2-clause-room
put_octets-requires-2-clause-room c =
    omega (
      arith,
      ap length c.put_octets.ensures,
      length-append c.described-spelled.result.items (symbol_text c.args.condition.now),
      length-append (big_bytes 1 (length c.args.condition.now)) c.args.condition.now,
      ap length c.described-spelled.ensures,
      head_short 2 (2 + length c.args.condition.now + 2 + length c.args.text.now),
      c.requires.condition,
      c.requires.text,
    )

pub returns : goal.returns
returns c =
    c.put_octets-2.ensures
    ∙ ap (λ (x : List ℕ). x ++ string_text c.args.text.now) (c.put_octets.ensures ∙ ap (λ (x : List ℕ). x ++ symbol_text c.args.condition.now) c.described-spelled.ensures)
    ∙ described_is c.args.condition.now c.args.text.now c.requires.condition c.requires.text
