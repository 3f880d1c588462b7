use Rattle.std.proofs.Common.{◌++◌, ℕ, List, length, ap, ◌∙◌}
use Rattle.std.proofs.lemmas.List.{append_assoc}
use Rattle.byteorder.specs.Endian.{big_bytes}
use Rattle.amqp_records.specs.Blocks.{BlocksState, block_text}
use Rattle.amqp_records.proofs.blocks.Blocks.put_block.Goals as goal

pub returns-clause-bytes : goal.returns-clause-bytes
returns-clause-bytes g c =
    let records = c.args.records.now in
    let held = c.self.inside.bytes.items in
    c.in_default.ensures.items ∙ ap (λ (z : List ℕ). z ++ records) (c.in_ok-extend_from_slice.ensures.items ∙ ap (λ (h : List ℕ). held ++ h) c.head_of.ensures)
    ∙ append_assoc held (big_bytes 8 c.args.number ++ big_bytes 4 (length records)) records
    ∙ ap (λ (s : BlocksState). s.bytes ++ block_text (record { number = c.args.number; records = records })) c.self.view_is
