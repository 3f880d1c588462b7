use Rattle.std.proofs.Common.{◌∙◌, ◌++◌, ℕ, List, take, ap, sym}
use Rattle.amqp_link.specs.Pieces.{total}
use Rattle.amqp_link.proofs.Joined.{next_front}
use Rattle.amqp_link.proofs.message.Message.to_vec.Goals as goal

pub loop-index-preserved : goal.loop-index-preserved
loop-index-preserved g c =
    let all = c.self.inside.blocks.bytes in
    let block = c.block.result.now in
    let lies = c.block.ensures.lies in
    let at = total (take c.loop-index.index c.self.inside.blocks.before) in
    record {
      end = c.loop-index.invariant.end;
      copied = c.in_ok-extend_from_slice.ensures.items ∙ ap (λ (l : List ℕ). l ++ block) c.loop-index.invariant.copied ∙ sym (next_front all block lies.0 at lies.1)
          ∙ ap (λ (n : ℕ). take n all) (sym c.block.ensures.len);
    }
