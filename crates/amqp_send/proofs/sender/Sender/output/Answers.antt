use Rattle.std.proofs.Common.{◌≡◌, ◌<◌, sym, ap, subst, ◌∙◌, arith}
use Rattle.amqp_send.specs.Calls.{SenderState}
use Rattle.amqp_send.specs.Sendings.{Sending, Moved, all_written, send_after, left_to_send}
use Rattle.amqp_send.proofs.Moves.{moved_less}
use Rattle.amqp_send.proofs.sender.Sender.output.Goals as goal

pub returns-clause-less : goal.returns-clause-less
returns-clause-less g c = λ some.
    let s = c.self.inside.sending in
    let n = c.read_into-count.result in
    let same : s ≡ c.args.self.now.sending = ap (λ (x : SenderState). x.sending) c.self.view_is in
    let less : left_to_send (send_after s (Moved n)) < left_to_send s =
    moved_less c.lengths_of_frames.ensures.lengths c.lengths_of_frames.ensures.null s n c.read_into-count.ensures.frames (omega (arith, c.read_into-count.ensures.count)) some in
    let new : c.write_all.new.self ≡ send_after s (Moved n) = c.write_all.ensures.new ∙ ap all_written c.read_into-count.ensures.new in
    subst (λ (x : Sending). left_to_send c.write_all.new.self < left_to_send x) same (subst (λ (x : Sending). left_to_send x < left_to_send s) (sym new) less)
