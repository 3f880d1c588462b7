use Rattle.std.proofs.Common.{false, [], ◌∷◌, List, ℕ, refl, arith}
use Rattle.amqp_perform.specs.Frames.{field_spellings, number_values}
use Rattle.amqp_perform.specs.Receivers.{link_flow_said}
use Rattle.amqp_perform.specs.Said.{said_texts}
use Rattle.amqp_perform.proofs.Receiving.{numbers_most, flow_trimmed}
use Rattle.amqp_perform.proofs.Writings.{seven_written}
use Rattle.amqp_perform.proofs.writer.write_credit.Goals as goal

pub returns : goal.returns
returns c =
    let flow = c.args.flow in
    let numbers : List ℕ = flow.next_incoming_id ∷ flow.incoming_window ∷ 0 ∷ 0 ∷ flow.handle ∷ flow.delivery_count ∷ flow.link_credit ∷ [] in
    let all =
    seven_written numbers 14 c.put_uint-at.result c.put_uint-at-2.result c.put_uint-at-3.result c.put_uint-at-4.result c.put_uint-at-5.result c.put_uint-at-6.result c.put_uint-end.result
    c.args.out.now c.put_uint-at.new.out c.put_uint-at-2.new.out c.put_uint-at-3.new.out c.put_uint-at-4.new.out c.put_uint-at-5.new.out c.put_uint-at-6.new.out c.put_uint-end.new.out
    refl (omega (arith, numbers_most numbers))
    c.put_uint-at.ensures.behind c.put_uint-at.ensures.written c.put_uint-at-2.ensures.behind c.put_uint-at-2.ensures.written
    c.put_uint-at-3.ensures.behind c.put_uint-at-3.ensures.written c.put_uint-at-4.ensures.behind c.put_uint-at-4.ensures.written
    c.put_uint-at-5.ensures.behind c.put_uint-at-5.ensures.written c.put_uint-at-6.ensures.behind c.put_uint-at-6.ensures.written
    c.put_uint-end.ensures.behind c.put_uint-end.ensures.written in
    c.write_front.ensures (said_texts (link_flow_said flow.next_incoming_id flow.incoming_window flow.handle flow.delivery_count flow.link_credit false)) (field_spellings (number_values numbers)) c.args.out.now
    (flow_trimmed flow.next_incoming_id flow.incoming_window flow.handle flow.delivery_count flow.link_credit) refl all.0 (omega (arith, all.1)) all.2
