use Rattle.std.proofs.Common.{length}
use Rattle.serde_json.specs.View.{view, members_view}
use Rattle.amqp_records.proofs.Objects.{numbers_put}
use Rattle.amqp_records.proofs.Printings.{ok_map}
use Rattle.amqp_records.proofs.json.put_numbers.Goals as goal

pub returns : goal.returns
returns c =
    let r = c.args.record.now in
    ok_map c.put-6.result _ _
    (numbers_put c.args.number r.channel r.handle r.delivery_id r.message_format (length r.message.now) (members_view c.args.members.now.entries) (members_view c.put.new.map.entries)
    (members_view c.put-2.new.map.entries) (members_view c.put-3.new.map.entries) (members_view c.put-4.new.map.entries) (members_view c.put-5.new.map.entries)
    (members_view c.put-6.new.map.entries) (view c.in_ok-whole.field-0) (view c.from.result) (view c.from-2.result) (view c.from-3.result) (view c.from-4.result) (view c.from-5.result)
    c.in_ok-put.ensures.ok c.in_ok-put-2.ensures.ok c.in_ok-put-3.ensures.ok c.in_ok-put-4.ensures.ok c.in_ok-put-5.ensures.ok c.in_ok-whole.ensures c.from.ensures c.from-2.ensures
    c.from-3.ensures c.from-4.ensures c.from-5.ensures) c.put-6.ensures.ok
