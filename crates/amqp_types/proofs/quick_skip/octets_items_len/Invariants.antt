use Rattle.std.proofs.Common.{◌≡◌, ◌-◌, ◌≤◌, length, drop, Option, None}
use Rattle.amqp_types.specs.declared.code.Constructor.TheVariants.{Variable}
use Rattle.amqp_types.specs.declared.window.Window.{Window}
use Rattle.amqp_types.specs.Reading.{Level, after, trees_at, item_by}
use Rattle.amqp_types.proofs.quick_skip.octets_items_len.Given as goal

abbrev pub invariant-loop : goal.invariant-loop
invariant-loop l = record {
  within : l.at ≤ length l.bytes;
  same : (inner : Option Level) (w : Window) → after (trees_at (item_by inner (Variable l.kind l.size)) (l.count - l.counter) w None (drop l.at l.bytes)) ≡ after
      (trees_at (item_by inner (Variable l.kind l.size)) l.count w None l.bytes);
}
