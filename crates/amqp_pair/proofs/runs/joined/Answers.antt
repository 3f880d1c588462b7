use Rattle.std.proofs.Common.{arith, List, map, subst}
use Rattle.std.proofs.lemmas.List.{take_all}
use Rattle.amqp_pair.specs.declared.turn.Turn as asked
use Rattle.amqp_pair.specs.Turns.{turn_of, IsJoined}
use Rattle.amqp_send.specs.Keeping.{terms_of}
use Rattle.amqp_pair.specs.Histories.{AllInRange}
use Rattle.amqp_pair.proofs.Histories.{ranges_on}
use Rattle.amqp_pair.proofs.Joining.{joined_on}
use Rattle.amqp_pair.proofs.Served.{all_fair}
use Rattle.amqp_pair.proofs.runs.joined.Goals as goal

pub loop-turn-preserved : goal.loop-turn-preserved
loop-turn-preserved g c = record {
  run = joined_on turn_of c.args.config (terms_of c.args.send_config) c.args.turns.now c.loop-turn.turn-index _ c.loop-turn.answers.items c.push_reserved.new.self.items
      c.in_ok-make.field-0 c.loop-turn.pair c.make.new.self c.loop-turn-test.true c.push_reserved.ensures.items c.loop-turn.invariant.run c.in_ok-make.ensures;
  range = ranges_on turn_of c.args.turns.now c.loop-turn.turn-index _ c.loop-turn-test.true c.loop-turn.invariant.range c.is_in_range.ensures;
  long = search (arith, c.push_reserved.ensures.len, c.loop-turn.invariant.long);
  room = omega (arith, c.push_reserved.ensures.capacity, c.loop-turn.invariant.room);
}

pub returns : goal.returns
returns g c =
    let all = take_all c.loop-turn.turn-index c.args.turns.now c.loop-turn-test.false in
    let run = subst (λ (turns : List asked.Turn). IsJoined c.args.config (terms_of c.args.send_config) (map turn_of turns) c.loop-turn.answers.items c.loop-turn.pair) all c.loop-turn.invariant.run in
    let range = subst (λ (turns : List asked.Turn). AllInRange (map turn_of turns)) all c.loop-turn.invariant.range in
    record {
      run = run;
      histories = c.each_end_has_its_history.ensures c.args.config (terms_of c.args.send_config) (map turn_of c.args.turns.now) c.loop-turn.answers.items c.loop-turn.pair c.is_within.ensures range run;
      served = λ short few. c.the_pair_is_served.ensures c.args.config (terms_of c.args.send_config) (map turn_of c.args.turns.now) c.loop-turn.answers.items c.loop-turn.pair c.are_terms.ensures (all_fair c.args.config (terms_of c.args.send_config) c.args.turns.now short range) few run;
    }
