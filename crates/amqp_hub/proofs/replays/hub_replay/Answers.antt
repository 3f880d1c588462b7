use Rattle.std.proofs.Common.{arith, ap, length, List, map, subst, ◌∙◌}
use Rattle.std.proofs.lemmas.List.{take_all}
use Rattle.amqp_hub.specs.declared.turn.Turn as asked
use Rattle.amqp_hub.specs.Ledgers.{LedgerState, records_under}
use Rattle.amqp_hub.specs.Turns.{turn_of, answer_of}
use Rattle.amqp_hub.proofs.Turning.{IsSoFar, none_yet, so_far_on}
use Rattle.amqp_hub.proofs.replays.hub_replay.Goals as goal

pub loop-turn-init : goal.loop-turn-init
loop-turn-init g c = record {
  so_far = rw c.in_ok-answers.ensures.items (none_yet c.args.rule c.args.config.now c.args.limit c.args.room c.new-hub.result.members c.new-hub.result.keeper c.new-hub.ensures.members (c.new-hub.ensures.keeper ∙ c.new.ensures));
  limit = c.new-hub.ensures.limit;
  long = ap length c.in_ok-answers.ensures.items;
  room = omega (arith, c.in_ok-answers.ensures.capacity);
}

pub loop-turn-preserved : goal.loop-turn-preserved
loop-turn-preserved g c =
    let r = c.args.rule in
    let config = c.args.config.now in
    let limit = c.args.limit in
    let old = c.loop-turn.hub in
    let new = c.make.new.self in
    record {
      so_far = so_far_on r config limit c.args.room (c.seats_go_on.ensures config) (c.seats_are_alone.ensures config) turn_of answer_of c.args.turns.now c.loop-turn.turn-index _ c.loop-turn.answers.items
          c.push_reserved.new.self.items c.in_ok-make.field-0 old.members new.members old.keeper new.keeper c.loop-turn-test.true c.loop-turn.invariant.long c.push_reserved.ensures.items c.loop-turn.invariant.so_far
          c.loop-turn.hub.limit c.len-number.result c.loop-turn.invariant.limit search (arith, c.len-number.ensures, c.loop-turn.invariant.long) c.in_ok-make.ensures.done c.in_ok-make.ensures.ledger;
      limit = c.make.ensures.limit ∙ c.loop-turn.invariant.limit;
      long = search (arith, c.push_reserved.ensures.len, c.loop-turn.invariant.long);
      room = omega (arith, c.push_reserved.ensures.capacity, c.loop-turn.invariant.room);
    }

pub returns : goal.returns
returns g c =
    let all = take_all c.loop-turn.turn-index c.args.turns.now c.loop-turn-test.false in
    let x = subst (λ (turns : List asked.Turn). IsSoFar c.args.rule c.args.config.now c.args.limit c.args.room (map turn_of turns) (map answer_of c.loop-turn.answers.items) c.loop-turn.hub.members c.loop-turn.hub.keeper) all
    c.loop-turn.invariant.so_far in
    let kept = c.into_keeper.ensures ∙ x.kept in
    record {
      alone = x.alone;
      fits = x.fits;
      kept = kept;
      whose = λ key y is. ap (λ (l : LedgerState). records_under y.number l) kept ∙ c.records_are_by_number.ensures c.args.rule c.args.config.now c.args.limit c.args.room _ _ x.fits key y is;
    }
