use Rattle.std.proofs.Common.{arith, ap, length, List, map, refl, subst}
use Rattle.std.proofs.lemmas.List.{take_all}
use Rattle.amqp_endpoint.specs.declared.call.Call as asked
use Rattle.amqp_endpoint.specs.Endpoints.{call_of, answer_of, IsReplay}
use Rattle.amqp_endpoint.specs.Traces.{AreInRange}
use Rattle.amqp_endpoint.proofs.Runs.{replay_on, ranges_on}
use Rattle.amqp_endpoint.proofs.replays.replay.Goals as goal

pub loop-call-init : goal.loop-call-init
loop-call-init g c =
    let s = c.in_ok-endpoint.endpoint in
    record {
      replay = record {
        start = s;
        new = c.in_ok-endpoint.ensures;
        run = rw c.in_ok-answers.ensures.items refl;
      };
      range = tt;
      long = ap length c.in_ok-answers.ensures.items;
      room = omega (arith, c.in_ok-answers.ensures.capacity);
    }

pub loop-call-preserved : goal.loop-call-preserved
loop-call-preserved g c = record {
  replay = replay_on call_of answer_of c.args.config c.args.calls.now c.loop-call.call-index _ c.loop-call.answers.items c.push_reserved.new.self.items
      c.in_ok-call.field-0 c.loop-call.endpoint c.call.new.self c.loop-call-test.true c.push_reserved.ensures.items c.loop-call.invariant.replay c.in_ok-call.ensures.ok;
  range = ranges_on call_of c.args.calls.now c.loop-call.call-index _ c.loop-call-test.true c.loop-call.invariant.range c.is_in_range.ensures;
  long = search (arith, c.push_reserved.ensures.len, c.loop-call.invariant.long);
  room = omega (arith, c.push_reserved.ensures.capacity, c.loop-call.invariant.room);
}

pub returns : goal.returns
returns g c =
    let all = take_all c.loop-call.call-index c.args.calls.now c.loop-call-test.false in
    let run = subst (λ (calls : List asked.Call). IsReplay c.args.config (map call_of calls) (map answer_of c.loop-call.answers.items) c.loop-call.endpoint) all c.loop-call.invariant.replay in
    let range = subst (λ (calls : List asked.Call). AreInRange (map call_of calls)) all c.loop-call.invariant.range in
    record {
      run = run;
      whole = c.runs_have_a_history.ensures c.args.config (map call_of c.args.calls.now) (map answer_of c.loop-call.answers.items) run.start c.loop-call.endpoint c.is_within.ensures range run.new
          run.run;
    }
