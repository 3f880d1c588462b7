use Rattle.std.proofs.Common.{◌∙◌}
use Rattle.amqp_gateway.specs.HubCalls.{Went, takes}
use Rattle.amqp_gateway.proofs.HubRuns.{went_on, as_takes, hears_or_not}
use Rattle.amqp_gateway.proofs.peer.Peer.hear.Goals as goal
use Rattle.amqp_gateway.proofs.peer.Peer.hear.Goals.{else-loop-test, then-loop-test+then-is_empty+then-ne+then-not-self, then-loop-test+else-is_empty+in_default, then-loop-test+else-is_empty+in-Some+in-Ok+then-not-go_on, then-loop-test+else-is_empty+in-Some+in-Err-Unsent, then-loop-test+else-is_empty+in-Some+in-Err}

pub loop-preserved : goal.loop-preserved
loop-preserved g c =
    let hub = c.loop.desk.hub in
    let next = c.hear.new.self in
    let h = c.hear.ensures in
    record {
      accepted = c.go_on.ensures.accepted ∙ c.loop.invariant.accepted;
      ran = went_on g.K.Keeper takes c.args.desk.now.hub hub c.go_on.new.desk.hub c.loop.invariant.ran
          (went_on g.K.Keeper takes hub next c.go_on.new.desk.hub (hears_or_not g.K.Keeper c.in-Some.key c.loop.rest.now c.hear.result hub next h.limit h.room h.heard h.refused) c.go_on.ensures.ran);
    }

pub returns-clause-ran : goal.returns-clause-ran
returns-clause-ran g c =
    let old = c.args.desk.now.hub in
    let hub = c.loop.desk.hub in
    let last = c.loop-test.desk.hub in
    let so_far = c.loop.invariant.ran in
    let all : Went g.K.Keeper takes old last = elim c.loop-test.branch [
      | else-loop-test w ↦ rw w.desk-is so_far
      | then-loop-test+then-is_empty+then-ne+then-not-self w ↦ rw w.desk-is so_far
      | then-loop-test+else-is_empty+in_default w ↦ rw w.desk-is so_far
      | then-loop-test+else-is_empty+in-Some+in-Ok+then-not-go_on w ↦
          let h = w.hear.ensures in
          rw w.desk-is (went_on g.K.Keeper takes old hub w.go_on.new.desk.hub so_far
          (went_on g.K.Keeper takes hub w.hear.new.self w.go_on.new.desk.hub (hears_or_not g.K.Keeper w.in-Some.key c.loop.rest.now w.hear.result hub w.hear.new.self h.limit h.room h.heard h.refused) w.go_on.ensures.ran))
      | then-loop-test+else-is_empty+in-Some+in-Err-Unsent w ↦
          let h = w.hear.ensures in
          rw w.desk-is (went_on g.K.Keeper takes old hub w.hear.new.self so_far (hears_or_not g.K.Keeper w.in-Some.key c.loop.rest.now w.hear.result hub w.hear.new.self h.limit h.room h.heard h.refused))
      | then-loop-test+else-is_empty+in-Some+in-Err w ↦
          let h = w.hear.ensures in
          rw w.desk-is (went_on g.K.Keeper takes old hub w.finish.new.hub so_far
          (went_on g.K.Keeper takes hub w.hear.new.self w.finish.new.hub (hears_or_not g.K.Keeper w.in-Some.key c.loop.rest.now w.hear.result hub w.hear.new.self h.limit h.room h.heard h.refused) w.finish.ensures.ran))
    ] in
    went_on g.K.Keeper takes old last c.keep.new.hub all (as_takes g.K.Keeper last c.keep.new.hub c.keep.ensures.ran)
