use Rattle.std.proofs.Common.{sym, subst}
use Rattle.std.specs.Prelude.{IfOk}
use Rattle.amqp_hub.specs.Turns.{turn_of, answer_of, TurnDone}
use Rattle.amqp_hub.proofs.Turning.{of_turn}
use Rattle.amqp_hub.proofs.replays.Hub+Ledger+A+A.make.Goals as goal

pub returns-in-Hear-clause-done : goal.returns-in-Hear-clause-done
returns-in-Hear-clause-done g c =
    let old = c.args.self.now in
    let new = c.hear_one.new.self in
    subst (λ t. IfOk c.hear_one.result (λ a. TurnDone c.args.rule c.args.config.now old.limit c.args.number old.keeper old.members new.members (turn_of t) (answer_of a))) (sym c.in-Hear.is)
    (c.hear_one.ensures.done c.args.rule c.args.config.now c.args.number)

pub returns-in-Hand-clause-done : goal.returns-in-Hand-clause-done
returns-in-Hand-clause-done g c = of_turn c.args.rule c.args.config.now c.args.number c.args.self.now c.hand_one.new.self _ _ (answer_of c.hand_one.result) c.in-Hand.is c.hand_one.ensures.done

pub returns-in-Heartbeat-clause-done : goal.returns-in-Heartbeat-clause-done
returns-in-Heartbeat-clause-done g c = of_turn c.args.rule c.args.config.now c.args.number c.args.self.now c.beat_one.new.self _ _ (answer_of c.beat_one.result) c.in-Heartbeat.is c.beat_one.ensures.done

pub returns-in-Finish-clause-done : goal.returns-in-Finish-clause-done
returns-in-Finish-clause-done g c = of_turn c.args.rule c.args.config.now c.args.number c.args.self.now c.finish_one.new.self _ _ (answer_of c.finish_one.result) c.in-Finish.is c.finish_one.ensures.done

pub returns-in-Close-clause-done : goal.returns-in-Close-clause-done
returns-in-Close-clause-done g c = of_turn c.args.rule c.args.config.now c.args.number c.args.self.now c.close_one.new.self _ _ (answer_of c.close_one.result) c.in-Close.is c.close_one.ensures.done

pub returns-in-Remove-clause-done : goal.returns-in-Remove-clause-done
returns-in-Remove-clause-done g c = of_turn c.args.rule c.args.config.now c.args.number c.args.self.now c.remove_one.new.self _ _ (answer_of c.remove_one.result) c.in-Remove.is c.remove_one.ensures.done

pub returns-in-Rule-clause-done : goal.returns-in-Rule-clause-done
returns-in-Rule-clause-done g c = of_turn c.args.rule c.args.config.now c.args.number c.args.self.now c.rule_one.new.self _ _ (answer_of c.rule_one.result) c.in-Rule.is c.rule_one.ensures.done

pub returns-in-Settle-clause-done : goal.returns-in-Settle-clause-done
returns-in-Settle-clause-done g c = of_turn c.args.rule c.args.config.now c.args.number c.args.self.now c.settle_one.new.self _ _ (answer_of c.settle_one.result) c.in-Settle.is c.settle_one.ensures.done
