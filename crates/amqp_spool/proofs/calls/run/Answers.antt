use Rattle.amqp_spool.proofs.Running.{not_ran, ran_more}
use Rattle.amqp_spool.proofs.calls.run.Goals as goal

pub calls-init : goal.calls-init
calls-init g c = record { sound = c.requires; ran = λ told waiting has. not_ran g.F.Folder.history told waiting c.args.spool.now has }

pub make-requires : goal.make-requires
make-requires g c = c.calls.invariant.sound

pub calls-preserved : goal.calls-preserved
calls-preserved g c = record {
  sound = c.make.ensures.sound;
  ran = λ told waiting has.
      ran_more g.F.Folder.history told c.args.spool.now c.calls.spool c.make.new.spool (c.calls.invariant.ran told waiting has) (λ ps now is. c.make.ensures.ran ps now is) (λ failed. c.make.ensures.failed failed);
}

pub returns-clause-sound : goal.returns-clause-sound
returns-clause-sound g c = c.calls.invariant.sound

pub returns-clause-ran : goal.returns-clause-ran
returns-clause-ran g c = λ told waiting has. c.calls.invariant.ran told waiting has
