use Rattle.amqp_spool.specs.Runs.{HasRun}
use Rattle.amqp_spool.specs.Sayings.{Puts}
use Rattle.amqp_spool.specs.Spools.{IsSound, Has}
use Rattle.amqp_spool.proofs.calls.run.Given as goal

abbrev pub invariant-calls : goal.invariant-calls
invariant-calls g l = record {
  sound : IsSound g.F.Folder.history l.spool;
  ran : (told waiting : Puts) → Has g.F.Folder.history told waiting l.fn.spool → HasRun g.F.Folder.history told l.fn.spool l.spool;
}
