use Rattle.amqp_serve.proofs.Effects.{made_by_one}
use Rattle.amqp_serve.proofs.life_laws.one_rule_ignores_cuts.Goals as goal

pub returns-clause-made : goal.returns-clause-made
returns-clause-made c r config steps made end all x = made_by_one r config steps made end all x

pub returns-clause-alone : goal.returns-clause-alone
returns-clause-alone c r config l all x = record {
  made = x.is.made;
  end = x.is.end;
  is = made_by_one r config l.heard x.is.made x.is.end all x.is.is;
  noted = x.is.noted;
  rest = x.rest;
  told = x.is.told;
  due = x.due;
  ended = x.is.ended;
}
