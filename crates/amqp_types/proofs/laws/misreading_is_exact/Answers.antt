use Rattle.amqp_types.specs.Misreading.{AValue}
use Rattle.amqp_types.specs.InHand.{outermost}
use Rattle.amqp_types.proofs.Exclusive.{misread_fails}
use Rattle.amqp_types.proofs.Misreads.{value_misread}
use Rattle.amqp_types.proofs.laws.misreading_is_exact.Goals as goal

pub returns-clause-found : goal.returns-clause-found
returns-clause-found c = λ depth budget bytes fault fits h. value_misread depth (outermost bytes) 1 budget bytes fault fits h

pub returns-clause-only : goal.returns-clause-only
returns-clause-only c = λ depth budget bytes fault h. misread_fails (AValue 1) depth (outermost bytes) budget bytes fault h
