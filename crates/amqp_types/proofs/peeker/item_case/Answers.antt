use Rattle.std.proofs.Common.{◌∙◌, ap, Some}
use Rattle.amqp_types.specs.declared.code.Constructor.TheVariants.{EmptyList}
use Rattle.amqp_types.proofs.Peeks.{behind, empty_case, map_or_array}
use Rattle.amqp_types.proofs.peeker.item_case.Goals as goal

pub returns-in-Fixed : goal.returns-in-Fixed
returns-in-Fixed c = λ t code data_ rest found spelled parts. c.number_case.ensures t code data_ rest (found ∙ ap Some c.in-Fixed.is) spelled parts

pub returns-in-Variable : goal.returns-in-Variable
returns-in-Variable c = λ t code data_ rest found spelled parts. c.octets_case.ensures t code data_ rest (found ∙ ap Some c.in-Variable.is) spelled parts

pub returns-in-EmptyList : goal.returns-in-EmptyList
returns-in-EmptyList c = λ t code data_ rest found spelled parts. empty_case t code data_ (behind EmptyList t code data_ (found ∙ ap Some c.in-EmptyList.is) spelled)

pub returns-in-ListIn : goal.returns-in-ListIn
returns-in-ListIn c = λ t code data_ rest found spelled parts. c.list_case.ensures t code data_ rest (found ∙ ap Some c.in-ListIn.is) spelled parts

pub returns-in-MapIn : goal.returns-in-MapIn
returns-in-MapIn c = λ t code data_ rest found spelled parts. map_or_array c.args.constructor t code data_ c.in-MapIn.is found spelled
