use Rattle.std.proofs.Common.{List, [], ◌∷◌, subst}
use Rattle.amqp_perform.specs.declared.descriptor.Descriptor.TheVariants as of_type
use Rattle.amqp_perform.specs.declared.modes.Role.TheVariants as of_role
use Rattle.amqp_perform.specs.Cells.{Cell, Absent, Whole}
use Rattle.amqp_perform.specs.Frames.{IsWritten}
use Rattle.amqp_perform.specs.Performatives.{flag, role, span}
use Rattle.amqp_perform.specs.Said.{said_frame}
use Rattle.amqp_perform.proofs.Receiving.{last_is}
use Rattle.amqp_perform.proofs.writer.write_state.Goals as goal

pub returns : goal.returns
returns c =
    let told : Cell → List Cell = λ last. role of_role.Receiver ∷ Whole c.args.first ∷ last ∷ flag c.args.settled ∷ span c.args.state.now ∷ Absent ∷ [] in
    subst (λ (last : Cell). IsWritten (said_frame c.args.channel (record { type = of_type.Disposition; cells = told last }) []) c.write_disposition.result c.args.out.now c.write_disposition.new.out)
    (last_is c.args.first c.args.last) c.write_disposition.ensures
