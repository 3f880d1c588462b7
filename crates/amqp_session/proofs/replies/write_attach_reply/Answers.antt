use Rattle.std.proofs.Common.{[], refl, ap, subst, ◌∙◌}
use Rattle.amqp_types.specs.Canonical.{canonical}
use Rattle.amqp_types.specs.Trees.{Number}
use Rattle.amqp_types.specs.declared.kind.Kind.TheVariants as kind
use Rattle.amqp_perform.specs.Frames.{IsWritten}
use Rattle.amqp_perform.specs.Said.{Said, said_frame}
use Rattle.amqp_session.specs.Frames.{attaching}
use Rattle.amqp_session.proofs.replies.write_attach_reply.Goals as goal

pub returns : goal.returns
returns c =
    let spoken = c.accepted-reply.ensures c.args.bounds.max_message_size (attaching c.args.attach.now c.args.bounds) (c.ulong-spelled.ensures
    ∙ ap (λ n. canonical (Number kind.Ulong n)) c.max_message_size.ensures)
    (record {
      name_is = refl;
      source_is = refl;
      target_is = refl;
      handle_is = ap (λ m. m.handle) c.of.ensures;
      role_is = ap (λ m. m.role) c.of.ensures;
      sender_is =
          ap (λ m. m.snd_settle_mode) c.of.ensures;
      receiver_is = ap (λ m. m.rcv_settle_mode) c.of.ensures;
    }) in
    subst (λ (s : Said). IsWritten (said_frame c.args.channel s []) c.write_frame.result c.args.out.now c.write_frame.new.out) spoken
    (record { written = c.write_frame.ensures.written; fits = c.write_frame.ensures.fits; unchanged = c.write_frame.ensures.unchanged })
